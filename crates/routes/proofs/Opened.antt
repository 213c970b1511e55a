-- What a grant opens, test by test, in the order of the code.
use mathlib.Core.Path.{◌≡◌, refl, sym, ap, ap₂, ◌∙◌}
use mathlib.Core.List.{List, [], ◌∷◌, map}
use mathlib.Core.Bool.{Bool, true, false, ◌&&◌, ◌||◌, not, cond, and-true, and-false}
use Prim.Native.Nat.{ℕ, zero, suc, ◌+◌, ◌≤◌, ◌<◌, min}
use native.Mathlib.Omega.{arith}
use lib.Bits.{bit_and, bit_or}
use lib.Dec.{leb, eqb}
use lib.ListN.{get_or}
use borrow.Author.Tests.{eq-eqb, ne_eqb, le-ltb, le-leb, lt-leb, not-true, not-false}
use Rattle.lists.specs.Lists.{every, some?, same_list, count_from}
use Rattle.std.specs.List.{list_any}
use Rattle.columns.proofs.Closing.{eqb_sym}
use Rattle.model.specs.Routes.{is_equality}
use Rattle.text.specs.Words.{name_of}
use Rattle.schema.specs.Schemas.{code_end}
use Rattle.schema.proofs.FreeNames.{name_one}
use Rattle.masks.specs.Masks.{bit?, inside}
use Rattle.nodes.specs.Nodes.{conditions_of}
use Rattle.grant.specs.Grants.{places_of, streams_of}
use Rattle.grant.specs.declared.Grant.{Grant}
use Rattle.query.specs.Forms.{coded_col}
use Rattle.comparisons.specs.Compared.{compared, profile_in, compare_known}
use Rattle.needs.specs.Asking.{no_stream}
use Rattle.needs.specs.declared.Needs.{Needs}
use Rattle.routes.specs.Opening.{belongs_in, stream_bits, streams_asked, equality_held, side_opened, right_opened, pair_opened, figures_opened, opened_bits}

-- ---- roles

-- by their numbers
pub role_told : (role : ℕ) (roles : List ℕ) → role < code_end → ((i : ℕ) → get_or roles i 0 < code_end) → list_any (λ x. eqb x role) roles ≡ some? (same_list (name_of role)) (map name_of roles)
unfolding some?
role_told role [] h f = refl
role_told role (x ∷ xs) h f = ap₂ ◌||◌ (eqb_sym x role ∙ sym (name_one role x h (f 0))) (role_told role xs h (λ i. f (suc i)))

module _ (g : Grant) (ws roles profile : List ℕ) {x : Bool} (e : x ≡ some? (same_list (name_of g.role)) (map name_of roles)) where
  pub belongs_none : not x ≡ true → false ≡ belongs_in g ws roles profile
  unfolding belongs_in
  belongs_none t = rw (sym e ∙ not-true x t)

  pub belongs_known : not x ≡ false → {y : Bool} → y ≡ every (compare_known (profile_in profile)) (compared ws 0 g.words) → y ≡ belongs_in g ws roles profile
  unfolding belongs_in
  belongs_known t f = rw (sym e ∙ not-false x t) f

pub ruleset belongs_ends = (belongs_none, belongs_known)

-- ---- streams

not_one : (f : ℕ → ℕ) (s m : ℕ) → (m ≡ 1 → ⊥) → false ≡ same_list (map f (count_from 0 m)) (s ∷ [])
unfolding same_list count_from
not_one f s zero e = refl
not_one f s (suc zero) e = absurd (e refl)
not_one f s (suc (suc m)) e = sym (and-false (eqb (f 0) s))

not_two : (f : ℕ → ℕ) (s t m : ℕ) → (m ≡ 2 → ⊥) → false ≡ same_list (map f (count_from 0 m)) (s ∷ (t ∷ []))
unfolding same_list count_from
not_two f s t zero e = refl
not_two f s t (suc zero) e = sym (and-false (eqb (f 0) s))
not_two f s t (suc (suc zero)) e = absurd (e refl)
not_two f s t (suc (suc (suc m))) e = sym (ap (λ b. eqb (f 0) s && b) (and-false (eqb (f 1) t)) ∙ and-false (eqb (f 0) s))

module _ (g : Grant) (s : ℕ) where
  pub one_other : (g.count ≡ 1 → ⊥) → false ≡ same_list (streams_of g) (s ∷ [])
  unfolding streams_of places_of
  one_other e = not_one (λ i. get_or g.streams i 0) s (min g.count 4) (λ i. e (omega arith))

  pub one_same : g.count ≡ 1 → eqb (get_or g.streams 0 0) s ≡ same_list (streams_of g) (s ∷ [])
  unfolding streams_of places_of same_list count_from
  one_same e = rw e (sym (and-true (eqb (get_or g.streams 0 0) s)))

  module _ (t : ℕ) where
    pub two_other : (g.count ≡ 2 → ⊥) → false ≡ same_list (streams_of g) (s ∷ (t ∷ []))
    unfolding streams_of places_of
    two_other e = not_two (λ i. get_or g.streams i 0) s t (min g.count 4) (λ i. e (omega arith))

    pub two_first : g.count ≡ 2 → (get_or g.streams 0 0 ≡ s → ⊥) → false ≡ same_list (streams_of g) (s ∷ (t ∷ []))
    unfolding streams_of places_of same_list count_from
    two_first e f = rw (e, ne_eqb (get_or g.streams 0 0) s f)

    pub two_same : g.count ≡ 2 → get_or g.streams 0 0 ≡ s → eqb (get_or g.streams 1 0) t ≡ same_list (streams_of g) (s ∷ (t ∷ []))
    unfolding streams_of places_of same_list count_from
    two_same e f = rw (e, eq-eqb (get_or g.streams 0 0) s f) (sym (and-true (eqb (get_or g.streams 1 0) t)))

pub ruleset stream_ends = (one_other, one_same, two_other, two_first, two_same)

module _ (n : Needs) (g : Grant) {x : Bool} where
  pub asked_one : n.right ≡ 4294967295 → x ≡ same_list (streams_of g) (n.left ∷ []) → x ≡ same_list (streams_of g) (streams_asked n)
  unfolding streams_asked
  asked_one e f = rw (eq-eqb n.right 4294967295 e) f

  pub asked_two : (n.right ≡ 4294967295 → ⊥) → x ≡ same_list (streams_of g) (n.left ∷ (n.right ∷ [])) → x ≡ same_list (streams_of g) (streams_asked n)
  unfolding streams_asked
  asked_two e f = rw (ne_eqb n.right 4294967295 e) f

pub ruleset asked_ends = (asked_one, asked_two)

module _ (s : ℕ) where
  pub bits_first : s ≡ 0 → 63 ≡ stream_bits s
  unfolding stream_bits
  bits_first e = rw e

  pub bits_second : s ≡ 1 → 4032 ≡ stream_bits s
  unfolding stream_bits
  bits_second e = rw e

  pub bits_third : s ≡ 2 → 258048 ≡ stream_bits s
  unfolding stream_bits
  bits_third e = rw e

  pub bits_fourth : s ≡ 3 → 16515072 ≡ stream_bits s
  unfolding stream_bits
  bits_fourth e = rw e

  pub bits_none : (s ≡ 0 → ⊥) → (s ≡ 1 → ⊥) → (s ≡ 2 → ⊥) → (s ≡ 3 → ⊥) → 0 ≡ stream_bits s
  unfolding stream_bits
  bits_none a b c d = rw (le-ltb s 4 (omega arith))

pub ruleset bits_ends = (bits_first, bits_second, bits_third, bits_fourth, bits_none)

-- ---- what it opens

pub equality_is : (n : Needs) (g : Grant) (ws : List ℕ) {x : Bool} → x ≡ some? (is_equality (coded_col n.first) (coded_col n.second)) (conditions_of ws g.words) → x ≡ equality_held n g ws
unfolding equality_held
equality_is n g ws e = e

module _ (n : Needs) (g : Grant) (s : ℕ) where
  pub side_read : (g.right ≡ 0 → ⊥) → false ≡ side_opened n g s
  unfolding side_opened
  side_read e = rw (ne_eqb g.right 0 e)

  module _ (e : g.right ≡ 0) {x : Bool} (f : x ≡ same_list (streams_of g) (s ∷ [])) where
    pub side_other : not x ≡ true → false ≡ side_opened n g s
    unfolding side_opened
    side_other t = rw (eq-eqb g.right 0 e, sym f ∙ not-true x t)

    pub side_shown : not x ≡ false → {b : ℕ} {y : Bool} → b ≡ stream_bits s → y ≡ inside (bit_and (bit_or n.need n.keys) b) g.shown → y ≡ side_opened n g s
    unfolding side_opened
    side_shown t i k = k ∙ rw (eq-eqb g.right 0 e, sym f ∙ not-false x t) (ap (λ b. inside (bit_and (bit_or n.need n.keys) b) g.shown) i)

pub ruleset side_ends = (side_read, side_other, side_shown)

module _ (n : Needs) (g : Grant) where
  pub right_none : n.right ≡ 4294967295 → false ≡ right_opened n g
  unfolding right_opened
  right_none e = rw (eq-eqb n.right 4294967295 e)

  pub right_side : (n.right ≡ 4294967295 → ⊥) → {x : Bool} → x ≡ side_opened n g n.right → x ≡ right_opened n g
  unfolding right_opened
  right_side e f = rw (ne_eqb n.right 4294967295 e) f

pub ruleset right_ends = (right_none, right_side)

module _ (n : Needs) (g : Grant) (ws : List ℕ) where
  pub pair_none : n.right ≡ 4294967295 → false ≡ pair_opened n g ws
  unfolding pair_opened
  pair_none e = rw (eq-eqb n.right 4294967295 e)

  module _ (e : n.right ≡ 4294967295 → ⊥) where
    pub pair_read : (g.right ≡ 0 → ⊥) → false ≡ pair_opened n g ws
    unfolding pair_opened
    pair_read f = rw (ne_eqb n.right 4294967295 e, ne_eqb g.right 0 f)

    module _ (f : g.right ≡ 0) {x : Bool} (p : x ≡ same_list (streams_of g) (n.left ∷ (n.right ∷ []))) where
      pub pair_other : not x ≡ true → false ≡ pair_opened n g ws
      unfolding pair_opened
      pair_other t = rw (ne_eqb n.right 4294967295 e, eq-eqb g.right 0 f, sym p ∙ not-true x t)

      module _ (t : not x ≡ false) {y : Bool} (q : y ≡ equality_held n g ws) where
        pub pair_apart : not y ≡ true → false ≡ pair_opened n g ws
        unfolding pair_opened
        pair_apart u = rw (ne_eqb n.right 4294967295 e, eq-eqb g.right 0 f, sym p ∙ not-false x t, sym q ∙ not-true y u)

        module _ (u : not y ≡ false) where
          pub pair_timed : n.timed ≡ true → false ≡ pair_opened n g ws
          unfolding pair_opened
          pair_timed i = rw (ne_eqb n.right 4294967295 e, eq-eqb g.right 0 f, sym p ∙ not-false x t, sym q ∙ not-false y u, i)

          pub pair_shown : n.timed ≡ false → {z : Bool} → z ≡ inside n.need g.shown → z ≡ pair_opened n g ws
          unfolding pair_opened
          pair_shown i k = k ∙ rw (ne_eqb n.right 4294967295 e, eq-eqb g.right 0 f, sym p ∙ not-false x t, sym q ∙ not-false y u, i)

pub ruleset pair_ends = (pair_none, pair_read, pair_other, pair_apart, pair_timed, pair_shown)

module _ (n : Needs) (g : Grant) {x : Bool} (e : x ≡ bit? g.shown n.column) where
  pub window_hidden : not x ≡ true → false ≡ (bit? g.shown n.column && (leb g.size n.size && leb g.offset n.offset))
  window_hidden t = rw (sym e ∙ not-true x t)

  pub window_narrow : not x ≡ false → n.size < g.size → false ≡ (bit? g.shown n.column && (leb g.size n.size && leb g.offset n.offset))
  window_narrow t h = rw (sym e ∙ not-false x t, lt-leb g.size n.size h)

  pub window_wide : not x ≡ false → g.size ≤ n.size → leb g.offset n.offset ≡ (bit? g.shown n.column && (leb g.size n.size && leb g.offset n.offset))
  window_wide t h = rw (sym e ∙ not-false x t, le-leb g.size n.size h)

pub ruleset window_ends = (window_hidden, window_narrow, window_wide)

module _ (n : Needs) (b : Bool) where
  pub linked_one : n.right ≡ 4294967295 → true ≡ (eqb n.right no_stream || b)
  linked_one e = rw (eq-eqb n.right 4294967295 e)

  pub linked_two : (n.right ≡ 4294967295 → ⊥) → {x : Bool} → x ≡ b → x ≡ (eqb n.right no_stream || b)
  linked_two e f = rw (ne_eqb n.right 4294967295 e) f

pub ruleset linked_ends = (linked_one, linked_two)

module _ (n : Needs) (g : Grant) (ws : List ℕ) where
  pub figures_none : n.aggregate ≡ 0 → false ≡ figures_opened n g ws
  unfolding figures_opened
  figures_none e = rw (eq-eqb n.aggregate 0 e)

  module _ (e : n.aggregate ≡ 0 → ⊥) where
    pub figures_right : (g.right ≡ n.aggregate → ⊥) → false ≡ figures_opened n g ws
    unfolding figures_opened
    figures_right f = rw (ne_eqb n.aggregate 0 e, ne_eqb g.right n.aggregate f)

    module _ (f : g.right ≡ n.aggregate) {x : Bool} (p : x ≡ same_list (streams_of g) (streams_asked n)) where
      pub figures_other : not x ≡ true → false ≡ figures_opened n g ws
      unfolding figures_opened
      figures_other t = rw (ne_eqb n.aggregate 0 e, eq-eqb g.right n.aggregate f, sym p ∙ not-true x t)

      module _ (t : not x ≡ false) {y : Bool} (q : y ≡ (eqb n.right no_stream || equality_held n g ws)) where
        pub figures_apart : not y ≡ true → false ≡ figures_opened n g ws
        unfolding figures_opened
        figures_apart u = rw (ne_eqb n.aggregate 0 e, eq-eqb g.right n.aggregate f, sym p ∙ not-false x t, sym q ∙ not-true y u)

        module _ (u : not y ≡ false) where
          pub figures_picked : n.picked ≡ true → false ≡ figures_opened n g ws
          unfolding figures_opened
          figures_picked i = rw (ne_eqb n.aggregate 0 e, eq-eqb g.right n.aggregate f, sym p ∙ not-false x t, sym q ∙ not-false y u, i)

          pub figures_window : n.picked ≡ false → {z : Bool} → z ≡ (bit? g.shown n.column && (leb g.size n.size && leb g.offset n.offset)) → z ≡ figures_opened n g ws
          unfolding figures_opened
          figures_window i k = k ∙ rw (ne_eqb n.aggregate 0 e, eq-eqb g.right n.aggregate f, sym p ∙ not-false x t, sym q ∙ not-false y u, i)

pub ruleset figures_ends = (figures_none, figures_right, figures_other, figures_apart, figures_picked, figures_window)

-- ---- all four

pub flag_on : (b : Bool) (v : ℕ) → b ≡ true → (v ≡ cond b v 0) × (v ≤ v)
flag_on b v e = (rw e, omega arith)

pub flag_off : (b : Bool) (v : ℕ) → b ≡ false → (0 ≡ cond b v 0) × (0 ≤ v)
flag_off b v e = (rw e, omega arith)

pub ruleset flag_ends = (flag_on, flag_off)

pub bits_added : (n : Needs) (g : Grant) (ws : List ℕ) {p q r s : Bool} {a b c d : ℕ} → p ≡ side_opened n g n.left → a ≡ cond p 1 0 → q ≡ right_opened n g → b ≡ cond q 2 0
    → r ≡ pair_opened n g ws → c ≡ cond r 4 0 → s ≡ figures_opened n g ws → d ≡ cond s 8 0 → a + b + c + d ≡ opened_bits n g ws
unfolding opened_bits
bits_added n g ws i a j b k c l d =
    let x = a ∙ ap (λ y. cond y 1 0) i in
    let y = b ∙ ap (λ y. cond y 2 0) j in
    let z = c ∙ ap (λ y. cond y 4 0) k in
    let w = d ∙ ap (λ y. cond y 8 0) l in
    omega arith
