-- The ends of the functions that pass one form, and of those that make what is read.
use mathlib.Core.Path.{◌≡◌, refl, sym, ap, ◌∙◌}
use mathlib.Core.List.{List, [], ◌∷◌}
use mathlib.Core.Bool.{Bool, true, false, ◌&&◌, ◌||◌, not}
use Prim.Native.Nat.{ℕ, suc, ◌*◌, ◌-◌, ◌≤◌, ◌<◌}
use native.Mathlib.Omega.{arith}
use lib.Bits.{bit_or}
use lib.IntN.{ℤ, pos}
use lib.Dec.{leb, ltb}
use lib.ListN.{get_or}
use borrow.Author.Tests.{ne_eqb, le-leb, lt-leb, ltb-true, ltb-false, not-true, not-false}
use Rattle.refusal.specs.Checks.{unread, shown}
use Rattle.refusal.specs.declared.Checks.{Checks}
use Rattle.model.specs.Checks.{fitting}
use Rattle.masks.specs.Masks.{bit?, with_bit, inside}
use Rattle.grant.specs.Grants.{streams_mask}
use Rattle.query.specs.Tables.{blank, new_query}
use Rattle.query.specs.declared.Form.{Form}
use Rattle.query.specs.declared.Query.{Query}
use Rattle.query_read.specs.declared.Reading.{Reading}
use Rattle.query_line.specs.declared.Side.{Side}
use Rattle.query_line.specs.declared.Placing.{Placing}
use Rattle.query_line.specs.declared.Asked.{Asked}
use Rattle.query_line.specs.Placing.{no_side, sideless, begun, with_rows, unpicked, with_pick, unkept, with_keep, links, unjoined, with_join, ungrouped, unfitting, with_aggregate, with_form, placed_from}
use Rattle.query_line.specs.Asking.{unread_asked, placing_of, asked_of}
use Rattle.query_line.specs.Texts.{unread_routed, routed_of}

-- ---- tests

pub sideless_joined : (t : Side) → t.joined ≡ true → true ≡ sideless t
unfolding sideless
sideless_joined t e = rw e

pub sideless_other : (t : Side) → t.joined ≡ false → t.grouped ≡ sideless t
unfolding sideless
sideless_other t e = rw e

pub ruleset sideless_ends = (sideless_joined, sideless_other)

module _ (mask lefts rights : ℕ) {m : ℕ} {a : Bool} (p : m ≡ bit_or mask 16777216) (q : a ≡ inside lefts m) where
  pub unpicked_left : not a ≡ true → true ≡ unpicked mask lefts rights
  unfolding unpicked
  unpicked_left e = let z : inside lefts (bit_or mask 16777216) ≡ false = sym (q ∙ ap (inside lefts) p) ∙ not-true a e in rw z

  pub unpicked_right : {n : ℕ} {b : Bool} → not a ≡ false → n ≡ bit_or mask 67108864 → b ≡ inside rights n → not b ≡ unpicked mask lefts rights
  unfolding unpicked
  unpicked_right {b} e f g =
      let z : inside lefts (bit_or mask 16777216) ≡ true = sym (q ∙ ap (inside lefts) p) ∙ not-false a e in
      let y : b ≡ inside rights (bit_or mask 67108864) = g ∙ ap (inside rights) f in
      rw (z, y)

pub ruleset unpicked_ends = (unpicked_left, unpicked_right)

module _ (t : Side) (mask : ℕ) where
  pub unkept_grouped : t.grouped ≡ true → true ≡ unkept t mask
  unfolding unkept
  unkept_grouped e = rw e

  pub unkept_other : {a : Bool} → t.grouped ≡ false → a ≡ inside mask t.mask → not a ≡ unkept t mask
  unfolding unkept
  unkept_other e f = rw (e, f)

pub ruleset unkept_ends = (unkept_grouped, unkept_other)

module _ (t : Side) (code : ℕ) where
  pub ungrouped_grouped : t.grouped ≡ true → true ≡ ungrouped t code
  unfolding ungrouped
  ungrouped_grouped e = rw e

  pub ungrouped_other : {a : Bool} → t.grouped ≡ false → a ≡ bit? t.mask code → not a ≡ ungrouped t code
  unfolding ungrouped
  ungrouped_other e f = rw (e, f)

pub ruleset ungrouped_ends = (ungrouped_grouped, ungrouped_other)

module _ (l r a b : ℕ) {x : Bool} (p : x ≡ bit? l a) where
  pub both_first : not x ≡ true → false ≡ (bit? l a && bit? r b)
  both_first e = let z : bit? l a ≡ false = sym p ∙ not-true x e in rw z

  pub both_second : {y : Bool} → not x ≡ false → y ≡ bit? r b → y ≡ (bit? l a && bit? r b)
  both_second e f = let z : bit? l a ≡ true = sym p ∙ not-false x e in f ∙ sym (rw z)

pub ruleset both_ends = (both_first, both_second)

pub links_made : (l r a b : ℕ) {x y z : Bool} → x ≡ (bit? l a && bit? r b) → y ≡ (bit? l b && bit? r a) → z ≡ (x || y) → z ≡ links l r a b
unfolding links
links_made l r a b e f g = g ∙ rw (e, f)

module _ (l r : Side) (a b : ℕ) {x : Bool} (p : x ≡ sideless l) where
  pub unjoined_left : x ≡ true → true ≡ unjoined l r a b
  unfolding unjoined
  unjoined_left e = let f : sideless l ≡ true = sym p ∙ e in rw f

  module _ {y : Bool} (e : x ≡ false) (q : y ≡ sideless r) where
    pub unjoined_right : y ≡ true → true ≡ unjoined l r a b
    unfolding unjoined
    unjoined_right d = let f : sideless l ≡ false = sym p ∙ e in let g : sideless r ≡ true = sym q ∙ d in rw (f, g)

    pub unjoined_other : {z : Bool} → y ≡ false → z ≡ links l.mask r.mask a b → not z ≡ unjoined l r a b
    unfolding unjoined
    unjoined_other d h = let f : sideless l ≡ false = sym p ∙ e in let g : sideless r ≡ false = sym q ∙ d in rw (f, g, h)

pub ruleset unjoined_ends = (unjoined_left, unjoined_right, unjoined_other)

module _ (size offset : ℕ) where
  pub unfitting_size : size ≡ 0 → true ≡ unfitting size offset
  unfolding unfitting fitting
  unfitting_size e = rw e

  module _ (n : size ≡ 0 → ⊥) where
    pub unfitting_offset : offset ≡ 0 → true ≡ unfitting size offset
    unfolding unfitting fitting
    unfitting_offset e = rw (e, le-leb 1 size (omega arith))

    pub unfitting_other : (offset ≡ 0 → ⊥) → ltb (64 * offset) size ≡ unfitting size offset
    unfolding unfitting fitting
    unfitting_other e = rw (le-leb 1 size (omega arith), le-leb 1 offset (omega arith)) (go (ltb (64 * offset) size) refl)
      where
        go : (b : Bool) → ltb (64 * offset) size ≡ b → b ≡ not (leb size (64 * offset))
        go true d = sym (rw (lt-leb size (64 * offset) (ltb-true (64 * offset) size d)))
        go false d = sym (rw (le-leb size (64 * offset) (ltb-false (64 * offset) size d)))

pub ruleset unfitting_ends = (unfitting_size, unfitting_offset, unfitting_other)

-- ---- one form

pub rows_made : (ns : List ℕ) (p : Placing) (s : ℕ) {m v : ℕ} {a b : Bool} → m ≡ streams_mask ns (s ∷ []) → a ≡ bit? p.seen s → b ≡ (p.misplaced || a) → v ≡ with_bit p.seen s
    → record { top = record { mask = m; joined = false; grouped = false }; under = p.top; seen = v; misplaced = b; window = p.window } ≡ with_rows ns p s
unfolding with_rows
rows_made ns p s e f g h = rw (e, g, f, h)

pub pick_made : (p : Placing) (lefts rights : ℕ) {a b : Bool} → a ≡ unpicked p.top.mask lefts rights → b ≡ (p.misplaced || a)
    → record { top = p.top; under = p.under; seen = p.seen; misplaced = b; window = p.window } ≡ with_pick p lefts rights
unfolding with_pick
pick_made p lefts rights e f = rw (f, e)

pub keep_made : (p : Placing) (mask : ℕ) {a b : Bool} → a ≡ unkept p.top mask → b ≡ (p.misplaced || a)
    → record { top = record { mask = mask; joined = p.top.joined; grouped = p.top.grouped }; under = p.under; seen = p.seen; misplaced = b; window = p.window } ≡ with_keep p mask
unfolding with_keep
keep_made p mask e f = rw (f, e)

pub join_made : (p : Placing) (x y : ℕ) {a b : Bool} {m : ℕ} → a ≡ unjoined p.top p.under x y → b ≡ (p.misplaced || a) → m ≡ bit_or p.top.mask p.under.mask
    → record { top = record { mask = m; joined = true; grouped = false }; under = p.under; seen = p.seen; misplaced = b; window = p.window } ≡ with_join p x y
unfolding with_join
join_made p x y e f g = rw (f, e, g)

pub aggregate_made : (p : Placing) (code size offset : ℕ) {a b c d : Bool} → a ≡ ungrouped p.top code → b ≡ (p.misplaced || a) → c ≡ unfitting size offset → d ≡ (p.window || c)
    → record { top = record { mask = 33554432; joined = p.top.joined; grouped = true }; under = p.under; seen = p.seen; misplaced = b; window = d } ≡ with_aggregate p code size offset
unfolding with_aggregate
aggregate_made p code size offset e f g h = rw (f, e, h, g)

module _ (ns : List ℕ) (p : Placing) (f : Form) (lefts rights : ℕ) {x : Placing} where
  pub form_rows : f.kind ≡ 0 → x ≡ with_rows ns p f.first → x ≡ with_form ns p f lefts rights
  unfolding with_form
  form_rows e g = rw e g

  module _ (a : f.kind ≡ 0 → ⊥) where
    pub form_pick : f.kind ≡ 1 → x ≡ with_pick p lefts rights → x ≡ with_form ns p f lefts rights
    unfolding with_form
    form_pick e g = rw e g

    module _ (b : f.kind ≡ 1 → ⊥) where
      pub form_keep : f.kind ≡ 2 → x ≡ with_keep p lefts → x ≡ with_form ns p f lefts rights
      unfolding with_form
      form_keep e g = rw e g

      module _ (c : f.kind ≡ 2 → ⊥) where
        pub form_join : f.kind ≡ 3 → x ≡ with_join p f.first f.second → x ≡ with_form ns p f lefts rights
        unfolding with_form
        form_join e g = rw e g

        pub form_other : (f.kind ≡ 3 → ⊥) → x ≡ with_aggregate p f.second f.third f.fourth → x ≡ with_form ns p f lefts rights
        unfolding with_form
        form_other e g = rw (ne_eqb f.kind 0 a, ne_eqb f.kind 1 b, ne_eqb f.kind 2 c, ne_eqb f.kind 3 e) g

pub ruleset form_ends = (form_rows, form_pick, form_keep, form_join, form_other)

-- ---- all forms

module _ (ns : List ℕ) (r : Reading) where
  abbrev from : ℕ → Placing → Placing
  from n p = placed_from ns r.forms r.lefts r.rights n p

  pub all_start : {p : Placing} → p ≡ begun → placing_of ns r ≡ from r.count p
  unfolding placing_of
  all_start e = rw e

  pub all_end : {p : Placing} (n : ℕ) → placing_of ns r ≡ from n p → n ≤ 0 → p ≡ placing_of ns r
  unfolding placed_from
  all_end n inv h = let z : n ≡ 0 = omega arith in sym (inv ∙ rw z)

  pub all_more : (p : Placing) {x : Placing} {f : Form} (n : ℕ) → placing_of ns r ≡ from n p → 0 < n → f ≡ get_or r.forms (n - 1) blank → x ≡ with_form ns p f (get_or r.lefts (n - 1) 0) (get_or r.rights (n - 1) 0)
      → placing_of ns r ≡ from (n - 1) x
  unfolding placed_from
  all_more p n inv h e g = let z : n ≡ suc (n - 1) = omega arith in inv ∙ ap (λ m. from m p) z ∙ ap (from (n - 1)) (sym (g ∙ rw e))

pub ruleset all_ends = (all_start, all_end, all_more)

-- ---- what is read

pub side_nothing : record { mask = 0; joined = false; grouped = false } ≡ no_side
unfolding no_side
side_nothing = refl

pub begun_made : {t u : Side} → t ≡ no_side → u ≡ no_side → record { top = t; under = u; seen = 0; misplaced = false; window = false } ≡ begun
unfolding begun
begun_made e f = rw (e, f)

pub asked_nothing : (long : Bool) {c : Checks} {q : Query} → c ≡ unread long → q ≡ new_query → record { next = 0; checks = c; query = q } ≡ unread_asked long
unfolding unread_asked
asked_nothing long e f = rw (e, f)

pub asked_made : (r : Reading) (p : Placing) {c : Checks} → c ≡ shown r.over r.unknown r.repeated p.misplaced p.window
    → record { next = r.next; checks = c; query = record { forms = r.forms; len = r.count } } ≡ asked_of r p
unfolding asked_of
asked_made r p e = rw e

pub routed_nothing : (long : Bool) {a : Asked} → a ≡ unread_asked long → record { route = pos 0; asked = a } ≡ unread_routed long
unfolding unread_routed
routed_nothing long e = rw e

pub routed_made : (n : ℤ) (a : Asked) {m : ℤ} → m ≡ n → record { route = m; asked = a } ≡ routed_of n a
unfolding routed_of
routed_made n a e = rw e
