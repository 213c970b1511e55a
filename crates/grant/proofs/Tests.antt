-- Refusal 12 of a grant, test by test, in the order of the code.
use mathlib.Core.Path.{◌≡◌, refl, sym, ◌∙◌}
use mathlib.Core.List.{List, [], ◌∷◌}
use mathlib.Core.Bool.{Bool, true, false, ◌&&◌, ◌||◌, not, or-false, or-true, and-true}
use Prim.Native.Nat.{ℕ, zero, suc, ◌≤◌, ◌<◌}
use native.Mathlib.Decide.{dec_lt}
use native.Mathlib.Omega.{arith}
use lib.Dec.{eqb, leb, ltb}
use lib.ListN.{length, get_or}
use borrow.Author.Tests.{eq-eqb, ne_eqb, lt-ltb, le-ltb, le-leb, lt-leb, not-true, not-false}
use Rattle.lists.specs.Lists.{every, some?, distinct, count_from}
use Rattle.calls.specs.Validity.{valid_name}
use Rattle.text.specs.Words.{name_of}
use Rattle.schema.specs.Schemas.{streams_in}
use Rattle.masks.specs.Masks.{inside}
use Rattle.nodes.specs.Nodes.{nodes_sound}
use Rattle.grant.specs.declared.Grant.{Grant}
use Rattle.grant.specs.Grants.{places_of, streams_of, streams_mask, streams_sound, limit_sound, limits_sound, window_sound, shown_sound, when_sound, grant_sound}

-- ---- streams

module _ (ns : List ℕ) (g : Grant) where
  abbrev first : ℕ
  first = get_or g.streams 0 0

  abbrev second : ℕ
  second = get_or g.streams 1 0

  one_place : g.count ≡ 1 → streams_of g ≡ first ∷ []
  unfolding streams_of places_of count_from
  one_place e = rw e

  two_places : g.count ≡ 2 → streams_of g ≡ first ∷ second ∷ []
  unfolding streams_of places_of count_from
  two_places e = rw e

  pub streams_none : g.count ≡ 0 → false ≡ streams_sound ns g
  unfolding streams_sound
  streams_none e = rw e

  pub streams_many : 2 < g.count → false ≡ streams_sound ns g
  unfolding streams_sound
  streams_many h = rw (le-leb 1 g.count (omega arith), lt-leb g.count 2 h)

  one_sound : g.count ≡ 1 → streams_sound ns g ≡ (ltb first (streams_in ns) && true && true)
  unfolding streams_sound every distinct some?
  one_sound e = rw (one_place e, e)

  two_sound : g.count ≡ 2 → streams_sound ns g ≡ ((ltb first (streams_in ns) && (ltb second (streams_in ns) && true)) && (not (eqb first second || false) && true))
  unfolding streams_sound every distinct some?
  two_sound e = rw (two_places e, e)

  module _ (some : g.count ≡ 0 → ⊥) {n : ℕ} (e : n ≡ streams_in ns) where
    pub first_past : n ≤ first → false ≡ streams_sound ns g
    first_past h = go g.count refl
      where
        go : (k : ℕ) → g.count ≡ k → false ≡ streams_sound ns g
        go zero i = absurd (some i)
        go (suc zero) i = rw (one_sound i, le-ltb first (streams_in ns) (omega arith))
        go (suc (suc zero)) i = rw (two_sound i, le-ltb first (streams_in ns) (omega arith))
        go (suc (suc (suc k))) i = streams_many (omega arith)

    module _ (h : first < n) where
      pub first_alone : g.count ≡ 1 → true ≡ streams_sound ns g
      first_alone i = rw (one_sound i, lt-ltb first (streams_in ns) (omega arith))

      module _ (more : g.count ≡ 1 → ⊥) where
        pub second_past : n ≤ second → false ≡ streams_sound ns g
        second_past l = go (dec_lt 2 g.count)
          where
            go : Dec (2 < g.count) → false ≡ streams_sound ns g
            go (yes m) = streams_many m
            go (no m) = let i : g.count ≡ 2 = omega arith in rw (two_sound i, lt-ltb first (streams_in ns) (omega arith), le-ltb second (streams_in ns) (omega arith))

        pub second_other : g.count ≤ 2 → second < n → not (eqb first second) ≡ streams_sound ns g
        second_other m l =
            let i : g.count ≡ 2 = omega arith in
            rw (two_sound i, lt-ltb first (streams_in ns) (omega arith), lt-ltb second (streams_in ns) (omega arith), or-false (eqb first second), and-true (not (eqb first second)))

pub ruleset stream_ends = (streams_none, streams_many, first_past, first_alone, second_past, second_other)

-- ---- shown columns

pub shown_none : (m mask : ℕ) → m ≡ 0 → false ≡ (not (eqb m 0) && inside m mask)
shown_none m mask e = rw (eq-eqb m 0 e)

pub shown_some : (m mask : ℕ) {r : Bool} → (m ≡ 0 → ⊥) → r ≡ inside m mask → r ≡ (not (eqb m 0) && inside m mask)
shown_some m mask ne e = rw (ne_eqb m 0 ne) e

pub ruleset shown_ends = (shown_none, shown_some)

-- ---- limits

pub limit_time : (n : ℕ) → n ≤ 2147483647 → true ≡ limit_sound n
unfolding limit_sound
limit_time n h = rw (le-leb n 2147483647 h)

pub limit_none : (n : ℕ) → 2147483647 < n → eqb n 4294967295 ≡ limit_sound n
unfolding limit_sound
limit_none n h = rw (lt-leb n 2147483647 h)

pub ruleset limit_ends = (limit_time, limit_none)

module _ (g : Grant) {x : Bool} (p : x ≡ limit_sound g.from) where
  pub limits_from : not x ≡ true → false ≡ limits_sound g
  unfolding limits_sound
  limits_from f = rw (sym p ∙ not-true x f)

  module _ (t : not x ≡ false) {y : Bool} (q : y ≡ limit_sound g.to) where
    pub limits_to : not y ≡ true → false ≡ limits_sound g
    unfolding limits_sound
    limits_to f = rw (sym p ∙ not-false x t, sym q ∙ not-true y f)

    module _ (u : not y ≡ false) where
      pub limits_open : g.from ≡ 4294967295 → true ≡ limits_sound g
      unfolding limits_sound
      limits_open e = rw (sym p ∙ not-false x t, sym q ∙ not-false y u, eq-eqb g.from 4294967295 e, or-true (leb g.from g.to))

      pub limits_both : (g.from ≡ 4294967295 → ⊥) → leb g.from g.to ≡ limits_sound g
      unfolding limits_sound
      limits_both ne = rw (sym p ∙ not-false x t, sym q ∙ not-false y u, ne_eqb g.from 4294967295 ne, or-false (leb g.from g.to))

pub ruleset limits_ends = (limits_from, limits_to, limits_open, limits_both)

-- ---- the right and its window

module _ (g : Grant) where
  pub right_past : 5 < g.right → false ≡ window_sound g
  unfolding window_sound
  right_past h = rw (lt-leb g.right 5 h)

  pub read_size : g.right ≡ 0 → (g.size ≡ 0 → ⊥) → false ≡ window_sound g
  unfolding window_sound
  read_size e ne = rw (e, ne_eqb g.size 0 ne)

  pub read_offset : g.right ≡ 0 → g.size ≡ 0 → eqb g.offset 0 ≡ window_sound g
  unfolding window_sound
  read_offset e i = rw (e, i)

  module _ (h : g.right ≤ 5) (ne : g.right ≡ 0 → ⊥) where
    pub window_wide : 2147483647 < g.size → false ≡ window_sound g
    unfolding window_sound
    window_wide l = rw (le-leb g.right 5 h, ne_eqb g.right 0 ne, lt-leb g.size 2147483647 l)

    pub window_both : g.size ≤ 2147483647 → leb g.offset 2147483647 ≡ window_sound g
    unfolding window_sound
    window_both l = rw (le-leb g.right 5 h, ne_eqb g.right 0 ne, le-leb g.size 2147483647 l)

pub ruleset window_ends = (right_past, read_size, read_offset, window_wide, window_both)

-- ---- conditions

module _ (n mask : ℕ) (ws : List ℕ) where
  abbrev when_test : Bool
  when_test = leb n 95 && leb n (length ws) && nodes_sound mask ws n

  pub when_many : 95 < n → false ≡ when_test
  when_many h = rw (lt-leb n 95 h)

  pub when_short : n ≤ 95 → length ws < n → false ≡ when_test
  when_short h k = rw (le-leb n 95 h, lt-leb n (length ws) k)

  pub when_all : {r : Bool} → n ≤ 95 → n ≤ length ws → r ≡ nodes_sound mask ws n → r ≡ when_test
  when_all h k e = rw (le-leb n 95 h, le-leb n (length ws) k) e

pub ruleset when_ends = (when_many, when_short, when_all)

-- ---- the grant

module _ (ns : List ℕ) (g : Grant) (ws : List ℕ) {a : Bool} (pa : a ≡ valid_name (name_of g.role)) where
  pub grant_role : not a ≡ true → false ≡ grant_sound ns g ws
  unfolding grant_sound
  grant_role f = rw (sym pa ∙ not-true a f)

  module _ (ta : not a ≡ false) {b : Bool} (pb : b ≡ streams_sound ns g) where
    pub grant_streams : not b ≡ true → false ≡ grant_sound ns g ws
    unfolding grant_sound
    grant_streams f = rw (sym pa ∙ not-false a ta, sym pb ∙ not-true b f)

    module _ (tb : not b ≡ false) {mask : ℕ} (e : mask ≡ streams_mask ns (streams_of g)) {c : Bool} (pc : c ≡ (not (eqb g.shown 0) && inside g.shown mask)) where
      shown_is : c ≡ shown_sound ns g
      unfolding shown_sound
      shown_is = pc ∙ rw e

      pub grant_shown : not c ≡ true → false ≡ grant_sound ns g ws
      unfolding grant_sound
      grant_shown f = rw (sym pa ∙ not-false a ta, sym pb ∙ not-false b tb, sym shown_is ∙ not-true c f)

      module _ (tc : not c ≡ false) {d : Bool} (pd : d ≡ limits_sound g) where
        pub grant_limits : not d ≡ true → false ≡ grant_sound ns g ws
        unfolding grant_sound
        grant_limits f = rw (sym pa ∙ not-false a ta, sym pb ∙ not-false b tb, sym shown_is ∙ not-false c tc, sym pd ∙ not-true d f)

        module _ (td : not d ≡ false) {w : Bool} (pw : w ≡ window_sound g) where
          pub grant_window : not w ≡ true → false ≡ grant_sound ns g ws
          unfolding grant_sound
          grant_window f = rw (sym pa ∙ not-false a ta, sym pb ∙ not-false b tb, sym shown_is ∙ not-false c tc, sym pd ∙ not-false d td, sym pw ∙ not-true w f)

          pub grant_when : not w ≡ false → {r : Bool} → r ≡ (leb g.words 95 && leb g.words (length ws) && nodes_sound mask ws g.words) → r ≡ grant_sound ns g ws
          unfolding grant_sound when_sound
          grant_when tw h = rw (sym pa ∙ not-false a ta, sym pb ∙ not-false b tb, sym shown_is ∙ not-false c tc, sym pd ∙ not-false d td, sym pw ∙ not-false w tw, ← e) h

pub ruleset grant_ends = (grant_role, grant_streams, grant_shown, grant_limits, grant_window, grant_when)
