-- The tests of a line that is read, and of what is lent, in the order of the code.
use mathlib.Core.Path.{◌≡◌, sym, ◌∙◌}
use mathlib.Core.List.{List}
use mathlib.Core.Bool.{Bool, true, false, ◌&&◌, ◌||◌, not}
use Prim.Native.Nat.{ℕ, ◌≤◌, ◌<◌}
use lib.Bits.{bit_or}
use lib.Dec.{eqb, leb, ltb}
use borrow.Author.Tests.{eq-eqb, ne_eqb, lt-ltb, le-ltb, le-leb, lt-leb, not-true, not-false}
use Rattle.refusal.specs.declared.Checks.{Checks}
use Rattle.refusal.specs.Checks.{shown}
use Rattle.schema.specs.Schemas.{schema_sound}
use Rattle.masks.specs.Masks.{inside}
use Rattle.columns.specs.declared.Streams.{Streams}
use Rattle.conditions.specs.declared.Seen.{Seen}
use Rattle.grant.specs.Grants.{no_time, places_of, streams_mask}
use Rattle.grant.specs.declared.Grant.{Grant}
use Rattle.grant_line.specs.declared.Holder.{Holder}
use Rattle.grant_line.specs.declared.Shown.{Shown}
use Rattle.grant_line.specs.declared.Limit.{Limit}
use Rattle.grant_line.specs.declared.Window.{Window}
use Rattle.grant_line.specs.Lines.{over_read, misplaced_read, grant_read, line_read}
use Rattle.grant_line.specs.Granting.{lent_sound}

-- ---- a part is out of bounds

module _ (h : Holder) (o : Streams) (w : Shown) (c : Seen) (f t : Limit) (x : Window) where
  abbrev over : Bool
  over = over_read h o w c f t x

  pub over_role : h.long ≡ true → true ≡ over_read h o w c f t x
  unfolding over_read
  over_role e = rw e

  module _ (a : h.long ≡ false) where
    pub over_of : o.over ≡ true → true ≡ over_read h o w c f t x
    unfolding over_read
    over_of e = rw (a, e)

    module _ (b : o.over ≡ false) where
      pub over_show : w.over ≡ true → true ≡ over_read h o w c f t x
      unfolding over_read
      over_show e = rw (a, b, e)

      module _ (d : w.over ≡ false) where
        pub over_when : c.over ≡ true → true ≡ over_read h o w c f t x
        unfolding over_read
        over_when e = rw (a, b, d, e)

        module _ (i : c.over ≡ false) where
          pub over_deep : c.deep ≡ true → true ≡ over_read h o w c f t x
          unfolding over_read
          over_deep e = rw (a, b, d, i, e)

          module _ (j : c.deep ≡ false) where
            pub over_from : f.over ≡ true → true ≡ over_read h o w c f t x
            unfolding over_read
            over_from e = rw (a, b, d, i, j, e)

            module _ (k : f.over ≡ false) where
              pub over_to : t.over ≡ true → true ≡ over_read h o w c f t x
              unfolding over_read
              over_to e = rw (a, b, d, i, j, k, e)

              pub over_window : t.over ≡ false → x.over ≡ over_read h o w c f t x
              unfolding over_read
              over_window e = rw (a, b, d, i, j, k, e)

pub ruleset over_ends = (over_role, over_of, over_show, over_when, over_deep, over_from, over_to, over_window)

-- ---- a part stands where it may not

pub shows_all : (columns : ℕ) (w : Shown) → w.all ≡ true → false ≡ (not w.all && not (inside w.mask columns))
shows_all columns w e = rw e

pub shows_listed : (columns : ℕ) (w : Shown) {r : Bool} → w.all ≡ false → r ≡ inside w.mask columns → not r ≡ (not w.all && not (inside w.mask columns))
shows_listed columns w e d = rw (e, d)

pub ruleset shows_ends = (shows_all, shows_listed)

pub from_none : (f t : Limit) → f.value ≡ 4294967295 → false ≡ (not (eqb f.value no_time) && ltb t.value f.value)
from_none f t e = rw (eq-eqb f.value 4294967295 e)

pub from_some : (f t : Limit) → (f.value ≡ 4294967295 → ⊥) → ltb t.value f.value ≡ (not (eqb f.value no_time) && ltb t.value f.value)
from_some f t e = rw (ne_eqb f.value 4294967295 e)

pub ruleset unordered_ends = (from_none, from_some)

module _ (columns : ℕ) (h : Holder) (o : Streams) (w : Shown) (c : Seen) (f t : Limit) (x : Window) where
  pub placed_many : 2 < o.count → true ≡ misplaced_read columns h o w c f t x
  unfolding misplaced_read
  placed_many e = rw (lt-ltb 2 o.count e)

  module _ (few : o.count ≤ 2) {s : Bool} (p : s ≡ (not w.all && not (inside w.mask columns))) where
    pub placed_show : s ≡ true → true ≡ misplaced_read columns h o w c f t x
    unfolding misplaced_read
    placed_show e = rw (le-ltb 2 o.count few, sym p ∙ e)

    module _ (a : s ≡ false) {l : Bool} (q : l ≡ inside c.lefts columns) where
      pub placed_lefts : not l ≡ true → true ≡ misplaced_read columns h o w c f t x
      unfolding misplaced_read
      placed_lefts e = rw (le-ltb 2 o.count few, sym p ∙ a, sym q ∙ not-true l e)

      module _ (b : not l ≡ false) {r : Bool} (u : r ≡ inside c.rights (bit_or columns 201326592)) where
        pub placed_rights : not r ≡ true → true ≡ misplaced_read columns h o w c f t x
        unfolding misplaced_read
        placed_rights e = rw (le-ltb 2 o.count few, sym p ∙ a, sym q ∙ not-false l b, sym u ∙ not-true r e)

        module _ (d : not r ≡ false) {y : Bool} (v : y ≡ (not (eqb f.value no_time) && ltb t.value f.value)) where
          pub placed_times : y ≡ true → true ≡ misplaced_read columns h o w c f t x
          unfolding misplaced_read
          placed_times e = rw (le-ltb 2 o.count few, sym p ∙ a, sym q ∙ not-false l b, sym u ∙ not-false r d, sym v ∙ e)

          module _ (i : y ≡ false) where
            pub placed_right : (h.right ≡ 0 → ⊥) → false ≡ misplaced_read columns h o w c f t x
            unfolding misplaced_read
            placed_right e = rw (le-ltb 2 o.count few, sym p ∙ a, sym q ∙ not-false l b, sym u ∙ not-false r d, sym v ∙ i, ne_eqb h.right 0 e)

            pub placed_window : h.right ≡ 0 → x.given ≡ misplaced_read columns h o w c f t x
            unfolding misplaced_read
            placed_window e = rw (le-ltb 2 o.count few, sym p ∙ a, sym q ∙ not-false l b, sym u ∙ not-false r d, sym v ∙ i, eq-eqb h.right 0 e)

pub ruleset misplaced_ends = (placed_many, placed_show, placed_lefts, placed_rights, placed_times, placed_right, placed_window)

-- ---- the line of the parts

module _ (columns : ℕ) (h : Holder) (o : Streams) (w : Shown) (c : Seen) (f t : Limit) (x : Window) where
  abbrev made : ℕ → Grant
  made m =
      record {
        role = h.role;
        right = h.right;
        count = o.count;
        streams = o.places;
        shown = m;
        words = c.count;
        from = f.value;
        to = t.value;
        size = x.size;
        offset = x.offset;
      }

  pub grant_all : w.all ≡ true → made columns ≡ grant_read columns h o w c f t x
  unfolding grant_read
  grant_all e = rw e

  pub grant_listed : w.all ≡ false → made w.mask ≡ grant_read columns h o w c f t x
  unfolding grant_read
  grant_listed e = rw e

pub ruleset grant_ends = (grant_all, grant_listed)

module _ (ns : List ℕ) (h : Holder) (o : Streams) (w : Shown) (c : Seen) (f t : Limit) (x : Window) {columns : ℕ} {a b u r m : Bool} {k : Checks} {g : Grant} where
  pub line_made : columns ≡ streams_mask ns (places_of o.count o.places) → a ≡ over_read h o w c f t x → b ≡ (o.unknown || w.unknown) → u ≡ (b || c.unknown) → r ≡ (o.repeated || w.repeated)
      → m ≡ misplaced_read columns h o w c f t x → k ≡ shown a u r m false → g ≡ grant_read columns h o w c f t x → record { checks = k; grant = g } ≡ line_read ns h o w c f t x
  unfolding line_read
  line_made p q s y z v i j = rw (i, j, q, y, s, z, v, p)

pub ruleset line_ends = (line_made)

-- ---- refusal 12

module _ (ns : List ℕ) (count room : ℕ) {x : Bool} (p : x ≡ schema_sound ns) where
  pub lent_names : not x ≡ true → false ≡ lent_sound ns count room
  unfolding lent_sound
  lent_names e = rw (sym p ∙ not-true x e)

  module _ (a : not x ≡ false) where
    pub lent_many : 24 < count → false ≡ lent_sound ns count room
    unfolding lent_sound
    lent_many e = rw (sym p ∙ not-false x a, lt-leb count 24 e)

    pub lent_room : count ≤ 24 → leb 2280 room ≡ lent_sound ns count room
    unfolding lent_sound
    lent_room e = rw (sym p ∙ not-false x a, le-leb count 24 e)

pub ruleset lendable_ends = (lent_names, lent_many, lent_room)
