-- Lists read item by item up to where a test says that they end: what is read so far, joined to what is read on from a place.
use mathlib.Core.Path.{◌≡◌, sym, ap, ◌∙◌}
use mathlib.Core.List.{List, []}
use mathlib.Core.Bool.{Bool, true, false}
use mathlib.Core.Option.{Option, none, some}
use Prim.Native.Nat.{ℕ, ◌-◌, ◌≤◌, ◌<◌}
use native.Mathlib.Omega.{arith}
use lib.ListN.{length, drop, length-drop, drop_of_length-le}
use Rattle.syntax.specs.Grammar.{Bytes}
use Rattle.syntax.specs.Readers.{Read, Reader, bind, byte}
use Rattle.syntax.proofs.Leaving.{Leaves, byte_less}
use Rattle.text.specs.Words.{Some, None, seen, read_end}
use Rattle.text.specs.Readings.{any_items}
use Rattle.text.proofs.Views.{left_drop, Reading, read_none, read_some, read_beyond, skip_none, skip_is, skip_within}
use Rattle.text.proofs.Fuel.{items_step}
use Rattle.items.proofs.Lists.{more}

-- ---- the steps of a list

module _ {A : Type 0} (ends : Bytes → Bool) (unended : ends [] ≡ false) (item : Reader A) (leaves : Leaves item) (s : Bytes) (i : ℕ) where
  at_over : length s ≤ i → any_items ends item (drop i s) ≡ none
  unfolding byte bind
  at_over h = items_step ends unended item leaves (drop i s) ∙ rw (drop_of_length-le s h, unended)

  at_end : ends (drop i s) ≡ true → any_items ends item (drop i s) ≡ some (record { what = []; left = drop i s })
  at_end e = items_step ends unended item leaves (drop i s) ∙ rw e

  module _ (e : ends (drop i s) ≡ false) where
    at_other : byte 32 (drop i s) ≡ none → any_items ends item (drop i s) ≡ none
    unfolding bind
    at_other f = items_step ends unended item leaves (drop i s) ∙ rw (e, f)

    module _ (p : ℕ) (b : byte 32 (drop i s) ≡ some (record { what = tt; left = drop p s })) where
      at_stuck : item (drop p s) ≡ none → any_items ends item (drop i s) ≡ none
      unfolding bind
      at_stuck q = items_step ends unended item leaves (drop i s) ∙ rw (e, b, q)

      at_more : (a : Read A) → item (drop p s) ≡ some a → any_items ends item (drop i s) ≡ more a.what (any_items ends item (drop (length s - length a.left) s))
      unfolding bind more
      at_more a q = items_step ends unended item leaves (drop i s) ∙ rw (e, b, q, left_drop leaves s p a q)

-- ---- how the code reads a list in a text

-- A is an item, N what the code has of an item, R what it has of the items so far, X the answer
pub record Walk (A N R X : Type 0) (s : Bytes) : Type 0 where
  pub ends : Bytes → Bool
  pub unended : ends [] ≡ false
  pub reading : Reading A N s
  -- the answer by the items so far and those that follow
  pub answer : R → Option (Read (List A)) → X
  -- the items so far with one more
  pub step : R → A → R
  pub stepped : (r : R) (x : A) (o : Option (Read (List A))) → answer r (more x o) ≡ answer (step r x) o

module _ {A N R X : Type 0} {s : Bytes} (walk : Walk A N R X s) where
  -- the answer by the items so far and those from a place on
  unfoldable pub on : R → ℕ → X
  on r i = walk.answer r (any_items walk.ends walk.reading.item (drop i s))

  -- less of the text is left after an item
  pub walk_falls : (i p : ℕ) {n : N} → i < length s → Some p ≡ read_end s (byte 32 (drop i s)) → Some n ≡ seen walk.reading.made (walk.reading.item (drop p s)) → length s - walk.reading.next n < length s - i
  walk_falls i p h b q =
      let k = byte_less 32 (drop i s) _ (skip_is s i 32 b) in
      let m = skip_within s i 32 b in
      let l = read_beyond walk.reading p q m in
      omega (arith, length-drop i s, length-drop p s)

  -- each end, and the way on, by what the code finds at a place
  module _ {whole : X} (r : R) (i : ℕ) (inv : whole ≡ on r i) where
    pub walk_over : length s ≤ i → whole ≡ walk.answer r none
    unfolding on
    walk_over h = inv ∙ ap (walk.answer r) (at_over walk.ends walk.unended walk.reading.item walk.reading.leaves s i h)

    module _ {t : Bool} (u : t ≡ walk.ends (drop i s)) where
      pub walk_end : t ≡ true → whole ≡ walk.answer r (some (record { what = []; left = drop i s }))
      unfolding on
      walk_end d = inv ∙ ap (walk.answer r) (at_end walk.ends walk.unended walk.reading.item walk.reading.leaves s i (sym u ∙ d))

      module _ (d : t ≡ false) where
        pub walk_other : None ≡ read_end s (byte 32 (drop i s)) → whole ≡ walk.answer r none
        unfolding on
        walk_other f = inv ∙ ap (walk.answer r) (at_other walk.ends walk.unended walk.reading.item walk.reading.leaves s i (sym u ∙ d) (skip_none s i 32 f))

        module _ {p : ℕ} (b : Some p ≡ read_end s (byte 32 (drop i s))) where
          pub walk_stuck : None ≡ seen walk.reading.made (walk.reading.item (drop p s)) → whole ≡ walk.answer r none
          unfolding on
          walk_stuck q = inv ∙ ap (walk.answer r) (at_stuck walk.ends walk.unended walk.reading.item walk.reading.leaves s i (sym u ∙ d) p (skip_is s i 32 b) (read_none walk.reading p q))

          -- what the code makes of an item is the step
          pub walk_more : {n : N} (next : R) → Some n ≡ seen walk.reading.made (walk.reading.item (drop p s)) → ((a : Read A) → n ≡ walk.reading.made a → next ≡ walk.step r a.what) → whole ≡ on next (walk.reading.next n)
          unfolding on
          walk_more {n} next q f =
              read_some walk.reading p q (λ a z m y.
              inv ∙ ap (walk.answer r) (at_more walk.ends walk.unended walk.reading.item walk.reading.leaves s i (sym u ∙ d) p (skip_is s i 32 b) a z)
              ∙ ap (λ j. walk.answer r (more a.what (any_items walk.ends walk.reading.item (drop j s)))) (sym y)
              ∙ walk.stepped r a.what (any_items walk.ends walk.reading.item (drop (walk.reading.next n) s))
              ∙ ap (λ x. walk.answer x (any_items walk.ends walk.reading.item (drop (walk.reading.next n) s))) (sym (f a m)))

-- the place where a list ends
pub end_place : (s : Bytes) (i : ℕ) → i < length s → length s - length (drop i s) ≡ i
end_place s i h = omega (arith, length-drop i s)
