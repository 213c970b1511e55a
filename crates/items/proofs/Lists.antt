-- Lists of items in a text, whatever an item is: the steps of a list up to a closing bracket, and the whole list for a reader of lines.
use mathlib.Core.Path.{◌≡◌, refl, sym, ap, ◌∙◌}
use mathlib.Core.List.{List, [], ◌∷◌}
use mathlib.Core.Bool.{Bool, true, false, not}
use mathlib.Core.Option.{Option, none, some}
use Prim.Native.Nat.{ℕ, suc, ◌≤◌, min}
use native.Mathlib.Omega.{arith}
use lib.Dec.{eqb, ltb}
use lib.ListN.{length, drop, get_or, drop_of_length-le, get_or-eq_default}
use lib.Seq.{drop-cons}
use borrow.Author.Tests.{ne_eqb, ltb-true, ltb-false}
use Rattle.lists.specs.Lists.{empty?}
use Rattle.syntax.specs.Grammar.{Bytes}
use Rattle.syntax.specs.Readers.{Read, Reader, bind, ensure, byte, read_items, read_some, closes}
use Rattle.syntax.proofs.Leaving.{Leaves}
use Rattle.text.specs.Readings.{any_items}
use Rattle.text.proofs.Fuel.{no_close, items_step, items_here, any_items_leaves}
use Rattle.text.specs.Words.{Some, None, seen, left_at}
use Rattle.text.proofs.Views.{Reading, read_none, read_here, read_within}

-- ---- steps

-- one item in front of those that are read
unfoldable pub more : {A : Type 0} → A → Option (Read (List A)) → Option (Read (List A))
more x o = bind o (λ xs. some (record { what = x ∷ xs.what; left = xs.left }))

-- whether a list ends at a place tells the byte there
closes_is : (s : Bytes) (i : ℕ) → closes (drop i s) ≡ eqb 41 (get_or s i 0)
unfolding closes
closes_is s i = go (ltb i (length s)) refl
  where
    go : (b : Bool) → ltb i (length s) ≡ b → closes (drop i s) ≡ eqb 41 (get_or s i 0)
    go true t = rw (drop-cons s i 0 (ltb-true i (length s) t))
    go false t = let h = ltb-false i (length s) t in rw (drop_of_length-le s h, get_or-eq_default s 0 h)

module _ {A : Type 0} (item : Reader A) (leaves : Leaves item) (s : Bytes) (i : ℕ) {b : ℕ} (p : b ≡ get_or s i 0) where
  pub items_end : b ≡ 41 → any_items closes item (drop i s) ≡ some (record { what = []; left = drop i s })
  items_end e = items_step closes no_close item leaves (drop i s) ∙ rw (closes_is s i, sym p, e)

  module _ (n : b ≡ 41 → ⊥) where
    open_still : closes (drop i s) ≡ false
    open_still = closes_is s i ∙ ap (eqb 41) (sym p) ∙ ne_eqb 41 b (λ e. n (sym e))

    pub items_unspaced : byte 32 (drop i s) ≡ none → any_items closes item (drop i s) ≡ none
    unfolding bind
    items_unspaced f = items_step closes no_close item leaves (drop i s) ∙ rw (open_still, f)

    module _ (q : ℕ) (f : byte 32 (drop i s) ≡ some (record { what = tt; left = drop q s })) where
      pub items_stuck : item (drop q s) ≡ none → any_items closes item (drop i s) ≡ none
      unfolding bind
      items_stuck g = items_step closes no_close item leaves (drop i s) ∙ rw (open_still, f, g)

      pub items_more : {x : A} {l : Bytes} → item (drop q s) ≡ some (record { what = x; left = l }) → any_items closes item (drop i s) ≡ more x (any_items closes item l)
      unfolding bind more
      items_more g = items_step closes no_close item leaves (drop i s) ∙ rw (open_still, f, g)

-- ---- the whole list

-- what the code has of a list: its count is 0 for no item
pub record Whole (A R : Type 0) (s : Bytes) : Type 0 where
  pub item : Reader A
  pub leaves : Leaves item
  pub made : Read (List A) → R
  pub next : R → ℕ
  pub count : R → ℕ
  pub most : ℕ
  pub next_made : (a : Read (List A)) → next (made a) ≡ left_at s a
  pub count_made : (a : Read (List A)) → count (made a) ≡ min (length a.what) (suc most)

module _ {A R : Type 0} {s : Bytes} (list : Whole A R s) (p : ℕ) where
  reading : Reading (List A) R s
  reading =
      record {
        item = any_items closes list.item;
        leaves = any_items_leaves closes no_close list.item list.leaves;
        made = list.made;
        next = list.next;
        next_made = list.next_made;
      }

  pub items_none : None ≡ seen list.made (any_items closes list.item (drop p s)) → read_items closes list.item (length s) (drop p s) ≡ none
  unfolding reading
  items_none e = items_here s p list.item list.leaves ∙ read_none reading p e

  pub some_none : None ≡ seen list.made (any_items closes list.item (drop p s)) → read_some closes list.item (length s) (drop p s) ≡ none
  unfolding read_some bind
  some_none e = rw (items_none e)

  module _ {n : R} (e : Some n ≡ seen list.made (any_items closes list.item (drop p s))) where
    pub items_some : {X : Type 0}
        → ((xs : List A) → read_items closes list.item (length s) (drop p s) ≡ some (record { what = xs; left = drop (list.next n) s }) → n ≡ list.made (record { what = xs; left = drop (list.next n) s }) → X) → X
    unfolding reading
    items_some k = read_here reading p e (λ xs r m. k xs (items_here s p list.item list.leaves ∙ r) m)

    pub items_within : list.next n ≤ length s
    unfolding reading
    items_within = read_within reading p e

    pub some_empty_none : list.count n ≡ 0 → read_some closes list.item (length s) (drop p s) ≡ none
    unfolding read_some bind ensure empty?
    some_empty_none z = items_some (λ xs r m. let c = sym (ap list.count m ∙ list.count_made _) ∙ z in rw r (go xs _ c))
      where
        go : (xs : List A) (l : Bytes) → min (length xs) (suc list.most) ≡ 0 → ensure {A = Read (List A)} (not (empty? xs)) (record { what = xs; left = l }) ≡ none
        go [] l c = refl
        go (x ∷ xs) l c = absurd (omega arith)

    pub some_some : {X : Type 0} → (list.count n ≡ 0 → ⊥)
        → ((xs : List A) → read_some closes list.item (length s) (drop p s) ≡ some (record { what = xs; left = drop (list.next n) s }) → n ≡ list.made (record { what = xs; left = drop (list.next n) s }) → X) → X
    unfolding read_some bind ensure empty?
    some_some f k = items_some (λ xs r m. k xs (rw r (go xs _ (λ z. f (ap list.count m ∙ list.count_made _ ∙ z)))) m)
      where
        go : (xs : List A) (l : Bytes) → (min (length xs) (suc list.most) ≡ 0 → ⊥) → ensure {A = Read (List A)} (not (empty? xs)) (record { what = xs; left = l }) ≡ some (record { what = xs; left = l })
        go [] l c = absurd (c (omega arith))
        go (x ∷ xs) l c = refl
