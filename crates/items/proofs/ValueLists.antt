-- The numbers at a place as the code reads them.
use mathlib.Core.Path.{◌≡◌, refl, sym, ap, ◌∙◌}
use mathlib.Core.List.{List, [], ◌∷◌, ◌++◌, map}
use mathlib.Core.Bool.{Bool, false, not}
use mathlib.Core.Option.{none, some}
use Prim.Native.Nat.{ℕ, ◌≤◌, min}
use native.Mathlib.Omega.{arith}
use lib.IntN.{ℤ, pos}
use lib.ListN.{length, drop, set, replicate, length-map}
use Rattle.lists.specs.Lists.{every, count_from}
use Rattle.syntax.specs.Grammar.{Bytes}
use Rattle.syntax.specs.Readers.{read_int, read_items, read_some, closes}
use Rattle.syntax.proofs.Leaving.{int_leaves}
use Rattle.syntax.specs.Limits.{is_value}
use Rattle.text.specs.declared.Number.{Number}
use Rattle.text.specs.Words.{Found, Some, None, number_seen, value_kept, value_given}
use Rattle.text.proofs.Ranges.{value_clamp}
use Rattle.text.proofs.Views.{number_reading}
use Rattle.text.proofs.Found.{value_flag, value_or}
use Rattle.items.specs.declared.Values.{Values}
use Rattle.items.specs.Items.{first_of, values_seen, values_found, value_more}
use Rattle.items.proofs.Lists.{Whole, items_none, items_some, items_within, some_none, some_empty_none, some_some}
use Rattle.items.proofs.Folds.{first_more, every_more, map_more, length_more, Way, on, list_start}

-- ---- the list, number by number

unfoldable pub value_step : Values → ℤ → Values
value_step r z = value_more r (value_given z)

values_so_far : List ℤ → Values
values_so_far zs = record { next = 0; count = min (length zs) 7; wide = not (every is_value zs); values = first_of 6 (pos 0) (map value_kept zs) }

alike : {c d : ℕ} {l m : Bool} {x y : List ℤ} → c ≡ d → l ≡ m → x ≡ y → ◌≡◌ {A = Values} (record { next = 0; count = c; wide = l; values = x }) (record { next = 0; count = d; wide = m; values = y })
alike e f g = rw (e, f, g)

one_more : (zs : List ℤ) (z : ℤ) → value_step (values_so_far zs) z ≡ values_so_far (zs ++ (z ∷ []))
unfolding value_step value_more values_so_far
one_more zs z =
    let l = length_more zs z in
    let m : min (length zs) 7 ≡ min (length (map value_kept zs)) 7 = ap (λ n. min n 7) (sym (length-map zs value_kept)) in
    rw (value_flag z, value_or z)
    (alike (omega arith) (every_more is_value zs z)
    (ap (λ n. set (first_of 6 (pos 0) (map value_kept zs)) n (value_kept z)) m ∙ first_more (pos 0) 6 (map value_kept zs) (value_kept z) ∙ ap (first_of 6 (pos 0)) (map_more value_kept zs z)))

unfoldable pub values_way : (s : Bytes) → Way ℤ Number Values s
unfolding number_reading number_seen value_step
values_way s =
    record {
      reading = number_reading s;
      add = λ r n. value_more r (value_given n.value);
      step = value_step;
      added = λ r a. ap (value_more r) (value_clamp a.what);
      close = λ r i. record { next = i; count = r.count; wide = r.wide; values = r.values };
    }

-- what is read so far, joined to what is read on from a place
abbrev pub values_on : Bytes → Values → ℕ → Found Values
values_on s r i = on (values_way s) r i

pub values_start : (s : Bytes) (at : ℕ) → values_found s at ≡ values_on s (record { next = 0; count = 0; wide = false; values = replicate 6 (pos 0) }) at
unfolding values_found values_way number_reading values_so_far values_seen every first_of count_from
values_start s at = list_start (values_way s) values_so_far one_more (values_seen s) (λ x. refl) at

-- ---- the whole list, for a reader of lines

unfoldable values_whole : (s : Bytes) → Whole ℤ Values s
unfolding values_seen
values_whole s =
    record {
      item = read_int;
      leaves = int_leaves;
      made = values_seen s;
      next = λ n. n.next;
      count = λ n. n.count;
      most = 6;
      next_made = λ a. refl;
      count_made = λ a. refl;
    }

module _ (s : Bytes) (p : ℕ) where
  pub values_none : None ≡ values_found s p → read_items closes read_int (length s) (drop p s) ≡ none
  unfolding values_found values_whole
  values_none e = items_none (values_whole s) p e

  pub some_values_none : None ≡ values_found s p → read_some closes read_int (length s) (drop p s) ≡ none
  unfolding values_found values_whole
  some_values_none e = some_none (values_whole s) p e

  module _ {n : Values} (e : Some n ≡ values_found s p) where
    pub values_some : {X : Type 0} → ((xs : List ℤ) → read_items closes read_int (length s) (drop p s) ≡ some (record { what = xs; left = drop n.next s }) → n ≡ values_seen s (record { what = xs; left = drop n.next s }) → X) → X
    unfolding values_found values_whole
    values_some k = items_some (values_whole s) p e k

    pub values_within : n.next ≤ length s
    unfolding values_found values_whole
    values_within = items_within (values_whole s) p e

    pub some_values_empty_none : n.count ≡ 0 → read_some closes read_int (length s) (drop p s) ≡ none
    unfolding values_found values_whole
    some_values_empty_none z = some_empty_none (values_whole s) p e z

    pub some_values_some : {X : Type 0} → (n.count ≡ 0 → ⊥)
        → ((xs : List ℤ) → read_some closes read_int (length s) (drop p s) ≡ some (record { what = xs; left = drop n.next s }) → n ≡ values_seen s (record { what = xs; left = drop n.next s }) → X) → X
    unfolding values_found values_whole
    some_values_some f k = some_some (values_whole s) p e f k
