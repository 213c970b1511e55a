-- The names at a place as the code reads them.
use mathlib.Core.Path.{◌≡◌, refl, sym, ap, ◌∙◌}
use mathlib.Core.List.{List, [], ◌∷◌, ◌++◌, map}
use mathlib.Core.Bool.{Bool, false, not}
use mathlib.Core.Option.{none, some}
use Prim.Native.Nat.{ℕ, ◌≤◌, min}
use native.Mathlib.Omega.{arith}
use lib.ListN.{length, drop, set, replicate, length-map}
use Rattle.lists.specs.Lists.{every, count_from}
use Rattle.syntax.specs.Grammar.{Bytes}
use Rattle.syntax.specs.Readers.{read_name, read_items, read_some, closes}
use Rattle.syntax.proofs.Leaving.{name_leaves}
use Rattle.syntax.specs.Limits.{short}
use Rattle.text.specs.declared.Name.{Name}
use Rattle.text.specs.Words.{Found, Some, None, name_seen}
use Rattle.text.proofs.Views.{name_reading}
use Rattle.items.specs.declared.Names.{Names}
use Rattle.items.specs.Items.{first_of, code_short, names_seen, names_found, name_more}
use Rattle.items.proofs.Lists.{Whole, items_none, items_some, items_within, some_none, some_empty_none, some_some}
use Rattle.items.proofs.Folds.{first_more, every_more, map_more, length_more, Way, on, list_start}

-- ---- the list, name by name

unfoldable pub name_step : Names → Bytes → Names
name_step r w = name_more r (record { long = not (short w); code = code_short w; next = 0 })

names_so_far : List Bytes → Names
names_so_far ws = record { next = 0; count = min (length ws) 7; long = not (every short ws); codes = first_of 6 0 (map code_short ws) }

alike : {c d : ℕ} {l m : Bool} {x y : List ℕ} → c ≡ d → l ≡ m → x ≡ y → ◌≡◌ {A = Names} (record { next = 0; count = c; long = l; codes = x }) (record { next = 0; count = d; long = m; codes = y })
alike e f g = rw (e, f, g)

one_more : (ws : List Bytes) (w : Bytes) → name_step (names_so_far ws) w ≡ names_so_far (ws ++ (w ∷ []))
unfolding name_step name_more names_so_far
one_more ws w =
    let l = length_more ws w in
    let m : min (length ws) 7 ≡ min (length (map code_short ws)) 7 = ap (λ n. min n 7) (sym (length-map ws code_short)) in
    alike (omega arith) (every_more short ws w)
    (ap (λ n. set (first_of 6 0 (map code_short ws)) n (code_short w)) m ∙ first_more 0 6 (map code_short ws) (code_short w) ∙ ap (first_of 6 0) (map_more code_short ws w))

unfoldable pub names_way : (s : Bytes) → Way Bytes Name Names s
unfolding name_reading name_seen name_step name_more code_short
names_way s =
    record {
      reading = name_reading s;
      add = name_more;
      step = name_step;
      added = λ r a. refl;
      close = λ r i. record { next = i; count = r.count; long = r.long; codes = r.codes };
    }

-- what is read so far, joined to what is read on from a place
abbrev pub names_on : Bytes → Names → ℕ → Found Names
names_on s r i = on (names_way s) r i

pub names_start : (s : Bytes) (at : ℕ) → names_found s at ≡ names_on s (record { next = 0; count = 0; long = false; codes = replicate 6 0 }) at
unfolding names_found names_way name_reading names_so_far names_seen every first_of count_from
names_start s at = list_start (names_way s) names_so_far one_more (names_seen s) (λ x. refl) at

-- ---- the whole list, for a reader of lines

unfoldable names_whole : (s : Bytes) → Whole Bytes Names s
unfolding names_seen
names_whole s =
    record {
      item = read_name;
      leaves = name_leaves;
      made = names_seen s;
      next = λ n. n.next;
      count = λ n. n.count;
      most = 6;
      next_made = λ a. refl;
      count_made = λ a. refl;
    }

module _ (s : Bytes) (p : ℕ) where
  pub names_none : None ≡ names_found s p → read_items closes read_name (length s) (drop p s) ≡ none
  unfolding names_found names_whole
  names_none e = items_none (names_whole s) p e

  pub some_names_none : None ≡ names_found s p → read_some closes read_name (length s) (drop p s) ≡ none
  unfolding names_found names_whole
  some_names_none e = some_none (names_whole s) p e

  module _ {n : Names} (e : Some n ≡ names_found s p) where
    pub names_some : {X : Type 0} → ((xs : List Bytes) → read_items closes read_name (length s) (drop p s) ≡ some (record { what = xs; left = drop n.next s }) → n ≡ names_seen s (record { what = xs; left = drop n.next s }) → X) → X
    unfolding names_found names_whole
    names_some k = items_some (names_whole s) p e k

    pub names_within : n.next ≤ length s
    unfolding names_found names_whole
    names_within = items_within (names_whole s) p e

    pub some_names_empty_none : n.count ≡ 0 → read_some closes read_name (length s) (drop p s) ≡ none
    unfolding names_found names_whole
    some_names_empty_none z = some_empty_none (names_whole s) p e z

    pub some_names_some : {X : Type 0} → (n.count ≡ 0 → ⊥)
        → ((xs : List Bytes) → read_some closes read_name (length s) (drop p s) ≡ some (record { what = xs; left = drop n.next s }) → n ≡ names_seen s (record { what = xs; left = drop n.next s }) → X) → X
    unfolding names_found names_whole
    some_names_some f k = some_some (names_whole s) p e f k
