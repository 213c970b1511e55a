-- The profile entries at a place as the code reads them.
use mathlib.Core.Path.{◌≡◌, refl, sym, ap, ◌∙◌}
use mathlib.Core.List.{List, [], ◌∷◌, ◌++◌, map}
use mathlib.Core.Bool.{Bool, false, ◌&&◌, not}
use mathlib.Core.Option.{none, some}
use Prim.Native.Nat.{ℕ, ◌≤◌, min}
use native.Mathlib.Omega.{arith}
use lib.IntN.{ℤ, pos}
use lib.ListN.{length, drop, set, replicate, length-map}
use Rattle.lists.specs.Lists.{every, count_from}
use Rattle.syntax.specs.Grammar.{Bytes, Entry}
use Rattle.syntax.specs.Readers.{read_entry, read_items, read_some, closes}
use Rattle.syntax.proofs.Leaving.{entry_leaves}
use Rattle.syntax.specs.Limits.{short, is_value}
use Rattle.text.specs.Words.{Found, Some, None, value_kept}
use Rattle.text.proofs.Views.{Reading}
use Rattle.items.specs.declared.EntryAt.{EntryAt}
use Rattle.items.specs.declared.Entries.{Entries}
use Rattle.items.specs.Items.{first_of, code_short, entry_seen, entries_seen, entries_found, entry_more}
use Rattle.items.proofs.Lists.{Whole, items_none, items_some, items_within, some_none, some_empty_none, some_some}
use Rattle.items.proofs.Folds.{first_more, every_more, map_more, length_more, Way, on, list_start}

-- ---- the list, entry by entry

unfoldable pub entry_reading : (s : Bytes) → Reading Entry EntryAt s
unfolding entry_seen
entry_reading s = record { item = read_entry; leaves = entry_leaves; made = entry_seen s; next = λ n. n.next; next_made = λ a. refl }

unfoldable pub entry_bounded : Entry → Bool
entry_bounded e = short e.name && is_value e.value

unfoldable pub entry_code : Entry → ℕ
entry_code e = code_short e.name

unfoldable pub entry_value : Entry → ℤ
entry_value e = value_kept e.value

unfoldable pub entry_step : Entries → Entry → Entries
entry_step r e = entry_more r (record { over = not (entry_bounded e); name = entry_code e; value = entry_value e; next = 0 })

entries_so_far : List Entry → Entries
entries_so_far es =
    record { next = 0; count = min (length es) 5; over = not (every entry_bounded es); names = first_of 4 0 (map entry_code es); values = first_of 4 (pos 0) (map entry_value es) }

alike : {c d : ℕ} {l m : Bool} {x y : List ℕ} {u v : List ℤ} → c ≡ d → l ≡ m → x ≡ y → u ≡ v
    → ◌≡◌ {A = Entries} (record { next = 0; count = c; over = l; names = x; values = u }) (record { next = 0; count = d; over = m; names = y; values = v })
alike e f g h = rw (e, f, g, h)

one_more : (es : List Entry) (e : Entry) → entry_step (entries_so_far es) e ≡ entries_so_far (es ++ (e ∷ []))
unfolding entry_step entry_more entries_so_far
one_more es e =
    let l = length_more es e in
    alike (omega arith) (every_more entry_bounded es e)
    (ap (λ n. set (first_of 4 0 (map entry_code es)) (min n 5) (entry_code e)) (sym (length-map es entry_code)) ∙ first_more 0 4 (map entry_code es) (entry_code e) ∙ ap (first_of 4 0) (map_more entry_code es e))
    (ap (λ n. set (first_of 4 (pos 0) (map entry_value es)) (min n 5) (entry_value e)) (sym (length-map es entry_value)) ∙ first_more (pos 0) 4 (map entry_value es) (entry_value e) ∙ ap (first_of 4 (pos 0)) (map_more entry_value es e))

unfoldable pub entries_way : (s : Bytes) → Way Entry EntryAt Entries s
unfolding entry_reading entry_seen entry_step entry_more entry_bounded entry_code entry_value
entries_way s =
    record {
      reading = entry_reading s;
      add = entry_more;
      step = entry_step;
      added = λ r a. refl;
      close = λ r i. record { next = i; count = r.count; over = r.over; names = r.names; values = r.values };
    }

-- what is read so far, joined to what is read on from a place
abbrev pub entries_on : Bytes → Entries → ℕ → Found Entries
entries_on s r i = on (entries_way s) r i

pub entries_start : (s : Bytes) (at : ℕ) → entries_found s at ≡ entries_on s (record { next = 0; count = 0; over = false; names = replicate 4 0; values = replicate 4 (pos 0) }) at
unfolding entries_found entries_way entry_reading entries_so_far entries_seen entry_bounded entry_code entry_value every first_of count_from
entries_start s at = list_start (entries_way s) entries_so_far one_more (entries_seen s) (λ x. refl) at

-- ---- the whole list, for a reader of lines

unfoldable entries_whole : (s : Bytes) → Whole Entry Entries s
unfolding entries_seen
entries_whole s =
    record {
      item = read_entry;
      leaves = entry_leaves;
      made = entries_seen s;
      next = λ n. n.next;
      count = λ n. n.count;
      most = 4;
      next_made = λ a. refl;
      count_made = λ a. refl;
    }

module _ (s : Bytes) (p : ℕ) where
  pub entries_none : None ≡ entries_found s p → read_items closes read_entry (length s) (drop p s) ≡ none
  unfolding entries_found entries_whole
  entries_none e = items_none (entries_whole s) p e

  pub some_entries_none : None ≡ entries_found s p → read_some closes read_entry (length s) (drop p s) ≡ none
  unfolding entries_found entries_whole
  some_entries_none e = some_none (entries_whole s) p e

  module _ {n : Entries} (e : Some n ≡ entries_found s p) where
    pub entries_some : {X : Type 0} → ((xs : List Entry) → read_items closes read_entry (length s) (drop p s) ≡ some (record { what = xs; left = drop n.next s }) → n ≡ entries_seen s (record { what = xs; left = drop n.next s }) → X) → X
    unfolding entries_found entries_whole
    entries_some k = items_some (entries_whole s) p e k

    pub entries_within : n.next ≤ length s
    unfolding entries_found entries_whole
    entries_within = items_within (entries_whole s) p e

    pub some_entries_empty_none : n.count ≡ 0 → read_some closes read_entry (length s) (drop p s) ≡ none
    unfolding entries_found entries_whole
    some_entries_empty_none z = some_empty_none (entries_whole s) p e z

    pub some_entries_some : {X : Type 0} → (n.count ≡ 0 → ⊥)
        → ((xs : List Entry) → read_some closes read_entry (length s) (drop p s) ≡ some (record { what = xs; left = drop n.next s }) → n ≡ entries_seen s (record { what = xs; left = drop n.next s }) → X) → X
    unfolding entries_found entries_whole
    some_entries_some f k = some_some (entries_whole s) p e f k
