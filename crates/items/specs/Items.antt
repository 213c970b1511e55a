-- Lists of names, numbers and profile entries in a line: each item after one space, up to a closing bracket.
use Rattle.std.specs.Prelude.{List, map, Bool, ◌&&◌, ◌||◌, not, cond, ℕ, suc, min, ℤ, pos, eqb, length, drop, take, get_or, set, is_none, unwrap_or}
use Rattle.lists.specs.Lists.{every, distinct, count_from}
use Rattle.syntax.specs.Grammar.{Bytes, Entry}
use Rattle.syntax.specs.Readers.{Read, closes, read_name, read_int, read_entry}
use Rattle.syntax.specs.Limits.{max_columns, max_entries, short, is_value}
use Rattle.text.specs.declared.Name.{Name}
use Rattle.text.specs.Words.{Found, seen, left_at, code_of, value_kept}
use Rattle.text.specs.Readings.{any_items}
use Rattle.items.specs.declared.Names.{Names}
use Rattle.items.specs.declared.Values.{Values}
use Rattle.items.specs.declared.Entries.{Entries}
use Rattle.items.specs.declared.EntryAt.{EntryAt}

-- the first n of a list, with a filler past its end
unfoldable pub first_of : {A : Type 0} → ℕ → A → List A → List A
first_of n filler xs = map (λ i. get_or xs i filler) (count_from 0 n)

-- ---- names

-- a name as a number, 0 where it is longer than a name may be
unfoldable pub code_short : Bytes → ℕ
code_short w = cond (short w) (code_of w) 0

-- the place after them, how many (7 for more than 6), whether one is longer than a name may be, and the numbers of the first six
unfoldable pub names_seen : Bytes → Read (List Bytes) → Names
names_seen s r =
    record {
      next = left_at s r;
      count = min (length r.what) (suc max_columns);
      long = not (every short r.what);
      codes = first_of max_columns 0 (map code_short r.what);
    }

unfoldable pub names_found : Bytes → ℕ → Found Names
names_found s at = seen (names_seen s) (any_items closes read_name (drop at s))

-- what is read so far, with one name more
unfoldable pub name_more : Names → Name → Names
name_more r n = record { next = r.next; count = min (suc r.count) (suc max_columns); long = r.long || n.long; codes = set r.codes r.count n.code }

-- ---- numbers

-- the place after them, how many (7 for more than 6), whether one is beyond 32 bits, and the first six
unfoldable pub values_seen : Bytes → Read (List ℤ) → Values
values_seen s r =
    record {
      next = left_at s r;
      count = min (length r.what) (suc max_columns);
      wide = not (every is_value r.what);
      values = first_of max_columns (pos 0) (map value_kept r.what);
    }

unfoldable pub values_found : Bytes → ℕ → Found Values
values_found s at = seen (values_seen s) (any_items closes read_int (drop at s))

-- what is read so far, with one number more
unfoldable pub value_more : Values → Found ℤ → Values
value_more r v = record { next = r.next; count = min (suc r.count) (suc max_columns); wide = r.wide || is_none v; values = set r.values r.count (unwrap_or v (pos 0)) }

-- ---- profile entries

-- the entry at a place: whether its name is too long or its value beyond 32 bits, its name's number and its value, and the place after it
unfoldable pub entry_seen : Bytes → Read Entry → EntryAt
entry_seen s r =
    record {
      over = not (short r.what.name && is_value r.what.value);
      name = code_short r.what.name;
      value = value_kept r.what.value;
      next = left_at s r;
    }

unfoldable pub entry_found : Bytes → ℕ → Found EntryAt
entry_found s at = seen (entry_seen s) (read_entry (drop at s))

-- the place after them, how many (5 for more than 4), whether a name is too long or a value beyond 32 bits, and the first four
unfoldable pub entries_seen : Bytes → Read (List Entry) → Entries
entries_seen s r =
    record {
      next = left_at s r;
      count = min (length r.what) (suc max_entries);
      over = not (every (λ e. short e.name && is_value e.value) r.what);
      names = first_of max_entries 0 (map (λ e. code_short e.name) r.what);
      values = first_of max_entries (pos 0) (map (λ e. value_kept e.value) r.what);
    }

unfoldable pub entries_found : Bytes → ℕ → Found Entries
entries_found s at = seen (entries_seen s) (any_items closes read_entry (drop at s))

-- what is read so far, with one entry more
unfoldable pub entry_more : Entries → EntryAt → Entries
entry_more r e =
    record {
      next = r.next;
      count = min (suc r.count) (suc max_entries);
      over = r.over || e.over;
      names = set r.names r.count e.name;
      values = set r.values r.count e.value;
    }

-- ---- sameness

-- of the first n numbers of a list none stands twice
unfoldable pub once : List ℕ → ℕ → Bool
once xs n = distinct eqb (take n xs)
