-- The caller that a struct stands for, and whether it may be lent.
use Rattle.std.specs.Prelude.{List, map, Bool, ◌&&◌, ℕ, min, pos, leb, get_or, take, replicate}
use Rattle.lists.specs.Lists.{every, distinct, same_list, count_from}
use Rattle.syntax.specs.Grammar as G
use Rattle.syntax.specs.Grammar.{Bytes, Entry}
use Rattle.syntax.specs.Limits.{max_roles, max_entries}
use Rattle.calls.specs.Validity.{valid_name, valid_caller}
use Rattle.text.specs.Words.{name_of}
use Rattle.caller.specs.declared.Caller.{Caller}

-- ---- the caller that a struct stands for, whatever it holds

unfoldable pub roles_in : Caller → ℕ
roles_in w = min w.roles max_roles

unfoldable pub entries_in : Caller → ℕ
entries_in w = min w.entries max_entries

unfoldable pub role_in : Caller → ℕ → Bytes
role_in w i = name_of (get_or w.role i 0)

unfoldable pub entry_in : Caller → ℕ → Entry
entry_in w i = record { name = name_of (get_or w.name i 0); value = get_or w.value i (pos 0) }

unfoldable pub caller_of : Caller → G.Caller
caller_of w = record { roles = map (role_in w) (count_from 0 (roles_in w)); profile = map (entry_in w) (count_from 0 (entries_in w)) }

-- refusal 12: its counts are within their bounds, and the caller is valid. So of what stands for a valid caller only a count above its bound is refused.
unfoldable pub caller_sound : Caller → Bool
caller_sound w = leb w.roles max_roles && leb w.entries max_entries && valid_caller (caller_of w)

-- ---- its names

unfoldable pub code_valid : ℕ → Bool
code_valid n = valid_name (name_of n)

-- the names of the first n numbers
unfoldable pub names_of : List ℕ → ℕ → List Bytes
names_of codes n = map name_of (take n codes)

-- they are names, and none stands twice
unfoldable pub names_sound : List ℕ → ℕ → Bool
names_sound codes n = every code_valid (take n codes) && distinct same_list (names_of codes n)

-- ---- no role and no entry

unfoldable pub no_caller : Caller
no_caller = record { roles = 0; role = replicate max_roles 0; entries = 0; name = replicate max_entries 0; value = replicate max_entries (pos 0) }
