-- The caller's profile that lent numbers stand for: a name's number and a value by turns, the value in 32 bits with the lowest as 0.
use Rattle.std.specs.Prelude.{List, map, ℕ, ◌+◌, ◌*◌, ◌/◌, ◌%◌, length, get_or}
use Rattle.lists.specs.Lists.{count_from}
use Rattle.syntax.specs.Grammar.{Entry}
use Rattle.text.specs.Words.{name_of}
use Rattle.nodes.specs.Nodes.{unbiased}

unfoldable pub entry_at : List ℕ → ℕ → Entry
entry_at ps i = record { name = name_of (get_or ps (i * 2) 0); value = unbiased (get_or ps (i * 2 + 1) 0 % 4294967296) }

unfoldable pub profile_in : List ℕ → List Entry
profile_in ps = map (entry_at ps) (count_from 0 (length ps / 2))
