-- The roles and the profile of a caller as numbers, as the code hands them on: whatever the struct holds, no more than may be lent.
use Rattle.std.specs.Prelude.{List, [], ◌∷◌, map, ℕ, pos, get_or}
use Rattle.lists.specs.Lists.{gather, count_from}
use Rattle.terms.specs.Terms.{biased}
use Rattle.caller.specs.declared.Caller.{Caller}
use Rattle.caller.specs.Callers.{roles_in, entries_in}

unfoldable pub roles_of : Caller → List ℕ
roles_of w = map (λ i. get_or w.role i 0) (count_from 0 (roles_in w))

-- an entry's name and value
unfoldable pub entry_numbers : Caller → ℕ → List ℕ
entry_numbers w i = get_or w.name i 0 ∷ (biased (get_or w.value i (pos 0)) ∷ [])

-- those of the first k entries
unfoldable pub numbers_of : Caller → ℕ → List ℕ
numbers_of w k = gather (entry_numbers w) (count_from 0 k)

unfoldable pub profile_of : Caller → List ℕ
profile_of w = numbers_of w (entries_in w)
