-- `all_valid`: the numbers passed are names.
use mathlib.Core.Path.{◌≡◌}
use Prim.Native.Nat.{◌-◌}
use lib.ListN.{length, get_or}
use Rattle.lists.specs.Lists.{every, count_from}
use Rattle.caller.specs.Callers.{code_valid}
use Rattle.caller.proofs.all_valid.Given as goal

abbrev pub invariant-loop-code : goal.invariant-loop-code
invariant-loop-code l = every code_valid l.code-items ≡ every (λ i. code_valid (get_or l.code-items i 0)) (count_from l.code-index (length l.code-items - l.code-index))
