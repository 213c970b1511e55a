-- `all_free`: the names passed are free.
use mathlib.Core.Path.{◌≡◌}
use Prim.Native.Nat.{◌-◌}
use lib.ListN.{length, get_or}
use Rattle.lists.specs.Lists.{every, count_from}
use Rattle.schema.specs.Schemas.{code_free}
use Rattle.stream_line.proofs.all_free.Given as goal

abbrev pub invariant-loop-code : goal.invariant-loop-code
invariant-loop-code l = every code_free l.code-items ≡ every (λ i. code_free (get_or l.code-items i 0)) (count_from l.code-index (length l.code-items - l.code-index))
