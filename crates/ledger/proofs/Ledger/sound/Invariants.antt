use mathlib.Core.Path.{◌≡◌}
use Prim.Native.Nat.{◌-◌}
use lib.Dec.{leb}
use lib.ListN.{get_or}
use Rattle.lists.specs.Lists.{every, count_from}
use Rattle.ledger.proofs.Ledger.sound.Given as goal

abbrev pub invariant-loop-n : goal.invariant-loop-n
invariant-loop-n l = every (λ n. leb n 128) l.n-items ≡ every (λ i. leb (get_or l.n-items i 0) 128) (count_from l.n-index (4 - l.n-index))
