use mathlib.Core.Path.{◌≡◌}
use Prim.Native.Nat.{◌-◌}
use lib.Dec.{eqb}
use lib.ListN.{get_or}
use Rattle.lists.specs.Lists.{every, count_from}
use Rattle.ledger.proofs.Ledger.rest_empty.Given as goal

abbrev pub invariant-loop-s : goal.invariant-loop-s
invariant-loop-s l = (every (λ i. eqb (get_or l.self.rows i 0) 0) (count_from l.n (4 - l.n)) ≡ every (λ i. eqb (get_or l.self.rows i 0) 0) (count_from l.s (4 - l.s)))
