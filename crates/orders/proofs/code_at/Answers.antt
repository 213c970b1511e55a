-- `code_at`: the columns from the first on, as long as the column is among them.
use mathlib.Core.Path.{◌≡◌}
use Prim.Native.Nat.{◌+◌, ◌-◌}
use native.Mathlib.Omega.{arith}
use Rattle.orders.proofs.Turns.{at_on, at_end, at_ends}
use Rattle.orders.proofs.code_at.Goals as goal

pub returns-then-n-i : goal.returns-then-n-i
returns-then-n-i c = search at_ends

pub loop-k-init : goal.loop-k-init
loop-k-init c = rw (let e : c.count-n.result + (c.args.i + 1) - (c.args.i + 1) ≡ c.count-n.result = omega arith in e) (search at_ends)

pub loop-k-preserved : goal.loop-k-preserved
loop-k-preserved c = at_on _ _ _ _ c.loop-k.invariant (omega arith) (omega arith)

pub returns : goal.returns
returns c = at_end _ _ _ _ c.loop-k.invariant (omega arith) c.last.ensures
