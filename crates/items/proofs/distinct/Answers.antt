-- `distinct`: the numbers passed stand once.
use mathlib.Core.Path.{refl}
use native.Mathlib.Omega.{arith}
use Rattle.items.proofs.Sameness.{distinct_over, distinct_twice, distinct_more}
use Rattle.items.proofs.distinct.Goals as goal

pub loop-i-init : goal.loop-i-init
loop-i-init c = refl

pub returns-then-contains : goal.returns-then-contains
returns-then-contains c = distinct_twice _ _ c.loop-i.invariant (omega arith) c.contains.ensures.value c.if-contains.true

pub loop-i-preserved : goal.loop-i-preserved
loop-i-preserved c = distinct_more _ _ c.loop-i.invariant (omega arith) c.contains.ensures.value c.if-contains.false

pub returns : goal.returns
returns c = distinct_over _ _ c.loop-i.invariant (omega arith)
