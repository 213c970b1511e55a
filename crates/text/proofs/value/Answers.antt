-- `value`: the capped value of the digits so far.
use native.Mathlib.Omega.{arith}
use Rattle.syntax.specs.Readers.{value_from}
use Rattle.text.proofs.Numbers.{value_more}
use Rattle.text.proofs.value.Goals as goal

pub loop-b-init : goal.loop-b-init
unfolding value_from
loop-b-init c = omega arith

pub loop-b-preserved : goal.loop-b-preserved
loop-b-preserved c = value_more c.args.digits.now c.loop-b.b-index (omega arith) c.loop-b.invariant c.with_digit-v.ensures
