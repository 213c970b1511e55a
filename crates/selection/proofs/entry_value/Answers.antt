-- `entry_value`: the value is that of the entries that are left.
use borrow.Author.Rules.{rules}
use native.Mathlib.Omega.{arith}
use Rattle.selection.proofs.Sides.{entry_on, entry_ends}
use Rattle.selection.proofs.entry_value.Goals as goal

pub loop-e-init : goal.loop-e-init
loop-e-init c = search entry_ends

pub loop-e-preserved : goal.loop-e-preserved
loop-e-preserved c = entry_on c.as_chunks.result.0.now c.args.value c.loop-e.e-index c.loop-e.invariant (omega arith) (omega arith) (omega arith) c.if-e-value.false

pub returns-then-e-value : goal.returns-then-e-value
returns-then-e-value c = search (entry_ends, rules)

pub returns : goal.returns
returns c = search (entry_ends, rules)
