use native.Mathlib.Omega.{arith}
use borrow.Author.Rules.{rules}
use Rattle.windows.specs.Events.{event_at}
use Rattle.windows.proofs.event_at.Goals as goal

pub overflow_cast-result : goal.overflow_cast-result
overflow_cast-result c = omega (arith, c.shared_slice_known-2-1.given c.args.k)

pub returns : goal.returns
unfolding event_at
returns c = search rules
