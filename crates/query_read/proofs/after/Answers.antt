-- `after`: what is passed and what is to be passed, from the first place on.
use Rattle.text.proofs.Places.{next_fits}
use native.Mathlib.Omega.{arith}
use mathlib.Core.Path.{refl}
use Rattle.query_read.proofs.Nesting.{after_ends}
use Rattle.query_read.proofs.after.Goals as goal

pub loop-n-init : goal.loop-n-init
loop-n-init c = (refl, omega arith)

pub returns-then-b-ne32 : goal.returns-then-b-ne32
returns-then-b-ne32 c = search after_ends

pub overflow_add-result : goal.overflow_add-result
overflow_add-result c = search next_fits

pub returns-then-second-n : goal.returns-then-second-n
returns-then-second-n c = search after_ends

pub returns-then-b-ne41 : goal.returns-then-b-ne41
returns-then-b-ne41 c = search after_ends

pub overflow_add-p : goal.overflow_add-p
overflow_add-p c = search next_fits

pub loop-n-preserved : goal.loop-n-preserved
loop-n-preserved c = (search after_ends, omega arith)

pub returns : goal.returns
returns c = search after_ends
