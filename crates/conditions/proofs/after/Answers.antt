use mathlib.Core.Path.{refl}
use native.Mathlib.Omega.{arith}
use Rattle.text.proofs.Places.{next_fits}
use Rattle.conditions.proofs.Skipping.{after_ends}
use Rattle.conditions.proofs.after.Goals as goal

pub loop-n-init : goal.loop-n-init
loop-n-init c = (refl, omega arith)

pub overflow_add-p : goal.overflow_add-p
overflow_add-p c = search next_fits

pub loop-n-preserved : goal.loop-n-preserved
loop-n-preserved c = (search after_ends, omega arith)

pub returns-then-b-ne32 : goal.returns-then-b-ne32
returns-then-b-ne32 c = search after_ends

pub returns-then-single-n : goal.returns-then-single-n
returns-then-single-n c = search after_ends

pub overflow_add-result : goal.overflow_add-result
overflow_add-result c = search next_fits

pub returns-in-loop-n : goal.returns-in-loop-n
returns-in-loop-n c = search after_ends

pub returns : goal.returns
returns c = search after_ends
