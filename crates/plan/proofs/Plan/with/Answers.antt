-- `with`: a form of each kind.
use Rattle.plan.proofs.Steps.{step_ends}
use Rattle.plan.proofs.Plan.with.Goals as goal

pub returns-then-k-eq-ROWS : goal.returns-then-k-eq-ROWS
returns-then-k-eq-ROWS c = search step_ends

pub returns-then-k-eq-PICK : goal.returns-then-k-eq-PICK
returns-then-k-eq-PICK c = search step_ends

pub returns-then-k-eq-KEEP : goal.returns-then-k-eq-KEEP
returns-then-k-eq-KEEP c = search step_ends

pub returns-then-k-eq-JOIN : goal.returns-then-k-eq-JOIN
returns-then-k-eq-JOIN c = search step_ends

pub returns-then-k-eq-AGGREGATE : goal.returns-then-k-eq-AGGREGATE
returns-then-k-eq-AGGREGATE c = search step_ends

pub returns : goal.returns
returns c = search step_ends
