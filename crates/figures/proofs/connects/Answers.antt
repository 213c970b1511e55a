use Rattle.figures.proofs.Evaluating.{connect_ends}
use Rattle.figures.proofs.connects.Goals as goal

pub returns-then-head-eq-AND : goal.returns-then-head-eq-AND
returns-then-head-eq-AND c = search connect_ends

pub returns-then-head-eq-OR : goal.returns-then-head-eq-OR
returns-then-head-eq-OR c = search connect_ends

pub returns : goal.returns
returns c = search connect_ends
