use Rattle.figures.proofs.Evaluating.{decide_ends}
use Rattle.figures.proofs.decides.Goals as goal

pub returns-then-any : goal.returns-then-any
returns-then-any c = search decide_ends

pub returns : goal.returns
returns c = search decide_ends
