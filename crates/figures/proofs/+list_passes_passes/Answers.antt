-- `passes` and `list_passes`: a place falls from one to the other.
use borrow.Author.Rules.{rules}
use Rattle.figures.proofs.Evaluating.{list_ends, pass_ends}
use Rattle.figures.proofs.+list_passes_passes.Goals as goal

pub list_passes-returns-then-j-stop : goal.list_passes-returns-then-j-stop
list_passes-returns-then-j-stop t c = search (list_ends, rules)

pub list_passes-loop-at-init : goal.list_passes-loop-at-init
list_passes-loop-at-init t c = search (list_ends, rules)

pub list_passes-returns-then-decides : goal.list_passes-returns-then-decides
list_passes-returns-then-decides t c = search (list_ends, rules)

pub list_passes-loop-at-smaller : goal.list_passes-loop-at-smaller
list_passes-loop-at-smaller t c = search (list_ends, rules)

pub list_passes-loop-at-preserved : goal.list_passes-loop-at-preserved
list_passes-loop-at-preserved t c = search (list_ends, rules)

pub list_passes-returns : goal.list_passes-returns
list_passes-returns t c = search (list_ends, rules)

pub passes-returns-then-k-eq0 : goal.passes-returns-then-k-eq0
passes-returns-then-k-eq0 t c = search pass_ends

pub passes-returns-then-not-connects : goal.passes-returns-then-not-connects
passes-returns-then-not-connects t c = search pass_ends

pub passes-returns-then-n-eq-NOT : goal.passes-returns-then-n-eq-NOT
passes-returns-then-n-eq-NOT t c = search pass_ends

pub passes-returns : goal.passes-returns
passes-returns t c = search pass_ends
