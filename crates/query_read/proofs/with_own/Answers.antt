-- `with_own`: by whether there is a place.
use Rattle.query_read.proofs.Leaves.{with_ends}
use Rattle.query_read.proofs.with_own.Goals as goal

pub returns-then-at-ge-FORMS : goal.returns-then-at-ge-FORMS
returns-then-at-ge-FORMS c = search with_ends

pub returns : goal.returns
returns c = search with_ends
