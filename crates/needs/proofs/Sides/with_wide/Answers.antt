-- `with_wide`: by the kinds of forms.
use Rattle.needs.proofs.Tables.{wide_ends}
use Rattle.needs.proofs.Sides.with_wide.Goals as goal

pub returns-then-f-eq-JOIN : goal.returns-then-f-eq-JOIN
returns-then-f-eq-JOIN c = search wide_ends

pub returns-then-f-eq-AGGREGATE : goal.returns-then-f-eq-AGGREGATE
returns-then-f-eq-AGGREGATE c = search wide_ends

pub returns : goal.returns
returns c = search wide_ends
