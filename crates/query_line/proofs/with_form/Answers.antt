-- `with_form`: by the kind of the form.
use Rattle.query_line.proofs.Steps.{form_ends}
use Rattle.query_line.proofs.with_form.Goals as goal

pub returns-then-f-eq-ROWS : goal.returns-then-f-eq-ROWS
returns-then-f-eq-ROWS c = search form_ends

pub returns-then-f-eq-PICK : goal.returns-then-f-eq-PICK
returns-then-f-eq-PICK c = search form_ends

pub returns-then-f-eq-KEEP : goal.returns-then-f-eq-KEEP
returns-then-f-eq-KEEP c = search form_ends

pub returns-then-f-eq-JOIN : goal.returns-then-f-eq-JOIN
returns-then-f-eq-JOIN c = search form_ends

pub returns : goal.returns
returns c = search form_ends
