-- `with_form`: by the kinds of forms.
use Rattle.needs.proofs.Tables.{form_ends}
use Rattle.needs.proofs.Sides.with_form.Goals as goal

pub returns-then-f-eq-ROWS : goal.returns-then-f-eq-ROWS
returns-then-f-eq-ROWS c = search form_ends

pub returns-then-f-eq-PICK : goal.returns-then-f-eq-PICK
returns-then-f-eq-PICK c = search form_ends

pub returns-then-f-eq-KEEP : goal.returns-then-f-eq-KEEP
returns-then-f-eq-KEEP c = search form_ends

pub returns : goal.returns
returns c = search form_ends
