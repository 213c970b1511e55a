-- `form_in`: its five words, or no such form.
use Rattle.query.proofs.Rewritten.{form_ends}
use Rattle.query.proofs.form_in.Goals as goal

pub returns-then-count_in-i : goal.returns-then-count_in-i
returns-then-count_in-i c = search form_ends

pub returns : goal.returns
returns c = search form_ends
