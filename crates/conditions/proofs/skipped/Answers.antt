use Rattle.conditions.proofs.Skipping.{skipped_ends}
use Rattle.conditions.proofs.skipped.Goals as goal

pub returns-in_err-e : goal.returns-in_err-e
returns-in_err-e c = search (skipped_ends, c.in_err-e.ensures)

pub returns : goal.returns
returns c = search (skipped_ends, c.in_ok-e.ensures)
