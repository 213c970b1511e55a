use Rattle.ledger.specs.Calls.{row_shown}
use Rattle.ledger.proofs.Ledger.row_checks.Goals as goal

pub returns : goal.returns
unfolding row_shown
returns c = cc
