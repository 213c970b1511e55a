use mathlib.Core.Path.{◌∙◌}
use Rattle.ledger.proofs.Entering.{clear_same}
use Rattle.ledger.proofs.Ledger.clear.Goals as goal

pub returns : goal.returns
returns c = c.clear_with.ensures ∙ rw c.new.ensures (clear_same _)
