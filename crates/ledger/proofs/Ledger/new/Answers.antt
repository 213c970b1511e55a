use mathlib.Core.Path.{refl}
use Rattle.ledger.specs.Calls.{begun}
use Rattle.ledger.proofs.Ledger.new.Goals as goal

pub returns : goal.returns
unfolding begun
returns c = refl
