-- `Caller::new`: by its fields.
use mathlib.Core.Path.{refl}
use Rattle.caller.specs.Callers.{no_caller}
use Rattle.caller.proofs.Caller.new.Goals as goal

pub returns : goal.returns
unfolding no_caller
returns c = refl
