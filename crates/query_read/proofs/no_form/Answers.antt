-- `no_form`: by its fields.
use mathlib.Core.Path.{refl}
use Rattle.query_read.specs.Seeing.{no_form}
use Rattle.query_read.proofs.no_form.Goals as goal

pub returns : goal.returns
unfolding no_form
returns c = refl
