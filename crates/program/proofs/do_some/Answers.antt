use mathlib.Core.Path.{refl}
use Rattle.program.proofs.Rounds.{round_done}
use Rattle.program.proofs.do_some.Goals as goal

pub shape_of-block : goal.shape_of-block
shape_of-block g c = c.read_some-got.auto.block

pub returns : goal.returns
returns g c = round_done _ _ c.do_block-r.result _ c.read_some-got.result c.read_some-got.ensures c.do_block-r.ensures refl refl refl refl c.flush-r.ensures refl
