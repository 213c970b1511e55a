use Rattle.std.proofs.Common.{refl}
use Rattle.lines.proofs.Advancing.{step_kept}
use Rattle.lines.proofs.do_line.Goals as goal

pub returns : goal.returns
returns g c = record { said = c.step-r.result.says; does = step_kept _ _ _ c.min-n.ensures c.step-r.ensures; adds = c.say-said.ensures.adds; follows = record { lines = c.say-said.ensures.lines; kept = refl; at = refl; explains = refl; refused = c.say-said.ensures.refused; reading = refl; lost = c.say-said.ensures.lost } }
