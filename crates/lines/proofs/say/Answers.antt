use Rattle.console.proofs.Printing.{told_behind}
use Rattle.std.proofs.Common.{rules}
use Rattle.lines.proofs.say.Goals as goal

pub returns : goal.returns
returns g c = record { lines = search rules; refused = c.refused_by.ensures; adds = told_behind _ c.add-added.ensures.0 c.tell-told.ensures.0; lost = λ h. c.tell-told.ensures.1 (c.add-added.ensures.1 h) }
