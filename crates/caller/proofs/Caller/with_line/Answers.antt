-- The caller call: the caller of its line, or the refusal with the caller as it was.
use mathlib.Core.Path.{refl}
use Rattle.caller.proofs.Identifying.{line_refused, line_accepted}
use Rattle.caller.proofs.Caller.with_line.Goals as goal

pub returns-in-Ok : goal.returns-in-Ok
returns-in-Ok c = line_accepted c.args.self _ c.read-l.ensures c.in-Ok.ensures refl

pub returns-in-Err : goal.returns-in-Err
returns-in-Err c = line_refused c.args.self _ c.read-l.ensures c.in-Err.ensures refl
