use mathlib.Core.Path.{ap, ◌∙◌}
use Rattle.record_lines.specs.Lines.{unread_clock}
use Rattle.record_lines.proofs.Clocks.{clock_unread, clock_begun}
use Rattle.record_lines.proofs.read_clock.Goals as goal

pub returns-in-Ok : goal.returns-in-Ok
returns-in-Ok c = c.unwrap_or.ensures ∙ rw (c.clock_after.ensures, c.unread_clock.ensures) (clock_begun _ c.in-Ok.ensures)

pub returns-in-Err : goal.returns-in-Err
returns-in-Err c = clock_unread _ c.in-Err.ensures (c.unread_clock-in-Err.ensures ∙ ap unread_clock c.long.ensures)
