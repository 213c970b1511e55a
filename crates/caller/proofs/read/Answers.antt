-- `read`: by the line's first word, and what follows it.
use mathlib.Core.Path.{ap, ◌∙◌}
use Rattle.caller.specs.Lines.{unread_line}
use Rattle.caller.proofs.LineRead.{line_unread, line_begun}
use Rattle.caller.proofs.read.Goals as goal

pub returns-in-Ok : goal.returns-in-Ok
returns-in-Ok c = c.unwrap_or.ensures ∙ rw (c.line_after.ensures, c.unread.ensures) (line_begun _ c.in-Ok.ensures)

pub returns-in-Err : goal.returns-in-Err
returns-in-Err c = line_unread _ c.in-Err.ensures (c.unread-in-Err.ensures ∙ ap unread_line c.long.ensures)
