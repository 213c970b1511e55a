use mathlib.Core.Path.{ap, ◌∙◌}
use Rattle.record_lines.specs.Lines.{unread_row}
use Rattle.record_lines.proofs.Rows.{row_unread, row_begun}
use Rattle.record_lines.proofs.read_row.Goals as goal

pub returns-in-Ok : goal.returns-in-Ok
returns-in-Ok c = c.unwrap_or.ensures ∙ rw (c.row_after.ensures, c.unread_row.ensures) (row_begun _ c.in-Ok.ensures)

pub returns-in-Err : goal.returns-in-Err
returns-in-Err c = row_unread _ c.in-Err.ensures (c.unread_row-in-Err.ensures ∙ ap unread_row c.long.ensures)
