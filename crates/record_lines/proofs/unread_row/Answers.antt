use Rattle.record_lines.proofs.Rows.{row_blank}
use Rattle.record_lines.proofs.unread_row.Goals as goal

pub returns : goal.returns
returns c = search row_blank
