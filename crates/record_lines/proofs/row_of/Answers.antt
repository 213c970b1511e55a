use Rattle.record_lines.proofs.Rows.{row_made}
use Rattle.record_lines.proofs.row_of.Goals as goal

pub returns : goal.returns
returns c = search row_made
