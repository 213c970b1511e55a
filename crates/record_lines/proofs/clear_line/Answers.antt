use Rattle.record_lines.proofs.Calls.{clear_lined}
use Rattle.record_lines.proofs.clear_line.Goals as goal

pub returns : goal.returns
returns c = search clear_lined
