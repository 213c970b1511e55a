use Rattle.record_lines.proofs.Calls.{clock_lined}
use Rattle.record_lines.proofs.clock_line.Goals as goal

pub returns : goal.returns
returns c = search clock_lined
