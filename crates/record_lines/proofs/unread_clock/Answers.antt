use Rattle.record_lines.proofs.Clocks.{clock_blank}
use Rattle.record_lines.proofs.unread_clock.Goals as goal

pub returns : goal.returns
returns c = search clock_blank
