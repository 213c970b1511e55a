-- `line_of`: by its fields.
use mathlib.Core.Path.{◌≡◌}
use lib.ListN.{length}
use borrow.Author.Rules.{rules}
use Rattle.stream_line.proofs.Lines.{line_made}
use Rattle.stream_line.proofs.line_of.Goals as goal
use Rattle.stream_line.proofs.line_of.Goals.{Start}

six : (c : Start) → length c.args.cs.codes ≡ 6
six c = search rules

pub returns : goal.returns
returns c = let h = six (goal.at.returns c).Start in search line_made
