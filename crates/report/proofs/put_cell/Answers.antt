use borrow.Author.Rules.{rules}
use Rattle.report.proofs.Writing.{put_cell_end}
use Rattle.report.proofs.put_cell.Goals as goal

pub returns : goal.returns
returns c = search (put_cell_end, rules)
