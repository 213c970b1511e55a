-- `write_cells`: after i items the rest is still to be written.
use borrow.Author.Rules.{rules}
use Rattle.report.proofs.Lengths.{cells_near}
use Rattle.report.proofs.Writing.{cells_more, cells_none, cells_written}
use Rattle.report.proofs.write_cells.Goals as goal

pub loop-z-preserved : goal.loop-z-preserved
loop-z-preserved c = (search (cells_more, rules), search rules, cells_near _ _ c.loop-z.z-index c.put_cell-p.ensures (search rules) (search rules))

pub returns : goal.returns
returns c = cells_written c.args.zs.now (cells_none c.args.zs.now c.loop-z.d c.loop-z.invariant.0 (search rules)) (search rules)
