use Rattle.route_cells.proofs.Keeping.{rows_known, rows_stored}
use Rattle.route_cells.proofs.left_rows.Goals as goal

pub kept_rows-requires : goal.kept_rows-requires
kept_rows-requires c = (c.requires.placed, c.requires.lent)

pub returns-then-turn : goal.returns-then-turn
returns-then-turn c = rows_known c.requires c.if-turn.true c.kept_rows.ensures

pub keep_rows-requires : goal.keep_rows-requires
keep_rows-requires c = (c.requires.placed, c.requires.lent)

pub returns : goal.returns
returns c = rows_stored c.requires c.left-m.ensures c.keep_rows.ensures
