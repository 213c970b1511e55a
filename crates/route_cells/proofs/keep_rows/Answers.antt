use Rattle.route_cells.proofs.Keeping.{kept_words, there_second, there_third, there_fourth}
use Rattle.route_cells.proofs.keep_rows.Goals as goal

pub bounds-kept-k-2 : goal.bounds-kept-k-2
bounds-kept-k-2 c = there_second c.args.kept.now c.args.i c.args.m c.requires.0 c.requires.1

pub bounds-kept-k-3 : goal.bounds-kept-k-3
bounds-kept-k-3 c = there_third c.args.kept.now c.args.i c.args.m c.requires.0 c.requires.1

pub bounds-kept-k-4 : goal.bounds-kept-k-4
bounds-kept-k-4 c = there_fourth c.args.kept.now c.args.i c.args.m c.requires.0 c.requires.1

pub returns : goal.returns
returns c = kept_words c.args.kept.now c.args.i c.args.m
