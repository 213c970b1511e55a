use Rattle.std.proofs.Common.{refl, rules}
use Rattle.lines.proofs.Advancing.{part_kept, part_done}
use Rattle.lines.proofs.do_part.Goals as goal

pub returns-then-block-e : goal.returns-then-block-e
returns-then-block-e g c = part_kept _ _ _ c.line_end-e.ensures c.keep.ensures (search rules) c.after.ensures refl refl refl refl refl refl c.if-block-e.true

pub shape_of-line : goal.shape_of-line
shape_of-line g c = c.keep.auto.line

pub returns : goal.returns
returns g c = part_done _ _ _ c.line_end-e.ensures c.keep.ensures c.keep.auto.line c.after.ensures refl refl refl refl refl refl c.if-block-e.false c.do_line.ensures c.do_line.auto.cells c.do_line.auto.bytes c.do_line.auto.out
