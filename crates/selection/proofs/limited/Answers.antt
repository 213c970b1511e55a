use Rattle.selection.proofs.Limits.{limited_none, limited_some}
use Rattle.selection.proofs.limited.Goals as goal

pub returns-then-too_late : goal.returns-then-too_late
returns-then-too_late c = let a = c.args in limited_none a.sc a.times.now a.from a.to c.left_time-left.ensures c.too_late.ensures c.if-too_late.true c.none.ensures

pub returns : goal.returns
returns c = let a = c.args in limited_some a.sc a.times.now a.from a.to c.left_time-left.ensures c.too_late.ensures c.if-too_late.false c.low_time-low.ensures c.high_time-high.ensures c.time_rows.ensures
