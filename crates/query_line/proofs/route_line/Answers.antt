-- `route_line`: each end by what was read.
use Rattle.query_line.proofs.Texts.{line_unopened, line_unspaced, line_routeless, line_alone, line_unquery, line_unclosed, line_read}
use Rattle.query_line.proofs.route_line.Goals as goal

pub returns-in-Err : goal.returns-in-Err
returns-in-Err c = line_unopened _ _ _ c.in-Err.ensures c.long.ensures c.unread_route.ensures

pub returns-in_default : goal.returns-in_default
returns-in_default c = line_unspaced _ _ _ c.in-Ok.ensures c.in_default.ensures c.unread_route-in_default.ensures

pub returns-in_default-read_number : goal.returns-in_default-read_number
returns-in_default-read_number c = line_routeless _ _ _ c.in-Ok.ensures c.in-Some.ensures c.in_default-read_number.ensures c.unread_route-in_default-read_number.ensures

pub returns-in_default-skip : goal.returns-in_default-skip
returns-in_default-skip c = line_alone _ _ _ c.in-Ok.ensures c.in-Some.ensures c.in-Some-read_number.ensures c.in_default-skip.ensures c.unread_route-in_default-skip.ensures

pub returns-in_default-read : goal.returns-in_default-read
returns-in_default-read c = line_unquery _ _ _ c.in-Ok.ensures c.in-Some.ensures c.in-Some-read_number.ensures c.in-Some-skip.ensures c.in_default-read.ensures c.unread_route-in_default-read.ensures

pub returns-then-not-closes_at : goal.returns-then-not-closes_at
returns-then-not-closes_at c = line_unclosed _ _ _ c.in-Ok.ensures c.in-Some.ensures c.in-Some-read_number.ensures c.in-Some-skip.ensures c.in-Some-read.ensures c.closes_at.ensures c.if-not-closes_at.true-raw c.unread_route-then-not-closes_at.ensures

pub returns : goal.returns
returns c = line_read _ _ _ c.in-Ok.ensures c.in-Some.ensures c.in-Some-read_number.ensures c.in-Some-skip.ensures c.in-Some-read.ensures c.closes_at.ensures c.if-not-closes_at.false-raw c.routed_of.ensures
