-- `forms_at`: what is read so far, joined to what is still to be read, is what is read from the first place on.
use Rattle.query_read.proofs.Answering.{walk_start, walk_over, walk_unread, walk_deeper, walk_falls, walk_stuck, walk_ended, walk_again, walk_less, walk_nested, walk_places}
use Rattle.query_read.proofs.forms_at.Goals as goal

pub loop-p-init : goal.loop-p-init
loop-p-init c = search walk_start

pub returns-in_err-o : goal.returns-in_err-o
returns-in_err-o c = walk_unread _ _ _ _ _ _ _ _ _ c.loop-p.invariant c.requires.0 c.requires.1 c.in_err-o.ensures c.from_residual.ensures

pub loop-p-smaller-then-kind-ne-ROWS : goal.loop-p-smaller-then-kind-ne-ROWS
loop-p-smaller-then-kind-ne-ROWS c = walk_falls _ _ _ _ _ _ _ _ _ c.loop-p.invariant c.requires.0 c.requires.1 c.in_ok-o.ensures c.with_own-r.ensures c.if-kind-ne-ROWS.true c.loop-p-test.true

pub loop-p-preserved-then-kind-ne-ROWS : goal.loop-p-preserved-then-kind-ne-ROWS
loop-p-preserved-then-kind-ne-ROWS c = walk_deeper _ _ _ _ _ _ _ _ _ c.loop-p.invariant c.requires.0 c.requires.1 c.in_ok-o.ensures c.with_own-r.ensures c.if-kind-ne-ROWS.true c.loop-p-test.true

pub returns-in_err-k : goal.returns-in_err-k
returns-in_err-k c = walk_stuck _ _ _ _ _ _ _ _ _ c.loop-p.invariant c.requires.0 c.requires.1 c.in_ok-o.ensures c.with_own-r.ensures c.if-kind-ne-ROWS.false c.in_err-k.ensures c.from_residual-in_err-k.ensures

pub returns-in-Ended : goal.returns-in-Ended
returns-in-Ended c = walk_ended _ _ _ _ _ _ _ _ _ c.loop-p.invariant c.requires.0 c.requires.1 c.in_ok-o.ensures c.with_own-r.ensures c.if-kind-ne-ROWS.false c.in_ok-k.ensures c.in-Ended.is c.ended.ensures

pub overflow_sub-second : goal.overflow_sub-second
overflow_sub-second c = walk_nested _ _ _ _ _ _ _ _ _ c.loop-p.invariant c.requires.0 c.requires.1 c.in_ok-o.ensures c.with_own-r.ensures c.if-kind-ne-ROWS.false c.in_ok-k.ensures c.in-Inside.is

pub bounds-second-nest-in-Inside : goal.bounds-second-nest-in-Inside
bounds-second-nest-in-Inside c = walk_places _ _ _ _ _ _ _ _ _ c.loop-p.invariant c.requires.0 c.requires.1 c.in_ok-o.ensures c.with_own-r.ensures c.if-kind-ne-ROWS.false c.in_ok-k.ensures c.in-Inside.is

pub loop-p-smaller : goal.loop-p-smaller
loop-p-smaller c = walk_less _ _ _ _ _ _ _ _ _ c.loop-p.invariant c.requires.0 c.requires.1 c.in_ok-o.ensures c.with_own-r.ensures c.if-kind-ne-ROWS.false c.in_ok-k.ensures c.in-Inside.is c.loop-p-test.true

pub loop-p-preserved : goal.loop-p-preserved
loop-p-preserved c = walk_again _ _ _ _ _ _ _ _ _ c.loop-p.invariant c.requires.0 c.requires.1 c.in_ok-o.ensures c.with_own-r.ensures c.if-kind-ne-ROWS.false c.in_ok-k.ensures c.in-Inside.is

pub returns : goal.returns
returns c = search walk_over
