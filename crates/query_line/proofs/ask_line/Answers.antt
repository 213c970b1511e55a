-- `ask_line`: each end by what was read.
use Rattle.query_line.proofs.Texts.{ask_unopened, ask_unspaced, ask_unread, ask_unclosed, ask_read}
use Rattle.query_line.proofs.ask_line.Goals as goal

pub returns-in-Err : goal.returns-in-Err
returns-in-Err c = ask_unopened _ _ _ c.in-Err.ensures c.long.ensures c.unread.ensures

pub returns-in_default : goal.returns-in_default
returns-in_default c = ask_unspaced _ _ _ c.in-Ok.ensures c.in_default.ensures c.unread-in_default.ensures

pub returns-in_default-read : goal.returns-in_default-read
returns-in_default-read c = ask_unread _ _ _ c.in-Ok.ensures c.in-Some.ensures c.in_default-read.ensures c.unread-in_default-read.ensures

pub returns-then-not-closes_at : goal.returns-then-not-closes_at
returns-then-not-closes_at c = ask_unclosed _ _ _ c.in-Ok.ensures c.in-Some.ensures c.in-Some-read.ensures c.closes_at.ensures c.if-not-closes_at.true-raw c.unread-then-not-closes_at.ensures

pub returns : goal.returns
returns c = ask_read _ _ _ c.in-Ok.ensures c.in-Some.ensures c.in-Some-read.ensures c.closes_at.ensures c.if-not-closes_at.false-raw
