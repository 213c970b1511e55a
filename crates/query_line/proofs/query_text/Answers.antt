-- `query_text`: each end by what was read.
use Rattle.query_line.proofs.Texts.{query_long, query_unread, query_longer, query_read}
use Rattle.query_line.proofs.query_text.Goals as goal

pub returns-then-s-gt-BYTES : goal.returns-then-s-gt-BYTES
returns-then-s-gt-BYTES c = search query_long

pub returns-in_default : goal.returns-in_default
returns-in_default c = search (query_unread, c.in_default.ensures)

pub returns-then-a-s : goal.returns-then-a-s
returns-then-a-s c = search (query_longer, c.in-Some.ensures)

pub returns : goal.returns
returns c = search (query_read, c.in-Some.ensures)
