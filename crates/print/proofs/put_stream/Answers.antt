use borrow.Author.Rules.{rules}
use Rattle.print.proofs.Names.{stream_ends}
use Rattle.print.proofs.put_stream.Goals as goal

pub returns-then-s-ge-MOST : goal.returns-then-s-ge-MOST
returns-then-s-ge-MOST c = search (stream_ends, rules)

pub returns : goal.returns
returns c = search (stream_ends, rules)
