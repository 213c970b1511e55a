-- `side`: the forms passed are no streams.
use borrow.Author.Rules.{rules}
use Rattle.rewrite.proofs.Turns.{stream_ends}
use Rattle.rewrite.proofs.side.Goals as goal

pub returns-then-is_rows-clause-stream : goal.returns-then-is_rows-clause-stream
returns-then-is_rows-clause-stream c = search (stream_ends, rules)

pub returns-then-is_rows-clause-rest : goal.returns-then-is_rows-clause-rest
returns-then-is_rows-clause-rest c = search (stream_ends, rules)

pub loop-i-preserved : goal.loop-i-preserved
loop-i-preserved c = search (stream_ends, rules)

pub returns-clause-stream : goal.returns-clause-stream
returns-clause-stream c = search (stream_ends, rules)

pub returns-clause-rest : goal.returns-clause-rest
returns-clause-rest c = search (stream_ends, rules)
