-- `put_bytes`: the bytes passed are written.
use borrow.Author.Rules.{rules}
use Rattle.print.proofs.Copies.{bytes_ends}
use Rattle.print.proofs.put_bytes.Goals as goal

pub returns-then-out-i : goal.returns-then-out-i
returns-then-out-i c = search (bytes_ends, rules)

pub returns-then-n-p : goal.returns-then-n-p
returns-then-n-p c = search (bytes_ends, rules)

pub loop-b-init : goal.loop-b-init
loop-b-init c = search (bytes_ends, rules)

pub loop-b-preserved : goal.loop-b-preserved
loop-b-preserved c = search (bytes_ends, rules)
