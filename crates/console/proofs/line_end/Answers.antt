use borrow.Author.Rules.{rules}
use Rattle.console.proofs.Lines.{ahead_ends}
use Rattle.console.proofs.line_end.Goals as goal

pub loop-i-init : goal.loop-i-init
loop-i-init c = search (
  ahead_ends,
  rules,
)

pub returns-then-s-i-eq10 : goal.returns-then-s-i-eq10
returns-then-s-i-eq10 c = search (ahead_ends, rules)

pub loop-i-preserved : goal.loop-i-preserved
loop-i-preserved c = search (ahead_ends, rules)

pub returns : goal.returns
returns c = search (ahead_ends, rules)
