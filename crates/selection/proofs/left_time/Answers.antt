use borrow.Author.Rules.{rules}
use Rattle.selection.proofs.Relating.{left_times}
use Rattle.selection.proofs.left_time.Goals as goal

pub returns-then-at-lt-PLACES : goal.returns-then-at-lt-PLACES
returns-then-at-lt-PLACES c = search (left_times, rules)

pub returns : goal.returns
returns c = search (left_times, rules)
