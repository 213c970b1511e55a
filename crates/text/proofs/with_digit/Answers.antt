-- `with_digit`: the value so far is small enough for one digit more.
use borrow.Author.Rules.{rules}
use Rattle.text.specs.Words.{far}
use Rattle.text.proofs.with_digit.Goals as goal

pub overflow_mul-v : goal.overflow_mul-v
unfolding far
overflow_mul-v c = search rules

pub overflow_add-v : goal.overflow_add-v
unfolding far
overflow_add-v c = search rules

pub returns : goal.returns
unfolding far
returns c = search rules
