use native.Mathlib.Omega.{arith}
use Rattle.nodes.proofs.Words.{put_ends}
use Rattle.nodes.proofs.Puts.{words_some}
use Rattle.nodes.proofs.put_node.Goals as goal

pub returns-then-words-size : goal.returns-then-words-size
returns-then-words-size c = search put_ends

pub returns-then-words-size-2 : goal.returns-then-words-size-2
returns-then-words-size-2 c = search put_ends

pub overflow_sub-words-2 : goal.overflow_sub-words-2
overflow_sub-words-2 c = omega (arith, words_some c.args.n)

pub bounds-words-b : goal.bounds-words-b
bounds-words-b c = omega (arith, words_some c.args.n)

pub returns : goal.returns
returns c = search put_ends
