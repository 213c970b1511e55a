use native.Mathlib.Omega.{arith}
use Rattle.nodes.proofs.Puts.{words_few}
use Rattle.conditions.proofs.Leaves.{placed_ends}
use Rattle.conditions.proofs.placed.Goals as goal

pub overflow_cast-node_words : goal.overflow_cast-node_words
overflow_cast-node_words c = omega (arith, words_few c.args.n)

pub overflow_add-b : goal.overflow_add-b
overflow_add-b c = omega (arith, words_few c.args.n)

pub returns : goal.returns
returns c = search placed_ends
