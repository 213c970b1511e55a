use native.Mathlib.Omega.{arith}
use Rattle.nodes.proofs.Puts.{words_few}
use Rattle.nodes.proofs.Tests.{linked_ends}
use Rattle.nodes.proofs.links_well.Goals as goal

pub overflow_add-result : goal.overflow_add-result
overflow_add-result c = omega (arith, words_few c.args.n)

pub returns-then-compares : goal.returns-then-compares
returns-then-compares c = search linked_ends

pub returns-then-n-ne0 : goal.returns-then-n-ne0
returns-then-n-ne0 c = search linked_ends

pub returns-then-n-lt-AND : goal.returns-then-n-lt-AND
returns-then-n-lt-AND c = search linked_ends

pub returns-then-n-gt-NOT : goal.returns-then-n-gt-NOT
returns-then-n-gt-NOT c = search linked_ends

pub returns-then-k-b : goal.returns-then-k-b
returns-then-k-b c = search linked_ends

pub returns-then-not-reaches_stop : goal.returns-then-not-reaches_stop
returns-then-not-reaches_stop c = search linked_ends

pub returns-then-n-lt-NOT : goal.returns-then-n-lt-NOT
returns-then-n-lt-NOT c = search linked_ends

pub returns : goal.returns
returns c = search linked_ends
