use Rattle.nodes.proofs.Nesting.{nest_test, nest_inner, nest_ends}
use Rattle.nodes.proofs.nests_well.Goals as goal

pub loop-k-init : goal.loop-k-init
loop-k-init c = search nest_ends

pub overflow_sub-depth : goal.overflow_sub-depth
overflow_sub-depth c = search nest_ends

pub loop-k-smaller-then-k-place : goal.loop-k-smaller-then-k-place
loop-k-smaller-then-k-place c = search nest_ends

pub loop-k-preserved-then-k-place : goal.loop-k-preserved-then-k-place
loop-k-preserved-then-k-place c = search nest_ends

pub returns-then-k-b : goal.returns-then-k-b
returns-then-k-b c = search nest_ends

pub loop-k-preserved-then-node-lt-AND : goal.loop-k-preserved-then-node-lt-AND
loop-k-preserved-then-node-lt-AND c =
    nest_test _ _ _ _ _ c.loop-k.invariant c.loop-k-test.true c.place.ensures c.if-k-place.false c.word.ensures c.unpacked-node.ensures c.place-b.ensures c.if-k-b.false c.if-node-lt-AND.true

pub returns-then-depth-eq-NESTING : goal.returns-then-depth-eq-NESTING
returns-then-depth-eq-NESTING c = search nest_ends

pub loop-k-preserved : goal.loop-k-preserved
loop-k-preserved c =
    nest_inner _ _ _ _ _ c.loop-k.invariant c.loop-k-test.true c.place.ensures c.if-k-place.false c.word.ensures c.unpacked-node.ensures c.place-b.ensures c.if-k-b.false
    c.if-node-lt-AND.false c.if-depth-eq-NESTING.false

pub returns : goal.returns
returns c = search nest_ends
