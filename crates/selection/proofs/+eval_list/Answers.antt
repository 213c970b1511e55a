-- `eval` and `list`: a place falls from one to the other.
use native.Mathlib.Omega.{arith}
use borrow.Author.Rules.{rules}
use Rattle.selection.proofs.Evaluating.{eval_ends, list_ends, place_ends, listed_end, listed_below, listed_falls, listed_more}
use Rattle.selection.proofs.+eval_list.Goals as goal

pub eval-returns-then-head-lt-AND : goal.eval-returns-then-head-lt-AND
eval-returns-then-head-lt-AND t c = search (eval_ends, rules)

pub eval-returns-then-head-gt-NOT : goal.eval-returns-then-head-gt-NOT
eval-returns-then-head-gt-NOT t c = search (eval_ends, rules)

pub eval-overflow_sub-k : goal.eval-overflow_sub-k
eval-overflow_sub-k t c = search (place_ends, rules)

pub eval-eval-requires : goal.eval-eval-requires
eval-eval-requires t c = (search (place_ends, rules), search rules)

pub eval-returns-then-head-eq-NOT : goal.eval-returns-then-head-eq-NOT
eval-returns-then-head-eq-NOT t c = search (eval_ends, rules)

pub eval-overflow_sub-k-2 : goal.eval-overflow_sub-k-2
eval-overflow_sub-k-2 t c = search (place_ends, rules)

pub eval-eval-requires-then-k-stop : goal.eval-eval-requires-then-k-stop
eval-eval-requires-then-k-stop t c = (search (place_ends, rules), search rules)

pub eval-returns-then-k-stop : goal.eval-returns-then-k-stop
eval-returns-then-k-stop t c = search (eval_ends, rules)

pub eval-overflow_sub-k-3 : goal.eval-overflow_sub-k-3
eval-overflow_sub-k-3 t c = search (place_ends, rules)

pub eval-list-requires : goal.eval-list-requires
eval-list-requires t c = (search (place_ends, rules), search rules)

pub eval-returns : goal.eval-returns
eval-returns t c = search (eval_ends, rules)

pub list-loop-at-init : goal.list-loop-at-init
list-loop-at-init t c = search (list_ends, rules)

pub list-returns-then-k-stop : goal.list-returns-then-k-stop
list-returns-then-k-stop t c = let a = c.args in let w = c.leaves-w.ensures.0 in let l = w.on a.j c.loop-at.invariant in listed_end a.words.now a.stop a.j a.any a.sc a.times.now a.values.now a.profile.now l c.if-k-stop.true

pub list-eval-x-requires : goal.list-eval-x-requires
list-eval-x-requires t c = (let a = c.args in let w = c.leaves-w.ensures.0 in let l = w.on a.j c.loop-at.invariant in listed_below a.words.now a.stop a.j a.any a.sc a.times.now a.values.now a.profile.now l (search rules), search rules)

pub list-loop-at-smaller : goal.list-loop-at-smaller
list-loop-at-smaller t c = let a = c.args in let w = c.leaves-w.ensures.0 in let l = w.on a.j c.loop-at.invariant in let f = listed_falls a.words.now a.stop a.j a.any a.sc a.times.now a.values.now a.profile.now l (let g = c.if-k-stop.false in omega arith) c.link_at-at.ensures in let h = w.low in omega arith

pub list-loop-at-preserved : goal.list-loop-at-preserved
list-loop-at-preserved t c = let a = c.args in let w = c.leaves-w.ensures.0 in let l = w.on a.j c.loop-at.invariant in listed_more a.words.now a.stop a.j a.any a.sc a.times.now a.values.now a.profile.now l (let g = c.if-k-stop.false in omega arith) c.link_at-at.ensures c.eval-x.ensures c.joined-m.ensures

pub list-returns : goal.list-returns
list-returns t c = search (list_ends, rules)
