-- `put_cond` and `put_list`: a place falls from one to the other.
use borrow.Author.Rules.{rules}
use Rattle.print.proofs.Conditions.{head_some, list_falls, cond_falls, zero_falls, cond_ends, list_ends}
use Rattle.print.proofs.+put_cond_put_list.Goals as goal

pub put_cond-returns-then-compares : goal.put_cond-returns-then-compares
put_cond-returns-then-compares t c = search (cond_ends, rules)

pub put_cond-overflow_sub-k : goal.put_cond-overflow_sub-k
put_cond-overflow_sub-k t c = search (head_some, rules)

pub put_cond-put_list-t-requires : goal.put_cond-put_list-t-requires
put_cond-put_list-t-requires t c = (search list_falls, tt)

pub put_cond-returns : goal.put_cond-returns
put_cond-returns t c = search (cond_ends, rules)

pub put_list-put_cond-requires : goal.put_list-put_cond-requires
put_list-put_cond-requires t c = (search (zero_falls, rules), tt)

pub put_list-returns-then-list : goal.put_list-returns-then-list
put_list-returns-then-list t c = search (list_ends, rules)

pub put_list-loop-at-init : goal.put_list-loop-at-init
put_list-loop-at-init t c = (search (list_ends, rules), search rules)

pub put_list-put_cond-q-requires : goal.put_list-put_cond-q-requires
put_list-put_cond-q-requires t c = (search cond_falls, tt)

pub put_list-loop-at-smaller : goal.put_list-loop-at-smaller
put_list-loop-at-smaller t c = search (list_ends, rules)

pub put_list-loop-at-preserved : goal.put_list-loop-at-preserved
put_list-loop-at-preserved t c = (search (list_ends, rules), search rules)

pub put_list-returns : goal.put_list-returns
put_list-returns t c = search (list_ends, rules)
