-- `Checks::result`: check by check.
use Rattle.refusal.specs.Checks.{refuse, table}
use Rattle.refusal.proofs.Firsts.{firsts}
use Rattle.refusal.proofs.Checks.result.Goals as goal

pub returns-then-self : goal.returns-then-self
unfolding table refuse
returns-then-self c = search firsts depth 16

pub returns-then-self-2 : goal.returns-then-self-2
unfolding table refuse
returns-then-self-2 c = search firsts depth 16

pub returns-then-self-3 : goal.returns-then-self-3
unfolding table refuse
returns-then-self-3 c = search firsts depth 16

pub returns-then-self-4 : goal.returns-then-self-4
unfolding table refuse
returns-then-self-4 c = search firsts depth 16

pub returns-then-self-5 : goal.returns-then-self-5
unfolding table refuse
returns-then-self-5 c = search firsts depth 16

pub returns-then-self-6 : goal.returns-then-self-6
unfolding table refuse
returns-then-self-6 c = search firsts depth 16

pub returns-then-self-7 : goal.returns-then-self-7
unfolding table refuse
returns-then-self-7 c = search firsts depth 16

pub returns-then-self-8 : goal.returns-then-self-8
unfolding table refuse
returns-then-self-8 c = search firsts depth 16

pub returns-then-self-9 : goal.returns-then-self-9
unfolding table refuse
returns-then-self-9 c = search firsts depth 16

pub returns-then-self-10 : goal.returns-then-self-10
unfolding table refuse
returns-then-self-10 c = search firsts depth 16

pub returns-then-self-11 : goal.returns-then-self-11
unfolding table refuse
returns-then-self-11 c = search firsts depth 16

pub returns-then-self-12 : goal.returns-then-self-12
unfolding table refuse
returns-then-self-12 c = search firsts depth 16

pub returns-then-self-13 : goal.returns-then-self-13
unfolding table refuse
returns-then-self-13 c = search firsts depth 16

pub returns : goal.returns
unfolding table refuse
returns c = search firsts depth 16
