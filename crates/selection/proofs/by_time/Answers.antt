use borrow.Author.Rules.{rules}
use mir.Syntax.{w32}
use mir.Val.{SFits}
use Rattle.selection.specs.Evaluating.{clock_at}
use Rattle.selection.proofs.Comparing.{compared_eq, compared_ne, direct_le, direct_ge, denied_lt, denied_gt}
use Rattle.selection.proofs.Limits.{time_same, time_first, time_last, time_above, natural_cast, natural_is, natural_low}
use Rattle.selection.proofs.by_time.Goals as goal

pub returns-then-v-lt0 : goal.returns-then-v-lt0
returns-then-v-lt0 c = let a = c.args in let f : SFits w32 a.v.v = search rules in time_above a.v.v f a.head a.sc a.times.now a.sc.rows c.if-v-lt0.true c.settled.ensures

pub overflow_cast-t : goal.overflow_cast-t
overflow_cast-t c = let a = c.args in let f : SFits w32 a.v.v = search rules in natural_cast a.v.v f c.if-v-lt0.false

pub returns-then-head-eq1 : goal.returns-then-head-eq1
returns-then-head-eq1 c = let a = c.args in let f : SFits w32 a.v.v = search rules in compared_eq a.head (clock_at a.sc a.times.now) (λ i. a.v.v) 0 a.sc.rows c.if-head-eq1.true (time_same a.sc a.times.now a.sc.rows a.v.v _ (natural_is a.v.v f c.if-v-lt0.false) (natural_low a.v.v f c.if-v-lt0.false) c.limited.ensures)

pub returns-then-head-eq2 : goal.returns-then-head-eq2
returns-then-head-eq2 c = let a = c.args in let f : SFits w32 a.v.v = search rules in compared_ne a.head (clock_at a.sc a.times.now) (λ i. a.v.v) 0 a.sc.rows c.first.ensures c.if-head-eq2.true (time_same a.sc a.times.now a.sc.rows a.v.v _ (natural_is a.v.v f c.if-v-lt0.false) (natural_low a.v.v f c.if-v-lt0.false) c.limited-then-head-eq2.ensures) c.flip.ensures

pub returns-then-head-eq3 : goal.returns-then-head-eq3
returns-then-head-eq3 c = let a = c.args in let f : SFits w32 a.v.v = search rules in denied_lt a.head (clock_at a.sc a.times.now) (λ i. a.v.v) 0 a.sc.rows c.first-then-head-eq3.ensures c.if-head-eq3.true (time_first a.sc a.times.now a.sc.rows a.v.v _ (natural_is a.v.v f c.if-v-lt0.false) (natural_low a.v.v f c.if-v-lt0.false) c.limited-then-head-eq3.ensures) c.flip-then-head-eq3.ensures

pub returns-then-head-eq4 : goal.returns-then-head-eq4
returns-then-head-eq4 c = let a = c.args in let f : SFits w32 a.v.v = search rules in direct_le a.head (clock_at a.sc a.times.now) (λ i. a.v.v) 0 a.sc.rows c.if-head-eq4.true (time_last a.sc a.times.now a.sc.rows a.v.v _ (natural_is a.v.v f c.if-v-lt0.false) (natural_low a.v.v f c.if-v-lt0.false) c.limited-then-head-eq4.ensures)

pub returns-then-head-eq5 : goal.returns-then-head-eq5
returns-then-head-eq5 c = let a = c.args in let f : SFits w32 a.v.v = search rules in denied_gt a.head (clock_at a.sc a.times.now) (λ i. a.v.v) 0 a.sc.rows c.first-then-head-eq5.ensures c.if-head-eq5.true (time_last a.sc a.times.now a.sc.rows a.v.v _ (natural_is a.v.v f c.if-v-lt0.false) (natural_low a.v.v f c.if-v-lt0.false) c.limited-then-head-eq5.ensures) c.flip-then-head-eq5.ensures

pub returns : goal.returns
returns c = let a = c.args in let f : SFits w32 a.v.v = search rules in direct_ge a.head (clock_at a.sc a.times.now) (λ i. a.v.v) 0 a.sc.rows c.if-head-eq1.false c.if-head-eq2.false c.if-head-eq3.false c.if-head-eq4.false c.if-head-eq5.false (time_first a.sc a.times.now a.sc.rows a.v.v _ (natural_is a.v.v f c.if-v-lt0.false) (natural_low a.v.v f c.if-v-lt0.false) c.limited-2.ensures)
