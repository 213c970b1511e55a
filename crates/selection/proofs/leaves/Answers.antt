use mathlib.Core.Path.{sym, ◌∙◌}
use native.Mathlib.Omega.{arith}
use Rattle.selection.proofs.Evaluating.{link_less, carried_start, carried_more}
use Rattle.selection.proofs.leaves.Goals as goal

pub loop-at-init : goal.loop-at-init
loop-at-init c = let a = c.args in carried_start a.words.now a.stop a.j a.any a.sc a.times.now a.values.now a.profile.now

pub returns-then-is_list : goal.returns-then-is_list
returns-then-is_list c = (c.loop-at.invariant, λ h. sym c.is_list.ensures ∙ c.if-is_list.true)

pub loop-at-smaller : goal.loop-at-smaller
loop-at-smaller c = let a = c.args in link_less a.words.now c.link_at-at.ensures c.loop-at-test.true

pub loop-at-preserved : goal.loop-at-preserved
loop-at-preserved c = let a = c.args in carried_more a.words.now a.stop a.j a.any a.sc a.times.now a.values.now a.profile.now c.loop-at.invariant c.loop-at-test.true (sym c.is_list.ensures ∙ c.if-is_list.false) c.link_at-at.ensures c.compare_at-x.ensures c.joined-m.ensures

pub returns : goal.returns
returns c = (c.loop-at.invariant, λ h. absurd (let l = c.loop-at-test.false in omega arith))
