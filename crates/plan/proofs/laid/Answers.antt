-- `laid`: the plan of the forms from a place on.
use mathlib.Core.Path.{sym, ◌∙◌}
use native.Mathlib.Omega.{arith}
use Rattle.query.specs.Tables.{forms_in}
use Rattle.query.proofs.Rewritten.{forms_many}
use Rattle.plan.proofs.Steps.{plan_start, plan_more, plan_end}
use Rattle.plan.proofs.laid.Goals as goal

pub loop-i-init : goal.loop-i-init
loop-i-init c = let s = c.args in plan_start s.names.now (forms_in s.table.now s.n) c.new-p.ensures (c.count_in-i.ensures ∙ sym (forms_many s.table.now s.n))

pub loop-i-preserved : goal.loop-i-preserved
loop-i-preserved c =
    let s = c.args in
    plan_more s.names.now (forms_in s.table.now s.n) c.loop-i.p c.loop-i.i c.loop-i-test.true (omega (arith, forms_many s.table.now s.n)) c.loop-i.invariant c.form_in.ensures c.with-p.ensures

pub returns : goal.returns
returns c = search (plan_end)
