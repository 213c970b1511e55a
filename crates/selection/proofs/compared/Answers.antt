-- `compared`: by what the sides are.
use borrow.Author.Rules.{rules}
use Rattle.selection.proofs.Relating.{plain_lent, near_column, valued_column, valued_fixed, valued_bare, valued_other, compared_valued, compared_turned}
use Rattle.selection.proofs.compared.Goals as goal
use Rattle.selection.proofs.compared.Goals.{in_default-Time-via-in-Column+in-Time, in_default-Time-via-in-Value+in-Time}

pub returns-in-Time-default : goal.returns-in-Time-default
returns-in-Time-default c = let a = c.args in compared_valued a.sc a.times.now a.values.now a.l a.r a.head c.by_times.ensures (valued_bare a.sc a.times.now a.values.now c.in-Time-default.is-0) (valued_other a.sc a.times.now a.values.now a.r)

pub returns-in_default-Time : goal.returns-in_default-Time
returns-in_default-Time c =
    let a = c.args in
    elim c.in_default-Time.branch [
      | in_default-Time-via-in-Column+in-Time w ↦ compared_turned a.sc a.times.now a.values.now a.l a.r a.head _ c.by_times-in_default-Time.ensures c.turned-in_default-Time.ensures (valued_bare a.sc a.times.now a.values.now w.in_default-Time.is-1) (valued_other a.sc a.times.now a.values.now a.l)
      | in_default-Time-via-in-Value+in-Time w ↦ compared_turned a.sc a.times.now a.values.now a.l a.r a.head _ c.by_times-in_default-Time.ensures c.turned-in_default-Time.ensures (valued_bare a.sc a.times.now a.values.now w.in_default-Time.is-1) (valued_other a.sc a.times.now a.values.now a.l)
    ]

pub related-requires : goal.related-requires
related-requires c =
    let a = c.args in
    let p = c.requires in (
      plain_lent a.values.now c.in-Column-Column.p a.sc.rows p.0.rows (near_column c.in-Column-Column.is-0 p.1) p.0.values,
      plain_lent a.values.now c.in-Column-Column.q a.sc.rows p.0.rows (near_column c.in-Column-Column.is-1 p.2) p.0.values,
    )

pub returns-in-Column-Column : goal.returns-in-Column-Column
returns-in-Column-Column c = let a = c.args in let w = c.in-Column-Column in compared_valued a.sc a.times.now a.values.now a.l a.r a.head c.related.ensures (valued_column a.sc a.times.now a.values.now w.p w.is-0) (valued_column a.sc a.times.now a.values.now w.q w.is-1)

pub by_value-requires : goal.by_value-requires
by_value-requires c = let a = c.args in let p = c.requires in plain_lent a.values.now c.in-Column-Value.p a.sc.rows p.0.rows (near_column c.in-Column-Value.is-0 p.1) p.0.values

pub returns-in-Column-Value : goal.returns-in-Column-Value
returns-in-Column-Value c = let a = c.args in let w = c.in-Column-Value in compared_valued a.sc a.times.now a.values.now a.l a.r a.head c.by_value.ensures (valued_column a.sc a.times.now a.values.now w.p w.is-0) (valued_fixed a.sc a.times.now a.values.now w.is-1 (search rules))

pub by_value-requires-in-Value-Column : goal.by_value-requires-in-Value-Column
by_value-requires-in-Value-Column c = let a = c.args in let p = c.requires in plain_lent a.values.now c.in-Value-Column.p a.sc.rows p.0.rows (near_column c.in-Value-Column.is-1 p.2) p.0.values

pub returns-in-Value-Column : goal.returns-in-Value-Column
returns-in-Value-Column c = let a = c.args in let w = c.in-Value-Column in compared_turned a.sc a.times.now a.values.now a.l a.r a.head _ c.by_value-in-Value-Column.ensures c.turned.ensures (valued_column a.sc a.times.now a.values.now w.p w.is-1) (valued_fixed a.sc a.times.now a.values.now w.is-0 (search rules))

pub returns-in-Value-Value : goal.returns-in-Value-Value
returns-in-Value-Value c = let a = c.args in let w = c.in-Value-Value in compared_valued a.sc a.times.now a.values.now a.l a.r a.head c.settled.ensures (valued_fixed a.sc a.times.now a.values.now w.is-0 (search rules)) (valued_fixed a.sc a.times.now a.values.now w.is-1 (search rules))
