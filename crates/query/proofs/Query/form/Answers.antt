-- `form`: a place that is counted has the form, another none.
use mathlib.Core.Path.{◌≡◌}
use lib.ListN.{length}
use Rattle.query.proofs.Tables.{query_below, query_past, query_there, told}
use Rattle.query.proofs.Query.form.Goals as goal
use Rattle.query.proofs.Query.form.Goals.{Start}

places : (c : Start) → length c.args.self.forms ≡ 12
places c = search told

pub returns-then-count-i : goal.returns-then-count-i
returns-then-count-i c = query_past c.args.self (places (goal.at.returns-then-count-i c).Start) c.args.i c.count.result c.count.ensures c.rows.ensures c.if-count-i.true

pub bounds-self-i : goal.bounds-self-i
bounds-self-i c = query_below c.args.self (places (goal.at.bounds-self-i c).Start) c.args.i c.count.result c.count.ensures c.if-count-i.false

pub returns : goal.returns
returns c = query_there c.args.self (places (goal.at.returns c).Start) c.args.i c.count.result c.count.ensures c.if-count-i.false
