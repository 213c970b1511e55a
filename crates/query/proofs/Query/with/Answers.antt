-- `with`: the form in the first place that is free, if there is one.
use mathlib.Core.Path.{◌≡◌}
use lib.ListN.{length}
use Rattle.query.proofs.Tables.{query_full, query_more, told}
use Rattle.query.proofs.Query.with.Goals as goal
use Rattle.query.proofs.Query.with.Goals.{Start}

places : (c : Start) → length c.args.self.forms ≡ 12
places c = search told

pub returns-then-at-ge-FORMS : goal.returns-then-at-ge-FORMS
returns-then-at-ge-FORMS c = query_full c.args.self (places (goal.at.returns-then-at-ge-FORMS c).Start) c.args.f c.if-at-ge-FORMS.true

pub returns : goal.returns
returns c = query_more c.args.self (places (goal.at.returns c).Start) c.args.f c.if-at-ge-FORMS.false
