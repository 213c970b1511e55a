-- `count`: the places that are counted, as far as there are any.
use mathlib.Core.Path.{◌≡◌}
use lib.ListN.{length}
use Rattle.query.proofs.Tables.{query_all, query_first, told}
use Rattle.query.proofs.Query.count.Goals as goal
use Rattle.query.proofs.Query.count.Goals.{Start}

places : (c : Start) → length c.args.self.forms ≡ 12
places c = search told

pub returns-then-self-ge-FORMS : goal.returns-then-self-ge-FORMS
returns-then-self-ge-FORMS c = query_all c.args.self (places (goal.at.returns-then-self-ge-FORMS c).Start) c.if-self-ge-FORMS.true

pub returns : goal.returns
returns c = query_first c.args.self (places (goal.at.returns c).Start) c.if-self-ge-FORMS.false
