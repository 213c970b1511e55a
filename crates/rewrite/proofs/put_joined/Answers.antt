-- `put_joined`: the keep, the picks of both sides, and the view.
use Rattle.rewrite.proofs.Turns.{joined_made}
use Rattle.rewrite.proofs.put_joined.Goals as goal

pub returns : goal.returns
returns c = joined_made _ c.args.forms.now c.args.names.now c.args.g c.args.join c.side.ensures.stream c.side.ensures.rest c.side-2.ensures.stream c.side_columns-first.ensures c.side_columns-second.ensures c.joined.ensures c.keep.ensures c.put_form-kept.ensures c.put_picks-outer.ensures c.put_picks-inner.ensures c.put_view.ensures
