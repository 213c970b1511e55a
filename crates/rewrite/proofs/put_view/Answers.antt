-- `put_view`: five forms more.
use Rattle.rewrite.proofs.Turns.{view_made}
use Rattle.rewrite.proofs.put_view.Goals as goal

pub returns : goal.returns
returns c = view_made _ c.args.names.now c.args.g c.args.join c.args.a c.args.b c.with_columns-left.ensures c.with_columns-both.ensures c.keep.ensures c.put_form-kept.ensures c.under.ensures c.put_form-limited.ensures c.put_form-joined.ensures c.put_form-one.ensures c.put_form.ensures
