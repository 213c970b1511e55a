-- `grant_at`: past the last, a list gives its default.
use mathlib.Core.Path.{sym}
use lib.ListN.{get_or-eq_default}
use Rattle.catalogue.specs.Opened.{blank}
use Rattle.catalogue.proofs.grant_at.Goals as goal

pub returns-else-i-grants : goal.returns-else-i-grants
unfolding blank
returns-else-i-grants c = sym (get_or-eq_default c.args.grants.now blank c.if-i-grants.false)
