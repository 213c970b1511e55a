use Rattle.grant_line.specs.Lines.{unread_line}
use Rattle.grant_line.proofs.unread.Goals as goal

pub returns : goal.returns
unfolding unread_line
returns c = rw (c.unread-checks.ensures, c.no_grant-grant.ensures)
