-- `put_seen`: three forms more.
use Rattle.rewrite.proofs.Turns.{seen_made}
use Rattle.rewrite.proofs.put_seen.Goals as goal

pub returns : goal.returns
returns c = search (seen_made)
