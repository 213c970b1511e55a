-- `links`: the two columns either way.
use Rattle.query_line.proofs.Steps.{links_made}
use Rattle.query_line.proofs.links.Goals as goal

pub returns : goal.returns
returns c = search links_made
