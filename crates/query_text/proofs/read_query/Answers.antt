use lib.IntN.{pos}
use Rattle.query_text.proofs.Telling.{query_told, told_made}
use Rattle.query_text.proofs.read_query.Goals as goal

pub returns : goal.returns
returns c = query_told _ _ c.query_text-a.ensures (told_made _ _ (record { route = pos 0; asked = c.query_text-a.result }) c.of-needs.ensures)
