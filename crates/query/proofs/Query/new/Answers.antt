-- `new`: places with no form.
use Rattle.query.proofs.Tables.{query_new}
use Rattle.query.proofs.Query.new.Goals as goal

pub returns : goal.returns
returns c = query_new c.rows-f.ensures
