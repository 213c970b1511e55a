use Rattle.route_cells.proofs.Keeping.{kept_is}
use Rattle.route_cells.proofs.kept_rows.Goals as goal

pub returns : goal.returns
returns c = kept_is _ _
