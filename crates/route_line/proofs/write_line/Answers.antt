use Rattle.route_line.proofs.Written.{line_written}
use Rattle.route_line.proofs.write_line.Goals as goal

pub returns : goal.returns
returns c = line_written _ _ _ _ _ _ c.put_table-n.ensures c.line.ensures
