use mathlib.Core.Path.{◌≡◌}
use native.Mathlib.Omega.{arith}
use lib.ListN.{length}
use Rattle.syntax.specs.Limits.{max_columns}
use borrow.Author.Rules.{rules}
use Rattle.record_lines.proofs.RowCalls.{row_lined}
use Rattle.record_lines.proofs.row_line.Goals as goal
use Rattle.record_lines.proofs.row_line.Goals.{After-read_row-w}

six : (c : After-read_row-w) → length c.read_row-w.result.values ≡ max_columns
six c = search rules

pub slice_bounds-row_with-end : goal.slice_bounds-row_with-end
slice_bounds-row_with-end c = let h = six (goal.at.slice_bounds-row_with-end c).After-read_row-w in omega arith

pub returns : goal.returns
returns c = search row_lined
