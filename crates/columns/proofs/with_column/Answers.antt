-- `with_column`: by its fields.
use Rattle.columns.proofs.ColumnLists.{column_made}
use Rattle.columns.proofs.with_column.Goals as goal

pub returns : goal.returns
returns c = search column_made
