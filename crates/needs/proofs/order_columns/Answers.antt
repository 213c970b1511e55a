-- `order_columns`: by the mask of the order.
use Rattle.needs.proofs.Makes.{column_ends}
use Rattle.needs.proofs.order_columns.Goals as goal

pub returns : goal.returns
returns c = search column_ends
