-- The checks of a call stand in the order of the refusals.
use Rattle.refusal.specs.Checks.{Ordered, table, checks_compute}
use Rattle.refusal.specs.declared.Checks.{Checks}

pub table_ordered : (c : Checks) → Ordered (table c)
unfolding checks_compute
table_ordered c = tt
