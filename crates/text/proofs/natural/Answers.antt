-- `natural`: by where the digits end and their value.
use mathlib.Core.Path.{◌∙◌}
use Rattle.text.proofs.Numbers.{natural_none, natural_some, natural_ends}
use Rattle.text.proofs.natural.Goals as goal

pub returns-in_err-end : goal.returns-in_err-end
returns-in_err-end c = c.from_residual.ensures ∙ natural_none _ _ c.in_err-end.ensures

pub slice_bounds-value-count : goal.slice_bounds-value-count
slice_bounds-value-count c = search (natural_ends, c.in_ok-end.ensures)

pub slice_bounds-value-start : goal.slice_bounds-value-start
slice_bounds-value-start c = search (natural_ends, c.in_ok-end.ensures)

pub slice_bounds-value-end : goal.slice_bounds-value-end
slice_bounds-value-end c = search (natural_ends, c.in_ok-end.ensures)

pub overflow_cast-result : goal.overflow_cast-result
overflow_cast-result c = search natural_ends

pub returns : goal.returns
returns c = natural_some _ _ c.in_ok-end.ensures c.value.ensures
