-- `read_name`: by the first byte and the number of bytes.
use Rattle.text.proofs.Names.{name_ends}
use Rattle.text.proofs.read_name.Goals as goal

pub returns-then-not-is_letter : goal.returns-then-not-is_letter
returns-then-not-is_letter c = search name_ends

pub overflow_sub-end : goal.overflow_sub-end
overflow_sub-end c = search name_ends

pub slice_bounds-packed-count : goal.slice_bounds-packed-count
slice_bounds-packed-count c = search name_ends

pub slice_bounds-packed-start : goal.slice_bounds-packed-start
slice_bounds-packed-start c = search name_ends

pub slice_bounds-packed-end : goal.slice_bounds-packed-end
slice_bounds-packed-end c = search name_ends

pub returns-then-end-at-le-BYTES : goal.returns-then-end-at-le-BYTES
returns-then-end-at-le-BYTES c = search name_ends

pub returns : goal.returns
returns c = search name_ends
