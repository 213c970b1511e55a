-- `read_word`: by the first byte and the number of bytes.
use Rattle.text.proofs.Keywords.{word_ends, word_short}
use Rattle.text.proofs.read_word.Goals as goal

pub returns-then-byte-eq0 : goal.returns-then-byte-eq0
returns-then-byte-eq0 c = search word_ends

pub returns-then-end-at : goal.returns-then-end-at
returns-then-end-at c = search word_ends

pub overflow_sub-end : goal.overflow_sub-end
overflow_sub-end c = search word_ends

pub returns-then-end-at-gt-BYTES : goal.returns-then-end-at-gt-BYTES
returns-then-end-at-gt-BYTES c = search word_ends

pub slice_bounds-packed-count : goal.slice_bounds-packed-count
slice_bounds-packed-count c = search word_ends

pub slice_bounds-packed-start : goal.slice_bounds-packed-start
slice_bounds-packed-start c = search word_ends

pub slice_bounds-packed-end : goal.slice_bounds-packed-end
slice_bounds-packed-end c = search word_ends

pub returns : goal.returns
returns c = word_short _ _ c.byte.ensures c.run_end-end.ensures (λ i. (c.type_inv.s i).fits) c.if-byte-eq0.false c.if-end-at.false c.if-end-at-gt-BYTES.false c.packed.ensures
