-- `numeral_end`: by the first digit and the number of digits.
use Rattle.text.proofs.Numbers.{numeral_ends}
use Rattle.text.proofs.numeral_end.Goals as goal

pub returns-then-end-at : goal.returns-then-end-at
returns-then-end-at c = search numeral_ends

pub returns-then-byte-ne48 : goal.returns-then-byte-ne48
returns-then-byte-ne48 c = search numeral_ends

pub overflow_sub-end : goal.overflow_sub-end
overflow_sub-end c = search numeral_ends

pub returns-then-end-at-le1 : goal.returns-then-end-at-le1
returns-then-end-at-le1 c = search numeral_ends

pub returns : goal.returns
returns c = search numeral_ends
