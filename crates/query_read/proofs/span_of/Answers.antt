-- `span_of`: by the bounds of a SIZE.
use Rattle.query_read.proofs.Leaves.{span_ends}
use Rattle.query_read.proofs.span_of.Goals as goal

pub returns-then-v-lt0 : goal.returns-then-v-lt0
returns-then-v-lt0 c = search span_ends

pub returns-then-v-gt-MOST : goal.returns-then-v-gt-MOST
returns-then-v-gt-MOST c = search span_ends

pub overflow_cast-result : goal.overflow_cast-result
overflow_cast-result c = search span_ends

pub returns : goal.returns
returns c = search span_ends
