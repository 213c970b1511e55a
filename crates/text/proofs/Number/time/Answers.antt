-- `Number::time`: by the bounds of a time.
use Rattle.text.proofs.Ranges.{time_ends}
use Rattle.text.proofs.Number.time.Goals as goal

pub returns-then-v-lt0 : goal.returns-then-v-lt0
returns-then-v-lt0 c = search time_ends

pub returns-then-v-gt-MOST : goal.returns-then-v-gt-MOST
returns-then-v-gt-MOST c = search time_ends

pub overflow_cast-result : goal.overflow_cast-result
overflow_cast-result c = search time_ends

pub returns : goal.returns
returns c = search time_ends
