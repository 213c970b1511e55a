-- `Number::kept`: by the bounds of 32 bits.
use Rattle.text.proofs.Ranges.{kept_ends}
use Rattle.text.proofs.Number.kept.Goals as goal

pub returns-then-v-lt-LEAST : goal.returns-then-v-lt-LEAST
returns-then-v-lt-LEAST c = search kept_ends

pub returns-then-v-gt-MOST : goal.returns-then-v-gt-MOST
returns-then-v-gt-MOST c = search kept_ends

pub overflow_cast-result : goal.overflow_cast-result
overflow_cast-result c = search kept_ends

pub returns : goal.returns
returns c = search kept_ends
