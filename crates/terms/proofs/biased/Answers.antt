-- `biased`: the number fits 32 bits, so that the sum is not below 0.
use Rattle.terms.proofs.Numbers.{widened, sum_fits, total_positive, total_biased}
use Rattle.terms.proofs.biased.Goals as goal

pub overflow_cast-result : goal.overflow_cast-result
overflow_cast-result c = widened _ c.ranges.v

pub overflow_add-result : goal.overflow_add-result
overflow_add-result c = sum_fits _ c.ranges.v

pub overflow_cast-result-2 : goal.overflow_cast-result-2
overflow_cast-result-2 c = total_positive _ c.ranges.v

pub returns : goal.returns
returns c = total_biased _ c.ranges.v
