-- `named`: what the nodes passed name, and what those left name.
use mathlib.Core.Path.{◌≡◌}
use lib.Bits.{bit_or}
use Rattle.comparisons.specs.Compared.{compared, named_by}
use Rattle.comparisons.proofs.named.Given as goal

abbrev pub invariant-loop-at : goal.invariant-loop-at
invariant-loop-at l = named_by (compared l.words l.stop l.k) ≡ bit_or (named_by (compared l.words l.stop l.at)) l.m

abbrev pub decreases-loop-at : goal.decreases-loop-at
decreases-loop-at l = l.at
