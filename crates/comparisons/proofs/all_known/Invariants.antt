-- `all_known`: every node passed names entries that are there.
use mathlib.Core.Path.{◌≡◌}
use Rattle.lists.specs.Lists.{every}
use Rattle.comparisons.specs.Compared.{compared, profile_in, compare_known}
use Rattle.comparisons.proofs.all_known.Given as goal

abbrev pub invariant-loop-k : goal.invariant-loop-k
invariant-loop-k l = every (compare_known (profile_in l.profile)) (compared l.words 0 l.n) ≡ every (compare_known (profile_in l.profile)) (compared l.words 0 l.k)

abbrev pub decreases-loop-k : goal.decreases-loop-k
decreases-loop-k l = l.k
