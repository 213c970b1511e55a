use mathlib.Core.Path.{◌≡◌}
use Rattle.nodes.specs.Nodes.{terms_sound}
use Rattle.nodes.proofs.Tests.{left_sound}
use Rattle.nodes.proofs.all_sound.Given as goal

abbrev pub invariant-loop-k : goal.invariant-loop-k
invariant-loop-k l = left_sound (terms_sound l.mask) l.words l.n ≡ left_sound (terms_sound l.mask) l.words l.k

abbrev pub decreases-loop-k : goal.decreases-loop-k
decreases-loop-k l = l.k
