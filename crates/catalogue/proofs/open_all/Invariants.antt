-- `open_all`: what is opened is that of the first i grants.
use mathlib.Core.Path.{◌≡◌}
use Rattle.catalogue.specs.Callers.{roles_of, profile_of}
use Rattle.catalogue.proofs.Taken.{taken}
use Rattle.catalogue.proofs.open_all.Given as goal

abbrev pub invariant-loop-i : goal.invariant-loop-i
invariant-loop-i l = l.o ≡ taken l.n l.names l.grants l.granted (roles_of l.who) (profile_of l.who) l.i
