use mathlib.Core.Path.{◌≡◌}
use lib.ListN.{take}
use Rattle.catalogue.specs.Callers.{roles_of, profile_of}
use Rattle.catalogue.proofs.Taken.{taken}
use Rattle.script.proofs.opened.Given as goal

abbrev pub invariant-loop-i : goal.invariant-loop-i
invariant-loop-i l = l.o ≡ taken l.n l.names (take l.count l.grants) l.words (roles_of l.who) (profile_of l.who) l.i
