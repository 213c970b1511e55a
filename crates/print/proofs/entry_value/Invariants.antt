-- `entry_value`: none of the entries passed has the name.
use mathlib.Core.Path.{◌≡◌}
use Rattle.model.specs.Grants.{entry_value}
use Rattle.text.specs.Words.{name_of}
use Rattle.nodes.specs.Profiles.{profile_in}
use Rattle.print.proofs.Sides.{value_from}
use Rattle.print.proofs.entry_value.Given as goal

abbrev pub invariant-loop-i : goal.invariant-loop-i
invariant-loop-i l = entry_value (profile_in l.profile) (name_of l.v) ≡ value_from l.profile l.v l.i
