-- `entry_value`: the value is that of the entries that are left.
use mathlib.Core.Path.{◌≡◌}
use lib.ListN.{drop}
use Rattle.model.specs.Grants.{entry_value}
use Rattle.text.specs.Words.{name_of}
use Rattle.selection.specs.Scopes.{profile_in}
use Rattle.selection.proofs.Sides.{value_of}
use Rattle.selection.proofs.entry_value.Given as goal

abbrev pub invariant-loop-e : goal.invariant-loop-e
invariant-loop-e l = entry_value (profile_in l.profile) (name_of l.value) ≡ value_of l.value (drop l.e-index l.entries)
