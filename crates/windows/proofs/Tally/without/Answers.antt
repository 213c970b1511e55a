use mathlib.Core.Path.{◌≡◌}
use lib.IntN.{◌-ℤ◌}
use mir.Syntax.{w64}
use mir.Val.{to_z, of_z}
use mir.ValLaws.{to_z-of_z}
use borrow.Author.Rules.{rules}
use Rattle.windows.specs.Events.{less_event}
use Rattle.windows.proofs.Tallies.{less_fits}
use Rattle.windows.proofs.Tally.without.Goals as goal

pub overflow_sub-result-2 : goal.overflow_sub-result-2
overflow_sub-result-2 c =
    let a = c.args in
    let x : to_z w64 (of_z w64 a.self.part) ≡ a.self.part = search rules in
    let y : to_z w64 (of_z w64 a.e.part) ≡ a.e.part = search rules in
    rw (x, y) (less_fits a.self.part a.e.part c.requires.0 c.requires.1)

pub returns : goal.returns
unfolding less_event
returns c =
    let a = c.args in
    let x : to_z w64 (of_z w64 a.self.part) ≡ a.self.part = search rules in
    let y : to_z w64 (of_z w64 a.e.part) ≡ a.e.part = search rules in
    let z = to_z-of_z w64 (a.self.part -ℤ a.e.part) (less_fits a.self.part a.e.part c.requires.0 c.requires.1) in
    rw (x, y, z)
