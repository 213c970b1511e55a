use mathlib.Core.Path.{◌≡◌}
use mir.Syntax.{w64}
use mir.Val.{SFits, to_z, of_z}
use mir.ValLaws.{to_z-of_z}
use borrow.Author.Rules.{rules}
use Rattle.windows.specs.Events.{with_event}
use Rattle.windows.proofs.Tally.with.Goals as goal

pub returns : goal.returns
unfolding with_event
returns c =
    let a = c.args in
    let x : to_z w64 (of_z w64 a.self.part) ≡ a.self.part = search rules in
    let y : to_z w64 (of_z w64 a.e.part) ≡ a.e.part = search rules in
    let z : SFits w64 c.merged.result = search rules in
    rw (to_z-of_z w64 _ z, rw (x, y) at c.merged.ensures)
