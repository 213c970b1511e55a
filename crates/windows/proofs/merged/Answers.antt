use mathlib.Core.Path.{◌≡◌, ◌∙◌}
use native.Mathlib.Omega.{arith}
use lib.IntN.{◌+ℤ◌}
use mir.Syntax.{w64}
use mir.Val.{SFits, to_z, of_z}
use mir.ValLaws.{to_z-of_z}
use borrow.Author.Rules.{rules}
use Rattle.std.specs.Int.{int_min, int_max}
use Rattle.windows.proofs.Tallies.{merge_least, merge_greatest, merge_sum, sum_fits}
use Rattle.windows.proofs.merged.Goals as goal

pub returns-in-1 : goal.returns-in-1
returns-in-1 c =
    let a = c.args in
    let z : SFits w64 c.min.result = search rules in
    let e : c.min.result ≡ int_min a.a a.b = search (rules, c.min.ensures.value) in
    to_z-of_z w64 _ z ∙ e ∙ merge_least a.f a.a a.b (omega arith)

pub returns-in-2 : goal.returns-in-2
returns-in-2 c =
    let a = c.args in
    let z : SFits w64 c.max.result = search rules in
    let e : c.max.result ≡ int_max a.a a.b = search (rules, c.max.ensures.value) in
    to_z-of_z w64 _ z ∙ e ∙ merge_greatest a.f a.a a.b (omega arith)

pub returns-in_default : goal.returns-in_default
returns-in_default c =
    let a = c.args in
    let x : to_z w64 (of_z w64 a.a) ≡ a.a = search rules in
    let y : to_z w64 (of_z w64 a.b) ≡ a.b = search rules in
    rw (x, y, to_z-of_z w64 (a.a +ℤ a.b) (sum_fits a.a a.b (omega arith) (omega arith))) (merge_sum a.f a.a a.b (λ h. omega arith) (λ h. omega arith))
