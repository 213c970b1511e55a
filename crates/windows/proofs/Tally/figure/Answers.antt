use mathlib.Core.Path.{◌≡◌, sym, ◌∙◌, subst}
use native.Mathlib.Omega.{arith}
use lib.IntN.{pos}
use mir.Syntax.{w64}
use mir.Val.{SFits, to_z, of_z}
use mir.ValLaws.{to_z-of_z, to_z_pos}
use Rattle.windows.proofs.Tallies.{counting, averaging, plain, machine_quot, quot_fits}
use borrow.Author.Rules.{rules}
use Rattle.windows.proofs.Tally.figure.Goals as goal

pub returns-then-f-eq3 : goal.returns-then-f-eq3
returns-then-f-eq3 c =
    let a = c.args in
    let n : to_z w64 a.self.count ≡ pos a.self.count = to_z_pos w64 a.self.count (omega arith) in
    n ∙ counting a.f a.self c.if-f-eq3.true

pub nonzero_div-result : goal.nonzero_div-result
nonzero_div-result c =
    let a = c.args in
    let f : SFits w64 a.self.part = search rules in
    (omega arith, subst (SFits w64) (sym (machine_quot w64 a.self.part a.self.count f (omega arith))) (quot_fits w64 a.self.part a.self.count f (omega arith)))

pub returns-then-f-eq4 : goal.returns-then-f-eq4
returns-then-f-eq4 c =
    let a = c.args in
    let f : SFits w64 a.self.part = search rules in
    to_z-of_z w64 _ (subst (SFits w64) (sym (machine_quot w64 a.self.part a.self.count f (omega arith))) (quot_fits w64 a.self.part a.self.count f (omega arith))) ∙ machine_quot w64 a.self.part a.self.count f (omega arith) ∙ averaging a.f a.self c.if-f-eq4.true

pub returns : goal.returns
returns c =
    let a = c.args in
    let e : to_z w64 (of_z w64 a.self.part) ≡ a.self.part = search rules in
    e ∙ plain a.f a.self (λ h. omega arith) (λ h. omega arith)
