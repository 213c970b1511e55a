use mathlib.Core.Path.{◌≡◌, sym, ap₂, ◌∙◌, subst}
use Prim.Native.Nat.{ℕ, ◌<◌}
use native.Mathlib.Omega.{arith}
use lib.IntN.{pos, ◌-ℤ◌}
use mir.Syntax.{w64}
use mir.Val.{SFits, to_z, of_z}
use mir.ValLaws.{to_z-of_z, to_z_pos}
use borrow.Author.Rules.{rules}
use Rattle.nodes.specs.Nodes.{unbiased}
use Rattle.figures.proofs.Comparing.{term_time, term_figure, term_number, term_other, number_sub, number_fits}
use Rattle.figures.proofs.Answer.term.Goals as goal

-- the machine's difference
number-made : (v : ℕ) → v < 4294967296 → to_z w64 v -ℤ to_z w64 2147483648 ≡ unbiased v
number-made v h = ap₂ ◌-ℤ◌ (to_z_pos w64 v (omega arith)) (to_z_pos w64 2147483648 (omega arith)) ∙ number_sub v

sub-fits : (v : ℕ) → v < 4294967296 → SFits w64 (to_z w64 v -ℤ to_z w64 2147483648)
sub-fits v h = subst (SFits w64) (sym (number-made v h)) (number_fits v h)

pub returns-in-24 : goal.returns-in-24
returns-in-24 c =
    let a = c.args in
    let e : to_z w64 a.self.end ≡ pos a.self.end = to_z_pos w64 a.self.end (omega arith) in
    e ∙ term_time a.self a.code a.v (omega arith)

pub returns-in-25 : goal.returns-in-25
returns-in-25 c =
    let a = c.args in
    let e : to_z w64 (of_z w64 a.self.figure) ≡ a.self.figure = search rules in
    rw e (term_figure a.self a.code a.v (omega arith))

pub returns-in-26 : goal.returns-in-26
returns-in-26 c =
    let a = c.args in
    to_z-of_z w64 _ (sub-fits a.v (omega arith)) ∙ number-made a.v (omega arith) ∙ term_number a.self a.code a.v (omega arith)

pub returns-in_default : goal.returns-in_default
returns-in_default c =
    let a = c.args in
    term_other a.self a.code a.v (λ h. omega arith) (λ h. omega arith) (λ h. omega arith)
