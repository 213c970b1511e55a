-- The refusal that a table of checks gives: the checks before it hold off, and it fails.
use mathlib.Core.Path.{◌≡◌, refl}
use mathlib.Core.List.{List, [], ◌∷◌}
use mathlib.Core.Bool.{Bool, true, false}
use Rattle.std.specs.Prelude.{Ok, Err}
use Rattle.refusal.specs.Results.{Said, result_of}
use Rattle.refusal.specs.Checks.{Check, first}
use Rattle.refusal.specs.declared.Refusal.{Refusal}

pub data Gives : Said → List Check → Type 0 where
  ends : Gives (Ok tt) []
  fails : {r : Refusal} {b : Bool} {cs : List Check} → b ≡ true → Gives (Err r) (record { refusal = r; fails = b } ∷ cs)
  holds : {v : Said} {r : Refusal} {b : Bool} {cs : List Check} → b ≡ false → Gives v cs → Gives v (record { refusal = r; fails = b } ∷ cs)

pub gives_first : {v : Said} {cs : List Check} → Gives v cs → v ≡ result_of (first cs)
unfolding first
gives_first ends = refl
gives_first (fails e) = rw e
gives_first (holds e g) = rw e (gives_first g)

-- every return of a function that tries checks in their order
pub ruleset firsts = (gives_first, ends, fails, holds)
