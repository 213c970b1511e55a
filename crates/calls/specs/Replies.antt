-- The checks in front of every line, and the replies of calls that write into lent cells.
use Rattle.std.specs.Prelude.{List, [], ◌∷◌, ◌++◌, true, false, not, ℕ, ltb, length, drop}
use Rattle.std.proofs.Math.Option.{Option, none, some}
use Rattle.refusal.specs.declared.Refusal.{Refusal}
use Rattle.refusal.specs.declared.Refusal.TheVariants.{Malformed, Bound}
use Rattle.refusal.specs.Checks.{Check, refuse, checks_compute}
use Rattle.syntax.specs.Grammar.{Bytes}
use Rattle.syntax.specs.Limits.{max_line, shallow}
use Rattle.calls.specs.Validity.{validity_computes}

-- a written line: its length, then whether it is of the stated forms, then its brackets, then the checks of what was read
unfoldable pub written : {A : Type 0} → ℕ → Bytes → Option A → (A → List Check) → List Check
written spare bs none checks = refuse Bound (ltb max_line (length bs)) ∷ refuse Malformed true ∷ []
written spare bs (some a) checks =
    refuse Bound (ltb max_line (length bs)) ∷ refuse Malformed false ∷ refuse Bound (not (shallow spare bs)) ∷ checks a

-- a refusal; or how many cells were written and what all lent cells hold afterwards
pub data Reply (A : Type 0) : Type 0 where
  refused : Refusal → Reply A
  filled : ℕ → List A → Reply A

unfoldable pub reply : {A : Type 0} → Option Refusal → List A → List A → Reply A
reply none out lent = filled (length out) (out ++ drop (length out) lent)
reply (some r) out lent = refused r

-- a refusal changes no lent cell
unfoldable pub lent_after : {A : Type 0} → Reply A → List A → List A
lent_after (refused r) lent = lent
lent_after (filled n cells) lent = cells

-- To unfold this is to unfold every definition above.
unfoldable pub replies_compute : Unit {0}
unfolding validity_computes checks_compute written reply lent_after
replies_compute = tt
