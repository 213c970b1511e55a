-- The checks in front of every line: its length, its form and its brackets.
use mathlib.Core.Path.{◌≡◌, refl}
use mathlib.Core.List.{List, []}
use mathlib.Core.Bool.{true, false}
use mathlib.Core.Option.{Option, none, some}
use Prim.Native.Nat.{ℕ, ◌≤◌}
use lib.Dec.{T, nltb→le}
use lib.ListN.{length}
use Rattle.refusal.specs.Checks.{Check, passes}
use Rattle.refusal.proofs.Passing.{pass_first, pass_rest, pass_test}
use Rattle.syntax.specs.Grammar.{Bytes}
use Rattle.syntax.specs.Limits.{max_line, shallow}
use Rattle.calls.specs.Replies.{written}

-- a written line that passes was read, and what was read passes its own checks
pub written_passes : {A X : Type 0} (spare : ℕ) (bs : Bytes) (o : Option A) (checks : A → List Check)
    → T (passes (written spare bs o checks)) → ((a : A) → o ≡ some a → T (passes (checks a)) → X) → X
unfolding written
written_passes spare bs none checks t k = absurd (pass_first _ true [] (pass_rest _ _ _ t))
written_passes spare bs (some a) checks t k = k a refl (pass_rest _ _ (checks a) (pass_rest _ false _ (pass_rest _ _ _ t)))

-- it is short, and its brackets do not nest too deep
pub written_short : {A : Type 0} (spare : ℕ) (bs : Bytes) (o : Option A) (checks : A → List Check) → T (passes (written spare bs o checks)) → length bs ≤ max_line
unfolding written
written_short spare bs none checks t = nltb→le max_line (length bs) (pass_first _ _ _ t)
written_short spare bs (some a) checks t = nltb→le max_line (length bs) (pass_first _ _ _ t)

pub written_shallow : {A : Type 0} (spare : ℕ) (bs : Bytes) (o : Option A) (checks : A → List Check) → T (passes (written spare bs o checks)) → T (shallow spare bs)
unfolding written
written_shallow spare bs none checks t = absurd (pass_first _ true [] (pass_rest _ _ _ t))
written_shallow spare bs (some a) checks t = pass_test _ (shallow spare bs) (checks a) (pass_rest _ false _ (pass_rest _ _ _ t))
