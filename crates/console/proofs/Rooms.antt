-- Output that is kept or written, and what is read.
use mathlib.Core.Path.{◌≡◌, refl, sym, ap, ◌∙◌}
use mathlib.Core.List.{[], ◌∷◌, ◌++◌}
use mathlib.Core.Bool.{Bool, false, not, true≢false}
use Prim.Native.Nat.{ℕ, zero, suc, ◌-◌, ◌≤◌, ◌<◌, min}
use native.Mathlib.Omega.{arith}
use lib.ListN.{length, take, set, length-set}
use Rattle.lists.proofs.Laws.{append_nil}
use Rattle.syntax.specs.Grammar.{Bytes}
use Rattle.report.proofs.Printed.{take_min}
use Rattle.console.specs.declared.Reading.TheVariants.{Open, Ended, Failed}
use Rattle.console.specs.Lines.{closer, Closes, Reads}
use Rattle.console.specs.Output.{Writes, Lasts, Room, Tells}

-- ---- what stays, and what is written

none_written : (o o' : Bytes) → o' ≡ o → Writes o o'
none_written o o' e = record { written = []; all = e }

all_written : (m : Bytes) (used r : ℕ) → r ≡ 0 → Writes (take used m) (take r m)
all_written m used r e = record { written = take used m; all = ap (λ (j : ℕ). take used m ++ take j m) e ∙ append_nil (take used m) }

pub room_made : (m : Bytes) (used : ℕ) {n r : ℕ} → n ≡ min used (length m) → length m - n < 131072 → r ≡ 0 → Room m used r
room_made m used {n} {r} e h f = record { inside = omega arith; rest = all_written m used r f; kept = λ k. absurd (omega arith); room = λ k. omega arith }

pub room_kept : (m : Bytes) (used : ℕ) {n : ℕ} → n ≡ min used (length m) → 131072 ≤ length m - n → Room m used n
room_kept m used {n} e h =
    record { inside = omega arith; rest = none_written (take used m) (take n m) (ap (λ (j : ℕ). take j m) e ∙ take_min m used); kept = λ k. omega arith; room = λ k. omega arith }

pub ruleset room_ends = (room_made, room_kept)

pub tells_nothing : (m : Bytes) (used : ℕ) (explains : Bool) → Tells m used explains used
tells_nothing m used explains = record { rest = none_written (take used m) (take used m) refl; kept = λ e. refl }

pub tells_behind : (m : Bytes) (used : ℕ) (explains : Bool) {r : ℕ} → not explains ≡ false → r ≡ 0 → Tells m used explains r
tells_behind m used explains {r} e f = record { rest = all_written m used r f; kept = λ k. absurd (true≢false (sym (ap not k) ∙ e)) }

pub ruleset tell_ends = (tells_nothing, tells_behind)

-- ---- what is lost

pub not_lost : {a b : Bool} → a ≡ false → Lasts a b
not_lost e h = absurd (true≢false (sym h ∙ e))

-- ---- what is read

pub none_kept : (m : Bytes) (kept : ℕ) → kept ≡ 0 → Closes kept m 0
none_kept m kept e = record { inside = omega arith; bytes = λ h. rw e refl }

pub no_place : (m : Bytes) (kept : ℕ) → length m ≡ 0 → Closes kept m 0
no_place m kept e = record { inside = omega arith; bytes = λ h. absurd (omega arith) }

feed_put : (m : Bytes) → (length m ≡ 0 → ⊥) → take 1 (set m 0 10) ≡ 10 ∷ []
feed_put [] h = absurd (h refl)
feed_put (b ∷ m) h = refl

closer_some : (kept : ℕ) → (kept ≡ 0 → ⊥) → 10 ∷ [] ≡ closer kept
closer_some zero k = absurd (k refl)
closer_some (suc n) k = refl

pub line_closed : (m : Bytes) (kept : ℕ) → (kept ≡ 0 → ⊥) → (length m ≡ 0 → ⊥) → Closes kept (set m 0 10) 1
line_closed m kept k h = record { inside = let l = length-set m 0 10 in some (length m) h l; bytes = λ i. feed_put m h ∙ closer_some kept k }
  where
    some : (n : ℕ) → (n ≡ 0 → ⊥) → {j : ℕ} → j ≡ n → 1 ≤ j
    some zero h e = absurd (h refl)
    some (suc n) h e = omega arith

pub ruleset close_ends = (none_kept, no_place, line_closed)

pub more_read : (kept : ℕ) (m : Bytes) (n : ℕ) → n ≤ length m → 0 < n → Reads kept m (record { count = n; reading = Open })
more_read kept m n h k = record { inside = h; more = λ e. omega arith; end = λ e. absurd (cc); none = λ e. absurd (cc) }

pub none_read : (kept : ℕ) (m : Bytes) → Reads kept m (record { count = 0; reading = Failed })
none_read kept m = record { inside = omega arith; more = λ e. absurd (cc); end = λ e. absurd (cc); none = λ e. refl }

pub end_read : (kept : ℕ) (m : Bytes) (n : ℕ) → Closes kept m n → Reads kept m (record { count = n; reading = Ended })
end_read kept m n x = record { inside = x.inside; more = λ e. absurd (cc); end = λ e. x.bytes; none = λ e. absurd (cc) }

pub ruleset read_ends = (more_read, none_read, end_read)
