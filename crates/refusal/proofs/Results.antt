-- Results: a call is accepted where its checks pass, and refused where they do not; and what is held after one.
use mathlib.Core.Path.{◌≡◌, refl, sym, ap, ◌∙◌}
use mathlib.Core.List.{List}
use mathlib.Core.Bool.{false}
use mathlib.Core.Option.{Option, none, some}
use lib.Dec.{T}
use Rattle.std.specs.Prelude.{Result, Ok, Err}
use Rattle.refusal.specs.Results.{Said, result_of, giving, said_by, held_after, settled}
use Rattle.refusal.specs.Checks.{Check, first, passes, table, no_fault}
use Rattle.refusal.specs.declared.Checks.{Checks}
use Rattle.refusal.specs.declared.Refusal.{Refusal}
use Rattle.refusal.specs.declared.Refused.{Refused}
use Rattle.refusal.proofs.Passing.{passes_first}
use Rattle.refusal.proofs.Passed.{passed}
use Rattle.refusal.proofs.Verdicts.{stops}

pub not_ok : {A E : Type 0} {x : A} (why : E) → ◌≡◌ {A = Result A E} (Err why) (Ok x) → ⊥
not_ok why e = cc

pub data Told (v : Said) (cs : List Check) : Type 0 where
  accepted : v ≡ Ok tt → T (passes cs) → Told v cs
  refused : (v ≡ Ok tt → ⊥) → passes cs ≡ false → Told v cs

pub told : (v : Said) (cs : List Check) → v ≡ result_of (first cs) → Told v cs
told v cs e = go (first cs) refl
  where
    go : (o : Option Refusal) → first cs ≡ o → Told v cs
    go none h = accepted (e ∙ ap result_of h) (passes_first cs h)
    go (some r) h = refused (λ a. not_ok r (sym (ap result_of h) ∙ sym e ∙ a)) (stops cs r h)

pub result_none : (o : Option Refusal) → result_of o ≡ Ok tt → o ≡ none
result_none none e = refl
result_none (some f) e = absurd (not_ok f e)

pub result_some : (o : Option Refusal) (f : Refusal) → result_of o ≡ Err f → o ≡ some f
result_some none f e = absurd (not_ok f (sym e))
result_some (some g) f e = cc

-- of a call that is accepted all thirteen checks hold off
pub result_passed : (c : Checks) → result_of (first (table c)) ≡ Ok tt → c ≡ no_fault
result_passed c e = passed c (result_none (first (table c)) e)

-- ---- what is held after a result

module _ {A B : Type 0} (v : Said) (new : A) (old : B) {r : Result A (Refused B)} where
  pub given_refused : {f : Refusal} → v ≡ Err f → r ≡ Err (record { refusal = f; held = old }) → r ≡ giving v new old
  unfolding giving
  given_refused e h = h ∙ sym (rw e)

  pub given_accepted : v ≡ Ok tt → r ≡ Ok new → r ≡ giving v new old
  unfolding giving
  given_accepted e h = h ∙ sym (rw e)

module _ {A B : Type 0} where
  pub said_giving : (v : Said) (new : A) (old : B) → said_by (giving v new old) ≡ v
  unfolding giving said_by
  said_giving (Ok u) new old = refl
  said_giving (Err f) new old = refl

module _ {A : Type 0} where
  pub held_giving : (v : Said) (new old : A) → held_after (giving v new old) ≡ settled v old new
  unfolding giving held_after settled
  held_giving (Ok u) new old = refl
  held_giving (Err f) new old = refl

  pub settled_old : (v : Said) (old new : A) → (v ≡ Ok tt → ⊥) → settled v old new ≡ old
  unfolding settled
  settled_old (Ok u) old new n = absurd (n refl)
  settled_old (Err f) old new n = refl

  pub settled_new : (v : Said) (old new : A) → v ≡ Ok tt → settled v old new ≡ new
  unfolding settled
  settled_new v old new e = rw e

  -- where a call is refused, it is no matter what it would have left
  pub settled_same : (v : Said) (old a b : A) → (v ≡ Ok tt → a ≡ b) → settled v old a ≡ settled v old b
  unfolding settled
  settled_same (Ok u) old a b e = e refl
  settled_same (Err f) old a b e = refl
