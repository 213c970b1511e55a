-- Which refusal a table gives, and that it gives none where its checks pass.
use mathlib.Core.Path.{◌≡◌, refl, sym, ap, ◌∙◌, subst}
use mathlib.Core.List.{List, [], ◌∷◌, ◌++◌}
use mathlib.Core.Bool.{Bool, true, false, not, cond}
use mathlib.Core.Option.{none, some, some-injective, none-ne-some}
use Prim.Native.Nat.{ℕ}
use lib.Dec.{T, eqb, eqb_refl, T_not}
use Rattle.lists.specs.Lists.{every}
use Rattle.lists.proofs.Laws.{parts, T_false, cond_cases}
use Rattle.refusal.specs.Numbers.{number_of}
use Rattle.refusal.specs.Checks.{Check, first, passes}
use Rattle.refusal.specs.declared.Refusal.{Refusal}

pub stops : (cs : List Check) (r : Refusal) → first cs ≡ some r → passes cs ≡ false
unfolding first passes
stops [] r e = absurd (none-ne-some r e)
stops (c ∷ cs) r e = go c.fails e (stops cs r)
  where
    go : (b : Bool) → cond b (some c.refusal) (first cs) ≡ some r → (first cs ≡ some r → passes cs ≡ false) → cond b false (passes cs) ≡ false
    go true e f = refl
    go false e f = f e

-- where a check of the table is reached and its condition holds
pub data Reached (r : Refusal) : List Check → Type 0 where
  here : {cs : List Check} → Reached r (record { refusal = r; fails = true } ∷ cs)
  later : {s : Refusal} {cs : List Check} → Reached r cs → Reached r (record { refusal = s; fails = false } ∷ cs)

pub first_reached : (r : Refusal) (cs : List Check) → first cs ≡ some r → Reached r cs
unfolding first
first_reached r [] e = absurd (none-ne-some r e)
first_reached r (c ∷ cs) e = go c.refusal c.fails e (first_reached r cs)
  where
    go : (s : Refusal) (b : Bool) → cond b (some s) (first cs) ≡ some r → (first cs ≡ some r → Reached r cs) → Reached r (record { refusal = s; fails = b } ∷ cs)
    go s true e f = subst (λ s. Reached r (record { refusal = s; fails = true } ∷ cs)) (sym (some-injective s r e)) here
    go s false e f = later (f e)

pub reached_first : (r : Refusal) (cs : List Check) → Reached r cs → first cs ≡ some r
unfolding first
reached_first r cs here = refl
reached_first r cs (later {cs = ds} h) = reached_first r ds h

-- ---- a number that a table does not give

abbrev pub never : ℕ → List Check → Bool
never n cs = every (λ c. not (eqb (number_of c.refusal) n)) cs

same_number : {X : Type 0} (n : ℕ) (r s : Refusal) → some r ≡ some s → number_of s ≡ n → T (not (eqb (number_of r) n)) → X
same_number n r s e h t = absurd (T_not (eqb (number_of r) n) t (rw (ap number_of (some-injective r s e) ∙ h) (eqb_refl n)))

pub never_first : (n : ℕ) (cs : List Check) (r : Refusal) → T (never n cs) → first cs ≡ some r → number_of r ≡ n → ⊥
unfolding every first
never_first n [] r t e h = none-ne-some r e
never_first n (c ∷ cs) r t e h =
    cond_cases c.fails (some c.refusal) (first cs) e (λ b i. same_number n c.refusal r i h (search parts)) (λ b i. never_first n cs r (search parts) i h)

-- where the last check alone refuses by a number, that refusal means that all before it hold off
pub first_last : {X : Type 0} (n : ℕ) (cs : List Check) (c : Check) (r : Refusal) → T (never n cs) → first (cs ++ (c ∷ [])) ≡ some r → number_of r ≡ n
    → (T (passes cs) → T c.fails → X) → X
unfolding every first passes
first_last n [] c r t e h k = cond_cases c.fails (some c.refusal) none e (λ b i. k tt b) (λ b i. absurd (none-ne-some r i))
first_last n (a ∷ cs) c r t e h k =
    cond_cases a.fails (some a.refusal) (first (cs ++ (c ∷ []))) e
    (λ b i. same_number n a.refusal r i h (search parts))
    (λ b i. first_last n cs c r (search parts) i h (λ p. k (rw (T_false a.fails b) p)))
