-- The text of an outcome, by its kind.
use mathlib.Core.Path.{◌≡◌, refl, sym, ap, ◌∙◌, subst}
use mathlib.Core.List.{List}
use mathlib.Core.Bool.{Bool, true, false}
use Prim.Native.Nat.{ℕ, ◌+◌, ◌*◌, ◌-◌, ◌≤◌, min}
use native.Mathlib.Omega.{arith}
use lib.IntN.{ℤ}
use lib.Dec.{leb}
use lib.ListN.{length, take, length-take}
use lib.Seq.{take_all, take-length}
use borrow.Author.Tests.{leb-true, leb-false}
use Rattle.syntax.specs.Grammar.{Bytes}
use Rattle.calls.specs.Scripts.{refusal, cells, text}
use Rattle.report.specs.declared.Message.TheVariants.{Quiet, Refusal, Cells, Text}
use Rattle.report.specs.Outcomes.{outcome_of, put_outcome, outcome_text}
use Rattle.report.specs.Written.{Written}

pub take_min : {A : Type 0} (m : List A) (k : ℕ) → take (min k (length m)) m ≡ take k m
take_min m k = go (leb k (length m)) refl
  where
    go : (b : Bool) → leb k (length m) ≡ b → take (min k (length m)) m ≡ take k m
    go true e = let h = leb-true k (length m) e in let f : min k (length m) ≡ k = omega arith in ap (λ (j : ℕ). take j m) f
    go false e = let h = leb-false k (length m) e in let f : min k (length m) ≡ length m = omega arith in ap (λ (j : ℕ). take j m) f ∙ take-length m ∙ sym (take_all k m (omega arith))

more_room : {t : Bytes} {a b : ℕ} {m m' : Bytes} {n : ℕ} → Written t a m m' n → a ≤ b → Written t b m m' n
more_room x h = record { count = x.count; whole = x.whole; cut = x.cut; few = omega (arith, x.few) }

module _ (zs : List ℤ) (ys m : Bytes) where
  abbrev all : ℕ
  all = 28 * length zs + length ys + 20

  pub quiet_printed : Written (outcome_text (outcome_of Quiet zs ys)) all m m 0
  unfolding outcome_text put_outcome outcome_of
  quiet_printed = record { count = refl; whole = λ h l. refl; cut = λ h l. absurd (omega arith); few = omega arith }

  pub refusal_printed : (n : ℕ) {m' : Bytes} {r : ℕ} → Written (outcome_text (refusal n)) 20 m m' r → Written (outcome_text (outcome_of (Refusal n) zs ys)) all m m' r
  unfolding outcome_of
  refusal_printed n x = more_room x (omega arith)

  pub cells_printed : (n i : ℕ) {m' : Bytes} {r : ℕ} → i ≡ min n (length zs) → Written (outcome_text (cells (take (i - 0) zs))) (28 * length (take (i - 0) zs)) m m' r → Written (outcome_text (outcome_of (Cells n) zs ys)) all m m' r
  unfolding outcome_of
  cells_printed n i {m'} {r} f x =
      let g : i - 0 ≡ i = omega arith in
      let l : length (take (i - 0) zs) ≡ min (i - 0) (length zs) = length-take (i - 0) zs in
      subst (λ (w : List ℤ). Written (outcome_text (cells w)) (28 * length zs + length ys + 20) m m' r) (ap (λ (j : ℕ). take j zs) (g ∙ f) ∙ take_min zs n) (more_room x (omega arith))

  pub text_printed : (n i : ℕ) {m' : Bytes} {r : ℕ} → i ≡ min n (length ys) → Written (outcome_text (text (take (i - 0) ys))) (length (take (i - 0) ys) + 1) m m' r → Written (outcome_text (outcome_of (Text n) zs ys)) all m m' r
  unfolding outcome_of
  text_printed n i {m'} {r} f x =
      let g : i - 0 ≡ i = omega arith in
      let l : length (take (i - 0) ys) ≡ min (i - 0) (length ys) = length-take (i - 0) ys in
      subst (λ (w : Bytes). Written (outcome_text (text w)) (28 * length zs + length ys + 20) m m' r) (ap (λ (j : ℕ). take j ys) (g ∙ f) ∙ take_min ys n) (more_room x (omega arith))

pub ruleset print_ends = (quiet_printed, refusal_printed, cells_printed, text_printed)
