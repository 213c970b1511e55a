-- A signed number of 64 bits, written by its size.
use mathlib.Core.Path.{◌≡◌, refl, sym, ap, ◌∙◌}
use mathlib.Core.List.{◌∷◌}
use mathlib.Core.Bool.{true, false}
use Prim.Native.Nat.{ℕ}
use native.Mathlib.Omega.{arith}
use lib.IntN.{ℤ, pos, negsuc, nat_abs}
use lib.Signed.{lt_z}
use mir.Syntax.{w64}
use mir.Val.{SFits, to_z, of_z}
use mir.ValLaws.{to_z-of_z}
use borrow.Author.Tests.{ltb-true}
use Rattle.syntax.specs.Grammar.{Bytes, put_nat, put_int}
use Rattle.print.specs.Writing.{Put, byte_text}
use Rattle.print.proofs.Putting.{put_as, put_then}

module _ (z : ℤ) (fits : SFits w64 z) where
  pub back : to_z w64 (of_z w64 z) ≡ z
  back = to_z-of_z w64 z fits

  -- of a number that was handed on
  pub size_read : {v : ℕ} → v ≡ nat_abs (to_z w64 (of_z w64 z)) → v ≡ nat_abs z
  size_read e = e ∙ ap nat_abs back

-- ---- written

below_text : (z : ℤ) (r : Bytes) → lt_z z (pos 0) ≡ true → put_int z r ≡ 45 ∷ put_nat (nat_abs z) r
unfolding put_int
below_text (pos n) r e = absurd (let h = ltb-true n 0 e in omega arith)
below_text (negsuc n) r e = refl

above_text : (z : ℤ) (r : Bytes) → lt_z z (pos 0) ≡ false → put_int z r ≡ put_nat (nat_abs z) r
unfolding put_int
above_text (pos n) r e = refl
above_text (negsuc n) r e = absurd (let k : ◌≡◌ {A = ℕ} 0 1 = cc in omega arith)

module _ (z : ℤ) (fits : SFits w64 z) {k : ℕ} (h : k ≡ nat_abs (to_z w64 (of_z w64 z))) {m : Bytes} {p : ℕ} where
  pub int_low : {m₁ m₂ : Bytes} {p₁ p₂ : ℕ} → lt_z (to_z w64 (of_z w64 z)) (pos 0) ≡ true → Put (byte_text 45) m p m₁ p₁ → Put (put_nat k) m₁ p₁ m₂ p₂ → Put (put_int z) m p m₂ p₂
  unfolding byte_text
  int_low e x y = put_as (λ r. below_text z r (rw (back z fits) at e) ∙ ap (λ (n : ℕ). 45 ∷ put_nat n r) (sym (size_read z fits h))) (put_then x y)

  pub int_high : {m₁ : Bytes} {p₁ : ℕ} → lt_z (to_z w64 (of_z w64 z)) (pos 0) ≡ false → Put (put_nat k) m p m₁ p₁ → Put (put_int z) m p m₁ p₁
  int_high e x = put_as (λ r. above_text z r (rw (back z fits) at e) ∙ ap (λ (n : ℕ). put_nat n r) (sym (size_read z fits h))) x

pub ruleset int_ends = (int_low, int_high)
