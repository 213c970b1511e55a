-- A number of 32 bits, the lowest as 0.
use mathlib.Core.Path.{◌≡◌, ap, ◌∙◌}
use mathlib.Core.Bool.{cond}
use Prim.Native.Nat.{suc, ◌+◌, ◌-◌, ◌<◌}
use native.Mathlib.Omega.{arith}
use lib.IntN.{ℤ, pos, negsuc, nat_abs, ◌+ℤ◌}
use lib.Signed.{non_neg}
use lib.Dec.{T, leb, leb→le}
use borrow.Author.Tests.{le-ltb, le-leb, lt-leb}
use mir.Syntax.{w32, w64}
use mir.Val.{Fits, SFits, to_z, of_z}
use mir.ValLaws.{to_z-of_z}
use mir.Facts.{sfits_widen}
use Rattle.lists.proofs.Laws.{T_true}
use Rattle.syntax.specs.Limits.{is_value}
use Rattle.text.specs.Words.{value_kept}
use Rattle.terms.specs.Terms.{biased}

biased_under : (z : ℤ) → SFits w32 z → biased z < 4294967296
unfolding biased
biased_under (pos n) f = let h = f.sfits in omega arith
biased_under (negsuc n) f = let h = f.sfits in omega arith

sum_biased : (z : ℤ) → SFits w32 z → z +ℤ pos 2147483648 ≡ pos (biased z)
unfolding biased
sum_biased (pos n) f = let e : n + 2147483648 ≡ 2147483648 + n = omega arith in ap pos e
sum_biased (negsuc n) f =
    let h = f.sfits in
    let e : 2147483648 - suc n ≡ 2147483647 - n = omega arith in
    rw (le-ltb 2147483648 (suc n) (omega arith)) (ap pos e)

module _ (z : ℤ) (f : SFits w32 z) where
  -- the bits of the number, read as a signed number
  abbrev read : ℤ
  read = to_z w64 (of_z w64 (to_z w32 (of_z w32 z)))

  narrow : to_z w32 (of_z w32 z) ≡ z
  narrow = to_z-of_z w32 z f

  read_is : read ≡ z
  read_is = rw narrow (to_z-of_z w64 z (sfits_widen tt f))

  sum_is : read +ℤ pos 2147483648 ≡ pos (biased z)
  sum_is = ap (λ y. y +ℤ pos 2147483648) read_is ∙ sum_biased z f

  pub widened : SFits w64 (to_z w32 (of_z w32 z))
  widened = rw narrow (sfits_widen tt f)

  biased_fits : SFits w64 (pos (biased z))
  biased_fits = let h = biased_under z f in record { sfits = omega arith }

  pub sum_fits : SFits w64 (read +ℤ pos 2147483648)
  sum_fits = rw sum_is biased_fits

  total_is : to_z w64 (of_z w64 (read +ℤ pos 2147483648)) ≡ pos (biased z)
  total_is = ap (λ y. to_z w64 (of_z w64 y)) sum_is ∙ to_z-of_z w64 (pos (biased z)) biased_fits

  pub total_positive : T (non_neg (to_z w64 (of_z w64 (read +ℤ pos 2147483648)))) × Fits w64 (nat_abs (to_z w64 (of_z w64 (read +ℤ pos 2147483648))))
  total_positive = let h = biased_under z f in rw total_is (tt, record { fits = omega arith })

  pub total_biased : nat_abs (to_z w64 (of_z w64 (read +ℤ pos 2147483648))) ≡ biased z
  total_biased = ap nat_abs total_is

-- ---- and back

pub biased_back : (z : ℤ) → T (is_value z) → (biased (value_kept z) < 4294967296)
    × (cond (leb 2147483648 (biased (value_kept z))) (pos (biased (value_kept z) - 2147483648)) (negsuc (2147483647 - biased (value_kept z))) ≡ z)
unfolding value_kept biased is_value
biased_back z t = rw (T_true (is_value z) t) (back z t)
  where
    back : (z : ℤ) → T (is_value z) → (biased z < 4294967296) × (cond (leb 2147483648 (biased z)) (pos (biased z - 2147483648)) (negsuc (2147483647 - biased z)) ≡ z)
    back (pos n) t =
        let h = leb→le n 2147483647 t in
        let e : 2147483648 + n - 2147483648 ≡ n = omega arith in
        (omega arith, rw (le-leb 2147483648 (2147483648 + n) (omega arith), e))
    back (negsuc n) t =
        let h = leb→le n 2147483647 t in
        let e : 2147483647 - (2147483647 - n) ≡ n = omega arith in
        (omega arith, rw (lt-leb 2147483648 (2147483647 - n) (omega arith), e))
