-- Words that a loop fills together, each with one bit more in a turn, and cut to the rows that there are.
use mathlib.Core.Path.{◌≡◌, refl, sym, ap, ap₂, ◌∙◌}
use mathlib.Core.Bool.{Bool, true, false}
use Prim.Native.Nat.{ℕ, zero, suc, ◌+◌, ◌*◌, ◌/◌, ◌%◌, ◌^◌, ◌<◌, ◌≤◌, min}
use native.Mathlib.Decide.{dec_lt}
use native.Mathlib.Omega.{arith}
use lib.Bits.{bit_and, and_step, and_zero_r}
use lib.Pow.{pow-lt}
use mir.Syntax.{w32}
use mir.Val.{Fits}
use Rattle.rows.specs.declared.Rows.{Rows}
use Rattle.rows.specs.Masks.{one, bits, part, rows_of, first_rows, both_of}
use Rattle.rows.proofs.Masks.{bits_lt}
use Rattle.column_masks.proofs.Keyed.{shift_one, bits_last}

-- ---- a bit more

pub weight_none : (p : ℕ → Bool) (from : ℕ) → 0 ≡ bits p from 0
unfolding bits
weight_none p from = refl

module _ (p : ℕ → Bool) (from i : ℕ) {m b : ℕ} (h : i < 32) (e : m ≡ bits p from i) (f : b ≡ one (p (from + i)) * ((1 * 2 ^ i) % 2 ^ 32)) where
  pub weight_more : m + b ≡ bits p from (i + 1)
  weight_more =
      let s : suc i ≡ i + 1 = omega arith in
      ap₂ (λ (x y : ℕ). x + y) e (f ∙ ap (λ (w : ℕ). one (p (from + i)) * w) (shift_one i h)) ∙ sym (bits_last p from i) ∙ ap (bits p from) s

  pub weight_fits : Fits w32 (m + b)
  weight_fits = let z = weight_more in let l = bits_lt p from (i + 1) in go (dec_lt (i + 1) 32) z l
    where
      go : Dec (i + 1 < 32) → m + b ≡ bits p from (i + 1) → bits p from (i + 1) < 2 ^ (i + 1) → Fits w32 (m + b)
      go (yes k) z l = let u = pow-lt k in record { fits = omega arith }
      go (no k) z l = let s : i + 1 ≡ 32 = omega arith in let u : 2 ^ (i + 1) ≡ 2 ^ 32 = ap (λ (x : ℕ). 2 ^ x) s in record { fits = omega arith }

-- ---- fewer bits

half : (b : Bool) (x : ℕ) → (one b + 2 * x) / 2 ≡ x
half true x = omega arith
half false x = omega arith

digit : (b : Bool) (x : ℕ) → (one b + 2 * x) % 2 ≡ one b
digit true x = omega arith
digit false x = omega arith

one_min : (b : Bool) → min (one b) 1 ≡ one b
one_min true = refl
one_min false = refl

pub bits_cut : (p : ℕ → Bool) (a b m k : ℕ) → m ≤ k → bit_and (bits p a k) (bits (λ i. true) b m) ≡ bits p a m
unfolding bits
bits_cut p a b zero k h = and_zero_r (bits p a k)
bits_cut p a b (suc m) zero h = absurd (omega arith)
bits_cut p a b (suc m) (suc k) h =
    let x = bits p (suc a) k in
    let y = bits (λ i. true) (suc b) m in
    and_step (one (p a) + 2 * x) (1 + 2 * y)
    ∙ ap₂ (λ (u v : ℕ). u * 2 + v) (ap₂ bit_and (half (p a) x) (half true y) ∙ bits_cut p (suc a) (suc b) m k (omega arith)) (ap₂ min (digit (p a) x) (digit true y) ∙ one_min (p a))
    ∙ omega arith

-- four words of at least as many bits as the first has rows
pub rows_cut : (p : ℕ → Bool) (from n : ℕ) {i a b c d : ℕ} {x y z : Rows} → part n 0 ≤ i → a ≡ bits p from i → b ≡ bits p (from + 32) i → c ≡ bits p (from + 64) i → d ≡ bits p (from + 96) i
    → x ≡ (record { a = a; b = b; c = c; d = d }) → y ≡ first_rows n → z ≡ both_of x y → z ≡ rows_of p from n
unfolding rows_of first_rows
rows_cut p from n {i} h ea eb ec ed ex ey ez =
    ez ∙ rw (ex, ey, ea, eb, ec, ed, bits_cut p from 0 (part n 0) i (omega arith), bits_cut p (from + 32) 32 (part n 32) i (omega arith), bits_cut p (from + 64) 64 (part n 64) i (omega arith), bits_cut p (from + 96) 96 (part n 96) i (omega arith))
