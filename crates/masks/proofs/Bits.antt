-- The bits of two masks joined, of those that both have, and of a single one.
use mathlib.Core.Path.{◌≡◌, refl, sym, ap, ◌∙◌, subst}
use mathlib.Core.Bool.{true, false, ◌&&◌, ◌||◌}
use Prim.Native.Nat.{ℕ, zero, suc, ◌+◌, ◌-◌, ◌*◌, ◌/◌, ◌%◌, ◌^◌, ◌<◌, ◌≤◌}
use native.Mathlib.Nat.{mod-lt, zero-lt-suc, div-eq_of_lt, div_self, pow-suc}
use native.Mathlib.Decide.{dec_lt}
use native.Mathlib.Omega.{arith}
use lib.Pow.{pow_pos, pow-lt, pow-add, shl-shr, shl_exact}
use lib.Bits.{bit_and, bit_or, and_shr, or_shr, and_mod, or_mod}
use lib.Dec.{eqb, lit<}
use borrow.Author.Tests.{ne_eqb, eq-eqb, lt-ltb, le-ltb}
use Rattle.masks.specs.Masks.{bit?, with_bit}

and_digit : (x y : ℕ) → x < 2 → y < 2 → eqb (bit_and x y) 1 ≡ (eqb x 1 && eqb y 1)
and_digit zero y h k = refl
and_digit (suc zero) zero h k = refl
and_digit (suc zero) (suc zero) h k = refl
and_digit (suc zero) (suc (suc y)) h k = absurd (omega arith)
and_digit (suc (suc x)) y h k = absurd (omega arith)

or_digit : (x y : ℕ) → x < 2 → y < 2 → eqb (bit_or x y) 1 ≡ (eqb x 1 || eqb y 1)
or_digit zero y h k = refl
or_digit (suc zero) zero h k = refl
or_digit (suc zero) (suc zero) h k = refl
or_digit (suc zero) (suc (suc y)) h k = absurd (omega arith)
or_digit (suc (suc x)) y h k = absurd (omega arith)

pub bit_and_lem : (a b i : ℕ) → bit? (bit_and a b) i ≡ (bit? a i && bit? b i)
bit_and_lem a b i =
    ap (λ (n : ℕ). eqb (n % 2) 1) (and_shr a b i) ∙ ap (λ (n : ℕ). eqb n 1) (and_mod (a / 2 ^ i) (b / 2 ^ i) 1)
    ∙ and_digit (a / 2 ^ i % 2) (b / 2 ^ i % 2) (mod-lt (a / 2 ^ i) (zero-lt-suc 1)) (mod-lt (b / 2 ^ i) (zero-lt-suc 1))

pub bit_or_lem : (a b i : ℕ) → bit? (bit_or a b) i ≡ (bit? a i || bit? b i)
bit_or_lem a b i =
    ap (λ (n : ℕ). eqb (n % 2) 1) (or_shr a b i) ∙ ap (λ (n : ℕ). eqb n 1) (or_mod (a / 2 ^ i) (b / 2 ^ i) 1)
    ∙ or_digit (a / 2 ^ i % 2) (b / 2 ^ i % 2) (mod-lt (a / 2 ^ i) (zero-lt-suc 1)) (mod-lt (b / 2 ^ i) (zero-lt-suc 1))

-- a mask with the bit i alone: the bit j is set where it is i
alone_below : (d j : ℕ) → bit? (2 ^ (suc d + j)) j ≡ false
alone_below d j =
    let q : 2 ^ (suc d + j) / 2 ^ j ≡ 2 ^ suc d = ap (λ (n : ℕ). n / 2 ^ j) (pow-add 2 (suc d) j) ∙ shl-shr (2 ^ suc d) j in
    let e : 2 ^ suc d % 2 ≡ 0 = omega (arith, pow-suc 2 d) in
    ap (λ (n : ℕ). eqb (n % 2) 1) q ∙ ap (λ (n : ℕ). eqb n 1) e

alone_same : (j : ℕ) → bit? (2 ^ j) j ≡ true
alone_same j = ap (λ (n : ℕ). eqb (n % 2) 1) (div_self (pow_pos j))

alone_above : (i j : ℕ) → i < j → bit? (2 ^ i) j ≡ false
alone_above i j h = ap (λ (n : ℕ). eqb (n % 2) 1) (div-eq_of_lt (pow-lt h))

pub bit_alone : (i j : ℕ) → bit? (2 ^ i) j ≡ eqb i j
bit_alone i j = go (dec_lt i j) (dec_lt j i)
  where
    go : Dec (i < j) → Dec (j < i) → bit? (2 ^ i) j ≡ eqb i j
    go (yes h) k = alone_above i j h ∙ sym (ne_eqb i j (λ e. omega arith))
    go (no h) (yes k) =
        let e : suc (i - suc j) + j ≡ i = omega arith in
        ap (λ (n : ℕ). bit? (2 ^ n) j) (sym e) ∙ alone_below (i - suc j) j ∙ sym (ne_eqb i j (λ e. omega arith))
    go (no h) (no k) =
        let e : i ≡ j = omega arith in
        ap (λ (n : ℕ). bit? (2 ^ n) j) e ∙ alone_same j ∙ sym (eq-eqb i j e)

-- past the bits of a mask none is set
pub bit_past : (m i n : ℕ) → m < 2 ^ n → n ≤ i → bit? m i ≡ false
bit_past m i n h k = go (dec_lt n i)
  where
    go : Dec (n < i) → bit? m i ≡ false
    go (yes l) = let p = pow-lt l in let q : m < 2 ^ i = omega (arith, p, h) in ap (λ (x : ℕ). eqb (x % 2) 1) (div-eq_of_lt q)
    go (no l) = let e : n ≡ i = omega arith in let q : m < 2 ^ i = subst (λ (x : ℕ). m < 2 ^ x) e h in ap (λ (x : ℕ). eqb (x % 2) 1) (div-eq_of_lt q)

pub with_set : (m i : ℕ) → i < 32 → bit_or m ((1 * 2 ^ i) % 2 ^ 32) ≡ with_bit m i
unfolding with_bit
with_set m i h =
    let e : (1 * 2 ^ i) % 2 ^ 32 ≡ 2 ^ i = shl_exact {a = 1} 1 i 32 (lit< tt) (omega arith) ∙ omega arith in
    rw (lt-ltb i 32 h) (ap (bit_or m) e)

pub with_none : (m i : ℕ) → 32 ≤ i → m ≡ with_bit m i
unfolding with_bit
with_none m i h = rw (le-ltb i 32 h) refl

pub shows_past : (m i : ℕ) → m < 2 ^ 32 → 32 ≤ i → false ≡ bit? m i
shows_past m i h k = sym (bit_past m i 32 h k)

pub ruleset shows_ends = (shows_past)

pub ruleset with_ends = (with_set, with_none)
