-- Laws of the masks of rows: tests joined, denied and replaced by others, and what each bit says.
use mathlib.Core.Path.{◌≡◌, refl, sym, ap, ap₂, ◌∙◌}
use mathlib.Core.Bool.{Bool, true, false, ◌&&◌, ◌||◌, not}
use Prim.Native.Nat.{ℕ, zero, suc, ◌+◌, ◌*◌, ◌-◌, ◌/◌, ◌%◌, ◌^◌, ◌<◌, ◌≤◌, min, max}
use native.Mathlib.Nat.{pow-suc, div-one}
use native.Mathlib.Omega.{arith}
use lib.Dec.{lit<, ltb, eqb, leb-suc-suc}
use lib.Pow.{pow_pos, shl_exact, shr-shr}
use lib.Bits.{bit_and, bit_or, bit_xor, and_step, or_step, xor_step, and_zero_l, or_zero_l, xor_zero_l, differ}
use borrow.Author.Tests.{lt-ltb, le-ltb}
use Rattle.masks.specs.Masks.{bit?}
use Rattle.masks.proofs.Lists.{bit_none}
use Rattle.rows.specs.declared.Rows.{Rows}
use Rattle.rows.specs.Masks.{one, bits, part, rows_of, no_rows, first_rows, both_of, either_of, flip_of}

-- ---- one word

half : (b : Bool) (x : ℕ) → (one b + 2 * x) / 2 ≡ x
half true x = omega arith
half false x = omega arith

digit : (b : Bool) (x : ℕ) → (one b + 2 * x) % 2 ≡ one b
digit true x = omega arith
digit false x = omega arith

below_double : (b : Bool) (x y z : ℕ) → x < y → z ≡ y * 2 → one b + 2 * x < z
below_double true x y z h e = omega arith
below_double false x y z h e = omega arith

pub bits_lt : (p : ℕ → Bool) (a n : ℕ) → bits p a n < 2 ^ n
unfolding bits
bits_lt p a zero = pow_pos 0
bits_lt p a (suc n) = below_double (p a) (bits p (suc a) n) (2 ^ n) (2 ^ suc n) (bits_lt p (suc a) n) (omega (arith, pow-suc 2 n))

pub bits_all : (a n : ℕ) → bits (λ i. true) a n ≡ 2 ^ n - 1
unfolding bits
bits_all a zero = refl
bits_all a (suc n) = let e = bits_all (suc a) n in omega (arith, pow-suc 2 n, pow_pos n)

pub bits_alike : (p q : ℕ → Bool) (a n : ℕ) → ((i : ℕ) → a ≤ i → i < a + n → p i ≡ q i) → bits p a n ≡ bits q a n
unfolding bits
bits_alike p q a zero h = refl
bits_alike p q a (suc n) h = ap₂ (λ b x. one b + 2 * x) (h a (omega arith) (omega arith)) (bits_alike p q (suc a) n (λ i l m. h i (omega arith) (omega arith)))

one_and : (b c : Bool) → min (one b) (one c) ≡ one (b && c)
one_and true true = refl
one_and true false = refl
one_and false c = omega arith

one_or : (b c : Bool) → max (one b) (one c) ≡ one (b || c)
one_or true true = refl
one_or true false = refl
one_or false c = omega arith

one_flip : (c : Bool) → differ 1 (one c) ≡ one (not c)
one_flip true = refl
one_flip false = refl

module _ (p q : ℕ → Bool) where
  pub bits_and : (a n : ℕ) → bit_and (bits p a n) (bits q a n) ≡ bits (λ i. p i && q i) a n
  unfolding bits
  bits_and a zero = and_zero_l 0
  bits_and a (suc n) =
      let x = bits p (suc a) n in
      let y = bits q (suc a) n in
      and_step (one (p a) + 2 * x) (one (q a) + 2 * y)
      ∙ ap₂ (λ (u v : ℕ). u * 2 + v) (ap₂ bit_and (half (p a) x) (half (q a) y) ∙ bits_and (suc a) n) (ap₂ min (digit (p a) x) (digit (q a) y) ∙ one_and (p a) (q a))
      ∙ omega arith

  pub bits_or : (a n : ℕ) → bit_or (bits p a n) (bits q a n) ≡ bits (λ i. p i || q i) a n
  unfolding bits
  bits_or a zero = or_zero_l 0
  bits_or a (suc n) =
      let x = bits p (suc a) n in
      let y = bits q (suc a) n in
      or_step (one (p a) + 2 * x) (one (q a) + 2 * y)
      ∙ ap₂ (λ (u v : ℕ). u * 2 + v) (ap₂ bit_or (half (p a) x) (half (q a) y) ∙ bits_or (suc a) n) (ap₂ max (digit (p a) x) (digit (q a) y) ∙ one_or (p a) (q a))
      ∙ omega arith

pub bits_flip : (p : ℕ → Bool) (b a n : ℕ) → bit_xor (bits (λ i. true) b n) (bits p a n) ≡ bits (λ i. not (p i)) a n
unfolding bits
bits_flip p b a zero = xor_zero_l 0
bits_flip p b a (suc n) =
    let x = bits (λ i. true) (suc b) n in
    let y = bits p (suc a) n in
    xor_step (1 + 2 * x) (one (p a) + 2 * y)
    ∙ ap₂ (λ (u v : ℕ). u * 2 + v) (ap₂ bit_xor (half true x) (half (p a) y) ∙ bits_flip p (suc b) (suc a) n) (ap₂ differ (digit true x) (digit (p a) y) ∙ one_flip (p a))
    ∙ omega arith

-- bit j of it is place a + j
has_next : (b : Bool) (x j : ℕ) → bit? (one b + 2 * x) (suc j) ≡ bit? x j
has_next b x j =
    let e : suc j ≡ 1 + j = omega arith in
    ap (λ (n : ℕ). bit? (one b + 2 * x) n) e ∙ sym (ap (λ (n : ℕ). eqb (n % 2) 1) (shr-shr (one b + 2 * x) 1 j)) ∙ ap (λ (n : ℕ). bit? n j) (half b x)

has_first : (b : Bool) (x : ℕ) → bit? (one b + 2 * x) 0 ≡ b
has_first b x = ap (λ (n : ℕ). eqb (n % 2) 1) (div-one (one b + 2 * x)) ∙ ap (λ (n : ℕ). eqb n 1) (digit b x) ∙ go b
  where
    go : (b : Bool) → eqb (one b) 1 ≡ b
    go true = refl
    go false = refl

ltb_next : (j n : ℕ) → ltb (suc j) (suc n) ≡ ltb j n
ltb_next j n = leb-suc-suc (suc j) n

pub has_bits : (p : ℕ → Bool) (a n j : ℕ) → bit? (bits p a n) j ≡ (ltb j n && p (a + j))
unfolding bits
has_bits p a zero j = bit_none j ∙ sym (ap (λ b. b && p (a + j)) (le-ltb j 0 (omega arith)))
has_bits p a (suc n) zero =
    let e : a + 0 ≡ a = omega arith in
    has_first (p a) (bits p (suc a) n) ∙ sym (ap₂ ◌&&◌ (lt-ltb 0 (suc n) (omega arith)) (ap p e))
has_bits p a (suc n) (suc j) =
    let e : suc a + j ≡ a + suc j = omega arith in
    has_next (p a) (bits p (suc a) n) j ∙ has_bits p (suc a) n j ∙ ap₂ ◌&&◌ (sym (ltb_next j n)) (ap p e)

pub bits_none : (a n : ℕ) → bits (λ i. false) a n ≡ 0
unfolding bits
bits_none a zero = refl
bits_none a (suc n) = let e = bits_none (suc a) n in omega arith

-- ---- four words

pub rows_none : (at n : ℕ) → no_rows ≡ rows_of (λ i. false) at n
unfolding rows_of
rows_none at n = rw (bits_none at (part n 0), bits_none (at + 32) (part n 32), bits_none (at + 64) (part n 64), bits_none (at + 96) (part n 96))

pub rows_alike : (p q : ℕ → Bool) (at n : ℕ) → ((i : ℕ) → at ≤ i → i < at + n → p i ≡ q i) → rows_of p at n ≡ rows_of q at n
unfolding rows_of
rows_alike p q at n h =
    rw (bits_alike p q at (part n 0) (λ i k l. h i (omega arith) (omega arith)), bits_alike p q (at + 32) (part n 32) (λ i k l. h i (omega arith) (omega arith)), bits_alike p q (at + 64) (part n 64) (λ i k l. h i (omega arith) (omega arith)), bits_alike p q (at + 96) (part n 96) (λ i k l. h i (omega arith) (omega arith)))

pub bits_shift : (p q : ℕ → Bool) (a b n : ℕ) → ((i : ℕ) → i < n → p (a + i) ≡ q (b + i)) → bits p a n ≡ bits q b n
unfolding bits
bits_shift p q a b zero h = refl
bits_shift p q a b (suc n) h =
    let e : a + 0 ≡ a = omega arith in
    let f : b + 0 ≡ b = omega arith in
    ap₂ (λ c x. one c + 2 * x) (ap p (sym e) ∙ h 0 (omega arith) ∙ ap q f)
    (bits_shift p q (suc a) (suc b) n
    (λ i k. let x : suc a + i ≡ a + suc i = omega arith in let y : b + suc i ≡ suc b + i = omega arith in ap p x ∙ h (suc i) (omega arith) ∙ ap q y))

-- rows counted from 0, and by their places
pub rows_shift : (p q : ℕ → Bool) (at n : ℕ) → ((i : ℕ) → p i ≡ q (at + i)) → rows_of p 0 n ≡ rows_of q at n
unfolding rows_of
rows_shift p q at n h =
    rw (bits_shift p q 0 at (part n 0) (λ i k. let x : at + (0 + i) ≡ at + i = omega arith in h (0 + i) ∙ ap q x), bits_shift p q (0 + 32) (at + 32) (part n 32) (λ i k. by 32 i), bits_shift p q (0 + 64) (at + 64) (part n 64) (λ i k. by 64 i), bits_shift p q (0 + 96) (at + 96) (part n 96) (λ i k. by 96 i))
  where
    by : (d i : ℕ) → p (d + i) ≡ q (at + d + i)
    by d i = let x : at + (d + i) ≡ at + d + i = omega arith in h (d + i) ∙ ap q x

pub rows_all : (at n : ℕ) → first_rows n ≡ rows_of (λ i. true) at n
unfolding first_rows rows_of
rows_all at n = rw (bits_all 0 (part n 0), bits_all (0 + 32) (part n 32), bits_all (0 + 64) (part n 64), bits_all (0 + 96) (part n 96), bits_all at (part n 0), bits_all (at + 32) (part n 32), bits_all (at + 64) (part n 64), bits_all (at + 96) (part n 96))

module _ (p q : ℕ → Bool) (at n : ℕ) where
  pub rows_and : both_of (rows_of p at n) (rows_of q at n) ≡ rows_of (λ i. p i && q i) at n
  unfolding rows_of
  rows_and = rw (bits_and p q at (part n 0), bits_and p q (at + 32) (part n 32), bits_and p q (at + 64) (part n 64), bits_and p q (at + 96) (part n 96))

  pub rows_or : either_of (rows_of p at n) (rows_of q at n) ≡ rows_of (λ i. p i || q i) at n
  unfolding rows_of
  rows_or = rw (bits_or p q at (part n 0), bits_or p q (at + 32) (part n 32), bits_or p q (at + 64) (part n 64), bits_or p q (at + 96) (part n 96))

pub rows_flip : (p : ℕ → Bool) (at n : ℕ) → flip_of (first_rows n) (rows_of p at n) ≡ rows_of (λ i. not (p i)) at n
unfolding first_rows rows_of
rows_flip p at n =
    rw (bits_flip p 0 at (part n 0), bits_flip p (0 + 32) (at + 32) (part n 32), bits_flip p (0 + 64) (at + 64) (part n 64), bits_flip p (0 + 96) (at + 96) (part n 96))

-- ---- the functions

module _ (n from : ℕ) {k : ℕ} where
  pub filled_few : k ≡ part n from → k < 32 → (1 * 2 ^ k) % 2 ^ 32 - 1 ≡ 2 ^ part n from - 1
  filled_few e h = ap (λ (x : ℕ). x - 1) (shl_exact {a = 1} 1 k 32 (lit< tt) (omega arith) ∙ (let z : 1 * 2 ^ k ≡ 2 ^ k = omega arith in z) ∙ ap (λ (x : ℕ). 2 ^ x) e)

  pub filled_whole : k ≡ part n from → 32 ≤ k → 4294967295 ≡ 2 ^ part n from - 1
  filled_whole e h = let z : 32 ≡ part n from = omega arith in ap (λ (x : ℕ). 2 ^ x - 1) z

pub filled_some : (k : ℕ) → k < 32 → 1 ≤ (1 * 2 ^ k) % 2 ^ 32
filled_some k h = let e : (1 * 2 ^ k) % 2 ^ 32 ≡ 1 * 2 ^ k = shl_exact {a = 1} 1 k 32 (lit< tt) (omega arith) in omega (arith, pow_pos k)

pub first_parts : (n : ℕ) {a b c d : ℕ} → a ≡ 2 ^ part n 0 - 1 → b ≡ 2 ^ part n 32 - 1 → c ≡ 2 ^ part n 64 - 1 → d ≡ 2 ^ part n 96 - 1
    → ◌≡◌ {A = Rows} (record { a = a; b = b; c = c; d = d }) (first_rows n)
unfolding first_rows rows_of
first_parts n e f g h = rw (e, f, g, h, bits_all 0 (part n 0), bits_all (0 + 32) (part n 32), bits_all (0 + 64) (part n 64), bits_all (0 + 96) (part n 96))

pub first_whole : (n : ℕ) → 128 ≤ n → ◌≡◌ {A = Rows} (record { a = 4294967295; b = 4294967295; c = 4294967295; d = 4294967295 }) (first_rows n)
first_whole n h = first_parts n (full 0 (omega arith)) (full 32 (omega arith)) (full 64 (omega arith)) (full 96 (omega arith))
  where
    full : (d : ℕ) → d ≤ 96 → 4294967295 ≡ 2 ^ part n d - 1
    full d k = let z : 32 ≡ part n d = omega arith in ap (λ (x : ℕ). 2 ^ x - 1) z

pub ruleset mask_ends = (filled_few, filled_whole, filled_some, first_parts, first_whole)
