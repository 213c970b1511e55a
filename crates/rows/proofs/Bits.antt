-- What each bit of a mask of rows says, and how many are set.
use mathlib.Core.Path.{◌≡◌, refl, sym, ap, ap₂, ◌∙◌}
use mathlib.Core.List.{◌∷◌}
use mathlib.Core.Bool.{Bool, true, false, ◌&&◌, cond}
use Prim.Native.Nat.{ℕ, zero, suc, ◌+◌, ◌*◌, ◌-◌, ◌^◌, ◌<◌, ◌≤◌, min}
use native.Mathlib.Decide.{dec_lt}
use native.Mathlib.Omega.{arith}
use lib.Count.{ones, ones_cat, ones-le}
use lib.ListN.{length}
use mir.Syntax.{w32}
use mir.Val.{Fits}
use borrow.Author.Tests.{lt-ltb, le-ltb}
use Rattle.lists.specs.Lists.{select, count_from}
use Rattle.masks.specs.Masks.{bit?}
use Rattle.rows.specs.declared.Rows.{Rows}
use Rattle.rows.specs.Masks.{one, bits, part, rows_of, row_bit, ones_of}
use Rattle.rows.proofs.Masks.{has_bits}

-- ---- the functions

module _ (m : Rows) (i : ℕ) {r : Bool} where
  pub bit_first : i < 32 → r ≡ bit? m.a i → r ≡ row_bit m i
  unfolding row_bit
  bit_first h e = rw (lt-ltb i 32 h) e

  pub bit_second : 32 ≤ i → i < 64 → r ≡ bit? m.b (i - 32) → r ≡ row_bit m i
  unfolding row_bit
  bit_second g h e = rw (le-ltb i 32 g, lt-ltb i 64 h) e

  pub bit_third : 32 ≤ i → 64 ≤ i → i < 96 → r ≡ bit? m.c (i - 64) → r ≡ row_bit m i
  unfolding row_bit
  bit_third f g h e = rw (le-ltb i 32 f, le-ltb i 64 g, lt-ltb i 96 h) e

  pub bit_fourth : 32 ≤ i → 64 ≤ i → 96 ≤ i → r ≡ bit? m.d (i - 96) → r ≡ row_bit m i
  unfolding row_bit
  bit_fourth f g h e = rw (le-ltb i 32 f, le-ltb i 64 g, le-ltb i 96 h) e

pub ruleset bit_ends = (bit_first, bit_second, bit_third, bit_fourth)

-- ---- the bit of a row says whether it passes the test

module _ (p : ℕ → Bool) (at n : ℕ) where
  there : (d j i : ℕ) → d + j ≡ i → i < n → j < 32 → bit? (bits p (at + d) (part n d)) j ≡ p (at + i)
  there d j i e h k =
      let z : at + d + j ≡ at + i = omega arith in
      has_bits p (at + d) (part n d) j ∙ ap₂ ◌&&◌ (lt-ltb j (part n d) (omega arith)) (ap p z)

  gone : (d j : ℕ) → part n d ≤ j → bit? (bits p (at + d) (part n d)) j ≡ false
  gone d j h = has_bits p (at + d) (part n d) j ∙ ap (λ b. b && p (at + d + j)) (le-ltb j (part n d) h)

  abbrev m : Rows
  m = rows_of p at n

  first : (j : ℕ) → bit? (bits p at (part n 0)) j ≡ bit? (bits p (at + 0) (part n 0)) j
  first j = let z : at ≡ at + 0 = omega arith in ap (λ (k : ℕ). bit? (bits p k (part n 0)) j) z

  pub row_passes : (i : ℕ) → n ≤ 128 → i < n → row_bit m i ≡ p (at + i)
  unfolding rows_of
  row_passes i g h = sym (go (dec_lt i 32) (dec_lt i 64) (dec_lt i 96))
    where
      go : Dec (i < 32) → Dec (i < 64) → Dec (i < 96) → p (at + i) ≡ row_bit m i
      go (yes a) b c = bit_first m i a (sym (first i ∙ there 0 i i (omega arith) h a))
      go (no a) (yes b) c = bit_second m i (omega arith) b (sym (there 32 (i - 32) i (omega arith) h (omega arith)))
      go (no a) (no b) (yes c) = bit_third m i (omega arith) (omega arith) c (sym (there 64 (i - 64) i (omega arith) h (omega arith)))
      go (no a) (no b) (no c) = bit_fourth m i (omega arith) (omega arith) (omega arith) (sym (there 96 (i - 96) i (omega arith) h (omega arith)))

  -- past the rows no bit is set
  pub row_past : (i : ℕ) → n ≤ i → row_bit m i ≡ false
  unfolding rows_of
  row_past i h = sym (go (dec_lt i 32) (dec_lt i 64) (dec_lt i 96))
    where
      go : Dec (i < 32) → Dec (i < 64) → Dec (i < 96) → false ≡ row_bit m i
      go (yes a) b c = bit_first m i a (sym (first i ∙ gone 0 i (omega arith)))
      go (no a) (yes b) c = bit_second m i (omega arith) b (sym (gone 32 (i - 32) (omega arith)))
      go (no a) (no b) (yes c) = bit_third m i (omega arith) (omega arith) c (sym (gone 64 (i - 64) (omega arith)))
      go (no a) (no b) (no c) = bit_fourth m i (omega arith) (omega arith) (omega arith) (sym (gone 96 (i - 96) (omega arith)))

-- ---- how many rows pass

module _ (p : ℕ → Bool) where
  unfoldable pub count_of : ℕ → ℕ → ℕ
  count_of a zero = 0
  count_of a (suc n) = one (p a) + count_of (suc a) n

  count_parts : (a m n : ℕ) → count_of a m + count_of (a + m) n ≡ count_of a (m + n)
  unfolding count_of
  count_parts a zero n = let z : a + 0 ≡ a = omega arith in let y : n ≡ 0 + n = omega arith in ap (λ (k : ℕ). 0 + count_of k n) z ∙ (let w : 0 + count_of a n ≡ count_of a n = omega arith in w) ∙ ap (count_of a) y
  count_parts a (suc m) n =
      let z : a + suc m ≡ suc a + m = omega arith in
      let y : suc (m + n) ≡ suc m + n = omega arith in
      let e = count_parts (suc a) m n in
      let x : one (p a) + count_of (suc a) m + count_of (suc a + m) n ≡ one (p a) + count_of (suc a) (m + n) = omega arith in
      ap (λ (k : ℕ). one (p a) + count_of (suc a) m + count_of k n) z ∙ x ∙ ap (count_of a) y

  ones_digit : (b : Bool) → ones (one b) ≡ one b
  unfolding ones
  ones_digit true = refl
  ones_digit false = refl

  one_small : (b : Bool) → one b < 2 ^ 1
  one_small true = omega arith
  one_small false = omega arith

  ones_bits : (a n : ℕ) → ones (bits p a n) ≡ count_of a n
  unfolding bits count_of ones
  ones_bits a zero = refl
  ones_bits a (suc n) =
      let x = bits p (suc a) n in
      let z : one (p a) + 2 * x ≡ x * 2 ^ 1 + one (p a) = omega arith in
      let e = ones_bits (suc a) n in
      let f = ones_digit (p a) in
      let g : ones x + ones (one (p a)) ≡ one (p a) + count_of (suc a) n = omega arith in
      ap ones z ∙ ones_cat 1 x (one (p a)) (one_small (p a)) ∙ g

  pub count_listed : (a n : ℕ) → count_of a n ≡ length (select p (count_from a n))
  unfolding count_of select count_from
  count_listed a zero = refl
  count_listed a (suc n) = go (p a) (count_listed (suc a) n)
    where
      go : (b : Bool) → count_of (suc a) n ≡ length (select p (count_from (suc a) n)) → one b + count_of (suc a) n ≡ length (cond b (a ∷ select p (count_from (suc a) n)) (select p (count_from (suc a) n)))
      go true e = (let w : 1 + count_of (suc a) n ≡ suc (count_of (suc a) n) = omega arith in w) ∙ ap suc e
      go false e = (let w : 0 + count_of (suc a) n ≡ count_of (suc a) n = omega arith in w) ∙ e

module _ (p : ℕ → Bool) (at n : ℕ) where
  -- a word more
  count_on : (d : ℕ) → count_of p at (min n d) + count_of p (at + d) (part n d) ≡ count_of p at (min n (d + 32))
  unfolding count_of
  count_on d = go (dec_lt n d)
    where
      go : Dec (n < d) → count_of p at (min n d) + count_of p (at + d) (part n d) ≡ count_of p at (min n (d + 32))
      go (yes h) =
          let e : part n d ≡ 0 = omega arith in
          let f : min n d ≡ min n (d + 32) = omega arith in
          ap (λ (k : ℕ). count_of p at (min n d) + count_of p (at + d) k) e ∙ (let w : count_of p at (min n d) + 0 ≡ count_of p at (min n d) = omega arith in w) ∙ ap (count_of p at) f
      go (no h) =
          let e : min n d ≡ d = omega arith in
          let f : d + part n d ≡ min n (d + 32) = omega arith in
          ap (λ (k : ℕ). count_of p at k + count_of p (at + d) (part n d)) e ∙ count_parts p at d (part n d) ∙ ap (count_of p at) f

  pub rows_count : n ≤ 128 → ones_of (rows_of p at n) ≡ length (select p (count_from at n))
  unfolding rows_of
  rows_count h =
      let a = ones_bits p at (part n 0) in
      let b = ones_bits p (at + 32) (part n 32) in
      let c = ones_bits p (at + 64) (part n 64) in
      let d = ones_bits p (at + 96) (part n 96) in
      let z : part n 0 ≡ min n 32 = omega arith in
      let a1 : count_of p at (part n 0) ≡ count_of p at (min n 32) = ap (count_of p at) z in
      let b1 = count_on 32 in
      let c1 = count_on 64 in
      let d1 = count_on 96 in
      let y : min n 128 ≡ n = omega arith in
      let e : count_of p at (min n 128) ≡ count_of p at n = ap (count_of p at) y in
      let w : ones (bits p at (part n 0)) + ones (bits p (at + 32) (part n 32)) + (ones (bits p (at + 64) (part n 64)) + ones (bits p (at + 96) (part n 96))) ≡ count_of p at n = sums a b c d a1 b1 c1 d1 e in
      w ∙ count_listed p at n
    where
      sums : {x1 x2 x3 x4 y1 y2 y3 y4 m1 m2 m3 m4 m5 : ℕ} → x1 ≡ y1 → x2 ≡ y2 → x3 ≡ y3 → x4 ≡ y4 → y1 ≡ m1 → m1 + y2 ≡ m2 → m2 + y3 ≡ m3 → m3 + y4 ≡ m4 → m4 ≡ m5 → x1 + x2 + (x3 + x4) ≡ m5
      sums a b c d e f g h i = omega arith

pub two_fit : (a b : ℕ) → a < 2 ^ 32 → b < 2 ^ 32 → Fits w32 (ones a + ones b)
two_fit a b h k = let l = ones-le 32 a h in let m = ones-le 32 b k in record { fits = omega arith }

pub four_fit : (a b c d : ℕ) → a < 2 ^ 32 → b < 2 ^ 32 → c < 2 ^ 32 → d < 2 ^ 32 → Fits w32 (ones a + ones b + (ones c + ones d))
four_fit a b c d h i j k = let w = ones-le 32 a h in let x = ones-le 32 b i in let y = ones-le 32 c j in let z = ones-le 32 d k in record { fits = omega arith }
