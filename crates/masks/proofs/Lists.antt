-- The mask of a list of bits: which it shows, what it lies inside, and how large it is.
use mathlib.Core.Path.{◌≡◌, refl, sym, ap, ap₂, ◌∙◌}
use mathlib.Core.List.{List, [], ◌∷◌, ◌++◌, map}
use mathlib.Core.Bool.{Bool, true, false, ◌&&◌, ◌||◌}
use Prim.Native.Nat.{ℕ, zero, suc, ◌+◌, ◌/◌, ◌%◌, ◌^◌, ◌<◌, ◌≤◌}
use native.Mathlib.Nat.{mod-lt, zero-lt-suc, div-one}
use native.Mathlib.Omega.{arith}
use lib.Pow.{pow_pos, pow-lt, shr-shr}
use lib.Bits.{bit_and, bit_or, and_zero_l, or_zero_l, or_lt}
use lib.Dec.{T, eqb, ltb, eqb→eq, eqb_refl, ltb→lt}
use borrow.Author.Tests.{eq-eqb}
use Rattle.lists.specs.Lists.{every, some?}
use Rattle.lists.proofs.Laws.{T_true, and_l, and_r, and_both, parts, same_truth}
use Rattle.lists.proofs.Gathers.{every_of_map}
use Rattle.masks.specs.Masks.{bit?, inside, mask_of}
use Rattle.masks.proofs.Bits.{bit_and_lem, bit_or_lem, bit_alone, bit_past}

-- ---- two masks with the same bits are the same

digit : (x y : ℕ) → x < 2 → y < 2 → eqb x 1 ≡ eqb y 1 → x ≡ y
digit zero zero h k e = refl
digit zero (suc zero) h k e = absurd (let z : ◌≡◌ {A = ℕ} 0 1 = cc in omega arith)
digit zero (suc (suc y)) h k e = absurd (omega arith)
digit (suc zero) zero h k e = absurd (let z : ◌≡◌ {A = ℕ} 0 1 = cc in omega arith)
digit (suc zero) (suc zero) h k e = refl
digit (suc zero) (suc (suc y)) h k e = absurd (omega arith)
digit (suc (suc x)) y h k e = absurd (omega arith)

pub bit_lowest : (a : ℕ) → bit? a 0 ≡ eqb (a % 2) 1
bit_lowest a = ap (λ (n : ℕ). eqb (n % 2) 1) (div-one a)

pub bit_next : (a i : ℕ) → bit? a (suc i) ≡ bit? (a / 2) i
bit_next a i =
    let e : suc i ≡ 1 + i = omega arith in
    ap (λ (n : ℕ). bit? a n) e ∙ sym (ap (λ (n : ℕ). eqb (n % 2) 1) (shr-shr a 1 i))

bits_within : (k a b : ℕ) → a ≤ k → b ≤ k → ((i : ℕ) → bit? a i ≡ bit? b i) → a ≡ b
bits_within zero a b h g e = omega arith
bits_within (suc k) a b h g e =
    let x : a / 2 ≡ b / 2 = bits_within k (a / 2) (b / 2) (omega arith) (omega arith) (λ i. sym (bit_next a i) ∙ e (suc i) ∙ bit_next b i) in
    let y : a % 2 ≡ b % 2 = digit (a % 2) (b % 2) (mod-lt a (zero-lt-suc 1)) (mod-lt b (zero-lt-suc 1)) (sym (bit_lowest a) ∙ e 0 ∙ bit_lowest b) in
    omega arith

pub bits_same : (a b : ℕ) → ((i : ℕ) → bit? a i ≡ bit? b i) → a ≡ b
bits_same a b e = bits_within (a + b) a b (omega arith) (omega arith) e

-- ---- which bits it shows

pub bit_none : (i : ℕ) → bit? 0 i ≡ false
bit_none i = bit_past 0 i 0 (pow_pos 0) (omega arith)

pub bit_mask : (is : List ℕ) (i : ℕ) → bit? (mask_of is) i ≡ some? (λ j. eqb j i) is
unfolding mask_of some?
bit_mask [] i = bit_none i
bit_mask (j ∷ is) i = bit_or_lem (2 ^ j) (mask_of is) i ∙ ap₂ ◌||◌ (bit_alone j i) (bit_mask is i)

-- ---- what it lies inside

pub inside_bits : (m n i : ℕ) → T (inside m n) → (bit? m i && bit? n i) ≡ bit? m i
inside_bits m n i t = sym (bit_and_lem m n i) ∙ ap (λ (x : ℕ). bit? x i) (eqb→eq (bit_and m n) m t)

pub bits_inside : (m n : ℕ) → ((i : ℕ) → (bit? m i && bit? n i) ≡ bit? m i) → T (inside m n)
bits_inside m n f = rw (eq-eqb (bit_and m n) m (bits_same (bit_and m n) m (λ i. bit_and_lem m n i ∙ f i))) tt

or_left : (a b c : Bool) → ((a || b) && c) ≡ (a || b) → (a && c) ≡ a
or_left true b c e = e
or_left false b c e = refl

or_right : (a b c : Bool) → ((a || b) && c) ≡ (a || b) → (b && c) ≡ b
or_right a true true e = refl
or_right true true false e = e
or_right false true false e = e
or_right a false c e = refl

or_of : (a b c : Bool) → (a && c) ≡ a → (b && c) ≡ b → ((a || b) && c) ≡ (a || b)
or_of true b c e f = e
or_of false b c e f = f

pub inside_or : (a b n : ℕ) → inside (bit_or a b) n ≡ (inside a n && inside b n)
inside_or a b n =
    same_truth (inside (bit_or a b) n) (inside a n && inside b n)
    (λ t.
    let f : (i : ℕ) → ((bit? a i || bit? b i) && bit? n i) ≡ (bit? a i || bit? b i) = λ i. rw (bit_or_lem a b i) at (inside_bits (bit_or a b) n i t) in
    and_both (inside a n) (inside b n) (bits_inside a n (λ i. or_left (bit? a i) (bit? b i) (bit? n i) (f i))) (bits_inside b n (λ i. or_right (bit? a i) (bit? b i) (bit? n i) (f i))))
    (λ t. bits_inside (bit_or a b) n (λ i. rw (bit_or_lem a b i) (or_of (bit? a i) (bit? b i) (bit? n i) (inside_bits a n i (and_l (inside a n) (inside b n) t)) (inside_bits b n i (and_r (inside a n) (inside b n) t)))))

pub inside_alone : (i n : ℕ) → inside (2 ^ i) n ≡ bit? n i
inside_alone i n = same_truth (inside (2 ^ i) n) (bit? n i) there back
  where
    there : T (inside (2 ^ i) n) → T (bit? n i)
    there t = and_r (eqb i i) (bit? n i) (rw (sym (ap (λ b. b && bit? n i) (bit_alone i i)) ∙ inside_bits (2 ^ i) n i t ∙ bit_alone i i) (eqb_refl i))

    back : T (bit? n i) → T (inside (2 ^ i) n)
    back t = bits_inside (2 ^ i) n (λ j. rw (bit_alone i j) (go j (eqb i j) refl))
      where
        go : (j : ℕ) (b : Bool) → eqb i j ≡ b → (b && bit? n j) ≡ b
        go j true e = rw (sym (eqb→eq i j (rw e tt))) (T_true (bit? n i) t)
        go j false e = refl

pub inside_every : (is : List ℕ) (n : ℕ) → inside (mask_of is) n ≡ every (bit? n) is
unfolding mask_of every
inside_every [] n = eq-eqb (bit_and 0 n) 0 (and_zero_l n)
inside_every (i ∷ is) n = inside_or (2 ^ i) (mask_of is) n ∙ ap₂ ◌&&◌ (inside_alone i n) (inside_every is n)

-- ---- how large it is, and two lists

pub mask_small : (is : List ℕ) → T (every (λ i. ltb i 32) is) → mask_of is < 2 ^ 32
unfolding mask_of every
mask_small [] t = pow_pos 32
mask_small (i ∷ is) t = or_lt 32 (2 ^ i) (mask_of is) (pow-lt (ltb→lt i 32 (search parts))) (mask_small is (search parts))

or_assoc_bool : (a b c : Bool) → ((a || b) || c) ≡ (a || (b || c))
or_assoc_bool true b c = refl
or_assoc_bool false b c = refl

pub or_assoc : (a b c : ℕ) → bit_or (bit_or a b) c ≡ bit_or a (bit_or b c)
or_assoc a b c =
    bits_same (bit_or (bit_or a b) c) (bit_or a (bit_or b c))
    (λ i. bit_or_lem (bit_or a b) c i ∙ ap (λ x. x || bit? c i) (bit_or_lem a b i) ∙ or_assoc_bool (bit? a i) (bit? b i) (bit? c i) ∙ sym (bit_or_lem a (bit_or b c) i ∙ ap (λ x. bit? a i || x) (bit_or_lem b c i)))

pub mask_append : (is js : List ℕ) → mask_of (is ++ js) ≡ bit_or (mask_of is) (mask_of js)
unfolding mask_of
mask_append [] js = sym (or_zero_l (mask_of js))
mask_append (i ∷ is) js = ap (bit_or (2 ^ i)) (mask_append is js) ∙ sym (or_assoc (2 ^ i) (mask_of is) (mask_of js))

pub inside_map : {A : Type 0} (f : A → ℕ) (n : ℕ) (xs : List A) → inside (mask_of (map f xs)) n ≡ every (λ x. bit? n (f x)) xs
inside_map f n xs = inside_every (map f xs) n ∙ every_of_map (bit? n) f xs
