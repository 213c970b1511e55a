-- Words by their numbers.
use mathlib.Core.Path.{◌≡◌, refl, sym, ap, ap₂, ◌∙◌}
use mathlib.Core.List.{[], ◌∷◌, ◌++◌, append_assoc}
use Prim.Native.Nat.{ℕ, zero, suc, ◌+◌, ◌*◌, ◌-◌, ◌/◌, ◌%◌, ◌^◌, ◌<◌, ◌≤◌, min}
use native.Mathlib.Omega.{arith}
use native.Mathlib.Nat.{div-div-eq-div-mul, div-eq_of_lt, div-le_self, div-one}
use lib.ListN.{length, take, drop, length-append}
use lib.Seq.{take-length}
use native.Mathlib.Numerals.{add-one}
use lib.Pow.{pow-lt, pow-add, shl-shr, shr_mono}
use Rattle.std.proofs.Math.Nat.{pow-suc}
use Rattle.std.specs.Int.{byte_at, bytes_high_first}
use Rattle.lists.proofs.Laws.{append_nil}
use Rattle.syntax.specs.Grammar.{Bytes, put_name}
use Rattle.text.specs.Words.{bytes_from, name_of}
use Rattle.schema.specs.Schemas.{code_end}
use Rattle.schema.proofs.FreeNames.{name_snoc}
use Rattle.print.specs.Writing.{furthest, Put, Long}
use Rattle.print.proofs.Putting.{put_as, put_past}

-- ---- how long a word is

longer : (n : ℕ) → 0 < n → n < code_end → length (name_of n) ≡ suc (length (name_of (n / 256)))
longer n h k = ap length (name_snoc n h k) ∙ length-append (name_of (n / 256)) (n % 256 ∷ []) ∙ plus_one (length (name_of (n / 256)))
  where
    plus_one : (x : ℕ) → x + 1 ≡ suc x
    plus_one x = omega arith

none_long : (n : ℕ) → n ≡ 0 → 0 ≡ length (name_of n)
unfolding name_of bytes_from
none_long n e = rw e

step_long : (k n : ℕ) → 0 < n → n < code_end → k ≡ length (name_of (n / 256)) → suc k ≡ length (name_of n)
step_long k n h l e = ap suc e ∙ sym (longer n h l)

module _ (n : ℕ) where
  pub long_0 : n ≡ 0 → Long n 0
  long_0 e = record { bytes = none_long n e; under = omega arith; above = λ l. absurd (omega arith); few = omega arith }

  pub long_1 : (n ≡ 0 → ⊥) → n < 256 → Long n 1
  long_1 l h = record { bytes = step_long 0 n (omega arith) (omega arith) (none_long (n / 256) (omega arith)); under = h; above = λ k. omega arith; few = omega arith }

module _ (n : ℕ) where
  pub long_2 : 256 ≤ n → n < 65536 → Long n 2
  long_2 l h = record { bytes = step_long 1 n (omega arith) (omega arith) (long_1 (n / 256) (λ e. omega arith) (omega arith)).bytes; under = h; above = λ k. l; few = omega arith }

module _ (n : ℕ) where
  pub long_3 : 65536 ≤ n → n < 16777216 → Long n 3
  long_3 l h = record { bytes = step_long 2 n (omega arith) (omega arith) (long_2 (n / 256) (omega arith) (omega arith)).bytes; under = h; above = λ k. l; few = omega arith }

module _ (n : ℕ) where
  pub long_4 : 16777216 ≤ n → n < 4294967296 → Long n 4
  long_4 l h = record { bytes = step_long 3 n (omega arith) (omega arith) (long_3 (n / 256) (omega arith) (omega arith)).bytes; under = h; above = λ k. l; few = omega arith }

module _ (n : ℕ) where
  pub long_5 : 4294967296 ≤ n → n < 1099511627776 → Long n 5
  long_5 l h = record { bytes = step_long 4 n (omega arith) (omega arith) (long_4 (n / 256) (omega arith) (omega arith)).bytes; under = h; above = λ k. l; few = omega arith }

module _ (n : ℕ) where
  pub long_6 : 1099511627776 ≤ n → n < 281474976710656 → Long n 6
  long_6 l h = record { bytes = step_long 5 n (omega arith) (omega arith) (long_5 (n / 256) (omega arith) (omega arith)).bytes; under = h; above = λ k. l; few = omega arith }

module _ (n : ℕ) where
  pub long_7 : 281474976710656 ≤ n → n < 72057594037927936 → Long n 7
  long_7 l h = record { bytes = step_long 6 n (omega arith) (omega arith) (long_6 (n / 256) (omega arith) (omega arith)).bytes; under = h; above = λ k. l; few = omega arith }

module _ (n : ℕ) where
  pub long_8 : 72057594037927936 ≤ n → n < code_end → Long n 8
  long_8 l h = record { bytes = step_long 7 n (omega arith) (omega arith) (long_7 (n / 256) (omega arith) (omega arith)).bytes; under = h; above = λ k. l; few = omega arith }

pub ruleset long_ends = (long_0, long_1, long_2, long_3, long_4, long_5, long_6, long_7, long_8)

-- ---- the bytes of a word from the first on

pow_bytes : (k : ℕ) → 256 ^ k ≡ 2 ^ (8 * k)
pow_bytes zero = refl
pow_bytes (suc k) = let e : 8 * suc k ≡ 8 * k + 8 = omega arith in pow-suc 256 k ∙ ap (λ (x : ℕ). x * 256) (pow_bytes k) ∙ sym (ap (λ (j : ℕ). 2 ^ j) e ∙ pow-add 2 (8 * k) 8)

byte_is : (code i : ℕ) → byte_at i code ≡ code / 2 ^ (8 * i) % 256
byte_is code zero = sym (ap (λ (x : ℕ). x % 256) (div-one code))
byte_is code (suc i) = ap (λ (d : ℕ). code / d % 256) (pow_bytes (suc i))

module _ (code i : ℕ) where
  shifted : code / 2 ^ (8 * (i + 1)) ≡ code / 2 ^ (8 * i) / 256
  shifted =
      let e : 8 * (i + 1) ≡ 8 * i + 8 = omega arith in
      ap (λ (k : ℕ). code / 2 ^ k) e ∙ ap (λ (k : ℕ). code / k) (pow-add 2 (8 * i) 8) ∙ sym (div-div-eq-div-mul code (2 ^ (8 * i)) 256)

  some_left : 2 ^ (8 * i) ≤ code → 0 < code / 2 ^ (8 * i)
  some_left h =
      let e : 1 * 2 ^ (8 * i) ≡ 2 ^ (8 * i) = omega arith in
      let f : 1 * 2 ^ (8 * i) / 2 ^ (8 * i) ≤ code / 2 ^ (8 * i) = shr_mono (8 * i) (omega arith) in
      let g = shl-shr 1 (8 * i) in
      omega arith

  part_is : (r : Bytes) → code < code_end → 2 ^ (8 * i) ≤ code → name_of (code / 2 ^ (8 * i)) ++ r ≡ name_of (code / 2 ^ (8 * (i + 1))) ++ (code / 2 ^ (8 * i) % 256 ∷ r)
  part_is r l h =
      let x : ℕ = code / 2 ^ (8 * i) in
      ap (λ w. w ++ r) (name_snoc x (some_left h) (omega (arith, div-le_self code (2 ^ (8 * i)))))
      ∙ append_assoc (name_of (x / 256)) (x % 256 ∷ []) r
      ∙ ap (λ w. name_of w ++ (x % 256 ∷ r)) (sym shifted)

  next_part : code < code_end → 2 ^ (8 * i) ≤ code → name_of (code / 2 ^ (8 * suc i)) ++ bytes_high_first (suc i) code ≡ name_of (code / 2 ^ (8 * i)) ++ bytes_high_first i code
  next_part l h =
      ap₂ (λ (k b : ℕ). name_of (code / 2 ^ (8 * k)) ++ (b ∷ bytes_high_first i code)) (sym (add-one i)) (byte_is code i) ∙ sym (part_is (bytes_high_first i code) l h)

-- the last bytes of a word behind those before them are the word
last_bytes : (code i : ℕ) → code < code_end → (0 < i → 2 ^ (8 * (i - 1)) ≤ code) → name_of (code / 2 ^ (8 * i)) ++ bytes_high_first i code ≡ name_of code
last_bytes code zero l h = ap (λ w. w ++ []) (ap name_of (div-one code)) ∙ append_nil (name_of code)
last_bytes code (suc i) l h =
    let e : suc i - 1 ≡ i = omega arith in
    let k : 2 ^ (8 * i) ≤ code = rw e at (h (omega arith)) in
    next_part code i l k ∙ last_bytes code i l (λ p. let j : 8 * (i - 1) < 8 * i = omega arith in omega (arith, pow-lt j))

drop_high : (k n m code : ℕ) → m ≡ k + n → drop k (bytes_high_first m code) ≡ bytes_high_first n code
drop_high zero n m code e = let f : m ≡ n = omega arith in ap (λ (j : ℕ). bytes_high_first j code) f
drop_high (suc k) n zero code e = absurd (omega arith)
drop_high (suc k) n (suc m) code e = drop_high k n m code (omega arith)

high_length : (k code : ℕ) → length (bytes_high_first k code) ≡ k
high_length zero code = refl
high_length (suc k) code = ap suc (high_length k code)

module _ (code : ℕ) {n : ℕ} (x : Long code n) where
  word_bytes : code < code_end → bytes_high_first n code ≡ name_of code
  unfolding name_of bytes_from
  word_bytes l = let e : code / 2 ^ (8 * n) ≡ 0 = div-eq_of_lt x.under in sym (ap (λ (c : ℕ). name_of c ++ bytes_high_first n code) e) ∙ last_bytes code n l x.above

  part_bytes : take (8 - (8 - n)) (drop (8 - n) (bytes_high_first 8 code)) ≡ bytes_high_first n code
  part_bytes =
      let f = x.few in
      let e : 8 - (8 - n) ≡ length (bytes_high_first n code) = omega (arith, high_length n code) in
      ap₂ (λ (k : ℕ) bs. take k bs) e (drop_high (8 - n) n 8 code (omega arith)) ∙ take-length (bytes_high_first n code)

  pub word_put : {bs m m' : Bytes} {p q : ℕ} → code < code_end → bs ≡ bytes_high_first 8 code → Put (put_name (take (8 - (8 - n)) (drop (8 - n) bs))) m p m' q → Put (put_name (name_of code)) m p m' q
  unfolding put_name
  word_put l e y = put_as (λ r. ap (λ w. w ++ r) (sym (ap (λ bs. take (8 - (8 - n)) (drop (8 - n) bs)) e ∙ part_bytes ∙ word_bytes l))) y

module _ (code : ℕ) {m : Bytes} {p : ℕ} where
  pub word_past : {n q : ℕ} → length m ≤ p → p < 4294967296 → Long code n → q ≡ min (p + n) furthest → Put (put_name (name_of code)) m p m q
  unfolding put_name
  word_past {n} {q} h k e f = put_past (name_of code) (λ r. refl) h (omega arith) (f ∙ ap (λ (x : ℕ). min (p + x) furthest) e.bytes)
