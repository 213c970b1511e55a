-- Numbers in decimal digits.
use mathlib.Core.Path.{◌≡◌, refl, sym, ap, ◌∙◌}
use mathlib.Core.List.{[], ◌∷◌, ◌++◌, append_assoc}
use mathlib.Core.Bool.{Bool, true, false}
use Prim.Native.Nat.{ℕ, zero, suc, ◌+◌, ◌-◌, ◌/◌, ◌%◌, ◌<◌, ◌≤◌, min}
use native.Mathlib.Omega.{arith}
use lib.Dec.{ltb}
use lib.ListN.{length, length-append}
use borrow.Author.Tests.{lt-ltb, le-leb, lt-leb}
use Rattle.lists.proofs.Laws.{append_nil}
use Rattle.syntax.specs.Grammar.{Bytes, digits_from, put_nat, put_int}
use Rattle.syntax.proofs.Lexical.{digits_high, digits_room}
use Rattle.nodes.specs.Nodes.{unbiased}
use Rattle.print.specs.Writing.{furthest, Put, byte_text, digits_in}
use Rattle.print.proofs.Putting.{put_as, put_then, put_past}

digits_append : (k n : ℕ) (bs cs : Bytes) → digits_from k n (bs ++ cs) ≡ digits_from k n bs ++ cs
unfolding digits_from
digits_append zero n bs cs = refl
digits_append (suc k) n bs cs = go (ltb n 10) (digits_append k (n / 10) ((48 + n % 10) ∷ bs) cs)
  where
    go : (b : Bool) → digits_from k (n / 10) ((48 + n % 10) ∷ (bs ++ cs)) ≡ digits_from k (n / 10) ((48 + n % 10) ∷ bs) ++ cs
        → ◌≡◌ {A = Bytes} (elim b [ true ↦ (48 + n) ∷ (bs ++ cs) | false ↦ digits_from k (n / 10) ((48 + n % 10) ∷ (bs ++ cs)) ]) (◌++◌ {A = ℕ} (elim b [ true ↦ (48 + n) ∷ bs | false ↦ digits_from k (n / 10) ((48 + n % 10) ∷ bs) ]) cs)
    go true i = refl
    go false i = i

pub nat_one : (n : ℕ) (r : Bytes) → n < 10 → put_nat n r ≡ (48 + n) ∷ r
unfolding put_nat digits_from
nat_one n r h = let e = lt-ltb n 10 h in rw (e, digits_from)

pub nat_more : (n : ℕ) (r : Bytes) → 10 ≤ n → put_nat n r ≡ put_nat (n / 10) ((48 + n % 10) ∷ r)
unfolding put_nat
nat_more n r h =
    ap (λ w. w ++ r) (digits_high n n [] h ∙ digits_room n (suc (n / 10)) (n / 10) ((48 + n % 10) ∷ []) (omega arith) (omega arith) ∙ digits_append (suc (n / 10)) (n / 10) [] ((48 + n % 10) ∷ []))
    ∙ append_assoc (digits_from (suc (n / 10)) (n / 10) []) ((48 + n % 10) ∷ []) r

-- ---- how many digits

nat_front : (n : ℕ) (r : Bytes) → put_nat n r ≡ put_nat n [] ++ r
unfolding put_nat
nat_front n r = ap (λ w. w ++ r) (sym (append_nil (digits_from (suc n) n [])))

one_long : (n : ℕ) → n < 10 → 1 ≡ digits_in n
unfolding digits_in
one_long n h = sym (ap length (nat_one n [] h))

more_long : (k n : ℕ) → 10 ≤ n → k ≡ digits_in (n / 10) → suc k ≡ digits_in n
unfolding digits_in
more_long k n h e =
    let d : ℕ = 48 + n % 10 in
    let f = ap length (nat_more n [] h ∙ nat_front (n / 10) (d ∷ [])) in
    let g = length-append (put_nat (n / 10) []) (d ∷ []) in
    omega arith

module _ (n : ℕ) where
  pub long_1 : n < 10 → 1 ≡ digits_in n
  long_1 h = one_long n h

  pub long_2 : 10 ≤ n → n < 100 → 2 ≡ digits_in n
  long_2 l h = more_long 1 n l (one_long (n / 10) (omega arith))

module _ (n : ℕ) where
  pub long_3 : 100 ≤ n → n < 1000 → 3 ≡ digits_in n
  long_3 l h = more_long 2 n (omega arith) (long_2 (n / 10) (omega arith) (omega arith))

module _ (n : ℕ) where
  pub long_4 : 1000 ≤ n → n < 10000 → 4 ≡ digits_in n
  long_4 l h = more_long 3 n (omega arith) (long_3 (n / 10) (omega arith) (omega arith))

module _ (n : ℕ) where
  pub long_5 : 10000 ≤ n → n < 100000 → 5 ≡ digits_in n
  long_5 l h = more_long 4 n (omega arith) (long_4 (n / 10) (omega arith) (omega arith))

module _ (n : ℕ) where
  pub long_6 : 100000 ≤ n → n < 1000000 → 6 ≡ digits_in n
  long_6 l h = more_long 5 n (omega arith) (long_5 (n / 10) (omega arith) (omega arith))

module _ (n : ℕ) where
  pub long_7 : 1000000 ≤ n → n < 10000000 → 7 ≡ digits_in n
  long_7 l h = more_long 6 n (omega arith) (long_6 (n / 10) (omega arith) (omega arith))

module _ (n : ℕ) where
  pub long_8 : 10000000 ≤ n → n < 100000000 → 8 ≡ digits_in n
  long_8 l h = more_long 7 n (omega arith) (long_7 (n / 10) (omega arith) (omega arith))

module _ (n : ℕ) where
  pub long_9 : 100000000 ≤ n → n < 1000000000 → 9 ≡ digits_in n
  long_9 l h = more_long 8 n (omega arith) (long_8 (n / 10) (omega arith) (omega arith))

module _ (n : ℕ) where
  pub long_10 : 1000000000 ≤ n → n < 4294967296 → 10 ≡ digits_in n
  long_10 l h = more_long 9 n (omega arith) (long_9 (n / 10) (omega arith) (omega arith))

pub ruleset long_ends = (long_1, long_2, long_3, long_4, long_5, long_6, long_7, long_8, long_9, long_10)

-- ---- written

module _ {m : Bytes} {p : ℕ} (n : ℕ) where
  pub digits_one : {m' : Bytes} {q : ℕ} → n < 10 → Put (byte_text (48 + n % 10)) m p m' q → Put (put_nat n) m p m' q
  unfolding byte_text
  digits_one h x = let e : 48 + n ≡ 48 + n % 10 = omega arith in put_as (λ r. nat_one n r h ∙ ap (λ (b : ℕ). b ∷ r) e) x

  pub digits_more : {m' o : Bytes} {q s : ℕ} → 10 ≤ n → Put (put_nat (n / 10)) m p m' q → Put (byte_text (48 + n % 10)) m' q o s → Put (put_nat n) m p o s
  unfolding byte_text
  digits_more h x y = put_as (λ r. nat_more n r h) (put_then x y)

  pub digits_wide : {m' o : Bytes} {q s : ℕ} → 4294967296 ≤ n → Put (put_nat (n / 10)) m p m' q → Put (byte_text (48 + n % 10)) m' q o s → Put (put_nat n) m p o s
  digits_wide h x y = digits_more (omega arith) x y

  pub digits_past : {k q : ℕ} → length m ≤ p → p < 4294967296 → k ≡ digits_in n → q ≡ min (p + k) furthest → Put (put_nat n) m p m q
  unfolding digits_in
  digits_past {k} {q} h l e f = put_past (put_nat n []) (nat_front n) h (omega arith) (f ∙ ap (λ (x : ℕ). min (p + x) furthest) e)

pub ruleset digits_ends = (digits_one, digits_more, digits_wide, digits_past)

module _ {m : Bytes} {p : ℕ} (v : ℕ) where
  pub number_low : {m' o : Bytes} {q s : ℕ} → v < 2147483648 → Put (byte_text 45) m p m' q → Put (put_nat (2147483648 - v)) m' q o s → Put (put_int (unbiased v)) m p o s
  unfolding byte_text unbiased put_int
  number_low h x y = let e : 2147483648 - v ≡ suc (2147483647 - v) = omega arith in put_as (λ r. rw (lt-leb 2147483648 v h, e)) (put_then x y)

  pub number_high : {o : Bytes} {s : ℕ} → 2147483648 ≤ v → Put (put_nat (v - 2147483648)) m p o s → Put (put_int (unbiased v)) m p o s
  unfolding unbiased put_int
  number_high h x = put_as (λ r. rw (le-leb 2147483648 v h)) x

pub ruleset number_ends = (number_low, number_high)
