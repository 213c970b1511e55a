-- The set bits of a word, one after the other.
use mathlib.Core.Path.{◌≡◌, refl, sym, ap, ap₂, ◌∙◌}
use mathlib.Core.List.{List, [], ◌∷◌, ◌++◌, map}
use mathlib.Core.Bool.{Bool, true, false, cond}
use Prim.Native.Nat.{ℕ, zero, suc, ◌+◌, ◌-◌, ◌/◌, ◌%◌, ◌^◌, ◌<◌, ◌≤◌}
use native.Mathlib.Nat.{pow-suc}
use native.Mathlib.Decide.{dec_lt}
use native.Mathlib.Omega.{arith}
use lib.Dec.{eqb}
use lib.Count.{count_trailing_zeros, under}
use lib.Pow.{shr-shr, shr_le}
use borrow.Author.Tests.{eq-eqb}
use Rattle.lists.specs.Lists.{select, count_from, nth}
use Rattle.lists.proofs.Counting.{count_left, count_done}
use Rattle.masks.specs.Masks.{bit?}
use Rattle.masks.proofs.Bits.{bit_past}
use Rattle.masks.proofs.Lists.{bit_next, bit_lowest}
use Rattle.rows.specs.Masks.{Next, At, bits_from, next_bit, listed, row_bit, rows_of}
use Rattle.rows.specs.declared.Rows.{Rows}
use Rattle.rows.proofs.Bits.{bit_first, bit_second, bit_third, bit_fourth, row_passes, row_past}
use Rattle.lists.proofs.Laws.{gather_append, append_nil, never}
use Rattle.lists.specs.Lists.{gather}
pub use Rattle.lists.proofs.Gathers.{select_append}

-- ---- the zeros below the lowest set bit

pub trail_passed : (k n j : ℕ) → j < count_trailing_zeros k n → bit? n j ≡ false
unfolding count_trailing_zeros
trail_passed zero n j h = absurd (omega arith)
trail_passed (suc k) n j h = go (n % 2) refl (trail_passed k (n / 2)) j h
  where
    go : (d : ℕ) → n % 2 ≡ d → ((j : ℕ) → j < count_trailing_zeros k (n / 2) → bit? (n / 2) j ≡ false) → (j : ℕ) → j < under d (count_trailing_zeros k (n / 2)) → bit? n j ≡ false
    go zero e r zero h = bit_lowest n ∙ ap (λ (x : ℕ). eqb x 1) e
    go zero e r (suc j) h = bit_next n j ∙ r j (omega arith)
    go (suc d) e r j h = absurd (omega arith)

pub trail_here : (k n : ℕ) → count_trailing_zeros k n < k → bit? n (count_trailing_zeros k n) ≡ true
unfolding count_trailing_zeros
trail_here zero n h = absurd (omega arith)
trail_here (suc k) n h = go (n % 2) refl (trail_here k (n / 2)) h
  where
    go : (d : ℕ) → n % 2 ≡ d → (count_trailing_zeros k (n / 2) < k → bit? (n / 2) (count_trailing_zeros k (n / 2)) ≡ true) → under d (count_trailing_zeros k (n / 2)) < suc k → bit? n (under d (count_trailing_zeros k (n / 2))) ≡ true
    go zero e r h = bit_next n (count_trailing_zeros k (n / 2)) ∙ r (omega arith)
    go (suc d) e r h = bit_lowest n ∙ eq-eqb (n % 2) 1 (omega arith)

-- a number of k bits that is not 0 has fewer
pub trail_some : (k n : ℕ) → 0 < n → n < 2 ^ k → count_trailing_zeros k n < k
unfolding count_trailing_zeros
trail_some zero n h l = absurd (omega arith)
trail_some (suc k) n h l = go (n % 2) refl (λ a b. trail_some k (n / 2) a b)
  where
    go : (d : ℕ) → n % 2 ≡ d → (0 < n / 2 → n / 2 < 2 ^ k → count_trailing_zeros k (n / 2) < k) → under d (count_trailing_zeros k (n / 2)) < suc k
    go zero e r = let x = r (omega arith) (omega (arith, pow-suc 2 k)) in omega arith
    go (suc d) e r = omega arith

-- ---- the function

has_shift : (w i j : ℕ) → bit? (w / 2 ^ i) j ≡ bit? w (i + j)
has_shift w i j = ap (λ (x : ℕ). eqb (x % 2) 1) (shr-shr w i j)

module _ (w i : ℕ) where
  pub next_past : i ≤ 32 → 32 ≤ i → Next w i 32
  next_past h k = record { on = h; within = omega arith; passed = λ j a b. absurd (omega arith); here = λ l. absurd (omega arith) }

  pub next_empty : i ≤ 32 → w / 2 ^ i ≡ 0 → Next w i 32
  next_empty h e = record { on = h; within = omega arith; passed = λ j a b. none j a; here = λ l. absurd (omega arith) }
    where
      none : (j : ℕ) → i ≤ j → bit? w j ≡ false
      none j a =
          let x : i + (j - i) ≡ j = omega arith in
          ap (λ (y : ℕ). bit? w y) (sym x) ∙ sym (has_shift w i (j - i)) ∙ ap (λ (y : ℕ). bit? y (j - i)) e ∙ bit_past 0 (j - i) 0 (omega arith) (omega arith)

  pub next_some : w < 2 ^ 32 → i < 32 → (w / 2 ^ i ≡ 0 → ⊥) → Next w i (i + count_trailing_zeros 32 (w / 2 ^ i))
  next_some l h n =
      let m : w / 2 ^ i < 2 ^ 32 = omega (arith, shr_le w i) in
      let t = trail_some 32 (w / 2 ^ i) (omega arith) m in
      let e = sym (has_shift w i (count_trailing_zeros 32 (w / 2 ^ i))) ∙ trail_here 32 (w / 2 ^ i) t in
      record {
        on = omega arith;
        within = near (i + count_trailing_zeros 32 (w / 2 ^ i)) e;
        passed = λ j a b. let x : i + (j - i) ≡ j = omega arith in ap (λ (y : ℕ). bit? w y) (sym x) ∙ sym (has_shift w i (j - i)) ∙ trail_passed 32 (w / 2 ^ i) (j - i) (omega arith);
        here = λ _. e;
      }
    where
      near : (r : ℕ) → bit? w r ≡ true → r ≤ 32
      near r e = go (dec_lt 32 r)
        where
          go : Dec (32 < r) → r ≤ 32
          go (yes k) = never (sym e ∙ bit_past w r 32 l (omega arith))
          go (no k) = omega arith

-- ---- the list of the set bits

pub bits_here : (w i : ℕ) → i < 32 → bit? w i ≡ true → bits_from w i ≡ i ∷ bits_from w (i + 1)
unfolding bits_from select
bits_here w i h e = rw (count_left i 32 h, e)

bits_off : (w i : ℕ) → i < 32 → bit? w i ≡ false → bits_from w i ≡ bits_from w (i + 1)
unfolding bits_from select
bits_off w i h e = rw (count_left i 32 h, e)

pub bits_end : (w i : ℕ) → 32 ≤ i → bits_from w i ≡ []
unfolding bits_from select
bits_end w i h = rw (count_done i 32 h)

bits_over : (w d i : ℕ) → i + d ≤ 32 → ((j : ℕ) → i ≤ j → j < i + d → bit? w j ≡ false) → bits_from w i ≡ bits_from w (i + d)
bits_over w zero i h p = let e : i ≡ i + 0 = omega arith in ap (bits_from w) e
bits_over w (suc d) i h p =
    let e : i + 1 + d ≡ i + suc d = omega arith in
    bits_off w i (omega arith) (p i (omega arith) (omega arith)) ∙ bits_over w d (i + 1) (omega arith) (λ j a b. p j (omega arith) (omega arith)) ∙ ap (bits_from w) e

pub bits_next : {w i r : ℕ} → Next w i r → bits_from w i ≡ bits_from w r
bits_next {w} {i} {r} n =
    let o = n.on in
    let v = n.within in
    let e : i + (r - i) ≡ r = omega arith in
    bits_over w (r - i) i (omega arith) (λ j a b. n.passed j a (omega arith)) ∙ ap (bits_from w) e

-- ---- the first of them

pub next_is : {w i r : ℕ} → Next w i r → r ≡ next_bit w i
unfolding next_bit nth
next_is {w} {i} {r} n = go (dec_lt r 32)
  where
    go : Dec (r < 32) → r ≡ nth 32 (bits_from w i) 0
    go (yes k) = sym (ap (λ l. nth 32 l 0) (bits_next n ∙ bits_here w r k (n.here k)))
    go (no k) = let v = n.within in let z : r ≡ 32 = omega arith in z ∙ sym (ap (λ l. nth 32 l 0) (bits_next n ∙ bits_end w r (omega arith)))

next_there : (k w i : ℕ) → i + k ≡ 32 → Next w i (next_bit w i)
unfolding next_bit nth
next_there zero w i h = rw (bits_end w i (omega arith)) (next_past w i (omega arith) (omega arith))
next_there (suc k) w i h = go (bit? w i) refl (next_there k w (i + 1) (omega arith))
  where
    go : (b : Bool) → bit? w i ≡ b → Next w (i + 1) (nth 32 (bits_from w (i + 1)) 0) → Next w i (nth 32 (bits_from w i) 0)
    go true e n = rw (bits_here w i (omega arith) e) (record { on = omega arith; within = omega arith; passed = λ j a b. absurd (omega arith); here = λ l. e })
    go false e n = rw (bits_off w i (omega arith) e) (record { on = let o = n.on in omega arith; within = n.within; passed = λ j a b. pass j a (dec_lt i j) b; here = n.here })
      where
        pass : (j : ℕ) → i ≤ j → Dec (i < j) → j < nth 32 (bits_from w (i + 1)) 0 → bit? w j ≡ false
        pass j a (yes l) b = n.passed j (omega arith) b
        pass j a (no l) b = let z : j ≡ i = omega arith in ap (λ (y : ℕ). bit? w y) z ∙ e

pub next_found : {w i r : ℕ} → i ≤ 32 → r ≡ next_bit w i → Next w i r
next_found {w} {i} h e = rw e (next_there (32 - i) w i (omega arith))

module _ (w i : ℕ) where
  pub next_end : 32 ≤ i → 32 ≡ next_bit w i
  unfolding next_bit nth
  next_end h = rw (bits_end w i h)

  pub next_zero : i < 32 → w / 2 ^ i ≡ 0 → 32 ≡ next_bit w i
  next_zero h e = next_is (next_empty w i (omega arith) e)

pub ruleset next_ends = (next_end, next_zero)

-- a set bit of a small word is a low one
pub bit_low : (w n i : ℕ) → w < 2 ^ n → bit? w i ≡ true → i < n
bit_low w n i l e = go (dec_lt i n)
  where
    go : Dec (i < n) → i < n
    go (yes k) = k
    go (no k) = never (sym e ∙ bit_past w i n l (omega arith))

-- ---- a set bit, and those after it

module _ {w i : ℕ} (a : At w i) (h : i < 32) where
  pub map_here : {A : Type 0} (f : ℕ → A) → map f (bits_from w i) ≡ (f i ∷ []) ++ map f (bits_from w (i + 1))
  map_here f = ap (map f) (bits_here w i h (a.here h))

  pub gather_here : {A : Type 0} (f : ℕ → List A) → gather f (bits_from w i) ≡ f i ++ gather f (bits_from w (i + 1))
  unfolding gather
  gather_here f = ap (gather f) (bits_here w i h (a.here h))

  pub at_low : (n : ℕ) → w < 2 ^ n → i < n
  at_low n l = bit_low w n i l (a.here h)

-- ---- a set bit, and those from the next one on

pub at_next : {w i r : ℕ} → Next w i r → At w r
at_next n = record { within = n.within; here = n.here }

module _ {w i r : ℕ} (a : At w i) (h : i < 32) (n : Next w (i + 1) r) where
  bits_more : bits_from w i ≡ i ∷ bits_from w r
  bits_more = bits_here w i h (a.here h) ∙ ap (λ l. i ∷ l) (bits_next n)

  pub map_more : {A : Type 0} (f : ℕ → A) → map f (bits_from w i) ≡ (f i ∷ []) ++ map f (bits_from w r)
  map_more f = ap (map f) bits_more

  pub gather_more : {A : Type 0} (f : ℕ → List A) → gather f (bits_from w i) ≡ f i ++ gather f (bits_from w r)
  unfolding gather
  gather_more f = ap (gather f) bits_more

  pub at_less : 32 - r < 32 - i
  at_less = let o = n.on in let v = n.within in omega arith

-- ---- the rows of a mask are those of its four words

pub count_join : (a m n : ℕ) → count_from a (m + n) ≡ count_from a m ++ count_from (a + m) n
unfolding count_from
count_join a zero n = let e : 0 + n ≡ n = omega arith in let f : a ≡ a + 0 = omega arith in ap₂ count_from f e
count_join a (suc m) n =
    let e : suc m + n ≡ suc (m + n) = omega arith in
    let f : suc a + m ≡ a + suc m = omega arith in
    ap (count_from a) e ∙ ap (λ l. a ∷ l) (count_join (suc a) m n ∙ ap (λ (k : ℕ). count_from (suc a) m ++ count_from k n) f)

-- the same items, counted from another number on
pub gather_shift : {A : Type 0} (p q : ℕ → Bool) (g h : ℕ → List A) (a b n : ℕ) → ((j : ℕ) → j < n → p (a + j) ≡ q (b + j)) → ((j : ℕ) → j < n → g (a + j) ≡ h (b + j))
    → gather g (select p (count_from a n)) ≡ gather h (select q (count_from b n))
unfolding gather select count_from
gather_shift p q g h a b zero e f = refl
gather_shift p q g h a b (suc n) e f =
    let x : a ≡ a + 0 = omega arith in
    let y : b + 0 ≡ b = omega arith in
    go (p a) (q b) (ap p x ∙ e 0 (omega arith) ∙ ap q y) (ap g x ∙ f 0 (omega arith) ∙ ap h y) (gather_shift p q g h (suc a) (suc b) n (λ j l. by p q j (e (suc j) (omega arith))) (λ j l. by g h j (f (suc j) (omega arith))))
  where
    by : {B : Type 0} (u v : ℕ → B) (j : ℕ) → u (a + suc j) ≡ v (b + suc j) → u (suc a + j) ≡ v (suc b + j)
    by u v j e = let x : suc a + j ≡ a + suc j = omega arith in let y : b + suc j ≡ suc b + j = omega arith in ap u x ∙ e ∙ ap v y

    go : (c d : Bool) → c ≡ d → g a ≡ h b → gather g (select p (count_from (suc a) n)) ≡ gather h (select q (count_from (suc b) n))
        → gather g (cond c (a ∷ select p (count_from (suc a) n)) (select p (count_from (suc a) n))) ≡ gather h (cond d (b ∷ select q (count_from (suc b) n)) (select q (count_from (suc b) n)))
    go true true i j k = ap₂ ◌++◌ j k
    go true false i j k = never i
    go false true i j k = never (sym i)
    go false false i j k = k

module _ (m : Rows) where
  pub bit_a : (j : ℕ) → j < 32 → row_bit m (0 + j) ≡ bit? m.a (0 + j)
  bit_a j h = let e : 0 + j ≡ j = omega arith in ap (row_bit m) e ∙ sym (bit_first m j h refl) ∙ ap (λ (k : ℕ). bit? m.a k) (sym e)

  pub bit_b : (j : ℕ) → j < 32 → row_bit m (32 + j) ≡ bit? m.b (0 + j)
  bit_b j h = let e : 0 + j ≡ 32 + j - 32 = omega arith in sym (bit_second m (32 + j) (omega arith) (omega arith) (ap (λ (k : ℕ). bit? m.b k) e))

  pub bit_c : (j : ℕ) → j < 32 → row_bit m (64 + j) ≡ bit? m.c (0 + j)
  bit_c j h = let e : 0 + j ≡ 64 + j - 64 = omega arith in sym (bit_third m (64 + j) (omega arith) (omega arith) (omega arith) (ap (λ (k : ℕ). bit? m.c k) e))

  pub bit_d : (j : ℕ) → j < 32 → row_bit m (96 + j) ≡ bit? m.d (0 + j)
  bit_d j h = let e : 0 + j ≡ 96 + j - 96 = omega arith in sym (bit_fourth m (96 + j) (omega arith) (omega arith) (omega arith) (ap (λ (k : ℕ). bit? m.d k) e))

  pub gather_listed : {A : Type 0} (g g₂ g₃ g₄ : ℕ → List A) → ((j : ℕ) → g (32 + j) ≡ g₂ j) → ((j : ℕ) → g (64 + j) ≡ g₃ j) → ((j : ℕ) → g (96 + j) ≡ g₄ j)
      → gather g (listed m) ≡ gather g (bits_from m.a 0) ++ (gather g₂ (bits_from m.b 0) ++ (gather g₃ (bits_from m.c 0) ++ gather g₄ (bits_from m.d 0)))
  unfolding listed bits_from
  gather_listed g g₂ g₃ g₄ e f h =
      split g (count_from 0 32) (count_from 32 96) (count_join 0 32 96)
      ∙ ap₂ ◌++◌ (gather_shift (row_bit m) (bit? m.a) g g 0 0 32 (λ j l. bit_a j l) (λ j l. refl))
      (split g (count_from 32 32) (count_from 64 64) (count_join 32 32 64)
      ∙ ap₂ ◌++◌ (gather_shift (row_bit m) (bit? m.b) g g₂ 32 0 32 (λ j l. bit_b j l) (λ j l. e j ∙ zero_add g₂ j))
      (split g (count_from 64 32) (count_from 96 32) (count_join 64 32 32)
      ∙ ap₂ ◌++◌ (gather_shift (row_bit m) (bit? m.c) g g₃ 64 0 32 (λ j l. bit_c j l) (λ j l. f j ∙ zero_add g₃ j)) (gather_shift (row_bit m) (bit? m.d) g g₄ 96 0 32 (λ j l. bit_d j l) (λ j l. h j ∙ zero_add g₄ j))))
    where
      zero_add : {B : Type 0} (u : ℕ → B) (j : ℕ) → u j ≡ u (0 + j)
      zero_add u j = let x : j ≡ 0 + j = omega arith in ap u x

      split : {A : Type 0} (g : ℕ → List A) {all : List ℕ} (xs ys : List ℕ) → all ≡ xs ++ ys → gather g (select (row_bit m) all) ≡ gather g (select (row_bit m) xs) ++ gather g (select (row_bit m) ys)
      split g xs ys e = ap (λ l. gather g (select (row_bit m) l)) e ∙ ap (gather g) (select_append (row_bit m) xs ys) ∙ gather_append g (select (row_bit m) xs) (select (row_bit m) ys)

-- ---- the rows of a mask that is made of a test

pub select_alike : (p q : ℕ → Bool) (a n : ℕ) → ((i : ℕ) → a ≤ i → i < a + n → p i ≡ q i) → select p (count_from a n) ≡ select q (count_from a n)
unfolding select count_from
select_alike p q a zero h = refl
select_alike p q a (suc n) h = ap₂ (λ b l. cond b (a ∷ l) l) (h a (omega arith) (omega arith)) (select_alike p q (suc a) n (λ i k l. h i (omega arith) (omega arith)))

pub select_nothing : (p : ℕ → Bool) (a n : ℕ) → ((i : ℕ) → a ≤ i → i < a + n → p i ≡ false) → select p (count_from a n) ≡ []
unfolding select count_from
select_nothing p a zero h = refl
select_nothing p a (suc n) h = ap₂ (λ b l. cond b (a ∷ l) l) (h a (omega arith) (omega arith)) (select_nothing p (suc a) n (λ i k l. h i (omega arith) (omega arith)))

module _ (p : ℕ → Bool) (at n : ℕ) (few : n ≤ 128) where
  -- of the first n rows those whose place passes
  pub rows_select : select (row_bit (rows_of p at n)) (count_from 0 n) ≡ select (λ i. p (at + i)) (count_from 0 n)
  rows_select = select_alike (row_bit (rows_of p at n)) (λ i. p (at + i)) 0 n (λ i a b. row_passes p at n i few (omega arith))

  -- and there are no others
  pub listed_select : listed (rows_of p at n) ≡ select (row_bit (rows_of p at n)) (count_from 0 n)
  unfolding listed
  listed_select =
      let m = rows_of p at n in
      let e : 128 ≡ n + (128 - n) = omega arith in
      ap (λ (k : ℕ). select (row_bit m) (count_from 0 k)) e
      ∙ ap (select (row_bit m)) (count_join 0 n (128 - n))
      ∙ select_append (row_bit m) (count_from 0 n) (count_from (0 + n) (128 - n))
      ∙ ap (λ l. select (row_bit m) (count_from 0 n) ++ l) (select_nothing (row_bit m) (0 + n) (128 - n) (λ i a b. row_past p at n i (omega arith)))
      ∙ append_nil (select (row_bit m) (count_from 0 n))

  pub listed_places : listed (rows_of p at n) ≡ select (λ i. p (at + i)) (count_from 0 n)
  listed_places = listed_select ∙ rows_select

pub listed_rows : (p : ℕ → Bool) → listed (rows_of p 0 128) ≡ select p (count_from 0 128)
listed_rows p =
    listed_places p 0 128 (omega arith)
    ∙ select_alike (λ i. p (0 + i)) p 0 128 (λ i a b. let z : 0 + i ≡ i = omega arith in ap p z)
