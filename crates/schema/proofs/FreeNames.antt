-- Names by their numbers: a number below 2^64 is told by its name, and a name is tested byte by byte from its end.
use mathlib.Core.Path.{◌≡◌, refl, sym, ap, ◌∙◌}
use mathlib.Core.List.{[], ◌∷◌, ◌++◌}
use mathlib.Core.Bool.{Bool, true, false, ◌&&◌, ◌||◌, not, and-true, and-false, and_assoc}
use Prim.Native.Nat.{ℕ, zero, suc, ◌+◌, ◌*◌, ◌/◌, ◌%◌, ◌<◌, ◌≤◌}
use native.Mathlib.Decide.{dec_lt}
use native.Mathlib.Omega.{arith}
use lib.Dec.{eqb, ltb, lit<}
use lib.ListN.{length, length-append}
use borrow.Author.Tests.{eq-eqb, ne_eqb, le-leb, lt-ltb, not-true, not-false}
use Rattle.lists.specs.Lists.{every, some?, same_list}
use Rattle.lists.proofs.Laws.{same_list→eq, same_list_refl, T_true}
use Rattle.syntax.specs.Grammar.{Bytes, bytes, letter, alnum, name?}
use Rattle.syntax.specs.Limits.{short}
use Rattle.calls.specs.Validity.{valid_name, reserved, free_name}
use Rattle.text.specs.Words.{code_of, bytes_from, name_of}
use Rattle.text.proofs.Codes.{code_back}
use Rattle.schema.specs.Schemas.{code_end, code_free}

-- the highest number of k bytes and one more
abbrev past : ℕ → ℕ
past zero = 1
past (suc k) = past k * 256

-- ---- one to one

pub name_one : (m n : ℕ) → m < code_end → n < code_end → same_list (name_of m) (name_of n) ≡ eqb m n
name_one m n h k = go (same_list (name_of m) (name_of n)) refl
  where
    go : (b : Bool) → same_list (name_of m) (name_of n) ≡ b → b ≡ eqb m n
    go true e = let p : name_of m ≡ name_of n = same_list→eq (name_of m) (name_of n) (rw e tt) in sym (eq-eqb m n (sym (code_back m h) ∙ ap code_of p ∙ code_back n k))
    go false e = sym (ne_eqb m n (λ p. let q : true ≡ false = sym (T_true (same_list (name_of m) (name_of m)) (same_list_refl (name_of m))) ∙ ap (λ x. same_list (name_of m) (name_of x)) p ∙ e in let z : ◌≡◌ {A = ℕ} 0 1 = cc in omega arith))

-- ---- a name from its last byte on

name_none : name? (name_of 0) ≡ letter 0
unfolding name_of bytes_from name? letter
name_none = refl

name_single : (n : ℕ) → name? (name_of 0 ++ (n ∷ [])) ≡ letter n
unfolding name_of bytes_from name? every
name_single n = and-true (letter n)

bytes_append : (k n : ℕ) (bs cs : Bytes) → bytes_from k n (bs ++ cs) ≡ bytes_from k n bs ++ cs
unfolding bytes_from
bytes_append zero n bs cs = refl
bytes_append (suc k) n bs cs = go (eqb n 0) (bytes_append k (n / 256) ((n % 256) ∷ bs) cs)
  where
    go : (b : Bool) → bytes_from k (n / 256) ((n % 256) ∷ (bs ++ cs)) ≡ bytes_from k (n / 256) ((n % 256) ∷ bs) ++ cs
        → ◌≡◌ {A = Bytes} (elim b [ true ↦ bs ++ cs | false ↦ bytes_from k (n / 256) ((n % 256) ∷ (bs ++ cs)) ]) (◌++◌ {A = ℕ} (elim b [ true ↦ bs | false ↦ bytes_from k (n / 256) ((n % 256) ∷ bs) ]) cs)
    go true i = refl
    go false i = i

-- one byte of room more changes nothing
bytes_room : (k n : ℕ) (bs : Bytes) → n < past k → bytes_from (suc k) n bs ≡ bytes_from k n bs
unfolding bytes_from
bytes_room zero n bs h = let e : n ≡ 0 = omega arith in rw e
bytes_room (suc k) n bs h = go (eqb n 0) refl (λ i. bytes_room k (n / 256) ((n % 256) ∷ bs) i)
  where
    go : (b : Bool) → eqb n 0 ≡ b → (n / 256 < past k → bytes_from (suc k) (n / 256) ((n % 256) ∷ bs) ≡ bytes_from k (n / 256) ((n % 256) ∷ bs))
        → ◌≡◌ {A = Bytes} (elim b [ true ↦ bs | false ↦ bytes_from (suc k) (n / 256) ((n % 256) ∷ bs) ]) (elim b [ true ↦ bs | false ↦ bytes_from k (n / 256) ((n % 256) ∷ bs) ])
    go true e f = refl
    go false e f = f (omega arith)

bytes_length : (k n : ℕ) (bs : Bytes) → length (bytes_from k n bs) ≤ k + length bs
unfolding bytes_from
bytes_length zero n bs = omega arith
bytes_length (suc k) n bs = go (eqb n 0) (bytes_length k (n / 256) ((n % 256) ∷ bs))
  where
    go : (b : Bool) → length (bytes_from k (n / 256) ((n % 256) ∷ bs)) ≤ k + suc (length bs) → length {A = ℕ} (elim b [ true ↦ bs | false ↦ bytes_from k (n / 256) ((n % 256) ∷ bs) ]) ≤ suc k + length bs
    go true i = omega arith
    go false i = omega arith

bytes_step : (k n : ℕ) (bs : Bytes) → 0 < n → bytes_from (suc k) n bs ≡ bytes_from k (n / 256) (n % 256 ∷ bs)
unfolding bytes_from
bytes_step k n bs l = let e : eqb n 0 ≡ false = ne_eqb n 0 (λ p. omega arith) in rw (e, bytes_from)

pub name_snoc : (n : ℕ) → 0 < n → n < code_end → name_of n ≡ name_of (n / 256) ++ (n % 256 ∷ [])
unfolding name_of
name_snoc n l h =
    let d : n / 256 < past 7 = omega arith in
    bytes_step 7 n [] l ∙ bytes_append 7 (n / 256) [] (n % 256 ∷ []) ∙ ap (λ (w : Bytes). w ++ (n % 256 ∷ [])) (sym (bytes_room 7 (n / 256) [] d))

every_snoc : (p : ℕ → Bool) (xs : Bytes) (b : ℕ) → every p (xs ++ (b ∷ [])) ≡ (every p xs && p b)
unfolding every
every_snoc p [] b = and-true (p b)
every_snoc p (x ∷ xs) b = ap (λ t. p x && t) (every_snoc p xs b) ∙ sym (and_assoc (p x) (every p xs) (p b))

name_more : (w : Bytes) (b : ℕ) → 0 < length w → name? (w ++ (b ∷ [])) ≡ (name? w && alnum b)
unfolding name?
name_more [] b h = absurd (omega arith)
name_more (x ∷ xs) b h = ap (λ t. letter x && t) (every_snoc alnum xs b) ∙ sym (and_assoc (letter x) (every alnum xs) (alnum b))

name_last : (n : ℕ) → 256 ≤ n → n < code_end → name? (name_of n) ≡ (name? (name_of (n / 256)) && alnum (n % 256))
name_last n l h =
    let d : 0 < n / 256 = omega arith in
    let m : n / 256 < code_end = omega arith in
    let e = ap length (name_snoc (n / 256) d m) in
    let f = length-append (name_of (n / 256 / 256)) (n / 256 % 256 ∷ []) in
    ap name? (name_snoc n (omega arith) h) ∙ name_more (name_of (n / 256)) (n % 256) (omega arith)

name_first : (n : ℕ) → n < 256 → name? (name_of n) ≡ letter n
name_first n h = go (dec_lt 0 n)
  where
    go : Dec (0 < n) → name? (name_of n) ≡ letter n
    go (yes l) =
        let d : n / 256 ≡ 0 = omega arith in
        let m : n % 256 ≡ n = omega arith in
        ap name? (name_snoc n l (omega arith)) ∙ rw (d, m) (name_single n)
    go (no l) = let e : n ≡ 0 = omega arith in rw e name_none

-- ---- each return of the test of a name

module _ (code n : ℕ) (low : n ≤ code) (same : name? (name_of code) ≡ name? (name_of n)) {x : Bool} where
  pub name_stop : code < code_end → 256 ≤ n → x ≡ alnum (n % 256) → not x ≡ true → false ≡ name? (name_of code)
  name_stop b l e f = rw (same, name_last n l (omega arith), sym e ∙ not-true x f) (sym (and-false (name? (name_of (n / 256)))))

  pub name_on : code < code_end → 256 ≤ n → x ≡ alnum (n % 256) → not x ≡ false → name? (name_of code) ≡ name? (name_of (n / 256))
  name_on b l e f = rw (same, name_last n l (omega arith), sym e ∙ not-false x f) (and-true (name? (name_of (n / 256))))

  pub name_done : n < 256 → x ≡ letter n → x ≡ name? (name_of code)
  name_done l e = e ∙ sym (name_first n l) ∙ sym same

pub ruleset name_ends = (name_stop, name_on, name_done)

-- ---- valid names and free ones

-- a name of a number is never too long
pub name_short : (n : ℕ) → short (name_of n) ≡ true
unfolding short name_of
name_short n = le-leb (length (bytes_from 8 n [])) 8 (bytes_length 8 n [])

pub valid_code : (n : ℕ) {x : Bool} → x ≡ name? (name_of n) → x ≡ valid_name (name_of n)
unfolding valid_name
valid_code n {x} e = e ∙ sym (and-true (name? (name_of n))) ∙ ap (λ a. name? (name_of n) && a) (sym (name_short n))

self_name : bytes "self" ≡ name_of 1936026726
unfolding name_of bytes_from
self_name = refl

time_name : bytes "time" ≡ name_of 1953066341
unfolding name_of bytes_from
time_name = refl

figure_name : bytes "figure" ≡ name_of 112602893349477
unfolding name_of bytes_from
figure_name = refl

reserved_code : (n : ℕ) → n < code_end → reserved (name_of n) ≡ (eqb n 1936026726 || (eqb n 1953066341 || (eqb n 112602893349477 || false)))
unfolding reserved some?
reserved_code n h = rw (self_name, time_name, figure_name, name_one n 1936026726 h (lit< tt), name_one n 1953066341 h (lit< tt), name_one n 112602893349477 h (lit< tt))

reserved_taken : (n : ℕ) → reserved (name_of n) ≡ true → false ≡ code_free n
unfolding code_free free_name
reserved_taken n e = rw e (sym (ap (λ a. ltb n code_end && a) (and-false (valid_name (name_of n))) ∙ and-false (ltb n code_end)))

pub free_self : {n : ℕ} → n ≡ 1936026726 → false ≡ code_free n
free_self {n} e = reserved_taken n (rw e (reserved_code 1936026726 (lit< tt)))

pub free_time : {n : ℕ} → n ≡ 1953066341 → false ≡ code_free n
free_time {n} e = reserved_taken n (rw e (reserved_code 1953066341 (lit< tt)))

pub free_figure : {n : ℕ} → n ≡ 112602893349477 → false ≡ code_free n
free_figure {n} e = reserved_taken n (rw e (reserved_code 112602893349477 (lit< tt)))

pub free_other : {n : ℕ} {x : Bool} → n < code_end → (n ≡ 1936026726 → ⊥) → (n ≡ 1953066341 → ⊥) → (n ≡ 112602893349477 → ⊥) → x ≡ name? (name_of n) → x ≡ code_free n
unfolding code_free free_name
free_other {n} {x} h s t f e =
    rw (reserved_code n h, ne_eqb n 1936026726 s, ne_eqb n 1953066341 t, ne_eqb n 112602893349477 f, lt-ltb n code_end h) (valid_code n e ∙ sym (and-true (valid_name (name_of n))))

pub ruleset free_ends = (free_self, free_time, free_figure, free_other)
