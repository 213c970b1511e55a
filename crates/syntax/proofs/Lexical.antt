-- Names and numbers: what is printed is read back, and what is read was printed.
use mathlib.Core.Path.{◌≡◌, refl, sym, ap, ap₂, ◌∙◌, subst}
use mathlib.Core.List.{[], ◌∷◌, ◌++◌}
use mathlib.Core.Bool.{Bool, true, false, not}
use mathlib.Core.Option.{some, none-ne-some}
use mathlib.Core.Logic.{◌≢◌}
use Prim.Native.Nat.{ℕ, zero, suc, ◌+◌, ◌*◌, ◌-◌, ◌/◌, ◌%◌, ◌≤◌, ◌<◌}
use native.Mathlib.Omega.{arith}
use lib.IntN.{ℤ, pos, negsuc}
use lib.Dec.{T, eqb, leb, ltb, eqb→eq, eqb_refl, leb→le, le→leb, ltb→lt, lt→ltb, nltb→le, not_T, T_not}
use Rattle.lists.specs.Lists.{every}
use Rattle.lists.proofs.Laws.{and_l, and_r, and_both, or_l, parts, T_true, T_false, cond_cases, append_nil}
use Rattle.syntax.specs.Grammar.{Bytes, digit, letter, alnum, name?, digits_from, put_nat, put_int, put_name}
use Rattle.syntax.specs.Readers.{Read, bind, ensure, run, past, read_name, numeral, value_from, read_nat, negated, read_negative, read_natural, read_int, read_number}
use Rattle.syntax.proofs.Steps.{Printed, Reads, Follows, space, close, from, ensured, done, byte_step, byte_put, Stops, run_past, run_every, run_put, past_put}

-- ---- names

pub name_every : (w : Bytes) → T (name? w) → T (every alnum w)
unfolding name? every alnum
name_every [] t = absurd t
name_every (b ∷ w) t = and_both (alnum b) (every alnum w) (or_l (letter b) (digit b) (search parts)) (search parts)

pub name_stop : (w rest : Bytes) → T (name? w) → Stops alnum rest → read_name (put_name w rest) ≡ some (record { what = w; left = rest })
unfolding read_name put_name ensure
name_stop w rest t s = rw (run_put alnum w rest (name_every w t) s, past_put alnum w rest (name_every w t) s, T_true (name? w) t)

pub stops_alnum : {rest : Bytes} → Follows rest → Stops alnum rest
unfolding alnum letter digit
stops_alnum space = refl
stops_alnum close = refl

pub name_put : (w : Bytes) {rest : Bytes} → T (name? w) → Follows rest → read_name (put_name w rest) ≡ some (record { what = w; left = rest })
name_put w {rest} t f = name_stop w rest t (stops_alnum f)

pub name_read : Reads name? put_name read_name
unfolding read_name put_name
name_read =
    record {
      taken = λ bs r e. ensured (name? (run alnum bs)) e (λ t d.
          subst (λ x. Printed name? (λ n rest. n ++ rest) bs x) d (t, sym (run_past alnum bs)));
    }

-- ---- digits

pub digit_low : (b : ℕ) → T (digit b) → 48 ≤ b
unfolding digit
digit_low b t = leb→le 48 b (search parts)

pub digit_high : (b : ℕ) → T (digit b) → b ≤ 57
unfolding digit
digit_high b t = leb→le b 57 (search parts)

digit_of : (n : ℕ) → n < 10 → T (digit (48 + n))
unfolding digit
digit_of n h = and_both (leb 48 (48 + n)) (leb (48 + n) 57) (le→leb 48 (48 + n) (omega arith)) (le→leb (48 + n) 57 (omega arith))

pub digit_no_letter : (b : ℕ) → T (digit b) → letter b ≡ false
unfolding letter
digit_no_letter b t =
    T_false (letter b) (not_T (letter b) (λ u. let h = digit_high b t in let l = leb→le 97 b (and_l (leb 97 b) (leb b 122) u) in omega arith))

digit_no_minus : (b : ℕ) → T (digit b) → eqb 45 b ≡ false
digit_no_minus b t = T_false (eqb 45 b) (not_T (eqb 45 b) (λ u. let h = digit_low b t in let e = eqb→eq 45 b u in omega arith))

-- one step of the printer
digits_low : (k n : ℕ) (ds : Bytes) → n < 10 → digits_from (suc k) n ds ≡ (48 + n) ∷ ds
unfolding digits_from
digits_low k n ds h = rw (T_true (ltb n 10) (lt→ltb n 10 h), digits_from)

not_less : (n : ℕ) → 10 ≤ n → ltb n 10 ≡ false
not_less n h = T_false (ltb n 10) (not_T (ltb n 10) (λ t. let l = ltb→lt n 10 t in omega arith))

pub digits_high : (k n : ℕ) (ds : Bytes) → 10 ≤ n → digits_from (suc k) n ds ≡ digits_from k (n / 10) ((48 + n % 10) ∷ ds)
unfolding digits_from
digits_high k n ds h = rw (not_less n h, digits_from)

-- a number is below ten or not
small_or : {X : Type 0} (n : ℕ) → (n < 10 → X) → (10 ≤ n → X) → X
small_or {X} n f g = go (ltb n 10) refl
  where
    go : (b : Bool) → ltb n 10 ≡ b → X
    go true e = f (ltb→lt n 10 (rw e tt))
    go false e = g (nltb→le n 10 (rw e tt))

-- the value of the digits
pub value_digits : (k n : ℕ) (ds : Bytes) → n < k → value_from 0 (digits_from k n ds) ≡ value_from n ds
unfolding value_from
value_digits zero n ds h = absurd (omega arith)
value_digits (suc k) n ds h =
    small_or n (λ l. rw (digits_low k n ds l) (ap (λ m. value_from m ds) (omega arith)))
    (λ g. rw (digits_high k n ds g) (value_digits k (n / 10) ((48 + n % 10) ∷ ds) (omega arith) ∙ ap (λ m. value_from m ds) (omega arith)))

pub digits_every : (k n : ℕ) (ds : Bytes) → T (every digit ds) → T (every digit (digits_from k n ds))
unfolding digits_from every
digits_every zero n ds h = h
digits_every (suc k) n ds h =
    small_or n (λ l. rw (digits_low k n ds l) (and_both (digit (48 + n)) (every digit ds) (digit_of n l) h))
    (λ g. rw (digits_high k n ds g) (digits_every k (n / 10) _ (and_both (digit (48 + n % 10)) (every digit ds) (digit_of (n % 10) (omega arith)) h)))

-- no needless zero
numeral_digits : (k n : ℕ) (ds : Bytes) → n < k → 1 ≤ n → T (numeral (digits_from k n ds))
unfolding numeral
numeral_digits zero n ds h l = absurd (omega arith)
numeral_digits (suc k) n ds h l =
    small_or n (λ s. rw (digits_low k n ds s) (first ds s)) (λ g. rw (digits_high k n ds g) (numeral_digits k (n / 10) _ (omega arith) (omega arith)))
  where
    first : (ds : Bytes) → n < 10 → T (numeral ((48 + n) ∷ ds))
    first [] s = tt
    first (d ∷ ds) s = not_T (eqb (48 + n) 48) (λ t. let e = eqb→eq (48 + n) 48 t in omega arith)

pub numeral_nat : (n : ℕ) → T (numeral (digits_from (suc n) n []))
unfolding digits_from numeral
numeral_nat zero = tt
numeral_nat (suc n) = numeral_digits (suc (suc n)) (suc n) [] (omega arith) (omega arith)

stops_digit : {rest : Bytes} → Follows rest → Stops digit rest
unfolding digit
stops_digit space = refl
stops_digit close = refl

pub nat_put : (n : ℕ) {rest : Bytes} → Follows rest → read_nat (put_nat n rest) ≡ some (record { what = n; left = rest })
unfolding read_nat put_nat ensure value_from every
nat_put n {rest} f =
    rw (
      run_put digit (digits_from (suc n) n []) rest (digits_every (suc n) n [] tt) (stops_digit f),
      past_put digit (digits_from (suc n) n []) rest (digits_every (suc n) n [] tt) (stops_digit f),
      T_true (numeral (digits_from (suc n) n [])) (numeral_nat n),
      value_digits (suc n) n [] (omega arith),
    )

-- more room changes nothing
pub digits_room : (k j n : ℕ) (ds : Bytes) → n < k → n < j → digits_from k n ds ≡ digits_from j n ds
digits_room zero j n ds h l = absurd (omega arith)
digits_room (suc k) zero n ds h l = absurd (omega arith)
digits_room (suc k) (suc j) n ds h l =
    small_or n (λ s. digits_low k n ds s ∙ sym (digits_low j n ds s))
    (λ g. digits_high k n ds g ∙ digits_room k j (n / 10) _ (omega arith) (omega arith) ∙ sym (digits_high j n ds g))

pub value_grows : (m : ℕ) (ds : Bytes) → m ≤ value_from m ds
unfolding value_from
value_grows m [] = omega arith
value_grows m (d ∷ ds) = let h = value_grows (m * 10 + (d - 48)) ds in omega arith

-- the digits of a value that begins with m are those of m and then the rest
digits_value : (k m : ℕ) (ds more : Bytes) → 1 ≤ m → T (every digit ds) → value_from m ds < k → digits_from k (value_from m ds) more ≡ digits_from k m (ds ++ more)
unfolding value_from every
digits_value k m [] more l h r = refl
digits_value zero m (d ∷ ds) more l h r = absurd (omega arith)
digits_value (suc k) m (d ∷ ds) more l h r =
    let lo = digit_low d (and_l (digit d) (every digit ds) h) in
    let hi = digit_high d (and_l (digit d) (every digit ds) h) in
    let v = value_grows (m * 10 + (d - 48)) ds in
    digits_value (suc k) (m * 10 + (d - 48)) ds more (omega arith) (and_r (digit d) (every digit ds) h) r
    ∙ digits_high k (m * 10 + (d - 48)) (ds ++ more) (omega arith)
    ∙ ap₂ (λ a b. digits_from k a (b ∷ (ds ++ more))) (omega arith) (omega arith)
    ∙ digits_room k (suc k) m (d ∷ (ds ++ more)) (omega arith) (omega arith)

above : (d : ℕ) → 48 ≤ d → T (not (eqb d 48)) → 48 < d
above d lo t = let n : d ≢ 48 = (λ e. T_not (eqb d 48) t (rw e (eqb_refl 48))) in omega arith

pub digits_of_value : (ds : Bytes) → T (numeral ds) → T (every digit ds) → digits_from (suc (value_from 0 ds)) (value_from 0 ds) [] ≡ ds
unfolding numeral value_from every
digits_of_value [] t h = absurd t
digits_of_value (d ∷ []) t h =
    let lo = digit_low d (and_l (digit d) true h) in
    let hi = digit_high d (and_l (digit d) true h) in
    digits_low _ _ [] (omega arith) ∙ ap (λ b. b ∷ []) (omega arith)
digits_of_value (d ∷ (e ∷ es)) t h =
    let lo = digit_low d (and_l (digit d) (every digit (e ∷ es)) h) in
    let hi = digit_high d (and_l (digit d) (every digit (e ∷ es)) h) in
    let z : 48 < d = above d lo t in
    let v = value_grows (0 * 10 + (d - 48)) (e ∷ es) in
    digits_value _ (0 * 10 + (d - 48)) (e ∷ es) [] (omega arith) (and_r (digit d) (every digit (e ∷ es)) h) (omega arith)
    ∙ digits_low _ _ _ (omega arith) ∙ ap₂ ◌∷◌ (omega arith) (append_nil (e ∷ es))

pub nat_read : Reads (λ n. true) put_nat read_nat
unfolding read_nat put_nat
nat_read =
    record {
      taken = λ bs r e. ensured (numeral (run digit bs)) e (λ t d.
          subst (λ x. Printed (λ n. true) (λ n rest. digits_from (suc n) n [] ++ rest) bs x) d
          (tt, sym (run_past digit bs) ∙ ap (λ l. l ++ past digit bs) (sym (digits_of_value (run digit bs) t (run_every digit bs)))));
    }

-- ---- numbers

natural_first : (w rest : Bytes) → T (numeral w) → T (every digit w) → read_int (w ++ rest) ≡ read_natural (w ++ rest)
unfolding numeral read_int every
natural_first [] rest t h = absurd t
natural_first (d ∷ ds) rest t h = rw (digit_no_minus d (and_l (digit d) (every digit ds) h))

pub int_put : (z : ℤ) {rest : Bytes} → Follows rest → read_int (put_int z rest) ≡ some (record { what = z; left = rest })
unfolding put_int put_nat read_int read_natural read_negative negated bind every
int_put (pos n) {rest} f = natural_first (digits_from (suc n) n []) rest (numeral_nat n) (digits_every (suc n) n [] tt) ∙ rw (nat_put n f)
int_put (negsuc n) f = rw (nat_put (suc n) f)

negated_read : (n : ℕ) (z : ℤ) (rest : Bytes) → negated n ≡ some z → 45 ∷ put_nat n rest ≡ put_int z rest
unfolding negated put_int
negated_read zero z rest e = absurd (none-ne-some z e)
negated_read (suc n) z rest e = done (λ z. 45 ∷ put_nat (suc n) rest ≡ put_int z rest) e refl

int_was : (bs : Bytes) (r : Read ℤ) → read_int bs ≡ some r → Printed (λ z. true) put_int bs r
unfolding read_int read_natural read_negative put_int
int_was [] r e = absurd (none-ne-some r e)
int_was (b ∷ bs) r e =
    cond_cases (eqb 45 b) (read_negative bs) (read_natural (b ∷ bs)) e
    (λ t d. from _ _ d (λ n p q. from _ _ q (λ z u v.
    done (λ x. Printed (λ z. true) put_int (b ∷ bs) x) v (tt, ap₂ ◌∷◌ (sym (eqb→eq 45 b t)) (nat_read.taken bs n p).1 ∙ negated_read n.what z n.left u))))
    (λ t d. from _ _ d (λ n p q. done (λ x. Printed (λ z. true) put_int (b ∷ bs) x) q (tt, (nat_read.taken (b ∷ bs) n p).1)))

pub int_read : Reads (λ z. true) put_int read_int
int_read = record { taken = int_was }

pub digits_first : (w rest : Bytes) → T (numeral w) → T (every digit w) → Stops letter (w ++ rest)
unfolding numeral every
digits_first [] rest t h = absurd t
digits_first (d ∷ ds) rest t h = digit_no_letter d (and_l (digit d) (every digit ds) h)

-- the text of a number does not begin with a letter
pub int_first : (z : ℤ) (rest : Bytes) → Stops letter (put_int z rest)
unfolding put_int put_nat letter every
int_first (pos n) rest = digits_first (digits_from (suc n) n []) rest (numeral_nat n) (digits_every (suc n) n [] tt)
int_first (negsuc n) rest = refl

-- a number after a space
pub number_put : (z : ℤ) {rest : Bytes} → Follows rest → read_number (32 ∷ put_int z rest) ≡ some (record { what = z; left = rest })
unfolding read_number
number_put z f = byte_put 32 _ (int_put z f)

pub number_read : Reads (λ z. true) (λ z rest. 32 ∷ put_int z rest) read_number
unfolding read_number
number_read = byte_step 32 _ (record { taken = λ bs r e. (tt, ap (λ l. 32 ∷ l) (int_read.taken bs r e).1) })
