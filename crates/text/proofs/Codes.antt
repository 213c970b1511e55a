-- Bytes as one number: words of equal lengths and codes are equal, and a name is its number.
use mathlib.Core.Path.{◌≡◌, refl, sym, ap, ap₂, ◌∙◌, subst}
use mathlib.Core.List.{[], ◌∷◌, ◌++◌}
use mathlib.Core.Bool.{Bool, true, false, ◌&&◌, not}
use Prim.Native.Nat.{ℕ, zero, suc, ◌+◌, ◌*◌, ◌-◌, ◌/◌, ◌%◌, ◌^◌, ◌≤◌, ◌<◌}
use native.Mathlib.Omega.{arith}
use native.Mathlib.Numerals.{add-one}
use native.Mathlib.Nat.{pow-suc, pow-le-pow_right}
use lib.Dec.{T, eqb, leb, leb→le, le→leb, ltb→lt, lt→ltb, lit<}
use lib.ListN.{length, take, get_or}
use lib.Seq.{take-suc}
use borrow.Author.Tests.{ne_eqb, eqb-true, eqb-false}
use Rattle.lists.specs.Lists.{All, all_nil, all_cons, same_list}
use Rattle.lists.proofs.Laws.{and_r, and_both, parts, or_cases, T_true, T_false, all_head, all_tail, all_weaken, every_all, all_every, append_nil, same_list→eq, same_list_refl}
use Rattle.syntax.specs.Grammar.{Bytes, digit, letter, alnum, name?}
use Rattle.syntax.proofs.Lexical.{name_every}
use Rattle.syntax.specs.Limits.{short}
use Rattle.text.specs.Words.{code_from, code_of, bytes_from, name_of}
use Rattle.text.specs.Keywords.{octet, keyword?}

-- a test that cannot pass
pub T_never : (b : Bool) → (T b → ⊥) → b ≡ false
T_never true h = absurd (h tt)
T_never false h = refl

-- each byte is one
abbrev pub Octets : Bytes → Type 0
Octets w = All (λ b. b < 256) w

-- ---- codes tell words of one length apart

codes_one : (a b : ℕ) (w v : Bytes) → Octets w → Octets v → length w ≡ length v → code_from a w ≡ code_from b v → (a ≡ b) × (w ≡ v)
unfolding code_from
codes_one a b [] [] p q l e = (e, refl)
codes_one a b [] (y ∷ v) p q l e = absurd (omega arith)
codes_one a b (x ∷ w) [] p q l e = absurd (omega arith)
codes_one a b (x ∷ w) (y ∷ v) p q l e =
    let h = codes_one (a * 256 + x) (b * 256 + y) w v (all_tail p) (all_tail q) (omega arith) e in
    let i = all_head p in
    let j = all_head q in
    let k = h.0 in
    (omega arith, ap₂ ◌∷◌ (omega arith) h.1)

pub code_one : (w v : Bytes) → Octets w → Octets v → length w ≡ length v → code_of w ≡ code_of v → w ≡ v
unfolding code_of
code_one w v p q l e = (codes_one 0 0 w v p q l e).1

-- ---- a word, byte by byte

code_snoc : (a : ℕ) (w : Bytes) (b : ℕ) → code_from a (w ++ (b ∷ [])) ≡ code_from a w * 256 + b
unfolding code_from
code_snoc a [] b = refl
code_snoc a (x ∷ w) b = code_snoc (a * 256 + x) w b

pub code_more : (w : Bytes) (i : ℕ) {c : ℕ} → i < length w → c ≡ code_of (take i w) → c * 256 + get_or w i 0 ≡ code_of (take (i + 1) w)
unfolding code_of
code_more w i {c} h e = sym (rw (add-one i, take-suc w i 0 h, code_snoc 0 (take i w) (get_or w i 0)) (ap (λ n. n * 256 + get_or w i 0) (sym e)))

pub code_wider : (i : ℕ) {c b : ℕ} → c < 256 ^ i → b < 256 → c * 256 + b < 256 ^ (i + 1)
code_wider i h k = rw (add-one i, pow-suc 256 i) (omega arith)

pub code_room : (i : ℕ) {c b : ℕ} → i < 8 → c < 256 ^ i → b < 256 → c * 256 + b < 18446744073709551616
code_room i {c} {b} l h k =
    let n : i ≤ 7 = omega arith in
    let p : 256 ^ i ≤ 256 ^ 7 = pow-le-pow_right (lit< tt) n in
    omega arith

pub code_times : (i : ℕ) {c : ℕ} → i < 8 → c < 256 ^ i → c * 256 < 18446744073709551616
code_times i {c} l h = let r = code_room i {b = 0} l h (lit< tt) in omega arith

-- ---- how large a code is

pub code_grows : (a : ℕ) (w : Bytes) → a ≤ code_from a w
unfolding code_from
code_grows a [] = omega arith
code_grows a (x ∷ w) = let h = code_grows (a * 256 + x) w in omega arith

code_under : (a k : ℕ) (w : Bytes) → Octets w → a < 256 ^ k → code_from a w < 256 ^ (k + length w)
unfolding code_from
code_under a k [] p h = let e : k + 0 ≡ k = omega arith in rw e h
code_under a k (x ∷ w) p h =
    let e : k + suc (length w) ≡ k + 1 + length w = omega arith in
    rw e (code_under (a * 256 + x) (k + 1) w (all_tail p) (code_wider k h (all_head p)))

-- ---- keywords

word_octets : (w : Bytes) → T (keyword? w) → Octets w
unfolding keyword? octet
word_octets [] t = absurd t
word_octets (b ∷ w) t = all_weaken (λ x u. ltb→lt x 256 u) (every_all octet (b ∷ w) (search parts))

word_first : (b : ℕ) (w : Bytes) → T (keyword? (b ∷ w)) → 0 < b
unfolding keyword?
word_first b w t = let n = eqb-false b 0 (T_false (eqb b 0) (search parts)) in omega arith

pub word_length : (w : Bytes) → T (keyword? w) → length w ≤ 8
unfolding keyword? short
word_length [] t = absurd t
word_length (b ∷ w) t = leb→le (length (b ∷ w)) 8 (search parts)

pub keyword_made : (b : ℕ) (w : Bytes) → 0 < b → suc (length w) ≤ 8 → Octets (b ∷ w) → T (keyword? (b ∷ w))
unfolding keyword? octet short
keyword_made b w z l o =
    and_both (not (eqb b 0) && leb (length (b ∷ w)) 8) _ (and_both (not (eqb b 0)) _ (rw (ne_eqb b 0 (λ e. omega arith)) tt) (le→leb (length (b ∷ w)) 8 l))
    (all_every octet (all_weaken (λ x h. lt→ltb x 256 h) o))

-- the code of a keyword is not 0
pub word_above : (w : Bytes) → T (keyword? w) → 0 < code_of w
unfolding keyword? code_of code_from
word_above [] t = absurd t
word_above (b ∷ w) t =
    let h = word_first b w t in
    let g = code_grows (0 * 256 + b) w in
    omega arith

-- ---- names

alnum_octet : (b : ℕ) → T (alnum b) → b < 256
unfolding alnum letter digit
alnum_octet b t =
    or_cases (letter b) (digit b) t (λ u. let h = leb→le b 122 (and_r (leb 97 b) (leb b 122) u) in omega arith)
    (λ u. let h = leb→le b 57 (and_r (leb 48 b) (leb b 57) u) in omega arith)

pub name_octets : (w : Bytes) → T (name? w) → Octets w
name_octets w t = all_weaken alnum_octet (every_all alnum w (name_every w t))

letter_above : (b : ℕ) → T (letter b) → 0 < b
unfolding letter
letter_above b t = let h = leb→le 97 b (search parts) in omega arith

short_length : (w : Bytes) → T (short w) → length w ≤ 8
unfolding short
short_length w t = leb→le (length w) 8 t

pub name_keyword : (w : Bytes) → T (name? w) → T (short w) → T (keyword? w)
unfolding name?
name_keyword [] t s = absurd t
name_keyword (b ∷ w) t s = keyword_made b w (letter_above b (search parts)) (short_length (b ∷ w) s) (name_octets (b ∷ w) t)

pub code_above : (w : Bytes) → T (name? w) → 0 < code_of w
unfolding name? code_of code_from
code_above [] t = absurd t
code_above (b ∷ w) t =
    let h = letter_above b (search parts) in
    let g = code_grows (0 * 256 + b) w in
    omega arith

pub code_below : (w : Bytes) → T (name? w) → T (short w) → code_of w < 18446744073709551616
unfolding code_of
code_below w t s =
    let h = code_under 0 0 w (name_octets w t) (omega arith) in
    let k = short_length w s in
    let l : 0 + length w ≤ 8 = omega arith in
    let p : 256 ^ (0 + length w) ≤ 256 ^ 8 = pow-le-pow_right (lit< tt) l in
    omega arith

-- one step of taking a number apart
bytes_none : (k : ℕ) (bs : Bytes) → bytes_from k 0 bs ≡ bs
unfolding bytes_from
bytes_none zero bs = refl
bytes_none (suc k) bs = refl

bytes_step : (k n : ℕ) (bs : Bytes) → 0 < n → bytes_from (suc k) n bs ≡ bytes_from k (n / 256) ((n % 256) ∷ bs)
unfolding bytes_from
bytes_step k n bs h = rw (ne_eqb n 0 (λ e. omega arith), bytes_from)

bytes_word : (k a : ℕ) (w bs : Bytes) → Octets w → 0 < a → bytes_from (k + length w) (code_from a w) bs ≡ bytes_from k a (w ++ bs)
unfolding code_from
bytes_word k a [] bs p h = let e : k + 0 ≡ k = omega arith in rw e
bytes_word k a (x ∷ w) bs p h =
    let e : k + suc (length w) ≡ suc k + length w = omega arith in
    let i = all_head p in
    let q : (a * 256 + x) / 256 ≡ a = omega arith in
    let r : (a * 256 + x) % 256 ≡ x = omega arith in
    rw e (bytes_word (suc k) (a * 256 + x) w bs (all_tail p) (omega arith)) ∙ bytes_step k (a * 256 + x) (w ++ bs) (omega arith) ∙ ap₂ (λ m y. bytes_from k m (y ∷ (w ++ bs))) q r

-- a keyword is the bytes of its code
pub word_back : (w : Bytes) → T (keyword? w) → name_of (code_of w) ≡ w
unfolding keyword? name_of code_of code_from
word_back [] t = absurd t
word_back (b ∷ w) t =
    let o = word_octets (b ∷ w) t in
    let i : b < 256 = all_head o in
    let z = word_first b w t in
    let l : suc (length w) ≤ 8 = word_length (b ∷ w) t in
    let k : 8 ≡ suc (7 - length w) + length w = omega arith in
    let q : (0 * 256 + b) / 256 ≡ 0 = omega arith in
    let r : (0 * 256 + b) % 256 ≡ b = omega arith in
    ap (λ m. bytes_from m (code_from (0 * 256 + b) w) []) k
    ∙ bytes_word (suc (7 - length w)) (0 * 256 + b) w [] (all_tail o) (omega arith)
    ∙ bytes_step (7 - length w) (0 * 256 + b) (w ++ []) (omega arith)
    ∙ ap₂ (λ m y. bytes_from (7 - length w) m (y ∷ (w ++ []))) q r
    ∙ bytes_none (7 - length w) (b ∷ (w ++ []))
    ∙ ap (λ v. b ∷ v) (append_nil w)

pub name_back : (w : Bytes) → T (name? w) → T (short w) → name_of (code_of w) ≡ w
name_back w t s = word_back w (name_keyword w t s)

code_bytes : (k n : ℕ) (bs : Bytes) → n < 256 ^ k → code_from 0 (bytes_from k n bs) ≡ code_from n bs
unfolding bytes_from code_from
code_bytes zero n bs h = let e : 0 ≡ n = omega arith in ap (λ m. code_from m bs) e
code_bytes (suc k) n bs h =
    let p = pow-suc 256 k in
    let l : n / 256 < 256 ^ k = omega arith in
    go (eqb n 0) refl (code_bytes k (n / 256) ((n % 256) ∷ bs) l)
  where
    go : (b : Bool) → eqb n 0 ≡ b → code_from 0 (bytes_from k (n / 256) ((n % 256) ∷ bs)) ≡ code_from (n / 256) ((n % 256) ∷ bs) → code_from 0 (bytes_from (suc k) n bs) ≡ code_from n bs
    go true e i = let z : n ≡ 0 = eqb-true n 0 e in rw z
    go false e i =
        let z = eqb-false n 0 e in
        let q : n / 256 * 256 + n % 256 ≡ n = omega arith in
        ap (λ l. code_from 0 l) (bytes_step k n bs (omega arith)) ∙ i ∙ ap (λ m. code_from m bs) q

pub code_back : (n : ℕ) → n < 18446744073709551616 → code_of (name_of n) ≡ n
unfolding code_of name_of code_from
code_back n h = code_bytes 8 n [] h

-- and the bytes of a code are a keyword
bytes_keyword : (k n : ℕ) (bs : Bytes) → 0 < n → n < 256 ^ k → k + length bs ≤ 8 → Octets bs → T (keyword? (bytes_from k n bs))
bytes_keyword zero n bs p h l o = absurd (omega arith)
bytes_keyword (suc k) n bs p h l o =
    let q = pow-suc 256 k in
    let m : n / 256 < 256 ^ k = omega arith in
    let j : n % 256 < 256 = omega arith in
    subst (λ w. T (keyword? w)) (sym (bytes_step k n bs p)) (go (eqb (n / 256) 0) refl (λ i. bytes_keyword k (n / 256) ((n % 256) ∷ bs) i m (omega arith) (all_cons j o)))
  where
    go : (b : Bool) → eqb (n / 256) 0 ≡ b → (0 < n / 256 → T (keyword? (bytes_from k (n / 256) ((n % 256) ∷ bs)))) → T (keyword? (bytes_from k (n / 256) ((n % 256) ∷ bs)))
    go true e i =
        let z = eqb-true (n / 256) 0 e in
        let j : n % 256 < 256 = omega arith in
        rw (z, bytes_none k ((n % 256) ∷ bs)) (keyword_made (n % 256) bs (omega arith) (omega arith) (all_cons j o))
    go false e i = let z = eqb-false (n / 256) 0 e in i (omega arith)

pub code_keyword : (n : ℕ) → 0 < n → n < 18446744073709551616 → T (keyword? (name_of n))
unfolding name_of
code_keyword n p h = bytes_keyword 8 n [] p h (omega arith) all_nil

-- keywords are the same where their codes are
pub words_same : (w v : Bytes) → T (keyword? w) → T (keyword? v) → same_list w v ≡ eqb (code_of w) (code_of v)
words_same w v kw kv = go (eqb (code_of w) (code_of v)) refl
  where
    go : (b : Bool) → eqb (code_of w) (code_of v) ≡ b → same_list w v ≡ b
    go true e = rw (sym (word_back w kw) ∙ ap name_of (eqb-true (code_of w) (code_of v) e) ∙ word_back v kv) (T_true (same_list v v) (same_list_refl v))
    go false e = T_never (same_list w v) (λ t. eqb-false (code_of w) (code_of v) e (ap code_of (same_list→eq w v t)))

pub names_same : (w v : Bytes) → T (name? w) → T (short w) → T (name? v) → T (short v) → same_list w v ≡ eqb (code_of w) (code_of v)
names_same w v nw sw nv sv = words_same w v (name_keyword w nw sw) (name_keyword v nv sv)
