-- A loop that makes a word of bits from its last place down, and four words made one mask.
use mathlib.Core.Path.{◌≡◌, sym, ap, ap₂, ◌∙◌}
use mathlib.Core.Bool.{Bool, true, false}
use Prim.Native.Nat.{ℕ, suc, ◌+◌, ◌*◌, ◌-◌, ◌^◌, ◌<◌, ◌≤◌}
use native.Mathlib.Decide.{dec_lt}
use native.Mathlib.Omega.{arith}
use lib.Pow.{pow-lt}
use mir.Syntax.{w32}
use mir.Val.{Fits}
use Rattle.rows.specs.declared.Rows.{Rows}
use Rattle.rows.specs.Masks.{one, bits, part, rows_of}
use Rattle.rows.proofs.Masks.{bits_lt}

-- ---- the rows of a word

pub part_le : (n d : ℕ) {m : ℕ} → m ≡ part n d → m ≤ 32
part_le n d e = omega arith

pub part_room : (n d from len : ℕ) {m : ℕ} → m ≡ part n d → n ≤ len - from → m ≤ len - (from + d)
part_room n d from len e h = omega arith

pub part_first : (n from len : ℕ) {m : ℕ} → m ≡ part n 0 → n ≤ len - from → m ≤ len - from
part_first n from len e h = omega arith

-- ---- a word, from its last place down

pub word_none : (p : ℕ → Bool) (from n i : ℕ) → i ≡ n → 0 ≡ bits p (from + i) (n - i)
unfolding bits
word_none p from n i e = let z : 0 ≡ n - i = omega arith in ap (bits p (from + i)) z

pub word_more : (p : ℕ → Bool) (from n i : ℕ) {m b : ℕ} → 0 < i → i ≤ n → m ≡ bits p (from + i) (n - i) → b ≡ one (p (from + (i - 1))) → m * 2 + b ≡ bits p (from + (i - 1)) (n - (i - 1))
unfolding bits
word_more p from n i {m} {b} h k e f =
    let z : n - (i - 1) ≡ suc (n - i) = omega arith in
    let y : suc (from + (i - 1)) ≡ from + i = omega arith in
    let x : m ≡ bits p (suc (from + (i - 1))) (n - i) = e ∙ ap (λ (j : ℕ). bits p j (n - i)) (sym y) in
    let w : m * 2 + b ≡ one (p (from + (i - 1))) + 2 * bits p (suc (from + (i - 1))) (n - i) = omega arith in
    w ∙ ap (bits p (from + (i - 1))) (sym z)

word_room : (p : ℕ → Bool) (from n i m : ℕ) → n ≤ 32 → 0 < i → i ≤ n → m ≡ bits p (from + i) (n - i) → m < 2147483648
word_room p from n i m g h k e = let u = bits_lt p (from + i) (n - i) in go (dec_lt (n - i) 31) u
  where
    go : Dec (n - i < 31) → bits p (from + i) (n - i) < 2 ^ (n - i) → m < 2147483648
    go (yes l) u = let v = pow-lt l in omega arith
    go (no l) u = let z : n - i ≡ 31 = omega arith in let v : 2 ^ (n - i) ≡ 2147483648 = ap (λ (x : ℕ). 2 ^ x) z in omega arith

one_le : (b : Bool) → one b ≤ 1
one_le true = omega arith
one_le false = omega arith

pub double_fits : (p : ℕ → Bool) (from n i m : ℕ) → n ≤ 32 → 0 < i → i ≤ n → m ≡ bits p (from + i) (n - i) → Fits w32 (m * 2)
double_fits p from n i m g h k e = let u = word_room p from n i m g h k e in record { fits = omega arith }

pub more_fits : (p : ℕ → Bool) (from n i m : ℕ) {b : ℕ} → n ≤ 32 → 0 < i → i ≤ n → m ≡ bits p (from + i) (n - i) → b ≡ one (p (from + (i - 1))) → Fits w32 (m * 2 + b)
more_fits p from n i m {b} g h k e f = let u = word_room p from n i m g h k e in let v = one_le (p (from + (i - 1))) in record { fits = omega arith }

pub word_end : (p : ℕ → Bool) (from n i : ℕ) {m : ℕ} → i ≤ 0 → m ≡ bits p (from + i) (n - i) → m ≡ bits p from n
word_end p from n i h e = let z : from + i ≡ from = omega arith in let y : n - i ≡ n = omega arith in e ∙ ap₂ (bits p) z y

pub ruleset word_ends = (word_none, word_more, double_fits, more_fits, word_end)

-- ---- four words

pub rows_parts : (p : ℕ → Bool) (from n : ℕ) {i j k l a b c d : ℕ} → i ≡ part n 0 → j ≡ part n 32 → k ≡ part n 64 → l ≡ part n 96
    → a ≡ bits p from i → b ≡ bits p (from + 32) j → c ≡ bits p (from + 64) k → d ≡ bits p (from + 96) l → ◌≡◌ {A = Rows} (record { a = a; b = b; c = c; d = d }) (rows_of p from n)
unfolding rows_of
rows_parts p from n ei ej ek el ea eb ec ed = rw (ea, eb, ec, ed, ei, ej, ek, el)

pub ruleset rows_ends = (rows_parts)

pub rows_from_start : (p : ℕ → Bool) (n : ℕ) {i j k l a b c d : ℕ} → i ≡ part n 0 → j ≡ part n 32 → k ≡ part n 64 → l ≡ part n 96
    → a ≡ bits p 0 i → b ≡ bits p 32 j → c ≡ bits p 64 k → d ≡ bits p 96 l → ◌≡◌ {A = Rows} (record { a = a; b = b; c = c; d = d }) (rows_of p 0 n)
rows_from_start p n ei ej ek el ea eb ec ed = rows_parts p 0 n ei ej ek el ea eb ec ed

pub ruleset start_ends = (rows_from_start)
