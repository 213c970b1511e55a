-- How long the texts of outcomes are at most.
use mathlib.Core.Path.{◌≡◌, refl, ap}
use mathlib.Core.List.{[], ◌∷◌}
use mathlib.Core.Bool.{Bool, true, false}
use Prim.Native.Nat.{ℕ, zero, suc, ◌+◌, ◌*◌, ◌/◌, ◌%◌, ◌≤◌, ◌<◌, min}
use native.Mathlib.Omega.{arith}
use lib.IntN.{ℤ, pos, negsuc}
use lib.Dec.{ltb}
use lib.ListN.{length, length-append}
use mir.Syntax.{w64}
use mir.Val.{SFits}
use borrow.Author.Tests.{ltb-true, ltb-false}
use Rattle.syntax.specs.Grammar.{Bytes, put_nat, put_int}
use Rattle.calls.specs.Scripts.{refusal, text}
use Rattle.print.specs.Writing.{furthest, next, after, Put}
use Rattle.print.proofs.Numbers.{nat_one, nat_more}
use Rattle.report.specs.declared.Due.{Due}
use Rattle.report.specs.declared.Due.TheVariants.{Routes, Grant, Partner, Width, Rows, Cell}
use Rattle.report.specs.Outcomes.{front_of, end_of, put_cell, put_refusal, put_text, put_outcome, outcome_text}

abbrev tens : ℕ → ℕ
tens zero = 10
tens (suc k) = 10 * tens k

nat_short : (k n : ℕ) (r : Bytes) → n < tens k → length (put_nat n r) ≤ suc k + length r
nat_short zero n r h = let e = ap length (nat_one n r h) in omega arith
nat_short (suc k) n r h = go (ltb n 10) refl (λ l. nat_short k (n / 10) ((48 + n % 10) ∷ r) (omega arith))
  where
    go : (b : Bool) → ltb n 10 ≡ b → (10 ≤ n → length (put_nat (n / 10) ((48 + n % 10) ∷ r)) ≤ suc k + suc (length r)) → length (put_nat n r) ≤ suc (suc k) + length r
    go true e i = let f = ap length (nat_one n r (ltb-true n 10 e)) in omega arith
    go false e i = let l : 10 ≤ n = ltb-false n 10 e in let f = ap length (nat_more n r l) in let j = i l in omega arith

-- a number of 64 bits
int_short : (z : ℤ) (r : Bytes) → SFits w64 z → length (put_int z r) ≤ 20 + length r
unfolding put_int
int_short (pos n) r fits = let h : n < 9223372036854775808 = fits.sfits in let i = nat_short 18 n r (omega arith) in omega arith
int_short (negsuc n) r fits = let h : n < 9223372036854775808 = fits.sfits in let i = nat_short 18 (suc n) r (omega arith) in omega arith

front_short : (d : Due) → length (front_of d) ≤ 7
unfolding front_of
front_short Routes = omega arith
front_short Grant = omega arith
front_short Partner = omega arith
front_short Width = omega arith
front_short (Rows w) = omega arith
front_short (Cell k w n) = omega arith

-- a cell with the word before it and the byte after it
cell_short : (d : Due) (z : ℤ) → SFits w64 z → length (put_cell d z []) ≤ 28
unfolding put_cell
cell_short d z fits =
    let a = length-append (front_of d) (put_int z (end_of d ∷ [])) in
    let b = front_short d in
    let c = int_short z (end_of d ∷ []) fits in
    omega arith

after_near : (p : ℕ) (t : Bytes) → after p t ≤ p + length t
unfolding after next
after_near p [] = omega arith
after_near p (b ∷ bs) = let i = after_near (min (suc p) furthest) bs in omega arith

-- the place after one cell more
pub cells_near : (d : Due) (z : ℤ) (i : ℕ) {m m' : Bytes} {p q : ℕ} → Put (put_cell d z) m p m' q → SFits w64 z → p ≤ 28 * i → q ≤ 28 * (i + 1)
unfolding after
cells_near d z i {p = p} {q = q} x fits k =
    let a : after p (put_cell d z []) ≡ q = x.place [] in
    let b = after_near p (put_cell d z []) in
    let c = cell_short d z fits in
    omega arith

-- the texts of a refusal and of a line
pub refusal_short : (n : ℕ) → n < 4294967296 → length (outcome_text (refusal n)) ≤ 20
unfolding outcome_text put_outcome put_refusal
refusal_short n h = let a = nat_short 9 n (10 ∷ []) (omega arith) in omega arith

pub text_short : (bs : Bytes) → length (outcome_text (text bs)) ≡ length bs + 1
unfolding outcome_text put_outcome put_text
text_short bs = length-append bs (10 ∷ [])
