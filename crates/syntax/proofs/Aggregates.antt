-- The numbers that stand for the aggregates and the rights.
use mathlib.Core.Path.{◌≡◌, refl, sym, ◌∙◌}
use mathlib.Core.Bool.{Bool, true, false, cond}
use Prim.Native.Nat.{ℕ, ◌≤◌}
use native.Mathlib.Omega.{arith}
use borrow.Author.Tests.{eqb-true, eqb-false}
use lib.Dec.{eqb}
use Rattle.syntax.specs.Grammar.{Fn, min, max, count, avg, sum, Right, read, figures, fn_number, numbered_fn, right_number, numbered_right}

pub fn_forth : (f : Fn) → numbered_fn (fn_number f) ≡ f
unfolding numbered_fn fn_number
fn_forth min = refl
fn_forth max = refl
fn_forth count = refl
fn_forth avg = refl
fn_forth sum = refl

pub fn_range : (f : Fn) → (1 ≤ fn_number f) × (fn_number f ≤ 5)
unfolding fn_number
fn_range min = (omega arith, omega arith)
fn_range max = (omega arith, omega arith)
fn_range count = (omega arith, omega arith)
fn_range avg = (omega arith, omega arith)
fn_range sum = (omega arith, omega arith)

-- a number from 1 to 5 stands for the aggregate of that number, any other for `sum`
fn_numbered : (n : ℕ) → fn_number (numbered_fn n) ≡ cond (eqb n 1) 1 (cond (eqb n 2) 2 (cond (eqb n 3) 3 (cond (eqb n 4) 4 5)))
unfolding numbered_fn fn_number
fn_numbered n = go (eqb n 1) (eqb n 2) (eqb n 3) (eqb n 4)
  where
    go : (a b c d : Bool) → fn_number (cond a min (cond b max (cond c count (cond d avg sum)))) ≡ cond a 1 (cond b 2 (cond c 3 (cond d 4 5)))
    go true b c d = refl
    go false true c d = refl
    go false false true d = refl
    go false false false true = refl
    go false false false false = refl

pub fn_back : (n : ℕ) → 1 ≤ n → n ≤ 5 → fn_number (numbered_fn n) ≡ n
fn_back n h k = fn_numbered n ∙ go (eqb n 1) (eqb n 2) (eqb n 3) (eqb n 4) refl refl refl refl
  where
    go : (a b c d : Bool) → eqb n 1 ≡ a → eqb n 2 ≡ b → eqb n 3 ≡ c → eqb n 4 ≡ d → cond a 1 (cond b 2 (cond c 3 (cond d 4 5))) ≡ n
    go true b c d p q r s = sym (eqb-true n 1 p)
    go false true c d p q r s = sym (eqb-true n 2 q)
    go false false true d p q r s = sym (eqb-true n 3 r)
    go false false false true p q r s = sym (eqb-true n 4 s)
    go false false false false p q r s = let w = eqb-false n 1 p in let x = eqb-false n 2 q in let y = eqb-false n 3 r in let z = eqb-false n 4 s in omega arith

pub fn_none : fn_number (numbered_fn 0) ≡ 5
fn_none = fn_numbered 0

pub fn_past : (n : ℕ) → 5 ≤ n → fn_number (numbered_fn n) ≡ 5
fn_past n h = fn_numbered n ∙ go (eqb n 1) (eqb n 2) (eqb n 3) (eqb n 4) refl refl refl refl
  where
    go : (a b c d : Bool) → eqb n 1 ≡ a → eqb n 2 ≡ b → eqb n 3 ≡ c → eqb n 4 ≡ d → ◌≡◌ {A = ℕ} (cond a 1 (cond b 2 (cond c 3 (cond d 4 5)))) 5
    go true b c d p q r s = let w = eqb-true n 1 p in omega arith
    go false true c d p q r s = let w = eqb-true n 2 q in omega arith
    go false false true d p q r s = let w = eqb-true n 3 r in omega arith
    go false false false true p q r s = let w = eqb-true n 4 s in omega arith
    go false false false false p q r s = refl

pub right_back : (r : Right) → numbered_right (right_number r) ≡ r
unfolding numbered_right right_number numbered_fn fn_number
right_back read = refl
right_back (figures min) = refl
right_back (figures max) = refl
right_back (figures count) = refl
right_back (figures avg) = refl
right_back (figures sum) = refl
