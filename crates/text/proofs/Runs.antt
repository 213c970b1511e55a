-- Runs of bytes, and the classes of bytes as the code tests them.
use mathlib.Core.Path.{◌≡◌, refl, sym, ap, ◌∙◌}
use mathlib.Core.List.{[], ◌∷◌}
use mathlib.Core.Bool.{Bool, true, false, not, cond}
use Prim.Native.Nat.{ℕ, ◌+◌, ◌-◌, ◌≤◌, ◌<◌, max}
use native.Mathlib.Omega.{arith}
use native.Mathlib.Numerals.{add-one}
use native.Mathlib.Nat.{add-zero}
use lib.Dec.{leb, ltb}
use lib.ListN.{length, take, drop, get_or, length-append, length-drop, drop_of_length-le, get_or-eq_default}
use lib.Seq.{drop-cons, drop-drop, take-append_seam, drop-append_seam, get_or-drop}
use borrow.Author.Tests.{lt-leb, le-leb, ne_eqb, ltb-true, ltb-false, leb-true, leb-false, not-true, not-false}
use Rattle.syntax.specs.Grammar.{Bytes, digit, letter, alnum}
use Rattle.syntax.specs.Readers.{run, past, plain}
use Rattle.syntax.proofs.Steps.{run_past}
use Rattle.text.specs.declared.Class.{Class}
use Rattle.text.specs.declared.Class.TheVariants.{Alnum, Digit, Plain}
use Rattle.text.specs.Words.{class_of, run_end}

-- ---- classes

pub digit_below : (b : ℕ) → b < 48 → false ≡ digit b
unfolding digit
digit_below b h = rw (lt-leb 48 b h)

pub digit_from : (b : ℕ) → 48 ≤ b → leb b 57 ≡ digit b
unfolding digit
digit_from b h = rw (le-leb 48 b h)

pub letter_below : (b : ℕ) → b < 97 → false ≡ letter b
unfolding letter
letter_below b h = rw (lt-leb 97 b h)

pub letter_from : (b : ℕ) → 97 ≤ b → leb b 122 ≡ letter b
unfolding letter
letter_from b h = rw (le-leb 97 b h)

pub alnum_letter : (b : ℕ) {x : Bool} → x ≡ letter b → x ≡ true → true ≡ alnum b
unfolding alnum
alnum_letter b e h = rw (sym e ∙ h)

pub alnum_digit : (b : ℕ) {x y : Bool} → x ≡ letter b → x ≡ false → y ≡ digit b → y ≡ alnum b
unfolding alnum
alnum_digit b e h d = rw (sym e ∙ h) d

pub plain_space : (b : ℕ) → b ≡ 32 → false ≡ plain b
unfolding plain
plain_space b e = rw e

pub plain_open : (b : ℕ) → b ≡ 40 → false ≡ plain b
unfolding plain
plain_open b e = rw e

pub plain_close : (b : ℕ) → b ≡ 41 → false ≡ plain b
unfolding plain
plain_close b e = rw e

pub plain_other : (b : ℕ) → (b ≡ 32 → ⊥) → (b ≡ 40 → ⊥) → (b ≡ 41 → ⊥) → true ≡ plain b
unfolding plain
plain_other b x y z = rw (ne_eqb b 32 x, ne_eqb b 40 y, ne_eqb b 41 z)

pub class_alnum : (c : Class) (b : ℕ) {x : Bool} → x ≡ alnum b → c ≡ Alnum → x ≡ class_of c b
unfolding class_of
class_alnum c b e h = rw h e

pub class_digit : (c : Class) (b : ℕ) {x : Bool} → x ≡ digit b → c ≡ Digit → x ≡ class_of c b
unfolding class_of
class_digit c b e h = rw h e

pub class_plain : (c : Class) (b : ℕ) {x : Bool} → x ≡ plain b → c ≡ Plain → x ≡ class_of c b
unfolding class_of
class_plain c b e h = rw h e

pub ruleset classes = (digit_below, digit_from, letter_below, letter_from, alnum_letter, alnum_digit, plain_space, plain_open, plain_close, plain_other, class_alnum, class_digit, class_plain)

-- ---- where a run ends

module _ (c : Class) (s : Bytes) where
  pub run_over : (i : ℕ) → length s ≤ i → run_end c s i ≡ i
  unfolding run_end run
  run_over i h = rw (drop_of_length-le s h) (add-zero i)

  pub run_stops : (i : ℕ) → class_of c (get_or s i 0) ≡ false → run_end c s i ≡ i
  unfolding run_end run
  run_stops i e = go (ltb i (length s)) refl
    where
      go : (b : Bool) → ltb i (length s) ≡ b → i + length (run (class_of c) (drop i s)) ≡ i
      go true l = rw (drop-cons s i 0 (ltb-true i (length s) l), e) (add-zero i)
      go false l = rw (drop_of_length-le s (ltb-false i (length s) l)) (add-zero i)

  pub run_goes : (i : ℕ) → i < length s → class_of c (get_or s i 0) ≡ true → run_end c s i ≡ run_end c s (i + 1)
  unfolding run_end run
  run_goes i h e = rw (drop-cons s i 0 h, e, add-one i) (omega arith)

  module _ (at i : ℕ) (inv : run_end c s at ≡ run_end c s i) where
    pub end_over : {r : ℕ} → r ≡ max at (length s) → length s ≤ i → (at ≤ length s → i ≤ length s) → r ≡ run_end c s at
    end_over {r} e h k = go (leb at (length s)) refl
      where
        go : (b : Bool) → leb at (length s) ≡ b → r ≡ run_end c s at
        go true l = let w = k (leb-true at (length s) l) in let q : r ≡ i = omega (arith, leb-true at (length s) l) in q ∙ sym (inv ∙ run_over i h)
        go false l = let w = leb-false at (length s) l in let q : r ≡ at = omega arith in q ∙ sym (run_over at (omega arith))

    pub end_stops : {x : Bool} → x ≡ class_of c (get_or s i 0) → not x ≡ true → i ≡ run_end c s at
    end_stops {x} e h = sym (inv ∙ run_stops i (sym e ∙ not-true x h))

    pub end_goes : {x : Bool} → i < length s → x ≡ class_of c (get_or s i 0) → not x ≡ false → run_end c s at ≡ run_end c s (i + 1)
    end_goes {x} l e h = inv ∙ run_goes i l (sym e ∙ not-false x h)

pub ruleset run_ends = (end_over, end_stops, end_goes)

-- ---- the run itself

pub run_take : (p : ℕ → Bool) (bs : Bytes) → take (length (run p bs)) bs ≡ run p bs
run_take p bs = ap (take (length (run p bs))) (sym (run_past p bs)) ∙ take-append_seam (run p bs) (past p bs)

pub run_head : (p : ℕ → Bool) (bs : Bytes) {d : ℕ} {ds : Bytes} → run p bs ≡ d ∷ ds → d ≡ get_or bs 0 0
unfolding run
run_head p [] e = let z : ◌≡◌ {A = ℕ} 0 1 = cc in absurd (omega arith)
run_head p (b ∷ bs) e = go (p b) e
  where
    go : {d : ℕ} {ds : Bytes} (x : Bool) → cond x (b ∷ run p bs) [] ≡ d ∷ ds → d ≡ b
    go true e = cc
    go false e = let z : ◌≡◌ {A = ℕ} 0 1 = cc in absurd (omega arith)

pub first_byte : (s : Bytes) (at : ℕ) → get_or (drop at s) 0 0 ≡ get_or s at 0
first_byte s at = get_or-drop at s 0 0 ∙ ap (λ n. get_or s n 0) (add-zero at)

-- a byte that is not 0 stands in the text
pub inside : (s : Bytes) (i : ℕ) → 0 < get_or s i 0 → i < length s
inside s i h = go (ltb i (length s)) refl
  where
    go : (b : Bool) → ltb i (length s) ≡ b → i < length s
    go true e = ltb-true i (length s) e
    go false e = let z = get_or-eq_default s 0 (ltb-false i (length s) e) in absurd (omega arith)

module _ (c : Class) (s : Bytes) (at : ℕ) {e : ℕ} (q : e ≡ run_end c s at) where
  pub run_from : at ≤ e
  unfolding run_end
  run_from = omega arith

  pub run_length : e - at ≡ length (run (class_of c) (drop at s))
  unfolding run_end
  run_length = omega arith

  pub run_word : take (e - at) (drop at s) ≡ run (class_of c) (drop at s)
  run_word = rw run_length (run_take (class_of c) (drop at s))

  pub run_place : at ≤ length s → length s - length (past (class_of c) (drop at s)) ≡ e
  unfolding run_end
  run_place h =
      let l = ap length (run_past (class_of c) (drop at s)) in
      omega (arith, length-append (run (class_of c) (drop at s)) (past (class_of c) (drop at s)), length-drop at s)

  pub run_within : at ≤ length s → e ≤ length s
  unfolding run_end
  run_within h =
      let l = ap length (run_past (class_of c) (drop at s)) in
      omega (arith, length-append (run (class_of c) (drop at s)) (past (class_of c) (drop at s)), length-drop at s)

  pub run_room : at ≤ length s → at + (e - at) ≤ length s
  run_room h = let k = run_within h in let l = run_from in omega arith

-- what follows a run of bytes
pub run_left : (c : Class) (s : Bytes) (at : ℕ) {e : ℕ} → e ≡ run_end c s at → drop e s ≡ past (class_of c) (drop at s)
unfolding run_end
run_left c s at q =
    rw q (sym (drop-drop (length (run (class_of c) (drop at s))) at s)
    ∙ ap (drop (length (run (class_of c) (drop at s)))) (sym (run_past (class_of c) (drop at s)))
    ∙ drop-append_seam (run (class_of c) (drop at s)) (past (class_of c) (drop at s)))

-- ---- places

-- what is left from a place on tells the place
pub place_left : (s : Bytes) (p : ℕ) → p ≤ length s → length s - length (drop p s) ≡ p
place_left s p h = omega (arith, length-drop p s)
