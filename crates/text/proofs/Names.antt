-- The name at a place as the code reads it.
use mathlib.Core.Path.{◌≡◌, refl, sym, ap, ◌∙◌}
use mathlib.Core.List.{[], ◌∷◌}
use mathlib.Core.Bool.{Bool, true, false, ◌||◌, not, cond}
use Prim.Native.Nat.{ℕ, ◌-◌, ◌≤◌, ◌<◌}
use native.Mathlib.Omega.{arith}
use lib.Dec.{leb, leb→le}
use lib.ListN.{length, take, drop, get_or}
use borrow.Author.Tests.{le-leb, lt-leb, not-true, not-false}
use Rattle.lists.specs.Lists.{every}
use Rattle.lists.proofs.Laws.{and_l, T_true}
use Rattle.syntax.specs.Grammar.{Bytes, digit, letter, alnum, name?}
use Rattle.syntax.specs.Readers.{ensure, run, past, read_name}
use Rattle.syntax.proofs.Steps.{run_every}
use Rattle.syntax.specs.Limits.{short}
use Rattle.text.specs.declared.Class.TheVariants.{Alnum}
use Rattle.text.specs.Words.{Some, None, seen, left_at, class_of, run_end, code_of, name_seen, name_found}
use Rattle.text.proofs.Runs.{first_byte, inside, run_from, run_length, run_word, run_place, run_within}

-- a run of letters and digits is a name where it begins with a letter
name_first : (bs : Bytes) → name? (run alnum bs) ≡ letter (get_or bs 0 0)
unfolding run name? letter alnum
name_first [] = refl
name_first (b ∷ bs) = go (letter b) (digit b) refl (T_true (every alnum (run alnum bs)) (run_every alnum bs))
  where
    go : (x y : Bool) → letter b ≡ x → every alnum (run alnum bs) ≡ true → name? (cond (x || y) (b ∷ run alnum bs) []) ≡ x
    go true y e h = rw (e, h)
    go false true e h = rw e
    go false false e h = refl

module _ (s : Bytes) (at : ℕ) {b : ℕ} {l : Bool} (p : b ≡ get_or s at 0) (q : l ≡ letter b) where
  named : name? (run alnum (drop at s)) ≡ l
  named = name_first (drop at s) ∙ ap letter (first_byte s at ∙ sym p) ∙ sym q

  pub name_none : not l ≡ true → None ≡ name_found s at
  unfolding name_found read_name ensure seen
  name_none h = rw (named, not-true l h)

  module _ (h : not l ≡ false) where
    letter_here : letter b ≡ true
    letter_here = sym q ∙ not-false l h

    place : at < length s
    unfolding letter
    place =
        let k = leb→le 97 b (and_l (leb 97 b) (leb b 122) (rw letter_here tt)) in
        inside s at (omega arith)

    module _ {e : ℕ} (w : e ≡ run_end Alnum s at) where
      pub name_from : at ≤ e
      name_from = run_from Alnum s at w

      pub name_within : e ≤ length s
      name_within = let k = place in run_within Alnum s at w (omega arith)

      short_is : short (run alnum (drop at s)) ≡ leb (e - at) 8
      unfolding short class_of
      short_is = rw (run_length Alnum s at w)

      next_is : length s - length (past alnum (drop at s)) ≡ e
      unfolding class_of
      next_is = let k = place in run_place Alnum s at w (omega arith)

      word_is : take (e - at) (drop at s) ≡ run alnum (drop at s)
      unfolding class_of
      word_is = run_word Alnum s at w

      pub name_long : 8 < e - at → Some (record { long = true; code = 0; next = e }) ≡ name_found s at
      unfolding name_found read_name ensure seen name_seen left_at
      name_long n = sym (rw (named, not-false l h, short_is, lt-leb (e - at) 8 n, next_is))

      pub name_short : {c : ℕ} → e - at ≤ 8 → c ≡ code_of (take (e - at) (drop at s)) → Some (record { long = false; code = c; next = e }) ≡ name_found s at
      unfolding name_found read_name ensure seen name_seen left_at
      name_short n f = sym (rw (named, not-false l h, short_is, le-leb (e - at) 8 n, next_is, f, word_is))

pub ruleset name_ends = (name_none, name_from, name_within, name_long, name_short)
