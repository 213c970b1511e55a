-- What comparisons name, over two lists of them, and the codes of their terms.
use mathlib.Core.Path.{◌≡◌, refl, sym, ap, ◌∙◌}
use mathlib.Core.List.{List, [], ◌∷◌, ◌++◌, map, map-append}
use mathlib.Core.Bool.{Bool, true, false, ◌||◌}
use Prim.Native.Nat.{ℕ, ◌^◌, ◌<◌}
use native.Mathlib.Omega.{arith}
use lib.Bits.{bit_or, or_zero_l, or_zero_r}
use borrow.Author.Tests.{lt-ltb}
use Rattle.lists.specs.Lists.{some?}
use Rattle.syntax.specs.Grammar as G
use Rattle.syntax.specs.Grammar.{Operand, Test}
use Rattle.masks.specs.Masks.{with_bit, mask_of}
use Rattle.masks.proofs.Lists.{mask_append}
use Rattle.terms.specs.Terms.{operand_code, left_code, right_code, test_over}
use Rattle.terms.proofs.Resolving.{code_range}
use Rattle.conditions.specs.Seeing.{test_unknown, seen_of}
use Rattle.conditions.specs.Steps.{both_seen}

-- ---- tests and masks of two lists

or_thrice : (a b c : Bool) → ((a || b) || c) ≡ (a || (b || c))
or_thrice true b c = refl
or_thrice false b c = refl

some_append : {A : Type 0} (p : A → Bool) (xs ys : List A) → (some? p xs || some? p ys) ≡ some? p (xs ++ ys)
unfolding some?
some_append p [] ys = refl
some_append p (x ∷ xs) ys = or_thrice (p x) (some? p xs) (some? p ys) ∙ ap (λ b. p x || b) (some_append p xs ys)

masks_append : {A : Type 0} (f : A → ℕ) (xs ys : List A) → bit_or (mask_of (map f xs)) (mask_of (map f ys)) ≡ mask_of (map f (xs ++ ys))
masks_append f xs ys = sym (mask_append (map f xs) (map f ys)) ∙ ap mask_of (sym (map-append f xs ys))

pub seen_both : (ks : List ℕ) (xs ys : List Test) (m k n l : ℕ) → both_seen (seen_of ks xs m k) (seen_of ks ys n l) ≡ seen_of ks (xs ++ ys) n l
unfolding both_seen seen_of
seen_both ks xs ys m k n l = rw (some_append test_over xs ys, some_append (test_unknown ks) xs ys, masks_append (left_code ks) xs ys, masks_append (right_code ks) xs ys)

-- ---- codes are below 32

pub left_small : (ks : List ℕ) (t : Test) → left_code ks t < 32
unfolding left_code
left_small ks t = let h = (code_range ks t.left).0 in omega arith

operand_small : (ks : List ℕ) (o : Operand) → operand_code ks o < 32
unfolding operand_code
operand_small ks (G.ref r) = let h = (code_range ks r).0 in omega arith
operand_small ks (G.number z) = omega arith

pub right_small : (ks : List ℕ) (t : Test) → right_code ks t < 32
unfolding right_code
right_small ks t = operand_small ks t.right

-- the mask of one code
pub mask_one : (i : ℕ) → i < 32 → with_bit 0 i ≡ mask_of (i ∷ [])
unfolding with_bit mask_of
mask_one i h = rw (lt-ltb i 32 h) (or_zero_l (2 ^ i) ∙ sym (or_zero_r (2 ^ i)))
