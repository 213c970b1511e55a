-- The first of the grants that an array has places for.
use mathlib.Core.Path.{◌≡◌, refl, sym, ap, ◌∙◌}
use mathlib.Core.Bool.{Bool, true, false}
use mathlib.Core.List.{List, [], ◌∷◌, ◌++◌, map}
use Prim.Native.Nat.{ℕ, zero, suc, ◌+◌, ◌≤◌, ◌<◌, min}
use native.Mathlib.Omega.{arith}
use lib.Dec.{ltb}
use lib.ListN.{length, take, set, length-map, length-take}
use borrow.Author.Tests.{ltb-true, ltb-false}
use Rattle.syntax.specs.Limits.{max_grants}
use Rattle.grant.specs.declared.Grant.{Grant}

pub take_few : (n : ℕ) (gs : List Grant) → length gs ≡ max_grants → n ≤ max_grants → length (take n gs) ≡ n
take_few n gs e h = let f = length-take n gs in omega arith

-- one more, in the next place
take_next : {A : Type 0} (n : ℕ) (xs : List A) (x : A) → n < length xs → take (suc n) (set xs n x) ≡ take n xs ++ (x ∷ [])
take_next n [] x h = absurd (omega arith)
take_next zero (y ∷ xs) x h = refl
take_next (suc n) (y ∷ xs) x h = ap (λ l. y ∷ l) (take_next n xs x (omega arith))

pub take_set : {A : Type 0} (n : ℕ) (xs : List A) (x : A) → n < length xs → take (n + 1) (set xs n x) ≡ take n xs ++ (x ∷ [])
take_set n xs x h = let e : n + 1 ≡ suc n = omega arith in ap (λ k. take k (set xs n x)) e ∙ take_next n xs x h

-- all that an array holds
take_over : {A : Type 0} (n : ℕ) (xs : List A) → length xs ≤ n → take n xs ≡ xs
take_over zero [] h = refl
take_over (suc n) [] h = refl
take_over zero (x ∷ xs) h = absurd (omega arith)
take_over (suc n) (x ∷ xs) h = ap (λ l. x ∷ l) (take_over n xs (omega arith))

pub take_held : (n : ℕ) (gs : List Grant) → length gs ≡ max_grants → take (min n max_grants) gs ≡ take n gs
take_held n gs e = go (ltb n max_grants) refl
  where
    go : (b : Bool) → ltb n max_grants ≡ b → take (min n max_grants) gs ≡ take n gs
    go true t = let h = ltb-true n max_grants t in let f : min n max_grants ≡ n = omega arith in ap (λ k. take k gs) f
    go false t = let h = ltb-false n max_grants t in take_over (min n max_grants) gs (omega arith) ∙ sym (take_over n gs (omega arith))

-- an array of structs as the machine has it: each grant as its fields
pub length_unmapped : {X Y : Type 0} (f : X → Y) (xs : List X) (n : ℕ) → length (map f xs) ≡ n → length xs ≡ n
length_unmapped f xs n e = sym (length-map xs f) ∙ e
