-- How deep conditions nest: a list as deep as its deepest, whatever is compared.
use mathlib.Core.Path.{◌≡◌, refl, ap, ap₂, ◌∙◌}
use mathlib.Core.List.{List, [], ◌∷◌, ◌++◌, map}
use mathlib.Core.Bool.{Bool, true, false, ◌&&◌, and-true}
use Prim.Native.Nat.{ℕ, suc, ◌+◌, ◌≤◌, max}
use native.Mathlib.Decide.{dec_le}
use native.Mathlib.Omega.{arith}
use lib.Dec.{leb}
use borrow.Author.Tests.{le-leb, lt-leb}
use Rattle.lists.specs.Lists.{every}
use Rattle.syntax.specs.Grammar.{Cond, test, all, any, neg, Conds, last, more}
use Rattle.syntax.specs.Limits.{cond_depth, conds_depth}
use Rattle.model.specs.Conditions.{map_cond, map_conds, conds_of}
use Rattle.model.specs.Queries.{Compare}
use Rattle.nodes.specs.Nodes.{max_nesting, shallow_conds}

pub every_snoc : {A : Type 0} (p : A → Bool) (xs : List A) (x : A) → every p (xs ++ (x ∷ [])) ≡ (every p xs && p x)
unfolding every
every_snoc p [] x = and-true (p x)
every_snoc p (y ∷ xs) x = ap (λ b. p y && b) (every_snoc p xs x) ∙ go (p y)
  where
    go : (b : Bool) → (b && (every p xs && p x)) ≡ ((b && every p xs) && p x)
    go true = refl
    go false = refl

-- both numbers are low where the higher is
pub leb_max : (a b n : ℕ) → (leb a n && leb b n) ≡ leb (max a b) n
leb_max a b n = go (dec_le a n) (dec_le b n)
  where
    go : Dec (a ≤ n) → Dec (b ≤ n) → (leb a n && leb b n) ≡ leb (max a b) n
    go (yes p) (yes q) = rw (le-leb a n p, le-leb b n q, le-leb (max a b) n (omega arith))
    go (yes p) (no q) = rw (le-leb a n p, lt-leb b n (omega arith), lt-leb (max a b) n (omega arith))
    go (no p) q = rw (lt-leb a n (omega arith), lt-leb (max a b) n (omega arith))

module _ {A : Type 0} where
  pub depth_some : (c : Cond A) → 1 ≤ cond_depth c
  unfolding cond_depth
  depth_some (test a) = omega arith
  depth_some (all cs) = omega arith
  depth_some (any cs) = omega arith
  depth_some (neg c) = omega arith

  -- the conditions of a list, inside d others
  pub list_depth : (d n : ℕ) (c : Cond A) (cs : List (Cond A)) → every (λ x. leb (d + cond_depth x) n) (c ∷ cs) ≡ leb (d + conds_depth (conds_of c cs)) n
  unfolding every conds_of cond_depth
  list_depth d n c [] = and-true (leb (d + cond_depth c) n)
  list_depth d n c (e ∷ cs) =
      let m : max (d + cond_depth c) (d + conds_depth (conds_of e cs)) ≡ d + max (cond_depth c) (conds_depth (conds_of e cs)) = omega arith in
      ap (λ b. leb (d + cond_depth c) n && b) (list_depth d n e cs) ∙ leb_max (d + cond_depth c) (d + conds_depth (conds_of e cs)) n ∙ ap (λ x. leb x n) m

module _ {A B : Type 0} (f : A → B) where
  mutual
    unfolding cond_depth map_cond

    pub map_depth : (c : Cond A) → cond_depth (map_cond f c) ≡ cond_depth c
    map_depth (test a) = refl
    map_depth (all cs) = ap suc (map_depths cs)
    map_depth (any cs) = ap suc (map_depths cs)
    map_depth (neg c) = ap suc (map_depth c)

    map_depths : (cs : Conds A) → conds_depth (map_conds f cs) ≡ conds_depth cs
    map_depths (last c) = map_depth c
    map_depths (more c cs) = ap₂ max (map_depth c) (map_depths cs)

pub shallow_map : {A : Type 0} (f : A → Compare) (cs : List (Cond A)) → shallow_conds (map (map_cond f) cs) ≡ every (λ c. leb (cond_depth c) max_nesting) cs
unfolding shallow_conds every
shallow_map f [] = refl
shallow_map f (c ∷ cs) = ap₂ (λ d b. leb d max_nesting && b) (map_depth f c) (shallow_map f cs)
