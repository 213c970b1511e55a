-- The conditions of a grant's line may stand in a query over the grant's streams.
use mathlib.Core.Path.{◌≡◌, refl, ap, ap₂, ◌∙◌}
use mathlib.Core.List.{List, [], ◌∷◌, ◌++◌, map}
use mathlib.Core.Bool.{Bool, ◌&&◌}
use mathlib.Core.Option.{Option, none, some}
use Prim.Native.Nat.{ℕ}
use lib.Dec.{T}
use Rattle.lists.specs.Lists.{every, gather}
use Rattle.lists.proofs.Laws.{and_both, parts, gather_append, every_append, every_map}
use Rattle.syntax.specs.Grammar.{Op, le, ge, Cond, all, Entry}
use Rattle.model.specs.Conditions.{tests, conds_of}
use Rattle.model.specs.Queries.{Schema, Col, columns_of, Term, column, time, number, self, Compare, Grant, Caller}
use Rattle.model.specs.Grants.{fill_term, fill_compare, fill, limit, limits}
use Rattle.model.specs.Checks.{within, term_cols, cond_cols, pick_left, pick_right, pickable, when_left, when_right, grantable, grant_placed}
use Rattle.model.proofs.Conditions.{tests_map}
use Rattle.model.proofs.Columns.{within_both}

-- ---- lists

module _ {A : Type 0} where
  gather_map : {B C : Type 0} (f : A → List C) (g : B → List C) (h : A → B) → ((x : A) → g (h x) ≡ f x) → (xs : List A) → gather g (map h xs) ≡ gather f xs
  unfolding gather
  gather_map f g h e [] = refl
  gather_map f g h e (x ∷ xs) = ap₂ ◌++◌ (e x) (gather_map f g h e xs)

-- ---- the caller's values put in

module _ (p : List Entry) where
  term_fill : (t : Term) → term_cols (fill_term p t) ≡ term_cols t
  unfolding term_cols fill_term
  term_fill (column c) = refl
  term_fill time = refl
  term_fill (number z) = refl
  term_fill (self n) = refl

  cols_fill : (c : Cond Compare) → cond_cols (fill p c) ≡ cond_cols c
  unfolding cond_cols fill fill_compare
  cols_fill c =
      ap (gather _) (tests_map (fill_compare p) c)
      ∙ gather_map _ (λ t. term_cols t.left ++ term_cols t.right) (fill_compare p) (λ t. ap₂ ◌++◌ (term_fill t.left) (term_fill t.right)) (tests c)

  left_fill : (t : Term) → T (when_left t) → T (pick_left (fill_term p t))
  unfolding when_left pick_left fill_term
  left_fill (column c) h = tt
  left_fill time h = tt
  left_fill (number z) h = h
  left_fill (self n) h = h

  right_fill : (t : Term) → T (when_right t) → T (pick_right (fill_term p t))
  unfolding when_right pick_right fill_term
  right_fill (column c) h = tt
  right_fill time h = h
  right_fill (number z) h = tt
  right_fill (self n) h = tt

  pickable_fill : (c : Cond Compare) → T (grantable c) → T (pickable (fill p c))
  unfolding grantable pickable fill fill_compare
  pickable_fill c h =
      rw (tests_map (fill_compare p) c)
      (every_map _ _ (fill_compare p) (λ t k. and_both (pick_left (fill_term p t.left)) _ (left_fill t.left (search parts)) (right_fill t.right (search parts))) (tests c) h)

-- ---- all its conditions, as one

pickable_all : (c : Cond Compare) (cs : List (Cond Compare)) → T (every pickable (c ∷ cs)) → T (pickable (all (conds_of c cs)))
unfolding pickable conds_of tests every
pickable_all c [] h = search parts
pickable_all c (d ∷ cs) h = every_append _ (tests c) _ (search parts) (pickable_all d cs (search parts))

within_all : (ds : List Col) (c : Cond Compare) (cs : List (Cond Compare)) → T (every (λ c. within (cond_cols c) ds) (c ∷ cs)) → T (within (cond_cols (all (conds_of c cs))) ds)
unfolding cond_cols conds_of tests every
within_all ds c [] h = search parts
within_all ds c (e ∷ cs) h = rw (gather_append _ (tests c) _) (within_both (cond_cols c) (cond_cols (all (conds_of e cs))) ds (search parts) (within_all ds e cs (search parts)))

-- ---- a grant's line

limit_pickable : (o : Op) (n : Option ℕ) → T (every pickable (limit o n))
unfolding every limit pickable tests pick_left pick_right
limit_pickable o none = tt
limit_pickable o (some n) = tt

limit_within : (ds : List Col) (o : Op) (n : Option ℕ) → T (every (λ c. within (cond_cols c) ds) (limit o n))
unfolding every limit within cond_cols tests gather term_cols
limit_within ds o none = tt
limit_within ds o (some n) = tt

module _ (who : Caller) (g : Grant) where
  every_limits : (p : Cond Compare → Bool) → T (every p (map (fill who.profile) g.when)) → ((o : Op) (n : Option ℕ) → T (every p (limit o n))) → T (every p (limits who g))
  unfolding limits
  every_limits p h k = every_append p _ _ h (every_append p _ _ (k ge g.from) (k le g.to))

  module _ (ds : List Col) (h : T (every (λ c. grantable c && within (cond_cols c) ds) g.when)) where
    limits_pickable : T (every pickable (limits who g))
    limits_pickable = every_limits pickable (every_map _ pickable (fill who.profile) (λ c k. pickable_fill who.profile c (search parts)) g.when h) limit_pickable

    limits_within : T (every (λ c. within (cond_cols c) ds) (limits who g))
    limits_within =
        every_limits (λ c. within (cond_cols c) ds)
        (every_map (λ c. grantable c && within (cond_cols c) ds) (λ c. within (cond_cols c) ds) (fill who.profile) (λ c k. rw (cols_fill who.profile c) (search parts)) g.when h)
        (limit_within ds)

-- the conditions of a placed grant's line, as they stand in a query over the grant's streams
pub limits_placed : (d : Schema) (who : Caller) (g : Grant) → T (grant_placed d g) → (c : Cond Compare) (cs : List (Cond Compare)) → limits who g ≡ c ∷ cs
    → T (pickable (all (conds_of c cs))) × T (within (cond_cols (all (conds_of c cs))) (gather (columns_of d) g.of))
unfolding grant_placed
limits_placed d who g h c cs e = (
  pickable_all c cs (rw e at (limits_pickable who g (gather (columns_of d) g.of) (search parts))),
  within_all (gather (columns_of d) g.of) c cs (rw e at (limits_within who g (gather (columns_of d) g.of) (search parts))),
)
