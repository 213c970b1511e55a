-- What `and`, `or` and `not` mean for a row, and what a list of conditions means.
use mathlib.Core.Path.{◌≡◌, refl, sym, ap}
use mathlib.Core.List.{List, [], ◌∷◌}
use mathlib.Core.Bool.{Bool, true, false, ◌&&◌, ◌||◌, not}
use Rattle.lists.specs.Lists.{every, some?}
use Rattle.lists.proofs.Laws.{and_true}
use Rattle.syntax.specs.Grammar.{Cond, test, all, any, neg, Conds, last, more}
use Rattle.model.specs.Conditions.{true_of, all_true, any_true, conds_of}
use Rattle.model.specs.Queries.{Col, Compare, Row}
use Rattle.model.specs.Meaning.{term_value, compares, compare_holds, holds}

-- the conditions of a list, in order
unfoldable pub items : {A : Type 0} → Conds A → List (Cond A)
items (last c) = c ∷ []
items (more c cs) = c ∷ items cs

pub items_of : {A : Type 0} (c : Cond A) (cs : List (Cond A)) → items (conds_of c cs) ≡ c ∷ cs
unfolding items conds_of
items_of c [] = refl
items_of c (d ∷ ds) = ap (λ (es : List (Cond _)). c ∷ es) (items_of d ds)

or_false : (b : Bool) → (b || false) ≡ b
or_false true = refl
or_false false = refl

module _ {A : Type 0} (p : A → Bool) where
  every_item : (cs : Conds A) → all_true p cs ≡ every (true_of p) (items cs)
  unfolding items true_of every
  every_item (last c) = sym (and_true (true_of p c))
  every_item (more c cs) = ap (λ b. true_of p c && b) (every_item cs)

  some_item : (cs : Conds A) → any_true p cs ≡ some? (true_of p) (items cs)
  unfolding items true_of some?
  some_item (last c) = sym (or_false (true_of p c))
  some_item (more c cs) = ap (λ b. true_of p c || b) (some_item cs)

module _ (ds : List Col) (r : Row) where
  -- a comparison compares the values of its two sides
  pub comparison_holds : (t : Compare) → holds ds r (test t) ≡ compares t.op (term_value ds r t.left) (term_value ds r t.right)
  unfolding holds compare_holds true_of
  comparison_holds t = refl

  -- `and`: every item holds
  pub and_holds : (cs : Conds Compare) → holds ds r (all cs) ≡ every (holds ds r) (items cs)
  unfolding holds compare_holds true_of
  and_holds cs = every_item (compare_holds ds r) cs

  -- `or`: some item holds
  pub or_holds : (cs : Conds Compare) → holds ds r (any cs) ≡ some? (holds ds r) (items cs)
  unfolding holds compare_holds true_of
  or_holds cs = some_item (compare_holds ds r) cs

  -- `not`: its item does not hold
  pub not_holds : (c : Cond Compare) → holds ds r (neg c) ≡ not (holds ds r c)
  unfolding holds compare_holds true_of
  not_holds c = refl
