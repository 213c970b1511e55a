-- Conditions over comparisons of any type.
use Rattle.std.specs.Prelude.{List, [], ◌∷◌, ◌++◌, Bool, ◌&&◌, ◌||◌, not}
use Rattle.syntax.specs.Grammar.{Cond, test, all, any, neg, Conds, last, more}

module _ {A : Type 0} where
  -- the comparisons of a condition, left to right
  unfoldable mutual
    pub tests : Cond A → List A
    tests (test a) = a ∷ []
    tests (all cs) = tests_of cs
    tests (any cs) = tests_of cs
    tests (neg c) = tests c

    pub tests_of : Conds A → List A
    tests_of (last c) = tests c
    tests_of (more c cs) = tests c ++ tests_of cs

  -- a condition holds, where it is known which comparisons do
  unfoldable mutual
    pub true_of : (A → Bool) → Cond A → Bool
    true_of p (test a) = p a
    true_of p (all cs) = all_true p cs
    true_of p (any cs) = any_true p cs
    true_of p (neg c) = not (true_of p c)

    pub all_true : (A → Bool) → Conds A → Bool
    all_true p (last c) = true_of p c
    all_true p (more c cs) = true_of p c && all_true p cs

    pub any_true : (A → Bool) → Conds A → Bool
    any_true p (last c) = true_of p c
    any_true p (more c cs) = true_of p c || any_true p cs

  -- one condition and those of a list
  unfoldable pub conds_of : Cond A → List (Cond A) → Conds A
  conds_of c [] = last c
  conds_of c (d ∷ ds) = more c (conds_of d ds)

-- each comparison replaced by another
unfoldable mutual
  pub map_cond : {A B : Type 0} → (A → B) → Cond A → Cond B
  map_cond f (test a) = test (f a)
  map_cond f (all cs) = all (map_conds f cs)
  map_cond f (any cs) = any (map_conds f cs)
  map_cond f (neg c) = neg (map_cond f c)

  pub map_conds : {A B : Type 0} → (A → B) → Conds A → Conds B
  map_conds f (last c) = last (map_cond f c)
  map_conds f (more c cs) = more (map_cond f c) (map_conds f cs)

-- To unfold this is to unfold every definition above.
unfoldable pub conditions_compute : Unit {0}
unfolding tests true_of conds_of map_cond
conditions_compute = tt
