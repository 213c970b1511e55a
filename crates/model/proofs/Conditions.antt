-- Conditions whose comparisons are replaced.
use mathlib.Core.Path.{◌≡◌, refl, sym, ap, ap₂, ◌∙◌}
use mathlib.Core.List.{◌++◌, map, map-append}
use mathlib.Core.Bool.{Bool, ◌&&◌, ◌||◌, not}
use Rattle.lists.proofs.Laws.{All, all_head, all_left, all_right}
use Rattle.syntax.specs.Grammar.{Cond, test, all, any, neg, Conds, last, more}
use Rattle.model.specs.Conditions.{tests, tests_of, true_of, all_true, any_true, map_cond, map_conds}

mutual
  unfolding tests map_cond

  pub tests_map : {A B : Type 0} (f : A → B) (c : Cond A) → tests (map_cond f c) ≡ map f (tests c)
  tests_map f (test a) = refl
  tests_map f (all cs) = tests_of_map f cs
  tests_map f (any cs) = tests_of_map f cs
  tests_map f (neg c) = tests_map f c

  tests_of_map : {A B : Type 0} (f : A → B) (cs : Conds A) → tests_of (map_conds f cs) ≡ map f (tests_of cs)
  tests_of_map f (last c) = tests_map f c
  tests_of_map f (more c cs) = ap₂ ◌++◌ (tests_map f c) (tests_of_map f cs) ∙ sym (map-append f (tests c) (tests_of cs))

-- two functions that agree on the comparisons that occur
module _ {A B : Type 0} (f g : A → B) where
  mutual
    unfolding tests map_cond

    pub cond_same : (c : Cond A) → All (λ t. f t ≡ g t) (tests c) → map_cond f c ≡ map_cond g c
    cond_same (test t) h = ap test (all_head h)
    cond_same (all cs) h = ap all (conds_same cs h)
    cond_same (any cs) h = ap any (conds_same cs h)
    cond_same (neg c) h = ap neg (cond_same c h)

    conds_same : (cs : Conds A) → All (λ t. f t ≡ g t) (tests_of cs) → map_conds f cs ≡ map_conds g cs
    conds_same (last c) h = ap last (cond_same c h)
    conds_same (more c cs) h = ap₂ more (cond_same c (all_left (tests c) _ h)) (conds_same cs (all_right (tests c) _ h))

module _ {A B : Type 0} where
  mutual
    unfolding tests map_cond

    -- functions that undo each other on the comparisons that occur
    pub cond_back : (f : A → B) (g : B → A) (c : Cond A) → All (λ t. g (f t) ≡ t) (tests c) → map_cond g (map_cond f c) ≡ c
    cond_back f g (test t) h = ap test (all_head h)
    cond_back f g (all cs) h = ap all (conds_back f g cs h)
    cond_back f g (any cs) h = ap any (conds_back f g cs h)
    cond_back f g (neg c) h = ap neg (cond_back f g c h)

    conds_back : (f : A → B) (g : B → A) (cs : Conds A) → All (λ t. g (f t) ≡ t) (tests_of cs) → map_conds g (map_conds f cs) ≡ cs
    conds_back f g (last c) h = ap last (cond_back f g c h)
    conds_back f g (more c cs) h = ap₂ more (cond_back f g c (all_left (tests c) _ h)) (conds_back f g cs (all_right (tests c) _ h))

-- two tests of comparisons that agree on those that occur
module _ {A : Type 0} (f g : A → Bool) where
  mutual
    unfolding tests true_of

    pub true_same : (c : Cond A) → All (λ t. f t ≡ g t) (tests c) → true_of f c ≡ true_of g c
    true_same (test t) h = all_head h
    true_same (all cs) h = all_same cs h
    true_same (any cs) h = any_same cs h
    true_same (neg c) h = ap not (true_same c h)

    all_same : (cs : Conds A) → All (λ t. f t ≡ g t) (tests_of cs) → all_true f cs ≡ all_true g cs
    all_same (last c) h = true_same c h
    all_same (more c cs) h = ap₂ ◌&&◌ (true_same c (all_left (tests c) _ h)) (all_same cs (all_right (tests c) _ h))

    any_same : (cs : Conds A) → All (λ t. f t ≡ g t) (tests_of cs) → any_true f cs ≡ any_true g cs
    any_same (last c) h = true_same c h
    any_same (more c cs) h = ap₂ ◌||◌ (true_same c (all_left (tests c) _ h)) (any_same cs (all_right (tests c) _ h))

module _ {A B : Type 0} (p : B → Bool) (f : A → B) where
  mutual
    unfolding true_of map_cond

    pub true_map : (c : Cond A) → true_of p (map_cond f c) ≡ true_of (λ t. p (f t)) c
    true_map (test t) = refl
    true_map (all cs) = all_map_true cs
    true_map (any cs) = any_map_true cs
    true_map (neg c) = ap not (true_map c)

    all_map_true : (cs : Conds A) → all_true p (map_conds f cs) ≡ all_true (λ t. p (f t)) cs
    all_map_true (last c) = true_map c
    all_map_true (more c cs) = ap₂ ◌&&◌ (true_map c) (all_map_true cs)

    any_map_true : (cs : Conds A) → any_true p (map_conds f cs) ≡ any_true (λ t. p (f t)) cs
    any_map_true (last c) = true_map c
    any_map_true (more c cs) = ap₂ ◌||◌ (true_map c) (any_map_true cs)
