-- Laws of columns: which lists have them, and which lists lie within which.
use mathlib.Core.Path.{◌≡◌, refl, ap₂}
use mathlib.Core.List.{List, [], ◌∷◌, ◌++◌}
use mathlib.Core.Bool.{Bool, true, false, ◌&&◌, ◌||◌, not, cond}
use lib.Dec.{T, eqb, eqb→eq, eqb_refl}
use Rattle.lists.specs.Lists.{select, every, some?, empty?}
use Rattle.lists.proofs.Laws.{and_both, or_l, or_r, or_cases, parts}
use Rattle.model.specs.Queries.{Col, col, figure, same_col}
use Rattle.model.specs.Checks.{has, within, linked}
use Rattle.model.specs.Routes.{present}

-- ---- sameness

pub same_col→eq : (c d : Col) → T (same_col c d) → c ≡ d
unfolding same_col
same_col→eq (col s c) (col t d) h = ap₂ col (eqb→eq s t (search parts)) (eqb→eq c d (search parts))
same_col→eq (col s c) figure h = absurd h
same_col→eq figure (col t d) h = absurd h
same_col→eq figure figure h = refl

pub same_col_refl : (c : Col) → T (same_col c c)
unfolding same_col
same_col_refl (col s c) = and_both (eqb s s) (eqb c c) (eqb_refl s) (eqb_refl c)
same_col_refl figure = tt

-- ---- empty lists

module _ {A : Type 0} where
  pub empty_nil : (xs : List A) → T (empty? xs) → xs ≡ []
  unfolding empty?
  empty_nil [] h = refl
  empty_nil (x ∷ xs) h = absurd h

  pub empty_l : (xs ys : List A) → T (empty? (xs ++ ys)) → xs ≡ []
  unfolding empty?
  empty_l [] ys h = refl
  empty_l (x ∷ xs) ys h = absurd h

  pub empty_r : (xs ys : List A) → T (empty? (xs ++ ys)) → ys ≡ []
  unfolding empty?
  empty_r [] ys h = empty_nil ys h
  empty_r (x ∷ xs) ys h = absurd h

-- ---- a list has a column

or_map : (a b c : Bool) → (T b → T c) → T (a || b) → T (a || c)
or_map true b c f t = tt
or_map false b c f t = f t

pub has_some : (cs : List Col) (c : Col) → T (has cs c) → T (not (empty? cs))
unfolding has some? empty?
has_some [] c t = t
has_some (d ∷ cs) c t = tt

pub has_within : (c : Col) (ds cs : List Col) → T (within cs ds) → T (has cs c) → T (has ds c)
unfolding has within some? every
has_within c ds [] w t = absurd t
has_within c ds (d ∷ cs) w t =
    or_cases (same_col c d) (some? (same_col c) cs) t
    (λ u. let w' : T (has ds d) = search parts in rw (← same_col→eq c d u) at w')
    (λ u. has_within c ds cs (search parts) u)

pub has_select : (p : Col → Bool) (c : Col) (cs : List Col) → T (has (select p cs) c) → T (has cs c)
unfolding has some? select
has_select p c [] t = t
has_select p c (d ∷ cs) t = go (p d) t (has_select p c cs)
  where
    go : (b : Bool) → T (some? (same_col c) (cond b (d ∷ select p cs) (select p cs))) → (T (some? (same_col c) (select p cs)) → T (some? (same_col c) cs)) → T (same_col c d || some? (same_col c) cs)
    go true t f = or_map (same_col c d) _ _ f t
    go false t f = or_r (same_col c d) _ (f t)

-- what the second list has of the first
pub has_present : (c : Col) (ds cs : List Col) → T (has cs c) → T (has ds c) → T (has (present ds cs) c)
unfolding has present some? select
has_present c ds [] t u = absurd t
has_present c ds (d ∷ cs) t u = go (same_col c d) (has ds d) refl refl t (λ t'. has_present c ds cs t' u)
  where
    go : (a b : Bool) → same_col c d ≡ a → has ds d ≡ b → T (a || some? (same_col c) cs) → (T (some? (same_col c) cs) → T (has (present ds cs) c))
        → T (some? (same_col c) (cond b (d ∷ select (has ds) cs) (select (has ds) cs)))
    go true true e f t i = rw e tt
    go true false e f t i = absurd (rw (same_col→eq c d (rw e tt), f) at u)
    go false true e f t i = rw e (i t)
    go false false e f t i = i t

has_passes : (ds : List Col) (c : Col) (cs : List Col) → T (has (present ds cs) c) → T (has ds c)
unfolding has some? select present
has_passes ds c [] t = absurd t
has_passes ds c (d ∷ cs) t = go (has ds d) refl t (has_passes ds c cs)
  where
    go : (b : Bool) → has ds d ≡ b → T (some? (same_col c) (cond b (d ∷ select (has ds) cs) (select (has ds) cs))) → (T (some? (same_col c) (select (has ds) cs)) → T (has ds c)) → T (has ds c)
    go true e t f = or_cases (same_col c d) (some? (same_col c) (select (has ds) cs)) t (λ u. rw (same_col→eq c d u, e) tt) f
    go false e t f = f t

pub has_append_l : (c : Col) (xs ys : List Col) → T (has xs c) → T (has (xs ++ ys) c)
unfolding has some?
has_append_l c [] ys t = absurd t
has_append_l c (x ∷ xs) ys t = or_map (same_col c x) _ _ (has_append_l c xs ys) t

pub has_append_r : (c : Col) (xs ys : List Col) → T (has ys c) → T (has (xs ++ ys) c)
unfolding has some?
has_append_r c [] ys t = t
has_append_r c (x ∷ xs) ys t = or_r (same_col c x) _ (has_append_r c xs ys t)

pub has_append : (c : Col) (xs ys : List Col) {X : Type 0} → T (has (xs ++ ys) c) → (T (has xs c) → X) → (T (has ys c) → X) → X
unfolding has some?
has_append c [] ys t f g = g t
has_append c (x ∷ xs) ys t f g =
    or_cases (same_col c x) (some? (same_col c) (xs ++ ys)) t (λ u. f (or_l (same_col c x) _ u)) (λ u. has_append c xs ys u (λ v. f (or_r (same_col c x) _ v)) g)

-- ---- one list lies within another

-- a fact of each column of a list, as a test over the list
pub within_by : (cs ds : List Col) → ((c : Col) → T (has cs c) → T (has ds c)) → T (within cs ds)
unfolding within every has some?
within_by [] ds f = tt
within_by (c ∷ cs) ds f =
    and_both (has ds c) (every (has ds) cs) (f c (or_l (same_col c c) _ (same_col_refl c))) (within_by cs ds (λ d t. f d (or_r (same_col d c) _ t)))

pub within_trans : (xs ys zs : List Col) → T (within xs ys) → T (within ys zs) → T (within xs zs)
within_trans xs ys zs h k = within_by xs zs (λ c t. has_within c zs ys k (has_within c ys xs h t))

pub within_select : (p : Col → Bool) (cs : List Col) → T (within (select p cs) cs)
within_select p cs = within_by (select p cs) cs (λ c t. has_select p c cs t)

pub within_present : (ds cs : List Col) → T (within (present ds cs) ds)
within_present ds cs = within_by (present ds cs) ds (λ c t. has_passes ds c cs t)

pub within_l : (xs ys ds : List Col) → T (within (xs ++ ys) ds) → T (within xs ds)
unfolding within every
within_l [] ys ds t = tt
within_l (x ∷ xs) ys ds t = and_both (has ds x) (every (has ds) xs) (search parts) (within_l xs ys ds (search parts))

pub within_r : (xs ys ds : List Col) → T (within (xs ++ ys) ds) → T (within ys ds)
unfolding within every
within_r [] ys ds t = t
within_r (x ∷ xs) ys ds t = within_r xs ys ds (search parts)

pub within_both : (xs ys ds : List Col) → T (within xs ds) → T (within ys ds) → T (within (xs ++ ys) ds)
within_both xs ys ds h k = within_by (xs ++ ys) ds (λ c t. has_append c xs ys t (has_within c ds xs h) (has_within c ds ys k))

pub linked_in : (a b : Col) (ls rs ls' rs' : List Col) → T (within ls ls') → T (within rs rs') → T (linked a b ls rs) → T (linked a b ls' rs')
unfolding linked
linked_in a b ls rs ls' rs' h k t =
    or_cases (has ls a && has rs b) (has ls b && has rs a) t
    (λ u. or_l (has ls' a && has rs' b) _ (and_both (has ls' a) _ (has_within a ls' ls h (search parts)) (has_within b rs' rs k (search parts))))
    (λ u. or_r (has ls' a && has rs' b) _ (and_both (has ls' b) _ (has_within b ls' ls h (search parts)) (has_within a rs' rs k (search parts))))
