-- Columns that stand only once.
use mathlib.Core.Path.{◌≡◌, refl, ap, sym, ◌∙◌}
use mathlib.Core.List.{List, [], ◌∷◌, ◌++◌, map}
use mathlib.Core.Bool.{Bool, true, false, ◌&&◌, ◌||◌, not, cond}
use Prim.Native.Nat.{ℕ, zero, suc, ◌+◌, ◌≤◌, ◌<◌}
use native.Mathlib.Omega.{arith}
use lib.ListN.{length}
use lib.Dec.{T, eqb, eqb→eq, eqb_refl, not_T, T_not}
use borrow.Author.Tests.{eqb-true, eqb-false, ne_eqb}
use Rattle.lists.specs.Lists.{All, all_nil, all_cons, select, some?, gather, nth, count_from, distinct, every}
use Rattle.lists.proofs.Laws.{all_select, and_both, or_l, or_r, or_cases, parts, some_before, T_false, and_l, and_r}
use Rattle.lists.proofs.Gathers.{select_fewer}
use Rattle.model.specs.Queries.{Schema, no_stream, Col, col, same_col, columns_of}
use Rattle.model.specs.Checks.{has, within}
use Rattle.model.proofs.Columns.{same_col→eq, same_col_refl, has_append, has_append_r}

-- ---- tests that fail

not_by : (a b : Bool) → (T a → T b) → T (not b) → T (not a)
not_by a b f n = not_T a (λ t. T_not b n (f t))

-- ---- parts of a list

module _ {A : Type 0} where
  some_select : (p q : A → Bool) (xs : List A) → T (some? q (select p xs)) → T (some? q xs)
  unfolding some? select
  some_select p q [] t = t
  some_select p q (x ∷ xs) t = go (p x) t (some_select p q xs)
    where
      go : (b : Bool) → T (some? q (cond b (x ∷ select p xs) (select p xs))) → (T (some? q (select p xs)) → T (some? q xs)) → T (q x || some? q xs)
      go true t f = or_cases (q x) (some? q (select p xs)) t (λ u. or_l (q x) _ u) (λ u. or_r (q x) _ (f u))
      go false t f = or_r (q x) _ (f t)

  module _ (same : A → A → Bool) where
    pub distinct_select : (p : A → Bool) (xs : List A) → T (distinct same xs) → T (distinct same (select p xs))
    unfolding distinct select
    distinct_select p [] h = tt
    distinct_select p (x ∷ xs) h = go (p x) (distinct_select p xs (search parts))
      where
        go : (b : Bool) → T (distinct same (select p xs)) → T (distinct same (cond b (x ∷ select p xs) (select p xs)))
        go true k = and_both (not (some? (same x) (select p xs))) _ (not_by (some? (same x) (select p xs)) (some? (same x) xs) (some_select p (same x) xs) (search parts)) k
        go false k = k

    pub distinct_l : (xs ys : List A) → T (distinct same (xs ++ ys)) → T (distinct same xs)
    unfolding distinct
    distinct_l [] ys h = tt
    distinct_l (x ∷ xs) ys h = and_both (not (some? (same x) xs)) _ (not_by (some? (same x) xs) (some? (same x) (xs ++ ys)) (some_before (same x) xs ys) (search parts)) (distinct_l xs ys (search parts))

    pub distinct_r : (xs ys : List A) → T (distinct same (xs ++ ys)) → T (distinct same ys)
    unfolding distinct
    distinct_r [] ys h = h
    distinct_r (x ∷ xs) ys h = distinct_r xs ys (search parts)

-- ---- lists of columns

pub distinct_append : (xs ys : List Col) → T (distinct same_col xs) → T (distinct same_col ys) → ((c : Col) → T (has xs c) → T (has ys c) → ⊥) → T (distinct same_col (xs ++ ys))
unfolding distinct has some?
distinct_append [] ys h k f = k
distinct_append (x ∷ xs) ys h k f =
    and_both (not (some? (same_col x) (xs ++ ys))) _
    (not_T (has (xs ++ ys) x) (λ t. has_append x xs ys t (λ u. T_not (has xs x) (search parts) u) (f x (or_l (same_col x x) _ (same_col_refl x)))))
    (distinct_append xs ys (search parts) k (λ c u. f c (or_r (same_col c x) _ u)))

pub distinct_apart : (xs ys : List Col) → T (distinct same_col (xs ++ ys)) → (c : Col) → T (has xs c) → T (has ys c) → ⊥
unfolding distinct has some?
distinct_apart [] ys h c t u = absurd t
distinct_apart (x ∷ xs) ys h c t u =
    or_cases (same_col c x) (some? (same_col c) xs) t
    (λ v. T_not (has (xs ++ ys) x) (search parts) (has_append_r x xs ys (rw (same_col→eq c x v) at u)))
    (λ v. distinct_apart xs ys (search parts) c v u)

-- ---- the columns of streams

-- every column of a stream names it
names : (s : ℕ) (ns : List ℕ) (c : Col) → T (has (map (col s) ns) c) → (e : ℕ) × (c ≡ col s e)
unfolding has some?
names s [] c t = absurd t
names s (n ∷ ns) c t = or_cases (same_col c (col s n)) _ t (λ u. (n, same_col→eq c (col s n) u)) (λ u. names s ns c u)

same_stream : (s t : ℕ) (c : Col) → (e : ℕ) × (c ≡ col s e) → (f : ℕ) × (c ≡ col t f) → s ≡ t
same_stream s t c (e, p) (f, q) = cc

beyond : (s a b n : ℕ) → T (has (map (col s) (count_from b n)) (col s a)) → b ≤ a
unfolding has some? count_from same_col
beyond s a b zero t = absurd t
beyond s a b (suc n) t =
    or_cases (eqb s s && eqb a b) _ t
    (λ u. let e = eqb→eq a b (search parts) in omega arith)
    (λ u. let h = beyond s a (suc b) n u in omega arith)

counted_once : (s a n : ℕ) → T (distinct same_col (map (col s) (count_from a n)))
unfolding distinct count_from has
counted_once s a zero = tt
counted_once s a (suc n) =
    and_both (not (some? (same_col (col s a)) (map (col s) (count_from (suc a) n)))) _
    (not_T (has (map (col s) (count_from (suc a) n)) (col s a)) (λ t. let h = beyond s a (suc a) n t in omega arith)) (counted_once s (suc a) n)

module _ (d : Schema) where
  pub columns_distinct : (s : ℕ) → T (distinct same_col (columns_of d s))
  unfolding columns_of
  columns_distinct s = counted_once s 0 _

  one_stream : (s t : ℕ) (c : Col) → T (has (columns_of d s) c) → T (has (columns_of d t) c) → s ≡ t
  unfolding columns_of
  one_stream s t c h k = same_stream s t c (names s (numbers s) c h) (names t (numbers t) c k)
    where
      numbers : ℕ → List ℕ
      numbers s = count_from 0 (length (nth no_stream d s).columns)

  among_streams : (s : ℕ) (ss : List ℕ) (c : Col) → T (has (columns_of d s) c) → T (has (gather (columns_of d) ss) c) → T (some? (eqb s) ss)
  unfolding gather some?
  among_streams s [] c h k = unfold has in k
  among_streams s (t ∷ ss) c h k =
      has_append c (columns_of d t) (gather (columns_of d) ss) k
      (λ u. or_l (eqb s t) _ (rw (one_stream s t c h u) (eqb_refl t)))
      (λ u. or_r (eqb s t) _ (among_streams s ss c h u))

  pub gather_distinct : (ss : List ℕ) → T (distinct eqb ss) → T (distinct same_col (gather (columns_of d) ss))
  unfolding gather distinct
  gather_distinct [] h = tt
  gather_distinct (s ∷ ss) h =
      distinct_append (columns_of d s) (gather (columns_of d) ss) (columns_distinct s) (gather_distinct ss (search parts))
      (λ c t u. T_not (some? (eqb s) ss) (search parts) (among_streams s ss c t u))

-- ---- numbers that stand only once

absent : (k : ℕ) (xs : List ℕ) → T (not (some? (eqb k) xs)) → select (λ x. not (eqb k x)) xs ≡ xs
unfolding select some?
absent k [] h = refl
absent k (x ∷ xs) h = go (eqb k x) h (absent k xs)
  where
    go : (b : Bool) → T (not (b || some? (eqb k) xs)) → (T (not (some? (eqb k) xs)) → select (λ x. not (eqb k x)) xs ≡ xs)
        → cond (not b) (x ∷ select (λ x. not (eqb k x)) xs) (select (λ x. not (eqb k x)) xs) ≡ x ∷ xs
    go true n f = absurd n
    go false n f = ap (λ l. x ∷ l) (f n)

-- without one number there is at most one less
without : (k : ℕ) (xs : List ℕ) → T (distinct eqb xs) → length xs ≤ suc (length (select (λ x. not (eqb k x)) xs))
unfolding select distinct
without k [] h = omega arith
without k (x ∷ xs) h = go (eqb k x) refl (without k xs (search parts))
  where
    go : (b : Bool) → eqb k x ≡ b → length xs ≤ suc (length (select (λ x. not (eqb k x)) xs)) → length (x ∷ xs) ≤ suc (length (cond (not b) (x ∷ select (λ x. not (eqb k x)) xs) (select (λ x. not (eqb k x)) xs)))
    go true e i =
        let s : k ≡ x = eqb-true k x e in
        let z : select (λ y. not (eqb k y)) xs ≡ xs = absent k xs (rw s (search parts)) in
        let n : length (select (λ y. not (eqb k y)) xs) ≡ length xs = ap length z in
        omega arith
    go false e i = omega arith

-- among n numbers there are at most n
pub distinct_few : (a n : ℕ) (xs : List ℕ) → T (distinct eqb xs) → All (λ x. (a ≤ x) × (x < a + n)) xs → length xs ≤ n
distinct_few a zero [] h all_nil = omega arith
distinct_few a zero (x ∷ xs) h (all_cons (l, u) r) = absurd (omega arith)
distinct_few a (suc n) xs h b =
    let i = distinct_few a n (select (λ x. not (eqb (a + n) x)) xs) (distinct_select eqb (λ x. not (eqb (a + n) x)) xs h)
    (all_select (λ x. not (eqb (a + n) x)) (λ x t (l, u). (l, let e = eqb-false (a + n) x (T_false (eqb (a + n) x) t) in omega (arith, e))) b) in
    let w = without (a + n) xs h in
    omega arith

later : (a b n : ℕ) → a < b → T (not (some? (eqb a) (count_from b n)))
unfolding some? count_from
later a b zero h = tt
later a b (suc n) h = rw (ne_eqb a b (λ e. omega arith)) (later a (suc b) n (omega arith))

pub count_distinct : (a n : ℕ) → T (distinct eqb (count_from a n))
unfolding distinct count_from
count_distinct a zero = tt
count_distinct a (suc n) = and_both (not (some? (eqb a) (count_from (suc a) n))) _ (later a (suc a) n (omega arith)) (count_distinct (suc a) n)

-- ---- columns that stand once each, all of them among others, are no more than those

-- those that are not a given one
abbrev others : Col → List Col → List Col
others x ds = select (λ y. not (same_col x y)) ds

others_fewer : (x : Col) (ds : List Col) → T (has ds x) → length (others x ds) < length ds
unfolding select has some?
others_fewer x [] t = absurd t
others_fewer x (y ∷ ds) t = go (same_col x y) t (select_fewer (λ y. not (same_col x y)) ds) (λ u. others_fewer x ds u)
  where
    go : (b : Bool) → T (b || some? (same_col x) ds) → length (others x ds) ≤ length ds → (T (some? (same_col x) ds) → length (others x ds) < length ds) → length (cond (not b) (y ∷ others x ds) (others x ds)) < suc (length ds)
    go true t h f = omega arith
    go false t h f = let k = f t in omega arith

others_has : (x c : Col) (ds : List Col) → same_col x c ≡ false → T (has ds c) → T (has (others x ds) c)
unfolding select has some?
others_has x c [] e t = absurd t
others_has x c (y ∷ ds) e t = go (same_col c y) refl t (λ u. others_has x c ds e u)
  where
    kept : (b : Bool) → T (some? (same_col c) (others x ds)) → T (some? (same_col c) (cond b (y ∷ others x ds) (others x ds)))
    kept true u = or_r (same_col c y) _ u
    kept false u = u

    go : (a : Bool) → same_col c y ≡ a → T (a || some? (same_col c) ds) → (T (some? (same_col c) ds) → T (some? (same_col c) (others x ds))) → T (some? (same_col c) (cond (not (same_col x y)) (y ∷ others x ds) (others x ds)))
    go true f t k = let z : c ≡ y = same_col→eq c y (rw f tt) in let w : same_col x y ≡ false = ap (same_col x) (sym z) ∙ e in rw (w, f) tt
    go false f t k = kept (not (same_col x y)) (k t)

others_within : (x : Col) (cs ds : List Col) → T (not (some? (same_col x) cs)) → T (within cs ds) → T (within cs (others x ds))
unfolding within every some?
others_within x [] ds n t = tt
others_within x (c ∷ cs) ds n t = go (same_col x c) refl n (λ m. others_within x cs ds m (and_r (has ds c) _ t))
  where
    go : (b : Bool) → same_col x c ≡ b → T (not (b || some? (same_col x) cs)) → (T (not (some? (same_col x) cs)) → T (every (has (others x ds)) cs)) → T (has (others x ds) c && every (has (others x ds)) cs)
    go true e n k = absurd n
    go false e n k = and_both (has (others x ds) c) _ (others_has x c ds e (and_l (has ds c) _ t)) (k n)

pub once_few : (cs ds : List Col) → T (distinct same_col cs) → T (within cs ds) → length cs ≤ length ds
unfolding distinct within every
once_few [] ds t w = omega arith
once_few (x ∷ cs) ds t w =
    let a = others_fewer x ds (and_l (has ds x) _ w) in
    let b = once_few cs (others x ds) (and_r (not (some? (same_col x) cs)) _ t) (others_within x cs ds (and_l (not (some? (same_col x) cs)) _ t) (and_r (has ds x) _ w)) in
    omega arith
