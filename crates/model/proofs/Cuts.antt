-- Rows cut to some of their columns: what conditions and further cuts see of them.
use mathlib.Core.Path.{◌≡◌, refl, sym, ap, ap₂, ◌∙◌}
use mathlib.Core.List.{List, [], ◌∷◌, ◌++◌, map, map-append}
use mathlib.Core.Bool.{Bool, true, false, ◌||◌, not, cond}
use Prim.Native.Nat.{max as later}
use native.Mathlib.Omega.{arith}
use lib.IntN.{ℤ, pos}
use lib.ListN.{length}
use lib.Dec.{T, T_not}
use Rattle.lists.specs.Lists.{some?, gather, distinct}
use Rattle.lists.proofs.Laws.{or_l, or_r, parts, All, all_nil, all_cons, all_head, all_weaken, all_left, all_right, every_all, map_same}
use Rattle.syntax.specs.Grammar.{Cond}
use Rattle.model.specs.Conditions.{tests}
use Rattle.model.specs.Queries.{Col, same_col, Term, column, time, number, self, Compare, Row}
use Rattle.model.specs.Meaning.{value, term_value, compares, compare_holds, holds, kept_row, both}
use Rattle.model.specs.Checks.{has, within, term_cols, cond_cols, term_timed, timed}
use Rattle.model.proofs.Columns.{same_col→eq, same_col_refl}
use Rattle.model.proofs.Conditions.{true_same}

-- ---- values

pub value_map : (h : Col → ℤ) (c : Col) (cs : List Col) → T (has cs c) → value cs (map h cs) c ≡ h c
unfolding has some? value
value_map h c [] t = absurd t
value_map h c (d ∷ cs) t = go (same_col c d) refl t (value_map h c cs)
  where
    go : (b : Bool) → same_col c d ≡ b → T (b || some? (same_col c) cs) → (T (some? (same_col c) cs) → value cs (map h cs) c ≡ h c)
        → cond b (h d) (value cs (map h cs) c) ≡ h c
    go true e t f = ap h (sym (same_col→eq c d (rw e tt)))
    go false e t f = f t

-- of two rows side by side
pub value_left : (c : Col) (cs ds : List Col) (vs ws : List ℤ) → length vs ≡ length cs → T (has cs c) → value (cs ++ ds) (vs ++ ws) c ≡ value cs vs c
unfolding has some? value
value_left c [] ds vs ws l t = absurd t
value_left c (d ∷ cs) ds [] ws l t = absurd (omega arith)
value_left c (d ∷ cs) ds (v ∷ vs) ws l t = go (same_col c d) t (value_left c cs ds vs ws (omega arith))
  where
    go : (b : Bool) → T (b || some? (same_col c) cs) → (T (some? (same_col c) cs) → value (cs ++ ds) (vs ++ ws) c ≡ value cs vs c)
        → cond b v (value (cs ++ ds) (vs ++ ws) c) ≡ cond b v (value cs vs c)
    go true t f = refl
    go false t f = f t

pub value_right : (c : Col) (cs ds : List Col) (vs ws : List ℤ) → length vs ≡ length cs → (T (has cs c) → ⊥) → value (cs ++ ds) (vs ++ ws) c ≡ value ds ws c
unfolding has some? value
value_right c [] ds [] ws l n = refl
value_right c [] ds (v ∷ vs) ws l n = absurd (omega arith)
value_right c (d ∷ cs) ds [] ws l n = absurd (omega arith)
value_right c (d ∷ cs) ds (v ∷ vs) ws l n = go (same_col c d) n (value_right c cs ds vs ws (omega arith))
  where
    go : (b : Bool) → (T (b || some? (same_col c) cs) → ⊥) → ((T (some? (same_col c) cs) → ⊥) → value (cs ++ ds) (vs ++ ws) c ≡ value ds ws c)
        → cond b v (value (cs ++ ds) (vs ++ ws) c) ≡ value ds ws c
    go true n f = absurd (n tt)
    go false n f = f n

-- each column has its own value
pub value_self : (cs : List Col) (vs : List ℤ) → T (distinct same_col cs) → length vs ≡ length cs → map (value cs vs) cs ≡ vs
unfolding value distinct has some?
value_self [] [] d l = refl
value_self [] (v ∷ vs) d l = absurd (omega arith)
value_self (c ∷ cs) [] d l = absurd (omega arith)
value_self (c ∷ cs) (v ∷ vs) d l =
    ap₂ ◌∷◌ (first (same_col c c) (same_col_refl c)) (map_same _ (value cs vs) (others cs (λ e t. T_not (some? (same_col c) cs) (search parts) (same e t))) ∙ value_self cs vs (search parts) (omega arith))
  where
    first : (b : Bool) → T b → cond b v (value cs vs c) ≡ v
    first true t = refl
    first false t = absurd t

    same : (e : Col) → T (has cs e) × T (same_col e c) → T (some? (same_col c) cs)
    same e t = rw (same_col→eq e c t.1) at t.0

    rest : (e : Col) (b : Bool) → (T b → ⊥) → cond b v (value cs vs e) ≡ value cs vs e
    rest e true n = absurd (n tt)
    rest e false n = refl

    others : (es : List Col) → ((e : Col) → T (has es e) × T (same_col e c) → ⊥) → All (λ e. cond (same_col e c) v (value cs vs e) ≡ value cs vs e) es
    others [] f = all_nil
    others (e ∷ es) f = all_cons (rest e (same_col e c) (λ t. f e (or_l (same_col e e) _ (same_col_refl e), t))) (others es (λ b t. f b (or_r (same_col b e) _ t.0, t.1)))

-- ---- conditions

module _ (ds es : List Col) (r t : Row) where
  -- the two rows have the same value of a column
  abbrev Alike : Col → Type 0
  Alike c = value ds r.values c ≡ value es t.values c

  term_alike : (a : Term) → All Alike (term_cols a) → (T (term_timed a) → r.at ≡ t.at) → term_value ds r a ≡ term_value es t a
  unfolding term_cols term_timed term_value
  term_alike (column c) h k = all_head h
  term_alike time h k = ap pos (k tt)
  term_alike (number z) h k = refl
  term_alike (self n) h k = refl

  tests_alike : (ts : List Compare) → All Alike (gather (λ u. term_cols u.left ++ term_cols u.right) ts) → (T (some? (λ u. term_timed u.left || term_timed u.right) ts) → r.at ≡ t.at)
      → All (λ u. compare_holds ds r u ≡ compare_holds es t u) ts
  unfolding gather some? compare_holds
  tests_alike [] h k = all_nil
  tests_alike (u ∷ ts) h k =
      all_cons
      (ap₂ (compares u.op) (term_alike u.left (all_left (term_cols u.left) (term_cols u.right) own) (λ w. k (or_l (term_timed u.left || term_timed u.right) _ (or_l (term_timed u.left) _ w))))
      (term_alike u.right (all_right (term_cols u.left) (term_cols u.right) own) (λ w. k (or_l (term_timed u.left || term_timed u.right) _ (or_r (term_timed u.left) _ w)))))
      (tests_alike ts (all_right (term_cols u.left ++ term_cols u.right) _ h) (λ w. k (or_r (term_timed u.left || term_timed u.right) _ w)))
    where
      own : All Alike (term_cols u.left ++ term_cols u.right)
      own = all_left (term_cols u.left ++ term_cols u.right) _ h

  -- a condition sees of a row the columns that it names, and the time if it names it
  pub holds_alike : (c : Cond Compare) → All Alike (cond_cols c) → (T (timed c) → r.at ≡ t.at) → holds ds r c ≡ holds es t c
  unfolding holds cond_cols timed
  holds_alike c h k = true_same (compare_holds ds r) (compare_holds es t) c (tests_alike (tests c) h k)

within_all : {P : Col → Type 0} (cs ds : List Col) → T (within cs ds) → ((c : Col) → T (has ds c) → P c) → All P cs
unfolding within
within_all cs ds h f = all_weaken f (every_all (has ds) cs h)

-- ---- cut rows

-- a condition on columns that are kept
pub holds_kept : (ds cs : List Col) (r : Row) (c : Cond Compare) → T (within (cond_cols c) cs) → holds cs (kept_row ds cs r) c ≡ holds ds r c
unfolding kept_row
holds_kept ds cs r c h = holds_alike cs ds (kept_row ds cs r) r c (within_all (cond_cols c) cs h (λ e t. value_map (value ds r.values) e cs t)) (λ t. refl)

pub kept_kept : (ds cs es : List Col) (r : Row) → T (within es cs) → kept_row cs es (kept_row ds cs r) ≡ kept_row ds es r
unfolding kept_row
kept_kept ds cs es r h = λ i. record { at = r.at; values = map_same (value cs (map (value ds r.values) cs)) (value ds r.values) (within_all es cs h (λ e t. value_map (value ds r.values) e cs t)) i }

pub kept_self : (cs : List Col) (r : Row) → T (distinct same_col cs) → length r.values ≡ length cs → kept_row cs cs r ≡ r
unfolding kept_row
kept_self cs r d l = λ i. record { at = r.at; values = value_self cs r.values d l i }

-- ---- rows side by side

module _ (cs ds : List Col) (apart : (c : Col) → T (has cs c) → T (has ds c) → ⊥) (l r : Row) (wide : length l.values ≡ length cs) where
  pub kept_both : (es fs : List Col) → T (within es cs) → T (within fs ds) → kept_row (cs ++ ds) (es ++ fs) (both l r) ≡ both (kept_row cs es l) (kept_row ds fs r)
  unfolding kept_row both
  kept_both es fs h k = λ i. record { at = later l.at r.at; values = same i }
    where
      same : map (value (cs ++ ds) (l.values ++ r.values)) (es ++ fs) ≡ map (value cs l.values) es ++ map (value ds r.values) fs
      same =
          map-append (value (cs ++ ds) (l.values ++ r.values)) es fs
          ∙ ap₂ ◌++◌ (map_same _ (value cs l.values) (within_all es cs h (λ e t. value_left e cs ds l.values r.values wide t)))
          (map_same _ (value ds r.values) (within_all fs ds k (λ e t. value_right e cs ds l.values r.values wide (λ u. apart e u t))))

  -- a condition on one side, that does not name `time`
  pub holds_left : (c : Cond Compare) → T (not (timed c)) → T (within (cond_cols c) cs) → holds (cs ++ ds) (both l r) c ≡ holds cs l c
  unfolding both
  holds_left c n h =
      holds_alike (cs ++ ds) cs (both l r) l c (within_all (cond_cols c) cs h (λ e t. value_left e cs ds l.values r.values wide t)) (λ t. absurd (T_not (timed c) n t))

  pub holds_right : (c : Cond Compare) → T (not (timed c)) → T (within (cond_cols c) ds) → holds (cs ++ ds) (both l r) c ≡ holds ds r c
  unfolding both
  holds_right c n h =
      holds_alike (cs ++ ds) ds (both l r) r c (within_all (cond_cols c) ds h (λ e t. value_right e cs ds l.values r.values wide (λ u. apart e u t))) (λ t. absurd (T_not (timed c) n t))
