-- A query with no aggregate gives its rows row by row: they are those that it gives of one row of each of its streams, for all such rows in order.
use mathlib.Core.Path.{◌≡◌, refl, sym, ap, ap₂, ◌∙◌, subst}
use mathlib.Core.List.{List, [], ◌∷◌, ◌++◌, map}
use mathlib.Core.Bool.{Bool, not}
use Prim.Native.Nat.{ℕ, zero, suc, ◌≤◌}
use native.Mathlib.Omega.{arith}
use lib.Dec.{T, eqb, eqb_refl, T_not}
use lib.ListN.{length, length-map}
use Rattle.lists.specs.Lists.{select, every, some?, gather, nth, distinct}
use Rattle.lists.proofs.Laws.{not_or_l, not_or_r, parts, All, all_nil, all_cons, all_head, all_tail, all_any, all_both, all_weaken, all_left, all_right, all_gather, gather_same, append_nil}
use Rattle.lists.proofs.Gathers.{gather_ones, gather_none, gather_gather, map_gather, select_gather, select_fewer}
use Rattle.model.specs.Queries.{Col, Query, source, pick, keep, join, aggregate, sources, Grant, Caller, Row, Table, Record}
use Rattle.model.specs.Meaning.{holds, picked, kept_row, kept, both, pairs, equality, meaning, table_of, plain}
use Rattle.model.specs.Grants.{limits, whole, limited, shown_of, view}
use Rattle.model.specs.Checks.{no_aggregate}
use Rattle.model.proofs.Asked.{Rows, put, one_each, with_rows}
use Rattle.model.proofs.Distinct.{distinct_l, distinct_r}

-- ---- rows put in

pub put_same : (s : ℕ) (rs : List Row) (xs : Rows) → nth [] (put s rs xs) s ≡ rs
unfolding put nth
put_same zero rs [] = refl
put_same zero rs (x ∷ xs) = refl
put_same (suc s) rs [] = put_same s rs []
put_same (suc s) rs (x ∷ xs) = put_same s rs xs

pub put_other : (s : ℕ) (rs : List Row) (xs : Rows) (t : ℕ) → (t ≡ s → ⊥) → nth [] (put s rs xs) t ≡ nth [] xs t
unfolding put nth
put_other zero rs [] zero n = absurd (n refl)
put_other zero rs [] (suc t) n = refl
put_other zero rs (x ∷ xs) zero n = absurd (n refl)
put_other zero rs (x ∷ xs) (suc t) n = refl
put_other (suc s) rs [] zero n = refl
put_other (suc s) rs [] (suc t) n = put_other s rs [] t (λ e. n (ap suc e))
put_other (suc s) rs (x ∷ xs) zero n = refl
put_other (suc s) rs (x ∷ xs) (suc t) n = put_other s rs xs t (λ e. n (ap suc e))

-- ---- lists of streams that have none in common

pub not_among : (x : ℕ) (xs : List ℕ) → T (not (some? (eqb x) xs)) → All (λ y. x ≡ y → ⊥) xs
unfolding some?
not_among x [] h = all_nil
not_among x (y ∷ xs) h =
    all_cons (λ e. T_not (eqb x y) (not_or_l (eqb x y) _ h) (rw e (eqb_refl y))) (not_among x xs (not_or_r (eqb x y) _ h))

all_swap : {A B : Type 0} {R : A → B → Type 0} (ys : List B) {xs : List A} → All (λ x. All (R x) ys) xs → All (λ y. All (λ x. R x y) xs) ys
all_swap ys all_nil = all_weaken (λ y h. all_nil) (all_any ys)
all_swap ys (all_cons h hs) = all_weaken (λ y k. all_cons k.0 k.1) (all_both h (all_swap ys hs))

-- no stream of the first list is one of the second
abbrev pub Apart : List ℕ → List ℕ → Type 0
Apart ss ts = All (λ s. All (λ t. s ≡ t → ⊥) ts) ss

pub distinct_streams : (ss ts : List ℕ) → T (distinct eqb (ss ++ ts)) → Apart ss ts
unfolding distinct
distinct_streams [] ts h = all_nil
distinct_streams (s ∷ ss) ts h = all_cons (all_right ss ts (not_among s (ss ++ ts) (search parts))) (distinct_streams ss ts (search parts))

pub apart_sym : (ss ts : List ℕ) → Apart ss ts → Apart ts ss
apart_sym ss ts h = all_weaken (λ t k. all_weaken (λ s f e. f (sym e)) k) (all_swap ts h)

-- ---- one row of each stream

-- the same rows in each of the streams
abbrev pub Agree : List ℕ → Rows → Rows → Type 0
Agree ss xs ys = All (λ s. nth [] xs s ≡ nth [] ys s) ss

-- the others stay
each_stays : (ss : List ℕ) (xs : Rows) (t : ℕ) → All (λ s. t ≡ s → ⊥) ss → All (λ ys. nth [] xs t ≡ nth [] ys t) (one_each ss xs)
unfolding one_each
each_stays [] xs t h = all_cons refl all_nil
each_stays (s ∷ ss) xs t h =
    all_gather {P = λ r. Unit {0}} (λ r u. all_weaken (λ ys e. sym (put_other s (r ∷ []) xs t (all_head h)) ∙ e) (each_stays ss (put s (r ∷ []) xs) t (all_tail h)))
    (all_any (nth [] xs s))

pub each_apart : (ss ts : List ℕ) (xs : Rows) → Apart ts ss → All (Agree ts xs) (one_each ss xs)
each_apart ss ts xs all_nil = all_weaken (λ ys h. all_nil) (all_any (one_each ss xs))
each_apart ss ts xs (all_cons {x} {xs = ts'} h hs) = all_weaken (λ ys k. all_cons k.0 k.1) (all_both (each_stays ss xs x h) (each_apart ss ts' xs hs))

-- a fact of the rows of streams
module _ (W : ℕ → Row → Type 0) where
  abbrev pub Each : List ℕ → Rows → Type 0
  Each ss xs = All (λ s. All (W s) (nth [] xs s)) ss

  -- there is one row in each of the streams
  abbrev pub Lone : List ℕ → Rows → Type 0
  Lone ss xs = All (λ s. (r : Row) × (nth [] xs s ≡ r ∷ []) × W s r) ss

  each_put : (s : ℕ) (r : Row) (ss : List ℕ) (xs : Rows) → All (λ t. s ≡ t → ⊥) ss → Each ss xs → Each ss (put s (r ∷ []) xs)
  each_put s r ss xs all_nil k = all_nil
  each_put s r ss xs (all_cons {x} {xs = ss'} h hs) k = all_cons {x = x} (rw (put_other s (r ∷ []) xs x (λ e. h (sym e))) (all_head k)) (each_put s r ss' xs hs (all_tail k))

  pub each_lone : (ss : List ℕ) (xs : Rows) → T (distinct eqb ss) → Each ss xs → All (Lone ss) (one_each ss xs)
  unfolding one_each distinct
  each_lone [] xs d h = all_cons all_nil all_nil
  each_lone (s ∷ ss) xs d h =
      all_gather {P = W s}
      (λ r w. all_weaken (λ ys k. all_cons (r, sym k.0 ∙ put_same s (r ∷ []) xs, w) k.1)
      (all_both (each_stays ss (put s (r ∷ []) xs) s out) (each_lone ss (put s (r ∷ []) xs) (search parts) (each_put s r ss xs out (all_tail h)))))
      (all_head h)
    where
      out : All (λ t. s ≡ t → ⊥) ss
      out = not_among s ss (search parts)

pub each_append : (ss ts : List ℕ) (xs : Rows) → one_each (ss ++ ts) xs ≡ gather (one_each ts) (one_each ss xs)
unfolding one_each gather
each_append [] ts xs = sym (append_nil (one_each ts xs))
each_append (s ∷ ss) ts xs =
    gather_same (all_weaken (λ r u. each_append ss ts (put s (r ∷ []) xs)) (all_any (nth [] xs s)))
    ∙ sym (gather_gather (one_each ts) (λ r. one_each ss (put s (r ∷ []) xs)) (nth [] xs s))

-- ---- tables that are made row by row

-- a table of the rows of the streams
pub record Rowwise (ss : List ℕ) (F : Rows → Table) : Type 0 where
  -- its columns do not depend on the rows
  pub cols_same : (xs ys : Rows) → (F xs).cols ≡ (F ys).cols
  -- no other stream has a part in it
  pub local : (xs ys : Rows) → Agree ss xs ys → (F xs).rows ≡ (F ys).rows
  -- one row of each stream gives one row or none
  pub few : (xs : Rows) → Lone (λ s r. Unit {0}) ss xs → length (F xs).rows ≤ 1
  pub spread : (xs : Rows) → (F xs).rows ≡ gather (λ ys. (F ys).rows) (one_each ss xs)

few_pairs : (ls rs : List Row) → length ls ≤ 1 → length rs ≤ 1 → length (gather (λ x. map (both x) rs) ls) ≤ 1
unfolding gather
few_pairs [] rs h k = omega arith
few_pairs (l ∷ []) rs h k = rw (append_nil (map (both l) rs), length-map rs (both l)) k
few_pairs (l ∷ m ∷ ls) rs h k = absurd (omega arith)

-- where there is at most one left row, the order of the right rows is the order of the pairs
interchange : {A : Type 0} (g : A → List Row) (zs : List A) (ls : List Row) → length ls ≤ 1
    → gather (λ x. map (both x) (gather g zs)) ls ≡ gather (λ z. gather (λ x. map (both x) (g z)) ls) zs
unfolding gather
interchange g zs [] h = sym (gather_none zs)
interchange g zs (l ∷ []) h =
    append_nil _ ∙ map_gather (both l) g zs ∙ gather_same (all_weaken (λ z u. sym (append_nil (map (both l) (g z)))) (all_any zs))
interchange g zs (l ∷ m ∷ ls) h = absurd (omega arith)

module _ (x : Record) where
  pub rowwise_table : (s : ℕ) → Rowwise (s ∷ []) (λ xs. table_of (with_rows x xs) s)
  unfolding table_of one_each gather
  rowwise_table s = record {
    cols_same = λ xs ys. refl;
    local = λ xs ys h. all_head h;
    few = λ xs h. rw (all_head h).1 (omega arith);
    spread = λ xs.
        sym (gather_gather (λ ys. nth [] ys s) (λ r. put s (r ∷ []) xs ∷ []) (nth [] xs s)
        ∙ gather_same (all_weaken (λ r u. append_nil _ ∙ put_same s (r ∷ []) xs) (all_any (nth [] xs s))) ∙ gather_ones (nth [] xs s));
  }

-- with a test of rows, that sees the columns
pub rowwise_select : {F : Rows → Table} (ss : List ℕ) (p : List Col → Row → Bool) → Rowwise ss F
    → Rowwise ss (λ xs. record { cols = (F xs).cols; rows = select (p (F xs).cols) (F xs).rows })
rowwise_select {F} ss p h = record {
  cols_same = h.cols_same;
  local = λ xs ys a. ap₂ (λ cs rs. select (p cs) rs) (h.cols_same xs ys) (h.local xs ys a);
  few = λ xs a. let k = h.few xs a in let l = select_fewer (p (F xs).cols) (F xs).rows in omega arith;
  spread = λ xs.
      ap (select (p (F xs).cols)) (h.spread xs) ∙ select_gather (p (F xs).cols) (λ ys. (F ys).rows) (one_each ss xs)
      ∙ gather_same (all_weaken (λ ys u. ap (λ cs. select (p cs) (F ys).rows) (h.cols_same xs ys)) (all_any (one_each ss xs)));
}

pub rowwise_kept : {F : Rows → Table} (ss : List ℕ) (cs : List Col) → Rowwise ss F → Rowwise ss (λ xs. kept cs (F xs))
unfolding kept
rowwise_kept {F} ss cs h = record {
  cols_same = λ xs ys. refl;
  local = λ xs ys a. ap₂ (λ ds rs. map (kept_row ds cs) rs) (h.cols_same xs ys) (h.local xs ys a);
  few = λ xs a. rw (length-map (F xs).rows (kept_row (F xs).cols cs)) (h.few xs a);
  spread = λ xs.
      ap (map (kept_row (F xs).cols cs)) (h.spread xs) ∙ map_gather (kept_row (F xs).cols cs) (λ ys. (F ys).rows) (one_each ss xs)
      ∙ gather_same (all_weaken (λ ys u. ap (λ ds. map (kept_row ds cs) (F ys).rows) (h.cols_same xs ys)) (all_any (one_each ss xs)));
}

pub rowwise_pairs : {F G : Rows → Table} (ss ts : List ℕ) → T (distinct eqb (ss ++ ts)) → Rowwise ss F → Rowwise ts G → Rowwise (ss ++ ts) (λ xs. pairs (F xs) (G xs))
unfolding pairs
rowwise_pairs {F} {G} ss ts d h k = record {
  cols_same = λ xs ys. ap₂ ◌++◌ (h.cols_same xs ys) (k.cols_same xs ys);
  local = λ xs ys a. ap₂ (λ ls rs. gather (λ x. map (both x) rs) ls) (h.local xs ys (all_left ss ts a)) (k.local xs ys (all_right ss ts a));
  few = λ xs a. few_pairs (F xs).rows (G xs).rows (h.few xs (all_left ss ts a)) (k.few xs (all_right ss ts a));
  spread = λ xs.
      ap (gather (λ x. map (both x) (G xs).rows)) (h.spread xs)
      ∙ gather_gather (λ x. map (both x) (G xs).rows) (λ ys. (F ys).rows) (one_each ss xs)
      ∙ gather_same (all_weaken (λ ys u. inner xs ys u.0 u.1)
      (all_both (each_apart ss ts xs (apart_sym ss ts apart)) (each_lone (λ s r. Unit {0}) ss xs (distinct_l eqb ss ts d) (all_weaken (λ s u. all_any (nth [] xs s)) (all_any ss)))))
      ∙ sym (gather_gather (λ zs. gather (λ x. map (both x) (G zs).rows) (F zs).rows) (one_each ts) (one_each ss xs))
      ∙ ap (gather (λ zs. gather (λ x. map (both x) (G zs).rows) (F zs).rows)) (sym (each_append ss ts xs));
}
  where
    apart : Apart ss ts
    apart = distinct_streams ss ts d

    inner : (xs ys : Rows) → Agree ts xs ys → Lone (λ s r. Unit {0}) ss ys
        → gather (λ x. map (both x) (G xs).rows) (F ys).rows ≡ gather (λ zs. gather (λ x. map (both x) (G zs).rows) (F zs).rows) (one_each ts ys)
    inner xs ys a l =
        ap (λ rs. gather (λ x. map (both x) rs) (F ys).rows) (k.local xs ys a ∙ k.spread ys)
        ∙ interchange (λ zs. (G zs).rows) (one_each ts ys) (F ys).rows (h.few ys l)
        ∙ gather_same (all_weaken (λ zs b. ap (gather (λ x. map (both x) (G zs).rows)) (h.local ys zs b)) (each_apart ts ss ys apart))

module _ (x : Record) where
  -- all rows of the streams side by side
  pub rowwise_whole : (s : ℕ) (ss : List ℕ) → T (distinct eqb (s ∷ ss)) → Rowwise (s ∷ ss) (λ xs. whole (with_rows x xs) (s ∷ ss))
  unfolding whole
  rowwise_whole s [] d = rowwise_table x s
  rowwise_whole s (t ∷ ss) d = rowwise_pairs (s ∷ []) (t ∷ ss) d (rowwise_table x s) (rowwise_whole t ss (distinct_r eqb (s ∷ []) (t ∷ ss) d))

  pub rowwise_view : (who : Caller) (g : Grant) (s : ℕ) (ss : List ℕ) → g.of ≡ s ∷ ss → T (distinct eqb (s ∷ ss)) → Rowwise (s ∷ ss) (λ xs. view (with_rows x xs) who g)
  unfolding view limited
  rowwise_view who g s ss e d =
      subst (λ l. Rowwise (s ∷ ss) (λ xs. kept (shown_of x.schema g) (limited (limits who g) (whole (with_rows x xs) l)))) (sym e)
      (rowwise_kept (s ∷ ss) (shown_of x.schema g) (rowwise_select (s ∷ ss) (λ cs r. every (holds cs r) (limits who g)) (rowwise_whole s ss d)))

  -- a query with no aggregate
  pub rowwise_plain : (q : Query ℕ) → T (no_aggregate q) → T (distinct eqb (sources q)) → Rowwise (sources q) (λ xs. plain (with_rows x xs) q)
  unfolding plain meaning no_aggregate sources picked
  rowwise_plain (source s) a d = rowwise_table x s
  rowwise_plain (pick c q) a d = rowwise_select (sources q) (λ cs r. holds cs r c) (rowwise_plain q a d)
  rowwise_plain (keep cs q) a d = rowwise_kept (sources q) cs (rowwise_plain q a d)
  rowwise_plain (join l m q r) a d =
      rowwise_select (sources q ++ sources r) (λ cs r. holds cs r (equality l m))
      (rowwise_pairs (sources q) (sources r) d (rowwise_plain q (search parts) (distinct_l eqb (sources q) (sources r) d)) (rowwise_plain r (search parts) (distinct_r eqb (sources q) (sources r) d)))
  rowwise_plain (aggregate f c size offset q) a d = absurd a
