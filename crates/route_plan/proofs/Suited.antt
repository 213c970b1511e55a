-- The plan of a regular table whose query may be asked of a record stands as it must to be evaluated.
use mathlib.Core.Path.{◌≡◌, sym, ◌∙◌, subst}
use mathlib.Core.List.{List, [], ◌∷◌, ◌++◌, map}
use mathlib.Core.Bool.{Bool, true, false, ◌&&◌, ◌||◌, not, cond}
use Prim.Native.Nat.{ℕ, zero, suc, ◌+◌, ◌/◌, ◌%◌, ◌≤◌, ◌<◌}
use native.Mathlib.Omega.{arith}
use lib.Dec.{T, eqb, ltb, eqb→eq, ltb→lt, lt→ltb}
use lib.ListN.{length}
use borrow.Author.Tests.{eq-eqb, ne_eqb}
use Rattle.lists.specs.Lists.{every, some?, gather, distinct, count_from}
use Rattle.lists.proofs.Laws.{and_l, and_r, and_both, or_l, or_r, or_cases, true_T, distinct_unmap}
use Rattle.syntax.specs.Limits.{top as max-time}
use Rattle.model.specs.Queries as M
use Rattle.model.specs.Queries.{Col, col, figure, same_col, columns_of, sources}
use Rattle.model.specs.Checks.{has, within, linked, no_aggregate, allowed, placed, sized}
use Rattle.model.proofs.OneRow.{no_figure, header_in}
use Rattle.schema.specs.Schemas.{schema_of, streams_in, width_in}
use Rattle.schema.proofs.Lookups.{stream_columns}
use Rattle.ledger.specs.Records.{Memory, record_of, memory_sound}
use Rattle.orders.specs.Orders.{codes_in}
use Rattle.grant.proofs.Masked.{declared_stream}
use Rattle.query.specs.declared.Form.{Form}
use Rattle.query.specs.Forms.{Words, coded_col, cols_in, query_in, queries_in}
use Rattle.query.specs.Shapes.{depth}
use Rattle.plan.specs.declared.Plan.{Plan}
use Rattle.plan.specs.Plans.{plan_streams, plan_in, pick_count}
use Rattle.plan.proofs.Tables.{Placed}
use Rattle.plan.proofs.Meaning.{Top, says, some_queries}
use Rattle.plan.proofs.Shapes.{Shape, plan_shape, streams_alone, streams_joined, query_offset}
use Rattle.plan.proofs.Rewritten.{Plannable, Asked}
use Rattle.sides.specs.Sides.{code_there, Alone}
use Rattle.pairs.specs.Pairs.{Joined}
use Rattle.pairs.specs.Given.{column_there}
use Rattle.model.proofs.Columns.{has_append, same_col_refl}
use Rattle.model.proofs.Keeps.{header_once}
use Rattle.route_plan.specs.Suits.{Suits}

-- ---- a column of a stream by its code

counted_has : (s a b k n : ℕ) → T (has (map (col s) (count_from k n)) (col a b)) → (a ≡ s) × (b < k + n)
unfolding has some? count_from same_col
counted_has s a b k zero t = absurd t
counted_has s a b k (suc n) t =
    or_cases (eqb a s && eqb b k) _ t
    (λ u. (eqb→eq a s (and_l (eqb a s) _ u), let e = eqb→eq b k (and_r (eqb a s) _ u) in omega arith))
    (λ u. let h = counted_has s a b (suc k) n u in (h.0, let l = h.1 in omega arith))

module _ (ns : List ℕ) where
  has_there : (s c : ℕ) → s < streams_in ns → T (has (columns_of (schema_of ns) s) (coded_col c)) → T (code_there ns s c)
  unfolding coded_col code_there
  has_there s c low t = go (ltb c 24) t
    where
      go : (b : Bool) → T (has (columns_of (schema_of ns) s) (cond b (col (c / 6) (c % 6)) figure)) → T (eqb (c / 6) s && ltb (c % 6) (width_in ns s))
      go true u =
          let h = counted_has s (c / 6) (c % 6) 0 (width_in ns s) (subst (λ l. T (has l (col (c / 6) (c % 6)))) (stream_columns ns s low) u) in
          and_both (eqb (c / 6) s) _ (true_T _ (eq-eqb (c / 6) s h.0)) (lt→ltb (c % 6) (width_in ns s) (let l = h.1 in omega arith))
      go false u = absurd (no_figure (schema_of ns) s u)

  -- a column of the streams of a plan is there
  has_column : (p : Plan) (c : ℕ) → T (every (declared_stream ns) (plan_streams p)) → T (has (gather (columns_of (schema_of ns)) (plan_streams p)) (coded_col c)) → T (column_there ns p c)
  unfolding column_there plan_streams every gather
  has_column p c d t = go p.joined d t
    where
      hs : ℕ → List Col
      hs = columns_of (schema_of ns)

      left_there : T (declared_stream ns p.left) → T (has (hs p.left) (coded_col c)) → (b : Bool) → T (code_there ns p.left c || b)
      left_there e u b = or_l (code_there ns p.left c) b (has_there p.left c (ltb→lt p.left (streams_in ns) e) u)

      go : (j : Bool) → T (every (declared_stream ns) (cond j (p.left ∷ (p.right ∷ [])) (p.left ∷ []))) → T (has (gather hs (cond j (p.left ∷ (p.right ∷ [])) (p.left ∷ []))) (coded_col c))
          → T (code_there ns p.left c || (j && code_there ns p.right c))
      go true e u =
          has_append (coded_col c) (hs p.left) (hs p.right ++ []) u (λ v. left_there (and_l (declared_stream ns p.left) _ e) v (code_there ns p.right c))
          (λ v. has_append (coded_col c) (hs p.right) [] v
          (λ y. or_r (code_there ns p.left c) (code_there ns p.right c) (has_there p.right c (ltb→lt p.right (streams_in ns) (and_l (declared_stream ns p.right) _ (and_r (declared_stream ns p.left) _ e))) y))
          (λ y. absurd (unfold has some? in y)))
      go false e u = has_append (coded_col c) (hs p.left) [] u (λ v. left_there (and_l (declared_stream ns p.left) _ e) v false) (λ v. absurd (unfold has some? in v))

-- ---- plans

-- codes of columns that stand only once
once_codes : (cs : List ℕ) → T (distinct same_col (map coded_col cs)) → T (distinct eqb cs)
once_codes cs h = distinct_unmap coded_col eqb same_col (λ a b e. rw (eqb→eq a b e) (same_col_refl (coded_col b))) cs h

module _ (m : Memory) (safe : T (memory_sound m)) (w : Words) (forms : List Form) (q : M.Query ℕ) (plannable : Plannable w m.names forms) (is : query_in w forms ≡ q) (asked : Asked (record_of m) q) (fits : T (sized q))
    (declared : T (every (declared_stream m.names) (sources q))) (near : query_offset q ≤ max-time) where
  abbrev ns : List ℕ
  ns = m.names

  abbrev p : Plan
  p = plan_in ns forms

  abbrev hs : ℕ → List Col
  hs = columns_of (schema_of ns)

  may : T (allowed hs q)
  unfolding placed record_of
  may = and_l (allowed hs q) _ asked.placing

  apart : T (distinct eqb (sources q))
  unfolding placed record_of
  apart = and_r (allowed hs q) _ asked.placing

  some : 1 ≤ length (queries_in w forms)
  some = go forms plannable.some
    where
      go : (fs : List Form) → 1 ≤ depth fs → 1 ≤ length (queries_in w fs)
      go [] h = unfold depth in absurd (omega arith)
      go (f ∷ fs) h = some_queries w ns f fs

  shape : Shape w ns q p
  shape = subst (λ y. Shape w ns y p) is (plan_shape w ns forms plannable.regularly some (rw is may))

  top : Top w ns q p
  unfolding query_in
  top = subst (λ y. Top w ns y p) is ((says w ns forms plannable.regularly plannable.few).top some (rw is may) (rw is asked.once))

  theirs : T (every (declared_stream ns) (plan_streams p))
  theirs = rw (sym shape.streams) declared

  low : {s : ℕ} → T (declared_stream ns s) → s < streams_in ns
  low {s} t = ltb→lt s (streams_in ns) t

  alone : p.joined ≡ false → Alone m p
  unfolding every
  alone e = record { sound = safe; single = e; declared = low (and_l (declared_stream ns p.left) _ (rw (streams_alone w ns p e) at theirs)) }

  other : p.joined ≡ true → p.right ≡ p.left → ⊥
  unfolding distinct some?
  other e f = go (rw (shape.streams ∙ streams_joined w ns p e) at apart)
    where
      go : T (not (eqb p.left p.right || false) && true) → ⊥
      go t = rw (eq-eqb p.left p.right (sym f)) at t

  double : p.joined ≡ true → Joined m p
  unfolding every linked
  double e =
      let t = rw (streams_joined w ns p e) at theirs in
      let a = low (and_l (declared_stream ns p.left) _ t) in
      let b = low (and_l (declared_stream ns p.right) _ (and_r (declared_stream ns p.left) _ t)) in
      let l = shape.equality e in
      let first = coded_col p.first in
      let second = coded_col p.second in
      record {
        sound = safe;
        double = e;
        left = a;
        right = b;
        other = other e;
        linked =
            or_cases (has (hs p.left) first && has (hs p.right) second) (has (hs p.left) second && has (hs p.right) first) l
            (λ u. or_l (code_there ns p.left p.first && code_there ns p.right p.second) _
            (and_both (code_there ns p.left p.first) _ (has_there ns p.left p.first a (and_l (has (hs p.left) first) _ u)) (has_there ns p.right p.second b (and_r (has (hs p.left) first) _ u))))
            (λ u. or_r (code_there ns p.left p.first && code_there ns p.right p.second) _
            (and_both (code_there ns p.left p.second) _ (has_there ns p.left p.second a (and_l (has (hs p.left) second) _ u)) (has_there ns p.right p.first b (and_r (has (hs p.left) second) _ u))));
      }

  pub plain : p.number ≡ 0 → T (no_aggregate q)
  plain e = true_T (no_aggregate q) (top.plain_is ∙ eq-eqb p.number 0 e)

  figures : (p.number ≡ 0 → ⊥) → T (not (no_aggregate q))
  figures e = rw (top.plain_is ∙ ne_eqb p.number 0 e) tt

  every_there : (cs : List ℕ) → T (within (map coded_col cs) (gather hs (plan_streams p))) → T (every (column_there ns p) cs)
  unfolding within every
  every_there [] t = tt
  every_there (c ∷ cs) t =
      and_both (column_there ns p c) _ (has_column ns p c theirs (and_l (has (gather hs (plan_streams p)) (coded_col c)) _ t)) (every_there cs (and_r (has (gather hs (plan_streams p)) (coded_col c)) _ t))

  -- its window begins where the query's does
  pub offset_is : (p.number ≡ 0 → ⊥) → p.offset ≡ query_offset q
  offset_is e = shape.offset (figures e)

  pub streams_are : plan_streams p ≡ sources q
  streams_are = sym shape.streams

  places : Placed p (pick_count forms)
  places = (says w ns forms plannable.regularly plannable.few).placed

  pub suited : Suits m p
  unfolding cols_in record_of
  suited =
      record {
        stands = record { alone = alone; double = double };
        there = λ e.
            let h = header_in (schema_of ns) q (plain e) may in
            every_there (codes_in p.order) (rw (top.header_is (plain e), shape.streams) at h);
        once = λ e. once_codes (codes_in p.order) (rw (top.header_is (plain e)) at (header_once (schema_of ns) q asked.placing asked.once));
        column = λ e. has_column ns p p.column theirs (rw shape.streams at (shape.column (figures e)));
        span = λ e. shape.span fits (figures e);
        near = λ e. rw (offset_is e) near;
        few = rw places.counted plannable.few;
        after = λ e. places.upper;
      }
