-- What a table of forms asks is what the query asks that it stands for.
use mathlib.Core.Path.{◌≡◌, refl, sym, ap, ap₂, ◌∙◌}
use mathlib.Core.List.{List, [], ◌∷◌}
use mathlib.Core.Bool.{Bool, true, false, ◌&&◌}
use Prim.Native.Nat.{ℕ, suc, ◌<◌}
use native.Mathlib.Decide.{ℕ_discrete}
use native.Mathlib.Omega.{arith}
use lib.Bits.{bit_and}
use lib.Dec.{T, ltb, ltb→lt}
use borrow.Author.Tests.{eq-eqb, ne_eqb}
use Rattle.syntax.specs.Grammar.{fn_number, numbered_fn}
use Rattle.lists.specs.Lists.{every}
use Rattle.lists.proofs.Laws.{and_l, and_r, and_both, parts}
use Rattle.model.specs.Queries.{Col, Query, source, pick, keep, join, aggregate}
use Rattle.model.specs.Checks.{side, allowed}
use Rattle.masks.specs.Masks.{mask_of}
use Rattle.orders.specs.Orders.{codes_in}
use Rattle.nodes.specs.Nodes.{link}
use Rattle.grant.specs.Grants.{linked_from}
use Rattle.query.specs.Forms.{Words, coded_col, cols_in, form_order, cond_at, outer, inner, with_form, queries_in, query_in}
use Rattle.query.specs.declared.Form.{Form}
use Rattle.comparisons.specs.Compared.{compared, named_by, column_code}
use Rattle.comparisons.proofs.Walked.{cond_tests}
use Rattle.needs.specs.declared.Sides.{Sides}
use Rattle.needs.specs.Asking.{all_columns, col_code, form_fn, rows_needs, pick_needs, keep_needs, join_needs, aggregate_needs, needs_of, outer_needs, wide_needs, form_needs, no_needs, needs_from, needs_in}
use Rattle.query.specs.Shapes.{laid_form, laid_forms}
use Rattle.needs.proofs.Codes.{code_of_col, order_columns}

-- ---- joins

unfoldable joinless : {S : Type 0} → Query S → Bool
joinless (source s) = true
joinless (pick c q) = joinless q
joinless (keep cs q) = joinless q
joinless (join a b q r) = false
joinless (aggregate f c size offset q) = joinless q

-- no join inside a join
unfoldable lean : {S : Type 0} → Query S → Bool
lean (source s) = true
lean (pick c q) = lean q
lean (keep cs q) = lean q
lean (join a b q r) = joinless q && joinless r
lean (aggregate f c size offset q) = lean q

joinless_lean : (q : Query ℕ) → T (joinless q) → T (lean q)
unfolding joinless lean
joinless_lean (source s) t = tt
joinless_lean (pick c q) t = joinless_lean q t
joinless_lean (keep cs q) t = joinless_lean q t
joinless_lean (join a b q r) t = absurd t
joinless_lean (aggregate f c size offset q) t = joinless_lean q t

side_joinless : (q : Query ℕ) → T (side q) → T (joinless q)
unfolding joinless side
side_joinless (source s) t = tt
side_joinless (pick c q) t = side_joinless q t
side_joinless (keep cs q) t = side_joinless q t
side_joinless (join a b q r) t = absurd t
side_joinless (aggregate f c size offset q) t = absurd t

allowed_lean : (hs : ℕ → List Col) (q : Query ℕ) → T (allowed hs q) → T (lean q)
unfolding allowed lean
allowed_lean hs (source s) t = tt
allowed_lean hs (pick c q) t = allowed_lean hs q (search parts)
allowed_lean hs (keep cs q) t = allowed_lean hs q (search parts)
allowed_lean hs (join a b q r) t = and_both (joinless q) (joinless r) (side_joinless q (search parts)) (side_joinless r (search parts))
allowed_lean hs (aggregate f c size offset q) t = allowed_lean hs q (search parts)

-- ---- a form more

module _ (ns : List ℕ) (w : Words) where
  -- what is asked by the first two of some queries, as far as no join stands inside a join
  record Fits (s : Sides) (qs : List (Query ℕ)) : Type 0 where
    first : T (lean (outer qs)) → s.outer ≡ needs_of ns (outer qs)
    second : T (joinless (outer qs)) → T (lean (outer (inner qs))) → s.inner ≡ needs_of ns (outer (inner qs))

  module _ (s : Sides) (qs : List (Query ℕ)) (h : Fits s qs) where
    rows_fit : (n : ℕ) → Fits (record { outer = rows_needs ns n; inner = s.outer }) (source n ∷ qs)
    unfolding outer inner needs_of
    rows_fit n = record { first = λ t. refl; second = λ t u. h.first u }

    pick_fit : (k : ℕ) → 0 < k → T (linked_from (suc k) w.own k) → Fits (outer_needs (pick_needs (named_by (compared w.own (link w.own k) k)) s.outer) s) (pick (cond_at w.own k) (outer qs) ∷ inner qs)
    unfolding outer inner needs_of outer_needs lean joinless cond_at
    pick_fit k l t = record {
      first = λ u. ap₂ (λ m n. pick_needs m n) (ap named_by (sym (cond_tests w.own k l t))) (h.first u);
      second = λ u v. h.second u v;
    }

    keep_fit : (m : ℕ) → Fits (outer_needs (keep_needs (bit_and (mask_of (codes_in m)) all_columns) s.outer) s) (keep (cols_in m) (outer qs) ∷ inner qs)
    unfolding outer inner needs_of outer_needs lean joinless
    keep_fit m = record { first = λ u. ap₂ (λ m n. keep_needs m n) (order_columns m) (h.first u); second = λ u v. h.second u v }

    join_fit : (a b : ℕ) → Fits (outer_needs (join_needs (column_code a) (column_code b) s.outer s.inner) s) (join (coded_col a) (coded_col b) (outer qs) (outer (inner qs)) ∷ inner (inner qs))
    unfolding outer inner needs_of outer_needs lean joinless
    join_fit a b = record {
      first = λ u.
          let l = joinless_lean (outer qs) (and_l (joinless (outer qs)) (joinless (outer (inner qs))) u) in
          let r = joinless_lean (outer (inner qs)) (and_r (joinless (outer qs)) (joinless (outer (inner qs))) u) in
          ap₂ (λ x y. join_needs x y s.outer s.inner) (sym (code_of_col a)) (sym (code_of_col b))
          ∙ ap₂ (λ l r. join_needs (col_code (coded_col a)) (col_code (coded_col b)) l r) (h.first l) (h.second (and_l (joinless (outer qs)) (joinless (outer (inner qs))) u) r);
      second = λ u v. absurd u;
    }

    aggregate_fit : (f c size offset : ℕ) → Fits (outer_needs (aggregate_needs (form_fn f) (column_code c) size offset s.outer) s) (aggregate (numbered_fn f) (coded_col c) size offset (outer qs) ∷ inner qs)
    unfolding outer inner needs_of outer_needs form_fn lean joinless
    aggregate_fit f c size offset = record {
      first = λ u.
          ap (λ y. aggregate_needs (fn_number (numbered_fn f)) y size offset s.outer) (sym (code_of_col c))
          ∙ ap (aggregate_needs (fn_number (numbered_fn f)) (col_code (coded_col c)) size offset) (h.first u);
      second = λ u v. h.second u v;
    }

    form_fit : (f : Form) → T (laid_form w.own f) → Fits (form_needs ns w.own f s) (with_form w f qs)
    unfolding laid_form form_needs wide_needs with_form
    form_fit f t =
        go (ℕ_discrete f.kind 0) (ℕ_discrete f.kind 1) (ℕ_discrete f.kind 2) (ℕ_discrete f.kind 3) (ℕ_discrete f.kind 4)
      where
        go : Dec (f.kind ≡ 0) → Dec (f.kind ≡ 1) → Dec (f.kind ≡ 2) → Dec (f.kind ≡ 3) → Dec (f.kind ≡ 4) → Fits (form_needs ns w.own f s) (with_form w f qs)
        go (yes a) b c d e = rw (eq-eqb f.kind 0 a) (rows_fit f.first)
        go (no a) (yes b) c d e =
            let u : T (ltb 0 f.first && linked_from (suc f.first) w.own f.first) = rw (eq-eqb f.kind 1 b) at (and_r (ltb f.kind 5) _ t) in
            rw (ne_eqb f.kind 0 a, eq-eqb f.kind 1 b) (pick_fit f.first (ltb→lt 0 f.first (search parts)) (search parts))
        go (no a) (no b) (yes c) d e = rw (ne_eqb f.kind 0 a, ne_eqb f.kind 1 b, eq-eqb f.kind 2 c) (keep_fit (form_order f))
        go (no a) (no b) (no c) (yes d) e = rw (ne_eqb f.kind 0 a, ne_eqb f.kind 1 b, ne_eqb f.kind 2 c, eq-eqb f.kind 3 d) (join_fit f.first f.second)
        go (no a) (no b) (no c) (no d) (yes e) =
            rw (ne_eqb f.kind 0 a, ne_eqb f.kind 1 b, ne_eqb f.kind 2 c, ne_eqb f.kind 3 d, eq-eqb f.kind 4 e) (aggregate_fit f.first f.second f.third f.fourth)
        go (no a) (no b) (no c) (no d) (no e) = absurd (let l = ltb→lt f.kind 5 (and_l (ltb f.kind 5) _ t) in omega arith)

  from_fit : (fs : List Form) → T (laid_forms w.own fs) → Fits (needs_from ns w.own fs) (queries_in w fs)
  unfolding laid_forms every needs_from queries_in
  from_fit [] t = record { first = λ u. unfold no_needs outer needs_of in refl; second = λ u v. unfold no_needs outer inner needs_of in refl }
  from_fit (f ∷ fs) t = form_fit (needs_from ns w.own fs) (queries_in w fs) (from_fit fs (and_r (laid_form w.own f) _ t)) f (and_l (laid_form w.own f) _ t)

  -- Of a table whose query is allowed, what is asked by the forms is what is asked by the query.
  pub needs_exact : (hs : ℕ → List Col) (fs : List Form) → T (laid_forms w.own fs) → T (allowed hs (query_in w fs)) → needs_in ns w.own fs ≡ needs_of ns (query_in w fs)
  unfolding needs_in query_in
  needs_exact hs fs t a = (from_fit fs t).first (allowed_lean hs (outer (queries_in w fs)) a)
