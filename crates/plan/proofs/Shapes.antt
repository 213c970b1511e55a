-- What a plan is by the query of its table: its streams, the columns of its equality and of its aggregate, SIZE and OFFSET.
use mathlib.Core.Path.{◌≡◌, refl, sym, ap₂, ◌∙◌, subst}
use mathlib.Core.List.{List, [], ◌∷◌, ◌++◌}
use mathlib.Core.Bool.{Bool, true, false, ◌&&◌, not}
use Prim.Native.Nat.{ℕ, suc, ◌≤◌}
use native.Mathlib.Omega.{arith}
use lib.Dec.{T, leb, leb→le}
use lib.ListN.{length}
use Rattle.lists.specs.Lists.{gather}
use Rattle.lists.proofs.Laws.{parts, and_l}
use Rattle.syntax.specs.Grammar.{Cond, numbered_fn}
use Rattle.model.specs.Queries.{Col, columns_of, Compare, Query, source, pick, keep, join, aggregate, sources, header}
use Rattle.model.specs.Checks.{has, linked, no_aggregate, side, allowed, fitting, sized}
use Rattle.model.specs.Rewriting.{under}
use Rattle.model.proofs.Columns.{has_within, linked_in}
use Rattle.model.proofs.Flat.{side_within}
use Rattle.model.proofs.Forms.{side_free}
use Rattle.model.proofs.OneRow.{header_in}
use Rattle.model.proofs.Rewriting.{stream, side_sources}
use Rattle.schema.specs.Schemas.{schema_of}
use Rattle.query.specs.declared.Form.{Form}
use Rattle.query.specs.Forms.{Words, coded_col, outer, inner, queries_in, query_in}
use Rattle.query.proofs.Shapes.{form_rows, form_pick, form_keep, form_join, form_aggregate}
use Rattle.plan.specs.declared.Plan.{Plan}
use Rattle.plan.specs.Plans.{view_of, view_limits, no_plan, with_rows, with_pick, with_keep, with_join, with_aggregate, with_view, plan_in, form_regular, regular, plan_streams}
use Rattle.plan.proofs.Steps.{step_rows, step_pick, step_keep, step_join, step_aggregate, step_view}
use Rattle.plan.proofs.Meaning.{Kind, k_rows, k_pick, k_keep, k_join, k_aggregate, k_under, kind_of, form_under, regular_pick, regular_keep, regular_join, regular_aggregate, regular_under, one_less}

-- the OFFSET of a query's aggregate, 0 where it has none
unfoldable pub query_offset : {S : Type 0} → Query S → ℕ
query_offset (source s) = 0
query_offset (pick c q) = query_offset q
query_offset (keep cs q) = query_offset q
query_offset (join a b q r) = 0
query_offset (aggregate f c size offset q) = offset

module _ (w : Words) (ns : List ℕ) where
  abbrev hs : ℕ → List Col
  hs = columns_of (schema_of ns)

  pub record Shape (q : Query ℕ) (p : Plan) : Type 0 where
    pub streams : sources q ≡ plan_streams p
    pub alone : T (side q) → p.joined ≡ false
    pub equality : p.joined ≡ true → T (linked (coded_col p.first) (coded_col p.second) (hs p.left) (hs p.right))
    pub column : T (not (no_aggregate q)) → T (has (gather hs (sources q)) (coded_col p.column))
    pub span : T (sized q) → T (not (no_aggregate q)) → T (fitting p.size p.offset)
    pub offset : T (not (no_aggregate q)) → p.offset ≡ query_offset q

  pub streams_alone : (p : Plan) → p.joined ≡ false → plan_streams p ≡ p.left ∷ []
  unfolding plan_streams
  streams_alone p e = rw e refl

  pub streams_joined : (p : Plan) → p.joined ≡ true → plan_streams p ≡ p.left ∷ (p.right ∷ [])
  unfolding plan_streams
  streams_joined p e = rw e refl

  -- the stream of a side
  lone : (q : Query ℕ) (p : Plan) → Shape q p → T (side q) → stream q ≡ p.left
  lone q p s t =
      let e : stream q ∷ [] ≡ p.left ∷ [] = sym (side_sources q t) ∙ s.streams ∙ streams_alone p (s.alone t) in
      cc

  -- ---- form by form

  shape_rows : (f : Form) (p : Plan) → Shape (source f.first) (with_rows ns f p)
  unfolding with_rows sources plan_streams no_aggregate side
  shape_rows f p = record { streams = refl; alone = λ t. refl; equality = λ e. absurd (subst (λ b. T (not b)) e tt); column = λ t. absurd t; span = λ z t. absurd t; offset = λ t. absurd t }

  module _ (f : Form) (q : Query ℕ) (p : Plan) (s : Shape q p) where
    shape_pick : (c : Cond Compare) → Shape (pick c q) (with_pick f p)
    unfolding with_pick sources plan_streams no_aggregate side sized query_offset
    shape_pick c = record { streams = s.streams; alone = s.alone; equality = s.equality; column = s.column; span = s.span; offset = s.offset }

    shape_keep : (cs : List Col) → Shape (keep cs q) (with_keep f p)
    unfolding with_keep sources plan_streams no_aggregate side sized query_offset
    shape_keep cs = record { streams = s.streams; alone = s.alone; equality = s.equality; column = s.column; span = s.span; offset = s.offset }

    shape_under : (cs : List (Cond Compare)) → Shape (under cs q) (with_view f p)
    unfolding under with_view sources plan_streams no_aggregate side sized query_offset
    shape_under [] = record { streams = s.streams; alone = s.alone; equality = s.equality; column = s.column; span = s.span; offset = s.offset }
    shape_under (c ∷ cs) = record { streams = s.streams; alone = s.alone; equality = s.equality; column = s.column; span = s.span; offset = s.offset }

    shape_aggregate : T (no_aggregate q) → T (allowed hs q) → T (has (header hs q) (coded_col f.second))
        → Shape (aggregate (numbered_fn f.first) (coded_col f.second) f.third f.fourth q) (with_aggregate f p)
    unfolding with_aggregate sources plan_streams no_aggregate side sized query_offset
    shape_aggregate n a h =
        record {
          streams = s.streams;
          alone = λ t. absurd t;
          equality = s.equality;
          column = λ t. has_within (coded_col f.second) (gather hs (sources q)) (header hs q) (header_in (schema_of ns) q n a) h;
          span = λ z t. search parts;
          offset = λ t. refl;
        }

    shape_join : (r : Query ℕ) → T (side q) → T (side r) → T (allowed hs q) → T (allowed hs r) → stream r ≡ p.right → T (linked (coded_col f.first) (coded_col f.second) (header hs q) (header hs r))
        → Shape (join (coded_col f.first) (coded_col f.second) q r) (with_join f p)
    unfolding with_join sources plan_streams no_aggregate side sized query_offset
    shape_join r t u a b e l =
        let x = lone q p s t in
        record {
          streams = ap₂ ◌++◌ (side_sources q t) (side_sources r u) ∙ ap₂ (λ i j. i ∷ (j ∷ [])) x e;
          alone = λ v. absurd v;
          equality = λ v.
              linked_in (coded_col f.first) (coded_col f.second) (header hs q) (header hs r) (hs p.left) (hs p.right)
              (rw x at (side_within hs q t a)) (rw e at (side_within hs r u b)) l;
          column = λ v. absurd (none (no_aggregate q) (no_aggregate r) (side_free q t) (side_free r u) v);
          span = λ z v. absurd (none (no_aggregate q) (no_aggregate r) (side_free q t) (side_free r u) v);
          offset = λ v. absurd (none (no_aggregate q) (no_aggregate r) (side_free q t) (side_free r u) v);
        }
      where
        none : (i j : Bool) → T i → T j → T (not (i && j)) → ⊥
        none true true a b c = c
        none true false a b c = b
        none false j a b c = a

  -- ---- the whole table

  pub record Shaped (qs : List (Query ℕ)) (p : Plan) : Type 0 where
    pub top : 1 ≤ length qs → T (allowed hs (outer qs)) → Shape (outer qs) p
    pub behind : 2 ≤ length qs → T (side (outer (inner qs))) → T (allowed hs (outer (inner qs))) → T (side (outer qs)) → stream (outer (inner qs)) ≡ p.right

  module _ (f : Form) (qs : List (Query ℕ)) (p : Plan) (y : Shaped qs p) where
    shaped_rows : Shaped (source f.first ∷ qs) (with_rows ns f p)
    unfolding outer inner
    shaped_rows = record { top = λ l a. shape_rows f p; behind = λ l t a u. lone (outer qs) p (y.top (omega arith) a) t ∙ right_is }
      where
        right_is : p.left ≡ (with_rows ns f p).right
        right_is = unfold with_rows in refl

    module _ (h : 1 ≤ length qs) where
      more : 2 ≤ suc (length (inner qs)) → 2 ≤ length qs
      more l = let e = one_less qs h in omega arith

      shaped_pick : (c : Cond Compare) → Shaped (pick c (outer qs) ∷ inner qs) (with_pick f p)
      unfolding outer inner allowed side with_pick
      shaped_pick c = record { top = λ l a. shape_pick f (outer qs) p (y.top h (search parts)) c; behind = λ l t a u. y.behind (more l) t a u }

      shaped_keep : (cs : List Col) → Shaped (keep cs (outer qs) ∷ inner qs) (with_keep f p)
      unfolding outer inner allowed side with_keep
      shaped_keep cs = record { top = λ l a. shape_keep f (outer qs) p (y.top h (search parts)) cs; behind = λ l t a u. y.behind (more l) t a u }

      shaped_under : (cs : List (Cond Compare)) → Shaped (under cs (outer qs) ∷ inner qs) (with_view f p)
      unfolding outer inner under allowed side with_view
      shaped_under [] = record { top = λ l a. shape_under f (outer qs) p (y.top h a) []; behind = λ l t a u. y.behind (more l) t a u }
      shaped_under (c ∷ cs) = record { top = λ l a. shape_under f (outer qs) p (y.top h (search parts)) (c ∷ cs); behind = λ l t a u. y.behind (more l) t a u }

      shaped_aggregate : Shaped (aggregate (numbered_fn f.first) (coded_col f.second) f.third f.fourth (outer qs) ∷ inner qs) (with_aggregate f p)
      unfolding outer inner allowed side
      shaped_aggregate = record { top = λ l a. shape_aggregate f (outer qs) p (y.top h (search parts)) (search parts) (search parts) (search parts); behind = λ l t a u. absurd u }

    shaped_join : 2 ≤ length qs → Shaped (join (coded_col f.first) (coded_col f.second) (outer qs) (outer (inner qs)) ∷ inner (inner qs)) (with_join f p)
    unfolding outer inner allowed side
    shaped_join h =
        record {
          top = λ l a.
              let t : T (side (outer qs)) = search parts in
              let u : T (side (outer (inner qs))) = search parts in
              let b : T (allowed hs (outer qs)) = search parts in
              let c : T (allowed hs (outer (inner qs))) = search parts in
              shape_join f (outer qs) p (y.top (omega arith) b) (outer (inner qs)) t u b c (y.behind h u c t) (search parts);
          behind = λ l t a u. absurd u;
        }

  shaped_none : Shaped [] no_plan
  shaped_none = record { top = λ h a. absurd (omega arith); behind = λ h t a u. absurd (omega arith) }

  module _ (f : Form) (fs : List Form) where
    abbrev qs : List (Query ℕ)
    qs = queries_in w fs

    move : {xs ys : List (Query ℕ)} {p q : Plan} → xs ≡ ys → p ≡ q → Shaped ys q → Shaped xs p
    move e g y = rw (e, g) y

    one_of : (b : Bool) → T (leb 1 (length qs) && b) → 1 ≤ length qs
    one_of b t = leb→le 1 (length qs) (and_l (leb 1 (length qs)) b t)

    step : Kind f → T (form_regular w ns f fs) → Shaped qs (plan_in ns fs) → Shaped (queries_in w (f ∷ fs)) (plan_in ns (f ∷ fs))
    unfolding queries_in plan_in
    step (k_rows e) t y = move (form_rows w f qs e) (sym (step_rows ns f (plan_in ns fs) e refl)) (shaped_rows f qs (plan_in ns fs) y)
    step (k_pick e) t y = move (form_pick w f qs e) (sym (step_pick ns f (plan_in ns fs) e refl)) (shaped_pick f qs (plan_in ns fs) y (regular_pick w ns f fs e t) _)
    step (k_keep e) t y = move (form_keep w f qs e) (sym (step_keep ns f (plan_in ns fs) e refl)) (shaped_keep f qs (plan_in ns fs) y (one_of _ (regular_keep w ns f fs e t)) _)
    step (k_join e) t y = move (form_join w f qs e) (sym (step_join ns f (plan_in ns fs) e refl)) (shaped_join f qs (plan_in ns fs) y (regular_join w ns f fs e t))
    step (k_aggregate e) t y = move (form_aggregate w f qs e) (sym (step_aggregate ns f (plan_in ns fs) e refl)) (shaped_aggregate f qs (plan_in ns fs) y (one_of _ (regular_aggregate w ns f fs e t)))
    step (k_under h) t y =
        move (form_under w f qs h) (sym (step_view ns f (plan_in ns fs) (λ u. omega arith) (λ u. omega arith) (λ u. omega arith) (λ u. omega arith) (λ u. omega arith) refl))
        (shaped_under f qs (plan_in ns fs) y (one_of _ (regular_under w ns f fs h t)) (view_limits w (view_of f)))

  shaped : (fs : List Form) → T (regular w ns fs) → Shaped (queries_in w fs) (plan_in ns fs)
  unfolding regular
  shaped [] t = unfold queries_in plan_in in shaped_none
  shaped (f ∷ fs) t = step f fs (kind_of f) (search parts) (shaped fs (search parts))

  -- the plan of regular forms is that of their query
  pub plan_shape : (fs : List Form) → T (regular w ns fs) → 1 ≤ length (queries_in w fs) → T (allowed hs (query_in w fs)) → Shape (query_in w fs) (plan_in ns fs)
  unfolding query_in
  plan_shape fs t l a = (shaped fs t).top l a
