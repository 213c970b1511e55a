-- The plan of a route's table asks for exactly the rows of the route's rewritten query.
use mathlib.Core.Path.{◌≡◌, refl, sym, ap, ◌∙◌}
use mathlib.Core.List.{List, [], ◌∷◌}
use mathlib.Core.Bool.{not}
use Prim.Native.Nat.{ℕ, ◌≤◌}
use native.Mathlib.Omega.{arith}
use lib.Bits.{bit_or}
use lib.Dec.{T, ltb, eqb→eq}
use lib.ListN.{length}
use Rattle.lists.specs.Lists.{every, distinct}
use Rattle.lists.proofs.Laws.{All, all_both, all_weaken, and_l, and_both, parts, append_nil}
use Rattle.syntax.specs.Limits.{max_forms, max_rewritten}
use Rattle.model.specs.Queries as M
use Rattle.model.specs.Queries.{same_col, columns_of, Caller, sources, Record}
use Rattle.model.specs.Meaning.{table_of, plain}
use Rattle.model.specs.Checks.{no_aggregate, allowed, placed, sized, keeps, grant_placed}
use Rattle.model.specs.Routes.{Source, Route, Numbered, over_view, routes}
use Rattle.model.specs.Rewriting.{defined, expand, rewritten}
use Rattle.model.proofs.Widths.{Wide}
use Rattle.model.proofs.Accepted.{accepted, sources_rewritten}
use Rattle.model.proofs.Keeps.{keeps_distinct}
use Rattle.schema.specs.Schemas.{streams_in, schema_of}
use Rattle.query.specs.Forms.{Words, query_in}
use Rattle.query.specs.Shapes.{has_number, depth, formed, one_query}
use Rattle.query.specs.Tables.{table_words, rewritten_forms, rewritten_table}
use Rattle.query.specs.declared.Form.{Form}
use Rattle.query.proofs.Shapes.{one_laid}
use Rattle.query.proofs.Rewritten.{table_forms}
use Rattle.rewrite.specs.declared.Restriction.{Restriction}
use Rattle.rewrite.specs.Rewrites.{cut_forms, side_forms, pair_forms, sum_forms}
use Rattle.rewrite.specs.Routed.{over_sides, over_sum, Stands}
use Rattle.rewrite.proofs.Shown.{declared_all}
use Rattle.rewrite.proofs.SideBySide.{cut_long, one_side, two_sides}
use Rattle.rewrite.proofs.OnPair.{pair_long, on_pair, sum_on_pair}
use Rattle.rewrite.proofs.OneStream.{sum_long, on_stream}
use Rattle.plan.specs.Plans.{plan_in, planned, regular, pick_count}
use Rattle.plan.proofs.Meaning.{plan_means}
use Rattle.plan.proofs.Regular.{told, told_laid}
use Rattle.plan.proofs.Rewriter.{cut_depth, cut_regular, pair_depth, pair_regular, sum_depth, sum_regular}
use Rattle.plan.proofs.Picks.{picks_most, cut_picks, pair_picks, sum_picks}

-- ---- any table

-- forms that have a plan: some, not too many for a table, regular, and with no more conditions than a plan holds
pub record Plannable (w : Words) (ns : List ℕ) (fs : List Form) : Type 0 where
  pub some : 1 ≤ depth fs
  pub room : length fs ≤ max_rewritten
  pub regularly : T (regular w ns fs)
  pub few : pick_count fs ≤ max_forms

-- a query that a record can be asked: it passes check 4, keeps no column twice, and the rows of its streams have a value for each column
pub record Asked (x : Record) (q : M.Query ℕ) : Type 0 where
  pub placing : T (placed x.schema q)
  pub once : T (keeps (distinct same_col) q)
  pub wide : All (λ s. Wide (table_of x s)) (sources q)

-- a route's rewritten query is one
pub route_asked : (x : Record) (who : Caller) (catalogue : List M.Grant) → All (λ (g : M.Grant). T (grant_placed x.schema g)) catalogue → (q : M.Query ℕ) → Asked x q → T (sized q)
    → All (λ (r : Route). Asked x (rewritten x.schema who r)) (routes x.schema who catalogue q)
route_asked x who catalogue gs q a z =
    all_weaken (λ r h. record { placing = h.0; once = h.1.0; wide = rw h.1.1 a.wide })
    (all_both (accepted x.schema who catalogue gs q a.placing z)
    (all_both (keeps_distinct x.schema who catalogue q a.placing a.once) (sources_rewritten x.schema who catalogue q)))

module _ (w : Words) (ns : List ℕ) (x : Record) (declared : x.schema ≡ schema_of ns) where
  forms_mean : (fs : List Form) → 1 ≤ depth fs → T (regular w ns fs) → pick_count fs ≤ max_forms → Asked x (query_in w fs) → planned x w (plan_in ns fs) ≡ plain x (query_in w fs)
  forms_mean [] h t l a = unfold depth in absurd (omega arith)
  forms_mean (f ∷ fs) h t l a = sym (plan_means w ns x declared f fs t l (rw declared at a.placing) a.once a.wide)

  pub table_means : (lent : List ℕ) → table_words ≤ length lent → (fs : List Form) (q : M.Query ℕ) → Plannable w ns fs → query_in w (rewritten_forms (rewritten_table lent fs)) ≡ q → Asked x q → planned x w (plan_in ns (rewritten_forms (rewritten_table lent fs))) ≡ plain x q
  table_means lent room fs q p e a =
      let t = table_forms lent fs room p.room in
      let i : query_in w fs ≡ q = sym (ap (query_in w) t) ∙ e in
      ap (λ l. planned x w (plan_in ns l)) t ∙ (forms_mean fs p.some p.regularly p.few (rw i a) ∙ ap (plain x) i)

  -- the rewritten query of a route by its query over views
  pub route_query : (who : Caller) (r : Route) (v : M.Query Source) → r.query ≡ v → rewritten x.schema who r ≡ expand (defined (schema_of ns) who) v
  unfolding rewritten
  route_query who r v e = rw (declared, e)

-- ---- the tables of the rewriter

-- a query's table: of one query that passes check 4, its streams declared, and each aggregate with its number
module _ (w : Words) (ns : List ℕ) (fs : List Form) (one : T (one_query fs)) (few : length fs ≤ max_forms) (placing : T (placed (schema_of ns) (query_in w fs))) (numbers : T (every has_number fs))
    (streams : T (declared_all ns (sources (query_in w fs)))) where
  each_told : T (every (told ns) fs)
  each_told = told_laid ns (one_laid w fs one) streams numbers

  are_formed : T (formed fs)
  unfolding one_query
  are_formed = search parts

  deep : depth fs ≡ 1
  unfolding one_query
  deep = eqb→eq (depth fs) 1 (search parts)

  fits : T (allowed (columns_of (schema_of ns)) (query_in w fs))
  unfolding placed
  fits = search parts

  pub sides_plannable : (g h : Restriction) → length (sources (query_in w fs)) ≤ 2 → Plannable w ns (side_forms ns g h fs)
  unfolding side_forms
  sides_plannable g h k =
      let mask = bit_or g.shown h.shown in
      let d = deep in
      let c = picks_most fs in
      let long = rw (append_nil fs) at (cut_long (one_laid w fs one) ns mask g h []) in
      let none : cut_forms ns mask h h [] ≡ [] = unfold cut_forms in refl in
      let i = cut_depth w ns mask g h fs in
      let j = cut_picks ns mask g h fs in
      let n : length (cut_forms ns mask h h []) ≡ 0 = ap length none in
      record {
        some = omega arith;
        room = omega arith;
        regularly = cut_regular w ns mask g h fs are_formed each_told;
        few = omega arith;
      }

  pub pair_plannable : (g : Restriction) → Plannable w ns (pair_forms ns g fs)
  pair_plannable g =
      let d = deep in
      let c = picks_most fs in
      let long = pair_long ns g (one_laid w fs one) (columns_of (schema_of ns)) fits in
      let j = pair_picks ns g fs in
      record {
        some = pair_depth w ns g fs are_formed (omega arith);
        room = omega arith;
        regularly = pair_regular w ns g fs are_formed each_told;
        few = omega arith;
      }

  pub sum_plannable : (g : Restriction) → T (not (no_aggregate (query_in w fs))) → Plannable w ns (sum_forms ns g fs)
  sum_plannable g u =
      let c = picks_most fs in
      let l = one_laid w fs one in
      let long = sum_long ns g l (columns_of (schema_of ns)) fits u in
      let j = sum_picks ns g fs in
      record {
        some = sum_depth w ns g (columns_of (schema_of ns)) l fits u;
        room = omega arith;
        regularly = sum_regular w ns g (columns_of (schema_of ns)) l fits u each_told;
        few = omega arith;
      }

-- ---- the routes

module _ (ns : List ℕ) (w : Words) (who : Caller) (same : who.profile ≡ w.profile) (fs : List Form) (one : T (one_query fs)) (few : length fs ≤ max_forms) (placing : T (placed (schema_of ns) (query_in w fs)))
    (numbers : T (every has_number fs)) (x : Record) (declared : x.schema ≡ schema_of ns) (lent : List ℕ) (room : table_words ≤ length lent) where
  abbrev q : M.Query ℕ
  q = query_in w fs

  -- the rewritten query of a query over views
  abbrev pub over_streams : M.Query Source → M.Query ℕ
  over_streams v = expand (defined (schema_of ns) who) v

  -- a rewriter's forms: they have a plan, and their table is that of the rewritten query of a query over views
  pub record Made (forms : List Form) (v : M.Query Source) : Type 0 where
    pub plannable : Plannable w ns forms
    pub is : query_in w (rewritten_forms (rewritten_table lent forms)) ≡ over_streams v

  -- what the plan of such a table asks for
  pub made_planned : (forms : List Form) (v : M.Query Source) → Made forms v → Asked x (over_streams v) → planned x w (plan_in ns (rewritten_forms (rewritten_table lent forms))) ≡ plain x (over_streams v)
  made_planned forms v a k = table_means w ns x declared lent room forms (over_streams v) a.plannable a.is k

  first_declared : (s : ℕ) → T (declared_all ns (s ∷ [])) → T (ltb s (streams_in ns))
  unfolding every
  first_declared s t = and_l (ltb s (streams_in ns)) _ t

  both_declared : (s t : ℕ) → T (declared_all ns (s ∷ [])) → T (declared_all ns (t ∷ [])) → T (declared_all ns (s ∷ (t ∷ [])))
  unfolding every
  both_declared s t a b = and_both (ltb s (streams_in ns)) _ (first_declared s a) b

  -- a reading grant on the one stream
  pub one_side_made : (g : Restriction) (n : Numbered) (s : ℕ) → Stands ns w g n.grant → n.grant.of ≡ s ∷ [] → sources q ≡ s ∷ [] → Made (side_forms ns g g fs) (over_sides (schema_of ns) n n q)
  one_side_made g n s a o e =
      record {
        plannable = sides_plannable w ns fs one few placing numbers (rw (e, sym o) a.declared) g g (rw e (omega arith));
        is = one_side ns w who same fs one few placing lent room g n s a o e;
      }

  -- a reading grant on each of two streams
  pub two_sides_made : (g : Restriction) (n : Numbered) (h : Restriction) (m : Numbered) (s t : ℕ) → Stands ns w g n.grant → n.grant.of ≡ s ∷ [] → Stands ns w h m.grant → m.grant.of ≡ t ∷ [] → sources q ≡ s ∷ (t ∷ [])
      → Made (side_forms ns g h fs) (over_sides (schema_of ns) n m q)
  two_sides_made g n h m s t a o b p e =
      record {
        plannable = sides_plannable w ns fs one few placing numbers (rw e (both_declared s t (rw o at a.declared) (rw p at b.declared))) g h (rw e (omega arith));
        is = two_sides ns w who same fs one few placing lent room g n h m s t a o b p e;
      }

  module _ (g : Restriction) (n : Numbered) (a : Stands ns w g n.grant) (of : n.grant.of ≡ sources q) where
    theirs : T (declared_all ns (sources q))
    theirs = rw (sym of) a.declared

    -- a grant on the pair
    module _ (once : T (keeps (distinct same_col) q)) (two : length (sources q) ≡ 2) where
      pub pair_made : Made (pair_forms ns g fs) (over_view (schema_of ns) q n)
      pair_made = record { plannable = pair_plannable w ns fs one few placing numbers theirs g; is = on_pair ns w who same fs one few placing once g n a of two lent room }

      -- an aggregate grant on the pair
      pub sum_pair_made : Made (pair_forms ns g fs) (over_sum (schema_of ns) q n)
      sum_pair_made = record { plannable = pair_plannable w ns fs one few placing numbers theirs g; is = sum_on_pair ns w who same fs one few placing once g n a of two lent room }

    -- an aggregate grant on the one stream
    pub sum_stream_made : T (not (no_aggregate q)) → length (sources q) ≡ 1 → Made (sum_forms ns g fs) (over_sum (schema_of ns) q n)
    sum_stream_made u e = record { plannable = sum_plannable w ns fs one few placing numbers theirs g u; is = on_stream ns w who same fs one few placing u g n a of e lent room }
