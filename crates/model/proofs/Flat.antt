-- The flat form of a query's meaning: one table, the conditions above it, and one cut to the query's columns.
use mathlib.Core.Path.{◌≡◌, refl, sym, ap, ap₂, ◌∙◌, subst}
use mathlib.Core.List.{List, [], ◌∷◌, ◌++◌}
use mathlib.Core.Bool.{◌&&◌, not}
use Prim.Native.Nat.{ℕ}
use lib.Dec.{T, eqb, T_not}
use Rattle.lists.specs.Lists.{some?, gather, distinct}
use Rattle.lists.proofs.Laws.{parts, All, all_head, all_tail, all_both, all_weaken, and_both, append_nil}
use Rattle.syntax.specs.Grammar.{Fn, Cond}
use Rattle.model.specs.Queries.{Col, figure, same_col, columns_of, Compare, Query, source, pick, keep, join, aggregate, sources, picks, header, Grant, Caller, Table, Record}
use Rattle.model.specs.Meaning.{picked, kept, pairs, equality, aggregated, meaning, table_of, plain}
use Rattle.model.specs.Grants.{limited}
use Rattle.model.specs.Checks.{has, within, cond_cols, no_aggregate, side, allowed, placed, sized, grant_placed}
use Rattle.model.specs.Routes.{Route, columns, routes}
use Rattle.model.specs.Rewriting.{rewritten}
use Rattle.model.specs.Answers.{route_table}
use Rattle.model.proofs.Columns.{within_by, within_trans}
use Rattle.model.proofs.Distinct.{distinct_l, distinct_r, distinct_apart, gather_distinct}
use Rattle.model.proofs.Rewriting.{stream, side_sources, limited_none, rewriting}
use Rattle.model.proofs.Interference.{aggregated_kept}
use Rattle.model.proofs.Accepted.{line_columns, accepted, sources_rewritten}
use Rattle.model.proofs.Widths.{Wide, aggregated_wide}
use Rattle.model.proofs.OneRow.{linked_named}
use Rattle.model.proofs.Tables.{limited_one, limited_more, kept_again, picked_kept, kept_own, limited_wide, joined_kept}
use Rattle.model.proofs.Forms.{side_free}

-- ---- the flat form

module _ {S : Type 0} where
  -- the conditions above the base, outer first: those of the picks, then the equality of the join
  unfoldable pub upper : Query S → List (Cond Compare)
  upper (source s) = []
  upper (pick c q) = c ∷ upper q
  upper (keep cs q) = upper q
  upper (join a b q r) = equality a b ∷ []
  upper (aggregate f c size offset q) = []

  -- the table they are asked of: that of a source, the pairs of two sources' rows that meet the sides' conditions, or an aggregate's figures
  unfoldable pub base : ℕ → (S → Table) → Query S → Table
  base clock tab (source s) = tab s
  base clock tab (pick c q) = base clock tab q
  base clock tab (keep cs q) = base clock tab q
  base clock tab (join a b q r) = pairs (limited (picks q) (tab (stream q))) (limited (picks r) (tab (stream r)))
  base clock tab (aggregate f c size offset q) = aggregated clock f c size offset (limited (upper q) (base clock tab q))

  -- ---- of a side

  pub side_upper : (q : Query S) → T (side q) → upper q ≡ picks q
  unfolding side upper picks
  side_upper (source s) w = refl
  side_upper (pick c q) w = ap (λ cs. c ∷ cs) (side_upper q w)
  side_upper (keep cs q) w = side_upper q w
  side_upper (join a b q r) w = absurd w
  side_upper (aggregate f c size offset q) w = absurd w

  pub side_base : (clock : ℕ) (tab : S → Table) (q : Query S) → T (side q) → base clock tab q ≡ tab (stream q)
  unfolding side base stream
  side_base clock tab (source s) w = refl
  side_base clock tab (pick c q) w = side_base clock tab q w
  side_base clock tab (keep cs q) w = side_base clock tab q w
  side_base clock tab (join a b q r) w = absurd w
  side_base clock tab (aggregate f c size offset q) w = absurd w

-- ---- what holds of the sources' tables

-- a table has the columns, and each of its rows a value for each
pub record Fills (cs : List Col) (t : Table) : Type 0 where
  pub cols_are : t.cols ≡ cs
  pub rows_wide : Wide t

-- no column stands twice among those of the sources, and their tables have just these
pub record Based {S : Type 0} (hs : S → List Col) (tab : S → Table) (ss : List S) : Type 0 where
  pub once : T (distinct same_col (gather hs ss))
  pub filled : All (λ s. Fills (hs s) (tab s)) ss

-- ---- steps

source_step : (cs : List Col) (t : Table) → T (distinct same_col cs) → Fills cs t → t ≡ kept cs (limited [] t)
source_step cs t d f = sym (kept_own t (rw f.cols_are d) f.rows_wide) ∙ ap₂ kept f.cols_are (sym (limited_none t))

pick_step : (c : Cond Compare) (cs : List Col) (ps : List (Cond Compare)) (t u : Table) → T (within (cond_cols c) cs) → u ≡ kept cs (limited ps t) → picked c u ≡ kept cs (limited (c ∷ ps) t)
pick_step c cs ps t u w e = ap (picked c) e ∙ picked_kept c cs (limited ps t) w ∙ ap (kept cs) (limited_more c ps t)

keep_step : (es cs : List Col) (t u : Table) → T (within es cs) → u ≡ kept cs t → kept es u ≡ kept es t
keep_step es cs t u w e = ap (kept es) e ∙ kept_again es cs t w

module _ {S : Type 0} (hs : S → List Col) where
  -- the columns of a side are of its source
  pub side_within : (q : Query S) → T (side q) → T (allowed hs q) → T (within (header hs q) (hs (stream q)))
  unfolding side allowed header stream
  side_within (source s) w h = within_by (hs s) (hs s) (λ c t. t)
  side_within (pick c q) w h = side_within q w (search parts)
  side_within (keep cs q) w h = within_trans cs (header hs q) _ (search parts) (side_within q w (search parts))
  side_within (join a b q r) w h = absurd w
  side_within (aggregate f c size offset q) w h = absurd w

  -- where there is an aggregate, its figure is the only column
  pub figures_header : (q : Query S) → T (allowed hs q) → T (not (no_aggregate q)) → header hs q ≡ figure ∷ []
  unfolding allowed no_aggregate header
  figures_header (source s) h n = absurd n
  figures_header (pick c q) h n = figures_header q (search parts) n
  figures_header (keep cs q) h n = absurd (T_not (no_aggregate q) n (search parts))
  figures_header (join a b q r) h n =
      absurd (T_not (no_aggregate q && no_aggregate r) n (and_both (no_aggregate q) (no_aggregate r) (side_free q (search parts)) (side_free r (search parts))))
  figures_header (aggregate f c size offset q) h n = refl

-- ---- the meaning is the flat form

module _ {S : Type 0} (hs : S → List Col) (clock : ℕ) (tab : S → Table) where
  -- One source: the rows that meet all picks, cut to the query's columns.
  pub side_flat : (q : Query S) → T (side q) → T (allowed hs q) → T (distinct same_col (hs (stream q))) → Fills (hs (stream q)) (tab (stream q))
      → meaning clock tab q ≡ kept (header hs q) (limited (picks q) (tab (stream q)))
  unfolding side allowed meaning header picks stream
  side_flat (source s) w h d f = source_step (hs s) (tab s) d f
  side_flat (pick c q) w h d f = pick_step c (header hs q) (picks q) _ _ (search parts) (side_flat q w (search parts) d f)
  side_flat (keep cs q) w h d f = keep_step cs (header hs q) _ _ (search parts) (side_flat q w (search parts) d f)
  side_flat (join a b q r) w h d f = absurd w
  side_flat (aggregate f c size offset q) w h d e = absurd w

  -- A join: of the pairs of rows that meet the sides' picks, those with the equality, cut to the sides' columns.
  pub join_flat : (a b : Col) (q r : Query S) → T (allowed hs (join a b q r)) → T (distinct same_col (hs (stream q) ++ hs (stream r)))
      → Fills (hs (stream q)) (tab (stream q)) → Fills (hs (stream r)) (tab (stream r))
      → meaning clock tab (join a b q r)
      ≡ kept (header hs q ++ header hs r) (limited (equality a b ∷ []) (pairs (limited (picks q) (tab (stream q))) (limited (picks r) (tab (stream r)))))
  unfolding allowed meaning limited
  join_flat a b q r h d f g =
      ap₂ (λ t u. picked (equality a b) (pairs t u))
      (side_flat q (search parts) (search parts) (distinct_l same_col (hs (stream q)) (hs (stream r)) d) f)
      (side_flat r (search parts) (search parts) (distinct_r same_col (hs (stream q)) (hs (stream r)) d) g)
      ∙ joined_kept (equality a b) (header hs q) (header hs r) (limited (picks q) (tab (stream q))) (limited (picks r) (tab (stream r)))
      (rw (f.cols_are, g.cols_are) (distinct_apart (hs (stream q)) (hs (stream r)) d))
      (rw f.cols_are (side_within hs q (search parts) (search parts))) (rw g.cols_are (side_within hs r (search parts) (search parts)))
      (linked_named a b (header hs q) (header hs r) (search parts)) (limited_wide (picks q) (tab (stream q)) f.rows_wide)
      ∙ ap (kept (header hs q ++ header hs r)) (limited_one (equality a b) _)

  -- an aggregate does not see what is cut
  aggregate_step : (f : Fn) (c : Col) (size offset : ℕ) (q : Query S) → T (has (header hs q) c) → meaning clock tab q ≡ kept (header hs q) (limited (upper q) (base clock tab q))
      → meaning clock tab (aggregate f c size offset q) ≡ aggregated clock f c size offset (limited (upper q) (base clock tab q))
  unfolding meaning
  aggregate_step f c size offset q h e = ap (aggregated clock f c size offset) e ∙ aggregated_kept clock f c size offset (header hs q) _ h

  -- what a join needs of its sources
  joined : (q r : Query S) → T (side q) → T (side r) → Based hs tab (sources q ++ sources r)
      → T (distinct same_col (hs (stream q) ++ hs (stream r))) × Fills (hs (stream q)) (tab (stream q)) × Fills (hs (stream r)) (tab (stream r))
  unfolding gather
  joined q r w v b =
      let k = subst (Based hs tab) (ap₂ ◌++◌ (side_sources q w) (side_sources r v)) b in
      (subst (λ cs. T (distinct same_col (hs (stream q) ++ cs))) (append_nil (hs (stream r))) k.once, all_head k.filled, all_head (all_tail k.filled))

  -- Any allowed query.
  pub flat : (q : Query S) → T (allowed hs q) → Based hs tab (sources q) → meaning clock tab q ≡ kept (header hs q) (limited (upper q) (base clock tab q))
  unfolding allowed meaning header upper base sources gather
  flat (source s) h b = source_step (hs s) (tab s) (subst (λ cs. T (distinct same_col cs)) (append_nil (hs s)) b.once) (all_head b.filled)
  flat (pick c q) h b = pick_step c (header hs q) (upper q) _ _ (search parts) (flat q (search parts) b)
  flat (keep cs q) h b = keep_step cs (header hs q) _ _ (search parts) (flat q (search parts) b)
  flat (join l m q r) h b = let k = joined q r (search parts) (search parts) b in join_flat l m q r h k.0 k.1 k.2
  flat (aggregate f c size offset q) h b =
      aggregate_step f c size offset q (search parts) (flat q (search parts) b)
      ∙ source_step (figure ∷ []) _ (unfold distinct some? in tt) (record { cols_are = unfold aggregated in refl; rows_wide = aggregated_wide clock f c size offset _ })

  -- An aggregate: the figures of the rows that meet the conditions below it.
  pub aggregate_flat : (f : Fn) (c : Col) (size offset : ℕ) (q : Query S) → T (allowed hs (aggregate f c size offset q)) → Based hs tab (sources q)
      → meaning clock tab (aggregate f c size offset q) ≡ aggregated clock f c size offset (limited (upper q) (base clock tab q))
  unfolding allowed
  aggregate_flat f c size offset q h b = aggregate_step f c size offset q (search parts) (flat q (search parts) b)

  -- Where it has an aggregate there is nothing to cut: the figures that meet the picks above.
  pub outer_flat : (q : Query S) → T (allowed hs q) → T (not (no_aggregate q)) → Based hs tab (sources q) → meaning clock tab q ≡ limited (upper q) (base clock tab q)
  unfolding allowed no_aggregate meaning upper base sources
  outer_flat (source s) h n b = absurd n
  outer_flat (pick c q) h n b = ap (picked c) (outer_flat q (search parts) n b) ∙ limited_more c (upper q) (base clock tab q)
  outer_flat (keep cs q) h n b = absurd (T_not (no_aggregate q) n (search parts))
  outer_flat (join l m q r) h n b =
      absurd (T_not (no_aggregate q && no_aggregate r) n (and_both (no_aggregate q) (no_aggregate r) (side_free q (search parts)) (side_free r (search parts))))
  outer_flat (aggregate f c size offset q) h n b = aggregate_flat f c size offset q h b ∙ sym (limited_none _)

-- ---- of a record and of its routes

record_based : (x : Record) (ss : List ℕ) → T (distinct eqb ss) → All (λ s. Wide (table_of x s)) ss → Based (columns_of x.schema) (table_of x) ss
unfolding table_of
record_based x ss d w = record { once = gather_distinct x.schema ss d; filled = all_weaken (λ s h. record { cols_are = refl; rows_wide = h }) w }

-- A query that passes check 4.
pub plain_flat : (x : Record) (q : Query ℕ) → T (placed x.schema q) → All (λ s. Wide (table_of x s)) (sources q)
    → plain x q ≡ kept (header (columns_of x.schema) q) (limited (upper q) (base x.clock (table_of x) q))
unfolding plain placed
plain_flat x q h w = flat (columns_of x.schema) x.clock (table_of x) q (search parts) (record_based x (sources q) (search parts) w)

pub plain_outer : (x : Record) (q : Query ℕ) → T (placed x.schema q) → T (not (no_aggregate q)) → All (λ s. Wide (table_of x s)) (sources q)
    → plain x q ≡ limited (upper q) (base x.clock (table_of x) q)
unfolding plain placed
plain_outer x q h n w = outer_flat (columns_of x.schema) x.clock (table_of x) q (search parts) n (record_based x (sources q) (search parts) w)

-- the flat form of a route's rewritten query
abbrev pub line_flat : Record → Caller → Route → Table
line_flat x who r = let q = rewritten x.schema who r in kept (columns x.schema r.query) (limited (upper q) (base x.clock (table_of x) q))

module _ (x : Record) (who : Caller) (catalogue : List Grant) (gs : All (λ (g : Grant). T (grant_placed x.schema g)) catalogue)
    (q : Query ℕ) (h : T (placed x.schema q)) (z : T (sized q)) (w : All (λ s. Wide (table_of x s)) (sources q)) where
  -- The rewritten query of a route, over the streams.
  pub rewritten_flat : All (λ (r : Route). plain x (rewritten x.schema who r) ≡ line_flat x who r) (routes x.schema who catalogue q)
  rewritten_flat =
      all_weaken (λ r k. plain_flat x (rewritten x.schema who r) k.0 (rw k.1 w)
      ∙ ap (λ cs. kept cs (limited (upper (rewritten x.schema who r)) (base x.clock (table_of x) (rewritten x.schema who r)))) (unfold rewritten in line_columns x.schema who r.query))
      (all_both (accepted x.schema who catalogue gs q h z) (sources_rewritten x.schema who catalogue q))

  -- The rows of a route.
  pub route_flat : All (λ (r : Route). route_table x who r ≡ line_flat x who r) (routes x.schema who catalogue q)
  unfolding placed
  route_flat = all_weaken (λ r k. sym k.0 ∙ k.1) (all_both (rewriting x who catalogue q (search parts) z) rewritten_flat)
