-- What a caller's answers depend on: the views and figures that are theirs, and nothing else of the record.
use mathlib.Core.Path.{◌≡◌, refl, sym, ap, ap₂, ◌∙◌, fun_ext}
use mathlib.Core.List.{List, [], ◌∷◌, map, map-map}
use mathlib.Core.Bool.{Bool, true, false, cond}
use Prim.Native.Nat.{ℕ, ◌+◌, ◌*◌}
use native.Mathlib.Omega.{arith}
use lib.IntN.{ℤ, pos, negsuc}
use lib.ListN.{length}
use lib.Dec.{T, leb, le→leb}
use Rattle.lists.specs.Lists.{select, gather, empty?}
use Rattle.lists.proofs.Laws.{and_both, parts, All, all_select, all_weaken, gather_same, select_map}
use Rattle.syntax.specs.Grammar.{Cond, Fn}
use Rattle.syntax.specs.Limits.{top, not_above, natural}
use Rattle.model.specs.Queries.{Schema, Col, figure, columns_of, Compare, Query, source, pick, keep, join, aggregate, sources, picks, header, Grant, Caller, Row, Table, Record}
use Rattle.model.specs.Aggregates.{in_window, closed, answer_row, window, figures_of}
use Rattle.model.specs.Meaning.{value, picked, kept_row, kept, pairs, equality, aggregated, meaning}
use Rattle.model.specs.Grants.{belongs, shown_of, view, admitted}
use Rattle.model.specs.Checks.{has, no_aggregate, allowed, fitting, sized}
use Rattle.model.specs.Routes.{Source, Route, Numbered, present, picked_by, seen, single, columns, keeping, over_view, readable, summing, summed, routes}
use Rattle.model.specs.Answers.{route_table, table_cells, answer_cells}
use Rattle.model.proofs.Cuts.{value_map}
use Rattle.model.proofs.Columns.{has_within, empty_l, empty_r}
use Rattle.model.proofs.Ways.{has_over, by_form}
use Rattle.model.specs.Alike.{span_bounded, spans_bounded, ShowsSame, Alike}

-- ---- an aggregate over a keep of its column

pub aggregated_kept : (k : ℕ) (f : Fn) (c : Col) (size offset : ℕ) (cs : List Col) (t : Table) → T (has cs c)
    → aggregated k f c size offset (kept cs t) ≡ aggregated k f c size offset t
unfolding aggregated kept figures_of window in_window kept_row
aggregated_kept k f c size offset cs t h = λ i. record { cols = figure ∷ []; rows = gather (same i) (closed k size offset) }
  where
    same : window f (λ r. value cs r.values c) size offset (map (kept_row t.cols cs) t.rows) ≡ window f (λ r. value t.cols r.values c) size offset t.rows
    same = fun_ext (λ j. ap (answer_row f (j * offset + size))
        (ap (map (λ r. value cs r.values c)) (select_map (in_window size offset j) (kept_row t.cols cs) t.rows)
        ∙ map-map (λ r. value cs r.values c) (kept_row t.cols cs) (select (in_window size offset j) t.rows)
        ∙ ap (λ v. map v (select (in_window size offset j) t.rows)) (fun_ext (λ r. value_map (value t.cols r.values) c cs h))))

module _ (k : ℕ) (d : Schema) (tab : Grant → Table) (n : Numbered) (f : Fn) (c : Col) (size offset : ℕ) (shown : T (has (shown_of d n.grant) c)) where
  abbrev pub over : Query Source → Table
  over q = meaning k (λ (s : Source). tab s.grant) q

  -- over keeps alone the aggregate is that of the view
  pub over_kept : (q : Query ℕ) → T (allowed (columns_of d) q) → T (no_aggregate q) → T (empty? (picks q)) → T (has (header (columns_of d) q) c)
      → aggregated k f c size offset (over (over_view d q n)) ≡ aggregated k f c size offset (tab n.grant)
  unfolding allowed no_aggregate header columns over_view keeping seen meaning picks empty? picked_by
  over_kept (source s) w a e h = refl
  over_kept (pick p q) w a e h = absurd e
  over_kept (keep cs q) w a e h =
      aggregated_kept k f c size offset (present (columns d (over_view d q n)) cs) (over (over_view d q n)) (has_over d n c shown (keep cs q) w a h)
      ∙ over_kept q (search parts) a e (has_within c (header (columns_of d) q) cs (search parts) h)
  over_kept (join x y q r) w a e h =
      aggregated_kept k f c size offset _ _ (has_over d n c shown (join x y q r) w a h)
      ∙ ap₂ (λ ps qs. aggregated k f c size offset (over (picked_by ps (picked_by qs (seen (join x y q r) n))))) (empty_r (picks q) (picks r) e) (empty_l (picks q) (picks r) e)
  over_kept (aggregate g e s o q) w a i h = absurd a

  pub over_summed : (q : Query ℕ) → T (allowed (columns_of d) q) → T (no_aggregate q) → T (empty? (picks q)) → T (has (header (columns_of d) q) c)
      → aggregated k f c size offset (over (summed d q n)) ≡ aggregated k f c size offset (tab n.grant)
  unfolding summed seen meaning
  over_summed q w a e h = go (single (sources q))
    where
      go : (b : Bool) → aggregated k f c size offset (over (cond b (seen q n) (over_view d q n))) ≡ aggregated k f c size offset (tab n.grant)
      go true = refl
      go false = over_kept q w a e h

-- ---- the claim, of two records that have the clock and the streams in common

module _ (k : ℕ) (d : Schema) (xs ys : List (List Row)) (who : Caller) (catalogue : List Grant) where
  abbrev X : Record
  X = record { clock = k; schema = d; rows = xs }

  abbrev Y : Record
  Y = record { clock = k; schema = d; rows = ys }

  abbrev Agree : Query Source → Type 0
  Agree q = meaning k (λ (s : Source). view X who s.grant) q ≡ meaning k (λ (s : Source). view Y who s.grant) q

  agree_seen : (q : Query ℕ) (n : Numbered) → (T (belongs who n.grant) → ShowsSame X Y who n.grant) → T (belongs who n.grant)
      → T (allowed (columns_of d) q) → T (readable d q n.grant) → Agree (seen q n)
  unfolding seen meaning view kept readable
  agree_seen q n s b w h = λ i. record { cols = shown_of d n.grant; rows = (s b).rows_same (search parts) i }

  agree_figures : (f : Fn) (c : Col) (size offset : ℕ) (q : Query ℕ) (n : Numbered) → (T (belongs who n.grant) → ShowsSame X Y who n.grant) → T (belongs who n.grant)
      → T (allowed (columns_of d) (aggregate f c size offset q)) → T (fitting size offset) → T (span_bounded size offset) → T (summing d f c size offset q n.grant) → Agree (aggregate f c size offset (summed d q n))
  unfolding meaning allowed summing aggregated admitted span_bounded
  agree_figures f c size offset q n s b w z m h =
      over_summed k d (view X who) n f c size offset (search parts) q (search parts) (search parts) (search parts) (search parts)
      ∙ same
      ∙ sym (over_summed k d (view Y who) n f c size offset (search parts) q (search parts) (search parts) (search parts) (search parts))
    where
      same : aggregated k f c size offset (view X who n.grant) ≡ aggregated k f c size offset (view Y who n.grant)
      same = λ i. record { cols = figure ∷ []; rows = (s b).figures_same f (search parts) c (search parts) size offset (search parts) (search parts) (search parts) (search parts) (search parts) i }

  agree_picks : (ps : List (Cond Compare)) (q : Query Source) → Agree q → Agree (picked_by ps q)
  unfolding picked_by meaning
  agree_picks [] q h = h
  agree_picks (p ∷ ps) q h = ap (picked p) (agree_picks ps q h)

  agree : (q : Query ℕ) → T (allowed (columns_of d) q) → T (sized q) → T (spans_bounded q) → All (λ g. T (belongs who g) → ShowsSame X Y who g) catalogue
      → All (λ (r : Route). route_table X who r ≡ route_table Y who r) (routes d who catalogue q)
  unfolding route_table routes meaning keeping over_view allowed sized spans_bounded
  agree q w z m h =
      all_select _ (λ x t p. p w z m)
      (by_form d who catalogue (λ g. T (belongs who g) → ShowsSame X Y who g) h (λ q gs x. T (allowed (columns_of d) q) → T (sized q) → T (spans_bounded q) → Agree x)
      (λ s n k b t w z m. agree_seen (source s) n k b w t)
      (λ c q gs x t i w z m. ap (picked c) (i (search parts) z m))
      (λ cs q gs x i w z m. ap (kept _) (i (search parts) z m))
      (λ a b q r gs hs x y t i j w z m. ap₂ (λ t u. picked (equality a b) (pairs t u)) (i (search parts) (search parts) (search parts)) (j (search parts) (search parts) (search parts)))
      (λ a b q r n k o t w z m. ap (kept _) (agree_picks (picks r) _ (agree_picks (picks q) _ (agree_seen (join a b q r) n k o w t))))
      (λ f c size offset q gs x t i w z m. ap (aggregated k f c size offset) (i (search parts) (search parts) (search parts)))
      (λ f c size offset q n k b t w z m. agree_figures f c size offset q n k b w (search parts) (search parts) t) q)

-- ---- the claim

-- Records that are alike for a caller give every route the same rows.
pub same_tables : (x y : Record) (who : Caller) (catalogue : List Grant) → Alike x y who catalogue → (q : Query ℕ) → T (allowed (columns_of x.schema) q) → T (sized q) → T (spans_bounded q)
    → All (λ (r : Route). route_table x who r ≡ route_table y who r) (routes x.schema who catalogue q)
same_tables x y who catalogue a q w z m =
    rw moved at (agree x.clock x.schema x.rows y.rows who catalogue q w z m (rw (← moved) at a.shown))
  where
    -- y, built with the clock and the streams of x
    moved : ◌≡◌ {A = Record} (record { clock = x.clock; schema = x.schema; rows = y.rows }) y
    moved = λ i. record { clock = a.clocks i; schema = a.schemas i; rows = y.rows }

-- And the same cells.
pub same_cells : (x y : Record) (who : Caller) (catalogue : List Grant) → Alike x y who catalogue → (q : Query ℕ) → T (allowed (columns_of x.schema) q) → T (sized q) → T (spans_bounded q)
    → answer_cells x who (routes x.schema who catalogue q) ≡ answer_cells y who (routes y.schema who catalogue q)
unfolding answer_cells
same_cells x y who catalogue a q w z m =
    ap (λ zs. pos (length (routes x.schema who catalogue q)) ∷ zs) (gather_same (all_weaken (λ r e. ap (table_cells r.grants) e) (same_tables x y who catalogue a q w z m)))
    ∙ ap (λ d. answer_cells y who (routes d who catalogue q)) a.schemas

-- a SIZE and an OFFSET as they are written, that check 3 lets through
pub written_span : (size offset : ℤ) → T (not_above size) → T (not_above offset) → T (span_bounded (natural size) (natural offset))
unfolding span_bounded
written_span size offset h k = and_both (leb (natural size) top) (leb (natural offset) top) (bounded size h) (bounded offset k)
  where
    bounded : (z : ℤ) → T (not_above z) → T (leb (natural z) top)
    bounded (pos n) h = unfold not_above natural in h
    bounded (negsuc n) h = unfold natural in le→leb 0 top (omega arith)
