-- A route answers the caller's own query: its rows are those that the query itself gives of the rows that the route's grants show, cut to the columns that they show.
use mathlib.Core.Path.{◌≡◌, refl, sym, ap, ap₂, ◌∙◌, subst}
use mathlib.Core.List.{List, [], ◌∷◌, ◌++◌, map, map-id}
use mathlib.Core.Bool.{Bool, true, false, cond}
use Prim.Native.Nat.{ℕ}
use lib.Dec.{T, eqb, eqb→eq}
use lib.ListN.{length, length-map}
use Rattle.lists.specs.Lists.{select, every, some?, empty?, gather, nth, distinct}
use Rattle.lists.proofs.Laws.{and_both, parts, All, all_head, all_any, all_select, all_weaken, all_map, all_gather, every_all, all_every, every_append_l, every_append_r, gather_same, select_map, map_same, select_every}
use Rattle.lists.proofs.Gathers.{gather_map, map_gather, select_gather, gather_select, map_none}
use Rattle.syntax.specs.Grammar.{Cond, Fn}
use Rattle.model.specs.Queries.{Schema, Col, figure, same_col, columns_of, Compare, Query, source, pick, keep, join, aggregate, sources, picks, header, Grant, Caller, Row, Table, Record}
use Rattle.model.specs.Meaning.{holds, picked, kept_row, kept, both, pairs, aggregated, meaning, table_of, plain}
use Rattle.model.specs.Grants.{view}
use Rattle.model.specs.Checks.{has, within, cond_cols, no_aggregate, allowed, placed}
use Rattle.model.specs.Routes.{equated, covers, Source, Route, Numbered, columns, over_view, readable, summing, summed, ways, routes}
use Rattle.model.specs.Answers.{route_table}
use Rattle.model.proofs.Asked.{Rows, one_each, with_rows, all_show, by_row, own, shown_by, left, grants_at, full, joins_by, open_to}
use Rattle.model.proofs.Columns.{empty_nil, within_by}
use Rattle.model.proofs.Distinct.{distinct_l, distinct_r, columns_distinct}
use Rattle.model.proofs.Cuts.{kept_kept, kept_self, kept_both}
use Rattle.model.proofs.Ways.{has_over, by_form}
use Rattle.model.proofs.Interference.{aggregated_kept, over_kept, over_summed}
use Rattle.model.proofs.Widths.{aggregated_wide}
use Rattle.model.proofs.Rowwise.{Each, each_lone, rowwise_plain}
use Rattle.model.proofs.OneRow.{Fills, table, table_cols, plain_cols}
use Rattle.model.proofs.Forms.{Asks, asks_source, asks_pick, asks_keep, asks_join, asks_pair, side_free, heads_apart}
use Rattle.model.proofs.Tables.{picked_kept}

-- ---- records whose rows have a value for each column

full_rows : (x : Record) (who : Caller) (ss : List ℕ) → T (full x ss) → Each (Fills x who) ss x.rows
unfolding full
full_rows x who ss h = all_weaken (λ s t. all_weaken (λ r u. eqb→eq (length r.values) _ u) (every_all _ (nth [] x.rows s) t)) (every_all _ ss h)

module _ (x : Record) (who : Caller) where
  -- ---- the query's own rows

  by_row_rows : (gs : List Grant) (q : Query ℕ)
      → (by_row x who gs q).rows ≡ gather (λ xs. cond (all_show who gs (with_rows x xs)) (plain (with_rows x xs) q).rows []) (one_each (sources q) x.rows)
  unfolding by_row
  by_row_rows gs q =
      ap (gather (λ y. (plain y q).rows)) (select_map (all_show who gs) (with_rows x) (one_each (sources q) x.rows))
      ∙ gather_map (λ y. (plain y q).rows) (with_rows x) (select (λ xs. all_show who gs (with_rows x xs)) (one_each (sources q) x.rows))
      ∙ gather_select (λ xs. (plain (with_rows x xs) q).rows) (λ xs. all_show who gs (with_rows x xs)) (one_each (sources q) x.rows)

  own_cols : (gs : List Grant) (q : Query ℕ) → (own x who gs q).cols ≡ header (columns_of x.schema) q
  unfolding own by_row header picked aggregated
  own_cols gs (source s) = refl
  own_cols gs (pick c q) = own_cols gs q
  own_cols gs (keep cs q) = refl
  own_cols gs (join a b q r) = refl
  own_cols gs (aggregate f c size offset q) = refl

  -- A query with no aggregate is answered row by row, its picks too.
  pub own_by_row : (gs : List Grant) (q : Query ℕ) → T (no_aggregate q) → own x who gs q ≡ by_row x who gs q
  unfolding own no_aggregate sources by_row picked header
  own_by_row gs (source s) a = refl
  own_by_row gs (pick c q) a = ap (picked c) (own_by_row gs q a) ∙ (λ i. record { cols = header (columns_of x.schema) q; rows = same i })
    where
      same : select (λ r. holds (header (columns_of x.schema) q) r c) (by_row x who gs q).rows ≡ (by_row x who gs (pick c q)).rows
      same =
          ap (select (λ r. holds (header (columns_of x.schema) q) r c)) (by_row_rows gs q)
          ∙ select_gather _ _ (one_each (sources q) x.rows)
          ∙ gather_same (all_weaken (λ xs u. each xs (all_show who gs (with_rows x xs))) (all_any (one_each (sources q) x.rows)))
          ∙ sym (by_row_rows gs (pick c q))
        where
          each : (xs : Rows) (b : Bool) → select (λ r. holds (header (columns_of x.schema) q) r c) (cond b (plain (with_rows x xs) q).rows []) ≡ cond b (plain (with_rows x xs) (pick c q)).rows []
          each xs true = unfold plain meaning picked in ap (λ cs. select (λ r. holds cs r c) (plain (with_rows x xs) q).rows) (sym (plain_cols x who q xs))
          each xs false = unfold select in refl
  own_by_row gs (keep cs q) a = refl
  own_by_row gs (join a b q r) h = refl
  own_by_row gs (aggregate f c size offset q) a = absurd a

  row_plain : (q : Query ℕ) → T (no_aggregate q) → T (distinct eqb (sources q)) → by_row x who [] q ≡ plain x q
  unfolding by_row
  row_plain q a u = λ i. record { cols = sym (plain_cols x who q x.rows) i; rows = same i }
    where
      each : (xs : Rows) → cond (all_show who [] (with_rows x xs)) (plain (with_rows x xs) q).rows [] ≡ (plain (with_rows x xs) q).rows
      each xs = unfold all_show every in refl

      same : (by_row x who [] q).rows ≡ (plain x q).rows
      same = by_row_rows [] q ∙ gather_same (all_weaken (λ xs t. each xs) (all_any (one_each (sources q) x.rows))) ∙ sym ((rowwise_plain x q a u).spread x.rows)

  -- With no grant that keeps a row back it is the plain meaning.
  pub own_plain : (q : Query ℕ) → T (allowed (columns_of x.schema) q) → T (distinct eqb (sources q)) → own x who [] q ≡ plain x q
  unfolding own plain meaning allowed sources
  own_plain (source s) w u = row_plain (source s) (unfold no_aggregate in tt) u
  own_plain (pick c q) w u = ap (picked c) (own_plain q (search parts) u)
  own_plain (keep cs q) w u = row_plain (keep cs q) (unfold no_aggregate in search parts) u
  own_plain (join a b q r) w u = row_plain (join a b q r) (unfold no_aggregate in and_both (no_aggregate q) (no_aggregate r) (side_free q (search parts)) (side_free r (search parts))) u
  own_plain (aggregate f c size offset q) w u = ap (aggregated x.clock f c size offset) (own_plain q (search parts) u)

  -- ---- rows of the route, from those of one row of each stream

  asked_rows : (q : Query ℕ) (gs : List Grant) (r : Query Source) → T (distinct eqb (sources q)) → T (full x (sources q)) → Asks x who q gs r
      → table x who r x.rows ≡ kept (left x.schema gs q) (by_row x who gs q)
  unfolding kept by_row
  asked_rows q gs r u f h = λ i. record { cols = (table_cols x who r x.rows ∙ h.columns_left) i; rows = same i }
    where
      cut : Row → Row
      cut = kept_row (header (columns_of x.schema) q) (left x.schema gs q)

      same : (table x who r x.rows).rows ≡ map cut (by_row x who gs q).rows
      same =
          h.rowwise.spread x.rows
          ∙ gather_same (all_weaken (λ xs l. h.one_row xs l ∙ sym (map_none cut (all_show who gs (with_rows x xs)) (plain (with_rows x xs) q).rows)) (each_lone (Fills x who) (sources q) x.rows u (full_rows x who (sources q) f)))
          ∙ sym (map_gather cut _ (one_each (sources q) x.rows))
          ∙ ap (map cut) (sym (by_row_rows gs q))

  open_rows : (q : Query ℕ) (gs : List Grant) (r : Query Source) → T (no_aggregate q) → T (distinct eqb (sources q)) → T (full x (sources q)) → Asks x who q gs r → T (every (open_to x.schema q) gs)
      → by_row x who gs q ≡ plain x q
  unfolding by_row
  open_rows q gs r a u f h o = λ i. record { cols = sym (plain_cols x who q x.rows) i; rows = same i }
    where
      same : (by_row x who gs q).rows ≡ (plain x q).rows
      same =
          by_row_rows gs q
          ∙ gather_same (all_weaken (λ xs l. h.open_row o xs l) (each_lone (Fills x who) (sources q) x.rows u (full_rows x who (sources q) f)))
          ∙ sym ((rowwise_plain x q a u).spread x.rows)

  -- ---- rows that have just their columns' values

  abbrev Whole : Table → Type 0
  Whole t = All (λ (r : Row). kept_row t.cols t.cols r ≡ r) t.rows

  kept_whole : (t : Table) → Whole t → kept t.cols t ≡ t
  unfolding kept
  kept_whole t h = λ i. record { cols = t.cols; rows = (map_same (kept_row t.cols t.cols) (λ r. r) h ∙ map-id t.rows) i }

  figures_whole : (k : ℕ) (f : Fn) (c : Col) (size offset : ℕ) (t : Table) → Whole (aggregated k f c size offset t)
  unfolding aggregated
  figures_whole k f c size offset t = all_weaken (λ r h. kept_self (figure ∷ []) r (unfold distinct some? in tt) h) (aggregated_wide k f c size offset t)

  pairs_whole : (t v : Table) → ((c : Col) → T (has t.cols c) → T (has v.cols c) → ⊥) → Whole t → Whole v → Whole (pairs t v)
  unfolding pairs kept_row
  pairs_whole t v f h k =
      all_gather {P = λ l. kept_row t.cols t.cols l ≡ l}
      (λ l e. all_map {P = λ r. kept_row v.cols v.cols r ≡ r} (both l)
      (λ r g. kept_both t.cols v.cols f l r (ap (λ (w : Row). length w.values) (sym e) ∙ length-map t.cols _) t.cols v.cols (within_by t.cols t.cols (λ c u. u)) (within_by v.cols v.cols (λ c u. u))
      ∙ ap₂ both e g) k) h

  -- the plain meaning has them, where the record's rows do
  plain_whole : (q : Query ℕ) → T (allowed (columns_of x.schema) q) → T (distinct eqb (sources q)) → T (full x (sources q)) → Whole (plain x q)
  unfolding plain meaning allowed sources picked
  plain_whole (source s) w u f = unfold table_of in all_weaken (λ r h. kept_self (columns_of x.schema s) r (columns_distinct x.schema s) h) (all_head (full_rows x who (s ∷ []) f))
  plain_whole (pick c q) w u f = all_select _ (λ r t h. h) (plain_whole q (search parts) u f)
  plain_whole (keep cs q) w u f = unfold kept in all_map {P = λ r. Unit {0}} (kept_row (plain x q).cols cs) (λ r h. kept_kept (plain x q).cols cs cs r (within_by cs cs (λ c t. t))) (all_any (plain x q).rows)
  plain_whole (join a b q r) w u f =
      all_select _ (λ z t h. h)
      (pairs_whole (plain x q) (plain x r)
      (λ c t v. heads_apart x who a b q r w u c (rw (plain_cols x who q x.rows) at t) (rw (plain_cols x who r x.rows) at v))
      (plain_whole q (search parts) (distinct_l eqb (sources q) (sources r) u) (unfold full in every_append_l _ (sources q) (sources r) f))
      (plain_whole r (search parts) (distinct_r eqb (sources q) (sources r) u) (unfold full in every_append_r _ (sources q) (sources r) f)))
  plain_whole (aggregate f c size offset q) w u g = figures_whole x.clock f c size offset (plain x q)

  -- ---- the claims, by the form of the query

  abbrev Answers : Query ℕ → List Grant → Query Source → Type 0
  Answers q gs r =
      (columns x.schema r ≡ left x.schema gs q)
      × (table x who r x.rows ≡ kept (left x.schema gs q) (own x who gs q))
      × (T (every (open_to x.schema q) gs) → T (every (shown_by x.schema gs) (header (columns_of x.schema) q)) × (own x who gs q ≡ plain x q))

  abbrev Claim : Query ℕ → List Grant → Query Source → Type 0
  Claim q gs r = T (allowed (columns_of x.schema) q) → T (distinct eqb (sources q)) → T (full x (sources q)) → (T (no_aggregate q) → Asks x who q gs r) × Answers q gs r

  answers : (q : Query ℕ) (gs : List Grant) (r : Query Source) → T (no_aggregate q) → T (distinct eqb (sources q)) → T (full x (sources q)) → Asks x who q gs r → Answers q gs r
  answers q gs r a u f h = (
    h.columns_left,
    asked_rows q gs r u f h ∙ ap (kept (left x.schema gs q)) (sym (own_by_row gs q a)),
    λ o. (h.open_left o, own_by_row gs q a ∙ open_rows q gs r a u f h o),
  )

  claim : (q : Query ℕ) (gs : List Grant) (r : Query Source) → T (no_aggregate q) → T (distinct eqb (sources q)) → T (full x (sources q)) → Asks x who q gs r → (T (no_aggregate q) → Asks x who q gs r) × Answers q gs r
  claim q gs r a u f h = (λ t. h, answers q gs r a u f h)

  pick_answers : (c : Cond Compare) (q : Query ℕ) (gs : List Grant) (r : Query Source) → T (within (cond_cols c) (columns x.schema r)) → Answers q gs r → Answers (pick c q) gs (pick c r)
  unfolding columns header left meaning own plain open_to joins_by
  pick_answers c q gs r w (e, t, o) = (
    e,
    ap (picked c) t ∙ picked_kept c (left x.schema gs q) (own x who gs q) (subst (λ ls. T (within (cond_cols c) ls)) e w),
    λ h. ((o h).0, ap (picked c) (o h).1),
  )

  -- figures over a table that is the query's own, cut to columns among which the aggregate's is
  figures_answer : (f : Fn) (c : Col) (size offset : ℕ) (q : Query ℕ) (gs : List Grant) (t : Table) (ls : List Col) → T (has ls c) → t ≡ kept ls (own x who gs q)
      → aggregated x.clock f c size offset t ≡ kept (figure ∷ []) (own x who gs (aggregate f c size offset q))
  unfolding own aggregated
  figures_answer f c size offset q gs t ls h e =
      ap (aggregated x.clock f c size offset) e
      ∙ aggregated_kept x.clock f c size offset ls (own x who gs q) h
      ∙ sym (kept_whole (aggregated x.clock f c size offset (own x who gs q)) (figures_whole x.clock f c size offset (own x who gs q)))

  aggregate_answers : (f : Fn) (c : Col) (size offset : ℕ) (q : Query ℕ) (gs : List Grant) (r : Query Source) → T (has (left x.schema gs q) c)
      → aggregated x.clock f c size offset (table x who r x.rows) ≡ kept (figure ∷ []) (own x who gs (aggregate f c size offset q))
      → (T (every (open_to x.schema q) gs) → own x who gs q ≡ plain x q)
      → Answers (aggregate f c size offset q) gs (aggregate f c size offset r)
  unfolding columns header left select shown_by same_col meaning own plain open_to joins_by every
  aggregate_answers f c size offset q gs r h e o = (refl, e, λ t. (tt, ap (aggregated x.clock f c size offset) (o t)))

  -- below an aggregate grant's figures
  asks_over : (q : Query ℕ) (n : Numbered) → T (allowed (columns_of x.schema) q) → T (no_aggregate q) → T (distinct eqb (sources q)) → T (covers q n.grant) → T (empty? (picks q))
      → Asks x who q (n.grant ∷ []) (over_view x.schema q n)
  unfolding over_view allowed covers sources equated picks empty? no_aggregate
  asks_over (source s) n w a u h e = asks_source x who s n h
  asks_over (pick c q) n w a u h e = absurd e
  asks_over (keep cs q) n w a u h e = asks_keep x who cs q (n.grant ∷ []) (over_view x.schema q n) (search parts) (asks_over q n (search parts) a u h e)
  asks_over (join m l q r) n w a u h e =
      asks_pair x who m l q r n w u h (rw (empty_nil (picks q ++ picks r) e) (unfold some? in tt)) (rw (empty_nil (picks q ++ picks r) e) (unfold gather within every in tt))
  asks_over (aggregate f c size offset q) n w a u h e = absurd a

  figures_claim : (f : Fn) (c : Col) (size offset : ℕ) (q : Query ℕ) (n : Numbered) → T (summing x.schema f c size offset q n.grant)
      → T (allowed (columns_of x.schema) (aggregate f c size offset q)) → T (distinct eqb (sources q)) → T (full x (sources q))
      → Answers (aggregate f c size offset q) (n.grant ∷ []) (aggregate f c size offset (summed x.schema q n))
  unfolding summing allowed
  figures_claim f c size offset q n t w u g =
      aggregate_answers f c size offset q (n.grant ∷ []) (summed x.schema q n) named
      (over_summed x.clock x.schema (view x who) n f c size offset (search parts) q (search parts) (search parts) (search parts) (search parts)
      ∙ sym (over_kept x.clock x.schema (view x who) n f c size offset (search parts) q (search parts) (search parts) (search parts) (search parts))
      ∙ figures_answer f c size offset q (n.grant ∷ []) (table x who (over_view x.schema q n) x.rows) (left x.schema (n.grant ∷ []) q) named over.1)
      (λ o. (over.2 o).1)
    where
      over : Answers q (n.grant ∷ []) (over_view x.schema q n)
      over = answers q (n.grant ∷ []) (over_view x.schema q n) (search parts) u g (asks_over q n (search parts) (search parts) u (search parts) (search parts))

      named : T (has (left x.schema (n.grant ∷ []) q) c)
      named = subst (λ ls. T (has ls c)) over.0 (has_over x.schema n c (search parts) q (search parts) (search parts) (search parts))

  way_claims : (catalogue : List Grant) (q : Query ℕ) → T (placed x.schema q) → T (full x (sources q))
      → All (λ (r : Route). Answers q (grants_at catalogue r.grants) r.query) (ways x.schema who catalogue q)
  unfolding placed allowed sources readable full no_aggregate
  way_claims catalogue q w f =
      all_weaken (λ r h. (h (search parts) (search parts) f).1)
      (by_form x.schema who catalogue (λ g. Unit {0}) (all_any catalogue) Claim
      (λ s n k b t w u f. claim (source s) _ _ tt u f (asks_source x who s n (search parts)))
      (λ c q gs r t h w u f. let (i, j) = h (search parts) u f in (λ a. asks_pick x who c q gs r t (i a), pick_answers c q gs r t j))
      (λ cs q gs r h w u f. claim (keep cs q) gs _ (search parts) u f (asks_keep x who cs q gs r (search parts) ((h (search parts) u f).0 (search parts))))
      (λ a b q r gs hs y z t h k w u f. claim (join a b q r) _ _ (and_both (no_aggregate q) (no_aggregate r) (side_free q (search parts)) (side_free r (search parts))) u f
      (asks_join x who a b q r w u gs hs y z t
      ((h (search parts) (distinct_l eqb (sources q) (sources r) u) (every_append_l _ (sources q) (sources r) f)).0 (side_free q (search parts)))
      ((k (search parts) (distinct_r eqb (sources q) (sources r) u) (every_append_r _ (sources q) (sources r) f)).0 (side_free r (search parts)))))
      (λ a b q r n k o t w u f. claim (join a b q r) _ _ (and_both (no_aggregate q) (no_aggregate r) (side_free q (search parts)) (side_free r (search parts))) u f
      (asks_pair x who a b q r n w u (search parts) (unfold picks in search parts) (unfold picks in search parts)))
      (λ f c size offset q gs r t h w u g. let (i, j) = h (search parts) u g in (
        λ a. absurd a,
        aggregate_answers f c size offset q gs r (named c q gs r t j.0)
            (figures_answer f c size offset q gs (table x who r x.rows) (left x.schema gs q) (named c q gs r t j.0) j.1) (λ o. (j.2 o).1),
      ))
      (λ f c size offset q n k b t w u g. (λ a. absurd a, figures_claim f c size offset q n t w u g)) q)
    where
      named : (c : Col) (q : Query ℕ) (gs : List Grant) (r : Query Source) → T (within (c ∷ []) (columns x.schema r)) → columns x.schema r ≡ left x.schema gs q → T (has (left x.schema gs q) c)
      named c q gs r t e = subst (λ ls. T (has ls c)) e (unfold within every in search parts)

  claims : (catalogue : List Grant) (q : Query ℕ) → T (placed x.schema q) → T (full x (sources q))
      → All (λ (r : Route). Answers q (grants_at catalogue r.grants) r.query) (routes x.schema who catalogue q)
  unfolding routes
  claims catalogue q w f = all_select _ (λ r t h. h) (way_claims catalogue q w f)

-- what every way leaves of the columns
pub way_columns : (d : Schema) (who : Caller) (catalogue : List Grant) (q : Query ℕ) → T (placed d q)
    → All (λ (r : Route). columns d r.query ≡ left d (grants_at catalogue r.grants) q) (ways d who catalogue q)
way_columns d who catalogue q w = all_weaken (λ r h. h.0) (way_claims (record { clock = 0; schema = d; rows = [] }) who catalogue q w (no_rows (sources q)))
  where
    no_rows : (ss : List ℕ) → T (full (record { clock = 0; schema = d; rows = [] }) ss)
    no_rows ss = unfold full nth every in all_every (λ s. every (λ (r : Row). eqb (length r.values) (length (columns_of d s))) []) (all_weaken (λ s u. tt) (all_any ss))

-- ---- the claims

-- Every route, of whichever kind, gives what the caller's own query gives of the rows that the route's grants show, cut to the columns that they show.
pub views_plain : (x : Record) (who : Caller) (catalogue : List Grant) (q : Query ℕ) → T (placed x.schema q) → T (full x (sources q))
    → All (λ (r : Route). route_table x who r ≡ kept (left x.schema (grants_at catalogue r.grants) q) (own x who (grants_at catalogue r.grants) q))
    (routes x.schema who catalogue q)
unfolding route_table
views_plain x who catalogue q w f = all_weaken (λ r h. h.1) (claims x who catalogue q w f)

-- A route whose grants keep nothing from the query gives the plain meaning of the caller's own query.
pub open_plain : (x : Record) (who : Caller) (catalogue : List Grant) (q : Query ℕ) → T (placed x.schema q) → T (full x (sources q))
    → All (λ (r : Route). T (every (open_to x.schema q) (grants_at catalogue r.grants)) → route_table x who r ≡ plain x q) (routes x.schema who catalogue q)
unfolding route_table placed left
open_plain x who catalogue q w f = all_weaken (λ r h o. h.1 ∙ same (grants_at catalogue r.grants) (h.2 o).0 (h.2 o).1) (claims x who catalogue q w f)
  where
    same : (gs : List Grant) → T (every (shown_by x.schema gs) (header (columns_of x.schema) q)) → own x who gs q ≡ plain x q → kept (left x.schema gs q) (own x who gs q) ≡ plain x q
    same gs s e =
        ap₂ kept (select_every (shown_by x.schema gs) (header (columns_of x.schema) q) s ∙ sym (plain_cols x who q x.rows)) e
        ∙ kept_whole x who (plain x q) (plain_whole x who q (search parts) (search parts) f)
