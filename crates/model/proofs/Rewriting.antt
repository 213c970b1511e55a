-- The rewritten query, run over the whole streams, gives the rows of its route.
use mathlib.Core.Path.{◌≡◌, refl, sym, ap, ap₂, ◌∙◌, fun_ext}
use mathlib.Core.List.{List, [], ◌∷◌, ◌++◌, map}
use mathlib.Core.Bool.{Bool, true, false, ◌&&◌, ◌||◌, cond}
use Prim.Native.Nat.{ℕ}
use lib.Signed.{le_z}
use lib.Dec.{T}
use Rattle.lists.specs.Lists.{select, every, some?}
use Rattle.lists.proofs.Laws.{and_both, or_cases, parts, All, all_any, select_all, select_select, same_list→eq}
use Rattle.syntax.specs.Grammar.{Op, eq, ne, lt, le, gt, ge, Fn, Cond, test, all, any, neg, Entry}
use Rattle.model.specs.Conditions.{true_of, all_true, conds_of, map_cond}
use Rattle.model.specs.Queries.{Col, columns_of, Term, column, time, number, self, Compare, Query, source, pick, keep, join, aggregate, sources, picks, Grant, Caller, Row, Table, Record}
use Rattle.model.specs.Meaning.{value, term_value, compares, compare_holds, holds, picked, kept, pairs, equality, aggregated, meaning, table_of, plain}
use Rattle.model.specs.Grants.{fill_term, fill_compare, fill, limits, whole, limited, shown_of, view}
use Rattle.model.specs.Checks.{side, allowed, sized}
use Rattle.model.specs.Routes.{is_eq, is_col, is_equality, equated, covers, bare, Source, Route, Numbered, picked_by, seen, single, keeping, over_view, readable, summing, summed, routes}
use Rattle.model.specs.Rewriting.{under, defined, expand, rewritten}
use Rattle.model.specs.Answers.{route_table}
use Rattle.model.proofs.Columns.{same_col→eq}
use Rattle.model.proofs.Ways.{on_routes}

-- ---- conditions that hold together, as one condition

pub and_true : (b : Bool) → b ≡ b && true
and_true true = refl
and_true false = refl

module _ {A : Type 0} (p : A → Bool) where
  all_every : (c : Cond A) (cs : List (Cond A)) → all_true p (conds_of c cs) ≡ every (true_of p) (c ∷ cs)
  unfolding true_of conds_of every
  all_every c [] = and_true (true_of p c)
  all_every c (d ∷ cs) = ap (λ b. true_of p c && b) (all_every d cs)

pub limited_none : (t : Table) → limited [] t ≡ t
unfolding limited every
limited_none t = λ i. record { cols = t.cols; rows = select_all (λ r. true) (λ r. tt) t.rows i }

pub limited_all : (c : Cond Compare) (cs : List (Cond Compare)) (t : Table) → picked (all (conds_of c cs)) t ≡ limited (c ∷ cs) t
unfolding picked limited
limited_all c cs t = λ i. record { cols = t.cols; rows = select (same i) t.rows }
  where
    same : ◌≡◌ {A = Row → Bool} (λ r. holds t.cols r (all (conds_of c cs))) (λ r. every (holds t.cols r) (c ∷ cs))
    same = fun_ext (λ r. unfold holds true_of every in all_every (compare_holds t.cols r) c cs)

pub limited_under : (k : ℕ) (tab : ℕ → Table) (cs : List (Cond Compare)) (q : Query ℕ) → meaning k tab (under cs q) ≡ limited cs (meaning k tab q)
unfolding under meaning
limited_under k tab [] q = sym (limited_none (meaning k tab q))
limited_under k tab (c ∷ cs) q = limited_all c cs (meaning k tab q)

-- ---- a condition of the grant that is the query's equality

pub is_eq→eq : (o : Op) → T (is_eq o) → o ≡ eq
unfolding is_eq
is_eq→eq eq h = refl
is_eq→eq ne h = absurd h
is_eq→eq lt h = absurd h
is_eq→eq le h = absurd h
is_eq→eq gt h = absurd h
is_eq→eq ge h = absurd h

module _ (p : List Entry) (ds : List Col) (r : Row) where
  pub is_col_term : (c : Col) (t : Term) → T (is_col c t) → term_value ds r (fill_term p t) ≡ value ds r.values c
  unfolding is_col term_value fill_term
  is_col_term c (column d) h = ap (value ds r.values) (sym (same_col→eq c d h))
  is_col_term c time h = absurd h
  is_col_term c (number z) h = absurd h
  is_col_term c (self n) h = absurd h

  eq_either : (a b : Col) (s t : Term) → T (is_col a s && is_col b t || is_col b s && is_col a t)
      → T (compares eq (term_value ds r (fill_term p s)) (term_value ds r (fill_term p t))) → T (holds ds r (equality a b))
  unfolding holds true_of compare_holds compares equality term_value
  eq_either a b s t h k =
      or_cases (is_col a s && is_col b t) (is_col b s && is_col a t) h
      (λ u. rw (is_col_term a s (search parts), is_col_term b t (search parts)) at k)
      (λ u. let k' = rw (is_col_term b s (search parts), is_col_term a t (search parts)) at k in
      and_both (le_z (value ds r.values a) (value ds r.values b)) _ (search parts) (search parts))

  eq_holds : (a b : Col) (c : Cond Compare) → T (is_equality a b c) → T (holds ds r (fill p c)) → T (holds ds r (equality a b))
  unfolding is_equality fill map_cond fill_compare holds true_of compare_holds
  eq_holds a b (test t) h k =
      eq_either a b t.left t.right (search parts) (rw (is_eq→eq t.op (search parts)) at k)
  eq_holds a b (all cs) h k = absurd h
  eq_holds a b (any cs) h k = absurd h
  eq_holds a b (neg c) h k = absurd h

  pub some_holds : (a b : Col) (ws more : List (Cond Compare)) → T (some? (is_equality a b) ws) → T (every (holds ds r) (map (fill p) ws ++ more)) → T (holds ds r (equality a b))
  unfolding some? every
  some_holds a b [] more h k = absurd h
  some_holds a b (c ∷ ws) more h k =
      or_cases (is_equality a b c) (some? (is_equality a b) ws) h
      (λ u. eq_holds a b c u (search parts))
      (λ u. some_holds a b ws more u (search parts))

-- ---- a side is one source

unfoldable pub stream : {S : Type 0} → Query S → S
stream (source s) = s
stream (pick c q) = stream q
stream (keep cs q) = stream q
stream (join a b q r) = stream q
stream (aggregate f c size offset q) = stream q

side_bare : (q : Query ℕ) → T (side q) → bare q ≡ source (stream q)
unfolding side bare stream
side_bare (source s) h = refl
side_bare (pick c q) h = side_bare q h
side_bare (keep cs q) h = side_bare q h
side_bare (join a b q r) h = absurd h
side_bare (aggregate f c size offset q) h = absurd h

pub side_sources : {S : Type 0} (q : Query S) → T (side q) → sources q ≡ stream q ∷ []
unfolding side sources stream
side_sources (source s) h = refl
side_sources (pick c q) h = side_sources q h
side_sources (keep cs q) h = side_sources q h
side_sources (join a b q r) h = absurd h
side_sources (aggregate f c size offset q) h = absurd h

-- ---- a view is what its line defines

module _ (x : Record) (who : Caller) where
  -- the equality asked first changes nothing under the grant's conditions
  absorbed : (g : Grant) (a b : Col) (t : Table) → T (some? (is_equality a b) g.when) → limited (limits who g) (picked (equality a b) t) ≡ limited (limits who g) t
  unfolding limited picked limits
  absorbed g a b t h = λ i. record {
    cols = t.cols;
    rows = select_select (λ r. holds t.cols r (equality a b)) (λ r. every (holds t.cols r) (limits who g))
        (λ r k. some_holds who.profile t.cols r a b g.when _ h k) t.rows i;
  }

  of_streams : (g : Grant) (q : Query ℕ) → T (covers q g) → g.of ≡ sources q
  unfolding covers
  of_streams g q h = same_list→eq g.of (sources q) (search parts)

  -- what the line takes the view of, and what the view is taken of
  whole_plain : (g : Grant) (q : Query ℕ) → T (allowed (columns_of x.schema) q) → T (covers q g)
      → limited (limits who g) (plain x (bare q)) ≡ limited (limits who g) (whole x g.of)
  unfolding plain allowed covers equated sources bare meaning whole
  whole_plain g (source s) w h = ap (λ l. limited (limits who g) (whole x l)) (sym (of_streams g (source s) h))
  whole_plain g (pick c q) w h = whole_plain g q (search parts) h
  whole_plain g (keep cs q) w h = whole_plain g q (search parts) h
  whole_plain g (join a b q r) w h =
      absorbed g a b _ (search parts)
      ∙ ap₂ (λ u v. limited (limits who g) (pairs (plain x u) (plain x v))) (side_bare q (search parts)) (side_bare r (search parts))
      ∙ ap (λ l. limited (limits who g) (whole x l)) (sym (of_streams g (join a b q r) h ∙ ap₂ ◌++◌ (side_sources q (search parts)) (side_sources r (search parts))))
  whole_plain g (aggregate f c size offset q) w h = whole_plain g q (search parts) h

  -- a route's query as it should be: over the views as over the streams
  abbrev Same : Query Source → Type 0
  Same q = plain x (expand (defined x.schema who) q) ≡ meaning x.clock (λ (s : Source). view x who s.grant) q

  same_seen : (q : Query ℕ) (n : Numbered) → T (allowed (columns_of x.schema) q) → T (covers q n.grant) → Same (seen q n)
  unfolding plain seen expand defined meaning view
  same_seen q n w h =
      ap (kept (shown_of x.schema n.grant)) (limited_under x.clock (table_of x) (limits who n.grant) (bare q) ∙ whole_plain n.grant q w h)

  same_pick : (c : Cond Compare) (q : Query Source) → Same q → Same (pick c q)
  unfolding plain expand meaning
  same_pick c q h = ap (picked c) h

  same_keep : (cs : List Col) (q : Query Source) → Same q → Same (keeping x.schema cs q)
  unfolding plain expand meaning keeping
  same_keep cs q h = ap (kept _) h

  same_join : (a b : Col) (q r : Query Source) → Same q → Same r → Same (join a b q r)
  unfolding plain expand meaning
  same_join a b q r h k = ap₂ (λ u v. picked (equality a b) (pairs u v)) h k

  same_aggregate : (f : Fn) (c : Col) (size offset : ℕ) (q : Query Source) → Same q → Same (aggregate f c size offset q)
  unfolding plain expand meaning
  same_aggregate f c size offset q h = ap (aggregated x.clock f c size offset) h

  same_picks : (cs : List (Cond Compare)) (q : Query Source) → Same q → Same (picked_by cs q)
  unfolding picked_by
  same_picks [] q h = h
  same_picks (c ∷ cs) q h = same_pick c (picked_by cs q) (same_picks cs q h)

  same_over : (q : Query ℕ) (n : Numbered) → T (allowed (columns_of x.schema) q) → T (covers q n.grant) → Same (over_view x.schema q n)
  unfolding over_view allowed covers sources equated
  same_over (source s) n w h = same_seen (source s) n w h
  same_over (pick c q) n w h = same_pick c _ (same_over q n (search parts) h)
  same_over (keep cs q) n w h = same_keep _ _ (same_over q n (search parts) h)
  same_over (join a b q r) n w h = same_keep _ _ (same_picks (picks r) _ (same_picks (picks q) _ (same_seen (join a b q r) n w h)))
  same_over (aggregate f c size offset q) n w h = same_aggregate f c size offset _ (same_over q n (search parts) h)

  same_summed : (q : Query ℕ) (n : Numbered) → T (allowed (columns_of x.schema) q) → T (covers q n.grant) → Same (summed x.schema q n)
  unfolding summed
  same_summed q n w h = go (single (sources q))
    where
      go : (b : Bool) → Same (cond b (seen q n) (over_view x.schema q n))
      go true = same_seen q n w h
      go false = same_over q n w h

-- For every route of a checked query: the rewritten query over the streams gives the route's rows.
pub rewriting : (x : Record) (who : Caller) (catalogue : List Grant) (q : Query ℕ) → T (allowed (columns_of x.schema) q) → T (sized q)
    → All (λ (r : Route). plain x (rewritten x.schema who r) ≡ route_table x who r) (routes x.schema who catalogue q)
unfolding rewritten route_table readable summing allowed
rewriting x who catalogue q w z =
    on_routes x.schema who catalogue (λ g. Unit {0}) (all_any catalogue) (Same x who)
    (λ c q a t. same_pick x who c q) (λ cs q a. same_keep x who cs q) (λ a b q r s t u. same_join x who a b q r) (λ f c size offset q s t z. same_aggregate x who f c size offset q)
    (λ q n k b w h. same_seen x who q n w (search parts))
    (λ f c size offset q n k b w z h. same_aggregate x who f c size offset _ (same_summed x who q n (search parts) (search parts)))
    q w z
