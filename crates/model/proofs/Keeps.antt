-- Each keep of a rewritten query has a column, and has none twice.
use mathlib.Core.Path.{◌≡◌, refl}
use mathlib.Core.List.{List, [], ◌∷◌, ◌++◌}
use mathlib.Core.Bool.{Bool, true, false, ◌&&◌, not, cond}
use Prim.Native.Nat.{ℕ}
use lib.Dec.{T, eqb}
use Rattle.lists.specs.Lists.{select, every, some?, gather, empty?, distinct}
use Rattle.lists.proofs.Laws.{and_both, or_cases, parts, All, all_any, all_select, gather_append, same_list→eq}
use Rattle.syntax.specs.Grammar.{Cond, Fn}
use Rattle.model.specs.Queries.{Schema, Col, same_col, columns_of, Compare, Query, source, pick, keep, join, aggregate, sources, picks, header, Grant, Caller}
use Rattle.model.specs.Grants.{limits, shown_of}
use Rattle.model.specs.Checks.{has, within, no_aggregate, side, linked, allowed, placed, keeps}
use Rattle.model.specs.Routes.{covers, bare, Source, Route, Numbered, present, picked_by, seen, single, columns, keeping, over_view, readable, summing, summed, routes}
use Rattle.model.specs.Rewriting.{under, defined, expand, rewritten}
use Rattle.model.proofs.Columns.{has_some, has_within}
use Rattle.model.proofs.Distinct.{distinct_select, distinct_l, distinct_r, distinct_append, distinct_apart, columns_distinct, gather_distinct}
use Rattle.model.proofs.Ways.{line, has_over, by_form}
use Rattle.model.proofs.Accepted.{header_bare, header_shrinks}

-- ---- any test of keeps

module _ (p : List Col → Bool) where
  keeps_bare : (q : Query ℕ) → T (keeps p (bare q))
  unfolding keeps bare
  keeps_bare (source s) = tt
  keeps_bare (pick c q) = keeps_bare q
  keeps_bare (keep cs q) = keeps_bare q
  keeps_bare (join a b q r) = and_both (keeps p (bare q)) (keeps p (bare r)) (keeps_bare q) (keeps_bare r)
  keeps_bare (aggregate f c size offset q) = keeps_bare q

  keeps_under : (cs : List (Cond Compare)) (q : Query ℕ) → T (keeps p q) → T (keeps p (under cs q))
  unfolding keeps under
  keeps_under [] q h = h
  keeps_under (c ∷ cs) q h = h

  module _ (d : Schema) (who : Caller) where
    keeps_seen : (q : Query ℕ) (n : Numbered) → T (p (shown_of d n.grant)) → T (keeps p (line d who (seen q n)))
    unfolding seen expand defined keeps
    keeps_seen q n h = and_both (p (shown_of d n.grant)) _ h (keeps_under (limits who n.grant) (bare q) (keeps_bare q))

    keeps_picks : (cs : List (Cond Compare)) (q : Query Source) → T (keeps p (line d who q)) → T (keeps p (line d who (picked_by cs q)))
    unfolding picked_by expand keeps
    keeps_picks [] q h = h
    keeps_picks (c ∷ cs) q h = keeps_picks cs q h

-- ---- that they are some

abbrev filled : List Col → Bool
filled cs = not (empty? cs)

present_none : (cs : List Col) → present [] cs ≡ []
unfolding present has some? select
present_none [] = refl
present_none (c ∷ cs) = present_none cs

present_some : (ds cs : List Col) → T (filled (present ds cs)) → T (filled ds)
unfolding empty?
present_some [] cs t = rw (present_none cs) at t
present_some (d ∷ ds) cs t = tt

module _ (d : Schema) (who : Caller) where
  -- where a column is left, no keep is empty
  abbrev Filled : Query Source → Type 0
  Filled x = T (filled (columns d x)) → T (keeps filled (line d who x))

  filled_seen : (q : Query ℕ) (n : Numbered) → Filled (seen q n)
  unfolding seen columns header
  filled_seen q n t = keeps_seen filled d who q n t

  filled_pick : (c : Cond Compare) (x : Query Source) → Filled x → Filled (pick c x)
  unfolding expand keeps columns header
  filled_pick c x h = h

  filled_picks : (cs : List (Cond Compare)) (x : Query Source) → Filled x → Filled (picked_by cs x)
  unfolding picked_by
  filled_picks [] x h = h
  filled_picks (c ∷ cs) x h = filled_pick c (picked_by cs x) (filled_picks cs x h)

  filled_keep : (cs : List Col) (x : Query Source) → Filled x → Filled (keeping d cs x)
  unfolding keeping expand keeps columns header
  filled_keep cs x h t = and_both (filled (present (columns d x) cs)) (keeps filled (line d who x)) t (h (present_some (columns d x) cs t))

  filled_join : (a b : Col) (x y : Query Source) → T (linked a b (columns d x) (columns d y)) → Filled x → Filled y → Filled (join a b x y)
  unfolding linked expand keeps
  filled_join a b x y l h k t =
      or_cases (has (columns d x) a && has (columns d y) b) (has (columns d x) b && has (columns d y) a) l
      (λ u. and_both (keeps filled (line d who x)) (keeps filled (line d who y)) (h (has_some (columns d x) a (search parts))) (k (has_some (columns d y) b (search parts))))
      (λ u. and_both (keeps filled (line d who x)) (keeps filled (line d who y)) (h (has_some (columns d x) b (search parts))) (k (has_some (columns d y) a (search parts))))

  filled_pair : (a b : Col) (q r : Query ℕ) (n : Numbered) → Filled (over_view d (join a b q r) n)
  unfolding over_view
  filled_pair a b q r n = filled_keep _ _ (filled_picks (picks r) _ (filled_picks (picks q) _ (filled_seen (join a b q r) n)))

  filled_over : (q : Query ℕ) (n : Numbered) → T (no_aggregate q) → Filled (over_view d q n)
  unfolding over_view no_aggregate
  filled_over (source s) n a = filled_seen (source s) n
  filled_over (pick c q) n a = filled_pick c _ (filled_over q n a)
  filled_over (keep cs q) n a = filled_keep cs _ (filled_over q n a)
  filled_over (join x y q r) n a = filled_pair x y q r n
  filled_over (aggregate f c size offset q) n a = absurd a

  filled_aggregate : (f : Fn) (c : Col) (size offset : ℕ) (x : Query Source) → T (has (columns d x) c) → Filled x → Filled (aggregate f c size offset x)
  unfolding expand keeps
  filled_aggregate f c size offset x l h t = h (has_some (columns d x) c l)

  filled_figures : (f : Fn) (c : Col) (size offset : ℕ) (q : Query ℕ) (n : Numbered) → T (allowed (columns_of d) (aggregate f c size offset q)) → T (summing d f c size offset q n.grant)
      → Filled (aggregate f c size offset (summed d q n))
  unfolding summed summing allowed
  filled_figures f c size offset q n w h = go (single (sources q))
    where
      go : (b : Bool) → Filled (aggregate f c size offset (cond b (seen q n) (over_view d q n)))
      go true = filled_aggregate f c size offset (seen q n) (unfold seen columns header in search parts) (filled_seen q n)
      go false =
          filled_aggregate f c size offset (over_view d q n) (has_over d n c (search parts) q (search parts) (search parts) (search parts))
          (filled_over q n (search parts))

-- No keep of a rewritten query is empty.
pub keeps_some : (d : Schema) (who : Caller) (catalogue : List Grant) (q : Query ℕ) → T (allowed (columns_of d) q)
    → All (λ (r : Route). T (keeps (λ cs. not (empty? cs)) (rewritten d who r))) (routes d who catalogue q)
unfolding rewritten routes allowed within every
keeps_some d who catalogue q w =
    all_select _ (λ x t h. h w t)
    (by_form d who catalogue (λ g. Unit {0}) (all_any catalogue) (λ q gs x. T (allowed (columns_of d) q) → Filled d who x)
    (λ s n k b t w. filled_seen d who (source s) n)
    (λ c q gs x t h w. filled_pick d who c x (h (search parts)))
    (λ cs q gs x h w. filled_keep d who cs x (h (search parts)))
    (λ a b q r gs hs x y l h k w. filled_join d who a b x y l (h (search parts)) (k (search parts)))
    (λ a b q r n k o t w. filled_pair d who a b q r n)
    (λ f c size offset q gs x t h w. filled_aggregate d who f c size offset x (search parts) (h (search parts)))
    (λ f c size offset q n k b t w. filled_figures d who f c size offset q n w t) q)

-- ---- that none stands twice

abbrev once : List Col → Bool
once = distinct same_col

once_present : (ds cs : List Col) → T (once cs) → T (once (present ds cs))
unfolding present
once_present ds cs h = distinct_select same_col (has ds) cs h

once_shown : (d : Schema) (g : Grant) → T (distinct eqb g.of) → T (once (shown_of d g))
unfolding shown_of
once_shown d g h = distinct_select same_col _ (gather (columns_of d) g.of) (gather_distinct d g.of h)

-- a grant on just the query's streams has none twice
once_of : (q : Query ℕ) (g : Grant) → T (covers q g) → T (distinct eqb (sources q)) → T (distinct eqb g.of)
unfolding covers
once_of q g h u = rw (same_list→eq g.of (sources q) (search parts)) u

module _ (d : Schema) where
  once_header : (q : Query ℕ) → T (side q) → T (keeps once q) → T (once (header (columns_of d) q))
  unfolding side keeps header
  once_header (source s) w h = columns_distinct d s
  once_header (pick c q) w h = once_header q w h
  once_header (keep cs q) w h = search parts
  once_header (join a b q r) w h = absurd w
  once_header (aggregate f c size offset q) w h = absurd w

  -- a side's columns are those of its stream
  header_own : (q : Query ℕ) → T (side q) → T (allowed (columns_of d) q) → T (within (header (columns_of d) q) (gather (columns_of d) (sources q)))
  header_own q s w = rw (header_bare (columns_of d) q) at (header_shrinks (columns_of d) q s w)

  once_pair : (a b : Col) (q r : Query ℕ) → T (allowed (columns_of d) (join a b q r)) → T (distinct eqb (sources (join a b q r))) → T (keeps once (join a b q r))
      → T (once (header (columns_of d) q ++ header (columns_of d) r))
  unfolding allowed sources keeps
  once_pair a b q r w u h =
      distinct_append (header (columns_of d) q) (header (columns_of d) r) (once_header q (search parts) (search parts)) (once_header r (search parts) (search parts))
      (λ c t v. distinct_apart (gather (columns_of d) (sources q)) (gather (columns_of d) (sources r)) streams c
      (has_within c _ (header (columns_of d) q) (header_own q (search parts) (search parts)) t) (has_within c _ (header (columns_of d) r) (header_own r (search parts) (search parts)) v))
    where
      streams : T (once (gather (columns_of d) (sources q) ++ gather (columns_of d) (sources r)))
      streams = rw (gather_append (columns_of d) (sources q) (sources r)) at (gather_distinct d (sources q ++ sources r) u)

  once_shows : (q : Query ℕ) → T (allowed (columns_of d) q) → T (distinct eqb (sources q)) → T (keeps once q) → T (once (header (columns_of d) q))
  unfolding allowed sources keeps header distinct some?
  once_shows (source s) w u h = columns_distinct d s
  once_shows (pick c q) w u h = once_shows q (search parts) u h
  once_shows (keep cs q) w u h = search parts
  once_shows (join a b q r) w u h = once_pair a b q r w u h
  once_shows (aggregate f c size offset q) w u h = tt

  -- no column stands twice in what a query shows
  pub header_once : (q : Query ℕ) → T (placed d q) → T (keeps (distinct same_col) q) → T (distinct same_col (header (columns_of d) q))
  unfolding placed
  header_once q w h = once_shows q (search parts) (search parts) h

module _ (d : Schema) (who : Caller) where
  abbrev Once : Query ℕ → Query Source → Type 0
  Once q x = T (allowed (columns_of d) q) → T (distinct eqb (sources q)) → T (keeps once q) → T (keeps once (line d who x))

  once_seen : (q : Query ℕ) (n : Numbered) → T (distinct eqb n.grant.of) → T (keeps once (line d who (seen q n)))
  once_seen q n k = keeps_seen once d who q n (once_shown d n.grant k)

  once_keep : (cs : List Col) (x : Query Source) → T (once cs) → T (keeps once (line d who x)) → T (keeps once (line d who (keeping d cs x)))
  unfolding keeping expand keeps
  once_keep cs x h k = and_both (once (present (columns d x) cs)) (keeps once (line d who x)) (once_present (columns d x) cs h) k

  once_over : (q : Query ℕ) (n : Numbered) → T (distinct eqb n.grant.of) → Once q (over_view d q n)
  unfolding over_view expand keeps sources allowed
  once_over (source s) n k w u h = once_seen (source s) n k
  once_over (pick c q) n k w u h = once_over q n k (search parts) u h
  once_over (keep cs q) n k w u h = once_keep cs _ (search parts) (once_over q n k (search parts) u (search parts))
  once_over (join a b q r) n k w u h =
      once_keep _ _ (once_pair d a b q r w u h) (keeps_picks once d who (picks r) _ (keeps_picks once d who (picks q) _ (once_seen (join a b q r) n k)))
  once_over (aggregate f c size offset q) n k w u h = once_over q n k (search parts) u h

  once_summed : (q : Query ℕ) (n : Numbered) → T (distinct eqb n.grant.of) → Once q (summed d q n)
  unfolding summed
  once_summed q n k w u h = go (single (sources q))
    where
      go : (b : Bool) → T (keeps once (line d who (cond b (seen q n) (over_view d q n))))
      go true = once_seen q n k
      go false = once_over q n k w u h

-- No keep of a rewritten query has a column twice.
pub keeps_distinct : (d : Schema) (who : Caller) (catalogue : List Grant) (q : Query ℕ) → T (placed d q) → T (keeps (distinct same_col) q)
    → All (λ (r : Route). T (keeps (distinct same_col) (rewritten d who r))) (routes d who catalogue q)
unfolding rewritten routes placed expand allowed sources keeps readable summing
keeps_distinct d who catalogue q w k =
    all_select _ (λ x t h. h (search parts) (search parts) k)
    (by_form d who catalogue (λ g. Unit {0}) (all_any catalogue) (λ q gs x. Once d who q x)
    (λ s n k b t w u h. once_seen d who (source s) n (once_of (source s) n.grant (search parts) u))
    (λ c q gs x t i w u h. i (search parts) u h)
    (λ cs q gs x i w u h. once_keep d who cs x (search parts) (i (search parts) u (search parts)))
    (λ a b q r gs hs x y t i j w u h. and_both (keeps once (line d who x)) (keeps once (line d who y))
    (i (search parts) (distinct_l eqb (sources q) (sources r) u) (search parts)) (j (search parts) (distinct_r eqb (sources q) (sources r) u) (search parts)))
    (λ a b q r n k o t w u h. once_over d who (join a b q r) n (once_of (join a b q r) n.grant (search parts) u) w u h)
    (λ f c size offset q gs x t i w u h. i (search parts) u h)
    (λ f c size offset q n k b t w u h. once_summed d who q n (once_of q n.grant (search parts) u) (search parts) u h) q)
