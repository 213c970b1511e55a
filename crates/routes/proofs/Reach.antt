-- The columns that a query names are those of its streams, or the aggregate's.
use mathlib.Core.List.{List, [], ◌∷◌, ◌++◌}
use mathlib.Core.Bool.{true, ◌&&◌}
use Prim.Native.Nat.{ℕ}
use lib.Dec.{T}
use Rattle.lists.specs.Lists.{every, gather}
use Rattle.lists.proofs.Laws.{and_l, and_r, and_both, or_l, or_r, or_cases, parts, append_nil, gather_append, every_append, every_weaken}
use Rattle.model.specs.Queries.{Col, figure, same_col, Query, source, pick, keep, join, aggregate, sources, header}
use Rattle.model.specs.Checks.{has, within, cond_cols, linked, allowed}
use Rattle.model.proofs.RouteKinds.{asked_cols, equal_cols}
use Rattle.model.proofs.Columns.{has_within, has_append_l, has_append_r}
use Rattle.model.proofs.OneRow.{every_by, by_every}
use Rattle.routes.proofs.Shown.{hs, own}

module _ (ns : List ℕ) where
  own_l : (ss ts : List ℕ) (c : Col) → T (own ns ss c) → T (own ns (ss ++ ts) c)
  own_l ss ts c t = or_cases (same_col c figure) _ t (λ u. or_l (same_col c figure) _ u) (λ u. or_r (same_col c figure) _ (rw (gather_append (hs ns) ss ts) (has_append_l c (gather (hs ns) ss) (gather (hs ns) ts) u)))

  own_r : (ss ts : List ℕ) (c : Col) → T (own ns ts c) → T (own ns (ss ++ ts) c)
  own_r ss ts c t = or_cases (same_col c figure) _ t (λ u. or_l (same_col c figure) _ u) (λ u. or_r (same_col c figure) _ (rw (gather_append (hs ns) ss ts) (has_append_r c (gather (hs ns) ss) (gather (hs ns) ts) u)))

  both_own : (ss ts : List ℕ) (cs ds : List Col) → T (every (own ns ss) cs) → T (every (own ns ts) ds) → T (every (own ns (ss ++ ts)) (cs ++ ds))
  both_own ss ts cs ds t u = every_append (own ns (ss ++ ts)) cs ds (every_weaken (own ns ss) (own ns (ss ++ ts)) (λ c. own_l ss ts c) cs t) (every_weaken (own ns ts) (own ns (ss ++ ts)) (λ c. own_r ss ts c) ds u)

  -- columns within such
  within_own : (ss : List ℕ) (cs ds : List Col) → T (within cs ds) → T (every (own ns ss) ds) → T (every (own ns ss) cs)
  within_own ss cs ds w t = every_by (own ns ss) cs (λ c u. by_every (own ns ss) c ds t (has_within c ds cs w u))

  figure_own : (ss : List ℕ) → T (every (own ns ss) (figure ∷ []))
  unfolding every same_col
  figure_own ss = tt

  source_own : (s : ℕ) → T (every (own ns (s ∷ [])) (hs ns s))
  unfolding gather
  source_own s = every_by (own ns (s ∷ [])) (hs ns s) (λ c t. or_r (same_col c figure) _ (rw (append_nil (hs ns s)) t))

  pub own_header : (q : Query ℕ) → T (allowed (hs ns) q) → T (every (own ns (sources q)) (header (hs ns) q))
  unfolding allowed header sources
  own_header (source s) w = source_own s
  own_header (pick c q) w = own_header q (search parts)
  own_header (keep cs q) w = within_own (sources q) cs (header (hs ns) q) (search parts) (own_header q (search parts))
  own_header (join a b q r) w = both_own (sources q) (sources r) (header (hs ns) q) (header (hs ns) r) (own_header q (search parts)) (own_header r (search parts))
  own_header (aggregate f c size offset q) w = figure_own (sources q)

  one_more : (ss : List ℕ) (c : Col) (cs ds : List Col) → T (has ds c) → T (every (own ns ss) ds) → T (every (own ns ss) cs) → T (every (own ns ss) (c ∷ cs))
  unfolding every
  one_more ss c cs ds h t u = and_both (own ns ss c) _ (by_every (own ns ss) c ds t h) u

  pub own_asked : (q : Query ℕ) → T (allowed (hs ns) q) → T (every (own ns (sources q)) (asked_cols q))
  unfolding allowed asked_cols sources
  own_asked (source s) w = unfold every in tt
  own_asked (pick c q) w =
      every_append (own ns (sources q)) (cond_cols c) (asked_cols q) (within_own (sources q) (cond_cols c) (header (hs ns) q) (search parts) (own_header q (search parts))) (own_asked q (search parts))
  own_asked (keep cs q) w = own_asked q (search parts)
  own_asked (join a b q r) w = both_own (sources q) (sources r) (asked_cols q) (asked_cols r) (own_asked q (search parts)) (own_asked r (search parts))
  own_asked (aggregate f c size offset q) w = one_more (sources q) c (asked_cols q) (header (hs ns) q) (search parts) (own_header q (search parts)) (own_asked q (search parts))

  linked_own : (ss : List ℕ) (a b : Col) (ls rs : List Col) → T (linked a b ls rs) → T (every (own ns ss) (ls ++ rs)) → T (every (own ns ss) (a ∷ (b ∷ [])))
  unfolding linked every
  linked_own ss a b ls rs l t =
      or_cases (has ls a && has rs b) (has ls b && has rs a) l
      (λ u. two (has_append_l a ls rs (and_l (has ls a) (has rs b) u)) (has_append_r b ls rs (and_r (has ls a) (has rs b) u)))
      (λ u. two (has_append_r a ls rs (and_r (has ls b) (has rs a) u)) (has_append_l b ls rs (and_l (has ls b) (has rs a) u)))
    where
      two : T (has (ls ++ rs) a) → T (has (ls ++ rs) b) → T (own ns ss a && (own ns ss b && true))
      two u v = and_both (own ns ss a) _ (by_every (own ns ss) a (ls ++ rs) t u) (and_both (own ns ss b) true (by_every (own ns ss) b (ls ++ rs) t v) tt)

  pub own_equal : (q : Query ℕ) → T (allowed (hs ns) q) → T (every (own ns (sources q)) (equal_cols q))
  unfolding allowed equal_cols sources
  own_equal (source s) w = unfold every in tt
  own_equal (pick c q) w = own_equal q (search parts)
  own_equal (keep cs q) w = own_equal q (search parts)
  own_equal (join a b q r) w =
      linked_own (sources q ++ sources r) a b (header (hs ns) q) (header (hs ns) r) (search parts)
      (both_own (sources q) (sources r) (header (hs ns) q) (header (hs ns) r) (own_header q (search parts)) (own_header r (search parts)))
  own_equal (aggregate f c size offset q) w = own_equal q (search parts)

  pub own_named : (q : Query ℕ) → T (allowed (hs ns) q) → T (every (own ns (sources q)) (asked_cols q ++ equal_cols q))
  own_named q w = every_append (own ns (sources q)) (asked_cols q) (equal_cols q) (own_asked q w) (own_equal q w)
