-- The three kinds of routes by the numbers of their grants: the definitions with which Found.antt compares the routes.
use mathlib.Core.List.{List, [], ◌∷◌, ◌++◌, map}
use mathlib.Core.Bool.{Bool, true, ◌&&◌, ◌||◌, not, cond}
use Prim.Native.Nat.{ℕ}
use lib.Dec.{leb}
use Rattle.lists.specs.Lists.{select, every, some?, empty?, gather, same_list}
use Rattle.syntax.specs.Grammar.{Right, Cond}
use Rattle.model.specs.Queries.{Schema, Col, Compare, Query, source, pick, keep, join, aggregate, sources, picks, Grant, Caller}
use Rattle.model.specs.Grants.{belongs, shown_of}
use Rattle.model.specs.Checks.{has, cond_cols, timed}
use Rattle.model.specs.Routes.{reads, gives, numbered, single}
use Rattle.model.proofs.Asked.{shown_by, left, grants_at, joins_by}

-- ---- what a query names

-- the columns of its picks and of its aggregate
unfoldable pub asked_cols : Query ℕ → List Col
asked_cols (source s) = []
asked_cols (pick c q) = cond_cols c ++ asked_cols q
asked_cols (keep cs q) = asked_cols q
asked_cols (join a b q r) = asked_cols q ++ asked_cols r
asked_cols (aggregate f c size offset q) = c ∷ asked_cols q

-- those of its join's equality
unfoldable pub equal_cols : Query ℕ → List Col
equal_cols (source s) = []
equal_cols (pick c q) = equal_cols q
equal_cols (keep cs q) = equal_cols q
equal_cols (join a b q r) = a ∷ b ∷ []
equal_cols (aggregate f c size offset q) = equal_cols q

-- the picks below its join
unfoldable pub side_picks : Query ℕ → List (Cond Compare)
side_picks (source s) = []
side_picks (pick c q) = side_picks q
side_picks (keep cs q) = side_picks q
side_picks (join a b q r) = picks q ++ picks r
side_picks (aggregate f c size offset q) = side_picks q

-- its join's equality, if it has one, is one of the grant's conditions
unfoldable pub has_equality : Query ℕ → Grant → Bool
has_equality q g = single (sources q) || some? (λ c. joins_by c q) g.when

-- ---- the kinds

module _ (d : Schema) (who : Caller) (catalogue : List Grant) where
  -- the caller's grants of a right on just these streams that pass a test, by number
  unfoldable pub numbers : (Right → Bool) → List ℕ → (Grant → Bool) → List (List ℕ)
  numbers p ss t = map (λ n. n.no ∷ []) (select (λ n. belongs who n.grant && (p n.grant.right && (same_list n.grant.of ss && t n.grant))) (numbered 1 catalogue))

  -- a read grant for each stream: by the number of the first, then by that of the second
  unfoldable pub for_each : List ℕ → List (List ℕ)
  for_each [] = [] ∷ []
  for_each (s ∷ ss) = gather (λ ns. map (λ ms. ns ++ ms) (for_each ss)) (numbers reads (s ∷ []) (λ g. true))

  -- 1. a read grant for each stream, that show every column that a pick, the join or the aggregate names
  unfoldable pub first_kind : Query ℕ → List (List ℕ)
  first_kind q = select (λ ns. every (shown_by d (grants_at catalogue ns)) (asked_cols q ++ equal_cols q)) (for_each (sources q))

  -- 2. for a join, a read grant on the pair with the query's equality, that shows the columns of picks and of the aggregate; and no pick on `time` below the join
  unfoldable pub second_kind : Query ℕ → List (List ℕ)
  second_kind q = cond (single (sources q)) [] (numbers reads (sources q) (λ g. has_equality q g && (every (shown_by d (g ∷ [])) (asked_cols q) && not (some? timed (side_picks q)))))

  -- 3. for an aggregate, a grant of its right on the stream, or on the pair with the query's equality, that shows the column, with SIZE and OFFSET not below its own; and no pick below the aggregate
  unfoldable pub third_kind : Query ℕ → List (List ℕ)
  third_kind (source s) = []
  third_kind (pick c q) = third_kind q
  third_kind (keep cs q) = []
  third_kind (join a b q r) = []
  third_kind (aggregate f c size offset q) = numbers (gives f) (sources q) (λ g. has_equality q g && (empty? (picks q) && (has (shown_of d g) c && (leb g.size size && leb g.offset offset))))

  -- in this order; but where no column is left, there is no route
  unfoldable pub kinds : Query ℕ → List (List ℕ)
  kinds q = select (λ ns. not (empty? (left d (grants_at catalogue ns) q))) (first_kind q ++ (second_kind q ++ third_kind q))
