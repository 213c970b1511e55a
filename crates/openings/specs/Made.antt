-- The query that a route makes of the caller's, by its kind and its grants.
use Rattle.std.specs.Prelude.{List, [], ◌∷◌, cond, ℕ, eqb}
use Rattle.model.specs.Queries.{Schema, Query, source, pick, keep, join, aggregate, sources, Grant}
use Rattle.model.specs.Routes.{reads, Source, Numbered, seen, single, keeping, over_view, summed}

-- ---- kinds of routes

-- a reading grant for each stream
abbrev pub sides_kind : ℕ
sides_kind = 1

-- a reading grant for two streams
abbrev pub pair_kind : ℕ
pair_kind = 2

-- a grant of the aggregate
abbrev pub figures_kind : ℕ
figures_kind = 3

-- ---- the queries

-- a grant whose number does not matter
abbrev pub looked : Grant → Numbered
looked g = record { no = 0; grant = g }

module _ (d : Schema) where
  -- the view of a grant in the place of each stream: of the first grant on the left of a join, and of the second on its right
  unfoldable pub through : Grant → Grant → Query ℕ → Query Source
  through g h (source s) = seen (source s) (looked g)
  through g h (pick c q) = pick c (through g h q)
  through g h (keep cs q) = keeping d cs (through g h q)
  through g h (join a b q r) = join a b (through g g q) (through h h r)
  through g h (aggregate f c size offset q) = aggregate f c size offset (through g h q)

  -- an aggregate over the view of its grant, and the picks above
  unfoldable pub figured : Grant → Query ℕ → Query Source
  figured g (source s) = seen (source s) (looked g)
  figured g (pick c q) = pick c (figured g q)
  figured g (keep cs q) = keeping d cs (figured g q)
  figured g (join a b q r) = seen (join a b q r) (looked g)
  figured g (aggregate f c size offset q) = aggregate f c size offset (summed d q (looked g))

  -- by the kind of the route; the second grant is that of the right side where there are two
  unfoldable pub made : Query ℕ → ℕ → Grant → Grant → Query Source
  made q k g h = cond (eqb k sides_kind) (through g h q) (cond (eqb k pair_kind) (over_view d q (looked g)) (figured g q))

  -- the kind of a route with one grant
  unfoldable pub lone_kind : Query ℕ → Grant → ℕ
  lone_kind q g = cond (reads g.right) (cond (single (sources q)) sides_kind pair_kind) figures_kind

  -- by the grants of the route, which has one or two; the first argument stands where there is none
  unfoldable pub made_by : Grant → Query ℕ → List Grant → Query Source
  made_by e q [] = made q sides_kind e e
  made_by e q (g ∷ []) = made q (lone_kind q g) g g
  made_by e q (g ∷ (h ∷ gs)) = made q sides_kind g h
