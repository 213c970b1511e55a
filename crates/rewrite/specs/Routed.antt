-- The query over views of a route by its kind, and the grant that numbers stand for.
use Rattle.std.specs.Prelude.{◌≡◌, List, ℕ, T, ltb}
use Rattle.lists.specs.Lists.{select, every, gather}
use Rattle.model.specs.Queries as M
use Rattle.model.specs.Queries.{Schema, columns_of, Query, source, pick, keep, join, aggregate}
use Rattle.model.specs.Routes.{Source, Numbered, seen, keeping, over_view, summed}
use Rattle.schema.specs.Schemas.{streams_in, schema_of}
use Rattle.masks.specs.Masks.{inside}
use Rattle.nodes.specs.Nodes.{conditions_of, column_in}
use Rattle.grant.specs.Grants.{limit_of, streams_mask}
use Rattle.grant.specs.Catalogues.{words_in}
use Rattle.query.specs.Forms.{Words}
use Rattle.rewrite.specs.declared.Restriction.{Restriction}

-- ---- routes

module _ (d : Schema) where
  -- side by side: a grant for the first stream, another for those after it
  unfoldable pub over_sides : Numbered → Numbered → Query ℕ → Query Source
  over_sides n m (source s) = seen (source s) n
  over_sides n m (pick c q) = pick c (over_sides n m q)
  over_sides n m (keep cs q) = keeping d cs (over_sides n m q)
  over_sides n m (join a b q r) = join a b (over_sides n m q) (over_sides m m r)
  over_sides n m (aggregate f c size offset q) = aggregate f c size offset (over_sides n m q)

  -- the picks above an aggregate, around the aggregate of what its grant opens
  unfoldable pub over_sum : Query ℕ → Numbered → Query Source
  over_sum (source s) n = seen (source s) n
  over_sum (pick c q) n = pick c (over_sum q n)
  over_sum (keep cs q) n = keeping d cs (over_sum q n)
  over_sum (join a b q r) n = over_view d (join a b q r) n
  over_sum (aggregate f c size offset q) n = aggregate f c size offset (summed d q n)

-- ---- grants

-- the grant that the numbers and the words of the catalogue stand for; its streams are declared, and it shows columns of these alone
pub record Stands (ns : List ℕ) (w : Words) (g : Restriction) (m : M.Grant) : Type 0 where
  pub shown : m.shown ≡ select (column_in g.shown) (gather (columns_of (schema_of ns)) m.of)
  pub when : m.when ≡ conditions_of (words_in w.granted g.place) g.words
  pub from : m.from ≡ limit_of g.from
  pub to : m.to ≡ limit_of g.to
  pub declared : T (every (λ s. ltb s (streams_in ns)) m.of)
  pub theirs : T (inside g.shown (streams_mask ns m.of))
