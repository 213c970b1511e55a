-- The rewritten query of a route: a plain query over the streams.
use Rattle.std.specs.Prelude.{List, [], ◌∷◌, ℕ}
use Rattle.syntax.specs.Grammar.{Cond, all}
use Rattle.model.specs.Conditions.{conds_of}
use Rattle.model.specs.Queries.{Schema, Compare, Query, source, pick, keep, join, aggregate, Caller}
use Rattle.model.specs.Grants.{limits, shown_of}
use Rattle.model.specs.Routes.{Source, Route, routes_compute}

-- with no condition the pick is absent
unfoldable pub under : List (Cond Compare) → Query ℕ → Query ℕ
under [] q = q
under (c ∷ cs) q = pick (all (conds_of c cs)) q

-- what defines a view: the grant's conditions below the keep of its shown columns
unfoldable pub defined : Schema → Caller → Source → Query ℕ
defined d who x = keep (shown_of d x.grant) (under (limits who x.grant) x.over)

-- a query in each source's place
unfoldable pub expand : {S R : Type 0} → (S → Query R) → Query S → Query R
expand f (source s) = f s
expand f (pick c q) = pick c (expand f q)
expand f (keep cs q) = keep cs (expand f q)
expand f (join a b q r) = join a b (expand f q) (expand f r)
expand f (aggregate g c size offset q) = aggregate g c size offset (expand f q)

unfoldable pub rewritten : Schema → Caller → Route → Query ℕ
rewritten d who x = expand (defined d who) x.query

-- To unfold this is to unfold every definition above.
unfoldable pub rewriting_computes : Unit {0}
unfolding routes_compute under defined expand rewritten
rewriting_computes = tt
