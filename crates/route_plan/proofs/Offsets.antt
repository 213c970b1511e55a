-- A route's rewritten query has the OFFSET of its query.
use mathlib.Core.Path.{◌≡◌, refl, ◌∙◌}
use mathlib.Core.List.{List, [], ◌∷◌}
use Prim.Native.Nat.{ℕ}
use Rattle.lists.specs.Lists.{All}
use Rattle.lists.proofs.Laws.{all_any, all_select}
use Rattle.syntax.specs.Grammar.{Cond}
use Rattle.model.specs.Queries.{Schema, Compare, Query, source, pick, keep, join, aggregate, Grant, Caller, picks}
use Rattle.model.specs.Grants.{limits}
use Rattle.model.specs.Routes.{Source, Numbered, Route, routes, bare, seen, picked_by, over_view, keeping}
use Rattle.model.specs.Rewriting.{under, defined, expand, rewritten}
use Rattle.model.proofs.Ways.{line, by_form}
use Rattle.plan.proofs.Shapes.{query_offset}

offset_under : (cs : List (Cond Compare)) (q : Query ℕ) → query_offset (under cs q) ≡ query_offset q
unfolding query_offset under
offset_under [] q = refl
offset_under (c ∷ cs) q = refl

offset_bare : (q : Query ℕ) → query_offset (bare q) ≡ 0
unfolding query_offset bare
offset_bare (source s) = refl
offset_bare (pick c q) = offset_bare q
offset_bare (keep cs q) = offset_bare q
offset_bare (join a b q r) = refl
offset_bare (aggregate f c size offset q) = offset_bare q

module _ (d : Schema) (who : Caller) where
  offset_seen : (q : Query ℕ) (n : Numbered) → query_offset (line d who (seen q n)) ≡ 0
  unfolding seen expand defined query_offset
  offset_seen q n = offset_under (limits who n.grant) (bare q) ∙ offset_bare q

  offset_picks : (cs : List (Cond Compare)) (q : Query Source) → query_offset (line d who (picked_by cs q)) ≡ query_offset (line d who q)
  unfolding picked_by expand query_offset
  offset_picks [] q = refl
  offset_picks (c ∷ cs) q = offset_picks cs q

pub offset_rewritten : (d : Schema) (who : Caller) (catalogue : List Grant) (q : Query ℕ) → All (λ (r : Route). query_offset (rewritten d who r) ≡ query_offset q) (routes d who catalogue q)
unfolding rewritten routes keeping expand query_offset over_view
offset_rewritten d who catalogue q =
    all_select _ (λ x t e. e)
    (by_form d who catalogue (λ g. Unit {0}) (all_any catalogue) (λ q gs x. query_offset (line d who x) ≡ query_offset q)
    (λ s n k b t. offset_seen d who (source s) n) (λ c q gs x t e. e) (λ cs q gs x e. e) (λ a b q r gs hs x y t e f. refl)
    (λ a b q r n k o t. offset_picks d who (picks r) _ ∙ offset_picks d who (picks q) _ ∙ offset_seen d who (join a b q r) n) (λ f c size offset q gs x t e. refl) (λ f c size offset q n k b t. refl) q)
