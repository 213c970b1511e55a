-- A query's aggregate and its OFFSET, as the query and what it asks of grants have them.
use mathlib.Core.Path.{◌≡◌, refl}
use mathlib.Core.List.{List}
use Prim.Native.Nat.{ℕ, ◌≤◌}
use native.Mathlib.Omega.{arith}
use lib.Dec.{T, leb→le}
use Rattle.lists.proofs.Laws.{parts}
use Rattle.syntax.specs.Limits.{top}
use Rattle.model.specs.Queries.{Query, source, pick, keep, join, aggregate}
use Rattle.model.specs.Checks.{no_aggregate, fitting, sized}
use Rattle.model.specs.Alike.{span_bounded, spans_bounded}
use Rattle.needs.specs.Asking.{rows_needs, pick_needs, keep_needs, join_needs, aggregate_needs, needs_of}
use Rattle.needs.proofs.Shapes.{fn_some}
use Rattle.plan.proofs.Shapes.{query_offset}

pub fitting_some : (size offset : ℕ) → T (fitting size offset) → 1 ≤ offset
unfolding fitting
fitting_some size offset t = leb→le 1 offset (search parts)

pub needs_offset : (ns : List ℕ) (q : Query ℕ) → (needs_of ns q).offset ≡ query_offset q
unfolding needs_of rows_needs pick_needs keep_needs join_needs aggregate_needs query_offset
needs_offset ns (source s) = refl
needs_offset ns (pick c q) = needs_offset ns q
needs_offset ns (keep cs q) = needs_offset ns q
needs_offset ns (join a b q r) = refl
needs_offset ns (aggregate f c size offset q) = refl

-- where there is no aggregate it is 0
pub plain_offset : (q : Query ℕ) → T (no_aggregate q) → query_offset q ≡ 0
unfolding no_aggregate query_offset
plain_offset (source s) t = refl
plain_offset (pick c q) t = plain_offset q t
plain_offset (keep cs q) t = plain_offset q t
plain_offset (join a b q r) t = refl
plain_offset (aggregate f c size offset q) t = absurd t

pub unasked_offset : (ns : List ℕ) (q : Query ℕ) → (needs_of ns q).aggregate ≡ 0 → query_offset q ≡ 0
unfolding needs_of rows_needs pick_needs keep_needs join_needs aggregate_needs query_offset
unasked_offset ns (source s) e = refl
unasked_offset ns (pick c q) e = unasked_offset ns q e
unasked_offset ns (keep cs q) e = unasked_offset ns q e
unasked_offset ns (join a b q r) e = refl
unasked_offset ns (aggregate f c size offset q) e = absurd (fn_some ns f e)

-- where there is one it is some, and can be written
pub asked_offset : (ns : List ℕ) (q : Query ℕ) → T (sized q) → ((needs_of ns q).aggregate ≡ 0 → ⊥) → 1 ≤ query_offset q
unfolding needs_of rows_needs pick_needs keep_needs join_needs aggregate_needs query_offset sized fitting
asked_offset ns (source s) t h = absurd (h refl)
asked_offset ns (pick c q) t h = asked_offset ns q t h
asked_offset ns (keep cs q) t h = asked_offset ns q t h
asked_offset ns (join a b q r) t h = absurd (h refl)
asked_offset ns (aggregate f c size offset q) t h = leb→le 1 offset (search parts)

pub near_offset : (q : Query ℕ) → T (spans_bounded q) → query_offset q ≤ top
unfolding query_offset spans_bounded span_bounded
near_offset (source s) t = omega arith
near_offset (pick c q) t = near_offset q t
near_offset (keep cs q) t = near_offset q t
near_offset (join a b q r) t = omega arith
near_offset (aggregate f c size offset q) t = leb→le offset top (search parts)
