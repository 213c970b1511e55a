-- The query over views that a route makes, as the rewriter has it.
use mathlib.Core.Path.{◌≡◌, refl, ap, ap₂}
use mathlib.Core.List.{List}
use mathlib.Core.Bool.{Bool, true, false, not, ◌&&◌}
use Prim.Native.Nat.{ℕ}
use lib.Dec.{T}
use Rattle.lists.proofs.Laws.{parts}
use Rattle.model.specs.Queries.{Schema, Col, Query, source, pick, keep, join, aggregate, Grant}
use Rattle.model.specs.Checks.{no_aggregate, side, allowed}
use Rattle.model.specs.Routes.{keeping}
use Rattle.model.proofs.Forms.{side_free}
use Rattle.openings.specs.Made.{looked, through, figured}
use Rattle.rewrite.specs.Routed.{over_sides, over_sum}

module _ (d : Schema) where
  -- a side of a join looks at one grant alone
  side_through : (g h k : Grant) (q : Query ℕ) → T (side q) → through d g h q ≡ over_sides d (looked g) (looked k) q
  unfolding through over_sides side
  side_through g h k (source s) t = refl
  side_through g h k (pick c q) t = ap (pick c) (side_through g h k q t)
  side_through g h k (keep cs q) t = ap (keeping d cs) (side_through g h k q t)
  side_through g h k (join a b q r) t = absurd t
  side_through g h k (aggregate f c size offset q) t = absurd t

  pub sides_made : (g h : Grant) (hs : ℕ → List Col) (q : Query ℕ) → T (allowed hs q) → through d g h q ≡ over_sides d (looked g) (looked h) q
  unfolding through over_sides allowed
  sides_made g h hs (source s) t = refl
  sides_made g h hs (pick c q) t = ap (pick c) (sides_made g h hs q (search parts))
  sides_made g h hs (keep cs q) t = ap (keeping d cs) (sides_made g h hs q (search parts))
  sides_made g h hs (join a b q r) t = ap₂ (join a b) (side_through g g h q (search parts)) (side_through h h h r (search parts))
  sides_made g h hs (aggregate f c size offset q) t = ap (aggregate f c size offset) (sides_made g h hs q (search parts))

  pub figures_made : (g : Grant) (hs : ℕ → List Col) (q : Query ℕ) → T (allowed hs q) → T (not (no_aggregate q)) → figured d g q ≡ over_sum d q (looked g)
  unfolding figured over_sum allowed no_aggregate
  figures_made g hs (source s) t u = refl
  figures_made g hs (pick c q) t u = ap (pick c) (figures_made g hs q (search parts) u)
  figures_made g hs (keep cs q) t u = ap (keeping d cs) (figures_made g hs q (search parts) u)
  figures_made g hs (join a b q r) t u = absurd (none (no_aggregate q) (no_aggregate r) (side_free q (search parts)) (side_free r (search parts)) u)
    where
      none : (x y : Bool) → T x → T y → T (not (x && y)) → ⊥
      none true true a b c = c
      none true false a b c = b
      none false y a b c = a
  figures_made g hs (aggregate f c size offset q) t u = refl
