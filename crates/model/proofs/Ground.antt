-- The columns of a flat form's base: its conditions and its cut name no others.
use mathlib.Core.Path.{◌≡◌, refl, ap₂}
use mathlib.Core.List.{List, [], ◌∷◌, ◌++◌}
use mathlib.Core.Bool.{true}
use Prim.Native.Nat.{ℕ}
use lib.Dec.{T}
use Rattle.lists.specs.Lists.{every}
use Rattle.lists.proofs.Laws.{parts, All, all_head, all_left, all_right, and_both}
use Rattle.model.specs.Conditions.{tests}
use Rattle.model.specs.Queries.{Col, figure, Query, source, pick, keep, join, aggregate, sources, picks, header, Table}
use Rattle.model.specs.Meaning.{pairs, equality, aggregated}
use Rattle.model.specs.Grants.{limited}
use Rattle.model.specs.Checks.{within, cond_cols, pick_left, pick_right, pickable, side, allowed}
use Rattle.model.proofs.Columns.{has_within, has_append_l, has_append_r, within_by, within_trans, within_both, linked_in}
use Rattle.model.proofs.Rewriting.{stream}
use Rattle.model.proofs.Widths.{Wide, pairs_wide, aggregated_wide}
use Rattle.model.proofs.OneRow.{linked_named}
use Rattle.model.proofs.Tables.{limited_wide}
use Rattle.model.proofs.Flat.{upper, base, side_upper, side_within}

-- ---- of the base

module _ {S : Type 0} where
  unfoldable pub ground : (S → List Col) → Query S → List Col
  ground hs (source s) = hs s
  ground hs (pick c q) = ground hs q
  ground hs (keep cs q) = ground hs q
  ground hs (join a b q r) = hs (stream q) ++ hs (stream r)
  ground hs (aggregate f c size offset q) = figure ∷ []

  -- the first source is one of them
  pub stream_of : {P : S → Type 0} (q : Query S) → All P (sources q) → P (stream q)
  unfolding sources stream
  stream_of (source s) h = all_head h
  stream_of (pick c q) h = stream_of q h
  stream_of (keep cs q) h = stream_of q h
  stream_of (join a b q r) h = stream_of q (all_left (sources q) (sources r) h)
  stream_of (aggregate f c size offset q) h = stream_of q h

  module _ (clock : ℕ) (tab : S → Table) where
    pub base_cols : (hs : S → List Col) (q : Query S) → All (λ s. (tab s).cols ≡ hs s) (sources q) → (base clock tab q).cols ≡ ground hs q
    unfolding base ground sources pairs limited aggregated
    base_cols hs (source s) h = all_head h
    base_cols hs (pick c q) h = base_cols hs q h
    base_cols hs (keep cs q) h = base_cols hs q h
    base_cols hs (join a b q r) h = ap₂ ◌++◌ (stream_of q (all_left (sources q) (sources r) h)) (stream_of r (all_right (sources q) (sources r) h))
    base_cols hs (aggregate f c size offset q) h = refl

    pub base_wide : (q : Query S) → All (λ s. Wide (tab s)) (sources q) → Wide (base clock tab q)
    unfolding base sources
    base_wide (source s) h = all_head h
    base_wide (pick c q) h = base_wide q h
    base_wide (keep cs q) h = base_wide q h
    base_wide (join a b q r) h =
        pairs_wide _ _ (limited_wide (picks q) (tab (stream q)) (stream_of q (all_left (sources q) (sources r) h)))
        (limited_wide (picks r) (tab (stream r)) (stream_of r (all_right (sources q) (sources r) h)))
    base_wide (aggregate f c size offset q) h = aggregated_wide clock f c size offset _

-- ---- of what stands above it

module _ {S : Type 0} (hs : S → List Col) where
  pub side_ground : (q : Query S) → T (side q) → ground hs q ≡ hs (stream q)
  unfolding side ground stream
  side_ground (source s) w = refl
  side_ground (pick c q) w = side_ground q w
  side_ground (keep cs q) w = side_ground q w
  side_ground (join a b q r) w = absurd w
  side_ground (aggregate f c size offset q) w = absurd w

  pub header_ground : (q : Query S) → T (allowed hs q) → T (within (header hs q) (ground hs q))
  unfolding allowed header ground
  header_ground (source s) h = within_by (hs s) (hs s) (λ c t. t)
  header_ground (pick c q) h = header_ground q (search parts)
  header_ground (keep cs q) h = within_trans cs (header hs q) _ (search parts) (header_ground q (search parts))
  header_ground (join a b q r) h =
      within_both (header hs q) (header hs r) _
      (within_by (header hs q) _ (λ c t. has_append_l c (hs (stream q)) _ (has_within c _ (header hs q) (side_within hs q (search parts) (search parts)) t)))
      (within_by (header hs r) _ (λ c t. has_append_r c (hs (stream q)) _ (has_within c _ (header hs r) (side_within hs r (search parts) (search parts)) t)))
  header_ground (aggregate f c size offset q) h = within_by (figure ∷ []) (figure ∷ []) (λ c t. t)

  -- the conditions above the base name its columns
  pub upper_ground : (q : Query S) → T (allowed hs q) → T (every (λ c. within (cond_cols c) (ground hs q)) (upper q))
  unfolding allowed ground upper every header
  upper_ground (source s) h = tt
  upper_ground (pick c q) h =
      and_both (within (cond_cols c) (ground hs q)) _ (within_trans (cond_cols c) (header hs q) _ (search parts) (header_ground q (search parts))) (upper_ground q (search parts))
  upper_ground (keep cs q) h = upper_ground q (search parts)
  upper_ground (join a b q r) h =
      and_both (within (cond_cols (equality a b)) (hs (stream q) ++ hs (stream r))) true
      (linked_named a b (hs (stream q)) (hs (stream r))
      (linked_in a b (header hs q) (header hs r) _ _ (side_within hs q (search parts) (search parts)) (side_within hs r (search parts) (search parts)) (search parts)))
      tt
  upper_ground (aggregate f c size offset q) h = tt

  -- and their terms stand where they may
  pub upper_pickable : (q : Query S) → T (allowed hs q) → T (every pickable (upper q))
  unfolding allowed upper every
  upper_pickable (source s) h = tt
  upper_pickable (pick c q) h = and_both (pickable c) _ (search parts) (upper_pickable q (search parts))
  upper_pickable (keep cs q) h = upper_pickable q (search parts)
  upper_pickable (join a b q r) h = unfold pickable tests equality pick_left pick_right in tt
  upper_pickable (aggregate f c size offset q) h = tt

  -- those of a side's picks name columns of its source
  pub picks_ground : (q : Query S) → T (side q) → T (allowed hs q) → T (every (λ c. within (cond_cols c) (hs (stream q))) (picks q))
  picks_ground q w h = rw (side_upper q w, side_ground q w) at (upper_ground q h)
