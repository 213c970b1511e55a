-- The tables that the rewriter makes have no more conditions of their own than the query's.
use mathlib.Core.Path.{◌≡◌, refl, ◌∙◌}
use mathlib.Core.List.{List, [], ◌∷◌, ◌++◌}
use mathlib.Core.Bool.{Bool, true, false, cond}
use Prim.Native.Nat.{ℕ, suc, ◌+◌, ◌≤◌}
use native.Mathlib.Omega.{arith}
use lib.Dec.{eqb, eqb→eq}
use lib.ListN.{length}
use Rattle.lists.proofs.Laws.{true_T}
use Rattle.orders.specs.Orders.{order_within}
use Rattle.query.specs.Forms.{rows_form, keep_of, form_order, join_form}
use Rattle.query.specs.declared.Form.{Form}
use Rattle.rewrite.specs.declared.Restriction.{Restriction}
use Rattle.rewrite.specs.Rewrites.{cut_form, seen_forms, cut_forms, side_picks, side_stream, side_rest, view_forms, joined_forms, pair_forms, sum_forms}
use Rattle.plan.specs.Plans.{pick_count}
use Rattle.plan.proofs.Rewriter.{stream_kind}
use Rattle.plan.proofs.Meaning.{picks_after}

-- ---- forms

pub picks_most : (fs : List Form) → pick_count fs ≤ length fs
unfolding pick_count
picks_most [] = omega arith
picks_most (f ∷ fs) = go (eqb f.kind 1) (picks_most fs)
  where
    go : (b : Bool) → pick_count fs ≤ length fs → cond b (suc (pick_count fs)) (pick_count fs) ≤ suc (length fs)
    go true i = omega arith
    go false i = omega arith

picks_append : (fs gs : List Form) → pick_count (fs ++ gs) ≡ pick_count fs + pick_count gs
unfolding pick_count
picks_append [] gs = omega arith
picks_append (f ∷ fs) gs = go (eqb f.kind 1) (picks_append fs gs)
  where
    go : (b : Bool) → pick_count (fs ++ gs) ≡ pick_count fs + pick_count gs → cond b (suc (pick_count (fs ++ gs))) (pick_count (fs ++ gs)) ≡ cond b (suc (pick_count fs)) (pick_count fs) + pick_count gs
    go true i = omega arith
    go false i = omega arith

-- one more in front of no more
picks_on : (f : Form) (fs gs : List Form) → pick_count fs ≤ pick_count gs → pick_count (f ∷ fs) ≤ pick_count (f ∷ gs)
unfolding pick_count
picks_on f fs gs h = go (eqb f.kind 1)
  where
    go : (b : Bool) → cond b (suc (pick_count fs)) (pick_count fs) ≤ cond b (suc (pick_count gs)) (pick_count gs)
    go true = omega arith
    go false = omega arith

-- ---- a grant for each stream

module _ (ns : List ℕ) where
  seen_picks : (g : Restriction) (f : Form) (fs : List Form) → f.kind ≡ rows_form → pick_count (seen_forms ns g f ++ fs) ≡ pick_count fs
  unfolding seen_forms pick_count
  seen_picks g f fs e = rw e

  cut_on : (mask : ℕ) (f : Form) (fs gs : List Form) → pick_count fs ≡ pick_count gs → pick_count (cut_form mask f ∷ fs) ≡ pick_count (f ∷ gs)
  unfolding cut_form pick_count
  cut_on mask f fs gs h = go (eqb f.kind 2) refl
    where
      go : (b : Bool) → eqb f.kind 2 ≡ b → pick_count (cond b (keep_of (order_within mask (form_order f))) f ∷ fs) ≡ pick_count (f ∷ gs)
      go true e = rw (eqb→eq f.kind 2 (true_T (eqb f.kind 2) e)) h
      go false e = rw h

  pub cut_picks : (mask : ℕ) (g h : Restriction) (fs : List Form) → pick_count (cut_forms ns mask g h fs) ≡ pick_count fs
  unfolding cut_forms
  cut_picks mask g h [] = refl
  cut_picks mask g h (f ∷ fs) = go (eqb f.kind 0) refl (cut_picks mask h h fs) (cut_picks mask g h fs)
    where
      go : (b : Bool) → eqb f.kind 0 ≡ b → pick_count (cut_forms ns mask h h fs) ≡ pick_count fs → pick_count (cut_forms ns mask g h fs) ≡ pick_count fs
          → pick_count (cond b (seen_forms ns g f ++ cut_forms ns mask h h fs) (cut_form mask f ∷ cut_forms ns mask g h fs)) ≡ pick_count (f ∷ fs)
      go true e i j =
          let k = eqb→eq f.kind 0 (true_T (eqb f.kind 0) e) in
          seen_picks g f (cut_forms ns mask h h fs) k ∙ (i ∙ (unfold pick_count in rw k))
      go false e i j = cut_on mask f (cut_forms ns mask g h fs) fs j

  -- ---- a grant on the pair

  -- a side's, and those of what is after it
  side_both : (fs : List Form) → pick_count (side_picks fs) + pick_count (side_rest fs) ≤ pick_count fs
  unfolding side_picks side_rest pick_count
  side_both [] = omega arith
  side_both (f ∷ fs) = go (eqb f.kind 0) (eqb f.kind 1) refl (side_both fs)
    where
      go : (a b : Bool) → eqb f.kind 1 ≡ b → pick_count (side_picks fs) + pick_count (side_rest fs) ≤ pick_count fs
          → pick_count (cond a [] (cond b (f ∷ side_picks fs) (side_picks fs))) + pick_count (cond a fs (side_rest fs)) ≤ cond b (suc (pick_count fs)) (pick_count fs)
      go true true e i = omega arith
      go true false e i = omega arith
      go false true e i = rw e (omega arith)
      go false false e i = i

  view_picks : (g : Restriction) (j a b : Form) → j.kind ≡ join_form → a.kind ≡ rows_form → b.kind ≡ rows_form → pick_count (view_forms ns g j a b) ≡ 0
  unfolding view_forms pick_count
  view_picks g j a b e k l = rw (e, k, l) refl

  joined_picks : (g : Restriction) (f : Form) (fs : List Form) → f.kind ≡ join_form → pick_count (joined_forms ns g f fs) ≤ pick_count fs
  unfolding joined_forms pick_count
  joined_picks g f fs e =
      let view = view_forms ns g f (side_stream fs) (side_stream (side_rest fs)) in
      let v : pick_count view ≡ 0 = view_picks g f (side_stream fs) (side_stream (side_rest fs)) e (stream_kind fs) (stream_kind (side_rest fs)) in
      let x = picks_append (side_picks (side_rest fs)) (side_picks fs ++ view) in
      let y = picks_append (side_picks fs) view in
      let i = side_both fs in
      let j = side_both (side_rest fs) in
      omega arith

  pub pair_picks : (g : Restriction) (fs : List Form) → pick_count (pair_forms ns g fs) ≤ pick_count fs
  unfolding pair_forms
  pair_picks g [] = omega arith
  pair_picks g (f ∷ fs) = go (eqb f.kind 3) refl (pair_picks g fs)
    where
      go : (b : Bool) → eqb f.kind 3 ≡ b → pick_count (pair_forms ns g fs) ≤ pick_count fs
          → pick_count (cond b (joined_forms ns g f fs) (cut_form g.shown f ∷ pair_forms ns g fs)) ≤ pick_count (f ∷ fs)
      go true e i =
          let j = joined_picks g f fs (eqb→eq f.kind 3 (true_T (eqb f.kind 3) e)) in
          let k = picks_after f fs in
          omega arith
      go false e i =
          let j = cut_on g.shown f (pair_forms ns g fs) (pair_forms ns g fs) refl in
          let k = picks_on f (pair_forms ns g fs) fs i in
          omega arith

  -- ---- an aggregate grant on one stream

  pub sum_picks : (g : Restriction) (fs : List Form) → pick_count (sum_forms ns g fs) ≤ pick_count fs
  unfolding sum_forms
  sum_picks g [] = omega arith
  sum_picks g (f ∷ fs) = picks_on f _ fs (go (eqb f.kind 4) (sum_picks g fs))
    where
      none : pick_count (seen_forms ns g (side_stream fs)) ≡ 0
      none = unfold seen_forms pick_count in rw (stream_kind fs)

      go : (b : Bool) → pick_count (sum_forms ns g fs) ≤ pick_count fs → pick_count (cond b (seen_forms ns g (side_stream fs)) (sum_forms ns g fs)) ≤ pick_count fs
      go true i = let n = none in omega arith
      go false i = i
