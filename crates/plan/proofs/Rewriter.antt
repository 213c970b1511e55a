-- The tables that the rewriter makes are regular.
use mathlib.Core.Path.{◌≡◌, refl, ap, ◌∙◌}
use mathlib.Core.List.{List, [], ◌∷◌, ◌++◌}
use mathlib.Core.Bool.{Bool, true, false, ◌&&◌, not, cond}
use Prim.Native.Nat.{ℕ, suc, ◌-◌, ◌≤◌}
use native.Mathlib.Omega.{arith}
use lib.Dec.{T, ltb, leb, eqb, ltb→lt, eqb→eq}
use borrow.Author.Tests.{ne_eqb}
use Rattle.lists.specs.Lists.{every}
use Rattle.lists.proofs.Laws.{and_l, and_r, and_both, parts, true_T, append_nil}
use Rattle.model.specs.Queries as M
use Rattle.model.specs.Queries.{Col}
use Rattle.model.specs.Checks.{no_aggregate, allowed}
use Rattle.schema.specs.Schemas.{streams_in}
use Rattle.orders.specs.Orders.{order_of, order_within, codes_in}
use Rattle.orders.proofs.Codes.{from_below, within_below}
use Rattle.grant.specs.Grants.{column_codes}
use Rattle.query.specs.Forms.{Words, rows_form, pick_form, form_order, join_form, under_form}
use Rattle.query.specs.Shapes.{depth, taken, formed}
use Rattle.query.specs.declared.Form.{Form}
use Rattle.query.proofs.Shapes.{Laid, laid_rows, laid_pick, laid_keep, laid_join, laid_aggregate, depth_laid}
use Rattle.rewrite.specs.declared.Restriction.{Restriction}
use Rattle.rewrite.specs.Rewrites.{under_of, shown_order, seen_forms, cut_forms, side_picks, side_stream, side_rest, side_order, pair_order, view_forms, joined_forms, pair_forms, sum_forms}
use Rattle.rewrite.proofs.SideBySide.{cut_rows, cut_same, cut_kept}
use Rattle.rewrite.proofs.OnPair.{side_free, pair_same, pair_kept, pair_joined}
use Rattle.rewrite.proofs.OneStream.{not_free, sum_same, sum_seen}
use Rattle.plan.specs.Plans.{viewless, regular}
use Rattle.plan.proofs.Meaning.{Kind, k_rows, k_pick, k_keep, k_join, k_aggregate, k_under, kind_of}
use Rattle.plan.proofs.Regular.{told, told_stream, told_number, taken_one, taken_two, add_rows, add_pick, add_kept, add_join, add_aggregate, add_under}

-- ---- a grant for each stream

module _ (w : Words) (ns : List ℕ) where
  -- a stream as a grant shows it
  seen_regular : (g : Restriction) (f : Form) (fs : List Form) → f.kind ≡ rows_form → T (ltb f.first (streams_in ns)) → T (regular w ns fs) → T (regular w ns (seen_forms ns g f ++ fs))
  unfolding seen_forms shown_order depth viewless
  seen_regular g f fs e t r =
      let x = add_rows w ns f fs r e t in
      let y = add_under w ns (under_of g) (f ∷ fs) x refl (rw e (omega arith)) (rw e tt) in
      add_kept w ns (shown_order ns (f.first ∷ []) g) (under_of g ∷ f ∷ fs) y (rw e (omega arith)) (within_below g.shown (order_of (column_codes ns (f.first ∷ []))))

  module _ (mask : ℕ) where
    pub cut_depth : (g h : Restriction) (fs : List Form) → depth (cut_forms ns mask g h fs) ≡ depth fs
    cut_depth g h [] = unfold cut_forms in refl
    cut_depth g h (f ∷ fs) = go (kind_of f) (cut_depth h h fs) (cut_depth g h fs)
      where
        go : Kind f → depth (cut_forms ns mask h h fs) ≡ depth fs → depth (cut_forms ns mask g h fs) ≡ depth fs → depth (cut_forms ns mask g h (f ∷ fs)) ≡ depth (f ∷ fs)
        go (k_rows e) i j = rw (cut_rows ns mask g h f fs e) (unfold depth seen_forms in rw e (ap suc i))
        go (k_pick e) i j = rw (cut_same ns mask g h f fs e refl refl) (unfold depth in rw e j)
        go (k_keep e) i j = rw (cut_kept ns mask g h f fs e) (unfold depth in rw e j)
        go (k_join e) i j = rw (cut_same ns mask g h f fs e refl refl) (unfold depth in rw (e, j))
        go (k_aggregate e) i j = rw (cut_same ns mask g h f fs e refl refl) (unfold depth in rw e j)
        go (k_under e) i j =
            rw (cut_same ns mask g h f fs {k = f.kind} refl (ne_eqb f.kind 0 (λ u. omega arith)) (ne_eqb f.kind 2 (λ u. omega arith)))
            (unfold depth in rw (ne_eqb f.kind 0 (λ u. omega arith), ne_eqb f.kind 3 (λ u. omega arith)) j)

    -- what a form of a query's table leaves to show
    module _ (g h : Restriction) (f : Form) (fs : List Form) (b : T (ltb f.kind under_form)) (l : T (leb (taken f) (depth fs))) (t : T (told ns f)) where
      cut_form_regular : Kind f → T (regular w ns (cut_forms ns mask h h fs)) → T (regular w ns (cut_forms ns mask g h fs)) → T (regular w ns (cut_forms ns mask g h (f ∷ fs)))
      cut_form_regular (k_rows e) i j = rw (cut_rows ns mask g h f fs e) (seen_regular g f (cut_forms ns mask h h fs) e (told_stream ns f e t) i)
      cut_form_regular (k_pick e) i j = rw (cut_same ns mask g h f fs e refl refl) (add_pick w ns f (cut_forms ns mask g h fs) j e (rw (cut_depth g h fs) (taken_one f fs l e refl refl)))
      cut_form_regular (k_keep e) i j =
          rw (cut_kept ns mask g h f fs e)
          (add_kept w ns (order_within mask (form_order f)) (cut_forms ns mask g h fs) j (rw (cut_depth g h fs) (taken_one f fs l e refl refl)) (within_below mask (form_order f)))
      cut_form_regular (k_join e) i j = rw (cut_same ns mask g h f fs e refl refl) (add_join w ns f (cut_forms ns mask g h fs) j e (rw (cut_depth g h fs) (taken_two f fs l e)))
      cut_form_regular (k_aggregate e) i j =
          rw (cut_same ns mask g h f fs e refl refl) (add_aggregate w ns f (cut_forms ns mask g h fs) j e (rw (cut_depth g h fs) (taken_one f fs l e refl refl)) (told_number ns f e t))
      cut_form_regular (k_under e) i j = let k = ltb→lt f.kind under_form b in absurd (omega arith)

    pub cut_regular : (g h : Restriction) (fs : List Form) → T (formed fs) → T (every (told ns) fs) → T (regular w ns (cut_forms ns mask g h fs))
    unfolding formed every
    cut_regular g h [] t u = unfold cut_forms regular in tt
    cut_regular g h (f ∷ fs) t u =
        cut_form_regular g h f fs (search parts) (search parts) (search parts) (kind_of f) (cut_regular h h fs (search parts) (search parts)) (cut_regular g h fs (search parts) (search parts))

-- ---- a join's side

-- a form that is no stream adds nothing to the depth
depth_rest : (f : Form) (fs : List Form) → eqb f.kind rows_form ≡ false → depth (f ∷ fs) ≤ depth fs
unfolding depth
depth_rest f fs e = rw e (go (eqb f.kind 3))
  where
    go : (b : Bool) → cond b (depth fs - 1) (depth fs) ≤ depth fs
    go true = omega arith
    go false = omega arith

pub stream_kind : (fs : List Form) → (side_stream fs).kind ≡ rows_form
unfolding side_stream
stream_kind [] = refl
stream_kind (f ∷ fs) = go (eqb f.kind 0) refl (stream_kind fs)
  where
    go : (b : Bool) → eqb f.kind 0 ≡ b → (side_stream fs).kind ≡ 0 → (cond b f (side_stream fs)).kind ≡ 0
    go true e i = eqb→eq f.kind 0 (true_T (eqb f.kind 0) e)
    go false e i = i

rest_depth : (fs : List Form) → depth fs ≤ suc (depth (side_rest fs))
unfolding side_rest depth
rest_depth [] = omega arith
rest_depth (f ∷ fs) = go (eqb f.kind 0) refl (rest_depth fs)
  where
    go : (b : Bool) → eqb f.kind 0 ≡ b → depth fs ≤ suc (depth (side_rest fs)) → depth (f ∷ fs) ≤ suc (depth (cond b fs (side_rest fs)))
    go true e i = rw e (omega arith)
    go false e i = let j = depth_rest f fs e in omega arith

-- its picks
abbrev picking : Form → Bool
picking f = eqb f.kind pick_form

picks_only : (fs : List Form) → T (every picking (side_picks fs))
unfolding side_picks every
picks_only [] = tt
picks_only (f ∷ fs) = go (eqb f.kind 0) (eqb f.kind 1) refl (picks_only fs)
  where
    go : (a b : Bool) → eqb f.kind 1 ≡ b → T (every picking (side_picks fs)) → T (every picking (cond a [] (cond b (f ∷ side_picks fs) (side_picks fs))))
    go true b e i = tt
    go false true e i = and_both (picking f) (every picking (side_picks fs)) (true_T (picking f) e) i
    go false false e i = i

picks_depth : (ps fs : List Form) → T (every picking ps) → depth (ps ++ fs) ≡ depth fs
unfolding every depth
picks_depth [] fs t = refl
picks_depth (p ∷ ps) fs t = rw (eqb→eq p.kind 1 (and_l (picking p) (every picking ps) t)) (picks_depth ps fs (and_r (picking p) (every picking ps) t))

module _ (w : Words) (ns : List ℕ) where
  picks_regular : (ps fs : List Form) → T (every picking ps) → 1 ≤ depth fs → T (regular w ns fs) → T (regular w ns (ps ++ fs))
  unfolding every
  picks_regular [] fs t h r = r
  picks_regular (p ∷ ps) fs t h r =
      let i = picks_depth ps fs (and_r (picking p) (every picking ps) t) in
      add_pick w ns p (ps ++ fs) (picks_regular ps fs (and_r (picking p) (every picking ps) t) h r) (eqb→eq p.kind 1 (and_l (picking p) (every picking ps) t)) (omega arith)

  stream_told : (fs : List Form) → 1 ≤ depth fs → T (every (told ns) fs) → T (told ns (side_stream fs))
  unfolding side_stream every
  stream_told [] h t = unfold depth in absurd (omega arith)
  stream_told (f ∷ fs) h t = go (eqb f.kind 0) refl (λ k. stream_told fs k (and_r (told ns f) (every (told ns) fs) t))
    where
      go : (b : Bool) → eqb f.kind 0 ≡ b → (1 ≤ depth fs → T (told ns (side_stream fs))) → T (told ns (cond b f (side_stream fs)))
      go true e r = and_l (told ns f) (every (told ns) fs) t
      go false e r = let i = depth_rest f fs e in r (omega arith)

  stream_declared : (fs : List Form) → 1 ≤ depth fs → T (every (told ns) fs) → T (ltb (side_stream fs).first (streams_in ns))
  stream_declared fs h t = told_stream ns (side_stream fs) (stream_kind fs) (stream_told fs h t)

  rest_told : (fs : List Form) → T (every (told ns) fs) → T (every (told ns) (side_rest fs))
  unfolding side_rest every
  rest_told [] t = tt
  rest_told (f ∷ fs) t = go (eqb f.kind 0) (rest_told fs (and_r (told ns f) (every (told ns) fs) t))
    where
      go : (b : Bool) → T (every (told ns) (side_rest fs)) → T (every (told ns) (cond b fs (side_rest fs)))
      go true r = and_r (told ns f) (every (told ns) fs) t
      go false r = r

  -- ---- a grant on the pair

  module _ (g : Restriction) where
    view_regular : (j a b : Form) → j.kind ≡ join_form → a.kind ≡ rows_form → T (ltb a.first (streams_in ns)) → b.kind ≡ rows_form → T (ltb b.first (streams_in ns)) → T (regular w ns (view_forms ns g j a b))
    unfolding view_forms shown_order depth viewless
    view_regular j a b e k s l t =
        let x = add_rows w ns b [] (unfold regular in tt) l t in
        let y = add_rows w ns a (b ∷ []) x k s in
        let z = add_join w ns j (a ∷ b ∷ []) y e (rw (k, l) (omega arith)) in
        let u = add_under w ns (under_of g) (j ∷ a ∷ b ∷ []) z refl (rw (e, k, l) (omega arith)) (rw e tt) in
        add_kept w ns (shown_order ns (a.first ∷ b.first ∷ []) g) (under_of g ∷ j ∷ a ∷ b ∷ []) u (rw (e, k, l) (omega arith)) (within_below g.shown (order_of (column_codes ns (a.first ∷ b.first ∷ []))))

    view_depth : (j a b : Form) → j.kind ≡ join_form → a.kind ≡ rows_form → b.kind ≡ rows_form → depth (view_forms ns g j a b) ≡ 1
    unfolding view_forms depth
    view_depth j a b e k l = rw (e, k, l) refl

    module _ (f : Form) (fs : List Form) (e : f.kind ≡ join_form) where
      abbrev view : List Form
      view = view_forms ns g f (side_stream fs) (side_stream (side_rest fs))

      viewed_depth : depth view ≡ 1
      viewed_depth = view_depth f (side_stream fs) (side_stream (side_rest fs)) e (stream_kind fs) (stream_kind (side_rest fs))

      sides_depth : depth (side_picks (side_rest fs) ++ (side_picks fs ++ view)) ≡ 1
      sides_depth = picks_depth (side_picks (side_rest fs)) (side_picks fs ++ view) (picks_only (side_rest fs)) ∙ (picks_depth (side_picks fs) view (picks_only fs) ∙ viewed_depth)

      joined_depth : depth (joined_forms ns g f fs) ≡ 1
      unfolding joined_forms depth
      joined_depth = sides_depth

      joined_regular : 2 ≤ depth fs → T (every (told ns) fs) → T (regular w ns (joined_forms ns g f fs))
      unfolding joined_forms pair_order
      joined_regular h t =
          let k = rest_depth fs in
          let d = viewed_depth in
          let i = sides_depth in
          let j = picks_depth (side_picks fs) view (picks_only fs) in
          let v = view_regular f (side_stream fs) (side_stream (side_rest fs)) e (stream_kind fs) (stream_declared fs (omega arith) t) (stream_kind (side_rest fs)) (stream_declared (side_rest fs) (omega arith) (rest_told fs t)) in
          let p = picks_regular (side_picks fs) view (picks_only fs) (omega arith) v in
          let q = picks_regular (side_picks (side_rest fs)) (side_picks fs ++ view) (picks_only (side_rest fs)) (omega arith) p in
          add_kept w ns (pair_order ns g.shown fs) (side_picks (side_rest fs) ++ (side_picks fs ++ view)) q (omega arith)
          (from_below (order_within g.shown (side_order ns fs)) (codes_in (order_within g.shown (side_order ns (side_rest fs)))) (within_below g.shown (side_order ns fs)))

    pub pair_depth : (fs : List Form) → T (formed fs) → 1 ≤ depth fs → 1 ≤ depth (pair_forms ns g fs)
    unfolding formed
    pair_depth [] t h = unfold depth in absurd (omega arith)
    pair_depth (f ∷ fs) t h = go (kind_of f) (λ k. pair_depth fs (search parts) k)
      where
        l : T (leb (taken f) (depth fs))
        l = search parts

        go : Kind f → (1 ≤ depth fs → 1 ≤ depth (pair_forms ns g fs)) → 1 ≤ depth (pair_forms ns g (f ∷ fs))
        go (k_rows e) r = rw (pair_same ns g f fs e refl refl) (unfold depth in rw e (omega arith))
        go (k_pick e) r = rw (pair_same ns g f fs e refl refl) (unfold depth in rw e (r (taken_one f fs l e refl refl)))
        go (k_keep e) r = rw (pair_kept ns g f fs e) (unfold depth in r (taken_one f fs l e refl refl))
        go (k_join e) r = rw (pair_joined ns g f fs e, joined_depth f fs e) (omega arith)
        go (k_aggregate e) r = rw (pair_same ns g f fs e refl refl) (unfold depth in rw e (r (taken_one f fs l e refl refl)))
        go (k_under e) r = let b : T (ltb f.kind under_form) = search parts in let k = ltb→lt f.kind under_form b in absurd (omega arith)

    module _ (f : Form) (fs : List Form) (b : T (ltb f.kind under_form)) (l : T (leb (taken f) (depth fs))) (t : T (formed fs)) (u : T (told ns f)) (us : T (every (told ns) fs)) where
      pair_form_regular : Kind f → T (regular w ns (pair_forms ns g fs)) → T (regular w ns (pair_forms ns g (f ∷ fs)))
      pair_form_regular (k_rows e) r = rw (pair_same ns g f fs e refl refl) (add_rows w ns f (pair_forms ns g fs) r e (told_stream ns f e u))
      pair_form_regular (k_pick e) r = rw (pair_same ns g f fs e refl refl) (add_pick w ns f (pair_forms ns g fs) r e (pair_depth fs t (taken_one f fs l e refl refl)))
      pair_form_regular (k_keep e) r =
          rw (pair_kept ns g f fs e)
          (add_kept w ns (order_within g.shown (form_order f)) (pair_forms ns g fs) r (pair_depth fs t (taken_one f fs l e refl refl)) (within_below g.shown (form_order f)))
      pair_form_regular (k_join e) r = rw (pair_joined ns g f fs e) (joined_regular f fs e (taken_two f fs l e) us)
      pair_form_regular (k_aggregate e) r =
          rw (pair_same ns g f fs e refl refl) (add_aggregate w ns f (pair_forms ns g fs) r e (pair_depth fs t (taken_one f fs l e refl refl)) (told_number ns f e u))
      pair_form_regular (k_under e) r = let k = ltb→lt f.kind under_form b in absurd (omega arith)

    pub pair_regular : (fs : List Form) → T (formed fs) → T (every (told ns) fs) → T (regular w ns (pair_forms ns g fs))
    unfolding formed every
    pair_regular [] t u = unfold pair_forms regular in tt
    pair_regular (f ∷ fs) t u = pair_form_regular f fs (search parts) (search parts) (search parts) (search parts) (search parts) (kind_of f) (pair_regular fs (search parts) (search parts))

    -- ---- an aggregate grant on one stream

    -- the forms above the aggregate are picks
    module _ (hs : ℕ → List Col) where
      pub sum_depth : {q : M.Query ℕ} {fs : List Form} → Laid w q fs → T (allowed hs q) → T (not (no_aggregate q)) → 1 ≤ depth (sum_forms ns g fs)
      unfolding allowed no_aggregate depth
      sum_depth (laid_rows f e) t u = absurd u
      sum_depth (laid_pick f {fs} e l) t u = rw (sum_same ns g f fs e refl) (rw e (sum_depth l (search parts) u))
      sum_depth (laid_keep f {q} e l) t u = absurd (not_free (no_aggregate q) (search parts) u)
      sum_depth (laid_join f {q} {r} e l m) t u =
          absurd (not_free (no_aggregate q && no_aggregate r) (and_both (no_aggregate q) (no_aggregate r) (side_free q (search parts)) (side_free r (search parts))) u)
      sum_depth (laid_aggregate f {fs} e l) t u = rw (sum_seen ns g f fs e) (unfold seen_forms in rw (e, stream_kind fs) (omega arith))

      pub sum_regular : {q : M.Query ℕ} {fs : List Form} → Laid w q fs → T (allowed hs q) → T (not (no_aggregate q)) → T (every (told ns) fs) → T (regular w ns (sum_forms ns g fs))
      unfolding allowed no_aggregate every
      sum_regular (laid_rows f e) t u v = absurd u
      sum_regular (laid_pick f {fs} e l) t u v =
          rw (sum_same ns g f fs e refl) (add_pick w ns f (sum_forms ns g fs) (sum_regular l (search parts) u (and_r (told ns f) (every (told ns) fs) v)) e (sum_depth l (search parts) u))
      sum_regular (laid_keep f {q} e l) t u v = absurd (not_free (no_aggregate q) (search parts) u)
      sum_regular (laid_join f {q} {r} e l m) t u v =
          absurd (not_free (no_aggregate q && no_aggregate r) (and_both (no_aggregate q) (no_aggregate r) (side_free q (search parts)) (side_free r (search parts))) u)
      sum_regular (laid_aggregate f {fs} e l) t u v =
          let s = side_stream fs in
          let d = depth_laid l [] in
          let n = append_nil fs in
          let h : depth fs ≡ suc (depth []) = rw n at d in
          let x = rw (append_nil (seen_forms ns g s)) at (seen_regular w ns g s [] (stream_kind fs) (stream_declared fs (omega arith) (and_r (told ns f) (every (told ns) fs) v)) (unfold regular in tt)) in
          rw (sum_seen ns g f fs e) (add_aggregate w ns f (seen_forms ns g s) x e (unfold depth seen_forms in rw (stream_kind fs) (omega arith)) (told_number ns f e (and_l (told ns f) (every (told ns) fs) v)))
