-- Forms that keep a table regular, by what each tells by itself and how many queries are after it.
use mathlib.Core.Path.{◌≡◌, refl, ap, ◌∙◌}
use mathlib.Core.List.{List, [], ◌∷◌, ◌++◌}
use mathlib.Core.Bool.{Bool, true, false, not, cond}
use Prim.Native.Nat.{ℕ, ◌-◌, ◌≤◌, ◌<◌}
use native.Mathlib.Omega.{arith}
use lib.Dec.{T, ltb, leb, eqb, lt→ltb, leb→le, le→leb}
use lib.ListN.{length}
use borrow.Author.Tests.{ne_eqb}
use Rattle.lists.specs.Lists.{every}
use Rattle.lists.proofs.Laws.{and_l, and_r, and_both, every_append, every_append_l, every_append_r}
use Rattle.model.specs.Queries as M
use Rattle.model.specs.Queries.{sources}
use Rattle.schema.specs.Schemas.{streams_in}
use Rattle.orders.specs.Orders.{order_end}
use Rattle.query.specs.Forms.{Words, rows_form, pick_form, keep_form, keep_of, form_order, join_form, aggregate_form, under_form, inner, queries_in}
use Rattle.query.specs.Shapes.{has_number, depth, taken}
use Rattle.query.specs.declared.Form.{Form}
use Rattle.query.proofs.Rewritten.{keep_order}
use Rattle.query.proofs.Shapes.{Laid, laid_rows, laid_pick, laid_keep, laid_join, laid_aggregate, form_rows, form_pick, form_keep, form_join, form_aggregate}
use Rattle.rewrite.proofs.Shown.{declared_all}
use Rattle.plan.specs.Plans.{viewless, form_regular, regular}
use Rattle.plan.proofs.Meaning.{Kind, k_rows, k_pick, k_keep, k_join, k_aggregate, k_under, kind_of, form_under}

-- ---- what a form tells by itself

-- a stream is declared, an aggregate has its number
unfoldable pub told : List ℕ → Form → Bool
told ns f = cond (eqb f.kind rows_form) (ltb f.first (streams_in ns)) (has_number f)

module _ (ns : List ℕ) where
  pub told_stream : (f : Form) → f.kind ≡ rows_form → T (told ns f) → T (ltb f.first (streams_in ns))
  unfolding told
  told_stream f e t = rw e at t

  pub told_number : (f : Form) → f.kind ≡ aggregate_form → T (told ns f) → T (not (eqb f.first 0))
  unfolding told has_number
  told_number f e t = rw e at t

  told_other : (f : Form) {k : ℕ} → f.kind ≡ k → eqb k rows_form ≡ false → T (has_number f) → T (told ns f)
  unfolding told
  told_other f e i t = rw (ap (λ (k : ℕ). eqb k 0) e ∙ i) t

  told_more : (f : Form) (fs : List Form) {k : ℕ} → f.kind ≡ k → eqb k rows_form ≡ false → T (every has_number (f ∷ fs)) → T (every (told ns) fs) → T (every (told ns) (f ∷ fs))
  unfolding every
  told_more f fs e i n t = and_both (told ns f) (every (told ns) fs) (told_other f e i (and_l (has_number f) (every has_number fs) n)) t

  pub told_laid : {w : Words} {q : M.Query ℕ} {fs : List Form} → Laid w q fs → T (declared_all ns (sources q)) → T (every has_number fs) → T (every (told ns) fs)
  unfolding every sources
  told_laid (laid_rows f e) d n = unfold told in and_both (told ns f) true (rw e (and_l (ltb f.first (streams_in ns)) true d)) tt
  told_laid (laid_pick f {fs} e l) d n = told_more f fs e refl n (told_laid l d (and_r (has_number f) (every has_number fs) n))
  told_laid (laid_keep f {fs} e l) d n = told_more f fs e refl n (told_laid l d (and_r (has_number f) (every has_number fs) n))
  told_laid (laid_join f {q} {r} {fs} {gs} e l m) d n =
      let rest = and_r (has_number f) (every has_number (fs ++ gs)) n in
      told_more f (fs ++ gs) e refl n
      (every_append (told ns) fs gs (told_laid l (every_append_l _ (sources q) (sources r) d) (every_append_l has_number fs gs rest))
      (told_laid m (every_append_r _ (sources q) (sources r) d) (every_append_r has_number fs gs rest)))
  told_laid (laid_aggregate f {fs} e l) d n = told_more f fs e refl n (told_laid l d (and_r (has_number f) (every has_number fs) n))

-- ---- how many queries a form takes

module _ (f : Form) (fs : List Form) (l : T (leb (taken f) (depth fs))) where
  pub taken_one : {k : ℕ} → f.kind ≡ k → eqb k rows_form ≡ false → eqb k join_form ≡ false → 1 ≤ depth fs
  unfolding taken
  taken_one e i j = leb→le 1 (depth fs) (rw (ap (λ (k : ℕ). eqb k 0) e ∙ i, ap (λ (k : ℕ). eqb k 3) e ∙ j) at l)

  pub taken_two : f.kind ≡ join_form → 2 ≤ depth fs
  unfolding taken
  taken_two e = leb→le 2 (depth fs) (rw e at l)

-- ---- how many queries forms are

length_inner : (qs : List (M.Query ℕ)) → length (inner qs) ≡ length qs - 1
unfolding inner
length_inner [] = omega arith
length_inner (q ∷ qs) = omega arith

module _ (w : Words) (f : Form) (fs : List Form) (i : depth fs ≤ length (queries_in w fs)) where
  abbrev qs : List (M.Query ℕ)
  qs = queries_in w fs

  depth_form : Kind f → length (inner qs) ≡ length qs - 1 → length (inner (inner qs)) ≡ length (inner qs) - 1 → depth (f ∷ fs) ≤ length (queries_in w (f ∷ fs))
  unfolding depth queries_in
  depth_form (k_rows e) x y = rw (form_rows w f qs e, e) (omega arith)
  depth_form (k_pick e) x y = rw (form_pick w f qs e, e) (omega arith)
  depth_form (k_keep e) x y = rw (form_keep w f qs e, e) (omega arith)
  depth_form (k_join e) x y = rw (form_join w f qs e, e) (omega arith)
  depth_form (k_aggregate e) x y = rw (form_aggregate w f qs e, e) (omega arith)
  depth_form (k_under h) x y = rw (form_under w f qs h, ne_eqb f.kind 0 (λ e. omega arith), ne_eqb f.kind 3 (λ e. omega arith)) (omega arith)

-- at least as many as their depth
depth_least : (w : Words) (fs : List Form) → depth fs ≤ length (queries_in w fs)
depth_least w [] = unfold depth in omega arith
depth_least w (f ∷ fs) = depth_form w f fs (depth_least w fs) (kind_of f) (length_inner (queries_in w fs)) (length_inner (inner (queries_in w fs)))

-- ---- a form in front, by its kind

module _ (w : Words) (ns : List ℕ) (f : Form) (fs : List Form) (r : T (regular w ns fs)) where
  some_least : (n : ℕ) → n ≤ depth fs → T (leb n (length (queries_in w fs)))
  some_least n h = let i = depth_least w fs in le→leb n (length (queries_in w fs)) (omega arith)

  with_regular : T (form_regular w ns f fs) → T (regular w ns (f ∷ fs))
  unfolding regular
  with_regular t = and_both (form_regular w ns f fs) (regular w ns fs) t r

  pub add_rows : f.kind ≡ rows_form → T (ltb f.first (streams_in ns)) → T (regular w ns (f ∷ fs))
  unfolding form_regular
  add_rows e t = with_regular (rw e t)

  pub add_pick : f.kind ≡ pick_form → 1 ≤ depth fs → T (regular w ns (f ∷ fs))
  unfolding form_regular
  add_pick e h = with_regular (rw e (some_least 1 h))

  add_keep : f.kind ≡ keep_form → 1 ≤ depth fs → form_order f < order_end → T (regular w ns (f ∷ fs))
  unfolding form_regular form_order
  add_keep e h l = with_regular (rw e (and_both (leb 1 (length (queries_in w fs))) (ltb (form_order f) order_end) (some_least 1 h) (lt→ltb (form_order f) order_end l)))

  pub add_join : f.kind ≡ join_form → 2 ≤ depth fs → T (regular w ns (f ∷ fs))
  unfolding form_regular
  add_join e h = with_regular (rw e (some_least 2 h))

  pub add_aggregate : f.kind ≡ aggregate_form → 1 ≤ depth fs → T (not (eqb f.first 0)) → T (regular w ns (f ∷ fs))
  unfolding form_regular
  add_aggregate e h t = with_regular (rw e (and_both (leb 1 (length (queries_in w fs))) (not (eqb f.first 0)) (some_least 1 h) t))

  pub add_under : f.kind ≡ under_form → 1 ≤ depth fs → T (viewless fs) → T (regular w ns (f ∷ fs))
  unfolding form_regular
  add_under e h t = with_regular (rw e (and_both (leb 1 (length (queries_in w fs))) (viewless fs) (some_least 1 h) t))

pub add_kept : (w : Words) (ns : List ℕ) (m : ℕ) (fs : List Form) → T (regular w ns fs) → 1 ≤ depth fs → m < order_end → T (regular w ns (keep_of m ∷ fs))
add_kept w ns m fs r h l = add_keep w ns (keep_of m) fs r refl h (rw (keep_order m) l)
