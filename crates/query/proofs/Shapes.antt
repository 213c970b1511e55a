-- The forms of a query, part by part: those of one query stand so, and forms that stand so are those of one query.
use mathlib.Core.Path.{◌≡◌, refl, sym, ap, ◌∙◌}
use mathlib.Core.List.{List, [], ◌∷◌, ◌++◌, append_assoc}
use mathlib.Core.Bool.{◌&&◌}
use Prim.Native.Nat.{ℕ, zero, suc, ◌-◌, ◌≤◌, ◌<◌}
use native.Mathlib.Omega.{arith}
use lib.Dec.{T, ltb, leb, eqb, ltb→lt, lt→ltb, leb→le, le→leb, eqb→eq}
use lib.ListN.{length}
use borrow.Author.Tests.{eq-eqb}
use Rattle.syntax.specs.Grammar.{numbered_fn}
use Rattle.lists.proofs.Laws.{and_l, and_r, and_both, true_T, append_nil}
use Rattle.model.specs.Queries as M
use Rattle.model.specs.Queries.{source, pick, keep, join, aggregate}
use Rattle.query.specs.Forms.{Words, coded_col, cols_in, form_order, rows_form, pick_form, keep_form, join_form, aggregate_form, under_form, cond_at, outer, inner, with_form, queries_in, query_in}
use Rattle.query.specs.Shapes.{depth, taken, formed, one_query}
use Rattle.query.specs.declared.Form.{Form}

-- ---- part by part

pub data Laid (w : Words) : M.Query ℕ → List Form → Type 0 where
  laid_rows : (f : Form) → f.kind ≡ rows_form → Laid w (source f.first) (f ∷ [])
  laid_pick : (f : Form) {q : M.Query ℕ} {fs : List Form} → f.kind ≡ pick_form → Laid w q fs → Laid w (pick (cond_at w.own f.first) q) (f ∷ fs)
  laid_keep : (f : Form) {q : M.Query ℕ} {fs : List Form} → f.kind ≡ keep_form → Laid w q fs → Laid w (keep (cols_in (form_order f)) q) (f ∷ fs)
  laid_join : (f : Form) {q r : M.Query ℕ} {fs gs : List Form} → f.kind ≡ join_form → Laid w q fs → Laid w r gs → Laid w (join (coded_col f.first) (coded_col f.second) q r) (f ∷ (fs ++ gs))
  laid_aggregate : (f : Form) {q : M.Query ℕ} {fs : List Form} → f.kind ≡ aggregate_form → Laid w q fs → Laid w (aggregate (numbered_fn f.first) (coded_col f.second) f.third f.fourth q) (f ∷ fs)

-- some queries, one after another
pub data Laids (w : Words) : List (M.Query ℕ) → List Form → Type 0 where
  laids_none : Laids w [] []
  laids_more : {q : M.Query ℕ} {qs : List (M.Query ℕ)} {fs gs : List Form} → Laid w q fs → Laids w qs gs → Laids w (q ∷ qs) (fs ++ gs)

-- ---- a form in front, by its kind

module _ (w : Words) (f : Form) (qs : List (M.Query ℕ)) where
  pub form_rows : f.kind ≡ rows_form → with_form w f qs ≡ source f.first ∷ qs
  unfolding with_form
  form_rows e = rw e

  pub form_pick : f.kind ≡ pick_form → with_form w f qs ≡ pick (cond_at w.own f.first) (outer qs) ∷ inner qs
  unfolding with_form
  form_pick e = rw e

  pub form_keep : f.kind ≡ keep_form → with_form w f qs ≡ keep (cols_in (form_order f)) (outer qs) ∷ inner qs
  unfolding with_form
  form_keep e = rw e

  pub form_join : f.kind ≡ join_form → with_form w f qs ≡ join (coded_col f.first) (coded_col f.second) (outer qs) (outer (inner qs)) ∷ inner (inner qs)
  unfolding with_form
  form_join e = rw e

  pub form_aggregate : f.kind ≡ aggregate_form → with_form w f qs ≡ aggregate (numbered_fn f.first) (coded_col f.second) f.third f.fourth (outer qs) ∷ inner qs
  unfolding with_form
  form_aggregate e = rw e

-- ---- forms that stand so stand for the query

pub laid_queries : {w : Words} {q : M.Query ℕ} {fs : List Form} → Laid w q fs → (gs : List Form) → queries_in w (fs ++ gs) ≡ q ∷ queries_in w gs
unfolding queries_in outer inner
laid_queries {w} (laid_rows f e) gs = form_rows w f (queries_in w gs) e
laid_queries {w} (laid_pick f {fs} e l) gs = form_pick w f (queries_in w (fs ++ gs)) e ∙ rw (laid_queries l gs)
laid_queries {w} (laid_keep f {fs} e l) gs = form_keep w f (queries_in w (fs ++ gs)) e ∙ rw (laid_queries l gs)
laid_queries {w} (laid_join f {fs} {gs = hs} e l m) gs =
    form_join w f (queries_in w ((fs ++ hs) ++ gs)) e ∙ rw (append_assoc fs hs gs, laid_queries l (hs ++ gs), laid_queries m gs)
laid_queries {w} (laid_aggregate f {fs} e l) gs = form_aggregate w f (queries_in w (fs ++ gs)) e ∙ rw (laid_queries l gs)

pub laid_query : {w : Words} {q : M.Query ℕ} {fs : List Form} → Laid w q fs → query_in w fs ≡ q
unfolding query_in outer queries_in
laid_query {w} {q} {fs} l = ap outer (ap (queries_in w) (sym (append_nil fs)) ∙ laid_queries l [])

-- ---- forms of one query stand so

module _ {w : Words} (f : Form) where
  laids_one : (g : M.Query ℕ → M.Query ℕ) → ((q : M.Query ℕ) (fs : List Form) → Laid w q fs → Laid w (g q) (f ∷ fs)) → (qs : List (M.Query ℕ)) (fs : List Form) → Laids w qs fs → 1 ≤ length qs
      → Laids w (g (outer qs) ∷ inner qs) (f ∷ fs)
  unfolding outer inner
  laids_one g h [] fs laids_none l = absurd (omega arith)
  laids_one g h (q ∷ qs) fs (laids_more {fs = ys} a b) l = laids_more (h q ys a) b

  laids_two : f.kind ≡ join_form → (qs : List (M.Query ℕ)) (fs : List Form) → Laids w qs fs → 2 ≤ length qs → Laids w (join (coded_col f.first) (coded_col f.second) (outer qs) (outer (inner qs)) ∷ inner (inner qs)) (f ∷ fs)
  unfolding outer inner
  laids_two e [] zs laids_none l = absurd (omega arith)
  laids_two e (q ∷ []) zs (laids_more a laids_none) l = absurd (omega arith)
  laids_two e (q ∷ (r ∷ qs)) zs (laids_more {fs} a (laids_more {fs = gs} {gs = hs} b c)) l = rw (sym (append_assoc fs gs hs)) (laids_more (laid_join f e a b) c)

-- the queries of formed forms, and how many they are
pub record Read (w : Words) (fs : List Form) : Type 0 where
  pub laid : Laids w (queries_in w fs) fs
  pub many : depth fs ≡ length (queries_in w fs)

length_inner : (qs : List (M.Query ℕ)) → length (inner qs) ≡ length qs - 1
unfolding inner
length_inner [] = omega arith
length_inner (q ∷ qs) = omega arith

module _ (w : Words) (f : Form) (fs : List Form) (r : Read w fs) (l : taken f ≤ depth fs) where
  read_one : (g : M.Query ℕ → M.Query ℕ) → ((q : M.Query ℕ) (fs : List Form) → Laid w q fs → Laid w (g q) (f ∷ fs)) → with_form w f (queries_in w fs) ≡ g (outer (queries_in w fs)) ∷ inner (queries_in w fs)
      → 1 ≤ depth fs → depth (f ∷ fs) ≡ depth fs → Read w (f ∷ fs)
  unfolding queries_in
  read_one g h e k n =
      let a = r.many in
      let b = length_inner (queries_in w fs) in
      record { laid = rw e (laids_one f g h (queries_in w fs) fs r.laid (omega arith)); many = rw e (omega arith) }

  read_form : (k : ℕ) → f.kind ≡ k → k < 5 → Read w (f ∷ fs)
  unfolding queries_in depth taken
  read_form zero e b = record { laid = rw (form_rows w f (queries_in w fs) e) (laids_more (laid_rows f e) r.laid); many = rw (form_rows w f (queries_in w fs) e, e) (ap suc r.many) }
  read_form (suc zero) e b = read_one (pick (cond_at w.own f.first)) (λ q gs a. laid_pick f e a) (form_pick w f (queries_in w fs) e) (rw e at l) (rw e)
  read_form (suc (suc zero)) e b = read_one (keep (cols_in (form_order f))) (λ q gs a. laid_keep f e a) (form_keep w f (queries_in w fs) e) (rw e at l) (rw e)
  read_form (suc (suc (suc zero))) e b =
      let a = r.many in
      let k : 2 ≤ depth fs = rw e at l in
      let x = length_inner (queries_in w fs) in
      let y = length_inner (inner (queries_in w fs)) in
      record { laid = rw (form_join w f (queries_in w fs) e) (laids_two f e (queries_in w fs) fs r.laid (omega arith)); many = rw (form_join w f (queries_in w fs) e, e) (omega arith) }
  read_form (suc (suc (suc (suc zero)))) e b =
      read_one (aggregate (numbered_fn f.first) (coded_col f.second) f.third f.fourth) (λ q gs a. laid_aggregate f e a) (form_aggregate w f (queries_in w fs) e) (rw e at l) (rw e)
  read_form (suc (suc (suc (suc (suc k))))) e b = absurd (omega arith)

pub formed_read : (w : Words) (fs : List Form) → T (formed fs) → Read w fs
unfolding formed queries_in depth
formed_read w [] t = record { laid = laids_none; many = refl }
formed_read w (f ∷ fs) t =
    let rest = and_r (ltb f.kind under_form) (leb (taken f) (depth fs) && formed fs) t in
    let b = ltb→lt f.kind under_form (and_l (ltb f.kind under_form) (leb (taken f) (depth fs) && formed fs) t) in
    read_form w f fs (formed_read w fs (and_r (leb (taken f) (depth fs)) (formed fs) rest)) (leb→le (taken f) (depth fs) (and_l (leb (taken f) (depth fs)) (formed fs) rest)) f.kind refl b

laids_single : {w : Words} {qs : List (M.Query ℕ)} {fs : List Form} → Laids w qs fs → length qs ≡ 1 → Laid w (outer qs) fs
unfolding outer
laids_single laids_none e = absurd (omega arith)
laids_single (laids_more {fs} a laids_none) e = rw (append_nil fs) a
laids_single (laids_more a (laids_more b c)) e = absurd (omega arith)

pub one_laid : (w : Words) (fs : List Form) → T (one_query fs) → Laid w (query_in w fs) fs
unfolding one_query query_in
one_laid w fs t =
    let r = formed_read w fs (and_l (formed fs) (eqb (depth fs) 1) t) in
    laids_single r.laid (sym r.many ∙ eqb→eq (depth fs) 1 (and_r (formed fs) (eqb (depth fs) 1) t))

-- ---- and forms that stand so are those of one query

taken_both : (f : Form) (fs : List Form) → f.kind < 5 → taken f ≤ depth fs → T (formed fs) → T (formed (f ∷ fs))
unfolding formed
taken_both f fs b l t = and_both (ltb f.kind under_form) _ (lt→ltb f.kind under_form b) (and_both (leb (taken f) (depth fs)) (formed fs) (le→leb (taken f) (depth fs) l) t)

module _ {w : Words} where
  pub depth_laid : {q : M.Query ℕ} {fs : List Form} → Laid w q fs → (gs : List Form) → depth (fs ++ gs) ≡ suc (depth gs)
  unfolding depth
  depth_laid (laid_rows f e) gs = rw e
  depth_laid (laid_pick f e l) gs = rw e (depth_laid l gs)
  depth_laid (laid_keep f e l) gs = rw e (depth_laid l gs)
  depth_laid (laid_join f {fs} {gs = hs} e l m) gs =
      let a = depth_laid l (hs ++ gs) in
      let b = depth_laid m gs in
      rw (e, append_assoc fs hs gs) (omega arith)
  depth_laid (laid_aggregate f e l) gs = rw e (depth_laid l gs)

  pub formed_laid : {q : M.Query ℕ} {fs : List Form} → Laid w q fs → (gs : List Form) → T (formed gs) → T (formed (fs ++ gs))
  unfolding taken
  formed_laid (laid_rows f e) gs t = taken_both f gs (rw e (omega arith)) (rw e (omega arith)) t
  formed_laid (laid_pick f {fs} e l) gs t = taken_both f (fs ++ gs) (rw e (omega arith)) (rw (e, depth_laid l gs) (omega arith)) (formed_laid l gs t)
  formed_laid (laid_keep f {fs} e l) gs t = taken_both f (fs ++ gs) (rw e (omega arith)) (rw (e, depth_laid l gs) (omega arith)) (formed_laid l gs t)
  formed_laid (laid_join f {fs} {gs = hs} e l m) gs t =
      rw (append_assoc fs hs gs) (taken_both f (fs ++ (hs ++ gs)) (rw e (omega arith)) (rw (e, depth_laid l (hs ++ gs), depth_laid m gs) (omega arith)) (formed_laid l (hs ++ gs) (formed_laid m gs t)))
  formed_laid (laid_aggregate f {fs} e l) gs t = taken_both f (fs ++ gs) (rw e (omega arith)) (rw (e, depth_laid l gs) (omega arith)) (formed_laid l gs t)

  pub laid_one : {q : M.Query ℕ} {fs : List Form} → Laid w q fs → T (one_query fs)
  unfolding one_query formed depth
  laid_one {q} {fs} l =
      let n = append_nil fs in
      and_both (formed fs) _ (rw n at (formed_laid l [] tt)) (true_T _ (eq-eqb (depth fs) 1 (rw n at (depth_laid l []))))
