-- Check 3 of a query by what is read of its forms.
use mathlib.Core.Path.{◌≡◌, refl, sym, ap, ap₂, ◌∙◌}
use mathlib.Core.List.{List, [], ◌∷◌, append-nil}
use mathlib.Core.Bool.{Bool, true, false, ◌&&◌, ◌||◌, not, cond}
use Prim.Native.Nat.{ℕ, suc, ◌+◌, ◌≤◌, ◌<◌, min}
use native.Mathlib.Omega.{arith}
use native.Mathlib.Decide.{dec_lt}
use lib.Dec.{T, leb, ltb}
use lib.ListN.{length}
use borrow.Author.Tests.{le-leb, lt-leb, le-ltb, lt-ltb, ltb-true, ltb-false, leb-true, leb-false}
use Rattle.lists.specs.Lists.{every, some?, gather}
use Rattle.lists.proofs.Laws.{true_T}
use Rattle.syntax.specs.Grammar.{Bytes, Test, Cond, Form, Span}
use Rattle.syntax.specs.Limits.{short, short_ref, is_value, not_above, cond_depth, form_depth}
use Rattle.syntax.specs.Readers.{Read}
use Rattle.model.specs.Conditions.{tests}
use Rattle.calls.specs.Names.{cond_refs, cond_numbers, form_streams, form_refs, form_conds, form_spans}
use Rattle.calls.specs.Bounds.{cond_bounded, form_count, form_bounded}
use Rattle.terms.specs.Terms.{test_over}
use Rattle.nodes.specs.Storing.{size}
use Rattle.conditions.specs.Seeing.{nodes_of, seen_of, deep_seen}
use Rattle.grant_line.proofs.Folds.{every_pair, every_gathered, some_not}
use Rattle.grant_line.proofs.Bounds.{tests_over}
use Rattle.query_read.specs.Parts.{Part, rows, pick, keep, join, aggregate, Inner, parts}
use Rattle.query_read.specs.Seeing.{deep, level, span_of, rows_own, pick_own, keep_own, join_own, aggregate_own, picked, own_of, with_own, with_part, with_parts, no_reading, reading_ended, form_seen}
use Rattle.query_read.specs.declared.Reading.{Reading}
use Rattle.query_read.proofs.Answering.{conds_in}
use Rattle.query_line.proofs.Parts.{streams_in, refs_in, spans_in, streams_are, refs_are, conds_are, spans_are, count_is, shallow_part, depth_is}

-- ---- one part

abbrev pub span_bounded : Span → Bool
span_bounded w = not_above w.size && not_above w.offset

-- what it holds is within the bounds
unfoldable pub part_bounded : Part → Bool
part_bounded x = every short (streams_in x) && (every short_ref (refs_in x) && (every cond_bounded (conds_in x) && every span_bounded (spans_in x)))

unfoldable pub part_fine : ℕ → Part → Bool
part_fine n x = shallow_part n x && part_bounded x

deep_not : (n : ℕ) → deep n ≡ not (ltb n 8)
unfolding deep
deep_not n = go (ltb n 8) refl
  where
    go : (b : Bool) → ltb n 8 ≡ b → leb 8 n ≡ not b
    go true e = lt-leb 8 n (ltb-true n 8 e)
    go false e = le-leb 8 n (ltb-false n 8 e)

bools_rows : (d s : Bool) → (not d || not s) ≡ not (d && ((s && true) && (true && (true && true))))
bools_rows true true = refl
bools_rows true false = refl
bools_rows false s = refl

bools_keep : (d r : Bool) → (not d || not r) ≡ not (d && (true && (r && (true && true))))
bools_keep true true = refl
bools_keep true false = refl
bools_keep false r = refl

bools_join : (d a b : Bool) → (not d || (not a || not b)) ≡ not (d && (true && ((a && (b && true)) && (true && true))))
bools_join true true true = refl
bools_join true true false = refl
bools_join true false b = refl
bools_join false a b = refl

bools_aggregate : (d c z w : Bool) → (not d || (not c || (not z || not w))) ≡ not (d && (true && ((c && true) && (true && ((z && w) && true)))))
bools_aggregate true true true true = refl
bools_aggregate true true true false = refl
bools_aggregate true true false w = refl
bools_aggregate true false z w = refl
bools_aggregate false c z w = refl

bools_pick : (s v : Bool) → not ((s && v) && true) ≡ not (true && (true && (s && (((s && v) && true) && true))))
bools_pick true true = refl
bools_pick true false = refl
bools_pick false v = refl

cond_over : (c : Cond Test) → some? test_over (tests c) ≡ not (cond_bounded c && true)
unfolding every
cond_over c = ap (some? test_over) (sym (append-nil (tests c))) ∙ unfold gather in tests_over (c ∷ [])

picked_over : (ns : List ℕ) (b : ℕ) (c : Cond Test) (next : ℕ) (t : Bool)
    → (pick_own (cond t (seen_of ns (tests c) 0 (b + size (nodes_of ns c))) (deep_seen 0)) next).over ≡ not (t && (true && (every short_ref (cond_refs c) && ((cond_bounded c && true) && true))))
unfolding pick_own seen_of deep_seen cond_bounded
picked_over ns b c next true = cond_over c ∙ bools_pick (every short_ref (cond_refs c)) (every is_value (cond_numbers c))
picked_over ns b c next false = refl

pub own_over : (ns : List ℕ) (b n : ℕ) (x : Part) (next : ℕ) → (own_of ns b n x next).over ≡ not (part_fine n x)
unfolding own_of rows_own pick_own keep_own join_own aggregate_own part_fine part_bounded shallow_part streams_in refs_in conds_in spans_in every span_of picked level
own_over ns b n (rows s) next = rw (deep_not n) (bools_rows (ltb n 8) (short s))
own_over ns b n (pick c) next = picked_over ns b c next (leb (cond_depth c) (level n))
own_over ns b n (keep rs) next = rw (deep_not n) (bools_keep (ltb n 8) (every short_ref rs))
own_over ns b n (join a c) next = rw (deep_not n) (bools_join (ltb n 8) (short_ref a) (short_ref c))
own_over ns b n (aggregate f c z w) next = rw (deep_not n) (bools_aggregate (ltb n 8) (short_ref c) (not_above z) (not_above w))

-- ---- all parts

module _ (ns : List ℕ) where
  abbrev wrong : Inner → Bool
  wrong i = not (part_fine i.around i.part)

  step : (a o s : Bool) (c l : ℕ) → c ≤ 12 → ((a || (o || leb 12 c)) || (s || ltb 12 (min (suc c) 12 + l))) ≡ (a || ((o || s) || ltb 12 (c + suc l)))
  step a o s c l h = go (dec_lt c 12)
    where
      low : (a o s t : Bool) → ((a || (o || false)) || (s || t)) ≡ (a || ((o || s) || t))
      low true o s t = refl
      low false true s t = refl
      low false false s t = refl

      high : (a o s t : Bool) → ((a || (o || true)) || (s || t)) ≡ (a || ((o || s) || true))
      high true o s t = refl
      high false true s t = refl
      high false false true t = refl
      high false false false t = refl

      go : Dec (c < 12) → ((a || (o || leb 12 c)) || (s || ltb 12 (min (suc c) 12 + l))) ≡ (a || ((o || s) || ltb 12 (c + suc l)))
      go (yes p) = let e : min (suc c) 12 + l ≡ c + suc l = omega arith in rw (lt-leb 12 c p, e) (low a o s (ltb 12 (c + suc l)))
      go (no p) = rw (le-leb 12 c (omega arith), lt-ltb 12 (c + suc l) (omega arith)) (high a o s (ltb 12 (min (suc c) 12 + l)))

  pub parts_over : (is : List Inner) (r : Reading) → r.count ≤ 12 → (with_parts ns r is).over ≡ (r.over || (some? wrong is || ltb 12 (r.count + length is)))
  unfolding with_parts with_part with_own some?
  parts_over [] r h = let e : r.count + 0 ≡ r.count = omega arith in sym (rw (e, le-ltb 12 r.count h) (none_more r.over))
    where
      none_more : (a : Bool) → (a || false) ≡ a
      none_more true = refl
      none_more false = refl
  parts_over (i ∷ is) r h =
      parts_over is (with_part ns r i) (omega arith)
      ∙ ap (λ o. (r.over || (o || leb 12 r.count)) || (some? wrong is || ltb 12 (min (suc r.count) 12 + length is))) (own_over ns r.words i.around i.part 0)
      ∙ step r.over (wrong i) (some? wrong is) r.count (length is) h

-- every part of a form is fine
all_fine : (n : ℕ) (q : Form) → every (λ i. part_fine i.around i.part) (parts n q)
    ≡ (leb (n + form_depth q) 8 && (every short (form_streams q) && (every short_ref (form_refs q) && (every cond_bounded (form_conds q) && every span_bounded (form_spans q)))))
unfolding part_fine part_bounded
all_fine n q =
    sym (every_pair (λ i. shallow_part i.around i.part) (λ i. part_bounded i.part) (parts n q))
    ∙ ap₂ ◌&&◌ (depth_is n q)
    (sym (every_pair (λ i. every short (streams_in i.part)) (λ i. every short_ref (refs_in i.part) && (every cond_bounded (conds_in i.part) && every span_bounded (spans_in i.part))) (parts n q))
    ∙ ap₂ ◌&&◌ (every_gathered short (λ i. every short (streams_in i.part)) (λ i. streams_in i.part) (λ i. refl) (parts n q) ∙ ap (every short) (streams_are n q))
    (sym (every_pair (λ i. every short_ref (refs_in i.part)) (λ i. every cond_bounded (conds_in i.part) && every span_bounded (spans_in i.part)) (parts n q))
    ∙ ap₂ ◌&&◌ (every_gathered short_ref (λ i. every short_ref (refs_in i.part)) (λ i. refs_in i.part) (λ i. refl) (parts n q) ∙ ap (every short_ref) (refs_are n q))
    (sym (every_pair (λ i. every cond_bounded (conds_in i.part)) (λ i. every span_bounded (spans_in i.part)) (parts n q))
    ∙ ap₂ ◌&&◌ (every_gathered cond_bounded (λ i. every cond_bounded (conds_in i.part)) (λ i. conds_in i.part) (λ i. refl) (parts n q) ∙ ap (every cond_bounded) (conds_are n q))
    (every_gathered span_bounded (λ i. every span_bounded (spans_in i.part)) (λ i. spans_in i.part) (λ i. refl) (parts n q) ∙ ap (every span_bounded) (spans_are n q)))))

-- ---- the form

regroup : (d a b c e f : Bool) → (false || (not (d && (a && (b && (c && e)))) || not f)) ≡ not (d && ((((a && b) && c) && e) && f))
regroup true true true true true f = refl
regroup true true true true false true = refl
regroup true true true true false false = refl
regroup true true true false e f = refl
regroup true true false c e f = refl
regroup true false b c e f = refl
regroup false a b c e f = refl

few_not : (n : ℕ) → ltb 12 n ≡ not (leb n 12)
few_not n = go (leb n 12) refl
  where
    go : (b : Bool) → leb n 12 ≡ b → ltb 12 n ≡ not b
    go true e = le-ltb 12 n (leb-true n 12 e)
    go false e = lt-ltb 12 n (leb-false n 12 e)

nothing_yet : (no_reading.over ≡ false) × (no_reading.count ≡ 0)
unfolding no_reading
nothing_yet = (refl, refl)

-- out of bounds: deeper than brackets may nest, or something above its bound
pub over_is : (ns : List ℕ) (s : Bytes) (q : Read Form) → (form_seen ns s q).over ≡ not (leb (form_depth q.what) 8 && form_bounded q.what)
unfolding form_seen reading_ended form_bounded
over_is ns s q =
    let n = nothing_yet in
    let c = count_is 0 q.what in
    let k : no_reading.count + length (parts 0 q.what) ≡ form_count q.what = omega (arith, n.1) in
    let z : 0 + form_depth q.what ≡ form_depth q.what = omega arith in
    parts_over ns (parts 0 q.what) no_reading (omega (arith, n.1))
    ∙ ap₂ (λ x y. x || (some? (wrong ns) (parts 0 q.what) || ltb 12 y)) n.0 k
    ∙ ap₂ (λ x y. false || (x || y)) (some_not (wrong ns) (λ i. part_fine i.around i.part) (λ i. refl) (parts 0 q.what) ∙ ap not (all_fine 0 q.what)) (few_not (form_count q.what))
    ∙ regroup (leb (0 + form_depth q.what) 8) (every short (form_streams q.what)) (every short_ref (form_refs q.what)) (every cond_bounded (form_conds q.what)) (every span_bounded (form_spans q.what)) (leb (form_count q.what) 12)
    ∙ ap (λ m. not (leb m 8 && form_bounded q.what)) z

-- where nothing is out of bounds every part is fine, and they are at most twelve
module _ (q : Form) (shallow : leb (form_depth q) 8 ≡ true) (bounded : form_bounded q ≡ true) where
  pub parts_fine : T (every (λ i. part_fine i.around i.part) (parts 0 q))
  unfolding form_bounded
  parts_fine =
      let z : 0 + form_depth q ≡ form_depth q = omega arith in
      true_T (every (λ i. part_fine i.around i.part) (parts 0 q))
      (all_fine 0 q ∙ ap (λ m. leb m 8 && (every short (form_streams q) && (every short_ref (form_refs q) && (every cond_bounded (form_conds q) && every span_bounded (form_spans q))))) z
      ∙ go (leb (form_depth q) 8) (every short (form_streams q)) (every short_ref (form_refs q)) (every cond_bounded (form_conds q)) (every span_bounded (form_spans q)) (leb (form_count q) 12) shallow bounded)
    where
      go : (d a b c e f : Bool) → d ≡ true → ((((a && b) && c) && e) && f) ≡ true → (d && (a && (b && (c && e)))) ≡ true
      go true true true true true f x y = refl
      go true true true true false f x y = y
      go true true true false e f x y = y
      go true true false c e f x y = y
      go true false b c e f x y = y
      go false a b c e f x y = x

  pub parts_few : length (parts 0 q) ≤ 12
  unfolding form_bounded
  parts_few =
      let c = count_is 0 q in
      let k = leb-true (form_count q) 12 (last (every short (form_streams q) && every short_ref (form_refs q) && every cond_bounded (form_conds q) && every span_bounded (form_spans q)) (leb (form_count q) 12) bounded) in
      omega arith
    where
      last : (a b : Bool) → (a && b) ≡ true → b ≡ true
      last true b e = e
      last false b e = absurd (let z : ◌≡◌ {A = ℕ} 0 1 = cc in omega arith)
