-- The table of a query that passes its checks, with the words of its conditions, stands for the query that the text says.
use mathlib.Core.Path.{◌≡◌, refl, sym, ap, ap₂, ◌∙◌, subst}
use mathlib.Core.List.{List, [], ◌∷◌, ◌++◌, map, map-append, append_assoc}
use mathlib.Core.Bool.{Bool, true, false, ◌&&◌, ◌||◌}
use Prim.Native.Nat.{ℕ, suc, ◌+◌, ◌*◌, ◌≤◌, ◌<◌, min}
use native.Mathlib.Omega.{arith}
use lib.IntN.{ℤ}
use lib.Dec.{T, ltb, lt→ltb}
use lib.ListN.{length, get_or, length-map}
use borrow.Author.Tests.{lt-ltb}
use Rattle.lists.specs.Lists.{every, gather, distinct}
use Rattle.lists.proofs.Laws.{and_l, and_r, and_both, true_T, every_both, every_all, every_append_l, every_append_r, all_weaken, append_nil, never}
use Rattle.lists.proofs.Gathers.{every_of_map}
use Rattle.syntax.specs.Grammar as G
use Rattle.syntax.specs.Grammar.{Bytes, Fn, Ref, Test, Cond, Form, Entry, cond?, fn_number, numbered_fn}
use Rattle.syntax.specs.Limits.{natural}
use Rattle.model.specs.Conditions.{tests, map_cond}
use Rattle.model.proofs.Conditions.{tests_map, cond_same}
use Rattle.model.specs.Queries as M
use Rattle.model.specs.Queries.{Schema, Col, same_col, columns_of, header}
use Rattle.model.specs.Checks.{has, within, pick_left, pick_right, pickable, cond_cols, no_aggregate, side, linked, allowed, keeps}
use Rattle.model.proofs.Distinct.{once_few}
use Rattle.calls.specs.Names.{term_of, column_of, operand_of, compare_of, resolve}
use Rattle.schema.specs.Schemas.{streams_in, schema_of, schema_sound}
use Rattle.orders.specs.Orders.{order_of}
use Rattle.orders.proofs.Codes.{codes_of, codes_fit}
use Rattle.terms.specs.Terms.{ref_code, operand_value, left_code, right_code, test_value}
use Rattle.terms.proofs.Resolving.{fine, code_alone, code_range}
use Rattle.columns.specs.Columns.{stream_place}
use Rattle.nodes.specs.Nodes.{coded_term, node_compare, cond_in}
use Rattle.nodes.specs.Storing.{size, store, list_size}
use Rattle.nodes.proofs.Reaching.{Same}
use Rattle.nodes.proofs.Reaching as N
use Rattle.nodes.proofs.Sizes.{size_append, length_store, same_list}
use Rattle.nodes.proofs.Stored.{stored_stands}
use Rattle.conditions.specs.Seeing.{test_node, nodes_of}
use Rattle.conditions.proofs.Storable.{cond_fits}
use Rattle.grant_line.proofs.Known.{good_test, test_declared, test_fine}
use Rattle.grant_line.proofs.Meaning.{ops_back, column_back, operand_back, bounded_right, fused}
use Rattle.query.specs.Forms.{Words, coded_col, cols_in, cond_at}
use Rattle.query.specs.Tables.{query_forms, query_with}
use Rattle.query.specs.declared.Form as Q
use Rattle.query.specs.declared.Query.{Query}
use Rattle.query.proofs.Rewritten.{keep_order}
use Rattle.query.proofs.Shapes.{Laid, laid_rows, laid_pick, laid_keep, laid_join, laid_aggregate}
use Rattle.query.proofs.Tables.{query_added}
use Rattle.query_read.specs.Parts as R
use Rattle.query_read.specs.Parts.{Part, rows, pick, keep, join, aggregate, Inner, inner}
use Rattle.query_read.specs.Seeing.{span_kept, span_of, rows_own, pick_own, keep_own, join_own, aggregate_own, own_of, part_stored, put_at, with_own, with_part, with_parts, no_reading}
use Rattle.query_read.specs.declared.Reading.{Reading}
use Rattle.syntax.proofs.Aggregates.{fn_forth}
use Rattle.query_read.proofs.Answering.{conds_in, part_conds, store_parts, parts_stored, pick_over, over_before, over_first, words_then}
use Rattle.query_line.specs.Placing.{begun}
use Rattle.query_line.proofs.Known.{part_good}
use Rattle.query_line.proofs.Headers.{Shows, ref_cases, nowhere}
use Rattle.query_line.proofs.Running.{Full, full_then, count_then, run_parts}
use Rattle.query_line.proofs.Standing.{both_left, both_right, known, known_rows, known_pick, known_keep, known_join, known_aggregate, span_natural, Fits, runs}

false_T : (a : Bool) → a ≡ false → T a → ⊥
false_T true e t = never e
false_T false e t = t

-- ---- the table of forms

-- the forms of some parts, after what is read
unfoldable pub forms_run : List ℕ → Reading → List Inner → List Q.Form
forms_run ns r [] = []
forms_run ns r (i ∷ is) = (own_of ns r.words i.around i.part 0).form ∷ forms_run ns (with_part ns r i) is

pub part_length : (ns : List ℕ) (b : ℕ) (x : Part) (ws : List ℕ) → length (part_stored ns b x ws) ≡ length ws
unfolding part_stored
part_length ns b (rows s) ws = refl
part_length ns b (pick c) ws = length_store (nodes_of ns c) b ws
part_length ns b (keep rs) ws = refl
part_length ns b (join a c) ws = refl
part_length ns b (aggregate f c z w) ws = refl

module _ (ns : List ℕ) where
  forms_append : (is js : List Inner) (r : Reading) → forms_run ns r (is ++ js) ≡ forms_run ns r is ++ forms_run ns (with_parts ns r is) js
  unfolding forms_run with_parts
  forms_append [] js r = refl
  forms_append (i ∷ is) js r = ap (λ l. (own_of ns r.words i.around i.part 0).form ∷ l) (forms_append is js (with_part ns r i))

  with_append : (is js : List Inner) (r : Reading) → with_parts ns r (is ++ js) ≡ with_parts ns (with_parts ns r is) js
  unfolding with_parts
  with_append [] js r = refl
  with_append (i ∷ is) js r = with_append is js (with_part ns r i)

  store_append : (is js : List Inner) (r : Reading) (ws : List ℕ) → store_parts ns r ws (is ++ js) ≡ store_parts ns (with_parts ns r is) (store_parts ns r ws is) js
  unfolding store_parts with_parts
  store_append [] js r ws = refl
  store_append (i ∷ is) js r ws = store_append is js (with_part ns r i) (part_stored ns r.words i.part ws)

  abbrev table_of : Reading → Query
  table_of r = record { forms = r.forms; len = r.count }

  table_then : (r : Reading) (i : Inner) → r.count < 12 → table_of (with_part ns r i) ≡ query_with (table_of r) (own_of ns r.words i.around i.part 0).form
  unfolding with_part with_own put_at query_with
  table_then r i h = let c : min (suc r.count) 12 ≡ r.count + 1 = omega arith in rw (lt-ltb r.count 12 h, c)

  pub forms_are : (is : List Inner) (r : Reading) → r.count + length is ≤ 12 → Full ns r → query_forms (table_of (with_parts ns r is)) ≡ query_forms (table_of r) ++ forms_run ns r is
  unfolding with_parts forms_run
  forms_are [] r h f = sym (append_nil (query_forms (table_of r)))
  forms_are (i ∷ is) r h f =
      let c = count_then ns r i (omega arith) in
      let x = (own_of ns r.words i.around i.part 0).form in
      forms_are is (with_part ns r i) (omega arith) (full_then ns r i f)
      ∙ ap (λ l. l ++ forms_run ns (with_part ns r i) is) (ap query_forms (table_then r i (omega arith)) ∙ query_added (table_of r) x f.forms (omega arith))
      ∙ append_assoc (query_forms (table_of r)) (x ∷ []) (forms_run ns (with_part ns r i) is)

  pub nothing_formed : query_forms (table_of no_reading) ≡ []
  unfolding query_forms no_reading
  nothing_formed = refl

  -- ---- words

  one_words : (r : Reading) (n : ℕ) (x : Part) → (own_of ns r.words n x 0).over ≡ false → (own_of ns r.words n x 0).words ≡ r.words + list_size (map (nodes_of ns) (conds_in x))
  unfolding conds_in list_size
  one_words r n (rows s) e = let z : r.words + 0 ≡ r.words = omega arith in sym (z ∙ unfold own_of rows_own in refl)
  one_words r n (pick c) e = let z : r.words + (size (nodes_of ns c) + 0) ≡ r.words + size (nodes_of ns c) = omega arith in pick_over ns r.words n c 0 e ∙ sym z
  one_words r n (keep rs) e = let z : r.words + 0 ≡ r.words = omega arith in sym (z ∙ unfold own_of keep_own in refl)
  one_words r n (join a c) e = let z : r.words + 0 ≡ r.words = omega arith in sym (z ∙ unfold own_of join_own in refl)
  one_words r n (aggregate f c z w) e = let y : r.words + 0 ≡ r.words = omega arith in sym (y ∙ unfold own_of aggregate_own in refl)

  pub parts_words : (is : List Inner) (r : Reading) → (with_parts ns r is).over ≡ false → (with_parts ns r is).words ≡ r.words + list_size (map (nodes_of ns) (gather part_conds is))
  unfolding with_parts gather list_size part_conds
  parts_words [] r e = omega arith
  parts_words (i ∷ is) r e =
      let o = (over_before ns r i (over_first ns is (with_part ns r i) e)).1 in
      let a = parts_words is (with_part ns r i) e in
      let b = words_then ns r i in
      let c = one_words r i.around i.part o in
      let s = ap list_size (map-append (nodes_of ns) (conds_in i.part) (gather part_conds is)) ∙ size_append (map (nodes_of ns) (conds_in i.part)) (map (nodes_of ns) (gather part_conds is)) in
      omega arith

  parts_same : (is : List Inner) (r : Reading) (ws : List ℕ) → (with_parts ns r is).over ≡ false → Same (store_parts ns r ws is) ws r.words
  parts_same is r ws e i h = ap (λ vs. get_or vs i 0) (parts_stored ns is r ws e) ∙ same_list (map (nodes_of ns) (gather part_conds is)) r.words ws i h

  length_parts : (is : List Inner) (r : Reading) (ws : List ℕ) → length (store_parts ns r ws is) ≡ length ws
  unfolding store_parts
  length_parts [] r ws = refl
  length_parts (i ∷ is) r ws = length_parts is (with_part ns r i) (part_stored ns r.words i.part ws) ∙ one_length i.part
    where
      one_length : (x : Part) → length (part_stored ns r.words x ws) ≡ length ws
      one_length x = part_length ns r.words x ws

  -- the words of all conditions up to those of some parts
  unfoldable pub Agrees : List ℕ → Reading → List ℕ → List Inner → Type 0
  Agrees vs r ws is = Same vs (store_parts ns r ws is) (with_parts ns r is).words

  pub agrees_here : (vs : List ℕ) (is : List Inner) (r : Reading) (ws : List ℕ) → (with_parts ns r is).over ≡ false → Agrees vs r ws is → Same vs ws r.words
  unfolding Agrees
  agrees_here vs is r ws e a i h = let k = parts_words is r e in a i (omega arith) ∙ parts_same is r ws e i h

  over_prefix : (is js : List Inner) (r : Reading) → (with_parts ns r (is ++ js)).over ≡ false → (with_parts ns r is).over ≡ false
  over_prefix is js r e = over_first ns js (with_parts ns r is) (ap (λ x. x.over) (sym (with_append is js r)) ∙ e)

  agrees_rest : (vs : List ℕ) (is js : List Inner) (r : Reading) (ws : List ℕ) → Agrees vs r ws (is ++ js) → Agrees vs (with_parts ns r is) (store_parts ns r ws is) js
  unfolding Agrees
  agrees_rest vs is js r ws a i h = a i (subst (λ x. i < x.words) (sym (with_append is js r)) h) ∙ ap (λ us. get_or us i 0) (store_append is js r ws)

  agrees_first : (vs : List ℕ) (is js : List Inner) (r : Reading) (ws : List ℕ) → (with_parts ns r (is ++ js)).over ≡ false → Agrees vs r ws (is ++ js) → Agrees vs r ws is
  unfolding Agrees
  agrees_first vs is js r ws e a = agrees_here vs js (with_parts ns r is) (store_parts ns r ws is) (ap (λ x. x.over) (sym (with_append is js r)) ∙ e) (agrees_rest vs is js r ws a)

-- ---- columns and comparisons by their codes

module _ (ns : List ℕ) (sound : T (schema_sound ns)) where
  abbrev d : Schema
  d = schema_of ns

  none_below : T (every (λ s. ltb s (streams_in ns)) [])
  unfolding every
  none_below = tt

  col_back : (mask : ℕ) (cols : List Col) → Shows ns sound mask cols → (r : Ref) → T (fine ns r) → T (has cols (column_of d r)) → coded_col (ref_code ns r) ≡ column_of d r
  unfolding coded_col column_of
  col_back mask cols w r t h =
      ref_cases ns sound r t
      (λ l s. rw (lt-ltb (ref_code ns r) 24 l) (sym s.is))
      (λ e c. absurd (false_T (has cols (M.col (length d) 0)) (nowhere ns sound mask cols w) (rw e at h)))
      (λ e c. rw e (ap coded_col (code_alone ns).1))
      (λ m c e u. absurd (false_T (has cols (M.col (length d) 0)) (nowhere ns sound mask cols w) (rw e at h)))

  cols_back : (mask : ℕ) (cols : List Col) → Shows ns sound mask cols → (rs : List Ref) → T (every (fine ns) rs) → T (within (map (column_of d) rs) cols) → map coded_col (map (ref_code ns) rs) ≡ map (column_of d) rs
  unfolding within every
  cols_back mask cols w [] t h = refl
  cols_back mask cols w (r ∷ rs) t h = ap₂ ◌∷◌ (col_back mask cols w r (and_l (fine ns r) _ t) (and_l (has cols (column_of d r)) _ h)) (cols_back mask cols w rs (and_r (fine ns r) _ t) (and_r (has cols (column_of d r)) _ h))

  codes_fitting : (rs : List Ref) → T (codes_fit (map (ref_code ns) rs))
  unfolding every
  codes_fitting [] = tt
  codes_fitting (r ∷ rs) = and_both (ltb (ref_code ns r) 31) _ (lt→ltb (ref_code ns r) 31 (let h = (code_range ns r).0 in omega arith)) (codes_fitting rs)

  keep_back : (mask : ℕ) (cols : List Col) → Shows ns sound mask cols → (rs : List Ref) → T (every (fine ns) rs) → T (within (map (column_of d) rs) cols) → length (map (column_of d) rs) ≤ 12
      → cols_in (order_of (map (ref_code ns) rs)) ≡ map (column_of d) rs
  unfolding cols_in
  keep_back mask cols w rs t h l =
      let a = length-map rs (column_of d) in
      let b = length-map rs (ref_code ns) in
      ap (map coded_col) (codes_of (map (ref_code ns) rs) (omega arith) (codes_fitting rs)) ∙ cols_back mask cols w rs t h

  -- ---- conditions

  abbrev standing : Test → Bool
  standing t = (good_test t && test_declared ns t) && pick_left (term_of d t.left)

  left_back : (r : Ref) (v : ℕ) → T (fine ns r) → T (pick_left (term_of d r)) → coded_term (ref_code ns r) v ≡ term_of d r
  unfolding pick_left coded_term term_of
  left_back r v t h =
      ref_cases ns sound r t
      (λ l s. column_back ns sound [] none_below r v t l)
      (λ e c. rw e (ap (λ k. coded_term k v) (code_alone ns).0))
      (λ e c. rw e (ap (λ k. coded_term k v) (code_alone ns).1))
      (λ m c e u. absurd (rw u at h))

  compare_back : (t : Test) → T (standing t) → node_compare (test_node ns t) ≡ compare_of d t
  unfolding node_compare compare_of test_node left_code right_code test_value
  compare_back t h =
      let g = and_l (good_test t && test_declared ns t) _ h in
      let x = test_fine ns sound t g in
      rw (ops_back ns sound [] none_below t.op, left_back t.left (operand_value ns t.right) x.0 (and_r (good_test t && test_declared ns t) _ h), operand_back ns sound [] none_below t.right x.1 (bounded_right ns sound [] none_below t (and_l (good_test t) _ g)))

  lefts_of : (c : Cond Test) → T (pickable (map_cond (compare_of d) c)) → T (every (λ t. pick_left (term_of d t.left)) (tests c))
  unfolding pickable compare_of
  lefts_of c h =
      let e = tests_map (compare_of d) c in
      let k : T (every (λ t. pick_left t.left && pick_right t.right) (map (compare_of d) (tests c))) = rw e at h in
      let m : T (every (λ t. pick_left (term_of d t.left) && pick_right (operand_of d t.right)) (tests c)) = subst T (every_of_map (λ t. pick_left t.left && pick_right t.right) (compare_of d) (tests c)) k in
      every_both (λ t. pick_left (term_of d t.left) && pick_right (operand_of d t.right)) (λ t. pick_left (term_of d t.left) && pick_right (operand_of d t.right)) (λ t. pick_left (term_of d t.left))
      (λ t a b. and_l (pick_left (term_of d t.left)) _ a) (tests c) m m

  cond_back : (c : Cond Test) → T (every (λ t. good_test t && test_declared ns t) (tests c)) → T (pickable (map_cond (compare_of d) c)) → map_cond node_compare (nodes_of ns c) ≡ map_cond (compare_of d) c
  unfolding nodes_of
  cond_back c g h =
      fused ns sound [] none_below (test_node ns) node_compare c
      ∙ cond_same (λ t. node_compare (test_node ns t)) (compare_of d) c
      (all_weaken compare_back (every_all standing (tests c) (every_both (λ t. good_test t && test_declared ns t) (λ t. pick_left (term_of d t.left)) standing (λ t a b. and_both (good_test t && test_declared ns t) _ a b) (tests c) g (lefts_of c h))))

  -- ---- all of a form

  module _ (vs : List ℕ) (granted : List ℕ) (profile : List Entry) where
    abbrev lent : Words
    lent = record { own = vs; granted = granted; profile = profile }

    own_first : (r : Reading) (n : ℕ) (c : Cond Test) → (own_of ns r.words n (pick c) 0).form.first ≡ (own_of ns r.words n (pick c) 0).words
    unfolding own_of pick_own
    own_first r n c = refl

    -- the condition of a pick is in the words
    cond_there : (r : Reading) (n : ℕ) (c : Cond Test) (ws : List ℕ) → T (cond? c) → (own_of ns r.words n (pick c) 0).over ≡ false → r.words + size (nodes_of ns c) ≤ 102 → 102 ≤ length ws
        → Same vs (store (nodes_of ns c) r.words ws) (r.words + size (nodes_of ns c)) → cond_at vs (own_of ns r.words n (pick c) 0).form.first ≡ map_cond node_compare (nodes_of ns c)
    unfolding cond_at
    cond_there r n c ws g o few room s =
        let k = r.words + size (nodes_of ns c) in
        let e : (own_of ns r.words n (pick c) 0).form.first ≡ k = own_first r n c ∙ pick_over ns r.words n c 0 o in
        ap (λ m. cond_in (2 * m) vs m) e ∙ N.cond_same vs (store (nodes_of ns c) r.words ws) (2 * k) k s
        ∙ stored_stands (nodes_of ns c) r.words ws (cond_fits ns c g) (omega arith) (omega arith) (2 * k) (omega arith)

    kind_pick : (r : Reading) (n : ℕ) (c : Cond Test) → (own_of ns r.words n (pick c) 0).form.kind ≡ 1
    unfolding own_of pick_own
    kind_pick r n c = refl

    good_pick : (n : ℕ) (c : Cond Test) → T (known ns sound (inner n (pick c))) → T (cond? c)
    unfolding inner part_good
    good_pick n c t = and_l (cond? c) _ (and_l (cond? c && _) _ t)

    words_after : (r : Reading) (i : Inner) (is : List Inner) → (with_parts ns r (i ∷ is)).over ≡ false → (with_part ns r i).words ≤ (with_parts ns r (i ∷ is)).words
    unfolding with_parts
    words_after r i is e = let k = parts_words ns is (with_part ns r i) e in omega arith

    in_header : (a b : Ref) (xs ys : List Col) → linked (column_of d a) (column_of d b) xs ys ≡ true
        → ((x : Ref) → T (fine ns x) → T (has xs (column_of d x)) → coded_col (ref_code ns x) ≡ column_of d x) → ((x : Ref) → T (fine ns x) → T (has ys (column_of d x)) → coded_col (ref_code ns x) ≡ column_of d x)
        → T (fine ns a) → T (fine ns b) → (coded_col (ref_code ns a) ≡ column_of d a) × (coded_col (ref_code ns b) ≡ column_of d b)
    unfolding linked
    in_header a b xs ys e f g s t = go (has xs (column_of d a)) (has ys (column_of d b)) (has xs (column_of d b)) (has ys (column_of d a)) refl refl refl refl e
      where
        go : (p q u v : Bool) → has xs (column_of d a) ≡ p → has ys (column_of d b) ≡ q → has xs (column_of d b) ≡ u → has ys (column_of d a) ≡ v → (p && q || u && v) ≡ true
            → (coded_col (ref_code ns a) ≡ column_of d a) × (coded_col (ref_code ns b) ≡ column_of d b)
        go true true u v h i j k z = (f a s (rw h tt), g b t (rw i tt))
        go true false true true h i j k z = (g a s (rw k tt), f b t (rw j tt))
        go true false true false h i j k z = never (sym z)
        go true false false v h i j k z = never (sym z)
        go false q true true h i j k z = (g a s (rw k tt), f b t (rw j tt))
        go false q true false h i j k z = never (sym z)
        go false q false v h i j k z = never (sym z)

    inner_fits : (n : ℕ) (q : Form) → T (every (known ns sound) (R.parts n q)) → allowed (columns_of d) (resolve d q) ≡ true → Fits ns sound (resolve d q) (run_parts ns (R.parts n q) begun).top
    inner_fits n q t e = (runs ns sound n q begun t).fits e

    -- what is laid of a form after what is read, wherever its words begin
    unfoldable pub Lays : ℕ → Form → Type 0
    Lays n q =
        (r : Reading) (ws : List ℕ) → T (every (known ns sound) (R.parts n q)) → allowed (columns_of d) (resolve d q) ≡ true → T (keeps (distinct same_col) (resolve d q))
        → (with_parts ns r (R.parts n q)).over ≡ false → (with_parts ns r (R.parts n q)).words ≤ 102 → 102 ≤ length ws → Agrees ns vs r ws (R.parts n q) → Laid lent (resolve d q) (forms_run ns r (R.parts n q))

    row_laid : (n : ℕ) (s : Bytes) → Lays n (G.rows s)
    unfolding Lays R.parts resolve forms_run every inner own_of rows_own
    row_laid n s r ws t e k o few room a =
        let h = known_rows ns sound n s (and_l (known ns sound (inner n (rows s))) true t) in
        subst (λ m. Laid lent (M.source m) (record { kind = 0; first = stream_place ns s; second = 0; third = 0; fourth = 0 } ∷ [])) h.0
        (laid_rows (record { kind = 0; first = stream_place ns s; second = 0; third = 0; fourth = 0 }) refl)

    pick_laid : (n : ℕ) (c : Cond Test) (q : Form) → Lays (suc n) q → Lays n (G.pick c q)
    unfolding Lays R.parts resolve forms_run every inner with_parts allowed keeps part_stored Agrees store_parts
    pick_laid n c q f r ws t e k o few room a =
        let i = inner n (pick c) in
        let x = map_cond (compare_of d) c in
        let al = both_right (pickable x && within (cond_cols x) (header (columns_of d) (resolve d q))) _ e in
        let pk = true_T (pickable x) (both_left (pickable x) _ (both_left (pickable x && within (cond_cols x) (header (columns_of d) (resolve d q))) _ e)) in
        let kn = and_l (known ns sound i) _ t in
        let ob = (over_before ns r i (over_first ns (R.parts (suc n) q) (with_part ns r i) o)).1 in
        let wt : (with_part ns r i).words ≡ r.words + size (nodes_of ns c) = words_then ns r i ∙ pick_over ns r.words n c 0 ob in
        let wa = words_after r i (R.parts (suc n) q) o in
        let ls = length_store (nodes_of ns c) r.words ws in
        let sm = agrees_here ns vs (R.parts (suc n) q) (with_part ns r i) (store (nodes_of ns c) r.words ws) o a in
        let there = cond_there r n c ws (good_pick n c kn) ob (omega arith) room (λ j h. sm j (omega arith)) ∙ cond_back c (known_pick ns sound n c kn) pk in
        subst (λ y. Laid lent (M.pick y (resolve d q)) ((own_of ns r.words n (pick c) 0).form ∷ forms_run ns (with_part ns r i) (R.parts (suc n) q))) there
        (laid_pick (own_of ns r.words n (pick c) 0).form (kind_pick r n c)
        (f (with_part ns r i) (store (nodes_of ns c) r.words ws) (and_r (known ns sound i) _ t) al k o few (omega arith) a))

    keep_laid : (n : ℕ) (rs : List Ref) (q : Form) → Lays (suc n) q → Lays n (G.keep rs q)
    unfolding Lays R.parts resolve forms_run every inner with_parts allowed keeps part_stored Agrees store_parts own_of keep_own
    keep_laid n rs q f r ws t e k o few room a =
        let i = inner n (keep rs) in
        let cs = map (column_of d) rs in
        let hd = header (columns_of d) (resolve d q) in
        let al = both_right (no_aggregate (resolve d q) && within cs hd) _ e in
        let wi = true_T (within cs hd) (both_right (no_aggregate (resolve d q)) _ (both_left (no_aggregate (resolve d q) && within cs hd) _ e)) in
        let kn = known_keep ns sound n rs (and_l (known ns sound i) _ t) in
        let rest = and_r (known ns sound i) _ t in
        let ft = inner_fits (suc n) q rest al in
        let kr = and_r (distinct same_col cs) _ k in
        let wd = (ft.width kr).0 in
        let on = once_few cs hd (and_l (distinct same_col cs) _ k) wi in
        subst (λ y. Laid lent (M.keep y (resolve d q)) ((own_of ns r.words n (keep rs) 0).form ∷ forms_run ns (with_part ns r i) (R.parts (suc n) q)))
        (ap cols_in (keep_order (order_of (map (ref_code ns) rs))) ∙ keep_back (run_parts ns (R.parts (suc n) q) begun).top.mask hd ft.shows rs kn wi (omega arith))
        (laid_keep (own_of ns r.words n (keep rs) 0).form refl (f (with_part ns r i) ws rest al kr o few room a))

    aggregate_laid : (n : ℕ) (h : Fn) (c : Ref) (z w : ℤ) (q : Form) → Lays (suc n) q → Lays n (G.aggregate h c z w q)
    unfolding Lays R.parts resolve forms_run every inner with_parts allowed keeps part_stored Agrees store_parts own_of aggregate_own span_of
    aggregate_laid n h c z w q f r ws t e k o few room a =
        let i = inner n (aggregate h c z w) in
        let hd = header (columns_of d) (resolve d q) in
        let al = both_right (no_aggregate (resolve d q) && has hd (column_of d c)) _ e in
        let hc = true_T (has hd (column_of d c)) (both_right (no_aggregate (resolve d q)) _ (both_left (no_aggregate (resolve d q) && has hd (column_of d c)) _ e)) in
        let kn = known_aggregate ns sound n h c z w (and_l (known ns sound i) _ t) in
        let rest = and_r (known ns sound i) _ t in
        let ft = inner_fits (suc n) q rest al in
        let fs = (own_of ns r.words n (aggregate h c z w) 0).form ∷ forms_run ns (with_part ns r i) (R.parts (suc n) q) in
        subst (λ y. Laid lent (M.aggregate y (column_of d c) (natural z) (natural w) (resolve d q)) fs) (fn_forth h)
        (subst (λ y. Laid lent (M.aggregate (numbered_fn (fn_number h)) y (natural z) (natural w) (resolve d q)) fs) (col_back (run_parts ns (R.parts (suc n) q) begun).top.mask hd ft.shows c kn.0 hc)
        (subst (λ y. Laid lent (M.aggregate (numbered_fn (fn_number h)) (coded_col (ref_code ns c)) y (natural w) (resolve d q)) fs) (span_natural ns sound z kn.1)
        (subst (λ y. Laid lent (M.aggregate (numbered_fn (fn_number h)) (coded_col (ref_code ns c)) (span_kept z) y (resolve d q)) fs) (span_natural ns sound w kn.2)
        (laid_aggregate (own_of ns r.words n (aggregate h c z w) 0).form refl (f (with_part ns r i) ws rest al k o few room a)))))

    join_laid : (n : ℕ) (x y : Ref) (p q : Form) → Lays (suc n) p → Lays (suc n) q → Lays n (G.join x y p q)
    unfolding Lays R.parts resolve forms_run every inner with_parts allowed keeps part_stored Agrees store_parts own_of join_own
    join_laid n x y p q f g r ws t e k o few room a =
        let i = inner n (join x y) in
        let r1 = with_part ns r i in
        let ps = R.parts (suc n) p in
        let qs = R.parts (suc n) q in
        let hp = header (columns_of d) (resolve d p) in
        let hq = header (columns_of d) (resolve d q) in
        let aq = both_right (((side (resolve d p) && side (resolve d q)) && linked (column_of d x) (column_of d y) hp hq) && allowed (columns_of d) (resolve d p)) _ e in
        let e1 = both_left (((side (resolve d p) && side (resolve d q)) && linked (column_of d x) (column_of d y) hp hq) && allowed (columns_of d) (resolve d p)) _ e in
        let ap1 = both_right ((side (resolve d p) && side (resolve d q)) && linked (column_of d x) (column_of d y) hp hq) _ e1 in
        let li = both_right (side (resolve d p) && side (resolve d q)) _ (both_left ((side (resolve d p) && side (resolve d q)) && linked (column_of d x) (column_of d y) hp hq) _ e1) in
        let kn = known_join ns sound n x y (and_l (known ns sound i) _ t) in
        let rest = and_r (known ns sound i) _ t in
        let tp = every_append_l (known ns sound) ps qs rest in
        let tq = every_append_r (known ns sound) ps qs rest in
        let fp = inner_fits (suc n) p tp ap1 in
        let fq = inner_fits (suc n) q tq aq in
        let op = over_prefix ns ps qs r1 o in
        let wa = with_append ns ps qs r1 in
        let oq : (with_parts ns (with_parts ns r1 ps) qs).over ≡ false = ap (λ v. v.over) (sym wa) ∙ o in
        let wp = parts_words ns qs (with_parts ns r1 ps) oq in
        let we : (with_parts ns r1 (ps ++ qs)).words ≡ (with_parts ns (with_parts ns r1 ps) qs).words = ap (λ v. v.words) wa in
        let hs = in_header x y hp hq li (col_back (run_parts ns ps begun).top.mask hp fp.shows) (col_back (run_parts ns qs begun).top.mask hq fq.shows) kn.0 kn.1 in
        let ll = length_parts ns ps r1 ws in
        let lp = f r1 ws tp ap1 (and_l (keeps (distinct same_col) (resolve d p)) _ k) op (omega arith) room (agrees_first ns vs ps qs r1 ws o a) in
        let lq = g (with_parts ns r1 ps) (store_parts ns r1 ws ps) tq aq (and_r (keeps (distinct same_col) (resolve d p)) _ k) oq (omega arith) (omega arith) (agrees_rest ns vs ps qs r1 ws a) in
        let fo = (own_of ns r.words n (join x y) 0).form in
        let all = laid_join fo refl lp lq in
        subst (λ m. Laid lent (M.join m (column_of d y) (resolve d p) (resolve d q)) (fo ∷ forms_run ns r1 (ps ++ qs))) hs.0
        (subst (λ m. Laid lent (M.join (coded_col (ref_code ns x)) m (resolve d p) (resolve d q)) (fo ∷ forms_run ns r1 (ps ++ qs))) hs.1
        (subst (λ l. Laid lent (M.join (coded_col (ref_code ns x)) (coded_col (ref_code ns y)) (resolve d p) (resolve d q)) (fo ∷ l)) (sym (forms_append ns ps qs r1)) all))

    pub lays : (n : ℕ) (q : Form) → Lays n q
    lays n (G.rows s) = row_laid n s
    lays n (G.pick c q) = pick_laid n c q (lays (suc n) q)
    lays n (G.keep rs q) = keep_laid n rs q (lays (suc n) q)
    lays n (G.join x y p q) = join_laid n x y p q (lays (suc n) p) (lays (suc n) q)
    lays n (G.aggregate h c z w q) = aggregate_laid n h c z w q (lays (suc n) q)
