-- The line of a route over any catalogue that may be lent is short enough for its bytes to be counted in 32 bits.
use mathlib.Core.Path.{ap}
use mathlib.Core.List.{List, [], ◌∷◌, ◌++◌, map}
use mathlib.Core.Bool.{◌&&◌}
use Prim.Native.Nat.{ℕ, suc, ◌*◌, ◌≤◌, ◌<◌}
use native.Mathlib.Omega.{arith}
use lib.Dec.{T, leb→le}
use lib.ListN.{length}
use Rattle.refusal.specs.Checks.{passes}
use Rattle.lists.specs.Lists.{gather}
use Rattle.lists.proofs.Laws.{and_l, and_r, parts, All, all_nil, all_cons, all_head, all_tail, all_weaken, all_both, all_left, all_right, every_all, every_gather}
use Rattle.syntax.specs.Grammar.{Cond, test, all, any, neg, Conds, last, more, Form, Test, query_text}
use Rattle.syntax.specs.Limits.{max_line}
use Rattle.syntax.proofs.Exact.{ref_length, operand_length, test_length, cond_length, conds_length, items_length, value_length, op_short}
use Rattle.model.specs.Conditions.{tests, tests_of, map_cond, map_conds}
use Rattle.model.specs.Queries.{Schema, Col, columns_of, Term, column, time, number, self, Compare, Grant, Caller}
use Rattle.model.specs.Grants.{fill_term, fill_compare, fill}
use Rattle.model.specs.Checks.{has, within, term_cols, cond_cols, when_left, when_right, grantable, grant_placed}
use Rattle.model.specs.Routes.{Route, routes}
use Rattle.calls.specs.Names.{resolve, left_ref, right_operand, test_of}
use Rattle.calls.specs.Validity.{valid_schema, valid_term, valid_cond, valid_grant, valid_caller}
use Rattle.calls.specs.Tables.{query_checks}
use Rattle.calls.specs.Asking.{route_line}
use Rattle.claims.proofs.Known.{Known, all_within, streams_known}
use Rattle.claims.proofs.Fitting.{map_map, self_short, known_short, texts, filled_texts, line_within}
use Rattle.schema.specs.Schemas.{schema_of}
use Rattle.nodes.proofs.Counts.{node_count, node_counts, list_count, few_nodes}
use Rattle.grant.specs.declared.Grant as D
use Rattle.grant.specs.Grants.{grant_words, streams_of, grant_of, streams_mask, when_sound, grant_sound}
use Rattle.grant.specs.Catalogues.{words_in, grants_from, catalogue_of, sound_from, catalogue_sound}
use Rattle.grant.proofs.Valid.{sound_valid}

-- ---- a condition whose comparisons have at most 40 bytes has at most 41 for each of its nodes, with the space before it

module _ {A : Type 0} (put : A → Test) where
  mutual
    unfolding tests map_cond cond_length node_count

    cond_short : (c : Cond A) → All (λ t. test_length (put t) ≤ 40) (tests c) → suc (cond_length (map_cond put c)) ≤ 41 * node_count c
    cond_short (test t) h = let l = all_head h in omega arith
    cond_short (all cs) h = let l = conds_short cs h in omega arith
    cond_short (any cs) h = let l = conds_short cs h in omega arith
    cond_short (neg c) h = let l = cond_short c h in omega arith

    conds_short : (cs : Conds A) → All (λ t. test_length (put t) ≤ 40) (tests_of cs) → conds_length (map_conds put cs) ≤ 41 * node_counts cs
    conds_short (last c) h = cond_short c h
    conds_short (more c cs) h = let l = cond_short c (all_left (tests c) _ h) in let k = conds_short cs (all_right (tests c) _ h) in omega arith

-- ---- the conditions of a valid grant, with the caller's values put in

module _ (d : Schema) (valid : T (valid_schema d)) (who : Caller) (caller : T (valid_caller who)) where
  -- a column is at most two names and a dot, and a number is shorter
  left_short : (t : Term) → T (when_left t) → All (Known d) (term_cols t) → ref_length (left_ref d (fill_term who.profile t)) ≤ 17
  unfolding when_left term_cols fill_term left_ref
  left_short (column c) h k = known_short d valid (all_head k)
  left_short time h k = absurd h
  left_short (number z) h k = absurd h
  left_short (self n) h k = absurd h

  right_short : (t : Term) → T (when_right t) → T (valid_term t) → All (Known d) (term_cols t) → operand_length (right_operand d (fill_term who.profile t)) ≤ 17
  unfolding when_right valid_term term_cols fill_term right_operand operand_length
  right_short (column c) h v k = known_short d valid (all_head k)
  right_short time h v k = absurd h
  right_short (number z) h v k = let l = value_length z v in omega arith
  right_short (self n) h v k = let l = self_short d who caller n in omega arith

  -- a comparison as it is put
  abbrev filled : Compare → Test
  filled t = test_of d (fill_compare who.profile t)

  test_short : (t : Compare) → T (when_left t.left && when_right t.right) → T (valid_term t.left && valid_term t.right) → All (Known d) (term_cols t.left ++ term_cols t.right)
      → test_length (filled t) ≤ 40
  unfolding test_length test_of fill_compare
  test_short t h v k =
      let l = left_short t.left (search parts) (all_left (term_cols t.left) _ k) in
      let r = right_short t.right (search parts) (search parts) (all_right (term_cols t.left) _ k) in
      let o = op_short t.op in
      omega arith

  -- the comparisons of a condition over the columns of some streams
  tests_short : (ss : List ℕ) (c : Cond Compare) → T (grantable c && within (cond_cols c) (gather (columns_of d) ss)) → T (valid_cond c) → All (λ t. test_length (filled t) ≤ 40) (tests c)
  unfolding grantable valid_cond cond_cols within
  tests_short ss c p v =
      let ds = gather (columns_of d) ss in
      let cols : Compare → List Col = λ t. term_cols t.left ++ term_cols t.right in
      all_weaken (λ t ((h, w), k). test_short t h w (all_within (cols t) (streams_known d ss) k))
      (all_both (all_both (every_all _ (tests c) (and_l (grantable c) _ p)) (every_all _ (tests c) v)) (every_all (λ t. within (cols t) ds) (tests c) (every_gather (has ds) cols (tests c) (and_r (grantable c) _ p))))

  list_short : (cs : List (Cond Compare)) → All (λ c. All (λ t. test_length (filled t) ≤ 40) (tests c)) cs → texts d (map (fill who.profile) cs) ≤ 41 * list_count cs
  unfolding items_length list_count fill
  list_short [] h = omega arith
  list_short (c ∷ cs) h =
      let l = cond_short filled c (all_head h) in
      let e = ap cond_length (map_map (test_of d) (fill_compare who.profile) c) in
      let k = list_short cs (all_tail h) in
      omega arith

  grant_short : (g : Grant) → T (valid_grant d g) → filled_texts d who g ≤ 41 * list_count g.when
  unfolding valid_grant grant_placed
  grant_short g v =
      list_short g.when (all_weaken (λ c (p, w). tests_short g.of c p w)
      (all_both (every_all (λ c. grantable c && within (cond_cols c) (gather (columns_of d) g.of)) g.when (search parts depth 9)) (every_all valid_cond g.when (search parts depth 9))))

-- ---- the grants of a catalogue that may be lent

-- a grant's conditions have at most as many nodes as it has words
words_few : (ns : List ℕ) (g : D.Grant) (ws : List ℕ) → T (grant_sound ns g ws) → list_count (grant_of ns g ws).when ≤ grant_words
unfolding grant_sound when_sound grant_of
words_few ns g ws t =
    let h = few_nodes (streams_mask ns (streams_of g)) ws g.words (search parts depth 9) in
    let l = leb→le g.words grant_words (search parts depth 9) in
    omega arith

grants_few : (ns ws : List ℕ) (i : ℕ) (gs : List D.Grant) → T (sound_from ns ws i gs) → All (λ g. T (valid_grant (schema_of ns) g) × (list_count g.when ≤ grant_words)) (grants_from ns ws i gs)
unfolding sound_from grants_from
grants_few ns ws i [] t = all_nil
grants_few ns ws i (g ∷ gs) t =
    let s : T (grant_sound ns g (words_in ws i)) = search parts in
    all_cons (sound_valid ns g (words_in ws i) s, words_few ns g (words_in ws i) s) (grants_few ns ws (suc i) gs (search parts))

-- For a checked query of at most 512 bytes and any catalogue that passes refusal 12: the line of each route has two views at most, each of which adds at most
-- 278 bytes and 41 for each of its grant's 95 words. That is 8,858 bytes at most, so that they can be counted in 32 bits.
pub line_short : (ns ws : List ℕ) (gs : List D.Grant) → T (valid_schema (schema_of ns)) → T (catalogue_sound ns gs ws)
    → (who : Caller) → T (valid_caller who) → (f : Form) → length (query_text f) ≤ max_line → T (passes (query_checks (schema_of ns) f))
    → All (λ (r : Route). length (route_line (schema_of ns) who r) < 4294967295) (routes (schema_of ns) who (catalogue_of ns gs ws) (resolve (schema_of ns) f))
unfolding catalogue_sound catalogue_of
line_short ns ws gs valid sound who caller f l h =
    all_weaken (λ r k. omega arith)
    (line_within (schema_of ns) valid who (41 * grant_words) (grants_from ns ws 0 gs)
    (all_weaken (λ g (v, k). (v, let t = grant_short (schema_of ns) valid who caller g v in omega arith)) (grants_few ns ws 0 gs (search parts))) f l h)
