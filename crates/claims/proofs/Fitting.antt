-- The line of a route fits the bytes of a rewritten line.
use mathlib.Core.Path.{◌≡◌, refl, ap, ap₂, ◌∙◌}
use mathlib.Core.List.{List, [], ◌∷◌, ◌++◌, map}
use mathlib.Core.Bool.{Bool, true, false, ◌&&◌, ◌||◌, cond}
use mathlib.Core.Option.{Option, none, some}
use Prim.Native.Nat.{ℕ, zero, suc, ◌+◌, ◌*◌, ◌≤◌}
use native.Mathlib.Omega.{arith}
use lib.IntN.{pos}
use lib.ListN.{length, length-map}
use lib.Dec.{T, leb→le}
use Rattle.refusal.specs.Checks.{passes}
use Rattle.lists.specs.Lists.{every, some?, nth, gather, count_from, same_list}
use Rattle.lists.proofs.Laws.{parts, All, all_nil, all_cons, all_head, all_tail, all_weaken, all_left, all_right, every_all}
use Rattle.lists.proofs.Counting.{count_length}
use Rattle.syntax.specs.Grammar as G
use Rattle.syntax.specs.Grammar.{Bytes, Op, Cond, test, all, any, neg, Conds, last, more, Form, Ref, Operand, Test, GrantLine, Entry, ref?, operand?, test?, cond?, grant?, fn_word, put_cond, line_text, query_text}
use Rattle.syntax.specs.Limits.{is_value, short, top, max_columns, max_name, max_granted, max_line, max_printed}
use Rattle.syntax.proofs.Lengths.{name_filled}
use Rattle.syntax.proofs.Exact.{int_length, ref_length, operand_length, test_length, cond_length, conds_length, items_length, equality_length, form_length, part_length, when_length, grant_length, body_length, line_length, put_cond_length, query_text_length, line_text_length, value_length, time_length, op_short}
use Rattle.model.specs.Conditions.{tests, tests_of, conds_of, map_cond, map_conds}
use Rattle.model.specs.Queries.{Schema, no_stream, Col, col, same_col, columns_of, column, self, Compare, Query, source, pick, keep, join, aggregate, Grant, Caller}
use Rattle.model.specs.Grants.{entry_value, fill_term, fill_compare, fill, limit, limits, shown_of}
use Rattle.model.specs.Checks.{grant_placed}
use Rattle.model.specs.Routes.{Route, routes}
use Rattle.model.specs.Rewriting.{rewritten}
use Rattle.model.proofs.Weights.{Costs, cols_cost, cols_append, cols_select, under_cost, weight, weighed}
use Rattle.calls.specs.Names.{columns_named, stream_number, col_of, is_self, term_of, operand_of, compare_of, resolve, resolve_grant, ref_of, left_ref, right_operand, test_of, form_of, operand_refs, cond_refs, show_refs}
use Rattle.calls.specs.Validity.{valid_name, free_name, valid_stream, valid_schema, valid_limit, valid_grant, valid_caller}
use Rattle.calls.specs.Tables.{declared, ref_declared, grant_checks, query_checks}
use Rattle.calls.specs.Asking.{route_line}
use Rattle.calls.proofs.Stored.{cond_tests, grant_stored}
use Rattle.calls.proofs.Accepted.{query_accepted, grant_accepted}
use Rattle.claims.proofs.Known.{Known, known_col, known_figure, columns_known, filled_stream, placed_allowed}
use Rattle.claims.proofs.Named.{name_free, column_free, stream_valid}
use Rattle.claims.proofs.Resolved.{dotted_named, self_named, resolved_named}

-- ---- a condition with the caller's values put in is at most twice as long as it was written

mutual
  unfolding tests map_cond cond_length

  grown : (g : Test → Test) (c : Cond Test) → All (λ t. test_length (g t) ≤ 2 * test_length t) (tests c) → cond_length (map_cond g c) ≤ 2 * cond_length c
  grown g (test t) h = all_head h
  grown g (all cs) h = let l = grown_all g cs h in omega arith
  grown g (any cs) h = let l = grown_all g cs h in omega arith
  grown g (neg c) h = let l = grown g c h in omega arith

  grown_all : (g : Test → Test) (cs : Conds Test) → All (λ t. test_length (g t) ≤ 2 * test_length t) (tests_of cs) → conds_length (map_conds g cs) ≤ 2 * conds_length cs
  grown_all g (last c) h = let l = grown g c h in omega arith
  grown_all g (more c cs) h = let l = grown g c (all_left (tests c) _ h) in let m = grown_all g cs (all_right (tests c) _ h) in omega arith

module _ {A B C : Type 0} where
  mutual
    unfolding map_cond

    pub map_map : (f : B → C) (g : A → B) (c : Cond A) → map_cond f (map_cond g c) ≡ map_cond (λ t. f (g t)) c
    map_map f g (test t) = refl
    map_map f g (all cs) = ap all (map_maps f g cs)
    map_map f g (any cs) = ap any (map_maps f g cs)
    map_map f g (neg c) = ap neg (map_map f g c)

    map_maps : (f : B → C) (g : A → B) (cs : Conds A) → map_conds f (map_conds g cs) ≡ map_conds (λ t. f (g t)) cs
    map_maps f g (last c) = ap last (map_map f g c)
    map_maps f g (more c cs) = ap₂ more (map_map f g c) (map_maps f g cs)

entry_is_value : (p : List Entry) (n : Bytes) → T (every (λ e. valid_name e.name && is_value e.value) p) → T (is_value (entry_value p n))
unfolding entry_value every is_value
entry_is_value [] n h = tt
entry_is_value (e ∷ es) n h = go (same_list e.name n) (entry_is_value es n (search parts))
  where
    go : (b : Bool) → T (is_value (entry_value es n)) → T (is_value (cond b e.value (entry_value es n)))
    go true r = search parts
    go false r = r

module _ (d : Schema) (who : Caller) (valid : T (valid_caller who)) where
  -- a profile value is at most as long as a number
  pub self_short : (n : Bytes) → int_length (entry_value who.profile n) ≤ 11
  unfolding valid_caller
  self_short n = value_length (entry_value who.profile n) (entry_is_value who.profile n (search parts))

  left_grows : (r : Ref) → T (ref_declared d r) → ref_length (left_ref d (fill_term who.profile (term_of d r))) ≤ 2 * ref_length r
  unfolding ref_declared term_of fill_term left_ref ref_length ref_of
  left_grows (G.dotted n m) h = go (is_self n) refl h
    where
      go : (b : Bool) → is_self n ≡ b → T (b || declared d n && some? (same_list m) (columns_named d (stream_number d n)))
          → ref_length (left_ref d (fill_term who.profile (cond b (self m) (column (col_of d n m))))) ≤ 2 * suc (length n + length m)
      go true e h = let l = ap length (self_named d n (rw e tt)) in omega arith
      go false e h = let l = ap ref_length (dotted_named d n m h) in omega arith
  left_grows G.time h = omega arith
  left_grows G.figure h = omega arith

  right_grows : (o : Operand) → T (operand? o) → All (λ r. T (ref_declared d r)) (operand_refs o) → operand_length (right_operand d (fill_term who.profile (operand_of d o))) ≤ 2 * operand_length o
  unfolding operand? ref? operand_refs operand_of ref_declared term_of fill_term right_operand operand_length ref_length ref_of
  right_grows (G.ref (G.dotted n m)) f h = go (is_self n) refl (all_head h)
    where
      go : (b : Bool) → is_self n ≡ b → T (b || declared d n && some? (same_list m) (columns_named d (stream_number d n)))
          → operand_length (right_operand d (fill_term who.profile (cond b (self m) (column (col_of d n m))))) ≤ 2 * suc (length n + length m)
      go true e h = let l = ap length (self_named d n (rw e tt)) in let k = name_filled m (search parts) in let v = self_short m in omega arith
      go false e h = let l = ap ref_length (dotted_named d n m h) in omega arith
  right_grows (G.ref G.time) f h = omega arith
  right_grows (G.ref G.figure) f h = omega arith
  right_grows (G.number z) f h = omega arith

  tests_grow : (ts : List Test) → All (λ t. T (test? t)) ts → All (λ r. T (ref_declared d r)) (gather (λ t. t.left ∷ operand_refs t.right) ts)
      → All (λ t. test_length (test_of d (fill_compare who.profile (compare_of d t))) ≤ 2 * test_length t) ts
  unfolding gather test? test_length test_of fill_compare compare_of
  tests_grow [] f h = all_nil
  tests_grow (t ∷ ts) f h =
      let u = all_head f in
      let l = left_grows t.left (all_head h) in
      let r = right_grows t.right (search parts) (all_left (operand_refs t.right) _ (all_tail h)) in
      all_cons {x = t} (omega arith) (tests_grow ts (all_tail f) (all_right (operand_refs t.right) _ (all_tail h)))

  filled_grows : (c : Cond Test) → T (cond? c) → All (λ r. T (ref_declared d r)) (cond_refs c)
      → cond_length (map_cond (test_of d) (fill who.profile (map_cond (compare_of d) c))) ≤ 2 * cond_length c
  unfolding fill cond_refs
  filled_grows c f h =
      rw (map_map (fill_compare who.profile) (compare_of d) c, map_map (test_of d) (λ t. fill_compare who.profile (compare_of d t)) c)
      (grown (λ t. test_of d (fill_compare who.profile (compare_of d t))) c (tests_grow (tests c) (every_all test? (tests c) (cond_tests c f)) h))

  -- the text of a grant's condition with the caller's values put in is at most twice as long as the written one
  pub filled_fits : (c : Cond Test) → T (cond? c) → All (λ r. T (ref_declared d r)) (cond_refs c)
      → length (put_cond (map_cond (test_of d) (fill who.profile (map_cond (compare_of d) c))) []) ≤ 2 * length (put_cond c [])
  filled_fits c f h =
      let g = filled_grows c f h in
      let l = put_cond_length (map_cond (test_of d) (fill who.profile (map_cond (compare_of d) c))) [] in
      let w = put_cond_length c [] in
      omega arith

-- ---- what each form of a query adds to its text

unfoldable pub text_costs : Schema → Costs
text_costs d = record {
  source_cost = λ s. 5 + length (nth no_stream d s).name;
  pick_cost = λ c. 8 + cond_length (map_cond (test_of d) c);
  col_cost = λ c. suc (ref_length (ref_of d c));
  keep_cost = 7;
  join_cost = λ a b. 9 + equality_length (ref_of d a) (ref_of d b);
  fn_cost = λ f c size offset. 6 + length (fn_word f) + ref_length (ref_of d c) + int_length (pos size) + int_length (pos offset);
}

module _ (d : Schema) where
  cols_text : (cs : List Col) → cols_cost (text_costs d) cs ≡ items_length ref_length (map (ref_of d) cs)
  unfolding cols_cost text_costs items_length
  cols_text [] = refl
  cols_text (c ∷ cs) = let h = cols_text cs in omega arith

  weight_text : (q : Query ℕ) → weight (text_costs d) q ≡ form_length (form_of d q)
  unfolding weight text_costs form_of form_length
  weight_text (source s) = refl
  weight_text (pick c q) = let h = weight_text q in omega arith
  weight_text (keep cs q) = let h = weight_text q in let k = cols_text cs in omega arith
  weight_text (join a b q r) = let h = weight_text q in let k = weight_text r in omega arith
  weight_text (aggregate f c size offset q) = let h = weight_text q in omega arith

  -- ---- the columns of a view

  cols_short : {cs : List Col} → All (λ c. ref_length (ref_of d c) ≤ 17) cs → cols_cost (text_costs d) cs ≤ 18 * length cs
  unfolding cols_cost text_costs
  cols_short all_nil = omega arith
  cols_short (all_cons h hs) = let k = cols_short hs in omega arith

  module _ (valid : T (valid_schema d)) where
    free_short : (n : Bytes) → T (free_name n) → length n ≤ max_name
    unfolding free_name valid_name short
    free_short n h = leb→le (length n) max_name (search parts)

    pub known_short : {c : Col} → Known d c → ref_length (ref_of d c) ≤ 17
    unfolding ref_length ref_of
    known_short (known_col {s} {c} l m) = let h = free_short _ (name_free d valid s l) in let k = free_short _ (column_free d valid s c l m) in omega arith
    known_short known_figure = omega arith

    columns_few : (s : ℕ) → length (columns_of d s) ≤ max_columns
    unfolding columns_of
    columns_few s = rw (length-map (count_from 0 (length (nth no_stream d s).columns)) (col s), count_length 0 (length (nth no_stream d s).columns)) (go (length (nth no_stream d s).columns) refl)
      where
        go : (n : ℕ) → length (nth no_stream d s).columns ≡ n → n ≤ max_columns
        go zero e = omega arith
        go (suc n) e = unfold valid_stream in (let v = stream_valid d valid s (filled_stream d s (omega arith)) in let l = leb→le (length (nth no_stream d s).columns) max_columns (search parts) in omega arith)

    stream_cost : (s : ℕ) → cols_cost (text_costs d) (columns_of d s) ≤ 108
    stream_cost s = let h = cols_short (all_weaken (λ c. known_short) (columns_known d s)) in let k = columns_few s in omega arith

    streams_cost : (ss : List ℕ) → cols_cost (text_costs d) (gather (columns_of d) ss) ≤ 108 * length ss
    unfolding gather cols_cost
    streams_cost [] = omega arith
    streams_cost (s ∷ ss) = let h = stream_cost s in let k = streams_cost ss in let e = cols_append (text_costs d) (columns_of d s) (gather (columns_of d) ss) in omega arith

    shown_cost : (g : Grant) → length g.of ≤ max_granted → cols_cost (text_costs d) (shown_of d g) ≤ 216
    unfolding shown_of
    shown_cost g l = let h = cols_select (text_costs d) (λ c. some? (same_col c) g.shown) (gather (columns_of d) g.of) in let k = streams_cost g.of in omega arith

  -- ---- the conditions of a view

  -- their bytes, each after one space
  abbrev pub texts : List (Cond Compare) → ℕ
  texts cs = items_length (λ c. cond_length (map_cond (test_of d) c)) cs

  -- those of a grant with the caller's values put in
  abbrev pub filled_texts : Caller → Grant → ℕ
  filled_texts who g = texts (map (fill who.profile) g.when)

  conds_text : (c : Cond Compare) (cs : List (Cond Compare)) → conds_length (map_conds (test_of d) (conds_of c cs)) ≡ texts (c ∷ cs)
  unfolding conds_of map_cond cond_length items_length
  conds_text c [] = omega arith
  conds_text c (e ∷ es) = let h = conds_text e es in omega arith

  under_text : (cs : List (Cond Compare)) → under_cost (text_costs d) cs ≤ 13 + texts cs
  unfolding under_cost text_costs map_cond cond_length
  under_text [] = omega arith
  under_text (c ∷ cs) = let h = conds_text c cs in omega arith

  texts_append : (cs es : List (Cond Compare)) → texts (cs ++ es) ≡ texts cs + texts es
  unfolding items_length
  texts_append [] es = omega arith
  texts_append (c ∷ cs) es = let h = texts_append cs es in omega arith

  limit_text : (o : Op) (n : Option ℕ) → T (valid_limit n) → texts (limit o n) ≤ 21
  unfolding limit valid_limit items_length map_cond cond_length test_length test_of left_ref right_operand ref_length operand_length
  limit_text o none h = omega arith
  limit_text o (some n) h = let k = op_short o in let l = time_length n (leb→le n top h) in omega arith

  module _ (who : Caller) (caller : T (valid_caller who)) where
    when_text : (cs : List (Cond Test)) → All (λ c. T (cond? c)) cs → All (λ r. T (ref_declared d r)) (gather cond_refs cs)
        → texts (map (fill who.profile) (map (map_cond (compare_of d)) cs)) ≤ 2 * items_length cond_length cs
    unfolding items_length gather
    when_text [] f h = omega arith
    when_text (c ∷ cs) f h =
        let l = filled_grows d who caller c (all_head f) (all_left (cond_refs c) _ h) in
        let k = when_text cs (all_tail f) (all_right (cond_refs c) _ h) in
        omega arith

-- ---- what a view adds to a line

module _ (d : Schema) (valid : T (valid_schema d)) (who : Caller) where
  limits_text : (g : Grant) → T (valid_limit g.from) → T (valid_limit g.to) → texts d (limits who g) ≤ 42 + filled_texts d who g
  unfolding limits
  limits_text g h k =
      let from = limit_text d G.ge g.from h in
      let to = limit_text d G.le g.to k in
      let e₁ = texts_append d (map (fill who.profile) g.when) (limit G.ge g.from ++ limit G.le g.to) in
      let e₂ = texts_append d (limit G.ge g.from) (limit G.le g.to) in
      omega arith

  of_few : (g : Grant) → T (grant_placed d g) → length g.of ≤ max_granted
  unfolding grant_placed
  of_few g h = leb→le (length g.of) max_granted (search parts)

  -- beside its conditions a view takes at most 278 bytes
  view_text : (g : Grant) → T (valid_grant d g) → (text_costs d).keep_cost + cols_cost (text_costs d) (shown_of d g) + under_cost (text_costs d) (limits who g) ≤ 278 + filled_texts d who g
  unfolding text_costs valid_grant
  view_text g v =
      let s = shown_cost d valid g (of_few g (search parts)) in
      let l = limits_text g (search parts) (search parts) in
      let u = under_text d (limits who g) in
      omega arith

  -- over valid grants whose conditions take at most n bytes, a route's line is longer than its query by two views at most
  pub line_within : (n : ℕ) (gs : List Grant) → All (λ g. T (valid_grant d g) × (filled_texts d who g ≤ n)) gs → (f : Form) → length (query_text f) ≤ max_line → T (passes (query_checks d f))
      → All (λ (r : Route). length (route_line d who r) ≤ max_line + 2 * (278 + n)) (routes d who gs (resolve d f))
  unfolding route_line
  line_within n gs hs f l h =
      let ok = query_accepted d f h in
      let e = resolved_named d f ok.names ok.places ok.sizes in
      let t = query_text_length f in
      let m = weight_text d (resolve d f) ∙ ap form_length e in
      all_weaken (λ r w. let u = weight_text d (rewritten d who r) in let v = query_text_length (form_of d (rewritten d who r)) in omega arith)
      (weighed d who gs (text_costs d) 108 (278 + n) (stream_cost d valid) (all_weaken (λ g (v, k) b. let w = view_text g v in omega arith) hs) (unfold text_costs in omega arith) (resolve d f) (placed_allowed d (resolve d f) ok.places))

-- ---- grants that were written

-- a grant that an accepted line made
pub record Written (d : Schema) (g : Grant) : Type 0 where
  pub text : GrantLine
  pub formed : T (grant? text)
  pub fits : length (line_text G.grant text) ≤ max_line
  pub passed : T (passes (grant_checks d [] text))
  pub made : g ≡ resolve_grant d text

when_in : (cs : List (Cond Test)) → items_length cond_length cs ≤ when_length cs
unfolding when_length items_length part_length
when_in [] = omega arith
when_in (c ∷ cs) = omega arith

when_fits : (g : GrantLine) → length (line_text G.grant g) ≤ max_line → items_length cond_length g.when ≤ max_line
unfolding line_length body_length grant_length
when_fits g l = let h = line_text_length G.grant g in let k = when_in g.when in omega arith

module _ (d : Schema) (valid : T (valid_schema d)) (who : Caller) (caller : T (valid_caller who)) where
  line_filled : (g : GrantLine) → T (grant? g) → T (every (ref_declared d) (show_refs g.show ++ gather cond_refs g.when)) → length (line_text G.grant g) ≤ max_line
      → filled_texts d who (resolve_grant d g) ≤ 2 * max_line
  unfolding resolve_grant grant?
  line_filled g f n l =
      let refs = all_right (show_refs g.show) _ (every_all (ref_declared d) _ n) in
      let w = when_text d who caller g.when (every_all cond? g.when (search parts)) refs in
      let i = when_fits g l in
      omega arith

  written_filled : (g : Grant) → Written d g → T (valid_grant d g) × (filled_texts d who g ≤ 2 * max_line)
  written_filled g w =
      let t = w.text in
      rw w.made (grant_stored d [] t valid w.formed w.passed, line_filled t w.formed (grant_accepted d [] t w.passed).refs w.fits)

-- a route's line fits the bytes lent for it
pub line_fits : (d : Schema) → T (valid_schema d) → (who : Caller) → T (valid_caller who) → (gs : List Grant) → All (Written d) gs
    → (f : Form) → length (query_text f) ≤ max_line → T (passes (query_checks d f))
    → All (λ (r : Route). length (route_line d who r) ≤ max_printed) (routes d who gs (resolve d f))
line_fits d valid who caller gs ws f l h =
    all_weaken (λ r k. omega arith) (line_within d valid who (2 * max_line) gs (all_weaken (written_filled d valid who caller) ws) f l h)
