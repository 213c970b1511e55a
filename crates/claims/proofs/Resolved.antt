-- From names to numbers and back: what was read and accepted is printed as it was written.
use mathlib.Core.Path.{◌≡◌, refl, sym, ap, ap₂, ◌∙◌}
use mathlib.Core.List.{List, [], ◌∷◌, ◌++◌, map, map-append}
use mathlib.Core.Bool.{Bool, true, false, ◌&&◌, ◌||◌, cond}
use Prim.Native.Nat.{ℕ, suc, ◌+◌, ◌≤◌}
use native.Mathlib.Omega.{arith}
use lib.IntN.{ℤ, pos, negsuc}
use lib.ListN.{length}
use lib.Dec.{T, leb→le, ltb→lt}
use Rattle.lists.specs.Lists.{every, some?, nth, distinct, gather, same_list}
use Rattle.lists.proofs.Laws.{and_both, parts, All, all_nil, all_cons, all_head, all_tail, all_map, every_all, all_left, all_right, same_list→eq, same_list_refl, position_nth, nth_of_map, distinct_unmap}
use Rattle.syntax.specs.Grammar as G
use Rattle.syntax.specs.Grammar.{Bytes, bytes, Cond, Form, Ref, Operand, Test}
use Rattle.syntax.specs.Limits.{natural}
use Rattle.model.specs.Conditions.{tests, map_cond}
use Rattle.model.specs.Queries.{Schema, no_stream, col, same_col, column, self, Query, source, pick, keep, join, aggregate, sources, forms}
use Rattle.model.specs.Checks.{placed, fitting, sized, keeps}
use Rattle.model.proofs.Conditions.{cond_back}
use Rattle.model.proofs.Columns.{same_col→eq}
use Rattle.calls.specs.Names.{stream_names, columns_named, stream_number, col_of, is_self, term_of, column_of, operand_of, compare_of, resolve, ref_of, left_ref, right_operand, test_of, form_of, operand_refs, cond_refs, form_streams, form_refs, form_keeps}
use Rattle.calls.specs.Bounds.{form_count}
use Rattle.calls.specs.Tables.{declared, ref_declared, same_ref, query_declared}
use Rattle.calls.proofs.Stored.{below}
use Rattle.claims.proofs.Known.{Known, KnownQuery, known_pick, known_keep, known_join, known_aggregate, Sourced, query_known, unknown, placed_allowed}

same_ref_refl : (r : Ref) → T (same_ref r r)
unfolding same_ref
same_ref_refl (G.dotted n m) = and_both (same_list n n) _ (same_list_refl n) (same_list_refl m)
same_ref_refl G.time = tt
same_ref_refl G.figure = tt

module _ (d : Schema) where
  stream_named : (n : Bytes) → T (declared d n) → (nth no_stream d (stream_number d n)).name ≡ n
  unfolding stream_number declared stream_names no_stream
  stream_named n h = sym (nth_of_map (λ t. t.name) no_stream d (stream_number d n)) ∙ position_nth n (stream_names d) h

  pub dotted_named : (n m : Bytes) → T (declared d n && some? (same_list m) (columns_named d (stream_number d n))) → ref_of d (col_of d n m) ≡ G.dotted n m
  unfolding ref_of col_of
  dotted_named n m h = ap₂ G.dotted (stream_named n (search parts)) (position_nth m (columns_named d (stream_number d n)) (search parts))

  pub self_named : (n : Bytes) → T (is_self n) → bytes "self" ≡ n
  unfolding is_self
  self_named n h = same_list→eq (bytes "self") n h

  left_named : (r : Ref) → T (ref_declared d r) → left_ref d (term_of d r) ≡ r
  unfolding ref_declared term_of left_ref ref_of
  left_named (G.dotted n m) h = go (is_self n) refl h
    where
      go : (b : Bool) → is_self n ≡ b → T (b || declared d n && some? (same_list m) (columns_named d (stream_number d n))) → left_ref d (cond b (self m) (column (col_of d n m))) ≡ G.dotted n m
      go true e h = ap (λ k. G.dotted k m) (self_named n (rw e tt))
      go false e h = dotted_named n m h
  left_named G.time h = refl
  left_named G.figure h = refl

  right_ref : (r : Ref) → T (ref_declared d r) → right_operand d (term_of d r) ≡ G.ref r
  unfolding ref_declared term_of right_operand ref_of
  right_ref (G.dotted n m) h = go (is_self n) refl h
    where
      go : (b : Bool) → is_self n ≡ b → T (b || declared d n && some? (same_list m) (columns_named d (stream_number d n))) → right_operand d (cond b (self m) (column (col_of d n m))) ≡ G.ref (G.dotted n m)
      go true e h = ap (λ k. G.ref (G.dotted k m)) (self_named n (rw e tt))
      go false e h = ap G.ref (dotted_named n m h)
  right_ref G.time h = refl
  right_ref G.figure h = refl

  right_named : (o : Operand) → All (λ r. T (ref_declared d r)) (operand_refs o) → right_operand d (operand_of d o) ≡ o
  unfolding operand_refs operand_of right_operand
  right_named (G.ref r) h = right_ref r (all_head h)
  right_named (G.number z) h = refl

  tests_named : (ts : List Test) → All (λ r. T (ref_declared d r)) (gather (λ t. t.left ∷ operand_refs t.right) ts) → All (λ t. test_of d (compare_of d t) ≡ t) ts
  unfolding gather test_of compare_of
  tests_named [] h = all_nil
  tests_named (t ∷ ts) h =
      let e : test_of d (compare_of d t) ≡ t = λ i. record { op = t.op; left = left_named t.left (all_head h) i; right = right_named t.right (all_left (operand_refs t.right) _ (all_tail h)) i } in
      all_cons e (tests_named ts (all_right (operand_refs t.right) _ (all_tail h)))

  -- a condition with declared names is printed as it was written
  pub cond_named : (c : Cond Test) → All (λ r. T (ref_declared d r)) (cond_refs c) → map_cond (test_of d) (map_cond (compare_of d) c) ≡ c
  unfolding cond_refs
  cond_named c h = cond_back (compare_of d) (test_of d) c (tests_named (tests c) h)

  column_named : (r : Ref) → T (ref_declared d r) → Known d (column_of d r) → ref_of d (column_of d r) ≡ r
  unfolding ref_declared column_of ref_of
  column_named (G.dotted n m) h k = go (is_self n) h k
    where
      go : (b : Bool) → T (b || declared d n && some? (same_list m) (columns_named d (stream_number d n))) → Known d (cond b (col (length d) 0) (col_of d n m)) → ref_of d (cond b (col (length d) 0) (col_of d n m)) ≡ G.dotted n m
      go true h k = absurd (unknown d refl k)
      go false h k = dotted_named n m h
  column_named G.time h k = absurd (unknown d refl k)
  column_named G.figure h k = refl

  columns_back : (rs : List Ref) → All (λ r. T (ref_declared d r)) rs → All (Known d) (map (column_of d) rs) → map (ref_of d) (map (column_of d) rs) ≡ rs
  columns_back [] h k = refl
  columns_back (r ∷ rs) h k = ap₂ ◌∷◌ (column_named r (all_head h) (all_head k)) (columns_back rs (all_tail h) (all_tail k))

  natural_back : (z : ℤ) → 1 ≤ natural z → pos (natural z) ≡ z
  unfolding natural
  natural_back (pos n) h = refl
  natural_back (negsuc n) h = absurd (omega arith)

  form_named : (f : Form) → All (λ n. T (declared d n)) (form_streams f) → All (λ r. T (ref_declared d r)) (form_refs f) → KnownQuery d (resolve d f) → T (sized (resolve d f)) → form_of d (resolve d f) ≡ f
  unfolding form_streams form_refs resolve form_of sized fitting
  form_named (G.rows s) n h k z = ap G.rows (stream_named s (all_head n))
  form_named (G.pick c q) n h (known_pick ts k) z = ap₂ G.pick (cond_named c (all_left (cond_refs c) _ h)) (form_named q n (all_right (cond_refs c) _ h) k z)
  form_named (G.keep rs q) n h (known_keep ks k) z = ap₂ G.keep (columns_back rs (all_left rs _ h) ks) (form_named q n (all_right rs _ h) k z)
  form_named (G.join a b q r) n h (known_join x y k l) z =
      rw (
        column_named a (all_head h) x,
        column_named b (all_head (all_tail h)) y,
        form_named q (all_left (form_streams q) _ n) (all_left (form_refs q) _ (all_tail (all_tail h))) k (search parts),
        form_named r (all_right (form_streams q) _ n) (all_right (form_refs q) _ (all_tail (all_tail h))) l (search parts),
      )
  form_named (G.aggregate f c size offset q) n h (known_aggregate x k) z =
      rw (
        column_named c (all_head h) x,
        natural_back size (leb→le 1 (natural size) (search parts)),
        natural_back offset (leb→le 1 (natural offset) (search parts)),
        form_named q n (all_tail h) k (search parts),
      )

  resolved_sources : (f : Form) → sources (resolve d f) ≡ map (stream_number d) (form_streams f)
  unfolding sources resolve form_streams
  resolved_sources (G.rows s) = refl
  resolved_sources (G.pick c q) = resolved_sources q
  resolved_sources (G.keep rs q) = resolved_sources q
  resolved_sources (G.join a b q r) = ap₂ ◌++◌ (resolved_sources q) (resolved_sources r) ∙ sym (map-append (stream_number d) (form_streams q) (form_streams r))
  resolved_sources (G.aggregate f c size offset q) = resolved_sources q

  pub resolved_sourced : (f : Form) → T (query_declared d f) → Sourced d (resolve d f)
  unfolding query_declared
  resolved_sourced f h =
      rw (resolved_sources f) (all_map (stream_number d) (λ n t. ltb→lt (stream_number d n) (length d) (below d n t)) (every_all (declared d) (form_streams f) (search parts)))

  -- what was read and accepted is printed as it was written
  pub resolved_named : (f : Form) → T (query_declared d f) → T (placed d (resolve d f)) → T (sized (resolve d f)) → form_of d (resolve d f) ≡ f
  unfolding query_declared
  resolved_named f h p z =
      form_named f (every_all (declared d) (form_streams f) (search parts)) (every_all (ref_declared d) (form_refs f) (search parts))
      (query_known d (resolve d f) (resolved_sourced f h) (placed_allowed d (resolve d f) p)) z

  unnamed_distinct : (q : Query ℕ) → All (λ rs. T (distinct same_ref rs)) (form_keeps (form_of d q)) → T (keeps (distinct same_col) q)
  unfolding form_keeps form_of keeps
  unnamed_distinct (source s) h = tt
  unnamed_distinct (pick c q) h = unnamed_distinct q h
  unnamed_distinct (keep cs q) h =
      and_both (distinct same_col cs) _
      (distinct_unmap (ref_of d) same_col same_ref (λ a b e. rw (same_col→eq a b e) (same_ref_refl (ref_of d b))) cs (all_head h))
      (unnamed_distinct q (all_tail h))
  unnamed_distinct (join a b q r) h =
      and_both (keeps (distinct same_col) q) _ (unnamed_distinct q (all_left (form_keeps (form_of d q)) _ h)) (unnamed_distinct r (all_right (form_keeps (form_of d q)) _ h))
  unnamed_distinct (aggregate f c size offset q) h = unnamed_distinct q h

  pub resolved_distinct : (f : Form) → T (query_declared d f) → T (placed d (resolve d f)) → T (sized (resolve d f)) → T (every (distinct same_ref) (form_keeps f)) → T (keeps (distinct same_col) (resolve d f))
  resolved_distinct f h p z k = unnamed_distinct (resolve d f) (rw (resolved_named f h p z) (every_all (distinct same_ref) (form_keeps f) k))

  pub resolved_forms : (f : Form) → forms (resolve d f) ≡ form_count f
  unfolding forms resolve form_count
  resolved_forms (G.rows s) = refl
  resolved_forms (G.pick c q) = ap suc (resolved_forms q)
  resolved_forms (G.keep rs q) = ap suc (resolved_forms q)
  resolved_forms (G.join a b q r) = ap₂ (λ m n. suc (m + n)) (resolved_forms q) (resolved_forms r)
  resolved_forms (G.aggregate f c size offset q) = ap suc (resolved_forms q)
