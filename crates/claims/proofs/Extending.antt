-- A stream declared later changes nothing of what was declared before: names keep their numbers, and grants stay as they were.
use mathlib.Core.Path.{◌≡◌, refl, sym, ap, ap₂, ◌∙◌}
use mathlib.Core.List.{List, [], ◌∷◌, ◌++◌, map}
use mathlib.Core.Bool.{Bool, true, false, ◌&&◌, ◌||◌, cond}
use Prim.Native.Nat.{ℕ, ◌<◌}
use native.Mathlib.Omega.{arith}
use lib.Dec.{T, ltb, ltb→lt, lt→ltb}
use lib.ListN.{length, length-append}
use Rattle.lists.specs.Lists.{every, some?, select, nth, gather, same_list, position}
use Rattle.lists.proofs.Laws.{parts, and_both, or_l, or_r, or_cases, T_true, All, all_nil, all_cons, all_head, all_tail, all_weaken, all_left, all_right, every_all, every_map, every_append_l, every_weaken, nth_before, some_before, map_same, position_before, gather_same}
use Rattle.syntax.specs.Grammar as G
use Rattle.syntax.specs.Grammar.{Bytes, Cond, Ref, Operand, Test, Show, GrantLine}
use Rattle.syntax.specs.Limits.{natural}
use Rattle.model.specs.Conditions.{tests, map_cond}
use Rattle.model.specs.Queries.{Stream, Schema, no_stream, col, columns_of, column, self, Grant}
use Rattle.model.specs.Checks.{has, grant_placed}
use Rattle.model.proofs.Conditions.{cond_same}
use Rattle.calls.specs.Names.{stream_names, columns_named, stream_number, col_of, is_self, term_of, column_of, operand_of, compare_of, shown_columns, map_option, size_of, offset_of, resolve_grant, operand_refs, cond_refs, show_refs}
use Rattle.calls.specs.Validity.{valid_grant}
use Rattle.calls.specs.Tables.{declared, ref_declared, show_placed}
use Rattle.calls.proofs.Accepted.{grant_accepted, grant_passes}
use Rattle.calls.proofs.Valid.{names_add}
use Rattle.calls.proofs.Stored.{below}
use Rattle.claims.proofs.Known.{Known, streams_known, all_within, unknown}
use Rattle.claims.proofs.Fitting.{Written}

-- ---- streams and columns

module _ (d : Schema) (s : Stream) where
  abbrev later : Schema
  later = d ++ (s ∷ [])

  stream_later : (i : ℕ) → i < length d → nth no_stream later i ≡ nth no_stream d i
  stream_later i l = nth_before no_stream d (s ∷ []) i l

  columns_later : (i : ℕ) → i < length d → columns_of later i ≡ columns_of d i
  unfolding columns_of
  columns_later i l = rw (stream_later i l)

  gather_later : (is : List ℕ) → T (every (λ i. ltb i (length d)) is) → gather (columns_of later) is ≡ gather (columns_of d) is
  gather_later is h = gather_same (all_weaken (λ i t. columns_later i (ltb→lt i (length d) t)) (every_all (λ i. ltb i (length d)) is h))

  -- ---- grants by number

  numbers_later : (is : List ℕ) → T (every (λ i. ltb i (length d)) is) → T (every (λ i. ltb i (length later)) is)
  numbers_later is h =
      every_weaken (λ i. ltb i (length d)) (λ i. ltb i (length later))
      (λ i t. lt→ltb i (length later) (let l = ltb→lt i (length d) t in let e = length-append d (s ∷ []) in omega arith)) is h

  placed_later : (g : Grant) → T (every (λ i. ltb i (length d)) g.of) → grant_placed later g ≡ grant_placed d g
  unfolding grant_placed
  placed_later g h = rw (gather_later g.of h)

  same_validity : (g : Grant) → T (every (λ i. ltb i (length d)) g.of) → valid_grant later g ≡ valid_grant d g
  unfolding valid_grant
  same_validity g h =
      rw (T_true (every (λ i. ltb i (length later)) g.of) (numbers_later g.of h), T_true (every (λ i. ltb i (length d)) g.of) h, placed_later g h)

  -- a grant that was valid stays so
  pub grant_later : (g : Grant) → T (valid_grant d g) → T (valid_grant (d ++ (s ∷ [])) g)
  grant_later g v = rw (same_validity g (inside v)) v
    where
      inside : T (valid_grant d g) → T (every (λ i. ltb i (length d)) g.of)
      inside v = unfold valid_grant in search parts depth 9

  -- ---- names

  declared_later : (n : Bytes) → T (declared d n) → T (declared later n)
  unfolding declared
  declared_later n t = rw (names_add d s) (some_before (same_list n) (stream_names d) (s.name ∷ []) t)

  number_later : (n : Bytes) → T (declared d n) → stream_number later n ≡ stream_number d n
  unfolding declared stream_number
  number_later n t = rw (names_add d s) (position_before n (stream_names d) (s.name ∷ []) t)

  named_later : (n : Bytes) → T (declared d n) → columns_named later (stream_number later n) ≡ columns_named d (stream_number d n)
  unfolding columns_named
  named_later n t = ap (columns_named later) (number_later n t) ∙ ap (λ r. r.columns) (stream_later (stream_number d n) (ltb→lt (stream_number d n) (length d) (below d n t)))

  ref_later : (r : Ref) → T (ref_declared d r) → T (ref_declared later r)
  unfolding ref_declared
  ref_later (G.dotted n m) h =
      or_cases (is_self n) (declared d n && some? (same_list m) (columns_named d (stream_number d n))) h
      (λ u. or_l (is_self n) _ u)
      (λ u. or_r (is_self n) _ (and_both (declared later n) _ (declared_later n (search parts)) (rw (named_later n (search parts)) (search parts))))
  ref_later G.time h = tt
  ref_later G.figure h = tt

  col_later : (n m : Bytes) → T (declared d n) → col_of later n m ≡ col_of d n m
  unfolding col_of
  col_later n m t = ap₂ (λ i cs. col i (position m cs)) (number_later n t) (named_later n t)

  term_later : (r : Ref) → T (ref_declared d r) → term_of later r ≡ term_of d r
  unfolding ref_declared term_of
  term_later (G.dotted n m) h = go (is_self n) h
    where
      go : (b : Bool) → T (b || declared d n && some? (same_list m) (columns_named d (stream_number d n))) → cond b (self m) (column (col_of later n m)) ≡ cond b (self m) (column (col_of d n m))
      go true h = refl
      go false h = ap column (col_later n m (search parts))
  term_later G.time h = refl
  term_later G.figure h = refl

  column_later : (r : Ref) → T (ref_declared d r) → Known d (column_of d r) → column_of later r ≡ column_of d r
  unfolding ref_declared column_of
  column_later (G.dotted n m) h k = go (is_self n) h k
    where
      go : (b : Bool) → T (b || declared d n && some? (same_list m) (columns_named d (stream_number d n))) → Known d (cond b (col (length d) 0) (col_of d n m)) → cond b (col (length later) 0) (col_of later n m) ≡ cond b (col (length d) 0) (col_of d n m)
      go true h k = absurd (unknown d refl k)
      go false h k = col_later n m (search parts)
  column_later G.time h k = absurd (unknown d refl k)
  column_later G.figure h k = refl

  -- ---- grants by name

  operand_later : (o : Operand) → All (λ r. T (ref_declared d r)) (operand_refs o) → operand_of later o ≡ operand_of d o
  unfolding operand_refs operand_of
  operand_later (G.ref r) h = term_later r (all_head h)
  operand_later (G.number z) h = refl

  tests_later : (ts : List Test) → All (λ r. T (ref_declared d r)) (gather (λ t. t.left ∷ operand_refs t.right) ts) → All (λ t. compare_of later t ≡ compare_of d t) ts
  unfolding gather compare_of
  tests_later [] h = all_nil
  tests_later (t ∷ ts) h =
      let e : compare_of later t ≡ compare_of d t = λ i. record { op = t.op; left = term_later t.left (all_head h) i; right = operand_later t.right (all_left (operand_refs t.right) _ (all_tail h)) i } in
      all_cons e (tests_later ts (all_right (operand_refs t.right) _ (all_tail h)))

  when_later : (cs : List (Cond Test)) → All (λ r. T (ref_declared d r)) (gather cond_refs cs) → All (λ c. map_cond (compare_of later) c ≡ map_cond (compare_of d) c) cs
  unfolding gather cond_refs
  when_later [] h = all_nil
  when_later (c ∷ cs) h = all_cons (cond_same (compare_of later) (compare_of d) c (tests_later (tests c) (all_left (cond_refs c) _ h))) (when_later cs (all_right (cond_refs c) _ h))

  refs_later : (rs : List Ref) → All (λ r. T (ref_declared d r)) rs → All (Known d) (map (column_of d) rs) → map (column_of later) rs ≡ map (column_of d) rs
  refs_later [] h k = refl
  refs_later (r ∷ rs) h k = ap₂ ◌∷◌ (column_later r (all_head h) (all_head k)) (refs_later rs (all_tail h) (all_tail k))

  module _ (g : GrantLine) (names : T (every (declared d) g.of)) (refs : T (every (ref_declared d) (show_refs g.show ++ gather cond_refs g.when))) where
    abbrev streams : List ℕ
    streams = map (stream_number d) g.of

    streams_below : T (every (λ i. ltb i (length d)) streams)
    streams_below = every_map (declared d) (λ i. ltb i (length d)) (stream_number d) (below d) g.of names

    streams_later : map (stream_number later) g.of ≡ streams
    streams_later = map_same (stream_number later) (stream_number d) (all_weaken number_later (every_all (declared d) g.of names))

    all_later : gather (columns_of later) (map (stream_number later) g.of) ≡ gather (columns_of d) streams
    all_later = rw streams_later (gather_later streams streams_below)

    show_later : (w : Show) → T (every (ref_declared d) (show_refs w)) → All (Known d) (map (column_of d) (show_refs w)) → shown_columns later (map (stream_number later) g.of) w ≡ shown_columns d streams w
    unfolding shown_columns show_refs
    show_later G.everything h k = all_later
    show_later (G.listed rs) h k = ap₂ (λ ls cs. select (λ c. has ls c) cs) (refs_later rs (every_all (ref_declared d) rs h) k) all_later

    resolve_later : All (Known d) (map (column_of d) (show_refs g.show)) → resolve_grant later g ≡ resolve_grant d g
    unfolding resolve_grant
    resolve_later k =
        let all-refs = every_all (ref_declared d) (show_refs g.show ++ gather cond_refs g.when) refs in
        let shown = show_later g.show (every_append_l (ref_declared d) (show_refs g.show) (gather cond_refs g.when) refs) k in
        let when = map_same (map_cond (compare_of later)) (map_cond (compare_of d)) (when_later g.when (all_right (show_refs g.show) _ all-refs)) in
        λ i. record {
          role = g.role;
          right = g.right;
          of = streams_later i;
          shown = shown i;
          when = when i;
          from = map_option natural g.from;
          to = map_option natural g.to;
          size = size_of g.window;
          offset = offset_of g.window;
        }

  shown_known : (g : GrantLine) → T (show_placed d g) → All (Known d) (map (column_of d) (show_refs g.show))
  unfolding show_placed
  shown_known g h = all_within (map (column_of d) (show_refs g.show)) (streams_known d (map (stream_number d) g.of)) h

  show_placed_later : (g : GrantLine) (names : T (every (declared d) g.of)) (refs : T (every (ref_declared d) (show_refs g.show ++ gather cond_refs g.when))) → T (show_placed d g) → T (show_placed later g)
  unfolding show_placed
  show_placed_later g names refs h =
      let known = shown_known g (unfold show_placed in h) in
      let e = refs_later (show_refs g.show) (every_all (ref_declared d) (show_refs g.show) (every_append_l (ref_declared d) (show_refs g.show) (gather cond_refs g.when) refs)) known in
      rw (e, all_later g names refs) h

  -- and so does what an accepted line made
  pub written_later : (g : Grant) → Written d g → Written (d ++ (s ∷ [])) g
  written_later g w =
      let t = w.text in
      let ok = grant_accepted d [] t w.passed in
      let e = resolve_later t ok.streams ok.refs (shown_known t ok.shows) in
      record {
        text = t;
        formed = w.formed;
        fits = w.fits;
        passed = grant_passes later [] t (record {
          bounded = ok.bounded;
          room = ok.room;
          streams = every_weaken (declared d) (declared later) declared_later t.of ok.streams;
          refs = every_weaken (ref_declared d) (ref_declared later) ref_later _ ok.refs;
          once = ok.once;
          shown_once = ok.shown_once;
          shows = show_placed_later t ok.streams ok.refs ok.shows;
          places = rw (e, placed_later (resolve_grant d t) (unfold resolve_grant in streams_below t ok.streams ok.refs)) ok.places;
          windows = ok.windows;
        });
        made = w.made ∙ sym e;
      }
