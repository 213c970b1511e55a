-- Calls from a fresh record keep it valid: 12 never comes of them. Times do not fall and are not past the clock.
use mathlib.Core.Path.{◌≡◌, refl, ap}
use mathlib.Core.List.{List, [], ◌∷◌, ◌++◌, map}
use mathlib.Core.Bool.{Bool, true, false, ◌&&◌, ◌||◌, not, cond}
use Prim.Native.Nat.{ℕ, zero, suc, ◌≤◌, ◌<◌}
use native.Mathlib.Omega.{arith}
use lib.IntN.{ℤ, pos, negsuc}
use lib.Dec.{T, leb, ltb, eqb, leb→le, le→leb, ltb→lt, nltb→le, nleb→lt, eqb→eq, eqb_refl, not_T, T_not}
use lib.ListN.{length, length-append}
use Rattle.refusal.specs.Checks.{passes}
use Rattle.refusal.proofs.Passing.{pass_first, pass_rest, pass_test}
use Rattle.lists.specs.Lists.{every, some?, empty?, nth, distinct, same_list}
use Rattle.lists.proofs.Laws.{parts, and_both, or_cases, not_not, not_or_l, not_or_r, every_append, same_list→eq, same_list_refl}
use Rattle.syntax.specs.Grammar as G
use Rattle.syntax.specs.Grammar.{Bytes, name?, body?, some_all}
use Rattle.syntax.specs.Limits.{is_value, is_time, natural, top, max_streams, max_columns, max_rows, short}
use Rattle.syntax.specs.Readers.{parse_as}
use Rattle.syntax.proofs.Lines.{parsed_printed}
use Rattle.model.specs.Queries.{Stream, Schema, Row, Record}
use Rattle.calls.specs.Names.{stream_names, columns_named, stream_number}
use Rattle.calls.specs.Bounds.{stream_bounded}
use Rattle.calls.specs.Validity.{valid_name, reserved, free_name, valid_stream, valid_schema, steady, valid_row, valid_rows, rows_match, valid_record}
use Rattle.calls.specs.Tables.{declared, stream_checks, clock_checks, row_checks, row_line_checks}
use Rattle.calls.specs.Calls.{Call, stream, clock, row, clear, clock_line, row_line, clear_line, call_checks, call_table, with_stream, with_clock, add_row, with_row, with_row_line, cleared, effect, next, replay, fresh, after}
use Rattle.calls.proofs.Written.{written_passes}

-- ---- rows

steady_later : (low k n : ℕ) (rs : List Row) → k ≤ n → T (steady low k rs) → T (steady low n rs)
unfolding steady
steady_later low k n [] h t = le→leb low n (let l = leb→le low k t in omega arith)
steady_later low k n (r ∷ rs) h t = and_both (leb low r.at) (steady r.at n rs) (search parts) (steady_later r.at k n rs h (search parts))

pub steady_add : (low k : ℕ) (vs : List ℤ) (rs : List Row) → T (steady low k rs) → T (steady low k (rs ++ (record { at = k; values = vs } ∷ [])))
unfolding steady
steady_add low k vs [] t = and_both (leb low k) (leb k k) t (le→leb k k (omega arith))
steady_add low k vs (r ∷ rs) t = and_both (leb low r.at) (steady r.at k (rs ++ (record { at = k; values = vs } ∷ []))) (search parts) (steady_add r.at k vs rs (search parts))

pub every_add : {A : Type 0} (p : A → Bool) (xs : List A) (x : A) → T (every p xs) → T (p x) → T (every p (xs ++ (x ∷ [])))
unfolding every
every_add p xs x t u = every_append p xs (x ∷ []) t (and_both (p x) true u tt)

rows_later : (k n : ℕ) (d : Schema) (rss : List (List Row)) → k ≤ n → T (rows_match k d rss) → T (rows_match n d rss)
unfolding rows_match valid_rows
rows_later k n [] [] h t = tt
rows_later k n [] (rs ∷ rss) h t = absurd t
rows_later k n (s ∷ d) [] h t = absurd t
rows_later k n (s ∷ d) (rs ∷ rss) h t =
    and_both (leb (length rs) max_rows && steady 0 n rs && every (valid_row (length s.columns)) rs) (rows_match n d rss)
    (and_both (leb (length rs) max_rows && steady 0 n rs) (every (valid_row (length s.columns)) rs)
    (and_both (leb (length rs) max_rows) (steady 0 n rs) (search parts) (steady_later 0 k n rs h (search parts))) (search parts))
    (rows_later k n d rss h (search parts))

no_rows : (k w : ℕ) → T (valid_rows k w [])
unfolding valid_rows steady every
no_rows k w = and_both (leb 0 128 && leb 0 k) true (and_both (leb 0 128) (leb 0 k) tt (le→leb 0 k (omega arith))) tt

rows_new : (k : ℕ) (s : Stream) (d : Schema) (rss : List (List Row)) → T (rows_match k d rss) → T (rows_match k (d ++ (s ∷ [])) (rss ++ ([] ∷ [])))
unfolding rows_match
rows_new k s [] [] t = and_both (valid_rows k (length s.columns) []) true (no_rows k (length s.columns)) tt
rows_new k s [] (rs ∷ rss) t = absurd t
rows_new k s (r ∷ d) [] t = absurd t
rows_new k s (r ∷ d) (rs ∷ rss) t = and_both (valid_rows k (length r.columns) rs) (rows_match k (d ++ (s ∷ [])) (rss ++ ([] ∷ []))) (search parts) (rows_new k s d rss (search parts))

rows_gone : (k : ℕ) (d : Schema) (rss : List (List Row)) → T (rows_match k d rss) → T (rows_match k d (map (λ rs. []) rss))
unfolding rows_match
rows_gone k [] [] t = tt
rows_gone k [] (rs ∷ rss) t = absurd t
rows_gone k (s ∷ d) [] t = absurd t
rows_gone k (s ∷ d) (rs ∷ rss) t = and_both (valid_rows k (length s.columns) []) (rows_match k d (map (λ rs. []) rss)) (no_rows k (length s.columns)) (rows_gone k d rss (search parts))

rows_grown : (k : ℕ) (vs : List ℤ) (w : ℕ) (rs : List Row) → T (valid_rows k w rs) → length rs < max_rows → length vs ≡ w → T (every is_value vs)
    → T (valid_rows k w (rs ++ (record { at = k; values = vs } ∷ [])))
unfolding valid_rows valid_row
rows_grown k vs w rs t l e v =
    and_both (leb (length more) max_rows && steady 0 k more) (every (valid_row w) more)
    (and_both (leb (length more) max_rows) (steady 0 k more) (le→leb (length more) max_rows (let e = length-append rs (record { at = k; values = vs } ∷ []) in omega arith)) (steady_add 0 k vs rs (search parts)))
    (every_add (valid_row w) rs (record { at = k; values = vs }) (search parts) (and_both (eqb (length vs) w) (every is_value vs) (rw e (eqb_refl w)) v))
  where
    more : List Row
    more = rs ++ (record { at = k; values = vs } ∷ [])

rows_added : (k : ℕ) (vs : List ℤ) (s : ℕ) (d : Schema) (rss : List (List Row)) → T (rows_match k d rss) → s < length d → length (nth [] rss s) < max_rows
    → length vs ≡ length (columns_named d s) → T (every is_value vs) → T (rows_match k d (add_row s (record { at = k; values = vs }) rss))
unfolding rows_match add_row nth columns_named
rows_added k vs s [] rss t l m e v = absurd (omega arith)
rows_added k vs s (r ∷ d) [] t l m e v = absurd t
rows_added k vs zero (r ∷ d) (rs ∷ rss) t l m e v =
    and_both (valid_rows k (length r.columns) (rs ++ (record { at = k; values = vs } ∷ []))) (rows_match k d rss) (rows_grown k vs (length r.columns) rs (search parts) m e v) (search parts)
rows_added k vs (suc s) (r ∷ d) (rs ∷ rss) t l m e v =
    and_both (valid_rows k (length r.columns) rs) (rows_match k d (add_row s (record { at = k; values = vs }) rss)) (search parts) (rows_added k vs s d rss (search parts) (omega arith) m e v)

-- ---- streams

distinct_add : (n : Bytes) (ns : List Bytes) → T (distinct same_list ns) → T (not (some? (same_list n) ns)) → T (distinct same_list (ns ++ (n ∷ [])))
unfolding distinct some?
distinct_add n [] t u = tt
distinct_add n (m ∷ ns) t u =
    and_both (not (some? (same_list m) (ns ++ (n ∷ [])))) (distinct same_list (ns ++ (n ∷ [])))
    (apart ns (search parts) (not_or_l (same_list n m) (some? (same_list n) ns) u)) (distinct_add n ns (search parts) (not_or_r (same_list n m) (some? (same_list n) ns) u))
  where
    swap : T (not (same_list n m)) → T (not (same_list m n))
    swap u = not_T (same_list m n) (λ t. T_not (same_list n m) u (rw (same_list→eq m n t) (same_list_refl n)))

    apart : (ns : List Bytes) → T (not (some? (same_list m) ns)) → T (not (same_list n m)) → T (not (some? (same_list m) (ns ++ (n ∷ []))))
    apart [] t u = not_T (same_list m n || false) (λ v. or_cases (same_list m n) false v (λ w. T_not (same_list m n) (swap u) w) (λ w. w))
    apart (k ∷ ks) t u =
        not_T (same_list m k || some? (same_list m) (ks ++ (n ∷ []))) (λ v. or_cases (same_list m k) (some? (same_list m) (ks ++ (n ∷ []))) v
        (λ w. T_not (same_list m k) (not_or_l (same_list m k) (some? (same_list m) ks) t) w)
        (λ w. T_not (some? (same_list m) (ks ++ (n ∷ []))) (apart ks (not_or_r (same_list m k) (some? (same_list m) ks) t) u) w))

free_all : (ns : List Bytes) → T (every name? ns) → T (every short ns) → T (not (some? reserved ns)) → T (every free_name ns)
unfolding every some? free_name valid_name
free_all [] a b c = tt
free_all (n ∷ ns) a b c =
    and_both (name? n && short n && not (reserved n)) (every free_name ns)
    (and_both (name? n && short n) (not (reserved n)) (and_both (name? n) (short n) (search parts) (search parts)) (not_or_l (reserved n) (some? reserved ns) c))
    (free_all ns (search parts) (search parts) (not_or_r (reserved n) (some? reserved ns) c))

pub names_add : (d : Schema) (s : Stream) → stream_names (d ++ (s ∷ [])) ≡ stream_names d ++ (s.name ∷ [])
unfolding stream_names
names_add [] s = refl
names_add (r ∷ d) s = ap (λ l. r.name ∷ l) (names_add d s)

-- a stream line that passes its checks declares a valid stream
pub stream_fine : (d : Schema) (s : Stream) → T (body? G.stream s) → T (passes (stream_checks d s)) → T (valid_stream s)
unfolding body? stream_checks valid_stream stream_bounded some_all every
stream_fine d s f t =
    let b = pass_test _ (stream_bounded s && ltb (length d) max_streams) _ t in
    let u = pass_rest _ _ _ t in
    let r = pass_first _ (declared d s.name || not (distinct same_list s.columns)) _ u in
    let m = pass_first _ (some? reserved (s.name ∷ s.columns)) [] (pass_rest _ _ _ u) in
    let all : T (every free_name (s.name ∷ s.columns)) = free_all (s.name ∷ s.columns) (and_both (name? s.name) (every name? s.columns) (search parts) (search parts)) (search parts) m in
    and_both (free_name s.name && every free_name s.columns && not (empty? s.columns) && leb (length s.columns) max_columns) (distinct same_list s.columns)
    (and_both (free_name s.name && every free_name s.columns && not (empty? s.columns)) (leb (length s.columns) max_columns)
    (and_both (free_name s.name && every free_name s.columns) (not (empty? s.columns))
    (and_both (free_name s.name) (every free_name s.columns) (search parts) (search parts)) (search parts)) (search parts))
    (not_not (distinct same_list s.columns) (not_or_r (declared d s.name) (not (distinct same_list s.columns)) r))

-- the parts of a valid record, put together
valid_made : (k : ℕ) (d : Schema) (rss : List (List Row)) → T (leb k top) → T (valid_schema d) → T (rows_match k d rss) → T (valid_record (record { clock = k; schema = d; rows = rss }))
unfolding valid_record
valid_made k d rss a b c = and_both (leb k top && valid_schema d) (rows_match k d rss) (and_both (leb k top) (valid_schema d) a b) c

schema_add : (d : Schema) (s : Stream) → T (valid_schema d) → T (valid_stream s) → T (passes (stream_checks d s)) → T (valid_schema (d ++ (s ∷ [])))
unfolding valid_schema stream_checks declared
schema_add d s v w t =
    let b = pass_test _ (stream_bounded s && ltb (length d) max_streams) _ t in
    let r = pass_first _ (declared d s.name || not (distinct same_list s.columns)) _ (pass_rest _ _ _ t) in
    let l = ltb→lt (length d) max_streams (search parts) in
    let e = length-append d (s ∷ []) in
    and_both (leb (length (d ++ (s ∷ []))) max_streams && every valid_stream (d ++ (s ∷ []))) (distinct same_list (stream_names (d ++ (s ∷ []))))
    (and_both (leb (length (d ++ (s ∷ []))) max_streams) (every valid_stream (d ++ (s ∷ []))) (le→leb (length (d ++ (s ∷ []))) max_streams (omega arith)) (every_add valid_stream d s (search parts) w))
    (rw (names_add d s) (distinct_add s.name (stream_names d) (search parts) (not_or_l (declared d s.name) (not (distinct same_list s.columns)) r)))

pub time_top : (n : ℤ) → T (is_time n) → T (leb (natural n) top)
unfolding is_time natural
time_top (pos n) t = t
time_top (negsuc n) t = absurd t

-- ---- what an accepted call leaves is valid

module _ (x : Record) (v : T (valid_record x)) where
  pub stream_valid : (s : Stream) → T (body? G.stream s) → T (passes (stream_checks x.schema s)) → T (valid_record (record { clock = x.clock; schema = x.schema ++ (s ∷ []); rows = x.rows ++ ([] ∷ []) }))
  unfolding valid_record
  stream_valid s f t =
      valid_made x.clock (x.schema ++ (s ∷ [])) (x.rows ++ ([] ∷ [])) (search parts) (schema_add x.schema s (search parts) (stream_fine x.schema s f t) t) (rows_new x.clock s x.schema x.rows (search parts))

  pub clock_valid : (n : ℤ) → T (passes (clock_checks x.clock n)) → T (valid_record (record { clock = natural n; schema = x.schema; rows = x.rows }))
  unfolding valid_record clock_checks
  clock_valid n t =
      let l = nltb→le (natural n) x.clock (pass_first _ (ltb (natural n) x.clock) [] (pass_rest _ _ _ t)) in
      valid_made (natural n) x.schema x.rows (time_top n (pass_test _ (is_time n) _ t)) (search parts) (rows_later x.clock (natural n) x.schema x.rows l (search parts))

  pub row_valid : (s : ℕ) (vs : List ℤ) → T (passes (row_checks x s vs)) → T (valid_record (with_row x s vs))
  unfolding valid_record row_checks with_row
  row_valid s vs t =
      let d = pass_rest _ _ _ t in
      let m = pass_rest _ _ _ d in
      let l = nleb→lt (length x.schema) s (pass_first _ (leb (length x.schema) s) _ d) in
      let e = eqb→eq (length vs) (length (columns_named x.schema s)) (pass_test _ (eqb (length vs) (length (columns_named x.schema s))) _ m) in
      let f = nleb→lt max_rows (length (nth [] x.rows s)) (pass_first _ (leb max_rows (length (nth [] x.rows s))) [] (pass_rest _ _ _ m)) in
      valid_made x.clock x.schema _ (search parts) (search parts) (rows_added x.clock vs s x.schema x.rows (search parts) l f e (pass_test _ (every is_value vs) _ t))

  pub clear_valid : T (valid_record (cleared x))
  unfolding valid_record cleared
  clear_valid = valid_made x.clock x.schema _ (search parts) (search parts) (rows_gone x.clock x.schema x.rows (search parts))

pub valid_effect : (x : Record) (c : Call) → T (valid_record x) → T (passes (call_table x c)) → T (valid_record (effect x c))
unfolding call_table call_checks effect with_stream with_clock with_row_line row_line_checks
valid_effect x (stream bs) v t =
    written_passes 0 bs (parse_as G.stream bs) _ (pass_rest _ _ _ t) (λ s e u. rw e (stream_valid x v s (parsed_printed G.stream bs s e).0 u))
valid_effect x (clock n) v t = clock_valid x v n (pass_rest _ _ _ t)
valid_effect x (row s vs) v t = row_valid x v s vs (pass_rest _ _ _ t)
valid_effect x clear v t = clear_valid x v
valid_effect x (clock_line bs) v t = written_passes 0 bs (parse_as G.clock bs) _ (pass_rest _ _ _ t) (λ n e u. rw e (clock_valid x v n u))
valid_effect x (row_line bs) v t =
    written_passes 0 bs (parse_as G.row bs) _ (pass_rest _ _ _ t) (λ w e u. rw e (row_valid x v (stream_number x.schema w.name) w.values (pass_rest _ _ _ u)))
valid_effect x (clear_line bs) v t = clear_valid x v

valid_next : (x : Record) (c : Call) → T (valid_record x) → T (valid_record (next x c))
unfolding next
valid_next x c v = go (passes (call_table x c)) refl
  where
    go : (b : Bool) → passes (call_table x c) ≡ b → T (valid_record (cond b (effect x c) x))
    go true e = valid_effect x c v (rw e tt)
    go false e = v

valid_replay : (x : Record) (cs : List Call) → T (valid_record x) → T (valid_record (replay x cs))
unfolding replay
valid_replay x [] v = v
valid_replay x (c ∷ cs) v = valid_replay (next x c) cs (valid_next x c v)

-- what a list of calls leaves is valid
pub valid_after : (cs : List Call) → T (valid_record (after cs))
unfolding after fresh valid_record valid_schema rows_match every distinct stream_names
valid_after cs = valid_replay fresh cs tt
