-- From numbers to names and back: the text that is printed for a checked query is well formed, names what is declared and reads back as that query.
use mathlib.Core.Path.{◌≡◌, refl, sym, ap, ap₂, ◌∙◌}
use mathlib.Core.List.{List, [], ◌∷◌, map}
use mathlib.Core.Bool.{Bool, true, false, ◌&&◌, not}
use Prim.Native.Nat.{ℕ, ◌<◌}
use lib.ListN.{length, length-map}
use lib.Dec.{T}
use Rattle.lists.specs.Lists.{every, some?, empty?, nth, distinct, gather, same_list, position}
use Rattle.lists.proofs.Laws.{and_both, or_r, parts, All, all_nil, all_cons, all_head, all_append, all_weaken, all_map, every_all, all_every, all_left, all_right, all_nth, same_list→eq, among_nth, nth_position, nth_of_map, map_back, empty_map, distinct_map}
use Rattle.syntax.specs.Grammar as G
use Rattle.syntax.specs.Grammar.{Bytes, bytes, Cond, test, all, any, neg, Conds, last, more, Ref, Test, name?, ref?, operand?, test?, cond?, conds?, some_all, form?}
use Rattle.syntax.specs.Limits.{natural}
use Rattle.model.specs.Conditions.{tests, tests_of, map_cond}
use Rattle.model.specs.Queries.{Schema, no_stream, Col, col, same_col, columns_of, Term, column, Compare, Query, source, pick, keep}
use Rattle.model.specs.Checks.{allowed, keeps}
use Rattle.model.proofs.Conditions.{tests_map, cond_back}
use Rattle.model.proofs.Columns.{same_col_refl}
use Rattle.calls.specs.Names.{stream_names, columns_named, stream_number, col_of, is_self, term_of, column_of, operand_of, compare_of, resolve, ref_of, left_ref, right_operand, test_of, form_of, operand_refs, cond_refs, form_streams, form_refs, form_keeps}
use Rattle.calls.specs.Validity.{valid_name, reserved, free_name, valid_stream, valid_schema}
use Rattle.calls.specs.Tables.{declared, ref_declared, same_ref, query_declared}
use Rattle.claims.proofs.Known.{Known, known_col, known_figure, KnownLeft, left_column, left_time, KnownRight, right_column, right_number, KnownQuery, known_source, known_pick, known_keep, known_join, known_aggregate, Sourced, query_known}

mutual
  unfolding tests cond?

  -- a condition is well formed where its comparisons are
  cond_formed : (c : Cond Test) → All (λ t. T (test? t)) (tests c) → T (cond? c)
  cond_formed (test t) h = all_head h
  cond_formed (all cs) h = conds_formed cs h
  cond_formed (any cs) h = conds_formed cs h
  cond_formed (neg c) h = cond_formed c h

  conds_formed : (cs : Conds Test) → All (λ t. T (test? t)) (tests_of cs) → T (conds? cs)
  conds_formed (last c) h = cond_formed c h
  conds_formed (more c cs) h = and_both (cond? c) _ (cond_formed c (all_left (tests c) _ h)) (conds_formed cs (all_right (tests c) _ h))

self_reserved : (n : Bytes) → T (not (reserved n)) → is_self n ≡ false
unfolding reserved is_self some? same_list
self_reserved n h = go (same_list (bytes "self") n) refl
  where
    go : (b : Bool) → same_list (bytes "self") n ≡ b → b ≡ false
    go true e = absurd (rw (← same_list→eq (bytes "self") n (rw e tt)) at h)
    go false e = refl

same_ref→eq : (r s : Ref) → T (same_ref r s) → r ≡ s
unfolding same_ref
same_ref→eq (G.dotted n m) (G.dotted k l) h = ap₂ G.dotted (same_list→eq n k (search parts)) (same_list→eq m l (search parts))
same_ref→eq (G.dotted n m) G.time h = absurd h
same_ref→eq (G.dotted n m) G.figure h = absurd h
same_ref→eq G.time (G.dotted k l) h = absurd h
same_ref→eq G.time G.time h = refl
same_ref→eq G.time G.figure h = absurd h
same_ref→eq G.figure (G.dotted k l) h = absurd h
same_ref→eq G.figure G.time h = absurd h
same_ref→eq G.figure G.figure h = refl

module _ (d : Schema) (valid : T (valid_schema d)) where
  pub stream_valid : (s : ℕ) → s < length d → T (valid_stream (nth no_stream d s))
  unfolding valid_schema
  stream_valid s l = all_nth no_stream s (every_all valid_stream d (search parts)) l

  name_named : (s : ℕ) → nth [] (stream_names d) s ≡ (nth no_stream d s).name
  unfolding stream_names no_stream
  name_named s = nth_of_map (λ t. t.name) no_stream d s

  pub name_free : (s : ℕ) → s < length d → T (free_name (nth no_stream d s).name)
  unfolding valid_stream
  name_free s l = let v = stream_valid s l in search parts

  pub column_free : (s c : ℕ) → s < length d → c < length (columns_named d s) → T (free_name (nth [] (columns_named d s) c))
  unfolding valid_stream columns_named
  column_free s c l m = let v = stream_valid s l in all_nth [] c (every_all free_name (nth no_stream d s).columns (search parts)) m

  number_back : (s : ℕ) → s < length d → stream_number d (nth no_stream d s).name ≡ s
  unfolding stream_number valid_schema stream_names
  number_back s l = rw (← name_named s) (nth_position (stream_names d) s (search parts) (rw (length-map d (λ t. t.name)) l))

  place_back : (s c : ℕ) → s < length d → c < length (columns_named d s) → position (nth [] (columns_named d s) c) (columns_named d s) ≡ c
  unfolding valid_stream columns_named
  place_back s c l m = let v = stream_valid s l in nth_position (nth no_stream d s).columns c (search parts) m

  not_self : (s : ℕ) → s < length d → is_self (nth no_stream d s).name ≡ false
  unfolding free_name
  not_self s l = let f = name_free s l in self_reserved (nth no_stream d s).name (search parts)

  col_back : (s c : ℕ) → s < length d → c < length (columns_named d s) → col_of d (nth no_stream d s).name (nth [] (columns_named d s) c) ≡ col s c
  unfolding col_of
  col_back s c l m = rw (number_back s l, place_back s c l m)

  column_back : {c : Col} → Known d c → column_of d (ref_of d c) ≡ c
  unfolding column_of ref_of
  column_back (known_col {s} {c} l m) = rw (not_self s l, col_back s c l m)
  column_back known_figure = refl

  term_back : {c : Col} → Known d c → term_of d (ref_of d c) ≡ column c
  unfolding term_of ref_of
  term_back (known_col {s} {c} l m) = rw (not_self s l, col_back s c l m)
  term_back known_figure = refl

  left_back : {t : Term} → KnownLeft d t → term_of d (left_ref d t) ≡ t
  unfolding left_ref term_of
  left_back (left_column k) = term_back k
  left_back left_time = refl

  right_back : {t : Term} → KnownRight d t → operand_of d (right_operand d t) ≡ t
  unfolding right_operand operand_of
  right_back (right_column k) = term_back k
  right_back right_number = refl

  compare_back : (t : Compare) → KnownLeft d t.left × KnownRight d t.right → compare_of d (test_of d t) ≡ t
  unfolding compare_of test_of
  compare_back t (l, r) = λ i. record { op = t.op; left = left_back l i; right = right_back r i }

  known_back : {q : Query ℕ} → KnownQuery d q → resolve d (form_of d q) ≡ q
  unfolding resolve form_of natural
  known_back (known_source {s} l) = ap source (number_back s l)
  known_back (known_pick {c} ts k) = ap₂ pick (cond_back (test_of d) (compare_of d) c (all_weaken compare_back ts)) (known_back k)
  known_back (known_keep cs k) = ap₂ keep (map_back (ref_of d) (column_of d) (all_weaken (λ c. column_back) cs)) (known_back k)
  known_back (known_join a b k l) = rw (column_back a, column_back b, known_back k, known_back l)
  known_back (known_aggregate c k) = rw (column_back c, known_back k)

  -- the printed query reads back as the query
  pub named_resolves : (q : Query ℕ) → Sourced d q → T (allowed (columns_of d) q) → resolve d (form_of d q) ≡ q
  named_resolves q n h = known_back (query_known d q n h)

  -- ---- the printed query is well formed and names only what is declared

  name_formed : (n : Bytes) → T (free_name n) → T (name? n)
  unfolding free_name valid_name
  name_formed n h = search parts

  ref_formed : {c : Col} → Known d c → T (ref? (ref_of d c))
  unfolding ref? ref_of
  ref_formed (known_col {s} {c} l m) = and_both (name? (nth no_stream d s).name) _ (name_formed _ (name_free s l)) (name_formed _ (column_free s c l m))
  ref_formed known_figure = tt

  left_formed : {t : Term} → KnownLeft d t → T (ref? (left_ref d t))
  unfolding left_ref ref?
  left_formed (left_column k) = ref_formed k
  left_formed left_time = tt

  right_formed : {t : Term} → KnownRight d t → T (operand? (right_operand d t))
  unfolding right_operand operand?
  right_formed (right_column k) = ref_formed k
  right_formed right_number = tt

  test_formed : (t : Compare) → KnownLeft d t.left × KnownRight d t.right → T (test? (test_of d t))
  unfolding test? test_of
  test_formed t (l, r) = and_both (ref? (left_ref d t.left)) _ (left_formed l) (right_formed r)

  known_formed : {q : Query ℕ} → KnownQuery d q → T (keeps (λ cs. not (empty? cs)) q) → T (form? (form_of d q))
  unfolding form? form_of keeps some_all
  known_formed (known_source {s} l) h = name_formed _ (name_free s l)
  known_formed (known_pick {c} {q} ts k) h =
      and_both (cond? (map_cond (test_of d) c)) _ (cond_formed _ (rw (tests_map (test_of d) c) (all_map (test_of d) test_formed ts))) (known_formed k h)
  known_formed (known_keep {cs} {q} ks k) h =
      and_both (some_all ref? (map (ref_of d) cs)) _
      (and_both (not (empty? (map (ref_of d) cs))) _ (rw (empty_map (ref_of d) cs) (search parts)) (all_every ref? (all_map (ref_of d) (λ c. ref_formed) ks)))
      (known_formed k (search parts))
  known_formed (known_join {a} {b} {q} {r} x y k l) h =
      and_both (ref? (ref_of d a) && ref? (ref_of d b) && form? (form_of d q)) _
      (and_both (ref? (ref_of d a) && ref? (ref_of d b)) _ (and_both (ref? (ref_of d a)) _ (ref_formed x) (ref_formed y)) (known_formed k (search parts)))
      (known_formed l (search parts))
  known_formed (known_aggregate {c} x k) h = and_both (ref? (ref_of d c)) _ (ref_formed x) (known_formed k h)

  pub named_formed : (q : Query ℕ) → Sourced d q → T (allowed (columns_of d) q) → T (keeps (λ cs. not (empty? cs)) q) → T (form? (form_of d q))
  named_formed q n h k = known_formed (query_known d q n h) k

  stream_declared : (s : ℕ) → s < length d → T (declared d (nth no_stream d s).name)
  unfolding declared stream_names
  stream_declared s l = rw (← name_named s) (among_nth (stream_names d) s (rw (length-map d (λ t. t.name)) l))

  column_declared : {c : Col} → Known d c → T (ref_declared d (ref_of d c))
  unfolding ref_declared ref_of
  column_declared (known_col {s} {c} l m) =
      or_r (is_self (nth no_stream d s).name) _ (and_both (declared d (nth no_stream d s).name) _ (stream_declared s l) (rw (number_back s l) (among_nth (columns_named d s) c m)))
  column_declared known_figure = tt

  left_declared : {t : Term} → KnownLeft d t → T (ref_declared d (left_ref d t))
  unfolding left_ref ref_declared
  left_declared (left_column k) = column_declared k
  left_declared left_time = tt

  right_declared : {t : Term} → KnownRight d t → All (λ r. T (ref_declared d r)) (operand_refs (right_operand d t))
  unfolding right_operand operand_refs
  right_declared (right_column k) = all_cons (column_declared k) all_nil
  right_declared right_number = all_nil

  tests_declared : {ts : List Compare} → All (λ t. KnownLeft d t.left × KnownRight d t.right) ts → All (λ r. T (ref_declared d r)) (gather (λ t. t.left ∷ operand_refs t.right) (map (test_of d) ts))
  unfolding gather test_of
  tests_declared all_nil = all_nil
  tests_declared (all_cons (l, r) hs) = all_cons (left_declared l) (all_append (right_declared r) (tests_declared hs))

  streams_declared : {q : Query ℕ} → KnownQuery d q → All (λ n. T (declared d n)) (form_streams (form_of d q))
  unfolding form_streams form_of
  streams_declared (known_source {s} l) = all_cons (stream_declared s l) all_nil
  streams_declared (known_pick ts k) = streams_declared k
  streams_declared (known_keep ks k) = streams_declared k
  streams_declared (known_join a b k l) = all_append (streams_declared k) (streams_declared l)
  streams_declared (known_aggregate c k) = streams_declared k

  refs_declared : {q : Query ℕ} → KnownQuery d q → All (λ r. T (ref_declared d r)) (form_refs (form_of d q))
  unfolding form_refs form_of cond_refs
  refs_declared (known_source l) = all_nil
  refs_declared (known_pick {c} ts k) = all_append {xs = cond_refs (map_cond (test_of d) c)} (rw (tests_map (test_of d) c) (tests_declared ts)) (refs_declared k)
  refs_declared (known_keep ks k) = all_append (all_map (ref_of d) (λ c. column_declared) ks) (refs_declared k)
  refs_declared (known_join a b k l) = all_cons (column_declared a) (all_cons (column_declared b) (all_append (refs_declared k) (refs_declared l)))
  refs_declared (known_aggregate c k) = all_cons (column_declared c) (refs_declared k)

  pub named_declared : (q : Query ℕ) → Sourced d q → T (allowed (columns_of d) q) → T (query_declared d (form_of d q))
  unfolding query_declared
  named_declared q n h =
      let k = query_known d q n h in
      and_both (every (declared d) (form_streams (form_of d q))) _ (all_every (declared d) (streams_declared k)) (all_every (ref_declared d) (refs_declared k))

  ref_apart : (a b : Col) → Known d a → Known d b → T (same_ref (ref_of d a) (ref_of d b)) → T (same_col a b)
  ref_apart a b k l h = rw (sym (column_back k) ∙ ap (column_of d) (same_ref→eq _ _ h) ∙ column_back l) (same_col_refl b)

  known_distinct : {q : Query ℕ} → KnownQuery d q → T (keeps (distinct same_col) q) → All (λ rs. T (distinct same_ref rs)) (form_keeps (form_of d q))
  unfolding form_keeps form_of keeps
  known_distinct (known_source l) h = all_nil
  known_distinct (known_pick ts k) h = known_distinct k h
  known_distinct (known_keep {cs} ks k) h = all_cons (distinct_map (ref_of d) same_col same_ref ref_apart ks (search parts)) (known_distinct k (search parts))
  known_distinct (known_join a b k l) h = all_append (known_distinct k (search parts)) (known_distinct l (search parts))
  known_distinct (known_aggregate c k) h = known_distinct k h

  pub named_distinct : (q : Query ℕ) → Sourced d q → T (allowed (columns_of d) q) → T (keeps (distinct same_col) q) → T (every (distinct same_ref) (form_keeps (form_of d q)))
  named_distinct q n h k = all_every (distinct same_ref) (known_distinct (query_known d q n h) k)
