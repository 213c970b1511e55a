-- What accepted grant and caller lines store is valid.
use mathlib.Core.Path.{◌≡◌, sym, ap, ◌∙◌, subst}
use mathlib.Core.List.{List, [], ◌∷◌, ◌++◌, map}
use mathlib.Core.Bool.{Bool, true, false, ◌&&◌, ◌||◌, not, cond}
use mathlib.Core.Option.{Option, none, some}
use Prim.Native.Nat.{ℕ, zero, suc, ◌<◌}
use native.Mathlib.Omega.{arith}
use lib.IntN.{ℤ, pos, negsuc}
use lib.Dec.{T, leb, ltb, eqb, ltb→lt, lt→ltb, eqb→eq}
use lib.ListN.{length, length-map}
use Rattle.refusal.specs.Checks.{passes}
use Rattle.refusal.proofs.Passing.{pass_rest, pass_test}
use Rattle.lists.specs.Lists.{every, some?, select, empty?, nth, distinct, same_list, position, gather, count_from}
use Rattle.lists.proofs.Laws.{every_append, every_map, every_both, every_gather, every_all, distinct_map, parts, and_l, and_both, or_cases, T_true, same_list_refl, position_nth, position_below}
use Rattle.syntax.specs.Grammar as G
use Rattle.syntax.specs.Grammar.{Bytes, Cond, test, all, any, neg, Conds, last, more, Ref, Operand, Test, Show, Span, Right, GrantLine, Entry, name?, ref?, operand?, test?, cond?, conds?, some_all, show?, grant?, entry?, body?}
use Rattle.syntax.specs.Limits.{natural, short, short_ref, is_value, is_time, top, max_roles, max_entries}
use Rattle.model.specs.Conditions.{tests, tests_of, map_cond}
use Rattle.model.specs.Queries.{Stream, Schema, no_stream, Col, col, same_col, columns_of, column, self, Grant, Caller}
use Rattle.model.specs.Checks.{has, within, grant_placed}
use Rattle.model.proofs.Conditions.{tests_map}
use Rattle.model.proofs.Columns.{same_col→eq, same_col_refl}
use Rattle.calls.specs.Names.{stream_names, stream_number, col_of, is_self, term_of, column_of, operand_of, compare_of, shown_columns, map_option, size_of, offset_of, resolve_grant, operand_refs, operand_numbers, cond_refs, cond_numbers, show_refs}
use Rattle.calls.specs.Bounds.{is_limit, is_span, cond_bounded, grant_bounded, caller_bounded}
use Rattle.calls.specs.Validity.{valid_name, valid_stream, valid_schema, valid_term, valid_cond, valid_limit, valid_window, valid_grant, entry_names, valid_caller}
use Rattle.calls.specs.Tables.{declared, window_allowed, show_placed, grant_checks, caller_checks}
use Rattle.calls.proofs.Accepted.{grant_accepted}
use Rattle.calls.proofs.Valid.{time_top}

-- ---- streams of a grant

pub below : (d : Schema) (n : Bytes) → T (declared d n) → T (ltb (stream_number d n) (length d))
unfolding declared stream_number stream_names
below d n t = lt→ltb (position n (map (λ s. s.name) d)) (length d) (rw (length-map d (λ (s : Stream). s.name)) at (position_below n (map (λ s. s.name) d) t))

-- two declared names with one number are one name
number_one : (d : Schema) (n m : Bytes) → T (declared d n) → T (declared d m) → stream_number d n ≡ stream_number d m → n ≡ m
unfolding declared stream_number
number_one d n m t u e = sym (position_nth n (stream_names d) t) ∙ ap (nth [] (stream_names d)) e ∙ position_nth m (stream_names d) u

numbers_distinct : (d : Schema) (ns : List Bytes) → T (every (declared d) ns) → T (distinct same_list ns) → T (distinct eqb (map (stream_number d) ns))
numbers_distinct d ns t u =
    distinct_map (stream_number d) same_list eqb (λ n m a b e. rw (number_one d n m a b (eqb→eq (stream_number d n) (stream_number d m) e)) (same_list_refl m)) (every_all (declared d) ns t) u

-- ---- what it shows

some_columns : (d : Schema) (s : ℕ) → T (every valid_stream d) → s < length d → T (not (empty? (columns_of d s)))
unfolding every valid_stream columns_of nth count_from empty?
some_columns [] s v l = absurd (omega arith)
some_columns (r ∷ d) zero v l = go r.columns (search parts)
  where
    go : (cs : List Bytes) → T (not (empty? cs)) → T (not (empty? (map (col 0) (count_from 0 (length cs)))))
    go [] t = t
    go (c ∷ cs) t = tt
some_columns (r ∷ d) (suc s) v l = go (length (nth no_stream d s).columns) (unfold columns_of count_from empty? nth in some_columns d s (search parts) (omega arith))
  where
    go : (n : ℕ) → T (not (empty? (map (col s) (count_from 0 n)))) → T (not (empty? (map (col (suc s)) (count_from 0 n))))
    go zero t = t
    go (suc n) t = tt

append_some : {A : Type 0} (xs ys : List A) → T (not (empty? xs)) → T (not (empty? (xs ++ ys)))
unfolding empty?
append_some [] ys t = absurd t
append_some (x ∷ xs) ys t = tt

-- a column that is among others is among those selected of them
selects_some : (c : Col) (cs ds : List Col) → T (has ds c) → T (not (empty? (select (λ e. has (c ∷ cs) e) ds)))
unfolding has some? select empty?
selects_some c cs [] t = absurd t
selects_some c cs (d ∷ ds) t =
    or_cases (same_col c d) (some? (same_col c) ds) t
    (λ e. rw (T_true (same_col d c) (subst (λ x. T (same_col d x)) (sym (same_col→eq c d e)) (same_col_refl d))) tt)
    (λ e. go (same_col d c || some? (same_col d) cs) (unfold has in selects_some c cs ds e))
  where
    go : (b : Bool) → T (not (empty? (select (λ e. has (c ∷ cs) e) ds))) → T (not (empty? (cond b (d ∷ select (λ e. has (c ∷ cs) e) ds) (select (λ e. has (c ∷ cs) e) ds))))
    go true h = tt
    go false h = h

lists_some : (f : Ref → Col) (rs : List Ref) (ds : List Col) → T (not (empty? rs)) → T (within (map f rs) ds) → T (not (empty? (select (λ c. has (map f rs) c) ds)))
unfolding empty? within every
lists_some f [] ds t w = absurd t
lists_some f (r ∷ rs) ds t w = selects_some (f r) (map f rs) ds (search parts)

shows_some : (d : Schema) (ns : List Bytes) (w : Show) → T (valid_schema d) → T (some_all name? ns) → T (every (declared d) ns) → T (show? w)
    → T (within (map (column_of d) (show_refs w)) (gather (columns_of d) (map (stream_number d) ns))) → T (not (empty? (shown_columns d (map (stream_number d) ns) w)))
unfolding some_all shown_columns show? show_refs valid_schema
shows_some d [] w v t u k p = absurd (unfold empty? in and_l false true t)
shows_some d (n ∷ ns) G.everything v t u k p =
    unfold gather every in append_some (columns_of d (stream_number d n)) _ (some_columns d (stream_number d n) (search parts) (ltb→lt (stream_number d n) (length d) (below d n (search parts))))
shows_some d (n ∷ ns) (G.listed rs) v t u k p = lists_some (column_of d) rs (gather (columns_of d) (map (stream_number d) (n ∷ ns))) (search parts) p

-- ---- its conditions

mutual
  unfolding cond? tests every

  pub cond_tests : (c : Cond Test) → T (cond? c) → T (every test? (tests c))
  cond_tests (test t) h = and_both (test? t) true h tt
  cond_tests (all cs) h = conds_tests cs h
  cond_tests (any cs) h = conds_tests cs h
  cond_tests (neg c) h = cond_tests c h

  conds_tests : (cs : Conds Test) → T (conds? cs) → T (every test? (tests_of cs))
  conds_tests (last c) h = cond_tests c h
  conds_tests (more c cs) h = every_append test? (tests c) (tests_of cs) (cond_tests c (search parts)) (conds_tests cs (search parts))

self_valid : (d : Schema) (r : Ref) → T (ref? r) → T (short_ref r) → T (valid_term (term_of d r))
unfolding ref? short_ref term_of valid_term valid_name
self_valid d (G.dotted n m) t u = go (is_self n)
  where
    go : (b : Bool) → T (valid_term (cond b (self m) (column (col_of d n m))))
    go true = and_both (name? m) (short m) (search parts) (search parts)
    go false = tt
self_valid d G.time t u = tt
self_valid d G.figure t u = tt

operand_valid : (d : Schema) (o : Operand) → T (operand? o) → T (every short_ref (operand_refs o)) → T (every is_value (operand_numbers o)) → T (valid_term (operand_of d o))
unfolding operand? operand_refs operand_numbers operand_of valid_term every
operand_valid d (G.ref r) t u v = self_valid d r t (search parts)
operand_valid d (G.number z) t u v = search parts

cond_valid : (d : Schema) (c : Cond Test) → T (cond? c) → T (cond_bounded c) → T (valid_cond (map_cond (compare_of d) c))
unfolding cond_bounded cond_refs cond_numbers valid_cond compare_of
cond_valid d c t u =
    rw (tests_map (compare_of d) c)
    (every_map (λ t. test? t && every short_ref (t.left ∷ operand_refs t.right) && every is_value (operand_numbers t.right)) _ (compare_of d)
    (λ t h. both t h)
    (tests c)
    (every_both (λ t. test? t && every short_ref (t.left ∷ operand_refs t.right)) (λ t. every is_value (operand_numbers t.right)) _ (λ t a b. and_both (test? t && every short_ref (t.left ∷ operand_refs t.right)) (every is_value (operand_numbers t.right)) a b) (tests c)
    (every_both test? (λ t. every short_ref (t.left ∷ operand_refs t.right)) _ (λ t a b. and_both (test? t) (every short_ref (t.left ∷ operand_refs t.right)) a b) (tests c) (cond_tests c t) (every_gather short_ref (λ t. t.left ∷ operand_refs t.right) (tests c) (search parts)))
    (every_gather is_value (λ t. operand_numbers t.right) (tests c) (search parts))))
  where
    both : (t : Test) → T (test? t && every short_ref (t.left ∷ operand_refs t.right) && every is_value (operand_numbers t.right)) → T (valid_term (term_of d t.left) && valid_term (operand_of d t.right))
    both t h = unfold test? every in and_both (valid_term (term_of d t.left)) (valid_term (operand_of d t.right)) (self_valid d t.left (search parts) (search parts)) (operand_valid d t.right (search parts) (search parts) (search parts))

-- ---- its numbers

limit_valid : (n : Option ℤ) → T (is_limit n) → T (valid_limit (map_option natural n))
unfolding is_limit is_time map_option natural valid_limit
limit_valid none t = tt
limit_valid (some (pos n)) t = t
limit_valid (some (negsuc n)) t = absurd t

window_valid : (r : Right) (w : Option Span) → T (window_allowed r w) → T (is_span w) → T (valid_window r (size_of w) (offset_of w))
unfolding window_allowed is_span valid_window size_of offset_of
window_valid G.read none t u = tt
window_valid G.read (some w) t u = absurd t
window_valid (G.figures f) none t u = tt
window_valid (G.figures f) (some w) t u =
    and_both (leb (natural w.size) top) (leb (natural w.offset) top) (time_top w.size (search parts)) (time_top w.offset (search parts))

-- ---- a whole grant

nine : (a b c d e f g h i : Bool) → T a → T b → T c → T d → T e → T f → T g → T h → T i → T (a && b && c && d && e && f && g && h && i)
nine true true true true true true true true true p q r s t u v w x = tt
nine false b c d e f g h i p q r s t u v w x = elim p [ ]
nine true false c d e f g h i p q r s t u v w x = elim q [ ]
nine true true false d e f g h i p q r s t u v w x = elim r [ ]
nine true true true false e f g h i p q r s t u v w x = elim s [ ]
nine true true true true false f g h i p q r s t u v w x = elim t [ ]
nine true true true true true false g h i p q r s t u v w x = elim u [ ]
nine true true true true true true false h i p q r s t u v w x = elim v [ ]
nine true true true true true true true false i p q r s t u v w x = elim w [ ]
nine true true true true true true true true false p q r s t u v w x = elim x [ ]

six : (a b c d e f : Bool) → T a → T b → T c → T d → T e → T f → T (a && b && c && d && e && f)
six true true true true true true p q r s t u = tt
six false b c d e f p q r s t u = elim p [ ]
six true false c d e f p q r s t u = elim q [ ]
six true true false d e f p q r s t u = elim r [ ]
six true true true false e f p q r s t u = elim s [ ]
six true true true true false f p q r s t u = elim t [ ]
six true true true true true false p q r s t u = elim u [ ]

pass_bounds : (g : GrantLine) → T (grant_bounded g) → T (short g.role) × T (every cond_bounded g.when) × T (is_limit g.from) × T (is_limit g.to) × T (is_span g.window)
unfolding grant_bounded
pass_bounds g t = (search parts depth 8, search parts depth 8, search parts depth 8, search parts depth 8, search parts depth 8)

-- an accepted grant line stores a valid grant
pub grant_stored : (d : Schema) (gs : List Grant) (g : GrantLine) → T (valid_schema d) → T (grant? g) → T (passes (grant_checks d gs g)) → T (valid_grant d (resolve_grant d g))
unfolding grant? valid_grant resolve_grant valid_name
grant_stored d gs g v h t =
    let ok = grant_accepted d gs g t in
    let limits = pass_bounds g ok.bounded in
    let ss : List ℕ = map (stream_number d) g.of in
    let shown = shown_columns d ss g.show in
    let when = map (map_cond (compare_of d)) g.when in
    nine (name? g.role && short g.role) (every (λ s. ltb s (length d)) ss) (distinct eqb ss) (not (empty? shown)) (grant_placed d (resolve_grant d g)) (every valid_cond when)
    (valid_limit (map_option natural g.from)) (valid_limit (map_option natural g.to)) (valid_window g.right (size_of g.window) (offset_of g.window))
    (and_both (name? g.role) (short g.role) (search parts) limits.0)
    (every_map (declared d) (λ s. ltb s (length d)) (stream_number d) (below d) g.of ok.streams)
    (numbers_distinct d g.of ok.streams ok.once)
    (shows_some d g.of g.show v (search parts) ok.streams (search parts) (unfold show_placed in ok.shows))
    ok.places
    (every_map (λ c. cond? c && cond_bounded c) valid_cond (map_cond (compare_of d)) (λ c k. cond_valid d c (search parts) (search parts)) g.when
    (every_both cond? cond_bounded (λ c. cond? c && cond_bounded c) (λ c a b. and_both (cond? c) (cond_bounded c) a b) g.when (search parts) limits.1))
    (limit_valid g.from limits.2) (limit_valid g.to limits.3) (window_valid g.right g.window ok.windows limits.4)

every_entry : (es : List Entry) → T (every entry? es) → T (every (λ e. short e.name && is_value e.value) es) → T (every (λ e. valid_name e.name && is_value e.value) es)
unfolding entry? valid_name
every_entry es t u =
    every_both entry? (λ e. short e.name && is_value e.value) (λ e. name? e.name && short e.name && is_value e.value)
    (λ e a b. and_both (name? e.name && short e.name) (is_value e.value) (and_both (name? e.name) (short e.name) a (search parts)) (search parts)) es t u

-- and an accepted caller line gives a valid caller
pub caller_stored : (w : Caller) → T (body? G.caller w) → T (passes (caller_checks w)) → T (valid_caller w)
unfolding body? caller_checks valid_caller caller_bounded valid_name
caller_stored w h t =
    let b = pass_test _ (caller_bounded w) _ t in
    let r = pass_test _ (distinct same_list w.roles && distinct same_list (entry_names w.profile)) [] (pass_rest _ _ _ t) in
    six (leb (length w.roles) max_roles) (every (λ n. name? n && short n) w.roles) (distinct same_list w.roles)
    (leb (length w.profile) max_entries) (every (λ e. valid_name e.name && is_value e.value) w.profile) (distinct same_list (entry_names w.profile))
    (search parts) (every_both name? short (λ n. name? n && short n) (λ n a b. and_both (name? n) (short n) a b) w.roles (search parts) (search parts)) (search parts)
    (search parts) (every_entry w.profile (search parts) (search parts)) (search parts)
