-- The claims of Questions.antt on one row of each stream, form by form.
use mathlib.Core.Path.{◌≡◌, refl, sym, ap, ap₂, ◌∙◌, subst}
use mathlib.Core.List.{List, [], ◌∷◌, ◌++◌, map}
use mathlib.Core.Bool.{Bool, true, false, ◌&&◌, ◌||◌, not, cond}
use Prim.Native.Nat.{ℕ}
use lib.Signed.{le_z}
use lib.Dec.{T, eqb, T_not}
use lib.ListN.{length}
use Rattle.lists.specs.Lists.{select, every, some?, empty?, gather, nth, distinct}
use Rattle.lists.proofs.Laws.{and_both, and_l, or_l, or_r, or_cases, not_or_l, not_or_r, parts, All, all_nil, all_cons, all_head, all_tail, all_both, all_weaken, all_append, all_left, all_right, every_append, every_append_l, every_append_r, every_all, every_map, every_gather, every_weaken, gather_append, append_nil, same_list→eq}
use Rattle.lists.proofs.Gathers.{select_append, every_append_same, gather_none}
use Rattle.syntax.specs.Grammar.{Cond, test, all, any, neg, Entry}
use Rattle.model.specs.Conditions.{true_of, map_cond}
use Rattle.model.specs.Queries.{Schema, Col, figure, same_col, columns_of, Compare, Query, source, pick, keep, join, aggregate, sources, picks, header, Grant, Caller, Row, Table, Record}
use Rattle.model.specs.Meaning.{value, term_value, compares, compare_holds, holds, picked, kept_row, kept, both, pairs, equality, meaning, table_of, plain}
use Rattle.model.specs.Grants.{fill_compare, fill, limits, limited, shown_of, view}
use Rattle.model.specs.Checks.{has, within, cond_cols, timed, no_aggregate, side, linked, allowed}
use Rattle.model.specs.Routes.{is_col, is_equality, equated, covers, Source, Numbered, present, picked_by, seen, single, columns, keeping, over_view}
use Rattle.model.proofs.Asked.{Rows, with_rows, all_show, shown_by, left, joins_by, absent, open_to}
use Rattle.model.proofs.Columns.{has_within, has_append_l, has_append_r, within_trans, within_by, within_select, within_present}
use Rattle.model.proofs.Distinct.{distinct_apart, gather_distinct}
use Rattle.model.proofs.Rowwise.{Lone, Rowwise, rowwise_select, rowwise_kept, rowwise_pairs, rowwise_view}
use Rattle.model.proofs.Ways.{header_picks}
use Rattle.model.proofs.Rewriting.{and_true, is_eq→eq, is_col_term, stream, side_sources, some_holds}
use Rattle.model.proofs.Widths.{meaning_wide}
use Rattle.model.proofs.Cuts.{holds_kept, kept_kept, kept_both, holds_left, holds_right}
use Rattle.model.proofs.Picked.{rowwise_picks}
use Rattle.model.proofs.OneRow.{not_empty_one, cut_pick, cut_keep, cut_join, linked_named, Fills, table, table_cols, plain_cols, view_one, whole_one, whole_two, heads, stream_cols, meets, cut_to, side_row, every_by, by_every, all_by, one_shows, one_left, all_of_stream, open_when, open_limits, open_shows, header_in, select_same, has_select_same, select_one, nothing_else, nothing, map_one, pairs_one, picked_limited}

-- ---- lists of grants

module _ {A : Type 0} where
  some_append_same : (p : A → Bool) (xs ys : List A) → some? p (xs ++ ys) ≡ some? p xs || some? p ys
  unfolding some?
  some_append_same p [] ys = refl
  some_append_same p (x ∷ xs) ys = go (p x) (some_append_same p xs ys)
    where
      go : (b : Bool) → some? p (xs ++ ys) ≡ some? p xs || some? p ys → b || some? p (xs ++ ys) ≡ b || some? p xs || some? p ys
      go true e = refl
      go false e = e

  pub every_same : (p q : A → Bool) {xs : List A} → All (λ x. p x ≡ q x) xs → every p xs ≡ every q xs
  unfolding every
  every_same p q all_nil = refl
  every_same p q (all_cons h hs) = ap₂ ◌&&◌ h (every_same p q hs)

  none_pass : (p : A → Bool) (xs : List A) → T (not (some? p xs)) → All (λ x. T (not (p x))) xs
  unfolding some?
  none_pass p [] h = all_nil
  none_pass p (x ∷ xs) h = all_cons (not_or_l (p x) _ h) (none_pass p xs (not_or_r (p x) _ h))

pub none_show : (d : Schema) (c : Col) (cs : List Col) → (T (has cs c) → ⊥) → {gs : List Grant} → All (λ (g : Grant). T (within (shown_of d g) cs)) gs → some? (λ g. has (shown_of d g) c) gs ≡ false
unfolding some?
none_show d c cs f all_nil = refl
none_show d c cs f (all_cons {x} {xs} h hs) = go (has (shown_of d x) c) (λ t. f (has_within c cs (shown_of d x) h t)) (none_show d c cs f hs)
  where
    go : (b : Bool) → (T b → ⊥) → some? (λ g. has (shown_of d g) c) xs ≡ false → b || some? (λ g. has (shown_of d g) c) xs ≡ false
    go true n e = absurd (n tt)
    go false n e = e

module _ (d : Schema) (gs hs : List Grant) (c : Col) where
  pub shown_l : some? (λ g. has (shown_of d g) c) hs ≡ false → shown_by d (gs ++ hs) c ≡ shown_by d gs c
  unfolding shown_by
  shown_l e = ap (λ b. same_col c figure || b) (some_append_same (λ g. has (shown_of d g) c) gs hs ∙ ap (λ b. some? (λ g. has (shown_of d g) c) gs || b) e ∙ go (some? (λ g. has (shown_of d g) c) gs))
    where
      go : (b : Bool) → b || false ≡ b
      go true = refl
      go false = refl

  pub shown_r : some? (λ g. has (shown_of d g) c) gs ≡ false → shown_by d (gs ++ hs) c ≡ shown_by d hs c
  unfolding shown_by
  shown_r e = ap (λ b. same_col c figure || b) (some_append_same (λ g. has (shown_of d g) c) gs hs ∙ ap (λ b. b || some? (λ g. has (shown_of d g) c) hs) e)

  shown_more_l : T (shown_by d gs c) → T (shown_by d (gs ++ hs) c)
  unfolding shown_by
  shown_more_l t =
      or_cases (same_col c figure) (some? (λ g. has (shown_of d g) c) gs) t (λ u. or_l (same_col c figure) _ u)
      (λ u. or_r (same_col c figure) _ (rw (some_append_same (λ g. has (shown_of d g) c) gs hs) (or_l (some? (λ g. has (shown_of d g) c) gs) _ u)))

  shown_more_r : T (shown_by d hs c) → T (shown_by d (gs ++ hs) c)
  unfolding shown_by
  shown_more_r t =
      or_cases (same_col c figure) (some? (λ g. has (shown_of d g) c) hs) t (λ u. or_l (same_col c figure) _ u)
      (λ u. or_r (same_col c figure) _ (rw (some_append_same (λ g. has (shown_of d g) c) gs hs) (or_r (some? (λ g. has (shown_of d g) c) gs) _ u)))

-- a grant on one stream that is open to any query is open to every query
open_any : (d : Schema) (p q : Query ℕ) {gs : List Grant} → All (λ (g : Grant). T (single g.of)) gs → T (every (open_to d p) gs) → T (every (open_to d q) gs)
unfolding every open_to
open_any d p q all_nil h = tt
open_any d p q (all_cons {x = g} {xs = gs} s ss) h =
    and_both (open_to d q g) (every (open_to d q) gs)
    (and_both (within (gather (columns_of d) g.of) g.shown && every (λ c. not (single g.of) && joins_by c q) g.when && absent g.from) (absent g.to)
    (and_both (within (gather (columns_of d) g.of) g.shown && every (λ c. not (single g.of) && joins_by c q) g.when) (absent g.from)
    (and_both (within (gather (columns_of d) g.of) g.shown) (every (λ c. not (single g.of) && joins_by c q) g.when) (search parts)
    (every_weaken (λ c. not (single g.of) && joins_by c p) _ (λ c t. absurd (T_not (single g.of) (and_l (not (single g.of)) _ t) s)) g.when (search parts)))
    (search parts)) (search parts))
    (open_any d p q ss (search parts))

pub side_free : {S : Type 0} (q : Query S) → T (side q) → T (no_aggregate q)
unfolding side no_aggregate
side_free (source s) w = tt
side_free (pick c q) w = side_free q w
side_free (keep cs q) w = side_free q w
side_free (join a b q r) w = absurd w
side_free (aggregate f c size offset q) w = absurd w

side_heads : (d : Schema) (q : Query ℕ) → T (side q) → T (allowed (columns_of d) q) → T (within (header (columns_of d) q) (columns_of d (stream q)))
unfolding gather
side_heads d q w h = rw (append_nil (columns_of d (stream q))) at (rw (side_sources q w) at (header_in d q (side_free q w) h))

-- ---- the equality of a join, where the grant has it as a condition

-- what it means for the row, either side first
eq_back : (p : List Entry) (ds : List Col) (r : Row) (a b : Col) (c : Cond Compare) → T (is_equality a b c) → T (holds ds r (equality a b)) → T (holds ds r (fill p c))
unfolding is_equality fill map_cond fill_compare holds true_of compare_holds equality term_value compares
eq_back p ds r a b (test t) h k =
    or_cases (is_col a t.left && is_col b t.right) (is_col b t.left && is_col a t.right) (search parts)
    (λ u. rw (is_eq→eq t.op (search parts), is_col_term p ds r a t.left (search parts), is_col_term p ds r b t.right (search parts)) k)
    (λ u. rw (is_eq→eq t.op (search parts), is_col_term p ds r b t.left (search parts), is_col_term p ds r a t.right (search parts))
    (and_both (le_z (value ds r.values b) (value ds r.values a)) _ (search parts) (search parts)))
eq_back p ds r a b (all cs) h k = absurd h
eq_back p ds r a b (any cs) h k = absurd h
eq_back p ds r a b (neg c) h k = absurd h

-- a test that the other one brings with it
with_it : {A : Type 0} (a m n e : Bool) (z : List A) → (T a → T e) → cond (a && m && n) z [] ≡ cond a (cond (m && n && e) z []) []
with_it true m n true z f = ap (λ b. cond b z []) (and_true (m && n))
with_it true m n false z f = absurd (f tt)
with_it false m n e z f = refl

without_it : {A : Type 0} (a m e : Bool) (z : List A) → (T e → T a) → cond a (cond (m && e) z []) [] ≡ cond (m && e) z []
without_it true m e z f = refl
without_it false m true z f = absurd (f tt)
without_it false true false z f = refl
without_it false false false z f = refl

-- a side's picks name columns of its stream
picks_own : (d : Schema) (q : Query ℕ) → T (side q) → T (allowed (columns_of d) q) → All (λ c. T (within (cond_cols c) (columns_of d (stream q)))) (picks q)
unfolding side allowed picks stream
picks_own d (source s) w h = all_nil
picks_own d (pick c q) w h =
    all_cons (within_trans (cond_cols c) (header (columns_of d) q) (columns_of d (stream q)) (search parts) (side_heads d q w (search parts))) (picks_own d q w (search parts))
picks_own d (keep cs q) w h = picks_own d q w (search parts)
picks_own d (join a b q r) w h = absurd w
picks_own d (aggregate f c size offset q) w h = absurd w

module _ (x : Record) (who : Caller) where
  -- What a route makes of a query with no aggregate, r, on the rows of the query's streams, where gs are the route's grants.
  pub record Asks (q : Query ℕ) (gs : List Grant) (r : Query Source) : Type 0 where
    -- the grants of a side are on one stream
    pub alone : T (side q) → All (λ (g : Grant). T (single g.of)) gs
    -- they show columns of the query's streams alone
    pub inside : All (λ (g : Grant). T (within (shown_of x.schema g) (gather (columns_of x.schema) (sources q)))) gs
    pub columns_left : columns x.schema r ≡ left x.schema gs q
    pub rowwise : Rowwise (sources q) (table x who r)
    pub one_row : (xs : Rows) → Lone (Fills x who) (sources q) xs
        → (table x who r xs).rows
        ≡ cond (all_show who gs (with_rows x xs)) (map (kept_row (heads x who q) (left x.schema gs q)) (plain (with_rows x xs) q).rows) []
    -- open grants show every row that the query gives
    pub open_row : T (every (open_to x.schema q) gs) → (xs : Rows) → Lone (Fills x who) (sources q) xs
        → cond (all_show who gs (with_rows x xs)) (plain (with_rows x xs) q).rows [] ≡ (plain (with_rows x xs) q).rows
    -- and every column
    pub open_left : T (every (open_to x.schema q) gs) → T (every (shown_by x.schema gs) (heads x who q))

  -- one grant shows a row if its conditions hold of it
  show_one : (g : Grant) (xs : Rows) (b : Bool) (w : Row) → (view (with_rows x xs) who g).rows ≡ cond b (w ∷ []) [] → all_show who (g ∷ []) (with_rows x xs) ≡ b
  unfolding all_show every
  show_one g xs b w e = ap (λ v. not (empty? v) && true) e ∙ ap (λ b. b && true) (not_empty_one b w) ∙ sym (and_true b)

  -- ---- a stream

  pub asks_source : (s : ℕ) (n : Numbered) → T (covers (source s) n.grant) → Asks (source s) (n.grant ∷ []) (seen (source s) n)
  unfolding covers sources single seen columns header meaning left plain table_of every
  asks_source s n h =
      record {
        alone = λ t. all_cons {x = g} (rw of_s tt) all_nil;
        inside = all_cons {x = g} (subst (λ l. T (within (shown_of x.schema g) (gather (columns_of x.schema) l))) of_s (unfold shown_of in within_select _ (gather (columns_of x.schema) g.of))) all_nil;
        columns_left = all_of_stream x.schema g s of_s;
        rowwise = rowwise_view x who g s [] of_s (unfold distinct some? in tt);
        one_row = λ xs l. one xs (all_head l).0 (all_head l).1;
        open_row = λ o xs l. ap (λ b. cond b (nth [] xs s) []) (shows xs (all_head l).0 (all_head l).1 ∙ ap (every _) (open_limits x.schema who (source s) g (opened o) (rw of_s tt)));
        open_left = λ o. every_by (shown_by x.schema (g ∷ [])) (columns_of x.schema s) (λ c t. rw (one_shows x.schema g (s ∷ []) c (own c t)) (open_shows x.schema who (source s) g (opened o) (s ∷ []) of_s c (own c t)));
      }
    where
      g : Grant
      g = n.grant

      of_s : g.of ≡ s ∷ []
      of_s = same_list→eq g.of (s ∷ []) (search parts)

      own : (c : Col) → T (has (columns_of x.schema s) c) → T (has (gather (columns_of x.schema) (s ∷ [])) c)
      own c t = unfold gather in has_append_l c (columns_of x.schema s) [] t

      opened : T (every (open_to x.schema (source s)) (g ∷ [])) → T (open_to x.schema (source s) g)
      opened o = unfold every in and_l (open_to x.schema (source s) g) true o

      seen_row : (xs : Rows) (l : Row) → nth [] xs s ≡ l ∷ []
          → (view (with_rows x xs) who g).rows ≡ cond (every (holds (columns_of x.schema s) l) (limits who g)) (kept_row (columns_of x.schema s) (shown_of x.schema g) l ∷ []) []
      seen_row xs l e = view_one x who g xs (columns_of x.schema s) l (whole_one x who g s xs l of_s e)

      shows : (xs : Rows) (l : Row) → nth [] xs s ≡ l ∷ [] → all_show who (g ∷ []) (with_rows x xs) ≡ every (holds (columns_of x.schema s) l) (limits who g)
      shows xs l e = show_one g xs _ _ (seen_row xs l e)

      one : (xs : Rows) (l : Row) → nth [] xs s ≡ l ∷ []
          → (view (with_rows x xs) who g).rows
          ≡ cond (all_show who (g ∷ []) (with_rows x xs)) (map (kept_row (columns_of x.schema s) (select (shown_by x.schema (g ∷ [])) (columns_of x.schema s))) (nth [] xs s)) []
      one xs l e =
          seen_row xs l e
          ∙ ap₂ (λ b cs. cond b (kept_row (columns_of x.schema s) cs l ∷ []) []) (sym (shows xs l e)) (all_of_stream x.schema g s of_s)
          ∙ ap (λ rs. cond (all_show who (g ∷ []) (with_rows x xs)) (map (kept_row (columns_of x.schema s) (select (shown_by x.schema (g ∷ [])) (columns_of x.schema s))) rs) []) (sym e)

  -- ---- picks and keeps

  pub asks_pick : (c : Cond Compare) (q : Query ℕ) (gs : List Grant) (r : Query Source) → T (within (cond_cols c) (columns x.schema r)) → Asks q gs r → Asks (pick c q) gs (pick c r)
  unfolding side sources columns header left meaning picked plain open_to joins_by
  asks_pick c q gs r w h = record {
    alone = h.alone;
    inside = h.inside;
    columns_left = h.columns_left;
    rowwise = rowwise_select (sources q) (λ cs t. holds cs t c) h.rowwise;
    one_row = λ xs l.
        ap₂ (λ cs rs. select (λ t. holds cs t c) rs) (table_cols x who r xs ∙ h.columns_left) (h.one_row xs l)
        ∙ cut_pick (heads x who q) (left x.schema gs q) c (subst (λ cs. T (within (cond_cols c) cs)) h.columns_left w) (all_show who gs (with_rows x xs)) (plain (with_rows x xs) q).rows
        ∙ ap (λ cs. cond (all_show who gs (with_rows x xs)) (map (kept_row (heads x who q) (left x.schema gs q)) (select (λ t. holds cs t c) (plain (with_rows x xs) q).rows)) []) (sym (plain_cols x who q xs));
    open_row = λ o xs l.
        nothing_else (all_show who gs (with_rows x xs)) _
        (λ t. unfold select in ap (select (λ t. holds (plain (with_rows x xs) q).cols t c)) (nothing (all_show who gs (with_rows x xs)) (plain (with_rows x xs) q).rows (h.open_row o xs l) t));
    open_left = h.open_left;
  }

  pub asks_keep : (cs : List Col) (q : Query ℕ) (gs : List Grant) (r : Query Source) → T (within cs (heads x who q)) → Asks q gs r → Asks (keep cs q) gs (keeping x.schema cs r)
  unfolding side sources columns header left meaning kept plain open_to joins_by keeping
  asks_keep cs q gs r w h = record {
    alone = h.alone;
    inside = h.inside;
    columns_left = same;
    rowwise = rowwise_kept (sources q) (present (columns x.schema r) cs) h.rowwise;
    one_row = λ xs l.
        ap₂ (λ ds rs. map (kept_row ds (present (columns x.schema r) cs)) rs) (table_cols x who r xs) (h.one_row xs l)
        ∙ ap (λ ms. map (kept_row (columns x.schema r) ms) (cond (all_show who gs (with_rows x xs)) (map (kept_row (heads x who q) (left x.schema gs q)) (plain (with_rows x xs) q).rows) [])) same
        ∙ ap (λ ls. map (kept_row ls (select (shown_by x.schema gs) cs)) (cond (all_show who gs (with_rows x xs)) (map (kept_row (heads x who q) (left x.schema gs q)) (plain (with_rows x xs) q).rows) [])) h.columns_left
        ∙ cut_keep (heads x who q) (left x.schema gs q) cs (select (shown_by x.schema gs) cs)
        (subst (λ ls. T (within (select (shown_by x.schema gs) cs) ls)) h.columns_left (subst (λ ms. T (within ms (columns x.schema r))) same (within_present (columns x.schema r) cs)))
        (within_select (shown_by x.schema gs) cs) (all_show who gs (with_rows x xs)) (plain (with_rows x xs) q).rows
        ∙ ap (λ ds. cond (all_show who gs (with_rows x xs)) (map (kept_row cs (select (shown_by x.schema gs) cs)) (map (kept_row ds cs) (plain (with_rows x xs) q).rows)) []) (sym (plain_cols x who q xs));
    open_row = λ o xs l.
        nothing_else (all_show who gs (with_rows x xs)) _
        (λ t. ap (map (kept_row (plain (with_rows x xs) q).cols cs)) (nothing (all_show who gs (with_rows x xs)) (plain (with_rows x xs) q).rows (h.open_row o xs l) t));
    open_left = λ o. every_by (shown_by x.schema gs) cs (λ c t. by_every (shown_by x.schema gs) c (heads x who q) (h.open_left o) (has_within c (heads x who q) cs w t));
  }
    where
      same : present (columns x.schema r) cs ≡ select (shown_by x.schema gs) cs
      same =
          ap (λ ls. present ls cs) h.columns_left
          ∙ unfold present in select_same _ (shown_by x.schema gs) (all_by cs (λ c t. has_select_same (shown_by x.schema gs) c (heads x who q) (has_within c (heads x who q) cs w t)))

  -- ---- a join side by side

  module _ (a b : Col) (q r : Query ℕ) (w : T (allowed (columns_of x.schema) (join a b q r))) (u : T (distinct eqb (sources q ++ sources r))) where
    pub apart : (c : Col) → T (has (gather (columns_of x.schema) (sources q)) c) → T (has (gather (columns_of x.schema) (sources r)) c) → ⊥
    apart c t v =
        distinct_apart (gather (columns_of x.schema) (sources q)) (gather (columns_of x.schema) (sources r))
        (rw (gather_append (columns_of x.schema) (sources q) (sources r)) at (gather_distinct x.schema (sources q ++ sources r) u)) c t v

    in_q : T (within (heads x who q) (gather (columns_of x.schema) (sources q)))
    unfolding allowed
    in_q = header_in x.schema q (side_free q (search parts)) (search parts)

    in_r : T (within (heads x who r) (gather (columns_of x.schema) (sources r)))
    unfolding allowed
    in_r = header_in x.schema r (side_free r (search parts)) (search parts)

    pub heads_apart : (c : Col) → T (has (heads x who q) c) → T (has (heads x who r) c) → ⊥
    heads_apart c t v = apart c (has_within c _ (heads x who q) in_q t) (has_within c _ (heads x who r) in_r v)

    pub wide_rows : (xs : Rows) → Lone (Fills x who) (sources q) xs → All (λ (t : Row). length t.values ≡ length (heads x who q)) (plain (with_rows x xs) q).rows
    unfolding plain table_of
    wide_rows xs l =
        subst (λ cs. All (λ (t : Row). length t.values ≡ length cs) (plain (with_rows x xs) q).rows) (plain_cols x who q xs)
        (meaning_wide x.clock (table_of (with_rows x xs)) q (all_weaken (λ s h. rw h.1 (all_cons h.2 all_nil)) l))

    joined_columns : (gs hs : List Grant)
        → All (λ (g : Grant). T (within (shown_of x.schema g) (gather (columns_of x.schema) (sources q)))) gs
        → All (λ (g : Grant). T (within (shown_of x.schema g) (gather (columns_of x.schema) (sources r)))) hs
        → left x.schema gs q ++ left x.schema hs r ≡ left x.schema (gs ++ hs) (join a b q r)
    unfolding left header
    joined_columns gs hs h k =
        ap₂ ◌++◌
        (select_same _ _ (all_by (heads x who q) (λ c t. sym (shown_l x.schema gs hs c (none_show x.schema c _ (apart c (has_within c _ (heads x who q) in_q t)) k)))))
        (select_same _ _ (all_by (heads x who r) (λ c t. sym (shown_r x.schema gs hs c (none_show x.schema c _ (λ v. apart c v (has_within c _ (heads x who r) in_r t)) h)))))
        ∙ sym (select_append (shown_by x.schema (gs ++ hs)) (heads x who q) (heads x who r))

    pub asks_join : (gs hs : List Grant) (y z : Query Source) → T (linked a b (columns x.schema y) (columns x.schema z)) → Asks q gs y → Asks r hs z
        → Asks (join a b q r) (gs ++ hs) (join a b y z)
    unfolding side sources columns header meaning picked pairs plain
    asks_join gs hs y z l h k = record {
      alone = λ t. absurd t;
      inside = all_append (all_weaken (λ g t. wider_l (shown_of x.schema g) t) h.inside) (all_weaken (λ g t. wider_r (shown_of x.schema g) t) k.inside);
      columns_left = lefts;
      rowwise = rowwise_select (sources q ++ sources r) (λ cs t. holds cs t (equality a b)) (rowwise_pairs (sources q) (sources r) u h.rowwise k.rowwise);
      one_row = λ xs m.
          ap₂ joined (λ i. record { cols = (table_cols x who y xs ∙ h.columns_left) i; rows = h.one_row xs (all_left (sources q) (sources r) m) i })
          (λ i. record { cols = (table_cols x who z xs ∙ k.columns_left) i; rows = k.one_row xs (all_right (sources q) (sources r) m) i })
          ∙ cut_join (heads x who q) (heads x who r) (left x.schema gs q) (left x.schema hs r) heads_apart (unfold left in within_select _ (heads x who q)) (unfold left in within_select _ (heads x who r))
          (equality a b) named (plain (with_rows x xs) q).rows (plain (with_rows x xs) r).rows (wide_rows xs (all_left (sources q) (sources r) m)) (all_show who gs (with_rows x xs)) (all_show who hs (with_rows x xs))
          ∙ ap₂ (λ c ls. cond c (map (kept_row (heads x who q ++ heads x who r) ls) (select (λ t. holds (heads x who q ++ heads x who r) t (equality a b)) (paired xs))) []) (sym (shows xs)) (joined_columns gs hs h.inside k.inside)
          ∙ ap₂ (λ cs ds. cond (all_show who (gs ++ hs) (with_rows x xs)) (map (kept_row (heads x who q ++ heads x who r) (left x.schema (gs ++ hs) (join a b q r))) (select (λ t. holds (cs ++ ds) t (equality a b)) (paired xs))) [])
          (sym (plain_cols x who q xs)) (sym (plain_cols x who r xs));
      open_row = λ o xs m.
          ap (λ c. cond c (select (λ t. holds ((plain (with_rows x xs) q).cols ++ (plain (with_rows x xs) r).cols) t (equality a b)) (paired xs)) []) (shows xs)
          ∙ all_there (all_show who gs (with_rows x xs)) (all_show who hs (with_rows x xs)) _ (plain (with_rows x xs) q).rows (plain (with_rows x xs) r).rows
          (h.open_row (open_q o) xs (all_left (sources q) (sources r) m)) (k.open_row (open_r o) xs (all_right (sources q) (sources r) m));
      open_left = λ o.
          every_append (shown_by x.schema (gs ++ hs)) (heads x who q) (heads x who r)
          (every_weaken (shown_by x.schema gs) _ (λ c t. shown_more_l x.schema gs hs c t) (heads x who q) (h.open_left (open_q o)))
          (every_weaken (shown_by x.schema hs) _ (λ c t. shown_more_r x.schema gs hs c t) (heads x who r) (k.open_left (open_r o)));
    }
      where
        lefts : columns x.schema y ++ columns x.schema z ≡ left x.schema (gs ++ hs) (join a b q r)
        lefts = ap₂ ◌++◌ h.columns_left k.columns_left ∙ joined_columns gs hs h.inside k.inside

        named : T (within (cond_cols (equality a b)) (left x.schema gs q ++ left x.schema hs r))
        named = linked_named a b (left x.schema gs q) (left x.schema hs r) (rw (h.columns_left, k.columns_left) at l)

        joined : Table → Table → List Row
        joined t v = select (λ e. holds (t.cols ++ v.cols) e (equality a b)) (gather (λ e. map (both e) v.rows) t.rows)

        paired : Rows → List Row
        paired xs = gather (λ e. map (both e) (plain (with_rows x xs) r).rows) (plain (with_rows x xs) q).rows

        shows : (xs : Rows) → all_show who (gs ++ hs) (with_rows x xs) ≡ all_show who gs (with_rows x xs) && all_show who hs (with_rows x xs)
        shows xs = unfold all_show in every_append_same _ gs hs

        wider_l : (cs : List Col) → T (within cs (gather (columns_of x.schema) (sources q))) → T (within cs (gather (columns_of x.schema) (sources q ++ sources r)))
        wider_l cs t = rw (gather_append (columns_of x.schema) (sources q) (sources r)) (within_by cs _ (λ c v. has_append_l c (gather (columns_of x.schema) (sources q)) _ (has_within c _ cs t v)))

        wider_r : (cs : List Col) → T (within cs (gather (columns_of x.schema) (sources r))) → T (within cs (gather (columns_of x.schema) (sources q ++ sources r)))
        wider_r cs t = rw (gather_append (columns_of x.schema) (sources q) (sources r)) (within_by cs _ (λ c v. has_append_r c (gather (columns_of x.schema) (sources q)) _ (has_within c _ cs t v)))

        open_q : T (every (open_to x.schema (join a b q r)) (gs ++ hs)) → T (every (open_to x.schema q) gs)
        open_q o = open_any x.schema (join a b q r) q (h.alone (unfold allowed in search parts)) (every_append_l (open_to x.schema (join a b q r)) gs hs o)

        open_r : T (every (open_to x.schema (join a b q r)) (gs ++ hs)) → T (every (open_to x.schema r) hs)
        open_r o = open_any x.schema (join a b q r) r (k.alone (unfold allowed in search parts)) (every_append_r (open_to x.schema (join a b q r)) gs hs o)

        all_there : (m n : Bool) (p : Row → Bool) (ls rs : List Row) → cond m ls [] ≡ ls → cond n rs [] ≡ rs
            → cond (m && n) (select p (gather (λ e. map (both e) rs) ls)) [] ≡ select p (gather (λ e. map (both e) rs) ls)
        all_there true true p ls rs e f = refl
        all_there true false p ls rs e f = sym (ap (λ l. select p (gather (λ e. map (both e) l) ls)) (sym f) ∙ ap (select p) (gather_none ls) ∙ unfold select in refl)
        all_there false n p ls rs e f = sym (ap (λ l. select p (gather (λ e. map (both e) rs) l)) (sym e) ∙ unfold select gather in refl)

  -- ---- a join under a grant on the pair

  module _ (a b : Col) (q r : Query ℕ) (n : Numbered) (w : T (allowed (columns_of x.schema) (join a b q r))) (u : T (distinct eqb (sources q ++ sources r)))
      (cov : T (covers (join a b q r) n.grant)) (untimed : T (not (some? timed (picks q ++ picks r)))) (shown : T (within (gather cond_cols (picks q ++ picks r)) (shown_of x.schema n.grant))) where
    abbrev g : Grant
    g = n.grant

    abbrev shows : List Col
    shows = shown_of x.schema n.grant

    abbrev cols : List Col
    cols = stream_cols x who q ++ stream_cols x who r

    abbrev heads_both : List Col
    heads_both = heads x who q ++ heads x who r

    side_q : T (side q)
    unfolding allowed
    side_q = search parts

    side_r : T (side r)
    unfolding allowed
    side_r = search parts

    allowed_q : T (allowed (columns_of x.schema) q)
    unfolding allowed
    allowed_q = search parts

    allowed_r : T (allowed (columns_of x.schema) r)
    unfolding allowed
    allowed_r = search parts

    streams : sources q ++ sources r ≡ stream q ∷ stream r ∷ []
    streams = ap₂ ◌++◌ (side_sources q side_q) (side_sources r side_r)

    of_pair : g.of ≡ stream q ∷ stream r ∷ []
    unfolding covers sources
    of_pair = same_list→eq g.of (sources q ++ sources r) (search parts) ∙ streams

    two_streams : T (distinct eqb (stream q ∷ stream r ∷ []))
    two_streams = rw streams at u

    cols_apart : (c : Col) → T (has (stream_cols x who q) c) → T (has (stream_cols x who r) c) → ⊥
    unfolding gather
    cols_apart c t v =
        distinct_apart (stream_cols x who q) (stream_cols x who r ++ []) (gather_distinct x.schema (stream q ∷ stream r ∷ []) two_streams) c t (has_append_l c (stream_cols x who r) [] v)

    -- the conditions of picks: shown, and not on `time`
    abbrev Plain : Cond Compare → Type 0
    Plain c = T (within (cond_cols c) shows) × T (not (timed c))

    plain_picks : All Plain (picks q ++ picks r)
    unfolding within
    plain_picks = all_both (every_all _ (picks q ++ picks r) (every_gather (has shows) cond_cols (picks q ++ picks r) shown)) (none_pass timed (picks q ++ picks r) untimed)

    -- the columns that are kept of the view
    abbrev above : Query Source
    above = picked_by (picks r) (picked_by (picks q) (seen (join a b q r) n))

    abbrev keeps_of : List Col
    keeps_of = present (columns x.schema above) heads_both

    above_view : columns x.schema above ≡ shows
    unfolding columns seen header
    above_view = header_picks _ (picks r) (picked_by (picks q) (seen (join a b q r) n)) ∙ header_picks _ (picks q) (seen (join a b q r) n)

    in_both : (c : Col) → T (has heads_both c) → T (has (gather (columns_of x.schema) (sources q ++ sources r)) c)
    unfolding header sources
    in_both c t = has_within c _ heads_both (header_in x.schema (join a b q r) (unfold no_aggregate in and_both (no_aggregate q) (no_aggregate r) (side_free q side_q) (side_free r side_r)) w) t

    kept_columns : keeps_of ≡ left x.schema (g ∷ []) (join a b q r)
    unfolding left header
    kept_columns = ap (λ cs. present cs heads_both) above_view ∙ one_left x.schema g (sources q ++ sources r) heads_both (within_by heads_both _ in_both)

    module _ (l m : Row) (wide : Fills x who (stream q) l) where
      -- picks see on the pair's view what they see on their own stream
      meets_l : every (holds shows (kept_row cols shows (both l m))) (picks q) ≡ meets x who q l
      meets_l =
          every_same _ _ (all_weaken (λ c h. holds_kept cols shows (both l m) c h.0.0 ∙ holds_left (stream_cols x who q) (stream_cols x who r) cols_apart l m wide c h.0.1 h.1)
          (all_both (all_left (picks q) (picks r) plain_picks) (picks_own x.schema q side_q allowed_q)))

      meets_r : every (holds shows (kept_row cols shows (both l m))) (picks r) ≡ meets x who r m
      meets_r =
          every_same _ _ (all_weaken (λ c h. holds_kept cols shows (both l m) c h.0.0 ∙ holds_right (stream_cols x who q) (stream_cols x who r) cols_apart l m wide c h.0.1 h.1)
          (all_both (all_right (picks q) (picks r) plain_picks) (picks_own x.schema r side_r allowed_r)))

      -- the grant's conditions bring the equality with them
      abbrev admits : Bool
      admits = every (holds cols (both l m)) (limits who g)

      abbrev equal : Bool
      equal = holds cols (both l m) (equality a b)

      admits_equal : T admits → T equal
      unfolding limits covers equated
      admits_equal t = some_holds who.profile cols (both l m) a b g.when _ (search parts) t

      -- and an open grant has no other
      equal_admits : T (open_to x.schema (join a b q r) g) → T equal → T admits
      unfolding open_to joins_by
      equal_admits o t =
          rw (open_when x.schema who (join a b q r) g o)
          (every_map (λ c. not (single g.of) && is_equality a b c) (holds cols (both l m)) (fill who.profile)
          (λ c h. eq_back who.profile cols (both l m) a b c (search parts) t) g.when (search parts))

      module _ (wide-r : Fills x who (stream r) m) (xs : Rows) (e : nth [] xs (stream q) ≡ l ∷ []) (f : nth [] xs (stream r) ≡ m ∷ []) where
        view_row : (view (with_rows x xs) who g).rows ≡ cond admits (kept_row cols shows (both l m) ∷ []) []
        view_row = view_one x who g xs cols (both l m) (whole_two x who g (stream q) (stream r) xs l m of_pair e f)

        shows_row : all_show who (g ∷ []) (with_rows x xs) ≡ admits
        shows_row = show_one g xs admits (kept_row cols shows (both l m)) view_row

        -- the query's own join
        own_row : (plain (with_rows x xs) (join a b q r)).rows ≡ cond (meets x who q l && meets x who r m && equal) (kept_row cols heads_both (both l m) ∷ []) []
        unfolding plain meaning picked pairs
        own_row =
            ap₂ (λ (s t : Table). select (λ v. holds (s.cols ++ t.cols) v (equality a b)) (gather (λ v. map (both v) t.rows) s.rows))
            (λ i. record { cols = plain_cols x who q xs i; rows = side_row x who q side_q allowed_q xs l e wide i })
            (λ i. record { cols = plain_cols x who r xs i; rows = side_row x who r side_r allowed_r xs m f wide-r i })
            ∙ ap (select (λ v. holds heads_both v (equality a b))) (pairs_one (meets x who q l) (meets x who r m) (cut_to x who q l) (cut_to x who r m)
            ∙ ap (λ v. cond (meets x who q l && meets x who r m) (v ∷ []) []) (sym (kept_both (stream_cols x who q) (stream_cols x who r) cols_apart l m wide (heads x who q) (heads x who r) (side_heads x.schema q side_q allowed_q) (side_heads x.schema r side_r allowed_r))))
            ∙ select_one (λ v. holds heads_both v (equality a b)) (meets x who q l && meets x who r m) (kept_row cols heads_both (both l m))
            ∙ ap (λ c. cond (meets x who q l && meets x who r m && c) (kept_row cols heads_both (both l m) ∷ []) []) (holds_kept cols heads_both (both l m) (equality a b) (linked_named a b (heads x who q) (heads x who r) (unfold allowed in search parts)))

        -- what the route makes of the pair's view
        route_row : (table x who (over_view x.schema (join a b q r) n) xs).rows
            ≡ cond (admits && meets x who q l && meets x who r m) (kept_row cols (left x.schema (g ∷ []) (join a b q r)) (both l m) ∷ []) []
        unfolding over_view keeping meaning kept seen view limited
        route_row =
            ap (λ (t : Table). map (kept_row t.cols keeps_of) t.rows) (picked_limited x.clock views (picks r) (picked_by (picks q) (seen (join a b q r) n)) ∙ ap (limited (picks r)) (picked_limited x.clock views (picks q) (seen (join a b q r) n)))
            ∙ ap (λ rs. map (kept_row shows keeps_of) (select (λ t. every (holds shows t) (picks r)) (select (λ t. every (holds shows t) (picks q)) rs))) view_row
            ∙ ap (λ rs. map (kept_row shows keeps_of) (select (λ t. every (holds shows t) (picks r)) rs)) (select_one (λ t. every (holds shows t) (picks q)) admits (kept_row cols shows (both l m)))
            ∙ ap (map (kept_row shows keeps_of)) (select_one (λ t. every (holds shows t) (picks r)) (admits && every (holds shows (kept_row cols shows (both l m))) (picks q)) (kept_row cols shows (both l m)))
            ∙ map_one (kept_row shows keeps_of) (admits && every (holds shows (kept_row cols shows (both l m))) (picks q) && every (holds shows (kept_row cols shows (both l m))) (picks r)) (kept_row cols shows (both l m))
            ∙ ap₂ (λ i j. cond (admits && i && j) (kept_row shows keeps_of (kept_row cols shows (both l m)) ∷ []) []) meets_l meets_r
            ∙ ap (λ v. cond (admits && meets x who q l && meets x who r m) (v ∷ []) []) (kept_kept cols shows keeps_of (both l m) (subst (λ cs. T (within keeps_of cs)) above_view (within_present (columns x.schema above) heads_both)) ∙ ap (λ cs. kept_row cols cs (both l m)) kept_columns)
          where
            views : Source → Table
            views s = view (with_rows x xs) who s.grant

        one_pair : (table x who (over_view x.schema (join a b q r) n) xs).rows
            ≡ cond (all_show who (g ∷ []) (with_rows x xs)) (map (kept_row heads_both (left x.schema (g ∷ []) (join a b q r))) (plain (with_rows x xs) (join a b q r)).rows) []
        one_pair =
            route_row
            ∙ with_it admits (meets x who q l) (meets x who r m) equal (kept_row cols (left x.schema (g ∷ []) (join a b q r)) (both l m) ∷ []) admits_equal
            ∙ sym (ap₂ (λ c rs. cond c (map (kept_row heads_both (left x.schema (g ∷ []) (join a b q r))) rs) []) shows_row own_row
            ∙ ap (λ rs. cond admits rs []) (map_one (kept_row heads_both (left x.schema (g ∷ []) (join a b q r))) (meets x who q l && meets x who r m && equal) (kept_row cols heads_both (both l m))
            ∙ ap (λ v. cond (meets x who q l && meets x who r m && equal) (v ∷ []) []) (kept_kept cols heads_both (left x.schema (g ∷ []) (join a b q r)) (both l m) (unfold left header in within_select _ heads_both))))

        open_pair : T (open_to x.schema (join a b q r) g) → cond (all_show who (g ∷ []) (with_rows x xs)) (plain (with_rows x xs) (join a b q r)).rows [] ≡ (plain (with_rows x xs) (join a b q r)).rows
        open_pair o =
            ap₂ (λ c rs. cond c rs []) shows_row own_row
            ∙ without_it admits (meets x who q l && meets x who r m) equal (kept_row cols heads_both (both l m) ∷ []) (equal_admits o)
            ∙ sym own_row

    pub asks_pair : Asks (join a b q r) (g ∷ []) (over_view x.schema (join a b q r) n)
    unfolding side sources header
    asks_pair = record {
      alone = λ t. absurd t;
      inside = all_cons {x = g} (subst (λ ss. T (within (shown_of x.schema g) (gather (columns_of x.schema) ss))) (of_pair ∙ sym streams) (unfold shown_of in within_select _ (gather (columns_of x.schema) g.of))) all_nil;
      columns_left = unfold over_view keeping columns header in kept_columns;
      rowwise = rw streams (unfold over_view keeping meaning in rowwise_kept (stream q ∷ stream r ∷ []) keeps_of (rowwise_picks x who (picks r) (picked_by (picks q) (seen (join a b q r) n)) (rowwise_picks x who (picks q) (seen (join a b q r) n) (unfold seen meaning in rowwise_view x who g (stream q) (stream r ∷ []) of_pair two_streams))));
      one_row = λ xs h. lone xs h (λ l m i j e f. one_pair l m i j xs e f);
      open_row = λ o xs h. lone xs h (λ l m i j e f. open_pair l m i j xs e f (unfold every in and_l (open_to x.schema (join a b q r) g) true o));
      open_left = λ o. unfold header in every_by (shown_by x.schema (g ∷ [])) heads_both (λ c t. rw (one_shows x.schema g (sources q ++ sources r) c (in_both c t))
          (open_shows x.schema who (join a b q r) g (unfold every in and_l (open_to x.schema (join a b q r) g) true o) (sources q ++ sources r) (of_pair ∙ sym streams) c (in_both c t)));
    }
      where
        lone : {X : Type 0} (xs : Rows) → Lone (Fills x who) (sources q ++ sources r) xs
            → ((l m : Row) → Fills x who (stream q) l → Fills x who (stream r) m → nth [] xs (stream q) ≡ l ∷ [] → nth [] xs (stream r) ≡ m ∷ [] → X) → X
        lone xs h k =
            let i = rw streams at h in
            k (all_head i).0 (all_head (all_tail i)).0 (all_head i).2 (all_head (all_tail i)).2 (all_head i).1 (all_head (all_tail i)).1
