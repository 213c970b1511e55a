-- What a route gives of one row of each of its query's streams: what the query itself gives, cut to the columns that are left, if the route's grants show these rows; and else nothing.
use mathlib.Core.Path.{◌≡◌, refl, sym, ap, ap₂, ◌∙◌, subst, fun_ext}
use mathlib.Core.List.{List, [], ◌∷◌, ◌++◌, map, map-map}
use mathlib.Core.Bool.{Bool, true, false, ◌&&◌, ◌||◌, not, cond}
use mathlib.Core.Option.{Option, none, some}
use Prim.Native.Nat.{ℕ}
use lib.Dec.{T, T_not}
use lib.ListN.{length}
use Rattle.lists.specs.Lists.{select, every, some?, empty?, gather, nth, count_from}
use Rattle.lists.proofs.Laws.{and_both, and_l, or_l, or_r, or_cases, parts, All, all_nil, all_cons, all_weaken, gather_same, gather_append, append_nil, select_all, select_map}
use Rattle.lists.proofs.Gathers.{gather_none, gather_map, map_gather}
use Rattle.syntax.specs.Grammar.{le, ge, Cond}
use Rattle.model.specs.Conditions.{tests}
use Rattle.model.specs.Queries.{Schema, no_stream, Col, col, figure, same_col, columns_of, Compare, Query, source, pick, keep, join, aggregate, sources, picks, header, Grant, Caller, Row, Table, Record}
use Rattle.model.specs.Meaning.{holds, picked, kept_row, kept, both, pairs, equality, aggregated, meaning, table_of, plain}
use Rattle.model.specs.Grants.{fill, limit, limits, whole, limited, shown_of, view}
use Rattle.model.specs.Checks.{has, within, term_cols, cond_cols, no_aggregate, side, linked, allowed}
use Rattle.model.specs.Routes.{Source, present, picked_by, single, columns}
use Rattle.model.proofs.Asked.{Rows, with_rows, shown_by, joins_by, absent, open_to}
use Rattle.model.proofs.Columns.{same_col→eq, same_col_refl, has_within, has_append, has_append_l, has_append_r, within_by, within_trans, within_both}
use Rattle.model.proofs.Distinct.{columns_distinct}
use Rattle.model.proofs.Cuts.{holds_kept, kept_kept, kept_self, kept_both}
use Rattle.model.proofs.Rewriting.{stream}

-- ---- columns of a meaning

pub meaning_cols : {S : Type 0} (k : ℕ) (tab : S → Table) (q : Query S) → (meaning k tab q).cols ≡ header (λ s. (tab s).cols) q
unfolding meaning header picked kept pairs aggregated
meaning_cols k tab (source s) = refl
meaning_cols k tab (pick c q) = meaning_cols k tab q
meaning_cols k tab (keep cs q) = refl
meaning_cols k tab (join a b q r) = ap₂ ◌++◌ (meaning_cols k tab q) (meaning_cols k tab r)
meaning_cols k tab (aggregate f c size offset q) = refl

-- ---- columns that are left

pub select_same : {A : Type 0} (p q : A → Bool) {xs : List A} → All (λ x. p x ≡ q x) xs → select p xs ≡ select q xs
unfolding select
select_same p q all_nil = refl
select_same p q (all_cons {x} {xs} h hs) = ap₂ (λ b l. cond b (x ∷ l) l) h (select_same p q hs)

-- a list selected from one that has the column has it if the test says so
pub has_select_same : (p : Col → Bool) (c : Col) (cs : List Col) → T (has cs c) → has (select p cs) c ≡ p c
unfolding has some? select
has_select_same p c [] t = absurd t
has_select_same p c (d ∷ cs) t = go (same_col c d) (p d) refl refl t (has_select_same p c cs)
  where
    out : p c ≡ false → (es : List Col) → some? (same_col c) (select p es) ≡ false
    out e [] = refl
    out e (f ∷ es) = step (p f) (same_col c f) refl refl (out e es)
      where
        step : (a b : Bool) → p f ≡ a → same_col c f ≡ b → some? (same_col c) (select p es) ≡ false → some? (same_col c) (cond a (f ∷ select p es) (select p es)) ≡ false
        step true true u v i = absurd (subst T (sym u ∙ sym (ap p (same_col→eq c f (rw v tt))) ∙ e) tt)
        step true false u v i = rw v i
        step false b u v i = i

    go : (a b : Bool) → same_col c d ≡ a → p d ≡ b → T (a || some? (same_col c) cs) → (T (some? (same_col c) cs) → some? (same_col c) (select p cs) ≡ p c)
        → some? (same_col c) (cond b (d ∷ select p cs) (select p cs)) ≡ p c
    go true true u v t i = rw u (sym (ap p (same_col→eq c d (rw u tt)) ∙ v))
    go true false u v t i = let e = ap p (same_col→eq c d (rw u tt)) ∙ v in out e cs ∙ sym e
    go false true u v t i = rw u (i t)
    go false false u v t i = i t

-- ---- lists of at most one row

module _ {A : Type 0} where
  pub select_one : (p : A → Bool) (b : Bool) (t : A) → select p (cond b (t ∷ []) []) ≡ cond (b && p t) (t ∷ []) []
  unfolding select
  select_one p true t = refl
  select_one p false t = refl

  pub select_both : (p q : A → Bool) (xs : List A) → select p (select q xs) ≡ select (λ x. p x && q x) xs
  unfolding select
  select_both p q [] = refl
  select_both p q (x ∷ xs) = go (q x) (p x) refl (select_both p q xs)
    where
      go : (b a : Bool) → p x ≡ a → select p (select q xs) ≡ select (λ x. p x && q x) xs
          → select p (cond b (x ∷ select q xs) (select q xs)) ≡ cond (a && b) (x ∷ select (λ x. p x && q x) xs) (select (λ x. p x && q x) xs)
      go true true e i = rw e (ap (λ l. x ∷ l) i)
      go true false e i = rw e i
      go false true e i = i
      go false false e i = i

  -- where a list is nothing but what passes
  pub nothing_else : (b : Bool) (xs : List A) → (T (not b) → xs ≡ []) → cond b xs [] ≡ xs
  nothing_else true xs h = refl
  nothing_else false xs h = sym (h tt)

  pub nothing : (b : Bool) (xs : List A) → cond b xs [] ≡ xs → T (not b) → xs ≡ []
  nothing true xs e t = absurd t
  nothing false xs e t = sym e

pub not_empty_one : {A : Type 0} (b : Bool) (t : A) → not (empty? (cond b (t ∷ []) [])) ≡ b
unfolding empty?
not_empty_one true t = refl
not_empty_one false t = refl

pub map_one : {A B : Type 0} (f : A → B) (b : Bool) (t : A) → map f (cond b (t ∷ []) []) ≡ cond b (f t ∷ []) []
map_one f true t = refl
map_one f false t = refl

pub and_swap : (a b : Bool) → a && b ≡ b && a
and_swap true true = refl
and_swap true false = refl
and_swap false true = refl
and_swap false false = refl

pub pairs_one : (a b : Bool) (l r : Row) → gather (λ x. map (both x) (cond b (r ∷ []) [])) (cond a (l ∷ []) []) ≡ cond (a && b) (both l r ∷ []) []
unfolding gather
pairs_one true true l r = refl
pairs_one true false l r = refl
pairs_one false b l r = refl

-- ---- conditions around a query, all at once

pub picked_limited : {S : Type 0} (k : ℕ) (tab : S → Table) (ps : List (Cond Compare)) (q : Query S) → meaning k tab (picked_by ps q) ≡ limited ps (meaning k tab q)
unfolding picked_by meaning limited picked every
picked_limited k tab [] q = λ i. record { cols = (meaning k tab q).cols; rows = sym (select_all (λ r. true) (λ r. tt) (meaning k tab q).rows) i }
picked_limited k tab (p ∷ ps) q =
    ap (picked p) (picked_limited k tab ps q)
    ∙ (λ i. record { cols = (meaning k tab q).cols; rows = select_both (λ r. holds (meaning k tab q).cols r p) (λ r. every (holds (meaning k tab q).cols r) ps) (meaning k tab q).rows i })

-- ---- cuts under each form

pub cut_pick : (hs ls : List Col) (c : Cond Compare) → T (within (cond_cols c) ls) → (b : Bool) (rs : List Row)
    → select (λ t. holds ls t c) (cond b (map (kept_row hs ls) rs) []) ≡ cond b (map (kept_row hs ls) (select (λ t. holds hs t c) rs)) []
unfolding select
cut_pick hs ls c w true rs = select_map (λ t. holds ls t c) (kept_row hs ls) rs ∙ ap (λ p. map (kept_row hs ls) (select p rs)) (fun_ext (λ t. holds_kept hs ls t c w))
cut_pick hs ls c w false rs = refl

pub cut_keep : (hs ls cs ms : List Col) → T (within ms ls) → T (within ms cs) → (b : Bool) (rs : List Row)
    → map (kept_row ls ms) (cond b (map (kept_row hs ls) rs) []) ≡ cond b (map (kept_row cs ms) (map (kept_row hs cs) rs)) []
cut_keep hs ls cs ms h k true rs =
    map-map (kept_row ls ms) (kept_row hs ls) rs
    ∙ ap (λ f. map f rs) (fun_ext (λ r. kept_kept hs ls ms r h ∙ sym (kept_kept hs cs ms r k)))
    ∙ sym (map-map (kept_row cs ms) (kept_row hs cs) rs)
cut_keep hs ls cs ms h k false rs = refl

module _ (hs is ls ms : List Col) (apart : (c : Col) → T (has hs c) → T (has is c) → ⊥) (in-l : T (within ls hs)) (in_r : T (within ms is))
    (e : Cond Compare) (named : T (within (cond_cols e) (ls ++ ms))) (rs ts : List Row) (wide : All (λ (r : Row). length r.values ≡ length hs) rs) where
  both_cut : gather (λ l. map (both l) (map (kept_row is ms) ts)) (map (kept_row hs ls) rs) ≡ map (kept_row (hs ++ is) (ls ++ ms)) (gather (λ l. map (both l) ts) rs)
  both_cut =
      gather_map (λ l. map (both l) (map (kept_row is ms) ts)) (kept_row hs ls) rs
      ∙ gather_same (all_weaken (λ l w. map-map (both (kept_row hs ls l)) (kept_row is ms) ts
      ∙ ap (λ f. map f ts) (fun_ext (λ r. sym (kept_both hs is apart l r w ls ms in-l in_r)))
      ∙ sym (map-map (kept_row (hs ++ is) (ls ++ ms)) (both l) ts)) wide)
      ∙ sym (map_gather (kept_row (hs ++ is) (ls ++ ms)) (λ l. map (both l) ts) rs)

  pub cut_join : (a b : Bool)
      → select (λ t. holds (ls ++ ms) t e) (gather (λ l. map (both l) (cond b (map (kept_row is ms) ts) [])) (cond a (map (kept_row hs ls) rs) []))
      ≡ cond (a && b) (map (kept_row (hs ++ is) (ls ++ ms)) (select (λ t. holds (hs ++ is) t e) (gather (λ l. map (both l) ts) rs))) []
  unfolding select gather
  cut_join true true =
      ap (select (λ t. holds (ls ++ ms) t e)) both_cut
      ∙ select_map (λ t. holds (ls ++ ms) t e) (kept_row (hs ++ is) (ls ++ ms)) (gather (λ l. map (both l) ts) rs)
      ∙ ap (λ p. map (kept_row (hs ++ is) (ls ++ ms)) (select p (gather (λ l. map (both l) ts) rs))) (fun_ext (λ t. holds_kept (hs ++ is) (ls ++ ms) t e named))
  cut_join true false = ap (select (λ t. holds (ls ++ ms) t e)) (gather_none (map (kept_row hs ls) rs))
  cut_join false b = refl

-- a join's equality names one column of each side
pub linked_named : (a b : Col) (ls rs : List Col) → T (linked a b ls rs) → T (within (cond_cols (equality a b)) (ls ++ rs))
unfolding linked within cond_cols tests equality term_cols gather every
linked_named a b ls rs h =
    or_cases (has ls a && has rs b) (has ls b && has rs a) h
    (λ u. and_both (has (ls ++ rs) a) (has (ls ++ rs) b && true) (has_append_l a ls rs (search parts)) (and_both (has (ls ++ rs) b) true (has_append_r b ls rs (search parts)) tt))
    (λ u. and_both (has (ls ++ rs) a) (has (ls ++ rs) b && true) (has_append_r a ls rs (search parts)) (and_both (has (ls ++ rs) b) true (has_append_l b ls rs (search parts)) tt))

module _ (x : Record) (who : Caller) where
  -- a row of a stream has a value for each column
  abbrev pub Fills : ℕ → Row → Type 0
  Fills s r = length r.values ≡ length (columns_of x.schema s)

  -- what a route's query gives of rows of the streams
  abbrev pub table : Query Source → Rows → Table
  table r xs = meaning x.clock (λ (s : Source). view (with_rows x xs) who s.grant) r

  pub table_cols : (r : Query Source) (xs : Rows) → (table r xs).cols ≡ columns x.schema r
  unfolding columns view kept
  table_cols r xs = meaning_cols x.clock (λ (s : Source). view (with_rows x xs) who s.grant) r

  pub plain_cols : (q : Query ℕ) (xs : Rows) → (plain (with_rows x xs) q).cols ≡ header (columns_of x.schema) q
  unfolding plain table_of
  plain_cols q xs = meaning_cols x.clock (table_of (with_rows x xs)) q

  -- ---- a view of one row of each stream

  pub view_one : (g : Grant) (xs : Rows) (cs : List Col) (w : Row) → whole (with_rows x xs) g.of ≡ record { cols = cs; rows = w ∷ [] }
      → (view (with_rows x xs) who g).rows ≡ cond (every (holds cs w) (limits who g)) (kept_row cs (shown_of x.schema g) w ∷ []) []
  unfolding view limited kept select
  view_one g xs cs w e =
      ap (λ (t : Table). map (kept_row t.cols (shown_of x.schema g)) (select (λ r. every (holds t.cols r) (limits who g)) t.rows)) e
      ∙ go (every (holds cs w) (limits who g))
    where
      go : (b : Bool) → map (kept_row cs (shown_of x.schema g)) (cond b (w ∷ []) []) ≡ cond b (kept_row cs (shown_of x.schema g) w ∷ []) []
      go true = refl
      go false = refl

  pub whole_one : (g : Grant) (s : ℕ) (xs : Rows) (l : Row) → g.of ≡ s ∷ [] → nth [] xs s ≡ l ∷ [] → whole (with_rows x xs) g.of ≡ record { cols = columns_of x.schema s; rows = l ∷ [] }
  unfolding whole table_of
  whole_one g s xs l e f = ap (whole (with_rows x xs)) e ∙ (λ i. record { cols = columns_of x.schema s; rows = f i })

  pub whole_two : (g : Grant) (s t : ℕ) (xs : Rows) (l r : Row) → g.of ≡ s ∷ t ∷ [] → nth [] xs s ≡ l ∷ [] → nth [] xs t ≡ r ∷ []
      → whole (with_rows x xs) g.of ≡ record { cols = columns_of x.schema s ++ columns_of x.schema t; rows = both l r ∷ [] }
  unfolding whole table_of pairs gather
  whole_two g s t xs l r e f h =
      ap (whole (with_rows x xs)) e ∙ (λ i. record { cols = columns_of x.schema s ++ columns_of x.schema t; rows = gather (λ x. map (both x) (h i)) (f i) })

  -- ---- a side of a join on one row of its stream

  -- the columns of its stream, and those that it keeps
  abbrev pub stream_cols : Query ℕ → List Col
  stream_cols q = columns_of x.schema (stream q)

  abbrev pub heads : Query ℕ → List Col
  heads q = header (columns_of x.schema) q

  -- the row meets all its picks
  abbrev pub meets : Query ℕ → Row → Bool
  meets q l = every (holds (stream_cols q) l) (picks q)

  abbrev pub cut_to : Query ℕ → Row → Row
  cut_to q l = kept_row (stream_cols q) (heads q) l

  pub side_row : (q : Query ℕ) → T (side q) → T (allowed (columns_of x.schema) q) → (xs : Rows) (l : Row) → nth [] xs (stream q) ≡ l ∷ [] → Fills (stream q) l
      → (plain (with_rows x xs) q).rows ≡ cond (meets q l) (cut_to q l ∷ []) []
  unfolding side allowed plain meaning table_of stream picks header every picked kept
  side_row (source s) w a xs l e f = e ∙ ap (λ r. r ∷ []) (sym (kept_self (columns_of x.schema s) l (columns_distinct x.schema s) f))
  side_row (pick c q) w a xs l e f =
      ap₂ (λ cs rs. select (λ r. holds cs r c) rs) (plain_cols q xs) (side_row q w (search parts) xs l e f)
      ∙ select_one (λ r. holds (heads q) r c) (meets q l) (cut_to q l)
      ∙ ap (λ b. cond b (cut_to q l ∷ []) []) (and_swap (meets q l) (holds (heads q) (cut_to q l) c) ∙ ap (λ b. b && meets q l) (holds_kept (stream_cols q) (heads q) l c (search parts)))
  side_row (keep cs q) w a xs l e f =
      ap₂ (λ ds rs. map (kept_row ds cs) rs) (plain_cols q xs) (side_row q w (search parts) xs l e f)
      ∙ map_one (kept_row (heads q) cs) (meets q l) (cut_to q l)
      ∙ ap (λ r. cond (meets q l) (r ∷ []) []) (kept_kept (stream_cols q) (heads q) cs l (search parts))
  side_row (join a b q r) w h xs l e f = absurd w
  side_row (aggregate f c size offset q) w h xs l e i = absurd w

-- ---- columns and streams

pub figure_apart : (hs : ℕ → List Col) → ((s : ℕ) → T (has (hs s) figure) → ⊥) → (ss : List ℕ) → T (has (gather hs ss) figure) → ⊥
unfolding gather
figure_apart hs f [] t = unfold has some? in t
figure_apart hs f (s ∷ ss) t = has_append figure (hs s) (gather hs ss) t (f s) (figure_apart hs f ss)

pub no_figure : (d : Schema) (s : ℕ) → T (has (columns_of d s) figure) → ⊥
unfolding columns_of
no_figure d s t = go (count_from 0 (length (nth no_stream d s).columns)) t
  where
    go : (ns : List ℕ) → T (has (map (col s) ns) figure) → ⊥
    go [] t = unfold has some? in t
    go (n ∷ ns) t = go ns (unfold has some? same_col in t)

pub every_by : (p : Col → Bool) (cs : List Col) → ((c : Col) → T (has cs c) → T (p c)) → T (every p cs)
unfolding every has some?
every_by p [] f = tt
every_by p (c ∷ cs) f = and_both (p c) (every p cs) (f c (or_l (same_col c c) _ (same_col_refl c))) (every_by p cs (λ e t. f e (or_r (same_col e c) _ t)))

pub by_every : (p : Col → Bool) (c : Col) (cs : List Col) → T (every p cs) → T (has cs c) → T (p c)
unfolding every has some?
by_every p c [] h t = absurd t
by_every p c (e ∷ cs) h t = or_cases (same_col c e) (some? (same_col c) cs) t (λ u. rw (same_col→eq c e u) (search parts)) (λ u. by_every p c cs (search parts) u)

pub all_by : {P : Col → Type 0} (cs : List Col) → ((c : Col) → T (has cs c) → P c) → All P cs
unfolding has some?
all_by [] f = all_nil
all_by (c ∷ cs) f = all_cons (f c (or_l (same_col c c) _ (same_col_refl c))) (all_by cs (λ e t. f e (or_r (same_col e c) _ t)))

module _ (d : Schema) where
  -- the columns of a query are of its streams
  pub header_in : (q : Query ℕ) → T (no_aggregate q) → T (allowed (columns_of d) q) → T (within (header (columns_of d) q) (gather (columns_of d) (sources q)))
  unfolding no_aggregate allowed header sources gather
  header_in (source s) a w = rw (append_nil (columns_of d s)) (within_by (columns_of d s) (columns_of d s) (λ c t. t))
  header_in (pick c q) a w = header_in q a (search parts)
  header_in (keep cs q) a w = within_trans cs (header (columns_of d) q) _ (search parts) (header_in q a (search parts))
  header_in (join m n q r) a w =
      rw (gather_append (columns_of d) (sources q) (sources r))
      (within_both (header (columns_of d) q) (header (columns_of d) r) _
      (within_by (header (columns_of d) q) _ (λ c t. has_append_l c (gather (columns_of d) (sources q)) _ (has_within c _ (header (columns_of d) q) (header_in q (search parts) (search parts)) t)))
      (within_by (header (columns_of d) r) _ (λ c t. has_append_r c (gather (columns_of d) (sources q)) _ (has_within c _ (header (columns_of d) r) (header_in r (search parts) (search parts)) t))))
  header_in (aggregate f c size offset q) a w = absurd a

  -- what a grant on the streams shows of one of their columns
  pub shown_column : (g : Grant) (ss : List ℕ) → g.of ≡ ss → (c : Col) → T (has (gather (columns_of d) ss) c) → has (shown_of d g) c ≡ some? (same_col c) g.shown
  unfolding shown_of
  shown_column g ss e c t = has_select_same (λ c. some? (same_col c) g.shown) c (gather (columns_of d) g.of) (subst (λ l. T (has (gather (columns_of d) l) c)) (sym e) t)

  pub one_shows : (g : Grant) (ss : List ℕ) (c : Col) → T (has (gather (columns_of d) ss) c) → shown_by d (g ∷ []) c ≡ has (shown_of d g) c
  unfolding shown_by some?
  one_shows g ss c t = go (same_col c figure) (has (shown_of d g) c) (λ u. figure_apart (columns_of d) (no_figure d) ss (rw (same_col→eq c figure u) at t))
    where
      go : (a b : Bool) → (T a → ⊥) → a || (b || false) ≡ b
      go true b n = absurd (n tt)
      go false true n = refl
      go false false n = refl

  -- a grant on a query's streams leaves what it shows
  pub one_left : (g : Grant) (ss : List ℕ) (cs : List Col) → T (within cs (gather (columns_of d) ss)) → present (shown_of d g) cs ≡ select (shown_by d (g ∷ [])) cs
  unfolding present
  one_left g ss cs w = select_same _ _ (all_by cs (λ c t. sym (one_shows g ss c (has_within c _ cs w t))))

  pub all_of_stream : (g : Grant) (s : ℕ) → g.of ≡ s ∷ [] → shown_of d g ≡ select (shown_by d (g ∷ [])) (columns_of d s)
  unfolding shown_of gather
  all_of_stream g s e =
      ap (select (λ c. some? (same_col c) g.shown)) (ap (gather (columns_of d)) e ∙ append_nil (columns_of d s))
      ∙ select_same _ _ (all_by (columns_of d s) (λ c t. sym (one_shows g (s ∷ []) c (own c t) ∙ shown_column g (s ∷ []) e c (own c t))))
    where
      own : (c : Col) → T (has (columns_of d s) c) → T (has (gather (columns_of d) (s ∷ [])) c)
      own c t = has_append_l c (columns_of d s) [] t

-- ---- open grants

every_none : {A : Type 0} (p : A → Bool) (xs : List A) → ((a : A) → T (p a) → ⊥) → T (every p xs) → xs ≡ []
unfolding every
every_none p [] f h = refl
every_none p (x ∷ xs) f h = absurd (f x (search parts))

no_limits : (who : Caller) (ws : List (Cond Compare)) (f t : Option ℕ) → T (absent f) → T (absent t) → map (fill who.profile) ws ++ (limit ge f ++ limit le t) ≡ map (fill who.profile) ws
unfolding absent limit
no_limits who ws none none h k = append_nil _
no_limits who ws none (some n) h k = absurd k
no_limits who ws (some m) t h k = absurd h

module _ (d : Schema) (who : Caller) (q : Query ℕ) (g : Grant) (h : T (open_to d q g)) where
  -- its times limit nothing
  pub open_when : limits who g ≡ map (fill who.profile) g.when
  unfolding open_to limits
  open_when = no_limits who g.when g.from g.to (search parts) (search parts)

  -- and on one stream it has no condition
  pub open_limits : T (single g.of) → limits who g ≡ []
  unfolding open_to
  open_limits s =
      open_when ∙ ap (map (fill who.profile)) (every_none (λ c. not (single g.of) && joins_by c q) g.when (λ c t. T_not (single g.of) (and_l (not (single g.of)) _ t) s) (search parts))

  pub open_shows : (ss : List ℕ) → g.of ≡ ss → (c : Col) → T (has (gather (columns_of d) ss) c) → T (has (shown_of d g) c)
  unfolding open_to has
  open_shows ss e c t =
      rw (shown_column d g ss e c t)
      (has_within c g.shown (gather (columns_of d) g.of) (search parts) (subst (λ l. T (has (gather (columns_of d) l) c)) (sym e) t))
