-- What a query asks, part by part: its equality, times, picks and aggregate.
use mathlib.Core.Path.{◌≡◌, refl, sym, ap, ap₂, ◌∙◌, subst}
use mathlib.Core.List.{List, [], ◌∷◌, ◌++◌}
use mathlib.Core.Bool.{Bool, true, false, ◌&&◌, ◌||◌, not, or-false}
use Prim.Native.Nat.{ℕ, ◌+◌, ◌*◌, ◌/◌, ◌%◌, ◌≤◌}
use native.Mathlib.Omega.{arith}
use lib.Dec.{T, leb, ltb, ltb→lt}
use borrow.Author.Tests.{eq-eqb, ne_eqb, lt-ltb}
use Rattle.lists.specs.Lists.{every, some?, empty?, gather}
use Rattle.lists.proofs.Laws.{and_l, and_r, and_both, or_cases, parts, every_append_l, every_append_r}
use Rattle.lists.proofs.Gathers.{some_append}
use Rattle.syntax.specs.Grammar.{Cond, Fn, fn_number}
use Rattle.syntax.proofs.Aggregates.{fn_range}
use Rattle.model.specs.Conditions.{tests}
use Rattle.model.specs.Queries.{Col, col, figure, columns_of, Compare, Query, source, pick, keep, join, aggregate, sources, picks, header, Grant, Caller}
use Rattle.model.specs.Grants.{shown_of}
use Rattle.model.specs.Checks.{has, timed, no_aggregate, side, linked, allowed}
use Rattle.model.specs.Routes.{gives, is_equality, single}
use Rattle.model.proofs.Asked.{joins_by}
use Rattle.model.proofs.RouteKinds.{side_picks, has_equality, numbers, third_kind}
use Rattle.model.proofs.Columns.{has_within}
use Rattle.model.proofs.OneRow.{by_every, header_in}
use Rattle.model.proofs.Forms.{side_free}
use Rattle.schema.specs.Schemas.{streams_in, schema_of}
use Rattle.schema.proofs.Tests.{streams_most}
use Rattle.grant.proofs.Masked.{low, declared_stream, cols_low}
use Rattle.masks.specs.Masks.{bit?}
use Rattle.query.specs.Forms.{coded_col}
use Rattle.comparisons.specs.Compared.{named_by}
use Rattle.needs.specs.Asking.{no_stream, col_code, rows_needs, pick_needs, keep_needs, join_needs, aggregate_needs, needs_of}
use Rattle.needs.proofs.Fields.{named_time, streams_are}

or_swap : (a b : Bool) → (a || b) ≡ (b || a)
or_swap true true = refl
or_swap true false = refl
or_swap false true = refl
or_swap false false = refl

one_stream : (s : ℕ) → single (s ∷ []) ≡ false → ⊥
unfolding single
one_stream s u = subst T u tt

-- ---- columns by their codes

pub coded_back : (n : ℕ) (c : Col) → n ≤ 4 → T (low n c) → coded_col (col_code c) ≡ c
unfolding low coded_col col_code
coded_back n (col s k) h t =
    let a = ltb→lt s n (and_l (ltb s n) (ltb k 6) t) in
    let b = ltb→lt k 6 (and_r (ltb s n) (ltb k 6) t) in
    let i : (s * 6 + k) / 6 ≡ s = omega arith in
    let j : (s * 6 + k) % 6 ≡ k = omega arith in
    rw (lt-ltb (s * 6 + k) 24 (omega arith)) (ap₂ col i j)
coded_back n figure h t = absurd t

module _ (ns : List ℕ) where
  abbrev hs : ℕ → List Col
  hs = columns_of (schema_of ns)

  -- a column of a side is one of a stream's
  side_low : (q : Query ℕ) (c : Col) → T (side q) → T (allowed hs q) → T (every (declared_stream ns) (sources q)) → T (has (header hs q) c) → T (low (streams_in ns) c)
  side_low q c w a t h =
      by_every (low (streams_in ns)) c (gather hs (sources q)) (cols_low ns (sources q) t) (has_within c (gather hs (sources q)) (header hs q) (header_in (schema_of ns) q (side_free q w) a) h)

  module _ (a b : Col) (q r : Query ℕ) (w : T (allowed hs (join a b q r))) (t : T (every (declared_stream ns) (sources q ++ sources r))) where
    one_low : (c e : Col) → T (linked c e (header hs q) (header hs r)) → T (low (streams_in ns) c)
    unfolding linked allowed
    one_low c e l =
        or_cases (has (header hs q) c && has (header hs r) e) (has (header hs q) e && has (header hs r) c) l
        (λ u. side_low q c (search parts) (search parts) (every_append_l (declared_stream ns) (sources q) (sources r) t) (search parts))
        (λ u. side_low r c (search parts) (search parts) (every_append_r (declared_stream ns) (sources q) (sources r) t) (search parts))

    other_low : T (linked a b (header hs q) (header hs r)) → T (low (streams_in ns) b)
    unfolding linked allowed
    other_low l =
        or_cases (has (header hs q) a && has (header hs r) b) (has (header hs q) b && has (header hs r) a) l
        (λ u. side_low r b (search parts) (search parts) (every_append_r (declared_stream ns) (sources q) (sources r) t) (search parts))
        (λ u. side_low q b (search parts) (search parts) (every_append_l (declared_stream ns) (sources q) (sources r) t) (search parts))

    join_equality : (e : Cond Compare) → is_equality a b e ≡ is_equality (coded_col (col_code a)) (coded_col (col_code b)) e
    unfolding allowed
    join_equality e =
        let l = streams_most ns in
        ap₂ (λ x y. is_equality x y e) (sym (coded_back (streams_in ns) a l (one_low a b (search parts)))) (sym (coded_back (streams_in ns) b l (other_low (search parts))))

  -- the equality of its join by the codes of its columns
  pub equality_same : (q : Query ℕ) → T (allowed hs q) → T (every (declared_stream ns) (sources q)) → single (sources q) ≡ false → (e : Cond Compare)
      → joins_by e q ≡ is_equality (coded_col (needs_of ns q).first) (coded_col (needs_of ns q).second) e
  unfolding joins_by needs_of pick_needs keep_needs join_needs aggregate_needs sources allowed
  equality_same (source s) w t u e = absurd (one_stream s u)
  equality_same (pick c q) w t u e = equality_same q (search parts) t u e
  equality_same (keep cs q) w t u e = equality_same q (search parts) t u e
  equality_same (join a b q r) w t u e = join_equality a b q r w t e
  equality_same (aggregate f c size offset q) w t u e = equality_same q (search parts) t u e

  -- ---- times

  side_times : (q : Query ℕ) → T (side q) → ((needs_of ns q).timed ≡ some? timed (picks q)) × ((needs_of ns q).right ≡ no_stream)
  unfolding side picks needs_of rows_needs pick_needs keep_needs
  side_times (source s) w = (unfold some? in refl, refl)
  side_times (pick c q) w =
      let h = side_times q w in
      (ap₂ ◌||◌ h.0 (ap₂ ◌&&◌ (eq-eqb (needs_of ns q).right no_stream h.1) (named_time c)) ∙ or_swap (some? timed (picks q)) (timed c) ∙ more, h.1)
    where
      more : (timed c || some? timed (picks q)) ≡ some? timed (c ∷ picks q)
      more = unfold some? in refl
  side_times (keep cs q) w = side_times q w
  side_times (join a b q r) w = absurd w
  side_times (aggregate f c size offset q) w = absurd w

  -- a pick on `time` below the join
  pub times_are : (q : Query ℕ) → T (allowed hs q) → T (every (declared_stream ns) (sources q)) → single (sources q) ≡ false → (needs_of ns q).timed ≡ some? timed (side_picks q)
  unfolding side_picks needs_of pick_needs keep_needs join_needs aggregate_needs sources allowed
  times_are (source s) w t u = absurd (one_stream s u)
  times_are (pick c q) w t u =
      let h = (streams_are ns hs q (search parts) t).both u in
      ap (λ b. (needs_of ns q).timed || b) (ap (λ b. b && bit? (named_by (tests c)) 24) (ne_eqb (needs_of ns q).right no_stream (λ e. omega (arith, h.1)))) ∙ or-false (needs_of ns q).timed ∙ times_are q (search parts) t u
  times_are (keep cs q) w t u = times_are q (search parts) t u
  times_are (join a b q r) w t u = ap₂ ◌||◌ (side_times q (search parts)).0 (side_times r (search parts)).0 ∙ sym (some_append timed (picks q) (picks r))
  times_are (aggregate f c size offset q) w t u = times_are q (search parts) t u

  -- ---- picks and the aggregate

  or_empty : {A : Type 0} (xs ys : List A) → (not (empty? xs) || not (empty? ys)) ≡ not (empty? (xs ++ ys))
  unfolding empty?
  or_empty [] ys = refl
  or_empty (x ∷ xs) ys = refl

  pub plain_picks : (q : Query ℕ) → T (no_aggregate q) → ((needs_of ns q).picked ≡ not (empty? (picks q))) × ((needs_of ns q).aggregate ≡ 0)
  unfolding no_aggregate picks needs_of rows_needs pick_needs keep_needs join_needs
  plain_picks (source s) w = (unfold empty? in refl, refl)
  plain_picks (pick c q) w =
      let h = plain_picks q w in
      (ap (λ b. (needs_of ns q).picked || b) (eq-eqb (needs_of ns q).aggregate 0 h.1) ∙ or_true (needs_of ns q).picked ∙ some, h.1)
    where
      or_true : (b : Bool) → (b || true) ≡ true
      or_true true = refl
      or_true false = refl

      some : true ≡ not (empty? (c ∷ picks q))
      some = unfold empty? in refl
  plain_picks (keep cs q) w = plain_picks q w
  plain_picks (join a b q r) w = (ap₂ ◌||◌ (plain_picks q (search parts)).0 (plain_picks r (search parts)).0 ∙ or_empty (picks q) (picks r), refl)
  plain_picks (aggregate f c size offset q) w = absurd w

  -- an aggregate, and the query below it
  pub record Below (q : Query ℕ) (f : Fn) (c : Col) (q' : Query ℕ) : Type 0 where
    pub number : (needs_of ns q).aggregate ≡ fn_number f
    pub code : (needs_of ns q).column ≡ col_code c
    pub picked : (needs_of ns q).picked ≡ not (empty? (picks q'))
    pub over : T (no_aggregate q') × T (has (header hs q') c) × T (allowed hs q')
    pub streams : sources q ≡ sources q'
    pub equal : (g : Grant) → has_equality q g ≡ has_equality q' g
    pub head : header hs q ≡ figure ∷ []
    pub routes : (who : Caller) (catalogue : List Grant)
        → third_kind (schema_of ns) who catalogue q
        ≡ numbers (schema_of ns) who catalogue (gives f) (sources q')
        (λ g. has_equality q' g && (empty? (picks q') && (has (shown_of (schema_of ns) g) c && (leb g.size (needs_of ns q).size && leb g.offset (needs_of ns q).offset))))

  -- a query has no aggregate, or one
  pub data Figured (q : Query ℕ) : Type 0 where
    none_there : T (no_aggregate q) → (needs_of ns q).aggregate ≡ 0 → ((who : Caller) (catalogue : List Grant) → third_kind (schema_of ns) who catalogue q ≡ []) → Figured q
    one_there : {f : Fn} {c : Col} {q' : Query ℕ} → Below q f c q' → Figured q

  pub fn_some : (f : Fn) → fn_number f ≡ 0 → ⊥
  fn_some f e = let h = (fn_range f).0 in omega arith

  pick_below : (p : Cond Compare) (q : Query ℕ) (f : Fn) (c : Col) (q' : Query ℕ) → Below q f c q' → Below (pick p q) f c q'
  unfolding needs_of pick_needs sources has_equality joins_by header third_kind
  pick_below p q f c q' h = record {
    number = h.number;
    code = h.code;
    picked = ap (λ b. (needs_of ns q).picked || b) (ne_eqb (needs_of ns q).aggregate 0 (λ e. fn_some f (sym h.number ∙ e))) ∙ or-false (needs_of ns q).picked ∙ h.picked;
    over = h.over;
    streams = h.streams;
    equal = h.equal;
    head = h.head;
    routes = h.routes;
  }

  pick_figured : (p : Cond Compare) (q : Query ℕ) → Figured q → Figured (pick p q)
  unfolding no_aggregate needs_of pick_needs third_kind
  pick_figured p q (none_there a e h) = none_there a e h
  pick_figured p q (one_there {f} {c} {q'} b) = one_there (pick_below p q f c q' b)

  keep_figured : (cs : List Col) (q : Query ℕ) → T (no_aggregate q) → Figured (keep cs q)
  unfolding no_aggregate needs_of keep_needs third_kind
  keep_figured cs q a = none_there a (plain_picks q a).1 (λ who catalogue. refl)

  join_figured : (a b : Col) (q r : Query ℕ) → T (side q) → T (side r) → Figured (join a b q r)
  unfolding no_aggregate needs_of join_needs third_kind
  join_figured a b q r v w = none_there (and_both (no_aggregate q) (no_aggregate r) (side_free q v) (side_free r w)) refl (λ who catalogue. refl)

  aggregate_figured : (f : Fn) (c : Col) (size offset : ℕ) (q : Query ℕ) → T (no_aggregate q) → T (has (header hs q) c) → T (allowed hs q) → Figured (aggregate f c size offset q)
  unfolding needs_of aggregate_needs sources has_equality joins_by header third_kind
  aggregate_figured f c size offset q a h w = one_there {f = f} {c = c} {q' = q} (record {
    number = refl;
    code = refl;
    picked = (plain_picks q a).0;
    over = (a, h, w);
    streams = refl;
    equal = λ g. refl;
    head = refl;
    routes = λ who catalogue. refl;
  })

  source_figured : (s : ℕ) → Figured (source s)
  unfolding no_aggregate needs_of rows_needs third_kind
  source_figured s = none_there tt refl (λ who catalogue. refl)

  pub figured_is : (q : Query ℕ) → T (allowed hs q) → Figured q
  unfolding allowed
  figured_is (source s) w = source_figured s
  figured_is (pick c q) w = pick_figured c q (figured_is q (search parts))
  figured_is (keep cs q) w = keep_figured cs q (search parts)
  figured_is (join a b q r) w = join_figured a b q r (search parts) (search parts)
  figured_is (aggregate f c size offset q) w = aggregate_figured f c size offset q (search parts) (search parts) (search parts)
