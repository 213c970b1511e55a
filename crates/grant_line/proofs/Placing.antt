-- Check 4 of a grant line by what is read of it, where nothing is above its bound or undeclared.
use mathlib.Core.Path.{◌≡◌, refl, sym, ap, ◌∙◌}
use mathlib.Core.List.{List, [], ◌∷◌, ◌++◌, map}
use mathlib.Core.Bool.{Bool, true, false, ◌&&◌, ◌||◌, not}
use mathlib.Core.Option.{Option, none, some}
use Prim.Native.Nat.{ℕ, ◌≤◌, min}
use native.Mathlib.Omega.{arith}
use lib.IntN.{ℤ, pos, negsuc}
use lib.Bits.{bit_or}
use lib.Dec.{T, eqb, leb, ltb, leb→le, lt→ltb}
use lib.ListN.{length, length-map}
use borrow.Author.Tests.{ne_eqb, lt-ltb, le-ltb, leb-true, leb-false}
use Rattle.lists.specs.Lists.{every, empty?, gather, count_from}
use Rattle.lists.proofs.Laws.{parts, T_true, every_map, empty_map}
use Rattle.lists.proofs.Gathers.{every_of_map}
use Rattle.syntax.specs.Grammar as G
use Rattle.syntax.specs.Grammar.{Bytes, Test, Cond, Show, Span, Right, GrantLine, some_all, grant?, fn_number, right_number}
use Rattle.syntax.specs.Limits.{is_time, natural}
use Rattle.syntax.proofs.Aggregates.{fn_range}
use Rattle.model.specs.Conditions.{tests, map_cond}
use Rattle.model.specs.Queries as M
use Rattle.model.specs.Queries.{Col, columns_of}
use Rattle.model.specs.Checks.{has, within, cond_cols, when_left, when_right, grantable, in_order, grant_placed}
use Rattle.model.proofs.Columns.{within_select, within_by}
use Rattle.calls.specs.Bounds.{is_limit, grant_bounded}
use Rattle.calls.specs.Names.{stream_number, column_of, compare_of, shown_columns, map_option, cond_refs, show_refs, resolve_grant}
use Rattle.calls.specs.Tables.{declared, ref_declared, window_allowed, show_placed}
use Rattle.text.specs.Words.{time_kept}
use Rattle.schema.specs.Schemas.{streams_in, schema_of, schema_sound}
use Rattle.masks.specs.Masks.{mask_of, inside}
use Rattle.terms.specs.Terms.{left_code, right_code}
use Rattle.terms.proofs.Resolving.{fine, stream_below}
use Rattle.items.specs.Items.{first_of}
use Rattle.columns.specs.Columns.{stream_place, streams_seen, columns_seen}
use Rattle.columns.proofs.Declared.{places_numbers}
use Rattle.columns.proofs.ColumnBits.{refs_inside, left_bit, right_bit}
use Rattle.conditions.specs.declared.Seen.{Seen}
use Rattle.conditions.specs.Seeing.{seen_of}
use Rattle.grant.specs.Grants.{no_time, places_of, column_codes, streams_mask}
use Rattle.grant_line.specs.Parts.{holder_seen, shown_all, shown_listed, show_of, limit_kept, limit_seen, window_of}
use Rattle.grant_line.specs.Lines.{misplaced_read}
use Rattle.grant_line.proofs.Folds.{every_gathered}
use Rattle.grant_line.proofs.Bounds.{holder, streams, shows, first_time, last_time, span, grant_tests}
use Rattle.grant_line.proofs.Placed.{Places, placed_test, cond_placed, tests_placed}
use Rattle.grant_line.proofs.Known.{good_test, test_declared, of_declared, shown_fine, tests_fine}

-- ---- comparisons whose terms stand where they may

module _ (ns : List ℕ) (sound : T (schema_sound ns)) (ss : List ℕ) (b : T (every (λ s. ltb s (streams_in ns)) ss)) where
  abbrev d : M.Schema
  d = schema_of ns

  abbrev theirs : List Col
  theirs = gather (columns_of d) ss

  abbrev mask : ℕ
  mask = streams_mask ns ss

  abbrev wider : ℕ
  wider = bit_or mask 201326592

  at : Places ns theirs when_left when_right mask wider
  unfolding streams_mask column_codes
  at = record { left = left_bit ns ss b sound; right = right_bit ns ss b sound }

  pub when_placed : (cs : List (Cond Test)) → T (every (λ t. good_test t && test_declared ns t) (gather tests cs))
      → every (λ c. grantable c && within (cond_cols c) theirs) (map (map_cond (compare_of d)) cs) ≡ (inside (mask_of (map (left_code ns) (gather tests cs))) mask && inside (mask_of (map (right_code ns) (gather tests cs))) wider)
  unfolding grantable
  when_placed cs h =
      every_of_map (λ c. grantable c && within (cond_cols c) theirs) (map_cond (compare_of d)) cs
      ∙ every_gathered (placed_test at sound) (λ c. grantable (map_cond (compare_of d) c) && within (cond_cols (map_cond (compare_of d) c)) theirs) tests (cond_placed at sound) cs
      ∙ tests_placed at sound (gather tests cs) h

  -- ---- what is shown

  show_inside : (x : Show) → T (every (fine ns) (show_refs x)) → (not (show_of ns [] x 0).all && not (inside (show_of ns [] x 0).mask mask)) ≡ not (within (map (column_of d) (show_refs x)) theirs)
  unfolding show_of shown_all shown_listed columns_seen show_refs within every streams_mask column_codes
  show_inside G.everything t = refl
  show_inside (G.listed rs) t = ap not (refs_inside ns ss b sound rs t)

  shown_within : (x : Show) → T (within (shown_columns d ss x) theirs)
  unfolding shown_columns
  shown_within G.everything = within_by theirs theirs (λ c t. t)
  shown_within (G.listed rs) = within_select (λ c. has (map (column_of d) rs) c) theirs

-- ---- limits and the window

pub kept_time : (n : ℤ) → T (is_time n) → (time_kept n ≡ natural n) × (natural n ≤ 2147483647)
unfolding time_kept is_time natural
kept_time (pos n) t = (rw (T_true (leb n 2147483647) t), leb→le n 2147483647 t)
kept_time (negsuc n) t = absurd t

order_is : (f t : Option ℤ) → T (is_limit f) → T (is_limit t) → (not (eqb (limit_kept f) no_time) && ltb (limit_kept t) (limit_kept f)) ≡ not (in_order (map_option natural f) (map_option natural t))
unfolding limit_kept map_option in_order is_limit
order_is none t x y = refl
order_is (some a) none x y =
    let h = kept_time a x in
    let l = h.1 in
    rw (h.0, ne_eqb (natural a) 4294967295 (λ e. omega arith), le-ltb 4294967295 (natural a) (omega arith))
order_is (some a) (some b) x y =
    let h = kept_time a x in
    let i = kept_time b y in
    let l = h.1 in
    rw (h.0, i.0, ne_eqb (natural a) 4294967295 (λ e. omega arith)) (go (natural a) (natural b) (leb (natural a) (natural b)) refl)
  where
    go : (m n : ℕ) (x : Bool) → leb m n ≡ x → ltb n m ≡ not x
    go m n true e = le-ltb n m (leb-true m n e)
    go m n false e = lt-ltb n m (leb-false m n e)

window_is : (r : Right) (w : Option Span) → (eqb (right_number r) 0 && (window_of w 0).given) ≡ not (window_allowed r w)
unfolding right_number window_of window_allowed
window_is G.read none = refl
window_is G.read (some w) = refl
window_is (G.figures f) w = rw (ne_eqb (fn_number f) 0 (λ e. let h = (fn_range f).0 in omega arith))

-- ---- the streams

two_places : (xs : List ℕ) → length xs ≤ 2 → places_of (min (length xs) 5) (first_of 4 0 xs) ≡ xs
unfolding places_of first_of count_from
two_places [] h = refl
two_places (a ∷ []) h = refl
two_places (a ∷ (b ∷ [])) h = refl
two_places (a ∷ (b ∷ (c ∷ xs))) h = absurd (omega arith)

few_streams : (n : ℕ) → ltb 2 (min n 5) ≡ not (leb n 2)
few_streams n = go (leb n 2) refl
  where
    go : (t : Bool) → leb n 2 ≡ t → ltb 2 (min n 5) ≡ not t
    go true e = let h = leb-true n 2 e in le-ltb 2 (min n 5) (omega arith)
    go false e = let h = leb-false n 2 e in lt-ltb 2 (min n 5) (omega arith)

module _ (ns : List ℕ) (sound : T (schema_sound ns)) (of : List Bytes) (known : T (every (declared (schema_of ns)) of)) where
  pub numbers_below : T (every (λ s. ltb s (streams_in ns)) (map (stream_number (schema_of ns)) of))
  numbers_below = every_map (declared (schema_of ns)) (λ s. ltb s (streams_in ns)) (stream_number (schema_of ns)) (λ n t. lt→ltb (stream_number (schema_of ns) n) (streams_in ns) (stream_below ns sound n t)) of known

  -- the first places are those of the line's streams, where it has at most two
  pub places_are : length of ≤ 2 → places_of (min (length of) 5) (first_of 4 0 (map (stream_place ns) of)) ≡ map (stream_number (schema_of ns)) of
  places_are h =
      let e = places_numbers ns sound of known in
      let l = length-map of (stream_number (schema_of ns)) in
      ap (λ xs. places_of (min (length of) 5) (first_of 4 0 xs)) e
      ∙ ap (λ n. places_of (min n 5) (first_of 4 0 (map (stream_number (schema_of ns)) of))) (sym l)
      ∙ two_places (map (stream_number (schema_of ns)) of) (omega arith)

-- ---- the check

six : (n s l r o w : Bool) → (not n || (not s || (not l || (not r || (not o || not w))))) ≡ not (s && (((((true && n) && true) && (l && r)) && o) && w))
six true true true true true w = refl
six true true true true false w = refl
six true true true false o w = refl
six true true false r o w = refl
six true false l r o w = refl
six false true l r o w = refl
six false false l r o w = refl

or_six : {a b e f a' b' e' f' : Bool} (c d : Bool) → a ≡ a' → b ≡ b' → e ≡ e' → f ≡ f' → (a || (b || (c || (d || (e || f))))) ≡ (a' || (b' || (c || (d || (e' || f')))))
or_six c d x y z w = rw (x, y, z, w)

module _ (ns : List ℕ) (sound : T (schema_sound ns)) (g : GrantLine) (good : T (grant? g)) (bounded : T (grant_bounded g))
    (known : T (every (declared (schema_of ns)) g.of && every (ref_declared (schema_of ns)) (show_refs g.show ++ gather cond_refs g.when))) where
  abbrev numbers : List ℕ
  numbers = map (stream_number (schema_of ns)) g.of

  streams_known : T (every (declared (schema_of ns)) g.of)
  streams_known = of_declared ns sound g good bounded known

  below : T (every (λ s. ltb s (streams_in ns)) numbers)
  below = numbers_below ns sound g.of streams_known

  some_streams : not (empty? numbers) ≡ true
  unfolding grant? some_all
  some_streams = ap not (empty_map (stream_number (schema_of ns)) g.of) ∙ T_true (not (empty? g.of)) (search parts depth 9)

  abbrev few : Bool
  few = leb (length g.of) 2

  abbrev shows_theirs : Bool
  shows_theirs = within (map (column_of (schema_of ns)) (show_refs g.show)) (theirs ns sound numbers below)

  abbrev conds_theirs : Bool
  conds_theirs = every (λ c. grantable c && within (cond_cols c) (theirs ns sound numbers below)) (map (map_cond (compare_of (schema_of ns))) g.when)

  abbrev ordered : Bool
  ordered = in_order (map_option natural g.from) (map_option natural g.to)

  abbrev allowed : Bool
  allowed = window_allowed g.right g.window

  -- the check of the line
  abbrev placed : Bool
  placed = show_placed (schema_of ns) g && (grant_placed (schema_of ns) (resolve_grant (schema_of ns) g) && window_allowed g.right g.window)

  placed_is : placed ≡ (shows_theirs && (((((true && few) && true) && conds_theirs) && ordered) && allowed))
  unfolding show_placed grant_placed resolve_grant
  placed_is =
      rw (some_streams, length-map g.of (stream_number (schema_of ns)), T_true (within (shown_columns (schema_of ns) numbers g.show) (theirs ns sound numbers below)) (shown_within ns sound numbers below g.show))

  limits : T (is_limit g.from) × T (is_limit g.to)
  unfolding grant_bounded
  limits = (search parts depth 9, search parts depth 9)

  -- the mask of its streams' columns as the code has it
  abbrev columns : ℕ
  columns = streams_mask ns (places_of (streams ns g).count (streams ns g).places)

  pub columns_are : length g.of ≤ 2 → columns ≡ streams_mask ns numbers
  unfolding streams_seen
  columns_are h = ap (streams_mask ns) (places_are ns sound g.of streams_known h)

  module _ (n : ℕ) where
    abbrev told : Seen
    told = seen_of ns (grant_tests g) 0 n

    abbrev lefts : Bool
    lefts = inside (mask_of (map (left_code ns) (grant_tests g))) (streams_mask ns numbers)

    abbrev rights : Bool
    rights = inside (mask_of (map (right_code ns) (grant_tests g))) (bit_or (streams_mask ns numbers) 201326592)

    parts_are : misplaced_read (streams_mask ns numbers) (holder g) (streams ns g) (shows ns g) told (first_time g) (last_time g) (span g) ≡ (not few || (not shows_theirs || (not lefts || (not rights || (not ordered || not allowed)))))
    unfolding misplaced_read seen_of streams_seen holder_seen limit_seen
    parts_are =
        or_six (not lefts) (not rights) (few_streams (length g.of)) (show_inside ns sound numbers below g.show (shown_fine ns sound g good bounded known)) (order_is g.from g.to limits.0 limits.1) (window_is g.right g.window)

    misplaced_few : few ≡ true → misplaced_read columns (holder g) (streams ns g) (shows ns g) told (first_time g) (last_time g) (span g) ≡ not placed
    misplaced_few e =
        ap (λ m. misplaced_read m (holder g) (streams ns g) (shows ns g) told (first_time g) (last_time g) (span g)) (columns_are (leb-true (length g.of) 2 e)) ∙ parts_are
        ∙ six few shows_theirs lefts rights ordered allowed
        ∙ ap not (sym (placed_is ∙ ap (λ b. shows_theirs && (((((true && few) && true) && b) && ordered) && allowed)) (when_placed ns sound numbers below g.when (tests_fine ns sound g good bounded known))))

    none_placed : (s : Bool) → (s && false) ≡ false
    none_placed true = refl
    none_placed false = refl

    misplaced_many : few ≡ false → misplaced_read columns (holder g) (streams ns g) (shows ns g) told (first_time g) (last_time g) (span g) ≡ not placed
    unfolding misplaced_read streams_seen
    misplaced_many e =
        let z : (shows_theirs && (((((true && few) && true) && conds_theirs) && ordered) && allowed)) ≡ false = rw e (none_placed shows_theirs) in
        rw (few_streams (length g.of) ∙ ap not e) (ap not (sym (placed_is ∙ z)))

    pub misplaced_is : misplaced_read columns (holder g) (streams ns g) (shows ns g) told (first_time g) (last_time g) (span g) ≡ not placed
    misplaced_is = go few refl
      where
        go : (b : Bool) → few ≡ b → misplaced_read columns (holder g) (streams ns g) (shows ns g) told (first_time g) (last_time g) (span g) ≡ not placed
        go true e = misplaced_few e
        go false e = misplaced_many e
