-- Checks 4 and 5 of a query by its parts, where nothing is above its bound or undeclared.
use mathlib.Core.Path.{◌≡◌, refl, sym, ap, ap₂, ◌∙◌, subst}
use mathlib.Core.List.{List, [], ◌∷◌, ◌++◌, map}
use mathlib.Core.Bool.{Bool, true, false, ◌&&◌, ◌||◌, not}
use Prim.Native.Nat.{ℕ, suc, ◌≤◌, ◌<◌, ◌^◌}
use native.Mathlib.Omega.{arith}
use lib.IntN.{ℤ}
use lib.Bits.{bit_or}
use lib.Dec.{T, eqb, ltb, lt→ltb, ltb→lt}
use lib.ListN.{length, length-append}
use Rattle.lists.specs.Lists.{every, some?, distinct}
use Rattle.lists.proofs.Counting.{map_length}
use Rattle.lists.proofs.Laws.{and_l, and_r, and_both, parts, true_T, T_true, every_both, every_append, every_append_l, every_append_r, never}
use Rattle.syntax.specs.Grammar as G
use Rattle.syntax.specs.Grammar.{Bytes, Fn, Ref, Test, Cond, Form, name?, ref?}
use Rattle.syntax.specs.Limits.{short_ref, not_above, natural}
use Rattle.model.specs.Conditions.{tests, map_cond}
use Rattle.model.specs.Queries as M
use Rattle.model.specs.Queries.{Schema, same_col, columns_of, sources, header}
use Rattle.model.specs.Checks.{within, has, pickable, cond_cols, no_aggregate, side, linked, allowed, placed, fitting, sized, keeps}
use Rattle.model.proofs.Distinct.{once_few}
use Rattle.calls.specs.Names.{cond_refs, stream_number, column_of, compare_of, resolve}
use Rattle.calls.specs.Tables.{declared, ref_declared}
use Rattle.schema.specs.Schemas.{streams_in, width_in, schema_of, schema_sound}
use Rattle.schema.proofs.Lookups.{stream_columns}
use Rattle.schema.proofs.Soundness.{width_most}
use Rattle.schema.proofs.Tests.{streams_most}
use Rattle.masks.specs.Masks.{bit?, with_bit, mask_of}
use Rattle.masks.proofs.Bits.{bit_or_lem, bit_alone}
use Rattle.masks.proofs.Lists.{bit_none}
use Rattle.terms.specs.Terms.{ref_code, left_code, right_code}
use Rattle.terms.proofs.Resolving.{fine, stream_found_is, stream_below}
use Rattle.columns.specs.Columns.{stream_place}
use Rattle.columns.proofs.Closing.{eqb_sym}
use Rattle.columns.proofs.Declared.{columns_fine}
use Rattle.columns.proofs.StreamLists.{with_small}
use Rattle.grant_line.proofs.Known.{good_test, test_declared}
use Rattle.query_read.specs.Parts as R
use Rattle.query_read.specs.Parts.{Part, rows, pick, keep, join, aggregate, Inner, inner}
use Rattle.query_read.specs.Seeing.{span_kept}
use Rattle.query_read.proofs.Answering.{conds_in}
use Rattle.query_line.specs.declared.Side.{Side}
use Rattle.query_line.specs.declared.Placing.{Placing}
use Rattle.query_line.specs.Placing.{sideless, begun, with_rows, unpicked, with_pick, unkept, with_keep, links, unjoined, with_join, ungrouped, unfitting, with_aggregate}
use Rattle.query_line.proofs.Parts.{streams_in as streams-held, refs_in, spans_in, shallow_part}
use Rattle.query_line.proofs.Bounds.{part_bounded, part_fine}
use Rattle.query_line.proofs.Known.{part_good, part_declared, conds_good, pick_bounded, join_bounded, aggregate_bounded, spans_bounded, declared_tests}
use Rattle.query_line.proofs.Headers.{Shows, rows_shown, rows_plain, join_shown, join_plain, aggregate_shown, inside_within, keep_shown, keep_plain, links_linked, pick_placed}
use Rattle.query_line.proofs.Running.{place_part, run_parts, run_append}

or_not_either : (a b c : Bool) → ((a || not c) || not b) ≡ (a || not (b && c))
or_not_either true b c = refl
or_not_either false true true = refl
or_not_either false true false = refl
or_not_either false false true = refl
or_not_either false false false = refl

-- ---- tests

not_back : (a : Bool) → not (not a) ≡ a
not_back true = refl
not_back false = refl

pub both_left : (a b : Bool) → (a && b) ≡ true → a ≡ true
both_left true b e = refl
both_left false b e = e

pub both_right : (a b : Bool) → (a && b) ≡ true → b ≡ true
both_right true b e = e
both_right false b e = never (sym e)

-- a check more, where what is inside was allowed
one_more : (m a x c u : Bool) → (a ≡ true → u ≡ not x) → ((m || (not a || c)) || u) ≡ (m || (not (x && a) || c))
one_more m true x c u f = rw (f refl) (go m x c)
  where
    go : (m x c : Bool) → ((m || (false || c)) || not x) ≡ (m || (not (x && true) || c))
    go true x c = refl
    go false true true = refl
    go false true false = refl
    go false false true = refl
    go false false false = refl
one_more true false x c u f = refl
one_more false false true c u f = refl
one_more false false false c u f = refl

two_more : (m ar aq x cr cq u : Bool) → (aq ≡ true → ar ≡ true → u ≡ not x) → (((m || (not ar || cr)) || (not aq || cq)) || u) ≡ (m || (not ((x && aq) && ar) || (cr || cq)))
two_more m true true x cr cq u f = rw (f refl refl) (go m x cr cq)
  where
    go : (m x cr cq : Bool) → (((m || (false || cr)) || (false || cq)) || not x) ≡ (m || (not ((x && true) && true) || (cr || cq)))
    go true x cr cq = refl
    go false true true cq = refl
    go false true false true = refl
    go false true false false = refl
    go false false true cq = refl
    go false false false true = refl
    go false false false false = refl
two_more true true false x cr cq u f = refl
two_more false true false true true cq u f = refl
two_more false true false true false cq u f = refl
two_more false true false false true cq u f = refl
two_more false true false false false cq u f = refl
two_more true false aq x cr cq u f = refl
two_more false false aq true cr cq u f = not_all aq
  where
    not_all : (a : Bool) → true ≡ (not ((true && a) && false) || (cr || cq))
    not_all true = refl
    not_all false = refl
two_more false false aq false cr cq u f = refl

le_trans : {a b c : ℕ} → a ≤ b → b ≤ c → a ≤ c
le_trans h k = omega arith

-- ---- streams that are seen, from the last to the first

unfoldable pub seen_after : ℕ → List ℕ → ℕ
seen_after m [] = m
seen_after m (s ∷ ss) = with_bit (seen_after m ss) s

unfoldable pub clash : ℕ → List ℕ → Bool
clash m [] = false
clash m (s ∷ ss) = clash m ss || bit? (seen_after m ss) s

seen_append : (m : ℕ) (xs ys : List ℕ) → seen_after m (xs ++ ys) ≡ seen_after (seen_after m ys) xs
unfolding seen_after
seen_append m [] ys = refl
seen_append m (x ∷ xs) ys = ap (λ n. with_bit n x) (seen_append m xs ys)

clash_append : (m : ℕ) (xs ys : List ℕ) → clash m (xs ++ ys) ≡ (clash m ys || clash (seen_after m ys) xs)
unfolding clash
clash_append m [] ys = or_false (clash m ys)
  where
    or_false : (a : Bool) → a ≡ (a || false)
    or_false true = refl
    or_false false = refl
clash_append m (x ∷ xs) ys = ap₂ (λ a n. a || bit? n x) (clash_append m xs ys) (seen_append m xs ys) ∙ assoc (clash m ys) (clash (seen_after m ys) xs) (bit? (seen_after (seen_after m ys) xs) x)
  where
    assoc : (a b c : Bool) → ((a || b) || c) ≡ (a || (b || c))
    assoc true b c = refl
    assoc false b c = refl

seen_has : (ss : List ℕ) (i : ℕ) → T (every (λ s. ltb s 32) ss) → bit? (seen_after 0 ss) i ≡ some? (λ j. eqb j i) ss
unfolding seen_after every some?
seen_has [] i t = bit_none i
seen_has (s ∷ ss) i t =
    ap (λ (m : ℕ). bit? m i) (with_small (seen_after 0 ss) s (ltb→lt s 32 (and_l (ltb s 32) _ t)))
    ∙ bit_or_lem (seen_after 0 ss) (2 ^ s) i ∙ ap₂ ◌||◌ (seen_has ss i (and_r (ltb s 32) _ t)) (bit_alone s i) ∙ swap (some? (λ j. eqb j i) ss) (eqb s i)
  where
    swap : (a b : Bool) → (a || b) ≡ (b || a)
    swap true true = refl
    swap true false = refl
    swap false true = refl
    swap false false = refl

some_sym : (s : ℕ) (ss : List ℕ) → some? (λ j. eqb j s) ss ≡ some? (eqb s) ss
unfolding some?
some_sym s [] = refl
some_sym s (x ∷ ss) = ap₂ ◌||◌ (eqb_sym x s) (some_sym s ss)

pub clash_distinct : (ss : List ℕ) → T (every (λ s. ltb s 32) ss) → clash 0 ss ≡ not (distinct eqb ss)
unfolding clash distinct every
clash_distinct [] t = refl
clash_distinct (s ∷ ss) t =
    ap₂ ◌||◌ (clash_distinct ss (and_r (ltb s 32) _ t)) (seen_has ss s (and_r (ltb s 32) _ t) ∙ some_sym s ss)
    ∙ go (distinct eqb ss) (some? (eqb s) ss)
  where
    go : (a b : Bool) → (not a || b) ≡ not (not b && a)
    go true true = refl
    go true false = refl
    go false true = refl
    go false false = refl

-- ---- what a query that is passed is

module _ (ns : List ℕ) (sound : T (schema_sound ns)) where
  abbrev d : Schema
  d = schema_of ns

  pub record Fits (q : M.Query ℕ) (t : Side) : Type 0 where
    pub shows : Shows ns sound t.mask (header (columns_of d) q)
    pub plain : no_aggregate q ≡ true → bit? t.mask 25 ≡ false
    pub grouped : t.grouped ≡ not (no_aggregate q)
    pub unsided : sideless t ≡ not (side q)
    pub width : T (keeps (distinct same_col) q) → (length (header (columns_of d) q) ≤ 12) × (side q ≡ true → length (header (columns_of d) q) ≤ 6)

  pub record Runs (q : M.Query ℕ) (p x : Placing) : Type 0 where
    pub seen : x.seen ≡ seen_after p.seen (sources q)
    pub misplaced : x.misplaced ≡ (p.misplaced || (not (allowed (columns_of d) q) || clash p.seen (sources q)))
    pub window : x.window ≡ (p.window || not (sized q))
    pub fits : allowed (columns_of d) q ≡ true → Fits q x.top
    pub under : side q ≡ true → x.under ≡ p.top
    pub small : T (every (λ s. ltb s 32) (sources q))

  pub side_plain : (q : M.Query ℕ) → side q ≡ true → no_aggregate q ≡ true
  unfolding side no_aggregate
  side_plain (M.source s) e = refl
  side_plain (M.pick c q) e = side_plain q e
  side_plain (M.keep cs q) e = side_plain q e
  side_plain (M.join a b q r) e = never (sym e)
  side_plain (M.aggregate f c z w q) e = never (sym e)

  -- ---- each form

  or_end : (a : Bool) → (a || false) ≡ a
  or_end true = refl
  or_end false = refl

  rows_narrow : (k : ℕ) → k < streams_in ns → length (columns_of d k) ≤ 6
  rows_narrow k h =
      let e = ap length (stream_columns ns k h) ∙ map_length (M.col k) 0 (width_in ns k) in
      let m = width_most ns k in
      omega arith

  run_rows : (k : ℕ) (p : Placing) → k < streams_in ns → Runs (M.source k) p (with_rows ns p k)
  unfolding with_rows sources seen_after clash allowed sized side no_aggregate header sideless every
  run_rows k p h =
      record {
        seen = refl;
        misplaced = refl;
        window = sym (or_end p.window);
        fits = λ e. record { shows = rows_shown ns sound k h; plain = λ n. rows_plain ns sound k h; grouped = refl; unsided = refl; width = λ u. let l = rows_narrow k h in (omega arith, λ z. l) };
        under = λ e. refl;
        small = and_both (ltb k 32) true (lt→ltb k 32 (let m = streams_most ns in omega arith)) tt;
      }

  run_pick : (c : Cond Test) (q : M.Query ℕ) (p x : Placing) → T (every (λ t. good_test t && test_declared ns t) (tests c)) → Runs q p x
      → Runs (M.pick (map_cond (compare_of d) c) q) p (with_pick x (mask_of (map (left_code ns) (tests c))) (mask_of (map (right_code ns) (tests c))))
  unfolding with_pick unpicked sources allowed sized side no_aggregate header keeps
  run_pick c q p x t r =
      record {
        seen = r.seen;
        misplaced = ap (λ m. m || unpicked x.top.mask (mask_of (map (left_code ns) (tests c))) (mask_of (map (right_code ns) (tests c)))) r.misplaced
            ∙ one_more p.misplaced (allowed (columns_of d) q) (pickable (map_cond (compare_of d) c) && within (cond_cols (map_cond (compare_of d) c)) (header (columns_of d) q)) (clash p.seen (sources q)) _
            (λ e. ap not (sym (pick_placed ns sound x.top.mask (header (columns_of d) q) (r.fits e).shows c t)));
        window = r.window;
        fits = λ e. let f = r.fits (both_right (pickable (map_cond (compare_of d) c) && within (cond_cols (map_cond (compare_of d) c)) (header (columns_of d) q)) _ e) in record { shows = f.shows; plain = f.plain; grouped = f.grouped; unsided = f.unsided; width = f.width };
        under = r.under;
        small = r.small;
      }

  run_keep : (rs : List Ref) (q : M.Query ℕ) (p x : Placing) → T (every (fine ns) rs) → Runs q p x → Runs (M.keep (map (column_of d) rs) q) p (with_keep x (mask_of (map (ref_code ns) rs)))
  unfolding with_keep unkept sources allowed sized side no_aggregate header sideless keeps
  run_keep rs q p x t r =
      record {
        seen = r.seen;
        misplaced = ap (λ m. m || unkept x.top (mask_of (map (ref_code ns) rs))) r.misplaced
            ∙ one_more p.misplaced (allowed (columns_of d) q) (no_aggregate q && within (map (column_of d) rs) (header (columns_of d) q)) (clash p.seen (sources q)) _
            (λ e. ap not (ap₂ (λ a b. not a && b) (r.fits e).grouped (inside_within ns sound x.top.mask (header (columns_of d) q) (r.fits e).shows rs t) ∙ ap (λ a. a && within (map (column_of d) rs) (header (columns_of d) q)) (not_back (no_aggregate q))));
        window = r.window;
        fits = λ e. kept e;
        under = r.under;
        small = r.small;
      }
    where
      kept : ((no_aggregate q && within (map (column_of d) rs) (header (columns_of d) q)) && allowed (columns_of d) q) ≡ true
          → Fits (M.keep (map (column_of d) rs) q) (record { mask = mask_of (map (ref_code ns) rs); joined = x.top.joined; grouped = x.top.grouped })
      kept e =
          let f = r.fits (both_right (no_aggregate q && within (map (column_of d) rs) (header (columns_of d) q)) _ e) in
          let g = both_left (no_aggregate q && within (map (column_of d) rs) (header (columns_of d) q)) _ e in
          let n = both_left (no_aggregate q) _ g in
          let w = true_T (within (map (column_of d) rs) (header (columns_of d) q)) (both_right (no_aggregate q) _ g) in
          record {
            shows = keep_shown ns sound x.top.mask (header (columns_of d) q) f.shows rs t w (f.plain n);
            plain = λ z. keep_plain ns sound x.top.mask (header (columns_of d) q) f.shows rs t w (f.plain n);
            grouped = f.grouped;
            unsided = f.unsided;
            width = λ u.
                let a = once_few (map (column_of d) rs) (header (columns_of d) q) (and_l (distinct same_col (map (column_of d) rs)) _ u) w in
                let b = f.width (and_r (distinct same_col (map (column_of d) rs)) _ u) in
                (le_trans a b.0, λ z. le_trans a (b.1 z));
          }

  run_aggregate : (h : Fn) (c : Ref) (size offset : ℕ) (q : M.Query ℕ) (p x : Placing) → T (fine ns c) → Runs q p x → Runs (M.aggregate h (column_of d c) size offset q) p (with_aggregate x (ref_code ns c) size offset)
  unfolding with_aggregate ungrouped unfitting sources allowed sized side no_aggregate header sideless
  run_aggregate h c size offset q p x t r =
      record {
        seen = r.seen;
        misplaced = ap (λ m. m || ungrouped x.top (ref_code ns c)) r.misplaced
            ∙ one_more p.misplaced (allowed (columns_of d) q) (no_aggregate q && has (header (columns_of d) q) (column_of d c)) (clash p.seen (sources q)) _
            (λ e. ap not (ap₂ (λ a b. not a && b) (r.fits e).grouped (sym ((r.fits e).shows.shown c t)) ∙ ap (λ a. a && has (header (columns_of d) q) (column_of d c)) (not_back (no_aggregate q))));
        window = ap (λ m. m || unfitting size offset) r.window ∙ or_not_either p.window (fitting size offset) (sized q);
        fits = λ e. record { shows = aggregate_shown ns sound; plain = λ z. never (sym z); grouped = refl; unsided = or_all x.top.joined; width = λ u. (omega arith, λ z. never (sym z)) };
        under = λ z. never (sym z);
        small = r.small;
      }
    where
      or_all : (a : Bool) → (a || true) ≡ true
      or_all true = refl
      or_all false = refl

  -- the two sides of a join
  module _ (a b : Ref) (q r : M.Query ℕ) (p y x : Placing) (s : T (fine ns a)) (t : T (fine ns b)) (right : Runs r p y) (left : Runs q y x) where
    abbrev joined : Bool
    joined = (side q && side r) && linked (column_of d a) (column_of d b) (header (columns_of d) q) (header (columns_of d) r)

    joins : allowed (columns_of d) q ≡ true → allowed (columns_of d) r ≡ true → unjoined x.top x.under (ref_code ns a) (ref_code ns b) ≡ not joined
    unfolding unjoined
    joins e f = go (side q) refl
      where
        go : (v : Bool) → side q ≡ v → not (not (sideless x.top) && (not (sideless x.under) && links x.top.mask x.under.mask (ref_code ns a) (ref_code ns b)))
            ≡ not ((v && side r) && linked (column_of d a) (column_of d b) (header (columns_of d) q) (header (columns_of d) r))
        go false z = let g : sideless x.top ≡ true = (left.fits e).unsided ∙ rw z in rw g
        go true z =
            let g : sideless x.top ≡ false = (left.fits e).unsided ∙ rw z in
            let u = left.under z in
            let h : sideless x.under ≡ not (side r) = ap sideless u ∙ (right.fits f).unsided in
            let k : links x.top.mask x.under.mask (ref_code ns a) (ref_code ns b) ≡ linked (column_of d a) (column_of d b) (header (columns_of d) q) (header (columns_of d) r) =
            ap (λ w. links x.top.mask w.mask (ref_code ns a) (ref_code ns b)) u ∙ links_linked ns sound x.top.mask y.top.mask (header (columns_of d) q) (header (columns_of d) r) a b (left.fits e).shows (right.fits f).shows s t in
            rw (g, h, k, not_back (side r))

    pub run_join : Runs (M.join (column_of d a) (column_of d b) q r) p (with_join x (ref_code ns a) (ref_code ns b))
    unfolding with_join sources allowed sized side no_aggregate header sideless keeps
    run_join =
        record {
          seen = left.seen ∙ ap (λ m. seen_after m (sources q)) right.seen ∙ sym (seen_append p.seen (sources q) (sources r));
          misplaced = ap (λ m. m || unjoined x.top x.under (ref_code ns a) (ref_code ns b)) (left.misplaced ∙ ap₂ (λ m n. m || (not (allowed (columns_of d) q) || clash n (sources q))) right.misplaced right.seen)
              ∙ two_more p.misplaced (allowed (columns_of d) r) (allowed (columns_of d) q) joined (clash p.seen (sources r)) (clash (seen_after p.seen (sources r)) (sources q)) _ joins
              ∙ ap (λ w. p.misplaced || (not ((joined && allowed (columns_of d) q) && allowed (columns_of d) r) || w)) (sym (clash_append p.seen (sources q) (sources r)));
          window = left.window ∙ ap (λ w. w || not (sized q)) right.window ∙ or_not_either p.window (sized q) (sized r);
          fits = λ e. fitted e;
          under = λ z. never (sym z);
          small = every_append (λ s. ltb s 32) (sources q) (sources r) left.small right.small;
        }
      where
        fitted : ((joined && allowed (columns_of d) q) && allowed (columns_of d) r) ≡ true → Fits (M.join (column_of d a) (column_of d b) q r) (record { mask = bit_or x.top.mask x.under.mask; joined = true; grouped = false })
        fitted e =
            let f = both_right (joined && allowed (columns_of d) q) _ e in
            let g = both_left (joined && allowed (columns_of d) q) _ e in
            let h = both_right joined _ g in
            let k = both_left (side q && side r) _ (both_left joined _ g) in
            let sq = both_left (side q) _ k in
            let sr = both_right (side q) _ k in
            let nq = side_plain q sq in
            let nr = side_plain r sr in
            let u = left.under sq in
            let lf = left.fits h in
            let rf = right.fits f in
            record {
              shows = ap_shows u (join_shown ns sound x.top.mask y.top.mask (header (columns_of d) q) (header (columns_of d) r) lf.shows rf.shows);
              plain = λ z. ap (λ w. bit? (bit_or x.top.mask w.mask) 25) u ∙ join_plain ns sound x.top.mask y.top.mask (lf.plain nq) (rf.plain nr);
              grouped = sym (rw (nq, nr));
              unsided = refl;
              width = λ v. (joined_few ((lf.width (and_l (keeps (distinct same_col) q) _ v)).1 sq) ((rf.width (and_r (keeps (distinct same_col) q) _ v)).1 sr), λ z. never (sym z));
            }
          where
            joined_few : length (header (columns_of d) q) ≤ 6 → length (header (columns_of d) r) ≤ 6 → length (header (columns_of d) q ++ header (columns_of d) r) ≤ 12
            joined_few i j = let e = length-append (header (columns_of d) q) (header (columns_of d) r) in omega arith

            ap_shows : x.under ≡ y.top → Shows ns sound (bit_or x.top.mask y.top.mask) (header (columns_of d) q ++ header (columns_of d) r) → Shows ns sound (bit_or x.top.mask x.under.mask) (header (columns_of d) q ++ header (columns_of d) r)
            ap_shows u w = subst (λ v. Shows ns sound (bit_or x.top.mask v.mask) (header (columns_of d) q ++ header (columns_of d) r)) (sym u) w

  -- ---- all of a form

  abbrev pub known : Inner → Bool
  known i = (part_good i.part && part_fine i.around i.part) && part_declared ns i.part

  module _ (n : ℕ) (x : Part) (t : T (known (inner n x))) where
    good : T (part_good x)
    unfolding inner
    good = and_l (part_good x) _ (and_l (part_good x && part_fine n x) _ t)

    bounded : T (part_fine n x)
    unfolding inner
    bounded = and_r (part_good x) _ (and_l (part_good x && part_fine n x) _ t)

    declares : T (part_declared ns x)
    unfolding inner
    declares = and_r (part_good x && part_fine n x) _ t

  pub span_natural : (z : ℤ) → T (not_above z) → span_kept z ≡ natural z
  unfolding span_kept
  span_natural z t = rw (T_true (not_above z) t)

  pub known_rows : (n : ℕ) (s : Bytes) → T (known (inner n (rows s))) → (stream_place ns s ≡ stream_number d s) × (stream_number d s < streams_in ns)
  unfolding part_good part_fine part_bounded part_declared shallow_part streams-held refs_in conds_in spans_in every stream_place
  known_rows n s t =
      let g : T (name? s) = good n (rows s) t in
      let b = bounded n (rows s) t in
      let c = declares n (rows s) t in
      let k : T (declared d s) = search parts depth 6 in
      (stream_found_is ns sound s g (search parts depth 9) ∙ rw (T_true (declared d s) k), stream_below ns sound s k)

  pub known_pick : (n : ℕ) (c : Cond Test) → T (known (inner n (pick c))) → T (every (λ t. good_test t && test_declared ns t) (tests c))
  unfolding part_good part_declared streams-held refs_in every
  known_pick n c t =
      every_both good_test (test_declared ns) (λ t. good_test t && test_declared ns t) (λ t x y. and_both (good_test t) (test_declared ns t) x y) (tests c)
      (conds_good ns sound c (good n (pick c) t) (pick_bounded n c (bounded n (pick c) t)))
      (true_T (every (test_declared ns) (tests c)) (declared_tests ns c ∙ T_true (every (ref_declared d) (cond_refs c)) (declares n (pick c) t)))

  pub known_keep : (n : ℕ) (rs : List Ref) → T (known (inner n (keep rs))) → T (every (fine ns) rs)
  unfolding part_good part_fine part_bounded part_declared shallow_part streams-held refs_in conds_in spans_in every
  known_keep n rs t =
      let b = bounded n (keep rs) t in
      columns_fine ns sound rs (good n (keep rs) t) (search parts depth 9) (declares n (keep rs) t)

  pub known_join : (n : ℕ) (a b : Ref) → T (known (inner n (join a b))) → T (fine ns a) × T (fine ns b)
  unfolding part_good part_declared streams-held refs_in every fine
  known_join n a b t =
      let g : T (ref? a && ref? b) = good n (join a b) t in
      let h = join_bounded n a b (bounded n (join a b) t) in
      let c : T (ref_declared d a && (ref_declared d b && true)) = declares n (join a b) t in
      (and_both (ref? a) _ (and_l (ref? a) _ g) (and_both (short_ref a) _ h.0 (and_l (ref_declared d a) _ c)), and_both (ref? b) _ (and_r (ref? a) _ g) (and_both (short_ref b) _ h.1 (and_l (ref_declared d b) _ (and_r (ref_declared d a) _ c))))

  pub known_aggregate : (n : ℕ) (h : Fn) (c : Ref) (z w : ℤ) → T (known (inner n (aggregate h c z w))) → T (fine ns c) × T (not_above z) × T (not_above w)
  unfolding part_good part_declared streams-held refs_in every fine
  known_aggregate n h c z w t =
      let b = bounded n (aggregate h c z w) t in
      let s = spans_bounded n h c z w b in
      (and_both (ref? c) _ (good n (aggregate h c z w) t) (and_both (short_ref c) _ (aggregate_bounded n h c z w b) (and_l (ref_declared d c) true (declares n (aggregate h c z w) t))), s.0, s.1)

  pub runs : (n : ℕ) (q : Form) (p : Placing) → T (every known (R.parts n q)) → Runs (resolve d q) p (run_parts ns (R.parts n q) p)
  unfolding R.parts every run_parts place_part resolve inner
  runs n (G.rows s) p t =
      let k = known_rows n s (and_l (known (inner n (rows s))) true t) in
      subst (λ m. Runs (M.source (stream_number d s)) p (with_rows ns p m)) (sym k.0) (run_rows (stream_number d s) p k.1)
  runs n (G.pick c q) p t = run_pick c (resolve d q) p (run_parts ns (R.parts (suc n) q) p) (known_pick n c (and_l (known (inner n (pick c))) _ t)) (runs (suc n) q p (and_r (known (inner n (pick c))) _ t))
  runs n (G.keep rs q) p t = run_keep rs (resolve d q) p (run_parts ns (R.parts (suc n) q) p) (known_keep n rs (and_l (known (inner n (keep rs))) _ t)) (runs (suc n) q p (and_r (known (inner n (keep rs))) _ t))
  runs n (G.join a b q r) p t =
      let k = known_join n a b (and_l (known (inner n (join a b))) _ t) in
      let u = and_r (known (inner n (join a b))) _ t in
      let v = runs (suc n) r p (every_append_r known (R.parts (suc n) q) (R.parts (suc n) r) u) in
      let w = runs (suc n) q (run_parts ns (R.parts (suc n) r) p) (every_append_l known (R.parts (suc n) q) (R.parts (suc n) r) u) in
      subst (λ x. Runs (M.join (column_of d a) (column_of d b) (resolve d q) (resolve d r)) p (with_join x (ref_code ns a) (ref_code ns b))) (sym (run_append ns (R.parts (suc n) q) (R.parts (suc n) r) p))
      (run_join a b (resolve d q) (resolve d r) p (run_parts ns (R.parts (suc n) r) p) (run_parts ns (R.parts (suc n) q) (run_parts ns (R.parts (suc n) r) p)) k.0 k.1 v w)
  runs n (G.aggregate h c z w q) p t =
      let k = known_aggregate n h c z w (and_l (known (inner n (aggregate h c z w))) _ t) in
      let r = run_aggregate h c (natural z) (natural w) (resolve d q) p (run_parts ns (R.parts (suc n) q) p) k.0 (runs (suc n) q p (and_r (known (inner n (aggregate h c z w))) _ t)) in
      subst (λ m. Runs (M.aggregate h (column_of d c) (natural z) (natural w) (resolve d q)) p (with_aggregate (run_parts ns (R.parts (suc n) q) p) (ref_code ns c) m (span_kept w))) (sym (span_natural z k.1))
      (subst (λ m. Runs (M.aggregate h (column_of d c) (natural z) (natural w) (resolve d q)) p (with_aggregate (run_parts ns (R.parts (suc n) q) p) (ref_code ns c) (natural z) m)) (sym (span_natural w k.2)) r)

  -- ---- the checks

  begun_is : (begun.misplaced ≡ false) × (begun.window ≡ false) × (begun.seen ≡ 0)
  unfolding begun
  begun_is = (refl, refl, refl)

  module _ (q : Form) (t : T (every known (R.parts 0 q))) where
    abbrev passed : Placing
    passed = run_parts ns (R.parts 0 q) begun

    pub misplaced_is : passed.misplaced ≡ not (placed d (resolve d q))
    unfolding placed
    misplaced_is =
        let r = runs 0 q begun t in
        let b = begun_is in
        r.misplaced ∙ ap₂ (λ m s. m || (not (allowed (columns_of d) (resolve d q)) || clash s (sources (resolve d q)))) b.0 b.2
        ∙ ap (λ c. not (allowed (columns_of d) (resolve d q)) || c) (clash_distinct (sources (resolve d q)) r.small)
        ∙ go (allowed (columns_of d) (resolve d q)) (distinct eqb (sources (resolve d q)))
      where
        go : (a b : Bool) → (not a || not b) ≡ not (a && b)
        go true b = refl
        go false b = refl

    pub window_is : passed.window ≡ not (sized (resolve d q))
    window_is = let r = runs 0 q begun t in let b = begun_is in r.window ∙ ap (λ w. w || not (sized (resolve d q))) b.1
