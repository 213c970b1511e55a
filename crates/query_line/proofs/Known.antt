-- Checks 2 and 6 of a query by what is read of its forms, where nothing in it is above its bound.
use mathlib.Core.Path.{◌≡◌, refl, sym, ap, ap₂, ◌∙◌}
use mathlib.Core.List.{List, [], ◌∷◌, append-nil}
use mathlib.Core.Bool.{Bool, true, false, ◌&&◌, ◌||◌, not, or-false, and-true}
use Prim.Native.Nat.{ℕ, suc, ◌-◌, ◌≤◌}
use native.Mathlib.Omega.{arith}
use lib.IntN.{ℤ}
use lib.Dec.{T, eqb, leb, ltb, le→leb, leb→le}
use Rattle.lists.specs.Lists.{every, some?, gather, distinct}
use Rattle.lists.proofs.Laws.{and_l, and_r, and_both, parts, true_T, T_true, every_append, every_both}
use Rattle.syntax.specs.Grammar as G
use Rattle.syntax.specs.Grammar.{Bytes, Fn, Ref, Test, Cond, Form, name?, ref?, cond?, some_all, form?, test?, put_ref}
use Rattle.syntax.specs.Limits.{short_ref, not_above, cond_depth}
use Rattle.syntax.proofs.Exact.{ref_length, form_length, put_items_length, put_ref_length}
use Rattle.model.specs.Conditions.{tests}
use Rattle.calls.specs.Names.{operand_refs, cond_refs, form_keeps}
use Rattle.calls.specs.Bounds.{cond_bounded}
use Rattle.calls.specs.Tables.{declared, ref_declared, same_ref, query_declared}
use Rattle.calls.proofs.Stored.{cond_tests}
use Rattle.schema.specs.Schemas.{schema_of, schema_sound}
use Rattle.columns.specs.Columns.{stream_place}
use Rattle.columns.proofs.Declared.{streams_unknown, columns_unknown, columns_fine}
use Rattle.columns.proofs.Repeats.{entries, entries_room, repeats_once}
use Rattle.conditions.specs.Seeing.{seen_of, test_unknown}
use Rattle.grant_line.proofs.Folds.{every_pair, every_gathered, some_good}
use Rattle.grant_line.proofs.Bounds.{test_bounded, conds_bounded}
use Rattle.grant_line.proofs.Known.{good_test, test_declared, test_known, ref_known}
use Rattle.query_read.specs.Parts as R
use Rattle.query_read.specs.Parts.{Part, rows, pick, keep, join, aggregate, Inner, inner}
use Rattle.query_read.specs.Seeing.{level, rows_own, pick_own, keep_own, join_own, aggregate_own, picked, own_of, with_own, with_part, with_parts, no_reading, reading_ended, form_seen}
use Rattle.query_read.specs.declared.Reading.{Reading}
use Rattle.query_read.proofs.Answering.{conds_in}
use Rattle.query_line.proofs.Parts.{streams_in, refs_in, keeps_in, spans_in, streams_are, refs_are, keeps_are, shallow_part}
use Rattle.query_line.proofs.Bounds.{part_bounded, part_fine}

or_not_both : (a b c : Bool) → ((a || not b) || not c) ≡ (a || not (b && c))
or_not_both true b c = refl
or_not_both false true c = refl
or_not_both false false c = refl

-- ---- tests

third : (l s b : Bool) → T (l && (true && (s && ((b && true) && true)))) → T b
third true true true t = tt
third true true false t = absurd t
third true false b t = absurd t
third false s b t = absurd t

pub pick_bounded : (n : ℕ) (c : Cond Test) → T (part_fine n (pick c)) → T (cond_bounded c)
unfolding part_fine part_bounded shallow_part streams_in refs_in conds_in spans_in every
pick_bounded n c t = third (leb (cond_depth c) (8 - suc n)) (every short_ref (cond_refs c)) (cond_bounded c) t

fourth : (l a b : Bool) → T (l && (true && ((a && (b && true)) && (true && true)))) → T a × T b
fourth true true true t = (tt, tt)
fourth true true false t = absurd t
fourth true false b t = absurd t
fourth false a b t = absurd t

pub join_bounded : (n : ℕ) (a b : Ref) → T (part_fine n (join a b)) → T (short_ref a) × T (short_ref b)
unfolding part_fine part_bounded shallow_part streams_in refs_in conds_in spans_in every
join_bounded n a b t = fourth (ltb n 8) (short_ref a) (short_ref b) t

fifth : (l c z : Bool) → T (l && (true && ((c && true) && (true && z)))) → T c
fifth true true z t = tt
fifth true false z t = absurd t
fifth false c z t = absurd t

pub aggregate_bounded : (n : ℕ) (f : Fn) (c : Ref) (z w : ℤ) → T (part_fine n (aggregate f c z w)) → T (short_ref c)
unfolding part_fine part_bounded shallow_part streams_in refs_in conds_in spans_in every
aggregate_bounded n f c z w t = fifth (ltb n 8) (short_ref c) ((not_above z && not_above w) && true) t

last_two : (l c z w : Bool) → T (l && (true && ((c && true) && (true && ((z && w) && true))))) → T z × T w
last_two true true true true t = (tt, tt)
last_two true true true false t = absurd t
last_two true true false w t = absurd t
last_two true false z w t = absurd t
last_two false c z w t = absurd t

pub spans_bounded : (n : ℕ) (f : Fn) (c : Ref) (z w : ℤ) → T (part_fine n (aggregate f c z w)) → T (not_above z) × T (not_above w)
unfolding part_fine part_bounded shallow_part streams_in refs_in conds_in spans_in every
spans_bounded n f c z w t = last_two (ltb n 8) (short_ref c) (not_above z) (not_above w) t

-- the comparisons of a condition name what is declared
pub declared_tests : (ns : List ℕ) (c : Cond Test) → every (test_declared ns) (tests c) ≡ every (ref_declared (schema_of ns)) (cond_refs c)
unfolding cond_refs test_declared
declared_tests ns c = every_gathered (ref_declared (schema_of ns)) (test_declared ns) (λ t. t.left ∷ operand_refs t.right) (λ t. refl) (tests c)

-- ---- well-formed parts

unfoldable pub part_good : Part → Bool
part_good (rows s) = name? s
part_good (pick c) = cond? c
part_good (keep rs) = every ref? rs
part_good (join a b) = ref? a && ref? b
part_good (aggregate f c z w) = ref? c

pub parts_good : (n : ℕ) (q : Form) → T (form? q) → T (every (λ i. part_good i.part) (R.parts n q))
unfolding every R.parts inner part_good form? some_all
parts_good n (G.rows s) t = and_both (name? s) true t tt
parts_good n (G.pick c q) t = and_both (cond? c) _ (search parts) (parts_good (suc n) q (and_r (cond? c) (form? q) t))
parts_good n (G.keep rs q) t = and_both (every ref? rs) _ (search parts depth 6) (parts_good (suc n) q (and_r (some_all ref? rs) (form? q) t))
parts_good n (G.join a b q r) t =
    and_both (ref? a && ref? b) _ (search parts depth 6)
    (every_append (λ i. part_good i.part) (R.parts (suc n) q) (R.parts (suc n) r) (parts_good (suc n) q (and_r (ref? a && ref? b) (form? q) (and_l (ref? a && ref? b && form? q) (form? r) t))) (parts_good (suc n) r (and_r (ref? a && ref? b && form? q) (form? r) t)))
parts_good n (G.aggregate f c z w q) t = and_both (ref? c) _ (search parts) (parts_good (suc n) q (and_r (ref? c) (form? q) t))

-- ---- check 2

-- the streams and columns of a part are declared
unfoldable pub part_declared : List ℕ → Part → Bool
part_declared ns x = every (declared (schema_of ns)) (streams_in x) && every (ref_declared (schema_of ns)) (refs_in x)

module _ (ns : List ℕ) (sound : T (schema_sound ns)) where
  abbrev pub sane : Inner → Bool
  sane i = part_good i.part && part_fine i.around i.part

  pub conds_good : (c : Cond Test) → T (cond? c) → T (cond_bounded c) → T (every good_test (tests c))
  unfolding good_test every gather
  conds_good c g b =
      every_both test? test_bounded good_test (λ t x y. and_both (test? t) (test_bounded t) x y) (tests c) (cond_tests c g)
      (true_T (every test_bounded (tests c)) (ap (every test_bounded) (sym (append-nil (tests c))) ∙ sym (conds_bounded (c ∷ [])) ∙ rw (T_true (cond_bounded c) b)))

  cond_known : (c : Cond Test) → T (cond? c) → T (cond_bounded c) → some? (test_unknown ns) (tests c) ≡ not (every (ref_declared (schema_of ns)) (cond_refs c))
  unfolding cond_refs test_declared
  cond_known c g b =
      some_good (test_unknown ns) (test_declared ns) good_test (test_known ns sound) (tests c) (conds_good c g b)
      ∙ ap not (every_gathered (ref_declared (schema_of ns)) (test_declared ns) (λ t. t.left ∷ operand_refs t.right) (λ t. refl) (tests c))

  own_unknown : (b n : ℕ) (x : Part) (next : ℕ) → T (part_good x) → T (part_fine n x) → (own_of ns b n x next).unknown ≡ not (part_declared ns x)
  unfolding own_of rows_own pick_own keep_own join_own aggregate_own picked part_good part_fine part_bounded part_declared shallow_part level streams_in refs_in conds_in every some? seen_of
  own_unknown b n (rows s) next g t = sym (or-false (eqb (stream_place ns s) 4)) ∙ streams_unknown ns sound (s ∷ []) (and_both (name? s) true g tt) (search parts depth 9) ∙ ap not (sym (and-true (declared (schema_of ns) s && true)))
  own_unknown b n (pick c) next g t =
      rw (T_true (leb (cond_depth c) (8 - suc n)) (search parts)) (cond_known c g (pick_bounded n c t))
  own_unknown b n (keep rs) next g t = columns_unknown ns sound rs g (search parts depth 9)
  own_unknown b n (join a c) next g t =
      ap₂ ◌||◌ (ref_known ns sound a (search parts) (join_bounded n a c t).0) (ref_known ns sound c (search parts) (join_bounded n a c t).1) ∙ two (ref_declared (schema_of ns) a) (ref_declared (schema_of ns) c)
    where
      two : (a b : Bool) → (not a || not b) ≡ not (true && (a && (b && true)))
      two true true = refl
      two true false = refl
      two false b = refl
  own_unknown b n (aggregate f c z w) next g t = ref_known ns sound c g (aggregate_bounded n f c z w t) ∙ ap not (sym (and-true (ref_declared (schema_of ns) c)))

  parts_unknown : (is : List Inner) (r : Reading) → T (every sane is) → (with_parts ns r is).unknown ≡ (r.unknown || not (every (λ i. part_declared ns i.part) is))
  unfolding with_parts with_part with_own every
  parts_unknown [] r t = sym (or-false r.unknown)
  parts_unknown (i ∷ is) r t =
      parts_unknown is (with_part ns r i) (and_r (sane i) _ t)
      ∙ ap (λ o. (r.unknown || o) || not (every (λ i. part_declared ns i.part) is)) (own_unknown r.words i.around i.part 0 (and_l (part_good i.part) _ (and_l (sane i) _ t)) (and_r (part_good i.part) _ (and_l (sane i) _ t)))
      ∙ or_not_both r.unknown (part_declared ns i.part) (every (λ i. part_declared ns i.part) is)

  module _ (q : Form) (good : T (form? q)) (bounded : T (every (λ i. part_fine i.around i.part) (R.parts 0 q))) where
    pub all_sane : T (every sane (R.parts 0 q))
    all_sane = every_both (λ i. part_good i.part) (λ i. part_fine i.around i.part) sane (λ i x y. and_both (part_good i.part) _ x y) (R.parts 0 q) (parts_good 0 q good) bounded

    pub all_declared : every (λ i. part_declared ns i.part) (R.parts 0 q) ≡ query_declared (schema_of ns) q
    unfolding part_declared query_declared
    all_declared =
        sym (every_pair (λ i. every (declared (schema_of ns)) (streams_in i.part)) (λ i. every (ref_declared (schema_of ns)) (refs_in i.part)) (R.parts 0 q))
        ∙ ap₂ ◌&&◌ (every_gathered (declared (schema_of ns)) (λ i. every (declared (schema_of ns)) (streams_in i.part)) (λ i. streams_in i.part) (λ i. refl) (R.parts 0 q) ∙ ap (every (declared (schema_of ns))) (streams_are 0 q))
        (every_gathered (ref_declared (schema_of ns)) (λ i. every (ref_declared (schema_of ns)) (refs_in i.part)) (λ i. refs_in i.part) (λ i. refl) (R.parts 0 q) ∙ ap (every (ref_declared (schema_of ns))) (refs_are 0 q))

    nothing_unknown : no_reading.unknown ≡ false
    unfolding no_reading
    nothing_unknown = refl

    pub unknown_is : (s left : Bytes) → (form_seen ns s (record { what = q; left = left })).unknown ≡ not (query_declared (schema_of ns) q)
    unfolding form_seen reading_ended
    unknown_is s left =
        parts_unknown (R.parts 0 q) no_reading all_sane ∙ ap₂ (λ a b. a || not b) nothing_unknown all_declared

  -- ---- check 6

  -- the columns of a part's keep, each once
  unfoldable pub part_once : Part → Bool
  part_once x = every (distinct same_ref) (keeps_in x)

  -- a part whose profile entries can be told apart
  unfoldable pub part_few : Part → Bool
  part_few x = every (λ rs. leb (entries rs) 72) (keeps_in x)

  own_repeated : (b n : ℕ) (x : Part) (next : ℕ) → T (part_good x) → T (part_fine n x) → T (part_declared ns x) → T (part_few x) → (own_of ns b n x next).repeated ≡ not (part_once x)
  unfolding own_of rows_own pick_own keep_own join_own aggregate_own part_good part_fine part_bounded part_declared part_once part_few streams_in refs_in keeps_in every
  own_repeated b n (rows s) next g t d f = refl
  own_repeated b n (pick c) next g t d f = refl
  own_repeated b n (keep rs) next g t d f =
      repeats_once ns sound rs (columns_fine ns sound rs g (search parts depth 9) (search parts)) (leb→le (entries rs) 72 (search parts)) ∙ ap not (sym (and-true (distinct same_ref rs)))
  own_repeated b n (join a c) next g t d f = refl
  own_repeated b n (aggregate h c z w) next g t d f = refl

  abbrev known : Inner → Bool
  known i = sane i && (part_declared ns i.part && part_few i.part)

  parts_repeated : (is : List Inner) (r : Reading) → T (every known is) → (with_parts ns r is).repeated ≡ (r.repeated || not (every (λ i. part_once i.part) is))
  unfolding with_parts with_part with_own every
  parts_repeated [] r t = sym (or-false r.repeated)
  parts_repeated (i ∷ is) r t =
      let k : T (known i) = and_l (known i) _ t in
      let a : T (sane i) = and_l (sane i) _ k in
      let b : T (part_declared ns i.part && part_few i.part) = and_r (sane i) _ k in
      parts_repeated is (with_part ns r i) (and_r (known i) _ t)
      ∙ ap (λ o. (r.repeated || o) || not (every (λ i. part_once i.part) is))
      (own_repeated r.words i.around i.part 0 (and_l (part_good i.part) _ a) (and_r (part_good i.part) _ a) (and_l (part_declared ns i.part) _ b) (and_r (part_declared ns i.part) _ b))
      ∙ or_not_both r.repeated (part_once i.part) (every (λ i. part_once i.part) is)

  module _ (q : Form) (good : T (form? q)) (bounded : T (every (λ i. part_fine i.around i.part) (R.parts 0 q))) (declares : T (query_declared (schema_of ns) q)) (few : T (every (λ rs. leb (entries rs) 72) (form_keeps q))) where
    all_known : T (every known (R.parts 0 q))
    unfolding part_few
    all_known =
        every_both sane (λ i. part_declared ns i.part && part_few i.part) known (λ i x y. and_both (sane i) _ x y) (R.parts 0 q) (all_sane q good bounded)
        (every_both (λ i. part_declared ns i.part) (λ i. part_few i.part) (λ i. part_declared ns i.part && part_few i.part) (λ i x y. and_both (part_declared ns i.part) _ x y) (R.parts 0 q)
        (true_T (every (λ i. part_declared ns i.part) (R.parts 0 q)) (all_declared q good bounded ∙ T_true (query_declared (schema_of ns) q) declares))
        (true_T (every (λ i. part_few i.part) (R.parts 0 q))
        (every_gathered (λ rs. leb (entries rs) 72) (λ i. part_few i.part) (λ i. keeps_in i.part) (λ i. refl) (R.parts 0 q) ∙ ap (every (λ rs. leb (entries rs) 72)) (keeps_are 0 q) ∙ T_true (every (λ rs. leb (entries rs) 72) (form_keeps q)) few)))

    nothing_repeated : no_reading.repeated ≡ false
    unfolding no_reading
    nothing_repeated = refl

    pub repeated_is : (s left : Bytes) → (form_seen ns s (record { what = q; left = left })).repeated ≡ not (every (distinct same_ref) (form_keeps q))
    unfolding form_seen reading_ended part_once
    repeated_is s left =
        parts_repeated (R.parts 0 q) no_reading all_known
        ∙ ap₂ (λ a b. a || not b) nothing_repeated
        (every_gathered (distinct same_ref) (λ i. part_once i.part) (λ i. keeps_in i.part) (λ i. refl) (R.parts 0 q) ∙ ap (every (distinct same_ref)) (keeps_are 0 q))

-- a line has room for so many profile entries among the columns of a keep
pub keeps_few : (q : Form) → T (form? q) → (m : ℕ) → form_length q ≤ m → m ≤ 512 → T (every (λ rs. leb (entries rs) 72) (form_keeps q))
unfolding form? form_keeps form_length every some_all
keeps_few (G.rows s) t m h k = tt
keeps_few (G.pick c q) t m h k = keeps_few q (and_r (cond? c) (form? q) t) (form_length q) (omega arith) (omega arith)
keeps_few (G.keep rs q) t m h k =
    let a = entries_room rs [] (search parts depth 6) in
    let b = put_items_length put_ref ref_length put_ref_length rs [] in
    and_both (leb (entries rs) 72) _ (le→leb (entries rs) 72 (omega arith)) (keeps_few q (and_r (some_all ref? rs) (form? q) t) (form_length q) (omega arith) (omega arith))
keeps_few (G.join a b q r) t m h k =
    every_append (λ rs. leb (entries rs) 72) (form_keeps q) (form_keeps r)
    (keeps_few q (and_r (ref? a && ref? b) (form? q) (and_l (ref? a && ref? b && form? q) (form? r) t)) (form_length q) (omega arith) (omega arith))
    (keeps_few r (and_r (ref? a && ref? b && form? q) (form? r) t) (form_length r) (omega arith) (omega arith))
keeps_few (G.aggregate f c z w q) t m h k = keeps_few q (and_r (ref? c) (form? q) t) (form_length q) (omega arith) (omega arith)
