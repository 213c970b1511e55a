-- The streams at a place as the code reads them.
use mathlib.Core.Path.{◌≡◌, refl, sym, ap, ◌∙◌}
use mathlib.Core.List.{List, [], ◌∷◌, ◌++◌, map}
use mathlib.Core.Bool.{Bool, true, false, ◌&&◌, ◌||◌, not}
use mathlib.Core.Option.{Option, none, some}
use Prim.Native.Nat.{ℕ, suc, ◌+◌, ◌-◌, ◌≤◌, ◌<◌, ◌^◌, min}
use native.Mathlib.Omega.{arith}
use lib.Bits.{bit_or, or_zero_r}
use lib.Dec.{eqb}
use lib.ListN.{length, drop, set, length-map}
use lib.Seq.{set_out}
use borrow.Author.Tests.{lt-ltb}
use Rattle.lists.specs.Lists.{every, some?, distinct, count_from}
use Rattle.syntax.specs.Grammar.{Bytes}
use Rattle.syntax.specs.Readers.{Read, bind, byte, closes, read_name}
use Rattle.syntax.specs.Limits.{short}
use Rattle.syntax.proofs.Leaving.{name_leaves}
use Rattle.text.specs.declared.Name.{Name}
use Rattle.text.specs.Words.{Found, Some, None, seen, left_at, read_end, name_seen, name_found}
use Rattle.text.specs.Readings.{any_items}
use Rattle.text.proofs.Views.{Reading, name_reading}
use Rattle.text.proofs.Fuel.{no_close, any_items_leaves}
use Rattle.items.specs.Items.{first_of, code_short}
use Rattle.items.proofs.Lists.{more}
use Rattle.items.proofs.Folds.{first_more, every_more, map_more, length_more, fold, fold_from}
use Rattle.masks.specs.Masks.{bit?, with_bit, mask_of}
use Rattle.masks.proofs.Lists.{bit_mask, mask_append}
use Rattle.terms.specs.Terms.{stream_found}
use Rattle.terms.proofs.Codes.{stream_most}
use Rattle.columns.specs.declared.Streams.{Streams}
use Rattle.columns.specs.Columns.{stream_place, no_streams, streams_seen, streams_at, stream_added, streams_ended, ends_by}
use Rattle.columns.proofs.Closing.{ends_none}
use Rattle.columns.proofs.Loops.{Walk, on, walk_falls, walk_over, walk_end, walk_other, walk_stuck, walk_more, end_place}

-- ---- one item more

pub some_more : {A : Type 0} (p : A → Bool) (xs : List A) (x : A) → (some? p xs || p x) ≡ some? p (xs ++ (x ∷ []))
unfolding some?
some_more p [] x = go (p x)
  where
    go : (b : Bool) → b ≡ (b || false)
    go true = refl
    go false = refl
some_more p (y ∷ xs) x = go (p y) (some_more p xs x)
  where
    go : (b : Bool) → (some? p xs || p x) ≡ some? p (xs ++ (x ∷ [])) → ((b || some? p xs) || p x) ≡ (b || some? p (xs ++ (x ∷ [])))
    go true e = refl
    go false e = e

distinct_more : (xs : List ℕ) (x : ℕ) → (not (distinct eqb xs) || some? (λ y. eqb y x) xs) ≡ not (distinct eqb (xs ++ (x ∷ [])))
unfolding some? distinct
distinct_more [] x = refl
distinct_more (y ∷ xs) x = rw (sym (some_more (eqb y) xs x)) (go (some? (eqb y) xs) (eqb y x) (distinct eqb xs) (distinct_more xs x))
  where
    go : (s b d : Bool) → (not d || some? (λ y. eqb y x) xs) ≡ not (distinct eqb (xs ++ (x ∷ [])))
        → (not (not s && d) || (b || some? (λ y. eqb y x) xs)) ≡ not (not (s || b) && distinct eqb (xs ++ (x ∷ [])))
    go true b d e = refl
    go false true true e = refl
    go false true false e = refl
    go false false d e = e

pub with_small : (m i : ℕ) → i < 32 → with_bit m i ≡ bit_or m (2 ^ i)
unfolding with_bit
with_small m i h = rw (lt-ltb i 32 h)

pub mask_more : (is : List ℕ) (i : ℕ) → i < 32 → with_bit (mask_of is) i ≡ mask_of (is ++ (i ∷ []))
unfolding mask_of
mask_more is i h = with_small (mask_of is) i h ∙ sym (mask_append is (i ∷ []) ∙ ap (bit_or (mask_of is)) (or_zero_r (2 ^ i)))

-- ---- what is read so far, with the places seen

pub record Seen : Type 0 where
  pub read : Streams
  pub mask : ℕ

unfoldable pub seen_step : List ℕ → Seen → Bytes → Seen
seen_step ns r w =
    record {
      read = stream_added r.read (not (short w)) (stream_place ns w) (bit? r.mask (stream_place ns w));
      mask = with_bit r.mask (stream_place ns w);
    }

so_far : List ℕ → List Bytes → Seen
so_far ns ws =
    record {
      read =
          record {
            next = 0;
            over = not (every short ws);
            unknown = some? (λ n. eqb (stream_place ns n) 4) ws;
            repeated = not (distinct eqb (map (stream_place ns) ws));
            count = min (length ws) 5;
            places = first_of 4 0 (map (stream_place ns) ws);
          };
      mask = mask_of (map (stream_place ns) ws);
    }

alike : {o p u v r t : Bool} {c d : ℕ} {x y : List ℕ} {m n : ℕ} → o ≡ p → u ≡ v → r ≡ t → c ≡ d → x ≡ y → m ≡ n
    → ◌≡◌ {A = Seen} (record { read = record { next = 0; over = o; unknown = u; repeated = r; count = c; places = x }; mask = m })
    (record { read = record { next = 0; over = p; unknown = v; repeated = t; count = d; places = y }; mask = n })
alike e f g h i j = rw (e, f, g, h, i, j)

one_more : (ns : List ℕ) (ws : List Bytes) (w : Bytes) → seen_step ns (so_far ns ws) w ≡ so_far ns (ws ++ (w ∷ []))
unfolding seen_step stream_added so_far stream_place
one_more ns ws w =
    let ps = map (stream_place ns) ws in
    let p = stream_place ns w in
    let l = length_more ws w in
    let c : min (suc (min (length ws) 5)) 5 ≡ min (length (ws ++ (w ∷ []))) 5 = omega arith in
    let m : min (length ws) 5 ≡ min (length ps) 5 = ap (λ n. min n 5) (sym (length-map ws (stream_place ns))) in
    let b : p < 32 = omega (arith, stream_most ns (code_short w)) in
    let g = map_more (stream_place ns) ws w in
    alike (every_more short ws w)
    (some_more (λ n. eqb (stream_place ns n) 4) ws w)
    (ap (λ t. not (distinct eqb ps) || t) (bit_mask ps p) ∙ distinct_more ps p ∙ ap (λ l. not (distinct eqb l)) g)
    c
    (ap (λ n. set (first_of 4 0 ps) n p) m ∙ first_more 0 4 ps p ∙ ap (first_of 4 0) g)
    (mask_more ps p b ∙ ap mask_of g)

-- ---- the list

unfoldable pub streams_answer : List ℕ → Bytes → Seen → Option (Read (List Bytes)) → Found Streams
streams_answer ns s r none = None
streams_answer ns s r (some x) = Some (streams_ended (fold (seen_step ns) r x.what).read (length s - length x.left))

pub answer_more : (ns : List ℕ) (s : Bytes) (r : Seen) (x : Bytes) (o : Option (Read (List Bytes))) → streams_answer ns s r (more x o) ≡ streams_answer ns s (seen_step ns r x) o
unfolding streams_answer more bind fold
answer_more ns s r x none = refl
answer_more ns s r x (some xs) = refl

unfoldable pub streams_walk : (ns : List ℕ) (s : Bytes) → Walk Bytes Name Seen (Found Streams) s
streams_walk ns s =
    record {
      ends = ends_by false;
      unended = ends_none false;
      reading = name_reading s;
      answer = streams_answer ns s;
      step = seen_step ns;
      stepped = answer_more ns s;
    }

-- what is read so far, joined to what is read on from a place
unfoldable pub streams_on : List ℕ → Bytes → Streams → ℕ → ℕ → Found Streams
streams_on ns s r seen i = on (streams_walk ns s) (record { read = r; mask = seen }) i

nothing_yet : (ns : List ℕ) → ◌≡◌ {A = Seen} (record { read = no_streams; mask = 0 }) (so_far ns [])
unfolding no_streams so_far every some? distinct first_of count_from mask_of
nothing_yet ns = refl

-- at first nothing is read
pub streams_start : (ns : List ℕ) (s : Bytes) (at : ℕ) {r : Streams} → r ≡ no_streams → streams_at ns s at ≡ streams_on ns s r 0 at
unfolding streams_walk name_reading streams_on on streams_at seen left_at ends_by streams_seen streams_answer streams_ended so_far
streams_start ns s at e = rw e (go (any_items closes read_name (drop at s)))
  where
    go : (o : Option (Read (List Bytes))) → seen (streams_seen ns s) o ≡ streams_answer ns s (record { read = no_streams; mask = 0 }) o
    go none = refl
    go (some x) =
        sym (ap (λ r. Some (streams_ended r.read (length s - length x.left)))
        (ap (λ r. fold (seen_step ns) r x.what) (nothing_yet ns) ∙ fold_from (seen_step ns) (so_far ns) (one_more ns) [] x.what))

-- ---- each end, and the way on

abbrev both : Streams → ℕ → Seen
both r seen = record { read = r; mask = seen }

pub streams_less : (ns : List ℕ) (s : Bytes) (i p : ℕ) {n : Name} → i < length s → Some p ≡ read_end s (byte 32 (drop i s)) → Some n ≡ name_found s p → length s - n.next < length s - i
unfolding streams_walk name_reading name_found
streams_less ns s i p h b q = walk_falls (streams_walk ns s) i p h b q

module _ (ns : List ℕ) (s : Bytes) (at i : ℕ) (r : Streams) (seen : ℕ) (inv : streams_at ns s at ≡ streams_on ns s r seen i) where
  pub streams_over : length s ≤ i → None ≡ streams_at ns s at
  unfolding streams_on streams_walk streams_answer
  streams_over h = sym (walk_over (streams_walk ns s) (both r seen) i inv h)

  module _ (h : i < length s) {t : Bool} (u : t ≡ ends_by false (drop i s)) where
    pub streams_close : {x : Streams} → t ≡ true → x ≡ streams_ended r i → Some x ≡ streams_at ns s at
    unfolding streams_on streams_walk streams_answer fold
    streams_close d e = ap Some e ∙ sym (walk_end (streams_walk ns s) (both r seen) i inv u d ∙ ap (λ j. Some (streams_ended r j)) (end_place s i h))

    module _ (d : t ≡ false) where
      pub streams_other : {x : Found Streams} → None ≡ read_end s (byte 32 (drop i s)) → x ≡ None → x ≡ streams_at ns s at
      unfolding streams_on streams_walk streams_answer
      streams_other f e = e ∙ sym (walk_other (streams_walk ns s) (both r seen) i inv u d f)

      module _ {p : ℕ} (b : Some p ≡ read_end s (byte 32 (drop i s))) where
        pub streams_stuck : {x : Found Streams} → None ≡ name_found s p → x ≡ None → x ≡ streams_at ns s at
        unfolding streams_on streams_walk streams_answer name_reading name_found
        streams_stuck q e = e ∙ sym (walk_stuck (streams_walk ns s) (both r seen) i inv u d b q)

        pub streams_more : {n : Name} {x : Streams} {place mask : ℕ} {again : Bool} → Some n ≡ name_found s p → place ≡ stream_found ns n.code → again ≡ bit? seen place
            → x ≡ stream_added r n.long place again → mask ≡ with_bit seen place → streams_at ns s at ≡ streams_on ns s x mask n.next
        unfolding streams_on streams_walk name_reading name_found seen_step stream_place code_short name_seen
        streams_more {n} {x} {place} {mask} {again} q a c e m =
            walk_more (streams_walk ns s) (both r seen) i inv u d b (record { read = x; mask = mask }) q (λ w v. step w v)
          where
            step : (w : Read Bytes) → n ≡ name_seen s w → ◌≡◌ {A = Seen} (record { read = x; mask = mask }) (seen_step ns (both r seen) w.what)
            step w v =
                let k : place ≡ stream_place ns w.what = a ∙ ap (λ n. stream_found ns n.code) v in
                let l : n.long ≡ not (short w.what) = ap (λ n. n.long) v in
                rw (e, m, c, k, l)

pub ruleset streams_ends = (streams_start, streams_over, streams_close, streams_other, streams_stuck, streams_less, streams_more)

-- ---- one stream more

module _ (r : Streams) (long again : Bool) (place : ℕ) {l u t : Bool} (e : l ≡ (r.over || long)) (f : u ≡ (r.unknown || eqb place 4)) (g : t ≡ (r.repeated || again)) where
  pub stream_full : length r.places ≡ 4 → 4 ≤ r.count
      → record { next = r.next; over = l; unknown = u; repeated = t; count = 5; places = r.places } ≡ stream_added r long place again
  unfolding stream_added
  stream_full k h =
      let c : 5 ≡ min (suc r.count) 5 = omega arith in
      rw (e, f, g, set_out r.places r.count place (omega arith), sym c)

  pub stream_room : r.count < 4
      → record { next = r.next; over = l; unknown = u; repeated = t; count = r.count + 1; places = set r.places r.count place } ≡ stream_added r long place again
  unfolding stream_added
  stream_room h =
      let c : min (suc r.count) 5 ≡ r.count + 1 = omega arith in
      rw (e, f, g, c)

pub ruleset stream_adds = (stream_full, stream_room)

-- ---- the whole list, for a reader of lines

unfoldable pub streams_reading : (ns : List ℕ) (s : Bytes) → Reading (List Bytes) Streams s
unfolding streams_seen
streams_reading ns s =
    record {
      item = any_items closes read_name;
      leaves = any_items_leaves closes no_close read_name name_leaves;
      made = streams_seen ns s;
      next = λ r. r.next;
      next_made = λ a. refl;
    }
