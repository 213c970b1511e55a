-- What codes stand for, where the names are sound: the streams, the columns and the profile entries that the definitions find by name.
use mathlib.Core.Path.{◌≡◌, refl, sym, ap, ap₂, ◌∙◌}
use mathlib.Core.List.{List, [], ◌∷◌, map}
use mathlib.Core.Bool.{Bool, true, false, ◌&&◌, ◌||◌, not, cond}
use Prim.Native.Nat.{ℕ, zero, suc, ◌+◌, ◌*◌, ◌-◌, ◌/◌, ◌%◌, ◌≤◌, ◌<◌}
use native.Mathlib.Omega.{arith}
use lib.Dec.{T, eqb, ltb, ltb→lt, eqb→eq, eqb_refl}
use lib.ListN.{length, get_or}
use borrow.Author.Tests.{eq-eqb, ne_eqb, eqb-true, eqb-false, lt-ltb, ltb-true, ltb-false, not-true}
use Rattle.lists.specs.Lists.{every, some?, nth, count_from, same_list, position}
use Rattle.lists.proofs.Laws.{and_l, and_r, and_both, or_r, or_cases, parts, true_T, T_true, position_nth, position_below, same_list→eq, same_list_refl, same_truth}
use Rattle.syntax.specs.Grammar.{Bytes, bytes, Ref, dotted, time, figure, digit, letter, alnum, name?, ref?}
use Rattle.syntax.specs.Limits.{max_streams, max_columns, short, short_ref}
use Rattle.model.specs.Queries as Q
use Rattle.model.specs.Queries.{Schema, col}
use Rattle.calls.specs.Names.{stream_names, stream_number, columns_named, col_of, is_self, term_of, column_of}
use Rattle.calls.specs.Tables.{declared, ref_declared, same_ref}
use Rattle.calls.proofs.Stored.{below}
use Rattle.text.specs.Words.{code_from, code_of, name_of}
use Rattle.text.proofs.Codes.{name_back, code_above, code_below, names_same}
use Rattle.items.specs.Items.{code_short}
use Rattle.schema.specs.Schemas.{code_end, column_place, streams_in, width_in, column_in, schema_of, schema_sound}
use Rattle.schema.proofs.FreeNames.{name_one}
use Rattle.schema.proofs.Lookups.{stream_names_are, length_schema, columns_are, length_columns}
use Rattle.schema.proofs.Tests.{streams_most}
use Rattle.schema.proofs.Soundness.{free_below, named_free, width_most, Sound, sound_facts}
use Rattle.terms.specs.Terms.{time_code, figure_code, number_code, entry_code, unknown_code, found, stream_found, place_in, first_code, second_code, code_in, ref_code}

-- ---- what stands where a column may

same_ref→eq : (r s : Ref) → T (same_ref r s) → r ≡ s
unfolding same_ref
same_ref→eq (dotted n m) (dotted k l) h = ap₂ dotted (same_list→eq n k (search parts)) (same_list→eq m l (search parts))
same_ref→eq (dotted n m) time h = absurd h
same_ref→eq (dotted n m) figure h = absurd h
same_ref→eq time (dotted k l) h = absurd h
same_ref→eq time time h = refl
same_ref→eq time figure h = absurd h
same_ref→eq figure (dotted k l) h = absurd h
same_ref→eq figure time h = absurd h
same_ref→eq figure figure h = refl

same_ref_refl : (r : Ref) → T (same_ref r r)
unfolding same_ref
same_ref_refl (dotted n m) = and_both (same_list n n) (same_list m m) (same_list_refl n) (same_list_refl m)
same_ref_refl time = tt
same_ref_refl figure = tt

-- `self.NAME`
unfoldable pub own? : Ref → Bool
own? (dotted n m) = is_self n
own? time = false
own? figure = false

-- ---- the first of some names

-- the names of w numbers from a place on
abbrev words : List ℕ → ℕ → ℕ → List Bytes
words ns at w = map (λ i. name_of (get_or ns i 0)) (count_from at w)

words_shift : (ns : List ℕ) (at i w : ℕ) → map (λ c. name_of (get_or ns (at + c) 0)) (count_from i w) ≡ words ns (at + i) w
unfolding count_from
words_shift ns at i zero = refl
words_shift ns at i (suc w) = let e : at + suc i ≡ suc (at + i) = omega arith in ap (λ l. name_of (get_or ns (at + i) 0) ∷ l) (rw e at (words_shift ns at (suc i) w))

module _ (ns : List ℕ) (x : ℕ) (p : 0 < x) (b : x < code_end) where
  word_here : (i : ℕ) → get_or ns i 0 < code_end → same_list (name_of x) (name_of (get_or ns i 0)) ≡ eqb (get_or ns i 0) x
  word_here i h = go (eqb (get_or ns i 0) x) refl
    where
      go : (t : Bool) → eqb (get_or ns i 0) x ≡ t → same_list (name_of x) (name_of (get_or ns i 0)) ≡ t
      go true e = rw (eqb-true (get_or ns i 0) x e) (T_true (same_list (name_of x) (name_of x)) (same_list_refl (name_of x)))
      go false e = name_one x (get_or ns i 0) b h ∙ ne_eqb x (get_or ns i 0) (λ d. eqb-false (get_or ns i 0) x e (sym d))

  found_none : (at n : ℕ) → ((i : ℕ) → at ≤ i → i < at + n → get_or ns i 0 ≡ 0) → found ns at n x ≡ n
  unfolding found
  found_none at zero z = refl
  found_none at (suc n) z =
      let e = z at (omega arith) (omega arith) in
      rw (ne_eqb (get_or ns at 0) x (λ d. omega arith)) (ap suc (found_none (suc at) n (λ i h k. z i (omega arith) (omega arith))))

  found_words : (at w n : ℕ) → w ≤ n → ((i : ℕ) → at ≤ i → i < at + w → get_or ns i 0 < code_end) → ((i : ℕ) → at + w ≤ i → i < at + n → get_or ns i 0 ≡ 0)
      → found ns at n x ≡ cond (some? (same_list (name_of x)) (words ns at w)) (position (name_of x) (words ns at w)) n
  unfolding found some? position count_from
  found_words at zero n l f z = found_none at n (λ i h k. z i (omega arith) k)
  found_words at (suc w) zero l f z = absurd (omega arith)
  found_words at (suc w) (suc n) l f z =
      rw (word_here at (f at (omega arith) (omega arith)))
      (go (eqb (get_or ns at 0) x) (some? (same_list (name_of x)) (words ns (suc at) w)) (found_words (suc at) w n (omega arith) (λ i h k. f i (omega arith) (omega arith)) (λ i h k. z i (omega arith) (omega arith))))
    where
      go : (t s : Bool) → found ns (suc at) n x ≡ cond s (position (name_of x) (words ns (suc at) w)) n
          → cond t 0 (suc (found ns (suc at) n x)) ≡ cond (t || s) (cond t 0 (suc (position (name_of x) (words ns (suc at) w)))) (suc n)
      go true s i = refl
      go false true i = ap suc i
      go false false i = ap suc i

-- ---- codes whatever the names are

module _ (ns : List ℕ) where
  place_range : (n m : ℕ) → (place_in ns n m ≤ unknown_code) × (place_in ns n m ≡ number_code → ⊥)
  unfolding place_in
  place_range n m = go (found ns 0 4 n) (found ns (column_place (found ns 0 4 n)) 6 m)
    where
      go : (s c : ℕ) → (cond (ltb s 4 && ltb c 6) (s * 6 + c) 28 ≤ 28) × (cond (ltb s 4 && ltb c 6) (s * 6 + c) 28 ≡ 26 → ⊥)
      go s c = by (ltb s 4) (ltb c 6) refl refl
        where
          by : (a b : Bool) → ltb s 4 ≡ a → ltb c 6 ≡ b → (cond (a && b) (s * 6 + c) 28 ≤ 28) × (cond (a && b) (s * 6 + c) 28 ≡ 26 → ⊥)
          by true true e f = let h = ltb-true s 4 e in let k = ltb-true c 6 f in (omega arith, λ z. omega arith)
          by true false e f = (omega arith, λ z. omega arith)
          by false b e f = (omega arith, λ z. omega arith)

  pub code_in_range : (n m : ℕ) → (code_in ns n m ≤ unknown_code) × (code_in ns n m ≡ number_code → ⊥)
  unfolding code_in
  code_in_range n m = go (eqb m 0) (eqb n (code_of (bytes "time"))) (eqb n (code_of (bytes "self"))) (place_range n m)
    where
      go : (a b c : Bool) → (place_in ns n m ≤ 28) × (place_in ns n m ≡ 26 → ⊥) → (cond a (cond b 24 25) (cond c 27 (place_in ns n m)) ≤ 28) × (cond a (cond b 24 25) (cond c 27 (place_in ns n m)) ≡ 26 → ⊥)
      go true true c h = (omega arith, λ e. omega arith)
      go true false c h = (omega arith, λ e. omega arith)
      go false b true h = (omega arith, λ e. omega arith)
      go false b false h = h

  pub code_range : (r : Ref) → (ref_code ns r ≤ unknown_code) × (ref_code ns r ≡ number_code → ⊥)
  unfolding ref_code
  code_range r = code_in_range (first_code r) (second_code r)

  pub code_alone : (ref_code ns time ≡ time_code) × (ref_code ns figure ≡ figure_code)
  unfolding ref_code code_in first_code second_code code_of code_from
  code_alone = (refl, refl)

-- the name `self` is the one of its code
pub self_same : (n : Bytes) → T (name? n) → T (short n) → same_list (bytes "self") n ≡ eqb (code_of (bytes "self")) (code_of n)
unfolding name? letter digit alnum every short
self_same n t u = names_same (bytes "self") n tt tt t u

own_self : (m : Bytes) → eqb (first_code (dotted (bytes "self") m)) (code_of (bytes "self")) ≡ true
unfolding first_code code_short short code_of code_from
own_self m = refl

module _ (ns : List ℕ) (n m : Bytes) (v : T (name? m)) (w : T (short m)) where
  pub second_is : second_code (dotted n m) ≡ code_of m
  unfolding second_code code_short
  second_is = rw (T_true (short m) w)

  second_above : eqb (second_code (dotted n m)) 0 ≡ false
  second_above = let h = code_above m v in let e = second_is in ne_eqb (second_code (dotted n m)) 0 (λ z. omega arith)

  -- a profile entry by its name
  pub code_self : is_self n ≡ true → (ref_code ns (dotted n m) ≡ entry_code) × (name_of (second_code (dotted n m)) ≡ m)
  unfolding is_self ref_code code_in
  code_self e = (rw (second_above, own_code (same_list→eq (bytes "self") n (rw e tt))), ap name_of second_is ∙ name_back m v w)
    where
      own_code : bytes "self" ≡ n → eqb (first_code (dotted n m)) (code_of (bytes "self")) ≡ true
      own_code d = rw (sym d) (own_self m)

  code_other : T (name? n) → T (short n) → is_self n ≡ false → ref_code ns (dotted n m) ≡ place_in ns (code_of n) (code_of m)
  unfolding is_self ref_code code_in first_code code_short
  code_other t u e =
      let k : eqb (code_of n) (code_of (bytes "self")) ≡ false = ne_eqb (code_of n) (code_of (bytes "self")) (λ d. eqb-false (code_of (bytes "self")) (code_of n) (sym (self_same n t u) ∙ e) (sym d)) in
      rw (second_above, T_true (short n) u, k, second_is)

-- ---- codes of sound names

-- what may be written where a column may, with names that are short and declared
unfoldable pub fine : List ℕ → Ref → Bool
fine ns r = ref? r && (short_ref r && ref_declared (schema_of ns) r)

-- a code is that of a column of a declared stream
pub record Stands (ns : List ℕ) (r : Ref) : Type 0 where
  pub stream : ref_code ns r / max_columns < streams_in ns
  pub column : ref_code ns r % max_columns < width_in ns (ref_code ns r / max_columns)
  pub is : column_of (schema_of ns) r ≡ col (ref_code ns r / max_columns) (ref_code ns r % max_columns)
  pub term : term_of (schema_of ns) r ≡ Q.column (col (ref_code ns r / max_columns) (ref_code ns r % max_columns))

module _ (ns : List ℕ) (sound : T (schema_sound ns)) where
  abbrev d : Schema
  d = schema_of ns

  facts : Sound ns
  facts = sound_facts ns sound

  -- the stream is declared, and has the column
  abbrev known : Bytes → Bytes → Bool
  known n m = declared d n && some? (same_list m) (columns_named d (stream_number d n))

  -- and its place
  abbrev spot : Bytes → Bytes → ℕ
  spot n m = stream_number d n * max_columns + position m (columns_named d (stream_number d n))

  module _ (n : Bytes) (t : T (name? n)) (u : T (short n)) where
    streams_found : found ns 0 4 (code_of n) ≡ cond (declared d n) (stream_number d n) 4
    unfolding declared stream_number
    streams_found =
        found_words ns (code_of n) (code_above n t) (code_below n t u) 0 (streams_in ns) 4 (streams_most ns)
        (λ i h k. let e : 0 + i ≡ i = omega arith in free_below (get_or ns i 0) (rw e at (named_free ns 0 (streams_in ns) facts.names i (omega arith))))
        (λ i h k. facts.after i (omega arith) (omega arith))
        ∙ ap₂ (λ w ws. cond (some? (same_list w) ws) (position w ws) 4) (name_back n t u) (sym (stream_names_are ns))

    -- the place of a stream is its number where it is declared
    pub stream_found_is : stream_found ns (code_short n) ≡ cond (declared d n) (stream_number d n) max_streams
    unfolding stream_found code_short
    stream_found_is = rw (T_true (short n) u) streams_found

    columns_found : (s : ℕ) → s < streams_in ns → found ns (column_place s) 6 (code_of n) ≡ cond (some? (same_list n) (columns_named d s)) (position n (columns_named d s)) 6
    unfolding column_in
    columns_found s h =
        let l = streams_most ns in
        let z : column_place s + 0 ≡ column_place s = omega arith in
        found_words ns (code_of n) (code_above n t) (code_below n t u) (column_place s) (width_in ns s) 6 (width_most ns s)
        (λ i j k. let e : column_place s + (i - column_place s) ≡ i = omega arith in free_below (get_or ns i 0) (rw e at (named_free ns (column_place s) (width_in ns s) (facts.columns s h) (i - column_place s) (omega arith))))
        (λ i j k. let e : column_place s + (i - column_place s) ≡ i = omega arith in rw e at (facts.columns_after s (i - column_place s) (omega arith) (omega arith) (omega arith)))
        ∙ ap₂ (λ w ws. cond (some? (same_list w) ws) (position w ws) 6) (name_back n t u) (sym (columns_are ns s h ∙ words_shift ns (column_place s) 0 (width_in ns s) ∙ ap (λ i. words ns i (width_in ns s)) z))

  pub stream_below : (n : Bytes) → T (declared d n) → stream_number d n < streams_in ns
  stream_below n k = let l = ltb→lt (stream_number d n) (length d) (below d n k) in let e = length_schema ns in omega arith

  pub column_below : (n m : Bytes) → T (known n m) → position m (columns_named d (stream_number d n)) < width_in ns (stream_number d n)
  column_below n m k =
      let l = position_below m (columns_named d (stream_number d n)) (and_r (declared d n) (some? (same_list m) (columns_named d (stream_number d n))) k) in
      let e = length_columns ns (stream_number d n) (stream_below n (and_l (declared d n) (some? (same_list m) (columns_named d (stream_number d n))) k)) in
      omega arith

  pub stream_declared : (n : Bytes) → T (name? n) → T (short n) → ltb (stream_found ns (code_short n)) max_streams ≡ declared d n
  stream_declared n t u = rw (stream_found_is n t u) (go (declared d n) refl)
    where
      go : (b : Bool) → declared d n ≡ b → ltb (cond b (stream_number d n) max_streams) max_streams ≡ b
      go true e = let l = stream_below n (true_T (declared d n) e) in let m = streams_most ns in lt-ltb (stream_number d n) max_streams (omega arith)
      go false e = refl

  module _ (n m : Bytes) (t : T (name? n)) (v : T (name? m)) (u : T (short n)) (w : T (short m)) where
    place_is : place_in ns (code_of n) (code_of m) ≡ cond (known n m) (spot n m) unknown_code
    unfolding place_in
    place_is = rw (streams_found n t u) (go (declared d n) refl)
      where
        go : (b : Bool) → declared d n ≡ b
            → cond (ltb (cond b (stream_number d n) 4) 4 && ltb (found ns (column_place (cond b (stream_number d n) 4)) 6 (code_of m)) 6) (cond b (stream_number d n) 4 * 6 + found ns (column_place (cond b (stream_number d n) 4)) 6 (code_of m)) 28
            ≡ cond (b && some? (same_list m) (columns_named d (stream_number d n))) (spot n m) 28
        go false e = refl
        go true e =
            let l = stream_below n (true_T (declared d n) e) in
            let k = streams_most ns in
            rw (lt-ltb (stream_number d n) 4 (omega arith), columns_found m v w (stream_number d n) l) (by (some? (same_list m) (columns_named d (stream_number d n))) refl)
          where
            by : (b : Bool) → some? (same_list m) (columns_named d (stream_number d n)) ≡ b
                → cond (ltb (cond b (position m (columns_named d (stream_number d n))) 6) 6) (stream_number d n * 6 + cond b (position m (columns_named d (stream_number d n))) 6) 28 ≡ cond b (spot n m) 28
            by false f = refl
            by true f =
                let l = column_below n m (and_both (declared d n) (some? (same_list m) (columns_named d (stream_number d n))) (true_T (declared d n) e) (true_T (some? (same_list m) (columns_named d (stream_number d n))) f)) in
                let k = width_most ns (stream_number d n) in
                rw (lt-ltb (position m (columns_named d (stream_number d n))) 6 (omega arith))

    -- the code of two names
    pub code_dotted : ref_code ns (dotted n m) ≡ cond (is_self n) entry_code (cond (known n m) (spot n m) unknown_code)
    code_dotted = go (is_self n) refl
      where
        go : (b : Bool) → is_self n ≡ b → ref_code ns (dotted n m) ≡ cond b entry_code (cond (known n m) (spot n m) unknown_code)
        go true e = (code_self ns n m v w e).0
        go false e = code_other ns n m v w t u e ∙ place_is

    spot_parts : T (known n m) → (spot n m < time_code) × (spot n m / max_columns ≡ stream_number d n) × (spot n m % max_columns ≡ position m (columns_named d (stream_number d n)))
    spot_parts k =
        let l = stream_below n (and_l (declared d n) (some? (same_list m) (columns_named d (stream_number d n))) k) in
        let o = column_below n m k in
        let e = streams_most ns in
        let f = width_most ns (stream_number d n) in
        (omega arith, omega arith, omega arith)

  -- ---- every code

  module _ (n m : Bytes) (t : T (name? n)) (v : T (name? m)) (u : T (short n)) (w : T (short m)) where
    dotted_declared : not (eqb (ref_code ns (dotted n m)) unknown_code) ≡ ref_declared d (dotted n m)
    unfolding ref_declared
    dotted_declared = rw (code_dotted n m t v u w) (go (is_self n) (known n m) refl)
      where
        go : (a b : Bool) → known n m ≡ b → not (eqb (cond a entry_code (cond b (spot n m) unknown_code)) unknown_code) ≡ (a || b)
        go true b e = refl
        go false true e = let l = (spot_parts n m t v u w (true_T (known n m) e)).0 in rw (ne_eqb (spot n m) unknown_code (λ z. omega arith))
        go false false e = refl

    dotted_entry : eqb (ref_code ns (dotted n m)) entry_code ≡ is_self n
    dotted_entry = rw (code_dotted n m t v u w) (go (is_self n) (known n m) refl)
      where
        go : (a b : Bool) → known n m ≡ b → eqb (cond a entry_code (cond b (spot n m) unknown_code)) entry_code ≡ a
        go true b e = refl
        go false true e = let l = (spot_parts n m t v u w (true_T (known n m) e)).0 in ne_eqb (spot n m) entry_code (λ z. omega arith)
        go false false e = refl

    -- where it is no profile entry
    module _ (o : is_self n ≡ false) where
      dotted_known : T (ref_declared d (dotted n m)) → T (known n m)
      unfolding ref_declared
      dotted_known k = rw o at k

      dotted_code : T (known n m) → ref_code ns (dotted n m) ≡ spot n m
      dotted_code k = code_dotted n m t v u w ∙ rw (o, T_true (known n m) k)

      pub code_low : T (ref_declared d (dotted n m)) → ref_code ns (dotted n m) < time_code
      code_low k = rw (dotted_code (dotted_known k)) (spot_parts n m t v u w (dotted_known k)).0

      dotted_stands : T (known n m) → Stands ns (dotted n m)
      unfolding column_of term_of col_of
      dotted_stands k =
          let e = dotted_code k in
          let f = (spot_parts n m t v u w k).1 in
          let g = (spot_parts n m t v u w k).2 in
          record {
            stream = rw (e, f) (stream_below n (and_l (declared d n) (some? (same_list m) (columns_named d (stream_number d n))) k));
            column = rw (e, f, g) (column_below n m k);
            is = rw (e, f, g, o);
            term = rw (e, f, g, o);
          }

    dotted_column : ref_code ns (dotted n m) < time_code → Stands ns (dotted n m)
    dotted_column l = go (is_self n) (known n m) refl refl
      where
        go : (a b : Bool) → is_self n ≡ a → known n m ≡ b → Stands ns (dotted n m)
        go true b e f = absurd (let c = (code_self ns n m v w e).0 in omega arith)
        go false true e f = dotted_stands e (true_T (known n m) f)
        go false false e f = absurd (let c : ref_code ns (dotted n m) ≡ unknown_code = code_dotted n m t v u w ∙ rw (e, f) in omega arith)

  -- what is not declared has a code of its own
  pub code_declared : (r : Ref) → T (ref? r) → T (short_ref r) → not (eqb (ref_code ns r) unknown_code) ≡ ref_declared d r
  unfolding ref_declared ref? short_ref
  code_declared (dotted n m) g h = dotted_declared n m (search parts) (search parts) (search parts) (search parts)
  code_declared time g h = rw (code_alone ns).0
  code_declared figure g h = rw (code_alone ns).1

  -- so has a profile entry
  pub code_entry : (r : Ref) → T (ref? r) → T (short_ref r) → eqb (ref_code ns r) entry_code ≡ own? r
  unfolding own? ref? short_ref
  code_entry (dotted n m) g h = dotted_entry n m (search parts) (search parts) (search parts) (search parts)
  code_entry time g h = rw (code_alone ns).0
  code_entry figure g h = rw (code_alone ns).1

  -- a low code is a column's
  pub code_column : (r : Ref) → T (ref? r) → T (short_ref r) → ref_code ns r < time_code → Stands ns r
  unfolding ref? short_ref
  code_column (dotted n m) g h l = dotted_column n m (search parts) (search parts) (search parts) (search parts) l
  code_column time g h l = absurd (let c = (code_alone ns).0 in omega arith)
  code_column figure g h l = absurd (let c = (code_alone ns).1 in omega arith)

  -- ---- codes tell apart what they stand for

  -- what has a code, and a number of a second name where it is a profile entry
  back : ℕ → ℕ → Ref
  back c s =
      cond (ltb c time_code) (dotted (nth [] (stream_names d) (c / max_columns)) (nth [] (columns_named d (c / max_columns)) (c % max_columns)))
      (cond (eqb c time_code) time (cond (eqb c figure_code) figure (dotted (bytes "self") (name_of s))))

  back_low : (c s k : ℕ) → (c ≡ entry_code → s ≡ k) → (c ≡ number_code → ⊥) → c < unknown_code → back c s ≡ back c k
  unfolding back
  back_low c s k f g l = go (ltb c 24) (eqb c 24) (eqb c 25) refl refl refl
    where
      go : (x y z : Bool) → ltb c 24 ≡ x → eqb c 24 ≡ y → eqb c 25 ≡ z
          → cond x (dotted (nth [] (stream_names d) (c / 6)) (nth [] (columns_named d (c / 6)) (c % 6))) (cond y time (cond z figure (dotted (bytes "self") (name_of s))))
          ≡ cond x (dotted (nth [] (stream_names d) (c / 6)) (nth [] (columns_named d (c / 6)) (c % 6))) (cond y time (cond z figure (dotted (bytes "self") (name_of k))))
      go true y z e i j = refl
      go false true z e i j = refl
      go false false true e i j = refl
      go false false false e i j =
          let p = ltb-false c 24 e in
          let q = eqb-false c 24 i in
          let r = eqb-false c 25 j in
          ap (λ x. dotted (bytes "self") (name_of x)) (f (omega arith))

  module _ (n m : Bytes) (t : T (name? n)) (v : T (name? m)) (u : T (short n)) (w : T (short m)) where
    back_own : is_self n ≡ true → back (ref_code ns (dotted n m)) (second_code (dotted n m)) ≡ dotted n m
    unfolding back is_self
    back_own e = let c = code_self ns n m v w e in rw (c.0, c.1) (ap (λ x. dotted x m) (same_list→eq (bytes "self") n (true_T (same_list (bytes "self") n) e)))

    back_column : is_self n ≡ false → T (known n m) → back (ref_code ns (dotted n m)) (second_code (dotted n m)) ≡ dotted n m
    unfolding back declared stream_number
    back_column o k =
        let p = spot_parts n m t v u w k in
        rw (dotted_code n m t v u w o k, lt-ltb (spot n m) time_code p.0, p.1, p.2)
        (ap₂ dotted (position_nth n (stream_names d) (and_l (declared d n) (some? (same_list m) (columns_named d (stream_number d n))) k))
        (position_nth m (columns_named d (stream_number d n)) (and_r (declared d n) (some? (same_list m) (columns_named d (stream_number d n))) k)))

    back_dotted : T (ref_declared d (dotted n m)) → back (ref_code ns (dotted n m)) (second_code (dotted n m)) ≡ dotted n m
    back_dotted k = go (is_self n) refl
      where
        go : (b : Bool) → is_self n ≡ b → back (ref_code ns (dotted n m)) (second_code (dotted n m)) ≡ dotted n m
        go true e = back_own e
        go false e = back_column e (dotted_known n m t v u w e k)

  back_is : (r : Ref) → T (ref? r) → T (short_ref r) → T (ref_declared d r) → back (ref_code ns r) (second_code r) ≡ r
  unfolding back ref? short_ref
  back_is (dotted n m) g h k = back_dotted n m (search parts) (search parts) (search parts) (search parts) k
  back_is time g h k = rw (code_alone ns).0
  back_is figure g h k = rw (code_alone ns).1

  module _ (a b : Ref) (s : T (fine ns a)) (t : T (fine ns b)) where
    -- one code is one column, and one profile entry where its name is one
    pub code_one : ref_code ns a ≡ ref_code ns b → (ref_code ns a ≡ entry_code → second_code a ≡ second_code b) → a ≡ b
    unfolding fine
    code_one e f =
        let l = code_range ns a in
        let k = eqb-false (ref_code ns a) unknown_code (not-true (eqb (ref_code ns a) unknown_code) (code_declared a (search parts) (search parts) ∙ T_true (ref_declared d a) (search parts))) in
        sym (back_is a (search parts) (search parts) (search parts)) ∙ back_low (ref_code ns a) (second_code a) (second_code b) f l.1 (omega arith)
        ∙ ap (λ c. back c (second_code b)) e ∙ back_is b (search parts) (search parts) (search parts)

    pub ref_same : same_ref a b ≡ (eqb (ref_code ns a) (ref_code ns b) && (not (eqb (ref_code ns a) entry_code) || eqb (second_code a) (second_code b)))
    ref_same =
        same_truth (same_ref a b) (eqb (ref_code ns a) (ref_code ns b) && (not (eqb (ref_code ns a) entry_code) || eqb (second_code a) (second_code b)))
        (λ u. let e = same_ref→eq a b u in rw e (and_both (eqb (ref_code ns b) (ref_code ns b)) _ (eqb_refl (ref_code ns b)) (or_r (not (eqb (ref_code ns b) entry_code)) _ (eqb_refl (second_code b)))))
        (λ u. rw (code_one (eqb→eq (ref_code ns a) (ref_code ns b) (search parts)) (λ e. or_cases (not (eqb (ref_code ns a) entry_code)) (eqb (second_code a) (second_code b)) (search parts)
        (λ x. absurd (rw (eq-eqb (ref_code ns a) entry_code e) at x)) (λ x. eqb→eq (second_code a) (second_code b) x))) (same_ref_refl b))
