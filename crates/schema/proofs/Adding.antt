-- One stream more: the schema that the names then stand for, and that they may be lent again.
use mathlib.Core.Path.{◌≡◌, sym, ap, ap₂, ◌∙◌, subst}
use mathlib.Core.List.{List, [], ◌∷◌, ◌++◌, map, map-append}
use mathlib.Core.Bool.{not}
use Prim.Native.Nat.{ℕ, zero, suc, ◌+◌, ◌<◌, ◌≤◌}
use native.Mathlib.Decide.{dec_lt, ℕ_discrete}
use native.Mathlib.Omega.{arith}
use lib.Dec.{T, T_not, leb→le}
use lib.ListN.{length, get_or, set, length-set, get_or-map, get_or-eq_default}
use lib.Seq.{paste, length-paste, get_or-set_same, get_or-set_other}
use borrow.Author.Tests.{lt-ltb, le-leb}
use Rattle.lists.specs.Lists.{every, some?, empty?, distinct, count_from, same_list}
use Rattle.lists.proofs.Laws.{parts, same_list_refl}
use Rattle.lists.proofs.Pasting.{paste_in, paste_out}
use Rattle.lists.proofs.Counting.{count_more, every_at, every_places, map_alike, map_places, map_length}
use Rattle.lists.proofs.Gathers.{some_of_map}
use Rattle.syntax.specs.Grammar.{Bytes, Stream, name?}
use Rattle.syntax.specs.Limits.{short}
use Rattle.calls.specs.Validity.{valid_name, free_name, valid_stream}
use Rattle.calls.specs.Tables.{declared}
use Rattle.text.specs.Words.{code_of, code_from, name_of}
use Rattle.text.proofs.Codes.{code_above, code_below, name_back}
use Rattle.items.specs.Items.{first_of}
use Rattle.schema.specs.Schemas.{code_end, column_place, streams_in, width_in, column_in, stream_in, schema_of, code_free, named_from, schema_sound, with_codes}
use Rattle.schema.proofs.Counted.{none_at}
use Rattle.schema.proofs.Places.{filled_above, filled_is, filled_same}
use Rattle.schema.proofs.Tests.{width_none}
use Rattle.schema.proofs.Lookups.{stream_names_are}
use Rattle.schema.proofs.Soundness.{free_made, word, named_free, named_apart, named_made, words_named, width_is, width_most, Sound, sound_facts, facts_sound}

-- ---- the places of one stream more

module _ (ns : List ℕ) (c : ℕ) (cs : List ℕ) (few : streams_in ns < 4) (long : 28 ≤ length ns) (six : length cs ≡ 6) where
  abbrev more : List ℕ
  more = with_codes ns c cs

  more_is : with_codes ns c cs ≡ paste (set ns (streams_in ns) c) (column_place (streams_in ns)) cs 6
  unfolding with_codes
  more_is = rw (lt-ltb (streams_in ns) 4 few, le-leb 28 (length ns) long)

  pub more_length : length (with_codes ns c cs) ≡ length ns
  more_length =
      let e = length-set ns (streams_in ns) c in
      ap length more_is ∙ length-paste (set ns (streams_in ns) c) (column_place (streams_in ns)) cs 6 (omega arith) (omega arith) ∙ e

  pub more_name : get_or (with_codes ns c cs) (streams_in ns) 0 ≡ c
  more_name =
      let e = length-set ns (streams_in ns) c in
      ap (λ l. get_or l (streams_in ns) 0) more_is
      ∙ paste_out (set ns (streams_in ns) c) cs (column_place (streams_in ns)) 6 0 (omega arith) (omega arith) (streams_in ns) (λ j h k. omega arith)
      ∙ get_or-set_same ns (streams_in ns) c 0 (omega arith)

  pub more_column : (j : ℕ) → j < 6 → get_or (with_codes ns c cs) (column_place (streams_in ns) + j) 0 ≡ get_or cs j 0
  more_column j h =
      let e = length-set ns (streams_in ns) c in
      ap (λ l. get_or l (column_place (streams_in ns) + j) 0) more_is ∙ paste_in (set ns (streams_in ns) c) cs (column_place (streams_in ns)) 6 0 (omega arith) (omega arith) j h

  -- all other places keep their numbers
  pub more_other : (i : ℕ) → (i ≡ streams_in ns → ⊥) → ((j : ℕ) → j < 6 → i ≡ column_place (streams_in ns) + j → ⊥) → get_or (with_codes ns c cs) i 0 ≡ get_or ns i 0
  more_other i f g =
      let e = length-set ns (streams_in ns) c in
      ap (λ l. get_or l i 0) more_is
      ∙ paste_out (set ns (streams_in ns) c) cs (column_place (streams_in ns)) 6 0 (omega arith) (omega arith) i g
      ∙ get_or-set_other ns (streams_in ns) i c 0 f

  name_kept : (s : ℕ) → s < 4 → (s ≡ streams_in ns → ⊥) → get_or (with_codes ns c cs) s 0 ≡ get_or ns s 0
  name_kept s h f = more_other s f (λ j k e. omega arith)

  column_kept : (s j : ℕ) → (s ≡ streams_in ns → ⊥) → j < 6 → get_or (with_codes ns c cs) (column_place s + j) 0 ≡ get_or ns (column_place s + j) 0
  column_kept s j f h = more_other (column_place s + j) (λ e. omega arith) (λ i k e. f (omega arith))

  pub width_kept : (s : ℕ) → (s ≡ streams_in ns → ⊥) → width_in (with_codes ns c cs) s ≡ width_in ns s
  width_kept s f = go (dec_lt s 4)
    where
      go : Dec (s < 4) → width_in (with_codes ns c cs) s ≡ width_in ns s
      go (yes h) = width_is more s h ∙ filled_same ns more (column_place s) 6 (λ j k. column_kept s j f k) ∙ sym (width_is ns s h)
      go (no h) = sym (width_none more s (omega arith)) ∙ width_none ns s (omega arith)

  pub older_kept : (s : ℕ) → s < streams_in ns → stream_in (with_codes ns c cs) s ≡ stream_in ns s
  unfolding stream_in column_in
  older_kept s h =
      let f : s ≡ streams_in ns → ⊥ = λ e. omega arith in
      let m = width_most ns s in
      ap₂ (λ x ys. record { name = x; columns = ys }) (ap name_of (name_kept s (omega arith) f))
      (ap (λ w. map (column_in more s) (count_from 0 w)) (width_kept s f)
      ∙ map_alike (column_in more s) (column_in ns s) 0 (width_in ns s) (λ j k l. ap name_of (column_kept s j f (omega arith))))

-- ---- names and their numbers

free_parts : (w : Bytes) → T (free_name w) → T (name? w) × T (short w)
unfolding free_name valid_name
free_parts w t = (search parts, search parts)

-- a name that a stream or a column may have: its number is not 0 and has eight bytes at the most, and is its number alone
module _ (w : Bytes) (t : T (free_name w)) where
  free_back : name_of (code_of w) ≡ w
  free_back = name_back w (free_parts w t).0 (free_parts w t).1

  free_above : 0 < code_of w
  free_above = code_above w (free_parts w t).0

  free_under : code_of w < code_end
  free_under = code_below w (free_parts w t).0 (free_parts w t).1

  pub free_code : T (code_free (code_of w))
  free_code = free_made (code_of w) free_under (rw free_back t)

getD_counted : {A : Type 0} (d : A) (f : ℕ → A) (a n j : ℕ) → j < n → get_or (map f (count_from a n)) j d ≡ f (a + j)
unfolding count_from
getD_counted d f a zero j h = absurd (omega arith)
getD_counted d f a (suc n) zero h = let e : a ≡ a + 0 = omega arith in ap f e
getD_counted d f a (suc n) (suc j) h = let e : suc a + j ≡ a + suc j = omega arith in getD_counted d f (suc a) n j (omega arith) ∙ ap f e

-- ---- one stream more

module _ (ns : List ℕ) (s : Stream) (sound : T (schema_sound ns)) (few : streams_in ns < 4) (valid : T (valid_stream s)) where
  abbrev codes : List ℕ
  codes = first_of 6 0 (map code_of s.columns)

  abbrev after : List ℕ
  after = with_codes ns (code_of s.name) (first_of 6 0 (map code_of s.columns))

  facts : Sound ns
  facts = sound_facts ns sound

  six : length codes ≡ 6
  unfolding first_of
  six = map_length (λ i. get_or (map code_of s.columns) i 0) 0 6

  name_free : T (free_name s.name)
  unfolding valid_stream
  name_free = search parts

  columns_free : T (every free_name s.columns)
  unfolding valid_stream
  columns_free = search parts

  column_free : (j : ℕ) → j < length s.columns → T (free_name (get_or s.columns j []))
  column_free j h = every_at (λ i. free_name (get_or s.columns i [])) 0 (length s.columns) (rw (every_places free_name [] s.columns) at columns_free) j (omega arith) (omega arith)

  narrow : length s.columns ≤ 6
  unfolding valid_stream
  narrow = leb→le (length s.columns) 6 (search parts)

  some_column : 0 < length s.columns
  unfolding valid_stream empty?
  some_column = go s.columns (search parts)
    where
      go : (xs : List Bytes) → T (not (empty? xs)) → 0 < length xs
      go [] t = absurd t
      go (x ∷ xs) t = omega arith

  columns_once : T (distinct same_list s.columns)
  unfolding valid_stream
  columns_once = search parts

  -- the number at a place of the new stream's columns
  code_at : (j : ℕ) → j < 6 → get_or after (column_place (streams_in ns) + j) 0 ≡ code_of (get_or s.columns j [])
  unfolding first_of code_of code_from
  code_at j h =
      let e : 0 + j ≡ j = omega arith in
      more_column ns (code_of s.name) codes few facts.long six j h
      ∙ getD_counted 0 (λ i. get_or (map code_of s.columns) i 0) 0 6 j h ∙ ap (λ i. get_or (map code_of s.columns) i 0) e
      ∙ get_or-map code_of s.columns j []

  code_past : (j : ℕ) → j < 6 → length s.columns ≤ j → get_or after (column_place (streams_in ns) + j) 0 ≡ 0
  unfolding code_of code_from
  code_past j h k = code_at j h ∙ ap code_of (get_or-eq_default s.columns [] k)

  word_at : (j : ℕ) → j < length s.columns → word after (column_place (streams_in ns)) j ≡ get_or s.columns j []
  word_at j h = let m = narrow in ap name_of (code_at j (omega arith)) ∙ free_back (get_or s.columns j []) (column_free j h)

  name_at : get_or after (streams_in ns) 0 ≡ code_of s.name
  name_at = more_name ns (code_of s.name) codes few facts.long six

  older_name : (i : ℕ) → i < 4 → (i ≡ streams_in ns → ⊥) → get_or after i 0 ≡ get_or ns i 0
  older_name = name_kept ns (code_of s.name) codes few facts.long six

  older_column : (r j : ℕ) → (r ≡ streams_in ns → ⊥) → j < 6 → get_or after (column_place r + j) 0 ≡ get_or ns (column_place r + j) 0
  older_column = column_kept ns (code_of s.name) codes few facts.long six

  pub older_width : (r : ℕ) → (r ≡ streams_in ns → ⊥) → width_in (with_codes ns (code_of s.name) (first_of 6 0 (map code_of s.columns))) r ≡ width_in ns r
  older_width = width_kept ns (code_of s.name) codes few facts.long six

  pub one_more : streams_in (with_codes ns (code_of s.name) (first_of 6 0 (map code_of s.columns))) ≡ suc (streams_in ns)
  unfolding streams_in
  one_more = filled_is after 0 4 (suc (streams_in ns)) few above stops
    where
      above : (i : ℕ) → i < suc (streams_in ns) → 0 < get_or after (0 + i) 0
      above i h = go (dec_lt i (streams_in ns))
        where
          go : Dec (i < streams_in ns) → 0 < get_or after (0 + i) 0
          go (yes l) =
              let z : 0 + i ≡ i = omega arith in
              let e = older_name i (omega arith) (λ p. omega arith) in
              let f : 0 < get_or ns i 0 = rw z at (filled_above ns 0 4 i l) in
              rw z (omega arith)
          go (no l) =
              let z : 0 + i ≡ streams_in ns = omega arith in
              let e = name_at in
              let f = free_above s.name name_free in
              rw z (omega arith)

      stops : suc (streams_in ns) < 4 → get_or after (0 + suc (streams_in ns)) 0 ≡ 0
      stops h =
          let z : 0 + suc (streams_in ns) ≡ suc (streams_in ns) = omega arith in
          rw z (older_name (suc (streams_in ns)) h (λ p. omega arith) ∙ facts.after (suc (streams_in ns)) (omega arith) h)

  pub width_new : width_in (with_codes ns (code_of s.name) (first_of 6 0 (map code_of s.columns))) (streams_in ns) ≡ length s.columns
  width_new =
      width_is after (streams_in ns) few
      ∙ filled_is after (column_place (streams_in ns)) 6 (length s.columns) narrow
      (λ j h. let m = narrow in let e = code_at j (omega arith) in let f = free_above (get_or s.columns j []) (column_free j h) in omega arith)
      (λ h. code_past (length s.columns) h (omega arith))

  stream_new : stream_in after (streams_in ns) ≡ s
  unfolding stream_in column_in
  stream_new =
      ap₂ (λ x ys. record { name = x; columns = ys }) (ap name_of name_at ∙ free_back s.name name_free)
      (ap (λ w. map (column_in after (streams_in ns)) (count_from 0 w)) width_new
      ∙ map_alike (column_in after (streams_in ns)) (λ j. get_or s.columns j []) 0 (length s.columns) (λ j h k. word_at j (omega arith))
      ∙ map_places [] s.columns)

  pub schema_more : schema_of (with_codes ns (code_of s.name) (first_of 6 0 (map code_of s.columns))) ≡ schema_of ns ++ (s ∷ [])
  unfolding schema_of
  schema_more =
      let z : 0 + streams_in ns ≡ streams_in ns = omega arith in
      ap (λ n. map (stream_in after) (count_from 0 n)) one_more
      ∙ ap (map (stream_in after)) (count_more 0 (streams_in ns))
      ∙ map-append (stream_in after) (count_from 0 (streams_in ns)) ((0 + streams_in ns) ∷ [])
      ∙ ap₂ (λ xs x. xs ++ (x ∷ []))
      (map_alike (stream_in after) (stream_in ns) 0 (streams_in ns) (λ i h k. older_kept ns (code_of s.name) codes few facts.long six i (omega arith)))
      (ap (stream_in after) z ∙ stream_new)

  -- ---- which may be lent again

  module _ (new : T (not (declared (schema_of ns) s.name))) where
    name_apart : (i : ℕ) → i < streams_in ns → get_or ns i 0 ≡ code_of s.name → ⊥
    unfolding declared
    name_apart i h e =
        let t : T (not (some? (same_list s.name) (map (λ r. name_of (get_or ns r 0)) (count_from 0 (streams_in ns))))) = rw (stream_names_are ns) at new in
        let u = rw (some_of_map (same_list s.name) (λ r. name_of (get_or ns r 0)) (count_from 0 (streams_in ns))) at t in
        T_not (same_list s.name (name_of (get_or ns i 0))) (none_at (λ r. same_list s.name (name_of (get_or ns r 0))) 0 (streams_in ns) u i (omega arith) (omega arith))
        (rw (ap name_of e ∙ free_back s.name name_free) (same_list_refl s.name))

    names_after : T (named_from after 0 (suc (streams_in ns)))
    names_after = named_made after 0 (suc (streams_in ns)) free apart
      where
        new_code : (i : ℕ) → i < suc (streams_in ns) → (i < streams_in ns → ⊥) → get_or after (0 + i) 0 ≡ code_of s.name
        new_code i h l = let z : 0 + i ≡ streams_in ns = omega arith in rw z name_at

        old_code : (i : ℕ) → i < streams_in ns → get_or after (0 + i) 0 ≡ get_or ns (0 + i) 0
        old_code i l = let z : 0 + i ≡ i = omega arith in rw z (older_name i (omega arith) (λ p. omega arith))

        free : (i : ℕ) → i < suc (streams_in ns) → T (code_free (get_or after (0 + i) 0))
        free i h = go (dec_lt i (streams_in ns))
          where
            go : Dec (i < streams_in ns) → T (code_free (get_or after (0 + i) 0))
            go (yes l) = rw (old_code i l) (named_free ns 0 (streams_in ns) facts.names i l)
            go (no l) = rw (new_code i h l) (free_code s.name name_free)

        apart : (i j : ℕ) → i < j → j < suc (streams_in ns) → get_or after (0 + i) 0 ≡ get_or after (0 + j) 0 → ⊥
        apart i j h k e = go (dec_lt j (streams_in ns))
          where
            l : i < streams_in ns
            l = omega arith

            go : Dec (j < streams_in ns) → ⊥
            go (yes m) = named_apart ns 0 (streams_in ns) facts.names i j h m (sym (old_code i l) ∙ e ∙ old_code j m)
            go (no m) = let z : i ≡ 0 + i = omega arith in name_apart i l (ap (λ x. get_or ns x 0) z ∙ sym (old_code i l) ∙ e ∙ new_code j k m)

    columns_old : (r : ℕ) → r < streams_in ns → T (named_from after (column_place r) (width_in ns r))
    columns_old r h =
        let m = width_most ns r in
        let f : r ≡ streams_in ns → ⊥ = λ p. omega arith in
        named_made after (column_place r) (width_in ns r)
        (λ j k. rw (older_column r j f (omega arith)) (named_free ns (column_place r) (width_in ns r) (facts.columns r h) j k))
        (λ i j k l e.
        named_apart ns (column_place r) (width_in ns r) (facts.columns r h) i j k l (sym (older_column r i f (omega arith)) ∙ e ∙ older_column r j f (omega arith)))

    columns_new : T (named_from after (column_place (streams_in ns)) (length s.columns))
    columns_new =
        let m = narrow in
        let e : map (word after (column_place (streams_in ns))) (count_from 0 (length s.columns)) ≡ s.columns =
        map_alike (word after (column_place (streams_in ns))) (λ j. get_or s.columns j []) 0 (length s.columns) (λ j h k. word_at j (omega arith)) ∙ map_places [] s.columns in
        words_named after (column_place (streams_in ns)) (length s.columns)
        (λ j h. rw (code_at j (omega arith)) (free_under (get_or s.columns j []) (column_free j h)))
        (subst (λ ws. T (every free_name ws)) (sym e) columns_free) (subst (λ ws. T (distinct same_list ws)) (sym e) columns_once)

    after_facts : Sound after
    after_facts =
        let n = one_more in
        record {
          long = let e = more_length ns (code_of s.name) codes few facts.long six in let l = facts.long in omega arith;
          names = rw one_more names_after;
          after = λ r h k. older_name r k (λ p. omega arith) ∙ facts.after r (omega arith) k;
          columns = λ r h. columns_at r (dec_lt r (streams_in ns)) (omega arith);
          some = λ r h. some_at r (dec_lt r (streams_in ns)) (omega arith);
          none = λ r h. older_width r (λ p. omega arith) ∙ facts.none r (omega arith);
          columns_after = λ r j h k l. past_at r j (ℕ_discrete r (streams_in ns)) h k l;
        }
      where
        columns_at : (r : ℕ) → Dec (r < streams_in ns) → r ≤ streams_in ns → T (named_from after (column_place r) (width_in after r))
        columns_at r (yes l) h = rw (older_width r (λ p. omega arith)) (columns_old r l)
        columns_at r (no l) h = let e : r ≡ streams_in ns = omega arith in rw (e, width_new) columns_new

        some_at : (r : ℕ) → Dec (r < streams_in ns) → r ≤ streams_in ns → 0 < width_in after r
        some_at r (yes l) h = let e = older_width r (λ p. omega arith) in let f = facts.some r l in omega arith
        some_at r (no l) h = let e : r ≡ streams_in ns = omega arith in let w = width_new in let f = some_column in rw e (omega arith)

        past_at : (r j : ℕ) → Dec (r ≡ streams_in ns) → r < 4 → width_in after r ≤ j → j < 6 → get_or after (column_place r + j) 0 ≡ 0
        past_at r j (yes e) h k l = let w = width_new in let m : width_in after (streams_in ns) ≤ j = rw e at k in rw e (code_past j l (omega arith))
        past_at r j (no f) h k l = let w = older_width r f in older_column r j f l ∙ facts.columns_after r j h (omega arith) l

    pub sound_more : T (schema_sound (with_codes ns (code_of s.name) (first_of 6 0 (map code_of s.columns))))
    sound_more = facts_sound after after_facts
