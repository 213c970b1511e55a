-- Names may be lent where they are tidy and stand for a valid schema.
use mathlib.Core.Path.{◌≡◌, refl, sym, ap, ◌∙◌, subst}
use mathlib.Core.List.{List, [], ◌∷◌, map}
use mathlib.Core.Bool.{true, ◌&&◌, ◌||◌, not}
use Prim.Native.Nat.{ℕ, zero, suc, ◌+◌, ◌-◌, ◌<◌, ◌≤◌}
use native.Mathlib.Decide.{dec_lt}
use native.Mathlib.Omega.{arith}
use lib.Dec.{T, eqb, leb, ltb, leb→le, le→leb, ltb→lt, lt→ltb, eqb→eq}
use lib.ListN.{length, get_or, replicate}
use borrow.Author.Tests.{eq-eqb}
use Rattle.lists.specs.Lists.{every, empty?, distinct, count_from, same_list}
use Rattle.lists.proofs.Laws as L
use Rattle.lists.proofs.Laws.{parts, and_l, and_r, and_both, or_l, or_r, or_cases, true_T, same_truth}
use Rattle.lists.proofs.Counting.{every_at, every_made, every_map, map_alike, map_length}
use Rattle.lists.proofs.Gathers.{every_of_map}
use Rattle.syntax.specs.Grammar.{Bytes, Stream}
use Rattle.calls.specs.Names.{stream_names}
use Rattle.calls.specs.Validity.{free_name, valid_stream, valid_schema}
use Rattle.text.specs.Words.{name_of}
use Rattle.schema.specs.Schemas.{code_end, schema_size, column_place, filled, streams_in, width_in, column_in, stream_in, schema_of, zeros, named_from, stream_sound, streams_sound, schema_sound, group_tidy, columns_tidy, tidy}
use Rattle.schema.proofs.Places.{filled_most}
use Rattle.schema.proofs.Tests.{streams_most}
use Rattle.schema.proofs.Lookups.{stream_names_are, length_schema}
use Rattle.schema.proofs.Soundness.{width_zero, free_below, free_named, word, named_free, words_free, words_once, words_named, zeros_at, zeros_made, width_is, width_most, Sound, sound_facts, facts_sound}

-- ---- tidy groups

module _ (ns : List ℕ) (at n : ℕ) where
  group_made : ((i : ℕ) → i < n → get_or ns (at + i) 0 < code_end) → ((i : ℕ) → filled ns at n ≤ i → i < n → get_or ns (at + i) 0 ≡ 0) → T (group_tidy ns at n)
  unfolding group_tidy
  group_made f g =
      let m = filled_most ns at n in
      and_both (every (λ i. ltb (get_or ns i 0) code_end) (count_from at n)) (zeros ns (at + filled ns at n) (n - filled ns at n))
      (every_made (λ i. ltb (get_or ns i 0) code_end) at n
      (λ i h k. let e : at + (i - at) ≡ i = omega arith in lt→ltb (get_or ns i 0) code_end (rw e at (f (i - at) (omega arith)))))
      (zeros_made ns (at + filled ns at n) (n - filled ns at n)
      (λ i h k. let e : at + (i - at) ≡ i = omega arith in rw e at (g (i - at) (omega arith) (omega arith))))

  module _ (t : T (group_tidy ns at n)) where
    group_below : (i : ℕ) → i < n → get_or ns (at + i) 0 < code_end
    unfolding group_tidy
    group_below i h = ltb→lt (get_or ns (at + i) 0) code_end (every_at (λ i. ltb (get_or ns i 0) code_end) at n (search parts) (at + i) (omega arith) (omega arith))

    group_after : (i : ℕ) → filled ns at n ≤ i → i < n → get_or ns (at + i) 0 ≡ 0
    unfolding group_tidy
    group_after i h k = zeros_at ns (at + filled ns at n) (n - filled ns at n) (search parts) (at + i) (omega arith) (omega arith)

  -- names and no number after them are numbers of eight bytes
  all_below : (w : ℕ) → T (named_from ns at w) → ((i : ℕ) → w ≤ i → i < n → get_or ns (at + i) 0 ≡ 0) → (i : ℕ) → i < n → get_or ns (at + i) 0 < code_end
  all_below w t f i h = go (dec_lt i w)
    where
      go : Dec (i < w) → get_or ns (at + i) 0 < code_end
      go (yes l) = free_below (get_or ns (at + i) 0) (named_free ns at w t i l)
      go (no l) = let e = f i (omega arith) h in omega arith

-- ---- the streams by their places

module _ (ns : List ℕ) where
  words_are : map (word ns 0) (count_from 0 (streams_in ns)) ≡ stream_names (schema_of ns)
  words_are =
      map_alike (word ns 0) (λ s. name_of (get_or ns s 0)) 0 (streams_in ns) (λ i h k. let e : 0 + i ≡ i = omega arith in ap (λ j. name_of (get_or ns j 0)) e)
      ∙ sym (stream_names_are ns)

  abbrev columns_in : ℕ → List Bytes
  columns_in s = map (column_in ns s) (count_from 0 (width_in ns s))

  some_columns : (s : ℕ) → 0 < width_in ns s → T (not (empty? (columns_in s)))
  unfolding empty?
  some_columns s h = go (columns_in s) (map_length (column_in ns s) 0 (width_in ns s))
    where
      go : (xs : List Bytes) → length xs ≡ width_in ns s → T (not (empty? xs))
      go [] e = absurd (omega arith)
      go (x ∷ xs) e = tt

  columns_some : (s : ℕ) → T (not (empty? (columns_in s))) → 0 < width_in ns s
  unfolding empty? count_from
  columns_some s t = go (width_in ns s) t
    where
      go : (w : ℕ) → T (not (empty? (map (column_in ns s) (count_from 0 w)))) → 0 < w
      go zero t = absurd t
      go (suc w) t = omega arith

  -- ---- what may be lent is tidy and valid

  module _ (f : Sound ns) where
    name_free : (s : ℕ) → s < streams_in ns → T (free_name (name_of (get_or ns s 0)))
    name_free s h =
        let e : 0 + s ≡ s = omega arith in
        free_named (get_or ns s 0) (rw e at (named_free ns 0 (streams_in ns) f.names s h))

    stream_valid : (s : ℕ) → s < streams_in ns → T (valid_stream (stream_in ns s))
    unfolding valid_stream stream_in column_in
    stream_valid s h =
        and_both (free_name (name_of (get_or ns s 0)) && every free_name (columns_in s) && not (empty? (columns_in s)) && leb (length (columns_in s)) 6) (distinct same_list (columns_in s))
        (and_both (free_name (name_of (get_or ns s 0)) && every free_name (columns_in s) && not (empty? (columns_in s))) (leb (length (columns_in s)) 6)
        (and_both (free_name (name_of (get_or ns s 0)) && every free_name (columns_in s)) (not (empty? (columns_in s)))
        (and_both (free_name (name_of (get_or ns s 0))) (every free_name (columns_in s)) (name_free s h) (words_free ns (column_place s) (width_in ns s) (f.columns s h)))
        (some_columns s (f.some s h)))
        (le→leb (length (columns_in s)) 6 (let e = map_length (column_in ns s) 0 (width_in ns s) in let m = width_most ns s in omega arith)))
        (words_once ns (column_place s) (width_in ns s) (f.columns s h))

    facts_valid : T (valid_schema (schema_of ns))
    unfolding valid_schema schema_of
    facts_valid =
        and_both (leb (length (schema_of ns)) 4 && every valid_stream (schema_of ns)) (distinct same_list (stream_names (schema_of ns)))
        (and_both (leb (length (schema_of ns)) 4) (every valid_stream (schema_of ns))
        (le→leb (length (schema_of ns)) 4 (let e = length_schema ns in let m = streams_most ns in omega arith))
        (every_map valid_stream (stream_in ns) 0 (streams_in ns) (λ s h k. stream_valid s (omega arith))))
        (subst (λ ws. T (distinct same_list ws)) words_are (words_once ns 0 (streams_in ns) f.names))

    names_after : (i : ℕ) → streams_in ns ≤ i → i < 4 → get_or ns (0 + i) 0 ≡ 0
    names_after i h k = let e : 0 + i ≡ i = omega arith in rw e (f.after i h k)

    columns_named : (s : ℕ) → T (named_from ns (column_place s) (width_in ns s))
    unfolding named_from every count_from
    columns_named s = go (dec_lt s (streams_in ns))
      where
        go : Dec (s < streams_in ns) → T (named_from ns (column_place s) (width_in ns s))
        go (yes l) = f.columns s l
        go (no l) = let e = f.none s (omega arith) in rw e tt

    columns_neat : (s : ℕ) → s < 4 → T (columns_tidy ns s)
    unfolding columns_tidy
    columns_neat s h =
        let e = width_is ns s h in
        and_both (group_tidy ns (column_place s) 6) (ltb s (streams_in ns) || eqb (filled ns (column_place s) 6) 0)
        (group_made ns (column_place s) 6 (all_below ns (column_place s) 6 (width_in ns s) (columns_named s) (λ c k l. f.columns_after s c h k l)) (λ c k l. f.columns_after s c h (omega arith) l))
        (go (dec_lt s (streams_in ns)))
      where
        go : Dec (s < streams_in ns) → T (ltb s (streams_in ns) || eqb (filled ns (column_place s) 6) 0)
        go (yes l) = or_l (ltb s (streams_in ns)) _ (lt→ltb s (streams_in ns) l)
        go (no l) =
            let e = width_is ns s h in
            let g = f.none s (omega arith) in
            or_r (ltb s (streams_in ns)) _ (true_T (eqb (filled ns (column_place s) 6) 0) (eq-eqb (filled ns (column_place s) 6) 0 (omega arith)))

    facts_tidy : T (tidy ns)
    unfolding tidy streams_in
    facts_tidy =
        and_both (leb 28 (length ns) && group_tidy ns 0 4) (every (columns_tidy ns) (count_from 0 4))
        (and_both (leb 28 (length ns)) (group_tidy ns 0 4) (le→leb 28 (length ns) f.long) (group_made ns 0 4 (all_below ns 0 4 (streams_in ns) f.names names_after) names_after))
        (every_made (columns_tidy ns) 0 4 (λ s h k. columns_neat s (omega arith)))

  -- ---- and conversely

  module _ (t : T (tidy ns)) (v : T (valid_schema (schema_of ns))) where
    names_tidy : T (group_tidy ns 0 4)
    unfolding tidy
    names_tidy = search parts

    tidy_at : (s : ℕ) → s < 4 → T (columns_tidy ns s)
    unfolding tidy
    tidy_at s h = every_at (columns_tidy ns) 0 4 (search parts) s (omega arith) (omega arith)

    columns_group : (s : ℕ) → s < 4 → T (group_tidy ns (column_place s) 6)
    unfolding columns_tidy
    columns_group s h = let u = tidy_at s h in search parts

    all_valid : T (every valid_stream (schema_of ns))
    unfolding valid_schema
    all_valid = search parts

    valid_at : (s : ℕ) → s < streams_in ns → T (valid_stream (stream_in ns s))
    unfolding schema_of
    valid_at s h = every_at (λ s. valid_stream (stream_in ns s)) 0 (streams_in ns) (rw (every_of_map valid_stream (stream_in ns) (count_from 0 (streams_in ns))) at all_valid) s (omega arith) (omega arith)

    names_free : T (every free_name (stream_names (schema_of ns)))
    unfolding stream_names valid_stream
    names_free = L.every_map valid_stream free_name (λ s. s.name) name_of_valid (schema_of ns) all_valid
      where
        name_of_valid : (s : Stream) → T (valid_stream s) → T (free_name s.name)
        name_of_valid s u = search parts

    names_once : T (distinct same_list (stream_names (schema_of ns)))
    unfolding valid_schema
    names_once = search parts

    tidy_facts : Sound ns
    unfolding tidy columns_tidy streams_in valid_stream stream_in column_in
    tidy_facts =
        let m = streams_most ns in
        record {
          long = long;
          names = words_named ns 0 (streams_in ns) (λ i h. group_below ns 0 4 names_tidy i (omega arith)) (subst (λ ws. T (every free_name ws)) (sym words_are) names_free)
              (subst (λ ws. T (distinct same_list ws)) (sym words_are) names_once);
          after = after;
          columns = λ s h. columns s h (omega arith);
          some = λ s h. columns_some s (some_at s (valid_at s h));
          none = λ s h.
              width_zero ns s (λ k.
              width_is ns s k ∙ or_cases (ltb s (streams_in ns)) (eqb (filled ns (column_place s) 6) 0) (and_r (group_tidy ns (column_place s) 6) (ltb s (streams_in ns) || eqb (filled ns (column_place s) 6) 0) (tidy_at s k))
              (λ u. let l = ltb→lt s (streams_in ns) u in absurd (omega arith)) (λ u. eqb→eq (filled ns (column_place s) 6) 0 u));
          columns_after = λ s c h k l. let e = width_is ns s h in group_after ns (column_place s) 6 (columns_group s h) c (omega arith) l;
        }
      where
        long : 28 ≤ length ns
        long = leb→le 28 (length ns) (and_l (leb 28 (length ns)) (group_tidy ns 0 4) (and_l (leb 28 (length ns) && group_tidy ns 0 4) (every (columns_tidy ns) (count_from 0 4)) t))

        after : (s : ℕ) → streams_in ns ≤ s → s < 4 → get_or ns s 0 ≡ 0
        after s h k = let e : 0 + s ≡ s = omega arith in rw e at (group_after ns 0 4 names_tidy s h k)

        columns : (s : ℕ) → s < streams_in ns → s < 4 → T (named_from ns (column_place s) (width_in ns s))
        columns s h k =
            let m = width_most ns s in
            let u = valid_at s h in
            words_named ns (column_place s) (width_in ns s) (λ i l. group_below ns (column_place s) 6 (columns_group s k) i (omega arith)) (search parts) (search parts)

        some_at : (s : ℕ) → T (valid_stream (stream_in ns s)) → T (not (empty? (columns_in s)))
        some_at s u = search parts

-- ---- the law

pub sound_valid : (ns : List ℕ) → T (schema_sound ns) → T (valid_schema (schema_of ns))
sound_valid ns t = facts_valid ns (sound_facts ns t)

pub sound_tidy : (ns : List ℕ) → T (schema_sound ns) → T (tidy ns)
sound_tidy ns t = facts_tidy ns (sound_facts ns t)

pub valid_sound : (ns : List ℕ) → T (tidy ns) → T (valid_schema (schema_of ns)) → T (schema_sound ns)
valid_sound ns t v = facts_sound ns (tidy_facts ns t v)

pub sound_is : (ns : List ℕ) → schema_sound ns ≡ (tidy ns && valid_schema (schema_of ns))
sound_is ns =
    same_truth (schema_sound ns) (tidy ns && valid_schema (schema_of ns))
    (λ t. and_both (tidy ns) (valid_schema (schema_of ns)) (sound_tidy ns t) (sound_valid ns t))
    (λ t. valid_sound ns (and_l (tidy ns) (valid_schema (schema_of ns)) t) (and_r (tidy ns) (valid_schema (schema_of ns)) t))

-- ---- no stream

pub none_declared : schema_of (replicate schema_size 0) ≡ []
unfolding schema_of streams_in filled count_from
none_declared = refl

pub none_sound : schema_sound (replicate schema_size 0) ≡ true
unfolding schema_sound streams_sound stream_sound named_from zeros streams_in filled every count_from
none_sound = refl
