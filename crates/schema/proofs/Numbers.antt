-- Streams and columns of names that may be lent, by their numbers.
use mathlib.Core.Path.{◌≡◌, refl, sym, ap, ap₂, ◌∙◌}
use mathlib.Core.List.{List, [], map}
use mathlib.Core.Bool.{Bool, ◌||◌}
use Prim.Native.Nat.{ℕ, zero, suc, ◌+◌, ◌<◌}
use native.Mathlib.Omega.{arith}
use lib.Dec.{T, eqb, eqb→eq, eqb_refl}
use lib.ListN.{get_or}
use Rattle.lists.specs.Lists.{some?, count_from, same_list, position}
use Rattle.lists.proofs.Laws.{nth_position, same_truth}
use Rattle.lists.proofs.Counting.{map_alike, map_length, nth_map}
use Rattle.lists.proofs.Gathers.{some_of_map}
use Rattle.syntax.specs.Grammar.{Bytes}
use Rattle.calls.specs.Names.{stream_names, columns_named, stream_number}
use Rattle.calls.specs.Tables.{declared}
use Rattle.text.specs.Words.{name_of}
use Rattle.schema.specs.Schemas.{code_end, column_place, streams_in, width_in, column_in, schema_of, stands, named_from, schema_sound}
use Rattle.schema.proofs.Counted.{some_alike}
use Rattle.schema.proofs.FreeNames.{name_one}
use Rattle.schema.proofs.Lookups.{stream_names_are, columns_are}
use Rattle.schema.proofs.Soundness.{free_below, word, named_free, words_once, Sound, sound_facts}

eqb_swap : (m n : ℕ) → eqb m n ≡ eqb n m
eqb_swap m n = same_truth (eqb m n) (eqb n m) (λ t. rw (eqb→eq m n t) (eqb_refl n)) (λ t. rw (eqb→eq n m t) (eqb_refl m))

some_shift : (p : ℕ → Bool) (a b n : ℕ) → some? p (count_from (a + b) n) ≡ some? (λ i. p (a + i)) (count_from b n)
unfolding some? count_from
some_shift p a b zero = refl
some_shift p a b (suc n) =
    let e : suc (a + b) ≡ a + suc b = omega arith in
    ap (λ t. p (a + b) || t) (ap (λ m. some? p (count_from m n)) e ∙ some_shift p a (suc b) n)

-- ---- a group of names

module _ (ns : List ℕ) (at n : ℕ) (t : T (named_from ns at n)) where
  abbrev words : List Bytes
  words = map (word ns at) (count_from 0 n)

  -- a name is one of them where its number is
  words_stand : (code : ℕ) → code < code_end → some? (same_list (name_of code)) words ≡ stands ns at n code
  unfolding stands
  words_stand code h =
      let e : at + 0 ≡ at = omega arith in
      some_of_map (same_list (name_of code)) (word ns at) (count_from 0 n)
      ∙ some_alike (λ i. same_list (name_of code) (word ns at i)) (λ i. eqb (get_or ns (at + i) 0) code) 0 n
      (λ i k l. name_one code (get_or ns (at + i) 0) h (free_below (get_or ns (at + i) 0) (named_free ns at n t i (omega arith))) ∙ eqb_swap code (get_or ns (at + i) 0))
      ∙ sym (some_shift (λ i. eqb (get_or ns i 0) code) at 0 n)
      ∙ ap (λ m. some? (λ i. eqb (get_or ns i 0) code) (count_from m n)) e

  -- and each stands at its own place
  words_place : (i : ℕ) → i < n → position (word ns at i) words ≡ i
  words_place i h =
      let l = map_length (word ns at) 0 n in
      let e : 0 + i ≡ i = omega arith in
      ap (λ w. position w words) (sym (nth_map [] (word ns at) 0 n i h ∙ ap (word ns at) e)) ∙ nth_position words i (words_once ns at n t) (omega arith)

-- ---- streams and columns

module _ (ns : List ℕ) (sound : T (schema_sound ns)) where
  facts : Sound ns
  facts = sound_facts ns sound

  names_are : stream_names (schema_of ns) ≡ map (word ns 0) (count_from 0 (streams_in ns))
  names_are =
      stream_names_are ns
      ∙ map_alike (λ s. name_of (get_or ns s 0)) (word ns 0) 0 (streams_in ns) (λ i h k. let e : i ≡ 0 + i = omega arith in ap (λ j. name_of (get_or ns j 0)) e)

  pub stream_declared : (code : ℕ) → code < code_end → declared (schema_of ns) (name_of code) ≡ stands ns 0 (streams_in ns) code
  unfolding declared
  stream_declared code h = ap (some? (same_list (name_of code))) names_are ∙ words_stand ns 0 (streams_in ns) facts.names code h

  pub stream_numbered : (s : ℕ) → s < streams_in ns → stream_number (schema_of ns) (name_of (get_or ns s 0)) ≡ s
  unfolding stream_number
  stream_numbered s h =
      let e : s ≡ 0 + s = omega arith in
      ap₂ position (ap (λ j. name_of (get_or ns j 0)) e) names_are ∙ words_place ns 0 (streams_in ns) facts.names s h

  module _ (s : ℕ) (h : s < streams_in ns) where
    pub column_declared : (code : ℕ) → code < code_end → some? (same_list (name_of code)) (columns_named (schema_of ns) s) ≡ stands ns (column_place s) (width_in ns s) code
    unfolding column_in
    column_declared code k = ap (some? (same_list (name_of code))) (columns_are ns s h) ∙ words_stand ns (column_place s) (width_in ns s) (facts.columns s h) code k

    pub column_numbered : (c : ℕ) → c < width_in ns s → position (column_in ns s c) (columns_named (schema_of ns) s) ≡ c
    unfolding column_in
    column_numbered c k = ap (position (column_in ns s c)) (columns_are ns s h) ∙ words_place ns (column_place s) (width_in ns s) (facts.columns s h) c k
