-- The mask of the columns of some streams, as the code makes it.
use mathlib.Core.Path.{◌≡◌, refl, sym, ap, ◌∙◌}
use mathlib.Core.List.{List, [], ◌∷◌, map}
use Prim.Native.Nat.{ℕ, zero, suc, ◌+◌, ◌*◌, ◌-◌, ◌^◌, ◌%◌, ◌≤◌, ◌<◌, min}
use native.Mathlib.Omega.{arith}
use lib.Bits.{bit_or, or_zero_r}
use lib.ListN.{length, get_or, take, drop, drop_of_length-le}
use lib.Seq.{drop-cons}
use native.Mathlib.Numerals.{add-one}
use lib.Dec.{T, eqb, leb, leb→le, eqb→eq}
use Rattle.lists.specs.Lists.{every, gather, count_from}
use Rattle.lists.proofs.Laws.{append_nil}
use Rattle.lists.proofs.Counting.{every_at}
use Rattle.lists.proofs.Chains.{part_first}
use Rattle.schema.specs.Schemas.{width_in}
use Rattle.schema.proofs.Soundness.{width_most}
use Rattle.schema.proofs.Tests.{width_none}
use Rattle.masks.specs.Masks.{mask_of}
use Rattle.masks.proofs.Lists.{mask_append, or_assoc}
use Rattle.grant.specs.Grants.{places_of, column_codes, streams_mask}

-- ---- the columns of one stream

abbrev pub stream_bits : List ℕ → ℕ → List ℕ
stream_bits ns s = map (λ c. s * 6 + c) (count_from 0 (width_in ns s))

pub one_stream : (ns : List ℕ) (s : ℕ) → streams_mask ns (s ∷ []) ≡ mask_of (stream_bits ns s)
unfolding streams_mask column_codes gather
one_stream ns s = ap mask_of (append_nil (stream_bits ns s))

pub stream_past : (ns : List ℕ) (s : ℕ) → 4 ≤ s → 0 ≡ streams_mask ns (s ∷ [])
unfolding count_from mask_of
stream_past ns s h =
    let z : width_in ns s ≡ 0 = sym (width_none ns s h) in
    let e : mask_of (stream_bits ns s) ≡ 0 = rw z in
    sym (one_stream ns s ∙ e)

-- the lowest n bits, as the code makes them, and these moved to the place of a stream
abbrev lowest : ℕ → ℕ
lowest n = (1 * 2 ^ n) % 2 ^ 32 - 1

abbrev moved : ℕ → ℕ → ℕ
moved s n = (lowest n * 2 ^ (s * 6)) % 2 ^ 32

-- of every stream and every width
one_table : T (every (λ n. leb 1 ((1 * 2 ^ n) % 2 ^ 32)) (count_from 0 7))
unfolding every count_from
one_table = tt

bits_table : T (every (λ s. every (λ n. eqb (moved s n) (mask_of (map (λ c. s * 6 + c) (count_from 0 n)))) (count_from 0 7)) (count_from 0 4))
unfolding every count_from mask_of
bits_table = tt

module _ (ns : List ℕ) (s : ℕ) {n : ℕ} (e : n ≡ width_in ns s) where
  pub narrow : n ≤ 6
  narrow = let h = width_most ns s in omega arith

  pub some_lowest : 1 ≤ (1 * 2 ^ n) % 2 ^ 32
  some_lowest = let h = narrow in leb→le 1 ((1 * 2 ^ n) % 2 ^ 32) (every_at (λ n. leb 1 ((1 * 2 ^ n) % 2 ^ 32)) 0 7 one_table n (omega arith) (omega arith))

  pub stream_moved : s < 4 → moved s n ≡ streams_mask ns (s ∷ [])
  stream_moved l =
      let h = narrow in
      let row = every_at (λ s. every (λ n. eqb (moved s n) (mask_of (map (λ c. s * 6 + c) (count_from 0 n)))) (count_from 0 7)) 0 4 bits_table s (omega arith) (omega arith) in
      let here = every_at (λ n. eqb (moved s n) (mask_of (map (λ c. s * 6 + c) (count_from 0 n)))) 0 7 row n (omega arith) (omega arith) in
      eqb→eq (moved s n) (mask_of (map (λ c. s * 6 + c) (count_from 0 n))) here ∙ ap (λ k. mask_of (map (λ c. s * 6 + c) (count_from 0 k))) e ∙ sym (one_stream ns s)

-- ---- the streams of some places

places_taken : (ss : List ℕ) (a n : ℕ) → a + n ≤ length ss → map (λ i. get_or ss i 0) (count_from a n) ≡ take n (drop a ss)
unfolding count_from
places_taken ss a zero h = refl
places_taken ss a (suc n) h = rw (part_first 0 ss a n (omega arith)) (ap (λ l. get_or ss a 0 ∷ l) (places_taken ss (suc a) n (omega arith)))

module _ (ns : List ℕ) where
  streams_more : (s : ℕ) (ss : List ℕ) → streams_mask ns (s ∷ ss) ≡ bit_or (streams_mask ns (s ∷ [])) (streams_mask ns ss)
  unfolding streams_mask column_codes gather
  streams_more s ss = mask_append (stream_bits ns s) (column_codes ns ss) ∙ ap (λ m. bit_or m (streams_mask ns ss)) (sym (one_stream ns s))

  pub mask_start : (count : ℕ) (ss : List ℕ) {n : ℕ} → length ss ≡ 4 → n ≡ min count 4 → streams_mask ns (places_of count ss) ≡ streams_mask ns (take n ss)
  unfolding places_of
  mask_start count ss l e = ap (streams_mask ns) (places_taken ss 0 (min count 4) (omega arith) ∙ ap (λ n. take n ss) (sym e))

  module _ (t m : ℕ) (ss : List ℕ) (i : ℕ) (inv : t ≡ bit_or m (streams_mask ns (drop i ss))) where
    pub mask_on : {k l : ℕ} → i < length ss → l ≡ streams_mask ns (get_or ss i 0 ∷ []) → k ≡ bit_or m l → t ≡ bit_or k (streams_mask ns (drop (i + 1) ss))
    mask_on h d e =
        let rest = streams_mask ns (drop (i + 1) ss) in
        inv ∙ ap (λ l. bit_or m (streams_mask ns l)) (drop-cons ss i 0 h) ∙ rw (← add-one i) (ap (bit_or m) (streams_more (get_or ss i 0) (drop (i + 1) ss)) ∙ sym (or_assoc m (streams_mask ns (get_or ss i 0 ∷ [])) rest) ∙ rw (e, d))

    pub mask_end : length ss ≤ i → m ≡ t
    unfolding streams_mask column_codes gather mask_of
    mask_end h = sym (inv ∙ rw (drop_of_length-le ss {i = i} h) (or_zero_r m))

pub ruleset mask_ends = (mask_start, mask_on, mask_end)
