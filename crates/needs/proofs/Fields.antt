-- What a query asks, part by part, as the columns and streams that it names.
use mathlib.Core.Path.{◌≡◌, refl, sym, ap, ap₂, ◌∙◌, subst}
use mathlib.Core.List.{List, [], ◌∷◌, ◌++◌, map}
use mathlib.Core.Bool.{Bool, true, false, ◌&&◌, ◌||◌, cond, and-or_distrib_right, and-false}
use Prim.Native.Nat.{ℕ, zero, suc, ◌+◌, ◌*◌, ◌^◌, ◌≤◌, ◌<◌}
use native.Mathlib.Decide.{dec_lt, ℕ_discrete}
use native.Mathlib.Omega.{arith}
use lib.Bits.{bit_and, bit_or, or_zero_r}
use lib.Dec.{T, ltb, eqb, ltb→lt}
use borrow.Author.Tests.{eq-eqb, ne_eqb, lt-ltb, le-ltb}
use Rattle.lists.specs.Lists.{every, some?, gather, count_from}
use Rattle.lists.proofs.Laws.{and_l, and_r, parts, append_nil, gather_append, every_append_l, every_append_r}
use Rattle.lists.proofs.Gathers.{some_append}
use Rattle.syntax.specs.Grammar.{Cond}
use Rattle.model.specs.Conditions.{tests}
use Rattle.model.specs.Queries.{Col, col, figure, columns_of, Term, column, time, number, self, Compare, Query, source, pick, keep, join, aggregate, sources, header}
use Rattle.model.specs.Checks.{term_cols, cond_cols, term_timed, timed, side, allowed}
use Rattle.model.specs.Routes.{single}
use Rattle.model.proofs.RouteKinds.{asked_cols, equal_cols}
use Rattle.model.proofs.Rewriting.{stream, side_sources}
use Rattle.schema.specs.Schemas.{streams_in, width_in, schema_of}
use Rattle.schema.proofs.Lookups.{stream_columns}
use Rattle.schema.proofs.Soundness.{width_most}
use Rattle.schema.proofs.Tests.{streams_most}
use Rattle.masks.specs.Masks.{bit?, mask_of}
use Rattle.masks.proofs.Bits.{bit_and_lem}
use Rattle.masks.proofs.Lists.{bits_same, bit_mask, mask_append}
use Rattle.grant.specs.Grants.{column_codes, streams_mask}
use Rattle.grant.proofs.Masked.{declared_stream}
use Rattle.comparisons.specs.Compared.{col_codes, term_codes, compare_codes, named_by}
use Rattle.needs.specs.Asking.{no_stream, all_columns, bits_of, code_bit, col_code, rows_needs, pick_needs, keep_needs, join_needs, aggregate_needs, needs_of}
use Rattle.needs.proofs.Codes.{bit_all}

-- ---- bits of columns

pub bits_append : (cs ds : List Col) → bits_of (cs ++ ds) ≡ bit_or (bits_of cs) (bits_of ds)
unfolding bits_of
bits_append cs ds = ap mask_of (gather_append col_codes cs ds) ∙ mask_append (gather col_codes cs) (gather col_codes ds)

pub bit_one : (c : Col) → code_bit (col_code c) ≡ bits_of (c ∷ [])
unfolding code_bit col_code bits_of gather col_codes mask_of
bit_one (col s k) = go (ltb (s * 6 + k) 24)
  where
    go : (b : Bool) → cond b (2 ^ (s * 6 + k)) 0 ≡ mask_of (cond b ((s * 6 + k) ∷ []) [] ++ [])
    go true = sym (or_zero_r (2 ^ (s * 6 + k)))
    go false = refl
bit_one figure = refl

-- ---- what conditions name

module _ (i : ℕ) where
  abbrev at : List ℕ → Bool
  at is = some? (λ j. eqb j i) is

  term_low : (t : Term) → (at (term_codes t) && ltb i 24) ≡ at (gather col_codes (term_cols t))
  unfolding term_codes term_cols gather col_codes some?
  term_low (column (col s k)) = go (dec_lt (s * 6 + k) 24) (ℕ_discrete (s * 6 + k) i)
    where
      go : Dec (s * 6 + k < 24) → Dec (s * 6 + k ≡ i) → (at (cond (ltb (s * 6 + k) 24) ((s * 6 + k) ∷ []) []) && ltb i 24) ≡ at (cond (ltb (s * 6 + k) 24) ((s * 6 + k) ∷ []) [] ++ [])
      go (yes h) (yes e) = rw (lt-ltb (s * 6 + k) 24 h, eq-eqb (s * 6 + k) i e, lt-ltb i 24 (omega arith))
      go (yes h) (no e) = rw (lt-ltb (s * 6 + k) 24 h, ne_eqb (s * 6 + k) i e)
      go (no h) e = rw (le-ltb (s * 6 + k) 24 (omega arith))
  term_low (column figure) = refl
  term_low time = go (ℕ_discrete 24 i)
    where
      go : Dec (24 ≡ i) → ((eqb 24 i || false) && ltb i 24) ≡ false
      go (yes e) = rw (le-ltb i 24 (omega arith)) (and-false (eqb 24 i || false))
      go (no e) = rw (ne_eqb 24 i e)
  term_low (number z) = refl
  term_low (self n) = refl

  compares_low : (ts : List Compare) → (at (gather compare_codes ts) && ltb i 24) ≡ at (gather col_codes (gather (λ t. term_cols t.left ++ term_cols t.right) ts))
  unfolding gather
  compares_low [] = unfold some? in refl
  compares_low (t ∷ ts) =
      ap (λ b. b && ltb i 24) (some_append (λ j. eqb j i) (compare_codes t) (gather compare_codes ts))
      ∙ and-or_distrib_right (at (compare_codes t)) (at (gather compare_codes ts)) (ltb i 24)
      ∙ ap₂ ◌||◌ one (compares_low ts)
      ∙ sym (ap at (gather_append col_codes (term_cols t.left ++ term_cols t.right) (gather (λ t. term_cols t.left ++ term_cols t.right) ts))
      ∙ some_append (λ j. eqb j i) (gather col_codes (term_cols t.left ++ term_cols t.right)) _)
    where
      one : (at (compare_codes t) && ltb i 24) ≡ at (gather col_codes (term_cols t.left ++ term_cols t.right))
      one =
          unfold compare_codes in
          ap (λ b. b && ltb i 24) (some_append (λ j. eqb j i) (term_codes t.left) (term_codes t.right))
          ∙ and-or_distrib_right (at (term_codes t.left)) (at (term_codes t.right)) (ltb i 24)
          ∙ ap₂ ◌||◌ (term_low t.left) (term_low t.right)
          ∙ sym (ap at (gather_append col_codes (term_cols t.left) (term_cols t.right)) ∙ some_append (λ j. eqb j i) (gather col_codes (term_cols t.left)) (gather col_codes (term_cols t.right)))

-- the columns that a condition names
pub named_columns : (c : Cond Compare) → bit_and (named_by (tests c)) all_columns ≡ bits_of (cond_cols c)
unfolding named_by bits_of cond_cols
named_columns c =
    bits_same _ _
    (λ i. bit_and_lem (mask_of (gather compare_codes (tests c))) all_columns i ∙ ap₂ ◌&&◌ (bit_mask (gather compare_codes (tests c)) i) (bit_all i) ∙ compares_low i (tests c) ∙ sym (bit_mask _ i))

term_time : (t : Term) → some? (λ j. eqb j 24) (term_codes t) ≡ term_timed t
unfolding term_codes col_codes some? term_timed
term_time (column (col s k)) = go (dec_lt (s * 6 + k) 24)
  where
    go : Dec (s * 6 + k < 24) → some? (λ j. eqb j 24) (cond (ltb (s * 6 + k) 24) ((s * 6 + k) ∷ []) []) ≡ false
    go (yes h) = rw (lt-ltb (s * 6 + k) 24 h, ne_eqb (s * 6 + k) 24 (λ e. omega arith))
    go (no h) = rw (le-ltb (s * 6 + k) 24 (omega arith))
term_time (column figure) = refl
term_time time = refl
term_time (number z) = refl
term_time (self n) = refl

times_named : (ts : List Compare) → some? (λ j. eqb j 24) (gather compare_codes ts) ≡ some? (λ t. term_timed t.left || term_timed t.right) ts
unfolding gather compare_codes some?
times_named [] = refl
times_named (t ∷ ts) =
    some_append (λ j. eqb j 24) (term_codes t.left ++ term_codes t.right) (gather compare_codes ts)
    ∙ ap₂ ◌||◌ (some_append (λ j. eqb j 24) (term_codes t.left) (term_codes t.right) ∙ ap₂ ◌||◌ (term_time t.left) (term_time t.right)) (times_named ts)

-- whether it names the time
pub named_time : (c : Cond Compare) → bit? (named_by (tests c)) 24 ≡ timed c
unfolding named_by timed
named_time c = bit_mask (gather compare_codes (tests c)) 24 ∙ times_named (tests c)

-- ---- the columns that a query asks for

module _ (ns : List ℕ) where
  pub need_is : (q : Query ℕ) → (needs_of ns q).need ≡ bits_of (asked_cols q)
  unfolding needs_of rows_needs pick_needs keep_needs join_needs aggregate_needs asked_cols
  need_is (source s) = unfold bits_of gather mask_of in refl
  need_is (pick c q) = ap₂ bit_or (named_columns c) (need_is q) ∙ sym (bits_append (cond_cols c) (asked_cols q))
  need_is (keep cs q) = need_is q
  need_is (join a b q r) = ap₂ bit_or (need_is q) (need_is r) ∙ sym (bits_append (asked_cols q) (asked_cols r))
  need_is (aggregate f c size offset q) = ap₂ bit_or (bit_one c) (need_is q) ∙ sym (bits_append (c ∷ []) (asked_cols q))

  pub keys_are : (q : Query ℕ) → (needs_of ns q).keys ≡ bits_of (equal_cols q)
  unfolding needs_of rows_needs pick_needs keep_needs join_needs aggregate_needs equal_cols
  keys_are (source s) = unfold bits_of gather mask_of in refl
  keys_are (pick c q) = keys_are q
  keys_are (keep cs q) = keys_are q
  keys_are (join a b q r) = ap₂ bit_or (bit_one a) (bit_one b) ∙ sym (bits_append (a ∷ []) (b ∷ []))
  keys_are (aggregate f c size offset q) = keys_are q

  -- ---- those of its answer

  low_codes : (s a n : ℕ) → s < 4 → a + n ≤ 6 → map (λ c. s * 6 + c) (count_from a n) ≡ gather col_codes (map (col s) (count_from a n))
  unfolding count_from gather col_codes
  low_codes s a zero l h = refl
  low_codes s a (suc n) l h = rw (lt-ltb (s * 6 + a) 24 (omega arith)) (ap (λ l. (s * 6 + a) ∷ l) (low_codes s (suc a) n l (omega arith)))

  stream_bits_are : (s : ℕ) → T (declared_stream ns s) → streams_mask ns (s ∷ []) ≡ bits_of (columns_of (schema_of ns) s)
  unfolding streams_mask column_codes bits_of gather
  stream_bits_are s t =
      let l = ltb→lt s (streams_in ns) t in
      ap mask_of (append_nil (map (λ c. s * 6 + c) (count_from 0 (width_in ns s))) ∙ low_codes s 0 (width_in ns s) (omega (arith, streams_most ns)) (omega (arith, width_most ns s)) ∙ ap (gather col_codes) (sym (stream_columns ns s l)))

  pub header_is : (q : Query ℕ) → T (every (declared_stream ns) (sources q)) → (needs_of ns q).header ≡ bits_of (header (columns_of (schema_of ns)) q)
  unfolding needs_of rows_needs pick_needs keep_needs join_needs aggregate_needs header sources every
  header_is (source s) t = stream_bits_are s (and_l (declared_stream ns s) true t)
  header_is (pick c q) t = header_is q t
  header_is (keep cs q) t = refl
  header_is (join a b q r) t =
      ap₂ bit_or (header_is q (every_append_l (declared_stream ns) (sources q) (sources r) t)) (header_is r (every_append_r (declared_stream ns) (sources q) (sources r) t))
      ∙ sym (bits_append (header (columns_of (schema_of ns)) q) (header (columns_of (schema_of ns)) r))
  header_is (aggregate f c size offset q) t = unfold bits_of gather col_codes mask_of in refl

  -- ---- its streams

  side_left : (q : Query ℕ) → T (side q) → ((needs_of ns q).left ≡ stream q) × ((needs_of ns q).right ≡ no_stream)
  unfolding needs_of rows_needs pick_needs keep_needs side stream
  side_left (source s) w = (refl, refl)
  side_left (pick c q) w = side_left q w
  side_left (keep cs q) w = side_left q w
  side_left (join a b q r) w = absurd w
  side_left (aggregate f c size offset q) w = absurd w

  -- the streams by number: one, or two of which the second is declared
  pub record Streams (q : Query ℕ) : Type 0 where
    pub lone : T (single (sources q)) → (sources q ≡ (needs_of ns q).left ∷ []) × ((needs_of ns q).right ≡ no_stream)
    pub both : single (sources q) ≡ false → (sources q ≡ (needs_of ns q).left ∷ ((needs_of ns q).right ∷ [])) × ((needs_of ns q).right < 4)

  second_of : (s t : ℕ) → T (every (declared_stream ns) (s ∷ (t ∷ []))) → T (declared_stream ns t)
  unfolding every
  second_of s t w = and_l (declared_stream ns t) true (and_r (declared_stream ns s) _ w)

  join_streams : (a b : Col) (q r : Query ℕ) → T (side q) → T (side r) → T (every (declared_stream ns) (sources q ++ sources r)) → Streams (join a b q r)
  unfolding needs_of join_needs sources single
  join_streams a b q r v w t =
      let x : sources q ++ sources r ≡ stream q ∷ (stream r ∷ []) = ap₂ ◌++◌ (side_sources q v) (side_sources r w) in
      let y = subst (λ ss. T (every (declared_stream ns) ss)) x t in
      let l : stream r < streams_in ns = ltb→lt (stream r) (streams_in ns) (second_of (stream q) (stream r) y) in
      let e = (side_left q v).0 in
      let f = (side_left r w).0 in
      record {
        lone = λ u. absurd (subst (λ ss. T (single ss)) x u);
        both = λ u. (x ∙ sym (ap₂ (λ i j. i ∷ (j ∷ [])) e f), omega (arith, streams_most ns));
      }

  pub streams_are : (hs : ℕ → List Col) (q : Query ℕ) → T (allowed hs q) → T (every (declared_stream ns) (sources q)) → Streams q
  unfolding needs_of rows_needs pick_needs keep_needs aggregate_needs sources allowed single
  streams_are hs (source s) w t = record { lone = λ u. (refl, refl); both = λ u. absurd (subst T u tt) }
  streams_are hs (pick c q) w t = let h = streams_are hs q (search parts) t in record { lone = h.lone; both = h.both }
  streams_are hs (keep cs q) w t = let h = streams_are hs q (search parts) t in record { lone = h.lone; both = h.both }
  streams_are hs (join a b q r) w t = join_streams a b q r (search parts) (search parts) t
  streams_are hs (aggregate f c size offset q) w t = let h = streams_are hs q (search parts) t in record { lone = h.lone; both = h.both }
