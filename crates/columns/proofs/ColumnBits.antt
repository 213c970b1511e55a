-- The columns of some streams and the bits of their mask; columns and terms that stand among them by their codes.
use mathlib.Core.Path.{◌≡◌, refl, sym, ap, ap₂, ◌∙◌}
use mathlib.Core.List.{List, [], ◌∷◌, map}
use mathlib.Core.Bool.{Bool, true, false, ◌&&◌, ◌||◌, and-true, or-false, or-true}
use Prim.Native.Nat.{ℕ, zero, suc, ◌+◌, ◌*◌, ◌/◌, ◌%◌, ◌≤◌, ◌<◌}
use native.Mathlib.Omega.{arith}
use lib.Bits.{bit_or}
use lib.Dec.{T, eqb, ltb, eqb→eq, eqb_refl, lt→ltb, ltb→lt}
use lib.ListN.{length}
use borrow.Author.Tests.{ne_eqb}
use Rattle.lists.specs.Lists.{every, some?, gather, count_from}
use Rattle.lists.proofs.Laws.{and_l, and_r, and_both, parts, every_append, some_none, same_truth}
use Rattle.lists.proofs.Gathers.{some_append, every_of_map, some_of_map, every_good}
use Rattle.syntax.specs.Grammar as G
use Rattle.syntax.specs.Grammar.{Bytes, Ref, Operand, ref?}
use Rattle.syntax.specs.Limits.{max_columns, short_ref}
use Rattle.model.specs.Queries.{Schema, Col, col, figure, same_col, columns_of}
use Rattle.model.specs.Checks.{has, within, term_cols, when_left, when_right}
use Rattle.calls.specs.Names.{col_of, is_self, term_of, column_of, operand_of}
use Rattle.schema.specs.Schemas.{streams_in, width_in, schema_of, schema_sound}
use Rattle.schema.proofs.Lookups.{length_schema, stream_columns}
use Rattle.schema.proofs.Tests.{streams_most}
use Rattle.schema.proofs.Soundness.{width_most}
use Rattle.masks.specs.Masks.{bit?, mask_of, inside}
use Rattle.masks.proofs.Bits.{bit_or_lem}
use Rattle.masks.proofs.Lists.{bit_mask, inside_every}
use Rattle.terms.specs.Terms.{time_code, number_code, entry_code, operand_code, ref_code}
use Rattle.terms.proofs.Resolving.{code_alone, code_self, code_low, code_column, fine}
use Rattle.columns.proofs.Closing.{eqb_sym}
use Rattle.columns.proofs.Declared.{some_same}

-- the codes of the columns of some streams
abbrev pub codes_of : List ℕ → List ℕ → List ℕ
codes_of ns ss = gather (λ s. map (λ c. s * max_columns + c) (count_from 0 (width_in ns s))) ss

-- a right side with names that are short and declared
unfoldable pub operand_fine : List ℕ → Operand → Bool
operand_fine ns (G.ref r) = fine ns r
operand_fine ns (G.number z) = true

-- ---- one stream

-- a column's code from its numbers
code_same : (x a p : ℕ) → a < 6 → eqb (x * 6 + a) p ≡ (eqb (p / 6) x && eqb (p % 6) a)
code_same x a p h =
    same_truth (eqb (x * 6 + a) p) (eqb (p / 6) x && eqb (p % 6) a)
    (λ t. let e = eqb→eq (x * 6 + a) p t in
    let i : p / 6 ≡ x = omega arith in
    let j : p % 6 ≡ a = omega arith in
    rw (i, j) (and_both (eqb x x) (eqb a a) (eqb_refl x) (eqb_refl a)))
    (λ t. let i = eqb→eq (p / 6) x (and_l (eqb (p / 6) x) (eqb (p % 6) a) t) in
    let j = eqb→eq (p % 6) a (and_r (eqb (p / 6) x) (eqb (p % 6) a) t) in
    let e : x * 6 + a ≡ p = omega arith in
    rw e (eqb_refl p))

counted : (x p a n : ℕ) → a + n ≤ 6 → some? (λ j. eqb j p) (map (λ c. x * 6 + c) (count_from a n)) ≡ some? (same_col (col (p / 6) (p % 6))) (map (col x) (count_from a n))
unfolding some? count_from same_col
counted x p a zero h = refl
counted x p a (suc n) h = ap₂ ◌||◌ (code_same x a p (omega arith)) (counted x p (suc a) n (omega arith))

counted_low : (x a n : ℕ) → x < 4 → a + n ≤ 6 → T (every (λ j. ltb j 24) (map (λ c. x * 6 + c) (count_from a n)))
unfolding every count_from
counted_low x a zero l h = tt
counted_low x a (suc n) l h = and_both (ltb (x * 6 + a) 24) _ (lt→ltb (x * 6 + a) 24 (omega arith)) (counted_low x (suc a) n l (omega arith))

-- a column of a stream below a number
low : ℕ → Col → Bool
low n (col s c) = ltb s n
low n figure = false

counted_cols : (m x a n : ℕ) → T (ltb x m) → T (every (low m) (map (col x) (count_from a n)))
unfolding every count_from low
counted_cols m x a zero b = tt
counted_cols m x a (suc n) b = and_both (ltb x m) _ b (counted_cols m x (suc a) n b)

-- ---- columns that are listed

module _ (ns : List ℕ) (sound : T (schema_sound ns)) where
  dotted_col : (n m : Bytes) → is_self n ≡ false → column_of (schema_of ns) (G.dotted n m) ≡ col_of (schema_of ns) n m
  unfolding column_of
  dotted_col n m e = rw e

  -- two names: a profile entry, or a column of a stream
  dotted_cases : {X : Type 0} (n m : Bytes) → T (fine ns (G.dotted n m))
      → (is_self n ≡ true → ref_code ns (G.dotted n m) ≡ entry_code → X)
      → (is_self n ≡ false → ref_code ns (G.dotted n m) < time_code → column_of (schema_of ns) (G.dotted n m) ≡ col (ref_code ns (G.dotted n m) / max_columns) (ref_code ns (G.dotted n m) % max_columns) → X) → X
  unfolding fine ref? short_ref
  dotted_cases {X} n m t f g = go (is_self n) refl
    where
      go : (x : Bool) → is_self n ≡ x → X
      go true e = f e (code_self ns n m (search parts depth 6) (search parts depth 6) e).0
      go false e =
          let l = code_low ns sound n m (search parts depth 6) (search parts depth 6) (search parts depth 6) (search parts depth 6) e (search parts) in
          g e l (code_column ns sound (G.dotted n m) (search parts) (search parts) l).is

  module _ (s c : ℕ) (h : s < streams_in ns) (l : c < max_columns) where
    under : s * max_columns + c < time_code
    under = let m = streams_most ns in omega arith

    absent : (e : ℕ) → same_col (col s c) (col (length (schema_of ns)) e) ≡ false
    unfolding same_col
    absent e = rw (ne_eqb s (length (schema_of ns)) (λ z. let k = length_schema ns in omega arith))

    ref_listed : (r : Ref) → T (fine ns r) → eqb (ref_code ns r) (s * max_columns + c) ≡ same_col (col s c) (column_of (schema_of ns) r)
    unfolding column_of same_col
    ref_listed (G.dotted n m) t =
        dotted_cases n m t (λ e k. let u = under in ap (λ i. eqb i (s * 6 + c)) k ∙ ne_eqb 27 (s * 6 + c) (λ z. omega arith) ∙ sym (rw e (absent 0)))
        (λ e k i. rw i (eqb_sym (ref_code ns (G.dotted n m)) (s * 6 + c) ∙ code_same s c (ref_code ns (G.dotted n m)) l ∙ ap₂ ◌&&◌ (eqb_sym (ref_code ns (G.dotted n m) / 6) s) (eqb_sym (ref_code ns (G.dotted n m) % 6) c)))
    ref_listed G.time t = let u = under in ap (λ i. eqb i (s * 6 + c)) (code_alone ns).0 ∙ ne_eqb 24 (s * 6 + c) (λ z. omega arith) ∙ sym (absent 0)
    ref_listed G.figure t = let u = under in ap (λ i. eqb i (s * 6 + c)) (code_alone ns).1 ∙ ne_eqb 25 (s * 6 + c) (λ z. omega arith)

    -- a column of a stream is a bit of a list's mask where the list has it
    pub listed_bit : (rs : List Ref) → T (every (fine ns) rs) → bit? (mask_of (map (ref_code ns) rs)) (s * max_columns + c) ≡ has (map (column_of (schema_of ns)) rs) (col s c)
    unfolding has
    listed_bit rs t =
        bit_mask (map (ref_code ns) rs) (s * max_columns + c) ∙ some_of_map (λ j. eqb j (s * max_columns + c)) (ref_code ns) rs
        ∙ some_same (λ r. eqb (ref_code ns r) (s * max_columns + c)) (λ r. same_col (col s c) (column_of (schema_of ns) r)) (fine ns) ref_listed rs t
        ∙ sym (some_of_map (same_col (col s c)) (column_of (schema_of ns)) rs)

-- ---- some streams

module _ (ns : List ℕ) where
  abbrev d : Schema
  d = schema_of ns

  abbrev below : ℕ → Bool
  below s = ltb s (streams_in ns)

  codes_cols : (p : ℕ) (ss : List ℕ) → T (every below ss) → some? (λ j. eqb j p) (codes_of ns ss) ≡ has (gather (columns_of d) ss) (col (p / 6) (p % 6))
  unfolding gather every has some?
  codes_cols p [] b = refl
  codes_cols p (x ∷ ss) b =
      let l : x < streams_in ns = ltb→lt x (streams_in ns) (search parts) in
      some_append (λ j. eqb j p) (map (λ c. x * 6 + c) (count_from 0 (width_in ns x))) (codes_of ns ss)
      ∙ ap₂ ◌||◌ (counted x p 0 (width_in ns x) (omega (arith, width_most ns x)) ∙ ap (some? (same_col (col (p / 6) (p % 6)))) (sym (stream_columns ns x l))) (codes_cols p ss (search parts))
      ∙ sym (some_append (same_col (col (p / 6) (p % 6))) (columns_of d x) (gather (columns_of d) ss))

  codes_low : (ss : List ℕ) → T (every below ss) → T (every (λ j. ltb j 24) (codes_of ns ss))
  unfolding gather every
  codes_low [] b = tt
  codes_low (x ∷ ss) b =
      let l : x < streams_in ns = ltb→lt x (streams_in ns) (search parts) in
      every_append (λ j. ltb j 24) (map (λ c. x * 6 + c) (count_from 0 (width_in ns x))) (codes_of ns ss) (counted_low x 0 (width_in ns x) (omega (arith, streams_most ns)) (omega (arith, width_most ns x))) (codes_low ss (search parts))

  cols_low : (ss : List ℕ) → T (every below ss) → T (every (low (streams_in ns)) (gather (columns_of d) ss))
  unfolding gather every
  cols_low [] b = tt
  cols_low (x ∷ ss) b =
      let l : x < streams_in ns = ltb→lt x (streams_in ns) (search parts) in
      every_append (low (streams_in ns)) (columns_of d x) (gather (columns_of d) ss) (rw (stream_columns ns x l) (counted_cols (streams_in ns) x 0 (width_in ns x) (search parts))) (cols_low ss (search parts))

  module _ (ss : List ℕ) (b : T (every below ss)) where
    abbrev theirs : List Col
    theirs = gather (columns_of d) ss

    abbrev mask : ℕ
    mask = mask_of (codes_of ns ss)

    -- the bits of the mask are the streams' columns
    pub bit_column : (p : ℕ) → bit? mask p ≡ has theirs (col (p / max_columns) (p % max_columns))
    bit_column p = bit_mask (codes_of ns ss) p ∙ codes_cols p ss b

    pub bit_above : (p : ℕ) → time_code ≤ p → bit? mask p ≡ false
    bit_above p h = bit_mask (codes_of ns ss) p ∙ some_none (λ j. eqb j p) (λ j. ltb j 24) (λ j t. let l = ltb→lt j 24 t in ne_eqb j p (λ e. omega arith)) (codes_of ns ss) (codes_low ss b)

    -- what is no column of a stream is none of theirs
    pub other_none : (c : ℕ) → has theirs (col (length d) c) ≡ false
    unfolding has low same_col
    other_none c = some_none (same_col (col (length d) c)) (low (streams_in ns)) apart theirs (cols_low ss b)
      where
        apart : (x : Col) → T (low (streams_in ns) x) → same_col (col (length d) c) x ≡ false
        apart (col s e) t = rw (ne_eqb (length d) s (λ z. let l = ltb→lt s (streams_in ns) t in let k = length_schema ns in omega arith))
        apart figure t = absurd t

    pub figure_none : has theirs figure ≡ false
    unfolding has low same_col
    figure_none = some_none (same_col figure) (low (streams_in ns)) apart theirs (cols_low ss b)
      where
        apart : (x : Col) → T (low (streams_in ns) x) → same_col figure x ≡ false
        apart (col s e) t = refl
        apart figure t = absurd t

    -- ---- with those of a number and a profile entry

    other_bits : mask_of (number_code ∷ entry_code ∷ []) ≡ 201326592
    unfolding mask_of
    other_bits = refl

    pub wider_bit : (i : ℕ) → bit? (bit_or mask 201326592) i ≡ (bit? mask i || (eqb number_code i || (eqb entry_code i || false)))
    unfolding some?
    wider_bit i = bit_or_lem mask 201326592 i ∙ ap (λ x. bit? mask i || x) (ap (λ (m : ℕ). bit? m i) (sym other_bits) ∙ bit_mask (number_code ∷ entry_code ∷ []) i)

    -- a code that is no number and no entry
    pub wider_other : (i : ℕ) → (i ≡ number_code → ⊥) → (i ≡ entry_code → ⊥) → bit? (bit_or mask 201326592) i ≡ bit? mask i
    wider_other i x y = wider_bit i ∙ rw (ne_eqb number_code i (λ e. x (sym e)), ne_eqb entry_code i (λ e. y (sym e))) (or-false (bit? mask i))

    -- ---- columns by their codes

    module _ (sound : T (schema_sound ns)) where
      pub ref_bit : (r : Ref) → T (fine ns r) → bit? mask (ref_code ns r) ≡ has theirs (column_of d r)
      unfolding column_of
      ref_bit (G.dotted n m) t =
          dotted_cases ns sound n m t (λ e c. ap (bit? mask) c ∙ bit_above entry_code (omega arith) ∙ sym (rw e (other_none 0)))
          (λ e l c. bit_column (ref_code ns (G.dotted n m)) ∙ ap (has theirs) (sym c))
      ref_bit G.time t = ap (bit? mask) (code_alone ns).0 ∙ bit_above 24 (omega arith) ∙ sym (other_none 0)
      ref_bit G.figure t = ap (bit? mask) (code_alone ns).1 ∙ bit_above 25 (omega arith) ∙ sym figure_none

      -- the mask of a list is inside that of the streams where each of its columns is one of theirs
      pub refs_inside : (rs : List Ref) → T (every (fine ns) rs) → inside (mask_of (map (ref_code ns) rs)) mask ≡ within (map (column_of d) rs) theirs
      unfolding within
      refs_inside rs t =
          inside_every (map (ref_code ns) rs) mask ∙ every_of_map (bit? mask) (ref_code ns) rs
          ∙ every_good (λ r. bit? mask (ref_code ns r)) (λ r. has theirs (column_of d r)) (fine ns) ref_bit rs t
          ∙ sym (every_of_map (has theirs) (column_of d) rs)

      -- ---- the terms of a grant's condition where they may stand, by their codes

      single : (c : Col) → within (c ∷ []) theirs ≡ has theirs c
      unfolding within every
      single c = and-true (has theirs c)

      pub left_bit : (r : Ref) → T (fine ns r) → (when_left (term_of d r) && within (term_cols (term_of d r)) theirs) ≡ bit? mask (ref_code ns r)
      unfolding term_of column_of when_left term_cols
      left_bit (G.dotted n m) t =
          dotted_cases ns sound n m t (λ e c. rw e (sym (ap (bit? mask) c ∙ bit_above entry_code (omega arith))))
          (λ e l c. rw e (single (col_of d n m) ∙ sym (ref_bit (G.dotted n m) t ∙ ap (has theirs) (dotted_col ns sound n m e))))
      left_bit G.time t = sym (ap (bit? mask) (code_alone ns).0 ∙ bit_above time_code (omega arith))
      left_bit G.figure t = single figure ∙ sym (ref_bit G.figure t)

      right_ref : (r : Ref) → T (fine ns r) → (when_right (term_of d r) && within (term_cols (term_of d r)) theirs) ≡ bit? (bit_or mask 201326592) (ref_code ns r)
      unfolding term_of column_of when_right term_cols within every
      right_ref (G.dotted n m) t =
          dotted_cases ns sound n m t (λ e c. rw e (sym (ap (bit? (bit_or mask 201326592)) c ∙ wider_bit entry_code ∙ or-true (bit? mask entry_code))))
          (λ e l c. rw e (single (col_of d n m) ∙ sym (wider_other (ref_code ns (G.dotted n m)) (λ z. omega arith) (λ z. omega arith) ∙ ref_bit (G.dotted n m) t ∙ ap (has theirs) (dotted_col ns sound n m e))))
      right_ref G.time t = sym (ap (bit? (bit_or mask 201326592)) (code_alone ns).0 ∙ wider_other time_code (λ z. omega arith) (λ z. omega arith) ∙ bit_above time_code (omega arith))
      right_ref G.figure t = single figure ∙ sym (ap (bit? (bit_or mask 201326592)) (code_alone ns).1 ∙ wider_other 25 (λ z. omega arith) (λ z. omega arith) ∙ sym (ap (bit? mask) (code_alone ns).1) ∙ ref_bit G.figure t)

      pub right_bit : (o : Operand) → T (operand_fine ns o) → (when_right (operand_of d o) && within (term_cols (operand_of d o)) theirs) ≡ bit? (bit_or mask 201326592) (operand_code ns o)
      unfolding operand_of operand_fine operand_code when_right term_cols within every
      right_bit (G.ref r) t = right_ref r t
      right_bit (G.number z) t = sym (wider_bit number_code ∙ or-true (bit? mask number_code))
