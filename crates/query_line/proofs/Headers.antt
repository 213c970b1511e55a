-- The columns of a query's answer as the bits of a mask; the terms and columns of a form that stand among them.
use mathlib.Core.Path.{◌≡◌, refl, sym, ap, ap₂, ◌∙◌}
use mathlib.Core.List.{List, [], ◌∷◌, ◌++◌, map, append-nil}
use mathlib.Core.Bool.{Bool, true, false, ◌&&◌, ◌||◌, and-true, or-false, or-true}
use Prim.Native.Nat.{ℕ, ◌+◌, ◌*◌, ◌/◌, ◌%◌, ◌≤◌, ◌<◌, ◌^◌}
use native.Mathlib.Omega.{arith}
use lib.Bits.{bit_or}
use lib.Dec.{T, eqb, ltb, lt→ltb}
use lib.ListN.{length}
use borrow.Author.Tests.{ne_eqb, eqb-true}
use Rattle.lists.specs.Lists.{every, some?, gather}
use Rattle.lists.proofs.Laws.{and_r, and_both, parts, true_T, T_true}
use Rattle.lists.proofs.Gathers.{every_of_map, every_good}
use Rattle.syntax.specs.Grammar as G
use Rattle.syntax.specs.Grammar.{Bytes, Ref, Operand, Test, Cond, ref?}
use Rattle.syntax.specs.Limits.{short_ref}
use Rattle.model.specs.Conditions.{tests, map_cond}
use Rattle.model.specs.Queries as M
use Rattle.model.specs.Queries.{Schema, Col, col, same_col, columns_of}
use Rattle.model.specs.Checks.{has, within, term_cols, cond_cols, pick_left, pick_right, pickable, linked}
use Rattle.model.proofs.Columns.{has_within}
use Rattle.calls.specs.Names.{is_self, term_of, column_of, operand_of, compare_of}
use Rattle.calls.specs.Tables.{ref_declared}
use Rattle.schema.specs.Schemas.{streams_in, schema_of, schema_sound}
use Rattle.masks.specs.Masks.{bit?, mask_of, inside}
use Rattle.masks.proofs.Bits.{bit_or_lem, bit_alone}
use Rattle.masks.proofs.Lists.{inside_bits, inside_every}
use Rattle.terms.specs.Terms.{ref_code, operand_code, left_code, right_code}
use Rattle.terms.proofs.Resolving.{own?, fine, Stands, code_alone, code_entry, code_low, code_column}
use Rattle.columns.proofs.ColumnBits.{operand_fine, listed_bit, bit_above, ref_bit}
use Rattle.grant.specs.Grants.{column_codes, streams_mask}
use Rattle.grant_line.proofs.Placed.{Places, cond_placed, tests_placed}
use Rattle.grant_line.proofs.Known.{good_test, test_declared}
use Rattle.query_line.specs.Placing.{links}

-- ---- tests

untrue : (a : Bool) → (T a → ⊥) → a ≡ false
untrue true f = absurd (f tt)
untrue false f = refl

false_T : (a : Bool) → a ≡ false → T a → ⊥
false_T true e t = let q : ◌≡◌ {A = ℕ} 0 1 = cc in omega arith
false_T false e t = t

-- ---- what a name that is declared may be

module _ (ns : List ℕ) (sound : T (schema_sound ns)) where
  abbrev d : Schema
  d = schema_of ns

  parts_of : (r : Ref) → T (fine ns r) → T (ref? r) × T (short_ref r) × T (ref_declared d r)
  unfolding fine
  parts_of r t = (search parts, search parts depth 6, search parts depth 6)

  pub ref_cases : {X : Type 0} (r : Ref) → T (fine ns r)
      → (ref_code ns r < 24 → Stands ns r → X)
      → (r ≡ G.time → ref_code ns r ≡ 24 → X)
      → (r ≡ G.figure → ref_code ns r ≡ 25 → X)
      → ((m : Bytes) → ref_code ns r ≡ 27 → column_of d r ≡ col (length d) 0 → term_of d r ≡ M.self m → X) → X
  unfolding column_of term_of own? ref? short_ref
  ref_cases {X} (G.dotted n m) t f g h k = go (is_self n) refl
    where
      p : T (ref? (G.dotted n m)) × T (short_ref (G.dotted n m)) × T (ref_declared d (G.dotted n m))
      p = parts_of (G.dotted n m) t

      go : (b : Bool) → is_self n ≡ b → X
      go true e = k m (eqb-true (ref_code ns (G.dotted n m)) 27 (code_entry ns sound (G.dotted n m) p.0 p.1 ∙ e)) (rw e) (rw e)
      go false e =
          let a = p.0 in
          let b = p.1 in
          let l = code_low ns sound n m (search parts) (search parts) (search parts) (search parts) e p.2 in
          f l (code_column ns sound (G.dotted n m) p.0 p.1 l)
  ref_cases G.time t f g h k = g refl (code_alone ns).0
  ref_cases G.figure t f g h k = h refl (code_alone ns).1

  -- ---- a mask of columns

  -- its bits are the columns; no other bit but that of the aggregate's column is set
  pub record Shows (mask : ℕ) (cols : List Col) : Type 0 where
    pub shown : (r : Ref) → T (fine ns r) → has cols (column_of d r) ≡ bit? mask (ref_code ns r)
    pub high : (i : ℕ) → 24 ≤ i → (i ≡ 25 → ⊥) → bit? mask i ≡ false

  time_fine : T (fine ns G.time)
  unfolding fine ref? short_ref ref_declared
  time_fine = tt

  figure_fine : T (fine ns G.figure)
  unfolding fine ref? short_ref ref_declared
  figure_fine = tt

  -- where no column is, and the aggregate's
  pub nowhere : (mask : ℕ) (cols : List Col) → Shows mask cols → has cols (col (length d) 0) ≡ false
  unfolding column_of
  nowhere mask cols w = w.shown G.time time_fine ∙ ap (bit? mask) (code_alone ns).0 ∙ w.high 24 (omega arith) (λ e. omega arith)

  at_figure : (mask : ℕ) (cols : List Col) → Shows mask cols → has cols M.figure ≡ bit? mask 25
  unfolding column_of
  at_figure mask cols w = w.shown G.figure figure_fine ∙ ap (bit? mask) (code_alone ns).1

  -- a stream's columns
  module _ (s : ℕ) (h : s < streams_in ns) where
    below : T (every (λ s. ltb s (streams_in ns)) (s ∷ []))
    unfolding every
    below = and_both (ltb s (streams_in ns)) true (lt→ltb s (streams_in ns) h) tt

    theirs : gather (columns_of d) (s ∷ []) ≡ columns_of d s
    unfolding gather
    theirs = append-nil (columns_of d s)

    pub rows_shown : Shows (streams_mask ns (s ∷ [])) (columns_of d s)
    unfolding streams_mask column_codes
    rows_shown =
        record {
          shown = λ r t. ap (λ cs. has cs (column_of d r)) (sym theirs) ∙ sym (ref_bit ns (s ∷ []) below sound r t);
          high = λ i k n. bit_above ns (s ∷ []) below i k;
        }

    pub rows_plain : bit? (streams_mask ns (s ∷ [])) 25 ≡ false
    unfolding streams_mask column_codes
    rows_plain = bit_above ns (s ∷ []) below 25 (omega arith)

  -- the columns of two sides
  has_both : (xs ys : List Col) (c : Col) → has (xs ++ ys) c ≡ (has xs c || has ys c)
  unfolding has some?
  has_both [] ys c = refl
  has_both (x ∷ xs) ys c = ap (λ b. same_col c x || b) (has_both xs ys c) ∙ assoc (same_col c x) (some? (same_col c) xs) (some? (same_col c) ys)
    where
      assoc : (a b c : Bool) → (a || (b || c)) ≡ ((a || b) || c)
      assoc true b c = refl
      assoc false b c = refl

  pub join_shown : (m n : ℕ) (xs ys : List Col) → Shows m xs → Shows n ys → Shows (bit_or m n) (xs ++ ys)
  join_shown m n xs ys v w =
      record {
        shown = λ r t. has_both xs ys (column_of d r) ∙ ap₂ ◌||◌ (v.shown r t) (w.shown r t) ∙ sym (bit_or_lem m n (ref_code ns r));
        high = λ i k e. bit_or_lem m n i ∙ ap₂ ◌||◌ (v.high i k e) (w.high i k e);
      }

  pub join_plain : (m n : ℕ) → bit? m 25 ≡ false → bit? n 25 ≡ false → bit? (bit_or m n) 25 ≡ false
  join_plain m n e f = bit_or_lem m n 25 ∙ ap₂ ◌||◌ e f

  -- the aggregate's column
  figure_bits : (i : ℕ) → bit? 33554432 i ≡ eqb 25 i
  figure_bits i = let e : 2 ^ 25 ≡ 33554432 = refl in ap (λ (m : ℕ). bit? m i) (sym e) ∙ bit_alone 25 i

  pub aggregate_shown : Shows 33554432 (M.figure ∷ [])
  unfolding has some? same_col column_of
  aggregate_shown =
      record {
        shown = λ r t.
            ref_cases r t
            (λ l s. rw s.is (sym (figure_bits (ref_code ns r) ∙ ne_eqb 25 (ref_code ns r) (λ e. omega arith))))
            (λ e c. rw e (sym (ap (bit? 33554432) (code_alone ns).0 ∙ figure_bits 24)))
            (λ e c. rw e (sym (ap (bit? 33554432) (code_alone ns).1 ∙ figure_bits 25)))
            (λ m c e u. rw e (sym (ap (bit? 33554432) c ∙ figure_bits 27)));
        high = λ i k n. figure_bits i ∙ ne_eqb 25 i (λ e. n (sym e));
      }

  -- ---- columns that are listed

  module _ (mask : ℕ) (cols : List Col) (w : Shows mask cols) (rs : List Ref) (t : T (every (fine ns) rs)) where
    abbrev codes : List ℕ
    codes = map (ref_code ns) rs

    abbrev listed : List Col
    listed = map (column_of d) rs

    pub inside_within : inside (mask_of codes) mask ≡ within listed cols
    unfolding within
    inside_within =
        inside_every codes mask ∙ every_of_map (bit? mask) (ref_code ns) rs
        ∙ every_good (λ r. bit? mask (ref_code ns r)) (λ r. has cols (column_of d r)) (fine ns) (λ r u. sym (w.shown r u)) rs t
        ∙ sym (every_of_map (has cols) (column_of d) rs)

    -- where they are among the columns, which have no aggregate's
    module _ (in-cols : T (within listed cols)) (plain : bit? mask 25 ≡ false) where
      unset : (i : ℕ) → bit? mask i ≡ false → bit? (mask_of codes) i ≡ false
      unset i e = untrue (bit? (mask_of codes) i) (λ u. false_T (bit? mask i) e (and_r (bit? (mask_of codes) i) (bit? mask i) (rw (inside_bits (mask_of codes) mask i (true_T (inside (mask_of codes) mask) (inside_within ∙ T_true (within listed cols) in-cols))) u)))

      unlisted : (c : Col) → has cols c ≡ false → has listed c ≡ false
      unlisted c e = untrue (has listed c) (λ u. false_T (has cols c) e (has_within c cols listed in-cols u))

      high_bit : (i : ℕ) → 24 ≤ i → bit? mask i ≡ false
      high_bit i h = go (eqb i 25) refl
        where
          go : (b : Bool) → eqb i 25 ≡ b → bit? mask i ≡ false
          go true e = ap (bit? mask) (eqb-true i 25 e) ∙ plain
          go false e = w.high i h (λ z. let k : ◌≡◌ {A = Bool} true false = sym (T_true (eqb i 25) (rw z tt)) ∙ e in let q : ◌≡◌ {A = ℕ} 0 1 = cc in omega arith)

      pub keep_shown : Shows (mask_of codes) listed
      unfolding column_of
      keep_shown =
          record {
            shown = λ r u.
                ref_cases r u
                (λ l s.
                let e : ref_code ns r / 6 * 6 + ref_code ns r % 6 ≡ ref_code ns r = omega arith in
                rw s.is (sym (ap (bit? (mask_of codes)) (sym e) ∙ listed_bit ns sound (ref_code ns r / 6) (ref_code ns r % 6) s.stream (omega arith) rs t)))
                (λ e c. rw e (unlisted (col (length d) 0) (nowhere mask cols w) ∙ sym (ap (bit? (mask_of codes)) (code_alone ns).0 ∙ unset 24 (high_bit 24 (omega arith)))))
                (λ e c. rw e (unlisted M.figure (at_figure mask cols w ∙ plain) ∙ sym (ap (bit? (mask_of codes)) (code_alone ns).1 ∙ unset 25 plain)))
                (λ m c e v. rw e (unlisted (col (length d) 0) (nowhere mask cols w) ∙ sym (ap (bit? (mask_of codes)) c ∙ unset 27 (high_bit 27 (omega arith)))));
            high = λ i h n. unset i (w.high i h n);
          }

      pub keep_plain : bit? (mask_of codes) 25 ≡ false
      keep_plain = unset 25 plain

  -- ---- the two columns of a join

  pub links_linked : (m n : ℕ) (xs ys : List Col) (a b : Ref) → Shows m xs → Shows n ys → T (fine ns a) → T (fine ns b) → links m n (ref_code ns a) (ref_code ns b) ≡ linked (column_of d a) (column_of d b) xs ys
  unfolding links linked
  links_linked m n xs ys a b v w s t = sym (rw (v.shown a s, v.shown b t, w.shown a s, w.shown b t))

  -- ---- the terms of a condition

  module _ (mask : ℕ) (cols : List Col) (w : Shows mask cols) where
    wide : (k : ℕ) (i : ℕ) → bit? (bit_or mask (2 ^ k)) i ≡ (bit? mask i || eqb k i)
    wide k i = bit_or_lem mask (2 ^ k) i ∙ ap (λ b. bit? mask i || b) (bit_alone k i)

    with_time : (i : ℕ) → bit? (bit_or mask 16777216) i ≡ (bit? mask i || eqb 24 i)
    with_time i = let e : 2 ^ 24 ≡ 16777216 = refl in ap (λ (m : ℕ). bit? (bit_or mask m) i) (sym e) ∙ wide 24 i

    with_number : (i : ℕ) → bit? (bit_or mask 67108864) i ≡ (bit? mask i || eqb 26 i)
    with_number i = let e : 2 ^ 26 ≡ 67108864 = refl in ap (λ (m : ℕ). bit? (bit_or mask m) i) (sym e) ∙ wide 26 i

    one : (c : Col) → within (c ∷ []) cols ≡ has cols c
    unfolding within every
    one c = and-true (has cols c)

    left_bit : (r : Ref) → T (fine ns r) → (pick_left (term_of d r) && within (term_cols (term_of d r)) cols) ≡ bit? (bit_or mask 16777216) (ref_code ns r)
    unfolding pick_left term_cols term_of within every
    left_bit r t =
        ref_cases r t
        (λ l s. rw s.term (and-true (has cols (col (ref_code ns r / 6) (ref_code ns r % 6))) ∙ sym (ap (has cols) s.is) ∙ w.shown r t ∙ sym (with_time (ref_code ns r) ∙ ap (λ b. bit? mask (ref_code ns r) || b) (ne_eqb 24 (ref_code ns r) (λ e. omega arith)) ∙ or-false (bit? mask (ref_code ns r)))))
        (λ e c. rw e (sym (ap (bit? (bit_or mask 16777216)) (code_alone ns).0 ∙ with_time 24 ∙ or-true (bit? mask 24))))
        (λ e c. rw e (and-true (has cols M.figure) ∙ at_figure mask cols w ∙ sym (ap (bit? (bit_or mask 16777216)) (code_alone ns).1 ∙ with_time 25 ∙ or-false (bit? mask 25))))
        (λ m c e u. rw u (sym (ap (bit? (bit_or mask 16777216)) c ∙ with_time 27 ∙ or-false (bit? mask 27) ∙ w.high 27 (omega arith) (λ z. omega arith))))

    right_ref : (r : Ref) → T (fine ns r) → (pick_right (term_of d r) && within (term_cols (term_of d r)) cols) ≡ bit? (bit_or mask 67108864) (ref_code ns r)
    unfolding pick_right term_cols term_of within every
    right_ref r t =
        ref_cases r t
        (λ l s. rw s.term (and-true (has cols (col (ref_code ns r / 6) (ref_code ns r % 6))) ∙ sym (ap (has cols) s.is) ∙ w.shown r t ∙ sym (with_number (ref_code ns r) ∙ ap (λ b. bit? mask (ref_code ns r) || b) (ne_eqb 26 (ref_code ns r) (λ e. omega arith)) ∙ or-false (bit? mask (ref_code ns r)))))
        (λ e c. rw e (sym (ap (bit? (bit_or mask 67108864)) (code_alone ns).0 ∙ with_number 24 ∙ or-false (bit? mask 24) ∙ w.high 24 (omega arith) (λ z. omega arith))))
        (λ e c. rw e (and-true (has cols M.figure) ∙ at_figure mask cols w ∙ sym (ap (bit? (bit_or mask 67108864)) (code_alone ns).1 ∙ with_number 25 ∙ or-false (bit? mask 25))))
        (λ m c e u. rw u (sym (ap (bit? (bit_or mask 67108864)) c ∙ with_number 27 ∙ or-false (bit? mask 27) ∙ w.high 27 (omega arith) (λ z. omega arith))))

    right_bit : (o : Operand) → T (operand_fine ns o) → (pick_right (operand_of d o) && within (term_cols (operand_of d o)) cols) ≡ bit? (bit_or mask 67108864) (operand_code ns o)
    unfolding operand_of operand_fine operand_code pick_right term_cols within every
    right_bit (G.ref r) t = right_ref r t
    right_bit (G.number z) t = sym (with_number 26 ∙ or-true (bit? mask 26))

    at : Places ns cols pick_left pick_right (bit_or mask 16777216) (bit_or mask 67108864)
    at = record { left = left_bit; right = right_bit }

    pub pick_placed : (c : Cond Test) → T (every (λ t. good_test t && test_declared ns t) (tests c))
        → (pickable (map_cond (compare_of d) c) && within (cond_cols (map_cond (compare_of d) c)) cols)
        ≡ (inside (mask_of (map (left_code ns) (tests c))) (bit_or mask 16777216) && inside (mask_of (map (right_code ns) (tests c))) (bit_or mask 67108864))
    unfolding pickable
    pick_placed c h = cond_placed at sound c ∙ tests_placed at sound (tests c) h
