-- The columns of some declared streams are the bits of their mask.
use mathlib.Core.Path.{◌≡◌, refl, sym, ap, ap₂, ◌∙◌}
use mathlib.Core.List.{List, [], ◌∷◌, map}
use mathlib.Core.Bool.{Bool, true, false, ◌&&◌, not, cond}
use Prim.Native.Nat.{ℕ, zero, suc, ◌+◌, ◌*◌, ◌/◌, ◌%◌, ◌≤◌, ◌<◌}
use native.Mathlib.Decide.{dec_lt}
use native.Mathlib.Omega.{arith}
use lib.Dec.{T, ltb, lt→ltb, ltb→lt}
use borrow.Author.Tests.{lt-ltb, le-ltb}
use Rattle.lists.specs.Lists.{every, some?, empty?, select, gather, count_from}
use Rattle.lists.proofs.Laws.{and_r, and_both, or_cases, parts, T_true, every_append, some_none}
use Rattle.model.specs.Queries.{Col, col, figure, same_col, columns_of}
use Rattle.model.specs.Checks.{has, within}
use Rattle.model.proofs.Columns.{same_col→eq}
use Rattle.schema.specs.Schemas.{streams_in, width_in, schema_of}
use Rattle.schema.proofs.Lookups.{stream_columns}
use Rattle.schema.proofs.Soundness.{width_most}
use Rattle.schema.proofs.Tests.{streams_most}
use Rattle.masks.specs.Masks.{bit?, inside}
use Rattle.masks.proofs.Lists.{bit_none, inside_bits, bits_same}
use Rattle.columns.proofs.ColumnBits.{bit_column, bit_above, figure_none}
use Rattle.nodes.specs.Nodes.{in_mask, column_in}
use Rattle.grant.specs.Grants.{column_codes, streams_mask}

-- ---- lists

-- an item that passes a test is selected
selected : (p : Col → Bool) (c : Col) (cs : List Col) → T (p c) → T (has cs c) → T (not (empty? (select p cs)))
unfolding has some? select empty?
selected p c [] t h = absurd h
selected p c (x ∷ cs) t h = go (p x) refl (selected p c cs t)
  where
    go : (b : Bool) → p x ≡ b → (T (has cs c) → T (not (empty? (select p cs)))) → T (not (empty? (cond b (x ∷ select p cs) (select p cs))))
    go true e i = tt
    go false e i =
        or_cases (same_col c x) (some? (same_col c) cs) h
        (λ s. absurd (let z : p c ≡ false = ap p (same_col→eq c x s) ∙ e in rw z at t))
        i

-- ---- columns

-- a column of one of the first n streams
unfoldable pub low : ℕ → Col → Bool
low n (col s c) = ltb s n && ltb c 6
low n figure = false

past_stream : (n s c : ℕ) → n ≤ s → T (not (low n (col s c)))
unfolding low
past_stream n s c h = rw (le-ltb s n h) tt

past_column : (n s c : ℕ) → 6 ≤ c → T (not (low n (col s c)))
unfolding low
past_column n s c h = rw (le-ltb c 6 h) (go (ltb s n))
  where
    go : (x : Bool) → T (not (x && false))
    go true = tt
    go false = tt

module _ (ns : List ℕ) where
  abbrev pub declared_stream : ℕ → Bool
  declared_stream s = ltb s (streams_in ns)

  counted_cols : (x a n : ℕ) → T (declared_stream x) → a + n ≤ 6 → T (every (low (streams_in ns)) (map (col x) (count_from a n)))
  unfolding every count_from low
  counted_cols x a zero b h = tt
  counted_cols x a (suc n) b h = and_both (ltb x (streams_in ns) && ltb a 6) _ (and_both (ltb x (streams_in ns)) (ltb a 6) b (lt→ltb a 6 (omega arith))) (counted_cols x (suc a) n b (omega arith))

  -- the columns of declared streams are such
  pub cols_low : (ss : List ℕ) → T (every declared_stream ss) → T (every (low (streams_in ns)) (gather (columns_of (schema_of ns)) ss))
  unfolding gather every
  cols_low [] b = tt
  cols_low (x ∷ ss) b =
      let l : x < streams_in ns = ltb→lt x (streams_in ns) (search parts) in
      every_append (low (streams_in ns)) (columns_of (schema_of ns) x) (gather (columns_of (schema_of ns)) ss)
      (rw (stream_columns ns x l) (counted_cols x 0 (width_in ns x) (search parts) (omega (arith, width_most ns x)))) (cols_low ss (search parts))

  module _ (ss : List ℕ) (b : T (every declared_stream ss)) where
    abbrev theirs : List Col
    theirs = gather (columns_of (schema_of ns)) ss

    abbrev mask : ℕ
    mask = streams_mask ns ss

    absent : (c : Col) → T (not (low (streams_in ns) c)) → has theirs c ≡ false
    unfolding has
    absent c h = some_none (same_col c) (low (streams_in ns)) (λ x t. apart x t (same_col c x) refl) theirs (cols_low ss b)
      where
        apart : (x : Col) → T (low (streams_in ns) x) → (y : Bool) → same_col c x ≡ y → y ≡ false
        apart x t true e = absurd (let z = same_col→eq c x (rw e tt) in let k = T_true (low (streams_in ns) x) t in let w : low (streams_in ns) c ≡ true = ap (low (streams_in ns)) z ∙ k in rw w at h)
        apart x t false e = refl

    -- a column of the mask is one of theirs
    pub column_theirs : (c : Col) → column_in mask c ≡ has theirs c
    unfolding column_in in_mask streams_mask column_codes
    column_theirs figure = sym (figure_none ns ss b)
    column_theirs (col s c) = go (dec_lt c 6) (dec_lt s 4)
      where
        go : Dec (c < 6) → Dec (s < 4) → (ltb c 6 && (ltb (s * 6 + c) 24 && bit? mask (s * 6 + c))) ≡ has theirs (col s c)
        go (yes l) (yes m) =
            let i : (s * 6 + c) / 6 ≡ s = omega arith in
            let j : (s * 6 + c) % 6 ≡ c = omega arith in
            rw (lt-ltb c 6 l, lt-ltb (s * 6 + c) 24 (omega arith)) (bit_column ns ss b (s * 6 + c) ∙ ap₂ (λ x y. has theirs (col x y)) i j)
        go (yes l) (no m) = let k = streams_most ns in rw (lt-ltb c 6 l, le-ltb (s * 6 + c) 24 (omega arith)) (sym (absent (col s c) (past_stream (streams_in ns) s c (omega arith))))
        go (no l) m = rw (le-ltb c 6 (omega arith)) (sym (absent (col s c) (past_column (streams_in ns) s c (omega arith))))

    pub within_theirs : (cs : List Col) → every (column_in mask) cs ≡ within cs theirs
    unfolding within every
    within_theirs [] = refl
    within_theirs (c ∷ cs) = ap₂ ◌&&◌ (column_theirs c) (within_theirs cs)

    -- ---- a mask that lies inside theirs shows some of theirs where it is not 0

    module _ (m : ℕ) (h : T (inside m mask)) where
      bit_theirs : (i : ℕ) → T (bit? m i) → T (bit? mask i)
      bit_theirs i t = and_r (bit? m i) (bit? mask i) (rw (inside_bits m mask i h) t)

      bit_low : (i : ℕ) → T (bit? m i) → i < 24
      unfolding streams_mask column_codes
      bit_low i t = go (dec_lt i 24)
        where
          go : Dec (i < 24) → i < 24
          go (yes l) = l
          go (no l) = absurd (rw (bit_above ns ss b i (omega arith)) at (bit_theirs i t))

      bit_shown : (i : ℕ) → T (bit? m i) → T (not (empty? (select (column_in m) theirs)))
      unfolding column_in in_mask streams_mask column_codes
      bit_shown i t =
          let e : i / 6 * 6 + i % 6 ≡ i = omega arith in
          let l = bit_low i t in
          selected (column_in m) (col (i / 6) (i % 6)) theirs
          (and_both (ltb (i % 6) 6) _ (lt→ltb (i % 6) 6 (omega arith)) (rw e (and_both (ltb i 24) _ (lt→ltb i 24 l) t)))
          (rw (bit_column ns ss b i) at (bit_theirs i t))

      pub shows_some : (m ≡ 0 → ⊥) → T (not (empty? (select (column_in m) theirs)))
      shows_some ne = go (empty? (select (column_in m) theirs)) bit_shown
        where
          no_bit : (i : ℕ) (x : Bool) → (T x → ⊥) → x ≡ false
          no_bit i true f = absurd (f tt)
          no_bit i false f = refl

          go : (x : Bool) → ((i : ℕ) → T (bit? m i) → T (not x)) → T (not x)
          go true f = absurd (ne (bits_same m 0 (λ i. no_bit i (bit? m i) (f i) ∙ sym (bit_none i))))
          go false f = tt

-- the mask 0 shows nothing
pub shows_none : (cs : List Col) → select (column_in 0) cs ≡ []
unfolding select column_in in_mask
shows_none [] = refl
shows_none (col s c ∷ cs) = rw (bit_none (s * 6 + c)) (go (ltb c 6) (ltb (s * 6 + c) 24) (shows_none cs))
  where
    go : (a b : Bool) {xs : List Col} → xs ≡ [] → cond (a && (b && false)) (col s c ∷ xs) xs ≡ []
    go true true e = e
    go true false e = e
    go false b e = e
shows_none (figure ∷ cs) = shows_none cs
