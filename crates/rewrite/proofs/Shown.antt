-- The columns that grants show, by their codes and masks.
use mathlib.Core.Path.{◌≡◌, refl, sym, ap, ap₂, ◌∙◌}
use mathlib.Core.List.{List, [], ◌∷◌, ◌++◌, map}
use mathlib.Core.Bool.{Bool, true, false, ◌&&◌, ◌||◌, cond, or-false}
use Prim.Native.Nat.{ℕ, zero, suc, ◌+◌, ◌*◌, ◌/◌, ◌%◌, ◌≤◌, ◌<◌}
use native.Mathlib.Decide.{dec_lt}
use native.Mathlib.Omega.{arith}
use lib.Bits.{bit_or}
use lib.Dec.{T, eqb, ltb, ltb→lt}
use lib.ListN.{length, length-append}
use borrow.Author.Tests.{lt-ltb, le-ltb}
use Rattle.lists.specs.Lists.{select, every, some?, gather, count_from, distinct}
use Rattle.lists.proofs.Laws.{and_l, and_r, and_both, or_l, or_r, or_cases, true_T, select_map, append_nil, every_append, same_truth}
use Rattle.lists.proofs.Counting.{map_length}
use Rattle.lists.proofs.Gathers.{select_alike}
use Rattle.model.specs.Queries.{Col, col, figure, same_col, columns_of}
use Rattle.model.specs.Checks.{has, within}
use Rattle.model.proofs.Columns.{same_col→eq, same_col_refl, has_within}
use Rattle.model.proofs.Distinct.{gather_distinct, distinct_apart}
use Rattle.schema.specs.Schemas.{streams_in, width_in, schema_of}
use Rattle.schema.proofs.Lookups.{stream_columns}
use Rattle.schema.proofs.Soundness.{width_most}
use Rattle.schema.proofs.Tests.{streams_most, width_none}
use Rattle.masks.specs.Masks.{bit?, inside}
use Rattle.masks.proofs.Bits.{bit_or_lem}
use Rattle.masks.proofs.Lists.{inside_bits}
use Rattle.orders.specs.Orders.{codes_in, order_of, order_within}
use Rattle.orders.proofs.Codes.{codes_fit, codes_of, codes_within}
use Rattle.nodes.specs.Nodes.{in_mask, column_in}
use Rattle.columns.proofs.ColumnBits.{bit_above}
use Rattle.grant.specs.Grants.{column_codes, streams_mask}
use Rattle.grant.proofs.Masked.{column_theirs}
use Rattle.query.specs.Forms.{coded_col, cols_in}

-- ---- lists of columns

-- two tests that agree on what is there
pub select_there : (p q : Col → Bool) (cs : List Col) → ((c : Col) → T (has cs c) → p c ≡ q c) → select p cs ≡ select q cs
unfolding select has some?
select_there p q [] f = refl
select_there p q (c ∷ cs) f = rw (f c (or_l (same_col c c) _ (same_col_refl c)), select_there p q cs (λ x t. f x (or_r (same_col x c) _ t)))

passes : (p : Col → Bool) (c : Col) (cs : List Col) → T (has (select p cs) c) → T (p c)
unfolding select has some?
passes p c [] t = absurd t
passes p c (x ∷ cs) t = go (p x) refl t (passes p c cs)
  where
    go : (b : Bool) → p x ≡ b → T (has (cond b (x ∷ select p cs) (select p cs)) c) → (T (has (select p cs) c) → T (p c)) → T (p c)
    go true e t f = or_cases (same_col c x) (some? (same_col c) (select p cs)) t (λ s. true_T (p c) (ap p (same_col→eq c x s) ∙ e)) f
    go false e t f = f t

stays : (p : Col → Bool) (c : Col) (cs : List Col) → T (p c) → T (has cs c) → T (has (select p cs) c)
unfolding select has some?
stays p c [] t h = absurd h
stays p c (x ∷ cs) t h = go (p x) refl (stays p c cs t)
  where
    go : (b : Bool) → p x ≡ b → (T (has cs c) → T (has (select p cs) c)) → T (has (cond b (x ∷ select p cs) (select p cs)) c)
    go true e f = or_cases (same_col c x) (some? (same_col c) cs) h (λ s. or_l (same_col c x) _ s) (λ s. or_r (same_col c x) _ (f s))
    go false e f = or_cases (same_col c x) (some? (same_col c) cs) h (λ s. absurd (let z : p c ≡ false = ap p (same_col→eq c x s) ∙ e in rw z at t)) f

-- of some columns those that are among the shown ones of a list that has them all
pub present_select : (p : Col → Bool) (ds cs : List Col) → T (within cs ds) → select (has (select p ds)) cs ≡ select p cs
present_select p ds cs t = select_there (has (select p ds)) p cs (λ c h. same_truth (has (select p ds) c) (p c) (passes p c ds) (λ s. stays p c ds s (has_within c ds cs t h)))

-- ---- codes

-- no bit that is no column's
abbrev pub Low : ℕ → Type 0
Low mask = (c : ℕ) → 24 ≤ c → bit? mask c ≡ false

module _ (mask : ℕ) (low : Low mask) where
  shown_code : (c : ℕ) → column_in mask (coded_col c) ≡ bit? mask c
  unfolding column_in in_mask coded_col
  shown_code c = go (dec_lt c 24)
    where
      go : Dec (c < 24) → column_in mask (cond (ltb c 24) (col (c / 6) (c % 6)) figure) ≡ bit? mask c
      go (yes l) =
          let e : c / 6 * 6 + c % 6 ≡ c = omega arith in
          rw (lt-ltb c 24 l, lt-ltb (c % 6) 6 (omega arith), e, lt-ltb c 24 l)
      go (no l) = rw (le-ltb c 24 (omega arith)) (sym (low c (omega arith)))

  codes_shown : (cs : List ℕ) → map coded_col (select (bit? mask) cs) ≡ select (column_in mask) (map coded_col cs)
  codes_shown cs = sym (select_map (column_in mask) coded_col cs ∙ ap (map coded_col) (select_alike (λ c. column_in mask (coded_col c)) (bit? mask) shown_code cs))

  pub cols_within : (o : ℕ) → cols_in (order_within mask o) ≡ select (column_in mask) (cols_in o)
  unfolding cols_in
  cols_within o = ap (map coded_col) (codes_within mask o) ∙ codes_shown (codes_in o)

pub or_low : (a b : ℕ) → Low a → Low b → Low (bit_or a b)
or_low a b f g c l = bit_or_lem a b c ∙ ap₂ ◌||◌ (f c l) (g c l)

-- ---- streams

module _ (ns : List ℕ) where
  abbrev pub declared_all : List ℕ → Bool
  declared_all ss = every (λ s. ltb s (streams_in ns)) ss

  coded : (s c : ℕ) → s < 4 → c < 6 → coded_col (s * 6 + c) ≡ col s c
  unfolding coded_col
  coded s c h k =
      let i : (s * 6 + c) / 6 ≡ s = omega arith in
      let j : (s * 6 + c) % 6 ≡ c = omega arith in
      rw (lt-ltb (s * 6 + c) 24 (omega arith), i, j)

  counted : (s a n : ℕ) → s < 4 → a + n ≤ 6 → map coded_col (map (λ c. s * 6 + c) (count_from a n)) ≡ map (col s) (count_from a n)
  unfolding count_from
  counted s a zero h k = refl
  counted s a (suc n) h k = ap₂ ◌∷◌ (coded s a h (omega arith)) (counted s (suc a) n h (omega arith))

  fits : (s a n : ℕ) → s < 4 → a + n ≤ 6 → T (codes_fit (map (λ c. s * 6 + c) (count_from a n)))
  unfolding count_from every
  fits s a zero h k = tt
  fits s a (suc n) h k = and_both (ltb (s * 6 + a) 31) _ (true_T _ (lt-ltb (s * 6 + a) 31 (omega arith))) (fits s (suc a) n h (omega arith))

  pub map_append : (xs ys : List ℕ) → map coded_col (xs ++ ys) ≡ map coded_col xs ++ map coded_col ys
  map_append [] ys = refl
  map_append (x ∷ xs) ys = ap (λ l. coded_col x ∷ l) (map_append xs ys)

  pub columns_coded : (ss : List ℕ) → T (declared_all ss) → map coded_col (column_codes ns ss) ≡ gather (columns_of (schema_of ns)) ss
  unfolding column_codes gather every
  columns_coded [] t = refl
  columns_coded (s ∷ ss) t =
      let l = ltb→lt s (streams_in ns) (and_l (ltb s (streams_in ns)) (declared_all ss) t) in
      let m = streams_most ns in
      let k = width_most ns s in
      map_append (map (λ c. s * 6 + c) (count_from 0 (width_in ns s))) (column_codes ns ss)
      ∙ ap₂ ◌++◌ (counted s 0 (width_in ns s) (omega arith) (omega arith) ∙ sym (stream_columns ns s l)) (columns_coded ss (and_r (ltb s (streams_in ns)) (declared_all ss) t))

  stream_fits : (s : ℕ) → T (codes_fit (map (λ c. s * 6 + c) (count_from 0 (width_in ns s))))
  stream_fits s = let k = width_most ns s in go (dec_lt s 4)
    where
      go : Dec (s < 4) → T (codes_fit (map (λ c. s * 6 + c) (count_from 0 (width_in ns s))))
      go (yes l) = fits s 0 (width_in ns s) l (let k = width_most ns s in omega arith)
      go (no l) = rw (sym (width_none ns s (omega arith))) (unfold count_from every in tt)

  pub codes_small : (ss : List ℕ) → T (codes_fit (column_codes ns ss))
  unfolding column_codes gather every
  codes_small [] = tt
  codes_small (s ∷ ss) = every_append (λ c. ltb c 31) (map (λ c. s * 6 + c) (count_from 0 (width_in ns s))) (column_codes ns ss) (stream_fits s) (codes_small ss)

  pub codes_few : (ss : List ℕ) → length (column_codes ns ss) ≤ length ss * 6
  unfolding column_codes gather
  codes_few [] = omega arith
  codes_few (s ∷ ss) =
      let a = length-append (map (λ c. s * 6 + c) (count_from 0 (width_in ns s))) (column_codes ns ss) in
      let b = map_length (λ c. s * 6 + c) 0 (width_in ns s) in
      let c = width_most ns s in
      let d = codes_few ss in
      omega arith

  -- the columns of one or two streams as an order
  pub order_columns : (ss : List ℕ) → T (declared_all ss) → length ss ≤ 2 → cols_in (order_of (column_codes ns ss)) ≡ gather (columns_of (schema_of ns)) ss
  unfolding cols_in
  order_columns ss t h = let l = codes_few ss in ap (map coded_col) (codes_of (column_codes ns ss) (omega arith) (codes_small ss)) ∙ columns_coded ss t

  -- ---- masks of their columns

  module _ (mask : ℕ) (ss : List ℕ) (b : T (declared_all ss)) (i : T (inside mask (streams_mask ns ss))) where
    mask_bit : (c : ℕ) → T (bit? mask c) → T (bit? (streams_mask ns ss) c)
    mask_bit c t = and_r (bit? mask c) (bit? (streams_mask ns ss) c) (rw (inside_bits mask (streams_mask ns ss) c i) t)

    pub mask_low : Low mask
    unfolding streams_mask column_codes
    mask_low c h = go (bit? mask c) refl
      where
        go : (x : Bool) → bit? mask c ≡ x → x ≡ false
        go false e = refl
        go true e = absurd (rw (bit_above ns ss b c h) at (mask_bit c (true_T _ e)))

    -- it shows columns of theirs alone
    pub mask_theirs : (c : Col) → T (column_in mask c) → T (has (gather (columns_of (schema_of ns)) ss) c)
    unfolding column_in in_mask
    mask_theirs figure t = absurd t
    mask_theirs (col s c) t =
        let code = s * 6 + c in
        let x : T (ltb c 6) = and_l (ltb c 6) (ltb code 24 && bit? mask code) t in
        let y : T (ltb code 24 && bit? mask code) = and_r (ltb c 6) (ltb code 24 && bit? mask code) t in
        let z : T (column_in (streams_mask ns ss) (col s c)) = and_both (ltb c 6) _ x (and_both (ltb code 24) _ (and_l (ltb code 24) (bit? mask code) y) (mask_bit code (and_r (ltb code 24) (bit? mask code) y))) in
        rw (column_theirs ns ss b (col s c)) at z

column_or : (a b : ℕ) (c : Col) → column_in (bit_or a b) c ≡ (column_in a c || column_in b c)
unfolding column_in in_mask
column_or a b figure = refl
column_or a b (col s c) = rw (bit_or_lem a b (s * 6 + c)) (go (ltb c 6) (ltb (s * 6 + c) 24) (bit? a (s * 6 + c)) (bit? b (s * 6 + c)))
  where
    go : (x y u v : Bool) → (x && (y && (u || v))) ≡ (x && (y && u) || x && (y && v))
    go false y u v = refl
    go true false u v = refl
    go true true u v = refl

-- ---- the columns of one stream by two masks, of which the other shows no column of it

both_there : (ns : List ℕ) (s t : ℕ) → T (distinct eqb (s ∷ (t ∷ []))) → (c : Col) → T (has (columns_of (schema_of ns) s) c) → T (has (gather (columns_of (schema_of ns)) (t ∷ [])) c) → ⊥
unfolding gather
both_there ns s t d c h k = distinct_apart (columns_of (schema_of ns) s) (gather (columns_of (schema_of ns)) (t ∷ [])) (gather_distinct (schema_of ns) (s ∷ (t ∷ [])) d) c h k

module _ (ns : List ℕ) (a b s t : ℕ) (d : T (distinct eqb (s ∷ (t ∷ [])))) where
  pub shown_first : T (declared_all ns (t ∷ [])) → T (inside b (streams_mask ns (t ∷ []))) → select (column_in a) (columns_of (schema_of ns) s) ≡ select (column_in (bit_or a b)) (columns_of (schema_of ns) s)
  shown_first m i = select_there (column_in a) (column_in (bit_or a b)) (columns_of (schema_of ns) s) (λ c h. sym (column_or a b c ∙ go c h (column_in b c) refl))
    where
      go : (c : Col) → T (has (columns_of (schema_of ns) s) c) → (x : Bool) → column_in b c ≡ x → (column_in a c || x) ≡ column_in a c
      go c h false e = or-false (column_in a c)
      go c h true e = absurd (both_there ns s t d c h (mask_theirs ns b (t ∷ []) m i c (true_T _ e)))

  pub shown_second : T (declared_all ns (s ∷ [])) → T (inside a (streams_mask ns (s ∷ []))) → select (column_in b) (columns_of (schema_of ns) t) ≡ select (column_in (bit_or a b)) (columns_of (schema_of ns) t)
  unfolding gather
  shown_second m i = select_there (column_in b) (column_in (bit_or a b)) (columns_of (schema_of ns) t) (λ c h. sym (column_or a b c ∙ go c h (column_in a c) refl))
    where
      go : (c : Col) → T (has (columns_of (schema_of ns) t) c) → (x : Bool) → column_in a c ≡ x → (x || column_in b c) ≡ column_in b c
      go c h false e = refl
      go c h true e =
          absurd (both_there ns s t d c (rw (append_nil (columns_of (schema_of ns) s)) at (mask_theirs ns a (s ∷ []) m i c (true_T _ e))) (rw (append_nil (columns_of (schema_of ns) t)) h))
