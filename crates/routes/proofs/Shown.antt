-- What sound grants show of columns, by the bits of their masks.
use mathlib.Core.Path.{◌≡◌, refl, sym, ap, ap₂, ◌∙◌, subst}
use mathlib.Core.List.{List, [], ◌∷◌, ◌++◌, map}
use mathlib.Core.Bool.{Bool, true, false, ◌&&◌, ◌||◌, not, cond, or-false, and-true}
use Prim.Native.Nat.{ℕ, zero, suc, ◌+◌, ◌*◌, ◌-◌, ◌/◌, ◌%◌, ◌^◌, ◌<◌}
use native.Mathlib.Nat.{pow-suc, mul_assoc}
use native.Mathlib.Decide.{dec_lt}
use native.Mathlib.Omega.{arith}
use lib.Pow.{pow-add, shl-shr, shr-shr}
use lib.Bits.{bit_and, bit_or}
use lib.Dec.{T, ltb, eqb, eqb→eq, ltb→lt, lit<}
use lib.ListN.{length}
use borrow.Author.Tests.{eq-eqb, ne_eqb, lt-ltb}
use Rattle.lists.specs.Lists.{select, every, some?, empty?, nth, gather, count_from}
use Rattle.lists.proofs.Laws.{All, all_nil, all_cons, and_l, and_r, and_both, or_l, or_r, or_cases, parts, append_nil, same_truth}
use Rattle.lists.proofs.Gathers.{every_gathers, some_append}
use Rattle.model.specs.Queries.{no_stream, Col, col, figure, same_col, columns_of}
use Rattle.model.specs.Grants.{shown_of}
use Rattle.model.specs.Checks.{has}
use Rattle.model.proofs.Columns.{has_append}
use Rattle.model.proofs.Forms.{every_same}
use Rattle.model.proofs.OneRow.{by_every}
use Rattle.model.proofs.Found.{has_select_both}
use Rattle.schema.specs.Schemas.{streams_in, schema_of}
use Rattle.schema.proofs.Tests.{streams_most}
use Rattle.masks.specs.Masks.{bit?, inside, mask_of}
use Rattle.masks.proofs.Bits.{bit_and_lem, bit_or_lem, bit_past}
use Rattle.masks.proofs.Lists.{bits_same, bit_none, bit_mask, inside_bits, bits_inside, inside_every}
use Rattle.columns.proofs.ColumnBits.{bit_column, figure_none}
use Rattle.nodes.specs.Nodes.{in_mask, column_in}
use Rattle.grant.specs.Grants.{streams_of, grant_of, column_codes, streams_mask, shown_sound, grant_sound}
use Rattle.grant.specs.declared.Grant.{Grant}
use Rattle.grant.proofs.Masked.{low, declared_stream, cols_low, column_theirs}
use Rattle.grant.proofs.Valid.{told_streams, streams_below}
use Rattle.comparisons.specs.Compared.{col_codes}
use Rattle.needs.specs.Asking.{bits_of}
use Rattle.routes.specs.Opening.{stream_bits}

-- ---- bits of a stream

bit_shifted : (a k j : ℕ) → bit? (a * 2 ^ k) (k + j) ≡ bit? a j
bit_shifted a k j =
    ap (λ (n : ℕ). eqb (n % 2) 1) (sym (shr-shr (a * 2 ^ k) k j) ∙ ap (λ (n : ℕ). n / 2 ^ j) (shl-shr a k))

bit_under : (a d i : ℕ) → bit? (a * 2 ^ (suc d + i)) i ≡ false
bit_under a d i =
    let q : a * 2 ^ (suc d + i) / 2 ^ i ≡ a * 2 ^ suc d = ap (λ (n : ℕ). a * n / 2 ^ i) (pow-add 2 (suc d) i) ∙ ap (λ (n : ℕ). n / 2 ^ i) (sym (mul_assoc a (2 ^ suc d) (2 ^ i))) ∙ shl-shr (a * 2 ^ suc d) i in
    let e : a * 2 ^ suc d ≡ (a * 2 ^ d) * 2 = ap (λ (n : ℕ). a * n) (pow-suc 2 d) ∙ sym (mul_assoc a (2 ^ d) 2) in
    let f : a * 2 ^ suc d % 2 ≡ 0 = omega arith in
    ap (λ (n : ℕ). eqb (n % 2) 1) q ∙ ap (λ (n : ℕ). eqb n 1) f

six_bits : (j : ℕ) → j < 6 → bit? 63 j ≡ true
six_bits zero h = refl
six_bits (suc zero) h = refl
six_bits (suc (suc zero)) h = refl
six_bits (suc (suc (suc zero))) h = refl
six_bits (suc (suc (suc (suc zero)))) h = refl
six_bits (suc (suc (suc (suc (suc zero))))) h = refl
six_bits (suc (suc (suc (suc (suc (suc j)))))) h = absurd (omega arith)

pub bit_stream : (s i : ℕ) → s < 4 → bit? (stream_bits s) i ≡ eqb (i / 6) s
unfolding stream_bits
bit_stream s i h = rw (lt-ltb s 4 h) (go (dec_lt i (s * 6)) (dec_lt i (s * 6 + 6)))
  where
    go : Dec (i < s * 6) → Dec (i < s * 6 + 6) → bit? (63 * 2 ^ (s * 6)) i ≡ eqb (i / 6) s
    go (yes l) m =
        let e : suc (s * 6 - suc i) + i ≡ s * 6 = omega arith in
        ap (λ (k : ℕ). bit? (63 * 2 ^ k) i) (sym e) ∙ bit_under 63 (s * 6 - suc i) i ∙ sym (ne_eqb (i / 6) s (λ f. omega arith))
    go (no l) (yes m) =
        let e : s * 6 + (i - s * 6) ≡ i = omega arith in
        ap (λ (k : ℕ). bit? (63 * 2 ^ (s * 6)) k) (sym e) ∙ bit_shifted 63 (s * 6) (i - s * 6) ∙ six_bits (i - s * 6) (omega arith) ∙ sym (eq-eqb (i / 6) s (omega arith))
    go (no l) (no m) =
        let e : s * 6 + (i - s * 6) ≡ i = omega arith in
        ap (λ (k : ℕ). bit? (63 * 2 ^ (s * 6)) k) (sym e) ∙ bit_shifted 63 (s * 6) (i - s * 6) ∙ bit_past 63 (i - s * 6) 6 (lit< tt) (omega arith) ∙ sym (ne_eqb (i / 6) s (λ f. omega arith))

-- ---- masks by their bits

pub inside_by : (m n : ℕ) → ((i : ℕ) → T (bit? m i) → T (bit? n i)) → T (inside m n)
inside_by m n f = bits_inside m n (λ i. go (bit? m i) (bit? n i) (f i))
  where
    go : (a b : Bool) → (T a → T b) → (a && b) ≡ a
    go true true f = refl
    go true false f = absurd (f tt)
    go false b f = refl

pub by_inside : (m n i : ℕ) → T (inside m n) → T (bit? m i) → T (bit? n i)
by_inside m n i t u = and_r (bit? m i) (bit? n i) (rw (inside_bits m n i t) u)

-- a mask within the bits of one stream
pub inside_one : (x b s : ℕ) → ((i : ℕ) → T (bit? x i) → T (bit? b i)) → inside x s ≡ inside (bit_and x b) s
inside_one x b s f =
    same_truth (inside x s) (inside (bit_and x b) s)
    (λ t. inside_by (bit_and x b) s (λ i u. by_inside x s i t (and_l (bit? x i) (bit? b i) (rw (bit_and_lem x b i) at u))))
    (λ t. inside_by x s (λ i u. by_inside (bit_and x b) s i t (rw (bit_and_lem x b i) (and_both (bit? x i) (bit? b i) u (f i u)))))

-- of two streams: each mask shows columns of its own
pub inside_two : (x a b s t : ℕ) → ((i : ℕ) → T (bit? x i) → T (bit? a i || bit? b i)) → ((i : ℕ) → T (bit? s i) → T (bit? a i)) → ((i : ℕ) → T (bit? t i) → T (bit? b i)) → ((i : ℕ) → T (bit? a i) → T (bit? b i) → ⊥)
    → inside x (bit_or s t) ≡ (inside (bit_and x a) s && inside (bit_and x b) t)
inside_two x a b s t f g h k =
    same_truth (inside x (bit_or s t)) (inside (bit_and x a) s && inside (bit_and x b) t)
    (λ u. and_both (inside (bit_and x a) s) (inside (bit_and x b) t)
    (inside_by (bit_and x a) s (λ i v. let w : T (bit? x i && bit? a i) = rw (bit_and_lem x a i) at v in
    or_cases (bit? s i) (bit? t i) (rw (bit_or_lem s t i) at (by_inside x (bit_or s t) i u (and_l (bit? x i) (bit? a i) w))) (λ y. y) (λ y. absurd (k i (and_r (bit? x i) (bit? a i) w) (h i y)))))
    (inside_by (bit_and x b) t (λ i v. let w : T (bit? x i && bit? b i) = rw (bit_and_lem x b i) at v in
    or_cases (bit? s i) (bit? t i) (rw (bit_or_lem s t i) at (by_inside x (bit_or s t) i u (and_l (bit? x i) (bit? b i) w))) (λ y. absurd (k i (g i y) (and_r (bit? x i) (bit? b i) w))) (λ y. y))))
    (λ u. inside_by x (bit_or s t) (λ i v. rw (bit_or_lem s t i)
    (or_cases (bit? a i) (bit? b i) (f i v)
    (λ y. or_l (bit? s i) (bit? t i) (by_inside (bit_and x a) s i (and_l (inside (bit_and x a) s) _ u) (rw (bit_and_lem x a i) (and_both (bit? x i) (bit? a i) v y))))
    (λ y. or_r (bit? s i) (bit? t i) (by_inside (bit_and x b) t i (and_r (inside (bit_and x a) s) _ u) (rw (bit_and_lem x b i) (and_both (bit? x i) (bit? b i) v y)))))))

not_zero : (x i : ℕ) → T (bit? x i) → T (not (eqb x 0))
not_zero x i t = rw (ne_eqb x 0 (λ e. rw (bit_none i) at (rw e at t))) tt

-- some bit of a list is set
pub some_bits : (m : ℕ) (is : List ℕ) → not (eqb (bit_and m (mask_of is)) 0) ≡ some? (bit? m) is
unfolding some?
some_bits m is = same_truth (not (eqb (bit_and m (mask_of is)) 0)) (some? (bit? m) is) there back
  where
    listed : (is : List ℕ) (i : ℕ) → T (bit? m i) → T (some? (λ j. eqb j i) is) → T (some? (bit? m) is)
    listed [] i t u = absurd u
    listed (j ∷ is) i t u = or_cases (eqb j i) (some? (λ j. eqb j i) is) u (λ v. or_l (bit? m j) _ (rw (eqb→eq j i v) t)) (λ v. or_r (bit? m j) _ (listed is i t v))

    there : T (not (eqb (bit_and m (mask_of is)) 0)) → T (some? (bit? m) is)
    there t = go (some? (bit? m) is) (λ i u. let v : T (bit? m i && bit? (mask_of is) i) = rw (bit_and_lem m (mask_of is) i) at u in listed is i (and_l (bit? m i) _ v) (rw (bit_mask is i) at (and_r (bit? m i) _ v)))
      where
        go : (x : Bool) → ((i : ℕ) → T (bit? (bit_and m (mask_of is)) i) → T x) → T x
        go true f = tt
        go false f = absurd (rw (eq-eqb (bit_and m (mask_of is)) 0 (bits_same (bit_and m (mask_of is)) 0 (λ i. same_truth (bit? (bit_and m (mask_of is)) i) (bit? 0 i) (λ u. absurd (f i u)) (λ u. absurd (rw (bit_none i) at u))))) at t)

    found : (is : List ℕ) → T (some? (bit? m) is) → (i : ℕ) × T (bit? m i) × T (some? (λ j. eqb j i) is)
    found [] t = absurd t
    found (j ∷ is) t =
        or_cases (bit? m j) (some? (bit? m) is) t
        (λ u. (j, u, or_l (eqb j j) _ (rw (eq-eqb j j refl) tt)))
        (λ u. let h = found is u in (h.0, h.1, or_r (eqb j h.0) _ h.2))

    back : T (some? (bit? m) is) → T (not (eqb (bit_and m (mask_of is)) 0))
    back t =
        let h = found is t in
        not_zero (bit_and m (mask_of is)) h.0 (rw (bit_and_lem m (mask_of is) h.0) (and_both (bit? m h.0) (bit? (mask_of is) h.0) h.1 (rw (bit_mask is h.0) h.2)))

-- ---- lists of columns

some_gathers : {A B : Type 0} (p : B → Bool) (f : A → List B) (xs : List A) → some? p (gather f xs) ≡ some? (λ x. some? p (f x)) xs
unfolding some? gather
some_gathers p f [] = refl
some_gathers p f (x ∷ xs) = some_append p (f x) (gather f xs) ∙ ap (λ b. some? p (f x) || b) (some_gathers p f xs)

some_same : {A : Type 0} (p q : A → Bool) {xs : List A} → All (λ x. p x ≡ q x) xs → some? p xs ≡ some? q xs
unfolding some?
some_same p q all_nil = refl
some_same p q (all_cons {x} {xs} e es) = ap₂ ◌||◌ e (some_same p q es)

some_left : {A : Type 0} (p : A → Bool) (xs : List A) → not (empty? (select p xs)) ≡ some? p xs
unfolding some? select empty?
some_left p [] = refl
some_left p (x ∷ xs) = go (p x) (some_left p xs)
  where
    go : (b : Bool) → not (empty? (select p xs)) ≡ some? p xs → not (empty? (cond b (x ∷ select p xs) (select p xs))) ≡ (b || some? p xs)
    go true e = refl
    go false e = e

-- a test of columns that is one of their bits
pub every_shown : (m : ℕ) (p : Col → Bool) {cs : List Col} → All (λ c. p c ≡ every (bit? m) (col_codes c)) cs → every p cs ≡ inside (bits_of cs) m
unfolding bits_of
every_shown m p {cs} h = every_same p (λ c. every (bit? m) (col_codes c)) h ∙ sym (every_gathers (bit? m) col_codes cs) ∙ sym (inside_every (gather col_codes cs) m)

pub some_shown : (m : ℕ) (p : Col → Bool) {cs : List Col} → All (λ c. p c ≡ some? (bit? m) (col_codes c)) cs → not (empty? (select p cs)) ≡ not (eqb (bit_and m (bits_of cs)) 0)
unfolding bits_of
some_shown m p {cs} h = some_left p cs ∙ some_same p (λ c. some? (bit? m) (col_codes c)) h ∙ sym (some_gathers (bit? m) col_codes cs) ∙ sym (some_bits m (gather col_codes cs))

-- ---- columns of streams

module _ (ns : List ℕ) where
  abbrev pub hs : ℕ → List Col
  hs = columns_of (schema_of ns)

  -- a column of some streams, or the aggregate's
  abbrev pub own : List ℕ → Col → Bool
  own ss c = same_col c figure || has (gather hs ss) c

  named_stream : (s u k : ℕ) (xs : List ℕ) → T (has (map (col s) xs) (col u k)) → u ≡ s
  unfolding has some? same_col
  named_stream s u k [] t = absurd t
  named_stream s u k (x ∷ xs) t = or_cases (eqb u s && eqb k x) _ t (λ v. eqb→eq u s (and_l (eqb u s) (eqb k x) v)) (λ v. named_stream s u k xs v)

  stream_of : (s u k : ℕ) → T (has (hs s) (col u k)) → u ≡ s
  unfolding columns_of
  stream_of s u k t = named_stream s u k (count_from 0 (length (nth no_stream (schema_of ns) s).columns)) t

  lone_of : (s u k : ℕ) → T (has (gather hs (s ∷ [])) (col u k)) → u ≡ s
  unfolding gather
  lone_of s u k t = stream_of s u k (rw (append_nil (hs s)) at t)

  pair_of : (s t u k : ℕ) {X : Type 0} → T (has (gather hs (s ∷ (t ∷ []))) (col u k)) → (u ≡ s → X) → (u ≡ t → X) → X
  unfolding gather
  pair_of s t u k w f g = has_append (col u k) (hs s) (hs t ++ []) w (λ v. f (stream_of s u k v)) (λ v. g (stream_of t u k (rw (append_nil (hs t)) at v)))

  module _ (ss : List ℕ) (b : T (every (declared_stream ns) ss)) where
    theirs_low : (c : Col) → T (has (gather hs ss) c) → T (low (streams_in ns) c)
    theirs_low c t = by_every (low (streams_in ns)) c (gather hs ss) (cols_low ns ss b) t

    low_code : (s k : ℕ) → T (low (streams_in ns) (col s k)) → (s < 4) × (k < 6)
    unfolding low
    low_code s k t =
        let a = ltb→lt s (streams_in ns) (and_l (ltb s (streams_in ns)) (ltb k 6) t) in
        (omega (arith, streams_most ns), ltb→lt k 6 (and_r (ltb s (streams_in ns)) (ltb k 6) t))

    pub own_code : (s k : ℕ) → T (own ss (col s k)) → (s < 4) × (k < 6)
    unfolding same_col
    own_code s k t = low_code s k (theirs_low (col s k) t)

    own_codes : (s k : ℕ) → T (own ss (col s k)) → col_codes (col s k) ≡ (s * 6 + k) ∷ []
    unfolding col_codes
    own_codes s k t = let h = own_code s k t in rw (lt-ltb (s * 6 + k) 24 (omega (arith, h.0, h.1)))

    -- a mask shows the codes of a column where a list of columns has it
    module _ (m : ℕ) (p : Col → Bool) (f : p figure ≡ true) (h : (s k : ℕ) → s < 4 → k < 6 → p (col s k) ≡ bit? m (s * 6 + k)) where
      pub own_every : (c : Col) → T (own ss c) → p c ≡ every (bit? m) (col_codes c)
      own_every figure t = f ∙ (unfold col_codes every in refl)
      own_every (col s k) t =
          let u = own_code s k t in
          h s k u.0 u.1 ∙ sym (ap (every (bit? m)) (own_codes s k t) ∙ last (bit? m (s * 6 + k)))
        where
          last : (b : Bool) → every (bit? m) ((s * 6 + k) ∷ []) ≡ bit? m (s * 6 + k)
          last b = unfold every in and-true (bit? m (s * 6 + k))

    module _ (m : ℕ) (p : Col → Bool) (h : (s k : ℕ) → s < 4 → k < 6 → p (col s k) ≡ bit? m (s * 6 + k)) where
      pub theirs_some : (c : Col) → T (has (gather hs ss) c) → p c ≡ some? (bit? m) (col_codes c)
      theirs_some figure t = absurd (rw (figure_none ns ss b) at t)
      theirs_some (col s k) t =
          let o : T (own ss (col s k)) = or_r (same_col (col s k) figure) _ t in
          let u = own_code s k o in
          h s k u.0 u.1 ∙ sym (ap (some? (bit? m)) (own_codes s k o) ∙ last)
        where
          last : some? (bit? m) ((s * 6 + k) ∷ []) ≡ bit? m (s * 6 + k)
          last = unfold some? in or-false (bit? m (s * 6 + k))

  -- ---- what a sound grant shows

  module _ (g : Grant) (ws : List ℕ) (t : T (grant_sound ns g ws)) where
    streams_low : T (every (declared_stream ns) (streams_of g))
    streams_low = streams_below ns g (told_streams ns g ws t)

    shown_inside : T (inside g.shown (streams_mask ns (streams_of g)))
    unfolding grant_sound shown_sound
    shown_inside = search parts depth 9

    -- of its streams' columns it shows those of its mask
    shows_masked : (c : Col) → has (shown_of (schema_of ns) (grant_of ns g ws)) c ≡ column_in g.shown c
    unfolding shown_of grant_of column_in in_mask some? has
    shows_masked c =
        has_select_both (λ c. has (select (column_in g.shown) (gather hs (streams_of g))) c) c (gather hs (streams_of g))
        ∙ ap (λ b. has (gather hs (streams_of g)) c && b) (has_select_both (column_in g.shown) c (gather hs (streams_of g)))
        ∙ twice (has (gather hs (streams_of g)) c) (column_in g.shown c) (λ u. rw (column_theirs ns (streams_of g) streams_low c) at (wider c u))
      where
        twice : (a p : Bool) → (T p → T a) → (a && (a && p)) ≡ p
        twice true p f = refl
        twice false true f = absurd (f tt)
        twice false false f = refl

        wider : (c : Col) → T (column_in g.shown c) → T (column_in (streams_mask ns (streams_of g)) c)
        wider (col s k) u =
            and_both (ltb k 6) _ (and_l (ltb k 6) _ u)
            (and_both (ltb (s * 6 + k) 24) _ (and_l (ltb (s * 6 + k) 24) _ (and_r (ltb k 6) _ u))
            (by_inside g.shown (streams_mask ns (streams_of g)) (s * 6 + k) shown_inside (and_r (ltb (s * 6 + k) 24) _ (and_r (ltb k 6) _ u))))
        wider figure u = absurd u

    pub shows_bit : (s k : ℕ) → s < 4 → k < 6 → has (shown_of (schema_of ns) (grant_of ns g ws)) (col s k) ≡ bit? g.shown (s * 6 + k)
    unfolding column_in in_mask
    shows_bit s k a b = shows_masked (col s k) ∙ rw (lt-ltb k 6 b, lt-ltb (s * 6 + k) 24 (omega arith))

    -- a bit of its mask is a column of one of its streams
    bit_has : (i : ℕ) → T (bit? g.shown i) → T (has (gather hs (streams_of g)) (col (i / 6) (i % 6)))
    unfolding streams_mask column_codes
    bit_has i u = rw (bit_column ns (streams_of g) streams_low i) at (by_inside g.shown (streams_mask ns (streams_of g)) i shown_inside u)

    pub bit_lone : (s : ℕ) → streams_of g ≡ s ∷ [] → s < 4 → (i : ℕ) → T (bit? g.shown i) → T (bit? (stream_bits s) i)
    bit_lone s e l i u =
        let v = subst (λ ss. T (has (gather hs ss) (col (i / 6) (i % 6)))) e (bit_has i u) in
        rw (bit_stream s i l, eq-eqb (i / 6) s (lone_of s (i / 6) (i % 6) v)) tt

  -- a bit of some columns is one of their streams
  module _ (i : ℕ) where
    bit_among : (ss : List ℕ) (b : T (every (declared_stream ns) ss)) (cs : List Col) → T (every (own ss) cs) → T (some? (λ j. eqb j i) (gather col_codes cs)) → (k : ℕ) × T (has (gather hs ss) (col (i / 6) k))
    unfolding gather every some? same_col
    bit_among ss b [] w t = absurd t
    bit_among ss b (figure ∷ cs) w t = bit_among ss b cs w (unfold col_codes in t)
    bit_among ss b (col s k ∷ cs) w t =
        let o = and_l (own ss (col s k)) _ w in
        let u = own_code ss b s k o in
        or_cases (some? (λ j. eqb j i) (col_codes (col s k))) (some? (λ j. eqb j i) (gather col_codes cs)) (rw (some_append (λ j. eqb j i) (col_codes (col s k)) (gather col_codes cs)) at t)
        (λ v. here s k o u.0 u.1 (subst (λ l. T (some? (λ j. eqb j i) l)) (own_codes ss b s k o) v))
        (λ v. bit_among ss b cs (and_r (own ss (col s k)) _ w) v)
      where
        here : (s k : ℕ) → T (own ss (col s k)) → s < 4 → k < 6 → T (some? (λ j. eqb j i) ((s * 6 + k) ∷ [])) → (k : ℕ) × T (has (gather hs ss) (col (i / 6) k))
        here s k o l m v =
            let e : s * 6 + k ≡ i = eqb→eq (s * 6 + k) i (rw (or-false (eqb (s * 6 + k) i)) at v) in
            let f : s ≡ i / 6 = omega arith in
            (k, subst (λ x. T (has (gather hs ss) (col x k))) f o)

    pub lone_bit : (s : ℕ) → T (every (declared_stream ns) (s ∷ [])) → s < 4 → (cs : List Col) → T (every (own (s ∷ [])) cs) → T (bit? (bits_of cs) i) → T (bit? (stream_bits s) i)
    unfolding bits_of
    lone_bit s b l cs w t =
        let h = bit_among (s ∷ []) b cs w (rw (bit_mask (gather col_codes cs) i) at t) in
        rw (bit_stream s i l, eq-eqb (i / 6) s (lone_of s (i / 6) h.0 h.1)) tt

    pub pair_bit : (s t : ℕ) → T (every (declared_stream ns) (s ∷ (t ∷ []))) → s < 4 → t < 4 → (cs : List Col) → T (every (own (s ∷ (t ∷ []))) cs) → T (bit? (bits_of cs) i) → T (bit? (stream_bits s) i || bit? (stream_bits t) i)
    unfolding bits_of
    pair_bit s t b l m cs w v =
        let h = bit_among (s ∷ (t ∷ [])) b cs w (rw (bit_mask (gather col_codes cs) i) at v) in
        pair_of s t (i / 6) h.0 h.1
        (λ e. or_l (bit? (stream_bits s) i) _ (rw (bit_stream s i l, eq-eqb (i / 6) s e) tt))
        (λ e. or_r (bit? (stream_bits s) i) _ (rw (bit_stream t i m, eq-eqb (i / 6) t e) tt))
