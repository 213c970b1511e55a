-- The tests on numbers are those of the definitions, for sound grants and a checked query.
use mathlib.Core.Path.{◌≡◌, refl, sym, ap, ap₂, ◌∙◌, subst}
use mathlib.Core.List.{List, [], ◌∷◌, ◌++◌}
use mathlib.Core.Bool.{Bool, true, false, ◌&&◌, ◌||◌, not, cond, or-false}
use Prim.Native.Nat.{ℕ, ◌+◌, ◌*◌, ◌/◌, ◌≤◌, ◌<◌}
use native.Mathlib.Decide.{ℕ_discrete}
use native.Mathlib.Omega.{arith}
use lib.Bits.{bit_and, bit_or, or_self}
use lib.Dec.{T, leb, eqb, eqb→eq, leb→le, ltb→lt}
use borrow.Author.Tests.{eq-eqb, ne_eqb}
use Rattle.lists.specs.Lists.{select, every, some?, empty?, gather, same_list, distinct}
use Rattle.lists.proofs.Laws.{all_weaken, and_l, or_r, parts, every_all, same_list→eq}
use Rattle.syntax.specs.Grammar.{Fn, read, figures, fn_number, numbered_fn, numbered_right}
use Rattle.syntax.proofs.Aggregates.{fn_range, fn_back}
use Rattle.model.specs.Queries as M
use Rattle.model.specs.Queries.{Col, col, figure, same_col, Query, sources, picks, header}
use Rattle.model.specs.Grants.{shown_of}
use Rattle.model.specs.Checks.{has, timed, no_aggregate, allowed}
use Rattle.model.specs.Routes.{reads, gives, is_equality, single}
use Rattle.model.proofs.Asked.{shown_by, left, joins_by}
use Rattle.model.proofs.RouteKinds.{asked_cols, equal_cols, side_picks, has_equality}
use Rattle.model.proofs.Columns.{has_within}
use Rattle.model.proofs.OneRow.{and_swap, header_in, all_by}
use Rattle.schema.specs.Schemas.{streams_in, schema_of}
use Rattle.schema.proofs.Tests.{streams_most}
use Rattle.masks.specs.Masks.{bit?, inside}
use Rattle.masks.proofs.Bits.{bit_or_lem}
use Rattle.columns.proofs.Closing.{eqb_sym}
use Rattle.columns.proofs.ColumnBits.{figure_none}
use Rattle.nodes.specs.Nodes.{conditions_of}
use Rattle.grant.specs.Grants.{streams_of, grant_of, window_sound, grant_sound}
use Rattle.grant.specs.declared.Grant.{Grant}
use Rattle.grant.proofs.Masked.{declared_stream}
use Rattle.query.specs.Forms.{coded_col}
use Rattle.needs.specs.Asking.{no_stream, bits_of, col_code, needs_of}
use Rattle.needs.specs.declared.Needs.{Needs}
use Rattle.needs.proofs.Fields.{bits_append, need_is, keys_are, header_is, streams_are}
use Rattle.needs.proofs.Shapes.{equality_same, times_are, Below, Figured, none_there, one_there, figured_is, fn_some}
use Rattle.routes.specs.Opening.{stream_bits, streams_asked, equality_held, side_opened, right_opened, pair_opened, figures_opened}
use Rattle.routes.proofs.Shown.{hs, own, every_shown, some_shown, inside_one, inside_two, own_code, own_every, theirs_some, shows_bit, bit_lone, lone_bit, pair_bit, bit_stream}
use Rattle.routes.proofs.Reach.{own_asked, own_named}

-- ---- rights

pub reads_is : (r : ℕ) → reads (numbered_right r) ≡ eqb r 0
unfolding numbered_right reads
reads_is r = go (eqb r 0)
  where
    go : (a : Bool) → reads (cond a read (figures (numbered_fn r))) ≡ a
    go true = refl
    go false = refl

gives_code : (f : Fn) (r : ℕ) → r ≤ 5 → gives f (numbered_right r) ≡ eqb r (fn_number f)
unfolding numbered_right gives
gives_code f r h = go (ℕ_discrete r 0)
  where
    none : false ≡ eqb 0 (fn_number f)
    none = let k = (fn_range f).0 in sym (ne_eqb 0 (fn_number f) (λ e. omega arith))

    go : Dec (r ≡ 0) → gives f (numbered_right r) ≡ eqb r (fn_number f)
    go (yes e) = rw e none
    go (no e) = rw (ne_eqb r 0 e) (ap (eqb (fn_number f)) (fn_back r (omega arith) h) ∙ eqb_sym (fn_number f) r)

-- ---- of a query and grants

some_same : {A : Type 0} (p r : A → Bool) → ((x : A) → p x ≡ r x) → (xs : List A) → some? p xs ≡ some? r xs
unfolding some?
some_same p r f [] = refl
some_same p r f (x ∷ xs) = ap₂ ◌||◌ (f x) (some_same p r f xs)

two_apart : (s t : ℕ) → T (distinct eqb (s ∷ (t ∷ []))) → s ≡ t → ⊥
unfolding distinct some?
two_apart s t d e = rw (ap (λ x. not (x || false)) (eq-eqb s t e)) at (and_l (not (eqb s t || false)) _ d)

module _ (ns : List ℕ) (q : Query ℕ) (w : T (allowed (hs ns) q)) (b : T (every (declared_stream ns) (sources q))) where
  abbrev n : Needs
  n = needs_of ns q

  first_low : (s : ℕ) (ss : List ℕ) → T (every (declared_stream ns) (s ∷ ss)) → s < 4
  unfolding every
  first_low s ss t = let l = ltb→lt s (streams_in ns) (and_l (declared_stream ns s) _ t) in omega (arith, streams_most ns)

  named_bits : bits_of (asked_cols q ++ equal_cols q) ≡ bit_or n.need n.keys
  named_bits = bits_append (asked_cols q) (equal_cols q) ∙ sym (ap₂ bit_or (need_is ns q) (keys_are ns q))

  pub asked_streams : streams_asked n ≡ sources q
  unfolding streams_asked
  asked_streams = go (single (sources q)) refl
    where
      go : (x : Bool) → single (sources q) ≡ x → cond (eqb n.right no_stream) (n.left ∷ []) (n.left ∷ (n.right ∷ [])) ≡ sources q
      go true e = let h = (streams_are ns (hs ns) q w b).lone (rw e tt) in rw (eq-eqb n.right no_stream h.1) (sym h.0)
      go false e = let h = (streams_are ns (hs ns) q w b).both e in rw (ne_eqb n.right no_stream (λ i. omega (arith, h.1))) (sym h.0)

  module _ (gs : List M.Grant) (m : ℕ) (h : (s k : ℕ) → s < 4 → k < 6 → shown_by (schema_of ns) gs (col s k) ≡ bit? m (s * 6 + k)) where
    figure_shown : shown_by (schema_of ns) gs figure ≡ true
    unfolding shown_by same_col
    figure_shown = refl

    -- columns of the query are shown where their bits are
    shown_bits : (cs : List Col) → T (every (own ns (sources q)) cs) → every (shown_by (schema_of ns) gs) cs ≡ inside (bits_of cs) m
    shown_bits cs t = every_shown m (shown_by (schema_of ns) gs) (all_weaken (λ c u. own_every ns (sources q) b m (shown_by (schema_of ns) gs) figure_shown h c u) (every_all (own ns (sources q)) cs t))

    asked_bits : every (shown_by (schema_of ns) gs) (asked_cols q) ≡ inside n.need m
    asked_bits = shown_bits (asked_cols q) (own_asked ns q w) ∙ ap (λ x. inside x m) (sym (need_is ns q))

    all_bits : every (shown_by (schema_of ns) gs) (asked_cols q ++ equal_cols q) ≡ inside (bit_or n.need n.keys) m
    all_bits = shown_bits (asked_cols q ++ equal_cols q) (own_named ns q w) ∙ ap (λ x. inside x m) named_bits

    plain_left : T (no_aggregate q) → not (empty? (left (schema_of ns) gs q)) ≡ not (eqb (bit_and m (bits_of (header (hs ns) q))) 0)
    unfolding left
    plain_left a =
        some_shown m (shown_by (schema_of ns) gs)
        (all_by (header (hs ns) q) (λ c t. theirs_some ns (sources q) b m (shown_by (schema_of ns) gs) h c (has_within c (gather (hs ns) (sources q)) (header (hs ns) q) (header_in (schema_of ns) q a w) t)))

    figure_left : header (hs ns) q ≡ figure ∷ [] → not (empty? (left (schema_of ns) gs q)) ≡ true
    unfolding left select empty?
    figure_left e = ap (λ cs. not (empty? (select (shown_by (schema_of ns) gs) cs))) e ∙ rw figure_shown

    -- a column of the answer is left
    left_bits : not (empty? (left (schema_of ns) gs q)) ≡ (not (eqb n.aggregate 0) || not (eqb (bit_and m n.header) 0))
    left_bits = go (figured_is ns q w)
      where
        go : Figured ns q → not (empty? (left (schema_of ns) gs q)) ≡ (not (eqb n.aggregate 0) || not (eqb (bit_and m n.header) 0))
        go (none_there a e k) = plain_left a ∙ sym (ap₂ ◌||◌ (ap not (eq-eqb n.aggregate 0 e)) (ap (λ x. not (eqb (bit_and m x) 0)) (header_is ns q b)))
        go (one_there {f} {c} {q'} k) = figure_left k.head ∙ sym (ap (λ x. not x || not (eqb (bit_and m n.header) 0)) (ne_eqb n.aggregate 0 (λ e. fn_some ns f (sym k.number ∙ e))))

  -- ---- one grant

  module _ (g : Grant) (ws : List ℕ) (t : T (grant_sound ns g ws)) where
    abbrev Mg : M.Grant
    Mg = grant_of ns g ws

    one_bit : (s k : ℕ) → s < 4 → k < 6 → shown_by (schema_of ns) (Mg ∷ []) (col s k) ≡ bit? g.shown (s * 6 + k)
    unfolding shown_by same_col some?
    one_bit s k l m = or-false (has (shown_of (schema_of ns) Mg) (col s k)) ∙ shows_bit ns g ws t s k l m

    pub one_left : not (empty? (left (schema_of ns) (Mg ∷ []) q)) ≡ (not (eqb n.aggregate 0) || not (eqb (bit_and (bit_or g.shown g.shown) n.header) 0))
    one_left = left_bits (Mg ∷ []) g.shown one_bit ∙ ap (λ x. not (eqb n.aggregate 0) || not (eqb (bit_and x n.header) 0)) (sym (or_self g.shown))

    streams_same : (ss : List ℕ) → same_list (streams_of g) ss ≡ same_list Mg.of ss
    unfolding grant_of
    streams_same ss = refl

    right_same : eqb g.right 0 ≡ reads Mg.right
    unfolding grant_of
    right_same = sym (reads_is g.right)

    -- the equality of its join, where it has two streams
    equality_is : single (sources q) ≡ false → equality_held n g ws ≡ has_equality q Mg
    unfolding equality_held has_equality grant_of
    equality_is u =
        some_same (is_equality (coded_col n.first) (coded_col n.second)) (λ c. joins_by c q) (λ c. sym (equality_same ns q w b u c)) (conditions_of ws g.words)
        ∙ sym (ap (λ x. x || some? (λ c. joins_by c q) (conditions_of ws g.words)) u)

    -- one stream
    pub lone_side : T (single (sources q)) → side_opened n g n.left ≡ (reads Mg.right && (same_list Mg.of (sources q) && every (shown_by (schema_of ns) (Mg ∷ [])) (asked_cols q ++ equal_cols q)))
    unfolding side_opened
    lone_side u =
        let e = ((streams_are ns (hs ns) q w b).lone u).0 in
        let l = left_low u in
        ap₂ ◌&&◌ right_same
        (ap₂ ◌&&◌ (streams_same (n.left ∷ []) ∙ ap (same_list Mg.of) (sym e))
        (sym (all_bits (Mg ∷ []) g.shown one_bit ∙ inside_one (bit_or n.need n.keys) (stream_bits n.left) g.shown
        (λ i v. lone_bit ns i n.left (subst (λ ss. T (every (declared_stream ns) ss)) e b) l (asked_cols q ++ equal_cols q) (subst (λ ss. T (every (own ns ss) (asked_cols q ++ equal_cols q))) e (own_named ns q w)) (rw (sym named_bits) at v)))))
      where
        left_low : T (single (sources q)) → n.left < 4
        left_low u = first_low n.left [] (subst (λ ss. T (every (declared_stream ns) ss)) ((streams_are ns (hs ns) q w b).lone u).0 b)

    -- both streams
    pub pair_test : single (sources q) ≡ false → pair_opened n g ws
        ≡ (reads Mg.right && (same_list Mg.of (sources q) && (has_equality q Mg && (every (shown_by (schema_of ns) (Mg ∷ [])) (asked_cols q) && not (some? timed (side_picks q))))))
    unfolding pair_opened
    pair_test u =
        let h = (streams_are ns (hs ns) q w b).both u in
        ap (λ x. not x && (eqb g.right 0 && (same_list (streams_of g) (n.left ∷ (n.right ∷ [])) && (equality_held n g ws && (not n.timed && inside n.need g.shown))))) (ne_eqb n.right no_stream (λ e. omega (arith, h.1)))
        ∙ ap₂ ◌&&◌ right_same
        (ap₂ ◌&&◌ (streams_same (n.left ∷ (n.right ∷ [])) ∙ ap (same_list Mg.of) (sym h.0))
        (ap₂ ◌&&◌ (equality_is u) (and_swap (not n.timed) (inside n.need g.shown) ∙ ap₂ ◌&&◌ (sym (asked_bits (Mg ∷ []) g.shown one_bit)) (ap not (times_are ns q w b u)))))

    -- the aggregate
    module _ (f : Fn) (c : Col) (q' : Query ℕ) (k : Below ns q f c q') where
      linked_test : (eqb n.right no_stream || equality_held n g ws) ≡ has_equality q Mg
      linked_test = go (single (sources q)) refl
        where
          go : (x : Bool) → single (sources q) ≡ x → (eqb n.right no_stream || equality_held n g ws) ≡ has_equality q Mg
          go true e = let h = (streams_are ns (hs ns) q w b).lone (rw e tt) in ap (λ x. x || equality_held n g ws) (eq-eqb n.right no_stream h.1) ∙ sym (lone_equality e)
            where
              lone_equality : single (sources q) ≡ true → has_equality q Mg ≡ true
              lone_equality e = unfold has_equality in ap (λ x. x || some? (λ c. joins_by c q) Mg.when) e
          go false e = let h = (streams_are ns (hs ns) q w b).both e in ap (λ x. x || equality_held n g ws) (ne_eqb n.right no_stream (λ i. omega (arith, h.1))) ∙ equality_is e

      column_shown : bit? g.shown n.column ≡ has (shown_of (schema_of ns) Mg) c
      unfolding col_code
      column_shown = ap (bit? g.shown) k.code ∙ go c (has_within c (gather (hs ns) (sources q')) (header (hs ns) q') (header_in (schema_of ns) q' k.over.0 k.over.2) k.over.1)
        where
          go : (c : Col) → T (has (gather (hs ns) (sources q')) c) → bit? g.shown (col_code c) ≡ has (shown_of (schema_of ns) Mg) c
          go (col s i) u =
              let o = own_code ns (sources q') (subst (λ ss. T (every (declared_stream ns) ss)) k.streams b) s i (or_r (same_col (col s i) figure) _ u) in
              sym (shows_bit ns g ws t s i o.0 o.1)
          go figure u = absurd (rw (figure_none ns (sources q') (subst (λ ss. T (every (declared_stream ns) ss)) k.streams b)) at u)

      right_gives : eqb g.right n.aggregate ≡ gives f Mg.right
      unfolding grant_of
      right_gives = ap (eqb g.right) k.number ∙ sym (gives_code f g.right most)
        where
          most : g.right ≤ 5
          most = leb→le g.right 5 (unfold grant_sound window_sound in search parts depth 9)

      pub figures_test : figures_opened n g ws
          ≡ (gives f Mg.right && (same_list Mg.of (sources q') && (has_equality q' Mg && (empty? (picks q') && (has (shown_of (schema_of ns) Mg) c && (leb Mg.size n.size && leb Mg.offset n.offset))))))
      unfolding figures_opened
      figures_test =
          ap (λ x. not x && (eqb g.right n.aggregate && (same_list (streams_of g) (streams_asked n) && ((eqb n.right no_stream || equality_held n g ws) && (not n.picked && (bit? g.shown n.column && (leb g.size n.size && leb g.offset n.offset)))))))
          (ne_eqb n.aggregate 0 (λ e. fn_some ns f (sym k.number ∙ e)))
          ∙ ap₂ ◌&&◌ right_gives
          (ap₂ ◌&&◌ (streams_same (streams_asked n) ∙ ap (same_list Mg.of) (asked_streams ∙ k.streams))
          (ap₂ ◌&&◌ (linked_test ∙ k.equal Mg)
          (ap₂ ◌&&◌ (ap not k.picked ∙ not_not (empty? (picks q')))
          (ap₂ ◌&&◌ column_shown windows))))
        where
          not_not : (x : Bool) → not (not x) ≡ x
          not_not true = refl
          not_not false = refl

          windows : (leb g.size n.size && leb g.offset n.offset) ≡ (leb Mg.size n.size && leb Mg.offset n.offset)
          windows = unfold grant_of in refl

  -- ---- two grants

  module _ (g h : Grant) (vs ws : List ℕ) (t : T (grant_sound ns g vs)) (u : T (grant_sound ns h ws)) where
    abbrev both : List M.Grant
    both = grant_of ns g vs ∷ (grant_of ns h ws ∷ [])

    two_bit : (s k : ℕ) → s < 4 → k < 6 → shown_by (schema_of ns) both (col s k) ≡ bit? (bit_or g.shown h.shown) (s * 6 + k)
    unfolding shown_by same_col some?
    two_bit s k l m =
        ap₂ ◌||◌ (shows_bit ns g vs t s k l m) (or-false (has (shown_of (schema_of ns) (grant_of ns h ws)) (col s k)) ∙ shows_bit ns h ws u s k l m)
        ∙ sym (bit_or_lem g.shown h.shown (s * 6 + k))

    pub two_left : not (empty? (left (schema_of ns) both q)) ≡ (not (eqb n.aggregate 0) || not (eqb (bit_and (bit_or g.shown h.shown) n.header) 0))
    two_left = left_bits both (bit_or g.shown h.shown) two_bit

    and_parts : (a b c d e f x : Bool) → (T b → T e → (c && f) ≡ x) → ((a && (b && c)) && (d && (e && f))) ≡ ((a && (b && true)) && ((d && (e && true)) && x))
    and_parts true true true true true f x y = y tt tt
    and_parts true true false true true f x y = y tt tt
    and_parts true true true true false f x y = refl
    and_parts true true false true false f x y = refl
    and_parts true true true false e f x y = refl
    and_parts true true false false e f x y = refl
    and_parts true false c d e f x y = refl
    and_parts false b c d e f x y = refl

    -- a side each
    pub two_sides : single (sources q) ≡ false → (T (distinct eqb (sources q))) → (side_opened n g n.left && right_opened n h)
        ≡ ((reads (grant_of ns g vs).right && (same_list (grant_of ns g vs).of (n.left ∷ []) && true))
        && ((reads (grant_of ns h ws).right && (same_list (grant_of ns h ws).of (n.right ∷ []) && true)) && every (shown_by (schema_of ns) both) (asked_cols q ++ equal_cols q)))
    unfolding side_opened right_opened
    two_sides v z =
        let s = (streams_are ns (hs ns) q w b).both v in
        ap (λ x. (eqb g.right 0 && (same_list (streams_of g) (n.left ∷ []) && inside (bit_and (bit_or n.need n.keys) (stream_bits n.left)) g.shown))
        && (not x && (eqb h.right 0 && (same_list (streams_of h) (n.right ∷ []) && inside (bit_and (bit_or n.need n.keys) (stream_bits n.right)) h.shown)))) (ne_eqb n.right no_stream (λ e. omega (arith, s.1)))
        ∙ and_parts (eqb g.right 0) (same_list (streams_of g) (n.left ∷ [])) (inside (bit_and (bit_or n.need n.keys) (stream_bits n.left)) g.shown)
        (eqb h.right 0) (same_list (streams_of h) (n.right ∷ [])) (inside (bit_and (bit_or n.need n.keys) (stream_bits n.right)) h.shown) (every (shown_by (schema_of ns) both) (asked_cols q ++ equal_cols q))
        (λ y x. sym (all_bits both (bit_or g.shown h.shown) two_bit
        ∙ inside_two (bit_or n.need n.keys) (stream_bits n.left) (stream_bits n.right) g.shown h.shown
        (λ i r. pair_bit ns i n.left n.right (declared v) (left_low v) s.1 (asked_cols q ++ equal_cols q) (subst (λ ss. T (every (own ns ss) (asked_cols q ++ equal_cols q))) s.0 (own_named ns q w)) (rw (sym named_bits) at r))
        (λ i r. bit_lone ns g vs t n.left (same_list→eq (streams_of g) (n.left ∷ []) y) (left_low v) i r)
        (λ i r. bit_lone ns h ws u n.right (same_list→eq (streams_of h) (n.right ∷ []) x) s.1 i r)
        (λ i x y. apart v z (eqb→eq (i / 6) n.left (rw (bit_stream n.left i (left_low v)) at x)) (eqb→eq (i / 6) n.right (rw (bit_stream n.right i s.1) at y)))))
        ∙ ap₂ (λ x y. (x && (same_list (streams_of g) (n.left ∷ []) && true)) && ((y && (same_list (streams_of h) (n.right ∷ []) && true)) && every (shown_by (schema_of ns) both) (asked_cols q ++ equal_cols q)))
        (right_same g vs t) (right_same h ws u)
        ∙ ap₂ (λ x y. (reads (grant_of ns g vs).right && (x && true)) && ((reads (grant_of ns h ws).right && (y && true)) && every (shown_by (schema_of ns) both) (asked_cols q ++ equal_cols q)))
        (streams_same g vs t (n.left ∷ [])) (streams_same h ws u (n.right ∷ []))
      where
        declared : single (sources q) ≡ false → T (every (declared_stream ns) (n.left ∷ (n.right ∷ [])))
        declared v = subst (λ ss. T (every (declared_stream ns) ss)) ((streams_are ns (hs ns) q w b).both v).0 b

        left_low : single (sources q) ≡ false → n.left < 4
        left_low v = first_low n.left (n.right ∷ []) (declared v)

        apart : single (sources q) ≡ false → T (distinct eqb (sources q)) → {x : ℕ} → x ≡ n.left → x ≡ n.right → ⊥
        apart v z e f = two_apart n.left n.right (subst (λ ss. T (distinct eqb ss)) ((streams_are ns (hs ns) q w b).both v).0 z) (sym e ∙ f)
