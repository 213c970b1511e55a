-- The names of streams and columns, as the schema has them that the lent numbers stand for.
use mathlib.Core.Path.{◌≡◌, refl, sym, ap, ap₂, ◌∙◌}
use mathlib.Core.List.{List, [], ◌∷◌, ◌++◌, map, map-map}
use mathlib.Core.Bool.{cond}
use Prim.Native.Nat.{ℕ, zero, suc, ◌+◌, ◌*◌, ◌-◌, ◌/◌, ◌%◌, ◌<◌, ◌≤◌, min}
use native.Mathlib.Decide.{dec_lt, ℕ_discrete}
use native.Mathlib.Omega.{arith}
use lib.Dec.{eqb}
use lib.ListN.{length, get_or, drop, drop_of_length-le}
use lib.Seq.{drop-cons}
use borrow.Author.Tests.{eq-eqb, ne_eqb, lt-ltb, le-ltb}
use Rattle.lists.specs.Lists.{nth}
use Rattle.lists.proofs.Counting.{map_length}
use Rattle.syntax.specs.Grammar as G
use Rattle.syntax.specs.Grammar.{Bytes, bytes, put_name, put_ref, put_open, put_form, put_items}
use Rattle.model.specs.Queries.{Schema, no_stream, col}
use Rattle.calls.specs.Names.{columns_named, ref_of, form_of}
use Rattle.text.specs.Words.{bytes_from, name_of}
use Rattle.schema.specs.Schemas.{filled, streams_in, width_in, column_in, stream_in, schema_of}
use Rattle.schema.proofs.Places.{filled_most}
use Rattle.schema.proofs.Lookups.{nth_past, stream_is, columns_are, column_word, columns_past, length_schema}
use Rattle.orders.specs.Orders.{codes_in}
use Rattle.print.specs.Writing.{furthest, over, after, Put, byte_text, Long}
use Rattle.print.specs.Texts.{group_name, stream_text, source_text, coded_ref, coded_col, ref_text, col_text, item_text, codes_text, columns_text}
use Rattle.print.proofs.Putting.{put_none, put_as, put_then, byte_out}
use Rattle.print.proofs.Words.{word_past}

-- ---- a name of a group

module _ (ns : List ℕ) (at i : ℕ) where
  group_left : (k : ℕ) → k < i → group_name ns (at + k) (i - k) ≡ cond (eqb (get_or ns (at + k) 0) 0) 0 (group_name ns (at + (k + 1)) (i - (k + 1)))
  unfolding group_name
  group_left k h =
      let e : i - k ≡ suc (i - (k + 1)) = omega arith in
      let f : suc (at + k) ≡ at + (k + 1) = omega arith in
      ap (group_name ns (at + k)) e ∙ ap (λ (a : ℕ). cond (eqb (get_or ns (at + k) 0) 0) 0 (group_name ns a (i - (k + 1)))) f

  pub group_start : group_name ns at i ≡ group_name ns (at + 0) (i - 0)
  group_start = let e : at ≡ at + 0 = omega arith in let f : i ≡ i - 0 = omega arith in ap₂ (group_name ns) e f

  module _ (k : ℕ) (inv : group_name ns at i ≡ group_name ns (at + k) (i - k)) {x : ℕ} (is : x ≡ get_or ns (at + k) 0) where
    pub group_stop : k < i → x ≡ 0 → 0 ≡ group_name ns at i
    group_stop h e = sym (inv ∙ group_left k h ∙ ap (λ t. cond t 0 (group_name ns (at + (k + 1)) (i - (k + 1)))) (eq-eqb (get_or ns (at + k) 0) 0 (sym is ∙ e)))

    pub group_on : k < i → (x ≡ 0 → ⊥) → group_name ns at i ≡ group_name ns (at + (k + 1)) (i - (k + 1))
    group_on h e = inv ∙ group_left k h ∙ ap (λ t. cond t 0 (group_name ns (at + (k + 1)) (i - (k + 1)))) (ne_eqb (get_or ns (at + k) 0) 0 (λ f. e (is ∙ f)))

  pub group_end : (k : ℕ) {x : ℕ} → group_name ns at i ≡ group_name ns (at + k) (i - k) → k ≤ i → i ≤ k → x ≡ get_or ns (at + i) 0 → x ≡ group_name ns at i
  unfolding group_name
  group_end k inv h l e =
      let f : k ≡ i = omega arith in
      let g : i - k ≡ 0 = omega arith in
      e ∙ sym (inv ∙ ap (group_name ns (at + k)) g ∙ ap (λ (j : ℕ). get_or ns (at + j) 0) f)

pub ruleset group_ends = (group_start, group_stop, group_on, group_end)

-- it is the one of the schema

filled_some : (ns : List ℕ) (at n : ℕ) → (get_or ns at 0 ≡ 0 → ⊥) → filled ns at (suc n) ≡ suc (filled ns (suc at) n)
unfolding filled
filled_some ns at n h = rw (ne_eqb (get_or ns at 0) 0 h)

filled_none : (ns : List ℕ) (at n : ℕ) → get_or ns at 0 ≡ 0 → filled ns at (suc n) ≡ 0
unfolding filled
filled_none ns at n h = rw (eq-eqb (get_or ns at 0) 0 h)

group_some : (ns : List ℕ) (at i n : ℕ) → i < filled ns at n → (group_name ns at i ≡ get_or ns (at + i) 0) × (get_or ns (at + i) 0 ≡ 0 → ⊥)
unfolding group_name filled
group_some ns at i zero h = absurd (omega arith)
group_some ns at zero (suc n) h = go (ℕ_discrete (get_or ns at 0) 0)
  where
    at_is : at + 0 ≡ at
    at_is = omega arith

    go : Dec (get_or ns at 0 ≡ 0) → (get_or ns at 0 ≡ get_or ns (at + 0) 0) × (get_or ns (at + 0) 0 ≡ 0 → ⊥)
    go (yes e) = let f = filled_none ns at n e in absurd (omega arith)
    go (no e) = (ap (λ (j : ℕ). get_or ns j 0) (sym at_is), λ f. e (ap (λ (j : ℕ). get_or ns j 0) (sym at_is) ∙ f))
group_some ns at (suc i) (suc n) h = go (ℕ_discrete (get_or ns at 0) 0) (group_some ns (suc at) i n)
  where
    at_is : suc at + i ≡ at + suc i
    at_is = omega arith

    go : Dec (get_or ns at 0 ≡ 0) → (i < filled ns (suc at) n → (group_name ns (suc at) i ≡ get_or ns (suc at + i) 0) × (get_or ns (suc at + i) 0 ≡ 0 → ⊥))
        → (cond (eqb (get_or ns at 0) 0) 0 (group_name ns (suc at) i) ≡ get_or ns (at + suc i) 0) × (get_or ns (at + suc i) 0 ≡ 0 → ⊥)
    go (yes e) f = let g = filled_none ns at n e in absurd (omega arith)
    go (no e) f =
        let g = filled_some ns at n e in
        let x = f (omega arith) in
        (ap (λ t. cond t 0 (group_name ns (suc at) i)) (ne_eqb (get_or ns at 0) 0 e) ∙ x.0 ∙ ap (λ (j : ℕ). get_or ns j 0) at_is, λ y. x.1 (ap (λ (j : ℕ). get_or ns j 0) at_is ∙ y))

group_none : (ns : List ℕ) (at i n : ℕ) → i < n → filled ns at n ≤ i → group_name ns at i ≡ 0
unfolding group_name filled
group_none ns at i zero l h = absurd (omega arith)
group_none ns at zero (suc n) l h = go (ℕ_discrete (get_or ns at 0) 0)
  where
    go : Dec (get_or ns at 0 ≡ 0) → get_or ns at 0 ≡ 0
    go (yes e) = e
    go (no e) = let f = filled_some ns at n e in absurd (omega arith)
group_none ns at (suc i) (suc n) l h = go (ℕ_discrete (get_or ns at 0) 0) (group_none ns (suc at) i n)
  where
    go : Dec (get_or ns at 0 ≡ 0) → (i < n → filled ns (suc at) n ≤ i → group_name ns (suc at) i ≡ 0) → cond (eqb (get_or ns at 0) 0) 0 (group_name ns (suc at) i) ≡ 0
    go (yes e) f = ap (λ t. cond t 0 (group_name ns (suc at) i)) (eq-eqb (get_or ns at 0) 0 e)
    go (no e) f = let g = filled_some ns at n e in ap (λ t. cond t 0 (group_name ns (suc at) i)) (ne_eqb (get_or ns at 0) 0 e) ∙ f (omega arith) (omega arith)

no_name : name_of 0 ≡ []
unfolding name_of bytes_from
no_name = refl

module _ (ns : List ℕ) where
  stream_past : (s : ℕ) → streams_in ns ≤ s → (nth no_stream (schema_of ns) s).name ≡ []
  unfolding no_stream
  stream_past s h = ap (λ t. t.name) (nth_past no_stream (schema_of ns) s (omega (arith, length_schema ns)))

  few_streams : streams_in ns ≤ 4
  unfolding streams_in
  few_streams = filled_most ns 0 4

  pub stream_name : (s : ℕ) → s < 4 → (nth no_stream (schema_of ns) s).name ≡ name_of (group_name ns 0 s)
  unfolding streams_in stream_in
  stream_name s h = go (dec_lt s (streams_in ns))
    where
      go : Dec (s < streams_in ns) → (nth no_stream (schema_of ns) s).name ≡ name_of (group_name ns 0 s)
      go (yes k) = let e : 0 + s ≡ s = omega arith in ap (λ t. t.name) (stream_is ns s k) ∙ ap name_of (sym ((group_some ns 0 s 4 k).0 ∙ ap (λ (j : ℕ). get_or ns j 0) e))
      go (no k) = stream_past s (omega arith) ∙ sym no_name ∙ ap name_of (sym (group_none ns 0 s 4 h (omega arith)))

  -- a stream with no name has no columns
  undeclared : (s : ℕ) → s < 4 → group_name ns 0 s ≡ 0 → streams_in ns ≤ s
  unfolding streams_in
  undeclared s h e = go (dec_lt s (filled ns 0 4))
    where
      go : Dec (s < filled ns 0 4) → filled ns 0 4 ≤ s
      go (yes k) = let x = group_some ns 0 s 4 k in absurd (x.1 (sym x.0 ∙ e))
      go (no k) = omega arith

  declared : (s : ℕ) → s < 4 → (group_name ns 0 s ≡ 0 → ⊥) → s < streams_in ns
  unfolding streams_in
  declared s h e = go (dec_lt s (filled ns 0 4))
    where
      go : Dec (s < filled ns 0 4) → s < filled ns 0 4
      go (yes k) = k
      go (no k) = absurd (e (group_none ns 0 s 4 h (omega arith)))

  pub column_blank : (s c : ℕ) → s < 4 → group_name ns 0 s ≡ 0 → nth [] (columns_named (schema_of ns) s) c ≡ []
  unfolding nth
  column_blank s c h e = ap (λ cs. nth [] cs c) (columns_past ns s (undeclared s h e))

  pub column_name : (s c : ℕ) → s < 4 → c < 6 → (group_name ns 0 s ≡ 0 → ⊥) → nth [] (columns_named (schema_of ns) s) c ≡ name_of (group_name ns (4 + s * 6) c)
  unfolding width_in column_in
  column_name s c h l e = go (dec_lt c (width_in ns s))
    where
      k : s < streams_in ns
      k = declared s h e

      width_is : width_in ns s ≡ filled ns (4 + s * 6) 6
      width_is = rw (lt-ltb s 4 h)

      go : Dec (c < width_in ns s) → nth [] (columns_named (schema_of ns) s) c ≡ name_of (group_name ns (4 + s * 6) c)
      go (yes i) = column_word ns s k c i ∙ ap name_of (sym (group_some ns (4 + s * 6) c 6 (omega (arith, width_is))).0)
      go (no i) =
          let w : width_in ns s ≤ c = omega arith in
          nth_past [] (columns_named (schema_of ns) s) c (omega (arith, ap length (columns_are ns s k), map_length (column_in ns s) 0 (width_in ns s)))
          ∙ sym no_name ∙ ap name_of (sym (group_none ns (4 + s * 6) c 6 l (omega (arith, width_is))))

-- ---- a stream's name

module _ (ns : List ℕ) (s : ℕ) {m : Bytes} {p : ℕ} where
  pub stream_none : 4 ≤ s → Put (stream_text (schema_of ns) s) m p m p
  unfolding stream_text put_name
  stream_none h = put_none (λ r. ap (λ w. w ++ r) (stream_past ns s (omega (arith, few_streams ns))))

  pub stream_some : (x : ℕ) {m₁ : Bytes} {p₁ : ℕ} → s < 4 → x ≡ group_name ns 0 s → Put (put_name (name_of x)) m p m₁ p₁ → Put (stream_text (schema_of ns) s) m p m₁ p₁
  unfolding stream_text
  stream_some x h e y = put_as (λ r. ap (λ w. put_name w r) (stream_name ns s h ∙ ap name_of (sym e))) y

pub ruleset stream_ends = (stream_none, stream_some)

pub source_end : (d : Schema) (s : ℕ) {m m₁ m₂ m₃ : Bytes} {p p₁ p₂ p₃ : ℕ}
    → Put (put_name (name_of 677998112)) m p m₁ p₁ → Put (stream_text d s) m₁ p₁ m₂ p₂ → Put (byte_text 41) m₂ p₂ m₃ p₃ → Put (source_text d s) m p m₃ p₃
unfolding source_text stream_text form_of put_form put_open put_name byte_text name_of bytes_from
source_end d s a b c = put_as (λ r. refl) (put_then a (put_then b c))

-- ---- a column

module _ (ns : List ℕ) (code : ℕ) where
  place_is : code < 24 → coded_ref (schema_of ns) code ≡ ref_of (schema_of ns) (col (code / 6) (code % 6))
  unfolding coded_ref
  place_is h = rw (lt-ltb code 24 h)

  dotted_is : (n c r : Bytes) → code < 24 → (nth no_stream (schema_of ns) (code / 6)).name ≡ n → nth [] (columns_named (schema_of ns) (code / 6)) (code % 6) ≡ c → ref_text (schema_of ns) code r ≡ n ++ (46 ∷ (c ++ r))
  unfolding ref_text ref_of put_ref
  dotted_is n c r h e f = ap (λ t. put_ref t r) (place_is h) ∙ ap₂ (λ i j. i ++ (46 ∷ (j ++ r))) e f

  pub column_none : {x : ℕ} {m m₁ : Bytes} {p p₁ : ℕ} → code < 24 → x ≡ group_name ns 0 (code / 6) → x ≡ 0 → Put (byte_text 46) m p m₁ p₁ → Put (ref_text (schema_of ns) code) m p m₁ p₁
  unfolding byte_text
  column_none h e f y =
      let z : group_name ns 0 (code / 6) ≡ 0 = sym e ∙ f in
      put_as (λ r. dotted_is [] [] r h (stream_name ns (code / 6) (omega arith) ∙ ap name_of z ∙ no_name) (column_blank ns (code / 6) (code % 6) (omega arith) z)) y

  pub column_some : (x y : ℕ) {m m₁ m₂ m₃ : Bytes} {p p₁ p₂ p₃ : ℕ} → code < 24 → x ≡ group_name ns 0 (code / 6) → (x ≡ 0 → ⊥) → y ≡ group_name ns (4 + code / 6 * 6) (code - code / 6 * 6)
      → Put (put_name (name_of x)) m p m₁ p₁ → Put (byte_text 46) m₁ p₁ m₂ p₂ → Put (put_name (name_of y)) m₂ p₂ m₃ p₃ → Put (ref_text (schema_of ns) code) m p m₃ p₃
  unfolding byte_text put_name
  column_some x y h e f g a b c =
      let o : code - code / 6 * 6 ≡ code % 6 = omega arith in
      put_as (λ r. dotted_is (name_of x) (name_of y) r h (stream_name ns (code / 6) (omega arith) ∙ ap name_of (sym e)) (column_name ns (code / 6) (code % 6) (omega arith) (omega arith) (λ z. f (e ∙ z)) ∙ ap name_of (sym (g ∙ ap (group_name ns (4 + code / 6 * 6)) o))))
      (put_then a (put_then b c))

  -- past the last place it is counted at once
  pub column_past : (x y : ℕ) {a b q : ℕ} {m : Bytes} {p : ℕ} → code < 24 → x ≡ group_name ns 0 (code / 6) → (x ≡ 0 → ⊥) → y ≡ group_name ns (4 + code / 6 * 6) (code - code / 6 * 6)
      → length m ≤ p → p < 4294967296 → Long x a → Long y b → q ≡ min (p + (a + 1 + b)) furthest → Put (ref_text (schema_of ns) code) m p m q
  unfolding put_name byte_text
  column_past x y {a} {b} {q} {m} {p} h e f g l k i j o =
      column_some x y h e f g (word_past x l k i refl) (byte_out m (min (p + a) furthest) 46 (omega arith) refl)
      (word_past y (omega arith) (omega arith) j (o ∙ count))
    where
      count : min (p + (a + 1 + b)) furthest ≡ min (min (min (p + a) furthest + 1) furthest + b) furthest
      count = omega arith

pub ruleset column_ends = (column_none, column_some, column_past)

pub time_word : (r : Bytes) → put_ref G.time r ≡ put_name (name_of 1953066341) r
unfolding put_ref put_name name_of bytes_from
time_word r = refl

pub figure_word : (r : Bytes) → put_ref G.figure r ≡ put_name (name_of 112602893349477) r
unfolding put_ref put_name name_of bytes_from
figure_word r = refl

module _ (d : Schema) (code : ℕ) {m n : Bytes} {p q : ℕ} where
  pub ref_figure : code ≡ 25 → Put (put_name (name_of 112602893349477)) m p n q → Put (ref_text d code) m p n q
  unfolding ref_text coded_ref
  ref_figure h x = put_as (λ r. (rw h) ∙ figure_word r) x

  pub ref_time : 24 ≤ code → (code ≡ 25 → ⊥) → Put (put_name (name_of 1953066341)) m p n q → Put (ref_text d code) m p n q
  unfolding ref_text coded_ref
  ref_time h k x = put_as (λ r. ap (λ t. put_ref t r) (rw (le-ltb code 24 h, ne_eqb code 25 k)) ∙ time_word r) x

pub ruleset ref_ends = (ref_figure, ref_time)

module _ (d : Schema) (code : ℕ) {m n : Bytes} {p q : ℕ} where
  pub col_column : code < 24 → Put (ref_text d code) m p n q → Put (col_text d code) m p n q
  unfolding col_text ref_text coded_col coded_ref
  col_column h x = put_as (λ r. ap (λ t. put_ref t r) (rw (lt-ltb code 24 h))) x

  pub col_figure : 24 ≤ code → Put (put_name (name_of 112602893349477)) m p n q → Put (col_text d code) m p n q
  unfolding col_text coded_col ref_of
  col_figure h x = put_as (λ r. ap (λ t. put_ref t r) (rw (le-ltb code 24 h)) ∙ figure_word r) x

pub ruleset col_ends = (col_column, col_figure)

pub item_end : (d : Schema) (code : ℕ) {m m₁ m₂ : Bytes} {p p₁ p₂ : ℕ} → Put (byte_text 32) m p m₁ p₁ → Put (col_text d code) m₁ p₁ m₂ p₂ → Put (item_text d code) m p m₂ p₂
unfolding item_text byte_text
item_end d code x y = put_as (λ r. refl) (put_then x y)

-- ---- the columns of an order

-- what is still to be written of an order after i columns
pub record Rest (d : Schema) (order i : ℕ) (m₀ : Bytes) (p₀ : ℕ) (m : Bytes) (p : ℕ) : Type 0 where
  pub bytes : (r : Bytes) → over m₀ p₀ (columns_text d order r) ≡ over m p (codes_text d (drop i (codes_in order)) r)
  pub place : (r : Bytes) → after p₀ (columns_text d order r) ≡ after p (codes_text d (drop i (codes_in order)) r)

module _ {d : Schema} {order : ℕ} {m₀ : Bytes} {p₀ : ℕ} where
  pub rest_start : Rest d order 0 m₀ p₀ m₀ p₀
  unfolding columns_text
  rest_start = record { bytes = λ r. refl; place = λ r. refl }

  module _ {i : ℕ} {m : Bytes} {p : ℕ} (x : Rest d order i m₀ p₀ m p) {n : ℕ} (many : n ≡ length (codes_in order)) where
    some_left : (c : ℕ) (r : Bytes) → i < n → c ≡ get_or (codes_in order) i 0 → codes_text d (drop i (codes_in order)) r ≡ item_text d c (codes_text d (drop (i + 1) (codes_in order)) r)
    unfolding codes_text put_items item_text col_text
    some_left c r h e =
        let f : i + 1 ≡ suc i = omega arith in
        ap (λ cs. codes_text d cs r) (drop-cons (codes_in order) i 0 (omega arith) ∙ ap₂ (λ (x j : ℕ). x ∷ drop j (codes_in order)) (sym e) (sym f))

    pub rest_more : {c : ℕ} {m₁ : Bytes} {p₁ : ℕ} → i < n → c ≡ get_or (codes_in order) i 0 → Put (item_text d c) m p m₁ p₁ → Rest d order (i + 1) m₀ p₀ m₁ p₁
    rest_more {c} h e y =
        record {
          bytes = λ r. x.bytes r ∙ ap (over m p) (some_left c r h e) ∙ y.bytes (codes_text d (drop (i + 1) (codes_in order)) r);
          place = λ r. x.place r ∙ ap (after p) (some_left c r h e) ∙ y.place (codes_text d (drop (i + 1) (codes_in order)) r);
        }

    none_left : (r : Bytes) → n ≤ i → codes_text d (drop i (codes_in order)) r ≡ r
    unfolding codes_text put_items
    none_left r h = ap (λ cs. codes_text d cs r) (drop_of_length-le (codes_in order) {i = i} (omega arith))

    pub rest_end : n ≤ i → Put (columns_text d order) m₀ p₀ m p
    rest_end h = record { bytes = λ r. x.bytes r ∙ ap (over m p) (none_left r h); place = λ r. x.place r ∙ ap (after p) (none_left r h) }

pub ruleset rest_ends = (rest_start, rest_more, rest_end)

-- the text is that of a list of columns
pub columns_listed : (d : Schema) (order : ℕ) (r : Bytes) → columns_text d order r ≡ put_items put_ref (map (ref_of d) (map coded_col (codes_in order))) r
unfolding columns_text codes_text
columns_listed d order r = ap (λ rs. put_items put_ref rs r) (sym (map-map (ref_of d) coded_col (codes_in order)))
