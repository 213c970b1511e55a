-- The schema that lent names stand for: how many streams and columns it has, and which stream has a name.
use mathlib.Core.Path.{◌≡◌, refl, sym, ap, ◌∙◌}
use mathlib.Core.List.{List, [], ◌∷◌, map, map-map}
use mathlib.Core.Bool.{Bool, true, false, ◌||◌, cond}
use Prim.Native.Nat.{ℕ, zero, suc, ◌+◌, ◌-◌, ◌<◌, ◌≤◌}
use native.Mathlib.Omega.{arith}
use lib.Dec.{ltb}
use lib.ListN.{length, get_or, length-map}
use borrow.Author.Tests.{ne_eqb, lt-ltb, le-ltb, ltb-true, ltb-false}
use Rattle.lists.specs.Lists.{some?, count_from, nth, same_list, position}
use Rattle.lists.proofs.Laws.{same_list_refl, T_true}
use Rattle.lists.proofs.Counting.{count_left, count_done, map_length, nth_map}
use Rattle.syntax.specs.Grammar.{Bytes, Stream}
use Rattle.model.specs.Queries.{no_stream, col, columns_of}
use Rattle.calls.specs.Names.{stream_names, columns_named, stream_number}
use Rattle.calls.specs.Tables.{declared}
use Rattle.text.specs.Words.{name_of}
use Rattle.schema.specs.Schemas.{code_end, streams_in, width_in, column_in, stream_in, schema_of}
use Rattle.schema.proofs.FreeNames.{name_one}

-- ---- the first of a name

-- the names that stand from place i on, up to n
abbrev pub names : List ℕ → ℕ → ℕ → List Bytes
names ns i n = map (λ j. name_of (get_or ns j 0)) (count_from i (n - i))

pub stream_names_are : (ns : List ℕ) → stream_names (schema_of ns) ≡ map (λ s. name_of (get_or ns s 0)) (count_from 0 (streams_in ns))
unfolding stream_names schema_of stream_in
stream_names_are ns = map-map (λ s. s.name) (stream_in ns) (count_from 0 (streams_in ns))

pub seek_start : (ns : List ℕ) (code : ℕ) {n : ℕ} → n ≡ streams_in ns → stream_number (schema_of ns) (name_of code) ≡ 0 + position (name_of code) (names ns 0 n)
unfolding stream_number
seek_start ns code {n} e =
    let z : streams_in ns ≡ n - 0 = omega arith in
    let p = ap (position (name_of code)) (stream_names_are ns ∙ ap (λ m. map (λ s. name_of (get_or ns s 0)) (count_from 0 m)) z) in
    omega arith

module _ (ns : List ℕ) (code i n p : ℕ) (inv : p ≡ i + position (name_of code) (names ns i n)) where
  pub seek_found : {x : ℕ} → i < n → x ≡ get_or ns i 0 → x ≡ code → i ≡ p
  unfolding position
  seek_found h e f =
      let s : same_list (name_of code) (name_of (get_or ns i 0)) ≡ true = rw (sym e ∙ f) (T_true (same_list (name_of code) (name_of code)) (same_list_refl (name_of code))) in
      let z : position (name_of code) (names ns i n) ≡ 0 = rw (count_left i n h, s) in
      omega arith

  pub seek_on : {x : ℕ} → i < n → x ≡ get_or ns i 0 → code < code_end → x < code_end → (x ≡ code → ⊥) → p ≡ i + 1 + position (name_of code) (names ns (i + 1) n)
  unfolding position
  seek_on {x} h e l m d =
      let k : get_or ns i 0 < code_end = omega arith in
      let s : same_list (name_of code) (name_of (get_or ns i 0)) ≡ false = name_one code (get_or ns i 0) l k ∙ ne_eqb code (get_or ns i 0) (λ q. d (e ∙ sym q)) in
      let z : position (name_of code) (names ns i n) ≡ suc (position (name_of code) (names ns (i + 1) n)) = rw (count_left i n h, s) in
      omega arith

  pub seek_end : i ≤ n → n ≤ i → n ≡ p
  unfolding position
  seek_end h k =
      let z : position (name_of code) (names ns i n) ≡ 0 = rw (count_done i n k) in
      omega arith

pub ruleset seek_ends = (seek_start, seek_found, seek_on, seek_end)

-- ---- how many there are, and what they are called

pub length_schema : (ns : List ℕ) → length (schema_of ns) ≡ streams_in ns
unfolding schema_of
length_schema ns = map_length (stream_in ns) 0 (streams_in ns)

pub nth_past : {A : Type 0} (d : A) (xs : List A) (n : ℕ) → length xs ≤ n → nth d xs n ≡ d
unfolding nth
nth_past d [] n h = refl
nth_past d (x ∷ xs) zero h = absurd (omega arith)
nth_past d (x ∷ xs) (suc n) h = nth_past d xs n (omega arith)

zero_add : (n : ℕ) → 0 + n ≡ n
zero_add n = omega arith

module _ (ns : List ℕ) where
  pub stream_word : (s : ℕ) → s < streams_in ns → nth [] (stream_names (schema_of ns)) s ≡ name_of (get_or ns s 0)
  stream_word s h = rw (stream_names_are ns) (nth_map [] (λ i. name_of (get_or ns i 0)) 0 (streams_in ns) s h ∙ ap (λ i. name_of (get_or ns i 0)) (zero_add s))

  module _ (s : ℕ) (h : s < streams_in ns) where
    pub stream_is : nth no_stream (schema_of ns) s ≡ stream_in ns s
    unfolding schema_of
    stream_is = nth_map no_stream (stream_in ns) 0 (streams_in ns) s h ∙ ap (stream_in ns) (zero_add s)

    pub columns_are : columns_named (schema_of ns) s ≡ map (column_in ns s) (count_from 0 (width_in ns s))
    unfolding columns_named stream_in
    columns_are = ap (λ t. t.columns) stream_is

    pub length_columns : length (columns_named (schema_of ns) s) ≡ width_in ns s
    length_columns = ap length columns_are ∙ map_length (column_in ns s) 0 (width_in ns s)

    pub stream_columns : columns_of (schema_of ns) s ≡ map (col s) (count_from 0 (width_in ns s))
    unfolding columns_of columns_named
    stream_columns = ap (λ n. map (col s) (count_from 0 n)) length_columns

    pub column_word : (c : ℕ) → c < width_in ns s → nth [] (columns_named (schema_of ns) s) c ≡ column_in ns s c
    column_word c k = rw columns_are (nth_map [] (column_in ns s) 0 (width_in ns s) c k ∙ ap (column_in ns s) (zero_add c))

  pub columns_past : (s : ℕ) → streams_in ns ≤ s → columns_named (schema_of ns) s ≡ []
  unfolding columns_named no_stream
  columns_past s h = ap (λ t. t.columns) (nth_past no_stream (schema_of ns) s (let e = length_schema ns in omega arith))

-- ---- a name is declared where it is found among the streams

suc_ltb : (a b : ℕ) → ltb (suc a) (suc b) ≡ ltb a b
suc_ltb a b = go (ltb a b) refl
  where
    go : (t : Bool) → ltb a b ≡ t → ltb (suc a) (suc b) ≡ t
    go true e = let h = ltb-true a b e in lt-ltb (suc a) (suc b) (omega arith)
    go false e = let h = ltb-false a b e in le-ltb (suc a) (suc b) (omega arith)

pub found_below : (n : Bytes) (ns : List Bytes) → some? (same_list n) ns ≡ ltb (position n ns) (length ns)
unfolding position some?
found_below n [] = sym (le-ltb 0 0 (omega arith))
found_below n (m ∷ ms) = go (same_list n m) (found_below n ms)
  where
    go : (t : Bool) → some? (same_list n) ms ≡ ltb (position n ms) (length ms) → (t || some? (same_list n) ms) ≡ ltb (cond t 0 (suc (position n ms))) (suc (length ms))
    go true e = sym (lt-ltb 0 (suc (length ms)) (omega arith))
    go false e = e ∙ sym (suc_ltb (position n ms) (length ms))

pub declared_below : (ns : List ℕ) (w : Bytes) → declared (schema_of ns) w ≡ ltb (stream_number (schema_of ns) w) (streams_in ns)
unfolding declared stream_number stream_names
declared_below ns w =
    found_below w (stream_names (schema_of ns))
    ∙ ap (ltb (position w (stream_names (schema_of ns)))) (length-map (schema_of ns) (λ (s : Stream). s.name) ∙ length_schema ns)

pub column_below : (ns : List ℕ) (s : ℕ) (w : Bytes) → s < streams_in ns → some? (same_list w) (columns_named (schema_of ns) s) ≡ ltb (position w (columns_named (schema_of ns) s)) (width_in ns s)
column_below ns s w h = found_below w (columns_named (schema_of ns) s) ∙ ap (ltb (position w (columns_named (schema_of ns) s))) (length_columns ns s h)
