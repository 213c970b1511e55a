-- What stands for a side of a comparison: a column of either row, the time, a number or a profile entry.
use mathlib.Core.Path.{◌≡◌, refl, sym, ap, ◌∙◌}
use mathlib.Core.List.{List, [], ◌++◌, map}
use mathlib.Core.Bool.{Bool, true, false, ◌&&◌, cond}
use Prim.Native.Nat.{ℕ, zero, suc, ◌+◌, ◌*◌, ◌-◌, ◌/◌, ◌%◌, ◌<◌, ◌≤◌, min, max}
use native.Mathlib.Omega.{arith}
use lib.IntN.{ℤ, pos, negsuc, ◌-ℤ◌}
use lib.Dec.{ltb, eqb, ltb→lt, eqb→eq}
use lib.ListN.{length, get_or, drop, drop_of_length-le}
use lib.Seq.{drop-cons}
use native.Mathlib.Numerals.{add-one}
use Rattle.std.specs.Simd.{first_chunks}
use Rattle.nodes.proofs.Profiles.{entry_of, profile_pairs}
use mir.Syntax.{w32}
use mir.Val.{of_z, to_z, Fits, SFits}
use mir.ValLaws.{to_z-of_z, to_z_pos}
use borrow.Author.Tests.{eq-eqb, ne_eqb, lt-ltb, le-ltb, le-leb, lt-leb}
use Rattle.lists.specs.Lists.{count_from, same_list}
use Rattle.lists.proofs.Laws.{T_true, true_T, same_list_refl, parts}
use Rattle.syntax.specs.Grammar.{Entry}
use Rattle.syntax.specs.Limits.{max_streams, max_columns, max_rows, top}
use Rattle.model.specs.Queries.{Col, col, figure, same_col, Term, column, Row}
use Rattle.model.specs.Meaning.{value, term_value, both}
use Rattle.model.specs.Grants.{entry_value, fill_term}
use Rattle.text.specs.Words.{name_of}
use Rattle.schema.proofs.FreeNames.{name_one}
use Rattle.ledger.specs.Records.{row_in, places_size, values_size}
use Rattle.nodes.specs.Nodes.{unbiased, coded_term}
use Rattle.cells.proofs.Shown.{value_left, value_own}
use Rattle.selection.specs.declared.Origin.{Origin}
use Rattle.selection.specs.declared.Origin.TheVariants.{Value, Column, Time}
use Rattle.selection.specs.declared.Scope.{Scope}
use Rattle.selection.specs.Scopes.{columns_in, row_at, paired, scope_columns, scope_row, profile_in}
use Rattle.selection.specs.Evaluating.{left_time, time_at, side_value, Stands, left_named}

-- ---- the value of what is no column among columns numbered from a on, with others after them

module _ (s : ℕ) (f : ℕ → ℤ) where
  value_none : (x : Col) (w a : ℕ) → ((j : ℕ) → a ≤ j → j < a + w → same_col x (col s j) ≡ false) → value (map (col s) (count_from a w)) (map f (count_from a w)) x ≡ pos 0
  unfolding value count_from
  value_none x zero a h = refl
  value_none x (suc w) a h = rw (h a (omega arith) (omega arith)) (value_none x w (suc a) (λ j k l. h j (omega arith) (omega arith)))

  module _ (ds : List Col) (vs : List ℤ) where
    value_pass : (x : Col) (w a : ℕ) → ((j : ℕ) → a ≤ j → j < a + w → same_col x (col s j) ≡ false) → value (map (col s) (count_from a w) ++ ds) (map f (count_from a w) ++ vs) x ≡ value ds vs x
    unfolding value count_from
    value_pass x zero a h = refl
    value_pass x (suc w) a h = rw (h a (omega arith) (omega arith)) (value_pass x w (suc a) (λ j k l. h j (omega arith) (omega arith)))

-- ---- a column of a scope

module _ (sc : Scope) (s c : ℕ) where
  pub left_late : places_size ≤ sc.fixed → false ≡ left_named sc s c
  unfolding left_named paired
  left_late h = rw (le-ltb sc.fixed places_size h)

  pub left_other : sc.fixed < places_size → (s ≡ sc.other → ⊥) → false ≡ left_named sc s c
  unfolding left_named paired
  left_other h n = rw (lt-ltb sc.fixed places_size h, ne_eqb s sc.other n)

  pub left_one : sc.fixed < places_size → s ≡ sc.other → ltb c sc.breadth ≡ left_named sc s c
  unfolding left_named paired
  left_one h e = rw (lt-ltb sc.fixed places_size h, eq-eqb s sc.other e)

pub ruleset left_ends = (left_late, left_other, left_one)

module _ (sc : Scope) (vs : List ℤ) (s c : ℕ) where
  abbrev place : Term
  place = column (col s c)

  abbrev found : List ℕ → ℕ → ℤ
  found ts i = term_value (scope_columns sc) (scope_row sc ts vs i) place

  -- what a place holds by column
  abbrev cells : ℕ → ℕ → ℤ
  cells at c = get_or vs (at * max_columns + c) (pos 0)

  pub left_place : left_named sc s c ≡ true → sc.fixed < places_size
  unfolding left_named paired
  left_place e = let t = true_T (ltb sc.fixed places_size && eqb s sc.other && ltb c sc.breadth) e in ltb→lt sc.fixed places_size (search parts)

  found_left : left_named sc s c ≡ true → (ts : List ℕ) (i : ℕ) → found ts i ≡ cells sc.fixed c
  unfolding left_named paired scope_columns scope_row columns_in term_value row_at row_in both
  found_left e ts i =
      let t = true_T (ltb sc.fixed places_size && eqb s sc.other && ltb c sc.breadth) e in
      let p = T_true (ltb sc.fixed places_size) (search parts) in
      let q : s ≡ sc.other = eqb→eq s sc.other (search parts) in
      let l : c < sc.breadth = ltb→lt c sc.breadth (search parts) in
      rw (p, q) (value_left sc.other (cells sc.fixed) (map (col sc.stream) (count_from 0 sc.width)) (map (cells (sc.stream * max_rows + i)) (count_from 0 sc.width)) sc.breadth 0 c (omega arith) (omega arith))

  missed : (eqb s sc.other && ltb c sc.breadth) ≡ false → (j : ℕ) → 0 ≤ j → j < 0 + sc.breadth → same_col (col s c) (col sc.other j) ≡ false
  unfolding same_col
  missed f j a b = by (eqb s sc.other) f
    where
      by : (d : Bool) → (d && ltb c sc.breadth) ≡ false → (d && eqb c j) ≡ false
      by true f = ne_eqb c j (λ z. absurd (let y : ◌≡◌ {A = ℕ} 0 1 = cc (lt-ltb c sc.breadth (omega arith)) in omega arith))
      by false f = refl

  -- not one of the left row: it is looked for in the other
  found_right : left_named sc s c ≡ false → (ts : List ℕ) (i : ℕ)
      → found ts i ≡ value (map (col sc.stream) (count_from 0 sc.width)) (map (cells (sc.stream * max_rows + i)) (count_from 0 sc.width)) (col s c)
  unfolding left_named paired scope_columns scope_row columns_in term_value row_at row_in both
  found_right e ts i = go (ltb sc.fixed places_size) e
    where
      go : (b : Bool) → (b && eqb s sc.other && ltb c sc.breadth) ≡ false
          → value (cond b (map (col sc.other) (count_from 0 sc.breadth) ++ map (col sc.stream) (count_from 0 sc.width)) (map (col sc.stream) (count_from 0 sc.width)))
          (cond b (both (row_at ts vs sc.breadth sc.fixed) (row_at ts vs sc.width (sc.stream * max_rows + i))) (row_at ts vs sc.width (sc.stream * max_rows + i))).values (col s c)
          ≡ value (map (col sc.stream) (count_from 0 sc.width)) (map (cells (sc.stream * max_rows + i)) (count_from 0 sc.width)) (col s c)
      go true f = value_pass sc.other (cells sc.fixed) (map (col sc.stream) (count_from 0 sc.width)) (map (cells (sc.stream * max_rows + i)) (count_from 0 sc.width)) (col s c) sc.breadth 0 (missed f)
      go false f = refl

  module _ {b : Bool} (e : b ≡ left_named sc s c) where
    pub left_start : b ≡ true → Fits w32 (sc.fixed * max_columns)
    left_start t = let h = left_place (sym e ∙ t) in record { fits = omega arith }

    pub left_cell : b ≡ true → c < max_columns → Fits w32 (sc.fixed * max_columns + c)
    left_cell t k = let h = left_place (sym e ∙ t) in record { fits = omega arith }

    pub left_inside : b ≡ true → c < max_columns → values_size ≤ length vs → sc.fixed * max_columns + c < length vs
    left_inside t k l = let h = left_place (sym e ∙ t) in omega arith

    pub column_left : b ≡ true → {v : ℤ} → v ≡ get_or vs (sc.fixed * max_columns + c) (pos 0) → Stands sc vs place (Value v)
    unfolding side_value
    column_left t f = record { near = tt; value = λ ts i. f ∙ sym (found_left (sym e ∙ t) ts i) }

    pub column_other : b ≡ false → (s ≡ sc.stream → ⊥) → Stands sc vs place (Value (pos 0))
    unfolding side_value same_col
    column_other t n =
        record { near = tt; value = λ ts i. sym (found_right (sym e ∙ t) ts i ∙ value_none sc.stream (cells (sc.stream * max_rows + i)) (col s c) sc.width 0 (λ j k l. rw (ne_eqb s sc.stream n))) }

    pub column_past : b ≡ false → sc.width ≤ c → Stands sc vs place (Value (pos 0))
    unfolding side_value same_col
    column_past t n =
        record { near = tt; value = λ ts i. sym (found_right (sym e ∙ t) ts i ∙ value_none sc.stream (cells (sc.stream * max_rows + i)) (col s c) sc.width 0 (λ j k l. rw (ne_eqb c j (λ z. omega arith)) (and_none (eqb s sc.stream)))) }
      where
        and_none : (d : Bool) → (d && false) ≡ false
        and_none true = refl
        and_none false = refl

    pub column_here : b ≡ false → s ≡ sc.stream → c < sc.width → c < max_columns → sc.stream < max_streams → Stands sc vs place (Column (sc.stream * max_rows * max_columns + c))
    unfolding side_value
    column_here t f l m n =
        record {
          near = omega arith;
          value = λ ts i.
              let z : sc.stream * max_rows * max_columns + c + i * max_columns ≡ (sc.stream * max_rows + i) * max_columns + c = omega arith in
              ap (λ (k : ℕ). get_or vs k (pos 0)) z ∙ sym (found_right (sym e ∙ t) ts i ∙ ap (λ (x : ℕ). value (map (col sc.stream) (count_from 0 sc.width)) (map (cells (sc.stream * max_rows + i)) (count_from 0 sc.width)) (col x c)) f ∙ value_own sc.stream (cells (sc.stream * max_rows + i)) sc.width 0 c (omega arith) (omega arith));
        }

pub column_low : (code : ℕ) → code % max_columns < max_columns
column_low code = omega arith

pub ruleset column_rooms = (left_start, left_cell, left_inside, column_low)

pub ruleset column_ends = (column_low, column_left, column_other, column_past, column_here)

-- ---- the time, and the column of an aggregate, which no row has

module _ (sc : Scope) (vs : List ℤ) where
  pub row_time : (ts : List ℕ) (i : ℕ) → (scope_row sc ts vs i).at ≡ time_at sc ts i
  unfolding scope_row time_at left_time row_at both
  row_time ts i = go (paired sc)
    where
      go : (b : Bool)
          → (cond b (both (row_at ts vs sc.breadth sc.fixed) (row_at ts vs sc.width (sc.stream * max_rows + i))) (row_at ts vs sc.width (sc.stream * max_rows + i))).at
          ≡ min (max (cond b (get_or ts sc.fixed 0) 0) (get_or ts (sc.stream * max_rows + i) 0)) top
      go true = omega arith
      go false = omega arith

  row_figure : (ts : List ℕ) (i : ℕ) → value (scope_columns sc) (scope_row sc ts vs i).values figure ≡ pos 0
  unfolding scope_columns scope_row columns_in row_at row_in both same_col
  row_figure ts i = go (paired sc)
    where
      go : (b : Bool)
          → value (cond b (map (col sc.other) (count_from 0 sc.breadth) ++ map (col sc.stream) (count_from 0 sc.width)) (map (col sc.stream) (count_from 0 sc.width)))
          (cond b (both (row_at ts vs sc.breadth sc.fixed) (row_at ts vs sc.width (sc.stream * max_rows + i))) (row_at ts vs sc.width (sc.stream * max_rows + i))).values figure
          ≡ pos 0
      go true =
          value_pass sc.other (λ c. get_or vs (sc.fixed * max_columns + c) (pos 0)) (map (col sc.stream) (count_from 0 sc.width)) (map (λ c. get_or vs ((sc.stream * max_rows + i) * max_columns + c) (pos 0)) (count_from 0 sc.width)) figure sc.breadth 0 (λ j a b. refl)
          ∙ value_none sc.stream (λ c. get_or vs ((sc.stream * max_rows + i) * max_columns + c) (pos 0)) figure sc.width 0 (λ j a b. refl)
      go false = value_none sc.stream (λ c. get_or vs ((sc.stream * max_rows + i) * max_columns + c) (pos 0)) figure sc.width 0 (λ j a b. refl)

-- ---- numbers

below_zero : (n : ℕ) → negsuc 0 -ℤ pos n ≡ negsuc n
below_zero zero = refl
below_zero (suc n) = let e : 0 + n ≡ n = omega arith in ap (λ (k : ℕ). negsuc (suc k)) e

module _ (v : ℕ) where
  negative_is : v < 2147483648 → negsuc 0 -ℤ to_z w32 (2147483647 - v) ≡ negsuc (2147483647 - v)
  negative_is h = let k : 2147483647 - v < 2147483648 = omega arith in ap (λ z. negsuc 0 -ℤ z) (to_z_pos w32 (2147483647 - v) k) ∙ below_zero (2147483647 - v)

  negative_in : v < 2147483648 → SFits w32 (negsuc (2147483647 - v))
  negative_in h = let k : 2147483647 - v < 2147483648 = omega arith in record { sfits = k }

  pub negative_fits : v < 2147483648 → SFits w32 (negsuc 0 -ℤ to_z w32 (2147483647 - v))
  negative_fits h = rw (negative_is h) (negative_in h)

  pub number_negative : v < 2147483648 → to_z w32 (of_z w32 (negsuc 0 -ℤ to_z w32 (2147483647 - v))) ≡ unbiased v
  unfolding unbiased
  number_negative h = rw (lt-leb 2147483648 v h) (ap (λ z. to_z w32 (of_z w32 z)) (negative_is h) ∙ to_z-of_z w32 (negsuc (2147483647 - v)) (negative_in h))

  pub number_positive : 2147483648 ≤ v → v < 4294967296 → to_z w32 (v - 2147483648) ≡ unbiased v
  unfolding unbiased
  number_positive h k = let l : v - 2147483648 < 2147483648 = omega arith in rw (le-leb 2147483648 v h) (to_z_pos w32 (v - 2147483648) l)

pub ruleset number_ends = (negative_fits, number_negative, number_positive)

-- ---- profile entries

-- the value of a name among pairs of numbers
abbrev pub value_of : ℕ → List (List ℕ) → ℤ
value_of v es = entry_value (map entry_of es) (name_of v)

pub entry_start : (ps : List ℕ) (v : ℕ) {es : List (List ℕ)} → es ≡ first_chunks 2 (length ps / 2) ps → entry_value (profile_in ps) (name_of v) ≡ value_of v es
entry_start ps v e = ap (λ p. entry_value p (name_of v)) (profile_pairs ps) ∙ ap (value_of v) (sym e)

module _ (es : List (List ℕ)) (v i : ℕ) {z : ℤ} (inv : z ≡ value_of v (drop i es)) where
  here : i < length es → z ≡ cond (same_list (name_of (get_or (get_or es i []) 0 0)) (name_of v)) (unbiased (get_or (get_or es i []) 1 0 % 4294967296)) (value_of v (drop (suc i) es))
  unfolding entry_value
  here h = inv ∙ ap (value_of v) (drop-cons es i [] h)

  pub entry_found : {x : ℤ} → i < length es → get_or (get_or es i []) 0 0 ≡ v → x ≡ unbiased (get_or (get_or es i []) 1 0 % 4294967296) → x ≡ z
  entry_found h f g = g ∙ sym (here h ∙ (rw (f, T_true (same_list (name_of v) (name_of v)) (same_list_refl (name_of v)))))

  pub entry_on : i < length es → get_or (get_or es i []) 0 0 < 18446744073709551616 → v < 18446744073709551616 → (get_or (get_or es i []) 0 0 ≡ v → ⊥) → z ≡ value_of v (drop (i + 1) es)
  entry_on h f g k = here h ∙ rw (name_one (get_or (get_or es i []) 0 0) v f g, ne_eqb (get_or (get_or es i []) 0 0) v k, add-one i)

  pub entry_none : length es ≤ i → pos 0 ≡ z
  unfolding entry_value
  entry_none h = sym (inv ∙ ap (value_of v) (drop_of_length-le es {i = i} h))

pub ruleset entry_ends = (entry_start, entry_found, entry_on, entry_none)

-- ---- terms

module _ (sc : Scope) (vs : List ℤ) (p : List Entry) (code v : ℕ) where
  abbrev filled_term : Term
  filled_term = fill_term p (coded_term code v)

  pub side_column_term : {r : Origin} → code < 24 → Stands sc vs (column (col (code / max_columns) (code % max_columns))) r → Stands sc vs filled_term r
  unfolding coded_term fill_term
  side_column_term h s = rw (lt-ltb code 24 h) s

  pub side_time_term : code ≡ 24 → Stands sc vs filled_term Time
  unfolding coded_term fill_term term_value side_value
  side_time_term e = rw e (record { near = tt; value = λ ts i. ap pos (sym (row_time sc vs ts i)) })

  pub side_figure_term : code ≡ 25 → Stands sc vs filled_term (Value (pos 0))
  unfolding coded_term fill_term term_value side_value
  side_figure_term e = rw e (record { near = tt; value = λ ts i. sym (row_figure sc vs ts i) })

  fixed : (z : ℤ) → ((ds : List Col) (x : Row) → term_value ds x filled_term ≡ z) → {y : ℤ} → y ≡ z → Stands sc vs filled_term (Value y)
  unfolding side_value
  fixed z f e = record { near = tt; value = λ ts i. e ∙ sym (f (scope_columns sc) (scope_row sc ts vs i)) }

  pub side_number_term : code ≡ 26 → {y : ℤ} → y ≡ unbiased v → Stands sc vs filled_term (Value y)
  unfolding coded_term fill_term term_value
  side_number_term e = fixed (unbiased v) (λ ds x. rw e)

  pub side_entry_term : 24 ≤ code → (code ≡ 24 → ⊥) → (code ≡ 25 → ⊥) → (code ≡ 26 → ⊥) → {y : ℤ} → y ≡ entry_value p (name_of v) → Stands sc vs filled_term (Value y)
  unfolding coded_term fill_term term_value
  side_entry_term a b c d = fixed (entry_value p (name_of v)) (λ ds x. rw (le-ltb code 24 a, ne_eqb code 24 b, ne_eqb code 25 c, ne_eqb code 26 d))

pub ruleset term_ends = (side_column_term, side_time_term, side_figure_term, side_number_term, side_entry_term)
