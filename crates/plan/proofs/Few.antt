-- A plan asks for no more rows than its bound.
use mathlib.Core.Path.{◌≡◌, refl, ap, ◌∙◌}
use mathlib.Core.List.{List, [], ◌∷◌, ◌++◌, map}
use mathlib.Core.Bool.{Bool, true, false, cond}
use Prim.Native.Nat.{ℕ, suc, ◌+◌, ◌*◌, ◌-◌, ◌/◌, ◌≤◌, ◌<◌}
use native.Mathlib.Omega.{arith}
use native.Mathlib.Nat.{le_trans, mul-le-mul, suc-mul, add-mul, le-div_iff_mul-le, div-lt_iff_lt-mul, lt-div-mul-add}
use lib.Dec.{T, eqb, leb, leb→le, ltb→lt}
use lib.IntN.{ℤ}
use lib.ListN.{length, length-map, length-append}
use Rattle.lists.specs.Lists.{select, gather, count_from, distinct}
use Rattle.lists.proofs.Laws.{all_any, all_select, parts}
use Rattle.lists.proofs.Counting.{count_length}
use Rattle.lists.proofs.Gathers.{select_fewer}
use Rattle.syntax.specs.Grammar.{Fn, Cond, numbered_fn}
use Rattle.model.specs.Queries.{Col, Compare, Row, Table, Record}
use Rattle.model.specs.Aggregates.{in_window, closed, answer_row, window, figures_of}
use Rattle.model.specs.Meaning.{both, kept_row, kept, pairs, aggregated, table_of}
use Rattle.model.specs.Grants.{limited}
use Rattle.model.proofs.Distinct.{distinct_select, distinct_few, count_distinct}
use Rattle.query.specs.Forms.{Words, coded_col, cols_in}
use Rattle.plan.specs.declared.Plan.{Plan}
use Rattle.plan.specs.Plans.{left_conds, right_conds, pair_conds, outer_conds, inner_table, figure_table, planned}
use Rattle.plan.proofs.Tables.{link, inner_joined, inner_alone}
use Rattle.plan.specs.Bounds.{stream_rows, most_rows}

limited_few : (cs : List (Cond Compare)) (t : Table) → length (limited cs t).rows ≤ length t.rows
unfolding limited
limited_few cs t = select_fewer _ t.rows

joined_many : (rs ls : List Row) → length (gather (λ x. map (both x) rs) ls) ≡ length ls * length rs
unfolding gather
joined_many rs [] = omega arith
joined_many rs (x ∷ xs) =
    let h = joined_many rs xs in
    let a = length-append (map (both x) rs) (gather (λ x. map (both x) rs) xs) in
    let b = length-map rs (both x) in
    omega arith

pairs_many : (l r : Table) → length (pairs l r).rows ≡ length l.rows * length r.rows
unfolding pairs
pairs_many l r = joined_many r.rows l.rows

-- a window gives one row or none
one_row : (f : Fn) (end : ℕ) (vs : List ℤ) → length (answer_row f end vs) ≤ 1
unfolding answer_row
one_row f end [] = omega arith
one_row f end (v ∷ vs) = omega arith

windows_few : (f : Fn) (value : Row → ℤ) (size offset : ℕ) (rs : List Row) (ks : List ℕ) → length (gather (window f value size offset rs) ks) ≤ length ks
unfolding gather window
windows_few f value size offset rs [] = omega arith
windows_few f value size offset rs (k ∷ ks) =
    let h = windows_few f value size offset rs ks in
    let a = length-append (window f value size offset rs k) (gather (window f value size offset rs) ks) in
    let b : length (window f value size offset rs k) ≤ 1 = one_row f (k * offset + size) _ in
    omega arith

figures_few : (clock : ℕ) (f : Fn) (value : Row → ℤ) (size offset : ℕ) (rs : List Row) → length (figures_of clock f value size offset rs) ≤ suc (clock / offset)
unfolding figures_of closed
figures_few clock f value size offset rs =
    let all = count_from 0 (suc (clock / offset)) in
    let ended : ℕ → Bool = λ k. leb (k * offset + size) clock in
    let a = windows_few f value size offset rs (select ended all) in
    let b = select_fewer ended all in
    let c = count_length 0 (suc (clock / offset)) in
    omega arith

-- ---- windows by the rows that they hold

row_once : (f : Fn) (end : ℕ) (vs : List ℤ) → length (answer_row f end vs) ≤ length vs
unfolding answer_row
row_once f end [] = omega arith
row_once f end (v ∷ vs) = omega arith

module _ (size offset : ℕ) (some : 1 ≤ offset) where
  -- the windows that hold a time are those from one number on, as many as begin in the time of one
  held_from : (r : Row) (k : ℕ) → T (in_window size offset k r) → (r.at / offset - size / offset ≤ k) × (k < r.at / offset - size / offset + suc (size / offset))
  unfolding in_window
  held_from r k t =
      let low : k ≤ r.at / offset = (le-div_iff_mul-le some).1 (leb→le (k * offset) r.at (search parts)) in
      let high = ltb→lt r.at (k * offset + size) (search parts) in
      let s = lt-div-mul-add {a = size} some in
      let e = add-mul (suc k) (size / offset) offset in
      let u = suc-mul k offset in
      let near : r.at / offset < suc (k + size / offset) = (div-lt_iff_lt-mul some).1 (omega arith) in
      (omega arith, omega arith)

  abbrev held : Row → ℕ → Bool
  held r k = in_window size offset k r

  held_few : (r : Row) (ks : List ℕ) → T (distinct eqb ks) → length (select (held r) ks) ≤ suc (size / offset)
  held_few r ks h = distinct_few (r.at / offset - size / offset) (suc (size / offset)) (select (held r) ks) (distinct_select eqb (held r) ks h) (all_select {P = λ k. Unit {0}} (held r) (λ k t u. held_from r k t) (all_any ks))

  -- how many rows the windows hold, each counted in each that holds it
  abbrev holdings : List Row → List ℕ → List Row
  holdings rs ks = gather (λ k. select (in_window size offset k) rs) ks

  holdings_more : (r : Row) (rs : List Row) (ks : List ℕ) → length (holdings (r ∷ rs) ks) ≡ length (select (held r) ks) + length (holdings rs ks)
  unfolding gather select
  holdings_more r rs [] = omega arith
  holdings_more r rs (k ∷ ks) =
      let i = holdings_more r rs ks in
      let a = length-append (select (in_window size offset k) rs) (gather (λ k. select (in_window size offset k) rs) ks) in
      length-append (select (in_window size offset k) (r ∷ rs)) (holdings (r ∷ rs) ks) ∙ go (in_window size offset k r) i a
    where
      go : (b : Bool) → length (holdings (r ∷ rs) ks) ≡ length (select (held r) ks) + length (holdings rs ks)
          → length (select (in_window size offset k) rs ++ holdings rs ks) ≡ length (select (in_window size offset k) rs) + length (holdings rs ks)
          → length (cond b (r ∷ select (in_window size offset k) rs) (select (in_window size offset k) rs)) + length (holdings (r ∷ rs) ks)
          ≡ length (cond b (k ∷ select (held r) ks) (select (held r) ks)) + length (select (in_window size offset k) rs ++ holdings rs ks)
      go true i a = omega arith
      go false i a = omega arith

  holdings_none : (ks : List ℕ) → length (holdings [] ks) ≡ 0
  unfolding gather select
  holdings_none [] = refl
  holdings_none (k ∷ ks) = holdings_none ks

  holdings_few : (rs : List Row) (ks : List ℕ) → T (distinct eqb ks) → length (holdings rs ks) ≤ length rs * suc (size / offset)
  holdings_few [] ks h = let e = holdings_none ks in omega arith
  holdings_few (r ∷ rs) ks h =
      let i = holdings_few rs ks h in
      let a = holdings_more r rs ks in
      let b = held_few r ks h in
      let c = suc-mul (length rs) (suc (size / offset)) in
      omega arith

  windows_held : (f : Fn) (value : Row → ℤ) (rs : List Row) (ks : List ℕ) → length (gather (window f value size offset rs) ks) ≤ length (holdings rs ks)
  unfolding gather window
  windows_held f value rs [] = omega arith
  windows_held f value rs (k ∷ ks) =
      let i = windows_held f value rs ks in
      let a = length-append (window f value size offset rs k) (gather (window f value size offset rs) ks) in
      let b = length-append (select (in_window size offset k) rs) (holdings rs ks) in
      let c : length (window f value size offset rs k) ≤ length (map value (select (in_window size offset k) rs)) = row_once f (k * offset + size) _ in
      let d = length-map (select (in_window size offset k) rs) value in
      omega arith

  -- no more answer rows than the windows of each row
  pub figures_dense : (clock : ℕ) (f : Fn) (value : Row → ℤ) (rs : List Row) → length (figures_of clock f value size offset rs) ≤ length rs * suc (size / offset)
  unfolding figures_of closed
  figures_dense clock f value rs =
      let ks = select (λ k. leb (k * offset + size) clock) (count_from 0 (suc (clock / offset))) in
      let a = windows_held f value rs ks in
      let b = holdings_few rs ks (distinct_select eqb (λ k. leb (k * offset + size) clock) (count_from 0 (suc (clock / offset))) (count_distinct 0 (suc (clock / offset)))) in
      omega arith

aggregated_few : (clock : ℕ) (f : Fn) (c : Col) (size offset : ℕ) (t : Table) → length (aggregated clock f c size offset t).rows ≤ suc (clock / offset)
unfolding aggregated
aggregated_few clock f c size offset t = figures_few clock f _ size offset t.rows

module _ (x : Record) (w : Words) (p : Plan) where
  joined_few : p.joined ≡ true → length (inner_table (table_of x) w p).rows ≤ stream_rows x p.left * stream_rows x p.right
  unfolding stream_rows
  joined_few j =
      let l = limited (left_conds w p) (table_of x p.left) in
      let r = limited (right_conds w p) (table_of x p.right) in
      let cs = pair_conds w p ++ (link (table_of x) w p ∷ []) in
      let e : length (inner_table (table_of x) w p).rows ≡ length (limited cs (pairs l r)).rows = ap (λ (t : Table). length t.rows) (inner_joined (table_of x) w p j) in
      let a = limited_few cs (pairs l r) in
      let b = pairs_many l r in
      let c = mul-le-mul (limited_few (left_conds w p) (table_of x p.left)) (limited_few (right_conds w p) (table_of x p.right)) in
      omega arith

  alone_few : p.joined ≡ false → length (inner_table (table_of x) w p).rows ≤ stream_rows x p.left
  unfolding stream_rows
  alone_few j =
      let e : length (inner_table (table_of x) w p).rows ≡ length (limited (left_conds w p) (table_of x p.left)).rows = ap (λ (t : Table). length t.rows) (inner_alone (table_of x) w p j) in
      let a = limited_few (left_conds w p) (table_of x p.left) in
      omega arith

  pub inner_few : length (inner_table (table_of x) w p).rows ≤ cond p.joined (stream_rows x p.left * stream_rows x p.right) (stream_rows x p.left)
  inner_few = go p.joined refl
    where
      go : (b : Bool) → p.joined ≡ b → length (inner_table (table_of x) w p).rows ≤ cond b (stream_rows x p.left * stream_rows x p.right) (stream_rows x p.left)
      go true e = joined_few e
      go false e = alone_few e

  summed_few : length (figure_table x.clock (table_of x) w p).rows ≤ suc (x.clock / p.offset)
  unfolding figure_table
  summed_few = le_trans (limited_few (outer_conds w p) _) (aggregated_few x.clock (numbered_fn p.number) (coded_col p.column) p.size p.offset (inner_table (table_of x) w p))

  -- the figures, by the rows that they are taken of
  pub summed_dense : 1 ≤ p.offset → length (figure_table x.clock (table_of x) w p).rows ≤ length (inner_table (table_of x) w p).rows * suc (p.size / p.offset)
  unfolding figure_table aggregated
  summed_dense some = le_trans (limited_few (outer_conds w p) _) (figures_dense p.size p.offset some x.clock (numbered_fn p.number) _ (inner_table (table_of x) w p).rows)

  -- a plan asks for no more rows than its bound
  pub planned_few : length (planned x w p).rows ≤ most_rows x p
  unfolding planned most_rows kept
  planned_few = go (eqb p.number 0)
    where
      go : (b : Bool) → length (cond b (kept (cols_in p.order) (inner_table (table_of x) w p)) (figure_table x.clock (table_of x) w p)).rows
          ≤ cond b (cond p.joined (stream_rows x p.left * stream_rows x p.right) (stream_rows x p.left)) (suc (x.clock / p.offset))
      go true = rw (length-map (inner_table (table_of x) w p).rows (kept_row (inner_table (table_of x) w p).cols (cols_in p.order))) inner_few
      go false = summed_few
