-- Two sides of a comparison by what each has in a row.
use mathlib.Core.Path.{◌≡◌, refl, sym, ap, ap₂, ◌∙◌}
use mathlib.Core.List.{List, [], ◌∷◌, map}
use mathlib.Core.Bool.{Bool, true, false, ◌&&◌, not, cond}
use Prim.Native.Nat.{ℕ, ◌+◌, ◌*◌, ◌-◌, ◌/◌, ◌%◌, ◌<◌, ◌≤◌}
use native.Mathlib.Omega.{arith}
use lib.IntN.{ℤ, pos, negsuc}
use lib.Dec.{T, leb, ltb, eqb, eqb→eq, ltb→lt}
use lib.ListN.{length, get_or}
use lib.Signed.{lt_z}
use borrow.Author.Tests.{eq-eqb, ne_eqb, lt-ltb, le-ltb, le-leb, ltb-true, ltb-false}
use Rattle.lists.specs.Lists.{count_from, same_list}
use Rattle.lists.proofs.Laws.{or_cases, true_T, and_l, and_r}
use Rattle.syntax.specs.Grammar.{Op, eq, ne, lt, le, gt, ge, test}
use Rattle.syntax.specs.Limits.{max_rows}
use Rattle.model.specs.Conditions.{true_of}
use Rattle.model.specs.Meaning.{compares, term_value, compare_holds}
use Rattle.model.specs.Grants.{entry_value, fill_term, fill_compare}
use Rattle.text.specs.Words.{name_of}
use Rattle.ledger.specs.Records.{values_size}
use Rattle.nodes.specs.declared.Node.{Node}
use Rattle.nodes.specs.Nodes.{unbiased, coded_term, numbered_op, node_compare}
use Rattle.rows.specs.declared.Rows.{Rows}
use Rattle.rows.specs.Masks.{rows_of}
use Rattle.rows.proofs.Masks.{rows_alike}
use Rattle.column_masks.specs.Columns.{strip, strip_lent, compared_at}
use Rattle.column_masks.proofs.Columns.{lent_true}
use Rattle.selection.specs.declared.Origin.{Origin}
use Rattle.selection.specs.declared.Origin.TheVariants.{Value, Column, Time}
use Rattle.selection.specs.declared.Scope.{Scope}
use Rattle.selection.specs.Scopes.{scope_columns, scope_row, paired, entry_at, profile_in}
use Rattle.time_masks.specs.Times.{column_end}
use Rattle.selection.specs.Evaluating.{relate, left_time, time_at, clock_at, side_value, bare, Near, Stands, wide, narrow, test_at, passing}
use Rattle.selection.proofs.Comparing.{le_not, Turned}

-- ---- sides

pub plain_lent : (vs : List ℤ) (p n : ℕ) → n ≤ max_rows → p < column_end → values_size ≤ length vs → strip_lent (length vs) p 6 n ≡ true
plain_lent vs p n h k l = lent_true vs p 6 n h (omega arith) (omega arith) (λ m. omega arith)

pub near_column : {x : Origin} {at : ℕ} → x ≡ Column at → Near x → at < column_end
near_column e h = rw e at h

-- numbers that are a side's in each row
pub record Valued (f : ℕ → ℤ) (x : Origin) (sc : Scope) (ts : List ℕ) (vs : List ℤ) : Type 0 where
  pub each : (i : ℕ) → f i ≡ side_value x sc ts vs i

module _ (sc : Scope) (ts : List ℕ) (vs : List ℤ) where
  pub valued_column : {x : Origin} (at : ℕ) → x ≡ Column at → Valued (strip vs at 6) x sc ts vs
  unfolding strip side_value
  valued_column at e = rw e (record { each = λ i. refl })

  pub valued_fixed : {x : Origin} {u v : ℤ} → x ≡ Value v → u ≡ v → Valued (λ i. u) x sc ts vs
  unfolding side_value
  valued_fixed e d = rw e (record { each = λ i. d })

  pub valued_time : {x : Origin} → x ≡ Time → Valued (clock_at sc ts) x sc ts vs
  unfolding side_value clock_at
  valued_time e = rw e (record { each = λ i. refl })

  -- in the scope without its columns
  pub valued_bare : {x : Origin} → x ≡ Time → Valued (clock_at (bare sc.stream sc.rows sc.fixed) ts) x sc ts vs
  unfolding side_value clock_at time_at left_time paired
  valued_bare e = rw e (record { each = λ i. refl })

  pub valued_other : (x : Origin) → Valued (side_value x (bare sc.stream sc.rows sc.fixed) ts vs) x sc ts vs
  unfolding side_value time_at left_time paired
  valued_other (Value v) = record { each = λ i. refl }
  valued_other (Column at) = record { each = λ i. refl }
  valued_other Time = record { each = λ i. refl }

  module _ (l r : Origin) where
    -- the rows that are asked for
    abbrev answer : ℕ → Rows
    answer head = rows_of (relate head (side_value l sc ts vs) (side_value r sc ts vs)) 0 sc.rows

    pub compared_valued : (head : ℕ) {f g : ℕ → ℤ} {x : Rows} → x ≡ rows_of (relate head f g) 0 sc.rows → Valued f l sc ts vs → Valued g r sc ts vs → x ≡ answer head
    unfolding compared_at
    compared_valued head {f = f} {g = g} e a b =
        e ∙ rows_alike (relate head f g) (relate head (side_value l sc ts vs) (side_value r sc ts vs)) 0 sc.rows (λ i m n. ap₂ (compares (numbered_op head)) (a.each i) (b.each i))

    pub compared_turned : (head k : ℕ) {f g : ℕ → ℤ} {x : Rows} → x ≡ rows_of (relate k f g) 0 sc.rows → Turned head k → Valued f r sc ts vs → Valued g l sc ts vs → x ≡ answer head
    unfolding compared_at
    compared_turned head k {f = f} {g = g} e t a b =
        e ∙ rows_alike (relate k f g) (relate head (side_value l sc ts vs) (side_value r sc ts vs)) 0 sc.rows (λ i m n. t (f i) (g i) ∙ ap₂ (compares (numbered_op head)) (b.each i) (a.each i))

-- the time and a side
module _ (sc : Scope) (ts : List ℕ) (vs : List ℤ) (head : ℕ) (r : Origin) {x : Rows} where
  pub times_valued : {g : ℕ → ℤ} → Valued g r sc ts vs → x ≡ rows_of (relate head (clock_at sc ts) g) 0 sc.rows → x ≡ rows_of (relate head (clock_at sc ts) (side_value r sc ts vs)) 0 sc.rows
  unfolding compared_at
  times_valued {g} a e =
      e ∙ rows_alike (relate head (clock_at sc ts) g) (relate head (clock_at sc ts) (side_value r sc ts vs)) 0 sc.rows (λ i m n. ap (compares (numbered_op head) (clock_at sc ts i)) (a.each i))

-- with itself it compares as 0 does
self : (o : Op) (t : ℕ) → compares o (pos t) (pos t) ≡ compares o (pos 0) (pos 0)
unfolding compares
self eq t = rw (le-leb t t (omega arith))
self ne t = rw (le-ltb t t (omega arith))
self lt t = le-ltb t t (omega arith)
self le t = le-leb t t (omega arith)
self gt t = le-ltb t t (omega arith)
self ge t = le-leb t t (omega arith)

pub times_self : (sc : Scope) (ts : List ℕ) (vs : List ℤ) (head : ℕ) (r : Origin) {x : Rows} → r ≡ Time → x ≡ rows_of (relate head (λ i. pos 0) (λ i. pos 0)) 0 sc.rows
    → x ≡ rows_of (relate head (clock_at sc ts) (side_value r sc ts vs)) 0 sc.rows
unfolding compared_at clock_at
times_self sc ts vs head r k e =
    times_valued sc ts vs head r (valued_time sc ts vs k)
    (e ∙ rows_alike (relate head (λ i. pos 0) (λ i. pos 0)) (relate head (clock_at sc ts) (clock_at sc ts)) 0 sc.rows (λ i a b. sym (self (numbered_op head) (time_at sc ts i))))

pub left_some : (sc : Scope) (ts : List ℕ) → sc.fixed < 512 → get_or ts sc.fixed 0 ≡ left_time sc ts
unfolding left_time paired
left_some sc ts h = rw (lt-ltb sc.fixed 512 h)

pub left_none : (sc : Scope) (ts : List ℕ) → 512 ≤ sc.fixed → 0 ≡ left_time sc ts
unfolding left_time paired
left_none sc ts h = rw (le-ltb sc.fixed 512 h)

pub ruleset left_times = (left_some, left_none)

-- ---- a number of more than 32 bits is above every profile entry

less_back : (a : ℕ) (z : ℤ) → lt_z z (pos a) ≡ true → lt_z (pos a) z ≡ false
less_back a (pos m) e = let h : m < a = omega (arith, ltb-true m a e) in le-ltb a m (omega arith)
less_back a (negsuc m) e = refl

pub above : (o : Op) (a : ℕ) (z : ℤ) → lt_z z (pos a) ≡ true → compares o (pos a) z ≡ compares o (pos 1) (pos 0)
unfolding compares
above eq a z e = rw (le_not (pos a) z, e)
above ne a z e = rw (less_back a z e, e)
above lt a z e = less_back a z e
above le a z e = le_not (pos a) z ∙ ap not e
above gt a z e = e
above ge a z e = le_not z (pos a) ∙ ap not (less_back a z e)

small_number : (v a : ℕ) → v < 4294967296 → 2147483648 ≤ a → lt_z (unbiased v) (pos a) ≡ true
unfolding unbiased
small_number v a h k = go (leb 2147483648 v) refl
  where
    go : (b : Bool) → leb 2147483648 v ≡ b → lt_z (cond b (pos (v - 2147483648)) (negsuc (2147483647 - v))) (pos a) ≡ true
    go true e = lt-ltb (v - 2147483648) a (omega arith)
    go false e = refl

small_entry : (ps nm : List ℕ) (a : ℕ) → 2147483648 ≤ a → (is : List ℕ) → lt_z (entry_value (map (entry_at ps) is) nm) (pos a) ≡ true
unfolding entry_value entry_at
small_entry ps nm a k [] = lt-ltb 0 a (omega arith)
small_entry ps nm a k (i ∷ is) = go (same_list (name_of (get_or ps (i * 2) 0)) nm) (small_entry ps nm a k is)
  where
    go : (b : Bool) → lt_z (entry_value (map (entry_at ps) is) nm) (pos a) ≡ true → lt_z (cond b (unbiased (get_or ps (i * 2 + 1) 0 % 4294967296)) (entry_value (map (entry_at ps) is) nm)) (pos a) ≡ true
    go true e = small_number (get_or ps (i * 2 + 1) 0 % 4294967296) a (omega arith) k
    go false e = e

module _ (sc : Scope) (ts : List ℕ) (vs : List ℤ) (ps : List ℕ) (n : Node) where
  wide_entry : T (narrow n) → 4294967295 < n.value → n.right ≡ 27
  unfolding narrow
  wide_entry t h = or_cases (eqb n.right 27) (ltb n.value 4294967296) t (λ a. eqb→eq n.right 27 a) (λ b. absurd (let l = ltb→lt n.value 4294967296 b in omega arith))

  wide_is : wide n ≡ true → (n.left ≡ 26) × (4294967295 < n.value)
  unfolding wide
  wide_is e =
      let t = true_T (eqb n.left 26 && ltb 4294967295 n.value) e in
      (eqb→eq n.left 26 (and_l (eqb n.left 26) (ltb 4294967295 n.value) t), ltb→lt 4294967295 n.value (and_r (eqb n.left 26) (ltb 4294967295 n.value) t))

  big : 4294967295 < n.value → unbiased n.value ≡ pos (n.value - 2147483648)
  unfolding unbiased
  big h = rw (le-leb 2147483648 n.value (omega arith))

  wide_left : (i : ℕ) → n.left ≡ 26 → 4294967295 < n.value → term_value (scope_columns sc) (scope_row sc ts vs i) (fill_term (profile_in ps) (coded_term n.left n.value)) ≡ pos (n.value - 2147483648)
  unfolding coded_term fill_term term_value
  wide_left i e h = rw e (big h)

  wide_right : (i : ℕ) → n.right ≡ 27 → term_value (scope_columns sc) (scope_row sc ts vs i) (fill_term (profile_in ps) (coded_term n.right n.value)) ≡ entry_value (profile_in ps) (name_of n.value)
  unfolding coded_term fill_term term_value
  wide_right i e = rw e

  wide_less : 4294967295 < n.value → lt_z (entry_value (profile_in ps) (name_of n.value)) (pos (n.value - 2147483648)) ≡ true
  unfolding profile_in
  wide_less h = small_entry ps (name_of n.value) (n.value - 2147483648) (omega arith) (count_from 0 (length ps / 2))

  pub node_wide : {b : Bool} {x : Rows} → b ≡ wide n → b ≡ true → T (narrow n) → x ≡ rows_of (relate n.head (λ i. pos 1) (λ i. pos 0)) 0 sc.rows → x ≡ passing sc ts vs ps (test (node_compare n))
  unfolding passing true_of test_at compare_holds fill_compare node_compare compared_at
  node_wide {b} {x} d c t f =
      let e = (wide_is (sym d ∙ c)).0 in
      let h = (wide_is (sym d ∙ c)).1 in
      let g = wide_entry t h in
      f ∙ rows_alike (relate n.head (λ i. pos 1) (λ i. pos 0)) (λ i. true_of (test_at sc ts vs ps i) (test (node_compare n))) 0 sc.rows (λ i a b. sym (ap₂ (compares (numbered_op n.head)) (wide_left i e h) (wide_right i g) ∙ above (numbered_op n.head) (n.value - 2147483648) (entry_value (profile_in ps) (name_of n.value)) (wide_less h)))

  pub node_sides : {l r : Origin} {x : Rows} → Stands sc vs (fill_term (profile_in ps) (coded_term n.left n.value)) l → Stands sc vs (fill_term (profile_in ps) (coded_term n.right n.value)) r
      → x ≡ rows_of (relate n.head (side_value l sc ts vs) (side_value r sc ts vs)) 0 sc.rows → x ≡ passing sc ts vs ps (test (node_compare n))
  unfolding passing true_of test_at compare_holds fill_compare node_compare compared_at
  node_sides {l} {r} s t e =
      e ∙ rows_alike (relate n.head (side_value l sc ts vs) (side_value r sc ts vs)) (λ i. true_of (test_at sc ts vs ps i) (test (node_compare n))) 0 sc.rows
      (λ i a b. ap₂ (compares (numbered_op n.head)) (s.value ts i) (t.value ts i))

-- a number on either side is one of 32 bits, where the wide ones are seen to
module _ (n : Node) where
  pub left_narrow : {b : Bool} → b ≡ wide n → b ≡ false → n.left ≡ 26 → n.value < 4294967296
  unfolding wide
  left_narrow e h f = let z : ltb 4294967295 n.value ≡ false = rw (eq-eqb n.left 26 f) at (sym e ∙ h) in let y = ltb-false 4294967295 n.value z in omega arith

  pub right_narrow : T (narrow n) → n.right ≡ 26 → n.value < 4294967296
  unfolding narrow
  right_narrow t e = or_cases (eqb n.right 27) (ltb n.value 4294967296) t (λ a. absurd (let z = eqb→eq n.right 27 a in omega arith)) (λ b. ltb→lt n.value 4294967296 b)

  pub wide_other : (n.left ≡ 26 → ⊥) → false ≡ wide n
  unfolding wide
  wide_other e = rw (ne_eqb n.left 26 e)

  pub wide_number : n.left ≡ 26 → ltb 4294967295 n.value ≡ wide n
  unfolding wide
  wide_number e = rw (eq-eqb n.left 26 e)

pub ruleset wide_ends = (wide_other, wide_number)

pub ruleset narrow_ends = (left_narrow, right_narrow)

pub ruleset node_ends = (node_wide, node_sides)
