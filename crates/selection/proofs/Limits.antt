-- Rows within a first and a last time, and whether memory is lent for a scope.
use mathlib.Core.Path.{◌≡◌, refl, sym, ap, ap₂, ◌∙◌, subst}
use mathlib.Core.List.{List, [], ◌∷◌, ◌++◌}
use mathlib.Core.Bool.{Bool, true, false, ◌&&◌, ◌||◌, not, cond}
use mathlib.Core.Option.{none, some}
use Prim.Native.Nat.{ℕ, ◌+◌, ◌*◌, ◌<◌, ◌≤◌, min, max}
use native.Mathlib.Decide.{dec_lt}
use native.Mathlib.Omega.{arith}
use lib.IntN.{ℤ, pos, negsuc, nat_abs}
use lib.Signed.{lt_z, non_neg, pos-nat_abs}
use lib.Dec.{T, leb, ltb, eqb, leb→le, ltb→lt}
use lib.ListN.{length, get_or}
use mir.Syntax.{w32}
use mir.Val.{Fits, SFits, of_z, to_z}
use mir.ValLaws.{to_z-of_z}
use borrow.Author.Tests.{ne_eqb, le-leb, lt-leb, lt-ltb, le-ltb, ltb-true, ltb-false, not-true, not-false}
use Rattle.lists.specs.Lists.{every}
use Rattle.lists.proofs.Laws.{true_T, and_l, and_r, parts}
use Rattle.syntax.specs.Grammar.{eq, ge, le}
use Rattle.syntax.specs.Limits.{max_streams, max_rows, top}
use Rattle.model.specs.Queries.{Col, Row}
use Rattle.model.specs.Conditions.{true_of}
use Rattle.model.specs.Meaning.{term_value, compares, compare_holds, holds}
use Rattle.model.specs.Grants.{limit}
use Rattle.ledger.specs.Records.{places_size, values_size}
use Rattle.grant.specs.Grants.{no_time, limit_of}
use Rattle.rows.specs.declared.Rows.{Rows}
use Rattle.rows.specs.Masks.{rows_of, no_rows}
use Rattle.rows.proofs.Masks.{rows_alike, rows_none, rows_shift}
use Rattle.column_masks.specs.Columns.{compared_at}
use Rattle.selection.specs.declared.Scope.{Scope}
use Rattle.selection.specs.Scopes.{times_fit, scope_fits, scope_columns, scope_row, meets, time_limits, timely}
use Rattle.time_masks.specs.Times.{in_span, timed}
use Rattle.selection.specs.Evaluating.{relate, left_time, time_at, Lent, past, low_of, high_of, in_limits, clock_at}
use Rattle.nodes.specs.Nodes.{numbered_op}
use Rattle.selection.proofs.Sides.{row_time}
use Rattle.selection.proofs.Relating.{above}

-- ---- memory

module _ (sc : Scope) (ts : List ℕ) where
  pub fit_stream : max_streams ≤ sc.stream → false ≡ times_fit sc ts
  unfolding times_fit
  fit_stream h = rw (le-ltb sc.stream max_streams h)

  pub fit_rows : sc.stream < max_streams → 128 < sc.rows → false ≡ times_fit sc ts
  unfolding times_fit
  fit_rows h k = rw (lt-ltb sc.stream max_streams (omega arith), lt-leb sc.rows max_rows k)

  pub fit_times : sc.stream < max_streams → sc.rows ≤ 128 → leb 512 (length ts) ≡ times_fit sc ts
  unfolding times_fit
  fit_times h k = rw (lt-ltb sc.stream max_streams (omega arith), le-leb sc.rows max_rows k)

  module _ (vs : List ℤ) {b : Bool} (e : b ≡ times_fit sc ts) where
    pub fit_none : not b ≡ true → false ≡ scope_fits sc ts vs
    unfolding scope_fits
    fit_none h = rw (sym e ∙ not-true b h)

    pub fit_values : not b ≡ false → leb 3072 (length vs) ≡ scope_fits sc ts vs
    unfolding scope_fits
    fit_values h = rw (sym e ∙ not-false b h)

  pub times_parts : times_fit sc ts ≡ true → (sc.stream < max_streams) × (sc.rows ≤ max_rows) × (places_size ≤ length ts)
  unfolding times_fit
  times_parts e =
      let t = true_T (ltb sc.stream max_streams && leb sc.rows max_rows && leb places_size (length ts)) e in
      (ltb→lt sc.stream max_streams (search parts), leb→le sc.rows max_rows (search parts), leb→le places_size (length ts) (search parts))

  pub fits_lent : (vs : List ℤ) {b : Bool} → b ≡ scope_fits sc ts vs → not b ≡ false → Lent sc ts vs
  unfolding scope_fits
  fits_lent vs {b} e h =
      let t = true_T (times_fit sc ts && leb values_size (length vs)) (sym e ∙ not-false b h) in
      let p = times_parts (and_first (times_fit sc ts) (leb values_size (length vs)) (sym e ∙ not-false b h)) in
      record { stream = p.0; rows = p.1; times = p.2; values = leb→le values_size (length vs) (search parts) }
    where
      and_first : (a b : Bool) → (a && b) ≡ true → a ≡ true
      and_first true b e = refl
      and_first false b e = e

pub fit_parts : (sc : Scope) (ts : List ℕ) {b : Bool} → b ≡ times_fit sc ts → not b ≡ false → (sc.stream < max_streams) × (sc.rows ≤ max_rows) × (places_size ≤ length ts)
fit_parts sc ts {b} e h = times_parts sc ts (sym e ∙ not-false b h)

pub ruleset fit_ends = (fit_stream, fit_rows, fit_times, fit_none, fit_values)

-- ---- one time

module _ (from left : ℕ) where
  pub low_open : top < from → 0 ≡ low_of from left
  unfolding low_of
  low_open h = rw (lt-leb from top h)

  pub low_met : from ≤ top → from ≤ left → 0 ≡ low_of from left
  unfolding low_of
  low_met h k = rw (le-leb from top h, le-leb from left k)

  pub low_some : from ≤ top → left < from → from ≡ low_of from left
  unfolding low_of
  low_some h k = rw (le-leb from top h, lt-leb from left k)

pub high_some : (n : ℕ) → n < top → n ≡ high_of n
unfolding high_of
high_some n h = rw (lt-ltb n top h)

pub high_none : (n : ℕ) → top ≤ n → 4294967295 ≡ high_of n
unfolding high_of
high_none n h = rw (le-ltb n top h)

pub ruleset limit_ends = (low_open, low_met, low_some, high_some, high_none)

-- ---- the conditions of a first and a last time

and_true : (b : Bool) → (b && true) ≡ b
and_true true = refl
and_true false = refl

module _ (ds : List Col) (r : Row) (n : ℕ) where
  first_limit : every (holds ds r) (limit ge (limit_of n)) ≡ cond (leb n top) (leb n r.at) true
  unfolding limit limit_of every holds true_of compare_holds compares term_value
  first_limit = go (leb n top)
    where
      go : (b : Bool) → every (holds ds r) (limit ge (cond b (some n) none)) ≡ cond b (leb n r.at) true
      go true = and_true (leb n r.at)
      go false = refl

  last_limit : every (holds ds r) (limit le (limit_of n)) ≡ cond (leb n top) (leb r.at n) true
  unfolding limit limit_of every holds true_of compare_holds compares term_value
  last_limit = go (leb n top)
    where
      go : (b : Bool) → every (holds ds r) (limit le (cond b (some n) none)) ≡ cond b (leb r.at n) true
      go true = and_true (leb r.at n)
      go false = refl

pub every_join : {A : Type 0} (p : A → Bool) (xs ys : List A) → every p (xs ++ ys) ≡ (every p xs && every p ys)
unfolding every
every_join p [] ys = refl
every_join p (x ∷ xs) ys = ap (λ b. p x && b) (every_join p xs ys) ∙ and_assoc (p x) (every p xs) (every p ys)
  where
    and_assoc : (a b c : Bool) → (a && (b && c)) ≡ ((a && b) && c)
    and_assoc true b c = refl
    and_assoc false b c = refl

-- what they ask of a time
pub limits_ask : (ds : List Col) (r : Row) (from to : ℕ) → every (holds ds r) (time_limits from to) ≡ in_limits from to r.at
unfolding time_limits in_limits
limits_ask ds r from to = every_join (holds ds r) (limit ge (limit_of from)) (limit le (limit_of to)) ∙ ap₂ ◌&&◌ (first_limit ds r from) (last_limit ds r to)

-- the time of a row beside the left one
module _ (from to left t : ℕ) where
  first_met : cond (leb from top) (leb from (min (max left t) top)) true ≡ leb (low_of from left) t
  unfolding low_of
  first_met = go (dec_lt top from) (dec_lt left from) (dec_lt t from)
    where
      go : Dec (top < from) → Dec (left < from) → Dec (t < from) → cond (leb from top) (leb from (min (max left t) top)) true ≡ leb (cond (leb from top) (cond (leb from left) 0 from) 0) t
      go (yes a) b c = rw (lt-leb from top a) (sym (le-leb 0 t (omega arith)))
      go (no a) (yes b) (yes c) = rw (le-leb from top (omega arith), lt-leb from left b, lt-leb from t c) (lt-leb from (min (max left t) top) (omega arith))
      go (no a) (yes b) (no c) = rw (le-leb from top (omega arith), lt-leb from left b, le-leb from t (omega arith)) (le-leb from (min (max left t) top) (omega arith))
      go (no a) (no b) c = rw (le-leb from top (omega arith), le-leb from left (omega arith), le-leb 0 t (omega arith)) (le-leb from (min (max left t) top) (omega arith))

  last_met : past to left ≡ false → cond (leb to top) (leb (min (max left t) top) to) true ≡ (eqb (high_of to) no_time || leb t (high_of to))
  unfolding high_of past
  last_met h = go (dec_lt to top) (dec_lt top to) (dec_lt to t)
    where
      go : Dec (to < top) → Dec (top < to) → Dec (to < t) → cond (leb to top) (leb (min (max left t) top) to) true ≡ (eqb (cond (ltb to top) to no_time) no_time || leb t (cond (ltb to top) to no_time))
      go (yes a) b (yes c) = rw (le-leb to top (omega arith), lt-ltb to top a, ne_eqb to no_time (λ z. omega arith), lt-leb t to c) (lt-leb (min (max left t) top) to (omega arith))
      go (yes a) b (no c) = let g : left ≤ to = ltb-false to left (rw (lt-ltb to top a) at h) in rw (le-leb to top (omega arith), lt-ltb to top a, ne_eqb to no_time (λ z. omega arith), le-leb t to (omega arith)) (le-leb (min (max left t) top) to (omega arith))
      go (no a) (yes b) c = rw (lt-leb to top b, le-ltb to top (omega arith))
      go (no a) (no b) c = rw (le-leb to top (omega arith), le-ltb to top (omega arith)) (le-leb (min (max left t) top) to (omega arith))

  never_met : past to left ≡ true → cond (leb to top) (leb (min (max left t) top) to) true ≡ false
  unfolding past
  never_met h =
      let u = true_T (ltb to top && ltb to left) h in
      let a = ltb→lt to top (and_l (ltb to top) (ltb to left) u) in
      let b = ltb→lt to left (and_r (ltb to top) (ltb to left) u) in
      rw (le-leb to top (omega arith)) (lt-leb (min (max left t) top) to (omega arith))

module _ (to left : ℕ) where
  pub late_never : top ≤ to → false ≡ past to left
  unfolding past
  late_never h = rw (le-ltb to top h)

  pub late_some : to < top → ltb to left ≡ past to left
  unfolding past
  late_some h = rw (lt-ltb to top h)

pub ruleset late_ends = (late_never, late_some)

and_none : (a : Bool) → (a && false) ≡ false
and_none true = refl
and_none false = refl

-- ---- the rows of a scope

module _ (sc : Scope) (ts : List ℕ) (from to : ℕ) where
  row_ask : (vs : List ℤ) (i : ℕ) → meets sc ts vs (time_limits from to) i ≡ in_limits from to (time_at sc ts i)
  unfolding meets
  row_ask vs i = limits_ask (scope_columns sc) (scope_row sc ts vs i) from to ∙ ap (in_limits from to) (row_time sc vs ts i)

  -- whatever the values are
  pub limits_any : (us vs : List ℤ) (i : ℕ) → meets sc ts us (time_limits from to) i ≡ meets sc ts vs (time_limits from to) i
  limits_any us vs i = row_ask us i ∙ sym (row_ask vs i)

  -- whether the time of a row is within them
  abbrev asked : ℕ → Bool
  asked i = in_limits from to (time_at sc ts i)

  module _ {left : ℕ} {d : Bool} (el : left ≡ left_time sc ts) (ed : d ≡ past to left) where
    late_is : (v : Bool) → d ≡ v → past to (left_time sc ts) ≡ v
    late_is v f = ap (past to) (sym el) ∙ sym ed ∙ f

    pub limited_none : {x : Rows} → d ≡ true → x ≡ no_rows → x ≡ rows_of asked 0 sc.rows
    unfolding in_limits time_at
    limited_none {x} l f = f ∙ rows_none 0 sc.rows ∙ rows_alike (λ i. false) asked 0 sc.rows (λ i c d. sym (late i))
      where
        late : (i : ℕ) → in_limits from to (min (max (left_time sc ts) (get_or ts (sc.stream * max_rows + i) 0)) top) ≡ false
        late i =
            ap (λ c. cond (leb from top) (leb from (min (max (left_time sc ts) (get_or ts (sc.stream * max_rows + i) 0)) top)) true && c) (never_met from to (left_time sc ts) (get_or ts (sc.stream * max_rows + i) 0) (late_is true l))
            ∙ and_none (cond (leb from top) (leb from (min (max (left_time sc ts) (get_or ts (sc.stream * max_rows + i) 0)) top)) true)

    pub limited_some : {low high : ℕ} {x : Rows} → d ≡ false → low ≡ low_of from left → high ≡ high_of to → x ≡ rows_of (timed ts low high) (sc.stream * 128) sc.rows → x ≡ rows_of asked 0 sc.rows
    unfolding timed in_span in_limits time_at
    limited_some {low} {high} {x} l g eh f = f ∙ sym (rows_shift asked (timed ts low high) (sc.stream * 128) sc.rows near)
      where
        near : (i : ℕ) → in_limits from to (min (max (left_time sc ts) (get_or ts (sc.stream * max_rows + i) 0)) top) ≡ timed ts low high (sc.stream * 128 + i)
        near i =
            let t = get_or ts (sc.stream * max_rows + i) 0 in
            ap₂ ◌&&◌ (first_met from to (left_time sc ts) t ∙ ap (λ (k : ℕ). leb k t) (ap (low_of from) (sym el) ∙ sym g)) (last_met from to (left_time sc ts) t (late_is false l) ∙ ap (λ (k : ℕ). eqb k no_time || leb t k) (sym eh))

  module _ {b : Bool} (e : b ≡ times_fit sc ts) where
    pub within_short : {x : Rows} → not b ≡ true → x ≡ no_rows → x ≡ timely sc ts from to
    unfolding timely
    within_short h f = rw (sym e ∙ not-true b h) f

    pub within_whole : {x : Rows} → not b ≡ false → x ≡ rows_of asked 0 sc.rows → x ≡ timely sc ts from to
    unfolding timely
    within_whole h f = rw (sym e ∙ not-false b h) (f ∙ rows_alike asked (meets sc ts [] (time_limits from to)) 0 sc.rows (λ i c d. sym (row_ask [] i)))

pub ruleset within_ends = (within_short, within_whole)

-- ---- the time and a number, by these limits

and_swap : (a b : Bool) → (a && b) ≡ (b && a)
and_swap true true = refl
and_swap true false = refl
and_swap false true = refl
and_swap false false = refl

module _ (sc : Scope) (ts : List ℕ) (n : ℕ) (v : ℤ) (y : ℕ) (e : v ≡ pos y) (h : y ≤ top) {x : Rows} where
  pub time_same : x ≡ rows_of (asked sc ts y y) 0 n → x ≡ rows_of (compared_at eq (clock_at sc ts) (λ i. v)) 0 n
  unfolding in_limits compared_at clock_at compares
  time_same f = f ∙ rows_alike (asked sc ts y y) (compared_at eq (clock_at sc ts) (λ i. v)) 0 n (λ i a b. rw (e, le-leb y top h) (and_swap (leb y (time_at sc ts i)) (leb (time_at sc ts i) y)))

  pub time_first : x ≡ rows_of (asked sc ts y 4294967295) 0 n → x ≡ rows_of (compared_at ge (clock_at sc ts) (λ i. v)) 0 n
  unfolding in_limits compared_at clock_at compares
  time_first f = f ∙ rows_alike (asked sc ts y 4294967295) (compared_at ge (clock_at sc ts) (λ i. v)) 0 n (λ i a b. rw (e, le-leb y top h) (and_true (leb y (time_at sc ts i))))

  pub time_last : x ≡ rows_of (asked sc ts 4294967295 y) 0 n → x ≡ rows_of (compared_at le (clock_at sc ts) (λ i. v)) 0 n
  unfolding in_limits compared_at clock_at compares
  time_last f = f ∙ rows_alike (asked sc ts 4294967295 y) (compared_at le (clock_at sc ts) (λ i. v)) 0 n (λ i a b. rw (e, le-leb y top h))

-- a value that is not below 0, as a number
module _ (v : ℤ) (f : SFits w32 v) where
  abbrev read_back : ℤ
  read_back = to_z w32 (of_z w32 v)

  back_fits : SFits w32 read_back
  back_fits = subst (SFits w32) (sym (to_z-of_z w32 v f)) f

  module _ (h : lt_z read_back (pos 0) ≡ false) where
    pub natural_cast : T (non_neg read_back) × Fits w32 (nat_abs read_back)
    natural_cast = go read_back back_fits h
      where
        go : (z : ℤ) → SFits w32 z → lt_z z (pos 0) ≡ false → T (non_neg z) × Fits w32 (nat_abs z)
        go (pos k) g l = let m = g.sfits in (tt, record { fits = omega arith })
        go (negsuc k) g l = absurd (subst (λ b. T b) l tt)

    pub natural_is : v ≡ pos (nat_abs read_back)
    natural_is = sym (pos-nat_abs read_back natural_cast.0 ∙ to_z-of_z w32 v f)

    pub natural_low : nat_abs read_back ≤ top
    natural_low = go read_back back_fits h
      where
        go : (z : ℤ) → SFits w32 z → lt_z z (pos 0) ≡ false → nat_abs z ≤ top
        go (pos k) g l = let m = g.sfits in omega arith
        go (negsuc k) g l = absurd (subst (λ b. T b) l tt)

  -- and one that is: below every time, as 0 is below 1
  pub time_above : (head : ℕ) (sc : Scope) (ts : List ℕ) (n : ℕ) {x : Rows} → lt_z read_back (pos 0) ≡ true → x ≡ rows_of (relate head (λ i. pos 1) (λ i. pos 0)) 0 n → x ≡ rows_of (relate head (clock_at sc ts) (λ i. v)) 0 n
  unfolding compared_at clock_at
  time_above head sc ts n h e =
      e ∙ rows_alike (relate head (λ i. pos 1) (λ i. pos 0)) (relate head (clock_at sc ts) (λ i. v)) 0 n
      (λ i a b. sym (above (numbered_op head) (time_at sc ts i) v (go v (subst (λ z. lt_z z (pos 0) ≡ true) (to_z-of_z w32 v f) h) (time_at sc ts i))))
    where
      go : (z : ℤ) → lt_z z (pos 0) ≡ true → (t : ℕ) → lt_z z (pos t) ≡ true
      go (pos k) l t = absurd (let m = ltb-true k 0 l in omega arith)
      go (negsuc k) l t = refl
