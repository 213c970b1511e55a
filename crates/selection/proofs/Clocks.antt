-- The time of a row beside a left one as a value, and compared with a column.
use mathlib.Core.Path.{◌≡◌, ap, ◌∙◌}
use mathlib.Core.List.{List}
use mathlib.Core.Bool.{cond}
use Prim.Native.Nat.{ℕ, ◌+◌, ◌*◌, ◌<◌, min, max}
use native.Mathlib.Decide.{dec_lt}
use native.Mathlib.Omega.{arith}
use lib.IntN.{ℤ, pos}
use lib.Dec.{ltb}
use lib.ListN.{get_or}
use borrow.Author.Tests.{lt-ltb, le-ltb}
use Rattle.syntax.specs.Grammar.{lt, gt}
use Rattle.syntax.specs.Limits.{max_rows, top}
use Rattle.model.specs.Meaning.{compares}
use Rattle.nodes.specs.Nodes.{numbered_op}
use Rattle.rows.specs.declared.Rows.{Rows}
use Rattle.rows.specs.Masks.{rows_of}
use Rattle.rows.proofs.Masks.{rows_alike}
use Rattle.column_masks.specs.Columns.{compared_at}
use Rattle.selection.specs.declared.Scope.{Scope}
use Rattle.time_masks.specs.Times.{later_of, clocked}
use Rattle.selection.specs.Evaluating.{relate, left_time, time_at, clock_at}

-- beside a left row
module _ (sc : Scope) (ts : List ℕ) {low : ℤ} (e : low ≡ later_of (pos 0) (left_time sc ts)) where
  start : low ≡ pos (min (left_time sc ts) top)
  unfolding later_of
  start = rw (le-ltb (min (left_time sc ts) top) 0 (omega arith)) at e

  later_is : (l t : ℕ) → later_of (pos (min l top)) t ≡ pos (min (max l t) top)
  unfolding later_of
  later_is l t = go (dec_lt (min t top) (min l top))
    where
      go : Dec (min t top < min l top) → cond (ltb (min t top) (min l top)) (pos (min l top)) (pos (min t top)) ≡ pos (min (max l t) top)
      go (yes h) = let z : min l top ≡ min (max l t) top = omega arith in rw (lt-ltb (min t top) (min l top) h) (ap pos z)
      go (no h) = let z : min t top ≡ min (max l t) top = omega arith in rw (le-ltb (min t top) (min l top) (omega arith)) (ap pos z)

  pub clocked_is : (i : ℕ) → clocked low ts (sc.stream * max_rows) i ≡ clock_at sc ts i
  unfolding clocked clock_at time_at
  clocked_is i = ap (λ z. later_of z (get_or ts (sc.stream * max_rows + i) 0)) start ∙ later_is (left_time sc ts) (get_or ts (sc.stream * max_rows + i) 0)

  pub clocked_rows : (head : ℕ) (g : ℕ → ℤ) (n : ℕ) {x : Rows} → x ≡ rows_of (relate head (clocked low ts (sc.stream * max_rows)) g) 0 n → x ≡ rows_of (relate head (clock_at sc ts) g) 0 n
  unfolding compared_at
  clocked_rows head g n f = f ∙ rows_alike (relate head (clocked low ts (sc.stream * max_rows)) g) (relate head (clock_at sc ts) g) 0 n (λ i a b. ap (λ z. compares (numbered_op head) z (g i)) (clocked_is i))

-- ---- compared the other way round

-- for all rows
pub rows_above : (f g : ℕ → ℤ) (n : ℕ) {x : Rows} → x ≡ rows_of (compared_at gt f g) 0 n → x ≡ rows_of (compared_at lt g f) 0 n
unfolding compared_at compares
rows_above f g n e = e
