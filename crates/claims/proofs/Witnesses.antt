-- Demand 3 speaks of lists that differ: what they hide, what they refuse, and what no window has told yet.
use mathlib.Core.Path.{◌≡◌, refl, sym}
use mathlib.Core.List.{List, [], ◌∷◌}
use mathlib.Core.Bool.{Bool, true, false}
use mathlib.Core.Option.{none}
use Prim.Native.Nat.{ℕ, suc, ◌+◌, ◌*◌, ◌/◌, ◌<◌}
use native.Mathlib.Omega.{arith}
use lib.IntN.{ℤ, pos}
use lib.Dec.{T, leb, leb→le}
use lib.Signed.{le_z}
use Rattle.lists.specs.Lists.{nth, select, count_from}
use Rattle.lists.proofs.Laws.{all_nil, all_cons, all_head}
use Rattle.syntax.specs.Grammar as G
use Rattle.syntax.specs.Grammar.{Bytes, bytes}
use Rattle.model.specs.Queries.{Schema, Row, Record, Grant, Caller, col, column, number}
use Rattle.model.specs.Aggregates.{closed}
use Rattle.model.specs.Alike.{Alike}
use Rattle.calls.specs.Calls as C
use Rattle.calls.specs.Calls.{Call, after, next_catalogue}
use Rattle.calls.specs.Scripts.{scripts_compute}

unfoldable pub fitter : Caller
fitter = record { roles = bytes "fitter" ∷ []; profile = [] }

abbrev declared : Call
declared = C.stream (bytes "(stream test lot volts)")

unfoldable pub streams : Schema
streams = record { name = bytes "test"; columns = bytes "lot" ∷ bytes "volts" ∷ [] } ∷ []

-- a record of one stream at a time
unfoldable recorded : ℕ → List Row → Record
recorded time rs = record { clock = time; schema = streams; rows = rs ∷ [] }

unfoldable unit : ℕ → ℕ → ℕ → Row
unit time lot volts = record { at = time; values = pos lot ∷ pos volts ∷ [] }

-- the catalogue of one line
abbrev granted : Bytes → List Grant
granted line = next_catalogue streams [] line

-- ---- a hidden row, a refused call, a clear and the same rows again

-- two units, a clear and one of the units again, after a clock that is refused; then a row of too many values, and a unit of another lot
abbrev much : List Call
much =
    declared ∷ C.row 0 (pos 7 ∷ pos 29 ∷ []) ∷ C.row 0 (pos 9 ∷ pos 11 ∷ []) ∷ C.clock (pos 3) ∷ C.clock (pos 2) ∷ C.clear
    ∷ C.row 0 (pos 7 ∷ pos 30 ∷ []) ∷ C.row 0 (pos 7 ∷ pos 30 ∷ pos 0 ∷ []) ∷ C.row_line (bytes "(row test 9 44)") ∷ []

abbrev little : List Call
little = declared ∷ C.clock (pos 3) ∷ C.row 0 (pos 7 ∷ pos 30 ∷ []) ∷ []

much_leaves : after much ≡ recorded 3 (unit 3 7 30 ∷ unit 3 9 44 ∷ [])
unfolding scripts_compute recorded streams unit
much_leaves = refl

little_leaves : after little ≡ recorded 3 (unit 3 7 30 ∷ [])
unfolding scripts_compute recorded streams unit
little_leaves = refl

unfoldable lot_seven : Grant
lot_seven =
    record {
      role = bytes "fitter";
      right = G.read;
      of = 0 ∷ [];
      shown = col 0 0 ∷ col 0 1 ∷ [];
      when = G.test (record { op = G.eq; left = column (col 0 0); right = number (pos 7) }) ∷ [];
      from = none;
      to = none;
      size = 0;
      offset = 0;
    }

lot_granted : granted (bytes "(grant fitter read (of test) (show *) (when (= test.lot 7)))") ≡ lot_seven ∷ []
unfolding scripts_compute streams lot_seven
lot_granted = refl

lot_alike : Alike (recorded 3 (unit 3 7 30 ∷ unit 3 9 44 ∷ [])) (recorded 3 (unit 3 7 30 ∷ [])) fitter (lot_seven ∷ [])
unfolding scripts_compute recorded streams unit lot_seven fitter
lot_alike =
    record {
      clocks = refl;
      schemas = refl;
      shown = all_cons (λ t. record { rows_same = λ u. refl; figures_same = λ f u. absurd u }) all_nil;
    }

pub hidden_alike : Alike (after much) (after little) fitter (granted (bytes "(grant fitter read (of test) (show *) (when (= test.lot 7)))"))
hidden_alike = rw (much_leaves, little_leaves, lot_granted) lot_alike

-- ---- a window that is open, and the same when it has closed

unfoldable sums : Grant
sums =
    record {
      role = bytes "fitter";
      right = G.figures G.sum;
      of = 0 ∷ [];
      shown = col 0 1 ∷ [];
      when = [];
      from = none;
      to = none;
      size = 10;
      offset = 10;
    }

sums_granted : granted (bytes "(grant fitter sum (of test) (show test.volts) (window 10 10))") ≡ sums ∷ []
unfolding scripts_compute streams sums
sums_granted = refl

-- a unit of so many volts, and the clock goes on
abbrev until : ℤ → ℤ → List Call
until volts time = declared ∷ C.row 0 (pos 7 ∷ volts ∷ []) ∷ C.clock time ∷ []

-- no window has closed that is longer than the clock
none_closed : (now size offset : ℕ) → now < size → closed now size offset ≡ []
unfolding closed select
none_closed now size offset h = go (count_from 0 (suc (now / offset)))
  where
    late : (b : Bool) (k : ℕ) → leb (k * offset + size) now ≡ b → b ≡ false
    late true k e = absurd (omega (arith, leb→le (k * offset + size) now (rw e tt), h))
    late false k e = refl

    go : (ks : List ℕ) → select (λ k. leb (k * offset + size) now) ks ≡ []
    go [] = refl
    go (k ∷ ks) = rw (late _ k refl) (go ks)

sums_alike : Alike (recorded 9 (unit 0 7 30 ∷ [])) (recorded 9 (unit 0 7 31 ∷ [])) fitter (sums ∷ [])
unfolding scripts_compute recorded streams unit sums fitter
sums_alike =
    record {
      clocks = refl;
      schemas = refl;
      shown = all_cons {x = sums}
          (λ t. record { rows_same = λ u. absurd u; figures_same = λ f u c v size offset a b w m n. rw (none_closed 9 size offset (omega (arith, leb→le 10 size m))) refl })
          all_nil;
    }

nine_leaves : (after (until (pos 30) (pos 9)) ≡ recorded 9 (unit 0 7 30 ∷ [])) × (after (until (pos 31) (pos 9)) ≡ recorded 9 (unit 0 7 31 ∷ []))
unfolding scripts_compute recorded streams unit
nine_leaves = (refl, refl)

-- Two units of different voltage, at time 9: no sum is admitted yet, and nothing tells them apart.
pub open_alike : Alike (after (until (pos 30) (pos 9))) (after (until (pos 31) (pos 9))) fitter (granted (bytes "(grant fitter sum (of test) (show test.volts) (window 10 10))"))
open_alike = let (p, q) = nine_leaves in rw (p, q, sums_granted) sums_alike

ten_leaves : (after (until (pos 30) (pos 10)) ≡ recorded 10 (unit 0 7 30 ∷ [])) × (after (until (pos 31) (pos 10)) ≡ recorded 10 (unit 0 7 31 ∷ []))
unfolding scripts_compute recorded streams unit
ten_leaves = (refl, refl)

sums_apart : Alike (recorded 10 (unit 0 7 30 ∷ [])) (recorded 10 (unit 0 7 31 ∷ [])) fitter (sums ∷ []) → ⊥
unfolding scripts_compute recorded streams unit sums fitter
sums_apart a = told _ _ ((all_head a.shown tt).figures_same G.sum tt (col 0 1) tt 10 10 tt tt tt tt tt) tt
  where
    -- the first figure is at most 30
    low : List Row → Bool
    low [] = false
    low (r ∷ rs) = le_z (nth (pos 0) r.values 0) (pos 30)

    told : (rs ss : List Row) → rs ≡ ss → T (low rs) → T (low ss)
    told rs ss e t = rw (sym e) t

-- At time 10 the window has closed, and its sum tells them apart.
pub closed_apart : Alike (after (until (pos 30) (pos 10))) (after (until (pos 31) (pos 10))) fitter (granted (bytes "(grant fitter sum (of test) (show test.volts) (window 10 10))")) → ⊥
closed_apart a = let (p, q) = ten_leaves in sums_apart (rw (sym p, sym q, sym sums_granted) a)
