-- What two records may differ in and still be alike for a caller: what the grants of others show, and figures of windows that no grant admits.
use mathlib.Core.Path.{◌≡◌, refl, sym, ap, ◌∙◌, subst}
use mathlib.Core.List.{List, [], ◌∷◌, map}
use mathlib.Core.Bool.{Bool, true, false, ◌&&◌, not, cond}
use mathlib.Core.Option.{none}
use Prim.Native.Nat.{ℕ, zero, suc, ◌+◌, ◌*◌, ◌≤◌}
use native.Mathlib.Omega.{arith}
use lib.IntN.{ℤ, pos}
use lib.Dec.{T, leb, ltb, leb→le, le→leb, lt→ltb, T_not}
use lib.Signed.{le_z}
use Rattle.lists.specs.Lists.{nth, select}
use Rattle.lists.proofs.Laws.{all_nil, all_cons, all_head, T_true, and_both, and_l, and_r, or_cases, same_truth, never}
use Rattle.lists.proofs.Gathers.{gather_alike}
use Rattle.syntax.specs.Grammar as G
use Rattle.syntax.specs.Grammar.{bytes}
use Rattle.model.specs.Queries.{Schema, Row, Record, Grant, Caller, Col, col, same_col, self, column}
use Rattle.model.specs.Aggregates.{total, figure_of, in_window, closed, answer_row, window, figures_of}
use Rattle.model.specs.Grants.{admitted}
use Rattle.model.specs.Checks.{fitting}
use Rattle.model.specs.Routes.{gives}
use Rattle.model.specs.Alike.{ShowsSame, Alike}
use Rattle.model.proofs.Columns.{same_col→eq}
use Rattle.calls.specs.Scripts.{scripts_compute}

-- ---- two rows, at times 0 and 1, of the same sum

unfoldable pub streams : Schema
streams = record { name = bytes "test"; columns = bytes "volts" ∷ [] } ∷ []

unfoldable pub at : ℕ → ℕ → Row
at time volts = record { at = time; values = pos volts ∷ [] }

unfoldable pub recorded : ℕ → ℕ → ℕ → Record
recorded now first second = record { clock = now; schema = streams; rows = (at 0 first ∷ at 1 second ∷ []) ∷ [] }

unfoldable pub teller : Caller
teller = record { roles = bytes "teller" ∷ []; profile = [] }

-- windows of two or more times, two or more apart, hold both rows or neither
both_or_neither : (size offset k : ℕ) (v w : List ℤ) → 2 ≤ size → 2 ≤ offset → in_window size offset k (record { at = 0; values = v }) ≡ in_window size offset k (record { at = 1; values = w })
unfolding in_window
both_or_neither size offset zero v w h l = inside 0 (omega arith) ∙ sym (inside 1 (omega arith))
  where
    inside : (time : ℕ) → time ≤ 1 → (leb (0 * offset) time && ltb time (0 * offset + size)) ≡ true
    inside time g =
        T_true (leb (0 * offset) time && ltb time (0 * offset + size))
        (and_both (leb (0 * offset) time) (ltb time (0 * offset + size)) (le→leb (0 * offset) time (omega arith)) (lt→ltb time (0 * offset + size) (omega arith)))
both_or_neither size offset (suc j) v w h l = outside 0 (omega arith) ∙ sym (outside 1 (omega arith))
  where
    late : suc j * offset ≤ 1 → ⊥
    late g = omega (arith, g, l)

    outside : (time : ℕ) → time ≤ 1 → (leb (suc j * offset) time && ltb time (suc j * offset + size)) ≡ false
    outside time g =
        same_truth (leb (suc j * offset) time && ltb time (suc j * offset + size)) false
        (λ t. late (let i = leb→le (suc j * offset) time (and_l (leb (suc j * offset) time) (ltb time (suc j * offset + size)) t) in omega arith)) (λ t. absurd t)

-- so sums over them tell the two rows' sum alone
module _ (value : Row → ℤ) (a b c d : List ℤ) where
  abbrev rows_of : List ℤ → List ℤ → List Row
  rows_of v w = record { at = 0; values = v } ∷ record { at = 1; values = w } ∷ []

  same_window : (size offset k : ℕ) → 2 ≤ size → 2 ≤ offset → total (map value (rows_of a b)) ≡ total (map value (rows_of c d))
      → window G.sum value size offset (rows_of a b) k ≡ window G.sum value size offset (rows_of c d) k
  unfolding window select answer_row figure_of in_window
  same_window size offset k h l e =
      go (leb (k * offset) 0 && ltb 0 (k * offset + size)) (leb (k * offset) 1 && ltb 1 (k * offset + size)) (both_or_neither size offset k a b h l)
    where
      go : (p q : Bool) → p ≡ q
          → answer_row G.sum (k * offset + size) (map value (cond p (record { at = 0; values = a } ∷ cond q (record { at = 1; values = b } ∷ []) []) (cond q (record { at = 1; values = b } ∷ []) [])))
          ≡ answer_row G.sum (k * offset + size) (map value (cond p (record { at = 0; values = c } ∷ cond q (record { at = 1; values = d } ∷ []) []) (cond q (record { at = 1; values = d } ∷ []) [])))
      go true true f = ap (λ z. record { at = k * offset + size; values = z ∷ [] } ∷ []) e
      go true false f = never f
      go false true f = never (sym f)
      go false false f = refl

  same_figures : (now size offset : ℕ) → 2 ≤ size → 2 ≤ offset → total (map value (rows_of a b)) ≡ total (map value (rows_of c d))
      → figures_of now G.sum value size offset (rows_of a b) ≡ figures_of now G.sum value size offset (rows_of c d)
  unfolding figures_of
  same_figures now size offset h l e = gather_alike _ _ (closed now size offset) (λ k. same_window size offset k h l e)

-- ---- figures of windows that no grant admits

-- sums of volts, of windows not below these
unfoldable pub sums : ℕ → ℕ → Grant
sums size offset =
    record { role = bytes "teller"; right = G.figures G.sum; of = 0 ∷ []; shown = col 0 0 ∷ []; when = []; from = none; to = none; size = size; offset = offset }

module _ (now least_size least-offset : ℕ) (admits : (size offset : ℕ) → T (fitting size offset) → T (leb least_size size) → T (leb least-offset offset) → (2 ≤ size) × (2 ≤ offset)) where
  sums_shown : ShowsSame (recorded now 30 5) (recorded now 20 15) teller (sums least_size least-offset)
  unfolding scripts_compute recorded at streams sums teller
  sums_shown =
      record {
        rows_same = λ u. absurd u;
        figures_same = λ f u c v size offset i j w m n. let (h, l) = admits size offset w m n in told f u c (same_col→eq c (col 0 0) (or_cases (same_col c (col 0 0)) false v (λ t. t) (λ t. absurd t))) size offset h l;
      }
    where
      told : (f : G.Fn) → T (gives f (G.figures G.sum)) → (c : Col) → c ≡ col 0 0 → (size offset : ℕ) → 2 ≤ size → 2 ≤ offset
          → (admitted (recorded now 30 5) teller (sums least_size least-offset) f c size offset).rows ≡ (admitted (recorded now 20 15) teller (sums least_size least-offset) f c size offset).rows
      told G.min u c e size offset h l = absurd u
      told G.max u c e size offset h l = absurd u
      told G.count u c e size offset h l = absurd u
      told G.avg u c e size offset h l = absurd u
      told G.sum u c e size offset h l = rw e (same_figures _ (pos 30 ∷ []) (pos 5 ∷ []) (pos 20 ∷ []) (pos 15 ∷ []) now size offset h l refl)

  sums_alike : Alike (recorded now 30 5) (recorded now 20 15) teller (sums least_size least-offset ∷ [])
  unfolding recorded
  sums_alike = record { clocks = refl; schemas = refl; shown = all_cons (λ t. sums_shown) all_nil }

-- a teller of sums of windows of two times or more, two or more apart, is not told which of the two rows holds how much
pub windows_alike : Alike (recorded 100 30 5) (recorded 100 20 15) teller (sums 2 2 ∷ [])
windows_alike = sums_alike 100 2 2 (λ size offset w m n. (leb→le 2 size m, leb→le 2 offset n))

-- nor one who is admitted to windows of 65 times and more, wherever they begin: one apart, they would be longer than 64 offsets
pub unfit_alike : Alike (recorded 100 30 5) (recorded 100 20 15) teller (sums 65 1 ∷ [])
unfolding fitting
unfit_alike = sums_alike 100 65 1 (λ size offset w m n. let i = leb→le 65 size m in let j = longest size offset w in (omega arith, omega arith))
  where
    longest : (size offset : ℕ) → T (fitting size offset) → size ≤ 64 * offset
    longest size offset w = leb→le size (64 * offset) (and_r (leb 1 size && leb 1 offset) (leb size (64 * offset)) w)

-- the figure at a place is at most a number
low : ℕ → ℤ → List Row → Bool
low n z rs = le_z (nth (pos 0) (nth (record { at = 0; values = [] }) rs n).values 0) z

apart : (n : ℕ) (z : ℤ) (rs ss : List Row) → rs ≡ ss → T (not (low n z rs)) → T (low n z ss) → ⊥
apart n z rs ss e t u = T_not (low n z ss) (subst (λ (l : List Row). T (not (low n z l))) e t) u

-- a window of one time tells them apart, and so do windows one apart, of 64 times too
pub sizes_apart : Alike (recorded 100 30 5) (recorded 100 20 15) teller (sums 1 2 ∷ []) → ⊥
unfolding scripts_compute recorded at streams sums teller low
sizes_apart a = apart 0 (pos 20) _ _ ((all_head a.shown tt).figures_same G.sum tt (col 0 0) tt 1 2 tt tt tt tt tt) tt tt

pub offsets_apart : Alike (recorded 100 20 15) (recorded 100 30 5) teller (sums 2 1 ∷ []) → ⊥
unfolding scripts_compute recorded at streams sums teller low
offsets_apart a = apart 1 (pos 5) _ _ ((all_head a.shown tt).figures_same G.sum tt (col 0 0) tt 2 1 tt tt tt tt tt) tt tt

pub fit_apart : Alike (recorded 100 20 15) (recorded 100 30 5) teller (sums 64 1 ∷ []) → ⊥
unfolding scripts_compute recorded at streams sums teller low
fit_apart a = apart 1 (pos 5) _ _ ((all_head a.shown tt).figures_same G.sum tt (col 0 0) tt 64 1 tt tt tt tt tt) tt tt

-- ---- what the grants of others show

-- all rows, to one of another role, and to a teller with an entry
unfoldable pub reading : List Grant
reading =
    record { role = bytes "clerk"; right = G.read; of = 0 ∷ []; shown = col 0 0 ∷ []; when = []; from = none; to = none; size = 0; offset = 0 }
    ∷ record { role = bytes "teller"; right = G.read; of = 0 ∷ []; shown = col 0 0 ∷ []; when = G.test (record { op = G.ge; left = column (col 0 0); right = self (bytes "least") }) ∷ []; from = none; to = none; size = 0; offset = 0 }
    ∷ []

pub others_alike : Alike (recorded 100 30 5) (recorded 100 20 15) teller reading
unfolding scripts_compute recorded at streams reading teller
others_alike = record { clocks = refl; schemas = refl; shown = all_cons (λ t. absurd t) (all_cons (λ t. absurd t) all_nil) }

-- to these they differ
pub clerks_apart : Alike (recorded 100 30 5) (recorded 100 20 15) (record { roles = bytes "clerk" ∷ []; profile = [] }) reading → ⊥
unfolding scripts_compute recorded at streams reading low
clerks_apart a = apart 0 (pos 20) _ _ ((all_head a.shown tt).rows_same tt) tt tt
