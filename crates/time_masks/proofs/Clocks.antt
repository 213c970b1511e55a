-- Times as values, and weights by them.
use mathlib.Core.Path.{◌≡◌, sym, ap, ap₂, ◌∙◌}
use mathlib.Core.List.{List}
use mathlib.Core.Bool.{Bool, true, false}
use Prim.Native.Nat.{ℕ, ◌+◌, ◌*◌, ◌-◌, ◌/◌, ◌%◌, ◌^◌, ◌<◌, min}
use native.Mathlib.Decide.{dec_lt}
use native.Mathlib.Omega.{arith}
use lib.Bits.{bit_and, bit_or, and_mask, or_zero_r, or_add_and}
use lib.IntN.{ℤ, pos}
use lib.ListN.{get_or, take, drop}
use lib.Seq.{get_or-take, get_or-drop}
use lib.Signed.{lt_z}
use mir.Syntax.{w32}
use mir.Val.{of_z, to_z, SFits, Fits}
use mir.ValLaws.{to_z-of_z, to_z_pos}
use Rattle.syntax.specs.Grammar.{Op}
use Rattle.syntax.specs.Limits.{top}
use Rattle.model.specs.Meaning.{compares}
use Rattle.rows.specs.Masks.{one, bits}
use Rattle.column_masks.specs.Columns.{strip, compared_at}
use Rattle.time_masks.specs.Times.{later_of, clocked}
use Rattle.time_masks.proofs.Weights.{weight_fits, weight_more}

-- ---- a weight by a test

module _ (w : ℕ) {b c : Bool} (e : b ≡ c) where
  pub weight_whole : b ≡ true → w ≡ one c * w
  weight_whole h = let z : w ≡ one true * w = omega arith in z ∙ ap (λ d. one d * w) (sym h ∙ e)

  pub weight_nothing : b ≡ false → 0 ≡ one c * w
  weight_nothing h = let z : 0 ≡ one false * w = omega arith in z ∙ ap (λ d. one d * w) (sym h ∙ e)

pub ruleset weight_ends = (weight_whole, weight_nothing)

-- ---- at most the highest

pub capped_is : (t : ℕ) → t < 4294967296 → bit_and (bit_or t (t / 2147483648 * 4294967295)) 2147483647 ≡ min t top
capped_is t h = and_mask (bit_or t (t / 2147483648 * 4294967295)) 31 ∙ go (dec_lt t 2147483648)
  where
    go : Dec (t < 2147483648) → bit_or t (t / 2147483648 * 4294967295) % 2147483648 ≡ min t top
    go (yes k) =
        let z : t / 2147483648 ≡ 0 = omega arith in
        rw (z, or_zero_r t) (omega arith)
    go (no k) =
        let z : t / 2147483648 ≡ 1 = omega arith in
        let m = and_mask t 32 in
        let a = or_add_and t 4294967295 in
        let o : bit_or t 4294967295 ≡ 4294967295 = omega arith in
        rw (z, o) (omega arith)

-- ---- the later of two

module _ (low : ℤ) (t : ℕ) (fl : SFits w32 low) {s : ℕ} (e : s ≡ min t top) {x : ℤ} (g : x ≡ to_z w32 s) where
  cell_is : x ≡ pos (min t top)
  cell_is = g ∙ to_z_pos w32 s (omega arith) ∙ ap pos e

  cell_fits : SFits w32 x
  cell_fits = rw cell_is (record { sfits = omega arith })

  test_is : lt_z (to_z w32 (of_z w32 x)) (to_z w32 (of_z w32 low)) ≡ lt_z (pos (min t top)) low
  test_is = ap₂ lt_z (to_z-of_z w32 x cell_fits ∙ cell_is) (to_z-of_z w32 low fl)

  pub later_low : lt_z (to_z w32 (of_z w32 x)) (to_z w32 (of_z w32 low)) ≡ true → low ≡ later_of low t
  unfolding later_of
  later_low h = rw (sym test_is ∙ h)

  pub later_own : lt_z (to_z w32 (of_z w32 x)) (to_z w32 (of_z w32 low)) ≡ false → x ≡ later_of low t
  unfolding later_of
  later_own h = rw (sym test_is ∙ h) cell_is

pub ruleset later_ends = (later_low, later_own)

-- ---- the weight of a row

module _ (low : ℤ) (ts : List ℕ) (at : ℕ) (vs : List ℤ) (q w : ℕ) {x y : ℤ} {b : ℕ} (ex : x ≡ later_of low (get_or ts at 0)) (ey : y ≡ get_or vs q (pos 0)) where
  pub at_weight : (op : Op) → b ≡ one (compares op x y) * w → b ≡ one (compares op (later_of low (get_or ts at 0)) (get_or vs q (pos 0))) * w
  at_weight op e = e ∙ ap₂ (λ x y. one (compares op x y) * w) ex ey

module _ (op : Op) (low : ℤ) (ts : List ℕ) (from : ℕ) (vs : List ℤ) (p i : ℕ) where
  row_weight : (d at q w : ℕ) {b : ℕ} → at ≡ from + (d + i) → q ≡ (d + i) * 6 → q < 763 → b ≡ one (compares op (later_of low (get_or ts at 0)) (get_or (take (p + 763 - p) (drop p vs)) q (pos 0))) * w
      → b ≡ one (compared_at op (clocked low ts from) (strip vs p 6) (d + i)) * w
  unfolding compared_at clocked strip
  row_weight d at q w ea e h eb =
      eb ∙ ap₂ (λ x y. one (compares op x y) * w) (ap (λ (j : ℕ). later_of low (get_or ts j 0)) ea)
      (get_or-take (p + 763 - p) (drop p vs) q (pos 0) (omega arith) ∙ get_or-drop p vs q (pos 0) ∙ ap (λ (j : ℕ). get_or vs (p + j) (pos 0)) e)

  -- a word with it
  module _ (few : i < 32) (d at q : ℕ) {m b : ℕ} (ea : at ≡ from + (d + i)) (e : q ≡ (d + i) * 6) (h : q < 763) (em : m ≡ bits (compared_at op (clocked low ts from) (strip vs p 6)) d i)
      (eb : b ≡ one (compares op (later_of low (get_or ts at 0)) (get_or (take (p + 763 - p) (drop p vs)) q (pos 0))) * ((1 * 2 ^ i) % 2 ^ 32)) where
    pub row_fits : Fits w32 (m + b)
    row_fits = weight_fits (compared_at op (clocked low ts from) (strip vs p 6)) d i few em (row_weight d at q ((1 * 2 ^ i) % 2 ^ 32) ea e h eb)

    pub row_more : m + b ≡ bits (compared_at op (clocked low ts from) (strip vs p 6)) d (i + 1)
    row_more = weight_more (compared_at op (clocked low ts from) (strip vs p 6)) d i few em (row_weight d at q ((1 * 2 ^ i) % 2 ^ 32) ea e h eb)
