-- The header of a route, and the place after its cells.
use mathlib.Core.Path.{◌≡◌, ap, ◌∙◌}
use mathlib.Core.List.{List}
use mathlib.Core.Bool.{true, false}
use Prim.Native.Nat.{ℕ, suc, ◌+◌, ◌*◌, ◌/◌, ◌≤◌, ◌<◌}
use native.Mathlib.Nat.{le-div_iff_mul-le}
use native.Mathlib.Decide.{dec_le}
use native.Mathlib.Omega.{arith}
use mir.Syntax.{w32, w64}
use mir.Val.{Fits, to_z}
use mir.ValLaws.{to_z_pos}
use lib.IntN.{ℤ, pos}
use lib.ListN.{set}
use lib.Seq.{sets}
use borrow.Author.Tests.{ne_eqb}
use Rattle.pairs.specs.Given.{Counted}
use Rattle.route_plan.specs.declared.Way.{Way}
use Rattle.route_cells.specs.Routes.{second_number, way_header}

-- ---- its cells

pub cell_put : (cells : List ℤ) (i v : ℕ) → v ≤ 4294967296 → set cells i (to_z w64 v) ≡ set cells i (pos v)
cell_put cells i v h = ap (set cells i) (to_z_pos w64 v (omega arith))

module _ (y : Way) where
  pub second_other : (y.kind ≡ 1 → ⊥) → (0 ≡ second_number y) × (0 ≤ 4294967296)
  unfolding second_number
  second_other a = (rw (ne_eqb y.kind 1 a), omega arith)

  pub second_lone : y.kind ≡ 1 → y.lone ≡ true → (0 ≡ second_number y) × (0 ≤ 4294967296)
  unfolding second_number
  second_lone e l = (rw (e, l), omega arith)

  pub second_right : y.kind ≡ 1 → y.lone ≡ false → y.right.place < 4294967296 → (y.right.place + 1 ≡ second_number y) × (y.right.place + 1 ≤ 4294967296)
  unfolding second_number
  second_right e l h = (rw (e, l) (omega arith), omega arith)

pub header_put : (y : Way) (width rows : ℕ) (cells : List ℤ) (at : ℕ) {k : ℕ} {c₁ c₂ c₃ c₄ : List ℤ} → c₁ ≡ set cells at (pos (y.left.place + 1)) → k ≡ second_number y → c₂ ≡ set c₁ (at + 1) (pos k) → c₃ ≡ set c₂ (at + 2) (pos width)
    → c₄ ≡ set c₃ (at + 3) (pos rows) → c₄ ≡ sets cells at (way_header y width rows)
unfolding way_header
header_put y width rows cells at e f g h i =
    let a : y.left.place + 1 ≡ suc y.left.place = omega arith in
    let b : at + 1 ≡ suc at = omega arith in
    let k : at + 2 ≡ suc (suc at) = omega arith in
    let m : at + 3 ≡ suc (suc (suc at)) = omega arith in
    i ∙ rw (h, g, e, a, b, k, m, f)

-- ---- the place after it

module _ (n width at room : ℕ) (some : 1 ≤ width) where
  pub past_room : room / width < n → (k : ℕ) → Counted k (room / width) n → Counted (at + (4 + k * width)) room (room + 1)
  past_room h k c = record { exact = λ l. absurd (over l); beyond = λ l. omega arith }
    where
      over : at + (4 + k * width) ≤ room → ⊥
      over l =
          let a : k ≤ room / width = (le-div_iff_mul-le some).1 (omega arith) in
          let b = c.exact a in
          omega arith

  product : n ≤ room / width → n * width ≤ room
  product h = (le-div_iff_mul-le some).0 h

  pub product_fits : n ≤ room / width → room ≤ 67108864 → Fits w32 (n * width)
  product_fits h l = let a = product h in record { fits = omega arith }

  pub after_fits : n ≤ room / width → at ≤ room → room ≤ 67108864 → Fits w32 (at + 4 + n * width)
  after_fits h k l = let a = product h in record { fits = omega arith }

  pub in_room : n ≤ room / width → (k : ℕ) → Counted k (room / width) n → Counted (at + (4 + k * width)) room (at + 4 + n * width)
  in_room h k c =
      record {
        exact = λ l. let e = c.exact ((le-div_iff_mul-le some).1 (omega arith)) in same e;
        beyond = λ l. go (dec_le k (room / width)) l;
      }
    where
      same : n ≡ k → at + 4 + n * width ≡ at + (4 + k * width)
      same e = rw e (omega arith)

      go : Dec (k ≤ room / width) → room < at + (4 + k * width) → room < at + 4 + n * width
      go (yes a) l = let e = same (c.exact a) in omega arith
      go (no a) l = let b = c.beyond (omega arith) in absurd (omega arith)

pub ruleset after_ends = (past_room, in_room)
