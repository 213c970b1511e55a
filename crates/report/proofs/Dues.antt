-- What a cell is, one law for each return.
use mathlib.Core.Path.{◌≡◌, refl, ap, ◌∙◌}
use Prim.Native.Nat.{ℕ, zero, suc, ◌-◌}
use native.Mathlib.Omega.{arith}
use lib.IntN.{ℤ, nat_abs}
use Rattle.text.specs.Words.{name_of, bytes_from}
use Rattle.report.specs.declared.Due.{Due}
use Rattle.report.specs.declared.Due.TheVariants.{Routes, Grant, Partner, Width, Rows, Cell}
use Rattle.report.specs.Outcomes.{rows_due, row_due, due_after, front_of, cell_end, end_of}

-- ---- rows still to come

pub due_flat : (w n : ℕ) → w ≡ 0 → Grant ≡ rows_due w n
unfolding rows_due
due_flat zero n h = refl
due_flat (suc w) n h = absurd (omega arith)

pub due_none : (w n : ℕ) → n ≡ 0 → Grant ≡ rows_due w n
unfolding rows_due
due_none zero n h = refl
due_none (suc w) zero h = refl
due_none (suc w) (suc n) h = absurd (omega arith)

pub due_some : (w n : ℕ) → (w ≡ 0 → ⊥) → (n ≡ 0 → ⊥) → Cell (w - 1) w (n - 1) ≡ rows_due w n
unfolding rows_due
due_some zero n h k = absurd (h refl)
due_some (suc w) zero h k = absurd (k refl)
due_some (suc w) (suc n) h k = let a : suc w - 1 ≡ w = omega arith in let b : suc n - 1 ≡ n = omega arith in rw (a, b)

pub ruleset due_ends = (due_flat, due_none, due_some)

-- ---- after a cell of a row

pub row_over : (k w n : ℕ) {r : Due} → k ≡ 0 → r ≡ rows_due w n → r ≡ row_due k w n
unfolding row_due
row_over zero w n h e = e
row_over (suc k) w n h e = absurd (omega arith)

pub row_on : (k w n : ℕ) → (k ≡ 0 → ⊥) → Cell (k - 1) w n ≡ row_due k w n
unfolding row_due
row_on zero w n h = absurd (h refl)
row_on (suc k) w n h = let a : suc k - 1 ≡ k = omega arith in rw a

pub ruleset row_ends = (row_over, row_on)

-- ---- after a cell

module _ (d : Due) (z : ℤ) where
  pub after_routes : d ≡ Routes → Grant ≡ due_after d z
  unfolding due_after
  after_routes e = rw e

  pub after_grant : d ≡ Grant → Partner ≡ due_after d z
  unfolding due_after
  after_grant e = rw e

  pub after_partner : d ≡ Partner → Width ≡ due_after d z
  unfolding due_after
  after_partner e = rw e

  pub after_width : {n : ℕ} → d ≡ Width → n ≡ nat_abs z → Rows n ≡ due_after d z
  unfolding due_after
  after_width e f = rw (e, f)

  pub after_rows : {w n : ℕ} {r : Due} → d ≡ Rows w → n ≡ nat_abs z → r ≡ rows_due w n → r ≡ due_after d z
  unfolding due_after
  after_rows e f g = rw e (g ∙ ap (rows_due _) f)

  pub after_cell : {k w n : ℕ} {r : Due} → d ≡ Cell k w n → r ≡ row_due k w n → r ≡ due_after d z
  unfolding due_after
  after_cell e f = rw e f

pub ruleset after_ends = (after_routes, after_grant, after_partner, after_width, after_rows, after_cell)

-- ---- the word in front

module _ (d : Due) where
  pub front_routes : d ≡ Routes → name_of 32210697599677216 ≡ front_of d
  unfolding front_of name_of bytes_from
  front_routes e = rw e

  pub front_grant : d ≡ Grant → name_of 125823037498656 ≡ front_of d
  unfolding front_of name_of bytes_from
  front_grant e = rw e

  pub front_partner : d ≡ Partner → name_of 0 ≡ front_of d
  unfolding front_of name_of bytes_from
  front_partner e = rw e

  pub front_width : d ≡ Width → name_of 0 ≡ front_of d
  unfolding front_of name_of bytes_from
  front_width e = rw e

  pub front_rows : {w : ℕ} → d ≡ Rows w → name_of 0 ≡ front_of d
  unfolding front_of name_of bytes_from
  front_rows e = rw e

  pub front_cell : {k w n : ℕ} → d ≡ Cell k w n → name_of 0 ≡ front_of d
  unfolding front_of name_of bytes_from
  front_cell e = rw e

pub ruleset front_ends = (front_routes, front_grant, front_partner, front_width, front_rows, front_cell)

-- ---- the byte after

pub end_here : (k : ℕ) → k ≡ 0 → 10 ≡ cell_end k
unfolding cell_end
end_here zero h = refl
end_here (suc k) h = absurd (omega arith)

pub end_later : (k : ℕ) → (k ≡ 0 → ⊥) → 32 ≡ cell_end k
unfolding cell_end
end_later zero h = absurd (h refl)
end_later (suc k) h = refl

module _ (d : Due) where
  pub end_routes : d ≡ Routes → 10 ≡ end_of d
  unfolding end_of
  end_routes e = rw e

  pub end_grant : d ≡ Grant → 32 ≡ end_of d
  unfolding end_of
  end_grant e = rw e

  pub end_partner : d ≡ Partner → 32 ≡ end_of d
  unfolding end_of
  end_partner e = rw e

  pub end_width : d ≡ Width → 32 ≡ end_of d
  unfolding end_of
  end_width e = rw e

  pub end_rows : {w : ℕ} → d ≡ Rows w → 10 ≡ end_of d
  unfolding end_of
  end_rows e = rw e

  pub end_cell : {k w n b : ℕ} → d ≡ Cell k w n → b ≡ cell_end k → b ≡ end_of d
  unfolding end_of
  end_cell e f = rw e f

pub ruleset end_ends = (end_here, end_later, end_routes, end_grant, end_partner, end_width, end_rows, end_cell)
