-- How many cells the rows of a route can have, case by case.
use mathlib.Core.Path.{◌≡◌, refl, ap, ◌∙◌}
use mathlib.Core.List.{List}
use Prim.Native.Nat.{ℕ, suc, ◌+◌, ◌*◌, ◌≤◌, ◌<◌, ◌/◌}
use native.Mathlib.Nat.{mul-le-mul}
use native.Mathlib.Omega.{arith}
use borrow.Author.Tests.{eq-eqb, ne_eqb, le-leb, lt-leb}
use Rattle.schema.specs.Schemas.{width_in}
use Rattle.schema.proofs.Soundness.{width_most}
use Rattle.ledger.specs.Records.{count_in}
use Rattle.ledger.specs.declared.Ledger.{Ledger}
use Rattle.ledger.proofs.Bounds.{count_le}
use Rattle.needs.specs.Asking.{no_stream}
use Rattle.needs.specs.declared.Needs.{Needs}
use Rattle.route_rows.specs.Rows.{room_end}
use Rattle.ask.specs.Cells.{most_cells}

pub width_few : (ns : List ℕ) (s : ℕ) {k : ℕ} → k ≡ width_in ns s → k ≤ 6
width_few ns s e = let a = width_most ns s in omega arith

-- the cells of the rows of a stream
pub few_cells : (l : Ledger) (s : ℕ) (ns : List ℕ) {r k : ℕ} → r ≡ count_in l s → k ≡ width_in ns s → r * (1 + k) ≤ 896
few_cells l s ns e f = let a = count_le l s in let b = width_most ns s in mul-le-mul {n₂ = 128} {m₂ = 7} (omega arith) (omega arith)

module _ (n : Needs) (ns : List ℕ) (l : Ledger) where
  abbrev Most : ℕ → Type 0
  Most r = (r ≡ most_cells n ns l) × (r ≤ room_end)

  -- of a joined query
  pub most_joined : (n.right ≡ no_stream → ⊥) → Most 67108864
  unfolding most_cells
  most_joined h = (rw (ne_eqb n.right no_stream h) refl, omega arith)

  module _ (a : n.right ≡ no_stream) where
    pub most_plain : n.aggregate ≡ 0 → {r k : ℕ} → r ≡ count_in l n.left → k ≡ width_in ns n.left → Most (r * (1 + k))
    unfolding most_cells
    most_plain b {r} {k} e f =
        let c = few_cells l n.left ns e f in
        (rw (eq-eqb n.right no_stream a, eq-eqb n.aggregate 0 b) (let z : r * (1 + k) ≡ r * suc k = ap (λ j. r * j) (let y : 1 + k ≡ suc k = omega arith in y) in z ∙ rw (e, f) refl), omega arith)

    module _ (b : n.aggregate ≡ 0 → ⊥) where
      pub most_late : 33554432 ≤ l.clock / n.offset → Most 67108864
      unfolding most_cells
      most_late h = (rw (eq-eqb n.right no_stream a, ne_eqb n.aggregate 0 b, le-leb 33554432 (l.clock / n.offset) h) refl, omega arith)

      pub most_windows : l.clock / n.offset < 33554432 → Most ((l.clock / n.offset + 1) * 2)
      unfolding most_cells
      most_windows h = (rw (eq-eqb n.right no_stream a, ne_eqb n.aggregate 0 b, lt-leb 33554432 (l.clock / n.offset) h) (omega arith), omega arith)
