use mathlib.Core.Path.{◌≡◌, sym, ap}
use native.Mathlib.Numerals.{add-one}
use native.Mathlib.Omega.{arith}
use lib.ListN.{length}
use lib.Seq.{set_out}
use borrow.Author.Rules.{rules}
use Rattle.syntax.specs.Limits.{max_streams}
use Rattle.ledger.specs.Calls.{with_rows}
use Rattle.ledger.proofs.Bounds.{count_le}
use Rattle.ledger.proofs.Ledger.with_row.Goals as goal
use Rattle.ledger.proofs.Ledger.with_row.Goals.{Start}

four : (c : Start) → length c.args.self.rows ≡ max_streams
four c = search rules

pub returns-then-s-ge-MOST : goal.returns-then-s-ge-MOST
unfolding with_rows
returns-then-s-ge-MOST c =
    let a = c.args in
    let l = four (goal.at.returns-then-s-ge-MOST c).Start in
    ap (λ rs. record { clock = a.self.clock; rows = rs }) (sym (set_out a.self.rows a.s _ (omega arith)))

pub overflow_add-next : goal.overflow_add-next
overflow_add-next c = omega (arith, count_le c.args.self c.args.s, c.count-count.ensures)

pub overflow_cast-next : goal.overflow_cast-next
overflow_cast-next c = omega (arith, count_le c.args.self c.args.s, c.count-count.ensures)

pub returns : goal.returns
unfolding with_rows
returns c = rw (c.count-count.ensures, add-one)
