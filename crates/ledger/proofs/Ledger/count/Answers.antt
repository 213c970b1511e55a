use mathlib.Core.Path.{◌≡◌}
use native.Mathlib.Omega.{arith}
use lib.ListN.{get_or-eq_default, length}
use borrow.Author.Rules.{rules}
use Rattle.ledger.specs.Records.{count_in}
use Rattle.ledger.proofs.Ledger.count.Goals as goal
use Rattle.ledger.proofs.Ledger.count.Goals.{Start}

four : (c : Start) → length c.args.self.rows ≡ 4
four c = search rules

pub returns-then-s-ge-MOST : goal.returns-then-s-ge-MOST
unfolding count_in
returns-then-s-ge-MOST c =
    let l = four (goal.at.returns-then-s-ge-MOST c).Start in
    let e = get_or-eq_default c.args.self.rows 0 {n = c.args.s} (omega arith) in omega (arith, e)

pub returns-then-n-lt-ROWS : goal.returns-then-n-lt-ROWS
unfolding count_in
returns-then-n-lt-ROWS c = omega arith

pub returns : goal.returns
unfolding count_in
returns c = omega arith
