use mathlib.Core.Path.{◌≡◌}
use native.Mathlib.Numerals.{add-one}
use native.Mathlib.Omega.{arith}
use mir.Syntax.{w64}
use mir.Val.{to_z, of_z}
use mir.ValLaws.{to_z_pos}
use borrow.Author.Rules.{rules}
use Rattle.windows.proofs.Picks.{store_none, store_one, store_both}
use Rattle.windows.proofs.store.Goals as goal

pub returns-then-at-cells : goal.returns-then-at-cells
returns-then-at-cells c =
    let a = c.args in
    let e = to_z_pos w64 a.a.end (omega arith) in
    let x : to_z w64 (of_z w64 a.a.figure) ≡ a.a.figure = search rules in
    rw (e, x, add-one) (store_both a.cells.now a.at a.a)

pub returns-then-cells-at : goal.returns-then-cells-at
returns-then-cells-at c = let a = c.args in store_none a.cells.now a.at a.a (omega arith)

pub returns : goal.returns
returns c =
    let a = c.args in
    let e = to_z_pos w64 a.a.end (omega arith) in
    let h = c.if-at-cells.false in
    rw e (store_one a.cells.now a.at a.a (omega arith))
