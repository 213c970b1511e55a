-- `none_twice`: by the four numbers, each below 2^64.
use mathlib.Core.Path.{◌≡◌}
use native.Mathlib.Omega.{arith}
use lib.ListN.{length, get_or}
use mir.Syntax.{w64}
use mir.Val.{Fits}
use borrow.Author.Rules.{rules}
use Rattle.caller.proofs.CodeTests.{twice}
use Rattle.caller.proofs.none_twice.Goals as goal
use Rattle.caller.proofs.none_twice.Goals.{Start}

four : (c : Start) → length c.args.codes ≡ 4
four c = search rules

pub returns : goal.returns
returns c =
    let xs = c.args.codes in
    let a : Fits w64 (get_or xs 0 0) = search rules in
    let b : Fits w64 (get_or xs 1 0) = search rules in
    let d : Fits w64 (get_or xs 2 0) = search rules in
    let e : Fits w64 (get_or xs 3 0) = search rules in
    twice xs (four (goal.at.returns c).Start) (omega arith) (omega arith) (omega arith) (omega arith) c.args.n c.min.ensures c.distinct.ensures
