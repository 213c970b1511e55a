-- `known`: the values passed are of 32 bits.
use native.Mathlib.Omega.{arith}
use lib.IntN.{pos}
use lib.ListN.{get_or}
use mir.Syntax.{w32}
use mir.Val.{SFits}
use borrow.Author.Rules.{rules}
use borrow.Author.Count.{below_more}
use Rattle.text.proofs.Values.{fits_value, every_below}
use Rattle.caller.proofs.known.Goals as goal

pub loop-v-preserved : goal.loop-v-preserved
loop-v-preserved c =
    let l = c.loop-v in
    let v = get_or c.args.values l.v-index (pos 0) in
    let f : SFits w32 v = search rules in
    below_more _ l.v-index l.invariant (fits_value v f)

pub returns : goal.returns
returns c =
    let l = c.loop-v in
    every_below c.args.values (λ k h. l.invariant k (omega arith))
