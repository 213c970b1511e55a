use mathlib.Core.Path.{◌≡◌}
use native.Mathlib.Omega.{arith}
use lib.ListN.{length}
use borrow.Author.Rules.{rules}
use Rattle.script.proofs.Opening.{opening_none, opening_more, opening_all}
use Rattle.script.proofs.opened.Goals as goal

pub loop-i-init : goal.loop-i-init
loop-i-init c =
    let l : length c.args.grants ≡ 24 = search rules in
    opening_none c.args.n c.args.names.now c.args.grants c.args.words.now _ _ c.args.count l c.requires c.none-o.ensures

pub loop-i-preserved : goal.loop-i-preserved
loop-i-preserved c =
    let l = c.loop-i in
    let f : length c.args.grants ≡ 24 = search rules in
    opening_more c.args.n c.args.names.now c.args.grants c.args.words.now _ _ c.args.count f c.requires l.i _ (omega arith) l.invariant c.with_caller-o.ensures

pub returns : goal.returns
returns c =
    let l = c.loop-i in
    let f : length c.args.grants ≡ 24 = search rules in
    opening_all c.args.n c.args.names.now c.args.grants c.args.words.now _ _ c.args.count f c.requires l.i (omega arith) l.invariant
