use borrow.Author.Rules.{rules}
use mathlib.Core.Path.{◌≡◌, ◌∙◌}
use mir.Syntax.{w64}
use mir.Val.{to_z, of_z}
use Rattle.ledger.proofs.Entering.{clock_same}
use Rattle.ledger.proofs.Ledger.clock.Goals as goal

pub returns : goal.returns
returns c =
    let t = c.args.t in
    let e : to_z w64 (of_z w64 t) ≡ t = search rules in
    c.clock_with.ensures ∙ rw (c.new.ensures, c.time.ensures, e) (clock_same _ t)
