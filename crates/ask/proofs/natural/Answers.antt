use mathlib.Core.Path.{◌≡◌, ◌∙◌}
use mir.Syntax.{w64}
use mir.Val.{to_z, of_z}
use borrow.Author.Rules.{rules}
use Rattle.ask.proofs.Lines.{natural_of}
use Rattle.ask.proofs.natural.Goals as goal

pub returns : goal.returns
returns c =
    let x : to_z w64 (of_z w64 c.args.z) ≡ c.args.z = search rules in
    c.unwrap_or.ensures ∙ natural_of c.args.z (search rules) c.try_from.result (rw x at c.try_from.ensures)
