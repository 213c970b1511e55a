use borrow.Author.Rules.{rules}
use mir.ValLaws.{to_z-of_z}
use mir.Syntax.{w64}
use mir.Val.{SFits}
use Rattle.figures.proofs.Comparing.{test_made}
use Rattle.figures.proofs.Answer.test.Goals as goal

pub returns : goal.returns
returns c =
    let x : SFits w64 c.term-l.result = search rules in
    let y : SFits w64 c.term-m.result = search rules in
    test_made c.args.self c.args.n c.number_at-v.ensures c.term-l.ensures c.term-m.ensures (simp to_z-of_z at c.compared.ensures)
