-- `number_term`: by what stands there.
use borrow.Author.Rules.{rules, sfits_of}
use mir.Syntax.{w32}
use mir.Val.{SFits}
use Rattle.terms.proofs.Operands.{number_term_ends}
use Rattle.terms.proofs.number_term.Goals as goal

pub returns-in_err-z : goal.returns-in_err-z
returns-in_err-z c = search (number_term_ends, c.in_err-z.ensures)

pub returns : goal.returns
returns c =
    let f : SFits w32 c.unwrap_or.result = search (rules, sfits_of) in
    search (number_term_ends, c.in_ok-z.ensures)
