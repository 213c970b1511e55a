use borrow.Author.Rules.{rules}
use Rattle.ask.proofs.Ends.{refused_made}
use Rattle.ask.proofs.refused.Goals as goal

pub returns : goal.returns
returns c = search (refused_made, rules)
