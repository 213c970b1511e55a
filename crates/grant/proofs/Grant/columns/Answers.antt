use borrow.Author.Rules.{rules}
use Rattle.grant.specs.Grants.{streams_of}
use Rattle.grant.proofs.Grant.columns.Goals as goal

pub returns : goal.returns
unfolding streams_of
returns c = search rules
