-- `profile_of`: place by place.
use borrow.Author.Rules.{rules}
use Rattle.catalogue.proofs.Held.{numbers_all}
use Rattle.catalogue.proofs.profile_of.Goals as goal

pub returns : goal.returns
returns c = search (numbers_all, rules)
