-- `also_sound`: those before it, then the grant.
use borrow.Author.Rules.{rules}
use Rattle.catalogue.proofs.Taken.{also_ends}
use Rattle.catalogue.proofs.also_sound.Goals as goal

pub returns-then-not-sound : goal.returns-then-not-sound
returns-then-not-sound c = search (also_ends, rules)

pub returns : goal.returns
returns c = search (also_ends, rules)
