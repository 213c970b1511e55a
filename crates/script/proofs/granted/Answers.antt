use mathlib.Core.Path.{◌≡◌}
use lib.ListN.{length}
use borrow.Author.Rules.{rules}
use Rattle.syntax.specs.Limits.{max_grants}
use Rattle.script.proofs.Returns.{grant_placed, granting_refused, granting_accepted}
use Rattle.script.proofs.granted.Goals as goal
use Rattle.script.proofs.granted.Goals.{Start}

full : (c : Start) → length c.args.s.grants ≡ max_grants
full c = c.well_formed.0.1.1.1.0.1.0.1

pub with_grant-requires : goal.with_grant-requires
with_grant-requires c = search (grant_placed, rules)

pub returns-in-Err : goal.returns-in-Err
returns-in-Err c = let f = full (goal.at.returns-in-Err c).Start in search (granting_refused, rules)

pub returns-in-Ok : goal.returns-in-Ok
returns-in-Ok c = let f = full (goal.at.returns-in-Ok c).Start in search (granting_accepted, rules)
