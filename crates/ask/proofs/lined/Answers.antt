use borrow.Author.Rules.{rules}
use Rattle.ledger.specs.Records.{Memory}
use Rattle.catalogue.proofs.Held.{profile_first}
use Rattle.ask.proofs.Called.{lines_refused, lines_ready, lines_given}
use Rattle.ask.proofs.lined.Goals as goal
use Rattle.ask.proofs.lined.Goals.{Start}

abbrev memory : Start → Memory
memory c = record { ledger = c.args.l; names = c.args.names.now; times = c.args.times.now; values = c.args.values.now }

pub print-requires : goal.print-requires
print-requires c = lines_ready (memory (goal.at.print-requires c).Start) _ _ _ _ c.may_be_lent.ensures c.result.ensures c.args.number c.args.out.now c.requires (search rules) (profile_first _ c.profile_of-profile.ensures (search rules))

pub returns-in-Err : goal.returns-in-Err
returns-in-Err c = let a = c.may_be_lent.ensures in let b = c.result.ensures in let d = c.refused.ensures in search (lines_refused, rules)

pub returns-in-Ok : goal.returns-in-Ok
returns-in-Ok c = lines_given (memory (goal.at.returns-in-Ok c).Start) _ _ _ _ c.may_be_lent.ensures c.result.ensures c.args.number _ (search rules) (search rules) c.ranges.number (profile_first _ c.profile_of-profile.ensures (search rules)) c.print.ensures
