use borrow.Author.Rules.{rules}
use Rattle.catalogue.proofs.Held.{profile_first}
use Rattle.ask.proofs.Called.{answers_refused, answers_ready, answers_given}
use Rattle.ask.proofs.answered.Goals as goal

pub run-requires : goal.run-requires
run-requires c = answers_ready _ _ _ _ _ c.may_be_lent.ensures c.result.ensures c.args.cells.now c.requires (search rules) (profile_first _ c.profile_of-profile.ensures (search rules))

pub returns-in-Err : goal.returns-in-Err
returns-in-Err c = let a = c.may_be_lent.ensures in let b = c.result.ensures in let d = c.refused.ensures in search (answers_refused, rules)

pub returns-in-Ok : goal.returns-in-Ok
returns-in-Ok c = answers_given _ _ _ _ _ c.may_be_lent.ensures c.result.ensures _ (search rules) (profile_first _ c.profile_of-profile.ensures (search rules)) c.run.ensures
