use mathlib.Core.Path.{refl}
use borrow.Author.Rules.{rules}
use native.Mathlib.Omega.{arith}
use Rattle.grant_line.proofs.Calls.{count_below, words_below, copy_room, grant_refused, grant_accepted}
use Rattle.grant_line.proofs.grant.Goals as goal

pub overflow_mul-count : goal.overflow_mul-count
overflow_mul-count c = let a = c.args in let h = count_below _ _ _ a.words.now c.read-l.ensures c.lendable.ensures c.either.ensures c.in-Ok.ensures refl in omega arith

pub copy-requires : goal.copy-requires
copy-requires c = let a = c.args in (let h = words_below _ _ _ a.words.now c.read-l.ensures c.lendable.ensures c.either.ensures c.in-Ok.ensures refl in search rules, copy_room _ _ _ a.words.now c.read-l.ensures c.lendable.ensures c.either.ensures c.in-Ok.ensures refl)

pub returns-in-Ok : goal.returns-in-Ok
returns-in-Ok c = grant_accepted _ _ _ _ c.read-l.ensures c.lendable.ensures c.either.ensures c.in-Ok.ensures refl c.copy.ensures

pub returns-in-Err : goal.returns-in-Err
returns-in-Err c = grant_refused _ _ _ _ c.read-l.ensures c.lendable.ensures c.either.ensures c.in-Err.ensures refl c.no_grant.ensures
