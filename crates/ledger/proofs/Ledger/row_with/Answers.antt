use mathlib.Core.Path.{refl}
use Rattle.ledger.proofs.Entering.{store_room, row_refused, row_stored}
use Rattle.ledger.proofs.Ledger.row_with.Goals as goal

pub store-requires : goal.store-requires
store-requires c = store_room _ _ c.args.checks _ c.row_checks-c.ensures c.in-Ok.ensures refl

pub returns-in-Ok : goal.returns-in-Ok
returns-in-Ok c = row_stored _ c.args.s c.args.checks c.args.vs.now c.row_checks-c.ensures c.in-Ok.ensures refl c.store.ensures c.with_row.ensures

pub returns-in-Err : goal.returns-in-Err
returns-in-Err c = row_refused _ c.args.s c.args.checks c.args.vs.now c.row_checks-c.ensures c.in-Err.ensures refl c.refused.ensures
