use mathlib.Core.Path.{◌≡◌, refl, sym, ◌∙◌}
use Rattle.std.specs.Prelude.{Ok, Err}
use Rattle.refusal.specs.Results.{Said, result_of}
use Rattle.refusal.specs.Checks.{first, table}
use Rattle.ledger.specs.Calls.{clear_shown, cleared}
use Rattle.refusal.proofs.Results.{given_refused, given_accepted}
use Rattle.ledger.proofs.Ledger.clear_with.Goals as goal

pub returns-in-Ok : goal.returns-in-Ok
unfolding cleared clear_shown
returns-in-Ok c =
    let e : ◌≡◌ {A = Said} (Ok tt) (result_of (first (table (clear_shown c.args.self c.args.checks)))) = c.in-Ok.ensures ∙ rw c.sound.ensures refl in
    given_accepted _ _ _ (sym e) refl

pub returns-in-Err : goal.returns-in-Err
unfolding cleared clear_shown
returns-in-Err c =
    let e : ◌≡◌ {A = Said} (Err c.in-Err.refusal) (result_of (first (table (clear_shown c.args.self c.args.checks)))) = c.in-Err.ensures ∙ rw c.sound.ensures refl in
    given_refused _ _ _ (sym e) c.refused.ensures
