-- What a list of calls on the record leaves stands for what the definitions make of the list, and may be lent.
use mathlib.Core.Path.{◌≡◌, refl, ap, ◌∙◌}
use mathlib.Core.List.{List}
use Rattle.calls.specs.Calls.{Call, replay, after}
use Rattle.ledger.specs.Records.{Memory, record_of}
use Rattle.history.specs.States.{Sound, Fresh}
use Rattle.history.proofs.Beginning.{fresh_record, fresh_sound}
use Rattle.history.proofs.Steps.{step_call}
use Rattle.demands.specs.Recording.{Recorded, stop, then}

replayed : {m u : Memory} {cs : List Call} → Sound m → Recorded m cs u → (record_of u ≡ replay (record_of m) cs) × Sound u
unfolding replay
replayed k stop = (refl, k)
replayed k (then {cs = cs} p r) =
    let s = step_call p k in
    let (e, l) = replayed s.sound r in
    (e ∙ ap (λ x. replay x cs) s.steps, l)

pub left_after : {m u : Memory} {cs : List Call} → Fresh m → Recorded m cs u → (record_of u ≡ after cs) × Sound u
unfolding after
left_after {cs = cs} f r =
    let (e, l) = replayed (fresh_sound f) r in
    (e ∙ ap (λ x. replay x cs) (fresh_record f), l)
