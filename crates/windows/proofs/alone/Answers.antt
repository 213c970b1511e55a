use mathlib.Core.Path.{◌≡◌, refl, ap, ◌∙◌}
use native.Mathlib.Omega.{arith}
use mir.Syntax.{w64}
use mir.Val.{to_z, of_z}
use borrow.Author.Rules.{rules}
use Rattle.windows.specs.Events.{alone}
use Rattle.windows.specs.declared.Event.{Event}
use Rattle.windows.proofs.Spans.{span_one}
use Rattle.windows.proofs.alone.Goals as goal

pub event_at-e-requires : goal.event_at-e-requires
event_at-e-requires c =
    let x = c.requires.0.counts in
    let y = c.requires.0.parts in
    (c.requires.1, omega arith, omega arith)

pub returns : goal.returns
unfolding alone
returns c =
    let a = c.args in
    let e = c.event_at-e in
    let x : to_z w64 (of_z w64 e.result.part) ≡ e.result.part = search rules in (
      λ f. record { within = omega arith; tallied = λ h. rw x (ap (λ (v : Event). alone v) e.ensures ∙ span_one f a.times.now a.counts.now a.parts.now a.i) },
      refl,
      refl,
    )
