use mathlib.Core.Path.{sym, ap, ◌∙◌}
use native.Mathlib.Omega.{arith}
use lib.ListN.{length}
use Rattle.syntax.specs.Grammar.{numbered_fn}
use Rattle.windows.specs.Lent.{picked_rows, answers_in}
use Rattle.windows.proofs.Picks.{picked_all, answers_lent, counter_laws}
use Rattle.windows.proofs.Soundness.{sound_bounded, sound_timed, sound_parts, sound_few}
use Rattle.windows.proofs.count.Goals as goal

pub count_windows-requires : goal.count_windows-requires
count_windows-requires c = let a = c.args in
    (sound_bounded a.w a.times.now a.counts.now a.parts.now c.requires, sound_timed a.w a.times.now a.counts.now a.parts.now c.requires, sound_few a.w a.times.now a.counts.now a.parts.now c.requires)

pub returns-then-picks-eq0 : goal.returns-then-picks-eq0
returns-then-picks-eq0 c = let a = c.args in
    let f = numbered_fn a.w.number in
    let e = answers_lent a.w f a.times.now a.counts.now a.parts.now c.requires in
    let p = picked_all a.words.now a.picks.now c.if-picks-eq0.true (answers_in f a.w a.times.now a.counts.now a.parts.now) in
    let n = c.count_windows.ensures f a.counts.now a.parts.now in
    let m = ap length (e ∙ sym p) in
    omega arith

pub visit-requires : goal.visit-requires
visit-requires c =
    let a = c.args in
    (sound_bounded a.w a.times.now a.counts.now a.parts.now c.requires, sound_timed a.w a.times.now a.counts.now a.parts.now c.requires, sound_parts a.w a.times.now a.counts.now a.parts.now c.requires, counter_laws (λ s. s.words.now) (λ s. s.picks.now) (λ s. s.room))

pub returns : goal.returns
returns c =
    let a = c.args in
    let e = ap length (ap (picked_rows a.words.now a.picks.now) (answers_lent a.w (numbered_fn a.w.number) a.times.now a.counts.now a.parts.now c.requires)) in
    let v = c.visit.ensures in
    let x = v.counted in
    let y = v.near (omega arith) in
    omega arith
