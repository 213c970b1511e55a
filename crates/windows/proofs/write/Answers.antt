use mathlib.Core.Path.{◌≡◌, ap, ap₂, ◌∙◌}
use Prim.Native.Nat.{ℕ, ◌+◌, ◌*◌}
use native.Mathlib.Omega.{arith}
use mathlib.Core.List.{List}
use lib.ListN.{length}
use lib.Seq.{sets}
use Rattle.syntax.specs.Grammar.{numbered_fn}
use Rattle.lists.specs.Lists.{gather}
use Rattle.model.specs.Queries.{Row}
use Rattle.model.specs.Answers.{row_cells}
use Rattle.windows.specs.Lent.{picked_rows}
use Rattle.windows.proofs.Picks.{answers_lent, writer_laws}
use Rattle.windows.proofs.Soundness.{sound_bounded, sound_timed, sound_parts}
use Rattle.windows.proofs.write.Goals as goal

pub visit-requires : goal.visit-requires
visit-requires c =
    let a = c.args in
    (sound_bounded a.w a.times.now a.counts.now a.parts.now c.requires, sound_timed a.w a.times.now a.counts.now a.parts.now c.requires, sound_parts a.w a.times.now a.counts.now a.parts.now c.requires, writer_laws (λ s. s.words.now) (λ s. s.picks.now) (λ s. s.at))

pub returns : goal.returns
returns c =
    let a = c.args in
    let e = answers_lent a.w (numbered_fn a.w.number) a.times.now a.counts.now a.parts.now c.requires in
    let v = c.visit.ensures in
    let n = v.counted in
    let l = ap (λ (rs : List Row). length (picked_rows a.words.now a.picks.now rs)) e in
    let z : a.at + 0 * 2 ≡ a.at = omega arith in
    record {
      cells_left = v.cells_left ∙ ap₂ (λ (k : ℕ) (rs : List Row). sets a.cells.now k (gather row_cells (picked_rows a.words.now a.picks.now rs))) z e;
      counted = omega arith;
    }
