use mathlib.Core.Path.{◌≡◌, sym, ap, ◌∙◌}
use mathlib.Core.Bool.{true, false}
use native.Mathlib.Omega.{arith}
use lib.Dec.{leb}
use lib.ListN.{length, get_or}
use borrow.Author.Rules.{rules}
use borrow.Author.Tests.{le-leb, lt-leb}
use Rattle.lists.specs.Lists.{every, count_from}
use Rattle.ledger.proofs.Bounds.{sound_high, sound_rows}
use Rattle.lists.proofs.Counting.{every_places, every_past, every_fails, every_done}
use Rattle.ledger.proofs.Ledger.sound.Goals as goal
use Rattle.ledger.proofs.Ledger.sound.Goals.{Start}

four : (c : Start) → length c.args.self.rows ≡ 4
four c = search rules

pub returns-then-self-gt-TOP : goal.returns-then-self-gt-TOP
returns-then-self-gt-TOP c = sym (sound_high _ c.if-self-gt-TOP.true)

pub loop-n-init : goal.loop-n-init
loop-n-init c =
    let rows = c.args.self.rows in
    every_places (λ n. leb n 128) 0 rows ∙ ap (λ n. every (λ i. leb (get_or rows i 0) 128) (count_from 0 n)) (four (goal.at.loop-n-init c).Start)

pub returns-then-n-gt-ROWS : goal.returns-then-n-gt-ROWS
returns-then-n-gt-ROWS c =
    let l = c.loop-n in
    let self = c.args.self in
    sym (sound_rows self c.if-self-gt-TOP.false false (l.invariant ∙ every_fails (λ i. leb (get_or self.rows i 0) 128) l.n-index 4 (omega arith) (lt-leb _ _ c.if-n-gt-ROWS.true)))

pub loop-n-preserved : goal.loop-n-preserved
loop-n-preserved c =
    let l = c.loop-n in
    l.invariant ∙ every_past (λ i. leb (get_or c.args.self.rows i 0) 128) l.n-index 4 (omega arith) (le-leb _ _ c.if-n-gt-ROWS.false)

pub returns : goal.returns
returns c =
    let l = c.loop-n in
    let self = c.args.self in
    sym (sound_rows self c.if-self-gt-TOP.false true (l.invariant ∙ every_done (λ i. leb (get_or self.rows i 0) 128) l.n-index 4 (omega arith)))
