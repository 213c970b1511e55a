-- `by_value`: what the calls of `by_head` give.
use mathlib.Core.Path.{◌≡◌}
use borrow.Author.Rules.{rules}
use Rattle.column_masks.specs.Columns.{strip, matched}
use Rattle.column_masks.proofs.Columns.{matched_same, matched_below, matched_above}
use Rattle.selection.proofs.by_value.Goals as goal

pub returns : goal.returns
returns c =
    let vs = c.args.values.now in
    let at = c.args.p in
    let v = c.args.v.v in
    let n = c.args.n in
    c.by_head.ensures (strip vs at 6) (λ i. v) (λ r p. let e : r ≡ matched 0 vs at v n = search rules in matched_same vs at v n c.requires e)
    (λ r p. let e : r ≡ matched 1 vs at v n = search rules in matched_below vs at v n c.requires e)
    (λ r p. let e : r ≡ matched 2 vs at v n = search rules in matched_above vs at v n c.requires e)
