-- `copy`: the part that is copied is that of the definition.
use mathlib.Core.Path.{ap, sym, ◌∙◌}
use mathlib.Core.List.{List, ◌++◌}
use native.Mathlib.Omega.{arith}
use Prim.Native.Nat.{ℕ, ◌+◌, ◌≤◌}
use lib.ListN.{length, take, drop}
use lib.Seq.{length-take-le}
use Rattle.std.proofs.lemmas.List.{take-take}
use Rattle.std.proofs.lemmas.Slice.{put_mid-paste}
use Rattle.grant_line.proofs.copy.Goals as goal

pub returns : goal.returns
returns c =
    let a = c.args in
    let l : a.n ≤ length a.from.now = omega arith in
    put_mid-paste _ _ _ _ (take a.n a.from.now) a.n c.copy_from_slice.ensures.after (omega arith) (sym (length-take-le a.n a.from.now l))
    ∙ ap (λ (l : List ℕ). take a.at a.words.now ++ l ++ drop (a.at + a.n) a.words.now) (take-take a.n a.n a.from.now (omega arith))
