-- `put_bytes`: the bytes passed are written.
use mathlib.Core.Path.{◌≡◌}
use lib.ListN.{length, take}
use Rattle.syntax.specs.Grammar.{put_name}
use Rattle.print.specs.Writing.{Put}
use Rattle.print.proofs.put_bytes.Given as goal

abbrev pub invariant-loop-b : goal.invariant-loop-b
invariant-loop-b l = Put (put_name (take l.b-index l.bytes)) l.initial.out l.p l.out l.q × (length l.out ≡ length l.initial.out)
