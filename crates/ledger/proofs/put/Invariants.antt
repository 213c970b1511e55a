use mathlib.Core.Path.{◌≡◌}
use lib.ListN.{length}
use lib.Seq.{paste}
use Rattle.ledger.proofs.put.Given as goal

abbrev pub invariant-loop-c : goal.invariant-loop-c
invariant-loop-c l = (l.values ≡ paste l.initial.values l.at l.vs l.c) × (length l.values ≡ length l.initial.values)
