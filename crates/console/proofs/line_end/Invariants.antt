use Rattle.console.proofs.Lines.{Ahead}
use Rattle.console.proofs.line_end.Given as goal

abbrev pub invariant-loop-i : goal.invariant-loop-i
invariant-loop-i l = Ahead l.s l.at l.i
