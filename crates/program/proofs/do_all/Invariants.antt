use Rattle.lines.specs.Runs.{point}
use Rattle.program.proofs.Whole.{Rounds}
use Rattle.program.proofs.do_all.Given as goal

abbrev pub invariant-rounds : goal.invariant-rounds
invariant-rounds g l =
    Rounds l.initial.r l.r (point l.initial.r.state l.initial.names l.initial.times l.initial.values l.initial.words l.initial.cells l.initial.bytes) (point l.r.state l.names l.times l.values l.words l.cells l.bytes) l.initial.line l.line l.initial.out l.out l.counter
