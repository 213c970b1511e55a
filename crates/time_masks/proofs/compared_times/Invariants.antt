use mathlib.Core.Path.{◌≡◌}
use Rattle.rows.specs.Masks.{bits}
use Rattle.column_masks.specs.Columns.{strip, compared_at}
use Rattle.time_masks.specs.Times.{clocked}
use Rattle.time_masks.proofs.compared_times.Given as goal

abbrev pub invariant-loop-i : goal.invariant-loop-i
invariant-loop-i g l =
    (l.a ≡ bits (compared_at g.T.Test.op (clocked l.low.v l.times l.from) (strip l.values l.p 6)) 0 l.i) × (l.b ≡ bits (compared_at g.T.Test.op (clocked l.low.v l.times l.from) (strip l.values l.p 6)) 32 l.i) × (l.c ≡ bits (compared_at g.T.Test.op (clocked l.low.v l.times l.from) (strip l.values l.p 6)) 64 l.i) × (l.d ≡ bits (compared_at g.T.Test.op (clocked l.low.v l.times l.from) (strip l.values l.p 6)) 96 l.i)
