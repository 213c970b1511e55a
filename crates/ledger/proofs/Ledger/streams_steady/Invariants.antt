use mathlib.Core.Path.{◌≡◌}
use Prim.Native.Nat.{◌-◌}
use Rattle.lists.specs.Lists.{every, count_from}
use Rattle.ledger.specs.Records.{stream_steady}
use Rattle.ledger.proofs.Ledger.streams_steady.Given as goal

abbrev pub invariant-loop-s : goal.invariant-loop-s
invariant-loop-s l = (every (stream_steady l.self l.times) (count_from 0 l.n) ≡ every (stream_steady l.self l.times) (count_from l.s (l.n - l.s)))
