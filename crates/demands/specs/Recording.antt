-- Lists of calls on the record by their contracts: each gets what the last one returned or left.
use Rattle.std.specs.Prelude.{List, [], ◌∷◌}
use Rattle.calls.specs.Calls.{Call}
use Rattle.ledger.specs.Records.{Memory}
use Rattle.history.specs.States.{Promise}

pub data Recorded : Memory → List Call → Memory → Type 0 where
  stop : {m : Memory} → Recorded m [] m
  then : {c : Call} {cs : List Call} {m n u : Memory} → Promise c m n → Recorded n cs u → Recorded m (c ∷ cs) u
