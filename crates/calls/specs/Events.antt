-- Lists of calls and lines of every kind, and the fixture after them.
use Rattle.std.specs.Prelude.{List, [], ◌∷◌, cond}
use Rattle.refusal.specs.Checks.{passes}
use Rattle.syntax.specs.Grammar as G
use Rattle.syntax.specs.Grammar.{Bytes, Caller}
use Rattle.syntax.specs.Readers.{parse_as}
use Rattle.model.specs.Queries.{Record, Grant}
use Rattle.calls.specs.Calls.{Call, next, fresh, next_catalogue, caller_table, with_caller, nobody, calls_compute}

pub record Fixture : Type 0 where
  pub record_kept : Record
  pub catalogue : List Grant
  pub caller : Caller

unfoldable pub new_fixture : Fixture
new_fixture = record { record_kept = fresh; catalogue = []; caller = nobody }

-- a call on the record, a grant line, a caller line, or an ask or line call, which leaves all as it is
pub data Event : Type 0 where
  call : Call → Event
  grant : Bytes → Event
  caller : Bytes → Event
  query : Event

unfoldable pub happen : Fixture → Event → Fixture
happen f (call c) = record { record_kept = next f.record_kept c; catalogue = f.catalogue; caller = f.caller }
happen f (grant bs) = record { record_kept = f.record_kept; catalogue = next_catalogue f.record_kept.schema f.catalogue bs; caller = f.caller }
happen f (caller bs) =
    record { record_kept = f.record_kept; catalogue = f.catalogue; caller = cond (passes (caller_table bs)) (with_caller f.caller (parse_as G.caller bs)) f.caller }
happen f query = f

unfoldable pub happened_from : Fixture → List Event → Fixture
happened_from f [] = f
happened_from f (e ∷ es) = happened_from (happen f e) es

-- the fixture after a list of them
unfoldable pub happened : List Event → Fixture
happened es = happened_from new_fixture es

-- To unfold this is to unfold every definition above.
unfoldable pub events_compute : Unit {0}
unfolding calls_compute new_fixture happen happened_from happened
events_compute = tt
