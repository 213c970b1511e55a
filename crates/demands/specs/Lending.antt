-- What is lent to a query beside the record, and when that is the same of two queries.
use Rattle.std.specs.Prelude.{◌≡◌, List, ℕ}
use Rattle.ledger.specs.Records.{Memory}
use Rattle.caller.specs.declared.Caller.{Caller}
use Rattle.caller.specs.Callers.{caller_of}
use Rattle.grant.specs.declared.Grant.{Grant}
use Rattle.grant.specs.Catalogues.{catalogue_of}
use Rattle.ask.specs.Asking.{Lending, lent_sound}

-- the record's memory, and any grants, words and caller
abbrev pub lending : Memory → List Grant → List ℕ → Caller → Lending
lending m gs ws w = record { memory = m; grants = gs; granted = ws; caller = w }

-- By the definitions the catalogue and the caller are the same, whatever structs and words hold them; and both may be lent, or neither.
pub record SameLent (x y : Lending) : Type 0 where
  pub lent : lent_sound x ≡ lent_sound y
  pub catalogue : catalogue_of x.memory.names x.grants x.granted ≡ catalogue_of y.memory.names y.grants y.granted
  pub caller : caller_of x.caller ≡ caller_of y.caller
