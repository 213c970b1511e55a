-- What goes from line to line: the state by value, and lent memory.
use Rattle.std.specs.Prelude.{List, ℕ, ◌+◌, ℤ, replicate, take, set}
use Rattle.syntax.specs.Limits.{max_grants}
use Rattle.ledger.specs.declared.Ledger.{Ledger}
use Rattle.ledger.specs.Calls.{begun}
use Rattle.caller.specs.declared.Caller.{Caller}
use Rattle.caller.specs.Callers.{no_caller}
use Rattle.grant.specs.declared.Grant.{Grant}
use Rattle.grant_line.specs.Lines.{no_grant}
use Rattle.report.specs.declared.Message.{Message}
use Rattle.history.specs.Fixtures.{Store}
use Rattle.script.specs.declared.State.{State}
use Rattle.script.specs.declared.Stepped.{Stepped}

-- before the first line
unfoldable pub new_state : State
new_state = record { ledger = begun; grants = replicate max_grants no_grant; count = 0; caller = no_caller }

abbrev pub with_ledger_in : State → Ledger → State
with_ledger_in s l = record { ledger = l; grants = s.grants; count = s.count; caller = s.caller }

abbrev pub with_caller_in : State → Caller → State
with_caller_in s w = record { ledger = s.ledger; grants = s.grants; count = s.count; caller = w }

-- a grant in a place, and no grant behind it
abbrev pub with_grant_in : State → ℕ → Grant → State
with_grant_in s n g = record { ledger = s.ledger; grants = set s.grants n g; count = n + 1; caller = s.caller }

-- the store that a state and what is lent are: of the grants those that were accepted
abbrev pub store_of : State → List ℕ → List ℕ → List ℤ → List ℕ → Store
store_of s ns ts vs ws = record { memory = record { ledger = s.ledger; names = ns; times = ts; values = vs }; grants = take s.count s.grants; words = ws; caller = s.caller }

abbrev pub stepped_with : State → Message → Stepped
stepped_with s y = record { state = s; says = y }
