-- All that goes from call to call, and what calls and lines of every kind leave of it.
use Rattle.std.specs.Prelude.{◌≡◌, List, [], ◌∷◌, true, ℕ, ◌≤◌, T, length, Result}
use Rattle.refusal.specs.Results.{held_after}
use Rattle.refusal.specs.declared.Refused.{Refused}
use Rattle.syntax.specs.Grammar.{Bytes}
use Rattle.calls.specs.Calls.{Call}
use Rattle.calls.specs.Events.{Fixture, Event, call, grant, caller, query}
use Rattle.ledger.specs.Records.{record_of}
use Rattle.caller.specs.declared.Caller.{Caller}
use Rattle.caller.specs.Callers.{caller_of, caller_sound, no_caller}
use Rattle.caller.specs.Lines.{identified}
use Rattle.grant.specs.declared.Grant.{Grant}
use Rattle.grant.specs.Catalogues.{catalogue_words, catalogue_of, catalogue_sound}
use Rattle.grant_line.specs.Granting.{grants_after, Grants}
use Rattle.history.specs.States as States
use Rattle.history.specs.States.{State, Promise}

-- the record's memory, the grants that were accepted, the words of their conditions, and the caller
pub record Store : Type 0 where
  pub memory : State
  pub grants : List Grant
  pub words : List ℕ
  pub caller : Caller

-- the fixture of the definitions that it stands for
unfoldable pub fixture_of : Store → Fixture
fixture_of s =
    record { record_kept = record_of s.memory; catalogue = catalogue_of s.memory.names s.grants s.words; caller = caller_of s.caller }

unfoldable pub with_memory : Store → State → Store
with_memory s m = record { memory = m; grants = s.grants; words = s.words; caller = s.caller }

unfoldable pub with_grants : Store → List Grant → List ℕ → Store
with_grants s gs ws = record { memory = s.memory; grants = gs; words = ws; caller = s.caller }

unfoldable pub with_caller : Store → Caller → Store
with_caller s w = record { memory = s.memory; grants = s.grants; words = s.words; caller = w }

-- ---- by the contracts of the code

-- An accepted grant is kept behind the others; so many as there are go in with the call.
pub data Happens : Event → Store → Store → Type 0 where
  called : {s : Store} {c : Call} {m : State} → Promise c s.memory m → Happens (call c) s (with_memory s m)
  granted : {s : Store} {bs : Bytes} {ws : List ℕ} {r : Result Grant (Refused Grant)} → Grants s.memory.names (length s.grants) bs s.words ws r
      → Happens (grant bs) s (with_grants s (grants_after r s.grants) ws)
  named : {s : Store} {bs : Bytes} {r : Result Caller (Refused Caller)} → r ≡ identified s.caller bs → Happens (caller bs) s (with_caller s (held_after r))
  asked : {s : Store} → Happens query s s

-- each call gets what the last one returned or left
pub data Trace : Store → List Event → Store → Type 0 where
  stop : {s : Store} → Trace s [] s
  then : {e : Event} {es : List Event} {s t u : Store} → Happens e s t → Trace t es u → Trace s (e ∷ es) u

-- it is of its types, and all of it may be lent
pub record Sound (s : Store) : Type 0 where
  pub memory : States.Sound s.memory
  pub grants : T (catalogue_sound s.memory.names s.grants s.words)
  pub caller : caller_sound s.caller ≡ true

-- fresh memory of the record, no grants, words enough whatever they hold, and the caller of no role
pub record Fresh (s : Store) : Type 0 where
  pub memory : States.Fresh s.memory
  pub grants : s.grants ≡ []
  pub words : catalogue_words ≤ length s.words
  pub caller : s.caller ≡ no_caller
