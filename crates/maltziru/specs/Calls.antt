-- What the calls for C say and leave: what the calls of the other crates do, with a result as a number.
use Rattle.std.specs.Prelude.{◌≡◌, List, ℕ, ℤ, Result, Ok, Err}
use Rattle.refusal.specs.Results.{Said, said_by, held_after}
use Rattle.refusal.specs.declared.Refused.{Refused}
use Rattle.refusal.specs.Numbers.{number_of}
use Rattle.syntax.specs.Grammar.{Bytes}
use Rattle.stream_line.specs.Declaring.{Declares}
use Rattle.ledger.specs.declared.Ledger.{Ledger}
use Rattle.ledger.specs.Records.{Memory}
use Rattle.ledger.specs.Calls.{RowCall}
use Rattle.record_lines.specs.Calls.{RowLineCall}
use Rattle.caller.specs.declared.Caller.{Caller}
use Rattle.grant.specs.declared.Grant.{Grant}
use Rattle.grant_line.specs.Granting.{Grants}
use Rattle.maltziru.specs.declared.LedgerReply.{LedgerReply}
use Rattle.maltziru.specs.declared.GrantReply.{GrantReply}
use Rattle.maltziru.specs.declared.CallerReply.{CallerReply}

-- 0, or the number of the refusal
abbrev pub said : Said → ℕ
said (Ok u) = 0
said (Err f) = number_of f

-- the ledger, the grant or the caller that a call gives, or what is held after its refusal
unfoldable pub ledger_said : Result Ledger (Refused Ledger) → LedgerReply
ledger_said r = record { refusal = said (said_by r); ledger = held_after r }

unfoldable pub grant_said : Result Grant (Refused Grant) → GrantReply
grant_said r = record { refusal = said (said_by r); grant = held_after r }

unfoldable pub caller_said : Result Caller (Refused Caller) → CallerReply
caller_said r = record { refusal = said (said_by r); caller = held_after r }

-- the stream line: what it leaves of the names
pub record StreamCall (names : List ℕ) (line : Bytes) (names' : List ℕ) (refusal : ℕ) : Type 0 where
  pub verdict : Said
  pub call : Declares names line names' verdict
  pub says : refusal ≡ said verdict

-- the row call, and the row line
pub record RowCalled (m : Memory) (stream : ℕ) (row : List ℤ) (m' : Memory) (refusal : ℕ) : Type 0 where
  pub verdict : Said
  pub call : RowCall m stream row m' verdict
  pub says : refusal ≡ said verdict

pub record RowLineCalled (m : Memory) (line : Bytes) (m' : Memory) (refusal : ℕ) : Type 0 where
  pub verdict : Said
  pub call : RowLineCall m line m' verdict
  pub says : refusal ≡ said verdict

-- the grant line: the grant, and what it leaves of the words
pub record GrantCall (names : List ℕ) (count : ℕ) (line : Bytes) (words words' : List ℕ) (r : GrantReply) : Type 0 where
  pub granted : Result Grant (Refused Grant)
  pub call : Grants names count line words words' granted
  pub says : r ≡ grant_said granted
