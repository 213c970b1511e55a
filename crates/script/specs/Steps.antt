-- One line: what it says, and what it leaves of the store and of lent cells and bytes, by the contract of its verb's call.
use Rattle.std.specs.Prelude.{◌≡◌, List, cond, ℕ, ℤ, eqb, ltb, length, take, Result, Ok, Err}
use Rattle.std.proofs.Math.Option.{Option, none, some}
use Rattle.refusal.specs.Numbers.{number_of}
use Rattle.refusal.specs.Results.{Said, said_by, held_after}
use Rattle.refusal.specs.declared.Refused.{Refused}
use Rattle.refusal.specs.declared.Refusal.TheVariants.{Malformed, Bound}
use Rattle.syntax.specs.Grammar as G
use Rattle.syntax.specs.Grammar.{Bytes}
use Rattle.syntax.specs.Limits.{max_line}
use Rattle.syntax.specs.Readers.{parse_as}
use Rattle.report.specs.declared.Message.{Message}
use Rattle.report.specs.declared.Message.TheVariants as Say
use Rattle.stream_line.specs.Declaring.{Declares}
use Rattle.ledger.specs.declared.Ledger.{Ledger}
use Rattle.ledger.specs.Records.{Memory, with_ledger, with_names}
use Rattle.record_lines.specs.Calls.{clock_line_call, clear_line_call, RowLineCall}
use Rattle.caller.specs.declared.Caller as W
use Rattle.caller.specs.Lines.{identified}
use Rattle.grant.specs.declared.Grant as T
use Rattle.grant_line.specs.Granting.{grants_after, Grants}
use Rattle.history.specs.Fixtures.{Store, with_memory, with_grants, with_caller}
use Rattle.ask.specs.declared.Reply.{Reply}
use Rattle.ask.specs.Replies.{Replies}
use Rattle.ask.specs.Asking.{Lending, asked, LineReplies}
use Rattle.script.specs.declared.State.{State}
use Rattle.script.specs.declared.Stepped.{Stepped}
use Rattle.script.specs.declared.Verb.{Verb}
use Rattle.script.specs.declared.Verb.TheVariants.{Stream, Grant, Clock, Row, Clear, Caller, Ask, Line, Other}
use Rattle.script.specs.States.{stepped_with}

-- the verb of the grammar
unfoldable pub verb_in : Verb → Option G.Verb
verb_in Stream = some G.stream
verb_in Grant = some G.grant
verb_in Clock = some G.clock
verb_in Row = some G.row
verb_in Clear = some G.clear
verb_in Caller = some G.caller
verb_in Ask = some G.ask
verb_in Line = some G.line
verb_in Other = none

-- ---- what a line says

abbrev pub verdict_said : Said → Message
verdict_said (Ok u) = Say.Quiet
verdict_said (Err f) = Say.Refusal (number_of f)

-- of a query: its refusal, or what is said where there is none
unfoldable pub reply_said : Reply → Message → Message
reply_said r y = cond (eqb r.refusal 0) y (Say.Refusal r.refusal)

-- a text of no verb, by its length
unfoldable pub unread_said : ℕ → Message
unread_said n = verdict_said (Err (cond (ltb max_line n) Bound Malformed))

-- ---- what it leaves

-- what is lent to a query
abbrev pub lending : Store → Lending
lending s = record { memory = s.memory; grants = s.grants; granted = s.words; caller = s.caller }

-- the grant line, by the state
pub record Granting (s : State) (ns : List ℕ) (bs : Bytes) (ws ws' : List ℕ) (r : Stepped) : Type 0 where
  pub granted : Result T.Grant (Refused T.Grant)
  pub call : Grants ns (length (take s.count s.grants)) bs ws ws' granted
  pub ledger : r.state.ledger ≡ s.ledger
  pub grants : take r.state.count r.state.grants ≡ grants_after granted (take s.count s.grants)
  pub caller : r.state.caller ≡ s.caller
  pub says : r ≡ stepped_with r.state (verdict_said (said_by granted))

-- By the text, the cells and bytes that are lent, and the verb: the stores before and after, the cells and bytes after, and what is said.
pub data Does (bs : Bytes) (zs : List ℤ) (ys : Bytes) : Option G.Verb → Store → Store → List ℤ → Bytes → Message → Type 0 where
  unread_does : {s : Store} → Does bs zs ys none s s zs ys (unread_said (length bs))
  stream_does : {s : Store} {ns : List ℕ} {v : Said} → Declares s.memory.names bs ns v → Does bs zs ys (some G.stream) s (with_memory s (with_names s.memory ns)) zs ys (verdict_said v)
  grant_does : {s : Store} {ws : List ℕ} {r : Result T.Grant (Refused T.Grant)} → Grants s.memory.names (length s.grants) bs s.words ws r
      → Does bs zs ys (some G.grant) s (with_grants s (grants_after r s.grants) ws) zs ys (verdict_said (said_by r))
  clock_does : {s : Store} {r : Result Ledger (Refused Ledger)} → r ≡ clock_line_call s.memory.ledger bs → Does bs zs ys (some G.clock) s (with_memory s (with_ledger s.memory (held_after r))) zs ys (verdict_said (said_by r))
  row_does : {s : Store} {m : Memory} {v : Said} → RowLineCall s.memory bs m v → Does bs zs ys (some G.row) s (with_memory s m) zs ys (verdict_said v)
  clear_does : {s : Store} {r : Result Ledger (Refused Ledger)} → r ≡ clear_line_call s.memory.ledger bs → Does bs zs ys (some G.clear) s (with_memory s (with_ledger s.memory (held_after r))) zs ys (verdict_said (said_by r))
  caller_does : {s : Store} {r : Result W.Caller (Refused W.Caller)} → r ≡ identified s.caller bs → Does bs zs ys (some G.caller) s (with_caller s (held_after r)) zs ys (verdict_said (said_by r))
  ask_does : {s : Store} {zs' : List ℤ} {r : Reply} → Replies (asked 1 (parse_as G.ask bs) (lending s) bs zs) zs zs' r → length zs' ≡ length zs → Does bs zs ys (some G.ask) s s zs' ys (reply_said r (Say.Cells r.count))
  line_does : {s : Store} {ys' : Bytes} {r : Reply} → LineReplies 1 (parse_as G.line bs) (lending s) bs ys ys' r → length ys' ≡ length ys → Does bs zs ys (some G.line) s s zs ys' (reply_said r (Say.Text r.count))
