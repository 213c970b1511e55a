-- Lists of calls of the library, as a C program makes them: each gets what the last one returned or left.
use Rattle.std.specs.Prelude.{◌≡◌, List, [], ◌∷◌, ◌++◌, cond, ℕ, ℤ, eqb, length}
use Rattle.refusal.specs.Checks.{Check}
use Rattle.syntax.specs.Grammar.{Bytes}
use Rattle.syntax.specs.Readers.{parse_query}
use Rattle.calls.specs.Asking.{with_route}
use Rattle.calls.specs.Calls.{Call, stream, clock, row, clear, clock_line, row_line, clear_line, caller_table}
use Rattle.calls.specs.Events.{Event, call, grant, caller, query}
use Rattle.ledger.specs.Records.{Memory, with_ledger, with_names}
use Rattle.stream_line.specs.Declaring.{declare_table}
use Rattle.ledger.specs.Calls.{clock_table, clock_call, row_table, clear_table, clear_call}
use Rattle.record_lines.specs.Calls.{clock_line_table, clock_line_call, row_line_table, clear_line_table, clear_line_call}
use Rattle.caller.specs.declared.Caller.{Caller}
use Rattle.caller.specs.Lines.{identified}
use Rattle.grant.specs.declared.Grant.{Grant}
use Rattle.grant.specs.Catalogues.{catalogue_of}
use Rattle.grant_line.specs.Granting.{grant_table}
use Rattle.history.specs.Fixtures.{Store, with_memory, with_grants, with_caller}
use Rattle.ask.specs.declared.Reply.{Reply}
use Rattle.ask.specs.Replies.{Replies}
use Rattle.ask.specs.Asking.{asked, LineReplies}
use Rattle.demands.specs.Lending.{lending}
use Rattle.maltziru.specs.declared.LedgerReply.{LedgerReply}
use Rattle.maltziru.specs.declared.GrantReply.{GrantReply}
use Rattle.maltziru.specs.declared.CallerReply.{CallerReply}
use Rattle.maltziru.specs.Calls.{ledger_said, caller_said, StreamCall, RowCalled, RowLineCalled, GrantCall}

-- One call on the record by its contract: the memory before it and after it, and the refusal that was returned, or 0.
pub data OnRecord : Call → Memory → Memory → ℕ → Type 0 where
  stream_called : {m : Memory} {bs : Bytes} {ns : List ℕ} {n : ℕ} → StreamCall m.names bs ns n → OnRecord (stream bs) m (with_names m ns) n
  clock_called : {m : Memory} {t : ℤ} {r : LedgerReply} → r ≡ ledger_said (clock_call m.ledger t) → OnRecord (clock t) m (with_ledger m r.ledger) r.refusal
  row_called : {m m' : Memory} {i : ℕ} {vs : List ℤ} {n : ℕ} → RowCalled m i vs m' n → OnRecord (row i vs) m m' n
  clear_called : {m : Memory} {r : LedgerReply} → r ≡ ledger_said (clear_call m.ledger) → OnRecord clear m (with_ledger m r.ledger) r.refusal
  clock_line_called : {m : Memory} {bs : Bytes} {r : LedgerReply} → r ≡ ledger_said (clock_line_call m.ledger bs) → OnRecord (clock_line bs) m (with_ledger m r.ledger) r.refusal
  row_line_called : {m m' : Memory} {bs : Bytes} {n : ℕ} → RowLineCalled m bs m' n → OnRecord (row_line bs) m m' n
  clear_line_called : {m : Memory} {bs : Bytes} {r : LedgerReply} → r ≡ ledger_said (clear_line_call m.ledger bs) → OnRecord (clear_line bs) m (with_ledger m r.ledger) r.refusal

-- ---- lists as the record meets them

-- Each call on the record gets the memory that the last one returned or left. Between them stand any grant, caller, ask and line calls, with any count, words, grants, caller, cells and bytes:
-- no memory of the record is lent to them for writing.
pub data Recorded : Memory → List Call → Memory → Type 0 where
  stop : {m : Memory} → Recorded m [] m
  next : {c : Call} {cs : List Call} {m n u : Memory} {k : ℕ} → OnRecord c m n k → Recorded n cs u → Recorded m (c ∷ cs) u
  grant_between : {cs : List Call} {m u : Memory} (count : ℕ) (bs : Bytes) (words : List ℕ) {words' : List ℕ} {r : GrantReply} → GrantCall m.names count bs words words' r → Recorded m cs u → Recorded m cs u
  caller_between : {cs : List Call} {m u : Memory} (w : Caller) (bs : Bytes) {r : CallerReply} → r ≡ caller_said (identified w bs) → Recorded m cs u → Recorded m cs u
  ask_between : {cs : List Call} {m u : Memory} (gs : List Grant) (ws : List ℕ) (w : Caller) (bs : Bytes) (cells : List ℤ) {cells' : List ℤ} {r : Reply}
      → Replies (asked 0 (parse_query bs) (lending m gs ws w) bs cells) cells cells' r → Recorded m cs u → Recorded m cs u
  line_between : {cs : List Call} {m u : Memory} (gs : List Grant) (ws : List ℕ) (w : Caller) (route : ℤ) (bs out : Bytes) {out' : Bytes} {r : Reply}
      → LineReplies 0 (with_route route (parse_query bs)) (lending m gs ws w) bs out out' r → Recorded m cs u → Recorded m cs u

-- ---- lists as a program makes them that keeps its grants in order and one caller

-- the program keeps a grant behind the others where 0 was returned
unfoldable pub grants_kept : ℕ → List Grant → Grant → List Grant
grants_kept refusal gs g = cond (eqb refusal 0) (gs ++ (g ∷ [])) gs

-- What the program had, what it has then, and the refusal that was returned, or 0. Queries may lend any catalogue, caller, cells and bytes; they leave what the program keeps.
pub data Called : Event → Store → Store → ℕ → Type 0 where
  record_called : {s : Store} {c : Call} {m : Memory} {n : ℕ} → OnRecord c s.memory m n → Called (call c) s (with_memory s m) n
  grant_called : {s : Store} {bs : Bytes} {ws : List ℕ} {r : GrantReply} → GrantCall s.memory.names (length s.grants) bs s.words ws r
      → Called (grant bs) s (with_grants s (grants_kept r.refusal s.grants r.grant) ws) r.refusal
  caller_called : {s : Store} {bs : Bytes} {r : CallerReply} → r ≡ caller_said (identified s.caller bs) → Called (caller bs) s (with_caller s r.caller) r.refusal
  ask_called : {s : Store} (gs : List Grant) (ws : List ℕ) (w : Caller) (bs : Bytes) (cells : List ℤ) {cells' : List ℤ} {r : Reply}
      → Replies (asked 0 (parse_query bs) (lending s.memory gs ws w) bs cells) cells cells' r → Called query s s r.refusal
  line_called : {s : Store} (gs : List Grant) (ws : List ℕ) (w : Caller) (route : ℤ) (bs out : Bytes) {out' : Bytes} {r : Reply}
      → LineReplies 0 (with_route route (parse_query bs)) (lending s.memory gs ws w) bs out out' r → Called query s s r.refusal

pub data Calls : Store → List Event → Store → Type 0 where
  done : {s : Store} → Calls s [] s
  then : {e : Event} {es : List Event} {s t u : Store} {n : ℕ} → Called e s t n → Calls t es u → Calls s (e ∷ es) u

-- ---- the whole table of a call, over whatever the program had; that of a query is `asked_table` or `lined_table`

unfoldable pub record_table : Call → Memory → List Check
record_table (stream bs) m = declare_table m.names bs
record_table (clock t) m = clock_table m.ledger t
record_table (row i vs) m = row_table m i vs
record_table clear m = clear_table m.ledger
record_table (clock_line bs) m = clock_line_table m.ledger bs
record_table (row_line bs) m = row_line_table m bs
record_table (clear_line bs) m = clear_line_table m.ledger bs

unfoldable pub table_of : Event → Store → List Check
table_of (call c) s = record_table c s.memory
table_of (grant bs) s = grant_table s.memory.names (catalogue_of s.memory.names s.grants s.words) s.words bs
table_of (caller bs) s = caller_table bs
table_of query s = []
