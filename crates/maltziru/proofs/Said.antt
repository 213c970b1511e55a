-- Replies by their parts.
use mathlib.Core.Path.{◌≡◌, sym, ap, ◌∙◌, subst}
use mathlib.Core.List.{List}
use Prim.Native.Nat.{ℕ}
use lib.IntN.{ℤ}
use mir.Syntax.{w64}
use mir.Val.{to_z, of_z, SFits}
use mir.ValLaws.{to_z-of_z}
use Rattle.syntax.specs.Grammar.{Bytes}
use Rattle.std.specs.Prelude.{Result, Ok, Err}
use Rattle.refusal.specs.Numbers.{number_of}
use Rattle.refusal.specs.Results.{Said, said_by, held_after}
use Rattle.refusal.specs.declared.Refused.{Refused}
use Rattle.stream_line.specs.Declaring.{Declares}
use Rattle.ledger.specs.declared.Ledger.{Ledger}
use Rattle.ledger.specs.Records.{Memory}
use Rattle.ledger.specs.Calls.{clock_call, RowCall}
use Rattle.record_lines.specs.Calls.{RowLineCall}
use Rattle.caller.specs.declared.Caller.{Caller}
use Rattle.grant.specs.declared.Grant.{Grant}
use Rattle.grant_line.specs.Granting.{Grants}
use Rattle.maltziru.specs.declared.LedgerReply.{LedgerReply}
use Rattle.maltziru.specs.declared.GrantReply.{GrantReply}
use Rattle.maltziru.specs.declared.CallerReply.{CallerReply}
use Rattle.maltziru.specs.Calls.{said, ledger_said, grant_said, caller_said, StreamCall, RowCalled, RowLineCalled, GrantCall}

module _ {r : Result Ledger (Refused Ledger)} where
  pub ledger_ok : {l : Ledger} → r ≡ Ok l → record { refusal = 0; ledger = l } ≡ ledger_said r
  unfolding ledger_said said_by held_after
  ledger_ok e = rw e

  pub ledger_err : {f : Refused Ledger} {n : ℕ} → r ≡ Err f → n ≡ number_of f.refusal → record { refusal = n; ledger = f.held } ≡ ledger_said r
  unfolding ledger_said said_by held_after
  ledger_err e h = rw (e, h)

module _ {r : Result Grant (Refused Grant)} where
  pub grant_ok : {g : Grant} → r ≡ Ok g → record { refusal = 0; grant = g } ≡ grant_said r
  unfolding grant_said said_by held_after
  grant_ok e = rw e

  pub grant_err : {f : Refused Grant} {n : ℕ} → r ≡ Err f → n ≡ number_of f.refusal → record { refusal = n; grant = f.held } ≡ grant_said r
  unfolding grant_said said_by held_after
  grant_err e h = rw (e, h)

module _ {r : Result Caller (Refused Caller)} where
  pub caller_ok : {c : Caller} → r ≡ Ok c → record { refusal = 0; caller = c } ≡ caller_said r
  unfolding caller_said said_by held_after
  caller_ok e = rw e

  pub caller_err : {f : Refused Caller} {n : ℕ} → r ≡ Err f → n ≡ number_of f.refusal → record { refusal = n; caller = f.held } ≡ caller_said r
  unfolding caller_said said_by held_after
  caller_err e h = rw (e, h)

pub ledger_later : {e f : Result Ledger (Refused Ledger)} {r : LedgerReply} → r ≡ ledger_said e → e ≡ f → r ≡ ledger_said f
ledger_later h k = h ∙ ap ledger_said k

-- a time, which goes through the machine's numbers
pub clock_later : (l : Ledger) (t : ℤ) → SFits w64 t → {e : Result Ledger (Refused Ledger)} {r : LedgerReply} → r ≡ ledger_said e → e ≡ clock_call l (to_z w64 (of_z w64 t)) → r ≡ ledger_said (clock_call l t)
clock_later l t f h k = h ∙ ap ledger_said (k ∙ ap (clock_call l) (to_z-of_z w64 t f))

pub caller_later : {e f : Result Caller (Refused Caller)} {r : CallerReply} → r ≡ caller_said e → e ≡ f → r ≡ caller_said f
caller_later h k = h ∙ ap caller_said k

pub stream_called : {names names' : List ℕ} {line : Bytes} {v : Said} {n : ℕ} → Declares names line names' v → n ≡ said v → StreamCall names line names' n
stream_called d e = record { verdict = _; call = d; says = e }

pub same_ledger : (e : Result Ledger (Refused Ledger)) {r : LedgerReply} → r ≡ ledger_said e → held_after e ≡ r.ledger
unfolding ledger_said
same_ledger e h = sym (ap (λ (x : LedgerReply). x.ledger) h)

pub same_number : (e : Result Ledger (Refused Ledger)) {r : LedgerReply} → r ≡ ledger_said e → r.refusal ≡ said (said_by e)
unfolding ledger_said
same_number e h = ap (λ (x : LedgerReply). x.refusal) h

module _ {m : Memory} {names times : List ℕ} {values : List ℤ} (e : Result Ledger (Refused Ledger)) {r : LedgerReply} (h : r ≡ ledger_said e) where
  pub row_called : {stream : ℕ} {row : List ℤ} → RowCall m stream row (record { ledger = held_after e; names = names; times = times; values = values }) (said_by e)
      → RowCalled m stream row (record { ledger = r.ledger; names = names; times = times; values = values }) r.refusal
  row_called {stream} {row} c =
      record {
        verdict = said_by e;
        call = subst (λ (l : Ledger). RowCall m stream row (record { ledger = l; names = names; times = times; values = values }) (said_by e)) (same_ledger e h) c;
        says = same_number e h;
      }

  pub row_line_called : {line : Bytes} → RowLineCall m line (record { ledger = held_after e; names = names; times = times; values = values }) (said_by e)
      → RowLineCalled m line (record { ledger = r.ledger; names = names; times = times; values = values }) r.refusal
  row_line_called {line} c =
      record {
        verdict = said_by e;
        call = subst (λ (l : Ledger). RowLineCall m line (record { ledger = l; names = names; times = times; values = values }) (said_by e)) (same_ledger e h) c;
        says = same_number e h;
      }

pub grant_called : {names : List ℕ} {count : ℕ} {line : Bytes} {words words' : List ℕ} {g : Result Grant (Refused Grant)} {r : GrantReply} → Grants names count line words words' g → r ≡ grant_said g
    → GrantCall names count line words words' r
grant_called c e = record { granted = _; call = c; says = e }
