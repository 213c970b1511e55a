-- What a line of each verb leaves, by what the functions of `step` return.
use mathlib.Core.Path.{◌≡◌, sym, ap, ◌∙◌, subst}
use mathlib.Core.List.{List}
use mathlib.Core.Option.{some}
use Prim.Native.Nat.{ℕ, min}
use lib.IntN.{ℤ}
use lib.ListN.{length, take}
use Rattle.std.specs.Prelude.{Result}
use Rattle.refusal.specs.Results.{Said, said_by, held_after}
use Rattle.refusal.specs.declared.Refused.{Refused}
use Rattle.syntax.specs.Grammar as G
use Rattle.syntax.specs.Grammar.{Bytes}
use Rattle.syntax.specs.Limits.{max_grants}
use Rattle.syntax.specs.Readers.{parse_as, verb_of}
use Rattle.stream_line.specs.Declaring.{Declares}
use Rattle.ledger.specs.declared.Ledger.{Ledger}
use Rattle.record_lines.specs.Calls.{clock_line_call, clear_line_call, RowLineCall}
use Rattle.caller.specs.declared.Caller as W
use Rattle.caller.specs.Lines.{identified}
use Rattle.grant.specs.declared.Grant as T
use Rattle.history.specs.Fixtures.{Store, with_memory, with_grants, with_caller}
use Rattle.ask.specs.declared.Reply.{Reply}
use Rattle.ask.specs.Replies.{Replies}
use Rattle.ask.specs.Asking.{asked, LineReplies}
use Rattle.report.specs.declared.Message.{Message}
use Rattle.report.specs.declared.Message.TheVariants.{Cells, Text}
use Rattle.script.specs.declared.State.{State}
use Rattle.script.specs.declared.Stepped.{Stepped}
use Rattle.script.specs.declared.Verb.{Verb}
use Rattle.script.specs.declared.Verb.TheVariants.{Stream, Grant, Clock, Row, Clear, Caller, Ask, Line, Other}
use Rattle.script.specs.States.{with_ledger_in, with_caller_in, store_of, stepped_with}
use Rattle.script.specs.Steps.{verb_in, verdict_said, reply_said, unread_said, Granting, Does, unread_does, stream_does, grant_does, clock_does, row_does, clear_does, caller_does, ask_does, line_does}
use Rattle.script.proofs.Taken.{take_held}

module _ (bs : Bytes) (zs : List ℤ) (ys : Bytes) (s : State) (ns ts : List ℕ) (vs : List ℤ) (ws : List ℕ) (v : Verb) (h : verb_in v ≡ verb_of bs) where
  abbrev here : Store
  here = store_of s ns ts vs ws

  -- what was said and left, by another name
  ends : {w : Verb} → v ≡ w → {ns' ts' : List ℕ} {vs' : List ℤ} {ws' : List ℕ} {zs' : List ℤ} {ys' : Bytes} {x : State} {y : Message} {r : Stepped} → r ≡ stepped_with x y
      → Does bs zs ys (verb_in w) here (store_of x ns' ts' vs' ws') zs' ys' y → Does bs zs ys (verb_of bs) here (store_of r.state ns' ts' vs' ws') zs' ys' r.says
  ends {w} k {ns'} {ts'} {vs'} {ws'} {zs'} {ys'} {x} {y} {r} e d =
      subst (λ (z : Stepped). Does bs zs ys (verb_of bs) here (store_of z.state ns' ts' vs' ws') zs' ys' z.says) (sym e)
      (subst (λ o. Does bs zs ys o here (store_of x ns' ts' vs' ws') zs' ys' y) (sym (ap verb_in k) ∙ h) d)

  pub stream_ends : v ≡ Stream → {ns' : List ℕ} {d : Said} → Declares ns bs ns' d → {r : Stepped} → r ≡ stepped_with s (verdict_said d)
      → Does bs zs ys (verb_of bs) here (store_of r.state ns' ts vs ws) zs ys r.says
  unfolding verb_in with_memory
  stream_ends k d e = ends k e (stream_does d)

  pub grant_ends : v ≡ Grant → {ws' : List ℕ} {r : Stepped} → Granting s ns bs ws ws' r → Does bs zs ys (verb_of bs) here (store_of r.state ns ts vs ws') zs ys r.says
  unfolding verb_in with_grants
  grant_ends k {ws'} {r} g =
      ends k g.says
      (subst (λ (gs : List T.Grant). Does bs zs ys (some G.grant) here (record { memory = record { ledger = r.state.ledger; names = ns; times = ts; values = vs }; grants = gs; words = ws'; caller = r.state.caller }) zs ys (verdict_said (said_by g.granted))) (sym g.grants)
      (rw (g.ledger, g.caller) (grant_does g.call)))

  pub clock_ends : v ≡ Clock → {e : Result Ledger (Refused Ledger)} → e ≡ clock_line_call s.ledger bs → {r : Stepped} → r ≡ stepped_with (with_ledger_in s (held_after e)) (verdict_said (said_by e))
      → Does bs zs ys (verb_of bs) here (store_of r.state ns ts vs ws) zs ys r.says
  unfolding verb_in with_memory
  clock_ends k d e = ends k e (clock_does d)

  pub row_ends : v ≡ Row → (e : Result Ledger (Refused Ledger)) {ts' : List ℕ} {vs' : List ℤ}
      → RowLineCall (record { ledger = s.ledger; names = ns; times = ts; values = vs }) bs (record { ledger = held_after e; names = ns; times = ts'; values = vs' }) (said_by e)
      → {r : Stepped} → r ≡ stepped_with (with_ledger_in s (held_after e)) (verdict_said (said_by e))
      → Does bs zs ys (verb_of bs) here (store_of r.state ns ts' vs' ws) zs ys r.says
  unfolding verb_in with_memory
  row_ends k _ d e = ends k e (row_does d)

  pub clear_ends : v ≡ Clear → {e : Result Ledger (Refused Ledger)} → e ≡ clear_line_call s.ledger bs → {r : Stepped} → r ≡ stepped_with (with_ledger_in s (held_after e)) (verdict_said (said_by e))
      → Does bs zs ys (verb_of bs) here (store_of r.state ns ts vs ws) zs ys r.says
  unfolding verb_in with_memory
  clear_ends k d e = ends k e (clear_does d)

  pub caller_ends : v ≡ Caller → {i : Result W.Caller (Refused W.Caller)} → i ≡ identified s.caller bs → {r : Stepped} → r ≡ stepped_with (with_caller_in s (held_after i)) (verdict_said (said_by i))
      → Does bs zs ys (verb_of bs) here (store_of r.state ns ts vs ws) zs ys r.says
  unfolding verb_in with_caller
  caller_ends k d e = ends k e (caller_does d)

  pub unread_ends : v ≡ Other → {r : Stepped} → r ≡ stepped_with s (unread_said (length bs)) → Does bs zs ys (verb_of bs) here (store_of r.state ns ts vs ws) zs ys r.says
  unfolding verb_in
  unread_ends k e = ends k e unread_does

  module _ (full : length s.grants ≡ max_grants) {n : ℕ} (held : n ≡ min s.count max_grants) where
    held_all : take n s.grants ≡ take s.count s.grants
    held_all = ap (λ k. take k s.grants) held ∙ take_held s.count s.grants full

    pub ask_ends : v ≡ Ask → {zs' : List ℤ} {y : Reply}
        → Replies (asked 1 (parse_as G.ask bs) (record { memory = record { ledger = s.ledger; names = ns; times = ts; values = vs }; grants = take n s.grants; granted = ws; caller = s.caller }) bs zs) zs zs' y
        → length zs' ≡ length zs → {r : Stepped} → r ≡ stepped_with s (reply_said y (Cells y.count)) → Does bs zs ys (verb_of bs) here (store_of r.state ns ts vs ws) zs' ys r.says
    unfolding verb_in
    ask_ends k {zs'} {y} d l e =
        ends k e
        (ask_does (subst (λ (gs : List T.Grant). Replies (asked 1 (parse_as G.ask bs) (record { memory = here.memory; grants = gs; granted = ws; caller = s.caller }) bs zs) zs zs' y) held_all d) l)

    pub line_ends : v ≡ Line → {ys' : Bytes} {y : Reply}
        → LineReplies 1 (parse_as G.line bs) (record { memory = record { ledger = s.ledger; names = ns; times = ts; values = vs }; grants = take n s.grants; granted = ws; caller = s.caller }) bs ys ys' y
        → length ys' ≡ length ys → {r : Stepped} → r ≡ stepped_with s (reply_said y (Text y.count)) → Does bs zs ys (verb_of bs) here (store_of r.state ns ts vs ws) zs ys' r.says
    unfolding verb_in
    line_ends k {ys'} {y} d l e =
        ends k e
        (line_does (subst (λ (gs : List T.Grant). LineReplies 1 (parse_as G.line bs) (record { memory = here.memory; grants = gs; granted = ws; caller = s.caller }) bs ys ys' y) held_all d) l)
