-- A list of calls for C is one of calls of the library's other crates.
use mathlib.Core.Path.{◌≡◌, refl, sym, ap, ◌∙◌, subst}
use mathlib.Core.List.{List}
use mathlib.Core.Bool.{false}
use Prim.Native.Nat.{ℕ}
use lib.Dec.{eqb}
use Rattle.std.specs.Prelude.{Result, Ok, Err}
use Rattle.refusal.specs.Results.{said_by, held_after}
use Rattle.refusal.specs.declared.Refusal.{Refusal}
use Rattle.refusal.specs.declared.Refused.{Refused}
use Rattle.refusal.specs.declared.Refusal.TheVariants.{Lent, Malformed, Bound, Undeclared, Repeated, Misplaced, WindowSize, ClockBack, StreamFull, NoRoute, ManyRoutes, NoRoom}
use Rattle.refusal.specs.Numbers.{number_of}
use Rattle.calls.specs.Calls.{Call}
use Rattle.calls.specs.Events.{Event, grant, caller}
use Rattle.grant.specs.declared.Grant.{Grant}
use Rattle.grant_line.specs.Granting.{grants_after}
use Rattle.ledger.specs.declared.Ledger.{Ledger}
use Rattle.ledger.specs.Calls.{clock_call, clear_call}
use Rattle.record_lines.specs.Calls.{clock_line_call, clear_line_call}
use Rattle.ledger.specs.Records.{Memory, with_ledger}
use Rattle.history.specs.States.{Promise, declared, clocked, rowed, cleared, clock_lined, row_lined, clear_lined}
use Rattle.history.specs.Fixtures.{Store, with_grants, with_caller, Happens, called, granted, named, asked, Trace, stop, then}
use Rattle.demands.specs.Recording as D
use Rattle.maltziru.specs.declared.GrantReply.{GrantReply}
use Rattle.maltziru.specs.declared.CallerReply.{CallerReply}
use Rattle.maltziru.specs.Calls.{grant_said, caller_said}
use Rattle.maltziru.specs.Lists as C
use Rattle.maltziru.specs.Lists.{OnRecord, Recorded, grants_kept, Called, Calls}
use Rattle.maltziru.proofs.Said.{same_ledger}

-- a refusal's number is not 0
some_number : (f : Refusal) → eqb (number_of f) 0 ≡ false
some_number Lent = refl
some_number Malformed = refl
some_number Bound = refl
some_number Undeclared = refl
some_number Repeated = refl
some_number Misplaced = refl
some_number WindowSize = refl
some_number ClockBack = refl
some_number StreamFull = refl
some_number NoRoute = refl
some_number ManyRoutes = refl
some_number NoRoom = refl

-- a grant is kept where it is accepted
pub kept_after : (r : Result Grant (Refused Grant)) (gs : List Grant) → grants_kept (grant_said r).refusal gs (grant_said r).grant ≡ grants_after r gs
unfolding grants_kept grants_after grant_said said_by held_after
kept_after (Ok g) gs = refl
kept_after (Err f) gs = rw (some_number f.refusal) refl

-- what a call on the record leaves, by its ledger
relaid : {c : Call} (m : Memory) {l k : Ledger} → l ≡ k → Promise c m (with_ledger m l) → Promise c m (with_ledger m k)
relaid {c} m h = subst (λ l. Promise c m (with_ledger m l)) h

pub promised : {c : Call} {m n : Memory} {k : ℕ} → OnRecord c m n k → Promise c m n
promised (C.stream_called c) = declared c.call
promised (C.clock_called {m} {t} {r} h) = relaid m (same_ledger (clock_call m.ledger t) h) (clocked refl)
promised (C.row_called c) = rowed c.call
promised (C.clear_called {m} {r} h) = relaid m (same_ledger (clear_call m.ledger) h) (cleared refl)
promised (C.clock_line_called {m} {bs} {r} h) = relaid m (same_ledger (clock_line_call m.ledger bs) h) (clock_lined refl)
promised (C.row_line_called c) = row_lined c.call
promised (C.clear_line_called {m} {bs} {r} h) = relaid m (same_ledger (clear_line_call m.ledger bs) h) (clear_lined refl)

pub recorded : {cs : List Call} {m u : Memory} → Recorded m cs u → D.Recorded m cs u
recorded C.stop = D.stop
recorded (C.next c r) = D.then (promised c) (recorded r)
recorded (C.grant_between n bs ws h r) = recorded r
recorded (C.caller_between w bs h r) = recorded r
recorded (C.ask_between gs ws w bs cells h r) = recorded r
recorded (C.line_between gs ws w n bs out h r) = recorded r

pub happens : {e : Event} {s t : Store} {n : ℕ} → Called e s t n → Happens e s t
unfolding caller_said
happens (C.record_called c) = called (promised c)
happens (C.grant_called {s} {bs} {ws} {r} c) =
    let k : grants_after c.granted s.grants ≡ grants_kept r.refusal s.grants r.grant =
    sym (kept_after c.granted s.grants) ∙ sym (ap (λ (x : GrantReply). grants_kept x.refusal s.grants x.grant) c.says) in
    subst (λ gs. Happens (grant bs) s (with_grants s gs ws)) k (granted c.call)
happens (C.caller_called {s} {bs} {r} h) = subst (λ w. Happens (caller bs) s (with_caller s w)) (sym (ap (λ (x : CallerReply). x.caller) h)) (named refl)
happens (C.ask_called gs ws w bs cells h) = asked
happens (C.line_called gs ws w n bs out h) = asked

pub trace : {es : List Event} {s t : Store} → Calls s es t → Trace s es t
trace C.done = stop
trace (C.then c r) = then (happens c) (trace r)
