-- Demand 1, of the calls for C: what Demands states, call by call.
use mathlib.Core.Path.{◌≡◌, refl, sym, ap, ◌∙◌}
use mathlib.Core.List.{List}
use mathlib.Core.Option.{Option, none, some}
use Prim.Native.Nat.{ℕ}
use Rattle.refusal.specs.declared.Refusal.{Refusal}
use Rattle.refusal.specs.declared.Refused.{Refused}
use Rattle.std.specs.Prelude.{Result, Ok, Err}
use Rattle.refusal.specs.Results.{Said, result_of, said_by, settled}
use Rattle.refusal.proofs.Results.{said_giving, held_giving, settled_old}
use Rattle.refusal.specs.Checks.{Check, first, Ordered, checks_compute}
use Rattle.calls.specs.Events.{Event, call, grant, caller, query}
use Rattle.calls.specs.Calls.{Call, stream, clock, row, clear, clock_line, row_line, clear_line}
use Rattle.ledger.specs.Records.{Memory, with_ledger, with_names}
use Rattle.ledger.specs.Calls.{clock_call, clear_call}
use Rattle.record_lines.specs.Calls.{clock_line_call, clear_line_call}
use Rattle.caller.specs.Lines.{identified}
use Rattle.grant.specs.declared.Grant.{Grant}
use Rattle.grant.specs.Catalogues.{catalogue_of}
use Rattle.grant.proofs.Catalogues.{catalogue_length}
use Rattle.grant_line.specs.Granting.{grants_after}
use Rattle.history.specs.Fixtures.{Store, with_memory, with_grants, with_caller}
use Rattle.history.proofs.Order as O
use Rattle.demands.specs.Refusing.{refused_number, first_number}
use Rattle.maltziru.specs.declared.GrantReply.{GrantReply}
use Rattle.maltziru.specs.declared.CallerReply.{CallerReply}
use Rattle.maltziru.specs.Calls.{said, grant_said, caller_said}
use Rattle.maltziru.specs.Lists as C
use Rattle.maltziru.specs.Lists.{OnRecord, grants_kept, Called, record_table, table_of}
use Rattle.maltziru.proofs.Said.{same_ledger, same_number}
use Rattle.maltziru.proofs.Lists.{kept_after}

-- ---- the number that is returned

-- by the result of a table
by_result : (o : Option Refusal) → said (result_of o) ≡ refused_number o
by_result none = refl
by_result (some f) = refl

said_first : (cs : List Check) → said (result_of (first cs)) ≡ first_number cs
unfolding first_number
said_first cs = by_result (first cs)

record_said : {c : Call} {m m' : Memory} {n : ℕ} → OnRecord c m m' n → n ≡ said (result_of (first (record_table c m)))
unfolding record_table clock_call clear_call clock_line_call clear_line_call
record_said (C.stream_called c) = c.says ∙ ap said c.call.said
record_said (C.clock_called {m} {t} {r} h) = same_number (clock_call m.ledger t) h ∙ ap said (said_giving _ _ _)
record_said (C.row_called c) = c.says ∙ ap said c.call.said
record_said (C.clear_called {m} {r} h) = same_number (clear_call m.ledger) h ∙ ap said (said_giving _ _ _)
record_said (C.clock_line_called {m} {bs} {r} h) = same_number (clock_line_call m.ledger bs) h ∙ ap said (said_giving _ _ _)
record_said (C.row_line_called c) = c.says ∙ ap said c.call.said
record_said (C.clear_line_called {m} {bs} {r} h) = same_number (clear_line_call m.ledger bs) h ∙ ap said (said_giving _ _ _)

says : {e : Event} {s t : Store} {n : ℕ} → Called e s t n → (e ≡ query → ⊥) → n ≡ said (result_of (first (table_of e s)))
unfolding table_of identified grant_said caller_said
says (C.record_called c) o = record_said c
says (C.grant_called {s} {bs} {ws} {r} c) o = ap (λ (x : GrantReply). x.refusal) c.says ∙ ap said (c.call.said _ (catalogue_length s.memory.names s.grants s.words))
says (C.caller_called {s} {bs} {r} h) o = ap (λ (x : CallerReply). x.refusal) h ∙ ap said (said_giving _ _ _)
says (C.ask_called gs ws w bs cells h) o = absurd (o refl)
says (C.line_called gs ws w n bs out h) o = absurd (o refl)

pub says_first : {e : Event} {s t : Store} {n : ℕ} → Called e s t n → (e ≡ query → ⊥) → n ≡ first_number (table_of e s)
says_first {e} {s} c o = says c o ∙ said_first (table_of e s)

-- ---- what a refusal leaves

same : {A : Type 0} (v : Said) (old new : A) → (said v ≡ 0 → ⊥) → settled v old new ≡ old
same v old new ne = settled_old v old new (λ a. ne (ap said a))

same_grants : (r : Result Grant (Refused Grant)) (gs : List Grant) → (said (said_by r) ≡ 0 → ⊥) → grants_after r gs ≡ gs
unfolding said_by grants_after
same_grants (Ok g) gs ne = absurd (ne refl)
same_grants (Err f) gs ne = refl

-- of a number that is not 0
other : {n m : ℕ} → n ≡ m → (n ≡ 0 → ⊥) → m ≡ 0 → ⊥
other e ne h = ne (e ∙ h)

record_stays : {c : Call} {m m' : Memory} {n : ℕ} → OnRecord c m m' n → (n ≡ 0 → ⊥) → m' ≡ m
unfolding clock_call clear_call clock_line_call clear_line_call
record_stays (C.stream_called {m} c) ne = ap (with_names m) (c.call.left ∙ same c.verdict _ _ (other c.says ne))
record_stays (C.clock_called {m} {t} {r} h) ne =
    let e = clock_call m.ledger t in
    ap (with_ledger m) (sym (same_ledger e h) ∙ held_giving _ _ _ ∙ same _ _ _ (other (same_number e h ∙ ap said (said_giving _ _ _)) ne))
record_stays (C.row_called c) ne = c.call.left ∙ same c.verdict _ _ (other c.says ne)
record_stays (C.clear_called {m} {r} h) ne =
    let e = clear_call m.ledger in
    ap (with_ledger m) (sym (same_ledger e h) ∙ held_giving _ _ _ ∙ same _ _ _ (other (same_number e h ∙ ap said (said_giving _ _ _)) ne))
record_stays (C.clock_line_called {m} {bs} {r} h) ne =
    let e = clock_line_call m.ledger bs in
    ap (with_ledger m) (sym (same_ledger e h) ∙ held_giving _ _ _ ∙ same _ _ _ (other (same_number e h ∙ ap said (said_giving _ _ _)) ne))
record_stays (C.row_line_called c) ne = c.call.left ∙ same c.verdict _ _ (other c.says ne)
record_stays (C.clear_line_called {m} {bs} {r} h) ne =
    let e = clear_line_call m.ledger bs in
    ap (with_ledger m) (sym (same_ledger e h) ∙ held_giving _ _ _ ∙ same _ _ _ (other (same_number e h ∙ ap said (said_giving _ _ _)) ne))

pub refused_stays : {e : Event} {s t : Store} {n : ℕ} → Called e s t n → (n ≡ 0 → ⊥) → t ≡ s
unfolding with_memory with_grants with_caller identified grant_said caller_said
refused_stays (C.record_called {s} c) ne = ap (with_memory s) (record_stays c ne)
refused_stays (C.grant_called {s} {bs} {ws} {r} c) ne =
    let g = c.granted in
    let ne' : said (said_by g) ≡ 0 → ⊥ = other (ap (λ (x : GrantReply). x.refusal) c.says) ne in
    let k : grants_kept r.refusal s.grants r.grant ≡ s.grants = ap (λ (x : GrantReply). grants_kept x.refusal s.grants x.grant) c.says ∙ kept_after g s.grants ∙ same_grants g s.grants ne' in
    ap (λ gs. with_grants s gs ws) k ∙ ap (λ l. with_grants s s.grants l) (c.call.left ∙ same (said_by g) _ _ ne')
refused_stays (C.caller_called {s} {bs} {r} h) ne =
    ap (λ w. with_caller s w) (ap (λ (x : CallerReply). x.caller) h ∙ held_giving _ _ _ ∙ same _ _ _ (other (ap (λ (x : CallerReply). x.refusal) h ∙ ap said (said_giving _ _ _)) ne))
refused_stays (C.ask_called gs ws w bs cells h) ne = refl
refused_stays (C.line_called gs ws w n bs out h) ne = refl

-- ---- the order of the tables

record_ordered : (c : Call) (m : Memory) → Ordered (record_table c m)
unfolding record_table
record_ordered (stream bs) m = O.declare_ordered m.names bs
record_ordered (clock t) m = O.clock_ordered m.ledger t
record_ordered (row i vs) m = O.row_ordered m i vs
record_ordered clear m = O.clear_ordered m.ledger
record_ordered (clock_line bs) m = O.clock_line_ordered m.ledger bs
record_ordered (row_line bs) m = O.row_line_ordered m bs
record_ordered (clear_line bs) m = O.clear_line_ordered m.ledger bs

pub table_ordered : (e : Event) (s : Store) → Ordered (table_of e s)
unfolding table_of checks_compute
table_ordered (call c) s = record_ordered c s.memory
table_ordered (grant bs) s = O.grant_ordered s.memory.names (catalogue_of s.memory.names s.grants s.words) s.words bs
table_ordered (caller bs) s = O.caller_ordered bs
table_ordered query s = tt
