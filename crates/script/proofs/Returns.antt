-- What the functions of a line return, one law for each return.
use mathlib.Core.Path.{◌≡◌, refl, sym, ap, ◌∙◌, subst}
use mathlib.Core.List.{List, [], ◌∷◌, ◌++◌}
use Prim.Native.Nat.{ℕ, ◌≤◌, ◌<◌, min}
use native.Mathlib.Omega.{arith}
use lib.Dec.{ltb→lt}
use lib.ListN.{length, take, replicate, length-replicate, length-take}
use borrow.Author.Tests.{lt-ltb, le-ltb, eq-eqb, ne_eqb}
use Rattle.std.specs.Prelude.{Result, Ok, Err}
use Rattle.refusal.specs.Numbers.{number_of}
use Rattle.refusal.specs.Results.{Said, said_by, held_after}
use Rattle.refusal.specs.Checks.{first}
use Rattle.refusal.specs.declared.Refusal.{Refusal}
use Rattle.refusal.specs.declared.Refused.{Refused}
use Rattle.refusal.specs.declared.Refusal.TheVariants.{Malformed, Bound}
use Rattle.refusal.proofs.Passing.{passes_first, pass_rest}
use Rattle.refusal.proofs.Results.{result_none}
use Rattle.syntax.specs.Grammar as G
use Rattle.syntax.specs.Grammar.{Bytes}
use Rattle.syntax.specs.Limits.{max_line, max_grants}
use Rattle.syntax.specs.Readers.{parse_as}
use Rattle.model.specs.Queries as M
use Rattle.calls.proofs.Written.{written_passes}
use Rattle.calls.proofs.Accepted.{grant_accepted}
use Rattle.schema.specs.Schemas.{schema_of}
use Rattle.grant.specs.declared.Grant.{Grant}
use Rattle.grant.specs.Grants.{grant_of}
use Rattle.grant_line.specs.Lines.{no_grant}
use Rattle.grant_line.specs.Granting.{grant_table, grants_after, Grants}
use Rattle.ledger.specs.declared.Ledger.{Ledger}
use Rattle.ledger.specs.Calls.{begun}
use Rattle.caller.specs.declared.Caller.{Caller}
use Rattle.caller.specs.Callers.{no_caller}
use Rattle.ask.specs.declared.Reply.{Reply}
use Rattle.report.specs.declared.Message.{Message}
use Rattle.report.specs.declared.Message.TheVariants as Say
use Rattle.script.specs.declared.State.{State}
use Rattle.script.specs.declared.Stepped.{Stepped}
use Rattle.script.specs.States.{new_state, with_ledger_in, with_caller_in, with_grant_in, stepped_with}
use Rattle.script.specs.Steps.{verdict_said, reply_said, unread_said, Granting}
use Rattle.script.proofs.Taken.{take_set}

-- ---- states

pub new_made : {g : Grant} → g ≡ no_grant → {l : Ledger} → l ≡ begun → {w : Caller} → w ≡ no_caller → ◌≡◌ {A = State} (record { ledger = l; grants = replicate 24 g; count = 0; caller = w }) new_state
unfolding new_state
new_made e f h = rw (e, f, h)

-- ---- what is said

pub said_accepted : (s : State) {v : Said} → v ≡ Ok tt → ◌≡◌ {A = Stepped} (record { state = s; says = Say.Quiet }) (stepped_with s (verdict_said v))
said_accepted s e = rw e

pub said_refused : (s : State) {v : Said} {f : Refusal} → v ≡ Err f → {n : ℕ} → n ≡ number_of f → ◌≡◌ {A = Stepped} (record { state = s; says = Say.Refusal n }) (stepped_with s (verdict_said v))
said_refused s e h = rw (e, h)

-- what a result gives, accepted and refused
module _ (s : State) where
  abbrev with_new : Result Ledger (Refused Ledger) → Stepped
  with_new y = stepped_with (with_ledger_in s (held_after y)) (verdict_said (said_by y))

  abbrev with_named : Result Caller (Refused Caller) → Stepped
  with_named y = stepped_with (with_caller_in s (held_after y)) (verdict_said (said_by y))

module _ (s : State) {x : State} {r : Stepped} where
  module _ {v : Result Ledger (Refused Ledger)} where
    pub entered_ok : {l : Ledger} → v ≡ Ok l → x ≡ with_ledger_in s l → r ≡ stepped_with x (verdict_said (Ok tt)) → r ≡ with_new s v
    unfolding said_by held_after
    entered_ok e k h = h ∙ ap (λ (y : State). stepped_with y Say.Quiet) k ∙ ap (with_new s) (sym e)

    pub entered_err : {f : Refused Ledger} → v ≡ Err f → x ≡ with_ledger_in s f.held → r ≡ stepped_with x (verdict_said (Err f.refusal)) → r ≡ with_new s v
    unfolding said_by held_after
    entered_err {f} e k h = h ∙ ap (λ (y : State). stepped_with y (verdict_said (Err f.refusal))) k ∙ ap (with_new s) (sym e)

  module _ {v : Result Caller (Refused Caller)} where
    pub identified_ok : {w : Caller} → v ≡ Ok w → x ≡ with_caller_in s w → r ≡ stepped_with x (verdict_said (Ok tt)) → r ≡ with_named s v
    unfolding said_by held_after
    identified_ok e k h = h ∙ ap (λ (y : State). stepped_with y Say.Quiet) k ∙ ap (with_named s) (sym e)

    pub identified_err : {f : Refused Caller} → v ≡ Err f → x ≡ with_caller_in s f.held → r ≡ stepped_with x (verdict_said (Err f.refusal)) → r ≡ with_named s v
    unfolding said_by held_after
    identified_err {f} e k h = h ∙ ap (λ (y : State). stepped_with y (verdict_said (Err f.refusal))) k ∙ ap (with_named s) (sym e)

pub replied_refused : (s : State) (r : Reply) (y : Message) → (r.refusal ≡ 0 → ⊥) → ◌≡◌ {A = Stepped} (record { state = s; says = Say.Refusal r.refusal }) (stepped_with s (reply_said r y))
unfolding reply_said
replied_refused s r y h = rw (ne_eqb r.refusal 0 h)

pub replied_given : (s : State) (r : Reply) (y : Message) → r.refusal ≡ 0 → ◌≡◌ {A = Stepped} (record { state = s; says = y }) (stepped_with s (reply_said r y))
unfolding reply_said
replied_given s r y h = rw (eq-eqb r.refusal 0 h)

pub unread_long : (s : State) (n : ℕ) → max_line < n → {r : Stepped} → r ≡ stepped_with s (verdict_said (Err Bound)) → r ≡ stepped_with s (unread_said n)
unfolding unread_said
unread_long s n h e = e ∙ rw (lt-ltb max_line n h)

pub unread_formless : (s : State) (n : ℕ) → n ≤ max_line → {r : Stepped} → r ≡ stepped_with s (verdict_said (Err Malformed)) → r ≡ stepped_with s (unread_said n)
unfolding unread_said
unread_formless s n h e = e ∙ rw (le-ltb max_line n h)

-- ---- grants

-- an accepted one has a place
pub grant_placed : (ns : List ℕ) (n : ℕ) (bs : Bytes) (ws ws' : List ℕ) (g : Result Grant (Refused Grant)) → Grants ns n bs ws ws' g → {made : Grant} → g ≡ Ok made → n < max_grants
unfolding grant_table said_by
grant_placed ns n bs ws ws' g c e =
    let gs : List M.Grant = replicate n (grant_of ns no_grant []) in
    let l = length-replicate n (grant_of ns no_grant []) in
    let p = passes_first (grant_table ns gs ws bs) (result_none (first (grant_table ns gs ws bs)) (sym (c.said gs l) ∙ ap said_by e)) in
    written_passes 0 bs (parse_as G.grant bs) _ (pass_rest _ _ _ p) (λ h k q.
    let r = ltb→lt (length gs) max_grants (grant_accepted (schema_of ns) gs h q).room in
    omega arith)

module _ (s : State) (full : length s.grants ≡ max_grants) (ns : List ℕ) (bs : Bytes) (ws ws' : List ℕ) {n : ℕ} (held : n ≡ min s.count max_grants) {g : Result Grant (Refused Grant)} (c : Grants ns n bs ws ws' g) where
  kept : n ≡ length (take s.count s.grants)
  kept = let e = length-take s.count s.grants in omega arith

  call : Grants ns (length (take s.count s.grants)) bs ws ws' g
  call = subst (λ k. Grants ns k bs ws ws' g) kept c

  pub granting_refused : {f : Refused Grant} → g ≡ Err f → {r : Stepped} → r ≡ stepped_with s (verdict_said (Err f.refusal)) → Granting s ns bs ws ws' r
  unfolding grants_after said_by
  granting_refused {f} e {r} h =
      subst (λ (x : Stepped). Granting s ns bs ws ws' x) (sym h)
      (record { granted = g; call = call; ledger = refl; grants = rw e; caller = refl; says = rw e })

  pub granting_accepted : {made : Grant} → g ≡ Ok made → {x : State} → x ≡ with_grant_in s n made → {r : Stepped} → r ≡ stepped_with x (verdict_said (Ok tt)) → Granting s ns bs ws ws' r
  unfolding grants_after said_by
  granting_accepted {made} e {x} k {r} h =
      let l = grant_placed ns n bs ws ws' g c e in
      let i : n ≡ s.count = omega arith in
      subst (λ (x : Stepped). Granting s ns bs ws ws' x) (sym (h ∙ ap (λ (y : State). stepped_with y Say.Quiet) k))
      (record {
        granted = g;
        call = call;
        ledger = refl;
        grants = take_set n s.grants made (omega arith) ∙ ap (λ m. take m s.grants ++ (made ∷ [])) i ∙ rw e;
        caller = refl;
        says = rw e;
      })
