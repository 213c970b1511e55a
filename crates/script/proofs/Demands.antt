-- The three demands, of the lines of a script and from the contract of `step` alone (`Does`).
use mathlib.Core.Path.{◌≡◌, refl, sym, ap, ◌∙◌, subst}
use mathlib.Core.List.{List, ◌++◌}
use mathlib.Core.Bool.{Bool, true, false, cond}
use mathlib.Core.Option.{Option, some}
use Prim.Native.Nat.{ℕ}
use lib.IntN.{ℤ}
use lib.Dec.{eqb}
use borrow.Author.Tests.{eqb-true, eqb-false}
use Rattle.std.specs.Prelude.{Result, Ok, Err}
use Rattle.refusal.specs.Results.{Said, giving, said_by, held_after, settled}
use Rattle.refusal.proofs.Results.{said_giving, held_giving}
use Rattle.refusal.specs.declared.Refused.{Refused}
use Rattle.refusal.specs.Checks.{Ordered}
use Rattle.lists.specs.Lists.{gather}
use Rattle.syntax.specs.Grammar as G
use Rattle.syntax.specs.Grammar.{Bytes, Verb}
use Rattle.syntax.specs.Readers.{parse_as}
use Rattle.model.specs.Alike.{Alike}
use Rattle.calls.specs.Calls.{Call, after}
use Rattle.ledger.specs.Records.{Memory, with_ledger, with_names}
use Rattle.record_lines.specs.Calls.{clock_line_call, clear_line_call}
use Rattle.caller.specs.Callers.{caller_of}
use Rattle.caller.specs.Lines.{identified}
use Rattle.grant.specs.declared.Grant.{Grant}
use Rattle.grant.specs.Catalogues.{catalogue_of}
use Rattle.grant_line.specs.Granting.{grants_after}
use Rattle.history.specs.States as M
use Rattle.history.specs.States.{declared, clock_lined, row_lined, clear_lined}
use Rattle.history.specs.Fixtures.{Store, with_memory, with_grants, with_caller}
use Rattle.ask.specs.declared.Reply.{Reply}
use Rattle.ask.specs.Asking.{asked_table, lined_table}
use Rattle.demands.specs.Recording as D
use Rattle.demands.specs.Lending.{SameLent}
use Rattle.demands.specs.Holding.{Answered, Lined}
use Rattle.demands.specs.Refusing.{first_number}
use Rattle.demands.proofs.Refused as R
use Rattle.demands.proofs.Defined.{valid_kept}
use Rattle.demands.proofs.Answered as A
use Rattle.demands.proofs.Interference as I
use Rattle.report.specs.declared.Message.{Message}
use Rattle.report.specs.declared.Message.TheVariants as Say
use Rattle.script.specs.Steps.{verdict_said, reply_said, lending, Does, unread_does, stream_does, grant_does, clock_does, row_does, clear_does, caller_does, ask_does, line_does}
use Rattle.script.specs.Runs.{call_of, calls_of, Done, none_left, line_done}

-- ---- what a reply says

-- a reply that is said as a refusal is one, with its number; said as an answer, it is none, and its count is said
module _ (r : Reply) where
  abbrev as_told : Message → Bool → Message
  as_told y b = cond b y (Say.Refusal r.refusal)

  module _ {y : Message} {n : ℕ} (other : y ≡ Say.Refusal n → ⊥) where
    said_refused : reply_said r y ≡ Say.Refusal n → (r.refusal ≡ 0 → ⊥) × (n ≡ r.refusal)
    unfolding reply_said
    said_refused = go (eqb r.refusal 0) refl
      where
        go : (b : Bool) → eqb r.refusal 0 ≡ b → as_told y b ≡ Say.Refusal n → (r.refusal ≡ 0 → ⊥) × (n ≡ r.refusal)
        go true e h = absurd (other h)
        go false e h = (eqb-false r.refusal 0 e, cc)

  said_told : {y : Message} → (Say.Refusal r.refusal ≡ y → ⊥) → {z : Message} → reply_said r z ≡ y → (r.refusal ≡ 0) × (z ≡ y)
  unfolding reply_said
  said_told {y} other {z} = go (eqb r.refusal 0) refl
    where
      go : (b : Bool) → eqb r.refusal 0 ≡ b → as_told z b ≡ y → (r.refusal ≡ 0) × (z ≡ y)
      go true e h = (eqb-true r.refusal 0 e, h)
      go false e h = absurd (other h)

-- ---- demand 1: a refusal changes nothing; the number that an `ask` or a `line` line says is that of the first check that fails

module _ {A : Type 0} where
  stays : (v : Said) (old new : A) → {n : ℕ} → verdict_said v ≡ Say.Refusal n → settled v old new ≡ old
  unfolding settled
  stays (Ok u) old new e = absurd (cc)
  stays (Err f) old new e = refl

  held_stays : {r : Result A (Refused A)} (v : Said) (new old : A) → r ≡ giving v new old → {n : ℕ} → verdict_said (said_by r) ≡ Say.Refusal n → held_after r ≡ old
  held_stays v new old e k = ap held_after e ∙ held_giving v new old ∙ stays v old new (ap verdict_said (sym (ap said_by e ∙ said_giving v new old)) ∙ k)

grants_stay : (r : Result Grant (Refused Grant)) (gs : List Grant) → {n : ℕ} → verdict_said (said_by r) ≡ Say.Refusal n → grants_after r gs ≡ gs
unfolding said_by grants_after
grants_stay (Ok g) gs e = absurd (cc)
grants_stay (Err f) gs e = refl

-- over any memory, a line that is refused leaves the store, the cells and the bytes
pub refused_stays : {bs : Bytes} {zs zs' : List ℤ} {ys ys' : Bytes} {v : Option Verb} {s t : Store} {y : Message} → Does bs zs ys v s t zs' ys' y → {n : ℕ} → y ≡ Say.Refusal n → (t ≡ s) × (zs' ≡ zs) × (ys' ≡ ys)
unfolding with_memory with_grants with_caller clock_line_call clear_line_call identified
refused_stays unread_does k = (refl, refl, refl)
refused_stays (stream_does {s = s} {v = v} d) k = (ap (λ ns. with_memory s (with_names s.memory ns)) (d.left ∙ stays v _ _ k), refl, refl)
refused_stays (grant_does {s = s} {ws} {r} g) k =
    (ap (λ gs. with_grants s gs ws) (grants_stay r _ k) ∙ ap (λ l. with_grants s s.grants l) (g.left ∙ stays (said_by r) _ _ k), refl, refl)
refused_stays (clock_does {s = s} {r} e) k =
    (ap (λ l. with_memory s (with_ledger s.memory l)) (held_stays _ _ _ e k), refl, refl)
refused_stays (row_does {s = s} {v = v} d) k = (ap (with_memory s) (d.left ∙ stays v _ _ k), refl, refl)
refused_stays (clear_does {s = s} {r} e) k =
    (ap (λ l. with_memory s (with_ledger s.memory l)) (held_stays _ _ _ e k), refl, refl)
refused_stays (caller_does {s = s} {r} e) k =
    (ap (λ w. with_caller s w) (held_stays _ _ _ e k), refl, refl)
refused_stays {bs} {zs} (ask_does {s = s} {r = r} h l) k =
    (refl, (R.asked_refusal (lending s) 1 (parse_as G.ask bs) bs zs h).1 (said_refused r (λ e. cc) k).0, refl)
refused_stays {bs} {ys = ys} (line_does {s = s} {r = r} h l) k =
    (refl, refl, (R.lined_refusal (lending s) 1 (parse_as G.line bs) bs ys h.said).1 (said_refused r (λ e. cc) k).0)

-- over any memory, an `ask` line says the refusal of the first check that fails, in the paper's order
pub ask_refusal : {bs : Bytes} {zs zs' : List ℤ} {ys ys' : Bytes} {s t : Store} {y : Message} → Does bs zs ys (some G.ask) s t zs' ys' y → {n : ℕ} → y ≡ Say.Refusal n
    → (n ≡ first_number (asked_table 1 (parse_as G.ask bs) (lending s) bs zs)) × Ordered (asked_table 1 (parse_as G.ask bs) (lending s) bs zs)
ask_refusal {bs} {zs} (ask_does {s = s} {r = r} h l) k =
    ((said_refused r (λ e. cc) k).1 ∙ (R.asked_refusal (lending s) 1 (parse_as G.ask bs) bs zs h).0, R.asked_ordered (lending s) 1 (parse_as G.ask bs) bs zs)

-- and so does a `line` line
pub line_refusal : {bs : Bytes} {zs zs' : List ℤ} {ys ys' : Bytes} {s t : Store} {y : Message} → Does bs zs ys (some G.line) s t zs' ys' y → {n : ℕ} → y ≡ Say.Refusal n
    → (n ≡ first_number (lined_table 1 (parse_as G.line bs) (lending s) bs ys)) × Ordered (lined_table 1 (parse_as G.line bs) (lending s) bs ys)
line_refusal {bs} {ys = ys} (line_does {s = s} {r = r} h l) k =
    ((said_refused r (λ e. cc) k).1 ∙ (R.lined_refusal (lending s) 1 (parse_as G.line bs) bs ys h.said).0, R.lined_ordered (lending s) 1 (parse_as G.line bs) bs ys)

-- ---- demand 2: an answer holds exactly the rows of the granted views, and a line gives them again

abbrev counted : ℕ → Reply
counted n = record { refusal = 0; count = n }

-- a reply that is no refusal
told_reply : (r : Reply) {n : ℕ} → r.refusal ≡ 0 → n ≡ r.count → r ≡ counted n
told_reply r e h = λ i. record { refusal = e i; count = sym h i }

pub answered : {bs : Bytes} {zs zs' : List ℤ} {ys ys' : Bytes} {s t : Store} {y : Message} → Does bs zs ys (some G.ask) s t zs' ys' y → {n : ℕ} → y ≡ Say.Cells n
    → Answered (lending s) (parse_as G.ask bs) zs zs' (counted n)
answered {bs} {zs} {zs'} (ask_does {s = s} {r = r} h l) k =
    let (e, h') = said_told r (λ e. cc) k in
    subst (Answered (lending s) (parse_as G.ask bs) zs zs') (told_reply r e (cc)) (A.answered (lending s) 1 (parse_as G.ask bs) bs zs h e)

pub printed : {bs : Bytes} {zs zs' : List ℤ} {ys ys' : Bytes} {s t : Store} {y : Message} → Does bs zs ys (some G.line) s t zs' ys' y → {n : ℕ} → y ≡ Say.Text n
    → Lined (lending s) (parse_as G.line bs) ys ys' (counted n)
printed {bs} {ys = ys} {ys'} (line_does {s = s} {r = r} h l) k =
    let (e, h') = said_told r (λ e. cc) k in
    subst (Lined (lending s) (parse_as G.line bs) ys ys') (told_reply r e (cc)) (A.lined_holds (lending s) (valid_kept (lending s) h.ranges) 1 (parse_as G.line bs) bs ys h.said e)

-- ---- demand 3: an answer hangs on nothing but what is shown

-- what a line leaves of the record's memory
line_recorded : {bs : Bytes} {zs zs' : List ℤ} {ys ys' : Bytes} {v : Option Verb} {s t : Store} {y : Message} {cs : List Call} {u : Memory} → Does bs zs ys v s t zs' ys' y
    → D.Recorded t.memory cs u → D.Recorded s.memory (call_of bs v ++ cs) u
unfolding call_of with_memory with_grants with_caller
line_recorded unread_does r = r
line_recorded (stream_does d) r = D.then (declared d) r
line_recorded (grant_does g) r = r
line_recorded (clock_does e) r = D.then (clock_lined e) r
line_recorded (row_does d) r = D.then (row_lined d) r
line_recorded (clear_does e) r = D.then (clear_lined e) r
line_recorded (caller_does e) r = r
line_recorded (ask_does h l) r = r
line_recorded (line_does h l) r = r

recorded : {s u : Store} {ls : List Bytes} → Done s ls u → D.Recorded s.memory (calls_of ls) u.memory
unfolding calls_of gather
recorded none_left = D.stop
recorded (line_done d r) = line_recorded d (recorded r)

-- Two scripts, each from fresh memory, refused lines and queries included. If by the definitions the catalogue and the caller are the same after both (`SameLent`), and so are the clock, the streams,
-- the caller's views and admitted figures (`Alike`), then an `ask` line with the same cells lent says the same and leaves the same cells; and so does a `line` line.
module _ {s t u v : Store} {ls ms : List Bytes} (f : M.Fresh s.memory) (r : Done s ls u) (g : M.Fresh t.memory) (k : Done t ms v) (same : SameLent (lending u) (lending v))
    (a : Alike (after (calls_of ls)) (after (calls_of ms)) (caller_of u.caller) (catalogue_of u.memory.names u.grants u.words)) where
  pub same_answers : {bs : Bytes} {zs p q : List ℤ} {ys ys' ys'' : Bytes} {u' v' : Store} {y z : Message} → Does bs zs ys (some G.ask) u u' p ys' y → Does bs zs ys (some G.ask) v v' q ys'' z → (y ≡ z) × (p ≡ q)
  same_answers {bs} {zs} (ask_does h l) (ask_does h' l') =
      let (e, d) = I.same_answers f (recorded r) g (recorded k) u.grants v.grants u.words v.words u.caller v.caller same a 1 (parse_as G.ask bs) bs zs h h' in
      (ap (λ (r : Reply). reply_said r (Say.Cells r.count)) e, d)

  pub same_lines : {bs : Bytes} {zs zs' zs'' : List ℤ} {ys p q : Bytes} {u' v' : Store} {y z : Message} → Does bs zs ys (some G.line) u u' zs' p y → Does bs zs ys (some G.line) v v' zs'' q z → (y ≡ z) × (p ≡ q)
  same_lines {bs} {ys = ys} (line_does h l) (line_does h' l') =
      let (e, d) = I.same_lines f (recorded r) g (recorded k) u.grants v.grants u.words v.words u.caller v.caller same a 1 (parse_as G.line bs) bs ys h.said h'.said in
      (ap (λ (r : Reply). reply_said r (Say.Text r.count)) e, d)
