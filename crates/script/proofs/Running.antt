-- A line does what the definitions' line does on the fixture that the store stands for, and a run of lines from fresh memory prints what their script prints.
use mathlib.Core.Path.{◌≡◌, refl, sym, ap, ap₂, ◌∙◌, subst}
use mathlib.Core.List.{List, [], ◌∷◌, ◌++◌}
use mathlib.Core.Bool.{Bool, true, false, ◌&&◌, not, cond}
use mathlib.Core.Option.{Option, none, some}
use Prim.Native.Nat.{ℕ, ◌≤◌}
use lib.IntN.{ℤ}
use lib.Dec.{T, eqb, ltb}
use lib.ListN.{length, take, drop}
use Rattle.std.specs.Prelude.{Result, Err}
use Rattle.refusal.specs.Numbers.{number_of}
use Rattle.refusal.specs.Results.{Said, result_of, said_by}
use Rattle.refusal.proofs.Results.{said_giving}
use Rattle.refusal.specs.Checks.{refuse, first}
use Rattle.refusal.specs.declared.Refusal.{Refusal}
use Rattle.refusal.specs.declared.Refused.{Refused}
use Rattle.refusal.specs.declared.Refusal.TheVariants.{Lent, Malformed, Bound, Undeclared, Repeated, Misplaced, WindowSize, ClockBack, StreamFull, NoRoute, ManyRoutes, NoRoom}
use Rattle.refusal.proofs.Passing.{first_skip}
use Rattle.lists.specs.Lists.{empty?}
use Rattle.lists.proofs.Laws.{true_T, and_both}
use Rattle.syntax.specs.Grammar as G
use Rattle.syntax.specs.Grammar.{Bytes, Form, RouteLine}
use Rattle.syntax.specs.Limits.{max_line, max_routes}
use Rattle.syntax.specs.Readers.{parse_as, verb_of}
use Rattle.model.specs.Queries as M
use Rattle.calls.specs.Validity.{valid_record, valid_schema, valid_catalogue}
use Rattle.calls.specs.Replies as C
use Rattle.calls.specs.Replies.{written, reply, lent_after}
use Rattle.calls.specs.Tables.{query_checks}
use Rattle.calls.specs.Calls as K
use Rattle.calls.specs.Calls.{Call, stream, clock_line, row_line, clear_line, call_table, caller_table}
use Rattle.calls.specs.Asking as Q
use Rattle.calls.specs.Asking.{lent_valid, query_routes, answer, answer_checks, ask_table, no_line, line_given, printed_line, line_checks, line_table}
use Rattle.calls.specs.Events.{Fixture, happen, happened_from}
use Rattle.calls.specs.Scripts.{Outcome, cells, text, changed, told, on_record, act, perform, step, run_from, script}
use Rattle.report.specs.Outcomes.{outcome_of}
use Rattle.claims.proofs.Running.{events_of, step_runs}
use Rattle.schema.specs.Schemas.{schema_of}
use Rattle.schema.proofs.Valid as N
use Rattle.ledger.specs.Records.{record_of, memory_sound}
use Rattle.ledger.proofs.Soundness.{sound_parts}
use Rattle.caller.specs.declared.Caller.{Caller}
use Rattle.caller.specs.Callers.{caller_sound}
use Rattle.caller.specs.Lines.{identified}
use Rattle.grant.specs.Catalogues.{catalogue_words, catalogue_of, catalogue_sound}
use Rattle.grant.proofs.Catalogues.{catalogue_valid}
use Rattle.grant.specs.declared.Grant.{Grant}
use Rattle.grant_line.specs.Granting.{Grants}
use Rattle.grant_line.proofs.Steps.{here_said}
use Rattle.history.specs.States as States
use Rattle.history.specs.States.{Promise, declared, clock_lined, row_lined, clear_lined, said_in}
use Rattle.history.specs.Fixtures.{Store, fixture_of, called, granted, named, Sound, Fresh}
use Rattle.history.proofs.Steps.{step_call}
use Rattle.history.proofs.Events as E
use Rattle.history.proofs.Events.{fresh_store, fresh_fixture}
use Rattle.ask.specs.declared.Reply.{Reply}
use Rattle.ask.specs.Replies.{reply_of, Replies}
use Rattle.ask.specs.Asking.{lent_sound}
use Rattle.demands.proofs.Defined.{asked_is, lined_is}
use Rattle.report.specs.declared.Message.{Message}
use Rattle.report.specs.declared.Message.TheVariants.{Cells, Text}
use Rattle.script.specs.declared.State as S
use Rattle.script.specs.States.{new_state}
use Rattle.script.specs.Steps.{verdict_said, reply_said, unread_said, lending, Does, unread_does, stream_does, grant_does, clock_does, row_does, clear_does, caller_does, ask_does, line_does}
use Rattle.script.specs.Runs.{Held, store, Runs, stop, then}

-- ---- what it leaves

-- a line leaves what its call leaves, and what may be lent
does_left : {bs : Bytes} {zs zs' : List ℤ} {ys ys' : Bytes} {v : Option G.Verb} {s t : Store} {y : Message} → Does bs zs ys v s t zs' ys' y → Sound s → (fixture_of t ≡ happened_from (fixture_of s) (events_of bs v)) × Sound t
unfolding events_of happened_from happen
does_left unread_does ok = (refl, ok)
does_left (stream_does d) ok = E.step (called (declared d)) ok
does_left (grant_does g) ok = E.step (granted g) ok
does_left (clock_does e) ok = E.step (called (clock_lined e)) ok
does_left (row_does d) ok = E.step (called (row_lined d)) ok
does_left (clear_does e) ok = E.step (called (clear_lined e)) ok
does_left (caller_does e) ok = E.step (named e) ok
does_left (ask_does r l) ok = (refl, ok)
does_left (line_does r l) ok = (refl, ok)

-- as many cells and bytes as were lent
does_kept : {bs : Bytes} {zs zs' : List ℤ} {ys ys' : Bytes} {v : Option G.Verb} {s t : Store} {y : Message} → Does bs zs ys v s t zs' ys' y → (length zs' ≡ length zs) × (length ys' ≡ length ys)
does_kept unread_does = (refl, refl)
does_kept (stream_does d) = (refl, refl)
does_kept (grant_does g) = (refl, refl)
does_kept (clock_does e) = (refl, refl)
does_kept (row_does d) = (refl, refl)
does_kept (clear_does e) = (refl, refl)
does_kept (caller_does e) = (refl, refl)
does_kept (ask_does r l) = (l, refl)
does_kept (line_does r l) = (refl, l)

-- ---- what it says

abbrev prints : Message → List ℤ → Bytes → Outcome
prints y zs ys = outcome_of y zs ys

-- a change, by the first check of its table
changed_said : (f g : Fixture) (o : Option Refusal) (zs : List ℤ) (ys : Bytes) → prints (verdict_said (result_of o)) zs ys ≡ (changed f o g).outcome
unfolding changed outcome_of
changed_said f g none zs ys = refl
changed_said f g (some r) zs ys = refl

some_number : (f : Refusal) → eqb (number_of f) 0 ≡ false
some_number Lent = refl
some_number Malformed = refl
some_number Bound = refl
some_number Undeclared = refl
some_number Repeated = refl
some_number Misplaced = refl
some_number WindowSize = refl
some_number ClockBack = refl
some_number StreamFull = refl
some_number NoRoute = refl
some_number ManyRoutes = refl
some_number NoRoom = refl

-- a query and a line, by their replies
asked_said : (f : Fixture) (y : C.Reply ℤ) (zs zs' : List ℤ) (ys : Bytes) (r : Reply) → Replies y zs zs' r → prints (reply_said r (Cells r.count)) zs' ys ≡ (told f cells y).outcome
unfolding told reply_said outcome_of reply_of lent_after
asked_said f (C.refused g) zs zs' ys r h = rw (h.said, some_number g)
asked_said f (C.filled n lent) zs zs' ys r h = rw (h.said, h.left)

lined_said : (f : Fixture) (y : C.Reply ℕ) (zs : List ℤ) (ys ys' : Bytes) (r : Reply) → Replies y ys ys' r → prints (reply_said r (Text r.count)) zs ys' ≡ (told f text y).outcome
unfolding told reply_said outcome_of reply_of lent_after
lined_said f (C.refused g) zs ys ys' r h = rw (h.said, some_number g)
lined_said f (C.filled n lent) zs ys ys' r h = rw (h.said, h.left)

-- a text of no verb
unread_prints : (f : Fixture) (n : ℕ) (zs : List ℤ) (ys : Bytes) → prints (unread_said n) zs ys ≡ (changed f (first (refuse Bound (ltb max_line n) ∷ refuse Malformed true ∷ [])) f).outcome
unfolding unread_said first refuse changed outcome_of
unread_prints f n zs ys = go (ltb max_line n)
  where
    go : (b : Bool) → prints (verdict_said (Err (cond b Bound Malformed))) zs ys ≡ (changed f (cond b (some Bound) (some Malformed)) f).outcome
    go true = refl
    go false = refl

module _ (s : Store) (ok : Sound s) (zs : List ℤ) (ys : Bytes) where
  abbrev f : Fixture
  f = fixture_of s

  valid_kept : T (valid_record (record_of s.memory))
  valid_kept = ok.memory.valid

  may_lend : T (lent_sound (lending s))
  unfolding lent_sound
  may_lend = and_both (memory_sound s.memory && catalogue_sound s.memory.names s.grants s.words) (caller_sound s.caller) (and_both (memory_sound s.memory) _ ok.memory.lent ok.grants) (true_T (caller_sound s.caller) ok.caller)

  call_said : (c : Call) {t : States.State} (p : Promise c s.memory t) → prints (verdict_said (said_in p)) zs ys ≡ (perform f (on_record f c)).outcome
  unfolding perform on_record call_table fixture_of
  call_said c p =
      ap (λ (v : Said). prints (verdict_said v) zs ys) ((step_call p ok.memory).said ∙ ap result_of (sym (first_skip Lent (valid_record (record_of s.memory)) _ valid_kept)))
      ∙ changed_said f _ (first (call_table (record_of s.memory) c)) zs ys

  grant_said : (bs : Bytes) {ws : List ℕ} {r : Result Grant (Refused Grant)} → Grants s.memory.names (length s.grants) bs s.words ws r → prints (verdict_said (said_by r)) zs ys ≡ (perform f (act zs ys f bs (some G.grant))).outcome
  unfolding perform act K.grant_table fixture_of record_of
  grant_said bs {ws} {r} g =
      let names = (sound_parts s.memory ok.memory.lent).names in
      let d = schema_of s.memory.names in
      let gs = catalogue_of s.memory.names s.grants s.words in
      ap (λ (v : Said). prints (verdict_said v) zs ys)
      (here_said s.memory.names (length s.grants) bs s.words ws r g s.grants refl ok.grants names
      ∙ ap result_of (sym (first_skip Lent (valid_schema d) _ (N.sound_valid s.memory.names names) ∙ first_skip Lent (valid_catalogue d gs) _ (catalogue_valid s.memory.names s.grants s.words ok.grants))))
      ∙ changed_said f _ (first (K.grant_table d gs bs)) zs ys

  caller_said : (bs : Bytes) {r : Result Caller (Refused Caller)} → r ≡ identified s.caller bs → prints (verdict_said (said_by r)) zs ys ≡ (perform f (act zs ys f bs (some G.caller))).outcome
  unfolding perform act identified
  caller_said bs e =
      ap (λ (v : Said). prints (verdict_said v) zs ys) (ap said_by e ∙ said_giving (result_of (first (caller_table bs))) _ _)
      ∙ changed_said f _ (first (caller_table bs)) zs ys

-- a line prints what the definitions' line prints
does_said : {bs : Bytes} {zs zs' : List ℤ} {ys ys' : Bytes} {v : Option G.Verb} {s t : Store} {y : Message} → Does bs zs ys v s t zs' ys' y → Sound s → prints y zs' ys' ≡ (perform (fixture_of s) (act zs ys (fixture_of s) bs v)).outcome
unfolding act perform written said_in Q.asked Q.lined fixture_of
does_said {bs} {zs} {ys = ys} (unread_does {s = s}) ok = unread_prints (fixture_of s) (length bs) zs ys
does_said {bs} {zs} {ys = ys} (stream_does {s = s} d) ok = call_said s ok zs ys (stream bs) (declared d)
does_said {bs} {zs} {ys = ys} (grant_does {s = s} g) ok = grant_said s ok zs ys bs g
does_said {bs} {zs} {ys = ys} (clock_does {s = s} e) ok = call_said s ok zs ys (clock_line bs) (clock_lined e)
does_said {bs} {zs} {ys = ys} (row_does {s = s} d) ok = call_said s ok zs ys (row_line bs) (row_lined d)
does_said {bs} {zs} {ys = ys} (clear_does {s = s} e) ok = call_said s ok zs ys (clear_line bs) (clear_lined e)
does_said {bs} {zs} {ys = ys} (caller_does {s = s} e) ok = caller_said s ok zs ys bs e
does_said {bs} {zs} {zs'} {ys} (ask_does {s = s} {r = r} h l) ok =
    asked_said (fixture_of s) _ zs zs' ys r (subst (λ (y : C.Reply ℤ). Replies y zs zs' r) (asked_is (lending s) ok.memory.valid (may_lend s ok zs ys) 1 (parse_as G.ask bs) bs zs) h)
does_said {bs} {zs} {ys = ys} {ys'} (line_does {s = s} {r = r} h l) ok =
    lined_said (fixture_of s) _ zs ys ys' r (subst (λ (y : C.Reply ℕ). Replies y ys ys' r) (lined_is (lending s) ok.memory.valid (may_lend s ok zs ys) 1 (parse_as G.line bs) bs ys) h.said)

-- ---- what is printed hangs on how many cells and bytes are lent, and not on what they hold

take_written : {A : Type 0} (xs ys : List A) → take (length xs) (xs ++ ys) ≡ xs
take_written [] ys = refl
take_written (x ∷ xs) ys = ap (λ l. x ∷ l) (take_written xs ys)

told_alike : {A : Type 0} (f : Fixture) (show : List A → Outcome) (o p : Option Refusal) → o ≡ p → (out lent lent' : List A) → (told f show (reply o out lent)).outcome ≡ (told f show (reply p out lent')).outcome
unfolding told reply
told_alike f show o p e out lent lent' = go o ∙ ap (λ (q : Option Refusal). (told f show (reply q out lent')).outcome) e
  where
    go : (q : Option Refusal) → (told f show (reply q out lent)).outcome ≡ (told f show (reply q out lent')).outcome
    go none = ap show (take_written out (drop (length out) lent) ∙ sym (take_written out (drop (length out) lent')))
    go (some r) = refl

module _ (x : M.Record) (gs : List M.Grant) (who : M.Caller) (bs : Bytes) where
  ask_alike : (q : Option Form) (zs zs' : List ℤ) → length zs ≡ length zs' → ask_table x gs who 1 bs q zs ≡ ask_table x gs who 1 bs q zs'
  unfolding ask_table answer_checks
  ask_alike q zs zs' e =
      ap (λ (n : ℕ). refuse Lent (not (lent_valid x gs who)) ∷ written 1 bs q (λ g. query_checks x.schema g
      ++ (refuse NoRoute (empty? (query_routes x gs who g)) ∷ refuse ManyRoutes (ltb max_routes (length (query_routes x gs who g))) ∷ refuse NoRoom (ltb n (length (answer x gs who (some g)))) ∷ []))) e

  line_alike : (q : Option RouteLine) (ys ys' : Bytes) → length ys ≡ length ys' → line_table x gs who 1 bs q ys ≡ line_table x gs who 1 bs q ys'
  unfolding line_table line_checks
  line_alike q ys ys' e =
      ap (λ (n : ℕ). refuse Lent (not (lent_valid x gs who)) ∷ written 1 bs q (λ (m : RouteLine). query_checks x.schema m.query
      ++ (refuse NoRoute (no_line (line_given x gs who m)) ∷ refuse ManyRoutes (ltb max_routes (length (query_routes x gs who m.query))) ∷ refuse NoRoom (ltb n (length (printed_line x gs who (some m)))) ∷ []))) e

act_alike : (f : Fixture) (bs : Bytes) (zs zs' : List ℤ) (ys ys' : Bytes) → length zs ≡ length zs' → length ys ≡ length ys' → (v : Option G.Verb)
    → (perform f (act zs ys f bs v)).outcome ≡ (perform f (act zs' ys' f bs v)).outcome
unfolding act perform
act_alike f bs zs zs' ys ys' d e none = refl
act_alike f bs zs zs' ys ys' d e (some G.stream) = refl
act_alike f bs zs zs' ys ys' d e (some G.grant) = refl
act_alike f bs zs zs' ys ys' d e (some G.clock) = refl
act_alike f bs zs zs' ys ys' d e (some G.row) = refl
act_alike f bs zs zs' ys ys' d e (some G.clear) = refl
act_alike f bs zs zs' ys ys' d e (some G.caller) = refl
act_alike f bs zs zs' ys ys' d e (some G.ask) = told_alike f cells _ _ (ap first (ask_alike f.record_kept f.catalogue f.caller bs (parse_as G.ask bs) zs zs' d)) _ zs zs'
act_alike f bs zs zs' ys ys' d e (some G.line) = told_alike f text _ _ (ap first (line_alike f.record_kept f.catalogue f.caller bs (parse_as G.line bs) ys ys' e)) _ ys ys'

pub outcome_alike : (f : Fixture) (bs : Bytes) (zs zs' : List ℤ) (ys ys' : Bytes) → length zs ≡ length zs' → length ys ≡ length ys' → (step zs ys f bs).outcome ≡ (step zs' ys' f bs).outcome
unfolding step
outcome_alike f bs zs zs' ys ys' d e = act_alike f bs zs zs' ys ys' d e (verb_of bs)

-- ---- one line, and a run of them

-- Over sound memory: the store that a line leaves stands for the definitions' fixture, is sound, and the line prints the definitions' outcome.
pub step_does : {bs : Bytes} {zs zs' : List ℤ} {ys ys' : Bytes} {s t : Store} {y : Message} → Does bs zs ys (verb_of bs) s t zs' ys' y → Sound s
    → (fixture_of t ≡ (step zs ys (fixture_of s) bs).left) × Sound t × (prints y zs' ys' ≡ (step zs ys (fixture_of s) bs).outcome)
unfolding step
step_does {bs} {zs} {ys = ys} {s = s} d ok = let (e, k) = does_left d ok in (e ∙ sym (step_runs zs ys (fixture_of s) bs), k, does_said d ok)

runs_from : {h : Held} {zs : List ℤ} {ys : Bytes} {ls : List Bytes} {os : List Outcome} (zs₀ : List ℤ) (ys₀ : Bytes) → length zs ≡ length zs₀ → length ys ≡ length ys₀ → Sound (store h) → Runs h zs ys ls os
    → os ≡ run_from zs₀ ys₀ (fixture_of (store h)) ls
unfolding run_from
runs_from zs₀ ys₀ a b ok stop = refl
runs_from {h} {zs} {ys} zs₀ ys₀ a b ok (then {h' = h'} {l = l} {ls = ls} d r) =
    let f = fixture_of (store h) in
    let (e, k) = does_left d ok in
    let (m, n) = does_kept d in
    let o = (step_does d ok).2 ∙ outcome_alike f l zs zs₀ ys ys₀ a b in
    let g = runs_from zs₀ ys₀ (m ∙ a) (n ∙ b) k r ∙ ap (λ x. run_from zs₀ ys₀ x ls) (e ∙ sym (step_runs zs₀ ys₀ f l)) in
    ap₂ (λ (p : Outcome) (ps : List Outcome). p ∷ ps) o g

-- From fresh memory, with any cells and bytes lent, a run of `step` over any lines prints what the script of the lines prints.
pub script_runs : {h : Held} {zs : List ℤ} {ys : Bytes} {ls : List Bytes} {os : List Outcome} → Fresh (store h) → Runs h zs ys ls os → os ≡ script zs ys ls
unfolding script
script_runs {h} {zs} {ys} {ls} f r = runs_from zs ys refl refl (fresh_store f) r ∙ ap (λ x. run_from zs ys x ls) (fresh_fixture f)

-- The state of `State::new`, with fresh memory of the record and words enough, is fresh.
pub new_fresh : (h : Held) → h.state ≡ new_state → States.Fresh (store h).memory → catalogue_words ≤ length h.words → Fresh (store h)
unfolding new_state
new_fresh h e m w = record { memory = m; grants = ap (λ (s : S.State). take s.count s.grants) e; words = w; caller = ap (λ (s : S.State). s.caller) e }
