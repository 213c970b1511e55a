-- Each call or line, by its contract alone, is the definitions' step on the fixture that the store stands for, and leaves what may be lent. So is any list of them, from a fresh store on.
use mathlib.Core.Path.{◌≡◌, refl, sym, ap, ap₂, ◌∙◌, subst}
use mathlib.Core.List.{List, []}
use mathlib.Core.Bool.{true}
use Prim.Native.Nat.{ℕ}
use lib.Dec.{T, leb, le→leb}
use lib.ListN.{length}
use Rattle.refusal.specs.Checks.{refuse, first}
use Rattle.refusal.specs.declared.Refusal.TheVariants.{Lent}
use Rattle.std.specs.Prelude.{Result, Err}
use Rattle.refusal.specs.Results.{said_by, held_after}
use Rattle.refusal.specs.declared.Refused.{Refused}
use Rattle.refusal.proofs.Results.{result_some}
use Rattle.refusal.proofs.Verdicts.{never_first}
use Rattle.lists.specs.Lists.{every}
use Rattle.lists.proofs.Laws.{and_both}
use Rattle.syntax.specs.Grammar as G
use Rattle.syntax.specs.Grammar.{Bytes}
use Rattle.syntax.specs.Readers.{parse_as}
use Rattle.model.specs.Queries as M
use Rattle.calls.specs.Replies.{written}
use Rattle.calls.specs.Tables.{grant_checks}
use Rattle.calls.specs.Calls.{Call, call_checks}
use Rattle.calls.specs.Events.{Fixture, new_fixture, Event, call, grant, caller, happen, happened_from, happened, events_compute}
use Rattle.calls.proofs.Order.{never_written, call_never}
use Rattle.schema.specs.Schemas.{schema_of}
use Rattle.ledger.specs.Records.{record_of}
use Rattle.ledger.proofs.Soundness.{sound_parts}
use Rattle.caller.specs.Callers.{roles_in, entries_in, role_in, entry_in, caller_of, caller_sound, no_caller}
use Rattle.caller.specs.Lines.{identified}
use Rattle.caller.proofs.Identifying.{left_means, left_sound, new_nobody}
use Rattle.grant.specs.Catalogues.{catalogue_words, grants_from, sound_from, catalogue_of, catalogue_sound}
use Rattle.grant.proofs.Later.{catalogue_kept, catalogue_later}
use Rattle.grant.specs.declared.Grant.{Grant}
use Rattle.grant_line.specs.Granting.{grants_after, Grants}
use Rattle.grant_line.proofs.Steps.{next_sound, next_is, here_said}
use Rattle.history.specs.States.{State, Promise, said_in}
use Rattle.history.specs.Fixtures.{Store, fixture_of, with_memory, with_grants, with_caller, Happens, called, granted, named, asked, Trace, stop, then, Sound, Fresh}
use Rattle.history.proofs.Steps.{step_call}
use Rattle.history.proofs.Beginning.{fresh_record, fresh_sound}
use Rattle.history.proofs.Later.{names_later}

abbrev made : M.Record → List M.Grant → G.Caller → Fixture
made x gs w = record { record_kept = x; catalogue = gs; caller = w }

-- ---- one of them

module _ (s : Store) (ok : Sound s) where
  after_call : (c : Call) (m : State) → Promise c s.memory m → (fixture_of (with_memory s m) ≡ happen (fixture_of s) (call c)) × Sound (with_memory s m)
  unfolding fixture_of with_memory happen
  after_call c m p =
      let k = step_call p ok.memory in
      let l = names_later p in (
        ap₂ (λ x gs. made x gs (caller_of s.caller)) k.steps (catalogue_kept l s.grants s.words ok.grants),
        record { memory = k.sound; grants = catalogue_later l s.grants s.words ok.grants; caller = ok.caller },
      )

  after_grant : (bs : Bytes) (ws : List ℕ) (r : Result Grant (Refused Grant)) → Grants s.memory.names (length s.grants) bs s.words ws r
      → (fixture_of (with_grants s (grants_after r s.grants) ws) ≡ happen (fixture_of s) (grant bs)) × Sound (with_grants s (grants_after r s.grants) ws)
  unfolding fixture_of with_grants happen record_of
  after_grant bs ws r g =
      let names = (sound_parts s.memory ok.memory.lent).names in (
        ap (λ gs. made (record_of s.memory) gs (caller_of s.caller)) (next_is s.memory.names (length s.grants) bs s.words ws r g s.grants refl ok.grants names),
        record { memory = ok.memory; grants = next_sound s.memory.names (length s.grants) bs s.words ws r g s.grants refl ok.grants; caller = ok.caller },
      )

  after_caller : (bs : Bytes) → (fixture_of (with_caller s (held_after (identified s.caller bs))) ≡ happen (fixture_of s) (caller bs)) × Sound (with_caller s (held_after (identified s.caller bs)))
  unfolding fixture_of with_caller happen
  after_caller bs = (
    ap (λ w. made (record_of s.memory) (catalogue_of s.memory.names s.grants s.words) w) (left_means s.caller bs),
    record { memory = ok.memory; grants = ok.grants; caller = left_sound s.caller bs ok.caller },
  )

pub step : {e : Event} {s t : Store} → Happens e s t → Sound s → (fixture_of t ≡ happen (fixture_of s) e) × Sound t
step (called {s} {c} {m} p) ok = after_call s ok c m p
step (granted {s} {bs} {ws} {r} g) ok = after_grant s ok bs ws r g
step (named {s} {bs} {r} e) ok =
    subst (λ w. (fixture_of (with_caller s w) ≡ happen (fixture_of s) (caller bs)) × Sound (with_caller s w)) (sym (ap held_after e)) (after_caller s ok bs)
step (asked {s}) ok = (unfold happen in refl, ok)

-- ---- a list of them

pub left : {s t : Store} {es : List Event} → Sound s → Trace s es t → (fixture_of t ≡ happened_from (fixture_of s) es) × Sound t
unfolding happened_from
left ok stop = (refl, ok)
left {s} ok (then {e} {es} p r) =
    let (f, k) = step p ok in
    let (g, h) = left k r in
    (g ∙ ap (λ x. happened_from x es) f, h)

-- ---- a fresh store

no_grants : (s : Store) → Fresh s → T (catalogue_sound s.memory.names [] s.words)
unfolding catalogue_sound sound_from
no_grants s f = and_both (leb catalogue_words (length s.words)) true (le→leb catalogue_words (length s.words) f.words) tt

pub fresh_store : {s : Store} → Fresh s → Sound s
unfolding events_compute no_caller caller_sound caller_of roles_in entries_in role_in entry_in
fresh_store {s} f =
    record {
      memory = fresh_sound f.memory;
      grants = subst (λ gs. T (catalogue_sound s.memory.names gs s.words)) (sym f.grants) (no_grants s f);
      caller = subst (λ w. caller_sound w ≡ true) (sym f.caller) none_sound;
    }
  where
    none_sound : caller_sound no_caller ≡ true
    none_sound = refl

pub fresh_fixture : {s : Store} → Fresh s → fixture_of s ≡ new_fixture
unfolding fixture_of new_fixture catalogue_of grants_from
fresh_fixture {s} f =
    let e : catalogue_of s.memory.names s.grants s.words ≡ [] = ap (λ gs. catalogue_of s.memory.names gs s.words) f.grants in
    rw (fresh_record f.memory, e, ap caller_of f.caller ∙ new_nobody) refl

-- What the calls and lines of a list returned and left, from a fresh store on, stands for the fixture that the list gives by the definitions alone, and all of it may be lent.
pub left_after : {s t : Store} {es : List Event} → Fresh s → Trace s es t → (fixture_of t ≡ happened es) × Sound t
unfolding happened
left_after {es} f r = let (g, k) = left (fresh_store f) r in (g ∙ ap (λ x. happened_from x es) (fresh_fixture f), k)

-- ---- 12 never comes of what calls and lines made, in any order

module _ {s t : Store} {es : List Event} (f : Fresh s) (r : Trace s es t) where
  sound_then : Sound t
  sound_then = (left_after f r).1

  pub never_lent : {c : Call} {m : State} (p : Promise c t.memory m) → said_in p ≡ Err Lent → ⊥
  never_lent {c} p e =
      let k = step_call p sound_then.memory in
      let x = record_of t.memory in
      never_first 12 (call_checks x c) Lent (call_never x c) (result_some (first (call_checks x c)) Lent (sym k.said ∙ e)) refl

  pub never_lent_grant : {bs : Bytes} {ws : List ℕ} {g : Result Grant (Refused Grant)} → Grants t.memory.names (length t.grants) bs t.words ws g → said_by g ≡ Err Lent → ⊥
  unfolding grant_checks refuse every
  never_lent_grant {bs} {ws} {g} p e =
      let names = (sound_parts t.memory sound_then.memory.lent).names in
      let said = here_said t.memory.names (length t.grants) bs t.words ws g p t.grants refl sound_then.grants names in
      let d = schema_of t.memory.names in
      let gs = catalogue_of t.memory.names t.grants t.words in
      never_first 12 (written 0 bs (parse_as G.grant bs) (grant_checks d gs)) Lent (never_written 12 0 bs (parse_as G.grant bs) (grant_checks d gs) tt tt (λ a. tt))
      (result_some (first (written 0 bs (parse_as G.grant bs) (grant_checks d gs))) Lent (sym said ∙ e)) refl
