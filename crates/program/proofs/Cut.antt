-- A line that is longer than lines may be is refused 3, however long it is: so what is kept of it does the same.
use mathlib.Core.Path.{◌≡◌, refl, sym, ap, ap₂, ◌∙◌}
use mathlib.Core.List.{List, [], ◌∷◌, ◌++◌, map}
use mathlib.Core.Bool.{Bool, not}
use mathlib.Core.Option.{Option, none, some}
use Prim.Native.Nat.{ℕ, suc, ◌≤◌, ◌<◌}
use native.Mathlib.Decide.{dec_le}
use native.Mathlib.Omega.{arith}
use lib.IntN.{ℤ}
use lib.Dec.{T}
use lib.ListN.{length, take}
use lib.Seq.{take_all, length-take-le}
use borrow.Author.Tests.{lt-ltb}
use Rattle.lists.proofs.Laws.{parts, T_true}
use Rattle.refusal.specs.Checks.{Check, refuse, first}
use Rattle.refusal.specs.declared.Refusal.TheVariants.{Lent, Bound}
use Rattle.syntax.specs.Grammar as G
use Rattle.syntax.specs.Grammar.{Bytes, Verb}
use Rattle.syntax.specs.Limits.{max_line}
use Rattle.syntax.specs.Readers.{parse_as, verb_of}
use Rattle.model.specs.Queries.{Record}
use Rattle.calls.specs.Validity.{valid_record, valid_schema, valid_catalogue, valid_caller}
use Rattle.calls.specs.Replies.{written}
use Rattle.calls.specs.Tables.{stream_checks, clock_checks, row_line_checks, grant_checks, caller_checks, query_checks}
use Rattle.calls.specs.Calls.{call_checks, call_table, grant_table, caller_table}
use Rattle.calls.specs.Events.{Fixture, new_fixture}
use Rattle.calls.specs.Asking.{lent_valid, answer_checks, ask_table, line_checks, line_table}
use Rattle.calls.specs.Scripts.{refusal, Step, act, on_record, step, run_from, script}
use Rattle.calls.proofs.Steps.{act_table, step_table, step_refused}
use Rattle.claims.proofs.Running.{Sound, sound_new, sound_step}

first_long : {A : Type 0} (spare : ℕ) (bs : Bytes) (o : Option A) (checks : A → List Check) → max_line < length bs → first (written spare bs o checks) ≡ some Bound
unfolding written first refuse
first_long spare bs none checks h = rw (lt-ltb max_line (length bs) h) refl
first_long spare bs (some a) checks h = rw (lt-ltb max_line (length bs) h) refl

-- after a check that does not fail
behind : {A : Type 0} (b : Bool) → T b → (spare : ℕ) (bs : Bytes) (o : Option A) (checks : A → List Check) → max_line < length bs → first (refuse Lent (not b) ∷ written spare bs o checks) ≡ some Bound
behind b t spare bs o checks h = let e = first_long spare bs o checks h in unfold first in unfold refuse in rw (T_true b t) e

module _ (zs : List ℤ) (ys : Bytes) (f : Fixture) (sound : Sound f) where
  abbrev x : Record
  x = f.record_kept

  schema_kept : T (valid_schema x.schema)
  unfolding valid_record
  schema_kept = let v = sound.kept in search parts

  all_kept : T (lent_valid x f.catalogue f.caller)
  unfolding lent_valid
  all_kept = rw (T_true (valid_record x) sound.kept, T_true (valid_catalogue x.schema f.catalogue) sound.granted, T_true (valid_caller f.caller) sound.asking) tt

  module _ (bs : Bytes) (h : max_line < length bs) where
    grant_long : first (grant_table x.schema f.catalogue bs) ≡ some Bound
    unfolding grant_table first refuse
    grant_long =
        let e = behind (valid_catalogue x.schema f.catalogue) sound.granted 0 bs (parse_as G.grant bs) (grant_checks x.schema f.catalogue) h in
        rw (T_true (valid_schema x.schema) schema_kept) e

    long_first : (v : Option Verb) → first (step_table zs ys f bs v) ≡ some Bound
    unfolding act_table act on_record call_table call_checks caller_table ask_table line_table
    long_first none = first_long {A = Unit {0}} 0 bs none (λ u. []) h
    long_first (some G.stream) = behind (valid_record x) sound.kept 0 bs (parse_as G.stream bs) (stream_checks x.schema) h
    long_first (some G.grant) = grant_long
    long_first (some G.clock) = behind (valid_record x) sound.kept 0 bs (parse_as G.clock bs) (clock_checks x.clock) h
    long_first (some G.row) = behind (valid_record x) sound.kept 0 bs (parse_as G.row bs) (row_line_checks x) h
    long_first (some G.clear) = behind (valid_record x) sound.kept 0 bs (parse_as G.clear bs) (λ u. []) h
    long_first (some G.caller) = first_long 0 bs (parse_as G.caller bs) caller_checks h
    long_first (some G.ask) =
        behind (lent_valid x f.catalogue f.caller) all_kept 1 bs (parse_as G.ask bs) (λ q. query_checks x.schema q ++ answer_checks x f.catalogue f.caller zs q) h
    long_first (some G.line) =
        behind (lent_valid x f.catalogue f.caller) all_kept 1 bs (parse_as G.line bs) (λ l. query_checks x.schema l.query ++ line_checks x f.catalogue f.caller ys l) h

    pub long_refused : step zs ys f bs ≡ record { left = f; outcome = refusal 3 }
    long_refused = step_refused zs ys f bs Bound (long_first (verb_of bs))

  -- what is kept of a line does what the line does
  pub cut_same : (bs : Bytes) → step zs ys f (take (suc max_line) bs) ≡ step zs ys f bs
  cut_same bs = go (dec_le (length bs) 513)
    where
      go : Dec (length bs ≤ 513) → step zs ys f (take 513 bs) ≡ step zs ys f bs
      go (yes h) = ap (step zs ys f) (take_all 513 bs h)
      go (no h) = let l = length-take-le 513 bs (omega arith) in long_refused (take 513 bs) (omega arith) ∙ sym (long_refused bs (omega arith))

cut_from : (zs : List ℤ) (ys : Bytes) (f : Fixture) (ls : List Bytes) → Sound f → run_from zs ys f (map (take 513) ls) ≡ run_from zs ys f ls
unfolding run_from
cut_from zs ys f [] s = refl
cut_from zs ys f (l ∷ ls) s =
    let e = cut_same zs ys f s l in
    ap₂ ◌∷◌ (ap (λ (x : Step). x.outcome) e) (ap (λ (x : Step). run_from zs ys x.left (map (take 513) ls)) e ∙ cut_from zs ys (step zs ys f l).left ls (sound_step zs ys f l s))

-- a script prints the same where only the first 513 bytes of each line are kept
pub script_cut : (zs : List ℤ) (ys : Bytes) (ls : List Bytes) → script zs ys (map (take (suc max_line)) ls) ≡ script zs ys ls
unfolding script
script_cut zs ys ls = cut_from zs ys new_fixture ls sound_new
