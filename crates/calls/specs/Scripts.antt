-- Scripts: a list of lines, run from a fresh fixture.
use Rattle.std.specs.Prelude.{List, [], ◌∷◌, ℕ, ℤ, take}
use Rattle.std.proofs.Math.Option.{Option, none, some}
use Rattle.refusal.specs.Numbers.{number_of}
use Rattle.refusal.specs.Checks.{Check, first}
use Rattle.refusal.specs.declared.Refusal.{Refusal}
use Rattle.syntax.specs.Grammar as G
use Rattle.syntax.specs.Grammar.{Bytes, Verb}
use Rattle.syntax.specs.Readers.{parse_as, verb_of}
use Rattle.calls.specs.Replies.{written, Reply, refused, filled, reply}
use Rattle.calls.specs.Calls.{Call, stream, clock_line, row_line, clear_line, call_table, effect, grant_table, with_grant, caller_table, with_caller}
use Rattle.calls.specs.Events.{Fixture, new_fixture, events_compute}
use Rattle.calls.specs.Asking.{answer, ask_table, printed_line, line_table, asking_computes}

-- what a line prints: nothing, the refusal's number, the cells of an answer, or the bytes of a line
pub data Outcome : Type 0 where
  quiet : Outcome
  refusal : ℕ → Outcome
  cells : List ℤ → Outcome
  text : Bytes → Outcome

pub record Step : Type 0 where
  pub left : Fixture
  pub outcome : Outcome

-- a change where no check fails, and else the refusal
unfoldable pub changed : Fixture → Option Refusal → Fixture → Step
changed f none g = record { left = g; outcome = quiet }
changed f (some r) g = record { left = f; outcome = refusal (number_of r) }

unfoldable pub told : {A : Type 0} → Fixture → (List A → Outcome) → Reply A → Step
told f show (refused r) = record { left = f; outcome = refusal (number_of r) }
told f show (filled n lent) = record { left = f; outcome = show (take n lent) }

-- what a line does where no check of its table fails: it leaves a fixture, or it is answered in lent cells or bytes
pub data Act : Type 0 where
  changes : List Check → Fixture → Act
  answers : List Check → List ℤ → List ℤ → Act
  prints : List Check → Bytes → Bytes → Act

-- a call on the record
unfoldable pub on_record : Fixture → Call → Act
on_record f c = changes (call_table f.record_kept c) (record { record_kept = effect f.record_kept c; catalogue = f.catalogue; caller = f.caller })

-- the line of a verb, with cells and bytes lent; a text with no verb is refused for its length or its form
unfoldable pub act : List ℤ → Bytes → Fixture → Bytes → Option Verb → Act
act zs ys f bs none = changes (written {A = Unit {0}} 0 bs none (λ u. [])) f
act zs ys f bs (some G.stream) = on_record f (stream bs)
act zs ys f bs (some G.grant) =
    changes (grant_table f.record_kept.schema f.catalogue bs)
    (record { record_kept = f.record_kept; catalogue = with_grant f.record_kept.schema f.catalogue (parse_as G.grant bs); caller = f.caller })
act zs ys f bs (some G.clock) = on_record f (clock_line bs)
act zs ys f bs (some G.row) = on_record f (row_line bs)
act zs ys f bs (some G.clear) = on_record f (clear_line bs)
act zs ys f bs (some G.caller) = changes (caller_table bs) (record { record_kept = f.record_kept; catalogue = f.catalogue; caller = with_caller f.caller (parse_as G.caller bs) })
act zs ys f bs (some G.ask) =
    answers (ask_table f.record_kept f.catalogue f.caller 1 bs (parse_as G.ask bs) zs) (answer f.record_kept f.catalogue f.caller (parse_as G.ask bs)) zs
act zs ys f bs (some G.line) =
    prints (line_table f.record_kept f.catalogue f.caller 1 bs (parse_as G.line bs) ys) (printed_line f.record_kept f.catalogue f.caller (parse_as G.line bs)) ys

unfoldable pub perform : Fixture → Act → Step
perform f (changes cs g) = changed f (first cs) g
perform f (answers cs out lent) = told f cells (reply (first cs) out lent)
perform f (prints cs out lent) = told f text (reply (first cs) out lent)

-- one line
unfoldable pub step : List ℤ → Bytes → Fixture → Bytes → Step
step zs ys f bs = perform f (act zs ys f bs (verb_of bs))

unfoldable pub run_from : List ℤ → Bytes → Fixture → List Bytes → List Outcome
run_from zs ys f [] = []
run_from zs ys f (l ∷ ls) = let s = step zs ys f l in s.outcome ∷ run_from zs ys s.left ls

-- the outcome of each line of a script, every `ask` with the same cells lent and every `line` with the same bytes
unfoldable pub script : List ℤ → Bytes → List Bytes → List Outcome
script zs ys ls = run_from zs ys new_fixture ls

-- To unfold this is to unfold every definition above.
unfoldable pub scripts_compute : Unit {0}
unfolding events_compute asking_computes changed told on_record act perform step run_from script
scripts_compute = tt
