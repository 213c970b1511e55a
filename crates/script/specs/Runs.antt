-- Runs of lines: each gets what the last one returned or left.
use Rattle.std.specs.Prelude.{List, [], ◌∷◌, ℕ, ℤ}
use Rattle.std.proofs.Math.Option.{Option, none, some}
use Rattle.lists.specs.Lists.{gather}
use Rattle.syntax.specs.Grammar as G
use Rattle.syntax.specs.Grammar.{Bytes, Verb}
use Rattle.syntax.specs.Readers.{verb_of}
use Rattle.calls.specs.Calls.{Call, stream, clock_line, row_line, clear_line}
use Rattle.calls.specs.Scripts.{Outcome}
use Rattle.report.specs.declared.Message.{Message}
use Rattle.report.specs.Outcomes.{outcome_of}
use Rattle.history.specs.Fixtures.{Store}
use Rattle.script.specs.declared.State.{State}
use Rattle.script.specs.States.{store_of}
use Rattle.script.specs.Steps.{Does}

-- a state, and the memory that is lent with it
pub record Held : Type 0 where
  pub state : State
  pub names : List ℕ
  pub times : List ℕ
  pub values : List ℤ
  pub words : List ℕ

abbrev pub store : Held → Store
store h = store_of h.state h.names h.times h.values h.words

-- what each line prints, with cells and bytes lent as the line before it left them
pub data Runs : Held → List ℤ → Bytes → List Bytes → List Outcome → Type 0 where
  stop : {h : Held} {zs : List ℤ} {ys : Bytes} → Runs h zs ys [] []
  then : {h h' : Held} {zs zs' : List ℤ} {ys ys' l : Bytes} {ls : List Bytes} {os : List Outcome} {y : Message} → Does l zs ys (verb_of l) (store h) (store h') zs' ys' y → Runs h' zs' ys' ls os
      → Runs h zs ys (l ∷ ls) (outcome_of y zs' ys' ∷ os)

-- ---- lines as the record meets them

-- the call on the record that a line is, if it is one
unfoldable pub call_of : Bytes → Option Verb → List Call
call_of l none = []
call_of l (some G.stream) = stream l ∷ []
call_of l (some G.grant) = []
call_of l (some G.clock) = clock_line l ∷ []
call_of l (some G.row) = row_line l ∷ []
call_of l (some G.clear) = clear_line l ∷ []
call_of l (some G.caller) = []
call_of l (some G.ask) = []
call_of l (some G.line) = []

unfoldable pub calls_of : List Bytes → List Call
calls_of ls = gather (λ l. call_of l (verb_of l)) ls

-- lines one after the other, with any cells and bytes lent: each gets what the last one left
pub data Done : Store → List Bytes → Store → Type 0 where
  none_left : {s : Store} → Done s [] s
  line_done : {s t u : Store} {zs zs' : List ℤ} {ys ys' l : Bytes} {ls : List Bytes} {y : Message} → Does l zs ys (verb_of l) s t zs' ys' y → Done t ls u → Done s (l ∷ ls) u
