-- A line of a script: its refusal is the first that the table of its call gives.
use mathlib.Core.Path.{◌≡◌, refl, sym, ap, ◌∙◌}
use mathlib.Core.List.{List, []}
use mathlib.Core.Option.{Option, none, some, some-injective, none-ne-some}
use Prim.Native.Nat.{ℕ}
use lib.IntN.{ℤ}
use Rattle.refusal.specs.Numbers.{number_of}
use Rattle.refusal.specs.Checks.{Check, first, ordered, Ordered}
use Rattle.refusal.specs.declared.Refusal.{Refusal}
use Rattle.syntax.specs.Grammar as G
use Rattle.syntax.specs.Grammar.{Bytes, Verb}
use Rattle.syntax.specs.Readers.{parse_as, verb_of}
use Rattle.calls.specs.Replies.{reply}
use Rattle.calls.specs.Calls.{stream, clock_line, row_line, clear_line}
use Rattle.calls.specs.Events.{Fixture}
use Rattle.calls.specs.Scripts.{Outcome, quiet, refusal, cells, text, Step, changed, told, Act, changes, answers, prints, on_record, act, perform, step}
use Rattle.calls.proofs.Order.{written_ordered, call_ordered, grant_ordered, caller_ordered, ask_ordered, line_ordered}

-- the table of what a line does
unfoldable pub act_table : Act → List Check
act_table (changes cs g) = cs
act_table (answers cs out lent) = cs
act_table (prints cs out lent) = cs

abbrev pub step_table : List ℤ → Bytes → Fixture → Bytes → Option Verb → List Check
step_table zs ys f bs v = act_table (act zs ys f bs v)

pub step_ordered : (zs : List ℤ) (ys : Bytes) (f : Fixture) (bs : Bytes) (v : Option Verb) → Ordered (step_table zs ys f bs v)
unfolding act_table act on_record
step_ordered zs ys f bs none = written_ordered {A = Unit {0}} 0 bs none (λ u. []) (λ u. unfold ordered in tt)
step_ordered zs ys f bs (some G.stream) = call_ordered f.record_kept (stream bs)
step_ordered zs ys f bs (some G.grant) = grant_ordered f.record_kept.schema f.catalogue bs
step_ordered zs ys f bs (some G.clock) = call_ordered f.record_kept (clock_line bs)
step_ordered zs ys f bs (some G.row) = call_ordered f.record_kept (row_line bs)
step_ordered zs ys f bs (some G.clear) = call_ordered f.record_kept (clear_line bs)
step_ordered zs ys f bs (some G.caller) = caller_ordered bs
step_ordered zs ys f bs (some G.ask) = ask_ordered f.record_kept f.catalogue f.caller 1 bs (parse_as G.ask bs) zs
step_ordered zs ys f bs (some G.line) = line_ordered f.record_kept f.catalogue f.caller 1 bs (parse_as G.line bs) ys

-- a refused line says the number of its refusal and leaves all as it stood
abbrev pub refused_step : Fixture → Refusal → Step
refused_step f r = record { left = f; outcome = refusal (number_of r) }

-- the number that an outcome refuses by
unfoldable pub refused_as : Outcome → Option ℕ
refused_as quiet = none
refused_as (refusal n) = some n
refused_as (cells zs) = none
refused_as (text bs) = none

-- what a line does hangs on the first of its table: a refusal, or something else
pub data Done (f : Fixture) (s : Step) : Option Refusal → Type 0 where
  stopped : {r : Refusal} → s ≡ refused_step f r → Done f s (some r)
  passed : refused_as s.outcome ≡ none → Done f s none

changed_done : (f g : Fixture) (o : Option Refusal) → Done f (changed f o g) o
unfolding changed refused_as
changed_done f g none = passed refl
changed_done f g (some r) = stopped refl

told_done : {A : Type 0} (f : Fixture) (show : List A → Outcome) → ((l : List A) → refused_as (show l) ≡ none) → (o : Option Refusal) (out lent : List A) → Done f (told f show (reply o out lent)) o
unfolding told reply
told_done f show h none out lent = passed (h _)
told_done f show h (some r) out lent = stopped refl

pub act_done : (f : Fixture) (a : Act) → Done f (perform f a) (first (act_table a))
unfolding perform act_table refused_as
act_done f (changes cs g) = changed_done f _ _
act_done f (answers cs out lent) = told_done f cells (λ l. refl) _ _ _
act_done f (prints cs out lent) = told_done f text (λ l. refl) _ _ _

-- a line is refused by the first refusal of its table
pub step_refused : (zs : List ℤ) (ys : Bytes) (f : Fixture) (bs : Bytes) (r : Refusal) → first (step_table zs ys f bs (verb_of bs)) ≡ some r → step zs ys f bs ≡ refused_step f r
unfolding step
step_refused zs ys f bs r e = go (act_done f (act zs ys f bs (verb_of bs))) e
  where
    go : {o : Option Refusal} → Done f (perform f (act zs ys f bs (verb_of bs))) o → o ≡ some r → perform f (act zs ys f bs (verb_of bs)) ≡ refused_step f r
    go (stopped {r = s} h) e = rw (← some-injective s r e) h
    go (passed h) e = absurd (none-ne-some r e)

-- and by nothing else
pub refused_first : {X : Type 0} (zs : List ℤ) (ys : Bytes) (f : Fixture) (bs : Bytes) (n : ℕ) → (step zs ys f bs).outcome ≡ refusal n
    → ((r : Refusal) → first (step_table zs ys f bs (verb_of bs)) ≡ some r → number_of r ≡ n → step zs ys f bs ≡ refused_step f r → X) → X
unfolding step refused_as
refused_first {X} zs ys f bs n e k = go (act_done f (act zs ys f bs (verb_of bs))) k
  where
    go : {o : Option Refusal} → Done f (perform f (act zs ys f bs (verb_of bs))) o
        → ((r : Refusal) → o ≡ some r → number_of r ≡ n → perform f (act zs ys f bs (verb_of bs)) ≡ refused_step f r → X) → X
    go (stopped {r = r} h) k = k r refl (some-injective (number_of r) n (ap refused_as (sym (ap (λ s. s.outcome) h) ∙ e))) h
    go (passed h) k = absurd (none-ne-some n (sym h ∙ ap refused_as e))
