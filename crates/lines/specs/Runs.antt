-- A run of lines: what each of them does, and what of it is printed.
use Rattle.std.specs.Prelude.{◌≡◌, ℕ, ◌+◌, ◌-◌, ◌*◌, ◌%◌, ◌^◌, ◌<◌, ◌≤◌, Bool, true, false, cond, List, [], ◌∷◌, ◌++◌, map, length, take, drop, ℤ}
use Rattle.syntax.specs.Grammar.{Bytes}
use Rattle.syntax.specs.Readers.{verb_of}
use Rattle.calls.specs.Scripts.{Outcome, quiet, refusal, cells, text}
use Rattle.report.specs.declared.Message.{Message}
use Rattle.report.specs.Outcomes.{outcome_of, outcome_text}
use Rattle.console.specs.Lines.{ended, begun}
use Rattle.console.specs.Output.{most_text, Writes, Lasts, refuses, Adds}
use Rattle.script.specs.declared.State.{State}
use Rattle.script.specs.Steps.{Does}
use Rattle.script.specs.Runs.{Held, store}
use Rattle.lines.specs.declared.Run.{Run}
use Rattle.lines.specs.declared.Said.{Said}

-- where a run stands: the state, the memory lent with it, and the cells and bytes that are lent to a line
pub record Point : Type 0 where
  pub held : Held
  pub cells : List ℤ
  pub bytes : Bytes

abbrev pub point : State → List ℕ → List ℕ → List ℤ → List ℕ → List ℤ → Bytes → Point
point s ns ts vs ws zs ys = record { held = record { state = s; names = ns; times = ts; values = vs; words = ws }; cells = zs; bytes = ys }

-- what a line that says y prints, by the cells and bytes that it left
abbrev pub outcome_at : Point → Message → Outcome
outcome_at q y = outcome_of y q.cells q.bytes

-- a step of the script by a line, which says y
abbrev pub Steps : Bytes → Point → Point → Message → Type 0
Steps bs p q y = Does bs p.cells p.bytes (verb_of bs) (store p.held) (store q.held) q.cells q.bytes y

-- lines one after the other, what each of them prints, and where they lead
pub data Runs : Point → List Bytes → List Outcome → Point → Type 0 where
  stop : {p : Point} → Runs p [] [] p
  then : {p q t : Point} {l : Bytes} {ls : List Bytes} {os : List Outcome} {y : Message} → Steps l p q y → Runs q ls os t
      → Runs p (l ∷ ls) (outcome_at q y ∷ os) t

-- the bytes that any text of a line takes at most
abbrev pub text_room : Point → ℕ
text_room p = 28 * length p.cells + length p.bytes + 20

-- the texts of outcomes, one behind the other
unfoldable pub texts : List Outcome → Bytes
texts [] = []
texts (o ∷ os) = outcome_text o ++ texts os

-- after a line that says y and left these cells and bytes: one line more is counted, and the text of its outcome goes behind the output
pub record Says (explains : Bool) (y : Message) (zs : List ℤ) (ys : Bytes) (s r : Said) (m m' : Bytes) : Type 0 where
  pub lines : r.lines ≡ (s.lines + 1) % 2 ^ 64
  pub refused : r.refused ≡ cond s.refused true (refuses y)
  pub adds : Adds (outcome_text (outcome_of y zs ys)) (28 * length zs + length ys + 20) explains m s.output.used m' r.output.used
  pub lost : Lasts s.output.lost r.output.lost

-- what goes on as it was, and one line more is counted
pub record Follows (run r : Run) (y : Message) : Type 0 where
  pub lines : r.lines ≡ (run.lines + 1) % 2 ^ 64
  pub kept : r.kept ≡ 0
  pub at : r.at ≡ run.at
  pub explains : r.explains ≡ run.explains
  pub refused : r.refused ≡ cond run.refused true (refuses y)
  pub reading : r.reading ≡ run.reading
  pub lost : Lasts run.output.lost r.output.lost

-- A line is done by what the script's step does of its text, and the text of its outcome goes behind the output.
pub record Done (bs : Bytes) (run r : Run) (p q : Point) (m m' : Bytes) : Type 0 where
  pub said : Message
  pub does : Steps bs p q said
  pub adds : Adds (outcome_text (outcome_at q said)) (text_room q) run.explains m run.output.used m' r.output.used
  pub follows : Follows run r said

-- ---- parts of the input

unfoldable pub lines_after : ℕ → List Outcome → ℕ
lines_after n [] = n
lines_after n (o ∷ os) = lines_after ((n + 1) % 2 ^ 64) os

unfoldable pub is_refusal : Outcome → Bool
is_refusal quiet = false
is_refusal (refusal n) = true
is_refusal (cells zs) = false
is_refusal (text bs) = false

-- whether one of them is a refusal, or there was one
unfoldable pub refused_after : Bool → List Outcome → Bool
refused_after b [] = b
refused_after b (o ∷ os) = refused_after (cond b true (is_refusal o)) os

-- what goes from line to line, after the lines that print os
pub record Counts (run r : Run) (os : List Outcome) : Type 0 where
  pub lines : r.lines ≡ lines_after run.lines os
  pub refused : r.refused ≡ refused_after run.refused os
  pub explains : r.explains ≡ run.explains
  pub lost : Lasts run.output.lost r.output.lost

-- what is lent stays as large as it was
pub record Sized (p q : Point) (l l' m m' : Bytes) : Type 0 where
  pub cells : length q.cells ≡ length p.cells
  pub bytes : length q.bytes ≡ length p.bytes
  pub line : length l' ≡ length l
  pub out : length m' ≡ length m

-- A part b of the input is done, of whose first line w was there: each line that ends in it, cut to the room for it in l, is done; what is there of the next one is kept; and their texts go behind the output.
pub record Advances (w b : Bytes) (run r : Run) (p q : Point) (l l' m m' : Bytes) : Type 0 where
  pub outcomes : List Outcome
  pub runs : Runs p (map (take (length l)) (ended w b)) outcomes q
  pub rest : take r.kept l' ≡ take (length l) (begun w b)
  pub output : text_room p ≤ most_text → most_text ≤ length m → Writes (take run.output.used m ++ texts outcomes) (take r.output.used m')
  pub counts : Counts run r outcomes
  pub sized : Sized p q l l' m m'

-- what is kept of a line are the first bytes of w
abbrev pub Known : Bytes → Run → Bytes → Type 0
Known w run l = take run.kept l ≡ take (length l) w

-- From a place of a block the bytes up to the next line feed are done, or to its end.
pub record Part (s : Bytes) (run r : Run) (p q : Point) (l l' m m' : Bytes) : Type 0 where
  pub more : run.at < length s → run.at < r.at
  pub inside : r.at ≤ length s
  pub reading : r.reading ≡ run.reading
  pub advances : (w : Bytes) → Known w run l → Advances w (take (r.at - run.at) (drop run.at s)) run r p q l l' m m'

-- A block is done.
pub record Block (s : Bytes) (run r : Run) (p q : Point) (l l' m m' : Bytes) : Type 0 where
  pub reading : r.reading ≡ run.reading
  pub advances : (w : Bytes) → Known w run l → Advances w s run r p q l l' m m'
