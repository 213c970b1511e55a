-- The windows that hold an event, found one after the other.
use Rattle.std.specs.Prelude.{◌≡◌, List, [], ◌∷◌, map, Option, Some, None, false, ℕ, suc, ◌+◌, ◌*◌, ◌-◌, ◌/◌, ◌≤◌, ◌<◌, min, ℤ, pos, nat_abs, leb, length, get_or}
use Rattle.lists.specs.Lists.{select, gather, count_from}
use Rattle.syntax.specs.Grammar.{Fn}
use Rattle.syntax.specs.Limits.{top, max_rows}
use Rattle.model.specs.Queries.{Row}
use Rattle.windows.specs.Events.{in_span, event_window, event_figures, figure_in, window_tally, span_tally}
use Rattle.windows.specs.declared.Event.{Event}
use Rattle.windows.specs.declared.Windows.{Windows}
use Rattle.windows.specs.declared.Place.{Place}
use Rattle.windows.specs.declared.Span.{Span}

-- two streams' rows, each an event
abbrev pub most_events : ℕ
most_events = 2 * max_rows

-- the rows of an event: at most the pairs of two streams
abbrev pub most_rows : ℕ
most_rows = max_rows * max_rows

-- the size of an event's part: values of 32 bits
abbrev pub most_part : ℕ
most_part = 35184372088832

pub record Bounded (w : Windows) : Type 0 where
  pub clock : w.clock ≤ top
  pub size : 1 ≤ w.size
  pub offset : 1 ≤ w.offset
  pub offsets : w.offset ≤ top

abbrev pub Ordered : List ℕ → Type 0
Ordered ts = (i j : ℕ) → i ≤ j → j < length ts → get_or ts i 0 ≤ get_or ts j 0

-- times do not fall, and none is past the clock
pub record Timed (clock : ℕ) (ts : List ℕ) : Type 0 where
  pub order : Ordered ts
  pub last : (i : ℕ) → i < length ts → get_or ts i 0 ≤ clock

-- the times at the places before i are below a time
abbrev pub Before : List ℕ → ℕ → ℕ → Type 0
Before ts i start = (m : ℕ) → m < i → get_or ts m 0 < start

-- the first place from i on whose time is not below `start`
pub record Reached (ts : List ℕ) (i start r : ℕ) : Type 0 where
  pub on : i ≤ r
  pub within : r ≤ length ts
  pub passed : (m : ℕ) → i ≤ m → m < r → get_or ts m 0 < start
  pub here : r < length ts → start ≤ get_or ts r 0

-- window k has not ended or holds no time
abbrev pub Idle : Windows → List ℕ → ℕ → Type 0
Idle w ts k = k * w.offset + w.size ≤ w.clock → (m : ℕ) → m < length ts → in_span w.size w.offset k (get_or ts m 0) ≡ false

-- window k has ended, and the first time in it stands at place i
pub record Holds (w : Windows) (ts : List ℕ) (k i : ℕ) : Type 0 where
  pub ended : k * w.offset + w.size ≤ w.clock
  pub within : i < length ts
  pub before : Before ts i (k * w.offset)
  pub begins : k * w.offset ≤ get_or ts i 0
  pub inside : get_or ts i 0 < k * w.offset + w.size

-- it is the first from number k on that has ended and holds a time
pub record Found (w : Windows) (ts : List ℕ) (k : ℕ) (p : Place) : Type 0 where
  pub holds : Holds w ts p.window p.event
  pub from : k ≤ p.window
  pub between : (j : ℕ) → k ≤ j → j < p.window → Idle w ts j

-- the first such window, where there is one
abbrev pub Sought : Windows → List ℕ → ℕ → Option Place → Type 0
Sought w ts k None = (j : ℕ) → k ≤ j → Idle w ts j
Sought w ts k (Some p) = Found w ts k p

-- ---- runs: windows that follow one another and have one first event

-- the last window that has ended and begins by a time
unfoldable pub last_with : Windows → ℕ → ℕ
last_with w t = min (t / w.offset) ((w.clock - w.size) / w.offset)

-- the windows from number k up to, not including, n have ended, and the first time in each stands at place i
abbrev pub Runs : Windows → List ℕ → ℕ → ℕ → ℕ → Type 0
Runs w ts i k n = (j : ℕ) → k ≤ j → j < n → Holds w ts j i

-- the answer row of window k, whose first event stands at place i
unfoldable pub window_row : Windows → Fn → List ℕ → List ℕ → List ℤ → ℕ → ℕ → Row
window_row w f ts cs ps i k = record { at = k * w.offset + w.size; values = figure_in f (window_tally f ts cs ps i (k * w.offset + w.size)) ∷ [] }

-- those of a run
unfoldable pub run_rows : Windows → Fn → List ℕ → List ℕ → List ℤ → ℕ → ℕ → ℕ → List Row
run_rows w f ts cs ps i k n = map (window_row w f ts cs ps i) (count_from k (n - k))

-- ---- answers

-- the answer rows of the windows from number k on
unfoldable pub answers_from : Windows → Fn → List Event → ℕ → List Row
answers_from w f es k =
    gather (event_window f w.size w.offset es) (select (λ j. leb (j * w.offset + w.size) w.clock) (count_from k (suc (w.clock / w.offset) - k)))

unfoldable pub answers : Windows → Fn → List Event → List Row
answers w f es = event_figures w.clock f w.size w.offset es

-- how far the windows may still go
unfoldable pub ahead : Windows → Option Place → ℕ
ahead w None = 0
ahead w (Some p) = suc w.clock - p.window

-- what an event may hold
pub record Parts (ts cs : List ℕ) (ps : List ℤ) : Type 0 where
  pub events : length ts ≤ most_events
  pub counts : length cs ≡ length ts
  pub parts : length ps ≡ length ts
  pub some_rows : (i : ℕ) → i < length ts → 1 ≤ get_or cs i 0
  pub few_rows : (i : ℕ) → i < length ts → get_or cs i 0 ≤ most_rows
  pub small : (i : ℕ) → i < length ts → nat_abs (get_or ps i (pos 0)) ≤ most_part

-- ---- spans: the tally of the events that stand between two places

-- nothing is said of the tally of no events
pub record Spans (f : Fn) (ts cs : List ℕ) (ps : List ℤ) (s : Span) : Type 0 where
  pub within : s.to ≤ length ts
  pub tallied : s.from < s.to → s.tally ≡ span_tally f ts cs ps s.from s.to

-- one that may be moved forward to window k: the events before it come before the window, and none of its own after the window
pub record Kept (w : Windows) (f : Fn) (ts cs : List ℕ) (ps : List ℤ) (k : ℕ) (s : Span) : Type 0 where
  pub spans : Spans f ts cs ps s
  pub behind : Before ts s.from (k * w.offset)
  pub ended : Before ts s.to (k * w.offset + w.size)
