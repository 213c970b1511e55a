-- The lines of a script, and how much is kept of one.
use Rattle.std.specs.Prelude.{◌≡◌, List, [], ◌∷◌, ◌++◌, Bool, true, false, cond, ℕ, zero, suc, ◌+◌, ◌≤◌, eqb, length, take, drop}
use Rattle.syntax.specs.Grammar.{Bytes}
use Rattle.console.specs.declared.Got.{Got}
use Rattle.console.specs.declared.Reading.{Reading}
use Rattle.console.specs.declared.Reading.TheVariants.{Open, Ended, Failed}

-- a byte in front of the first line
unfoldable pub in_front : ℕ → List Bytes → List Bytes
in_front b [] = (b ∷ []) ∷ []
in_front b (l ∷ ls) = (b ∷ l) ∷ ls

-- A line feed ends each line; after the last one it may be missing.
unfoldable pub lines_of : Bytes → List Bytes
lines_of [] = []
lines_of (b ∷ bs) = cond (eqb b 10) ([] ∷ lines_of bs) (in_front b (lines_of bs))

-- the place of the first line feed, or the end
unfoldable pub line_end : Bytes → ℕ
line_end [] = 0
line_end (b ∷ bs) = cond (eqb b 10) 0 (suc (line_end bs))

-- the first line feed of s from a place on, or the end, is at r
pub record Ends (s : Bytes) (at r : ℕ) : Type 0 where
  pub place : r ≡ at + line_end (drop at s)
  pub inside : r ≤ length s

-- of a line, the bytes that are kept in m₀ and a part that follows them, m keeps r: as many as there is room for
pub record Keeps (m₀ : Bytes) (kept : ℕ) (part m : Bytes) (r : ℕ) : Type 0 where
  pub bytes : take r m ≡ take (length m₀) (take kept m₀ ++ part)
  pub inside : r ≤ length m

-- ---- input that comes in parts

-- the lines that a line feed in s ends; w is what was there of the first one
unfoldable pub ended : Bytes → Bytes → List Bytes
ended w [] = []
ended w (b ∷ bs) = cond (eqb b 10) (w ∷ ended [] bs) (ended (w ++ (b ∷ [])) bs)

-- what is there of the next line after them
unfoldable pub begun : Bytes → Bytes → Bytes
begun w [] = w
begun w (b ∷ bs) = cond (eqb b 10) (begun [] bs) (begun (w ++ (b ∷ [])) bs)

-- at the end of the input, a line feed for a line that has none
abbrev pub closing : Bytes → Bytes
closing [] = []
closing (b ∷ bs) = 10 ∷ []

-- the same for a line of which some bytes are kept
abbrev pub closer : ℕ → Bytes
closer zero = []
closer (suc n) = 10 ∷ []

-- a line feed for a line of which some bytes are kept stands at the start of m
pub record Closes (kept : ℕ) (m : Bytes) (r : ℕ) : Type 0 where
  pub inside : r ≤ length m
  pub bytes : 1 ≤ length m → take r m ≡ closer kept

-- What was read stands at the start of m: something, while the input goes on; at its end a line feed for a line that has none; nothing where it could not be read.
pub record Reads (kept : ℕ) (m : Bytes) (g : Got) : Type 0 where
  pub inside : g.count ≤ length m
  pub more : g.reading ≡ Open → 1 ≤ g.count
  pub end : g.reading ≡ Ended → 1 ≤ length m → take g.count m ≡ closer kept
  pub none : g.reading ≡ Failed → g.count ≡ 0

abbrev pub fails : Reading → Bool
fails Open = false
fails Ended = false
fails Failed = true

-- a run is over where reading does not go on, or output is lost
abbrev pub is_over : Reading → Bool → Bool
is_over Open lost = lost
is_over Ended lost = true
is_over Failed lost = true
