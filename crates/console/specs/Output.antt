-- Output that is kept until it is written.
use Rattle.std.specs.Prelude.{◌≡◌, ◌++◌, Bool, true, false, ℕ, ◌+◌, ◌≤◌, length, take}
use Rattle.syntax.specs.Grammar.{Bytes}
use Rattle.report.specs.declared.Message.{Message}
use Rattle.report.specs.declared.Message.TheVariants.{Quiet, Refusal, Cells, Text}

-- how many bytes any text takes at most
abbrev pub most_text : ℕ
most_text = 131072

-- Of output that is kept, some is written, and the rest stays.
pub record Writes (o o' : Bytes) : Type 0 where
  pub written : Bytes
  pub all : written ++ o' ≡ o

-- Once some output is lost, it stays so.
abbrev pub Lasts : Bool → Bool → Type 0
Lasts lost lost' = lost ≡ true → lost' ≡ true

-- Of the bytes kept in m, r stay: all of them while there is room for any text behind them. Where m is large enough, there is then.
pub record Room (m : Bytes) (used r : ℕ) : Type 0 where
  pub inside : r ≤ length m
  pub rest : Writes (take used m) (take r m)
  pub kept : used + most_text ≤ length m → r ≡ used
  pub room : most_text ≤ length m → r + most_text ≤ length m

abbrev pub refuses : Message → Bool
refuses Quiet = false
refuses (Refusal n) = true
refuses (Cells n) = false
refuses (Text n) = false

-- Of the bytes kept in m, r stay: all of them where nothing is to be explained.
pub record Tells (m : Bytes) (used : ℕ) (explains : Bool) (r : ℕ) : Type 0 where
  pub rest : Writes (take used m) (take r m)
  pub kept : explains ≡ false → r ≡ used

-- A text of at most n bytes goes behind what is kept of the output; nothing of it is written while there is room for any text and nothing is to be explained.
pub record Adds (text : Bytes) (n : ℕ) (explains : Bool) (m : Bytes) (used : ℕ) (m' : Bytes) (r : ℕ) : Type 0 where
  pub rest : n ≤ most_text → most_text ≤ length m → Writes (take used m ++ text) (take r m')
  pub kept : explains ≡ false → n ≤ most_text → used + most_text ≤ length m → take r m' ≡ take used m ++ text
