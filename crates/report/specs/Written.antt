-- What a text leaves in lent bytes, whether or not there is room for it.
use Rattle.std.specs.Prelude.{◌≡◌, ◌++◌, ℕ, ◌<◌, ◌≤◌, min, length, take, drop}
use Rattle.syntax.specs.Grammar.{Bytes}
use Rattle.print.specs.Writing.{furthest}

-- n is the text's length, up to the furthest place. Where there is room, the bytes are the text and after it those that were there; where there is none, the text's start.
-- So a count above the number of bytes lent says that the text was cut; it is never above `most`.
pub record Written (text : Bytes) (most : ℕ) (m m' : Bytes) (n : ℕ) : Type 0 where
  pub count : n ≡ min (length text) furthest
  pub whole : length text ≤ length m → length text < furthest → m' ≡ text ++ drop (length text) m
  pub cut : length m < length text → length m < furthest → m' ≡ take (length m) text
  pub few : n ≤ most
