-- The number that a table of checks gives.
use Rattle.std.specs.Prelude.{List, ℕ}
use Rattle.std.proofs.Math.Option.{Option, none, some}
use Rattle.refusal.specs.declared.Refusal.{Refusal}
use Rattle.refusal.specs.Numbers.{number_of}
use Rattle.refusal.specs.Checks.{Check, first}

abbrev pub refused_number : Option Refusal → ℕ
refused_number none = 0
refused_number (some f) = number_of f

-- 0 where no check fails, or the number of the first that does
unfoldable pub first_number : List Check → ℕ
first_number cs = refused_number (first cs)
