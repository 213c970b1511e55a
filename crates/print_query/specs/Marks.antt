-- The forms that stand open around a place of a table, the innermost first: a mark for each, whether it is a join whose right side is still to come.
use Rattle.std.specs.Prelude.{◌≡◌, List, [], ◌∷◌, Bool, true, false, cond, ℕ, ◌+◌, ◌*◌}
use Rattle.std.proofs.Math.Option.{Option, none, some}
use Rattle.syntax.specs.Grammar.{Bytes}
use Rattle.print.specs.Writing.{Put}

-- as a number: a bit a mark, the innermost lowest, and a 1 above all
unfoldable pub marks_number : List Bool → ℕ
marks_number [] = 1
marks_number (b ∷ bs) = marks_number bs * 2 + cond b 1 0

-- one past the highest number of as many marks as a rewritten query has forms
abbrev pub marks_end : ℕ
marks_end = 131072

-- what is written after a query is whole: the brackets that close up to a join's left side, and a space
unfoldable pub ending : List Bool → Bytes → Bytes
ending [] rest = rest
ending (true ∷ bs) rest = 32 ∷ rest
ending (false ∷ bs) rest = 41 ∷ ending bs rest

-- what stands open then; none where all is written
unfoldable pub ended : List Bool → Option (List Bool)
ended [] = none
ended (true ∷ bs) = some (false ∷ bs)
ended (false ∷ bs) = ended bs

-- 0 where all is written
unfoldable pub state_number : Option (List Bool) → ℕ
state_number none = 0
state_number (some bs) = marks_number bs

-- the brackets are written from place p on, by the number of any marks
pub record Ended (n : ℕ) (m : Bytes) (p : ℕ) (m' : Bytes) (p' n' : ℕ) : Type 0 where
  pub text : (bs : List Bool) → n ≡ marks_number bs → Put (ending bs) m p m' p'
  pub left : (bs : List Bool) → n ≡ marks_number bs → n' ≡ state_number (ended bs)
