-- The refusals' numbers.
use Rattle.std.specs.Prelude.{ℕ}
use Rattle.refusal.specs.declared.Refusal.{Refusal}
use Rattle.refusal.specs.declared.Refusal.TheVariants.{Lent, Malformed, Bound, Undeclared, Repeated, Misplaced, WindowSize, ClockBack, StreamFull, NoRoute, ManyRoutes, NoRoom}

abbrev pub number_of : Refusal → ℕ
number_of Lent = 12
number_of Malformed = 1
number_of Bound = 3
number_of Undeclared = 2
number_of Repeated = 6
number_of Misplaced = 4
number_of WindowSize = 5
number_of ClockBack = 7
number_of StreamFull = 8
number_of NoRoute = 9
number_of ManyRoutes = 10
number_of NoRoom = 11
