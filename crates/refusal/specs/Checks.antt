-- A table of checks, and the refusal that it gives: the first whose condition holds.
use Rattle.std.specs.Prelude.{List, [], ◌∷◌, Bool, true, false, ◌&&◌, ◌||◌, cond, ℕ, T, leb, eqb}
use Rattle.std.proofs.Math.Option.{Option, none, some}
use Rattle.refusal.specs.declared.Refusal.{Refusal}
use Rattle.refusal.specs.declared.Refusal.TheVariants.{Lent, Malformed, Bound, Undeclared, Repeated, Misplaced, WindowSize, ClockBack, StreamFull, NoRoute, ManyRoutes, NoRoom}
use Rattle.refusal.specs.declared.Checks.{Checks}

-- a refusal and its condition
pub record Check : Type 0 where
  pub refusal : Refusal
  pub fails : Bool

unfoldable pub refuse : Refusal → Bool → Check
refuse r b = record { refusal = r; fails = b }

unfoldable pub first : List Check → Option Refusal
first [] = none
first (c ∷ cs) = let rest = first cs in cond c.fails (some c.refusal) rest

unfoldable pub passes : List Check → Bool
passes [] = true
passes (c ∷ cs) = let rest = passes cs in cond c.fails false rest

-- the order in which the refusals are tried: 12, 1, 3, 2, 6, 4, 5, 7, 8, 9, 10, 11
unfoldable pub rank : Refusal → ℕ
rank Lent = 0
rank Malformed = 1
rank Bound = 2
rank Undeclared = 3
rank Repeated = 4
rank Misplaced = 5
rank WindowSize = 6
rank ClockBack = 7
rank StreamFull = 8
rank NoRoute = 9
rank ManyRoutes = 10
rank NoRoom = 11

-- checks in that order, from a place in it on
unfoldable pub ordered : ℕ → List Check → Bool
ordered low [] = true
ordered low (c ∷ cs) = leb low (rank c.refusal) && ordered (rank c.refusal) cs

-- ---- the checks of a call as the code holds them

unfoldable pub table : Checks → List Check
table c =
    refuse Lent c.lent
    ∷ refuse Bound c.long
    ∷ refuse Malformed c.malformed
    ∷ refuse Bound c.bound
    ∷ refuse Undeclared c.undeclared
    ∷ refuse Repeated c.repeated
    ∷ refuse Misplaced c.misplaced
    ∷ refuse WindowSize c.window
    ∷ refuse ClockBack c.back
    ∷ refuse StreamFull c.full
    ∷ refuse NoRoute c.unrouted
    ∷ refuse ManyRoutes c.many
    ∷ refuse NoRoom c.room
    ∷ []

abbrev pub no_fault : Checks
no_fault =
    record {
      lent = false;
      long = false;
      malformed = false;
      bound = false;
      undeclared = false;
      repeated = false;
      misplaced = false;
      window = false;
      back = false;
      full = false;
      unrouted = false;
      many = false;
      room = false;
    }

-- what a line shows that was not read: it is too long, or of another form
abbrev pub unread : Bool → Checks
unread long =
    record {
      lent = false;
      long = long;
      malformed = true;
      bound = false;
      undeclared = false;
      repeated = false;
      misplaced = false;
      window = false;
      back = false;
      full = false;
      unrouted = false;
      many = false;
      room = false;
    }

-- what a line shows that was read: 3, 2, 6, 4 and 5 of it by itself
abbrev pub shown : Bool → Bool → Bool → Bool → Bool → Checks
shown bound undeclared repeated misplaced window =
    record {
      lent = false;
      long = false;
      malformed = false;
      bound = bound;
      undeclared = undeclared;
      repeated = repeated;
      misplaced = misplaced;
      window = window;
      back = false;
      full = false;
      unrouted = false;
      many = false;
      room = false;
    }

-- ---- the order of a whole table: 12; a line over 512 bytes (3); then the rest by rank

-- after 12: one check for 3 may stand before all others
unfoldable pub length_first : List Check → Bool
length_first [] = true
length_first (c ∷ cs) = ordered (rank Malformed) (c ∷ cs) || eqb (rank c.refusal) (rank Bound) && ordered (rank Malformed) cs

unfoldable pub in_order : List Check → Bool
in_order [] = true
in_order (c ∷ cs) = let rest = in_order cs in cond (eqb (rank c.refusal) (rank Lent)) rest (length_first (c ∷ cs))

abbrev pub Ordered : List Check → Type 0
Ordered cs = T (in_order cs)

-- To unfold this is to unfold every definition above.
unfoldable pub checks_compute : Unit {0}
unfolding refuse first passes rank ordered table length_first in_order
checks_compute = tt
