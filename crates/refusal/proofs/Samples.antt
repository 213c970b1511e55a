-- Tables of checks by computation: what each gives, and which stand in order.
use mathlib.Core.Path.{◌≡◌, refl}
use mathlib.Core.List.{List, [], ◌∷◌, map}
use mathlib.Core.Bool.{true, false}
use mathlib.Core.Option.{none, some}
use Prim.Native.Nat.{ℕ}
use lib.Dec.{leb}
use lib.ListN.{replicate}
use Rattle.std.specs.Prelude.{Ok, Err}
use Rattle.refusal.specs.Numbers.{number_of}
use Rattle.refusal.specs.Results.{Said, result_of}
use Rattle.refusal.specs.Checks.{Check, refuse, first, passes, table, no_fault, unread, shown, in_order, checks_compute}
use Rattle.refusal.specs.declared.Checks.{Checks}
use Rattle.refusal.specs.declared.Refusal.{Refusal}
use Rattle.refusal.specs.declared.Refusal.TheVariants.{Lent, Malformed, Bound, Undeclared, Repeated, Misplaced, WindowSize, ClockBack, StreamFull, NoRoute, ManyRoutes, NoRoom}

-- the order in which refusals are tried, 3 for a line's length aside
abbrev tried : List Refusal
tried = Lent ∷ Malformed ∷ Bound ∷ Undeclared ∷ Repeated ∷ Misplaced ∷ WindowSize ∷ ClockBack ∷ StreamFull ∷ NoRoute ∷ ManyRoutes ∷ NoRoom ∷ []

pub numbers : map number_of tried ≡ 12 ∷ 1 ∷ 3 ∷ 2 ∷ 6 ∷ 4 ∷ 5 ∷ 7 ∷ 8 ∷ 9 ∷ 10 ∷ 11 ∷ []
numbers = refl

pub verdicts : ◌≡◌ {A = List Said} (result_of none ∷ map (λ r. result_of (some r)) tried) (Ok tt ∷ map (λ r. Err r) tried)
verdicts = refl

-- ---- the first that fails

abbrev fail : Refusal → Check
fail r = refuse r true

abbrev hold : Refusal → Check
hold r = refuse r false

pub firsts : map first ([] ∷ (fail NoRoom ∷ []) ∷ (hold Bound ∷ fail Lent ∷ fail Malformed ∷ []) ∷ (fail Malformed ∷ fail Lent ∷ []) ∷ (hold Bound ∷ hold NoRoom ∷ []) ∷ [])
    ≡ none ∷ some NoRoom ∷ some Lent ∷ some Malformed ∷ none ∷ []
unfolding checks_compute
firsts = refl

pub passings : map passes ([] ∷ (hold Bound ∷ hold NoRoom ∷ []) ∷ (hold Bound ∷ fail Lent ∷ hold NoRoom ∷ []) ∷ (fail Malformed ∷ []) ∷ []) ≡ true ∷ true ∷ false ∷ false ∷ []
unfolding checks_compute
passings = refl

-- ---- the table of a call

-- the checks from a place on fail
abbrev from : ℕ → Checks
from n =
    record {
      lent = leb n 0;
      long = leb n 1;
      malformed = leb n 2;
      bound = leb n 3;
      undeclared = leb n 4;
      repeated = leb n 5;
      misplaced = leb n 6;
      window = leb n 7;
      back = leb n 8;
      full = leb n 9;
      unrouted = leb n 10;
      many = leb n 11;
      room = leb n 12;
    }

pub tables : map (λ n. first (table (from n))) (0 ∷ 1 ∷ 2 ∷ 3 ∷ 4 ∷ 5 ∷ 6 ∷ 7 ∷ 8 ∷ 9 ∷ 10 ∷ 11 ∷ 12 ∷ 13 ∷ [])
    ≡ some Lent ∷ some Bound ∷ some Malformed ∷ some Bound ∷ some Undeclared ∷ some Repeated ∷ some Misplaced ∷ some WindowSize ∷ some ClockBack ∷ some StreamFull ∷ some NoRoute ∷ some ManyRoutes ∷ some NoRoom ∷ none ∷ []
unfolding checks_compute
tables = refl

pub unread_tables : map (λ c. first (table c)) (no_fault ∷ unread false ∷ unread true ∷ []) ≡ none ∷ some Malformed ∷ some Bound ∷ []
unfolding checks_compute
unread_tables = refl

pub shown_tables : map (λ c. first (table c))
    (shown false false false false false ∷ shown true true true true true ∷ shown false true true true true ∷ shown false false true true true ∷ shown false false false true true ∷ shown false false false false true ∷ [])
    ≡ none ∷ some Bound ∷ some Undeclared ∷ some Repeated ∷ some Misplaced ∷ some WindowSize ∷ []
unfolding checks_compute
shown_tables = refl

-- ---- tables in order, and tables that are not

-- 12 first, then 3 for a line's length, then the rest
pub ordered_tables : map (λ rs. in_order (map hold rs)) ([] ∷ tried ∷ (Lent ∷ Bound ∷ Malformed ∷ Bound ∷ Undeclared ∷ NoRoom ∷ []) ∷ (Lent ∷ Lent ∷ Bound ∷ Malformed ∷ []) ∷ (Bound ∷ Bound ∷ ClockBack ∷ []) ∷ (Bound ∷ Malformed ∷ []) ∷ [])
    ≡ true ∷ true ∷ true ∷ true ∷ true ∷ true ∷ []
unfolding checks_compute
ordered_tables = refl

pub unordered_tables : map (λ rs. in_order (map hold rs))
    ((Malformed ∷ Lent ∷ []) ∷ (Bound ∷ Lent ∷ []) ∷ (Bound ∷ Bound ∷ Malformed ∷ []) ∷ (Bound ∷ Malformed ∷ Lent ∷ []) ∷ (Undeclared ∷ Bound ∷ []) ∷ (Repeated ∷ Undeclared ∷ []) ∷ (Misplaced ∷ Repeated ∷ []) ∷ (WindowSize ∷ Misplaced ∷ [])
    ∷ (ClockBack ∷ WindowSize ∷ []) ∷ (StreamFull ∷ ClockBack ∷ []) ∷ (NoRoute ∷ StreamFull ∷ []) ∷ (ManyRoutes ∷ NoRoute ∷ []) ∷ (NoRoom ∷ ManyRoutes ∷ []) ∷ (Lent ∷ Bound ∷ Malformed ∷ Bound ∷ NoRoom ∷ Undeclared ∷ []) ∷ (Undeclared ∷ Malformed ∷ []) ∷ [])
    ≡ replicate 15 false
unfolding checks_compute
unordered_tables = refl
