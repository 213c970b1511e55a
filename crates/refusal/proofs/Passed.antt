-- A call is accepted only where nothing is wrong with it.
use mathlib.Core.Path.{◌≡◌, refl, sym}
use mathlib.Core.List.{List, [], ◌∷◌}
use mathlib.Core.Bool.{Bool, true, false, cond}
use mathlib.Core.Option.{none, some, none-ne-some}
use Rattle.lists.specs.Lists.{All, all_nil, all_cons}
use Rattle.refusal.specs.Checks.{Check, refuse, first, table, no_fault}
use Rattle.refusal.specs.declared.Checks.{Checks}

-- a table that gives no refusal has no check that fails
pub all_hold : (cs : List Check) → first cs ≡ none → All (λ c. c.fails ≡ false) cs
unfolding first
all_hold [] e = all_nil
all_hold (c ∷ cs) e = go c.fails refl e (all_hold cs)
  where
    go : (b : Bool) → c.fails ≡ b → cond b (some c.refusal) (first cs) ≡ none → (first cs ≡ none → All (λ c. c.fails ≡ false) cs) → All (λ c. c.fails ≡ false) (c ∷ cs)
    go true h e f = absurd (none-ne-some c.refusal (sym e))
    go false h e f = all_cons h (f e)

-- where a table gives none all thirteen checks hold off
pub passed : (c : Checks) → first (table c) ≡ none → c ≡ no_fault
unfolding table refuse
passed c e = go (all_hold (table c) e)
  where
    go : All (λ (k : Check). k.fails ≡ false) (table c) → c ≡ no_fault
    go (all_cons lent (all_cons long (all_cons malformed (all_cons bound (all_cons undeclared (all_cons repeated (all_cons misplaced (all_cons window (all_cons back (all_cons full (all_cons unrouted (all_cons many (all_cons room all_nil))))))))))))) =
        λ i. record {
          lent = lent i;
          long = long i;
          malformed = malformed i;
          bound = bound i;
          undeclared = undeclared i;
          repeated = repeated i;
          misplaced = misplaced i;
          window = window i;
          back = back i;
          full = full i;
          unrouted = unrouted i;
          many = many i;
          room = room i;
        }
