-- A check that comes first.
use mathlib.Core.Path.{◌≡◌, refl, sym}
use mathlib.Core.List.{List, ◌∷◌}
use mathlib.Core.Bool.{Bool, true, false}
use mathlib.Core.Option.{none, none-ne-some}
use Rattle.refusal.specs.Checks.{Check, refuse, first}
use Rattle.refusal.specs.declared.Refusal.{Refusal}

-- a check and those behind it hold off
pub not_first : (a : Bool) (r : Refusal) (cs : List Check) → first (refuse r a ∷ cs) ≡ none → (a ≡ false) × (first cs ≡ none)
unfolding first refuse
not_first true r cs h = absurd (none-ne-some r (sym h))
not_first false r cs h = (refl, h)
