-- Whether names are free, as the code tests them.
use mathlib.Core.Path.{◌≡◌, sym, ◌∙◌}
use mathlib.Core.Bool.{Bool, true, false, ◌&&◌}
use lib.ListN.{take}
use Rattle.lists.specs.Lists.{every}
use Rattle.text.specs.declared.Name.{Name}
use Rattle.items.specs.declared.Names.{Names}
use Rattle.schema.specs.Schemas.{code_free}

module _ (n : Name) (cs : Names) {x : Bool} (e : x ≡ code_free n.code) where
  pub name_taken : x ≡ false → false ≡ (code_free n.code && every code_free (take cs.count cs.codes))
  name_taken h = rw (sym e ∙ h)

  pub name_open : {y : Bool} → x ≡ true → y ≡ every code_free (take cs.count cs.codes) → y ≡ (code_free n.code && every code_free (take cs.count cs.codes))
  name_open h d = d ∙ rw (sym e ∙ h)

pub ruleset line_frees = (name_taken, name_open)
