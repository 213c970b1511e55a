-- `free_name`: the three names that no stream and no column has, then the name itself.
use Rattle.schema.proofs.FreeNames.{free_ends}
use Rattle.schema.proofs.free_name.Goals as goal

pub returns-then-code-eq-SELF : goal.returns-then-code-eq-SELF
returns-then-code-eq-SELF c = search free_ends

pub returns-then-code-eq-TIME : goal.returns-then-code-eq-TIME
returns-then-code-eq-TIME c = search free_ends

pub returns-then-code-eq-FIGURE : goal.returns-then-code-eq-FIGURE
returns-then-code-eq-FIGURE c = search free_ends

pub returns : goal.returns
returns c = search free_ends
