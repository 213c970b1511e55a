-- `again`: by the mask, and a profile entry by its name.
use Rattle.columns.proofs.Entries.{again_ends}
use Rattle.columns.proofs.again.Goals as goal

pub returns-then-code-ne-ENTRY : goal.returns-then-code-ne-ENTRY
returns-then-code-ne-ENTRY c = search again_ends

pub returns-then-k-ge-OWN : goal.returns-then-k-ge-OWN
returns-then-k-ge-OWN c = search again_ends

pub returns : goal.returns
returns c = search again_ends
