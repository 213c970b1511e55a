-- `keep`: by whether the column is a profile entry and whether there is room.
use Rattle.columns.proofs.Entries.{keep_ends}
use Rattle.columns.proofs.keep.Goals as goal

pub returns-then-code-ne-ENTRY : goal.returns-then-code-ne-ENTRY
returns-then-code-ne-ENTRY c = search keep_ends

pub returns-then-k-ge-OWN : goal.returns-then-k-ge-OWN
returns-then-k-ge-OWN c = search keep_ends

pub returns : goal.returns
returns c = search keep_ends
