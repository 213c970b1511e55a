-- `term_known`: a code below that of an entry is none.
use Rattle.comparisons.proofs.Entries.{term_ends}
use Rattle.comparisons.proofs.term_known.Goals as goal

pub returns-then-code-lt-ENTRY : goal.returns-then-code-lt-ENTRY
returns-then-code-lt-ENTRY c = search term_ends

pub returns : goal.returns
returns c = search term_ends
