-- `has_terms`: by its two cases.
use Rattle.comparisons.proofs.Equated.{terms_ends}
use Rattle.comparisons.proofs.has_terms.Goals as goal

pub returns-then-n-a : goal.returns-then-n-a
returns-then-n-a c = search terms_ends

pub returns : goal.returns
returns c = search terms_ends
