use Rattle.nodes.proofs.Tests.{terms_ends}
use Rattle.nodes.proofs.terms_stand.Goals as goal

pub returns-then-not-masked : goal.returns-then-not-masked
returns-then-not-masked c = search terms_ends

pub returns-then-masked : goal.returns-then-masked
returns-then-masked c = search terms_ends

pub returns-then-n-eq-NUMBER : goal.returns-then-n-eq-NUMBER
returns-then-n-eq-NUMBER c = search terms_ends

pub returns-then-n-eq-ENTRY : goal.returns-then-n-eq-ENTRY
returns-then-n-eq-ENTRY c = search terms_ends

pub returns : goal.returns
returns c = search terms_ends
