-- `beyond`: test by test.
use Rattle.caller.proofs.LineParts.{beyond_ends}
use Rattle.caller.proofs.beyond.Goals as goal

pub returns-then-rs : goal.returns-then-rs
returns-then-rs c = search beyond_ends

pub returns-then-es : goal.returns-then-es
returns-then-es c = search beyond_ends

pub returns-then-es-2 : goal.returns-then-es-2
returns-then-es-2 c = search beyond_ends

pub returns : goal.returns
returns c = search beyond_ends
