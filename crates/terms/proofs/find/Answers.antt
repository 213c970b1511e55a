-- `find`: no number passed is the one.
use Rattle.terms.proofs.Codes.{found_ends}
use Rattle.terms.proofs.find.Goals as goal

pub loop-i-init : goal.loop-i-init
loop-i-init c = search found_ends

pub returns-then-number_at-code : goal.returns-then-number_at-code
returns-then-number_at-code c = search found_ends

pub loop-i-preserved : goal.loop-i-preserved
loop-i-preserved c = search found_ends

pub returns : goal.returns
returns c = search found_ends
