-- `named`: the numbers passed are names that may be, and none stands twice.
use Rattle.schema.proofs.Places.{named_ends}
use Rattle.schema.proofs.named.Goals as goal

pub loop-i-init : goal.loop-i-init
loop-i-init c = search named_ends

pub returns-then-not-free_name : goal.returns-then-not-free_name
returns-then-not-free_name c = search named_ends

pub returns-then-stands : goal.returns-then-stands
returns-then-stands c = search named_ends

pub loop-i-preserved : goal.loop-i-preserved
loop-i-preserved c = search named_ends

pub returns : goal.returns
returns c = search named_ends
