-- `stream_bits`: by its five cases.
use Rattle.routes.proofs.Opened.{bits_ends}
use Rattle.routes.proofs.stream_bits.Goals as goal

pub returns-then-s-eq0 : goal.returns-then-s-eq0
returns-then-s-eq0 c = search bits_ends

pub returns-then-s-eq1 : goal.returns-then-s-eq1
returns-then-s-eq1 c = search bits_ends

pub returns-then-s-eq2 : goal.returns-then-s-eq2
returns-then-s-eq2 c = search bits_ends

pub returns-then-s-eq3 : goal.returns-then-s-eq3
returns-then-s-eq3 c = search bits_ends

pub returns : goal.returns
returns c = search bits_ends
