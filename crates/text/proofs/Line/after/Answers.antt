-- `Line::after`: by the length of the line.
use Rattle.text.proofs.Keywords.{line_ends}
use Rattle.text.proofs.Line.after.Goals as goal

pub returns-then-s-gt-BYTES : goal.returns-then-s-gt-BYTES
returns-then-s-gt-BYTES c = search line_ends

pub returns : goal.returns
returns c = search line_ends
