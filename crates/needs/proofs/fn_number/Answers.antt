-- `fn_number`: by its three cases.
use Rattle.needs.proofs.Makes.{fn_ends}
use Rattle.needs.proofs.fn_number.Goals as goal

pub returns-then-n-eq0 : goal.returns-then-n-eq0
returns-then-n-eq0 c = search fn_ends

pub returns-then-n-gt-SUM : goal.returns-then-n-gt-SUM
returns-then-n-gt-SUM c = search fn_ends

pub returns : goal.returns
returns c = search fn_ends
