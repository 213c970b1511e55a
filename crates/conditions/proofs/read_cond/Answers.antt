use native.Mathlib.Omega.{arith}
use Rattle.conditions.proofs.Leaves.{count_few}
use Rattle.conditions.proofs.Listing.{read_cond_ends}
use Rattle.conditions.proofs.read_cond.Goals as goal

pub returns-then-s-gt-BYTES : goal.returns-then-s-gt-BYTES
returns-then-s-gt-BYTES c = search read_cond_ends

pub returns-then-level-eq0 : goal.returns-then-level-eq0
returns-then-level-eq0 c = search read_cond_ends

pub cond_in-requires : goal.cond_in-requires
cond_in-requires c = (omega arith, count_few _ c.counted.ensures)

pub returns-in_err-i : goal.returns-in_err-i
returns-in_err-i c = search (read_cond_ends, c.in_err-i.ensures)

pub returns : goal.returns
returns c = search (read_cond_ends, c.in_ok-i.ensures)
