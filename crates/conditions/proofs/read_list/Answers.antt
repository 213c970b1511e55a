use Rattle.conditions.proofs.Listing.{read_list_ends}
use Rattle.conditions.proofs.read_list.Goals as goal

pub returns-then-s-gt-BYTES : goal.returns-then-s-gt-BYTES
returns-then-s-gt-BYTES c = search read_list_ends

pub returns-in_err-i : goal.returns-in_err-i
returns-in_err-i c = search (read_list_ends, c.in_err-i.ensures)

pub returns-then-byte-ne41 : goal.returns-then-byte-ne41
returns-then-byte-ne41 c = search (read_list_ends, c.in_ok-i.ensures)

pub returns : goal.returns
returns c = search (read_list_ends, c.in_ok-i.ensures)
