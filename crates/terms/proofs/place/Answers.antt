-- `place`: by the stream's place and the column's among the stream's.
use Rattle.terms.proofs.Codes.{place_ends}
use Rattle.terms.proofs.place.Goals as goal

pub returns-then-s-ge-MOST : goal.returns-then-s-ge-MOST
returns-then-s-ge-MOST c = search place_ends

pub returns-then-c-ge-COLUMNS : goal.returns-then-c-ge-COLUMNS
returns-then-c-ge-COLUMNS c = search place_ends

pub returns : goal.returns
returns c = search place_ends
