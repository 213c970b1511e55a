-- `ends_at`: by the bytes at a place.
use Rattle.columns.proofs.Closing.{ends_ends}
use Rattle.columns.proofs.ends_at.Goals as goal

pub returns-then-s-i : goal.returns-then-s-i
returns-then-s-i c = search ends_ends

pub returns-then-not-form : goal.returns-then-not-form
returns-then-not-form c = search ends_ends

pub returns-then-s-i-ne32 : goal.returns-then-s-i-ne32
returns-then-s-i-ne32 c = search ends_ends

pub returns : goal.returns
returns c = search ends_ends
