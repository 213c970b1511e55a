-- `width`: none past the last stream.
use Rattle.schema.proofs.Tests.{width_ends}
use Rattle.schema.proofs.width.Goals as goal

pub returns-then-s-ge-MOST : goal.returns-then-s-ge-MOST
returns-then-s-ge-MOST c = search width_ends

pub returns : goal.returns
returns c = search width_ends
