-- `routes`: kind after kind.
use borrow.Author.Rules.{rules}
use mathlib.Core.Path.{◌≡◌, sym}
use lib.ListN.{length}
use Rattle.routes.proofs.Listed.{kinds_ends}
use Rattle.routes.proofs.Open.routes.Goals as goal
use Rattle.routes.proofs.Open.routes.Goals.{Start}

places : (c : Start) → length c.args.self.shown ≡ 24
places c = search rules

pub slice_bounds-with_lone-end-2 : goal.slice_bounds-with_lone-end-2
slice_bounds-with_lone-end-2 c = sym (places (goal.at.slice_bounds-with_lone-end-2 c).Start)

pub returns : goal.returns
returns c = search kinds_ends
