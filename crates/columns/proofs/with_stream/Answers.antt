-- `with_stream`: by whether there is a place.
use borrow.Author.Rules.{rules}
use mathlib.Core.Path.{◌≡◌}
use lib.ListN.{length}
use Rattle.columns.proofs.StreamLists.{stream_adds}
use Rattle.columns.proofs.with_stream.Goals as goal
use Rattle.columns.proofs.with_stream.Goals.{Start}

four : (c : Start) → length c.args.r.places ≡ 4
four c = search rules

pub returns-then-at-ge-MOST : goal.returns-then-at-ge-MOST
returns-then-at-ge-MOST c = let l = four (goal.at.returns-then-at-ge-MOST c).Start in search stream_adds

pub returns : goal.returns
returns c = search stream_adds
