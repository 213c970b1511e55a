-- `route`: the parts of the number in its place, which is 0 past the last.
use borrow.Author.Rules.{rules}
use mathlib.Core.Path.{◌≡◌, refl}
use lib.ListN.{length}
use Rattle.routes.specs.Listing.{unpacked, route_at}
use Rattle.routes.proofs.Listed.{route_past}
use Rattle.routes.proofs.Routes.route.Goals as goal
use Rattle.routes.proofs.Routes.route.Goals.{Start}

places : (c : Start) → length c.args.self.list ≡ 16
places c = search rules

pub returns-then-k-ge-MOST : goal.returns-then-k-ge-MOST
returns-then-k-ge-MOST c = route_past c.args.self c.args.i (places (goal.at.returns-then-k-ge-MOST c).Start) c.if-k-ge-MOST.true

pub returns : goal.returns
unfolding route_at unpacked
returns c = refl
