-- `with_caller`: roles and profile, cut to those that count.
use borrow.Author.Rules.{rules}
use mathlib.Core.Path.{◌≡◌}
use lib.ListN.{length}
use Rattle.catalogue.proofs.Held.{caller_end}
use Rattle.catalogue.proofs.Opened.with_caller.Goals as goal
use Rattle.catalogue.proofs.Opened.with_caller.Goals.{Start}

four : (c : Start) → length c.args.who.role ≡ 4
four c = search (c.well_formed.1.1.1.1.1.1.0, rules)

pub slice_bounds-caller_bits-end : goal.slice_bounds-caller_bits-end
slice_bounds-caller_bits-end c = let h = four (goal.at.slice_bounds-caller_bits-end c).Start in search rules

pub returns : goal.returns
returns c = let h = four (goal.at.returns c).Start in search (caller_end, rules)
