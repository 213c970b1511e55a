-- `line_of`: by its caller and its flags.
use Rattle.caller.proofs.LineParts.{line_put}
use Rattle.caller.proofs.line_of.Goals as goal

pub returns : goal.returns
returns c = line_put _ _ c.caller_of-caller.ensures c.none_twice-roles_twice.ensures c.none_twice-entries_twice.ensures c.either-repeated.ensures
    c.beyond.ensures c.shown-checks.ensures
