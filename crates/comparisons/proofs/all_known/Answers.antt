-- `all_known`: every node passed names entries that are there.
use mathlib.Core.Path.{sym, ap, ◌∙◌}
use Rattle.lists.specs.Lists.{every}
use Rattle.comparisons.specs.Compared.{compared, profile_in, compare_known}
use Rattle.comparisons.proofs.Walked.{compared_lent}
use Rattle.comparisons.proofs.Entries.{known_ends}
use Rattle.comparisons.proofs.all_known.Goals as goal

pub loop-k-init : goal.loop-k-init
loop-k-init c = let a = c.args in ap (every (compare_known (profile_in a.profile.now))) (compared_lent a.words.now a.n ∙ ap (compared a.words.now 0) (sym c.min-k.ensures))

pub returns-then-not-node_known : goal.returns-then-not-node_known
returns-then-not-node_known c = search known_ends

pub loop-k-smaller : goal.loop-k-smaller
loop-k-smaller c = search known_ends

pub loop-k-preserved : goal.loop-k-preserved
loop-k-preserved c = search known_ends

pub returns : goal.returns
returns c = search known_ends
