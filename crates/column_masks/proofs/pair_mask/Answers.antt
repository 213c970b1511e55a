use borrow.Author.Rules.{rules}
use Rattle.column_masks.proofs.Fours.{step_ends}
use Rattle.column_masks.proofs.pair_mask.Goals as goal

pub pair_columns-requires : goal.pair_columns-requires
pair_columns-requires g c = search (step_ends, rules)

pub returns : goal.returns
returns g c = search (step_ends, rules)
