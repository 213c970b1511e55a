use mathlib.Core.Path.{refl}
use native.Mathlib.Omega.{arith}
use Rattle.column_masks.proofs.Columns.{strip_word, column_part}
use Rattle.column_masks.proofs.Keyed.{held_words}
use Rattle.column_masks.proofs.held_mask.Goals as goal

pub held_word-requires : goal.held_word-requires
held_word-requires c = strip_word c.requires.1 0 refl

pub held_word-requires-2 : goal.held_word-requires-2
held_word-requires-2 c = column_part c.requires.1 32 32 (omega arith)

pub held_word-requires-3 : goal.held_word-requires-3
held_word-requires-3 c = column_part c.requires.1 64 32 (omega arith)

pub held_word-requires-4 : goal.held_word-requires-4
held_word-requires-4 c = column_part c.requires.1 96 32 (omega arith)

pub returns : goal.returns
returns c = held_words _ _ _ _ c.held_word.ensures c.held_word-2.ensures c.held_word-3.ensures c.held_word-4.ensures
