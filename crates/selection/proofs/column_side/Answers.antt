use borrow.Author.Rules.{rules}
use Rattle.selection.proofs.Sides.{column_ends, column_rooms}
use Rattle.selection.proofs.column_side.Goals as goal

pub left_names-requires : goal.left_names-requires
left_names-requires c = search (column_rooms, rules)

pub overflow_mul-sc : goal.overflow_mul-sc
overflow_mul-sc c = search (column_rooms, rules)

pub overflow_add-sc : goal.overflow_add-sc
overflow_add-sc c = search (column_rooms, rules)

pub value-x-requires : goal.value-x-requires
value-x-requires c = search (column_rooms, rules)

pub returns-then-left_names : goal.returns-then-left_names
returns-then-left_names c = search (column_ends, rules)

pub returns-then-s-sc : goal.returns-then-s-sc
returns-then-s-sc c = search (column_ends, rules)

pub returns-then-sc-c : goal.returns-then-sc-c
returns-then-sc-c c = search (column_ends, rules)

pub overflow_mul-result : goal.overflow_mul-result
overflow_mul-result c = search (column_rooms, rules)

pub overflow_mul-result-2 : goal.overflow_mul-result-2
overflow_mul-result-2 c = search (column_rooms, rules)

pub overflow_add-result : goal.overflow_add-result
overflow_add-result c = search (column_rooms, rules)

pub returns : goal.returns
returns c = search (column_ends, rules)
