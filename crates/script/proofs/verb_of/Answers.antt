use borrow.Author.Rules.{rules}
use Rattle.script.proofs.Verbs.{verb_unopened, verb_stream, verb_grant, verb_clock, verb_row, verb_clear, verb_caller, verb_ask, verb_line, verb_none}
use Rattle.script.proofs.verb_of.Goals as goal

pub returns-then-byte-ne40 : goal.returns-then-byte-ne40
returns-then-byte-ne40 c = search (verb_unopened, rules)

pub returns-in-126943972647277 : goal.returns-in-126943972647277
returns-in-126943972647277 c = search (verb_stream, rules)

pub returns-in-444300619380 : goal.returns-in-444300619380
returns-in-444300619380 c = search (verb_grant, rules)

pub returns-in-427021001579 : goal.returns-in-427021001579
returns-in-427021001579 c = search (verb_clock, rules)

pub returns-in-7499639 : goal.returns-in-7499639
returns-in-7499639 c = search (verb_row, rules)

pub returns-in-427020345714 : goal.returns-in-427020345714
returns-in-427020345714 c = search (verb_clear, rules)

pub returns-in-109270082020722 : goal.returns-in-109270082020722
returns-in-109270082020722 c = search (verb_caller, rules)

pub returns-in-6386539 : goal.returns-in-6386539
returns-in-6386539 c = search (verb_ask, rules)

pub returns-in-1818848869 : goal.returns-in-1818848869
returns-in-1818848869 c = search (verb_line, rules)

pub returns-in_default : goal.returns-in_default
returns-in_default c = search (verb_none, rules)
