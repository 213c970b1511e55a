use borrow.Author.Rules.{rules}
use Rattle.grant_line.proofs.Lines.{from_within, to_within, rest_fromless, rest_toless, rest_windowless, rest_unclosed, rest_done}
use Rattle.grant_line.proofs.read_rest.Goals as goal

pub returns-in_default : goal.returns-in_default
returns-in_default c = rest_fromless _ _ _ _ _ _ c.in_default.ensures c.unread.ensures

pub limit_at-requires-2 : goal.limit_at-requires-2
limit_at-requires-2 c = (search rules, let a = c.args in from_within a.names.now a.s.now a.h a.o a.w a.c c.in-Some.ensures)

pub returns-in_default-limit_at : goal.returns-in_default-limit_at
returns-in_default-limit_at c = search (rest_toless, c.in-Some.ensures, c.in_default-limit_at.ensures)

pub window_at-requires : goal.window_at-requires
window_at-requires c = let a = c.args in to_within a.names.now a.s.now a.h a.o a.w a.c c.in-Some.ensures c.in-Some-limit_at.ensures

pub returns-in_default-window_at : goal.returns-in_default-window_at
returns-in_default-window_at c = search (rest_windowless, c.in-Some.ensures, c.in-Some-limit_at.ensures, c.in_default-window_at.ensures)

pub returns-then-not-closes_at : goal.returns-then-not-closes_at
returns-then-not-closes_at c = search (rest_unclosed, c.in-Some.ensures, c.in-Some-limit_at.ensures, c.in-Some-window_at.ensures)

pub returns : goal.returns
returns c = rest_done _ _ _ _ _ _ c.in-Some.ensures c.in-Some-limit_at.ensures c.in-Some-window_at.ensures c.closes_at.ensures c.if-not-closes_at.false-raw c.line_of.ensures
