use mathlib.Core.Path.{◌≡◌}
use lib.ListN.{length}
use borrow.Author.Rules.{rules}
use Rattle.syntax.specs.Limits.{max_grants}
use Rattle.script.proofs.Lines.{stream_ends, grant_ends, clock_ends, row_ends, clear_ends, caller_ends, ask_ends, line_ends, unread_ends}
use Rattle.script.proofs.step.Goals as goal
use Rattle.script.proofs.step.Goals.{Start}

full : (c : Start) → length c.args.state.grants ≡ max_grants
full c = c.well_formed.0.1.1.1.0.1.0.1

pub returns-in-Stream : goal.returns-in-Stream
returns-in-Stream c = search (stream_ends, rules)

pub returns-in-Grant : goal.returns-in-Grant
returns-in-Grant c = search (grant_ends, rules)

pub returns-in-Clock : goal.returns-in-Clock
returns-in-Clock c = search (clock_ends, rules)

pub returns-in-Row : goal.returns-in-Row
returns-in-Row c = search (row_ends, rules)

pub returns-in-Clear : goal.returns-in-Clear
returns-in-Clear c = search (clear_ends, rules)

pub returns-in-Caller : goal.returns-in-Caller
returns-in-Caller c = search (caller_ends, rules)

pub returns-in-Ask : goal.returns-in-Ask
returns-in-Ask c = let f = full (goal.at.returns-in-Ask c).Start in search (ask_ends, rules)

pub returns-in-Line : goal.returns-in-Line
returns-in-Line c = let f = full (goal.at.returns-in-Line c).Start in search (line_ends, rules)

pub returns-in-Other : goal.returns-in-Other
returns-in-Other c = search (unread_ends, rules)
