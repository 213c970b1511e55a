use mathlib.Core.Path.{ap, ◌∙◌}
use Rattle.grant_line.specs.Lines.{unread_line}
use Rattle.grant_line.proofs.Lines.{read_unopened, line_short, read_unheld, read_unof, read_unshow, show_within, read_unwhen, when_within, read_done}
use Rattle.grant_line.proofs.read.Goals as goal

pub returns-in-Err : goal.returns-in-Err
returns-in-Err c = read_unopened _ _ _ c.in-Err.ensures (c.unread.ensures ∙ ap unread_line c.long.ensures)

pub returns-in_default : goal.returns-in_default
returns-in_default c = read_unheld _ _ _ c.in-Ok.ensures c.in_default.ensures c.unread-in_default.ensures

pub returns-in_default-of_at : goal.returns-in_default-of_at
returns-in_default-of_at c = read_unof _ _ _ c.in-Ok.ensures c.in-Some.ensures c.in_default-of_at.ensures c.unread-in_default-of_at.ensures

pub returns-in_default-show_at : goal.returns-in_default-show_at
returns-in_default-show_at c = read_unshow _ _ _ c.in-Ok.ensures c.in-Some.ensures c.in-Some-of_at.ensures c.in_default-show_at.ensures c.unread-in_default-show_at.ensures

pub when_at-requires : goal.when_at-requires
when_at-requires c = let a = c.args in (line_short a.names.now _ a.words.now c.in-Ok.ensures, show_within a.names.now _ a.words.now c.in-Ok.ensures c.in-Some.ensures c.in-Some-of_at.ensures c.in-Some-show_at.ensures)

pub returns-in_default-when_at : goal.returns-in_default-when_at
returns-in_default-when_at c = read_unwhen _ _ _ c.in-Ok.ensures c.in-Some.ensures c.in-Some-of_at.ensures c.in-Some-show_at.ensures c.requires c.in_default-when_at.ensures c.unread-in_default-when_at.ensures

pub read_rest-requires : goal.read_rest-requires
read_rest-requires c = when_within _ _ _ c.in-Ok.ensures c.in-Some.ensures c.in-Some-of_at.ensures c.in-Some-show_at.ensures c.requires c.in-Some-when_at.ensures

pub returns : goal.returns
returns c = read_done _ _ _ c.in-Ok.ensures c.in-Some.ensures c.in-Some-of_at.ensures c.in-Some-show_at.ensures c.requires c.in-Some-when_at.ensures c.read_rest.ensures
