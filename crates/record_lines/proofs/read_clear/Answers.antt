use mathlib.Core.Path.{ap, ◌∙◌}
use Rattle.refusal.specs.Checks.{unread}
use Rattle.record_lines.proofs.Clocks.{clear_unread, clear_unclosed, clear_read}
use Rattle.record_lines.proofs.read_clear.Goals as goal

pub returns-in-Err : goal.returns-in-Err
returns-in-Err c = clear_unread _ c.in-Err.ensures (c.unread.ensures ∙ ap unread c.long.ensures)

pub returns-then-not-closes_at : goal.returns-then-not-closes_at
returns-then-not-closes_at c = clear_unclosed _ c.in-Ok.ensures c.closes_at.ensures c.if-not-closes_at.true c.unread-then-not-closes_at.ensures

pub returns : goal.returns
returns c = clear_read _ c.in-Ok.ensures c.closes_at.ensures c.if-not-closes_at.false c.new.ensures
