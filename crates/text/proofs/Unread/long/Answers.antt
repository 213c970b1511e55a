-- `Unread::long`: by the reason.
use borrow.Author.Rules.{rules}
use Rattle.text.specs.Keywords.{too_long}
use Rattle.text.proofs.Unread.long.Goals as goal

pub returns-in-TooLong : goal.returns-in-TooLong
unfolding too_long
returns-in-TooLong c = search rules

pub returns-in-Malformed : goal.returns-in-Malformed
unfolding too_long
returns-in-Malformed c = search rules
