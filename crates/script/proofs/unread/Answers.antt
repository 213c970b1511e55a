use borrow.Author.Rules.{rules}
use Rattle.script.proofs.Returns.{unread_long, unread_formless}
use Rattle.script.proofs.unread.Goals as goal

pub returns-then-bytes-gt-BYTES : goal.returns-then-bytes-gt-BYTES
returns-then-bytes-gt-BYTES c = search (unread_long, rules)

pub returns : goal.returns
returns c = search (unread_formless, rules)
