-- `read_entry`: by its opening, and what stands around its name and its value.
use borrow.Author.Rules.{rules}
use mathlib.Core.Path.{◌∙◌}
use Rattle.text.proofs.Found.{none_is}
use Rattle.items.proofs.Profile.{entry_unopened, entry_unspaced, entry_nameless, entry_unparted, entry_valueless, entry_unclosed, entry_whole}
use Rattle.items.proofs.read_entry.Goals as goal

pub returns-in_err-p : goal.returns-in_err-p
returns-in_err-p c = c.from_residual.ensures ∙ entry_unopened _ _ c.in_err-p.ensures

pub returns-in_err-skip : goal.returns-in_err-skip
returns-in_err-skip c = c.from_residual-in_err-skip.ensures ∙ entry_unspaced _ _ c.in_ok-p.ensures c.in_err-skip.ensures

pub returns-in_err-n : goal.returns-in_err-n
returns-in_err-n c = c.from_residual-in_err-n.ensures ∙ entry_nameless _ _ c.in_ok-p.ensures c.in_ok-skip.ensures c.in_err-n.ensures

pub returns-in_err-skip-2 : goal.returns-in_err-skip-2
returns-in_err-skip-2 c = c.from_residual-in_err-skip-2.ensures ∙ entry_unparted _ _ c.in_ok-p.ensures c.in_ok-skip.ensures c.in_ok-n.ensures c.in_err-skip-2.ensures

pub returns-in_err-z : goal.returns-in_err-z
returns-in_err-z c = c.from_residual-in_err-z.ensures ∙ entry_valueless _ _ c.in_ok-p.ensures c.in_ok-skip.ensures c.in_ok-n.ensures c.in_ok-skip-2.ensures c.in_err-z.ensures

pub returns-in_err-end : goal.returns-in_err-end
returns-in_err-end c = c.from_residual-in_err-end.ensures ∙ entry_unclosed _ _ c.in_ok-p.ensures c.in_ok-skip.ensures c.in_ok-n.ensures c.in_ok-skip-2.ensures c.in_ok-z.ensures c.in_err-end.ensures

pub returns : goal.returns
returns c = entry_whole _ _ c.in_ok-p.ensures c.in_ok-skip.ensures c.in_ok-n.ensures c.in_ok-skip-2.ensures c.in_ok-z.ensures c.in_ok-end.ensures c.kept-value.ensures (none_is _ c.is_none.ensures) (search rules)
