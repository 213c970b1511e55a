-- `word_at`: by the word.
use Rattle.text.proofs.Flags.{word_flag_none, word_flag_some}
use Rattle.text.proofs.word_at.Goals as goal

pub returns-in-None : goal.returns-in-None
returns-in-None c = word_flag_none _ _ (λ i. (c.type_inv.s i).fits) c.in-None.ensures c.run_end.ensures

pub returns-in-Some : goal.returns-in-Some
returns-in-Some c = word_flag_some _ _ (λ i. (c.type_inv.s i).fits) c.in-Some.ensures
