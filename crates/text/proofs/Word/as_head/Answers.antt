-- `Word::as_head`: the words of a condition by their letters.
use mathlib.Core.Path.{refl}
use Rattle.text.specs.Keywords.{keywords_compute}
use Rattle.text.proofs.Keywords.{head_arm, head_none}
use Rattle.text.proofs.Word.as_head.Goals as goal

pub returns-in-61 : goal.returns-in-61
unfolding keywords_compute
returns-in-61 c = head_arm c.in-61.is refl

pub returns-in-12093 : goal.returns-in-12093
unfolding keywords_compute
returns-in-12093 c = head_arm c.in-12093.is refl

pub returns-in-60 : goal.returns-in-60
unfolding keywords_compute
returns-in-60 c = head_arm c.in-60.is refl

pub returns-in-15421 : goal.returns-in-15421
unfolding keywords_compute
returns-in-15421 c = head_arm c.in-15421.is refl

pub returns-in-62 : goal.returns-in-62
unfolding keywords_compute
returns-in-62 c = head_arm c.in-62.is refl

pub returns-in-15933 : goal.returns-in-15933
unfolding keywords_compute
returns-in-15933 c = head_arm c.in-15933.is refl

pub returns-in-6385252 : goal.returns-in-6385252
unfolding keywords_compute
returns-in-6385252 c = head_arm c.in-6385252.is refl

pub returns-in-28530 : goal.returns-in-28530
unfolding keywords_compute
returns-in-28530 c = head_arm c.in-28530.is refl

pub returns-in-7237492 : goal.returns-in-7237492
unfolding keywords_compute
returns-in-7237492 c = head_arm c.in-7237492.is refl

pub returns-in_default : goal.returns-in_default
unfolding keywords_compute
returns-in_default c = head_none _ c.in_default.in_default-own.rest
