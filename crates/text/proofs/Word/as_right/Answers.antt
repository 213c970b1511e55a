-- `Word::as_right`: the rights by their letters.
use mathlib.Core.Path.{refl}
use Rattle.text.specs.Keywords.{keywords_compute}
use Rattle.text.proofs.Keywords.{right_arm, right_none}
use Rattle.text.proofs.Word.as_right.Goals as goal

pub returns-in-1919246692 : goal.returns-in-1919246692
unfolding keywords_compute
returns-in-1919246692 c = right_arm c.in-1919246692.is refl

pub returns-in-7170414 : goal.returns-in-7170414
unfolding keywords_compute
returns-in-7170414 c = right_arm c.in-7170414.is refl

pub returns-in-7168376 : goal.returns-in-7168376
unfolding keywords_compute
returns-in-7168376 c = right_arm c.in-7168376.is refl

pub returns-in-427071729268 : goal.returns-in-427071729268
unfolding keywords_compute
returns-in-427071729268 c = right_arm c.in-427071729268.is refl

pub returns-in-6387303 : goal.returns-in-6387303
unfolding keywords_compute
returns-in-6387303 c = right_arm c.in-6387303.is refl

pub returns-in-7566701 : goal.returns-in-7566701
unfolding keywords_compute
returns-in-7566701 c = right_arm c.in-7566701.is refl

pub returns-in_default : goal.returns-in_default
unfolding keywords_compute
returns-in_default c = right_none _ c.in_default.in_default-own.rest
