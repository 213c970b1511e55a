-- `Word::as_form`: the first words of forms by their letters.
use mathlib.Core.Path.{refl}
use Rattle.text.specs.Keywords.{keywords_compute}
use Rattle.text.proofs.Keywords.{form_arm, form_none}
use Rattle.text.proofs.Word.as_form.Goals as goal

pub returns-in-26990 : goal.returns-in-26990
unfolding keywords_compute
returns-in-26990 c = form_arm c.in-26990.is refl

pub returns-in-1885954923 : goal.returns-in-1885954923
unfolding keywords_compute
returns-in-1885954923 c = form_arm c.in-1885954923.is refl

pub returns-in-1801807216 : goal.returns-in-1801807216
unfolding keywords_compute
returns-in-1801807216 c = form_arm c.in-1801807216.is refl

pub returns-in-1785686382 : goal.returns-in-1785686382
unfolding keywords_compute
returns-in-1785686382 c = form_arm c.in-1785686382.is refl

pub returns-in-7170414 : goal.returns-in-7170414
unfolding keywords_compute
returns-in-7170414 c = form_arm c.in-7170414.is refl

pub returns-in-7168376 : goal.returns-in-7168376
unfolding keywords_compute
returns-in-7168376 c = form_arm c.in-7168376.is refl

pub returns-in-427071729268 : goal.returns-in-427071729268
unfolding keywords_compute
returns-in-427071729268 c = form_arm c.in-427071729268.is refl

pub returns-in-6387303 : goal.returns-in-6387303
unfolding keywords_compute
returns-in-6387303 c = form_arm c.in-6387303.is refl

pub returns-in-7566701 : goal.returns-in-7566701
unfolding keywords_compute
returns-in-7566701 c = form_arm c.in-7566701.is refl

pub returns-in_default : goal.returns-in_default
unfolding keywords_compute
returns-in_default c = form_none _ c.in_default.in_default-own.rest
