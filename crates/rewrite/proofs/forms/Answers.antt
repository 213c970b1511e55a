-- `forms`: the places that are counted.
use Rattle.rewrite.proofs.Turns.{forms_counted, forms_first}
use Rattle.rewrite.proofs.forms.Goals as goal

pub slice_bounds-result-end : goal.slice_bounds-result-end
slice_bounds-result-end c = forms_counted c.args.q.now c.count.ensures

pub returns : goal.returns
returns c = forms_first c.args.q.now c.count.ensures
