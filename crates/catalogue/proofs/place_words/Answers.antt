-- `place_words`: the words of the place, cut to what is there.
use Rattle.catalogue.proofs.Taken.{words_cut}
use Rattle.catalogue.proofs.place_words.Goals as goal

pub returns : goal.returns
returns c = words_cut c.args.granted.now c.args.place c.min-a.ensures c.min-b.ensures
