-- `streams_sound`: what `all` gives over the streams.
use mathlib.Core.Path.{◌∙◌, refl}
use borrow.Author.Rules.{rules}
use borrow.Author.Tests.{tests}
use Rattle.std.specs.List.{range_with_len}
use Rattle.std.proofs.lemmas.Iterator.{YieldsList-from_range}
use Rattle.std.proofs.lemmas.Iterator.Search.{all_from_yields_List}
use Rattle.lists.proofs.Chains.{all_range}
use Rattle.schema.specs.Schemas.{stream_sound, streams_sound}
use Rattle.schema.proofs.streams_sound.Goals as goal

pub returns : goal.returns
unfolding streams_sound
returns c =
    let ns = c.args.names.now in
    let n = c.args.n in
    all_from_yields_List {all = range_with_len 0 4} (λ s. stream_sound ns s n) _ _ _ c.all.ensures.ran (YieldsList-from_range 0 4 4 refl refl) (λ x b q k. search (rules, tests))
    ∙ all_range (λ s. stream_sound ns s n) 0 4
