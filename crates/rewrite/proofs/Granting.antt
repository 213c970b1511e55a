-- A sound grant in its place of the catalogue is what its numbers stand for.
use mathlib.Core.Path.{refl}
use Prim.Native.Nat.{ℕ}
use lib.Dec.{T}
use mathlib.Core.List.{List}
use Rattle.lists.proofs.Laws.{parts}
use Rattle.masks.specs.Masks.{inside}
use Rattle.grant.specs.Grants.{grant_of, grant_sound, shown_sound, streams_mask, streams_of}
use Rattle.grant.specs.Catalogues.{words_in}
use Rattle.grant.specs.declared.Grant.{Grant}
use Rattle.grant.proofs.Valid.{streams_below, told_streams}
use Rattle.query.specs.Forms.{Words}
use Rattle.rewrite.specs.declared.Restriction.{Restriction}
use Rattle.rewrite.specs.Routed.{Stands}

-- the numbers of a grant in a place
abbrev pub granted_of : ℕ → Grant → Restriction
granted_of i g = record { place = i; shown = g.shown; words = g.words; from = g.from; to = g.to }

sound_inside : (ns : List ℕ) (g : Grant) (ws : List ℕ) → T (grant_sound ns g ws) → T (inside g.shown (streams_mask ns (streams_of g)))
unfolding grant_sound shown_sound
sound_inside ns g ws t = search parts

pub grant_stands : (ns : List ℕ) (w : Words) (i : ℕ) (g : Grant) → T (grant_sound ns g (words_in w.granted i)) → Stands ns w (granted_of i g) (grant_of ns g (words_in w.granted i))
unfolding grant_of
grant_stands ns w i g t =
    record {
      shown = refl;
      when = refl;
      from = refl;
      to = refl;
      declared = streams_below ns g (told_streams ns g (words_in w.granted i) t);
      theirs = sound_inside ns g (words_in w.granted i) t;
    }
