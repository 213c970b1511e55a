-- A stream declared later changes nothing of a grant, nor of a catalogue, and both may still be lent.
use mathlib.Core.Path.{◌≡◌, refl, ap, ap₂}
use mathlib.Core.List.{List, [], ◌∷◌, map}
use mathlib.Core.Bool.{◌&&◌}
use Prim.Native.Nat.{ℕ, suc, ◌*◌, ◌+◌, ◌<◌}
use native.Mathlib.Omega.{arith}
use lib.Dec.{T, leb, ltb→lt, lt→ltb}
use lib.ListN.{length}
use Rattle.lists.specs.Lists.{every, gather, count_from}
use Rattle.lists.proofs.Laws.{parts, and_both, T_true, All, all_weaken, every_all, every_weaken, gather_same}
use Rattle.model.specs.Queries.{columns_of}
use Rattle.schema.specs.Schemas.{streams_in, schema_of}
use Rattle.schema.proofs.Later.{Later, width_later, columns_later}
use Rattle.masks.specs.Masks.{mask_of}
use Rattle.grant.specs.declared.Grant.{Grant}
use Rattle.grant.specs.Grants.{streams_of, grant_of, column_codes, streams_mask, streams_sound, shown_sound, when_sound, grant_sound}
use Rattle.grant.specs.Catalogues.{words_in, grants_from, catalogue_of, sound_from, catalogue_sound}
use Rattle.grant.proofs.Masked.{declared_stream}
use Rattle.grant.proofs.Valid.{streams_below, told_streams}

module _ {ns ns' : List ℕ} (later : Later ns ns') where
  module _ (ss : List ℕ) (b : T (every (declared_stream ns) ss)) where
    all_later : {P : ℕ → Type 0} → ((s : ℕ) → s < streams_in ns → P s) → All P ss
    all_later f = all_weaken (λ s t. f s (ltb→lt s (streams_in ns) t)) (every_all (declared_stream ns) ss b)

    theirs_later : gather (columns_of (schema_of ns')) ss ≡ gather (columns_of (schema_of ns)) ss
    theirs_later = gather_same (all_later (columns_later later))

    mask_later : streams_mask ns' ss ≡ streams_mask ns ss
    unfolding streams_mask column_codes
    mask_later = ap mask_of (gather_same (all_later (λ s h. ap (λ w. map (λ c. s * 6 + c) (count_from 0 w)) (width_later later s h))))

    declared_later : T (every (declared_stream ns') ss)
    declared_later = every_weaken (declared_stream ns) (declared_stream ns') (λ s t. let l = ltb→lt s (streams_in ns) t in let m = later.more in lt→ltb s (streams_in ns') (omega arith)) ss b

  -- ---- a grant

  module _ (g : Grant) (ws : List ℕ) (t : T (grant_sound ns g ws)) where
    streams : T (streams_sound ns g)
    streams = told_streams ns g ws t

    below : T (every (declared_stream ns) (streams_of g))
    below = streams_below ns g streams

    pub grant_kept : grant_of ns' g ws ≡ grant_of ns g ws
    unfolding grant_of
    grant_kept = rw (theirs_later (streams_of g) below)

    streams_later : streams_sound ns' g ≡ streams_sound ns g
    unfolding streams_sound
    streams_later = rw (T_true (every (declared_stream ns) (streams_of g)) below, T_true (every (declared_stream ns') (streams_of g)) (declared_later (streams_of g) below))

    pub sound_later : T (grant_sound ns' g ws)
    unfolding grant_sound shown_sound when_sound
    sound_later = rw (streams_later, mask_later (streams_of g) below) t

  -- ---- the catalogue

  from_kept : (ws : List ℕ) (i : ℕ) (gs : List Grant) → T (sound_from ns ws i gs) → grants_from ns' ws i gs ≡ grants_from ns ws i gs
  unfolding grants_from sound_from
  from_kept ws i [] t = refl
  from_kept ws i (g ∷ gs) t = ap₂ ◌∷◌ (grant_kept g (words_in ws i) (search parts)) (from_kept ws (suc i) gs (search parts))

  from_later : (ws : List ℕ) (i : ℕ) (gs : List Grant) → T (sound_from ns ws i gs) → T (sound_from ns' ws i gs)
  unfolding sound_from
  from_later ws i [] t = tt
  from_later ws i (g ∷ gs) t = and_both (grant_sound ns' g (words_in ws i)) (sound_from ns' ws (suc i) gs) (sound_later g (words_in ws i) (search parts)) (from_later ws (suc i) gs (search parts))

  module _ (gs : List Grant) (ws : List ℕ) (t : T (catalogue_sound ns gs ws)) where
    pub catalogue_kept : catalogue_of ns' gs ws ≡ catalogue_of ns gs ws
    unfolding catalogue_of catalogue_sound
    catalogue_kept = from_kept ws 0 gs (search parts)

    pub catalogue_later : T (catalogue_sound ns' gs ws)
    unfolding catalogue_sound
    catalogue_later = and_both (leb (length gs) 24 && leb 2280 (length ws)) (sound_from ns' ws 0 gs) (search parts) (from_later ws 0 gs (search parts))
