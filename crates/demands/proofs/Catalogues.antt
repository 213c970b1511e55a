-- Names that stand for the same streams: the grants of a catalogue stand for the same beside them, and may be lent beside both or neither.
use mathlib.Core.Path.{◌≡◌, refl, sym, ap, ◌∙◌, subst}
use mathlib.Core.List.{List, [], ◌∷◌, ◌++◌, map}
use mathlib.Core.Bool.{Bool, true, false, ◌&&◌, not}
use Prim.Native.Nat.{ℕ, suc, ◌+◌, ◌*◌, ◌<◌}
use lib.Dec.{T, eqb, ltb, leb, ltb→lt}
use lib.ListN.{length}
use Rattle.lists.specs.Lists.{every, gather, count_from, distinct}
use Rattle.lists.proofs.Laws.{and_l, and_r, true_T}
use Rattle.syntax.specs.Limits.{max_columns, max_grants, max_granted}
use Rattle.calls.specs.Validity.{valid_name}
use Rattle.text.specs.Words.{name_of}
use Rattle.masks.specs.Masks.{mask_of, inside}
use Rattle.nodes.specs.Nodes.{nodes_sound}
use Rattle.schema.specs.Schemas.{streams_in, width_in, schema_of}
use Rattle.schema.proofs.Lookups.{length_schema, length_columns}
use Rattle.calls.specs.Names.{columns_named}
use Rattle.grant.specs.declared.Grant.{Grant}
use Rattle.grant.specs.Grants.{grant_words, grant_of, grant_sound, streams_of, column_codes, streams_mask, streams_sound, limits_sound, window_sound, shown_sound, when_sound}
use Rattle.grant.specs.Catalogues.{catalogue_words, words_in, grants_from, catalogue_of, sound_from, catalogue_sound}

module _ (ns ms : List ℕ) (same : schema_of ns ≡ schema_of ms) where
  same_streams : streams_in ns ≡ streams_in ms
  same_streams = sym (length_schema ns) ∙ ap length same ∙ length_schema ms

  same_width : (s : ℕ) → s < streams_in ns → width_in ns s ≡ width_in ms s
  same_width s h = sym (length_columns ns s h) ∙ ap (λ d. length (columns_named d s)) same ∙ length_columns ms s (subst (λ n. s < n) same_streams h)

  same_codes : (ss : List ℕ) → T (every (λ s. ltb s (streams_in ns)) ss) → column_codes ns ss ≡ column_codes ms ss
  unfolding column_codes gather every
  same_codes [] t = refl
  same_codes (s ∷ ss) t =
      let h = ltb→lt s (streams_in ns) (and_l (ltb s (streams_in ns)) _ t) in
      ap (λ w. map (λ c. s * max_columns + c) (count_from 0 w) ++ column_codes ns ss) (same_width s h)
      ∙ ap (λ l. map (λ c. s * max_columns + c) (count_from 0 (width_in ms s)) ++ l) (same_codes ss (and_r (ltb s (streams_in ns)) _ t))

  -- its streams are declared among both or neither; where they are, their columns have one mask
  sound_streams : (g : Grant) → streams_sound ns g ≡ streams_sound ms g
  unfolding streams_sound
  sound_streams g = ap (λ n. leb 1 g.count && leb g.count max_granted && every (λ s. ltb s n) (streams_of g) && distinct eqb (streams_of g)) same_streams

  same_mask : (g : Grant) → T (streams_sound ns g) → streams_mask ns (streams_of g) ≡ streams_mask ms (streams_of g)
  unfolding streams_sound streams_mask
  same_mask g t =
      let d = distinct eqb (streams_of g) in
      let e = every (λ s. ltb s (streams_in ns)) (streams_of g) in
      ap mask_of (same_codes (streams_of g) (and_r (leb 1 g.count && leb g.count max_granted) e (and_l (leb 1 g.count && leb g.count max_granted && e) d t)))

  module _ (g : Grant) (ws : List ℕ) where
    -- the test of a grant by what of it hangs on names
    abbrev tested : Bool → ℕ → Bool
    tested b m =
        valid_name (name_of g.role) && b && (not (eqb g.shown 0) && inside g.shown m) && limits_sound g && window_sound g
        && (leb g.words grant_words && leb g.words (length ws) && nodes_sound m ws g.words)

    tested_is : (l : List ℕ) → grant_sound l g ws ≡ tested (streams_sound l g) (streams_mask l (streams_of g))
    unfolding grant_sound shown_sound when_sound
    tested_is l = refl

    refused_first : (v x y z w : Bool) → (v && false && x && y && z && w) ≡ false
    refused_first true x y z w = refl
    refused_first false x y z w = refl

    same_sound : grant_sound ns g ws ≡ grant_sound ms g ws
    same_sound = tested_is ns ∙ go (streams_sound ns g) refl ∙ ap (λ b. tested b (streams_mask ms (streams_of g))) (sound_streams g) ∙ sym (tested_is ms)
      where
        go : (b : Bool) → streams_sound ns g ≡ b → tested b (streams_mask ns (streams_of g)) ≡ tested b (streams_mask ms (streams_of g))
        go true e = ap (tested true) (same_mask g (true_T (streams_sound ns g) e))
        go false e =
            refused_first (valid_name (name_of g.role)) _ _ _ _ ∙ sym (refused_first (valid_name (name_of g.role)) _ _ _ _)

  sound_rest : (ws : List ℕ) (i : ℕ) (gs : List Grant) → sound_from ns ws i gs ≡ sound_from ms ws i gs
  unfolding sound_from
  sound_rest ws i [] = refl
  sound_rest ws i (g ∷ gs) = ap (λ b. b && sound_from ns ws (suc i) gs) (same_sound g (words_in ws i)) ∙ ap (λ b. grant_sound ms g (words_in ws i) && b) (sound_rest ws (suc i) gs)

  pub sound_both : (gs : List Grant) (ws : List ℕ) → catalogue_sound ns gs ws ≡ catalogue_sound ms gs ws
  unfolding catalogue_sound
  sound_both gs ws = ap (λ b. leb (length gs) max_grants && leb catalogue_words (length ws) && b) (sound_rest ws 0 gs)

  grant_both : (g : Grant) (ws : List ℕ) → grant_of ns g ws ≡ grant_of ms g ws
  unfolding grant_of
  grant_both g ws = rw same refl

  rest_both : (ws : List ℕ) (i : ℕ) (gs : List Grant) → grants_from ns ws i gs ≡ grants_from ms ws i gs
  unfolding grants_from
  rest_both ws i [] = refl
  rest_both ws i (g ∷ gs) = ap (λ x. x ∷ grants_from ns ws (suc i) gs) (grant_both g (words_in ws i)) ∙ ap (λ l. grant_of ms g (words_in ws i) ∷ l) (rest_both ws (suc i) gs)

  pub catalogue_both : (gs : List Grant) (ws : List ℕ) → catalogue_of ns gs ws ≡ catalogue_of ms gs ws
  unfolding catalogue_of
  catalogue_both gs ws = rest_both ws 0 gs
