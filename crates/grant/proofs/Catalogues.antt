-- A catalogue may be lent where it is tidy and stands for a valid one; what it stands for hangs on the words of its grants alone.
use mathlib.Core.Path.{◌≡◌, refl, sym, ap, ap₂, ◌∙◌, subst}
use mathlib.Core.List.{List, [], ◌∷◌, ◌++◌}
use mathlib.Core.Bool.{Bool, true, false, ◌&&◌}
use Prim.Native.Nat.{ℕ, suc, ◌+◌, ◌≤◌, ◌<◌}
use native.Mathlib.Omega.{arith}
use lib.Dec.{T, leb, le→leb}
use lib.ListN.{length, length-append}
use Rattle.lists.specs.Lists.{every}
use Rattle.lists.proofs.Laws.{and_true, and_l, and_r, and_both, and_four}
use Rattle.calls.specs.Validity.{valid_grant, valid_catalogue}
use Rattle.schema.specs.Schemas.{schema_of}
use Rattle.grant.specs.declared.Grant.{Grant}
use Rattle.grant.specs.Grants.{grant_of, grant_sound, grant_tidy}
use Rattle.grant.specs.Catalogues.{words_in, grants_from, catalogue_of, sound_from, catalogue_sound, tidy_from, catalogue_tidy}
use Rattle.grant.proofs.Valid.{sound_is}

-- ---- as many grants as structs

from_length : (ns ws : List ℕ) (i : ℕ) (gs : List Grant) → length (grants_from ns ws i gs) ≡ length gs
unfolding grants_from
from_length ns ws i [] = refl
from_length ns ws i (g ∷ gs) = ap suc (from_length ns ws (suc i) gs)

pub catalogue_length : (ns : List ℕ) (gs : List Grant) (ws : List ℕ) → length (catalogue_of ns gs ws) ≡ length gs
unfolding catalogue_of
catalogue_length ns gs ws = from_length ns ws 0 gs

-- ---- refusal 12

from_is : (ns ws : List ℕ) (i : ℕ) (gs : List Grant) → sound_from ns ws i gs ≡ (tidy_from ns ws i gs && every (valid_grant (schema_of ns)) (grants_from ns ws i gs))
unfolding sound_from tidy_from grants_from every
from_is ns ws i [] = refl
from_is ns ws i (g ∷ gs) =
    ap₂ ◌&&◌ (sound_is ns g (words_in ws i)) (from_is ns ws (suc i) gs)
    ∙ and_four (grant_tidy ns g (words_in ws i)) (valid_grant (schema_of ns) (grant_of ns g (words_in ws i))) (tidy_from ns ws (suc i) gs) (every (valid_grant (schema_of ns)) (grants_from ns ws (suc i) gs))

pub catalogue_is : (ns : List ℕ) (gs : List Grant) (ws : List ℕ) → catalogue_sound ns gs ws ≡ (catalogue_tidy ns gs ws && valid_catalogue (schema_of ns) (catalogue_of ns gs ws))
unfolding catalogue_sound catalogue_tidy valid_catalogue catalogue_of
catalogue_is ns gs ws =
    rw (from_length ns ws 0 gs, from_is ns ws 0 gs) (go (leb (length gs) 24) (leb 2280 (length ws)) (tidy_from ns ws 0 gs) (every (valid_grant (schema_of ns)) (grants_from ns ws 0 gs)))
  where
    go : (a b c d : Bool) → ((a && b) && (c && d)) ≡ ((b && c) && (a && d))
    go true b c d = assoc b c d
      where
        assoc : (b c d : Bool) → (b && (c && d)) ≡ ((b && c) && d)
        assoc true c d = refl
        assoc false c d = refl
    go false true true d = refl
    go false true false d = refl
    go false false c d = refl

pub catalogue_valid : (ns : List ℕ) (gs : List Grant) (ws : List ℕ) → T (catalogue_sound ns gs ws) → T (valid_catalogue (schema_of ns) (catalogue_of ns gs ws))
catalogue_valid ns gs ws t = and_r (catalogue_tidy ns gs ws) _ (subst T (catalogue_is ns gs ws) t)

-- ---- words that leave the grants as they were, and one grant more

module _ (ns ws ws' : List ℕ) where
  from_same : (i : ℕ) (gs : List Grant) → ((j : ℕ) → i ≤ j → j < i + length gs → words_in ws' j ≡ words_in ws j) → grants_from ns ws' i gs ≡ grants_from ns ws i gs
  unfolding grants_from
  from_same i [] f = refl
  from_same i (g ∷ gs) f = ap₂ ◌∷◌ (ap (grant_of ns g) (f i (omega arith) (omega arith))) (from_same (suc i) gs (λ j h k. f j (omega arith) (omega arith)))

  sound_same : (i : ℕ) (gs : List Grant) → ((j : ℕ) → i ≤ j → j < i + length gs → words_in ws' j ≡ words_in ws j) → sound_from ns ws' i gs ≡ sound_from ns ws i gs
  unfolding sound_from
  sound_same i [] f = refl
  sound_same i (g ∷ gs) f = ap₂ ◌&&◌ (ap (grant_sound ns g) (f i (omega arith) (omega arith))) (sound_same (suc i) gs (λ j h k. f j (omega arith) (omega arith)))

from_add : (ns ws : List ℕ) (i : ℕ) (gs : List Grant) (g : Grant) → grants_from ns ws i (gs ++ (g ∷ [])) ≡ grants_from ns ws i gs ++ (grant_of ns g (words_in ws (i + length gs)) ∷ [])
unfolding grants_from
from_add ns ws i [] g = let e : i + 0 ≡ i = omega arith in ap (λ j. grant_of ns g (words_in ws j) ∷ []) (sym e)
from_add ns ws i (h ∷ gs) g =
    let e : suc i + length gs ≡ i + suc (length gs) = omega arith in
    ap (λ l. grant_of ns h (words_in ws i) ∷ l) (from_add ns ws (suc i) gs g ∙ ap (λ j. grants_from ns ws (suc i) gs ++ (grant_of ns g (words_in ws j) ∷ [])) e)

sound_add : (ns ws : List ℕ) (i : ℕ) (gs : List Grant) (g : Grant) → sound_from ns ws i (gs ++ (g ∷ [])) ≡ (sound_from ns ws i gs && grant_sound ns g (words_in ws (i + length gs)))
unfolding sound_from
sound_add ns ws i [] g = let e : i + 0 ≡ i = omega arith in and_true (grant_sound ns g (words_in ws i)) ∙ ap (λ j. grant_sound ns g (words_in ws j)) (sym e)
sound_add ns ws i (h ∷ gs) g =
    let e : suc i + length gs ≡ i + suc (length gs) = omega arith in
    ap (λ b. grant_sound ns h (words_in ws i) && b) (sound_add ns ws (suc i) gs g ∙ ap (λ j. sound_from ns ws (suc i) gs && grant_sound ns g (words_in ws j)) e)
    ∙ assoc (grant_sound ns h (words_in ws i)) (sound_from ns ws (suc i) gs) (grant_sound ns g (words_in ws (i + suc (length gs))))
  where
    assoc : (a b c : Bool) → (a && (b && c)) ≡ ((a && b) && c)
    assoc true b c = refl
    assoc false b c = refl

-- the next grant, whose words stand in the next place, with the words of all others as they were
module _ (ns : List ℕ) (gs : List Grant) (g : Grant) (ws ws' : List ℕ) (same : (j : ℕ) → j < length gs → words_in ws' j ≡ words_in ws j) where
  zero_add : 0 + length gs ≡ length gs
  zero_add = omega arith

  pub catalogue_add : catalogue_of ns (gs ++ (g ∷ [])) ws' ≡ catalogue_of ns gs ws ++ (grant_of ns g (words_in ws' (length gs)) ∷ [])
  unfolding catalogue_of
  catalogue_add =
      from_add ns ws' 0 gs g ∙ ap₂ (λ l j. l ++ (grant_of ns g (words_in ws' j) ∷ [])) (from_same ns ws ws' 0 gs (λ j h k. same j (omega arith))) zero_add

  pub catalogue_sound_add : length ws' ≡ length ws → length gs < 24 → T (catalogue_sound ns gs ws) → T (grant_sound ns g (words_in ws' (length gs))) → T (catalogue_sound ns (gs ++ (g ∷ [])) ws')
  unfolding catalogue_sound
  catalogue_sound_add l few t u =
      let a : T (leb (length gs) 24 && leb 2280 (length ws)) = and_l (leb (length gs) 24 && leb 2280 (length ws)) (sound_from ns ws 0 gs) t in
      let b : T (leb 2280 (length ws)) = and_r (leb (length gs) 24) (leb 2280 (length ws)) a in
      let c = and_r (leb (length gs) 24 && leb 2280 (length ws)) (sound_from ns ws 0 gs) t in
      let m = length-append gs (g ∷ []) in
      and_both (leb (length (gs ++ (g ∷ []))) 24 && leb 2280 (length ws')) (sound_from ns ws' 0 (gs ++ (g ∷ [])))
      (and_both (leb (length (gs ++ (g ∷ []))) 24) (leb 2280 (length ws')) (le→leb (length (gs ++ (g ∷ []))) 24 (omega arith)) (rw l b))
      (subst T (sym (sound_add ns ws' 0 gs g))
      (and_both (sound_from ns ws' 0 gs) (grant_sound ns g (words_in ws' (0 + length gs))) (subst T (sym (sound_same ns ws ws' 0 gs (λ j h k. same j (omega arith)))) c) (rw zero_add u)))
