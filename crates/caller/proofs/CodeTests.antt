-- Names as numbers: which stand twice, and which may be a caller's.
use mathlib.Core.Path.{◌≡◌, sym, ◌∙◌, subst}
use mathlib.Core.List.{List, [], ◌∷◌, map}
use mathlib.Core.Bool.{Bool, true, false}
use Prim.Native.Nat.{ℕ, ◌<◌, min}
use native.Mathlib.Omega.{arith}
use lib.Dec.{eqb, eqb→eq}
use lib.ListN.{length, take, drop, get_or, take-append-drop}
use lib.Seq.{take_all}
use Rattle.lists.specs.Lists.{All, all_nil, all_cons, every, distinct, same_list, count_from}
use Rattle.lists.proofs.Laws.{all_left, distinct_map, distinct_unmap, same_list_refl, same_truth}
use Rattle.text.specs.Words.{name_of}
use Rattle.schema.specs.Schemas.{code_end}
use Rattle.schema.proofs.FreeNames.{name_one}
use Rattle.items.specs.Items.{once}
use Rattle.items.proofs.Sameness.{once_is}
use Rattle.caller.specs.Callers.{code_valid, names_of, names_sound}
use Rattle.caller.proofs.Slots.{the_first}

-- ---- none twice

abbrev Below : ℕ → Type 0
Below n = n < code_end

-- none of the names where none of the numbers
distinct_names : {xs : List ℕ} → All Below xs → distinct eqb xs ≡ distinct same_list (map name_of xs)
distinct_names {xs} h =
    same_truth (distinct eqb xs) (distinct same_list (map name_of xs))
    (distinct_map name_of eqb same_list (λ x y p q t. rw (name_one x y p q) at t) h)
    (distinct_unmap name_of eqb same_list (λ x y t. rw (eqb→eq x y t) (same_list_refl (name_of y))) xs)

all_take : {P : ℕ → Type 0} (n : ℕ) (xs : List ℕ) → All P xs → All P (take n xs)
all_take {P} n xs h = all_left (take n xs) (drop n xs) (subst (λ l. All P l) (sym (take-append-drop n xs)) h)

four_of : (xs : List ℕ) → length xs ≡ 4 → get_or xs 0 0 ∷ get_or xs 1 0 ∷ get_or xs 2 0 ∷ get_or xs 3 0 ∷ [] ≡ xs
unfolding count_from
four_of xs l = the_first 0 xs 4 (omega arith) ∙ take_all 4 xs (omega arith)

module _ (xs : List ℕ) (l : length xs ≡ 4) (ha : Below (get_or xs 0 0)) (hb : Below (get_or xs 1 0)) (hc : Below (get_or xs 2 0)) (hd : Below (get_or xs 3 0)) where
  below : All Below xs
  below = subst (λ l. All Below l) (four_of xs l) (all_cons ha (all_cons hb (all_cons hc (all_cons hd all_nil))))

  pub twice : (n : ℕ) {r : Bool} {m : ℕ} → m ≡ min n 4 → r ≡ distinct eqb (take m xs) → (r ≡ once xs n) × (r ≡ distinct same_list (names_of xs n))
  unfolding once names_of
  twice n {r} {m} e f =
      let g : r ≡ distinct eqb (take n xs) = once_is xs n l e f in
      (g, g ∙ distinct_names (all_take n xs below))

-- ---- both

module _ (xs : List ℕ) (n : ℕ) {x : Bool} (e : x ≡ every code_valid (take n xs)) where
  pub sound_unnamed : x ≡ false → false ≡ names_sound xs n
  unfolding names_sound
  sound_unnamed h = rw (sym e ∙ h)

  pub sound_named : {y : Bool} → x ≡ true → y ≡ distinct same_list (names_of xs n) → y ≡ names_sound xs n
  unfolding names_sound
  sound_named h f = f ∙ rw (sym e ∙ h)

pub ruleset names_sounds = (sound_unnamed, sound_named)
