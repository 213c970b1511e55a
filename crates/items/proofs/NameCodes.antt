-- Names that are not too long and their numbers, and the first items of a list.
use mathlib.Core.Path.{◌≡◌, refl, sym, ap, ap₂, ◌∙◌}
use mathlib.Core.List.{List, [], ◌∷◌, map}
use mathlib.Core.Bool.{◌&&◌, ◌||◌, not}
use Prim.Native.Nat.{ℕ, zero, suc, ◌+◌, ◌≤◌}
use native.Mathlib.Omega.{arith}
use lib.Dec.{T, eqb}
use lib.ListN.{length, take, get_or}
use Rattle.lists.specs.Lists.{All, all_nil, all_cons, some?, distinct, count_from, same_list}
use Rattle.lists.proofs.Laws.{T_true}
use Rattle.syntax.specs.Grammar.{Bytes, name?}
use Rattle.syntax.specs.Limits.{short}
use Rattle.text.specs.Words.{code_of, name_of}
use Rattle.text.proofs.Codes.{name_back, names_same}
use Rattle.items.specs.Items.{code_short, first_of}

-- a name that is not too long
abbrev pub Named : Bytes → Type 0
Named w = T (name? w) × T (short w)

pub code_named : (w : Bytes) → Named w → code_short w ≡ code_of w
unfolding code_short
code_named w g = rw (T_true (short w) g.1)

some_codes : (w : Bytes) → Named w → {cs : List Bytes} → All Named cs → some? (eqb (code_of w)) (map code_of cs) ≡ some? (same_list w) cs
unfolding some?
some_codes w g all_nil = refl
some_codes w g (all_cons {x} {xs} h hs) = ap₂ ◌||◌ (sym (names_same w x g.0 g.1 h.0 h.1)) (some_codes w g hs)

pub distinct_codes : {cs : List Bytes} → All Named cs → distinct eqb (map code_of cs) ≡ distinct same_list cs
unfolding distinct
distinct_codes all_nil = refl
distinct_codes (all_cons {x} {xs} h hs) = ap₂ (λ a b. not a && b) (some_codes x h hs) (distinct_codes hs)

pub names_back : {cs : List Bytes} → All Named cs → map name_of (map code_of cs) ≡ cs
names_back all_nil = refl
names_back (all_cons {x} {xs} h hs) = ap₂ ◌∷◌ (name_back x h.0 h.1) (names_back hs)

-- ---- the first of a list are all where there are no more

taken : {A : Type 0} (f : A) (xs ys : List A) (a n : ℕ) → length ys ≤ n → ((i : ℕ) → get_or xs (a + i) f ≡ get_or ys i f) → take (length ys) (map (λ i. get_or xs i f) (count_from a n)) ≡ ys
unfolding count_from
taken f xs [] a n h g = refl
taken f xs (y ∷ ys) a zero h g = absurd (omega arith)
taken f xs (y ∷ ys) a (suc n) h g =
    let z : a + 0 ≡ a = omega arith in
    let k : length ys ≤ n = omega arith in
    ap₂ ◌∷◌ (ap (λ i. get_or xs i f) (sym z) ∙ g 0)
    (taken f xs ys (suc a) n k (λ i. let e : suc a + i ≡ a + suc i = omega arith in ap (λ j. get_or xs j f) e ∙ g (suc i)))

pub first_taken : {A : Type 0} (n : ℕ) (f : A) (xs : List A) → length xs ≤ n → take (length xs) (first_of n f xs) ≡ xs
unfolding first_of
first_taken n f xs h = taken f xs xs 0 n h (λ i. let e : 0 + i ≡ i = omega arith in ap (λ j. get_or xs j f) e)
