-- What is written in the end, in plain terms: counted over no bytes, and then written where there is room.
use mathlib.Core.Path.{◌≡◌, refl, sym, ap, ◌∙◌}
use mathlib.Core.List.{[], ◌∷◌, ◌++◌}
use Prim.Native.Nat.{ℕ, suc, ◌+◌, ◌<◌, ◌≤◌, min}
use native.Mathlib.Omega.{arith}
use lib.ListN.{length, set, take, drop}
use lib.Seq.{sets, sets-eq}
use Rattle.syntax.specs.Grammar.{Bytes}
use Rattle.print.specs.Writing.{furthest, next, over, after, Put}

-- the place after a text is as far on as the text is long
pub after_is : (p : ℕ) (t : Bytes) → p ≤ furthest → after p t ≡ min (p + length t) furthest
unfolding after next
after_is p [] h = omega arith
after_is p (b ∷ bs) h = let i : after (min (suc p) furthest) bs ≡ min (min (suc p) furthest + length bs) furthest = after_is (min (suc p) furthest) bs (omega arith) in omega arith

pub over_sets : (m : Bytes) (p : ℕ) (t : Bytes) → p + length t ≤ furthest → over m p t ≡ sets m p t
unfolding over next
over_sets m p [] h = refl
over_sets m p (b ∷ bs) h = let e : min (suc p) furthest ≡ suc p = omega arith in ap (λ (q : ℕ). over (set m p b) q bs) e ∙ over_sets (set m p b) (suc p) bs (omega arith)

-- where there is room, the text stands at its place and all else is as it was
pub over_is : (m : Bytes) (p : ℕ) (t : Bytes) → p + length t ≤ length m → p + length t ≤ furthest → over m p t ≡ take p m ++ t ++ drop (p + length t) m
over_is m p t h k = over_sets m p t k ∙ sets-eq t m p h

pub over_start : (m t : Bytes) → length t ≤ length m → length t ≤ furthest → over m 0 t ≡ t ++ drop (length t) m
over_start m t h k = let e : 0 + length t ≡ length t = omega arith in over_is m 0 t (omega arith) (omega arith) ∙ ap (λ (i : ℕ). t ++ drop i m) e

-- ---- a text written from the first place on

module _ {t : Bytes → Bytes} {m m' : Bytes} {n : ℕ} (x : Put t m 0 m' n) where
  -- the place after is its length, up to the furthest
  pub counted : n ≡ min (length (t [])) furthest
  unfolding after
  counted =
      let a : after 0 (t []) ≡ n = x.place [] in
      let b : after 0 (t []) ≡ min (0 + length (t [])) furthest = after_is 0 (t []) (omega arith) in
      omega arith

  pub counted_below : n < furthest → n ≡ length (t [])
  counted_below h = omega (arith, counted)

  -- and where there is room, the bytes are the text, and after it those that were there
  pub written : n < furthest → n ≤ length m → m' ≡ t [] ++ drop (length (t [])) m
  unfolding over
  written h k = sym (x.bytes []) ∙ over_start m (t []) (omega (arith, counted)) (omega (arith, counted))
