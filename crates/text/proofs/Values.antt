-- Values of 32 bits.
use mathlib.Core.List.{List, [], ◌∷◌}
use Prim.Native.Nat.{ℕ, zero, suc, ◌<◌}
use native.Mathlib.Omega.{arith}
use lib.IntN.{ℤ, pos, negsuc}
use lib.Dec.{T, leb→le, le→leb}
use lib.ListN.{length, get_or}
use mir.Syntax.{w32}
use mir.Val.{SFits}
use Rattle.lists.specs.Lists.{every}
use Rattle.lists.proofs.Laws.{and_l, and_r, and_both}
use Rattle.syntax.specs.Limits.{is_value}

pub fits_value : (z : ℤ) → SFits w32 z → T (is_value z)
unfolding is_value
fits_value (pos n) h = le→leb n 2147483647 (let k = h.sfits in omega arith)
fits_value (negsuc n) h = le→leb n 2147483647 (let k = h.sfits in omega arith)

pub value_fits : (z : ℤ) → T (is_value z) → SFits w32 z
unfolding is_value
value_fits (pos n) t = let h = leb→le n 2147483647 t in record { sfits = omega arith }
value_fits (negsuc n) t = let h = leb→le n 2147483647 t in record { sfits = omega arith }

pub every_below : (vs : List ℤ) → ((k : ℕ) → k < length vs → T (is_value (get_or vs k (pos 0)))) → T (every is_value vs)
unfolding every
every_below [] h = tt
every_below (v ∷ vs) h = and_both (is_value v) (every is_value vs) (h 0 (omega arith)) (every_below vs (λ k l. h (suc k) (omega arith)))

pub value_at : (vs : List ℤ) (i : ℕ) → T (every is_value vs) → T (is_value (get_or vs i (pos 0)))
unfolding every is_value
value_at [] i t = tt
value_at (v ∷ vs) zero t = and_l (is_value v) (every is_value vs) t
value_at (v ∷ vs) (suc i) t = value_at vs i (and_r (is_value v) (every is_value vs) t)
