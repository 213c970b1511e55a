-- The five aggregates, and windows.
use Rattle.std.specs.Prelude.{List, [], ◌∷◌, map, Bool, ◌&&◌, cond, ℕ, suc, ◌+◌, ◌*◌, ◌/◌, ℤ, pos, negsuc, ◌+ℤ◌, neg_ℤ, leb, ltb, length}
use Rattle.std.specs.Int.Signed.{le_z}
use Rattle.lists.specs.Lists.{select, gather, count_from, lists_compute}
use Rattle.syntax.specs.Grammar.{Fn, min, max, count, avg, sum}
use Rattle.model.specs.Queries.{Row}

-- ---- figures

unfoldable pub least : ℤ → ℤ → ℤ
least a b = cond (le_z a b) a b

unfoldable pub greatest : ℤ → ℤ → ℤ
greatest a b = cond (le_z a b) b a

unfoldable pub fold : (ℤ → ℤ → ℤ) → ℤ → List ℤ → ℤ
fold f a [] = a
fold f a (v ∷ vs) = fold f (f a v) vs

unfoldable pub total : List ℤ → ℤ
total [] = pos 0
total (v ∷ vs) = v +ℤ total vs

-- a sum divided by a count, cut towards zero
unfoldable pub average : ℤ → ℕ → ℤ
average (pos n) d = pos (n / d)
average (negsuc n) d = neg_ℤ (pos (suc n / d))

-- the figure of the values v ∷ vs
unfoldable pub figure_of : Fn → ℤ → List ℤ → ℤ
figure_of min v vs = fold least v vs
figure_of max v vs = fold greatest v vs
figure_of count v vs = pos (length (v ∷ vs))
figure_of avg v vs = average (total (v ∷ vs)) (length (v ∷ vs))
figure_of sum v vs = total (v ∷ vs)

-- ---- windows

-- window k covers the times from k × offset up to, not including, k × offset + size
unfoldable pub in_window : ℕ → ℕ → ℕ → Row → Bool
in_window size offset k r = leb (k * offset) r.at && ltb r.at (k * offset + size)

-- the windows that have ended by the clock; none above clock / offset has even begun
unfoldable pub closed : ℕ → ℕ → ℕ → List ℕ
closed clock size offset = select (λ k. leb (k * offset + size) clock) (count_from 0 (suc (clock / offset)))

-- the answer row of a window that ends at a time and holds the values: none for no value
unfoldable pub answer_row : Fn → ℕ → List ℤ → List Row
answer_row f end [] = []
answer_row f end (v ∷ vs) = record { at = end; values = figure_of f v vs ∷ [] } ∷ []

unfoldable pub window : Fn → (Row → ℤ) → ℕ → ℕ → List Row → ℕ → List Row
window f value size offset rs k = answer_row f (k * offset + size) (map value (select (in_window size offset k) rs))

-- the answer rows of the closed windows, in order
unfoldable pub figures_of : ℕ → Fn → (Row → ℤ) → ℕ → ℕ → List Row → List Row
figures_of clock f value size offset rs = gather (window f value size offset rs) (closed clock size offset)

-- To unfold this is to unfold every definition above.
unfoldable pub aggregates_compute : Unit {0}
unfolding lists_compute least greatest fold total average figure_of in_window closed answer_row window figures_of
aggregates_compute = tt
