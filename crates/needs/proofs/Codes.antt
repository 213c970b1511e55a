-- Columns and aggregates by the numbers of forms.
use mathlib.Core.Path.{◌≡◌, refl, sym, ap₂, ◌∙◌}
use mathlib.Core.List.{List, [], ◌∷◌, map}
use mathlib.Core.Bool.{◌&&◌, ◌||◌, cond, and-or_distrib_right}
use Prim.Native.Nat.{ℕ, ◌+◌, ◌*◌, ◌-◌, ◌/◌, ◌%◌, ◌^◌, ◌<◌}
use native.Mathlib.Nat.{mod-eq_of_lt}
use native.Mathlib.Decide.{dec_lt, ℕ_discrete}
use native.Mathlib.Omega.{arith}
use lib.Pow.{pow-lt}
use lib.Bits.{bit_and, and_mask}
use lib.Dec.{ltb, eqb, lit<}
use borrow.Author.Tests.{eq-eqb, ne_eqb, lt-ltb, le-ltb}
use Rattle.lists.specs.Lists.{some?, gather}
use Rattle.lists.proofs.Gathers.{some_append}
use Rattle.model.specs.Queries.{col, figure}
use Rattle.masks.specs.Masks.{bit?, mask_of}
use Rattle.masks.proofs.Bits.{bit_and_lem, bit_past}
use Rattle.masks.proofs.Lists.{bits_same, bit_mask, inside_alone}
use Rattle.orders.specs.Orders.{codes_in}
use Rattle.query.specs.Forms.{coded_col, cols_in}
use Rattle.comparisons.specs.Compared.{col_codes, column_code}
use Rattle.needs.specs.Asking.{all_columns, bits_of, col_code}

-- ---- one column

pub code_of_col : (c : ℕ) → col_code (coded_col c) ≡ column_code c
unfolding col_code coded_col column_code
code_of_col c = go (dec_lt c 24)
  where
    go : Dec (c < 24) → col_code (cond (ltb c 24) (col (c / 6) (c % 6)) figure) ≡ cond (ltb c 24) c 25
    go (yes h) = let e : c / 6 * 6 + c % 6 ≡ c = omega arith in rw (lt-ltb c 24 h) e
    go (no h) = rw (le-ltb c 24 (omega arith))

pub codes_of_col : (c : ℕ) → col_codes (coded_col c) ≡ cond (ltb c 24) (c ∷ []) []
unfolding col_codes coded_col
codes_of_col c = go (dec_lt c 24)
  where
    go : Dec (c < 24) → col_codes (cond (ltb c 24) (col (c / 6) (c % 6)) figure) ≡ cond (ltb c 24) (c ∷ []) []
    go (yes h) = let e : c / 6 * 6 + c % 6 ≡ c = omega arith in rw (lt-ltb c 24 h, e, lt-ltb c 24 h)
    go (no h) = rw (le-ltb c 24 (omega arith))

-- ---- all columns

-- the bits of all columns are those below 24
pub bit_all : (i : ℕ) → bit? all_columns i ≡ ltb i 24
bit_all i = go (dec_lt i 24)
  where
    go : Dec (i < 24) → bit? all_columns i ≡ ltb i 24
    go (yes h) =
        let e : bit_and (2 ^ i) (2 ^ 24 - 1) ≡ 2 ^ i = and_mask (2 ^ i) 24 ∙ mod-eq_of_lt (pow-lt h) in
        sym (inside_alone i all_columns) ∙ eq-eqb (bit_and (2 ^ i) all_columns) (2 ^ i) e ∙ sym (lt-ltb i 24 h)
    go (no h) = bit_past all_columns i 24 (lit< tt) (omega arith) ∙ sym (le-ltb i 24 (omega arith))

-- ---- those of an order

low_codes : (cs : List ℕ) (i : ℕ) → (some? (λ j. eqb j i) cs && ltb i 24) ≡ some? (λ j. eqb j i) (gather col_codes (map coded_col cs))
unfolding some? gather
low_codes [] i = refl
low_codes (c ∷ cs) i =
    and-or_distrib_right (eqb c i) (some? (λ j. eqb j i) cs) (ltb i 24)
    ∙ ap₂ ◌||◌ (one (dec_lt c 24) (ℕ_discrete c i)) (low_codes cs i)
    ∙ sym (some_append (λ j. eqb j i) (col_codes (coded_col c)) (gather col_codes (map coded_col cs)))
  where
    one : Dec (c < 24) → Dec (c ≡ i) → (eqb c i && ltb i 24) ≡ some? (λ j. eqb j i) (col_codes (coded_col c))
    one (yes h) (yes e) = rw (codes_of_col c, lt-ltb c 24 h, eq-eqb c i e, lt-ltb i 24 (omega arith))
    one (yes h) (no e) = rw (codes_of_col c, lt-ltb c 24 h, ne_eqb c i e)
    one (no h) (yes e) = rw (codes_of_col c, le-ltb c 24 (omega arith), eq-eqb c i e, le-ltb i 24 (omega arith))
    one (no h) (no e) = rw (codes_of_col c, le-ltb c 24 (omega arith), ne_eqb c i e)

pub order_columns : (m : ℕ) → bit_and (mask_of (codes_in m)) all_columns ≡ bits_of (cols_in m)
unfolding bits_of cols_in
order_columns m =
    bits_same (bit_and (mask_of (codes_in m)) all_columns) (mask_of (gather col_codes (map coded_col (codes_in m))))
    (λ i. bit_and_lem (mask_of (codes_in m)) all_columns i ∙ ap₂ ◌&&◌ (bit_mask (codes_in m) i) (bit_all i) ∙ low_codes (codes_in m) i ∙ sym (bit_mask (gather col_codes (map coded_col (codes_in m))) i))
