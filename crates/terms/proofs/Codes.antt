-- The code of a term, as it is found among the names.
use mathlib.Core.Path.{◌≡◌, sym, ap₂, ◌∙◌}
use mathlib.Core.List.{List}
use mathlib.Core.Bool.{Bool, true, false, cond}
use Prim.Native.Nat.{ℕ, zero, suc, ◌+◌, ◌*◌, ◌-◌, ◌≤◌, ◌<◌}
use native.Mathlib.Omega.{arith}
use lib.Dec.{eqb}
use lib.ListN.{get_or}
use borrow.Author.Tests.{eq-eqb, ne_eqb, lt-ltb, le-ltb}
use Rattle.text.specs.Words.{code_from, code_of}
use Rattle.terms.specs.Terms.{found, stream_found, place_in, code_in}

-- ---- a profile entry's name

pub entry_taken : (c m : ℕ) → c ≡ 27 → m ≡ cond (eqb c 27) m 0
entry_taken c m e = rw (eq-eqb c 27 e)

pub entry_other : (c m : ℕ) → (c ≡ 27 → ⊥) → 0 ≡ cond (eqb c 27) m 0
entry_other c m f = rw (ne_eqb c 27 f)

pub ruleset entry_ends = (entry_taken, entry_other)

-- ---- the first of some numbers

pub found_most : (ns : List ℕ) (at n x : ℕ) → found ns at n x ≤ n
unfolding found
found_most ns at zero x = omega arith
found_most ns at (suc n) x = go (eqb (get_or ns at 0) x) (found_most ns (suc at) n x)
  where
    go : (b : Bool) → found ns (suc at) n x ≤ n → cond b 0 (suc (found ns (suc at) n x)) ≤ suc n
    go true h = omega arith
    go false h = omega arith

pub found_few : (ns : List ℕ) (at n x : ℕ) {y : ℕ} → y ≡ found ns at n x → y ≤ n
found_few ns at n x e = let h = found_most ns at n x in omega arith

pub found_start : (ns : List ℕ) (at n x : ℕ) → found ns at n x ≡ 0 + found ns (at + 0) (n - 0) x
found_start ns at n x =
    let a : at + 0 ≡ at = omega arith in
    let b : n - 0 ≡ n = omega arith in
    let e : found ns (at + 0) (n - 0) x ≡ found ns at n x = ap₂ (λ i k. found ns i k x) a b in
    omega arith

module _ (ns : List ℕ) (at n x i : ℕ) where
  found_left : i < n → found ns (at + i) (n - i) x ≡ cond (eqb (get_or ns (at + i) 0) x) 0 (suc (found ns (at + (i + 1)) (n - (i + 1)) x))
  unfolding found
  found_left h =
      let e : n - i ≡ suc (n - (i + 1)) = omega arith in
      let d : suc (at + i) ≡ at + (i + 1) = omega arith in
      rw (e, d)

  module _ (inv : found ns at n x ≡ i + found ns (at + i) (n - i) x) where
    pub found_here : {y : ℕ} → i < n → y ≡ get_or ns (at + i) 0 → y ≡ x → i ≡ found ns at n x
    found_here h e z =
        let f : found ns (at + i) (n - i) x ≡ 0 = found_left h ∙ rw (eq-eqb (get_or ns (at + i) 0) x (sym e ∙ z)) in
        omega arith

    pub found_on : {y : ℕ} → i < n → y ≡ get_or ns (at + i) 0 → (y ≡ x → ⊥) → found ns at n x ≡ i + 1 + found ns (at + (i + 1)) (n - (i + 1)) x
    found_on h e z =
        let f : found ns (at + i) (n - i) x ≡ suc (found ns (at + (i + 1)) (n - (i + 1)) x) = found_left h ∙ rw (ne_eqb (get_or ns (at + i) 0) x (λ d. z (e ∙ d))) in
        omega arith

    pub found_end : i ≤ n → n ≤ i → n ≡ found ns at n x
    unfolding found
    found_end h k =
        let e : n - i ≡ 0 = omega arith in
        let f : found ns (at + i) (n - i) x ≡ 0 = rw e in
        omega arith

pub ruleset found_ends = (found_start, found_here, found_on, found_end)

pub stream_there : (ns : List ℕ) (n : ℕ) {s : ℕ} → s ≡ found ns 0 4 n → s ≡ stream_found ns n
unfolding stream_found
stream_there ns n e = e

pub stream_most : (ns : List ℕ) (n : ℕ) → stream_found ns n ≤ 4
unfolding stream_found
stream_most ns n = found_most ns 0 4 n

-- ---- the place of a column

module _ (ns : List ℕ) (n m : ℕ) {s : ℕ} (e : s ≡ found ns 0 4 n) where
  pub place_streamless : 4 ≤ s → 28 ≡ place_in ns n m
  unfolding place_in
  place_streamless h = rw (sym e, le-ltb s 4 h)

  module _ (h : s < 4) {c : ℕ} (d : c ≡ found ns (4 + s * 6) 6 m) where
    pub place_columnless : 6 ≤ c → 28 ≡ place_in ns n m
    unfolding place_in
    place_columnless k = rw (sym e, lt-ltb s 4 h, sym d, le-ltb c 6 k)

    pub place_there : c < 6 → s * 6 + c ≡ place_in ns n m
    unfolding place_in
    place_there k = rw (sym e, lt-ltb s 4 h, sym d, lt-ltb c 6 k)

pub ruleset place_ends = (place_streamless, place_columnless, place_there)

-- ---- the code

module _ (ns : List ℕ) (n m : ℕ) where
  module _ (z : m ≡ 0) where
    pub code_time : n ≡ 0x74696d65 → 24 ≡ code_in ns n m
    unfolding code_in code_of code_from
    code_time e = rw (z, eq-eqb n 0x74696d65 e)

    pub code_figure : (n ≡ 0x74696d65 → ⊥) → 25 ≡ code_in ns n m
    unfolding code_in code_of code_from
    code_figure f = rw (z, ne_eqb n 0x74696d65 f)

  module _ (z : m ≡ 0 → ⊥) where
    pub code_own : n ≡ 0x73656c66 → 27 ≡ code_in ns n m
    unfolding code_in code_of code_from
    code_own e = rw (ne_eqb m 0 z, eq-eqb n 0x73656c66 e)

    pub code_listed : {r : ℕ} → (n ≡ 0x73656c66 → ⊥) → r ≡ place_in ns n m → r ≡ code_in ns n m
    unfolding code_in code_of code_from
    code_listed f e = rw (ne_eqb m 0 z, ne_eqb n 0x73656c66 f) e

pub ruleset code_ends = (code_time, code_figure, code_own, code_listed)
