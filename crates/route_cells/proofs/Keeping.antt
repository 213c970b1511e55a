-- Rows kept by places: read, stored, and left in the other places.
use mathlib.Core.Path.{◌≡◌, refl, sym, ap, ◌∙◌}
use mathlib.Core.List.{List, [], ◌∷◌}
use mathlib.Core.Bool.{Bool, true}
use Prim.Native.Nat.{ℕ, suc, ◌+◌, ◌*◌, ◌≤◌, ◌<◌}
use native.Mathlib.Decide.{dec_lt}
use native.Mathlib.Omega.{arith}
use lib.ListN.{length, length-set, get_or, set}
use lib.Seq.{sets, length-sets, get_or-set_same, get_or-set_other}
use Rattle.rows.specs.declared.Rows.{Rows}
use Rattle.route_cells.specs.Kept.{kept_at, words_in, Keepable, Keeping}

-- ---- what stands at a place after others were set

set_before : (l : List ℕ) (k : ℕ) (vs : List ℕ) (j : ℕ) → j < k → get_or (sets l k vs) j 0 ≡ get_or l j 0
set_before l k [] j h = refl
set_before l k (v ∷ vs) j h = set_before (set l k v) (suc k) vs j (omega arith) ∙ get_or-set_other l k j v 0 (λ e. omega arith)

set_beyond : (l : List ℕ) (k : ℕ) (vs : List ℕ) (j : ℕ) → k + length vs ≤ j → get_or (sets l k vs) j 0 ≡ get_or l j 0
set_beyond l k [] j h = refl
set_beyond l k (v ∷ vs) j h = set_beyond (set l k v) (suc k) vs j (omega arith) ∙ get_or-set_other l k j v 0 (λ e. omega arith)

set_first : (l : List ℕ) (k v : ℕ) (vs : List ℕ) → k < length l → get_or (sets l k (v ∷ vs)) k 0 ≡ v
set_first l k v vs h = set_before (set l k v) (suc k) vs k (omega arith) ∙ get_or-set_same l k v 0 h

-- ---- four words of a place

pub kept_is : (ks : List ℕ) (i : ℕ) → record { a = get_or ks (i * 4) 0; b = get_or ks (i * 4 + 1) 0; c = get_or ks (i * 4 + 2) 0; d = get_or ks (i * 4 + 3) 0 } ≡ kept_at ks i
unfolding kept_at
kept_is ks i = refl

module _ (ks : List ℕ) (i : ℕ) (m : Rows) where
  abbrev k : ℕ
  k = i * 4

  abbrev all : List ℕ
  all = m.a ∷ (m.b ∷ (m.c ∷ (m.d ∷ [])))

  second : k + 1 ≡ suc k
  second = omega arith

  third : k + 2 ≡ suc (suc k)
  third = omega arith

  fourth : k + 3 ≡ suc (suc (suc k))
  fourth = omega arith

  pub kept_words : set (set (set (set ks (i * 4) m.a) (i * 4 + 1) m.b) (i * 4 + 2) m.c) (i * 4 + 3) m.d ≡ sets ks (i * 4) (words_in m)
  unfolding words_in
  kept_words = rw (second, third, fourth) refl

  module _ (h : i < 16) (l : 64 ≤ length ks) where
    one_long : length (set ks k m.a) ≡ length ks
    one_long = length-set ks k m.a

    two_long : length (set (set ks k m.a) (suc k) m.b) ≡ length ks
    two_long = length-set (set ks k m.a) (suc k) m.b ∙ one_long

    three_long : length (set (set (set ks k m.a) (suc k) m.b) (suc (suc k)) m.c) ≡ length ks
    three_long = length-set (set (set ks k m.a) (suc k) m.b) (suc (suc k)) m.c ∙ two_long

    pub there_second : i * 4 + 1 < length (set ks (i * 4) m.a)
    there_second = let a = one_long in omega arith

    pub there_third : i * 4 + 2 < length (set (set ks (i * 4) m.a) (i * 4 + 1) m.b)
    there_third = let a : length (set (set ks k m.a) (k + 1) m.b) ≡ length ks = length-set (set ks k m.a) (k + 1) m.b ∙ one_long in omega arith

    pub there_fourth : i * 4 + 3 < length (set (set (set ks (i * 4) m.a) (i * 4 + 1) m.b) (i * 4 + 2) m.c)
    there_fourth =
        let a : length (set (set (set ks k m.a) (k + 1) m.b) (k + 2) m.c) ≡ length ks = length-set (set (set ks k m.a) (k + 1) m.b) (k + 2) m.c ∙ length-set (set ks k m.a) (k + 1) m.b ∙ one_long in
        omega arith

    a_kept : get_or (sets ks k all) k 0 ≡ m.a
    a_kept = set_first ks k m.a (m.b ∷ (m.c ∷ (m.d ∷ []))) (omega arith)

    b_kept : get_or (sets ks k all) (k + 1) 0 ≡ m.b
    b_kept = ap (λ j. get_or (sets ks k all) j 0) second ∙ set_first (set ks k m.a) (suc k) m.b (m.c ∷ (m.d ∷ [])) (let a = one_long in omega arith)

    c_kept : get_or (sets ks k all) (k + 2) 0 ≡ m.c
    c_kept = ap (λ j. get_or (sets ks k all) j 0) third ∙ set_first (set (set ks k m.a) (suc k) m.b) (suc (suc k)) m.c (m.d ∷ []) (let a = two_long in omega arith)

    d_kept : get_or (sets ks k all) (k + 3) 0 ≡ m.d
    d_kept = ap (λ j. get_or (sets ks k all) j 0) fourth ∙ set_first (set (set (set ks k m.a) (suc k) m.b) (suc (suc k)) m.c) (suc (suc (suc k))) m.d [] (let a = three_long in omega arith)

    kept_here : kept_at (sets ks (i * 4) (words_in m)) i ≡ m
    unfolding kept_at words_in
    kept_here = rw (a_kept, b_kept, c_kept, d_kept) refl

    module _ (j : ℕ) (n : j ≡ i → ⊥) where
      outside : (x : ℕ) → j * 4 ≤ x → x < j * 4 + 4 → get_or (sets ks k all) x 0 ≡ get_or ks x 0
      outside x f g = go (dec_lt j i) (dec_lt i j)
        where
          go : Dec (j < i) → Dec (i < j) → get_or (sets ks k all) x 0 ≡ get_or ks x 0
          go (yes u) v = set_before ks k all x (omega arith)
          go (no u) (yes v) = set_beyond ks k all x (omega arith)
          go (no u) (no v) = absurd (n (omega arith))

      kept_elsewhere : kept_at (sets ks (i * 4) (words_in m)) j ≡ kept_at ks j
      unfolding kept_at words_in
      kept_elsewhere =
          rw (outside (j * 4) (omega arith) (omega arith), outside (j * 4 + 1) (omega arith) (omega arith), outside (j * 4 + 2) (omega arith) (omega arith), outside (j * 4 + 3) (omega arith) (omega arith)) refl

-- ---- one law for each return

module _ {m : Rows} {i : ℕ} {known : Bool} {ks : List ℕ} (k : Keepable m i known ks) where
  pub rows_known : known ≡ true → {r : Rows} → r ≡ kept_at ks i → (r ≡ m) × Keeping r i ks ks
  rows_known h e = (e ∙ k.held h, record { size = refl; here = sym e; elsewhere = λ j n. refl })

  pub rows_stored : {r : Rows} → r ≡ m → {ks' : List ℕ} → ks' ≡ sets ks (i * 4) (words_in r) → (r ≡ m) × Keeping r i ks ks'
  rows_stored {r} e f = (
    e,
    record {
      size = ap length f ∙ length-sets ks (i * 4) (words_in r);
      here = ap (λ l. kept_at l i) f ∙ kept_here ks i r k.placed k.lent;
      elsewhere = λ j n. ap (λ l. kept_at l j) f ∙ kept_elsewhere ks i r k.placed k.lent j n;
    },
  )
