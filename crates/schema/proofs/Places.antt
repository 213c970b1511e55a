-- Numbers at places of a list: each return of the loops that count, test and find them.
use mathlib.Core.Path.{◌≡◌, refl, sym, ap, ap₂, ◌∙◌}
use mathlib.Core.List.{List}
use mathlib.Core.Bool.{Bool, true, false, ◌&&◌, not, cond}
use Prim.Native.Nat.{ℕ, zero, suc, ◌+◌, ◌-◌, ◌<◌, ◌≤◌}
use native.Mathlib.Omega.{arith}
use lib.Dec.{eqb}
use lib.ListN.{get_or}
use borrow.Author.Tests.{eq-eqb, ne_eqb, eqb-true, eqb-false, not-true, not-false}
use Rattle.lists.specs.Lists.{every, count_from}
use Rattle.lists.proofs.Counting.{every_past, every_fails, every_done}
use Rattle.schema.specs.Schemas.{code_free, filled, zeros, stands, named_from}

-- ---- how many are not 0

pub filled_most : (ns : List ℕ) (at n : ℕ) → filled ns at n ≤ n
unfolding filled
filled_most ns at zero = omega arith
filled_most ns at (suc n) = go (eqb (get_or ns at 0) 0) (filled_most ns (suc at) n)
  where
    go : (b : Bool) → filled ns (suc at) n ≤ n → cond b 0 (suc (filled ns (suc at) n)) ≤ suc n
    go true h = omega arith
    go false h = omega arith

-- those before the last are not 0, and the one after it is
pub filled_above : (ns : List ℕ) (at n i : ℕ) → i < filled ns at n → 0 < get_or ns (at + i) 0
unfolding filled
filled_above ns at zero i h = absurd (omega arith)
filled_above ns at (suc n) i h = go (eqb (get_or ns at 0) 0) refl i h (λ k l. filled_above ns (suc at) n k l)
  where
    go : (b : Bool) → eqb (get_or ns at 0) 0 ≡ b → (i : ℕ) → i < cond b 0 (suc (filled ns (suc at) n)) → ((k : ℕ) → k < filled ns (suc at) n → 0 < get_or ns (suc at + k) 0) → 0 < get_or ns (at + i) 0
    go true e i h f = absurd (omega arith)
    go false e zero h f =
        let z = eqb-false (get_or ns at 0) 0 e in
        let d : at + 0 ≡ at = omega arith in
        rw d (omega arith)
    go false e (suc i) h f = let d : suc at + i ≡ at + suc i = omega arith in rw d at (f i (omega arith))

pub filled_first : (ns : List ℕ) (at n : ℕ) → 0 < filled ns at n → 0 < get_or ns at 0
filled_first ns at n h = let d : at + 0 ≡ at = omega arith in rw d at (filled_above ns at n 0 h)

pub filled_stops : (ns : List ℕ) (at n : ℕ) → filled ns at n < n → get_or ns (at + filled ns at n) 0 ≡ 0
unfolding filled
filled_stops ns at zero h = absurd (omega arith)
filled_stops ns at (suc n) h = go (eqb (get_or ns at 0) 0) refl h (λ l. filled_stops ns (suc at) n l)
  where
    go : (b : Bool) → eqb (get_or ns at 0) 0 ≡ b → cond b 0 (suc (filled ns (suc at) n)) < suc n → (filled ns (suc at) n < n → get_or ns (suc at + filled ns (suc at) n) 0 ≡ 0)
        → get_or ns (at + cond b 0 (suc (filled ns (suc at) n))) 0 ≡ 0
    go true e h f = let d : at + 0 ≡ at = omega arith in rw d (eqb-true (get_or ns at 0) 0 e)
    go false e h f = let d : suc at + filled ns (suc at) n ≡ at + suc (filled ns (suc at) n) = omega arith in rw d at (f (omega arith))

-- and by that they are told
pub filled_is : (ns : List ℕ) (at n k : ℕ) → k ≤ n → ((i : ℕ) → i < k → 0 < get_or ns (at + i) 0) → (k < n → get_or ns (at + k) 0 ≡ 0) → filled ns at n ≡ k
unfolding filled
filled_is ns at zero k h f g = omega arith
filled_is ns at (suc n) zero h f g =
    let d : at + 0 ≡ at = omega arith in
    rw (eq-eqb (get_or ns at 0) 0 (rw d at (g (omega arith))))
filled_is ns at (suc n) (suc k) h f g =
    let d : at + 0 ≡ at = omega arith in
    let z : 0 < get_or ns at 0 = rw d at (f 0 (omega arith)) in
    let r : filled ns (suc at) n ≡ k = filled_is ns (suc at) n k (omega arith)
    (λ i l. let e : suc at + i ≡ at + suc i = omega arith in rw e (f (suc i) (omega arith)))
    (λ l. let e : suc at + k ≡ at + suc k = omega arith in rw e (g (omega arith))) in
    rw (ne_eqb (get_or ns at 0) 0 (λ e. omega arith)) (ap suc r)

pub filled_same : (ns ms : List ℕ) (at n : ℕ) → ((i : ℕ) → i < n → get_or ms (at + i) 0 ≡ get_or ns (at + i) 0) → filled ms at n ≡ filled ns at n
filled_same ns ms at n f =
    let m = filled_most ns at n in
    filled_is ms at n (filled ns at n) m (λ i h. let e = f i (omega arith) in let z = filled_above ns at n i h in omega arith) (λ h. f (filled ns at n) h ∙ filled_stops ns at n h)

module _ (ns : List ℕ) (at n : ℕ) where
  pub filled_start : filled ns at n ≡ 0 + filled ns (at + 0) (n - 0)
  filled_start =
      let a : at + 0 ≡ at = omega arith in
      let b : n - 0 ≡ n = omega arith in
      let e : filled ns (at + 0) (n - 0) ≡ filled ns at n = ap₂ (filled ns) a b in
      omega arith

module _ (ns : List ℕ) (at n i : ℕ) where
  filled_left : i < n → filled ns (at + i) (n - i) ≡ cond (eqb (get_or ns (at + i) 0) 0) 0 (suc (filled ns (at + (i + 1)) (n - (i + 1))))
  unfolding filled
  filled_left h =
      let e : n - i ≡ suc (n - (i + 1)) = omega arith in
      let d : suc (at + i) ≡ at + (i + 1) = omega arith in
      rw (e, d)

  module _ (inv : filled ns at n ≡ i + filled ns (at + i) (n - i)) where
    pub filled_stop : {x : ℕ} → i < n → x ≡ get_or ns (at + i) 0 → x ≡ 0 → i ≡ filled ns at n
    filled_stop h e z =
        let f : filled ns (at + i) (n - i) ≡ 0 = filled_left h ∙ rw (eq-eqb (get_or ns (at + i) 0) 0 (sym e ∙ z)) in
        omega arith

    pub filled_on : {x : ℕ} → i < n → x ≡ get_or ns (at + i) 0 → (x ≡ 0 → ⊥) → filled ns at n ≡ i + 1 + filled ns (at + (i + 1)) (n - (i + 1))
    filled_on h e z =
        let f : filled ns (at + i) (n - i) ≡ suc (filled ns (at + (i + 1)) (n - (i + 1))) = filled_left h ∙ rw (ne_eqb (get_or ns (at + i) 0) 0 (λ y. z (e ∙ y))) in
        omega arith

    pub filled_end : i ≤ n → n ≤ i → n ≡ filled ns at n
    unfolding filled
    filled_end h k =
        let e : n - i ≡ 0 = omega arith in
        let f : filled ns (at + i) (n - i) ≡ 0 = rw e in
        omega arith

pub ruleset filled_ends = (filled_start, filled_stop, filled_on, filled_end)

pub zeros_not : (ns : List ℕ) (at n : ℕ) → 0 < get_or ns at 0 → zeros ns at (suc n) ≡ false
unfolding zeros every count_from
zeros_not ns at n h = rw (ne_eqb (get_or ns at 0) 0 (λ e. omega arith))

-- ---- names that may be, none of them twice

abbrev pub named_at : List ℕ → ℕ → ℕ → Bool
named_at ns at i = code_free (get_or ns (at + i) 0) && not (stands ns at i (get_or ns (at + i) 0))

pub named_start : (ns : List ℕ) (at n : ℕ) → named_from ns at n ≡ every (named_at ns at) (count_from 0 (n - 0))
unfolding named_from
named_start ns at n =
    let b : n ≡ n - 0 = omega arith in
    ap (λ m. every (named_at ns at) (count_from 0 m)) b

module _ (ns : List ℕ) (at n i : ℕ) (inv : named_from ns at n ≡ every (named_at ns at) (count_from i (n - i))) where
  module _ {x : ℕ} {y : Bool} (h : i < n) (e : x ≡ get_or ns (at + i) 0) (f : y ≡ code_free x) where
    free_is : y ≡ code_free (get_or ns (at + i) 0)
    free_is = f ∙ ap code_free e

    pub named_taken : not y ≡ true → false ≡ named_from ns at n
    named_taken g = sym (inv ∙ every_fails (named_at ns at) i n h (rw (sym free_is ∙ not-true y g)))

    module _ {z : Bool} (g : not y ≡ false) (s : z ≡ stands ns at i x) where
      stands_is : z ≡ stands ns at i (get_or ns (at + i) 0)
      stands_is = s ∙ ap (stands ns at i) e

      pub named_again : z ≡ true → false ≡ named_from ns at n
      named_again t = sym (inv ∙ every_fails (named_at ns at) i n h (rw (sym free_is ∙ not-false y g, sym stands_is ∙ t)))

      pub named_on : z ≡ false → named_from ns at n ≡ every (named_at ns at) (count_from (i + 1) (n - (i + 1)))
      named_on t = inv ∙ every_past (named_at ns at) i n h (rw (sym free_is ∙ not-false y g, sym stands_is ∙ t))

  pub named_end : n ≤ i → true ≡ named_from ns at n
  named_end h = sym (inv ∙ every_done (named_at ns at) i n h)

pub ruleset named_ends = (named_start, named_taken, named_again, named_on, named_end)
