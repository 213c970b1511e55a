-- Bounds of the ledger, and times that do not fall, as the code tests them.
use mathlib.Core.Path.{◌≡◌, refl, sym, ap, ◌∙◌}
use mathlib.Core.Bool.{Bool, true, false, ◌&&◌}
use Prim.Native.Nat.{ℕ, suc, ◌+◌, ◌*◌, ◌-◌, ◌<◌, ◌≤◌}
use native.Mathlib.Numerals.{add-one}
use native.Mathlib.Omega.{arith}
use lib.Dec.{leb}
use lib.ListN.{get_or}
use borrow.Author.Tests.{le-leb, lt-leb}
use mathlib.Core.List.{List}
use Rattle.lists.specs.Lists.{every}
use Rattle.lists.proofs.Laws.{and_true}
use Rattle.syntax.specs.Limits.{max_rows, top}
use Rattle.ledger.specs.declared.Ledger.{Ledger}
use Rattle.ledger.specs.Records.{count_in, ledger_sound, times_steady, stream_steady}

-- ---- the ledger

pub sound_high : (l : Ledger) → top < l.clock → ledger_sound l ≡ false
unfolding ledger_sound
sound_high l h = rw (lt-leb l.clock top h)

pub sound_rows : (l : Ledger) → l.clock ≤ top → (b : Bool) → every (λ n. leb n max_rows) l.rows ≡ b → ledger_sound l ≡ b
unfolding ledger_sound
sound_rows l h b e = rw (le-leb l.clock top h) e

pub count_le : (l : Ledger) (s : ℕ) → count_in l s ≤ max_rows
unfolding count_in
count_le l s = omega arith

-- ---- times that do not fall

module _ (times : List ℕ) (low k i end : ℕ) where
  steady_left : i < end → times_steady times low k i (end - i) ≡ (leb low (get_or times i 0) && times_steady times (get_or times i 0) k (i + 1) (end - (i + 1)))
  unfolding times_steady
  steady_left h =
      let e : end - i ≡ suc (end - (i + 1)) = omega arith in
      rw (e, add-one i)

  pub steady_past : i < end → low ≤ get_or times i 0 → times_steady times low k i (end - i) ≡ times_steady times (get_or times i 0) k (i + 1) (end - (i + 1))
  steady_past h g = steady_left h ∙ ap (λ b. b && times_steady times (get_or times i 0) k (i + 1) (end - (i + 1))) (le-leb low (get_or times i 0) g)

  pub steady_fails : i < end → get_or times i 0 < low → times_steady times low k i (end - i) ≡ false
  steady_fails h g = steady_left h ∙ ap (λ b. b && times_steady times (get_or times i 0) k (i + 1) (end - (i + 1))) (lt-leb low (get_or times i 0) g)

  pub steady_done : end ≤ i → times_steady times low k i (end - i) ≡ leb low k
  unfolding times_steady
  steady_done h =
      let e : end - i ≡ 0 = omega arith in
      rw e

-- ---- four times at once

module _ (times : List ℕ) (low i : ℕ) where
  abbrev here : ℕ → ℕ
  here j = get_or times (i + j) 0

  abbrev four : Bool → Bool
  four b = leb low (get_or times i 0) && (leb (get_or times i 0) (here 1) && (leb (here 1) (here 2) && (leb (here 2) (here 3) && b)))

  rising_is : times_steady times low (here 3) i 4 ≡ four true
  unfolding times_steady
  rising_is =
      let b : i + 2 ≡ suc (suc i) = omega arith in
      let c : i + 3 ≡ suc (suc (suc i)) = omega arith in
      rw (add-one i, b, c, le-leb (get_or times (suc (suc (suc i))) 0) (get_or times (suc (suc (suc i))) 0) (omega arith))

  pub rising_first : get_or times i 0 < low → false ≡ times_steady times low (here 3) i 4
  rising_first h = sym (rising_is ∙ rw (lt-leb low (get_or times i 0) h))

  module _ (g : low ≤ get_or times i 0) where
    pub rising_second : here 1 < get_or times i 0 → false ≡ times_steady times low (here 3) i 4
    rising_second h = sym (rising_is ∙ rw (le-leb low (get_or times i 0) g, lt-leb (get_or times i 0) (here 1) h))

    module _ (k : get_or times i 0 ≤ here 1) where
      pub rising_third : here 2 < here 1 → false ≡ times_steady times low (here 3) i 4
      rising_third h = sym (rising_is ∙ rw (le-leb low (get_or times i 0) g, le-leb (get_or times i 0) (here 1) k, lt-leb (here 1) (here 2) h))

      pub rising_last : here 1 ≤ here 2 → leb (here 2) (here 3) ≡ times_steady times low (here 3) i 4
      rising_last h = sym (rising_is ∙ rw (le-leb low (get_or times i 0) g, le-leb (get_or times i 0) (here 1) k, le-leb (here 1) (here 2) h) (and_true (leb (here 2) (here 3))))

  steady_four : (k end : ℕ) → i + 4 ≤ end → times_steady times low k i (end - i) ≡ (times_steady times low (here 3) i 4 && times_steady times (here 3) k (i + 4) (end - (i + 4)))
  unfolding times_steady
  steady_four k end h =
      let n : end - i ≡ suc (suc (suc (suc (end - (i + 4))))) = omega arith in
      let b : i + 2 ≡ suc (suc i) = omega arith in
      let c : i + 3 ≡ suc (suc (suc i)) = omega arith in
      let d : i + 4 ≡ suc (suc (suc (suc i))) = omega arith in
      ap (times_steady times low k i) n ∙ (rw (add-one i, b, c, d) (apart (leb low (get_or times i 0)) (leb (get_or times i 0) (get_or times (suc i) 0)) (leb (get_or times (suc i) 0) (get_or times (suc (suc i)) 0)) (leb (get_or times (suc (suc i)) 0) (get_or times (suc (suc (suc i))) 0)) _)) ∙ ap (λ x. x && times_steady times (here 3) k (i + 4) (end - (i + 4))) (sym rising_is)
    where
      apart : (p q r s x : Bool) → (p && (q && (r && (s && x)))) ≡ ((p && (q && (r && (s && true)))) && x)
      apart true true true true x = refl
      apart true true true false x = refl
      apart true true false s x = refl
      apart true false r s x = refl
      apart false q r s x = refl

  pub steady_four_past : (k end : ℕ) {r : Bool} → i + 4 ≤ end → r ≡ times_steady times low (here 3) i 4 → r ≡ true → times_steady times low k i (end - i) ≡ times_steady times (here 3) k (i + 4) (end - (i + 4))
  steady_four_past k end {r} h e f = steady_four k end h ∙ ap (λ x. x && times_steady times (here 3) k (i + 4) (end - (i + 4))) (sym e ∙ f)

  pub steady_four_fails : (k end : ℕ) {r : Bool} → i + 4 ≤ end → r ≡ times_steady times low (here 3) i 4 → r ≡ false → times_steady times low k i (end - i) ≡ false
  steady_four_fails k end {r} h e f = steady_four k end h ∙ ap (λ x. x && times_steady times (here 3) k (i + 4) (end - (i + 4))) (sym e ∙ f)

pub stream_tested : (l : Ledger) (times : List ℕ) (s count : ℕ) (b v : Bool) → count ≡ count_in l s → b ≡ times_steady times 0 l.clock (s * max_rows) count → b ≡ v → stream_steady l times s ≡ v
unfolding stream_steady
stream_tested l times s count b v c e h = ap (times_steady times 0 l.clock (s * max_rows)) (sym c) ∙ sym e ∙ h
