-- A part of a line copied after what is kept of it.
use mathlib.Core.Path.{◌≡◌, sym, ap, subst, ◌∙◌}
use mathlib.Core.List.{[], ◌∷◌, ◌++◌}
use Prim.Native.Nat.{ℕ, zero, suc, ◌+◌, ◌-◌, ◌≤◌, min}
use native.Mathlib.Omega.{arith}
use lib.ListN.{length, take, drop, length-take, length-append, length-drop}
use borrow.Rule.Slice.PartMut.{put_mid}
use Rattle.syntax.specs.Grammar.{Bytes}
use Rattle.report.proofs.Printed.{take_min}
use Rattle.console.specs.Lines.{Keeps}
use Rattle.console.proofs.Printing.{take_more}

take_behind : (a b : Bytes) (n : ℕ) → length a ≤ n → take n (a ++ b) ≡ a ++ take (n - length a) b
take_behind [] b n h = let e : n ≡ n - 0 = omega arith in ap (λ (k : ℕ). take k b) e
take_behind (x ∷ a) b zero h = absurd (omega arith)
take_behind (x ∷ a) b (suc n) h = let e : suc n - suc (length a) ≡ n - length a = omega arith in ap (λ (l : Bytes). x ∷ l) (take_behind a b n (omega arith) ∙ ap (λ (k : ℕ). a ++ take k b) (sym e))

pub keep_copied : (m part : Bytes) (kept : ℕ) {k n i : ℕ} {v : Bytes} → k ≡ min kept (length m) → n ≡ min (length m - k) (length part) → i ≡ n → v ≡ take n part → Keeps m kept part (put_mid k i m v) (k + n)
keep_copied m part kept {k} {n} {i} {v} e g h f = subst (λ (j : ℕ). Keeps m kept part (put_mid k j m v) (k + n)) (sym h) (record { bytes = front ∙ sym behind; inside = omega (arith, long, whole) })
  where
    held : length (take k m) ≡ k
    held = length-take k m ∙ (omega arith)

    long : length v ≡ n
    long = ap length f ∙ length-take n part ∙ (omega arith)

    whole : length (put_mid k n m v) ≡ length m
    whole = omega (arith, length-append (take k m) (v ++ drop n (drop k m)), length-append v (drop n (drop k m)), length-drop n (drop k m), length-drop k m, held, long)

    front : take (k + n) (put_mid k n m v) ≡ take k m ++ take n part
    front = take_more (take k m) v (k + n) (omega (arith, held, long)) (drop n (drop k m)) ∙ ap (λ (w : Bytes). take k m ++ w) f

    behind : take (length m) (take kept m ++ part) ≡ take k m ++ take n part
    behind =
        ap (λ (w : Bytes). take (length m) (w ++ part)) (sym (take_min m kept) ∙ ap (λ (j : ℕ). take j m) (sym e))
        ∙ take_behind (take k m) part (length m) (omega (arith, held))
        ∙ ap (λ (w : Bytes). take k m ++ w) (ap (λ (j : ℕ). take (length m - j) part) held ∙ sym (take_min part (length m - k)) ∙ ap (λ (j : ℕ). take j part) (sym g))
