-- Texts written one after another, and a byte.
use mathlib.Core.Path.{◌≡◌, sym, ap, ap₂, ◌∙◌}
use mathlib.Core.List.{[], ◌∷◌, ◌++◌}
use Prim.Native.Nat.{ℕ, suc, ◌+◌, ◌≤◌, min}
use native.Mathlib.Omega.{arith}
use lib.ListN.{length, set}
use lib.Seq.{set_out}
use Rattle.syntax.specs.Grammar.{Bytes}
use Rattle.print.specs.Writing.{furthest, next, over, after, Put, byte_text}

-- ---- texts after one another

pub put_none : {t : Bytes → Bytes} {m : Bytes} {p : ℕ} → ((r : Bytes) → t r ≡ r) → Put t m p m p
put_none {t} {m} {p} e = record { bytes = λ r. ap (over m p) (e r); place = λ r. ap (after p) (e r) }

pub put_as : {f g : Bytes → Bytes} {m n : Bytes} {p q : ℕ} → ((r : Bytes) → g r ≡ f r) → Put f m p n q → Put g m p n q
put_as {f} {g} {m} {n} {p} {q} e x = record { bytes = λ r. ap (over m p) (e r) ∙ x.bytes r; place = λ r. ap (after p) (e r) ∙ x.place r }

pub put_then : {f g : Bytes → Bytes} {m n o : Bytes} {p q s : ℕ} → Put f m p n q → Put g n q o s → Put (λ r. f (g r)) m p o s
put_then {f} {g} x y = record { bytes = λ r. x.bytes (g r) ∙ y.bytes r; place = λ r. x.place (g r) ∙ y.place r }

-- ---- a byte

module _ (m : Bytes) (p b : ℕ) where
  pub byte_in : {q : ℕ} → q ≡ min (p + 1) furthest → Put (byte_text b) m p (set m p b) q
  unfolding byte_text over after next
  byte_in {q} e = let f : min (suc p) furthest ≡ q = omega arith in record { bytes = λ r. ap (λ x. over (set m p b) x r) f; place = λ r. ap (λ x. after x r) f }

  pub byte_out : {q : ℕ} → length m ≤ p → q ≡ min (p + 1) furthest → Put (byte_text b) m p m q
  unfolding byte_text over after next
  byte_out {q} h e = let f : min (suc p) furthest ≡ q = omega arith in record { bytes = λ r. ap₂ (λ x y. over x y r) (set_out m p b h) f; place = λ r. ap (λ x. after x r) f }

pub ruleset byte_ends = (byte_in, byte_out)

-- ---- past the last place nothing is written

over_past : (m : Bytes) (p : ℕ) (t r : Bytes) → length m ≤ p → p ≤ furthest → over m p (t ++ r) ≡ over m (min (p + length t) furthest) r
unfolding over next
over_past m p [] r h k = let e : p ≡ min (p + 0) furthest = omega arith in ap (λ (q : ℕ). over m q r) e
over_past m p (b ∷ bs) r h k =
    let e : min (min (suc p) furthest + length bs) furthest ≡ min (p + suc (length bs)) furthest = omega arith in
    ap (λ x. over x (min (suc p) furthest) (bs ++ r)) (set_out m p b h) ∙ over_past m (min (suc p) furthest) bs r (omega arith) (omega arith) ∙ ap (λ (q : ℕ). over m q r) e

after_past : (p : ℕ) (t r : Bytes) → p ≤ furthest → after p (t ++ r) ≡ after (min (p + length t) furthest) r
unfolding after next
after_past p [] r k = let e : p ≡ min (p + 0) furthest = omega arith in ap (λ (q : ℕ). after q r) e
after_past p (b ∷ bs) r k =
    let e : min (min (suc p) furthest + length bs) furthest ≡ min (p + suc (length bs)) furthest = omega arith in
    after_past (min (suc p) furthest) bs r (omega arith) ∙ ap (λ (q : ℕ). after q r) e

-- a text of a known length is counted at once
pub put_past : {t : Bytes → Bytes} {m : Bytes} {p q : ℕ} (w : Bytes) → ((r : Bytes) → t r ≡ w ++ r) → length m ≤ p → p ≤ furthest → q ≡ min (p + length w) furthest → Put t m p m q
put_past {t} {m} {p} {q} w s h k e =
    record {
      bytes = λ r. ap (over m p) (s r) ∙ over_past m p w r h k ∙ ap (λ (x : ℕ). over m x r) (sym e);
      place = λ r. ap (after p) (s r) ∙ after_past p w r k ∙ ap (λ (x : ℕ). after x r) (sym e);
    }
