-- Lent bytes as a text: copied where there is room, and one after another.
use mathlib.Core.Path.{◌≡◌, refl, sym, ap, ap₂, ◌∙◌}
use mathlib.Core.List.{[], ◌∷◌, ◌++◌, append_assoc}
use Prim.Native.Nat.{ℕ, ◌+◌, ◌<◌, ◌≤◌, min}
use native.Mathlib.Numerals.{add-one}
use native.Mathlib.Omega.{arith}
use lib.ListN.{length, get_or, set, take, drop}
use lib.Seq.{take-suc}
use Rattle.std.proofs.lemmas.List.{drop-drop}
use borrow.Rule.Slice.PartMut.{put_mid}
use Rattle.syntax.specs.Grammar.{Bytes, put_name}
use Rattle.print.specs.Writing.{furthest, next, over, after, Put, byte_text}
use Rattle.print.proofs.Putting.{put_none, put_as, put_then, put_past}
use Rattle.print.proofs.Whole.{after_is, over_is}

over_on : (m : Bytes) (p : ℕ) (w r : Bytes) → over m p (w ++ r) ≡ over (over m p w) (after p w) r
unfolding over after
over_on m p [] r = refl
over_on m p (b ∷ bs) r = over_on (set m p b) (next p) bs r

after_on : (p : ℕ) (w r : Bytes) → after p (w ++ r) ≡ after (after p w) r
unfolding after
after_on p [] r = refl
after_on p (b ∷ bs) r = after_on (next p) bs r

module _ (w : Bytes) {m : Bytes} {p : ℕ} where
  pub bytes_past : {q : ℕ} → length m ≤ p → p < 4294967296 → q ≡ min (p + length w) furthest → Put (put_name w) m p m q
  unfolding put_name
  bytes_past h k e = put_past w (λ r. refl) h (omega arith) e

  pub bytes_copied : {v : Bytes} {k q : ℕ} → p + length w ≤ length m → p + length w ≤ furthest → q ≡ min (p + length w) furthest → v ≡ w → k ≡ length w → Put (put_name w) m p (put_mid p k m v) q
  unfolding put_name
  bytes_copied {v} {k} {q} h l e f g =
      let a : over m p w ≡ put_mid p k m v = over_is m p w h l ∙ append_assoc (take p m) w (drop (p + length w) m) ∙ ap₂ (λ x y. take p m ++ (x ++ y)) (sym f) (sym (ap (λ (i : ℕ). drop i (drop p m)) g ∙ drop-drop (length w) p m)) in
      let b : after p w ≡ q = after_is p w (omega arith) ∙ sym e in
      record { bytes = λ r. over_on m p w r ∙ ap₂ (λ x y. over x y r) a b; place = λ r. after_on p w r ∙ ap (λ (y : ℕ). after y r) b }

  -- after i of them
  pub bytes_start : Put (put_name (take 0 w)) m p m p
  unfolding put_name
  bytes_start = put_none (λ r. refl)

  pub bytes_more : (i : ℕ) {m₁ m₂ : Bytes} {p₁ p₂ : ℕ} → i < length w → Put (put_name (take i w)) m p m₁ p₁ → Put (byte_text (get_or w i 0)) m₁ p₁ m₂ p₂ → Put (put_name (take (i + 1) w)) m p m₂ p₂
  unfolding put_name byte_text
  bytes_more i h x y = put_as (λ r. ap (λ l. l ++ r) (ap (λ (k : ℕ). take k w) (add-one i) ∙ take-suc w i 0 h) ∙ append_assoc (take i w) (get_or w i 0 ∷ []) r) (put_then x y)

pub ruleset bytes_ends = (bytes_past, bytes_copied, bytes_start, bytes_more)
