-- Where a list ends, as the code finds it.
use mathlib.Core.Path.{◌≡◌, refl, sym, ap, ◌∙◌}
use mathlib.Core.List.{[]}
use mathlib.Core.Bool.{Bool, true, false, not}
use Prim.Native.Nat.{ℕ, ◌+◌, ◌≤◌, ◌<◌}
use lib.Dec.{eqb, ltb}
use lib.ListN.{length, drop, get_or, drop_of_length-le, get_or-eq_default}
use borrow.Author.Tests.{eq-eqb, ne_eqb, eqb-true, eqb-false, ltb-true, ltb-false, not-true, not-false}
use Rattle.syntax.specs.Grammar.{Bytes}
use Rattle.syntax.specs.Readers.{closes, opens, form_next}
use Rattle.text.proofs.Places.{byte_here}
use Rattle.text.proofs.Fuel.{no_close, no_form_next}
use Rattle.columns.specs.Columns.{ends_by}

pub eqb_sym : (m n : ℕ) → eqb m n ≡ eqb n m
eqb_sym m n = go (eqb m n) refl
  where
    go : (b : Bool) → eqb m n ≡ b → b ≡ eqb n m
    go true e = sym (eq-eqb n m (sym (eqb-true m n e)))
    go false e = sym (ne_eqb n m (λ p. eqb-false m n e (sym p)))

pub ends_none : (form : Bool) → ends_by form [] ≡ false
unfolding ends_by
ends_none true = no_form_next
ends_none false = no_close

opens_byte : (s : Bytes) (i : ℕ) → opens (drop i s) ≡ eqb (get_or s i 0) 40
unfolding opens
opens_byte s i = go (ltb i (length s)) refl
  where
    go : (t : Bool) → ltb i (length s) ≡ t → opens (drop i s) ≡ eqb (get_or s i 0) 40
    go true t = rw (byte_here s i (ltb-true i (length s) t) refl) (eqb_sym 40 (get_or s i 0))
    go false t = let h = ltb-false i (length s) t in rw (drop_of_length-le s h, get_or-eq_default s 0 h)

module _ (s : Bytes) (i : ℕ) (form : Bool) where
  pub ends_past : length s ≤ i → false ≡ ends_by form (drop i s)
  ends_past h = sym (ap (ends_by form) (drop_of_length-le s h) ∙ ends_none form)

  module _ (h : i < length s) where
    pub ends_closed : not form ≡ true → eqb (get_or s i 0) 41 ≡ ends_by form (drop i s)
    unfolding ends_by closes
    ends_closed e = rw (not-true form e, byte_here s i h refl) (eqb_sym (get_or s i 0) 41)

    module _ (e : not form ≡ false) where
      pub ends_unspaced : (get_or s i 0 ≡ 32 → ⊥) → false ≡ ends_by form (drop i s)
      unfolding ends_by form_next
      ends_unspaced f = rw (not-false form e, byte_here s i h refl, ne_eqb 32 (get_or s i 0) (λ d. f (sym d)))

      pub ends_opened : {b : ℕ} → get_or s i 0 ≡ 32 → b ≡ get_or s (i + 1) 0 → eqb b 40 ≡ ends_by form (drop i s)
      unfolding ends_by form_next
      ends_opened d g = rw (not-false form e, byte_here s i h d) (ap (λ x. eqb x 40) g ∙ sym (opens_byte s (i + 1)))

pub ruleset ends_ends = (ends_past, ends_closed, ends_unspaced, ends_opened)
