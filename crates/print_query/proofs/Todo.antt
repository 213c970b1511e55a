-- A text that is written in turns: what is still to be written of it.
use mathlib.Core.Path.{◌≡◌, refl, ap, ◌∙◌}
use Prim.Native.Nat.{ℕ}
use Rattle.syntax.specs.Grammar.{Bytes}
use Rattle.print.specs.Writing.{over, after, Put}

-- of a text from place p₀ on, another is still to be written from place p on
pub record Todo (whole t : Bytes → Bytes) (m₀ : Bytes) (p₀ : ℕ) (m : Bytes) (p : ℕ) : Type 0 where
  pub bytes : (r : Bytes) → over m₀ p₀ (whole r) ≡ over m p (t r)
  pub place : (r : Bytes) → after p₀ (whole r) ≡ after p (t r)

pub todo_start : {t : Bytes → Bytes} {m : Bytes} {p : ℕ} → Todo t t m p m p
todo_start = record { bytes = λ r. refl; place = λ r. refl }

module _ {whole : Bytes → Bytes} {m₀ m : Bytes} {p₀ p : ℕ} where
  pub todo_as : {t u : Bytes → Bytes} → ((r : Bytes) → t r ≡ u r) → Todo whole t m₀ p₀ m p → Todo whole u m₀ p₀ m p
  todo_as e x = record { bytes = λ r. x.bytes r ∙ ap (over m p) (e r); place = λ r. x.place r ∙ ap (after p) (e r) }

  pub todo_put : {f g : Bytes → Bytes} {m₁ : Bytes} {p₁ : ℕ} → Todo whole (λ r. f (g r)) m₀ p₀ m p → Put f m p m₁ p₁ → Todo whole g m₀ p₀ m₁ p₁
  todo_put {g = g} x y = record { bytes = λ r. x.bytes r ∙ y.bytes (g r); place = λ r. x.place r ∙ y.place (g r) }

  pub todo_end : {t : Bytes → Bytes} → ((r : Bytes) → t r ≡ r) → Todo whole t m₀ p₀ m p → Put whole m₀ p₀ m p
  todo_end e x = record { bytes = λ r. x.bytes r ∙ ap (over m p) (e r); place = λ r. x.place r ∙ ap (after p) (e r) }
