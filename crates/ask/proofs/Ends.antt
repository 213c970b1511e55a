-- What the functions return, one law for each return.
use mathlib.Core.Path.{◌≡◌}
use Prim.Native.Nat.{ℕ}
use Rattle.refusal.specs.Numbers.{number_of}
use Rattle.refusal.specs.declared.Refusal.{Refusal}
use Rattle.ask.specs.declared.Reply.{Reply}
use Rattle.ask.specs.Replies.{refused_with}

pub refused_made : (f : Refusal) {n : ℕ} → n ≡ number_of f → ◌≡◌ {A = Reply} (record { refusal = n; count = 0 }) (refused_with f)
refused_made f e = rw e
