-- Transcripts: lines run in order from a fresh fixture, and what each of them prints.
use mathlib.Core.Path.{◌≡◌}
use mathlib.Core.List.{List, map}
use Prim.Native.Nat.{ℕ}
use Prim.Native.String.{String}
use lib.IntN.{pos}
use lib.ListN.{replicate}
use Rattle.syntax.specs.Grammar.{Bytes, bytes}
use Rattle.calls.specs.Scripts.{Outcome, text, script}

-- a line, and what it prints
pub record Said : Type 0 where
  pub line : Bytes
  pub prints : Outcome

infix 80 ◌says◌
abbrev pub ◌says◌ : String → Outcome → Said
l says o = record { line = bytes l; prints = o }

-- lines of one outcome
abbrev pub each : Outcome → List String → List Said
each o ls = map (λ l. l says o) ls

abbrev pub writes : String → Outcome
writes s = text (bytes s)

-- with cells and bytes lent
abbrev pub HoldsWith : ℕ → ℕ → List Said → Type 0
HoldsWith n m ss = script (replicate n (pos 0)) (replicate m 0) (map (λ s. s.line) ss) ≡ map (λ s. s.prints) ss

abbrev pub Holds : List Said → Type 0
Holds ss = HoldsWith 300 600 ss
