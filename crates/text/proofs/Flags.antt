-- The word at a place whose code is 0 where it can be no keyword, by the one that is an `Option`.
use mathlib.Core.Path.{◌≡◌, sym}
use mathlib.Core.Bool.{false}
use Prim.Native.Nat.{ℕ, ◌<◌}
use lib.Dec.{T}
use lib.ListN.{drop, get_or}
use Rattle.syntax.specs.Grammar.{Bytes}
use Rattle.syntax.specs.Readers.{run, plain}
use Rattle.text.specs.declared.Class.TheVariants.{Plain}
use Rattle.text.specs.declared.Word.{Word}
use Rattle.text.specs.Words.{Some, None, run_end, code_of}
use Rattle.text.specs.Keywords.{word_found, word_at, WordAt}
use Rattle.text.proofs.Views.{no_some}
use Rattle.text.proofs.Keywords.{code_cases, word_cases, narrow_at}

module _ (s : Bytes) (at : ℕ) where
  pub word_flag_none : ((i : ℕ) → get_or s i 0 < 256) → {e : ℕ} → None ≡ word_found s at → e ≡ run_end Plain s at → WordAt s at (record { code = 0; next = e })
  unfolding word_at
  word_flag_none o d q =
      let n = narrow_at s at o in
      word_cases s at None d
      (λ u t. code_cases (run plain (drop at s)) n (λ k z. absurd (let w : T false = rw t at k in w)) (λ k z. record { is = rw (z, q); narrow = n }))
      (λ u t. absurd (no_some u))

  pub word_flag_some : ((i : ℕ) → get_or s i 0 < 256) → {w : Word} → Some w ≡ word_found s at → WordAt s at w
  unfolding word_at
  word_flag_some o {w} d =
      let n = narrow_at s at o in
      word_cases s at (Some w) d (λ u t. absurd (no_some (sym u)))
      (λ u t. code_cases (run plain (drop at s)) n (λ k z. record { is = let q : w ≡ record { code = code_of (run plain (drop at s)); next = run_end Plain s at } = cc in rw (q, z); narrow = n }) (λ k z. absurd (let w : T false = rw k at t in w)))
