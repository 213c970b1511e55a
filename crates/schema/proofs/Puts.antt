-- One stream more: each return of the code that stores its names.
use mathlib.Core.Path.{◌≡◌, ap₂, ◌∙◌}
use mathlib.Core.List.{List}
use Prim.Native.Nat.{ℕ, ◌+◌, ◌*◌, ◌<◌, ◌≤◌}
use native.Mathlib.Omega.{arith}
use lib.ListN.{length, set}
use lib.Seq.{paste}
use borrow.Author.Tests.{lt-ltb, le-ltb, le-leb, lt-leb}
use mathlib.Core.Bool.{and-false}
use lib.Dec.{ltb}
use Rattle.schema.specs.Schemas.{streams_in, with_codes}

module _ (ns : List ℕ) (n : ℕ) (cs : List ℕ) {s : ℕ} (e : s ≡ streams_in ns) where
  pub put_full : 4 ≤ s → ns ≡ with_codes ns n cs
  unfolding with_codes
  put_full h = let k : 4 ≤ streams_in ns = omega arith in rw (le-ltb (streams_in ns) 4 k)

  pub put_short : length ns < 28 → ns ≡ with_codes ns n cs
  unfolding with_codes
  put_short h = rw (lt-leb 28 (length ns) h, and-false (ltb (streams_in ns) 4))

  pub put_done : {c : ℕ} {ms : List ℕ} → s < 4 → 28 ≤ length ns → ms ≡ paste (set ns s n) (4 + s * 6) cs c → c ≤ 6 → 6 ≤ c → ms ≡ with_codes ns n cs
  unfolding with_codes
  put_done {c} {ms} h k m a b =
      let l : streams_in ns < 4 = omega arith in
      let d : c ≡ 6 = omega arith in
      rw (lt-ltb (streams_in ns) 4 l, le-leb 28 (length ns) k) (m ∙ ap₂ (λ x y. paste (set ns x n) (4 + x * 6) cs y) e d)

pub ruleset put_ends = (put_full, put_short, put_done)
