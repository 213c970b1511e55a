-- A profile by the pairs of its numbers.
use mathlib.Core.Path.{◌≡◌, refl, sym, ap, ap₂, ◌∙◌}
use mathlib.Core.List.{List, ◌∷◌, map}
use Prim.Native.Nat.{ℕ, zero, suc, ◌+◌, ◌*◌, ◌/◌, ◌%◌}
use native.Mathlib.Omega.{arith}
use lib.ListN.{length, get_or, take, drop}
use Rattle.std.proofs.lemmas.List.{get_or-take, get_or-drop}
use Rattle.std.specs.Simd.{first_chunks}
use Rattle.lists.specs.Lists.{count_from}
use Rattle.lists.proofs.Counting.{map_shift, map_alike}
use Rattle.syntax.specs.Grammar.{Entry}
use Rattle.text.specs.Words.{name_of}
use Rattle.nodes.specs.Nodes.{unbiased}
use Rattle.nodes.specs.Profiles.{entry_at, profile_in}

abbrev pub pair : ℕ → ℕ → Entry
pair n v = record { name = name_of n; value = unbiased (v % 4294967296) }

abbrev pub entry_of : List ℕ → Entry
entry_of e = pair (get_or e 0 0) (get_or e 1 0)

pairs : (k : ℕ) (ps : List ℕ) → map (entry_at ps) (count_from 0 k) ≡ map entry_of (first_chunks 2 k ps)
unfolding count_from entry_at
pairs zero ps = refl
pairs (suc k) ps =
    let later : (i j : ℕ) → i ≡ 2 + j → get_or ps i 0 ≡ get_or (drop 2 ps) j 0 = λ i j e. rw e (sym (get_or-drop 2 ps j 0)) in
    ap₂ (λ n v. pair n v ∷ map (entry_at ps) (count_from 1 k)) (sym (get_or-take 2 ps 0 0 (omega arith))) (sym (get_or-take 2 ps 1 0 (omega arith)))
    ∙ ap (λ l. entry_of (take 2 ps) ∷ l)
    (map_shift (entry_at ps) 0 k
    ∙ map_alike (λ i. entry_at ps (suc i)) (entry_at (drop 2 ps)) 0 k (λ i _ _. ap₂ pair (later (suc i * 2) (i * 2) (omega arith)) (later (suc i * 2 + 1) (i * 2 + 1) (omega arith)))
    ∙ pairs k (drop 2 ps))

pub profile_pairs : (ps : List ℕ) → profile_in ps ≡ map entry_of (first_chunks 2 (length ps / 2) ps)
unfolding profile_in
profile_pairs ps = pairs (length ps / 2) ps
