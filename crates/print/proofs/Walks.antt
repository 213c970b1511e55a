-- Where the conditions of a list end.
use mathlib.Core.Path.{◌≡◌, refl, sym, ap, ◌∙◌}
use mathlib.Core.List.{List, []}
use Prim.Native.Nat.{ℕ, ◌-◌, ◌<◌, ◌≤◌, min}
use native.Mathlib.Decide.{dec_lt}
use native.Mathlib.Omega.{arith}
use Rattle.syntax.specs.Grammar.{last}
use Rattle.model.specs.Conditions.{conds_of}
use Rattle.nodes.specs.declared.Node.{Node}
use Rattle.nodes.specs.Nodes.{node_at, link, some_conds, first_cond}
use Rattle.nodes.proofs.Reaching.{link_falls, list_off}
use Rattle.nodes.proofs.Links as L
use Rattle.nodes.proofs.Links.{Walk, walk_start, walk_falls, walk_on}
use Rattle.print.specs.Texts.{list_at, First, Lasts}

-- ---- the first condition

module _ (ws : List ℕ) (stop j : ℕ) {e b : ℕ} (c : Walk ws stop j e) (l : b ≡ link ws e) where
  pub first_found : b ≤ stop → First ws stop j e
  first_found h = let f = L.walk_end ws stop j c l h in record { low = f.low; some = f.some; items = f.items; alone = f.alone; none = f.none }

pub link_less : (ws : List ℕ) (stop k : ℕ) {b : ℕ} → stop < k → b ≡ link ws k → b < k
link_less ws stop k h e = omega (arith, link_falls ws k)

pub ruleset first_ends = (walk_start, walk_falls, walk_on, first_found, link_less)

-- a link by its node

pub link_is : (ws : List ℕ) (k : ℕ) {n : Node} {b : ℕ} → n ≡ node_at ws k → b ≡ min n.before (k - 1) → b ≡ link ws k
unfolding link
link_is ws k e f = f ∙ ap (λ (x : Node). min x.before (k - 1)) e

-- ---- what a head takes

list_empty : (ws : List ℕ) (stop j : ℕ) → j ≤ stop → list_at ws stop j ≡ []
list_empty ws stop j h = list_off ws stop j [] h

module _ (ws : List ℕ) (head stop j : ℕ) where
  pub lasts_first : {e : ℕ} → head ≡ 9 → First ws stop j e → Lasts ws head stop j e
  unfolding some_conds first_cond conds_of
  lasts_first {e} h f = record { low = f.low; first = λ k. go (dec_lt stop j); all = λ n. absurd (n h) }
    where
      go : Dec (stop < j) → some_conds (list_at ws stop e) ≡ last (first_cond (list_at ws stop j))
      go (yes k) = ap some_conds (f.alone k) ∙ sym (ap (λ cs. last (first_cond cs)) (f.items k))
      go (no k) =
          let i : j ≤ stop = omega arith in
          let q = f.none i in
          ap some_conds (list_empty ws stop e (omega arith)) ∙ sym (ap (λ cs. last (first_cond cs)) (list_empty ws stop j i))

  pub lasts_all : (head ≡ 9 → ⊥) → Lasts ws head stop j j
  lasts_all n = record { low = omega arith; first = λ h. absurd (n h); all = λ k. refl }

pub ruleset lasts_ends = (lasts_first, lasts_all)
