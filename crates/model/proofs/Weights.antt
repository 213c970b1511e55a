-- How much larger a rewritten query is than its query, by any count that is a sum over forms.
use mathlib.Core.Path.{◌≡◌, refl}
use mathlib.Core.List.{List, [], ◌∷◌, ◌++◌}
use mathlib.Core.Bool.{Bool, true, false, cond}
use Prim.Native.Nat.{ℕ, ◌+◌, ◌*◌, ◌≤◌}
use native.Mathlib.Omega.{arith}
use lib.Dec.{T}
use Rattle.lists.specs.Lists.{select}
use Rattle.lists.proofs.Laws.{parts, All, all_nil, all_cons, all_select, all_weaken}
use Rattle.syntax.specs.Grammar.{Cond, all, Fn}
use Rattle.model.specs.Conditions.{conds_of}
use Rattle.model.specs.Queries.{Schema, Col, columns_of, Compare, Query, source, pick, keep, join, aggregate, sources, picks, header, forms, Grant, Caller}
use Rattle.model.specs.Grants.{belongs, limits, shown_of}
use Rattle.model.specs.Checks.{has, side, allowed}
use Rattle.model.specs.Routes.{bare, Source, Route, Numbered, present, picked_by, seen, single, columns, keeping, over_view, summed, routes}
use Rattle.model.specs.Rewriting.{under, defined, expand, rewritten}
use Rattle.model.proofs.Ways.{line, by_form}

-- what each form adds; a keep adds `keep_cost` and the cost of its columns
pub record Costs : Type 0 where
  pub source_cost : ℕ → ℕ
  pub pick_cost : Cond Compare → ℕ
  pub col_cost : Col → ℕ
  pub keep_cost : ℕ
  pub join_cost : Col → Col → ℕ
  pub fn_cost : Fn → Col → ℕ → ℕ → ℕ

module _ (k : Costs) where
  unfoldable pub cols_cost : List Col → ℕ
  cols_cost [] = 0
  cols_cost (c ∷ cs) = k.col_cost c + cols_cost cs

  -- that of a view's pick, which is absent where the grant has no condition
  unfoldable pub under_cost : List (Cond Compare) → ℕ
  under_cost [] = 0
  under_cost (c ∷ cs) = k.pick_cost (all (conds_of c cs))

  unfoldable pub weight : Query ℕ → ℕ
  weight (source s) = k.source_cost s
  weight (pick c q) = k.pick_cost c + weight q
  weight (keep cs q) = k.keep_cost + cols_cost cs + weight q
  weight (join a b q r) = k.join_cost a b + weight q + weight r
  weight (aggregate f c size offset q) = k.fn_cost f c size offset + weight q

  picks_cost : List (Cond Compare) → ℕ
  picks_cost [] = 0
  picks_cost (c ∷ cs) = k.pick_cost c + picks_cost cs

  pub cols_append : (cs ds : List Col) → cols_cost (cs ++ ds) ≡ cols_cost cs + cols_cost ds
  unfolding cols_cost
  cols_append [] ds = omega arith
  cols_append (c ∷ cs) ds = let h = cols_append cs ds in omega arith

  pub cols_select : (p : Col → Bool) (cs : List Col) → cols_cost (select p cs) ≤ cols_cost cs
  unfolding cols_cost select
  cols_select p [] = omega arith
  cols_select p (c ∷ cs) = go (p c) (cols_select p cs)
    where
      go : (b : Bool) → cols_cost (select p cs) ≤ cols_cost cs → cols_cost (cond b (c ∷ select p cs) (select p cs)) ≤ k.col_cost c + cols_cost cs
      go true h = omega arith
      go false h = omega arith

  weight_under : (cs : List (Cond Compare)) (q : Query ℕ) → weight (under cs q) ≡ under_cost cs + weight q
  unfolding weight under under_cost
  weight_under [] q = omega arith
  weight_under (c ∷ cs) q = omega arith

  weight_bare : (q : Query ℕ) → weight (bare q) ≤ weight q
  unfolding weight bare
  weight_bare (source s) = omega arith
  weight_bare (pick c q) = let h = weight_bare q in omega arith
  weight_bare (keep cs q) = let h = weight_bare q in omega arith
  weight_bare (join a b q r) = let h = weight_bare q in let i = weight_bare r in omega arith
  weight_bare (aggregate f c size offset q) = let h = weight_bare q in omega arith

module _ (d : Schema) (who : Caller) (catalogue : List Grant) (k : Costs) (S N : ℕ)
    (of-stream : (s : ℕ) → cols_cost k (columns_of d s) ≤ S)
    (of-grants : All (λ (g : Grant). T (belongs who g) → k.keep_cost + cols_cost k (shown_of d g) + under_cost k (limits who g) ≤ N) catalogue)
    (of_pair : k.keep_cost + 2 * S ≤ N) where
  -- a grant's view adds at most N
  abbrev Bounded : Grant → Type 0
  Bounded g = k.keep_cost + cols_cost k (shown_of d g) + under_cost k (limits who g) ≤ N

  weight_seen : (q : Query ℕ) (n : Numbered) → Bounded n.grant → weight k (line d who (seen q n)) ≤ weight k (bare q) + N
  unfolding seen expand defined weight
  weight_seen q n b = let h = weight_under k (limits who n.grant) (bare q) in omega arith

  weight_picks : (cs : List (Cond Compare)) (x : Query Source) → weight k (line d who (picked_by cs x)) ≡ picks_cost k cs + weight k (line d who x)
  unfolding picked_by expand weight picks_cost
  weight_picks [] x = omega arith
  weight_picks (c ∷ cs) x = let h = weight_picks cs x in omega arith

  weight_keep : (cs : List Col) (x : Query Source) → weight k (line d who (keeping d cs x)) ≤ k.keep_cost + cols_cost k cs + weight k (line d who x)
  unfolding keeping expand weight present
  weight_keep cs x = let h = cols_select k (has (columns d x)) cs in omega arith

  -- what is left of a side where one view stands for both
  weight_side : (q : Query ℕ) → T (side q) → cols_cost k (header (columns_of d) q) + picks_cost k (picks q) + weight k (bare q) ≤ weight k q + S
  unfolding side header picks bare weight picks_cost
  weight_side (source s) w = let h = of-stream s in omega arith
  weight_side (pick c q) w = let h = weight_side q w in omega arith
  weight_side (keep cs q) w = let h = weight_side q w in omega arith
  weight_side (join a b q r) w = absurd w
  weight_side (aggregate f c size offset q) w = absurd w

  weight_over : (q : Query ℕ) (n : Numbered) → Bounded n.grant → T (allowed (columns_of d) q) → weight k (line d who (over_view d q n)) ≤ weight k q + 2 * N
  unfolding over_view expand weight allowed bare
  weight_over (source s) n b w = let h = weight_seen (source s) n b in omega arith
  weight_over (pick c q) n b w = let h = weight_over q n b (search parts) in omega arith
  weight_over (keep cs q) n b w = let h = weight_over q n b (search parts) in let i = weight_keep cs (over_view d q n) in omega arith
  weight_over (join x y q r) n b w =
      let v = seen (join x y q r) n in
      let h₁ = weight_keep (header (columns_of d) q ++ header (columns_of d) r) (picked_by (picks r) (picked_by (picks q) v)) in
      let h₂ = cols_append k (header (columns_of d) q) (header (columns_of d) r) in
      let h₃ = weight_picks (picks r) (picked_by (picks q) v) in
      let h₄ = weight_picks (picks q) v in
      let h₅ = weight_seen (join x y q r) n b in
      let h₆ = weight_side q (search parts) in
      let h₇ = weight_side r (search parts) in
      omega arith
  weight_over (aggregate f c size offset q) n b w = let h = weight_over q n b (search parts) in omega arith

  weight_summed : (q : Query ℕ) (n : Numbered) → Bounded n.grant → T (allowed (columns_of d) q) → weight k (line d who (summed d q n)) ≤ weight k q + 2 * N
  unfolding summed
  weight_summed q n b w = go (single (sources q))
    where
      go : (b : Bool) → weight k (line d who (cond b (seen q n) (over_view d q n))) ≤ weight k q + 2 * N
      go true = let h = weight_seen q n b in let i = weight_bare k q in omega arith
      go false = weight_over q n b w

  -- one view more for a side, two for others
  abbrev Light : Query ℕ → List Grant → Query Source → Type 0
  Light q gs x = T (allowed (columns_of d) q) → (weight k (line d who x) ≤ weight k q + 2 * N) × (T (side q) → weight k (line d who x) ≤ weight k q + N)

  -- The rewritten query of a route weighs at most two views more than its query.
  pub weighed : (q : Query ℕ) → T (allowed (columns_of d) q) → All (λ (r : Route). weight k (rewritten d who r) ≤ weight k q + 2 * N) (routes d who catalogue q)
  unfolding rewritten routes expand weight allowed side bare
  weighed q w =
      all_select _ (λ x t h. (h w).0)
      (by_form d who catalogue (λ g. T (belongs who g) → Bounded g) of-grants Light
      (λ s n g b t w. let h = weight_seen (source s) n (g b) in (omega arith, λ s. omega arith))
      (λ c q gs x t i w. let h = i (search parts) in let (h₀, h₁) = h in (omega arith, λ s. let h₂ = h₁ s in omega arith))
      (λ cs q gs x i w. let h = i (search parts) in let (h₀, h₁) = h in let l = weight_keep cs x in (omega arith, λ s. let h₂ = h₁ s in omega arith))
      (λ a b q r gs hs x y t i j w. let h = (i (search parts)).1 (search parts) in let l = (j (search parts)).1 (search parts) in (omega arith, λ s. absurd s))
      (λ a b q r n g o t w. (weight_over (join a b q r) n (g o) w, λ s. absurd s))
      (λ f c size offset q gs x t i w. let h = (i (search parts)).0 in (omega arith, λ s. absurd s))
      (λ f c size offset q n g b t w. let h = weight_summed q n (g b) (search parts) in (omega arith, λ s. absurd s)) q)

-- ---- forms

one_each : Costs
one_each = record { source_cost = λ s. 1; pick_cost = λ c. 1; col_cost = λ c. 0; keep_cost = 1; join_cost = λ a b. 1; fn_cost = λ f c size offset. 1 }

no_cols : (cs : List Col) → cols_cost one_each cs ≡ 0
unfolding cols_cost one_each
no_cols [] = refl
no_cols (c ∷ cs) = let h = no_cols cs in omega arith

one_pick : (cs : List (Cond Compare)) → under_cost one_each cs ≤ 1
unfolding under_cost one_each
one_pick [] = omega arith
one_pick (c ∷ cs) = omega arith

weight_forms : (q : Query ℕ) → weight one_each q ≡ forms q
unfolding weight one_each forms
weight_forms (source s) = refl
weight_forms (pick c q) = let h = weight_forms q in omega arith
weight_forms (keep cs q) = let h = weight_forms q in let l = no_cols cs in omega arith
weight_forms (join a b q r) = let h = weight_forms q in let i = weight_forms r in omega arith
weight_forms (aggregate f c size offset q) = let h = weight_forms q in omega arith

all_holds : {A : Type 0} {P : A → Type 0} → ((x : A) → P x) → (xs : List A) → All P xs
all_holds f [] = all_nil
all_holds f (x ∷ xs) = all_cons (f x) (all_holds f xs)

-- Twelve forms at most make sixteen at most.
pub sixteen_forms : (d : Schema) (who : Caller) (catalogue : List Grant) (q : Query ℕ) → T (allowed (columns_of d) q) → forms q ≤ 12
    → All (λ (r : Route). forms (rewritten d who r) ≤ 16) (routes d who catalogue q)
sixteen_forms d who catalogue q w t =
    all_weaken (λ r h. let i = weight_forms (rewritten d who r) in let j = weight_forms q in omega arith)
    (weighed d who catalogue one_each 0 2 (λ s. let h = no_cols (columns_of d s) in omega arith)
    (all_holds (λ g b. let h = no_cols (shown_of d g) in let i = one_pick (limits who g) in unfold one_each in omega arith) catalogue) (unfold one_each in omega arith) q w)
