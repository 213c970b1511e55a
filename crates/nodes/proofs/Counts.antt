-- How many nodes conditions take: those of sound words, at most one for each word.
use mathlib.Core.Path.{◌≡◌, ap}
use mathlib.Core.List.{List, [], ◌∷◌}
use mathlib.Core.Bool.{Bool, true, false, cond}
use Prim.Native.Nat.{ℕ, zero, suc, ◌+◌, ◌*◌, ◌-◌, ◌≤◌, ◌<◌}
use native.Mathlib.Decide.{dec_lt}
use native.Mathlib.Omega.{arith}
use lib.Dec.{T, eqb, eqb→eq}
use Rattle.lists.proofs.Laws.{parts}
use Rattle.syntax.specs.Grammar.{Cond, test, all, any, neg, Conds, last, more}
use Rattle.model.specs.Conditions.{conds_of}
use Rattle.model.specs.Queries.{Compare}
use Rattle.nodes.specs.declared.Node.{Node}
use Rattle.nodes.specs.Nodes.{node_at, node_compare, link, some_conds, first_cond, headed, cond_in, list_in, conditions_of, comparing, reaches, terms_sound, nodes_sound}
use Rattle.nodes.proofs.Reaching.{link_falls, list_step, list_stop, reaches_step, reaches_stop}
use Rattle.nodes.proofs.Stored.{Passes}
use Rattle.nodes.proofs.Conditions.{headed_test, link_inner, by_node, link_passed}

-- one for each comparison, `and`, `or` and `not`
module _ {A : Type 0} where
  unfoldable mutual
    pub node_count : Cond A → ℕ
    node_count (test a) = 1
    node_count (all cs) = suc (node_counts cs)
    node_count (any cs) = suc (node_counts cs)
    node_count (neg c) = suc (node_count c)

    pub node_counts : Conds A → ℕ
    node_counts (last c) = node_count c
    node_counts (more c cs) = node_count c + node_counts cs

  unfoldable pub list_count : List (Cond A) → ℕ
  list_count [] = 0
  list_count (c ∷ cs) = node_count c + list_count cs

-- ---- a head takes one node more than what is inside

count_of : (c : Cond Compare) (cs : List (Cond Compare)) → node_counts (conds_of c cs) ≡ list_count (c ∷ cs)
unfolding conds_of node_count list_count
count_of c [] = omega arith
count_of c (d ∷ cs) = let e = count_of d cs in omega arith

-- where m words are inside, one or more; an empty list would stand for one comparison
module _ (m : ℕ) (some : 1 ≤ m) where
  some_count : (cs : List (Cond Compare)) → list_count cs ≤ m → node_counts (some_conds cs) ≤ m
  unfolding some_conds node_count
  some_count [] h = some
  some_count (c ∷ cs) h = let e = count_of c cs in omega arith

  first_count : (cs : List (Cond Compare)) → list_count cs ≤ m → node_count (first_cond cs) ≤ m
  unfolding first_cond node_count list_count
  first_count [] h = some
  first_count (c ∷ cs) h = omega arith

  headed_count : (n : Node) (cs : List (Cond Compare)) → list_count cs ≤ m → node_count (headed n cs) ≤ suc m
  unfolding headed node_count
  headed_count n cs h = go (eqb n.head 7) (eqb n.head 8) (eqb n.head 9) (some_count cs h) (first_count cs h)
    where
      go : (a b c : Bool) → node_counts (some_conds cs) ≤ m → node_count (first_cond cs) ≤ m
          → node_count (cond a (all (some_conds cs)) (cond b (any (some_conds cs)) (cond c (neg (first_cond cs)) (test (node_compare n))))) ≤ suc m
      go true b c k l = omega arith
      go false true c k l = omega arith
      go false false true k l = omega arith
      go false false false k l = omega arith

test_count : (n : Node) (cs : List (Cond Compare)) → T (comparing n) → node_count (headed n cs) ≡ 1
unfolding node_count
test_count n cs c = ap node_count (headed_test n cs c)

-- ---- each condition takes at most the words from its link on

module _ (ok : Node → Bool) (ws : List ℕ) where
  mutual
    unfolding cond_in list_count reaches

    cond_few : (f k : ℕ) → 0 < k → 2 * k ≤ f → Passes ok ws k → link ws k + node_count (cond_in f ws k) ≤ k
    cond_few zero k h l p = absurd (omega arith)
    cond_few (suc f) k h l p =
        by_node ok ws k h p (λ c t q. let e = test_count (node_at ws k) (list_in f ws (link ws k) (k - 1) []) c in let l = link_falls ws k in omega arith)
        (λ i q.
        let u = i.up in
        let e = link_inner ws k u in
        let d = i.down in
        let r = list_few f k (link ws k) (k - 1) [] (omega arith) q (rw e d) in
        let c = headed_count (k - 1 - link ws k) (omega arith) (node_at ws k) (list_in f ws (link ws k) (k - 1) []) (omega arith) in
        omega arith)

    list_few : (f g stop j : ℕ) (cs : List (Cond Compare)) → 2 * j + 1 ≤ f → Passes ok ws j → T (reaches g ws stop j) → stop + list_count (list_in f ws stop j cs) ≤ j + list_count cs
    list_few zero g stop j cs l p t = absurd (omega arith)
    list_few (suc f) zero stop j cs l p t = absurd t
    list_few (suc f) (suc g) stop j cs l p t =
        go (dec_lt stop j)
        (λ a r. list_few f g stop (link ws j) (cond_in f ws j ∷ cs) (omega (arith, link_falls ws j)) (link_passed ok ws j (omega arith) p) r)
        (λ a. cond_few f j (omega arith) (omega arith) p)
      where
        go : Dec (stop < j) → (stop < j → T (reaches g ws stop (link ws j)) → stop + list_count (list_in f ws stop (link ws j) (cond_in f ws j ∷ cs)) ≤ link ws j + list_count (cond_in f ws j ∷ cs))
            → (stop < j → link ws j + node_count (cond_in f ws j) ≤ j) → stop + list_count (list_in (suc f) ws stop j cs) ≤ j + list_count cs
        go (yes a) i c =
            let r = i a (rw (reaches_step ws g stop j a) at t) in
            let s = c a in
            rw (list_step ws f stop j cs a) (omega arith)
        go (no a) i c =
            let e : j ≡ stop = eqb→eq j stop (rw (reaches_stop ws g stop j (omega arith)) at t) in
            rw (list_stop ws f stop j cs (omega arith)) (omega arith)

-- the conditions of n sound words take at most n nodes
pub few_nodes : (mask : ℕ) (ws : List ℕ) (n : ℕ) → T (nodes_sound mask ws n) → list_count (conditions_of ws n) ≤ n
unfolding nodes_sound conditions_of list_count
few_nodes mask ws n t = let h = list_few (terms_sound mask) ws (2 * n + 1) (suc n) 0 n [] (omega arith) (search parts) (search parts) in omega arith
