-- How deep conditions nest, found by walking back from the last node to the first: what is left to look at, inside the conditions around a node.
use mathlib.Core.Path.{◌≡◌, refl, sym, ap, ap₂, ◌∙◌}
use mathlib.Core.List.{List, [], ◌∷◌, ◌++◌}
use mathlib.Core.Bool.{Bool, true, false, ◌&&◌, and-true, and-false}
use Prim.Native.Nat.{ℕ, zero, suc, ◌+◌, ◌*◌, ◌-◌, ◌≤◌, ◌<◌}
use native.Mathlib.Numerals.{add-one}
use native.Mathlib.Decide.{dec_lt}
use native.Mathlib.Omega.{arith}
use lib.Dec.{T, leb, leb→le, eqb→eq}
use lib.ListN.{length, get_or, set, replicate, length-set, length-replicate}
use lib.Seq.{get_or-set_same, get_or-set_other}
use borrow.Author.Tests.{eq-eqb, ne_eqb, le-leb, lt-leb}
use Rattle.lists.specs.Lists.{every}
use Rattle.lists.proofs.Laws.{parts}
use Rattle.syntax.specs.Grammar.{Cond}
use Rattle.syntax.specs.Limits.{cond_depth, conds_depth}
use Rattle.model.specs.Queries.{Compare}
use Rattle.nodes.specs.declared.Node.{Node}
use Rattle.nodes.specs.Nodes.{node_of, node_at, link, some_conds, first_cond, headed, conditions_of, comparing, reaches, all_sound, max_nesting, shallow_conds}
use Rattle.nodes.proofs.Reaching.{link_falls, reaches_step, reaches_stop, reaches_fuel, cond_of, list_before, list_off, list_last, cond_on}
use Rattle.nodes.proofs.Stored.{Passes}
use Rattle.nodes.proofs.Depths.{every_snoc, depth_some, list_depth}
use Rattle.nodes.proofs.Conditions.{Inner, headed_test, by_node, before_falls, link_inner}

-- ---- how deep a head makes its condition

-- a condition inside d others is not too deep
abbrev fits : ℕ → Cond Compare → Bool
fits d c = leb (d + cond_depth c) max_nesting

test_depth : (n : Node) (cs : List (Cond Compare)) → T (comparing n) → cond_depth (headed n cs) ≡ 1
unfolding cond_depth
test_depth n cs c = ap cond_depth (headed_test n cs c)

no_test : (n : Node) → 7 ≤ n.head → T (comparing n) → ⊥
unfolding comparing
no_test n h c = let l = leb→le n.head 6 (search parts) in omega arith

-- one deeper than those inside
deeper : (d : ℕ) (c : Cond Compare) (cs : List (Cond Compare)) → leb (d + suc (conds_depth (some_conds (c ∷ cs)))) max_nesting ≡ every (fits (suc d)) (c ∷ cs)
unfolding some_conds
deeper d c cs =
    let e : d + suc (conds_depth (some_conds (c ∷ cs))) ≡ suc d + conds_depth (some_conds (c ∷ cs)) = omega arith in
    rw e (sym (list_depth (suc d) max_nesting c cs))

headed_list : (d : ℕ) (n : Node) (c : Cond Compare) (cs : List (Cond Compare)) → 7 ≤ n.head → n.head < 9 → fits d (headed n (c ∷ cs)) ≡ every (fits (suc d)) (c ∷ cs)
unfolding headed cond_depth
headed_list d n c cs low high = go (dec_lt n.head 8)
  where
    go : Dec (n.head < 8) → fits d (headed n (c ∷ cs)) ≡ every (fits (suc d)) (c ∷ cs)
    go (yes a) = let e : n.head ≡ 7 = omega arith in rw (eq-eqb n.head 7 e) (deeper d c cs)
    go (no a) = let e : n.head ≡ 8 = omega arith in rw (ne_eqb n.head 7 (λ i. omega arith), eq-eqb n.head 8 e) (deeper d c cs)

headed_not : (d : ℕ) (n : Node) (c : Cond Compare) → n.head ≡ 9 → fits d (headed n (c ∷ [])) ≡ every (fits (suc d)) (c ∷ [])
unfolding headed cond_depth first_cond every
headed_not d n c e =
    let f : d + suc (cond_depth c) ≡ suc d + cond_depth c = omega arith in
    rw (ne_eqb n.head 7 (λ i. omega arith), ne_eqb n.head 8 (λ i. omega arith), eq-eqb n.head 9 e, f) (sym (and-true (leb (suc d + cond_depth c) max_nesting)))

module _ (ws : List ℕ) where
  -- ---- what is left

  -- how many words stand before each condition around, the innermost first; 0 where there is none
  unfoldable base : List ℕ → ℕ
  base [] = 0
  base (b ∷ bs) = b

  -- below the innermost
  unfoldable outer : List ℕ → Bool
  outer [] = true
  outer (b ∷ bs) = every (fits (length bs)) (list_before ws (base bs) b []) && outer bs

  unfoldable Reached : List ℕ → Type 0
  Reached [] = Unit {0}
  Reached (b ∷ bs) = T (reaches (suc b) ws (base bs) b) × Reached bs

  -- from a place on
  abbrev left : List ℕ → ℕ → Bool
  left bs k = every (fits (length bs)) (list_before ws (base bs) k []) && outer bs

  -- the walk over the first n words has come to a place
  pub record Left (ok : Node → Bool) (n : ℕ) (bs : List ℕ) (k : ℕ) : Type 0 where
    same : shallow_conds (conditions_of ws n) ≡ left bs k
    passes : Passes ok ws k
    down : T (reaches (suc k) ws (base bs) k)
    rest : Reached bs

  none_around : (cs : List (Cond Compare)) → shallow_conds cs ≡ every (fits 0) cs
  unfolding shallow_conds every
  none_around [] = refl
  none_around (c ∷ cs) =
      let e : cond_depth c ≡ 0 + cond_depth c = omega arith in
      ap₂ (λ d b. leb d max_nesting && b) e (none_around cs)

  left_start : (ok : Node → Bool) (n : ℕ) → Passes ok ws n → T (reaches (suc n) ws 0 n) → Left ok n [] n
  unfolding base outer Reached conditions_of
  left_start ok n p r = record { same = none_around (list_before ws 0 n []) ∙ sym (and-true (every (fits 0) (list_before ws 0 n []))); passes = p; down = r; rest = tt }

  none_fits : (d : ℕ) → every (fits d) [] ≡ true
  unfolding every
  none_fits d = refl

  module _ {ok : Node → Bool} {n k : ℕ} where
    -- the innermost ends
    left_out : {b : ℕ} {bs : List ℕ} → Left ok n (b ∷ bs) k → k ≤ b → Left ok n bs k
    unfolding base outer Reached
    left_out {b} {bs} l h =
        let e : k ≡ b = eqb→eq k b (rw (reaches_stop ws k b k h) at l.down) in
        record {
          same = l.same ∙ ap (λ cs. every (fits (suc (length bs))) cs && outer (b ∷ bs)) (list_off ws b k [] h) ∙ ap (λ x. x && outer (b ∷ bs)) (none_fits (suc (length bs))) ∙ rw e;
          passes = l.passes;
          down = rw e l.rest.0;
          rest = l.rest.1;
        }

    -- nothing is left at place 0
    left_none : (bs : List ℕ) → k ≤ 0 → Left ok n bs k → true ≡ shallow_conds (conditions_of ws n)
    unfolding base outer
    left_none [] h l = sym (l.same ∙ ap (λ cs. every (fits 0) cs && true) (list_off ws 0 k [] h) ∙ ap (λ x. x && true) (none_fits 0))
    left_none (b ∷ bs) h l = left_none bs h (left_out l (omega arith))

    module _ {bs : List ℕ} (l : Left ok n bs k) (h : base bs < k) where
      -- the conditions before the one that ends here
      abbrev earlier : Bool
      earlier = every (fits (length bs)) (list_before ws (base bs) (link ws k) [])

      -- the condition that ends here, and those before it
      split : left bs k ≡ ((earlier && fits (length bs) (cond_of ws k)) && outer bs)
      split = ap (λ cs. every (fits (length bs)) cs && outer bs) (list_last ws (base bs) k h) ∙ ap (λ x. x && outer bs) (every_snoc (fits (length bs)) (list_before ws (base bs) (link ws k) []) (cond_of ws k))

      before_down : T (reaches (suc (link ws k)) ws (base bs) (link ws k))
      before_down =
          let m = link_falls ws k in
          rw (reaches_step ws k (base bs) k h ∙ reaches_fuel ws k (suc (link ws k)) (base bs) (link ws k) (omega arith) (omega arith)) at l.down

      -- a comparison
      left_test : (node_at ws k).head < 7 → length bs < 6 → Left ok n bs (link ws k)
      left_test lt few =
          by_node ok ws k (omega arith) l.passes
          (λ c t q.
          let e : cond_depth (cond_of ws k) ≡ 1 = ap cond_depth (cond_on ws k (omega arith)) ∙ test_depth (node_at ws k) _ c in
          let f : fits (length bs) (cond_of ws k) ≡ true = le-leb (length bs + cond_depth (cond_of ws k)) 6 (omega arith) in
          record {
            same = l.same ∙ split ∙ ap (λ x. (earlier && x) && outer bs) f ∙ ap (λ x. x && outer bs) (and-true earlier);
            passes = q;
            down = before_down;
            rest = l.rest;
          })
          (λ i q. let low = i.low in absurd (omega arith))

      -- a condition of conditions
      module _ (i : Inner ws k (node_at ws k)) where
        abbrev inside : List (Cond Compare)
        inside = list_before ws (link ws k) (k - 1) []

        last_in : inside ≡ list_before ws (link ws k) (link ws (k - 1)) [] ++ (cond_of ws (k - 1) ∷ [])
        last_in = let u = i.up in let e = link_inner ws k u in list_last ws (link ws k) (k - 1) (omega arith)

        fits_inner : (d : ℕ) → fits d (cond_of ws k) ≡ every (fits (suc d)) inside
        fits_inner d = ap (fits d) (cond_on ws k (omega arith)) ∙ go (dec_lt (node_at ws k).head 9)
          where
            m : Node
            m = node_at ws k

            some : (cs : List (Cond Compare)) (c : Cond Compare) (xs : List (Cond Compare)) → xs ≡ cs ++ (c ∷ []) → m.head < 9 → fits d (headed m xs) ≡ every (fits (suc d)) xs
            some [] c xs e a = rw e (headed_list d m c [] i.low a)
            some (x ∷ cs) c xs e a = rw e (headed_list d m x (cs ++ (c ∷ [])) i.low a)

            go : Dec (m.head < 9) → fits d (headed m inside) ≡ every (fits (suc d)) inside
            go (yes a) = some (list_before ws (link ws k) (link ws (k - 1)) []) (cond_of ws (k - 1)) inside last_in a
            go (no a) =
                let u = i.up in
                let hi = i.high in
                let e = link_inner ws k u in
                let o = i.one (omega arith) in
                let s : inside ≡ cond_of ws (k - 1) ∷ [] = last_in ∙ ap (λ l. l ++ (cond_of ws (k - 1) ∷ [])) (list_off ws (link ws k) (link ws (k - 1)) [] (omega arith)) in
                rw s (headed_not d m (cond_of ws (k - 1)) (omega arith))

        turned : (a b c : Bool) → ((a && b) && c) ≡ (b && (a && c))
        turned true b c = refl
        turned false true c = refl
        turned false false c = refl

        inner_same : left bs k ≡ left (link ws k ∷ bs) (k - 1)
        unfolding base outer
        inner_same =
            split ∙ turned earlier (fits (length bs) (cond_of ws k)) (outer bs)
            ∙ ap (λ x. x && (earlier && outer bs)) (fits_inner (length bs))

        inner_left : Passes ok ws (k - 1) → Left ok n (link ws k ∷ bs) (k - 1)
        unfolding base Reached
        inner_left q =
            let u = i.up in
            let e = link_inner ws k u in
            let z : suc (k - 1) ≡ k = omega arith in
            record { same = l.same ∙ inner_same; passes = q; down = rw (z, e) i.down; rest = (before_down, l.rest) }

        -- it is too deep where five are around it
        inner_deep : 5 ≤ length bs → false ≡ shallow_conds (conditions_of ws n)
        inner_deep d =
            let t = depth_some (cond_of ws (k - 1)) in
            let o : fits (suc (length bs)) (cond_of ws (k - 1)) ≡ false = lt-leb (suc (length bs) + cond_depth (cond_of ws (k - 1))) 6 (omega arith) in
            let f : fits (length bs) (cond_of ws k) ≡ false =
            fits_inner (length bs) ∙ ap (every (fits (suc (length bs)))) last_in ∙ every_snoc (fits (suc (length bs))) (list_before ws (link ws k) (link ws (k - 1)) []) (cond_of ws (k - 1))
            ∙ ap (λ x. every (fits (suc (length bs))) (list_before ws (link ws k) (link ws (k - 1)) []) && x) o ∙ and-false (every (fits (suc (length bs))) (list_before ws (link ws k) (link ws (k - 1)) [])) in
            sym (l.same ∙ split ∙ ap (λ x. (earlier && x) && outer bs) f ∙ ap (λ x. x && outer bs) (and-false earlier))

      left_inner : 7 ≤ (node_at ws k).head → Left ok n (link ws k ∷ bs) (k - 1)
      left_inner ge = by_node ok ws k (omega arith) l.passes (λ c t q. absurd (no_test (node_at ws k) ge c)) (λ i q. inner_left i q)

      left_deep : 7 ≤ (node_at ws k).head → 5 ≤ length bs → false ≡ shallow_conds (conditions_of ws n)
      left_deep ge d = by_node ok ws k (omega arith) l.passes (λ c t q. absurd (no_test (node_at ws k) ge c)) (λ i q. inner_deep i d)

-- ---- those around in their array, from place 1 on

unfoldable pub stack : List ℕ → ℕ → List ℕ
stack around zero = []
stack around (suc d) = get_or around (suc d) 0 ∷ stack around d

stack_length : (around : List ℕ) (d : ℕ) → length (stack around d) ≡ d
unfolding stack
stack_length around zero = refl
stack_length around (suc d) = ap suc (stack_length around d)

stack_base : (ws around : List ℕ) (d : ℕ) → get_or around 0 0 ≡ 0 → base ws (stack around d) ≡ get_or around d 0
unfolding stack base
stack_base ws around zero e = sym e
stack_base ws around (suc d) e = refl

stack_set : (around : List ℕ) (i d v : ℕ) → d < i → stack (set around i v) d ≡ stack around d
unfolding stack
stack_set around i zero v h = refl
stack_set around i (suc d) v h = rw (get_or-set_other around i (suc d) v 0 (λ e. omega arith), stack_set around i d v (omega arith))

stack_push : (around : List ℕ) (d v : ℕ) → d + 1 < length around → stack (set around (d + 1) v) (d + 1) ≡ v ∷ stack around d
unfolding stack
stack_push around d v h = rw (add-one d, get_or-set_same around (suc d) v 0 (omega arith), stack_set around (suc d) d v (omega arith))

stack_out : (ws around : List ℕ) {ok : Node → Bool} {n k : ℕ} (d depth : ℕ) → suc d ≡ depth → k ≤ get_or around depth 0 → Left ws ok n (stack around depth) k → Left ws ok n (stack around d) k
unfolding stack
stack_out ws around {ok} {n} {k} d depth z l t =
    let u : Left ws ok n (stack around (suc d)) k = rw (sym z) at t in
    let m : k ≤ get_or around (suc d) 0 = rw (sym z) at l in
    left_out ws u m

-- ---- the loop

-- a fact of words that are sound but for how deep they nest
abbrev Else : List ℕ → ℕ → Type 0 → Type 0
Else ws n X = (ok : Node → Bool) → T (all_sound (suc n) ok ws n) → T (reaches (suc n) ws 0 n) → X

pub record Nests (ws : List ℕ) (n : ℕ) (around : List ℕ) (depth k : ℕ) : Type 0 where
  pub left : (ok : Node → Bool) → T (all_sound (suc n) ok ws n) → T (reaches (suc n) ws 0 n) → Left ws ok n (stack around depth) k
  pub nested : depth < 6
  pub long : length around ≡ 6
  pub first : get_or around 0 0 ≡ 0

pub nest_start : (ws : List ℕ) (n : ℕ) → Nests ws n (replicate 6 0) 0 n
unfolding stack
nest_start ws n = record { left = λ ok p r. left_start ws ok n p r; nested = omega arith; long = length-replicate {A = ℕ} 6 0; first = refl }

module _ (ws : List ℕ) (n : ℕ) (around : List ℕ) (depth k : ℕ) (inv : Nests ws n around depth k) where
  pub nest_end : k ≤ 0 → Else ws n (true ≡ shallow_conds (conditions_of ws n))
  nest_end h ok p r = left_none ws (stack around depth) h (inv.left ok p r)

  module _ (h : 0 < k) {t : ℕ} (top : t ≡ get_or around depth 0) where
    pub nest_some : k ≤ t → 1 ≤ depth
    nest_some l = go (dec_lt 0 depth)
      where
        go : Dec (0 < depth) → 1 ≤ depth
        go (yes a) = omega arith
        go (no a) =
            let z : depth ≡ 0 = omega arith in
            let m : get_or around depth 0 ≡ 0 = ap (λ d. get_or around d 0) z ∙ inv.first in
            omega arith

    pub nest_fewer : k ≤ t → 2 * k + (depth - 1) < 2 * k + depth
    nest_fewer l = let s = nest_some l in omega arith

    pub nest_out : k ≤ t → Nests ws n around (depth - 1) k
    nest_out l =
        let s = nest_some l in
        let d = inv.nested in
        let z : suc (depth - 1) ≡ depth = omega arith in
        record { left = λ ok p r. stack_out ws around (depth - 1) depth z (omega arith) (inv.left ok p r); nested = omega arith; long = inv.long; first = inv.first }

    module _ (up : t < k) {w : ℕ} (e : w ≡ get_or ws (k - 1) 0) {m : Node} (d : m ≡ node_of w 0) {b : ℕ} (f : b ≡ m.before) where
      head_is : (node_at ws k).head ≡ m.head
      unfolding node_at node_of
      head_is = rw (ne_eqb k 0 (λ z. omega arith), d, e)

      before_is : (node_at ws k).before ≡ b
      unfolding node_at node_of
      before_is = rw (ne_eqb k 0 (λ z. omega arith), f, d, e)

      above : base ws (stack around depth) < k
      above = let s = stack_base ws around depth inv.first in omega arith

      pub nest_astray : k ≤ b → Else ws n (false ≡ shallow_conds (conditions_of ws n))
      nest_astray l ok p r = let i = before_is in let g = before_falls ok ws k h (inv.left ok p r).passes in absurd (omega arith)

      module _ (below : b < k) where
        link_is : link ws k ≡ b
        unfolding link
        link_is = let i = before_is in omega arith

        pub nest_test : m.head < 7 → Nests ws n around depth b
        nest_test lt =
            let x = head_is in
            let s = stack_length around depth in
            let g = inv.nested in
            record {
              left = λ ok p r. rw link_is at (left_test ws (inv.left ok p r) above (omega arith) (omega arith));
              nested = inv.nested;
              long = inv.long;
              first = inv.first;
            }

        module _ (ge : 7 ≤ m.head) where
          pub nest_deep : depth + 1 ≡ 6 → Else ws n (false ≡ shallow_conds (conditions_of ws n))
          nest_deep z ok p r =
              let x = head_is in
              let s = stack_length around depth in
              left_deep ws (inv.left ok p r) above (omega arith) (omega arith)

          pub nest_inner : (depth + 1 ≡ 6 → ⊥) → Nests ws n (set around (depth + 1) m.before) (depth + 1) (k - 1)
          nest_inner z =
              let x = head_is in
              let g = inv.nested in
              let o = inv.long in
              let q : depth + 1 < length around = omega arith in
              record {
                left = λ ok p r. rw (stack_push around depth m.before q) (rw (link_is ∙ f) at (left_inner ws (inv.left ok p r) above (omega arith)));
                nested = omega arith;
                long = length-set around (depth + 1) m.before ∙ inv.long;
                first = get_or-set_other around (depth + 1) 0 m.before 0 (λ i. omega arith) ∙ inv.first;
              }

pub ruleset nest_ends = (nest_start, nest_end, nest_some, nest_fewer, nest_out, nest_astray, nest_test, nest_deep, nest_inner)
