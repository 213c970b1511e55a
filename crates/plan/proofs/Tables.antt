-- What a plan's table is after a form more.
use mathlib.Core.Path.{◌≡◌, refl, sym, ap, ap₂, ◌∙◌}
use mathlib.Core.List.{List, [], ◌∷◌, ◌++◌, map, map-append}
use mathlib.Core.Bool.{Bool, true, false, cond}
use Prim.Native.Nat.{ℕ, suc, ◌+◌, ◌-◌, ◌≤◌, ◌<◌}
use native.Mathlib.Omega.{arith}
use borrow.Author.Tests.{lt-ltb}
use lib.Dec.{eqb}
use lib.ListN.{length, get_or, set}
use lib.Seq.{get_or-set_same, get_or-set_other}
use Rattle.lists.specs.Lists.{count_from}
use Rattle.lists.proofs.Counting.{count_more, map_alike}
use Rattle.syntax.specs.Grammar.{Cond, numbered_fn}
use Rattle.model.specs.Queries.{Compare, Table}
use Rattle.model.specs.Meaning.{picked, pairs, equality, aggregated}
use Rattle.model.specs.Grants.{limit, limited}
use Rattle.model.proofs.Rewriting.{limited_none}
use Rattle.model.proofs.Tables.{limited_more}
use Rattle.nodes.specs.Nodes.{conditions_of, list_in}
use Rattle.grant.specs.Grants.{limit_of}
use Rattle.query.specs.declared.Form.{Form}
use Rattle.query.specs.Forms.{Words, coded_col, cond_at}
use Rattle.plan.specs.declared.Plan.{Plan}
use Rattle.plan.specs.Plans.{no_view, view_of, view_limits, with_rows, with_pick, with_keep, with_join, with_aggregate, with_view, picks_in, inner_end, right_conds, left_conds, pair_conds, outer_conds, inner_table, figure_table}
use Rattle.plan.proofs.Limits.{same_swap, picked_last, limited_last, picked_before, limited_before}

-- ---- its picks

module _ (w : Words) where
  pub picks_none : (p : Plan) (a : ℕ) → picks_in w p a a ≡ []
  unfolding picks_in count_from
  picks_none p a = let z : a - a ≡ 0 = omega arith in rw z refl

  module _ (p q : Plan) (n k : ℕ) (e : q.picks ≡ set p.picks n k) where
    pub picks_kept : (a b : ℕ) → b ≤ n → picks_in w q a b ≡ picks_in w p a b
    unfolding picks_in
    picks_kept a b h =
        map_alike (λ i. cond_at w.own (get_or q.picks i 0)) (λ i. cond_at w.own (get_or p.picks i 0)) a (b - a)
        (λ i l u. ap (cond_at w.own) (ap (λ xs. get_or xs i 0) e ∙ get_or-set_other p.picks n i k 0 (λ z. omega arith)))

    pub picks_more : (a : ℕ) → a ≤ n → n < length p.picks → picks_in w q a (suc n) ≡ picks_in w p a n ++ (cond_at w.own k ∷ [])
    unfolding picks_in
    picks_more a h l =
        let m : suc n - a ≡ suc (n - a) = omega arith in
        let z : a + (n - a) ≡ n = omega arith in
        let f : ℕ → Cond Compare = λ i. cond_at w.own (get_or q.picks i 0) in
        ap (λ j. map f (count_from a j)) m
        ∙ (ap (map f) (count_more a (n - a))
        ∙ (map-append f (count_from a (n - a)) ((a + (n - a)) ∷ [])
        ∙ ap₂ ◌++◌ (picks_kept a n (omega arith))
        (ap (λ c. c ∷ []) (ap f z ∙ ap (cond_at w.own) (ap (λ xs. get_or xs n 0) e ∙ get_or-set_same p.picks n k 0 l)))))

  pub view_none : view_limits w no_view ≡ []
  unfolding view_limits no_view conditions_of list_in limit_of limit
  view_none = refl

-- ---- its conditions by cases

module _ (w : Words) (p : Plan) where
  pub left_of_joined : p.joined ≡ true → left_conds w p ≡ picks_in w p p.rights p.lefts ++ view_limits w p.lview
  unfolding left_conds
  left_of_joined j = ap (λ b. cond b (picks_in w p p.rights p.lefts ++ view_limits w p.lview) (picks_in w p p.rights (inner_end p) ++ view_limits w p.view)) j

  pub left_of_alone : p.joined ≡ false → left_conds w p ≡ picks_in w p p.rights (inner_end p) ++ view_limits w p.view
  unfolding left_conds
  left_of_alone j = ap (λ b. cond b (picks_in w p p.rights p.lefts ++ view_limits w p.lview) (picks_in w p p.rights (inner_end p) ++ view_limits w p.view)) j

  pub ended_plain : eqb p.number 0 ≡ true → inner_end p ≡ p.count
  unfolding inner_end
  ended_plain z = ap (λ b. cond b p.count p.uppers) z

  pub ended_figures : eqb p.number 0 ≡ false → inner_end p ≡ p.uppers
  unfolding inner_end
  ended_figures z = ap (λ b. cond b p.count p.uppers) z

module _ (tab : ℕ → Table) (w : Words) (p : Plan) where
  abbrev pub pair_table : Table
  pair_table = pairs (limited (left_conds w p) (tab p.left)) (limited (right_conds w p) (tab p.right))

  abbrev pub link : Cond Compare
  link = equality (coded_col p.first) (coded_col p.second)

  pub inner_joined : p.joined ≡ true → inner_table tab w p ≡ limited (pair_conds w p ++ (link ∷ [])) pair_table
  unfolding inner_table
  inner_joined j = ap (λ b. cond b (limited (pair_conds w p ++ (link ∷ [])) pair_table) (limited (left_conds w p) (tab p.left))) j

  pub inner_alone : p.joined ≡ false → inner_table tab w p ≡ limited (left_conds w p) (tab p.left)
  unfolding inner_table
  inner_alone j = ap (λ b. cond b (limited (pair_conds w p ++ (link ∷ [])) pair_table) (limited (left_conds w p) (tab p.left))) j

-- ---- its table

-- rows below an aggregate, or figures
unfoldable pub result : ℕ → (ℕ → Table) → Words → Plan → Table
result clock tab w p = cond (eqb p.number 0) (inner_table tab w p) (figure_table clock tab w p)

module _ (clock : ℕ) (tab : ℕ → Table) (w : Words) (p : Plan) where
  pub result_plain : eqb p.number 0 ≡ true → result clock tab w p ≡ inner_table tab w p
  unfolding result
  result_plain z = ap (λ b. cond b (inner_table tab w p) (figure_table clock tab w p)) z

  pub result_figures : eqb p.number 0 ≡ false → result clock tab w p ≡ figure_table clock tab w p
  unfolding result
  result_figures z = ap (λ b. cond b (inner_table tab w p) (figure_table clock tab w p)) z

-- its places are in order
pub record Placed (p : Plan) (n : ℕ) : Type 0 where
  pub room : length p.picks ≡ 12
  pub counted : p.count ≡ n
  pub starts : p.start ≤ p.rights
  pub right : p.rights ≤ p.count
  pub left : p.lefts ≤ p.count
  pub upper : p.uppers ≤ p.count

module _ (clock : ℕ) (tab : ℕ → Table) (w : Words) where
  -- ---- a pick

  module _ (f : Form) (p : Plan) (n : ℕ) (h : Placed p n) (l : p.count < 12) where
    abbrev q : Plan
    q = with_pick f p

    abbrev c : Cond Compare
    c = cond_at w.own f.first

    stored : q.picks ≡ set p.picks p.count f.first
    unfolding with_pick
    stored = rw (lt-ltb p.count 12 l) refl

    pub counted_on : q.count ≡ suc p.count
    unfolding with_pick
    counted_on = rw (lt-ltb p.count 12 l) refl

    pub pick_kept : (a b : ℕ) → b ≤ p.count → picks_in w q a b ≡ picks_in w p a b
    pick_kept a b = picks_kept w p q p.count f.first stored a b

    pub pick_more : (a : ℕ) → a ≤ p.count → picks_in w q a q.count ≡ picks_in w p a p.count ++ (c ∷ [])
    pick_more a k = ap (picks_in w q a) counted_on ∙ picks_more w p q p.count f.first stored a k (omega (arith, h.room, l))

    pub right_same : right_conds w q ≡ right_conds w p
    unfolding right_conds with_pick
    right_same = ap (λ l. l ++ view_limits w p.rview) (pick_kept p.start p.rights h.right)

    left_joined : p.joined ≡ true → left_conds w q ≡ left_conds w p
    unfolding with_pick
    left_joined j = left_of_joined w q j ∙ (ap (λ l. l ++ view_limits w p.lview) (pick_kept p.rights p.lefts h.left) ∙ sym (left_of_joined w p j))

    pair_same : p.joined ≡ true → pair_table tab w q ≡ pair_table tab w p
    unfolding with_pick
    pair_same j = ap₂ (λ l r. pairs (limited l (tab p.left)) (limited r (tab p.right))) (left_joined j) right_same

    -- below an aggregate nothing changes
    module _ (z : eqb p.number 0 ≡ false) where
      below : (a : ℕ) → picks_in w q a (inner_end q) ≡ picks_in w p a (inner_end p)
      unfolding with_pick
      below a = ap (picks_in w q a) (ended_figures w q z) ∙ (pick_kept a p.uppers h.upper ∙ sym (ap (picks_in w p a) (ended_figures w p z)))

      pair_kept : pair_conds w q ≡ pair_conds w p
      unfolding pair_conds with_pick
      pair_kept = ap (λ l. l ++ view_limits w p.view) (below p.lefts)

      inner_kept : inner_table tab w q ≡ inner_table tab w p
      inner_kept = go p.joined refl
        where
          go : (b : Bool) → p.joined ≡ b → inner_table tab w q ≡ inner_table tab w p
          go true j = unfold with_pick in inner_joined tab w q j ∙ (ap₂ (λ l t. limited (l ++ (link tab w p ∷ [])) t) pair_kept (pair_same j) ∙ sym (inner_joined tab w p j))
          go false j =
              unfold with_pick in inner_alone tab w q j
              ∙ (ap (λ l. limited l (tab p.left)) (left_of_alone w q j ∙ (ap (λ l. l ++ view_limits w p.view) (below p.rights) ∙ sym (left_of_alone w p j)))
              ∙ sym (inner_alone tab w p j))

    -- where there is none, the condition is one more of the stream's or of the joined rows
    module _ (z : eqb p.number 0 ≡ true) where
      above : (a : ℕ) → a ≤ p.count → picks_in w q a (inner_end q) ≡ picks_in w p a (inner_end p) ++ (c ∷ [])
      unfolding with_pick
      above a k = ap (picks_in w q a) (ended_plain w q z) ∙ (pick_more a k ∙ sym (ap (λ e. picks_in w p a e ++ (c ∷ [])) (ended_plain w p z)))

      pub alone_more : p.joined ≡ false → left_conds w q ≡ (picks_in w p p.rights (inner_end p) ++ (c ∷ [])) ++ view_limits w p.view
      unfolding with_pick
      alone_more j = left_of_alone w q j ∙ ap (λ l. l ++ view_limits w p.view) (above p.rights h.right)

      pub inner_more : picked c (inner_table tab w p) ≡ inner_table tab w q
      inner_more = go p.joined refl
        where
          go : (b : Bool) → p.joined ≡ b → picked c (inner_table tab w p) ≡ inner_table tab w q
          go true j =
              unfold with_pick pair_conds in ap (picked c) (inner_joined tab w p j)
              ∙ (picked_before c (link tab w p) (picks_in w p p.lefts (inner_end p)) (view_limits w p.view) (pair_table tab w p)
              ∙ sym (inner_joined tab w q j ∙ ap₂ (λ l t. limited ((l ++ view_limits w p.view) ++ (link tab w p ∷ [])) t) (above p.lefts h.left) (pair_same j)))
          go false j =
              unfold with_pick in ap (picked c) (inner_alone tab w p j ∙ ap (λ l. limited l (tab p.left)) (left_of_alone w p j))
              ∙ (picked_last c (picks_in w p p.rights (inner_end p)) (view_limits w p.view) (tab p.left)
              ∙ sym (inner_alone tab w q j ∙ ap (λ l. limited l (tab p.left)) (alone_more j)))

    figures_more : eqb p.number 0 ≡ false → picked c (figure_table clock tab w p) ≡ figure_table clock tab w q
    unfolding figure_table outer_conds with_pick
    figures_more z =
        let f : Table → Table = λ t. aggregated clock (numbered_fn p.number) (coded_col p.column) p.size p.offset t in
        let outer : picks_in w q p.uppers q.count ≡ picks_in w p p.uppers p.count ++ (c ∷ []) = pick_more p.uppers h.upper in
        limited_more c (picks_in w p p.uppers p.count) (f (inner_table tab w p))
        ∙ (same_swap (c ∷ []) (picks_in w p p.uppers p.count) (f (inner_table tab w p))
        ∙ sym (ap₂ (λ l t. limited l (f t)) outer (inner_kept z)))

    pub pick_result : picked c (result clock tab w p) ≡ result clock tab w q
    pick_result = go (eqb p.number 0) refl
      where
        go : (b : Bool) → eqb p.number 0 ≡ b → picked c (result clock tab w p) ≡ result clock tab w q
        go true z = unfold with_pick in ap (picked c) (result_plain clock tab w p z) ∙ (inner_more z ∙ sym (result_plain clock tab w q z))
        go false z = unfold with_pick in ap (picked c) (result_figures clock tab w p z) ∙ (figures_more z ∙ sym (result_figures clock tab w q z))

  -- ---- a keep changes the columns alone

  pub keep_result : (f : Form) (p : Plan) → result clock tab w p ≡ result clock tab w (with_keep f p)
  unfolding result inner_table figure_table left_conds pair_conds right_conds outer_conds inner_end picks_in with_keep
  keep_result f p = refl

  -- ---- a stream

  pub rows_result : (ns : List ℕ) (f : Form) (p : Plan) → tab f.first ≡ result clock tab w (with_rows ns f p)
  unfolding with_rows
  rows_result ns f p =
      let q = with_rows ns f p in
      sym (result_plain clock tab w q refl
      ∙ (inner_alone tab w q refl
      ∙ (ap (λ l. limited l (tab f.first)) (left_of_alone w q refl ∙ ap₂ ◌++◌ (ap (picks_in w q p.count) (ended_plain w q refl) ∙ picks_none w q p.count) (view_none w))
      ∙ limited_none (tab f.first))))

  -- ---- a grant's view, where there is none yet

  module _ (f : Form) (p : Plan) (z : eqb p.number 0 ≡ true) (v : p.view ≡ no_view) where
    abbrev seen : Plan
    seen = with_view f p

    abbrev vs : List (Cond Compare)
    vs = view_limits w (view_of f)

    unseen : view_limits w p.view ≡ []
    unseen = ap (view_limits w) v ∙ view_none w

    same_end : inner_end seen ≡ inner_end p
    unfolding with_view inner_end
    same_end = refl

    same_picks : (a : ℕ) → picks_in w seen a (inner_end seen) ≡ picks_in w p a (inner_end p)
    unfolding with_view inner_end picks_in
    same_picks a = refl

    same_pair : p.joined ≡ true → pair_table tab w seen ≡ pair_table tab w p
    unfolding with_view right_conds picks_in
    same_pair j = ap (λ l. pairs (limited l (tab p.left)) (limited (right_conds w p) (tab p.right))) (left_of_joined w seen j ∙ sym (left_of_joined w p j))

    pub view_result : limited vs (result clock tab w p) ≡ result clock tab w seen
    view_result = ap (limited vs) (result_plain clock tab w p z) ∙ (go p.joined refl ∙ sym (unfold with_view in result_plain clock tab w seen z))
      where
        go : (b : Bool) → p.joined ≡ b → limited vs (inner_table tab w p) ≡ inner_table tab w seen
        go true j =
            unfold with_view pair_conds in ap (limited vs) (inner_joined tab w p j ∙ ap (λ l. limited ((picks_in w p p.lefts (inner_end p) ++ l) ++ (link tab w p ∷ [])) (pair_table tab w p)) unseen)
            ∙ (limited_before vs (picks_in w p p.lefts (inner_end p)) (link tab w p) (pair_table tab w p)
            ∙ sym (inner_joined tab w seen j ∙ ap₂ (λ l t. limited ((l ++ vs) ++ (link tab w p ∷ [])) t) (same_picks p.lefts) (same_pair j)))
        go false j =
            unfold with_view in ap (limited vs) (inner_alone tab w p j ∙ ap (λ l. limited l (tab p.left)) (left_of_alone w p j ∙ ap (λ l. picks_in w p p.rights (inner_end p) ++ l) unseen))
            ∙ (limited_last vs (picks_in w p p.rights (inner_end p)) (tab p.left)
            ∙ sym (inner_alone tab w seen j ∙ ap (λ l. limited l (tab p.left)) (left_of_alone w seen j ∙ ap (λ l. l ++ vs) (same_picks p.rights))))

  -- ---- a join of two sides

  module _ (f : Form) (p : Plan) where
    abbrev both : Plan
    both = with_join f p

    abbrev side_conds : List (Cond Compare)
    side_conds = picks_in w p p.rights p.count ++ view_limits w p.view

    pub join-result :
        limited (equality (coded_col f.first) (coded_col f.second) ∷ []) (pairs (limited side_conds (tab p.left)) (limited (right_conds w p) (tab p.right)))
        ≡ result clock tab w both
    unfolding with_join pair_conds right_conds picks_in
    join-result =
        let none : picks_in w both p.count (inner_end both) ≡ [] = ap (picks_in w both p.count) (ended_plain w both refl) ∙ picks_none w both p.count in
        sym (result_plain clock tab w both refl
        ∙ (inner_joined tab w both refl
        ∙ ap₂ (λ l m. limited (l ++ (equality (coded_col f.first) (coded_col f.second) ∷ [])) (pairs (limited m (tab p.left)) (limited (right_conds w p) (tab p.right))))
        (ap₂ ◌++◌ none (view_none w)) (left_of_joined w both refl)))

  -- ---- an aggregate

  module _ (f : Form) (p : Plan) (z : eqb p.number 0 ≡ true) (n : eqb f.first 0 ≡ false) where
    abbrev figured : Plan
    figured = with_aggregate f p

    ends : inner_end figured ≡ inner_end p
    unfolding with_aggregate
    ends = ended_figures w figured n ∙ sym (ended_plain w p z)

    inner_figured : inner_table tab w figured ≡ inner_table tab w p
    inner_figured = go p.joined refl
      where
        go : (b : Bool) → p.joined ≡ b → inner_table tab w figured ≡ inner_table tab w p
        go true j =
            unfold with_aggregate pair_conds right_conds picks_in in inner_joined tab w figured j
            ∙ (ap₂ (λ e m. limited ((picks_in w p p.lefts e ++ view_limits w p.view) ++ (link tab w p ∷ [])) (pairs (limited m (tab p.left)) (limited (right_conds w p) (tab p.right))))
            ends (left_of_joined w figured j ∙ sym (left_of_joined w p j))
            ∙ sym (inner_joined tab w p j))
        go false j =
            unfold with_aggregate picks_in in inner_alone tab w figured j
            ∙ (ap (λ l. limited l (tab p.left)) (left_of_alone w figured j ∙ (ap (λ e. picks_in w p p.rights e ++ view_limits w p.view) ends ∙ sym (left_of_alone w p j)))
            ∙ sym (inner_alone tab w p j))

    pub aggregate-result :
        aggregated clock (numbered_fn f.first) (coded_col f.second) f.third f.fourth (result clock tab w p) ≡ result clock tab w figured
    unfolding with_aggregate figure_table outer_conds
    aggregate-result =
        let g : Table → Table = aggregated clock (numbered_fn f.first) (coded_col f.second) f.third f.fourth in
        ap g (result_plain clock tab w p z)
        ∙ sym (result_figures clock tab w figured n
        ∙ (ap₂ (λ l t. limited l (g t)) (picks_none w figured p.count) inner_figured
        ∙ limited_none (g (inner_table tab w p))))
