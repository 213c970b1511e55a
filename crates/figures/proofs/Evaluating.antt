-- Conditions of an answer row, one and in lists.
use mathlib.Core.Path.{◌≡◌, refl, sym, ap, ◌∙◌}
use mathlib.Core.List.{List, [], ◌∷◌, map}
use mathlib.Core.Bool.{Bool, true, false, ◌&&◌, ◌||◌, not, cond}
use Prim.Native.Nat.{ℕ, zero, suc, ◌+◌, ◌*◌, ◌-◌, ◌≤◌, ◌<◌}
use native.Mathlib.Omega.{arith}
use native.Mathlib.Decide.{dec_lt}
use lib.Dec.{eqb}
use borrow.Author.Tests.{ne_eqb, eqb-true}
use Rattle.lists.specs.Lists.{every, some?, empty?}
use Rattle.syntax.specs.Grammar.{Cond, test, all, any, neg}
use Rattle.model.specs.Queries.{Compare}
use Rattle.model.specs.Conditions.{true_of, conds_of}
use Rattle.model.specs.Meaning.{holds, meaning_computes}
use Rattle.nodes.specs.declared.Node.{Node}
use Rattle.nodes.specs.Nodes.{node_at, no_node, numbered_op, coded_term, node_compare, link, some_conds, first_cond, headed, cond_in, list_in}
use Rattle.nodes.proofs.Reaching.{link_falls, cond_of, list_before, list_step, list_stop, list_on, list_off, cond_on}
use Rattle.nodes.proofs.Links.{First}
use Rattle.figures.specs.declared.Answer.{Answer}
use Rattle.figures.specs.Figures.{meets, tested, connecting, decisive, joined, Leading}

-- ---- heads

module _ (h : ℕ) where
  pub connect_and : h ≡ 7 → true ≡ connecting h
  unfolding connecting
  connect_and e = rw e

  pub connect_or : h ≡ 8 → true ≡ connecting h
  unfolding connecting
  connect_or e = rw e

  pub connect_not : (h ≡ 7 → ⊥) → (h ≡ 8 → ⊥) → eqb h 9 ≡ connecting h
  unfolding connecting
  connect_not a b = rw (ne_eqb h 7 a, ne_eqb h 8 b)

pub ruleset connect_ends = (connect_and, connect_or, connect_not)

module _ (any? b : Bool) where
  pub decide_any : any? ≡ true → b ≡ decisive any? b
  unfolding decisive
  decide_any e = rw e

  pub decide_all : any? ≡ false → not b ≡ decisive any? b
  unfolding decisive
  decide_all e = rw e

pub ruleset decide_ends = (decide_any, decide_all)

-- ---- lists of conditions

module _ (a : Answer) (any? : Bool) where
  unfoldable pub deciding : Cond Compare → Bool
  deciding c = decisive any? (meets a c)

  -- one that decides stays in the list
  some_kept : (f : ℕ) (ws : List ℕ) (stop j : ℕ) (cs : List (Cond Compare)) → some? deciding cs ≡ true → some? deciding (list_in f ws stop j cs) ≡ true
  unfolding cond_in some?
  some_kept zero ws stop j cs h = h
  some_kept (suc f) ws stop j cs h = go (dec_lt stop j) (some_kept f ws stop (link ws j) (cond_in f ws j ∷ cs) (or_true (deciding (cond_in f ws j)) h))
    where
      or_true : (b : Bool) {x : Bool} → x ≡ true → (b || x) ≡ true
      or_true true e = refl
      or_true false e = e

      go : Dec (stop < j) → some? deciding (list_in f ws stop (link ws j) (cond_in f ws j ∷ cs)) ≡ true → some? deciding (list_in (suc f) ws stop j cs) ≡ true
      go (yes l) e = ap (some? deciding) (list_step ws f stop j cs l) ∙ e
      go (no l) e = ap (some? deciding) (list_stop ws f stop j cs (omega arith)) ∙ h

module _ (a : Answer) where
  any_is : (c : Cond Compare) (cs : List (Cond Compare)) → meets a (any (conds_of c cs)) ≡ some? (deciding a true) (c ∷ cs)
  unfolding holds true_of conds_of some? deciding decisive
  any_is c [] = or_false (meets a c)
    where
      or_false : (b : Bool) → b ≡ (b || false)
      or_false true = refl
      or_false false = refl
  any_is c (d ∷ ds) = ap (λ b. meets a c || b) (any_is d ds)

  all_is : (c : Cond Compare) (cs : List (Cond Compare)) → meets a (all (conds_of c cs)) ≡ not (some? (deciding a false) (c ∷ cs))
  unfolding holds true_of conds_of some? deciding decisive
  all_is c [] = not_or (meets a c)
    where
      not_or : (b : Bool) → b ≡ not (not b || false)
      not_or true = refl
      not_or false = refl
  all_is c (d ∷ ds) = ap (λ b. meets a c && b) (all_is d ds) ∙ both (meets a c) (some? (deciding a false) (d ∷ ds))
    where
      both : (b x : Bool) → (b && not x) ≡ not (not b || x)
      both true x = refl
      both false x = refl

  joined_is : (any? : Bool) (cs : List (Cond Compare)) → empty? cs ≡ false → meets a (joined any? cs) ≡ cond any? (some? (deciding a any?) cs) (not (some? (deciding a any?) cs))
  unfolding joined some_conds empty?
  joined_is any? [] e = absurd (let z : ◌≡◌ {A = ℕ} 0 1 = cc in omega arith)
  joined_is true (c ∷ cs) e = any_is c cs
  joined_is false (c ∷ cs) e = all_is c cs

some_filled : {A : Type 0} (p : A → Bool) (xs : List A) → some? p xs ≡ true → empty? xs ≡ false
unfolding some? empty?
some_filled p [] e = absurd (let z : ◌≡◌ {A = ℕ} 0 1 = cc in omega arith)
some_filled p (x ∷ xs) e = refl

-- an empty list holds
empty_holds : (a : Answer) (any? : Bool) → true ≡ meets a (joined any? [])
unfolding joined some_conds node_compare no_node numbered_op coded_term meaning_computes
empty_holds a true = refl
empty_holds a false = refl

module _ (ws : List ℕ) (stop j : ℕ) (any? : Bool) (a : Answer) where
  abbrev items : List (Cond Compare)
  items = list_before ws stop j []

  -- the conditions behind a place, none of which decides
  pub record Listed (at : ℕ) : Type 0 where
    pub seen : List (Cond Compare)
    pub left : list_before ws stop j [] ≡ list_before ws stop at seen
    pub none : some? (deciding a any?) seen ≡ false
    pub some : at < j → empty? seen ≡ false
    pub low : at ≤ j

  pub list_none : j ≤ stop → true ≡ meets a (joined any? (list_before ws stop j []))
  list_none h = empty_holds a any? ∙ ap (λ cs. meets a (joined any? cs)) (sym (list_off ws stop j [] h))

  pub listed_start : Listed j
  unfolding some?
  listed_start = record { seen = []; left = refl; none = refl; some = λ h. absurd (omega arith); low = omega arith }

  module _ {at : ℕ} (l : Listed at) where
    pub listed_low : at ≤ j
    listed_low = l.low

    pub listed_falls : {b : ℕ} → stop < at → b ≡ link ws at → b < at
    listed_falls h e = let f = link_falls ws at in omega arith

    pub listed_hit : {x d : Bool} → stop < at → x ≡ meets a (cond_of ws at) → d ≡ decisive any? x → d ≡ true → any? ≡ meets a (joined any? (list_before ws stop j []))
    unfolding some? deciding
    listed_hit {x} {d} h e f g =
        let c : decisive any? (meets a (cond_of ws at)) ≡ true = ap (decisive any?) (sym e) ∙ sym f ∙ g in
        let s : some? (deciding a any?) (cond_of ws at ∷ l.seen) ≡ true = rw c in
        let t : some? (deciding a any?) (list_before ws stop j []) ≡ true = ap (some? (deciding a any?)) (l.left ∙ list_on ws stop at l.seen h) ∙ some_kept a any? (2 * link ws at + 1) ws stop (link ws at) (cond_of ws at ∷ l.seen) s in
        sym (joined_is a any? (list_before ws stop j []) (some_filled (deciding a any?) (list_before ws stop j []) t) ∙ rw t (go any?))
      where
        go : (b : Bool) → cond b true false ≡ b
        go true = refl
        go false = refl

    pub listed_more : {b : ℕ} {x d : Bool} → stop < at → x ≡ meets a (cond_of ws at) → d ≡ decisive any? x → d ≡ false → b ≡ link ws at → Listed b
    unfolding some? deciding empty?
    listed_more {b} {x} {d} h e f g i =
        let c : decisive any? (meets a (cond_of ws at)) ≡ false = ap (decisive any?) (sym e) ∙ sym f ∙ g in
        let k = listed_falls h i in
        let m = l.low in
        record {
          seen = cond_of ws at ∷ l.seen;
          left = l.left ∙ list_on ws stop at l.seen h ∙ ap (λ (n : ℕ). list_before ws stop n (cond_of ws at ∷ l.seen)) (sym i);
          none = rw c l.none;
          some = λ n. refl;
          low = omega arith;
        }

    pub listed_end : stop < j → at ≤ stop → not any? ≡ meets a (joined any? (list_before ws stop j []))
    listed_end h k =
        let e : list_before ws stop j [] ≡ l.seen = l.left ∙ list_off ws stop at l.seen k in
        sym (ap (λ cs. meets a (joined any? cs)) e ∙ joined_is a any? l.seen (l.some (omega arith)) ∙ rw l.none (go any?))
      where
        go : (b : Bool) → cond b false true ≡ not b
        go true = refl
        go false = refl

pub ruleset list_ends = (list_none, listed_start, listed_low, listed_falls, listed_hit, listed_more, listed_end)

-- ---- the first of a list

module _ (ws : List ℕ) (stop j : ℕ) where
  pub lead_none : j ≤ stop → Leading ws stop j 0
  unfolding first_cond cond_in
  lead_none h = record { within = omega arith; first = ap first_cond (list_off ws stop j [] h) }

  pub lead_made : {e : ℕ} → stop < j → First ws stop j e → Leading ws stop j e
  unfolding first_cond
  lead_made h f = record { within = f.low; first = ap first_cond (f.items h) }

-- ---- conditions by their heads

pub pass_none : (ws : List ℕ) (k : ℕ) (a : Answer) → k ≡ 0 → true ≡ meets a (cond_of ws k)
unfolding cond_in node_compare no_node numbered_op coded_term meaning_computes
pass_none ws k a e = rw e

module _ (ws : List ℕ) (k : ℕ) (a : Answer) (z : k ≡ 0 → ⊥) {n : Node} (e : n ≡ node_at ws k) where
  abbrev inner : List (Cond Compare)
  inner = list_before ws (link ws k) (k - 1) []

  whole : cond_of ws k ≡ headed n inner
  whole = cond_on ws k (omega arith) ∙ ap (λ (m : Node). headed m inner) (sym e)

  pub pass_test : {b r : Bool} → b ≡ connecting n.head → not b ≡ true → r ≡ tested a n → r ≡ meets a (cond_of ws k)
  unfolding connecting headed tested holds true_of
  pass_test {b} {r} f g h = h ∙ sym (ap (meets a) whole ∙ go (eqb n.head 7) (eqb n.head 8) (eqb n.head 9) f)
    where
      go : (x y w : Bool) → b ≡ (x || y || w) → meets a (cond x (all (some_conds inner)) (cond y (any (some_conds inner)) (cond w (neg (first_cond inner)) (test (node_compare n))))) ≡ tested a n
      go true y w f = absurd (let z : ◌≡◌ {A = ℕ} 0 1 = cc in omega arith)
      go false true w f = absurd (let z : ◌≡◌ {A = ℕ} 0 1 = cc in omega arith)
      go false false true f = absurd (let z : ◌≡◌ {A = ℕ} 0 1 = cc in omega arith)
      go false false false f = refl

  pub pass_not : {s i : ℕ} {x : Bool} → n.head ≡ 9 → s ≡ link ws k → Leading ws s (k - 1) i → x ≡ meets a (cond_of ws i) → not x ≡ meets a (cond_of ws k)
  unfolding headed holds true_of
  pass_not {s} {i} {x} h f l g =
      let q : first_cond inner ≡ cond_of ws i = ap (λ (m : ℕ). first_cond (list_before ws m (k - 1) [])) (sym f) ∙ l.first in
      sym (ap (meets a) whole ∙ rw h (ap (λ c. not (meets a c)) q ∙ ap not (sym g)))

  pub pass_list : {s : ℕ} {b r : Bool} → b ≡ connecting n.head → not b ≡ false → (n.head ≡ 9 → ⊥) → s ≡ link ws k → r ≡ meets a (joined (eqb n.head 8) (list_before ws s (k - 1) [])) → r ≡ meets a (cond_of ws k)
  unfolding connecting headed joined
  pass_list {s} {b} {r} f g h i r-is =
      let q : list_before ws s (k - 1) [] ≡ inner = ap (λ (m : ℕ). list_before ws m (k - 1) []) i in
      r-is ∙ ap (λ cs. meets a (joined (eqb n.head 8) cs)) q ∙ sym (ap (meets a) whole ∙ go (eqb n.head 7) refl (eqb n.head 8) refl (eqb n.head 9) (ne_eqb n.head 9 h) f)
    where
      go : (x : Bool) → eqb n.head 7 ≡ x → (y : Bool) → eqb n.head 8 ≡ y → (w : Bool) → w ≡ false → b ≡ (x || y || w)
          → meets a (cond x (all (some_conds inner)) (cond y (any (some_conds inner)) (cond w (neg (first_cond inner)) (test (node_compare n))))) ≡ meets a (cond y (any (some_conds inner)) (all (some_conds inner)))
      go true m true o w v f =
          let x = eqb-true n.head 7 m in
          let y = eqb-true n.head 8 o in
          absurd (omega arith)
      go true m false o w v f = refl
      go false m true o w v f = refl
      go false m false o true v f = absurd (let z : ◌≡◌ {A = ℕ} 0 1 = cc in omega arith)
      go false m false o false v f = absurd (let z : ◌≡◌ {A = ℕ} 0 1 = cc in omega arith)

pub ruleset pass_ends = (pass_none, pass_test, pass_not, pass_list)

-- ---- all conditions that apply

module _ (ws : List ℕ) (a : Answer) where
  pub mapped : (xs : List ℕ) → every (meets a) (map (λ k. cond_in (2 * k) ws k) xs) ≡ every (λ k. meets a (cond_of ws k)) xs
  unfolding every
  mapped [] = refl
  mapped (x ∷ xs) = ap (λ b. meets a (cond_of ws x) && b) (mapped xs)
