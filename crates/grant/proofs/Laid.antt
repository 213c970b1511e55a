-- Words that may be lent are laid out as a stored list, and the conditions that they stand for are those of a grant over the columns of the mask.
use mathlib.Core.Path.{◌≡◌, refl, sym, ap, ap₂, ◌∙◌, subst}
use mathlib.Core.List.{List, [], ◌∷◌, ◌++◌}
use mathlib.Core.Bool.{Bool, true, false, ◌&&◌, ◌||◌, not}
use Prim.Native.Nat.{ℕ, zero, suc, ◌+◌, ◌*◌, ◌-◌, ◌≤◌, ◌<◌}
use native.Mathlib.Decide.{dec_lt}
use native.Mathlib.Omega.{arith}
use lib.Dec.{T, eqb, leb, ltb, leb→le, ltb→lt, eqb→eq}
use lib.ListN.{length, length-append}
use borrow.Author.Tests.{eq-eqb, ne_eqb}
use Rattle.lists.specs.Lists.{every, gather}
use Rattle.lists.proofs.Laws.{and_true, and_l, and_r, or_cases, parts, true_T, T_true, append_nil, gather_append, and_four}
use Rattle.lists.proofs.Gathers.{every_append_same}
use Rattle.syntax.specs.Grammar.{Cond}
use Rattle.model.specs.Conditions.{tests, tests_of, conds_of}
use Rattle.model.specs.Queries.{Compare}
use Rattle.nodes.specs.declared.Node.{Node}
use Rattle.nodes.specs.Nodes.{node_at, node_words, node_compare, link, some_conds, first_cond, headed, conditions_of, comparing, reaches, linked, terms_sound, node_sound, all_sound, shallow_conds, nodes_sound}
use Rattle.nodes.proofs.Puts.{words_some}
use Rattle.nodes.proofs.Reaching.{link_falls, reaches_step, reaches_stop, reaches_fuel, cond_of, list_before, list_off, list_last, cond_on}
use Rattle.nodes.proofs.Conditions.{headed_test}
use Rattle.nodes.proofs.Words.{value_zero}
use Rattle.grant.specs.Grants.{linked_from, laid_out}
use Rattle.grant.proofs.Compared.{compare_fit, terms_are, cond_fit, conditions_are}

-- ---- nodes

pub one_word : (n : Node) → n.right ≡ 0 → node_words n ≡ 1
unfolding node_words
one_word n e = rw e

-- a link that is not too far is the node's own
pub link_is : (ws : List ℕ) (k : ℕ) → (node_at ws k).before < k → link ws k ≡ (node_at ws k).before
unfolding link
link_is ws k h = omega arith

-- ---- comparisons of a head

some_tests : (c : Cond Compare) (cs : List (Cond Compare)) → tests_of (conds_of c cs) ≡ gather tests (c ∷ cs)
unfolding tests conds_of gather
some_tests c [] = sym (append_nil (tests c))
some_tests c (d ∷ ds) = ap (λ l. tests c ++ l) (some_tests d ds)

pub headed_compare : (n : Node) (cs : List (Cond Compare)) → T (comparing n) → tests (headed n cs) ≡ node_compare n ∷ []
unfolding tests
headed_compare n cs c = ap tests (headed_test n cs c)

pub headed_list : (n : Node) (cs : List (Cond Compare)) → 0 < length cs → 7 ≤ n.head → n.head < 9 → tests (headed n cs) ≡ gather tests cs
unfolding headed tests some_conds
headed_list n [] some low high = absurd (omega arith)
headed_list n (c ∷ cs) some low high = go (dec_lt n.head 8)
  where
    go : Dec (n.head < 8) → tests (headed n (c ∷ cs)) ≡ gather tests (c ∷ cs)
    go (yes a) = let e : n.head ≡ 7 = omega arith in rw (eq-eqb n.head 7 e) (some_tests c cs)
    go (no a) = let e : n.head ≡ 8 = omega arith in rw (ne_eqb n.head 7 (λ i. omega arith), eq-eqb n.head 8 e) (some_tests c cs)

pub headed_one : (n : Node) (c : Cond Compare) → n.head ≡ 9 → tests (headed n (c ∷ [])) ≡ gather tests (c ∷ [])
unfolding headed tests first_cond gather
headed_one n c e = rw (ne_eqb n.head 7 (λ i. omega arith), ne_eqb n.head 8 (λ i. omega arith), eq-eqb n.head 9 e) (sym (append_nil (tests c)))

-- a head with the conditions inside it
pub heads_inner : (ws : List ℕ) (k : ℕ) → T (ltb (node_at ws k).head 9 || eqb (link ws (k - 1)) (node_at ws k).before) → 7 ≤ (node_at ws k).head → (node_at ws k).head ≤ 9 → (node_at ws k).before < k - 1
    → tests (headed (node_at ws k) (list_before ws (node_at ws k).before (k - 1) [])) ≡ gather tests (list_before ws (node_at ws k).before (k - 1) [])
heads_inner ws k t low high up = go (dec_lt (node_at ws k).head 9)
  where
    b : ℕ
    b = (node_at ws k).before

    go : Dec ((node_at ws k).head < 9) → tests (headed (node_at ws k) (list_before ws b (k - 1) [])) ≡ gather tests (list_before ws b (k - 1) [])
    go (yes m) = headed_list (node_at ws k) (list_before ws b (k - 1) []) (rw (list_last ws b (k - 1) up) (omega (arith, length-append (list_before ws b (link ws (k - 1)) []) (cond_of ws (k - 1) ∷ [])))) low m
    go (no m) =
        or_cases (ltb (node_at ws k).head 9) (eqb (link ws (k - 1)) b) t (λ a. let x = ltb→lt (node_at ws k).head 9 a in absurd (omega arith))
        (λ a. let e = eqb→eq (link ws (k - 1)) b a in
        let s : list_before ws b (k - 1) [] ≡ cond_of ws (k - 1) ∷ [] = list_last ws b (k - 1) up ∙ ap (λ l. l ++ (cond_of ws (k - 1) ∷ [])) (list_off ws b (link ws (k - 1)) [] (omega arith)) in
        rw s (headed_one (node_at ws k) (cond_of ws (k - 1)) (omega arith)))

module _ (ws : List ℕ) where
  -- ---- a test of every node, from the one that ends at a place back to the first

  abbrev pub prior : ℕ → ℕ
  prior k = k - node_words (node_at ws k)

  unfoldable pub walk : (ℕ → Bool) → ℕ → ℕ → Bool
  walk p zero k = true
  walk p (suc f) k = elim (eqb k 0) [ true ↦ true | false ↦ p k && walk p f (prior k) ]

  pub prior_falls : (k : ℕ) → 0 < k → prior k < k
  prior_falls k h = let w = words_some (node_at ws k) in omega arith

  module _ (p : ℕ → Bool) where
    walk_step : (f k : ℕ) → 0 < k → walk p (suc f) k ≡ (p k && walk p f (prior k))
    unfolding walk
    walk_step f k h = let e = ne_eqb k 0 (λ z. omega arith) in rw (e, walk)

    walk_none : (f k : ℕ) → k ≡ 0 → walk p (suc f) k ≡ true
    unfolding walk
    walk_none f k e = let i = eq-eqb k 0 e in rw (i, walk)

    walk_fuel : (f g k : ℕ) → k < f → k < g → walk p f k ≡ walk p g k
    walk_fuel zero g k h l = absurd (omega arith)
    walk_fuel (suc f) zero k h l = absurd (omega arith)
    walk_fuel (suc f) (suc g) k h l = go (dec_lt 0 k) (λ m. walk_fuel f g (prior k) (let r = prior_falls k m in omega arith) (let r = prior_falls k m in omega arith))
      where
        go : Dec (0 < k) → (0 < k → walk p f (prior k) ≡ walk p g (prior k)) → walk p (suc f) k ≡ walk p (suc g) k
        go (yes m) i = walk_step f k m ∙ ap (λ b. p k && b) (i m) ∙ sym (walk_step g k m)
        go (no m) i = walk_none f k (omega arith) ∙ sym (walk_none g k (omega arith))

    -- with steps enough
    abbrev pub back : ℕ → Bool
    back k = walk p (suc k) k

    pub back_on : (k : ℕ) → 0 < k → back k ≡ (p k && back (prior k))
    back_on k h = let r = prior_falls k h in walk_step k k h ∙ ap (λ b. p k && b) (walk_fuel k (suc (prior k)) (prior k) (omega arith) (omega arith))

  walk_both : (p q : ℕ → Bool) (f k : ℕ) → walk (λ k. p k && q k) f k ≡ (walk p f k && walk q f k)
  walk_both p q zero k = unfold walk in refl
  walk_both p q (suc f) k = go (dec_lt 0 k) (walk_both p q f (prior k))
    where
      go : Dec (0 < k) → walk (λ k. p k && q k) f (prior k) ≡ (walk p f (prior k) && walk q f (prior k)) → walk (λ k. p k && q k) (suc f) k ≡ (walk p (suc f) k && walk q (suc f) k)
      go (yes m) e =
          walk_step (λ k. p k && q k) f k m ∙ ap (λ b. (p k && q k) && b) e ∙ and_four (p k) (q k) (walk p f (prior k)) (walk q f (prior k))
          ∙ sym (ap₂ ◌&&◌ (walk_step p f k m) (walk_step q f k m))
      go (no m) e = walk_none (λ k. p k && q k) f k (omega arith) ∙ sym (ap₂ ◌&&◌ (walk_none p f k (omega arith)) (walk_none q f k (omega arith)))

  abbrev pub linked_at : ℕ → Bool
  linked_at k = linked ws k (node_at ws k)

  pub linked_walk : (f k : ℕ) → linked_from f ws k ≡ walk linked_at f k
  unfolding linked_from all_sound node_sound walk
  linked_walk zero k = refl
  linked_walk (suc f) k = go (eqb k 0) (linked_walk f (prior k))
    where
      untested : (a c : Bool) → (a && (not c || true)) ≡ a
      untested true true = refl
      untested true false = refl
      untested false c = refl

      go : (b : Bool) → all_sound f (λ n. true) ws (prior k) ≡ walk linked_at f (prior k)
          → ◌≡◌ {A = Bool} (elim b [ true ↦ true | false ↦ (linked_at k && (not (comparing (node_at ws k)) || true)) && all_sound f (λ n. true) ws (prior k) ]) (elim b [ true ↦ true | false ↦ linked_at k && walk linked_at f (prior k) ])
      go true e = refl
      go false e = ap₂ ◌&&◌ (untested (linked_at k) (comparing (node_at ws k))) e

  abbrev fit_at : ℕ → ℕ → Bool
  fit_at mask k = not (comparing (node_at ws k)) || terms_sound mask (node_at ws k)

  sound_walk : (mask f k : ℕ) → all_sound f (terms_sound mask) ws k ≡ walk (λ k. linked_at k && fit_at mask k) f k
  unfolding all_sound walk node_sound
  sound_walk mask zero k = refl
  sound_walk mask (suc f) k = go (eqb k 0) (sound_walk mask f (prior k))
    where
      on : Bool → Bool
      on x = (linked_at k && fit_at mask k) && x

      go : (b : Bool) → all_sound f (terms_sound mask) ws (prior k) ≡ walk (λ k. linked_at k && fit_at mask k) f (prior k)
          → ◌≡◌ {A = Bool} (elim b [ true ↦ true | false ↦ on (all_sound f (terms_sound mask) ws (prior k)) ]) (elim b [ true ↦ true | false ↦ on (walk (λ k. linked_at k && fit_at mask k) f (prior k)) ])
      go true e = refl
      go false e = ap on e

  -- ---- what stands between two places

  module _ (mask : ℕ) where
    abbrev fits : ℕ → Bool
    fits k = back (fit_at mask) k

    -- some conditions stand between place i and place k
    record Between (i k : ℕ) (cs : List (Cond Compare)) : Type 0 where
      compared : fits k ≡ (fits i && every (compare_fit mask) (gather tests cs))
      rest : T (back linked_at i)

    and_swap : (a b : Bool) → (a && b) ≡ (b && (a && true))
    and_swap true true = refl
    and_swap true false = refl
    and_swap false true = refl
    and_swap false false = refl

    and_assoc : (a b c : Bool) → ((a && b) && c) ≡ (a && (b && c))
    and_assoc true b c = refl
    and_assoc false b c = refl

    -- a comparison
    compare_between : (k : ℕ) → 0 < k → T (comparing (node_at ws k)) → T (linked_at k) → T (back linked_at (prior k)) → Between (link ws k) k (cond_of ws k ∷ [])
    unfolding linked gather every
    compare_between k h c l r =
        let n = node_at ws k in
        let w = words_some n in
        let t = T_true (comparing n) c in
        let e = eqb→eq (n.before + node_words n) k (rw t at l) in
        let i : link ws k ≡ prior k = link_is ws k (omega arith) ∙ omega arith in
        let f : fits k ≡ (terms_sound mask n && fits (prior k)) = back_on (fit_at mask) k h ∙ rw t in
        let u : tests (cond_of ws k) ≡ node_compare n ∷ [] = ap tests (cond_on ws k h) ∙ headed_compare n _ c in
        let v : every (compare_fit mask) (gather tests (cond_of ws k ∷ [])) ≡ (compare_fit mask (node_compare n) && true) = rw (append_nil (tests (cond_of ws k)), u) in
        record {
          compared = f ∙ ap (λ b. b && fits (prior k)) (terms_are mask n (value_zero ws k)) ∙ and_swap (compare_fit mask (node_compare n)) (fits (prior k)) ∙ sym (ap₂ (λ j b. fits j && b) i v);
          rest = rw i r;
        }

    -- a condition with conditions inside
    inner_between : (k : ℕ) → 0 < k → comparing (node_at ws k) ≡ false → T (linked_at k)
        → ((b : ℕ) → b < k - 1 → reaches k ws b (k - 1) ≡ true → T (back linked_at (k - 1)) → Between b (k - 1) (list_before ws b (k - 1) []))
        → T (back linked_at (prior k)) → Between (link ws k) k (cond_of ws k ∷ [])
    unfolding linked gather
    inner_between k h c l inside r =
        let n = node_at ws k in
        let b = n.before in
        let t : T (eqb n.right 0 && leb 7 n.head && leb n.head 9 && ltb (suc b) k && reaches k ws b (k - 1) && (ltb n.head 9 || eqb (link ws (k - 1)) b)) = rw c at l in
        let one = one_word n (eqb→eq n.right 0 (search parts depth 9)) in
        let low = leb→le 7 n.head (search parts depth 9) in
        let high = leb→le n.head 9 (search parts depth 9) in
        let up = ltb→lt (suc b) k (search parts depth 9) in
        let p : prior k ≡ k - 1 = omega arith in
        let z : Between b (k - 1) (list_before ws b (k - 1) []) = inside b (omega arith) (T_true (reaches k ws b (k - 1)) (search parts depth 9)) (rw p at r) in
        let i : link ws k ≡ b = link_is ws k (omega arith) in
        let f : fits k ≡ fits (k - 1) = back_on (fit_at mask) k h ∙ rw (c, p) in
        let u : tests (cond_of ws k) ≡ gather tests (list_before ws b (k - 1) []) = ap tests (cond_on ws k h) ∙ ap (λ j. tests (headed n (list_before ws j (k - 1) []))) i ∙ heads_inner ws k (and_r (eqb n.right 0 && leb 7 n.head && leb n.head 9 && ltb (suc b) k && reaches k ws b (k - 1)) (ltb n.head 9 || eqb (link ws (k - 1)) b) t) low high (omega arith) in
        record {
          compared = f ∙ z.compared ∙ sym (ap₂ (λ j l. fits j && every (compare_fit mask) l) i (append_nil (tests (cond_of ws k)) ∙ u));
          rest = rw i z.rest;
        }

    list_join : (stop i j : ℕ) → stop < j → link ws j ≡ i → Between stop i (list_before ws stop i []) → Between i j (cond_of ws j ∷ []) → Between stop j (list_before ws stop j [])
    list_join stop i j h e x y =
        let a = every (compare_fit mask) (gather tests (list_before ws stop i [])) in
        let b = every (compare_fit mask) (gather tests (cond_of ws j ∷ [])) in
        let s : list_before ws stop j [] ≡ list_before ws stop i [] ++ (cond_of ws j ∷ []) = list_last ws stop j h ∙ ap (λ i. list_before ws stop i [] ++ (cond_of ws j ∷ [])) e in
        let g : every (compare_fit mask) (gather tests (list_before ws stop j [])) ≡ (a && b) =
        ap (λ l. every (compare_fit mask) (gather tests l)) s ∙ ap (every (compare_fit mask)) (gather_append tests (list_before ws stop i []) (cond_of ws j ∷ []))
        ∙ every_append_same (compare_fit mask) (gather tests (list_before ws stop i [])) (gather tests (cond_of ws j ∷ [])) in
        record {
          compared = y.compared ∙ ap (λ c. c && b) x.compared ∙ and_assoc (fits stop) a b ∙ sym (ap (λ c. fits stop && c) g);
          rest = x.rest;
        }

    none_compared : (stop : ℕ) → fits stop ≡ (fits stop && every (compare_fit mask) (gather tests []))
    unfolding gather every
    none_compared stop = sym (and_true (fits stop))

    mutual
      cond_between : (f k : ℕ) → 2 * k ≤ f → 0 < k → T (back linked_at k) → Between (link ws k) k (cond_of ws k ∷ [])
      cond_between zero k l h t = absurd (omega arith)
      cond_between (suc f) k l h t =
          let u : T (linked_at k && back linked_at (prior k)) = subst T (back_on linked_at k h) t in
          by (comparing (node_at ws k)) refl (and_l (linked_at k) _ u) (and_r (linked_at k) _ u) (λ b m e s. list_between f b (k - 1) (omega arith) s (let z : suc (k - 1) ≡ k = omega arith in ap (λ n. reaches n ws b (k - 1)) z ∙ e))
        where
          by : (c : Bool) → comparing (node_at ws k) ≡ c → T (linked_at k) → T (back linked_at (prior k))
              → ((b : ℕ) → b < k - 1 → reaches k ws b (k - 1) ≡ true → T (back linked_at (k - 1)) → Between b (k - 1) (list_before ws b (k - 1) []))
              → Between (link ws k) k (cond_of ws k ∷ [])
          by true e x y i = compare_between k h (rw e tt) x y
          by false e x y i = inner_between k h e x i y

      list_between : (f stop j : ℕ) → 2 * j + 1 ≤ f → T (back linked_at j) → reaches (suc j) ws stop j ≡ true → Between stop j (list_before ws stop j [])
      list_between zero stop j l t r = absurd (omega arith)
      list_between (suc f) stop j l t r =
          go (dec_lt stop j)
          (λ h. cond_between f j (omega arith) (omega arith) t)
          (λ h i s. list_between f stop (link ws j) (let m = link_falls ws j in omega arith) s i)
        where
          go : Dec (stop < j) → (stop < j → Between (link ws j) j (cond_of ws j ∷ [])) → (stop < j → reaches (suc (link ws j)) ws stop (link ws j) ≡ true → T (back linked_at (link ws j)) → Between stop (link ws j) (list_before ws stop (link ws j) []))
              → Between stop j (list_before ws stop j [])
          go (yes h) c x =
              let m = link_falls ws j in
              let e : reaches (suc (link ws j)) ws stop (link ws j) ≡ true = reaches_fuel ws (suc (link ws j)) j stop (link ws j) (omega arith) (omega arith) ∙ sym (reaches_step ws j stop j h) ∙ r in
              list_join stop (link ws j) j h refl (x h e (c h).rest) (c h)
          go (no h) c x =
              let e : j ≡ stop = eqb→eq j stop (true_T (eqb j stop) (sym (reaches_stop ws j stop j (omega arith)) ∙ r)) in
              record {
                compared = rw (list_off ws stop j [] (omega arith)) (ap fits e ∙ none_compared stop);
                rest = rw e at t;
              }

    laid_fits : (n : ℕ) → T (back linked_at n) → reaches (suc n) ws 0 n ≡ true → fits n ≡ every (cond_fit mask) (conditions_of ws n)
    unfolding conditions_of
    laid_fits n t r =
        let z = list_between (2 * n + 1) 0 n (omega arith) t r in
        z.compared ∙ ap (λ b. b && every (compare_fit mask) (gather tests (list_before ws 0 n []))) (walk_none (fit_at mask) 0 0 refl) ∙ sym (conditions_are mask (list_before ws 0 n []))

pub nodes_are : (mask : ℕ) (ws : List ℕ) (n : ℕ) → nodes_sound mask ws n ≡ (laid_out ws n && every (cond_fit mask) (conditions_of ws n))
unfolding nodes_sound laid_out
nodes_are mask ws n =
    rw (sound_walk ws mask (suc n) n ∙ walk_both ws (linked_at ws) (fit_at ws mask) (suc n) n, linked_walk ws (suc n) n)
    (go (back ws (linked_at ws) n) (reaches (suc n) ws 0 n) refl refl)
  where
    shallow : Bool
    shallow = shallow_conds (conditions_of ws n)

    turned : (x y : Bool) → ((x && true) && y) ≡ (y && x)
    turned true true = refl
    turned true false = refl
    turned false true = refl
    turned false false = refl

    none : (x : Bool) → (x && false) ≡ false
    none true = refl
    none false = refl

    go : (a r : Bool) → back ws (linked_at ws) n ≡ a → reaches (suc n) ws 0 n ≡ r → (((a && back ws (fit_at ws mask) n) && r) && shallow) ≡ (((a && r) && shallow) && every (cond_fit mask) (conditions_of ws n))
    go true true e f = turned (back ws (fit_at ws mask) n) shallow ∙ ap (λ x. shallow && x) (laid_fits ws mask n (rw e tt) f)
    go true false e f = ap (λ x. x && shallow) (none (back ws (fit_at ws mask) n))
    go false r e f = refl
