-- The comparisons of conditions that are laid out as stored ones are those of their nodes, walked back from the last.
use mathlib.Core.Path.{◌≡◌, refl, sym, ap, ap₂, ◌∙◌, subst}
use mathlib.Core.List.{List, [], ◌∷◌, ◌++◌, append_assoc}
use mathlib.Core.Bool.{Bool, true, false, ◌&&◌, ◌||◌}
use Prim.Native.Nat.{ℕ, zero, suc, ◌+◌, ◌*◌, ◌-◌, ◌≤◌, ◌<◌, min}
use native.Mathlib.Decide.{dec_lt}
use native.Mathlib.Omega.{arith}
use lib.Dec.{T, eqb, leb, ltb, leb→le, ltb→lt, eqb→eq}
use lib.ListN.{length, get_or}
use borrow.Author.Tests.{lt-ltb, le-ltb, ne_eqb}
use Rattle.lists.specs.Lists.{gather}
use Rattle.lists.proofs.Laws.{and_l, and_r, parts, true_T, T_true, append_nil, gather_append}
use Rattle.syntax.specs.Grammar.{Cond}
use Rattle.model.specs.Conditions.{tests}
use Rattle.model.specs.Queries.{Compare}
use Rattle.nodes.specs.Nodes.{node_of, node_at, node_words, node_compare, link, headed, conditions_of, comparing, reaches, linked}
use Rattle.nodes.proofs.Puts.{words_some}
use Rattle.nodes.proofs.Reaching.{link_falls, reaches_step, reaches_stop, reaches_fuel, cond_of, list_before, list_off, cond_on, list_last}
use Rattle.grant.specs.Grants.{linked_from, laid_out}
use Rattle.grant.proofs.Laid.{one_word, link_is, headed_compare, prior, prior_falls, back, back_on, linked_at, linked_walk, heads_inner}
use Rattle.comparisons.specs.Compared.{own_compare, compared_in, compared}

module _ (ws : List ℕ) where
  -- ---- steps of the walk

  module _ (stop : ℕ) where
    in_step : (f k : ℕ) → stop < k → compared_in (suc f) ws stop k ≡ compared_in f ws stop (prior ws k) ++ own_compare (node_at ws k)
    unfolding compared_in
    in_step f k h = let e = lt-ltb stop k h in rw (e, compared_in)

    in_stop : (f k : ℕ) → k ≤ stop → compared_in f ws stop k ≡ []
    unfolding compared_in
    in_stop zero k h = refl
    in_stop (suc f) k h = let e = le-ltb stop k h in rw (e, compared_in)

    in_fuel : (f g k : ℕ) → k < f → k < g → compared_in f ws stop k ≡ compared_in g ws stop k
    in_fuel zero g k h l = absurd (omega arith)
    in_fuel (suc f) zero k h l = absurd (omega arith)
    in_fuel (suc f) (suc g) k h l = go (dec_lt stop k) (λ m. in_fuel f g (prior ws k) (let r = prior_falls ws k (omega arith) in omega arith) (let r = prior_falls ws k (omega arith) in omega arith))
      where
        go : Dec (stop < k) → (stop < k → compared_in f ws stop (prior ws k) ≡ compared_in g ws stop (prior ws k)) → compared_in (suc f) ws stop k ≡ compared_in (suc g) ws stop k
        go (yes m) i = in_step f k m ∙ ap (λ l. l ++ own_compare (node_at ws k)) (i m) ∙ sym (in_step g k m)
        go (no m) i = in_stop (suc f) k (omega arith) ∙ sym (in_stop (suc g) k (omega arith))

    -- the comparisons down to a stop: those before a node, and its own
    pub compared_on : (k : ℕ) → stop < k → compared ws stop k ≡ compared ws stop (prior ws k) ++ own_compare (node_at ws k)
    unfolding compared
    compared_on k h =
        let r = prior_falls ws k (omega arith) in
        in_step k k h ∙ ap (λ l. l ++ own_compare (node_at ws k)) (in_fuel k (suc (prior ws k)) (prior ws k) (omega arith) (omega arith))

    pub compared_off : (k : ℕ) → k ≤ stop → compared ws stop k ≡ []
    unfolding compared
    compared_off k h = in_stop (suc k) k h

  -- ---- places that are not lent

  no_word : (vs : List ℕ) (i : ℕ) → length vs ≤ i → get_or vs i 0 ≡ 0
  no_word [] i h = refl
  no_word (v ∷ vs) zero h = absurd (omega arith)
  no_word (v ∷ vs) (suc i) h = no_word vs i (omega arith)

  module _ (k : ℕ) (h : length ws < k) where
    no_head : get_or ws (k - 1) 0 ≡ 0
    no_head = no_word ws (k - 1) (omega arith)

    no_compare : own_compare (node_at ws k) ≡ []
    unfolding own_compare comparing node_at node_of
    no_compare = rw (ne_eqb k 0 (λ z. omega arith), no_head) refl

    no_words : node_words (node_at ws k) ≡ 1
    unfolding node_words node_at node_of
    no_words = rw (ne_eqb k 0 (λ z. omega arith), no_head) refl

  past : (d : ℕ) → compared ws 0 (length ws + d) ≡ compared ws 0 (length ws)
  past zero = let z : length ws + 0 ≡ length ws = omega arith in ap (compared ws 0) z
  past (suc d) =
      let h : length ws < length ws + suc d = omega arith in
      let w = no_words (length ws + suc d) h in
      let z : prior ws (length ws + suc d) ≡ length ws + d = omega arith in
      compared_on 0 (length ws + suc d) (omega arith) ∙ ap₂ (λ j l. compared ws 0 j ++ l) z (no_compare (length ws + suc d) h) ∙ append_nil (compared ws 0 (length ws + d)) ∙ past d

  -- they compare nothing
  pub compared_lent : (n : ℕ) → compared ws 0 n ≡ compared ws 0 (min n (length ws))
  compared_lent n = go (dec_lt n (length ws))
    where
      go : Dec (n < length ws) → compared ws 0 n ≡ compared ws 0 (min n (length ws))
      go (yes h) = let z : n ≡ min n (length ws) = omega arith in ap (compared ws 0) z
      go (no h) =
          let y : n ≡ length ws + (n - length ws) = omega arith in
          let z : length ws ≡ min n (length ws) = omega arith in
          ap (compared ws 0) y ∙ past (n - length ws) ∙ ap (compared ws 0) z

  -- ---- what stands between two places

  -- some conditions stand between place i and place k
  record Between (i k : ℕ) (cs : List (Cond Compare)) : Type 0 where
    walked : (stop : ℕ) → stop ≤ i → compared ws stop k ≡ compared ws stop i ++ gather tests cs
    rest : T (back ws (linked_at ws) i)

  -- a comparison
  compare_between : (k : ℕ) → 0 < k → T (comparing (node_at ws k)) → T (linked_at ws k) → T (back ws (linked_at ws) (prior ws k)) → Between (link ws k) k (cond_of ws k ∷ [])
  unfolding linked gather own_compare
  compare_between k h c l r =
      let n = node_at ws k in
      let w = words_some n in
      let t = T_true (comparing n) c in
      let e = eqb→eq (n.before + node_words n) k (rw t at l) in
      let i : link ws k ≡ prior ws k = link_is ws k (omega arith) ∙ omega arith in
      let u : tests (cond_of ws k) ≡ node_compare n ∷ [] = ap tests (cond_on ws k h) ∙ headed_compare n _ c in
      let v : gather tests (cond_of ws k ∷ []) ≡ own_compare n = rw (append_nil (tests (cond_of ws k)), u, t) in
      record {
        walked = λ stop m. compared_on stop k (omega arith) ∙ sym (ap₂ (λ j l. compared ws stop j ++ l) i v);
        rest = rw i r;
      }

  -- a condition with conditions inside
  inner_between : (k : ℕ) → 0 < k → comparing (node_at ws k) ≡ false → T (linked_at ws k)
      → ((b : ℕ) → b < k - 1 → reaches k ws b (k - 1) ≡ true → T (back ws (linked_at ws) (k - 1)) → Between b (k - 1) (list_before ws b (k - 1) []))
      → T (back ws (linked_at ws) (prior ws k)) → Between (link ws k) k (cond_of ws k ∷ [])
  unfolding linked gather own_compare
  inner_between k h c l inside r =
      let n = node_at ws k in
      let b = n.before in
      let t : T (eqb n.right 0 && leb 7 n.head && leb n.head 9 && ltb (suc b) k && reaches k ws b (k - 1) && (ltb n.head 9 || eqb (link ws (k - 1)) b)) = rw c at l in
      let one = one_word n (eqb→eq n.right 0 (search parts depth 9)) in
      let low = leb→le 7 n.head (search parts depth 9) in
      let high = leb→le n.head 9 (search parts depth 9) in
      let up = ltb→lt (suc b) k (search parts depth 9) in
      let p : prior ws k ≡ k - 1 = omega arith in
      let z : Between b (k - 1) (list_before ws b (k - 1) []) = inside b (omega arith) (T_true (reaches k ws b (k - 1)) (search parts depth 9)) (rw p at r) in
      let i : link ws k ≡ b = link_is ws k (omega arith) in
      let o : own_compare n ≡ [] = rw c in
      let u : tests (cond_of ws k) ≡ gather tests (list_before ws b (k - 1) []) = ap tests (cond_on ws k h) ∙ ap (λ j. tests (headed n (list_before ws j (k - 1) []))) i ∙ heads_inner ws k (and_r (eqb n.right 0 && leb 7 n.head && leb n.head 9 && ltb (suc b) k && reaches k ws b (k - 1)) (ltb n.head 9 || eqb (link ws (k - 1)) b) t) low high (omega arith) in
      record {
        walked = λ stop m.
            compared_on stop k (omega arith) ∙ ap₂ (λ j l. compared ws stop j ++ l) p o ∙ append_nil (compared ws stop (k - 1))
            ∙ z.walked stop (omega arith) ∙ sym (ap₂ (λ j l. compared ws stop j ++ l) i (append_nil (tests (cond_of ws k)) ∙ u));
        rest = rw i z.rest;
      }

  list_join : (stop i j : ℕ) → stop < j → link ws j ≡ i → stop ≤ i → Between stop i (list_before ws stop i []) → Between i j (cond_of ws j ∷ []) → Between stop j (list_before ws stop j [])
  list_join stop i j h e low x y =
      let s : list_before ws stop j [] ≡ list_before ws stop i [] ++ (cond_of ws j ∷ []) = list_last ws stop j h ∙ ap (λ i. list_before ws stop i [] ++ (cond_of ws j ∷ [])) e in
      record {
        walked = λ end m.
            y.walked end (omega arith) ∙ ap (λ l. l ++ gather tests (cond_of ws j ∷ [])) (x.walked end m)
            ∙ append_assoc (compared ws end stop) (gather tests (list_before ws stop i [])) (gather tests (cond_of ws j ∷ []))
            ∙ sym (ap (λ l. compared ws end stop ++ l) (ap (gather tests) s ∙ gather_append tests (list_before ws stop i []) (cond_of ws j ∷ [])));
        rest = x.rest;
      }

  none_between : (stop : ℕ) (cs : List (Cond Compare)) → cs ≡ [] → T (back ws (linked_at ws) stop) → Between stop stop cs
  none_between stop cs e t = record { walked = λ end m. sym (ap (λ l. compared ws end stop ++ l) (ap (gather tests) e ∙ none) ∙ append_nil (compared ws end stop)); rest = t }
    where
      none : gather (tests {A = Compare}) [] ≡ []
      none = unfold gather in refl

  -- a place from which a stop is reached is not below it
  reached_low : (stop j : ℕ) → reaches (suc j) ws stop j ≡ true → stop ≤ j
  reached_low stop j r = go (dec_lt stop j)
    where
      go : Dec (stop < j) → stop ≤ j
      go (yes h) = omega arith
      go (no h) = let e : j ≡ stop = eqb→eq j stop (true_T (eqb j stop) (sym (reaches_stop ws j stop j (omega arith)) ∙ r)) in omega arith

  mutual
    cond_between : (f k : ℕ) → 2 * k ≤ f → 0 < k → T (back ws (linked_at ws) k) → Between (link ws k) k (cond_of ws k ∷ [])
    cond_between zero k l h t = absurd (omega arith)
    cond_between (suc f) k l h t =
        let u : T (linked_at ws k && back ws (linked_at ws) (prior ws k)) = subst T (back_on ws (linked_at ws) k h) t in
        by (comparing (node_at ws k)) refl (and_l (linked_at ws k) _ u) (and_r (linked_at ws k) _ u) (λ b m e s. list_between f b (k - 1) (omega arith) s (let z : suc (k - 1) ≡ k = omega arith in ap (λ n. reaches n ws b (k - 1)) z ∙ e))
      where
        by : (c : Bool) → comparing (node_at ws k) ≡ c → T (linked_at ws k) → T (back ws (linked_at ws) (prior ws k))
            → ((b : ℕ) → b < k - 1 → reaches k ws b (k - 1) ≡ true → T (back ws (linked_at ws) (k - 1)) → Between b (k - 1) (list_before ws b (k - 1) []))
            → Between (link ws k) k (cond_of ws k ∷ [])
        by true e x y i = compare_between k h (rw e tt) x y
        by false e x y i = inner_between k h e x i y

    list_between : (f stop j : ℕ) → 2 * j + 1 ≤ f → T (back ws (linked_at ws) j) → reaches (suc j) ws stop j ≡ true → Between stop j (list_before ws stop j [])
    list_between zero stop j l t r = absurd (omega arith)
    list_between (suc f) stop j l t r =
        go (dec_lt stop j)
        (λ h. cond_between f j (omega arith) (omega arith) t)
        (λ h i s. list_between f stop (link ws j) (let m = link_falls ws j in omega arith) s i)
      where
        go : Dec (stop < j) → (stop < j → Between (link ws j) j (cond_of ws j ∷ [])) → (stop < j → reaches (suc (link ws j)) ws stop (link ws j) ≡ true → T (back ws (linked_at ws) (link ws j)) → Between stop (link ws j) (list_before ws stop (link ws j) []))
            → Between stop j (list_before ws stop j [])
        go (yes h) c x =
            let m = link_falls ws j in
            let e : reaches (suc (link ws j)) ws stop (link ws j) ≡ true = reaches_fuel ws (suc (link ws j)) j stop (link ws j) (omega arith) (omega arith) ∙ sym (reaches_step ws j stop j h) ∙ r in
            list_join stop (link ws j) j h refl (reached_low stop (link ws j) e) (x h e (c h).rest) (c h)
        go (no h) c x =
            let e : j ≡ stop = eqb→eq j stop (true_T (eqb j stop) (sym (reaches_stop ws j stop j (omega arith)) ∙ r)) in
            subst (λ i. Between stop i (list_before ws stop i [])) (sym e) (none_between stop (list_before ws stop stop []) (list_off ws stop stop [] (omega arith)) (subst (λ i. T (back ws (linked_at ws) i)) e t))

  -- ---- of conditions and of lists of them

  -- words of which every node has the link that its head asks for
  pub cond_tests : (k : ℕ) → 0 < k → T (linked_from (suc k) ws k) → tests (cond_of ws k) ≡ compared ws (link ws k) k
  cond_tests k h t =
      let z = cond_between (2 * k) k (omega arith) h (subst T (linked_walk ws (suc k) k) t) in
      sym (z.walked (link ws k) (omega arith) ∙ ap (λ l. l ++ gather tests (cond_of ws k ∷ [])) (compared_off (link ws k) (link ws k) (omega arith)) ∙ one)
    where
      one : gather tests (cond_of ws k ∷ []) ≡ tests (cond_of ws k)
      one = unfold gather in append_nil (tests (cond_of ws k))

  pub laid_tests : (n : ℕ) → T (laid_out ws n) → gather tests (conditions_of ws n) ≡ compared ws 0 n
  unfolding conditions_of laid_out
  laid_tests n t =
      let z = list_between (2 * n + 1) 0 n (omega arith) (subst T (linked_walk ws (suc n) n) (search parts)) (T_true (reaches (suc n) ws 0 n) (search parts)) in
      sym (z.walked 0 (omega arith) ∙ ap (λ l. l ++ gather tests (list_before ws 0 n [])) (compared_off 0 0 (omega arith)))
