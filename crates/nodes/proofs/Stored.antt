-- Conditions that are stored are there, and sound where their comparisons are.
use mathlib.Core.Path.{◌≡◌, refl, sym, ap, ap₂, subst, ◌∙◌}
use mathlib.Core.List.{List, [], ◌∷◌, map}
use mathlib.Core.Bool.{Bool, true, ◌&&◌, ◌||◌}
use Prim.Native.Nat.{ℕ, zero, suc, ◌+◌, ◌*◌, ◌-◌, ◌≤◌, ◌<◌}
use native.Mathlib.Omega.{arith}
use lib.Dec.{T, eqb, leb, ltb, eqb_refl, leb→le, ltb→lt}
use lib.ListN.{length, take}
use borrow.Author.Tests.{ne_eqb, lt-ltb, le-leb, lt-leb}
use Rattle.lists.specs.Lists.{every}
use Rattle.lists.proofs.Laws.{and_both, parts, append_nil, every_append_l, every_append_r, all_any, all_weaken, all_every, T_true}
use Rattle.syntax.specs.Grammar.{Cond, test, all, any, neg, Conds, last, more}
use Rattle.syntax.specs.Limits.{cond_depth}
use Rattle.model.specs.Conditions.{tests, tests_of, map_cond, map_conds, conds_of}
use Rattle.model.specs.Queries.{Compare}
use Rattle.nodes.specs.declared.Node.{Node}
use Rattle.nodes.specs.Nodes.{node_words, node_at, link, node_compare, some_conds, first_cond, headed, cond_in, list_in, conditions_of, comparing, reaches, linked, terms_sound, node_sound, all_sound, linked_from, max_nesting, nodes_sound}
use Rattle.nodes.specs.Storing.{put_node, value_fits, fits, conds_list, size, sizes, compared, inner_node, store, store_all, list_size, store_list}
use Rattle.nodes.proofs.Puts.{Narrow, words_some, node_put, put_outside}
use Rattle.nodes.proofs.Reaching.{Same, Stands, Chain, chain_end, chain_more, chain_list, chain_reaches, chain_join, chain_same, link_same, all_same, nodes_same}
use Rattle.nodes.proofs.Tests.{all_before}
use Rattle.nodes.proofs.Sizes.{same_store, size_some, sizes_some, length_store, length_all, compared_words, same_all, same_list, take_same}
use Rattle.nodes.proofs.Depths.{shallow_map}

-- ---- one condition, whose words are those after the first b up to place k

-- every node back to the first is sound
abbrev pub Passes : (Node → Bool) → List ℕ → ℕ → Type 0
Passes ok ws k = T (all_sound (suc k) ok ws k)

-- a test of comparisons that does not look at where their words stand
abbrev pub Blind : (Node → Bool) → Type 0
Blind ok = (n : Node) (b : ℕ) → ok (compared n b) ≡ ok n

passes_same : (ok : Node → Bool) (vs ws : List ℕ) (k : ℕ) → Same vs ws k → Passes ok vs k → Passes ok ws k
passes_same ok vs ws k h p = rw (all_same vs ws (suc k) ok k h) at p

record Stored (c : Cond Node) (ws : List ℕ) (b k : ℕ) : Type 0 where
  stands : Stands ws k (map_cond node_compare c)
  links : link ws k ≡ b
  sound : (ok : Node → Bool) → Blind ok → T (every ok (tests c)) → Passes ok ws b → Passes ok ws k

record StoredAll (cs : Conds Node) (ws : List ℕ) (b k : ℕ) : Type 0 where
  chain : Chain ws b k (map (map_cond node_compare) (conds_list cs))
  sound : (ok : Node → Bool) → Blind ok → T (every ok (tests_of cs)) → Passes ok ws b → Passes ok ws k

-- a sound node after those that are
passed : (ok : Node → Bool) (ws : List ℕ) (b k : ℕ) → 0 < k → k - node_words (node_at ws k) ≡ b → T (node_sound ok ws k (node_at ws k)) → Passes ok ws b → Passes ok ws k
passed ok ws b k h e s p = rw (all_before ok ws k h (T_true (node_sound ok ws k (node_at ws k)) s), e) p

-- a comparison

record Fit (n : Node) : Type 0 where
  low : 1 ≤ n.head
  high : n.head ≤ 6
  left : n.left < 256
  right : n.right < 256
  value : T (value_fits n)

fit_node : (n : Node) → T (fits n) → Fit n
unfolding fits
fit_node n h = record { low = leb→le 1 n.head (search parts); high = leb→le n.head 6 (search parts); left = ltb→lt n.left 256 (search parts); right = ltb→lt n.right 256 (search parts); value = search parts }

narrow_test : (n : Node) (b : ℕ) → Fit n → b < 256 → Narrow (compared n b)
unfolding compared value_fits
narrow_test n b f l = let h = f.high in record { head = omega arith; left = f.left; right = f.right; before = l; value = f.value }

-- a low head is a comparison, whatever stands before it
pub low_head : (n : Node) (cs : List (Cond Compare)) → n.head ≤ 6 → headed n cs ≡ test (node_compare n)
unfolding headed
low_head n cs l = rw (ne_eqb n.head 7 (λ e. omega arith), ne_eqb n.head 8 (λ e. omega arith), ne_eqb n.head 9 (λ e. omega arith))

head_test : (n : Node) (b : ℕ) (cs : List (Cond Compare)) → n.head ≤ 6 → headed (compared n b) cs ≡ test (node_compare n)
unfolding compared node_compare
head_test n b cs l = low_head (compared n b) cs l

module _ (n : Node) (b : ℕ) (ws : List ℕ) (h : T (fits n)) (lb : b + node_words n ≤ 255) (room : b + node_words n ≤ length ws) where
  abbrev there : List ℕ
  there = put_node ws b (compared n b)

  abbrev end : ℕ
  end = b + node_words n

  test_node : node_at there end ≡ compared n b
  unfolding compared node_words
  test_node = node_put (compared n b) (narrow_test n b (fit_node n h) (omega arith)) ws b room

  test_stands : Stands there end (test (node_compare n))
  unfolding cond_in
  test_stands zero l = absurd (omega (arith, words_some n))
  test_stands (suc f) l =
      let g = fit_node n h in
      rw test_node (head_test n b (list_in f there (link there end) (end - 1) []) g.high)

  test_links : link there end ≡ b
  unfolding link compared
  test_links = let s = words_some n in rw test_node (omega arith)

  test_sound : (ok : Node → Bool) → Blind ok → T (ok n) → T (node_sound ok there end (compared n b))
  unfolding node_sound linked comparing compared node_words
  test_sound ok d t =
      let f = fit_node n h in
      rw (le-leb 1 n.head f.low, le-leb n.head 6 f.high) (and_both (eqb end end) _ (eqb_refl end) (subst T (sym (d n b)) t))

  stored_test : Stored (test n) there b end
  unfolding map_cond tests every
  stored_test = record {
    stands = test_stands;
    links = test_links;
    sound = λ ok d t p.
        passed ok there b end (omega (arith, words_some n)) (ap (λ m. end - node_words m) test_node ∙ let e = compared_words n b in omega arith) (rw test_node (test_sound ok d (search parts))) p;
  }

-- a condition of those that end at place m

narrow_inner : (h b : ℕ) → h ≤ 9 → b < 256 → Narrow (inner_node h b)
unfolding inner_node value_fits
narrow_inner h b l k = record { head = omega arith; left = omega arith; right = omega arith; before = k; value = tt }

module _ (h b m : ℕ) (u : List ℕ) (ds : List (Cond Compare)) (low : 7 ≤ h) (high : h ≤ 9) (up : b < m) (lm : suc m ≤ 255) (room : suc m ≤ length u) (inside : Chain u b m ds) where
  abbrev over : List ℕ
  over = put_node u m (inner_node h b)

  over_node : node_at over (suc m) ≡ inner_node h b
  unfolding inner_node node_words
  over_node =
      let e : m + 1 ≡ suc m = omega arith in
      rw e at (node_put (inner_node h b) (narrow_inner h b high (omega arith)) u m (omega arith))

  over_same : Same u over m
  over_same j l = sym (put_outside u m (inner_node h b) j (λ e k. omega arith))

  over_chain : Chain over b m ds
  over_chain = chain_same over_same inside

  over_links : link over (suc m) ≡ b
  unfolding link inner_node
  over_links = rw over_node (omega arith)

  over_stands : Stands over (suc m) (headed (inner_node h b) ds)
  unfolding cond_in
  over_stands zero l = absurd (omega arith)
  over_stands (suc f) l =
      let e : suc m - 1 ≡ m = omega arith in
      ap₂ headed over_node (ap₂ (λ a k. list_in f over a k []) over_links e ∙ chain_list over_chain f (omega arith) [] ∙ append_nil ds)

  over_sound : (ok : Node → Bool) → T (ltb h 9 || eqb (link over m) b) → T (node_sound ok over (suc m) (inner_node h b))
  unfolding node_sound linked comparing inner_node
  over_sound ok t =
      let e : suc m - 1 ≡ m = omega arith in
      let r = chain_reaches over_chain (suc m) (omega arith) in
      rw (le-leb 1 h (omega arith), lt-leb h 6 (omega arith), le-leb 7 h low, le-leb h 9 high, lt-ltb (suc b) (suc m) (omega arith), e, r) (and_both (ltb h 9 || eqb (link over m) b) true t tt)

  over_words : suc m - node_words (node_at over (suc m)) ≡ m
  unfolding inner_node node_words
  over_words = rw over_node (omega arith)

  over_all : (ok : Node → Bool) → T (ltb h 9 || eqb (link over m) b) → (Passes ok u b → Passes ok u m) → Passes ok over b → Passes ok over (suc m)
  over_all ok t s p =
      passed ok over m (suc m) (omega arith) over_words (rw over_node (over_sound ok t))
      (passes_same ok u over m over_same (s (passes_same ok over u b (λ i l. sym (over_same i (omega arith))) p)))

head_all : (b : ℕ) (cs : List (Cond Compare)) → headed (inner_node 7 b) cs ≡ all (some_conds cs)
unfolding headed inner_node
head_all b cs = refl

head_any : (b : ℕ) (cs : List (Cond Compare)) → headed (inner_node 8 b) cs ≡ any (some_conds cs)
unfolding headed inner_node
head_any b cs = refl

head_not : (b : ℕ) (c : Cond Compare) → headed (inner_node 9 b) (c ∷ []) ≡ neg c
unfolding headed inner_node first_cond
head_not b c = refl

some_back : (cs : Conds Node) → some_conds (map (map_cond node_compare) (conds_list cs)) ≡ map_conds node_compare cs
unfolding some_conds conds_list map_cond conds_of
some_back (last c) = refl
some_back (more c (last d)) = refl
some_back (more c (more d cs)) = ap (more (map_cond node_compare c)) (some_back (more d cs))

-- one condition as a chain
alone : (c : Cond Node) (ws : List ℕ) (b k : ℕ) → b < k → Stored c ws b k → Chain ws b k (map_cond node_compare c ∷ [])
alone c ws b k l s = chain_more l s.links s.stands chain_end

fit_first : (n : Node) → T (every fits (n ∷ [])) → T (fits n)
unfolding every
fit_first n h = search parts

-- the steps of the induction

module _ (cs : Conds Node) (b : ℕ) (ws : List ℕ) (s : StoredAll cs (store_all cs b ws) b (b + sizes cs)) (l : suc (b + sizes cs) ≤ 255) (room : suc (b + sizes cs) ≤ length ws) where
  abbrev inner : List ℕ
  inner = store_all cs b ws

  abbrev mid : ℕ
  mid = b + sizes cs

  abbrev those : List (Cond Compare)
  those = map (map_cond node_compare) (conds_list cs)

  below : b < mid
  below = omega (arith, sizes_some cs)

  fitting : suc mid ≤ length inner
  fitting = omega (arith, length_all cs b ws)

  inner_all : Stored (all cs) (put_node inner mid (inner_node 7 b)) b (b + suc (sizes cs))
  unfolding map_cond tests
  inner_all =
      let e : b + suc (sizes cs) ≡ suc mid = omega arith in
      rw e (record {
        stands = λ f g. over_stands 7 b mid inner those (omega arith) (omega arith) below l fitting s.chain f g ∙ head_all b those ∙ ap all (some_back cs);
        links = over_links 7 b mid inner those (omega arith) (omega arith) below l fitting s.chain;
        sound = λ ok d t. over_all 7 b mid inner those (omega arith) (omega arith) below l fitting s.chain ok tt (s.sound ok d t);
      })

  inner_any : Stored (any cs) (put_node inner mid (inner_node 8 b)) b (b + suc (sizes cs))
  unfolding map_cond tests
  inner_any =
      let e : b + suc (sizes cs) ≡ suc mid = omega arith in
      rw e (record {
        stands = λ f g. over_stands 8 b mid inner those (omega arith) (omega arith) below l fitting s.chain f g ∙ head_any b those ∙ ap any (some_back cs);
        links = over_links 8 b mid inner those (omega arith) (omega arith) below l fitting s.chain;
        sound = λ ok d t. over_all 8 b mid inner those (omega arith) (omega arith) below l fitting s.chain ok tt (s.sound ok d t);
      })

inner_not : (c : Cond Node) (b : ℕ) (ws : List ℕ) → Stored c (store c b ws) b (b + size c) → suc (b + size c) ≤ 255 → suc (b + size c) ≤ length ws
    → Stored (neg c) (put_node (store c b ws) (b + size c) (inner_node 9 b)) b (b + suc (size c))
unfolding map_cond tests
inner_not c b ws s l room =
    let e : b + suc (size c) ≡ suc (b + size c) = omega arith in
    let u = store c b ws in
    let m = b + size c in
    let ds = map_cond node_compare c ∷ [] in
    let p : b < m = omega (arith, size_some c) in
    let r : suc m ≤ length u = omega (arith, length_store c b ws) in
    let ch = alone c u b m p s in
    let k : link (put_node u m (inner_node 9 b)) m ≡ b = sym (link_same u (put_node u m (inner_node 9 b)) m (over_same 9 b m u ds (omega arith) (omega arith) p l r ch)) ∙ s.links in
    rw e (record {
      stands = λ f g. over_stands 9 b m u ds (omega arith) (omega arith) p l r ch f g ∙ head_not b (map_cond node_compare c);
      links = over_links 9 b m u ds (omega arith) (omega arith) p l r ch;
      sound = λ ok d t. over_all 9 b m u ds (omega arith) (omega arith) p l r ch ok (rw k (eqb_refl b)) (s.sound ok d t);
    })

all_last : (c : Cond Node) (b : ℕ) (ws : List ℕ) → Stored c (store c b ws) b (b + size c) → StoredAll (last c) (store c b ws) b (b + size c)
unfolding conds_list tests
all_last c b ws s = record { chain = alone c (store c b ws) b (b + size c) (omega (arith, size_some c)) s; sound = s.sound }

-- words after those that are sound
further : (ok : Node → Bool) (vs ws : List ℕ) (b m : ℕ) → b ≤ m → Same ws vs m → (Passes ok vs b → Passes ok vs m) → Passes ok ws b → Passes ok ws m
further ok vs ws b m l h s p = passes_same ok vs ws m (λ i o. sym (h i o)) (s (passes_same ok ws vs b (λ i o. h i (omega arith)) p))

-- a condition in front of a chain
in_front : (c : Cond Node) (vs ws : List ℕ) (b m k : ℕ) (ds : List (Cond Compare)) → b < m → Same ws vs m → Stored c vs b m → Chain ws m k ds → Chain ws b k (map_cond node_compare c ∷ ds)
in_front c vs ws b m k ds l h s t = chain_join (chain_same (λ j i. sym (h j i)) (alone c vs b m l s)) t

all_more : (c : Cond Node) (cs : Conds Node) (b : ℕ) (ws : List ℕ) → Stored c (store c b ws) b (b + size c) → StoredAll cs (store_all cs (b + size c) (store c b ws)) (b + size c) (b + size c + sizes cs)
    → StoredAll (more c cs) (store_all cs (b + size c) (store c b ws)) b (b + (size c + sizes cs))
unfolding conds_list tests
all_more c cs b ws s t =
    let e : b + (size c + sizes cs) ≡ b + size c + sizes cs = omega arith in
    let u = store c b ws in
    let w = store_all cs (b + size c) u in
    let h = same_all cs (b + size c) u in
    rw e (record {
      chain = in_front c u w b (b + size c) (b + size c + sizes cs) _ (omega (arith, size_some c)) h s t.chain;
      sound = λ ok d g p. t.sound ok d (every_append_r ok (tests c) (tests_of cs) g) (further ok u w b (b + size c) (omega arith) h (s.sound ok d (every_append_l ok (tests c) (tests_of cs) g)) p);
    })

mutual
  unfolding store size tests map_cond

  stored_cond : (c : Cond Node) (b : ℕ) (ws : List ℕ) → T (every fits (tests c)) → b + size c ≤ 255 → b + size c ≤ length ws → Stored c (store c b ws) b (b + size c)
  stored_cond (test n) b ws h l room = stored_test n b ws (fit_first n h) l room
  stored_cond (all cs) b ws h l room = inner_all cs b ws (stored_all cs b ws h (omega arith) (omega arith)) (omega arith) (omega arith)
  stored_cond (any cs) b ws h l room = inner_any cs b ws (stored_all cs b ws h (omega arith) (omega arith)) (omega arith) (omega arith)
  stored_cond (neg c) b ws h l room = inner_not c b ws (stored_cond c b ws h (omega arith) (omega arith)) (omega arith) (omega arith)

  stored_all : (cs : Conds Node) (b : ℕ) (ws : List ℕ) → T (every fits (tests_of cs)) → b + sizes cs ≤ 255 → b + sizes cs ≤ length ws → StoredAll cs (store_all cs b ws) b (b + sizes cs)
  stored_all (last c) b ws h l room = all_last c b ws (stored_cond c b ws h l room)
  stored_all (more c cs) b ws h l room =
      all_more c cs b ws (stored_cond c b ws (every_append_l fits (tests c) (tests_of cs) h) (omega arith) (omega arith))
      (stored_all cs (b + size c) (store c b ws) (every_append_r fits (tests c) (tests_of cs) h) (omega arith) (omega (arith, length_store c b ws)))

-- a condition that is stored is there
pub stored_stands : (c : Cond Node) (b : ℕ) (ws : List ℕ) → T (every fits (tests c)) → b + size c ≤ 255 → b + size c ≤ length ws → Stands (store c b ws) (b + size c) (map_cond node_compare c)
stored_stands c b ws h l room = (stored_cond c b ws h l room).stands

-- and each of its nodes has its link, where those before it have theirs
pub links_further : (c : Cond Node) (b : ℕ) (ws : List ℕ) → T (every fits (tests c)) → b + size c ≤ 255 → b + size c ≤ length ws
    → T (linked_from (suc b) ws b) → T (linked_from (suc (b + size c)) (store c b ws) (b + size c))
unfolding linked_from
links_further c b ws h l room t =
    (stored_cond c b ws h l room).sound (λ n. true) (λ n k. refl) (all_every _ (all_weaken (λ n v. tt) (all_any (tests c)))) (passes_same (λ n. true) ws (store c b ws) b (λ i o. sym (same_store c b ws i o)) t)

pub links_same : (vs ws : List ℕ) (k : ℕ) → Same vs ws k → T (linked_from (suc k) vs k) → T (linked_from (suc k) ws k)
unfolding linked_from
links_same vs ws k h t = passes_same (λ n. true) vs ws k h t

-- ---- a list of conditions

record StoredList (cs : List (Cond Node)) (ws : List ℕ) (b k : ℕ) : Type 0 where
  chain : Chain ws b k (map (map_cond node_compare) cs)
  sound : (ok : Node → Bool) → Blind ok → T (every (λ c. every ok (tests c)) cs) → Passes ok ws b → Passes ok ws k

stored_from : (cs : List (Cond Node)) (b : ℕ) (ws : List ℕ) → T (every (λ c. every fits (tests c)) cs) → b + list_size cs ≤ 255 → b + list_size cs ≤ length ws
    → StoredList cs (store_list cs b ws) b (b + list_size cs)
unfolding store_list list_size every
stored_from [] b ws h l room =
    let e : b + 0 ≡ b = omega arith in
    rw e (record { chain = chain_end; sound = λ ok d t p. p })
stored_from (c ∷ cs) b ws h l room =
    let e : b + (size c + list_size cs) ≡ b + size c + list_size cs = omega arith in
    let u = store c b ws in
    let w = store_list cs (b + size c) u in
    let k = same_list cs (b + size c) u in
    let s : Stored c u b (b + size c) = stored_cond c b ws (search parts) (omega arith) (omega arith) in
    let t : StoredList cs w (b + size c) (b + size c + list_size cs) = stored_from cs (b + size c) u (search parts) (omega arith) (omega (arith, length_store c b ws)) in
    rw e (record {
      chain = in_front c u w b (b + size c) (b + size c + list_size cs) _ (omega (arith, size_some c)) k s t.chain;
      sound = λ ok d g p. t.sound ok d (search parts) (further ok u w b (b + size c) (omega arith) k (s.sound ok d (search parts)) p);
    })

module _ (cs : List (Cond Node)) (ws : List ℕ) (h : T (every (λ c. every fits (tests c)) cs)) (l : list_size cs ≤ 255) (room : list_size cs ≤ length ws) where
  from_none : StoredList cs (store_list cs 0 ws) 0 (list_size cs)
  from_none =
      let e : 0 + list_size cs ≡ list_size cs = omega arith in
      rw e at (stored_from cs 0 ws h (omega arith) (omega arith))

  -- what is stored is there
  pub stored_list : conditions_of (store_list cs 0 ws) (list_size cs) ≡ map (map_cond node_compare) cs
  unfolding conditions_of
  stored_list = chain_list from_none.chain (2 * list_size cs + 1) (omega arith) [] ∙ append_nil (map (map_cond node_compare) cs)

  none_left : (ok : Node → Bool) (vs : List ℕ) → Passes ok vs 0
  unfolding all_sound
  none_left ok vs = tt

  terms_blind : (mask : ℕ) → Blind (terms_sound mask)
  unfolding terms_sound compared
  terms_blind mask n b = refl

  -- and may be lent, where none of them nests too deep
  module _ (mask : ℕ) (t : T (every (λ c. every (terms_sound mask) (tests c)) cs)) (d : T (every (λ c. leb (cond_depth c) max_nesting) cs)) where
    pub stored_sound : T (nodes_sound mask (store_list cs 0 ws) (list_size cs))
    unfolding nodes_sound
    stored_sound =
        let ws' = store_list cs 0 ws in
        let n = list_size cs in
        and_both (all_sound (suc n) (terms_sound mask) ws' n && reaches (suc n) ws' 0 n) _
        (and_both (all_sound (suc n) (terms_sound mask) ws' n) (reaches (suc n) ws' 0 n) (from_none.sound (terms_sound mask) (terms_blind mask) t (none_left (terms_sound mask) ws')) (rw (chain_reaches from_none.chain (suc n) (omega arith)) tt))
        (rw (stored_list, shallow_map node_compare cs) d)

    -- so words that may not be lent are not those of any such conditions over the mask
    pub sound_stored : (n : ℕ) → n ≡ list_size cs → take n ws ≡ take n (store_list cs 0 ws) → nodes_sound mask ws n ≡ true
    sound_stored n e k =
        nodes_same ws (store_list cs 0 ws) mask n (take_same ws (store_list cs 0 ws) n k) ∙ ap (nodes_sound mask (store_list cs 0 ws)) e ∙ T_true (nodes_sound mask (store_list cs 0 ws) (list_size cs)) stored_sound
