-- How many words conditions take, and which words storing them sets.
use mathlib.Core.Path.{◌≡◌, refl, sym, ap, ap₂, ◌∙◌}
use mathlib.Core.List.{List, [], ◌∷◌, ◌++◌}
use Prim.Native.Nat.{ℕ, suc, ◌+◌, ◌-◌, ◌≤◌, ◌<◌}
use native.Mathlib.Decide.{dec_lt}
use native.Mathlib.Omega.{arith}
use lib.ListN.{length, take, drop, get_or, length-take, length-drop, take-append-drop}
use lib.Seq.{get_or-take, get_or-drop, ext_get_or}
use Rattle.syntax.specs.Grammar.{Cond, test, all, any, neg, Conds, last, more}
use Rattle.nodes.specs.declared.Node.{Node}
use Rattle.nodes.specs.Nodes.{node_words}
use Rattle.nodes.specs.Storing.{put_node, conds_list, size, sizes, compared, inner_node, store, store_all, list_size, store_list}
use Rattle.nodes.proofs.Puts.{by_right, words_some, length_put, put_outside, head_put, number_put, low_put, high_put}
use Rattle.nodes.proofs.Reaching.{Same}

-- ---- sizes

mutual
  unfolding size

  pub size_some : (c : Cond Node) → 0 < size c
  size_some (test n) = words_some n
  size_some (all cs) = omega arith
  size_some (any cs) = omega arith
  size_some (neg c) = omega arith

  pub sizes_some : (cs : Conds Node) → 0 < sizes cs
  sizes_some (last c) = size_some c
  sizes_some (more c cs) = let h = size_some c in omega arith

pub all_size : (cs : Conds Node) → sizes cs ≡ list_size (conds_list cs)
unfolding size list_size conds_list
all_size (last c) = omega arith
all_size (more c cs) = let e = all_size cs in omega arith

pub size_append : (cs ds : List (Cond Node)) → list_size (cs ++ ds) ≡ list_size cs + list_size ds
unfolding list_size
size_append [] ds = omega arith
size_append (c ∷ cs) ds = let e = size_append cs ds in omega arith

pub all_store : (cs : Conds Node) (b : ℕ) (ws : List ℕ) → store_all cs b ws ≡ store_list (conds_list cs) b ws
unfolding store store_list conds_list
all_store (last c) b ws = refl
all_store (more c cs) b ws = all_store cs (b + size c) (store c b ws)

pub store_append : (cs ds : List (Cond Node)) (b : ℕ) (ws : List ℕ) → store_list (cs ++ ds) b ws ≡ store_list ds (b + list_size cs) (store_list cs b ws)
unfolding store_list list_size
store_append [] ds b ws =
    let e : b + 0 ≡ b = omega arith in
    rw e
store_append (c ∷ cs) ds b ws =
    let e : b + (size c + list_size cs) ≡ b + size c + list_size cs = omega arith in
    rw e (store_append cs ds (b + size c) (store c b ws))

-- ---- lengths

mutual
  unfolding store

  pub length_store : (c : Cond Node) (b : ℕ) (ws : List ℕ) → length (store c b ws) ≡ length ws
  length_store (test n) b ws = length_put ws _ _
  length_store (all cs) b ws = length_put _ _ _ ∙ length_all cs b ws
  length_store (any cs) b ws = length_put _ _ _ ∙ length_all cs b ws
  length_store (neg c) b ws = length_put _ _ _ ∙ length_store c b ws

  pub length_all : (cs : Conds Node) (b : ℕ) (ws : List ℕ) → length (store_all cs b ws) ≡ length ws
  length_all (last c) b ws = length_store c b ws
  length_all (more c cs) b ws = length_all cs _ _ ∙ length_store c b ws

pub length_store_list : (cs : List (Cond Node)) (b : ℕ) (ws : List ℕ) → length (store_list cs b ws) ≡ length ws
unfolding store_list
length_store_list [] b ws = refl
length_store_list (c ∷ cs) b ws = length_store_list cs _ _ ∙ length_store c b ws

-- ---- words that are not set: those before the first b, and those from where the last node ends on

-- a place that none of n words after the first b has
abbrev pub Outside : ℕ → ℕ → ℕ → Type 0
Outside b n i = b ≤ i → i < b + n → ⊥

inner_words : (h b : ℕ) → node_words (inner_node h b) ≡ 1
unfolding node_words inner_node
inner_words h b = refl

pub compared_words : (n : Node) (b : ℕ) → node_words (compared n b) ≡ node_words n
unfolding node_words compared
compared_words n b = refl

inner_outside : (vs ws : List ℕ) (h b n i : ℕ) → Outside b (suc n) i → (Outside b n i → get_or vs i 0 ≡ get_or ws i 0) → get_or (put_node vs (b + n) (inner_node h b)) i 0 ≡ get_or ws i 0
inner_outside vs ws h b n i o k = let e = inner_words h b in put_outside vs (b + n) (inner_node h b) i (λ l m. o (omega arith) (omega arith)) ∙ k (λ l m. o l (omega arith))

mutual
  unfolding store size

  pub store_outside : (c : Cond Node) (b : ℕ) (ws : List ℕ) (i : ℕ) → Outside b (size c) i → get_or (store c b ws) i 0 ≡ get_or ws i 0
  store_outside (test n) b ws i o = let e = compared_words n b in put_outside ws b (compared n b) i (λ l m. o l (omega arith))
  store_outside (all cs) b ws i o = inner_outside (store_all cs b ws) ws 7 b (sizes cs) i o (λ k. all_outside cs b ws i k)
  store_outside (any cs) b ws i o = inner_outside (store_all cs b ws) ws 8 b (sizes cs) i o (λ k. all_outside cs b ws i k)
  store_outside (neg c) b ws i o = inner_outside (store c b ws) ws 9 b (size c) i o (λ k. store_outside c b ws i k)

  pub all_outside : (cs : Conds Node) (b : ℕ) (ws : List ℕ) (i : ℕ) → Outside b (sizes cs) i → get_or (store_all cs b ws) i 0 ≡ get_or ws i 0
  all_outside (last c) b ws i o = store_outside c b ws i o
  all_outside (more c cs) b ws i o = all_outside cs (b + size c) (store c b ws) i (λ l m. o (omega arith) (omega arith)) ∙ store_outside c b ws i (λ l m. o l (omega arith))

pub list_outside : (cs : List (Cond Node)) (b : ℕ) (ws : List ℕ) (i : ℕ) → Outside b (list_size cs) i → get_or (store_list cs b ws) i 0 ≡ get_or ws i 0
unfolding store_list list_size
list_outside [] b ws i o = refl
list_outside (c ∷ cs) b ws i o = list_outside cs (b + size c) (store c b ws) i (λ l m. o (omega arith) (omega arith)) ∙ store_outside c b ws i (λ l m. o l (omega arith))

-- what stood before
pub same_store : (c : Cond Node) (b : ℕ) (ws : List ℕ) → Same (store c b ws) ws b
same_store c b ws i l = store_outside c b ws i (λ m n. omega arith)

pub same_all : (cs : Conds Node) (b : ℕ) (ws : List ℕ) → Same (store_all cs b ws) ws b
same_all cs b ws i l = all_outside cs b ws i (λ m n. omega arith)

pub same_list : (cs : List (Cond Node)) (b : ℕ) (ws : List ℕ) → Same (store_list cs b ws) ws b
same_list cs b ws i l = list_outside cs b ws i (λ m n. omega arith)

-- ---- words that are set: they hang on the conditions alone

-- a node's words: its head, and those of its value
by_word : {X : Type 0} (b : ℕ) (n : Node) (i : ℕ) → b ≤ i → i < b + node_words n → (i ≡ b + node_words n - 1 → X) → (n.right ≡ 26 → i ≡ b → X)
    → ((n.right ≡ 26 → ⊥) → n.right ≡ 27 → i ≡ b → X) → ((n.right ≡ 26 → ⊥) → n.right ≡ 27 → i ≡ b + 1 → X) → X
by_word {X} b n i l m head number low high = go (dec_lt i (b + node_words n - 1)) (dec_lt b i)
  where
    go : Dec (i < b + node_words n - 1) → Dec (b < i) → X
    go (no k) j = head (omega arith)
    go (yes k) (yes j) = by_right n (λ a e. absurd (omega arith)) (λ a c e. high a c (omega arith)) (λ a c e. absurd (omega arith))
    go (yes k) (no j) = by_right n (λ a e. number a (omega arith)) (λ a c e. low a c (omega arith)) (λ a c e. absurd (omega arith))

-- a node after words that are the same
module _ (vs ws : List ℕ) (b : ℕ) (n : Node) (h : Same vs ws b) (rv : b + node_words n ≤ length vs) (rs : b + node_words n ≤ length ws) where
  put_agrees : Same (put_node vs b n) (put_node ws b n) (b + node_words n)
  put_agrees i l = go (dec_lt i b)
    where
      go : Dec (i < b) → get_or (put_node vs b n) i 0 ≡ get_or (put_node ws b n) i 0
      go (yes m) = put_outside vs b n i (λ u v. omega arith) ∙ h i m ∙ sym (put_outside ws b n i (λ u v. omega arith))
      go (no m) =
          by_word b n i (omega arith) l (λ e. rw e (head_put vs b n rv ∙ sym (head_put ws b n rs)))
          (λ a e. rw e (number_put vs b n rv a ∙ sym (number_put ws b n rs a)))
          (λ a c e. rw e (low_put vs b n rv a c ∙ sym (low_put ws b n rs a c)))
          (λ a c e. rw e (high_put vs b n rv a c ∙ sym (high_put ws b n rs a c)))

inner_agrees : (vs ws : List ℕ) (h b n : ℕ) → Same vs ws (b + n) → b + suc n ≤ length vs → b + suc n ≤ length ws → Same (put_node vs (b + n) (inner_node h b)) (put_node ws (b + n) (inner_node h b)) (b + suc n)
inner_agrees vs ws h b n s rv rs i l =
    let e = inner_words h b in
    put_agrees vs ws (b + n) (inner_node h b) s (omega arith) (omega arith) i (omega arith)

mutual
  unfolding store size node_words compared

  pub store_agrees : (c : Cond Node) (b : ℕ) (vs ws : List ℕ) → Same vs ws b → b + size c ≤ length vs → b + size c ≤ length ws → Same (store c b vs) (store c b ws) (b + size c)
  store_agrees (test n) b vs ws s rv rs = put_agrees vs ws b (compared n b) s rv rs
  store_agrees (all cs) b vs ws s rv rs =
      inner_agrees (store_all cs b vs) (store_all cs b ws) 7 b (sizes cs) (all_agrees cs b vs ws s (omega arith) (omega arith)) (omega (arith, length_all cs b vs)) (omega (arith, length_all cs b ws))
  store_agrees (any cs) b vs ws s rv rs =
      inner_agrees (store_all cs b vs) (store_all cs b ws) 8 b (sizes cs) (all_agrees cs b vs ws s (omega arith) (omega arith)) (omega (arith, length_all cs b vs)) (omega (arith, length_all cs b ws))
  store_agrees (neg c) b vs ws s rv rs =
      inner_agrees (store c b vs) (store c b ws) 9 b (size c) (store_agrees c b vs ws s (omega arith) (omega arith)) (omega (arith, length_store c b vs)) (omega (arith, length_store c b ws))

  pub all_agrees : (cs : Conds Node) (b : ℕ) (vs ws : List ℕ) → Same vs ws b → b + sizes cs ≤ length vs → b + sizes cs ≤ length ws → Same (store_all cs b vs) (store_all cs b ws) (b + sizes cs)
  all_agrees (last c) b vs ws s rv rs = store_agrees c b vs ws s rv rs
  all_agrees (more c cs) b vs ws s rv rs =
      λ i l. all_agrees cs (b + size c) (store c b vs) (store c b ws) (store_agrees c b vs ws s (omega arith) (omega arith)) (omega (arith, length_store c b vs)) (omega (arith, length_store c b ws)) i (omega arith)

pub list_agrees : (cs : List (Cond Node)) (b : ℕ) (vs ws : List ℕ) → Same vs ws b → b + list_size cs ≤ length vs → b + list_size cs ≤ length ws → Same (store_list cs b vs) (store_list cs b ws) (b + list_size cs)
unfolding store_list list_size
list_agrees [] b vs ws s rv rs = λ i l. s i (omega arith)
list_agrees (c ∷ cs) b vs ws s rv rs =
    λ i l. list_agrees cs (b + size c) (store c b vs) (store c b ws) (store_agrees c b vs ws s (omega arith) (omega arith)) (omega (arith, length_store c b vs)) (omega (arith, length_store c b ws)) i (omega arith)

-- ---- as lists

pub same_take : (vs ws : List ℕ) (n : ℕ) → n ≤ length vs → n ≤ length ws → Same vs ws n → take n vs ≡ take n ws
same_take vs ws n lv ls s =
    let a = length-take n vs in
    let b = length-take n ws in
    ext_get_or 0 (take n vs) (take n ws) (omega arith) (λ i h. get_or-take n vs i 0 (omega arith) ∙ s i (omega arith) ∙ sym (get_or-take n ws i 0 (omega arith)))

pub take_same : (vs ws : List ℕ) (n : ℕ) → take n vs ≡ take n ws → Same vs ws n
take_same vs ws n e i l = sym (get_or-take n vs i 0 l) ∙ ap (λ xs. get_or xs i 0) e ∙ get_or-take n ws i 0 l

module _ (cs : List (Cond Node)) where
  -- the words of a list of conditions stand first, whatever stood there
  pub stored_first : (vs ws : List ℕ) → list_size cs ≤ length vs → list_size cs ≤ length ws → take (list_size cs) (store_list cs 0 vs) ≡ take (list_size cs) (store_list cs 0 ws)
  stored_first vs ws lv ls =
      same_take (store_list cs 0 vs) (store_list cs 0 ws) (list_size cs) (omega (arith, length_store_list cs 0 vs)) (omega (arith, length_store_list cs 0 ws))
      (λ i l. list_agrees cs 0 vs ws (λ j m. absurd (omega arith)) (omega arith) (omega arith) i (omega arith))

  -- and after them the words are as they were
  pub stored_after : (ws : List ℕ) → drop (list_size cs) (store_list cs 0 ws) ≡ drop (list_size cs) ws
  stored_after ws =
      let k = length_store_list cs 0 ws in
      ext_get_or 0 (drop (list_size cs) (store_list cs 0 ws)) (drop (list_size cs) ws)
      (length-drop (list_size cs) (store_list cs 0 ws) ∙ ap (λ n. n - list_size cs) k ∙ sym (length-drop (list_size cs) ws))
      (λ i h. get_or-drop (list_size cs) (store_list cs 0 ws) i 0 ∙ list_outside cs 0 ws (list_size cs + i) (λ l m. omega arith) ∙ sym (get_or-drop (list_size cs) ws i 0))

  -- so they may be stored elsewhere first and copied
  pub stored_copied : (vs ws : List ℕ) → list_size cs ≤ length vs → list_size cs ≤ length ws → store_list cs 0 ws ≡ take (list_size cs) (store_list cs 0 vs) ++ drop (list_size cs) ws
  stored_copied vs ws lv ls = sym (take-append-drop (list_size cs) (store_list cs 0 ws)) ∙ ap₂ ◌++◌ (stored_first ws vs ls lv) (stored_after ws)
