-- What storing a node does: the length stays, the node is there, the other words are as they were.
use mathlib.Core.Path.{◌≡◌, refl, sym, ap, ◌∙◌}
use mathlib.Core.List.{List}
use mathlib.Core.Bool.{Bool, true, false}
use Prim.Native.Nat.{ℕ, ◌+◌, ◌*◌, ◌-◌, ◌/◌, ◌%◌, ◌≤◌, ◌<◌}
use native.Mathlib.Decide.{dec_lt}
use native.Mathlib.Omega.{arith}
use lib.Dec.{T, eqb, ltb→lt, eqb→eq}
use lib.ListN.{length, get_or, set, length-set}
use lib.Seq.{get_or-set_same, get_or-set_other}
use borrow.Author.Tests.{eq-eqb, ne_eqb, le-leb, lt-leb, eqb-true, eqb-false}
use Rattle.nodes.specs.declared.Node.{Node}
use Rattle.nodes.specs.Nodes.{node_of, node_words, value_at, node_at}
use Rattle.nodes.specs.Storing.{head_word, put_value, put_node, value_fits}
use Rattle.nodes.proofs.Words.{words_number, words_entry, words_plain, value_number, value_entry, value_none}

-- a node by what stands on its right: a number, a profile entry, or neither
pub by_right : {X : Type 0} (n : Node) → (n.right ≡ 26 → node_words n ≡ 2 → X) → ((n.right ≡ 26 → ⊥) → n.right ≡ 27 → node_words n ≡ 3 → X)
    → ((n.right ≡ 26 → ⊥) → (n.right ≡ 27 → ⊥) → node_words n ≡ 1 → X) → X
by_right {X} n f g h = go (eqb n.right 26) refl (eqb n.right 27) refl
  where
    go : (x : Bool) → eqb n.right 26 ≡ x → (y : Bool) → eqb n.right 27 ≡ y → X
    go true e y i = let a = eqb-true n.right 26 e in f a (sym (words_number n a))
    go false e true i = let a = eqb-false n.right 26 e in let b = eqb-true n.right 27 i in g a b (sym (words_entry n a b))
    go false e false i = let a = eqb-false n.right 26 e in let b = eqb-false n.right 27 i in h a b (sym (words_plain n a b))

pub words_some : (n : Node) → 0 < node_words n
words_some n = by_right n (λ a e. omega arith) (λ a b e. omega arith) (λ a b e. omega arith)

pub words_few : (n : Node) → node_words n ≤ 3
words_few n = by_right n (λ a e. omega arith) (λ a b e. omega arith) (λ a b e. omega arith)

-- ---- lengths

module _ (ws : List ℕ) (b : ℕ) (n : Node) where
  pub length_value : length (put_value ws b n) ≡ length ws
  length_value =
      by_right n (λ a e. ap length (sym (value_number ws b n a)) ∙ length-set ws b _)
      (λ a c e. ap length (sym (value_entry ws b n a c)) ∙ simp length-set)
      (λ a c e. ap length (sym (value_none ws b n a c)))

  pub put_room : b + node_words n ≤ length ws → put_node ws b n ≡ set (put_value ws b n) (b + node_words n - 1) (head_word n)
  unfolding put_node
  put_room h = rw (le-leb (b + node_words n) (length ws) h)

  put_full : length ws < b + node_words n → put_node ws b n ≡ ws
  unfolding put_node
  put_full h = rw (lt-leb (b + node_words n) (length ws) h)

  pub length_put : length (put_node ws b n) ≡ length ws
  length_put = go (dec_lt (length ws) (b + node_words n))
    where
      go : Dec (length ws < b + node_words n) → length (put_node ws b n) ≡ length ws
      go (yes h) = ap length (put_full h)
      go (no h) = ap length (put_room (omega arith)) ∙ length-set (put_value ws b n) (b + node_words n - 1) (head_word n) ∙ length_value
      -- ---- words that are not the node's

  module _ (i : ℕ) (out : b ≤ i → i < b + node_words n → ⊥) where
    value_outside : get_or (put_value ws b n) i 0 ≡ get_or ws i 0
    value_outside =
        by_right n
        (λ a e. ap (λ l. get_or l i 0) (sym (value_number ws b n a)) ∙ get_or-set_other ws b i _ 0 (λ z. out (omega arith) (omega arith)))
        (λ a c e. ap (λ l. get_or l i 0) (sym (value_entry ws b n a c)) ∙ get_or-set_other (set ws b _) (b + 1) i _ 0 (λ z. out (omega arith) (omega arith)) ∙ get_or-set_other ws b i _ 0 (λ z. out (omega arith) (omega arith)))
        (λ a c e. ap (λ l. get_or l i 0) (sym (value_none ws b n a c)))

    pub put_outside : get_or (put_node ws b n) i 0 ≡ get_or ws i 0
    put_outside = go (dec_lt (length ws) (b + node_words n))
      where
        go : Dec (length ws < b + node_words n) → get_or (put_node ws b n) i 0 ≡ get_or ws i 0
        go (yes h) = ap (λ l. get_or l i 0) (put_full h)
        go (no h) =
            let s = words_some n in
            ap (λ l. get_or l i 0) (put_room (omega arith)) ∙ get_or-set_other (put_value ws b n) (b + node_words n - 1) i (head_word n) 0 (λ z. out (omega arith) (omega arith)) ∙ value_outside

  -- ---- words that are

  module _ (room : b + node_words n ≤ length ws) where
    pub head_put : get_or (put_node ws b n) (b + node_words n - 1) 0 ≡ head_word n
    head_put =
        let s = words_some n in
        ap (λ l. get_or l (b + node_words n - 1) 0) (put_room room) ∙ get_or-set_same (put_value ws b n) (b + node_words n - 1) (head_word n) 0 (omega (arith, length_value))

    -- a word before the head
    under_head : (i : ℕ) → i < b + node_words n - 1 → get_or (put_node ws b n) i 0 ≡ get_or (put_value ws b n) i 0
    under_head i h = ap (λ l. get_or l i 0) (put_room room) ∙ get_or-set_other (put_value ws b n) (b + node_words n - 1) i (head_word n) 0 (λ z. omega arith)

    pub number_put : n.right ≡ 26 → get_or (put_node ws b n) b 0 ≡ n.value % 4294967296
    number_put a =
        let e = words_number n a in
        under_head b (omega arith) ∙ ap (λ l. get_or l b 0) (sym (value_number ws b n a)) ∙ get_or-set_same ws b (n.value % 4294967296) 0 (omega arith)

    module _ (a : n.right ≡ 26 → ⊥) (c : n.right ≡ 27) where
      pub low_put : get_or (put_node ws b n) b 0 ≡ n.value % 4294967296
      low_put =
          let e = words_entry n a c in
          under_head b (omega arith) ∙ ap (λ l. get_or l b 0) (sym (value_entry ws b n a c)) ∙ get_or-set_other (set ws b (n.value % 4294967296)) (b + 1) b _ 0 (λ z. omega arith)
          ∙ get_or-set_same ws b (n.value % 4294967296) 0 (omega arith)

      pub high_put : get_or (put_node ws b n) (b + 1) 0 ≡ n.value / 4294967296 % 4294967296
      high_put =
          let e = words_entry n a c in
          under_head (b + 1) (omega arith) ∙ ap (λ l. get_or l (b + 1) 0) (sym (value_entry ws b n a c))
          ∙ get_or-set_same (set ws b (n.value % 4294967296)) (b + 1) (n.value / 4294967296 % 4294967296) 0 (omega (arith, length-set ws b (n.value % 4294967296)))

-- ---- the node that is stored

module _ (h l r b : ℕ) (hh : h < 256) (hl : l < 256) (hr : r < 256) (hb : b < 256) where
  abbrev sum : ℕ
  sum = h + l * 256 + r * 65536 + b * 16777216

  word_is : h % 256 + l % 256 * 256 + r % 256 * 65536 + b % 256 * 16777216 ≡ sum
  word_is = omega arith

  byte_0 : sum % 256 ≡ h
  byte_0 = omega arith

  byte_1 : sum / 256 % 256 ≡ l
  byte_1 = omega arith

  byte_2 : sum / 65536 % 256 ≡ r
  byte_2 = omega arith

  byte_3 : sum / 16777216 ≡ b
  byte_3 = omega arith

-- a node whose codes are bytes and whose value its words can hold
pub record Narrow (n : Node) : Type 0 where
  pub head : n.head < 256
  pub left : n.left < 256
  pub right : n.right < 256
  pub before : n.before < 256
  pub value : T (value_fits n)

module _ (n : Node) (f : Narrow n) where
  right_back : head_word n / 65536 % 256 ≡ n.right
  unfolding head_word
  right_back = rw (word_is n.head n.left n.right n.before f.head f.left f.right f.before) (byte_2 n.head n.left n.right n.before f.head f.left f.right f.before)

  node_back : node_of (head_word n) n.value ≡ n
  unfolding node_of head_word
  node_back =
      rw (
        word_is n.head n.left n.right n.before f.head f.left f.right f.before,
        byte_0 n.head n.left n.right n.before f.head f.left f.right f.before,
        byte_1 n.head n.left n.right n.before f.head f.left f.right f.before,
        byte_2 n.head n.left n.right n.before f.head f.left f.right f.before,
        byte_3 n.head n.left n.right n.before f.head f.left f.right f.before,
      )

  module _ (ws : List ℕ) (b : ℕ) (room : b + node_words n ≤ length ws) where
    abbrev end : ℕ
    end = b + node_words n

    abbrev there : List ℕ
    there = put_node ws b n

    value_put : value_at there end n.right ≡ n.value
    unfolding value_at value_fits
    value_put =
        by_right n
        (λ a e.
        let v : n.value < 4294967296 = ltb→lt n.value 4294967296 (rw (eq-eqb n.right 26 a) at f.value) in
        let k : end - 2 ≡ b = omega arith in
        rw (eq-eqb n.right 26 a, k, number_put ws b n room a) (omega arith))
        (λ a c e.
        let v : n.value < 18446744073709551616 = ltb→lt n.value 18446744073709551616 (rw (ne_eqb n.right 26 a, eq-eqb n.right 27 c) at f.value) in
        let k : end - 3 ≡ b = omega arith in
        let j : end - 2 ≡ b + 1 = omega arith in
        rw (ne_eqb n.right 26 a, eq-eqb n.right 27 c, k, j, low_put ws b n room a c, high_put ws b n room a c) (omega arith))
        (λ a c e. let v : n.value ≡ 0 = eqb→eq n.value 0 (rw (ne_eqb n.right 26 a, ne_eqb n.right 27 c) at f.value) in rw (ne_eqb n.right 26 a, ne_eqb n.right 27 c) (sym v))

    -- the node that ends where its words end is what was put there
    pub node_put : node_at there end ≡ n
    unfolding node_at
    node_put =
        let s = words_some n in
        rw (ne_eqb end 0 (λ e. omega arith), head_put ws b n room, right_back, value_put) node_back
