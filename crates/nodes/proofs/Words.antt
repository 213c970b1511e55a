-- A node's words read and stored, as the code does it.
use mathlib.Core.Path.{◌≡◌, refl, sym, ◌∙◌}
use mathlib.Core.List.{List}
use mathlib.Core.Bool.{Bool, true, false, cond}
use Prim.Native.Nat.{ℕ, ◌+◌, ◌*◌, ◌-◌, ◌/◌, ◌%◌, ◌≤◌, ◌<◌}
use native.Mathlib.Omega.{arith}
use lib.ListN.{length, get_or, set}
use lib.Dec.{eqb}
use borrow.Author.Tests.{eq-eqb, ne_eqb, le-leb, lt-leb}
use Rattle.nodes.specs.declared.Node.{Node}
use Rattle.nodes.specs.Nodes.{no_node, node_of, node_words, value_at, node_at}
use Rattle.nodes.specs.Storing.{head_word, put_value, put_node}

-- ---- read

-- a node has a value only where its right side asks for one
pub value_zero : (ws : List ℕ) (k : ℕ) → ((node_at ws k).right ≡ 26 → ⊥) → ((node_at ws k).right ≡ 27 → ⊥) → (node_at ws k).value ≡ 0
unfolding node_at node_of value_at no_node
value_zero ws k = go (eqb k 0)
  where
    w : ℕ
    w = get_or ws (k - 1) 0

    go : (b : Bool) → ((cond b no_node (node_of w (value_at ws k (w / 65536 % 256)))).right ≡ 26 → ⊥) → ((cond b no_node (node_of w (value_at ws k (w / 65536 % 256)))).right ≡ 27 → ⊥)
        → (cond b no_node (node_of w (value_at ws k (w / 65536 % 256)))).value ≡ 0
    go true f g = refl
    go false f g = rw (ne_eqb (w / 65536 % 256) 26 f, ne_eqb (w / 65536 % 256) 27 g)

pub node_parts : (w v : ℕ) → ◌≡◌ {A = Node} (record { head = w % 256; left = w / 256 % 256; right = w / 65536 % 256; before = w / 16777216; value = v }) (node_of w v)
unfolding node_of
node_parts w v = refl

module _ (ws : List ℕ) where
  pub node_none : (k : ℕ) {r : Node} → k ≡ 0 → r ≡ node_of 0 0 → r ≡ node_at ws k
  unfolding node_at no_node node_of
  node_none k e h = h ∙ rw e

  module _ (k : ℕ) (ne : k ≡ 0 → ⊥) {w : ℕ} (e : w ≡ get_or ws (k - 1) 0) {r : Node} where
    pub node_number : w / 65536 % 256 ≡ 26 → {v : ℕ} → v ≡ get_or ws (k - 2) 0 → r ≡ node_of w v → r ≡ node_at ws k
    unfolding node_at value_at
    node_number c {v} f h = h ∙ sym (rw (ne_eqb k 0 ne, ← e, c, ← f))

    pub node_entry : (w / 65536 % 256 ≡ 26 → ⊥) → w / 65536 % 256 ≡ 27 → {a b v : ℕ} → a ≡ get_or ws (k - 3) 0 → b ≡ get_or ws (k - 2) 0 → v ≡ a + b * 4294967296
        → r ≡ node_of w v → r ≡ node_at ws k
    unfolding node_at value_at
    node_entry n c {a} {b} {v} f g j h = h ∙ sym (rw (ne_eqb k 0 ne, ← e, c, ← f, ← g, ← j))

    pub node_plain : (w / 65536 % 256 ≡ 26 → ⊥) → (w / 65536 % 256 ≡ 27 → ⊥) → r ≡ node_of w 0 → r ≡ node_at ws k
    unfolding node_at value_at
    node_plain n m h = h ∙ sym (rw (ne_eqb k 0 ne, ← e, ne_eqb (w / 65536 % 256) 26 n, ne_eqb (w / 65536 % 256) 27 m))

pub ruleset node_ends = (node_parts, node_none, node_number, node_entry, node_plain)

-- ---- how many words

module _ (n : Node) where
  pub words_number : n.right ≡ 26 → 2 ≡ node_words n
  unfolding node_words
  words_number e = rw (eq-eqb n.right 26 e)

  pub words_entry : (n.right ≡ 26 → ⊥) → n.right ≡ 27 → 3 ≡ node_words n
  unfolding node_words
  words_entry ne e = rw (ne_eqb n.right 26 ne, eq-eqb n.right 27 e)

  pub words_plain : (n.right ≡ 26 → ⊥) → (n.right ≡ 27 → ⊥) → 1 ≡ node_words n
  unfolding node_words
  words_plain ne nf = rw (ne_eqb n.right 26 ne, ne_eqb n.right 27 nf)

pub ruleset words_ends = (words_number, words_entry, words_plain)

-- ---- stored

module _ (ws : List ℕ) (b : ℕ) (n : Node) where
  pub value_number : n.right ≡ 26 → set ws b (n.value % 4294967296) ≡ put_value ws b n
  unfolding put_value
  value_number e = rw (eq-eqb n.right 26 e)

  pub value_entry : (n.right ≡ 26 → ⊥) → n.right ≡ 27 → set (set ws b (n.value % 4294967296)) (b + 1) (n.value / 4294967296 % 4294967296) ≡ put_value ws b n
  unfolding put_value
  value_entry ne e = rw (ne_eqb n.right 26 ne, eq-eqb n.right 27 e)

  pub value_none : (n.right ≡ 26 → ⊥) → (n.right ≡ 27 → ⊥) → ws ≡ put_value ws b n
  unfolding put_value
  value_none ne nf = rw (ne_eqb n.right 26 ne, ne_eqb n.right 27 nf)

  module _ {size : ℕ} (e : size ≡ node_words n) where
    pub put_short : length ws < size → ws ≡ put_node ws b n
    unfolding put_node
    put_short l = rw (lt-leb (b + node_words n) (length ws) (omega arith))

    pub put_tight : length ws - size < b → ws ≡ put_node ws b n
    unfolding put_node
    put_tight l = rw (lt-leb (b + node_words n) (length ws) (omega arith))

    pub put_here : size ≤ length ws → b ≤ length ws - size → {us : List ℕ} → us ≡ put_value ws b n → {w : ℕ} → w ≡ head_word n → set us (b + size - 1) w ≡ put_node ws b n
    unfolding put_node
    put_here l h f g = rw (f, g, e, le-leb (b + node_words n) (length ws) (omega arith))

-- a node's words have room
module _ (n : Node) (b : ℕ) {l : ℕ} (room : b + node_words n ≤ l) where
  pub room_number : n.right ≡ 26 → b < l
  room_number e = let w = words_number n e in omega arith

  module _ (ne : n.right ≡ 26 → ⊥) (e : n.right ≡ 27) where
    pub room_low : b < l
    room_low = let w = words_entry n ne e in omega arith

    pub room_high : b + 1 < l
    room_high = let w = words_entry n ne e in omega arith

pub ruleset value_rooms = (room_number, room_low, room_high)

pub ruleset value_ends = (value_number, value_entry, value_none)

pub ruleset put_ends = (put_short, put_tight, put_here)
