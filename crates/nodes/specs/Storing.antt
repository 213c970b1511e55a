-- Storing conditions as nodes.
use Rattle.std.specs.Prelude.{List, [], ◌∷◌, Bool, ◌&&◌, cond, ℕ, suc, ◌+◌, ◌*◌, ◌-◌, ◌/◌, ◌%◌, leb, ltb, eqb, length, set}
use Rattle.syntax.specs.Grammar.{Cond, test, all, any, neg, Conds, last, more}
use Rattle.terms.specs.Terms.{number_code, entry_code}
use Rattle.nodes.specs.declared.Node.{Node}
use Rattle.nodes.specs.Nodes.{node_words}

-- ---- a node's words

unfoldable pub head_word : Node → ℕ
head_word n = n.head % 256 + n.left % 256 * 256 + n.right % 256 * 65536 + n.before % 256 * 16777216

-- the words of its value, of which a number has one and a profile entry two
unfoldable pub put_value : List ℕ → ℕ → Node → List ℕ
put_value ws b n =
    cond (eqb n.right number_code) (set ws b (n.value % 4294967296))
    (cond (eqb n.right entry_code) (set (set ws b (n.value % 4294967296)) (b + 1) (n.value / 4294967296 % 4294967296)) ws)

-- a node after the first b words; where there is no room for it, nothing is changed
unfoldable pub put_node : List ℕ → ℕ → Node → List ℕ
put_node ws b n = cond (leb (b + node_words n) (length ws)) (set (put_value ws b n) (b + node_words n - 1) (head_word n)) ws

-- ---- whole conditions, of comparisons given as nodes

-- a value that its words can hold
unfoldable pub value_fits : Node → Bool
value_fits n = cond (eqb n.right number_code) (ltb n.value 4294967296) (cond (eqb n.right entry_code) (ltb n.value 18446744073709551616) (eqb n.value 0))

-- a comparison that a node's words can hold
unfoldable pub fits : Node → Bool
fits n = leb 1 n.head && leb n.head 6 && ltb n.left 256 && ltb n.right 256 && value_fits n

unfoldable pub conds_list : Conds Node → List (Cond Node)
conds_list (last c) = c ∷ []
conds_list (more c cs) = c ∷ conds_list cs

-- how many words a condition takes
unfoldable mutual
  pub size : Cond Node → ℕ
  size (test n) = node_words n
  size (all cs) = suc (sizes cs)
  size (any cs) = suc (sizes cs)
  size (neg c) = suc (size c)

  pub sizes : Conds Node → ℕ
  sizes (last c) = size c
  sizes (more c cs) = size c + sizes cs

-- a comparison's node, and that of a condition with conditions inside, after the first b words
unfoldable pub compared : Node → ℕ → Node
compared n b = record { head = n.head; left = n.left; right = n.right; before = b; value = n.value }

unfoldable pub inner_node : ℕ → ℕ → Node
inner_node h b = record { head = h; left = 0; right = 0; before = b; value = 0 }

-- the words with those of a condition after the first b
unfoldable mutual
  pub store : Cond Node → ℕ → List ℕ → List ℕ
  store (test n) b ws = put_node ws b (compared n b)
  store (all cs) b ws = put_node (store_all cs b ws) (b + sizes cs) (inner_node 7 b)
  store (any cs) b ws = put_node (store_all cs b ws) (b + sizes cs) (inner_node 8 b)
  store (neg c) b ws = put_node (store c b ws) (b + size c) (inner_node 9 b)

  pub store_all : Conds Node → ℕ → List ℕ → List ℕ
  store_all (last c) b ws = store c b ws
  store_all (more c cs) b ws = store_all cs (b + size c) (store c b ws)

-- a list of conditions
unfoldable pub list_size : List (Cond Node) → ℕ
list_size [] = 0
list_size (c ∷ cs) = size c + list_size cs

unfoldable pub store_list : List (Cond Node) → ℕ → List ℕ → List ℕ
store_list [] b ws = ws
store_list (c ∷ cs) b ws = store_list cs (b + size c) (store c b ws)
