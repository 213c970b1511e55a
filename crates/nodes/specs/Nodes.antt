-- The conditions that words stand for, and whether they may be lent.
-- The words of a condition stand together: those of its conditions in their order, and then its own node. A node's last word is its head; before it
-- stands the value of a comparison with a number (one word) or with a profile entry (two). A node goes by the place after its head. Its link says how many
-- words stand before all those of its condition: the condition before it in a list ends there.
use Rattle.std.specs.Prelude.{List, [], ◌∷◌, Bool, true, false, ◌&&◌, ◌||◌, not, cond, ℕ, zero, suc, ◌+◌, ◌*◌, ◌-◌, ◌/◌, ◌%◌, min, ℤ, pos, negsuc, leb, ltb, eqb, get_or}
use Rattle.lists.specs.Lists.{every}
use Rattle.syntax.specs.Grammar.{Op, eq, ne, lt, le, gt, ge, Cond, test, all, any, neg, Conds, last}
use Rattle.syntax.specs.Limits.{max_columns, max_depth, cond_depth}
use Rattle.model.specs.Conditions.{conds_of}
use Rattle.model.specs.Queries.{Col, col, figure, Term, column, time, number, self, Compare}
use Rattle.calls.specs.Validity.{valid_name}
use Rattle.text.specs.Words.{name_of}
use Rattle.masks.specs.Masks.{bit?}
use Rattle.terms.specs.Terms.{time_code, figure_code, number_code, entry_code}
use Rattle.nodes.specs.declared.Node.{Node}

-- ---- a node

unfoldable pub node_of : ℕ → ℕ → Node
node_of w value = record { head = w % 256; left = w / 256 % 256; right = w / 65536 % 256; before = w / 16777216; value = value }

unfoldable pub no_node : Node
no_node = record { head = 0; left = 0; right = 0; before = 0; value = 0 }

-- how many words it takes
unfoldable pub node_words : Node → ℕ
node_words n = cond (eqb n.right number_code) 2 (cond (eqb n.right entry_code) 3 1)

-- the value before a head
unfoldable pub value_at : List ℕ → ℕ → ℕ → ℕ
value_at ws k right =
    cond (eqb right number_code) (get_or ws (k - 2) 0) (cond (eqb right entry_code) (get_or ws (k - 3) 0 + get_or ws (k - 2) 0 * 4294967296) 0)

-- the node that ends at a place; there is none at place 0
unfoldable pub node_at : List ℕ → ℕ → Node
node_at ws k = cond (eqb k 0) no_node (node_of (get_or ws (k - 1) 0) (value_at ws k (get_or ws (k - 1) 0 / 65536 % 256)))

-- ---- terms and comparisons

-- a number in 32 bits, the lowest as 0
unfoldable pub unbiased : ℕ → ℤ
unbiased v = cond (leb 2147483648 v) (pos (v - 2147483648)) (negsuc (2147483647 - v))

-- a term by its code: six places a stream for columns, then `time`, `figure`, a number and a profile entry, both by the node's value
unfoldable pub coded_term : ℕ → ℕ → Term
coded_term code v =
    cond (ltb code time_code) (column (col (code / max_columns) (code % max_columns)))
    (cond (eqb code time_code) time (cond (eqb code figure_code) (column figure) (cond (eqb code number_code) (number (unbiased v)) (self (name_of v)))))

-- a comparison by the number of its node's head: 1 to 6
unfoldable pub numbered_op : ℕ → Op
numbered_op h = cond (eqb h 1) eq (cond (eqb h 2) ne (cond (eqb h 3) lt (cond (eqb h 4) le (cond (eqb h 5) gt ge))))

unfoldable pub node_compare : Node → Compare
node_compare n = record { op = numbered_op n.head; left = coded_term n.left n.value; right = coded_term n.right n.value }

-- ---- conditions: a head of 7 is `and`, 8 `or`, 9 `not`; any other is a comparison

-- links fall, whatever is lent
unfoldable pub link : List ℕ → ℕ → ℕ
link ws k = min (node_at ws k).before (k - 1)

unfoldable pub some_conds : List (Cond Compare) → Conds Compare
some_conds [] = last (test (node_compare no_node))
some_conds (c ∷ cs) = conds_of c cs

unfoldable pub first_cond : List (Cond Compare) → Cond Compare
first_cond [] = test (node_compare no_node)
first_cond (c ∷ cs) = c

-- a condition of a head, given those inside
unfoldable pub headed : Node → List (Cond Compare) → Cond Compare
headed n cs = cond (eqb n.head 7) (all (some_conds cs)) (cond (eqb n.head 8) (any (some_conds cs)) (cond (eqb n.head 9) (neg (first_cond cs)) (test (node_compare n))))

-- the condition that ends at a place, and those that end at place j and before it down to a stop, in front of others; the first argument bounds the steps, of which place k takes at most 2 * k
unfoldable mutual
  pub cond_in : ℕ → List ℕ → ℕ → Cond Compare
  cond_in zero ws k = test (node_compare no_node)
  cond_in (suc f) ws k = headed (node_at ws k) (list_in f ws (link ws k) (k - 1) [])

  pub list_in : ℕ → List ℕ → ℕ → ℕ → List (Cond Compare) → List (Cond Compare)
  list_in zero ws stop j cs = cs
  list_in (suc f) ws stop j cs = elim (ltb stop j) [ true ↦ list_in f ws stop (link ws j) (cond_in f ws j ∷ cs) | false ↦ cs ]

-- the conditions of the first n words
unfoldable pub conditions_of : List ℕ → ℕ → List (Cond Compare)
conditions_of ws n = list_in (2 * n + 1) ws 0 n []

-- ---- refusal 12

unfoldable pub comparing : Node → Bool
comparing n = leb 1 n.head && leb n.head 6

-- the list that ends at a place goes down to a stop
unfoldable pub reaches : ℕ → List ℕ → ℕ → ℕ → Bool
reaches zero ws stop j = false
reaches (suc f) ws stop j = elim (ltb stop j) [ true ↦ reaches f ws stop (link ws j) | false ↦ eqb j stop ]

-- a comparison has nothing inside, `and` and `or` have one condition or more, `not` has one
unfoldable pub linked : List ℕ → ℕ → Node → Bool
linked ws k n =
    let b = n.before in
    cond (comparing n) (eqb (b + node_words n) k)
    (eqb n.right 0 && leb 7 n.head && leb n.head 9 && ltb (suc b) k && reaches k ws b (k - 1) && (ltb n.head 9 || eqb (link ws (k - 1)) b))

-- a column of a mask
unfoldable pub in_mask : ℕ → ℕ → Bool
in_mask mask code = ltb code time_code && bit? mask code

unfoldable pub column_in : ℕ → Col → Bool
column_in mask (col s c) = ltb c max_columns && in_mask mask (s * max_columns + c)
column_in mask figure = false

-- the terms of a grant's comparison: a column, and a column, a number or a profile entry
unfoldable pub terms_sound : ℕ → Node → Bool
terms_sound mask n =
    in_mask mask n.left
    && (in_mask mask n.right || eqb n.right number_code && ltb n.value 4294967296 || eqb n.right entry_code && valid_name (name_of n.value))

-- a node has the link that its head asks for, and passes a test where it is a comparison
unfoldable pub node_sound : (Node → Bool) → List ℕ → ℕ → Node → Bool
node_sound ok ws k n = linked ws k n && (not (comparing n) || ok n)

-- every node from the one that ends at a place back to the first
unfoldable pub all_sound : ℕ → (Node → Bool) → List ℕ → ℕ → Bool
all_sound zero ok ws k = true
all_sound (suc f) ok ws k =
    elim (eqb k 0) [ true ↦ true | false ↦ node_sound ok ws k (node_at ws k) && all_sound f ok ws (k - node_words (node_at ws k)) ]

-- each has the link that its head asks for, whatever it compares
unfoldable pub linked_from : ℕ → List ℕ → ℕ → Bool
linked_from f ws k = all_sound f (λ n. true) ws k

-- how deep a condition of a grant may nest, a comparison by itself being 1: in a line its own bracket and that of `when` are open around it
abbrev pub max_nesting : ℕ
max_nesting = max_depth - 2

-- none nests deeper
unfoldable pub shallow_conds : List (Cond Compare) → Bool
shallow_conds cs = every (λ c. leb (cond_depth c) max_nesting) cs

-- the first n words are those of a list of conditions over the columns of a mask, none of which nests too deep
unfoldable pub nodes_sound : ℕ → List ℕ → ℕ → Bool
nodes_sound mask ws n = all_sound (suc n) (terms_sound mask) ws n && reaches (suc n) ws 0 n && shallow_conds (conditions_of ws n)
