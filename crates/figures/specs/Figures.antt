-- Conditions on an answer row of an aggregate: they may name its time, which is the end of its window, and its figure.
use Rattle.std.specs.Prelude.{◌≡◌, List, [], ◌∷◌, map, Bool, ◌||◌, not, cond, ℕ, ◌+◌, ◌*◌, ◌≤◌, ℤ, eqb}
use Rattle.lists.specs.Lists.{every}
use Rattle.syntax.specs.Grammar.{Cond, all, any}
use Rattle.model.specs.Queries.{Compare, Row, figure}
use Rattle.model.specs.Meaning.{term_value, compares, compare_holds, holds}
use Rattle.nodes.specs.Nodes.{numbered_op, coded_term, node_compare, some_conds, first_cond, cond_in, list_in}
use Rattle.nodes.specs.declared.Node.{Node}
use Rattle.figures.specs.declared.Answer.{Answer}

-- the row of an answer
abbrev pub row_of : Answer → Row
row_of a = record { at = a.end; values = a.figure ∷ [] }

-- a condition holds of it
abbrev pub meets : Answer → Cond Compare → Bool
meets a c = holds (figure ∷ []) (row_of a) c

-- all conditions hold that end at some places of words
unfoldable pub passing : List ℕ → List ℕ → Answer → Bool
passing ws ks a = every (meets a) (map (λ k. cond_in (2 * k) ws k) ks)

-- the value of a term by its code
unfoldable pub coded_value : Answer → ℕ → ℕ → ℤ
coded_value a code v = term_value (figure ∷ []) (row_of a) (coded_term code v)

-- a comparison
unfoldable pub tested : Answer → Node → Bool
tested a n = compare_holds (figure ∷ []) (row_of a) (node_compare n)

-- the head of a condition of conditions
unfoldable pub connecting : ℕ → Bool
connecting h = eqb h 7 || eqb h 8 || eqb h 9

-- one of the conditions of a list decides: of `or` one that holds, of `and` one that fails
unfoldable pub decisive : Bool → Bool → Bool
decisive any? b = cond any? b (not b)

-- a list as one condition
unfoldable pub joined : Bool → List (Cond Compare) → Cond Compare
joined any? cs = cond any? (any (some_conds cs)) (all (some_conds cs))

-- the first condition of the list that ends at place j, by its own place
pub record Leading (ws : List ℕ) (stop j r : ℕ) : Type 0 where
  pub within : r ≤ j
  pub first : first_cond (list_in (2 * j + 1) ws stop j []) ≡ cond_in (2 * r) ws r

-- a number of 32 bits that may stand for a node's value in its comparison
pub record Standing (n : Node) (v : ℕ) : Type 0 where
  pub same : (a : Answer) → tested a n ≡ compares (numbered_op n.head) (coded_value a n.left v) (coded_value a n.right v)
