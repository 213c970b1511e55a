-- The comparisons of stored conditions, in the order of their words, and what they name.
use Rattle.std.specs.Prelude.{List, [], ◌∷◌, ◌++◌, Bool, true, false, ◌&&◌, ◌||◌, cond, ℕ, zero, suc, ◌+◌, ◌*◌, ◌-◌, ltb, eqb}
use Rattle.lists.specs.Lists.{gather}
use Rattle.syntax.specs.Grammar.{Entry}
use Rattle.syntax.specs.Limits.{max_columns}
use Rattle.model.specs.Queries.{Col, col, figure, Term, column, time, number, self, Compare}
use Rattle.model.specs.Grants.{term_known}
use Rattle.masks.specs.Masks.{mask_of}
use Rattle.terms.specs.Terms.{time_code, figure_code}
use Rattle.nodes.specs.Nodes.{node_at, node_words, node_compare, comparing}
use Rattle.nodes.specs.declared.Node.{Node}
unfoldable pub use Rattle.nodes.specs.Profiles.{entry_at, profile_in}

-- ---- the comparisons

-- that of a node, if it is one
unfoldable pub own_compare : Node → List Compare
own_compare n = cond (comparing n) (node_compare n ∷ []) []

-- those of the nodes from the one that ends at a place back to a stop; the first argument bounds the steps
unfoldable pub compared_in : ℕ → List ℕ → ℕ → ℕ → List Compare
compared_in zero ws stop k = []
compared_in (suc f) ws stop k = elim (ltb stop k) [ true ↦ compared_in f ws stop (k - node_words (node_at ws k)) ++ own_compare (node_at ws k) | false ↦ [] ]

unfoldable pub compared : List ℕ → ℕ → ℕ → List Compare
compared ws stop k = compared_in (suc k) ws stop k

-- ---- what they name

-- the code of a column of a stream; what is past the codes of columns has none
unfoldable pub col_codes : Col → List ℕ
col_codes (col s c) = cond (ltb (s * max_columns + c) time_code) ((s * max_columns + c) ∷ []) []
col_codes figure = []

-- the code of a term that is such a column or the time
unfoldable pub term_codes : Term → List ℕ
term_codes (column c) = col_codes c
term_codes time = time_code ∷ []
term_codes (number z) = []
term_codes (self n) = []

unfoldable pub compare_codes : Compare → List ℕ
compare_codes t = term_codes t.left ++ term_codes t.right

-- the columns and the time that comparisons name, as bits by their codes
unfoldable pub named_by : List Compare → ℕ
named_by ts = mask_of (gather compare_codes ts)

-- every profile entry that a comparison names is there
unfoldable pub compare_known : List Entry → Compare → Bool
compare_known p t = term_known p t.left && term_known p t.right

-- ---- the equality of two columns

-- the code of a column; any that no stream has is the aggregate's
unfoldable pub column_code : ℕ → ℕ
column_code c = cond (ltb c time_code) c figure_code

-- a node compares two terms by their codes for equality, either first
unfoldable pub node_equates : Node → ℕ → ℕ → Bool
node_equates n a b = eqb n.head 1 && (eqb n.left a && eqb n.right b || eqb n.left b && eqb n.right a)
