-- What a comparison reads of each row, and conditions over the rows of a scope while they are evaluated.
use Rattle.std.specs.Prelude.{◌≡◌, List, [], Bool, true, ◌&&◌, ◌||◌, cond, ℕ, ◌+◌, ◌*◌, ◌≤◌, ◌<◌, min, max, ℤ, pos, T, leb, ltb, eqb, length, get_or}
use Rattle.lists.specs.Lists.{every, some?}
use Rattle.syntax.specs.Grammar.{Cond}
use Rattle.syntax.specs.Limits.{max_streams, max_columns, max_rows, top}
use Rattle.model.specs.Queries.{Term, Compare}
use Rattle.model.specs.Meaning.{term_value, compare_holds}
use Rattle.model.specs.Conditions.{true_of}
use Rattle.model.specs.Grants.{fill_compare}
use Rattle.ledger.specs.Records.{places_size, values_size}
use Rattle.terms.specs.Terms.{number_code, entry_code}
use Rattle.nodes.specs.declared.Node.{Node}
use Rattle.nodes.specs.Nodes.{node_at, numbered_op, first_cond, list_in}
use Rattle.grant.specs.Grants.{no_time}
use Rattle.rows.specs.declared.Rows.{Rows}
use Rattle.rows.specs.Masks.{rows_of, no_rows, first_rows, both_of, either_of}
use Rattle.column_masks.specs.Columns.{compared_at}
use Rattle.time_masks.specs.Times.{column_end}
use Rattle.selection.specs.declared.Origin.{Origin}
use Rattle.selection.specs.declared.Origin.TheVariants.{Value, Column, Time}
use Rattle.selection.specs.declared.Scope.{Scope}
use Rattle.selection.specs.Scopes.{paired, scope_columns, scope_row, profile_in, cond_at}

-- ---- two numbers for each row

-- they compare by the number of a node's head
abbrev pub relate : ℕ → (ℕ → ℤ) → (ℕ → ℤ) → ℕ → Bool
relate head f g = compared_at (numbered_op head) f g

-- ---- one side of a comparison

-- the time of the left row, 0 where there is none
unfoldable pub left_time : Scope → List ℕ → ℕ
left_time sc ts = cond (paired sc) (get_or ts sc.fixed 0) 0

-- the time of a row beside it
unfoldable pub time_at : Scope → List ℕ → ℕ → ℕ
time_at sc ts i = min (max (left_time sc ts) (get_or ts (sc.stream * max_rows + i) 0)) top

-- and as a value
unfoldable pub clock_at : Scope → List ℕ → ℕ → ℤ
clock_at sc ts i = pos (time_at sc ts i)

-- the value of a side in a row
unfoldable pub side_value : Origin → Scope → List ℕ → List ℤ → ℕ → ℤ
side_value (Value v) sc ts vs i = v
side_value (Column at) sc ts vs i = get_or vs (at + i * max_columns) (pos 0)
side_value Time sc ts vs i = pos (time_at sc ts i)

-- a column begins among the first places
abbrev pub Near : Origin → Type 0
Near (Value v) = Unit {0}
Near (Column at) = at < column_end
Near Time = Unit {0}

-- the rows of a stream beside a place, whatever their columns
abbrev pub bare : ℕ → ℕ → ℕ → Scope
bare stream n fixed = record { stream = stream; width = 0; rows = n; fixed = fixed; other = 0; breadth = 0 }

-- a side stands for a term: it has its value in each row
pub record Stands (sc : Scope) (vs : List ℤ) (t : Term) (x : Origin) : Type 0 where
  pub near : Near x
  pub value : (ts : List ℕ) (i : ℕ) → side_value x sc ts vs i ≡ term_value (scope_columns sc) (scope_row sc ts vs i) t

-- a column by its stream and number is one of the left row
unfoldable pub left_named : Scope → ℕ → ℕ → Bool
left_named sc s c = paired sc && eqb s sc.other && ltb c sc.breadth

-- ---- what is lent

pub record Lent (sc : Scope) (ts : List ℕ) (vs : List ℤ) : Type 0 where
  pub stream : sc.stream < max_streams
  pub rows : sc.rows ≤ max_rows
  pub times : places_size ≤ length ts
  pub values : values_size ≤ length vs

-- a comparison's left side is a number of more than 32 bits
unfoldable pub wide : Node → Bool
wide n = eqb n.left number_code && ltb 4294967295 n.value

-- a number that a node holds is one of 32 bits: only a name is longer
unfoldable pub narrow : Node → Bool
narrow n = eqb n.right entry_code || ltb n.value 4294967296

-- the node that ends at a place
pub record Taken (ws : List ℕ) (k : ℕ) (n : Node) : Type 0 where
  pub is : n ≡ node_at ws k
  pub small : T (narrow n)

-- the conditions that end at place j and before it, down to a stop
unfoldable pub list_at : List ℕ → ℕ → ℕ → List (Cond Compare)
list_at ws stop j = list_in (2 * j + 1) ws stop j []

-- the condition that ends at a place is `and`, `or` or `not` of others
unfoldable pub lists : List ℕ → ℕ → Bool
lists ws k = leb 7 (node_at ws k).head && leb (node_at ws k).head 9

-- the first of them ends at a place
pub record Leads (ws : List ℕ) (stop j r : ℕ) : Type 0 where
  pub low : r ≤ j
  pub is : first_cond (list_at ws stop j) ≡ cond_at ws r

-- ---- the rows that a comparison, a condition and a list of conditions hold of, with the caller's values

unfoldable pub test_at : Scope → List ℕ → List ℤ → List ℕ → ℕ → Compare → Bool
test_at sc ts vs ps i t = compare_holds (scope_columns sc) (scope_row sc ts vs i) (fill_compare (profile_in ps) t)

unfoldable pub passing : Scope → List ℕ → List ℤ → List ℕ → Cond Compare → Rows
passing sc ts vs ps c = rows_of (λ i. true_of (test_at sc ts vs ps i) c) 0 sc.rows

unfoldable pub all_passing : Scope → List ℕ → List ℤ → List ℕ → List (Cond Compare) → Rows
all_passing sc ts vs ps cs = rows_of (λ i. every (true_of (test_at sc ts vs ps i)) cs) 0 sc.rows

unfoldable pub any_passing : Scope → List ℕ → List ℤ → List ℕ → List (Cond Compare) → Rows
any_passing sc ts vs ps cs = rows_of (λ i. some? (true_of (test_at sc ts vs ps i)) cs) 0 sc.rows

unfoldable pub list_passing : Bool → Scope → List ℕ → List ℤ → List ℕ → List (Cond Compare) → Rows
list_passing any sc ts vs ps cs = cond any (any_passing sc ts vs ps cs) (all_passing sc ts vs ps cs)

unfoldable pub start_of : Bool → ℕ → Rows
start_of any n = cond any no_rows (first_rows n)

unfoldable pub joined_of : Bool → Rows → Rows → Rows
joined_of any x m = cond any (either_of x m) (both_of x m)

-- the rows of the conditions from the last of a list on that were seen, where those that end at a place and before it are left
pub record Listed (ws : List ℕ) (stop j : ℕ) (any? : Bool) (sc : Scope) (ts : List ℕ) (vs : List ℤ) (ps : List ℕ) (at : ℕ) (m : Rows) : Type 0 where
  pub seen : List (Cond Compare)
  pub mask : m ≡ list_passing any? sc ts vs ps seen
  pub left : list_at ws stop j ≡ list_in (2 * at + 1) ws stop at seen
  pub low : at ≤ j

-- from one place to a lower one, of whatever list
pub record Carried (ws : List ℕ) (stop j : ℕ) (any? : Bool) (sc : Scope) (ts : List ℕ) (vs : List ℤ) (ps : List ℕ) (start : Rows) (at : ℕ) (m : Rows) : Type 0 where
  pub low : at ≤ j
  pub on : (k : ℕ) → Listed ws stop k any? sc ts vs ps j start → Listed ws stop k any? sc ts vs ps at m

-- ---- times within two

-- what a first and a last time ask of one; above the highest there is no limit
unfoldable pub in_limits : ℕ → ℕ → ℕ → Bool
in_limits from to t = cond (leb from top) (leb from t) true && cond (leb to top) (leb t to) true

-- a time is past the last one that is asked
unfoldable pub past : ℕ → ℕ → Bool
past to t = ltb to top && ltb to t

-- the first and the last time that are asked of the other row; the left row's may be late enough
unfoldable pub low_of : ℕ → ℕ → ℕ
low_of from left = cond (leb from top) (cond (leb from left) 0 from) 0

unfoldable pub high_of : ℕ → ℕ
high_of to = cond (ltb to top) to no_time
