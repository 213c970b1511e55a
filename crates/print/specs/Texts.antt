-- The texts that are written, by the printers of the grammar and the names of a schema.
use Rattle.std.specs.Prelude.{◌≡◌, List, [], ◌∷◌, ◌++◌, map, Bool, cond, ◌||◌, ℕ, zero, suc, ◌+◌, ◌*◌, ◌/◌, ◌%◌, ◌≤◌, ◌<◌, eqb, ltb, leb, get_or}
use Rattle.std.proofs.Math.Option.{Option, none, some}
use Rattle.lists.specs.Lists.{nth}
use Rattle.syntax.specs.Grammar as G
use Rattle.syntax.specs.Grammar.{Bytes, bytes, Ref, Entry, Cond, all, Conds, test, last, op_word, le, ge, put_name, put_ref, put_operand, put_open, put_cond, put_conds, put_form, put_items}
use Rattle.syntax.specs.Limits.{max_columns, top}
use Rattle.model.specs.Queries.{Schema, no_stream, Col, col, figure, Term, Compare, source}
use Rattle.model.specs.Conditions.{map_cond, map_conds, conds_of}
use Rattle.model.specs.Grants.{fill_term, fill, limit}
use Rattle.calls.specs.Names.{ref_of, left_ref, right_operand, test_of, form_of}
use Rattle.text.specs.Words.{name_of}
use Rattle.orders.specs.Orders.{codes_in}
use Rattle.terms.specs.Terms.{time_code, figure_code}
use Rattle.nodes.specs.declared.Node.{Node}
use Rattle.nodes.specs.Nodes.{coded_term, numbered_op, node_compare, some_conds, first_cond, cond_in, list_in, conditions_of}
use Rattle.grant.specs.declared.Grant.{Grant}
use Rattle.grant.specs.Grants.{limit_of}
use Rattle.print.specs.declared.Bounds.{Bounds}

-- ---- names of streams

-- the number at place i of a group of names that begins at a place, 0 where it or one before it is 0
unfoldable pub group_name : List ℕ → ℕ → ℕ → ℕ
group_name ns at zero = get_or ns at 0
group_name ns at (suc i) = cond (eqb (get_or ns at 0) 0) 0 (group_name ns (suc at) i)

unfoldable pub stream_text : Schema → ℕ → Bytes → Bytes
stream_text d s = put_name (nth no_stream d s).name

unfoldable pub source_text : Schema → ℕ → Bytes → Bytes
source_text d s = put_form (form_of d (source s))

-- ---- columns by their codes: six places a stream, then `time` and `figure`

unfoldable pub coded_ref : Schema → ℕ → Ref
coded_ref d code = cond (ltb code time_code) (ref_of d (col (code / max_columns) (code % max_columns))) (cond (eqb code figure_code) G.figure G.time)

unfoldable pub ref_text : Schema → ℕ → Bytes → Bytes
ref_text d code = put_ref (coded_ref d code)

-- where only a column may stand: any code that no stream's column has is the aggregate's
unfoldable pub coded_col : ℕ → Col
coded_col code = cond (ltb code time_code) (col (code / max_columns) (code % max_columns)) figure

unfoldable pub col_text : Schema → ℕ → Bytes → Bytes
col_text d code = put_ref (ref_of d (coded_col code))

-- a column after a space
unfoldable pub item_text : Schema → ℕ → Bytes → Bytes
item_text d code rest = 32 ∷ col_text d code rest

-- each after a space
unfoldable pub codes_text : Schema → List ℕ → Bytes → Bytes
codes_text d cs = put_items put_ref (map (λ c. ref_of d (coded_col c)) cs)

-- those of an order
unfoldable pub columns_text : Schema → ℕ → Bytes → Bytes
columns_text d order = codes_text d (codes_in order)

-- ---- comparisons

-- what is put for the profile entries that a condition names: a profile's values, or nothing where it is written as it stands
unfoldable pub values : Bool → List Entry → Option (List Entry)
values own e = cond own none (some e)

unfoldable pub valued_term : Option (List Entry) → Term → Term
valued_term none t = t
valued_term (some e) t = fill_term e t

unfoldable pub valued : Option (List Entry) → Compare → Compare
valued o t = record { op = t.op; left = valued_term o t.left; right = valued_term o t.right }

-- a profile entry by the number of its name
unfoldable pub self_text : ℕ → Bytes → Bytes
self_text v = put_ref (G.dotted (bytes "self") (name_of v))

unfoldable pub left_text : Schema → Option (List Entry) → ℕ → ℕ → Bytes → Bytes
left_text d o code v = put_ref (left_ref d (valued_term o (coded_term code v)))

unfoldable pub right_text : Schema → Option (List Entry) → ℕ → ℕ → Bytes → Bytes
right_text d o code v = put_operand (right_operand d (valued_term o (coded_term code v)))

-- a bracket, the word of a comparison and a space
unfoldable pub opening : ℕ → Bytes
opening h = 40 ∷ (op_word (numbered_op h) ++ (32 ∷ []))

unfoldable pub test_text : Schema → Option (List Entry) → Node → Bytes → Bytes
test_text d o n = put_cond (test (test_of d (valued o (node_compare n))))

-- ---- conditions

-- the condition that ends at a place of words, and those that end at place j and before it, down to a stop
abbrev pub cond_at : List ℕ → ℕ → Cond Compare
cond_at ws k = cond_in (2 * k) ws k

abbrev pub list_at : List ℕ → ℕ → ℕ → List (Cond Compare)
list_at ws stop j = list_in (2 * j + 1) ws stop j []

-- a head of a comparison: any but those of `and`, `or` and `not`
unfoldable pub compares : ℕ → Bool
compares h = ltb h 7 || ltb 9 h

-- with the values of a profile, or as it stands
unfoldable pub cond_text : Schema → Option (List Entry) → List ℕ → ℕ → Bytes → Bytes
cond_text d o ws k = put_cond (map_cond (test_of d) (map_cond (valued o) (cond_at ws k)))

-- a bracket and the word of a head
unfoldable pub list_opening : ℕ → Bytes
list_opening h = 40 ∷ cond (eqb h 7) (bytes "and") (cond (eqb h 8) (bytes "or") (bytes "not"))

-- one condition or more, each after a space
unfoldable pub conds_text : Schema → Option (List Entry) → Conds Compare → Bytes → Bytes
conds_text d o cs = put_conds (map_conds (test_of d) (map_conds (valued o) cs))

unfoldable pub list_text : Schema → Option (List Entry) → List ℕ → ℕ → ℕ → Bytes → Bytes
list_text d o ws stop j = conds_text d o (some_conds (list_at ws stop j))

-- any conditions with their values, each after a space
unfoldable pub conditions_text : Schema → List (Cond Compare) → Bytes → Bytes
conditions_text d cs = put_items (λ c. put_cond (map_cond (test_of d) c)) cs

-- those of the first n words
unfoldable pub when_text : Schema → List Entry → List ℕ → ℕ → Bytes → Bytes
when_text d e ws n = conditions_text d (map (fill e) (conditions_of ws n))

-- ---- walks along links

-- the conditions that a head takes of a list end at e: `not` takes the first
pub record Lasts (ws : List ℕ) (head stop j e : ℕ) : Type 0 where
  pub low : e ≤ j
  pub first : head ≡ 9 → some_conds (list_at ws stop e) ≡ last (first_cond (list_at ws stop j))
  pub all : (head ≡ 9 → ⊥) → e ≡ j

-- the first condition of a list ends at e
pub record First (ws : List ℕ) (stop j e : ℕ) : Type 0 where
  pub low : e ≤ j
  pub some : stop < j → stop < e
  pub items : stop < j → list_at ws stop j ≡ cond_at ws e ∷ list_at ws e j
  pub alone : stop < j → list_at ws stop e ≡ cond_at ws e ∷ []
  pub none : j ≤ stop → e ≡ j

-- ---- what a grant puts over rows

unfoldable pub bounds_of : Grant → Bounds
bounds_of g = record { words = g.words; from = g.from; to = g.to }

-- its conditions with the values of a profile, then its times
unfoldable pub bounding : List Entry → List ℕ → Bounds → List (Cond Compare)
bounding e ws b = map (fill e) (conditions_of ws b.words) ++ (limit ge (limit_of b.from) ++ limit le (limit_of b.to))

-- whether there is any
unfoldable pub bounded : Bounds → Bool
bounded b = ltb 0 b.words || leb b.from top || leb b.to top

-- a limit on the time, after a space; it names no column
unfoldable pub limit_text : ℕ → ℕ → Bytes → Bytes
limit_text h n = conditions_text [] (limit (numbered_op h) (limit_of n))

unfoldable pub bounding_text : Schema → List Entry → List ℕ → Bounds → Bytes → Bytes
bounding_text d e ws b = conditions_text d (bounding e ws b)

-- `(pick (and ..) ` where there is a condition, and nothing where there is none
unfoldable pub pick_text : Schema → List (Cond Compare) → Bytes → Bytes
pick_text d [] rest = rest
pick_text d (c ∷ cs) rest = put_open (bytes "pick") (32 ∷ put_cond (map_cond (test_of d) (all (conds_of c cs))) (32 ∷ rest))

unfoldable pub bounds_text : Schema → List Entry → List ℕ → Bounds → Bytes → Bytes
bounds_text d e ws b = pick_text d (bounding e ws b)

-- its closing bracket
unfoldable pub close_text : Bounds → Bytes → Bytes
close_text b rest = cond (bounded b) (41 ∷ rest) rest
