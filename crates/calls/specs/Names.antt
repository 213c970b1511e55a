-- From names to numbers and back.
use Rattle.std.specs.Prelude.{List, [], ◌∷◌, ◌++◌, map, Bool, cond, ℕ, ℤ, pos, length}
use Rattle.std.proofs.Math.Option.{Option, none, some}
use Rattle.lists.specs.Lists.{nth, select, gather, position, same_list}
use Rattle.syntax.specs.Grammar as G
use Rattle.syntax.specs.Grammar.{Bytes, bytes, Cond, Form, Ref, Operand, Test, GrantLine, Show, Span}
use Rattle.syntax.specs.Limits.{natural, limits_compute}
use Rattle.model.specs.Conditions.{tests, map_cond}
use Rattle.model.specs.Queries.{Schema, no_stream, Col, col, figure, columns_of, Term, column, time, number, self, Compare, Query, source, pick, keep, join, aggregate, Grant}
use Rattle.model.specs.Checks.{has}
use Rattle.model.specs.Answers.{answers_compute}

unfoldable pub stream_names : Schema → List Bytes
stream_names d = map (λ s. s.name) d

-- the names of a stream's columns
unfoldable pub columns_named : Schema → ℕ → List Bytes
columns_named d s = (nth no_stream d s).columns

-- ---- from names to numbers. A name that is not declared gets a number that no stream or column has: check 2 finds it.

unfoldable pub stream_number : Schema → Bytes → ℕ
stream_number d n = position n (stream_names d)

unfoldable pub col_of : Schema → Bytes → Bytes → Col
col_of d n m = col (stream_number d n) (position m (columns_named d (stream_number d n)))

unfoldable pub is_self : Bytes → Bool
is_self n = same_list (bytes "self") n

unfoldable pub term_of : Schema → Ref → Term
term_of d (G.dotted n m) = cond (is_self n) (self m) (column (col_of d n m))
term_of d G.time = time
term_of d G.figure = column figure

-- where only a column may stand, `time` and `self.NAME` are a column that no stream has: check 4 finds it
unfoldable pub column_of : Schema → Ref → Col
column_of d (G.dotted n m) = cond (is_self n) (col (length d) 0) (col_of d n m)
column_of d G.time = col (length d) 0
column_of d G.figure = figure

unfoldable pub operand_of : Schema → Operand → Term
operand_of d (G.ref r) = term_of d r
operand_of d (G.number z) = number z

unfoldable pub compare_of : Schema → Test → Compare
compare_of d t = record { op = t.op; left = term_of d t.left; right = operand_of d t.right }

unfoldable pub resolve : Schema → Form → Query ℕ
resolve d (G.rows s) = source (stream_number d s)
resolve d (G.pick c q) = pick (map_cond (compare_of d) c) (resolve d q)
resolve d (G.keep rs q) = keep (map (column_of d) rs) (resolve d q)
resolve d (G.join a b q r) = join (column_of d a) (column_of d b) (resolve d q) (resolve d r)
resolve d (G.aggregate f c size offset q) = aggregate f (column_of d c) (natural size) (natural offset) (resolve d q)

-- the columns of its streams that a grant shows, in the streams' order
unfoldable pub shown_columns : Schema → List ℕ → Show → List Col
shown_columns d ss G.everything = gather (columns_of d) ss
shown_columns d ss (G.listed rs) = select (λ c. has (map (column_of d) rs) c) (gather (columns_of d) ss)

unfoldable pub map_option : {A B : Type 0} → (A → B) → Option A → Option B
map_option f none = none
map_option f (some a) = some (f a)

-- an absent window asks for nothing
unfoldable pub size_of : Option Span → ℕ
size_of none = 0
size_of (some w) = natural w.size

unfoldable pub offset_of : Option Span → ℕ
offset_of none = 0
offset_of (some w) = natural w.offset

unfoldable pub resolve_grant : Schema → GrantLine → Grant
resolve_grant d g =
    let ss = map (stream_number d) g.of in
    record {
      role = g.role;
      right = g.right;
      of = ss;
      shown = shown_columns d ss g.show;
      when = map (map_cond (compare_of d)) g.when;
      from = map_option natural g.from;
      to = map_option natural g.to;
      size = size_of g.window;
      offset = offset_of g.window;
    }

-- ---- from numbers to names

unfoldable pub ref_of : Schema → Col → Ref
ref_of d (col s c) = G.dotted (nth no_stream d s).name (nth [] (columns_named d s) c)
ref_of d figure = G.figure

-- no condition has a number on its left
unfoldable pub left_ref : Schema → Term → Ref
left_ref d (column c) = ref_of d c
left_ref d time = G.time
left_ref d (number z) = G.time
left_ref d (self n) = G.dotted (bytes "self") n

unfoldable pub right_operand : Schema → Term → Operand
right_operand d (column c) = G.ref (ref_of d c)
right_operand d time = G.ref G.time
right_operand d (number z) = G.number z
right_operand d (self n) = G.ref (G.dotted (bytes "self") n)

unfoldable pub test_of : Schema → Compare → Test
test_of d t = record { op = t.op; left = left_ref d t.left; right = right_operand d t.right }

unfoldable pub form_of : Schema → Query ℕ → Form
form_of d (source s) = G.rows (nth no_stream d s).name
form_of d (pick c q) = G.pick (map_cond (test_of d) c) (form_of d q)
form_of d (keep cs q) = G.keep (map (ref_of d) cs) (form_of d q)
form_of d (join a b q r) = G.join (ref_of d a) (ref_of d b) (form_of d q) (form_of d r)
form_of d (aggregate f c size offset q) = G.aggregate f (ref_of d c) (pos size) (pos offset) (form_of d q)

-- ---- what a text names

unfoldable pub operand_refs : Operand → List Ref
operand_refs (G.ref r) = r ∷ []
operand_refs (G.number z) = []

unfoldable pub operand_numbers : Operand → List ℤ
operand_numbers (G.ref r) = []
operand_numbers (G.number z) = z ∷ []

unfoldable pub cond_refs : Cond Test → List Ref
cond_refs c = gather (λ t. t.left ∷ operand_refs t.right) (tests c)

unfoldable pub cond_numbers : Cond Test → List ℤ
cond_numbers c = gather (λ t. operand_numbers t.right) (tests c)

unfoldable pub show_refs : Show → List Ref
show_refs G.everything = []
show_refs (G.listed rs) = rs

unfoldable pub form_streams : Form → List Bytes
form_streams (G.rows s) = s ∷ []
form_streams (G.pick c q) = form_streams q
form_streams (G.keep rs q) = form_streams q
form_streams (G.join a b q r) = form_streams q ++ form_streams r
form_streams (G.aggregate f c size offset q) = form_streams q

unfoldable pub form_refs : Form → List Ref
form_refs (G.rows s) = []
form_refs (G.pick c q) = cond_refs c ++ form_refs q
form_refs (G.keep rs q) = rs ++ form_refs q
form_refs (G.join a b q r) = a ∷ (b ∷ (form_refs q ++ form_refs r))
form_refs (G.aggregate f c size offset q) = c ∷ form_refs q

unfoldable pub form_conds : Form → List (Cond Test)
form_conds (G.rows s) = []
form_conds (G.pick c q) = c ∷ form_conds q
form_conds (G.keep rs q) = form_conds q
form_conds (G.join a b q r) = form_conds q ++ form_conds r
form_conds (G.aggregate f c size offset q) = form_conds q

unfoldable pub form_keeps : Form → List (List Ref)
form_keeps (G.rows s) = []
form_keeps (G.pick c q) = form_keeps q
form_keeps (G.keep rs q) = rs ∷ form_keeps q
form_keeps (G.join a b q r) = form_keeps q ++ form_keeps r
form_keeps (G.aggregate f c size offset q) = form_keeps q

-- SIZE and OFFSET
unfoldable pub form_spans : Form → List Span
form_spans (G.rows s) = []
form_spans (G.pick c q) = form_spans q
form_spans (G.keep rs q) = form_spans q
form_spans (G.join a b q r) = form_spans q ++ form_spans r
form_spans (G.aggregate f c size offset q) = record { size = size; offset = offset } ∷ form_spans q

-- To unfold this is to unfold every definition above.
unfoldable pub names_compute : Unit {0}
unfolding answers_compute limits_compute stream_names columns_named stream_number col_of is_self term_of column_of operand_of compare_of resolve shown_columns map_option size_of offset_of resolve_grant ref_of left_ref right_operand test_of form_of operand_refs operand_numbers cond_refs cond_numbers show_refs form_streams form_refs form_conds form_keeps form_spans
names_compute = tt
