-- What an outcome of a script's line prints. Texts stand in front of what follows; a line feed ends each line.
use Rattle.std.specs.Prelude.{List, [], ◌∷◌, ◌++◌, ℕ, zero, suc, ℤ, nat_abs, length, take}
use Rattle.lists.specs.Lists.{nth}
use Rattle.syntax.specs.Grammar.{Bytes, bytes, put_nat, put_int, put_items, grammar_computes}
use Rattle.model.specs.Queries.{Row, Table, Record, Caller}
use Rattle.model.specs.Routes.{Route}
use Rattle.model.specs.Answers.{route_table}
use Rattle.calls.specs.Scripts.{Outcome, quiet, refusal, cells, text}
use Rattle.report.specs.declared.Message.{Message}
use Rattle.report.specs.declared.Message.TheVariants.{Quiet, Refusal, Cells, Text}
use Rattle.report.specs.declared.Due.{Due}
use Rattle.report.specs.declared.Due.TheVariants.{Routes, Grant, Partner, Width, Rows, Cell}

-- ---- the cells of an answer, each by what it is

-- what comes next where n rows of a width are still to come
unfoldable pub rows_due : ℕ → ℕ → Due
rows_due zero n = Grant
rows_due (suc w) zero = Grant
rows_due (suc w) (suc n) = Cell w (suc w) n

-- the same after a cell of a row that k others follow
unfoldable pub row_due : ℕ → ℕ → ℕ → Due
row_due zero w n = rows_due w n
row_due (suc k) w n = Cell k w n

-- what comes after a cell: numbers of grants, width and row count of a route, the rows, the next route
unfoldable pub due_after : Due → ℤ → Due
due_after Routes z = Grant
due_after Grant z = Partner
due_after Partner z = Width
due_after Width z = Rows (nat_abs z)
due_after (Rows w) z = rows_due w (nat_abs z)
due_after (Cell k w n) z = row_due k w n

-- the word in front of a cell
unfoldable pub front_of : Due → Bytes
front_of Routes = bytes "routes "
front_of Grant = bytes "route "
front_of Partner = []
front_of Width = []
front_of (Rows w) = []
front_of (Cell k w n) = []

-- the byte after a cell: a line feed after the last of a line, and else a space
unfoldable pub cell_end : ℕ → ℕ
cell_end zero = 10
cell_end (suc k) = 32

unfoldable pub end_of : Due → ℕ
end_of Routes = 10
end_of Grant = 32
end_of Partner = 32
end_of Width = 32
end_of (Rows w) = 10
end_of (Cell k w n) = cell_end k

unfoldable pub put_cell : Due → ℤ → Bytes → Bytes
put_cell d z rest = front_of d ++ put_int z (end_of d ∷ rest)

-- Cells that are no answer's are read the same way, as far as they go; a width or a row count below 0 goes by its size.
unfoldable pub put_cells : Due → List ℤ → Bytes → Bytes
put_cells d [] rest = rest
put_cells d (z ∷ zs) rest = put_cell d z (put_cells (due_after d z) zs rest)

-- ---- outcomes

-- what a line prints, by what it says, of the cells and bytes that it leaves
unfoldable pub outcome_of : Message → List ℤ → Bytes → Outcome
outcome_of Quiet zs ys = quiet
outcome_of (Refusal n) zs ys = refusal n
outcome_of (Cells n) zs ys = cells (take n zs)
outcome_of (Text n) zs ys = text (take n ys)

unfoldable pub put_refusal : ℕ → Bytes → Bytes
put_refusal n rest = bytes "refused " ++ put_nat n (10 ∷ rest)

unfoldable pub put_text : Bytes → Bytes → Bytes
put_text bs rest = bs ++ (10 ∷ rest)

unfoldable pub put_outcome : Outcome → Bytes → Bytes
put_outcome quiet rest = rest
put_outcome (refusal n) rest = put_refusal n rest
put_outcome (cells zs) rest = put_cells Routes zs rest
put_outcome (text bs) rest = put_text bs rest

unfoldable pub outcome_text : Outcome → Bytes
outcome_text o = put_outcome o []

-- all that a script prints
unfoldable pub put_outcomes : List Outcome → Bytes → Bytes
put_outcomes [] rest = rest
put_outcomes (o ∷ os) rest = put_outcome o (put_outcomes os rest)

-- ---- an answer, straight from its routes' tables

-- texts one after another
unfoldable pub put_each : {A : Type 0} → (A → Bytes → Bytes) → List A → Bytes → Bytes
put_each put [] rest = rest
put_each put (x ∷ xs) rest = put x (put_each put xs rest)

-- a word and numbers
unfoldable pub put_header : Bytes → List ℕ → Bytes → Bytes
put_header w ns rest = w ++ put_items put_nat ns (10 ∷ rest)

-- a row: its time and its values
unfoldable pub put_row : Row → Bytes → Bytes
put_row r rest = put_nat r.at (put_items put_int r.values (10 ∷ rest))

unfoldable pub put_table : List ℕ → Table → Bytes → Bytes
put_table ns t rest = put_header (bytes "route") (nth 0 ns 0 ∷ nth 0 ns 1 ∷ suc (length t.cols) ∷ length t.rows ∷ []) (put_each put_row t.rows rest)

unfoldable pub put_answer : Record → Caller → List Route → Bytes → Bytes
put_answer x who rs rest = put_header (bytes "routes") (length rs ∷ []) (put_each (λ r. put_table r.grants (route_table x who r)) rs rest)

-- To unfold this is to unfold every definition above.
unfoldable pub outcomes_compute : Unit {0}
unfolding grammar_computes rows_due row_due due_after front_of cell_end end_of put_cell put_cells outcome_of put_refusal put_text put_outcome outcome_text put_outcomes put_each put_header put_row put_table put_answer
outcomes_compute = tt
