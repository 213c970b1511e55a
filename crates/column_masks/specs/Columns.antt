-- Numbers of rows, at steps through lists, and the rows whose numbers compare so.
use Rattle.std.specs.Prelude.{List, Bool, ◌&&◌, ◌||◌, cond, ℕ, ◌+◌, ◌*◌, ◌-◌, ◌≤◌, ◌<◌, ℤ, pos, leb, ltb, eqb, length, get_or}
use Rattle.syntax.specs.Limits.{max_columns, max_rows}
use Rattle.syntax.specs.Grammar.{Op, eq, lt, gt}
use Rattle.model.specs.Meaning.{compares}
use Rattle.rows.specs.declared.Rows.{Rows}
use Rattle.rows.specs.Masks.{row_bit, rows_of, no_rows}

-- ---- numbers at steps

-- every s-th of a list's numbers from number p on
unfoldable pub strip : List ℤ → ℕ → ℕ → ℕ → ℤ
strip xs p s i = get_or xs (p + i * s) (pos 0)

-- the first has a number of 31 bits
abbrev pub near_end : ℕ
near_end = 2147483648

-- at most 128 rows, steps of at most 6, and a list of so many holds the number of the last row
unfoldable pub strip_lent : ℕ → ℕ → ℕ → ℕ → Bool
strip_lent size p s n = leb n max_rows && leb s max_columns && ltb p near_end && (eqb n 0 || ltb (p + (n - 1) * s) size)

-- the numbers of n rows from one on are there, at places that 32 bits hold
pub record Strip (xs : List ℤ) (p s from n : ℕ) : Type 0 where
  pub inside : (i : ℕ) → from ≤ i → i < from + n → p + i * s < length xs
  pub near : (i : ℕ) → from ≤ i → i < from + n → p + i * s < 4294967296

-- ---- two numbers for each row

-- those of row i compare so
unfoldable pub compared_at : Op → (ℕ → ℤ) → (ℕ → ℤ) → ℕ → Bool
compared_at op f g i = compares op (f i) (g i)

-- the rows whose numbers in two lists compare so; none where a list is too short
unfoldable pub compared_rows : Op → List ℤ → ℕ → ℕ → List ℤ → ℕ → ℕ → ℕ → Rows
compared_rows op xs p s ys q t n = cond (strip_lent (length xs) p s n && strip_lent (length ys) q t n) (rows_of (compared_at op (strip xs p s) (strip ys q t)) 0 n) no_rows

-- ---- a column and a value

-- how a value stands to another: 0 the same, 1 below, any other above
unfoldable pub kind_op : ℕ → Op
kind_op kind = cond (eqb kind 0) eq (cond (eqb kind 1) lt gt)

-- of n rows of a column, whose first cell is number p, those that stand so to a value; none where memory is short
unfoldable pub matched : ℕ → List ℤ → ℕ → ℤ → ℕ → Rows
matched kind vs p v n = cond (strip_lent (length vs) p max_columns n) (rows_of (compared_at (kind_op kind) (strip vs p max_columns) (λ i. v)) 0 n) no_rows

-- whether a row passes a test and has a value
unfoldable pub holding : List ℤ → ℕ → ℤ → (ℕ → Bool) → ℕ → Bool
holding vs p v t i = t i && compares eq (strip vs p max_columns i) v

-- of the rows of a mask those with a value; none where memory for 128 rows is short
unfoldable pub held : List ℤ → ℕ → ℤ → Rows → Rows
held vs p v m = cond (strip_lent (length vs) p max_columns max_rows) (rows_of (holding vs p v (row_bit m)) 0 max_rows) no_rows
