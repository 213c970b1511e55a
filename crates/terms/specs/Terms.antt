-- Columns, operands and comparisons as they are read: a column by its place in the schema, a term by its code.
use Rattle.std.specs.Prelude.{List, Bool, false, ◌&&◌, ◌||◌, not, cond, ℕ, zero, suc, ◌+◌, ◌*◌, ◌-◌, ℤ, pos, negsuc, ltb, eqb, drop, get_or}
use Rattle.std.proofs.Math.Option.{Option, none, some}
use Rattle.syntax.specs.Grammar as G
use Rattle.syntax.specs.Grammar.{Bytes, bytes, eq, Ref, Operand, Test, Cond, test, all, any, neg}
use Rattle.syntax.specs.Readers.{Read, read_int, read_ref, read_operand, read_test}
use Rattle.syntax.specs.Limits.{max_streams, max_columns, short_ref, is_value}
use Rattle.text.specs.Words.{Found, Some, None, seen, left_at, code_of, value_kept}
use Rattle.text.specs.declared.Name.{Name}
use Rattle.items.specs.Items.{code_short}
use Rattle.schema.specs.Schemas.{column_place}
use Rattle.terms.specs.declared.Reference.{Reference}
use Rattle.terms.specs.declared.Term.{Term}
use Rattle.terms.specs.declared.Comparison.{Comparison}

-- ---- terms by code: a column by its place among the 24 of a schema's names, and what else a term may be

abbrev pub time_code : ℕ
time_code = max_streams * max_columns

abbrev pub figure_code : ℕ
figure_code = time_code + 1

abbrev pub number_code : ℕ
number_code = time_code + 2

abbrev pub entry_code : ℕ
entry_code = time_code + 3

-- what is not declared
abbrev pub unknown_code : ℕ
unknown_code = time_code + 4

-- the first of n numbers from a place on that is a given one, or n
unfoldable pub found : List ℕ → ℕ → ℕ → ℕ → ℕ
found ns at zero x = 0
found ns at (suc n) x = cond (eqb (get_or ns at 0) x) 0 (suc (found ns (suc at) n x))

-- the place of a stream among the four by the number of its name, or four
unfoldable pub stream_found : List ℕ → ℕ → ℕ
stream_found ns n = found ns 0 max_streams n

-- the place of a column among the 24 by the numbers of its two names
unfoldable pub place_in : List ℕ → ℕ → ℕ → ℕ
place_in ns n m =
    let s = found ns 0 max_streams n in
    let c = found ns (column_place s) max_columns m in
    cond (ltb s max_streams && ltb c max_columns) (s * max_columns + c) unknown_code

-- ---- what stands where a column may

-- the numbers of its two names; the second is 0 where it stands alone
unfoldable pub first_code : Ref → ℕ
first_code (G.dotted n m) = code_short n
first_code G.time = code_of (bytes "time")
first_code G.figure = code_of (bytes "figure")

unfoldable pub second_code : Ref → ℕ
second_code (G.dotted n m) = code_short m
second_code G.time = 0
second_code G.figure = 0

unfoldable pub ref_seen : Bytes → Read Ref → Reference
ref_seen s r = record { over = not (short_ref r.what); first = first_code r.what; second = second_code r.what; next = left_at s r }

unfoldable pub ref_at : Bytes → ℕ → Found Reference
ref_at s at = seen (ref_seen s) (read_ref (drop at s))

-- what the code makes of it: two names with a dot between them, a name that stands alone
unfoldable pub dotted_of : Name → Name → Reference
dotted_of n m = record { over = n.long || m.long; first = n.code; second = m.code; next = m.next }

unfoldable pub alone_of : Name → Reference
alone_of n = record { over = false; first = n.code; second = 0; next = n.next }

-- the code of a term by the numbers of its names
unfoldable pub code_in : List ℕ → ℕ → ℕ → ℕ
code_in ns n m = cond (eqb m 0) (cond (eqb n (code_of (bytes "time"))) time_code figure_code) (cond (eqb n (code_of (bytes "self"))) entry_code (place_in ns n m))

unfoldable pub ref_code : List ℕ → Ref → ℕ
ref_code ns r = code_in ns (first_code r) (second_code r)

-- ---- the right side of a comparison: a term's code, and a number or an entry's name as its value

-- a 32-bit number, the lowest as 0
unfoldable pub biased : ℤ → ℕ
biased (pos n) = 2147483648 + n
biased (negsuc n) = 2147483647 - n

unfoldable pub operand_over : Operand → Bool
operand_over (G.ref r) = not (short_ref r)
operand_over (G.number z) = not (is_value z)

unfoldable pub operand_code : List ℕ → Operand → ℕ
operand_code ns (G.ref r) = ref_code ns r
operand_code ns (G.number z) = number_code

unfoldable pub operand_value : List ℕ → Operand → ℕ
operand_value ns (G.ref r) = cond (eqb (ref_code ns r) entry_code) (second_code r) 0
operand_value ns (G.number z) = biased (value_kept z)

unfoldable pub operand_seen : List ℕ → Bytes → Read Operand → Term
operand_seen ns s r = record { over = operand_over r.what; code = operand_code ns r.what; value = operand_value ns r.what; next = left_at s r }

unfoldable pub operand_at : List ℕ → Bytes → ℕ → Found Term
operand_at ns s at = seen (operand_seen ns s) (read_operand (drop at s))

-- an operand that is a column, and one that is a number
unfoldable pub ref_term : List ℕ → Bytes → Read Ref → Term
ref_term ns s r =
    record { over = not (short_ref r.what); code = ref_code ns r.what; value = cond (eqb (ref_code ns r.what) entry_code) (second_code r.what) 0; next = left_at s r }

unfoldable pub ref_term_at : List ℕ → Bytes → ℕ → Found Term
ref_term_at ns s at = seen (ref_term ns s) (read_ref (drop at s))

unfoldable pub number_term : Bytes → Read ℤ → Term
number_term s r = record { over = not (is_value r.what); code = number_code; value = biased (value_kept r.what); next = left_at s r }

unfoldable pub number_term_at : Bytes → ℕ → Found Term
number_term_at s at = seen (number_term s) (read_int (drop at s))

-- ---- a comparison after its head, its closing bracket included

unfoldable pub test_over : Test → Bool
test_over t = not (short_ref t.left) || operand_over t.right

unfoldable pub left_code : List ℕ → Test → ℕ
left_code ns t = ref_code ns t.left

unfoldable pub right_code : List ℕ → Test → ℕ
right_code ns t = operand_code ns t.right

unfoldable pub test_value : List ℕ → Test → ℕ
test_value ns t = operand_value ns t.right

-- the comparison of a test that ends at a place
unfoldable pub comparison_of : List ℕ → Test → ℕ → Comparison
comparison_of ns t next = record { over = test_over t; left = left_code ns t; right = right_code ns t; value = test_value ns t; next = next }

-- the same by what the code has of its two sides
unfoldable pub compared : Reference → ℕ → Term → ℕ → Comparison
compared l left t next = record { over = l.over || t.over; left = left; right = t.code; value = t.value; next = next }

-- a comparison has no conditions inside
unfoldable pub comparison_from : List ℕ → Cond Test → ℕ → Found Comparison
comparison_from ns (test t) next = Some (comparison_of ns t next)
comparison_from ns (all cs) next = None
comparison_from ns (any cs) next = None
comparison_from ns (neg c) next = None

unfoldable pub comparison_read : List ℕ → Bytes → Option (Read (Cond Test)) → Found Comparison
comparison_read ns s none = None
comparison_read ns s (some r) = comparison_from ns r.what (left_at s r)

unfoldable pub comparison_at : List ℕ → Bytes → ℕ → Found Comparison
comparison_at ns s at = comparison_read ns s (read_test eq (drop at s))
