-- The bounds on what people write, each stated once with the kind of thing that it bounds.
use Rattle.std.specs.Prelude.{[], ◌∷◌, Bool, true, false, ◌&&◌, cond, ℕ, suc, ◌+◌, max, pred, ℤ, pos, negsuc, leb, eqb, length}
use Rattle.syntax.specs.Grammar.{Bytes, Ref, dotted, time, figure, Cond, test, all, any, neg, Conds, last, more, Form, rows, pick, keep, join, aggregate}

-- streams of a record
abbrev pub max_streams : ℕ
max_streams = 4

-- columns of a stream
abbrev pub max_columns : ℕ
max_columns = 6

-- rows of a stream
abbrev pub max_rows : ℕ
max_rows = 128

-- grants of a catalogue
abbrev pub max_grants : ℕ
max_grants = 24

-- streams that a grant names
abbrev pub max_granted : ℕ
max_granted = 2

-- forms of a query besides its conditions
abbrev pub max_forms : ℕ
max_forms = 12

-- forms of a rewritten query
abbrev pub max_rewritten : ℕ
max_rewritten = 16

-- brackets that are open at once in a line
abbrev pub max_depth : ℕ
max_depth = 8

-- bytes of a written line
abbrev pub max_line : ℕ
max_line = 512

-- bytes of a rewritten line
abbrev pub max_printed : ℕ
max_printed = 4096

-- bytes of a name
abbrev pub max_name : ℕ
max_name = 8

-- roles of a caller
abbrev pub max_roles : ℕ
max_roles = 4

-- profile entries of a caller
abbrev pub max_entries : ℕ
max_entries = 4

-- routes of an answer
abbrev pub max_routes : ℕ
max_routes = 16

-- offsets that a window's size may have
abbrev pub max_overlap : ℕ
max_overlap = 64

-- the highest time, window number, SIZE and OFFSET; and the highest value of a column
abbrev pub top : ℕ
top = 2147483647

-- ---- numbers

-- signed 32-bit: column and profile values, numbers in conditions
unfoldable pub is_value : ℤ → Bool
is_value (pos n) = leb n top
is_value (negsuc n) = leb n top

-- the clock, `from`, `to` and the numbers of `window`
unfoldable pub is_time : ℤ → Bool
is_time (pos n) = leb n top
is_time (negsuc n) = false

-- SIZE and OFFSET have an upper bound only
unfoldable pub not_above : ℤ → Bool
not_above (pos n) = leb n top
not_above (negsuc n) = true

-- a number below 0 counts as 0: for a SIZE or OFFSET check 5 finds it, elsewhere check 3 has
unfoldable pub natural : ℤ → ℕ
natural (pos n) = n
natural (negsuc n) = 0

-- ---- names

unfoldable pub short : Bytes → Bool
short n = leb (length n) max_name

unfoldable pub short_ref : Ref → Bool
short_ref (dotted n m) = short n && short m
short_ref time = true
short_ref figure = true

-- ---- brackets

-- how many brackets are open after a byte
unfoldable pub open_after : ℕ → ℕ → ℕ
open_after b n = cond (eqb b 40) (suc n) (cond (eqb b 41) (pred n) n)

-- how many are open at once at the most, where n are open already
unfoldable pub depth_from : ℕ → Bytes → ℕ
depth_from n [] = n
depth_from n (b ∷ bs) = max n (depth_from (open_after b n) bs)

-- a text's brackets nest no deeper than they may, those that are not counted aside
unfoldable pub shallow : ℕ → Bytes → Bool
shallow spare bs = leb (depth_from 0 bs) (max_depth + spare)

-- how deep the brackets of a condition go, and those of a query
unfoldable mutual
  pub cond_depth : {A : Type 0} → Cond A → ℕ
  cond_depth (test a) = 1
  cond_depth (all cs) = suc (conds_depth cs)
  cond_depth (any cs) = suc (conds_depth cs)
  cond_depth (neg c) = suc (cond_depth c)

  pub conds_depth : {A : Type 0} → Conds A → ℕ
  conds_depth (last c) = cond_depth c
  conds_depth (more c cs) = max (cond_depth c) (conds_depth cs)

unfoldable pub form_depth : Form → ℕ
form_depth (rows s) = 1
form_depth (pick c q) = suc (max (cond_depth c) (form_depth q))
form_depth (keep rs q) = suc (form_depth q)
form_depth (join a b q r) = suc (max (form_depth q) (form_depth r))
form_depth (aggregate f c size offset q) = suc (form_depth q)

-- To unfold this is to unfold every definition above.
unfoldable pub limits_compute : Unit {0}
unfolding is_value is_time not_above natural short short_ref open_after depth_from shallow cond_depth form_depth
limits_compute = tt
