-- Whose a grant is, and what it shows of the record.
use Rattle.std.specs.Prelude.{List, [], ◌∷◌, ◌++◌, map, Bool, true, ◌&&◌, cond, ℕ, ℤ, pos}
use Rattle.std.proofs.Math.Option.{Option, none, some}
use Rattle.lists.specs.Lists.{select, some?, every, gather, same_list}
use Rattle.syntax.specs.Grammar.{Bytes, Op, le, ge, Fn, Cond, test, Entry}
use Rattle.model.specs.Conditions.{tests, map_cond}
use Rattle.model.specs.Queries.{Schema, Col, same_col, columns_of, Term, column, time, number, self, Compare, Grant, Caller, Table, Record}
use Rattle.model.specs.Meaning.{holds, kept, pairs, aggregated, table_of, meaning_computes}

-- ---- whose: one who has its role and every profile entry that it names

unfoldable pub has_entry : List Entry → Bytes → Bool
has_entry p n = some? (λ e. same_list e.name n) p

unfoldable pub term_known : List Entry → Term → Bool
term_known p (column c) = true
term_known p time = true
term_known p (number z) = true
term_known p (self n) = has_entry p n

unfoldable pub known : List Entry → Cond Compare → Bool
known p c = every (λ t. term_known p t.left && term_known p t.right) (tests c)

unfoldable pub belongs : Caller → Grant → Bool
belongs who g = some? (same_list g.role) who.roles && every (known who.profile) g.when

-- ---- profile values put in

unfoldable pub entry_value : List Entry → Bytes → ℤ
entry_value [] n = pos 0
entry_value (e ∷ es) n = cond (same_list e.name n) e.value (entry_value es n)

unfoldable pub fill_term : List Entry → Term → Term
fill_term p (column c) = column c
fill_term p time = time
fill_term p (number z) = number z
fill_term p (self n) = number (entry_value p n)

unfoldable pub fill_compare : List Entry → Compare → Compare
fill_compare p t = record { op = t.op; left = fill_term p t.left; right = fill_term p t.right }

unfoldable pub fill : List Entry → Cond Compare → Cond Compare
fill p c = map_cond (fill_compare p) c

-- ---- its view

unfoldable pub limit : Op → Option ℕ → List (Cond Compare)
limit o none = []
limit o (some n) = test (record { op = o; left = time; right = number (pos n) }) ∷ []

-- its conditions with the caller's values, then its times
unfoldable pub limits : Caller → Grant → List (Cond Compare)
limits who g = map (fill who.profile) g.when ++ (limit ge g.from ++ limit le g.to)

-- all rows of its streams side by side, left-major
unfoldable pub whole : Record → List ℕ → Table
whole x [] = record { cols = []; rows = [] }
whole x (s ∷ []) = table_of x s
whole x (s ∷ (t ∷ ts)) = pairs (table_of x s) (whole x (t ∷ ts))

unfoldable pub limited : List (Cond Compare) → Table → Table
limited cs t = record { cols = t.cols; rows = select (λ r. every (holds t.cols r) cs) t.rows }

-- the shown columns, in the streams' order
unfoldable pub shown_of : Schema → Grant → List Col
shown_of d g = select (λ c. some? (same_col c) g.shown) (gather (columns_of d) g.of)

unfoldable pub view : Record → Caller → Grant → Table
view x who g = kept (shown_of x.schema g) (limited (limits who g) (whole x g.of))

-- what an aggregate grant admits for a column, a size and an offset
unfoldable pub admitted : Record → Caller → Grant → Fn → Col → ℕ → ℕ → Table
admitted x who g f c size offset = aggregated x.clock f c size offset (view x who g)

-- To unfold this is to unfold every definition above.
unfoldable pub grants_compute : Unit {0}
unfolding meaning_computes has_entry term_known known belongs entry_value fill_term fill_compare fill limit limits whole limited shown_of view admitted
grants_compute = tt
