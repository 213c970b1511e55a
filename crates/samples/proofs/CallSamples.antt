-- Calls by number, replies into lent cells and bytes, and lines run with no grants.
use mathlib.Core.Path.{◌≡◌, refl}
use mathlib.Core.List.{List, [], ◌∷◌, ◌++◌, map}
use mathlib.Core.Option.{Option, none, some}
use Prim.Native.Nat.{ℕ, zero, suc}
use lib.IntN.{ℤ, pos, negsuc}
use lib.ListN.{replicate}
use Rattle.refusal.specs.declared.Refusal.TheVariants.{Malformed, Bound, Undeclared, Repeated, Misplaced, WindowSize, ClockBack, StreamFull, NoRoute, ManyRoutes, NoRoom}
use Rattle.refusal.specs.Checks.{first}
use Rattle.syntax.specs.Grammar.{Bytes, bytes, read}
use Rattle.model.specs.Queries.{Schema, Col, col, figure, Grant, Caller, Row, Record, Table}
use Rattle.calls.specs.Replies.{Reply, refused, filled, lent_after}
use Rattle.calls.specs.Calls.{Call, stream, clock, row, clear, clock_line, row_line, clear_line, call_table, after}
use Rattle.calls.specs.Events.{call, grant, caller, query, happened}
use Rattle.calls.specs.Asking.{ask, line, run_line}
use Rattle.calls.specs.Scripts.{scripts_compute}

abbrev declared : Schema
declared = record { name = bytes "a"; columns = bytes "k" ∷ bytes "v" ∷ [] } ∷ record { name = bytes "b"; columns = bytes "w" ∷ [] } ∷ []

abbrev at : ℕ → List ℤ → Row
at t vs = record { at = t; values = vs }

abbrev kept : Record
kept = record { clock = 5; schema = declared; rows = (at 1 (pos 7 ∷ pos 8 ∷ []) ∷ at 4 (pos 9 ∷ negsuc 1 ∷ []) ∷ []) ∷ replicate 128 (at 3 (pos 6 ∷ [])) ∷ [] }

-- ---- clock and row by number

-- from the clock up to 2147483647
pub clocks : map (λ n. first (call_table kept (clock n))) (pos 5 ∷ pos 6 ∷ pos 2147483647 ∷ pos 4 ∷ pos 0 ∷ pos 2147483648 ∷ negsuc 0 ∷ [])
    ≡ none ∷ none ∷ none ∷ some ClockBack ∷ some ClockBack ∷ some Bound ∷ some Bound ∷ []
unfolding scripts_compute
clocks = refl

-- a stream that there is, as many values as columns, each a value, and room
pub rows : map (λ c. first (call_table kept c))
    (row 0 (pos 1 ∷ pos 2 ∷ []) ∷ row 0 (pos 2147483647 ∷ negsuc 2147483647 ∷ []) ∷ row 0 (pos 1 ∷ pos 2147483648 ∷ []) ∷ row 0 (negsuc 2147483648 ∷ pos 1 ∷ []) ∷ row 0 (pos 1 ∷ []) ∷ row 0 (pos 1 ∷ pos 2 ∷ pos 3 ∷ []) ∷ row 0 []
    ∷ row 1 (pos 1 ∷ []) ∷ row 1 (pos 1 ∷ pos 2 ∷ []) ∷ row 1 (pos 2147483648 ∷ []) ∷ row 2 (pos 1 ∷ []) ∷ row 2 (pos 2147483648 ∷ []) ∷ row 2 [] ∷ [])
    ≡ none ∷ none ∷ some Bound ∷ some Bound ∷ some Misplaced ∷ some Misplaced ∷ some Misplaced
    ∷ some StreamFull ∷ some Misplaced ∷ some Bound ∷ some Undeclared ∷ some Bound ∷ some Undeclared ∷ []
unfolding scripts_compute
rows = refl

-- ---- what a list of calls leaves: by number and by line, refused ones included

abbrev lines : List Call
lines =
    stream (bytes "(stream a k v)") ∷ clock (pos 2) ∷ stream (bytes "(stream b w)") ∷ stream (bytes "(stream a x)") ∷ row 1 (pos 4 ∷ []) ∷ row_line (bytes "(row a 5 -6)") ∷ row 0 (pos 7 ∷ []) ∷ clock (pos 1) ∷ clock_line (bytes "(clock 3)")
    ∷ clock_line (bytes "(clock 2)") ∷ row 1 (pos 8 ∷ []) ∷ row 2 (pos 1 ∷ []) ∷ clear_line (bytes "(clear 1)") ∷ row 0 (pos 9 ∷ pos 10 ∷ []) ∷ clock (pos 4) ∷ []

pub left : after lines ≡ record { clock = 4; schema = declared; rows = (at 2 (pos 5 ∷ negsuc 5 ∷ []) ∷ at 3 (pos 9 ∷ pos 10 ∷ []) ∷ []) ∷ (at 2 (pos 4 ∷ []) ∷ at 3 (pos 8 ∷ []) ∷ []) ∷ [] }
unfolding scripts_compute
left = refl

-- since the last clear, by number or by line
pub left_since_clear : map (λ c. after (lines ++ (c ∷ row 1 (pos 11 ∷ []) ∷ []))) (clear ∷ clear_line (bytes "(clear)") ∷ [])
    ≡ replicate 2 (record { clock = 4; schema = declared; rows = [] ∷ (at 4 (pos 11 ∷ []) ∷ []) ∷ [] })
unfolding scripts_compute
left_since_clear = refl

pub nothing_left : after [] ≡ record { clock = 0; schema = []; rows = [] }
unfolding scripts_compute
nothing_left = refl

-- grant, caller and query calls between them change none of it
pub left_between : (happened (caller (bytes "(caller (roles r) (self n 1))") ∷ query ∷ grant (bytes "(grant r read (of a) (show *))")
    ∷ (map call lines ++ (query ∷ grant (bytes "(grant r read (of b) (show *))") ∷ caller (bytes "(caller (roles r r))") ∷ [])))).record_kept ≡ after lines
unfolding scripts_compute
left_between = refl

-- a grant line adds to the catalogue and a caller line replaces the caller, where they are accepted
pub happenings : happened (map call lines ++ (grant (bytes "(grant r read (of a) (show a.v))") ∷ grant (bytes "(grant r read (of c) (show *))") ∷ caller (bytes "(caller (roles r))") ∷ caller (bytes "(caller (roles b b))") ∷ query ∷ []))
    ≡ record {
      record_kept = after lines;
      catalogue = record { role = bytes "r"; right = read; of = 0 ∷ []; shown = col 0 1 ∷ []; when = []; from = none; to = none; size = 0; offset = 0 } ∷ [];
      caller = record { roles = bytes "r" ∷ []; profile = [] };
    }
unfolding scripts_compute
happenings = refl

-- ---- replies

abbrev reading : List Grant
reading = record { role = bytes "r"; right = read; of = 0 ∷ []; shown = col 0 1 ∷ []; when = []; from = none; to = none; size = 0; offset = 0 } ∷ []

abbrev reader : Caller
reader = record { roles = bytes "r" ∷ []; profile = [] }

abbrev asks : List Grant → Bytes → ℕ → Reply ℤ
asks gs bs n = ask kept gs reader bs (replicate n (pos 99))

abbrev lined : List Grant → ℤ → Bytes → ℕ → Reply ℕ
lined gs r bs n = line kept gs reader r bs (replicate n 99)

-- how many cells were written, and all cells lent, those past the answer as they were; one cell fewer does not suffice
pub answered : map (asks reading (bytes "(in a)")) (8 ∷ 9 ∷ 11 ∷ [])
    ≡ refused NoRoom ∷ filled 9 (pos 1 ∷ pos 1 ∷ pos 0 ∷ pos 2 ∷ pos 2 ∷ pos 1 ∷ pos 8 ∷ pos 4 ∷ negsuc 1 ∷ [])
    ∷ filled 9 (pos 1 ∷ pos 1 ∷ pos 0 ∷ pos 2 ∷ pos 2 ∷ pos 1 ∷ pos 8 ∷ pos 4 ∷ negsuc 1 ∷ pos 99 ∷ pos 99 ∷ []) ∷ []
unfolding scripts_compute
answered = refl

-- the same for the bytes of a line
pub written : map (lined reading (pos 1) (bytes "(in a)")) (16 ∷ 17 ∷ 19 ∷ []) ≡ refused NoRoom ∷ filled 17 (bytes "(keep a.v (in a))") ∷ filled 17 (bytes "(keep a.v (in a))" ++ (99 ∷ 99 ∷ [])) ∷ []
unfolding scripts_compute
written = refl

-- a refusal changes no lent cell
pub lent_afterwards : map (λ n. lent_after (asks reading (bytes "(in a)") n) (replicate n (pos 99))) (8 ∷ 10 ∷ [])
    ≡ replicate 8 (pos 99) ∷ (pos 1 ∷ pos 1 ∷ pos 0 ∷ pos 2 ∷ pos 2 ∷ pos 1 ∷ pos 8 ∷ pos 4 ∷ negsuc 1 ∷ pos 99 ∷ []) ∷ []
unfolding scripts_compute
lent_afterwards = refl

-- a query's text by itself: 8 brackets are counted from its first
abbrev keeps : ℕ → Bytes
keeps zero = bytes "(in a)"
keeps (suc n) = bytes "(keep a.v " ++ (keeps n ++ bytes ")")

pub refusals : asks reading (keeps 7) 9 ∷ asks reading (keeps 8) 9 ∷ map (λ q. asks reading q 9)
    (bytes "(in a) " ∷ bytes "(ask (in a))" ∷ bytes "(in c)" ∷ bytes "(keep a.v a.v (in a))" ∷ bytes "(keep time (in a))" ∷ bytes "(sum a.v 0 1 (in a))" ∷ bytes "(in b)" ∷ bytes "(keep a.k (in a))" ∷ replicate 512 40 ∷ replicate 513 40 ∷ [])
    ≡ filled 9 (pos 1 ∷ pos 1 ∷ pos 0 ∷ pos 2 ∷ pos 2 ∷ pos 1 ∷ pos 8 ∷ pos 4 ∷ negsuc 1 ∷ []) ∷ refused Bound
    ∷ refused Malformed ∷ refused Malformed ∷ refused Undeclared ∷ refused Repeated ∷ refused Misplaced ∷ refused WindowSize ∷ refused NoRoute ∷ refused NoRoute ∷ refused Malformed ∷ refused Bound ∷ []
unfolding scripts_compute
refusals = refl

-- and the same with a route's number
pub line_refusals : map (λ r. lined reading r (bytes "(in a)") 17) (pos 1 ∷ pos 0 ∷ pos 2 ∷ negsuc 0 ∷ []) ++ (lined reading (pos 1) (keeps 8) 400 ∷ map (λ q. lined reading (pos 1) q 17)
    (bytes "(line 1 (in a))" ∷ bytes "(in c)" ∷ bytes "(keep a.v a.v (in a))" ∷ bytes "(keep time (in a))" ∷ bytes "(sum a.v 0 1 (in a))" ∷ bytes "(in b)" ∷ replicate 512 40 ∷ replicate 513 40 ∷ []))
    ≡ filled 17 (bytes "(keep a.v (in a))") ∷ refused NoRoute ∷ refused NoRoute ∷ refused NoRoute ∷ refused Bound
    ∷ refused Malformed ∷ refused Undeclared ∷ refused Repeated ∷ refused Misplaced ∷ refused WindowSize ∷ refused NoRoute ∷ refused Malformed ∷ refused Bound ∷ []
unfolding scripts_compute
line_refusals = refl

-- routes are numbered from 1; more than 16 give neither an answer nor a line
abbrev times : ℕ → List Grant
times zero = []
times (suc n) = reading ++ times n

pub numbered : map (λ r. lined (times 16) r (bytes "(in a)") 17) (pos 16 ∷ pos 17 ∷ []) ++ (map (λ r. lined (times 17) r (bytes "(in a)") 17) (pos 1 ∷ pos 17 ∷ pos 18 ∷ []) ++ (lined (times 17) (pos 1) (bytes "(in a)") 0 ∷ []))
    ≡ filled 17 (bytes "(keep a.v (in a))") ∷ refused NoRoute ∷ refused ManyRoutes ∷ refused ManyRoutes ∷ refused NoRoute ∷ refused ManyRoutes ∷ []
unfolding scripts_compute
numbered = refl

pub many_asked : asks (times 17) (bytes "(in a)") 0 ∷ asks (times 16) (bytes "(in a)") 0 ∷ [] ≡ refused ManyRoutes ∷ refused NoRoom ∷ []
unfolding scripts_compute
many_asked = refl

-- ---- a line run with no grants: it is read, and checked for 2, 6, 4 and 5, but for no bound

abbrev table : List Col → List Row → Option Table
table cs rs = some (record { cols = cs; rows = rs })

abbrev nots : ℕ → Bytes
nots zero = bytes "(= a.k 7)"
nots (suc n) = bytes "(not " ++ (nots n ++ bytes ")")

pub run_lines : map (run_line kept)
    (bytes "(in a)" ∷ bytes "(keep a.v (pick (and (= a.k 9)) (in a)))" ∷ bytes "(sum a.v 5 5 (in a))" ∷ (bytes "(pick " ++ (nots 8 ++ bytes " (in a))")) ∷ (bytes "(pick (= a.k 2147483648) (in a))") ∷ bytes "(sum a.v 2147483648 2147483648 (in a))" ∷ [])
    ≡ table (col 0 0 ∷ col 0 1 ∷ []) (at 1 (pos 7 ∷ pos 8 ∷ []) ∷ at 4 (pos 9 ∷ negsuc 1 ∷ []) ∷ []) ∷ table (col 0 1 ∷ []) (at 4 (negsuc 1 ∷ []) ∷ []) ∷ table (figure ∷ []) (at 5 (pos 6 ∷ []) ∷ [])
    ∷ table (col 0 0 ∷ col 0 1 ∷ []) (at 1 (pos 7 ∷ pos 8 ∷ []) ∷ []) ∷ table (col 0 0 ∷ col 0 1 ∷ []) [] ∷ table (figure ∷ []) [] ∷ []
unfolding scripts_compute
run_lines = refl

pub run_refused : map (run_line kept) (bytes "(in a" ∷ bytes "(in c)" ∷ bytes "(keep a.w (in a))" ∷ bytes "(keep a.v a.v (in a))" ∷ bytes "(keep time (in a))" ∷ bytes "(join (= a.k a.k) (in a) (in a))" ∷ bytes "(sum a.v 0 1 (in a))" ∷ []) ≡ replicate 7 none
unfolding scripts_compute
run_refused = refl
