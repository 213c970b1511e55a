-- Refusal 12: records, catalogues and callers that may be lent, and their neighbours that may not.
use mathlib.Core.Path.{◌≡◌, refl}
use mathlib.Core.List.{List, [], ◌∷◌, ◌++◌, map}
use mathlib.Core.Option.{Option, none, some}
use Prim.Native.Nat.{ℕ}
use lib.IntN.{ℤ, pos, negsuc}
use lib.ListN.{replicate}
use Rattle.refusal.specs.declared.Refusal.TheVariants.{Lent, NoRoute}
use Rattle.refusal.specs.Checks.{first}
use Rattle.syntax.specs.Grammar.{Bytes, bytes, eq, read, figures, sum, Right, Cond, test, all, neg, more, last, Entry}
use Rattle.model.specs.Queries.{Stream, Schema, Col, col, figure, Term, column, time, number, self, Compare, Grant, Caller, Row, Record}
use Rattle.calls.specs.Replies.{Reply, refused, filled}
use Rattle.calls.specs.Calls.{Call, stream, clock, row, clear, clock_line, row_line, clear_line, call_table, grant_table}
use Rattle.calls.specs.Asking.{ask, line}
use Rattle.calls.specs.Scripts.{scripts_compute}

-- ---- what is lent

abbrev named : Bytes → List Bytes → Stream
named n cs = record { name = n; columns = cs }

-- two streams, of two columns and of one
abbrev declared : Schema
declared = named (bytes "a") (bytes "k" ∷ bytes "v" ∷ []) ∷ named (bytes "b") (bytes "w" ∷ []) ∷ []

abbrev at : ℕ → List ℤ → Row
at t vs = record { at = t; values = vs }

abbrev recorded : ℕ → Schema → List (List Row) → Record
recorded t d rss = record { clock = t; schema = d; rows = rss }

-- rows of the first stream, and of the second, at clock 5
abbrev left_rows : List Row → Record
left_rows rs = recorded 5 declared (rs ∷ [] ∷ [])

abbrev right_rows : List Row → Record
right_rows rs = recorded 5 declared ([] ∷ rs ∷ [])

-- streams with no rows
abbrev declaring : Schema → Record
declaring d = recorded 5 d (map (λ s. []) d)

abbrev kept : Record
kept = left_rows (at 5 (pos 7 ∷ pos 8 ∷ []) ∷ [])

abbrev compared : Term → Term → Cond Compare
compared a b = test (record { op = eq; left = a; right = b })

-- a grant of role `r`
abbrev granted : Right → List ℕ → List Col → List (Cond Compare) → Option ℕ → Option ℕ → ℕ → ℕ → Grant
granted right of shown when from to size offset =
    record { role = bytes "r"; right = right; of = of; shown = shown; when = when; from = from; to = to; size = size; offset = offset }

abbrev plain_grant : Grant
plain_grant = granted read (0 ∷ []) (col 0 1 ∷ []) [] none none 0 0

abbrev limited : Cond Compare → Grant
limited c = granted read (0 ∷ []) (col 0 1 ∷ []) (c ∷ []) none none 0 0

abbrev role_of : Bytes → Grant
role_of n = record { role = n; right = read; of = 0 ∷ []; shown = col 0 1 ∷ []; when = []; from = none; to = none; size = 0; offset = 0 }

abbrev called : List Bytes → List Entry → Caller
called rs es = record { roles = rs; profile = es }

abbrev entry : Bytes → ℤ → Entry
entry n z = record { name = n; value = z }

abbrev reader : Caller
reader = called (bytes "r" ∷ []) []

-- ---- records

abbrev valid_records : List Record
valid_records =
    recorded 0 [] []
    ∷ recorded 2147483647 declared ([] ∷ [] ∷ [])
    ∷ left_rows (at 0 (pos 1 ∷ negsuc 1 ∷ []) ∷ at 3 (pos 2147483647 ∷ negsuc 2147483647 ∷ []) ∷ at 3 (pos 0 ∷ pos 0 ∷ []) ∷ at 5 (pos 0 ∷ pos 0 ∷ []) ∷ [])
    ∷ right_rows (at 1 (pos 1 ∷ []) ∷ at 5 (pos 2 ∷ []) ∷ [])
    ∷ left_rows (replicate 128 (at 5 (pos 7 ∷ pos 8 ∷ [])))
    ∷ right_rows (replicate 128 (at 0 (pos 7 ∷ [])))
    ∷ declaring (named (bytes "abcdefgh") (bytes "a" ∷ bytes "b" ∷ bytes "c" ∷ bytes "d" ∷ bytes "e" ∷ bytes "f0000009" ∷ []) ∷ [])
    ∷ declaring (named (bytes "a") (bytes "x" ∷ []) ∷ named (bytes "b") (bytes "x" ∷ []) ∷ named (bytes "c") (bytes "x" ∷ []) ∷ named (bytes "d") (bytes "x" ∷ []) ∷ [])
    ∷ []

abbrev invalid_records : List Record
invalid_records =
    -- the clock, and times that fall or pass it, in either stream
    recorded 2147483648 declared ([] ∷ [] ∷ [])
    ∷ left_rows (at 6 (pos 1 ∷ pos 2 ∷ []) ∷ [])
    ∷ right_rows (at 6 (pos 1 ∷ []) ∷ [])
    ∷ left_rows (at 1 (pos 1 ∷ pos 2 ∷ []) ∷ at 6 (pos 1 ∷ pos 2 ∷ []) ∷ [])
    ∷ left_rows (at 3 (pos 1 ∷ pos 2 ∷ []) ∷ at 2 (pos 1 ∷ pos 2 ∷ []) ∷ [])
    ∷ left_rows (at 3 (pos 1 ∷ pos 2 ∷ []) ∷ at 4 (pos 1 ∷ pos 2 ∷ []) ∷ at 3 (pos 1 ∷ pos 2 ∷ []) ∷ [])
    ∷ right_rows (at 3 (pos 1 ∷ []) ∷ at 2 (pos 1 ∷ []) ∷ [])
    -- too many rows, and lists of rows that are not those of the streams
    ∷ left_rows (replicate 129 (at 5 (pos 7 ∷ pos 8 ∷ [])))
    ∷ right_rows (replicate 129 (at 0 (pos 7 ∷ [])))
    ∷ recorded 5 declared ([] ∷ [])
    ∷ recorded 5 declared ([] ∷ [] ∷ [] ∷ [])
    ∷ recorded 5 [] ([] ∷ [])
    -- values
    ∷ left_rows (at 5 (pos 1 ∷ []) ∷ [])
    ∷ left_rows (at 5 (pos 1 ∷ pos 2 ∷ pos 3 ∷ []) ∷ [])
    ∷ right_rows (at 5 [] ∷ [])
    ∷ left_rows (at 5 (pos 1 ∷ pos 2147483648 ∷ []) ∷ [])
    ∷ left_rows (at 5 (negsuc 2147483648 ∷ pos 2 ∷ []) ∷ [])
    ∷ right_rows (at 5 (pos 1 ∷ []) ∷ at 5 (pos 2147483648 ∷ []) ∷ [])
    -- streams and columns
    ∷ declaring (named (bytes "a") [] ∷ [])
    ∷ declaring (named [] (bytes "x" ∷ []) ∷ [])
    ∷ declaring (named (bytes "a") ([] ∷ []) ∷ [])
    ∷ declaring (named (bytes "0a") (bytes "x" ∷ []) ∷ [])
    ∷ declaring (named (bytes "a") (bytes "x" ∷ bytes "Y" ∷ []) ∷ [])
    ∷ declaring (named (bytes "abcdefghi") (bytes "x" ∷ []) ∷ [])
    ∷ declaring (named (bytes "a") (bytes "x" ∷ bytes "abcdefghi" ∷ []) ∷ [])
    ∷ declaring (named (bytes "self") (bytes "x" ∷ []) ∷ [])
    ∷ declaring (named (bytes "a") (bytes "x" ∷ bytes "time" ∷ []) ∷ [])
    ∷ declaring (named (bytes "a") (bytes "figure" ∷ []) ∷ [])
    ∷ declaring (named (bytes "a") (bytes "x" ∷ bytes "y" ∷ bytes "x" ∷ []) ∷ [])
    ∷ declaring (named (bytes "a") (bytes "x" ∷ []) ∷ named (bytes "a") (bytes "y" ∷ []) ∷ [])
    ∷ declaring (named (bytes "z") (bytes "a" ∷ bytes "b" ∷ bytes "c" ∷ bytes "d" ∷ bytes "e" ∷ bytes "f" ∷ bytes "g" ∷ []) ∷ [])
    ∷ declaring (named (bytes "a") (bytes "x" ∷ []) ∷ named (bytes "b") (bytes "x" ∷ []) ∷ named (bytes "c") (bytes "x" ∷ []) ∷ named (bytes "d") (bytes "x" ∷ []) ∷ named (bytes "e") (bytes "x" ∷ []) ∷ [])
    ∷ []

pub records_taken : map (λ x. first (call_table x clear)) valid_records ≡ map (λ x. none) valid_records
unfolding scripts_compute
records_taken = refl

pub records_refused : map (λ x. first (call_table x clear)) invalid_records ≡ map (λ x. some Lent) invalid_records
unfolding scripts_compute
records_refused = refl

-- every call on the record tries it first, before its text too
abbrev refused_calls : List Call
refused_calls =
    stream (bytes "(stream c x)") ∷ clock (pos 9) ∷ clock (negsuc 0) ∷ row 1 (pos 1 ∷ []) ∷ row 9 [] ∷ clear ∷ clock_line (bytes "(clock 9)") ∷ clock_line (bytes "(clock") ∷ row_line (bytes "(row b 1)") ∷ clear_line (bytes "(clear)")
    ∷ clear_line (replicate 513 40) ∷ []

pub calls_refused : map (λ c. first (call_table (right_rows (at 6 (pos 1 ∷ []) ∷ [])) c)) refused_calls ≡ map (λ c. some Lent) refused_calls
unfolding scripts_compute
calls_refused = refl

-- ---- grants

abbrev valid_catalogues : List (List Grant)
valid_catalogues =
    []
    ∷ replicate 24 plain_grant
    ∷ (role_of (bytes "abcdefgh") ∷ [])
    ∷ (granted read (1 ∷ 0 ∷ []) (col 1 0 ∷ col 0 1 ∷ []) (compared (column (col 1 0)) (column (col 0 0)) ∷ []) (some 3) (some 3) 0 0 ∷ [])
    ∷ (granted read (0 ∷ []) (col 0 1 ∷ []) [] (some 2147483647) none 0 0 ∷ granted read (0 ∷ []) (col 0 1 ∷ []) [] none (some 2147483647) 0 0 ∷ [])
    ∷ (granted (figures sum) (0 ∷ []) (col 0 0 ∷ []) [] none none 2147483647 0 ∷ granted (figures sum) (0 ∷ []) (col 0 0 ∷ []) [] none none 0 2147483647 ∷ [])
    ∷ (limited (compared (column (col 0 0)) (number (pos 2147483647))) ∷ limited (compared (column (col 0 0)) (number (negsuc 2147483647))) ∷ limited (compared (column (col 0 0)) (self (bytes "abcdefgh"))) ∷ [])
    ∷ []

abbrev invalid_grants : List Grant
invalid_grants =
    role_of []
    ∷ role_of (bytes "9r")
    ∷ role_of (bytes "abcdefghi")
    -- streams and columns
    ∷ granted read [] (col 0 1 ∷ []) [] none none 0 0
    ∷ granted read (2 ∷ []) (col 2 0 ∷ []) [] none none 0 0
    ∷ granted read (0 ∷ 2 ∷ []) (col 0 1 ∷ []) [] none none 0 0
    ∷ granted read (0 ∷ 0 ∷ []) (col 0 1 ∷ []) [] none none 0 0
    ∷ granted read (0 ∷ []) [] [] none none 0 0
    ∷ granted read (0 ∷ []) (col 0 2 ∷ []) [] none none 0 0
    ∷ granted read (0 ∷ []) (col 0 1 ∷ col 1 0 ∷ []) [] none none 0 0
    ∷ granted read (0 ∷ []) (figure ∷ []) [] none none 0 0
    -- conditions
    ∷ limited (compared (column (col 1 0)) (number (pos 1)))
    ∷ limited (compared (column (col 0 0)) (column (col 0 2)))
    ∷ limited (compared (column figure) (number (pos 1)))
    ∷ limited (compared time (number (pos 1)))
    ∷ limited (compared (number (pos 1)) (number (pos 1)))
    ∷ limited (compared (self (bytes "n")) (number (pos 1)))
    ∷ limited (compared (column (col 0 0)) time)
    ∷ limited (compared (column (col 0 0)) (number (pos 2147483648)))
    ∷ limited (compared (column (col 0 0)) (number (negsuc 2147483648)))
    ∷ limited (compared (column (col 0 0)) (self (bytes "abcdefghi")))
    ∷ limited (compared (column (col 0 0)) (self []))
    ∷ limited (neg (all (more (compared (column (col 0 0)) (number (pos 1))) (last (compared (column (col 0 0)) (number (pos 2147483648)))))))
    ∷ granted read (0 ∷ []) (col 0 1 ∷ []) (compared (column (col 0 0)) (number (pos 1)) ∷ compared (column (col 0 0)) time ∷ []) none none 0 0
    -- numbers
    ∷ granted read (0 ∷ []) (col 0 1 ∷ []) [] (some 4) (some 3) 0 0
    ∷ granted read (0 ∷ []) (col 0 1 ∷ []) [] (some 2147483648) none 0 0
    ∷ granted read (0 ∷ []) (col 0 1 ∷ []) [] none (some 2147483648) 0 0
    ∷ granted read (0 ∷ []) (col 0 1 ∷ []) [] none none 1 0
    ∷ granted read (0 ∷ []) (col 0 1 ∷ []) [] none none 0 1
    ∷ granted (figures sum) (0 ∷ []) (col 0 1 ∷ []) [] none none 2147483648 0
    ∷ granted (figures sum) (0 ∷ []) (col 0 1 ∷ []) [] none none 0 2147483648
    ∷ []

-- with a good grant before it
abbrev invalid_catalogues : List (List Grant)
invalid_catalogues = replicate 25 plain_grant ∷ map (λ g. plain_grant ∷ g ∷ []) invalid_grants

abbrev grant_text : Bytes
grant_text = bytes "(grant r read (of b) (show *))"

-- a grant of three streams, of a schema that has them
abbrev three : Schema
three = declared ++ (named (bytes "c") (bytes "x" ∷ []) ∷ [])

pub catalogues_taken : map (λ gs. ask kept gs reader (bytes "(in b)") []) valid_catalogues ≡ map (λ gs. refused NoRoute) valid_catalogues
unfolding scripts_compute
catalogues_taken = refl

pub catalogues_refused : map (λ gs. ask kept gs reader (bytes "(in b)") []) invalid_catalogues ≡ map (λ gs. refused Lent) invalid_catalogues
unfolding scripts_compute
catalogues_refused = refl

pub lines_refused : map (λ gs. line kept gs reader (pos 1) (bytes "(in b)") []) invalid_catalogues ≡ map (λ gs. refused Lent) invalid_catalogues
unfolding scripts_compute
lines_refused = refl

pub grants_refused : map (λ gs. first (grant_table declared gs grant_text)) invalid_catalogues ≡ map (λ gs. some Lent) invalid_catalogues
unfolding scripts_compute
grants_refused = refl

-- a grant is of two streams at most
pub three_refused : first (grant_table three (granted read (0 ∷ 1 ∷ 2 ∷ []) (col 0 1 ∷ []) [] none none 0 0 ∷ []) grant_text) ≡ some Lent
unfolding scripts_compute
three_refused = refl

-- a grant line tries the streams too
pub schemas_refused : map (λ d. first (grant_table d [] grant_text)) ((named (bytes "b") [] ∷ []) ∷ (declared ++ declared) ∷ []) ≡ some Lent ∷ some Lent ∷ []
unfolding scripts_compute
schemas_refused = refl

-- ---- callers

abbrev valid_callers : List Caller
valid_callers =
    called [] []
    ∷ called (bytes "a" ∷ bytes "b" ∷ bytes "c" ∷ bytes "abcdefgh" ∷ []) []
    ∷ called [] (entry (bytes "a") (pos 2147483647) ∷ entry (bytes "b") (negsuc 2147483647) ∷ entry (bytes "c") (pos 0) ∷ entry (bytes "abcdefgh") (pos 0) ∷ [])
    ∷ []

abbrev invalid_callers : List Caller
invalid_callers =
    called (bytes "r" ∷ bytes "a" ∷ bytes "b" ∷ bytes "c" ∷ bytes "d" ∷ []) []
    ∷ called (bytes "r" ∷ bytes "abcdefghi" ∷ []) []
    ∷ called (bytes "r" ∷ bytes "R" ∷ []) []
    ∷ called (bytes "r" ∷ [] ∷ []) []
    ∷ called (bytes "r" ∷ bytes "a" ∷ bytes "r" ∷ []) []
    ∷ called (bytes "r" ∷ []) (entry (bytes "a") (pos 0) ∷ entry (bytes "b") (pos 0) ∷ entry (bytes "c") (pos 0) ∷ entry (bytes "d") (pos 0) ∷ entry (bytes "e") (pos 0) ∷ [])
    ∷ called (bytes "r" ∷ []) (entry (bytes "abcdefghi") (pos 0) ∷ [])
    ∷ called (bytes "r" ∷ []) (entry (bytes "1") (pos 0) ∷ [])
    ∷ called (bytes "r" ∷ []) (entry (bytes "n") (pos 2147483648) ∷ [])
    ∷ called (bytes "r" ∷ []) (entry (bytes "n") (negsuc 2147483648) ∷ [])
    ∷ called (bytes "r" ∷ []) (entry (bytes "n") (pos 1) ∷ entry (bytes "m") (pos 1) ∷ entry (bytes "n") (pos 2) ∷ [])
    ∷ []

-- one who may read, and each of these beside
abbrev asking : Record → Caller → Reply ℤ
asking x who = ask x (plain_grant ∷ []) who (bytes "(in a)") (replicate 8 (pos 9))

pub reader_answered : asking kept reader ≡ filled 7 (pos 1 ∷ pos 1 ∷ pos 0 ∷ pos 2 ∷ pos 1 ∷ pos 5 ∷ pos 8 ∷ pos 9 ∷ [])
unfolding scripts_compute
reader_answered = refl

pub callers_taken : map (λ who. asking kept who) valid_callers ≡ map (λ who. refused NoRoute) valid_callers
unfolding scripts_compute
callers_taken = refl

pub callers_refused : map (λ who. asking kept who) invalid_callers ≡ map (λ who. refused Lent) invalid_callers
unfolding scripts_compute
callers_refused = refl

pub callers_refused_lines : map (λ who. line kept (plain_grant ∷ []) who (pos 1) (bytes "(in a)") (replicate 50 0)) invalid_callers ≡ map (λ who. refused Lent) invalid_callers
unfolding scripts_compute
callers_refused_lines = refl

-- a query tries the record, and all three before its text
pub records_asked : map (λ x. asking x reader) invalid_records ≡ map (λ x. refused Lent) invalid_records
unfolding scripts_compute
records_asked = refl

pub lent_before_texts : map (λ bs. ask kept (plain_grant ∷ []) (called (bytes "R" ∷ []) []) bs []) (bytes "(in a" ∷ replicate 513 40 ∷ bytes "(in c)" ∷ []) ≡ refused Lent ∷ refused Lent ∷ refused Lent ∷ []
unfolding scripts_compute
lent_before_texts = refl
