-- Examples A to K and those of the refusal table, from their texts, as one table with one theorem.
use mathlib.Core.Path.{◌≡◌, refl}
use mathlib.Core.List.{List, [], ◌∷◌, ◌++◌, map}
use mathlib.Core.Option.{none}
use Prim.Native.Nat.{ℕ, zero, suc}
use lib.IntN.{ℤ, pos, negsuc}
use lib.ListN.{replicate}
use Rattle.refusal.specs.declared.Refusal.TheVariants.{Lent, Malformed, NoRoom}
use Rattle.syntax.specs.Grammar.{Bytes, bytes, read}
use Rattle.model.specs.Queries.{col, Record, Grant, Caller}
use Rattle.calls.specs.Replies.{Reply, refused, filled}
use Rattle.calls.specs.Asking.{ask}
use Rattle.calls.specs.Scripts.{Outcome, quiet, refusal, cells, text, script, scripts_compute}

-- ---- the paper's fixture

abbrev stream_line : Bytes
stream_line = bytes "(stream test lot unit volts)"

-- all of it, at a given last clock
abbrev fixture : Bytes → List Bytes
fixture clock =
    stream_line
    ∷ bytes "(clock 10)" ∷ bytes "(row test 7 1 30)"
    ∷ bytes "(clock 20)" ∷ bytes "(row test 7 2 -5)" ∷ bytes "(row test 8 3 40)"
    ∷ clock
    ∷ bytes "(grant fitter read (of test) (show test.unit test.volts) (when (= test.lot self.lot)))"
    ∷ bytes "(grant seller avg (of test) (show test.volts) (window 60 60))"
    ∷ []

abbrev at_60 : List Bytes → List Bytes
at_60 ls = fixture (bytes "(clock 60)") ++ ls

abbrev fitter : Bytes
fitter = bytes "(caller (roles fitter) (self lot 7))"

abbrev seller : Bytes
seller = bytes "(caller (roles seller))"

abbrev minus : ℕ → ℤ
minus zero = pos 0
minus (suc n) = negsuc n

-- ---- the table

pub data Case : Type 0 where
  prints : List Bytes → ℕ → ℕ → Outcome → Case  -- a script, how many cells and bytes are lent, and what its last line prints
  replies : Record → List Grant → Caller → Bytes → List ℤ → Reply ℤ → Case  -- what is lent to a query, its text, and the reply

pub data Said : Type 0 where
  printed : Outcome → Said
  replied : Reply ℤ → Said

unfoldable pub last_of : Outcome → List Outcome → Outcome
last_of o [] = o
last_of o (p ∷ ps) = last_of p ps

abbrev stated : Case → Said
stated (prints ls n m o) = printed o
stated (replies x gs who bs lent r) = replied r

unfoldable pub given : Case → Said
given (prints ls n m o) = printed (last_of quiet (script (replicate n (pos 0)) (replicate m 0) ls))
given (replies x gs who bs lent r) = replied (ask x gs who bs lent)

abbrev asks : Bytes → Bytes → Outcome → Case
asks who q o = prints (at_60 (who ∷ q ∷ [])) 20 100 o

abbrev one_stream : ℕ → Record
one_stream n = record { clock = 5; schema = record { name = bytes "test"; columns = bytes "lot" ∷ [] } ∷ []; rows = replicate n (record { at = 5; values = pos 7 ∷ [] }) ∷ [] }

abbrev reader : Caller
reader = record { roles = bytes "all" ∷ []; profile = [] }

abbrev reading : List Grant
reading = record { role = bytes "all"; right = read; of = 0 ∷ []; shown = col 0 0 ∷ []; when = []; from = none; to = none; size = 0; offset = 0 } ∷ []

abbrev five : Bytes → Bytes → List Bytes
five s c =
    let g = bytes "(grant all read (of " ++ (s ++ (bytes ") (show *))")) in
    (bytes "(stream " ++ (s ++ (bytes " " ++ (c ++ bytes ")")))) ∷ g ∷ g ∷ g ∷ g ∷ g ∷ []

abbrev times : {A : Type 0} → ℕ → A → List A → List A
times zero a rest = rest
times (suc n) a rest = a ∷ times n a rest

abbrev table : List Case
table =
    -- A to K
    asks fitter (bytes "(ask (in test))") (cells (pos 1 ∷ pos 1 ∷ pos 0 ∷ pos 3 ∷ pos 2 ∷ pos 10 ∷ pos 1 ∷ pos 30 ∷ pos 20 ∷ pos 2 ∷ minus 5 ∷ []))
    ∷ asks seller (bytes "(ask (avg test.volts 60 60 (in test)))") (cells (pos 1 ∷ pos 2 ∷ pos 0 ∷ pos 2 ∷ pos 1 ∷ pos 60 ∷ pos 21 ∷ []))
    ∷ prints (fixture (bytes "(clock 59)") ++ (seller ∷ bytes "(ask (avg test.volts 60 60 (in test)))" ∷ [])) 20 100 (cells (pos 1 ∷ pos 2 ∷ pos 0 ∷ pos 2 ∷ pos 0 ∷ []))
    ∷ asks seller (bytes "(ask (avg test.volts 59 60 (in test)))") (refusal 9)
    ∷ asks seller (bytes "(ask (avg test.volts 60 59 (in test)))") (refusal 9)
    ∷ asks seller (bytes "(ask (avg test.volts 60 60 (pick (> test.volts 0) (in test))))") (refusal 9)
    ∷ asks fitter (bytes "(ask (pick (= test.lot 7) (in test)))") (refusal 9)
    ∷ asks (bytes "(caller (roles fitter))") (bytes "(ask (in test))") (refusal 9)
    ∷ asks fitter (bytes "(ask (sum test.volts 10 10 (in test)))") (cells (pos 1 ∷ pos 1 ∷ pos 0 ∷ pos 2 ∷ pos 2 ∷ pos 20 ∷ pos 30 ∷ pos 30 ∷ minus 5 ∷ []))
    ∷ prints (bytes "(stream s v)" ∷ bytes "(row s -5)" ∷ bytes "(row s 0)" ∷ bytes "(clock 1)" ∷ bytes "(grant all avg (of s) (show *))" ∷ bytes "(caller (roles all))" ∷ bytes "(ask (avg s.v 1 1 (in s)))" ∷ []) 20 0
    (cells (pos 1 ∷ pos 1 ∷ pos 0 ∷ pos 2 ∷ pos 1 ∷ pos 1 ∷ minus 2 ∷ []))
    ∷ asks fitter (bytes "(ask (avg test.volts 64 1 (in test)))") (cells (pos 1 ∷ pos 1 ∷ pos 0 ∷ pos 2 ∷ pos 0 ∷ []))
    ∷ asks fitter (bytes "(ask (avg test.volts 65 1 (in test)))") (refusal 5)
    -- the line of a route
    ∷ asks fitter (bytes "(line 1 (in test))") (text (bytes "(keep test.unit test.volts (pick (and (= test.lot 7)) (in test)))"))
    ∷ asks fitter (bytes "(line 2 (in test))") (refusal 9)
    -- the refusal table
    ∷ asks fitter (bytes "(ask (in test)") (refusal 1)
    ∷ asks fitter (bytes "(ask (in tset))") (refusal 2)
    ∷ asks fitter (bytes "(ask (in abcdefghi))") (refusal 3)
    ∷ asks fitter (bytes "(ask (pick (= test.lot 7) (keep test.volts (in test))))") (refusal 4)
    ∷ asks seller (bytes "(ask (avg test.volts 65 1 (in test)))") (refusal 5)
    ∷ asks fitter (bytes "(stream test unit)") (refusal 6)
    ∷ prints (bytes "(clock 5)" ∷ bytes "(clock 4)" ∷ []) 0 0 (refusal 7)
    ∷ prints (bytes "(stream s v)" ∷ times 129 (bytes "(row s 1)") []) 0 0 (refusal 8)
    ∷ prints (at_60 (bytes "(ask (in test))" ∷ [])) 20 0 (refusal 9)
    ∷ prints (five (bytes "a") (bytes "x") ++ (five (bytes "b") (bytes "y") ++ (bytes "(caller (roles all))" ∷ bytes "(ask (join (= a.x b.y) (in a) (in b)))" ∷ []))) 200 0 (refusal 10)
    ∷ prints (at_60 (fitter ∷ bytes "(ask (in test))" ∷ [])) 10 0 (refusal 11)
    ∷ replies (one_stream 129) reading reader (bytes "(in test)") [] (refused Lent)
    -- the query call itself: a refusal comes alone, and cells past the answer keep what they held
    ∷ replies (one_stream 1) reading reader (bytes "(in test") (pos 9 ∷ []) (refused Malformed)
    ∷ replies (one_stream 1) reading reader (bytes "(in test)") (replicate 6 (pos 9)) (refused NoRoom)
    ∷ replies (one_stream 1) reading reader (bytes "(in test)") (replicate 7 (pos 9)) (filled 7 (pos 1 ∷ pos 1 ∷ pos 0 ∷ pos 2 ∷ pos 1 ∷ pos 5 ∷ pos 7 ∷ []))
    ∷ replies (one_stream 1) reading reader (bytes "(in test)") (replicate 9 (pos 9)) (filled 7 (pos 1 ∷ pos 1 ∷ pos 0 ∷ pos 2 ∷ pos 1 ∷ pos 5 ∷ pos 7 ∷ pos 9 ∷ pos 9 ∷ []))
    ∷ []

pub examples : map given table ≡ map stated table
unfolding scripts_compute last_of given
examples = refl
