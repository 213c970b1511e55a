-- What conditions mean, from texts: comparisons, `and`, `or` and `not`, in picks and in grants.
use mathlib.Core.Path.{refl}
use mathlib.Core.List.{List, [], ◌∷◌, ◌++◌}
use lib.IntN.{pos, negsuc}
use Rattle.calls.specs.Scripts.{quiet, refusal, cells, scripts_compute}
use Rattle.samples.proofs.Transcripts.{Said, ◌says◌, each, Holds}

-- every pair of two truths, numbered
abbrev truth : List Said
truth =
    each quiet
    ("(stream t a b n)"
    ∷ "(row t 0 0 1)"
    ∷ "(row t 0 1 2)"
    ∷ "(row t 1 0 3)"
    ∷ "(row t 1 1 4)"
    ∷ "(grant all read (of t) (show *))"
    ∷ "(caller (roles all))"
    ∷ [])

-- of the four rows, those that each connective picks
pub connectives : Holds
    (truth ++ ("(ask (keep t.n (pick (= t.a 1) (in t))))" says cells (pos 1 ∷ pos 1 ∷ pos 0 ∷ pos 2 ∷ pos 2 ∷ pos 0 ∷ pos 3 ∷ pos 0 ∷ pos 4 ∷ [])
    ∷ "(ask (keep t.n (pick (and (= t.a 1) (= t.b 1)) (in t))))" says cells (pos 1 ∷ pos 1 ∷ pos 0 ∷ pos 2 ∷ pos 1 ∷ pos 0 ∷ pos 4 ∷ [])
    ∷ "(ask (keep t.n (pick (or (= t.a 1) (= t.b 1)) (in t))))" says cells (pos 1 ∷ pos 1 ∷ pos 0 ∷ pos 2 ∷ pos 3 ∷ pos 0 ∷ pos 2 ∷ pos 0 ∷ pos 3 ∷ pos 0 ∷ pos 4 ∷ [])
    ∷ "(ask (keep t.n (pick (not (= t.a 1)) (in t))))" says cells (pos 1 ∷ pos 1 ∷ pos 0 ∷ pos 2 ∷ pos 2 ∷ pos 0 ∷ pos 1 ∷ pos 0 ∷ pos 2 ∷ [])
    ∷ "(ask (keep t.n (pick (and (= t.a 1)) (in t))))" says cells (pos 1 ∷ pos 1 ∷ pos 0 ∷ pos 2 ∷ pos 2 ∷ pos 0 ∷ pos 3 ∷ pos 0 ∷ pos 4 ∷ [])
    ∷ "(ask (keep t.n (pick (or (= t.b 1)) (in t))))" says cells (pos 1 ∷ pos 1 ∷ pos 0 ∷ pos 2 ∷ pos 2 ∷ pos 0 ∷ pos 2 ∷ pos 0 ∷ pos 4 ∷ [])
    ∷ "(ask (keep t.n (pick (not (and (= t.a 1) (= t.b 1))) (in t))))" says cells (pos 1 ∷ pos 1 ∷ pos 0 ∷ pos 2 ∷ pos 3 ∷ pos 0 ∷ pos 1 ∷ pos 0 ∷ pos 2 ∷ pos 0 ∷ pos 3 ∷ [])
    ∷ "(ask (keep t.n (pick (not (or (= t.a 1) (= t.b 1))) (in t))))" says cells (pos 1 ∷ pos 1 ∷ pos 0 ∷ pos 2 ∷ pos 1 ∷ pos 0 ∷ pos 1 ∷ [])
    ∷ "(ask (keep t.n (pick (not (not (= t.b 1))) (in t))))" says cells (pos 1 ∷ pos 1 ∷ pos 0 ∷ pos 2 ∷ pos 2 ∷ pos 0 ∷ pos 2 ∷ pos 0 ∷ pos 4 ∷ [])
    ∷ "(ask (keep t.n (pick (or (and (= t.a 1) (= t.b 0)) (and (= t.a 0) (= t.b 1))) (in t))))" says cells (pos 1 ∷ pos 1 ∷ pos 0 ∷ pos 2 ∷ pos 2 ∷ pos 0 ∷ pos 2 ∷ pos 0 ∷ pos 3 ∷ [])
    ∷ "(ask (keep t.n (pick (and (or (= t.a 1) (= t.b 0)) (or (= t.a 0) (= t.b 1))) (in t))))" says cells (pos 1 ∷ pos 1 ∷ pos 0 ∷ pos 2 ∷ pos 2 ∷ pos 0 ∷ pos 1 ∷ pos 0 ∷ pos 4 ∷ [])
    ∷ "(ask (keep t.n (pick (or (= t.n 1) (= t.n 3) (= t.n 4)) (in t))))" says cells (pos 1 ∷ pos 1 ∷ pos 0 ∷ pos 2 ∷ pos 3 ∷ pos 0 ∷ pos 1 ∷ pos 0 ∷ pos 3 ∷ pos 0 ∷ pos 4 ∷ [])
    ∷ "(ask (keep t.n (pick (and (/= t.n 1) (/= t.n 3) (/= t.n 4)) (in t))))" says cells (pos 1 ∷ pos 1 ∷ pos 0 ∷ pos 2 ∷ pos 1 ∷ pos 0 ∷ pos 2 ∷ [])
    ∷ "(ask (keep t.n (pick (or (= t.n 5) (= t.n 6)) (in t))))" says cells (pos 1 ∷ pos 1 ∷ pos 0 ∷ pos 2 ∷ pos 0 ∷ [])
    ∷ "(ask (keep t.n (pick (and (< t.n 5) (< t.n 6)) (in t))))" says cells (pos 1 ∷ pos 1 ∷ pos 0 ∷ pos 2 ∷ pos 4 ∷ pos 0 ∷ pos 1 ∷ pos 0 ∷ pos 2 ∷ pos 0 ∷ pos 3 ∷ pos 0 ∷ pos 4 ∷ [])
    ∷ []))
unfolding scripts_compute
connectives = refl

-- a pick above a pick
pub picks_together : Holds
    (truth ++ (each (cells (pos 1 ∷ pos 1 ∷ pos 0 ∷ pos 2 ∷ pos 1 ∷ pos 0 ∷ pos 3 ∷ []))
    ("(ask (keep t.n (pick (= t.a 1) (pick (= t.b 0) (in t)))))"
    ∷ [])))
unfolding scripts_compute
picks_together = refl

-- the same in grants; the conditions of `when` hold together
pub granted_connectives : Holds
    ("(stream t a b n)" says quiet
    ∷ "(row t 0 0 1)" says quiet
    ∷ "(row t 0 1 2)" says quiet
    ∷ "(row t 1 0 3)" says quiet
    ∷ "(row t 1 1 4)" says quiet
    ∷ "(grant all read (of t) (show t.n) (when (and (= t.a 1) (= t.b 1))))" says quiet
    ∷ "(grant all read (of t) (show t.n) (when (or (= t.a 1) (= t.b 1))))" says quiet
    ∷ "(grant all read (of t) (show t.n) (when (not (= t.a 1))))" says quiet
    ∷ "(grant all read (of t) (show t.n) (when (= t.a 1) (= t.b 0)))" says quiet
    ∷ "(grant all read (of t) (show t.n) (when (= t.b 1)))" says quiet
    ∷ "(grant all read (of t) (show t.n) (when (not (or (= t.a 1) (= t.b 1)))))" says quiet
    ∷ "(grant all read (of t) (show t.n) (when (/= t.n 1) (/= t.n 2) (/= t.n 3)))" says quiet
    ∷ "(caller (roles all))" says quiet
    ∷ "(ask (in t))" says cells (pos 7 ∷ pos 1 ∷ pos 0 ∷ pos 2 ∷ pos 1 ∷ pos 0 ∷ pos 4 ∷ pos 2 ∷ pos 0 ∷ pos 2 ∷ pos 3 ∷ pos 0 ∷ pos 2 ∷ pos 0 ∷ pos 3 ∷ pos 0 ∷ pos 4 ∷ pos 3 ∷ pos 0 ∷ pos 2 ∷ pos 2 ∷ pos 0 ∷ pos 1 ∷ pos 0 ∷ pos 2 ∷ pos 4 ∷ pos 0 ∷ pos 2 ∷ pos 1 ∷ pos 0 ∷ pos 3 ∷ pos 5 ∷ pos 0 ∷ pos 2 ∷ pos 2 ∷ pos 0 ∷ pos 2 ∷ pos 0 ∷ pos 4 ∷ pos 6 ∷ pos 0 ∷ pos 2 ∷ pos 1 ∷ pos 0 ∷ pos 1 ∷ pos 7 ∷ pos 0 ∷ pos 2 ∷ pos 1 ∷ pos 0 ∷ pos 4 ∷ [])
    ∷ [])
unfolding scripts_compute
granted_connectives = refl

-- ---- comparisons

abbrev numbers : List Said
numbers =
    each quiet
    ("(stream s v w)"
    ∷ "(clock 1)"
    ∷ "(row s -3 -2)"
    ∷ "(clock 2)"
    ∷ "(row s -2 -2)"
    ∷ "(clock 3)"
    ∷ "(row s 3 -2)"
    ∷ "(clock 4)"
    ∷ "(row s 10 9)"
    ∷ "(grant all read (of s) (show *))"
    ∷ "(caller (roles all))"
    ∷ [])

-- with a number
pub comparisons : Holds
    (numbers ++ ("(ask (keep s.v (pick (= s.v -2) (in s))))" says cells (pos 1 ∷ pos 1 ∷ pos 0 ∷ pos 2 ∷ pos 1 ∷ pos 2 ∷ negsuc 1 ∷ [])
    ∷ "(ask (keep s.v (pick (/= s.v -2) (in s))))" says cells (pos 1 ∷ pos 1 ∷ pos 0 ∷ pos 2 ∷ pos 3 ∷ pos 1 ∷ negsuc 2 ∷ pos 3 ∷ pos 3 ∷ pos 4 ∷ pos 10 ∷ [])
    ∷ "(ask (keep s.v (pick (< s.v -2) (in s))))" says cells (pos 1 ∷ pos 1 ∷ pos 0 ∷ pos 2 ∷ pos 1 ∷ pos 1 ∷ negsuc 2 ∷ [])
    ∷ "(ask (keep s.v (pick (<= s.v -2) (in s))))" says cells (pos 1 ∷ pos 1 ∷ pos 0 ∷ pos 2 ∷ pos 2 ∷ pos 1 ∷ negsuc 2 ∷ pos 2 ∷ negsuc 1 ∷ [])
    ∷ "(ask (keep s.v (pick (> s.v -2) (in s))))" says cells (pos 1 ∷ pos 1 ∷ pos 0 ∷ pos 2 ∷ pos 2 ∷ pos 3 ∷ pos 3 ∷ pos 4 ∷ pos 10 ∷ [])
    ∷ "(ask (keep s.v (pick (>= s.v -2) (in s))))" says cells (pos 1 ∷ pos 1 ∷ pos 0 ∷ pos 2 ∷ pos 3 ∷ pos 2 ∷ negsuc 1 ∷ pos 3 ∷ pos 3 ∷ pos 4 ∷ pos 10 ∷ [])
    ∷ "(ask (keep s.v (pick (> s.v 9) (in s))))" says cells (pos 1 ∷ pos 1 ∷ pos 0 ∷ pos 2 ∷ pos 1 ∷ pos 4 ∷ pos 10 ∷ [])
    ∷ "(ask (keep s.v (pick (< s.v 0) (in s))))" says cells (pos 1 ∷ pos 1 ∷ pos 0 ∷ pos 2 ∷ pos 2 ∷ pos 1 ∷ negsuc 2 ∷ pos 2 ∷ negsuc 1 ∷ [])
    ∷ []))
unfolding scripts_compute
comparisons = refl

-- with a column
pub column_comparisons : Holds
    (numbers ++ ("(ask (keep s.v (pick (= s.v s.w) (in s))))" says cells (pos 1 ∷ pos 1 ∷ pos 0 ∷ pos 2 ∷ pos 1 ∷ pos 2 ∷ negsuc 1 ∷ [])
    ∷ "(ask (keep s.v (pick (/= s.v s.w) (in s))))" says cells (pos 1 ∷ pos 1 ∷ pos 0 ∷ pos 2 ∷ pos 3 ∷ pos 1 ∷ negsuc 2 ∷ pos 3 ∷ pos 3 ∷ pos 4 ∷ pos 10 ∷ [])
    ∷ "(ask (keep s.v (pick (< s.v s.w) (in s))))" says cells (pos 1 ∷ pos 1 ∷ pos 0 ∷ pos 2 ∷ pos 1 ∷ pos 1 ∷ negsuc 2 ∷ [])
    ∷ "(ask (keep s.v (pick (<= s.v s.w) (in s))))" says cells (pos 1 ∷ pos 1 ∷ pos 0 ∷ pos 2 ∷ pos 2 ∷ pos 1 ∷ negsuc 2 ∷ pos 2 ∷ negsuc 1 ∷ [])
    ∷ "(ask (keep s.v (pick (> s.v s.w) (in s))))" says cells (pos 1 ∷ pos 1 ∷ pos 0 ∷ pos 2 ∷ pos 2 ∷ pos 3 ∷ pos 3 ∷ pos 4 ∷ pos 10 ∷ [])
    ∷ "(ask (keep s.v (pick (>= s.v s.w) (in s))))" says cells (pos 1 ∷ pos 1 ∷ pos 0 ∷ pos 2 ∷ pos 3 ∷ pos 2 ∷ negsuc 1 ∷ pos 3 ∷ pos 3 ∷ pos 4 ∷ pos 10 ∷ [])
    ∷ []))
unfolding scripts_compute
column_comparisons = refl

-- of the row's time, with a number and with a column
pub time_comparisons : Holds
    (numbers ++ ("(ask (keep s.v (pick (= time 2) (in s))))" says cells (pos 1 ∷ pos 1 ∷ pos 0 ∷ pos 2 ∷ pos 1 ∷ pos 2 ∷ negsuc 1 ∷ [])
    ∷ "(ask (keep s.v (pick (/= time 2) (in s))))" says cells (pos 1 ∷ pos 1 ∷ pos 0 ∷ pos 2 ∷ pos 3 ∷ pos 1 ∷ negsuc 2 ∷ pos 3 ∷ pos 3 ∷ pos 4 ∷ pos 10 ∷ [])
    ∷ "(ask (keep s.v (pick (< time 2) (in s))))" says cells (pos 1 ∷ pos 1 ∷ pos 0 ∷ pos 2 ∷ pos 1 ∷ pos 1 ∷ negsuc 2 ∷ [])
    ∷ "(ask (keep s.v (pick (<= time 2) (in s))))" says cells (pos 1 ∷ pos 1 ∷ pos 0 ∷ pos 2 ∷ pos 2 ∷ pos 1 ∷ negsuc 2 ∷ pos 2 ∷ negsuc 1 ∷ [])
    ∷ "(ask (keep s.v (pick (> time 2) (in s))))" says cells (pos 1 ∷ pos 1 ∷ pos 0 ∷ pos 2 ∷ pos 2 ∷ pos 3 ∷ pos 3 ∷ pos 4 ∷ pos 10 ∷ [])
    ∷ "(ask (keep s.v (pick (>= time 2) (in s))))" says cells (pos 1 ∷ pos 1 ∷ pos 0 ∷ pos 2 ∷ pos 3 ∷ pos 2 ∷ negsuc 1 ∷ pos 3 ∷ pos 3 ∷ pos 4 ∷ pos 10 ∷ [])
    ∷ "(ask (keep s.v (pick (= time s.v) (in s))))" says cells (pos 1 ∷ pos 1 ∷ pos 0 ∷ pos 2 ∷ pos 1 ∷ pos 3 ∷ pos 3 ∷ [])
    ∷ "(ask (keep s.v (pick (< time s.v) (in s))))" says cells (pos 1 ∷ pos 1 ∷ pos 0 ∷ pos 2 ∷ pos 1 ∷ pos 4 ∷ pos 10 ∷ [])
    ∷ []))
unfolding scripts_compute
time_comparisons = refl

-- with a profile entry
pub entry_comparisons : Holds
    ("(stream s v)" says quiet
    ∷ "(row s -3)" says quiet
    ∷ "(row s -2)" says quiet
    ∷ "(row s 3)" says quiet
    ∷ "(grant a read (of s) (show *) (when (= s.v self.m)))" says quiet
    ∷ "(grant a read (of s) (show *) (when (/= s.v self.m)))" says quiet
    ∷ "(grant a read (of s) (show *) (when (< s.v self.m)))" says quiet
    ∷ "(grant a read (of s) (show *) (when (<= s.v self.m)))" says quiet
    ∷ "(grant a read (of s) (show *) (when (> s.v self.m)))" says quiet
    ∷ "(grant a read (of s) (show *) (when (>= s.v self.m)))" says quiet
    ∷ "(grant a read (of s) (show *) (when (> s.v self.low) (< s.v self.high)))" says quiet
    ∷ "(caller (roles a) (self low -3) (self m -2) (self high 3))" says quiet
    ∷ "(ask (in s))" says cells (pos 7 ∷ pos 1 ∷ pos 0 ∷ pos 2 ∷ pos 1 ∷ pos 0 ∷ negsuc 1 ∷ pos 2 ∷ pos 0 ∷ pos 2 ∷ pos 2 ∷ pos 0 ∷ negsuc 2 ∷ pos 0 ∷ pos 3 ∷ pos 3 ∷ pos 0 ∷ pos 2 ∷ pos 1 ∷ pos 0 ∷ negsuc 2 ∷ pos 4 ∷ pos 0 ∷ pos 2 ∷ pos 2 ∷ pos 0 ∷ negsuc 2 ∷ pos 0 ∷ negsuc 1 ∷ pos 5 ∷ pos 0 ∷ pos 2 ∷ pos 1 ∷ pos 0 ∷ pos 3 ∷ pos 6 ∷ pos 0 ∷ pos 2 ∷ pos 2 ∷ pos 0 ∷ negsuc 1 ∷ pos 0 ∷ pos 3 ∷ pos 7 ∷ pos 0 ∷ pos 2 ∷ pos 1 ∷ pos 0 ∷ negsuc 1 ∷ [])
    ∷ [])
unfolding scripts_compute
entry_comparisons = refl

-- `from` and `to` are the first and the last time that a grant shows
pub granted_times : Holds
    ("(stream s v)" says quiet
    ∷ "(clock 3)" says quiet
    ∷ "(row s 1)" says quiet
    ∷ "(clock 4)" says quiet
    ∷ "(row s 2)" says quiet
    ∷ "(clock 5)" says quiet
    ∷ "(row s 3)" says quiet
    ∷ "(clock 6)" says quiet
    ∷ "(row s 4)" says quiet
    ∷ "(grant a read (of s) (show *) (from 4))" says quiet
    ∷ "(grant a read (of s) (show *) (to 5))" says quiet
    ∷ "(grant a read (of s) (show *) (from 4) (to 5))" says quiet
    ∷ "(grant a read (of s) (show *) (from 5) (to 5))" says quiet
    ∷ "(grant a read (of s) (show *) (when (/= s.v 2)) (from 4) (to 5))" says quiet
    ∷ "(caller (roles a))" says quiet
    ∷ "(ask (in s))" says cells (pos 5 ∷ pos 1 ∷ pos 0 ∷ pos 2 ∷ pos 3 ∷ pos 4 ∷ pos 2 ∷ pos 5 ∷ pos 3 ∷ pos 6 ∷ pos 4 ∷ pos 2 ∷ pos 0 ∷ pos 2 ∷ pos 3 ∷ pos 3 ∷ pos 1 ∷ pos 4 ∷ pos 2 ∷ pos 5 ∷ pos 3 ∷ pos 3 ∷ pos 0 ∷ pos 2 ∷ pos 2 ∷ pos 4 ∷ pos 2 ∷ pos 5 ∷ pos 3 ∷ pos 4 ∷ pos 0 ∷ pos 2 ∷ pos 1 ∷ pos 5 ∷ pos 3 ∷ pos 5 ∷ pos 0 ∷ pos 2 ∷ pos 1 ∷ pos 5 ∷ pos 3 ∷ [])
    ∷ [])
unfolding scripts_compute
granted_times = refl

-- ---- what may stand in a condition

-- in a query: a column or `time` on the left, a column or a number on the right
pub picked_terms : Holds
    (numbers ++ (each (refusal 4)
    ("(ask (pick (= self.v 1) (in s)))"
    ∷ "(ask (pick (= s.v self.v) (in s)))"
    ∷ "(ask (pick (= s.v time) (in s)))"
    ∷ "(ask (pick (= time time) (in s)))"
    ∷ "(ask (pick (= figure 1) (in s)))"
    ∷ "(ask (pick (= s.v figure) (in s)))"
    ∷ "(ask (pick (or (= s.v 1) (= s.v self.v)) (in s)))"
    ∷ "(ask (pick (not (= s.v self.v)) (in s)))"
    ∷ "(ask (pick (and (= s.v 10) (and (= s.v 1) (= s.v time))) (in s)))"
    ∷ [])))
unfolding scripts_compute
picked_terms = refl

-- in a grant: a column on the left; a column, a number or a profile entry on the right
pub granted_terms : Holds
    (numbers ++ ("(grant a read (of s) (show *) (when (= s.v s.w)))" says quiet
    ∷ "(grant a read (of s) (show *) (when (= s.v 1)))" says quiet
    ∷ "(grant a read (of s) (show *) (when (= s.v self.v)))" says quiet
    ∷ "(grant a read (of s) (show *) (when (= self.v 1)))" says refusal 4
    ∷ "(grant a read (of s) (show *) (when (= time 1)))" says refusal 4
    ∷ "(grant a read (of s) (show *) (when (= s.v time)))" says refusal 4
    ∷ "(grant a read (of s) (show *) (when (= figure 1)))" says refusal 4
    ∷ "(grant a read (of s) (show *) (when (= s.v figure)))" says refusal 4
    ∷ "(grant a read (of s) (show *) (when (= s.v 1) (not (= s.v time))))" says refusal 4
    ∷ "(grant a read (of s) (show *) (when (or (= s.v 1) (and (= time 1) (= s.v 1)))))" says refusal 4
    ∷ []))
unfolding scripts_compute
granted_terms = refl
