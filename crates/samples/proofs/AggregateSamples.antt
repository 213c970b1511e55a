-- Aggregates from texts: the five, windows, figures, and what may stand above and below them.
use mathlib.Core.Path.{refl}
use mathlib.Core.List.{List, [], ◌∷◌, ◌++◌}
use lib.IntN.{pos, negsuc}
use Rattle.calls.specs.Scripts.{quiet, refusal, cells, scripts_compute}
use Rattle.samples.proofs.Transcripts.{Said, ◌says◌, each, Holds}

-- values that tell the five apart, at unlike times
abbrev volts : List Said
volts =
    each quiet
    ("(stream s u v)"
    ∷ "(row s 1 5)"
    ∷ "(row s 2 -3)"
    ∷ "(clock 4)"
    ∷ "(row s 3 10)"
    ∷ "(clock 5)"
    ∷ "(row s 4 2)"
    ∷ "(clock 12)"
    ∷ "(row s 5 -7)"
    ∷ "(row s 6 -2)"
    ∷ "(clock 20)"
    ∷ "(grant all read (of s) (show *))"
    ∷ "(caller (roles all))"
    ∷ [])

-- windows of length 5 from 0, 5, 10 and 15; the last holds no row
pub five : Holds
    (volts ++ ("(ask (min s.v 5 5 (in s)))" says cells (pos 1 ∷ pos 1 ∷ pos 0 ∷ pos 2 ∷ pos 3 ∷ pos 5 ∷ negsuc 2 ∷ pos 10 ∷ pos 2 ∷ pos 15 ∷ negsuc 6 ∷ [])
    ∷ "(ask (max s.v 5 5 (in s)))" says cells (pos 1 ∷ pos 1 ∷ pos 0 ∷ pos 2 ∷ pos 3 ∷ pos 5 ∷ pos 10 ∷ pos 10 ∷ pos 2 ∷ pos 15 ∷ negsuc 1 ∷ [])
    ∷ "(ask (count s.v 5 5 (in s)))" says cells (pos 1 ∷ pos 1 ∷ pos 0 ∷ pos 2 ∷ pos 3 ∷ pos 5 ∷ pos 3 ∷ pos 10 ∷ pos 1 ∷ pos 15 ∷ pos 2 ∷ [])
    ∷ "(ask (avg s.v 5 5 (in s)))" says cells (pos 1 ∷ pos 1 ∷ pos 0 ∷ pos 2 ∷ pos 3 ∷ pos 5 ∷ pos 4 ∷ pos 10 ∷ pos 2 ∷ pos 15 ∷ negsuc 3 ∷ [])
    ∷ "(ask (sum s.v 5 5 (in s)))" says cells (pos 1 ∷ pos 1 ∷ pos 0 ∷ pos 2 ∷ pos 3 ∷ pos 5 ∷ pos 12 ∷ pos 10 ∷ pos 2 ∷ pos 15 ∷ negsuc 8 ∷ [])
    ∷ []))
unfolding scripts_compute
five = refl

-- length 7 every 3: a row is in more windows than one
pub overlaps : Holds
    (volts ++ ("(ask (sum s.v 7 3 (in s)))" says cells (pos 1 ∷ pos 1 ∷ pos 0 ∷ pos 2 ∷ pos 5 ∷ pos 7 ∷ pos 14 ∷ pos 10 ∷ pos 12 ∷ pos 13 ∷ negsuc 8 ∷ pos 16 ∷ negsuc 8 ∷ pos 19 ∷ negsuc 8 ∷ [])
    ∷ "(ask (count s.v 7 3 (in s)))" says cells (pos 1 ∷ pos 1 ∷ pos 0 ∷ pos 2 ∷ pos 5 ∷ pos 7 ∷ pos 4 ∷ pos 10 ∷ pos 2 ∷ pos 13 ∷ pos 2 ∷ pos 16 ∷ pos 2 ∷ pos 19 ∷ pos 2 ∷ [])
    ∷ []))
unfolding scripts_compute
overlaps = refl

-- length 2 every 5: the row at 4 is in none, and that at 12 is not in the one that ends there
pub gaps : Holds
    (volts ++ ("(ask (sum s.v 2 5 (in s)))" says cells (pos 1 ∷ pos 1 ∷ pos 0 ∷ pos 2 ∷ pos 2 ∷ pos 2 ∷ pos 2 ∷ pos 7 ∷ pos 2 ∷ [])
    ∷ "(ask (sum s.u 1 12 (in s)))" says cells (pos 1 ∷ pos 1 ∷ pos 0 ∷ pos 2 ∷ pos 2 ∷ pos 1 ∷ pos 3 ∷ pos 13 ∷ pos 11 ∷ [])
    ∷ "(ask (sum s.u 1 13 (in s)))" says cells (pos 1 ∷ pos 1 ∷ pos 0 ∷ pos 2 ∷ pos 1 ∷ pos 1 ∷ pos 3 ∷ [])
    ∷ []))
unfolding scripts_compute
gaps = refl

-- a window is answered once its end is at or below the clock
pub closed_windows : Holds
    ("(stream s v)" says quiet
    ∷ "(row s 3)" says quiet
    ∷ "(clock 4)" says quiet
    ∷ "(row s 6)" says quiet
    ∷ "(grant all read (of s) (show *))" says quiet
    ∷ "(caller (roles all))" says quiet
    ∷ "(ask (sum s.v 5 2 (in s)))" says cells (pos 1 ∷ pos 1 ∷ pos 0 ∷ pos 2 ∷ pos 0 ∷ [])
    ∷ "(clock 5)" says quiet
    ∷ "(ask (sum s.v 5 2 (in s)))" says cells (pos 1 ∷ pos 1 ∷ pos 0 ∷ pos 2 ∷ pos 1 ∷ pos 5 ∷ pos 9 ∷ [])
    ∷ "(clock 6)" says quiet
    ∷ "(ask (sum s.v 5 2 (in s)))" says cells (pos 1 ∷ pos 1 ∷ pos 0 ∷ pos 2 ∷ pos 1 ∷ pos 5 ∷ pos 9 ∷ [])
    ∷ "(clock 7)" says quiet
    ∷ "(ask (sum s.v 5 2 (in s)))" says cells (pos 1 ∷ pos 1 ∷ pos 0 ∷ pos 2 ∷ pos 2 ∷ pos 5 ∷ pos 9 ∷ pos 7 ∷ pos 6 ∷ [])
    ∷ "(clock 9)" says quiet
    ∷ "(ask (sum s.v 5 2 (in s)))" says cells (pos 1 ∷ pos 1 ∷ pos 0 ∷ pos 2 ∷ pos 3 ∷ pos 5 ∷ pos 9 ∷ pos 7 ∷ pos 6 ∷ pos 9 ∷ pos 6 ∷ [])
    ∷ "(clock 100)" says quiet
    ∷ "(ask (sum s.v 5 2 (in s)))" says cells (pos 1 ∷ pos 1 ∷ pos 0 ∷ pos 2 ∷ pos 3 ∷ pos 5 ∷ pos 9 ∷ pos 7 ∷ pos 6 ∷ pos 9 ∷ pos 6 ∷ [])
    ∷ "(ask (sum s.v 2147483647 33554432 (in s)))" says cells (pos 1 ∷ pos 1 ∷ pos 0 ∷ pos 2 ∷ pos 0 ∷ [])
    ∷ [])
unfolding scripts_compute
closed_windows = refl

-- cut towards zero on both sides
pub averages : Holds
    ("(stream s v)" says quiet
    ∷ "(row s 7)" says quiet
    ∷ "(row s 0)" says quiet
    ∷ "(clock 1)" says quiet
    ∷ "(row s -7)" says quiet
    ∷ "(row s 0)" says quiet
    ∷ "(clock 2)" says quiet
    ∷ "(row s -1)" says quiet
    ∷ "(row s 0)" says quiet
    ∷ "(row s 0)" says quiet
    ∷ "(clock 3)" says quiet
    ∷ "(row s -9)" says quiet
    ∷ "(clock 4)" says quiet
    ∷ "(grant all read (of s) (show *))" says quiet
    ∷ "(caller (roles all))" says quiet
    ∷ "(ask (avg s.v 1 1 (in s)))" says cells (pos 1 ∷ pos 1 ∷ pos 0 ∷ pos 2 ∷ pos 4 ∷ pos 1 ∷ pos 3 ∷ pos 2 ∷ negsuc 2 ∷ pos 3 ∷ pos 0 ∷ pos 4 ∷ negsuc 8 ∷ [])
    ∷ "(ask (avg s.v 2 2 (in s)))" says cells (pos 1 ∷ pos 1 ∷ pos 0 ∷ pos 2 ∷ pos 2 ∷ pos 2 ∷ pos 0 ∷ pos 4 ∷ negsuc 1 ∷ [])
    ∷ [])
unfolding scripts_compute
averages = refl

-- figures are wider than values
pub wide_sums : Holds
    ("(stream s v)" says quiet
    ∷ "(row s 2147483647)" says quiet
    ∷ "(row s 2147483647)" says quiet
    ∷ "(clock 1)" says quiet
    ∷ "(row s -2147483648)" says quiet
    ∷ "(row s -2147483648)" says quiet
    ∷ "(row s -2147483648)" says quiet
    ∷ "(clock 2)" says quiet
    ∷ "(grant all read (of s) (show *))" says quiet
    ∷ "(caller (roles all))" says quiet
    ∷ "(ask (sum s.v 1 1 (in s)))" says cells (pos 1 ∷ pos 1 ∷ pos 0 ∷ pos 2 ∷ pos 2 ∷ pos 1 ∷ pos 4294967294 ∷ pos 2 ∷ negsuc 6442450943 ∷ [])
    ∷ "(ask (avg s.v 1 1 (in s)))" says cells (pos 1 ∷ pos 1 ∷ pos 0 ∷ pos 2 ∷ pos 2 ∷ pos 1 ∷ pos 2147483647 ∷ pos 2 ∷ negsuc 2147483647 ∷ [])
    ∷ "(ask (pick (> figure 2147483647) (sum s.v 1 1 (in s))))" says cells (pos 1 ∷ pos 1 ∷ pos 0 ∷ pos 2 ∷ pos 1 ∷ pos 1 ∷ pos 4294967294 ∷ [])
    ∷ [])
unfolding scripts_compute
wide_sums = refl

-- ---- above and below

-- picks on `time` and `figure` alone
pub above_figures : Holds
    (volts ++ ("(ask (pick (> figure 3) (sum s.v 5 5 (in s))))" says cells (pos 1 ∷ pos 1 ∷ pos 0 ∷ pos 2 ∷ pos 1 ∷ pos 5 ∷ pos 12 ∷ [])
    ∷ "(ask (pick (> time 5) (sum s.v 5 5 (in s))))" says cells (pos 1 ∷ pos 1 ∷ pos 0 ∷ pos 2 ∷ pos 2 ∷ pos 10 ∷ pos 2 ∷ pos 15 ∷ negsuc 8 ∷ [])
    ∷ "(ask (pick (and (< figure 3) (< time 12)) (sum s.v 5 5 (in s))))" says cells (pos 1 ∷ pos 1 ∷ pos 0 ∷ pos 2 ∷ pos 1 ∷ pos 10 ∷ pos 2 ∷ [])
    ∷ "(ask (pick (not (= figure 2)) (pick (< time 15) (sum s.v 5 5 (in s)))))" says cells (pos 1 ∷ pos 1 ∷ pos 0 ∷ pos 2 ∷ pos 1 ∷ pos 5 ∷ pos 12 ∷ [])
    ∷ "(ask (pick (< figure 13) (pick (> figure 2) (sum s.v 5 5 (in s)))))" says cells (pos 1 ∷ pos 1 ∷ pos 0 ∷ pos 2 ∷ pos 1 ∷ pos 5 ∷ pos 12 ∷ [])
    ∷ "(ask (pick (= s.v 5) (sum s.v 5 5 (in s))))" says refusal 4
    ∷ "(ask (pick (= figure s.v) (sum s.v 5 5 (in s))))" says refusal 4
    ∷ "(ask (pick (= figure time) (sum s.v 5 5 (in s))))" says refusal 4
    ∷ "(ask (keep figure (sum s.v 5 5 (in s))))" says refusal 4
    ∷ "(ask (keep s.v (sum s.v 5 5 (in s))))" says refusal 4
    ∷ "(ask (keep time (sum s.v 5 5 (in s))))" says refusal 4
    ∷ "(ask (sum figure 5 5 (sum s.v 5 5 (in s))))" says refusal 4
    ∷ "(ask (sum s.v 5 5 (sum s.v 5 5 (in s))))" says refusal 4
    ∷ "(ask (sum s.v 5 5 (pick (> figure 3) (sum s.v 5 5 (in s)))))" says refusal 4
    ∷ []))
unfolding scripts_compute
above_figures = refl

pub below_figures : Holds
    (volts ++ ("(ask (sum s.v 5 5 (pick (> s.v 0) (in s))))" says cells (pos 1 ∷ pos 1 ∷ pos 0 ∷ pos 2 ∷ pos 2 ∷ pos 5 ∷ pos 15 ∷ pos 10 ∷ pos 2 ∷ [])
    ∷ "(ask (sum s.v 5 5 (pick (>= time 4) (in s))))" says cells (pos 1 ∷ pos 1 ∷ pos 0 ∷ pos 2 ∷ pos 3 ∷ pos 5 ∷ pos 10 ∷ pos 10 ∷ pos 2 ∷ pos 15 ∷ negsuc 8 ∷ [])
    ∷ "(ask (sum s.v 5 5 (keep s.v (in s))))" says cells (pos 1 ∷ pos 1 ∷ pos 0 ∷ pos 2 ∷ pos 3 ∷ pos 5 ∷ pos 12 ∷ pos 10 ∷ pos 2 ∷ pos 15 ∷ negsuc 8 ∷ [])
    ∷ "(ask (sum s.v 5 5 (keep s.v s.u (in s))))" says cells (pos 1 ∷ pos 1 ∷ pos 0 ∷ pos 2 ∷ pos 3 ∷ pos 5 ∷ pos 12 ∷ pos 10 ∷ pos 2 ∷ pos 15 ∷ negsuc 8 ∷ [])
    ∷ "(ask (sum s.v 5 5 (pick (> s.u 1) (keep s.v s.u (pick (< s.u 4) (in s))))))" says cells (pos 1 ∷ pos 1 ∷ pos 0 ∷ pos 2 ∷ pos 1 ∷ pos 5 ∷ pos 7 ∷ [])
    ∷ "(ask (sum s.v 5 5 (keep s.u (in s))))" says refusal 4
    ∷ "(ask (sum figure 5 5 (in s)))" says refusal 4
    ∷ "(ask (sum time 5 5 (in s)))" says refusal 4
    ∷ "(ask (sum self.v 5 5 (in s)))" says refusal 4
    ∷ "(ask (sum s.v 5 5 (pick (= figure 1) (in s))))" says refusal 4
    ∷ []))
unfolding scripts_compute
below_figures = refl

-- an aggregate above a join, not below
pub not_below_joins : Holds
    (volts ++ ("(stream t k)" says quiet
    ∷ "(row t 2)" says quiet
    ∷ "(clock 23)" says quiet
    ∷ "(row t 4)" says quiet
    ∷ "(clock 30)" says quiet
    ∷ "(grant all read (of t) (show *))" says quiet
    ∷ "(ask (sum s.v 30 30 (join (= s.u t.k) (in s) (in t))))" says cells (pos 1 ∷ pos 1 ∷ pos 2 ∷ pos 2 ∷ pos 1 ∷ pos 30 ∷ negsuc 0 ∷ [])
    ∷ "(ask (sum s.v 10 10 (join (= s.u t.k) (in s) (in t))))" says cells (pos 1 ∷ pos 1 ∷ pos 2 ∷ pos 2 ∷ pos 1 ∷ pos 30 ∷ negsuc 0 ∷ [])
    ∷ "(ask (sum t.k 10 10 (join (= s.u t.k) (in s) (in t))))" says cells (pos 1 ∷ pos 1 ∷ pos 2 ∷ pos 2 ∷ pos 1 ∷ pos 30 ∷ pos 6 ∷ [])
    ∷ "(ask (join (= s.u t.k) (sum s.v 30 30 (in s)) (in t)))" says refusal 4
    ∷ "(ask (join (= s.u t.k) (in s) (sum t.k 30 30 (in t))))" says refusal 4
    ∷ "(ask (join (= figure t.k) (sum s.v 30 30 (in s)) (in t)))" says refusal 4
    ∷ []))
unfolding scripts_compute
not_below_joins = refl

-- ---- check 5

-- SIZE and OFFSET at least 1, SIZE at most 64 times OFFSET
pub sizes : Holds
    (volts ++ ("(ask (count s.v 1 1 (in s)))" says cells (pos 1 ∷ pos 1 ∷ pos 0 ∷ pos 2 ∷ pos 4 ∷ pos 1 ∷ pos 2 ∷ pos 5 ∷ pos 1 ∷ pos 6 ∷ pos 1 ∷ pos 13 ∷ pos 2 ∷ [])
    ∷ "(ask (count s.v 0 1 (in s)))" says refusal 5
    ∷ "(ask (count s.v 1 0 (in s)))" says refusal 5
    ∷ "(ask (count s.v 0 0 (in s)))" says refusal 5
    ∷ "(ask (count s.v -1 1 (in s)))" says refusal 5
    ∷ "(ask (count s.v 1 -1 (in s)))" says refusal 5
    ∷ "(ask (count s.v 64 1 (in s)))" says cells (pos 1 ∷ pos 1 ∷ pos 0 ∷ pos 2 ∷ pos 0 ∷ [])
    ∷ "(ask (count s.v 65 1 (in s)))" says refusal 5
    ∷ "(ask (count s.v 128 2 (in s)))" says cells (pos 1 ∷ pos 1 ∷ pos 0 ∷ pos 2 ∷ pos 0 ∷ [])
    ∷ "(ask (count s.v 129 2 (in s)))" says refusal 5
    ∷ "(ask (count s.v 1 65 (in s)))" says cells (pos 1 ∷ pos 1 ∷ pos 0 ∷ pos 2 ∷ pos 1 ∷ pos 1 ∷ pos 2 ∷ [])
    ∷ "(ask (count s.v 1 2147483647 (in s)))" says cells (pos 1 ∷ pos 1 ∷ pos 0 ∷ pos 2 ∷ pos 1 ∷ pos 1 ∷ pos 2 ∷ [])
    ∷ "(ask (count s.v 2147483647 33554432 (in s)))" says cells (pos 1 ∷ pos 1 ∷ pos 0 ∷ pos 2 ∷ pos 0 ∷ [])
    ∷ "(ask (count s.v 2147483647 33554431 (in s)))" says refusal 5
    ∷ []))
unfolding scripts_compute
sizes = refl
