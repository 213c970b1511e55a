-- What texts say, by computation: each word and each part of a line, with numbers that tell their places.
use mathlib.Core.Path.{◌≡◌, refl}
use mathlib.Core.List.{[], ◌∷◌, map}
use mathlib.Core.Option.{Option, none, some}
use lib.IntN.{ℤ, pos, negsuc}
use Rattle.syntax.specs.Grammar as G
use Rattle.syntax.specs.Grammar.{Bytes, bytes, Op, eq, ne, lt, le, gt, ge, Fn, Ref, dotted, time, figure, Operand, ref, number, Cond, Test, test, all, any, neg, Conds, last, more, Form, rows, pick, keep, join, aggregate, everything, listed, GrantLine, Verb}
use Rattle.syntax.specs.Readers.{parse_as, parse_query, verb_of, readers_compute}

abbrev col : Bytes → Ref
col c = dotted (bytes "a") c

abbrev compared : Op → ℤ → Cond Test
compared o z = test (record { op = o; left = col (bytes "x"); right = number z })

-- ---- queries

abbrev picked : Cond Test → Option Form
picked c = some (pick c (rows (bytes "a")))

pub comparisons : map parse_query
    (bytes "(pick (= a.x 1) (in a))" ∷ bytes "(pick (/= a.x 2) (in a))" ∷ bytes "(pick (< a.x 3) (in a))" ∷ bytes "(pick (<= a.x 4) (in a))" ∷ bytes "(pick (> a.x 5) (in a))" ∷ bytes "(pick (>= a.x -6) (in a))" ∷ [])
    ≡ picked (compared eq (pos 1)) ∷ picked (compared ne (pos 2)) ∷ picked (compared lt (pos 3)) ∷ picked (compared le (pos 4)) ∷ picked (compared gt (pos 5)) ∷ picked (compared ge (negsuc 5)) ∷ []
unfolding readers_compute
comparisons = refl

pub connectives : map parse_query
    (bytes "(pick (and (= a.x 1) (= a.x 2) (= a.x 3)) (in a))" ∷ bytes "(pick (or (= a.x 1) (= a.x 2)) (in a))" ∷ bytes "(pick (not (= a.x 1)) (in a))" ∷ bytes "(pick (or (and (= a.x 1)) (not (or (= a.x 2)))) (in a))" ∷ [])
    ≡ picked (all (more (compared eq (pos 1)) (more (compared eq (pos 2)) (last (compared eq (pos 3)))))) ∷ picked (any (more (compared eq (pos 1)) (last (compared eq (pos 2))))) ∷ picked (neg (compared eq (pos 1)))
    ∷ picked (any (more (all (last (compared eq (pos 1)))) (last (neg (any (last (compared eq (pos 2)))))))) ∷ []
unfolding readers_compute
connectives = refl

-- a column, `time` or `figure` on the left; these and `self.NAME` or a number on the right
pub terms : map parse_query (bytes "(pick (= time 10) (in a))" ∷ bytes "(pick (< figure a.x) (in a))" ∷ bytes "(pick (= self.n self.m) (in a))" ∷ bytes "(pick (= a.x time) (in a))" ∷ bytes "(pick (= timed.x figure) (in a))" ∷ [])
    ≡ picked (test (record { op = eq; left = time; right = number (pos 10) })) ∷ picked (test (record { op = lt; left = figure; right = ref (col (bytes "x")) }))
    ∷ picked (test (record { op = eq; left = dotted (bytes "self") (bytes "n"); right = ref (dotted (bytes "self") (bytes "m")) })) ∷ picked (test (record { op = eq; left = col (bytes "x"); right = ref time }))
    ∷ picked (test (record { op = eq; left = dotted (bytes "timed") (bytes "x"); right = ref figure })) ∷ []
unfolding readers_compute
terms = refl

pub forms : map parse_query (bytes "(in abc)" ∷ bytes "(keep a.x (in a))" ∷ bytes "(keep a.x a.y b.x (in a))" ∷ bytes "(join (= a.x b.y) (in a) (keep b.y (in b)))" ∷ [])
    ≡ some (rows (bytes "abc")) ∷ some (keep (col (bytes "x") ∷ []) (rows (bytes "a"))) ∷ some (keep (col (bytes "x") ∷ col (bytes "y") ∷ dotted (bytes "b") (bytes "x") ∷ []) (rows (bytes "a")))
    ∷ some (join (col (bytes "x")) (dotted (bytes "b") (bytes "y")) (rows (bytes "a")) (keep (dotted (bytes "b") (bytes "y") ∷ []) (rows (bytes "b")))) ∷ []
unfolding readers_compute
forms = refl

-- SIZE before OFFSET
abbrev aggregated : Fn → Option Form
aggregated f = some (aggregate f (col (bytes "x")) (pos 7) (negsuc 2) (rows (bytes "a")))

pub aggregates : map parse_query (bytes "(min a.x 7 -3 (in a))" ∷ bytes "(max a.x 7 -3 (in a))" ∷ bytes "(count a.x 7 -3 (in a))" ∷ bytes "(avg a.x 7 -3 (in a))" ∷ bytes "(sum a.x 7 -3 (in a))" ∷ [])
    ≡ aggregated G.min ∷ aggregated G.max ∷ aggregated G.count ∷ aggregated G.avg ∷ aggregated G.sum ∷ []
unfolding readers_compute
aggregates = refl

-- ---- lines

pub verbs : map verb_of (bytes "(stream" ∷ bytes "(grant" ∷ bytes "(clock" ∷ bytes "(row" ∷ bytes "(clear)" ∷ bytes "(caller" ∷ bytes "(ask" ∷ bytes "(line" ∷ bytes "(lines" ∷ bytes "ask" ∷ [])
    ≡ some G.stream ∷ some G.grant ∷ some G.clock ∷ some G.row ∷ some G.clear ∷ some G.caller ∷ some G.ask ∷ some G.line ∷ none ∷ none ∷ []
unfolding readers_compute
verbs = refl

pub streams : parse_as G.stream (bytes "(stream a x y)") ≡ some (record { name = bytes "a"; columns = bytes "x" ∷ bytes "y" ∷ [] })
unfolding readers_compute
streams = refl

pub records : parse_as G.row (bytes "(row a 5 -6 0)") ≡ some (record { name = bytes "a"; values = pos 5 ∷ negsuc 5 ∷ pos 0 ∷ [] })
unfolding readers_compute
records = refl

pub clocks : map (parse_as G.clock) (bytes "(clock 120)" ∷ bytes "(clock -120)" ∷ []) ≡ some (pos 120) ∷ some (negsuc 119) ∷ []
unfolding readers_compute
clocks = refl

pub callers : map (parse_as G.caller) (bytes "(caller (roles))" ∷ bytes "(caller (roles a b) (self n 1) (self m -2))" ∷ [])
    ≡ some (record { roles = []; profile = [] })
    ∷ some (record { roles = bytes "a" ∷ bytes "b" ∷ []; profile = record { name = bytes "n"; value = pos 1 } ∷ record { name = bytes "m"; value = negsuc 1 } ∷ [] }) ∷ []
unfolding readers_compute
callers = refl

pub asks : parse_as G.ask (bytes "(ask (in a))") ≡ some (rows (bytes "a"))
unfolding readers_compute
asks = refl

pub routes : map (parse_as G.line) (bytes "(line 12 (in a))" ∷ bytes "(line -1 (in a))" ∷ []) ≡ some (record { route = pos 12; query = rows (bytes "a") }) ∷ some (record { route = negsuc 0; query = rows (bytes "a") }) ∷ []
unfolding readers_compute
routes = refl

-- ---- grants

abbrev granted : G.Right → Option GrantLine
granted r = some (record { role = bytes "r"; right = r; of = bytes "a" ∷ []; show = everything; when = []; from = none; to = none; window = none })

pub rights : map (parse_as G.grant)
    (bytes "(grant r read (of a) (show *))" ∷ bytes "(grant r min (of a) (show *))" ∷ bytes "(grant r max (of a) (show *))" ∷ bytes "(grant r count (of a) (show *))" ∷ bytes "(grant r avg (of a) (show *))" ∷ bytes "(grant r sum (of a) (show *))" ∷ [])
    ≡ granted G.read ∷ granted (G.figures G.min) ∷ granted (G.figures G.max) ∷ granted (G.figures G.count) ∷ granted (G.figures G.avg) ∷ granted (G.figures G.sum) ∷ []
unfolding readers_compute
rights = refl

pub grants : map (parse_as G.grant)
    (bytes "(grant r sum (of a b) (show a.x b.y) (when (= a.x 1) (< a.x 2)) (from 3) (to 4) (window 5 6))" ∷ bytes "(grant r read (of b a) (show b.y) (from 3))" ∷ bytes "(grant r read (of b) (show *) (to 4))" ∷ [])
    ≡ some (record { role = bytes "r"; right = G.figures G.sum; of = bytes "a" ∷ bytes "b" ∷ []; show = listed (col (bytes "x") ∷ dotted (bytes "b") (bytes "y") ∷ []); when = compared eq (pos 1) ∷ compared lt (pos 2) ∷ []; from = some (pos 3); to = some (pos 4); window = some (record { size = pos 5; offset = pos 6 }) })
    ∷ some (record { role = bytes "r"; right = G.read; of = bytes "b" ∷ bytes "a" ∷ []; show = listed (dotted (bytes "b") (bytes "y") ∷ []); when = []; from = some (pos 3); to = none; window = none })
    ∷ some (record { role = bytes "r"; right = G.read; of = bytes "b" ∷ []; show = everything; when = []; from = none; to = some (pos 4); window = none }) ∷ []
unfolding readers_compute
grants = refl
