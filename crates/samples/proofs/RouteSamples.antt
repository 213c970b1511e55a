-- Routes from texts: whose grants open them, of which kind, in what order, and what they leave out.
use mathlib.Core.Path.{refl}
use mathlib.Core.List.{List, [], ◌∷◌, ◌++◌}
use lib.IntN.{pos, negsuc}
use Rattle.calls.specs.Scripts.{quiet, refusal, cells, scripts_compute}
use Rattle.samples.proofs.Transcripts.{Said, ◌says◌, each, writes, Holds}

-- ---- whose grants

-- a grant belongs to one who has its role and every entry that its conditions name
pub holders : Holds
    ("(stream s v w)" says quiet
    ∷ "(row s 1 5)" says quiet
    ∷ "(row s 2 6)" says quiet
    ∷ "(grant a read (of s) (show *))" says quiet
    ∷ "(grant b read (of s) (show *) (when (= s.v self.n)))" says quiet
    ∷ "(grant b read (of s) (show *) (when (or (= s.v 2) (= s.w self.m))))" says quiet
    ∷ "(grant b read (of s) (show *) (when (not (= s.v self.n))))" says quiet
    ∷ "(grant b read (of s) (show *) (when (= s.v 2) (= s.w self.m)))" says quiet
    ∷ "(grant c read (of s) (show *) (when (and (= s.v 1) (not (= s.w self.z)))))" says quiet
    ∷ "(caller (roles a))" says quiet
    ∷ "(ask (in s))" says cells (pos 1 ∷ pos 1 ∷ pos 0 ∷ pos 3 ∷ pos 2 ∷ pos 0 ∷ pos 1 ∷ pos 5 ∷ pos 0 ∷ pos 2 ∷ pos 6 ∷ [])
    ∷ "(caller (roles b))" says quiet
    ∷ "(ask (in s))" says refusal 9
    ∷ "(caller (roles b) (self n 1))" says quiet
    ∷ "(ask (in s))" says cells (pos 2 ∷ pos 2 ∷ pos 0 ∷ pos 3 ∷ pos 1 ∷ pos 0 ∷ pos 1 ∷ pos 5 ∷ pos 4 ∷ pos 0 ∷ pos 3 ∷ pos 1 ∷ pos 0 ∷ pos 2 ∷ pos 6 ∷ [])
    ∷ "(caller (roles b) (self m 6))" says quiet
    ∷ "(ask (in s))" says cells (pos 2 ∷ pos 3 ∷ pos 0 ∷ pos 3 ∷ pos 1 ∷ pos 0 ∷ pos 2 ∷ pos 6 ∷ pos 5 ∷ pos 0 ∷ pos 3 ∷ pos 1 ∷ pos 0 ∷ pos 2 ∷ pos 6 ∷ [])
    ∷ "(caller (roles b) (self m 6) (self n 1))" says quiet
    ∷ "(ask (in s))" says cells (pos 4 ∷ pos 2 ∷ pos 0 ∷ pos 3 ∷ pos 1 ∷ pos 0 ∷ pos 1 ∷ pos 5 ∷ pos 3 ∷ pos 0 ∷ pos 3 ∷ pos 1 ∷ pos 0 ∷ pos 2 ∷ pos 6 ∷ pos 4 ∷ pos 0 ∷ pos 3 ∷ pos 1 ∷ pos 0 ∷ pos 2 ∷ pos 6 ∷ pos 5 ∷ pos 0 ∷ pos 3 ∷ pos 1 ∷ pos 0 ∷ pos 2 ∷ pos 6 ∷ [])
    ∷ "(caller (roles c) (self m 6) (self n 1))" says quiet
    ∷ "(ask (in s))" says refusal 9
    ∷ "(caller (roles d c) (self z 6))" says quiet
    ∷ "(ask (in s))" says cells (pos 1 ∷ pos 6 ∷ pos 0 ∷ pos 3 ∷ pos 1 ∷ pos 0 ∷ pos 1 ∷ pos 5 ∷ [])
    ∷ "(caller (roles) (self n 1))" says quiet
    ∷ "(ask (in s))" says refusal 9
    ∷ "(caller (roles aa ab))" says quiet
    ∷ "(ask (in s))" says refusal 9
    ∷ [])
unfolding scripts_compute
holders = refl

-- ---- kind 1

abbrev shown_parts : List Said
shown_parts =
    each quiet
    ("(stream s u v w)"
    ∷ "(row s 1 2 3)"
    ∷ "(row s 4 5 6)"
    ∷ "(grant a read (of s) (show s.w s.u))"
    ∷ "(grant a read (of s) (show s.v))"
    ∷ "(caller (roles a))"
    ∷ [])

-- shown columns in stream order; a kept column that is withheld is missing; a picked one must be shown
pub shown_columns : Holds
    (shown_parts ++ ("(ask (in s))" says cells (pos 2 ∷ pos 1 ∷ pos 0 ∷ pos 3 ∷ pos 2 ∷ pos 0 ∷ pos 1 ∷ pos 3 ∷ pos 0 ∷ pos 4 ∷ pos 6 ∷ pos 2 ∷ pos 0 ∷ pos 2 ∷ pos 2 ∷ pos 0 ∷ pos 2 ∷ pos 0 ∷ pos 5 ∷ [])
    ∷ "(ask (keep s.w s.v s.u (in s)))" says cells (pos 2 ∷ pos 1 ∷ pos 0 ∷ pos 3 ∷ pos 2 ∷ pos 0 ∷ pos 3 ∷ pos 1 ∷ pos 0 ∷ pos 6 ∷ pos 4 ∷ pos 2 ∷ pos 0 ∷ pos 2 ∷ pos 2 ∷ pos 0 ∷ pos 2 ∷ pos 0 ∷ pos 5 ∷ [])
    ∷ "(ask (keep s.v (in s)))" says cells (pos 1 ∷ pos 2 ∷ pos 0 ∷ pos 2 ∷ pos 2 ∷ pos 0 ∷ pos 2 ∷ pos 0 ∷ pos 5 ∷ [])
    ∷ "(ask (keep s.u s.w (in s)))" says cells (pos 1 ∷ pos 1 ∷ pos 0 ∷ pos 3 ∷ pos 2 ∷ pos 0 ∷ pos 1 ∷ pos 3 ∷ pos 0 ∷ pos 4 ∷ pos 6 ∷ [])
    ∷ "(ask (pick (= s.v 5) (in s)))" says cells (pos 1 ∷ pos 2 ∷ pos 0 ∷ pos 2 ∷ pos 1 ∷ pos 0 ∷ pos 5 ∷ [])
    ∷ "(ask (pick (= s.u 4) (in s)))" says cells (pos 1 ∷ pos 1 ∷ pos 0 ∷ pos 3 ∷ pos 1 ∷ pos 0 ∷ pos 4 ∷ pos 6 ∷ [])
    ∷ "(ask (pick (= s.u s.v) (in s)))" says refusal 9
    ∷ "(ask (pick (or (= s.u 1) (= s.w 6)) (in s)))" says cells (pos 1 ∷ pos 1 ∷ pos 0 ∷ pos 3 ∷ pos 2 ∷ pos 0 ∷ pos 1 ∷ pos 3 ∷ pos 0 ∷ pos 4 ∷ pos 6 ∷ [])
    ∷ "(ask (keep s.w (pick (= s.u 4) (in s))))" says cells (pos 1 ∷ pos 1 ∷ pos 0 ∷ pos 2 ∷ pos 1 ∷ pos 0 ∷ pos 6 ∷ [])
    ∷ "(ask (keep s.v (pick (= s.u 4) (in s))))" says refusal 9
    ∷ "(ask (pick (= time 0) (in s)))" says cells (pos 2 ∷ pos 1 ∷ pos 0 ∷ pos 3 ∷ pos 2 ∷ pos 0 ∷ pos 1 ∷ pos 3 ∷ pos 0 ∷ pos 4 ∷ pos 6 ∷ pos 2 ∷ pos 0 ∷ pos 2 ∷ pos 2 ∷ pos 0 ∷ pos 2 ∷ pos 0 ∷ pos 5 ∷ [])
    ∷ "(ask (sum s.v 1 1 (in s)))" says cells (pos 1 ∷ pos 2 ∷ pos 0 ∷ pos 2 ∷ pos 0 ∷ [])
    ∷ "(ask (sum s.w 1 1 (in s)))" says cells (pos 1 ∷ pos 1 ∷ pos 0 ∷ pos 2 ∷ pos 0 ∷ [])
    ∷ "(clock 1)" says quiet
    ∷ "(ask (sum s.w 1 1 (in s)))" says cells (pos 1 ∷ pos 1 ∷ pos 0 ∷ pos 2 ∷ pos 1 ∷ pos 1 ∷ pos 9 ∷ [])
    ∷ "(ask (sum s.v 1 1 (keep s.u s.v (in s))))" says cells (pos 1 ∷ pos 2 ∷ pos 0 ∷ pos 2 ∷ pos 1 ∷ pos 1 ∷ pos 7 ∷ [])
    ∷ "(line 1 (keep s.w s.v s.u (in s)))" says writes "(keep s.w s.u (keep s.u s.w (in s)))"
    ∷ "(line 2 (keep s.w s.v s.u (in s)))" says writes "(keep s.v (keep s.v (in s)))"
    ∷ "(line 3 (keep s.w s.v s.u (in s)))" says refusal 9
    ∷ "(line 2 (sum s.w 1 1 (in s)))" says refusal 9
    ∷ []))
unfolding scripts_compute
shown_columns = refl

-- a grant's condition may name what it withholds; the query may not
pub conditions_on_withheld : Holds
    ("(stream s v w)" says quiet
    ∷ "(row s 1 10)" says quiet
    ∷ "(row s 2 20)" says quiet
    ∷ "(grant a read (of s) (show s.w) (when (= s.v 2)))" says quiet
    ∷ "(caller (roles a))" says quiet
    ∷ "(ask (in s))" says cells (pos 1 ∷ pos 1 ∷ pos 0 ∷ pos 2 ∷ pos 1 ∷ pos 0 ∷ pos 20 ∷ [])
    ∷ "(ask (pick (= s.v 2) (in s)))" says refusal 9
    ∷ "(ask (keep s.v s.w (in s)))" says cells (pos 1 ∷ pos 1 ∷ pos 0 ∷ pos 2 ∷ pos 1 ∷ pos 0 ∷ pos 20 ∷ [])
    ∷ "(ask (keep s.v (in s)))" says refusal 9
    ∷ "(ask (keep s.w (in s)))" says cells (pos 1 ∷ pos 1 ∷ pos 0 ∷ pos 2 ∷ pos 1 ∷ pos 0 ∷ pos 20 ∷ [])
    ∷ "(line 1 (keep s.w (in s)))" says writes "(keep s.w (keep s.w (pick (and (= s.v 2)) (in s))))"
    ∷ [])
unfolding scripts_compute
conditions_on_withheld = refl

abbrev sides : List Said
sides =
    each quiet
    ("(stream a k v)"
    ∷ "(stream b k w)"
    ∷ "(stream c k)"
    ∷ "(clock 2)"
    ∷ "(row b 1 5)"
    ∷ "(row b 2 6)"
    ∷ "(row b 1 7)"
    ∷ "(clock 3)"
    ∷ "(row a 2 10)"
    ∷ "(row a 1 20)"
    ∷ "(clock 4)"
    ∷ "(row a 1 30)"
    ∷ "(row c 1)"
    ∷ "(clock 10)"
    ∷ [])

-- a read grant for each side: left number first, then right; left row by left row; the later time of each pair
pub side_by_side : Holds
    (sides ++ ("(grant r read (of b) (show *))" says quiet
    ∷ "(grant r read (of a) (show *))" says quiet
    ∷ "(grant r read (of b) (show b.w b.k) (when (> b.w 5)))" says quiet
    ∷ "(grant r read (of a) (show a.k) (when (= a.k 1)))" says quiet
    ∷ "(caller (roles r))" says quiet
    ∷ "(ask (join (= a.k b.k) (in a) (in b)))" says cells (pos 4 ∷ pos 2 ∷ pos 1 ∷ pos 5 ∷ pos 5 ∷ pos 3 ∷ pos 2 ∷ pos 10 ∷ pos 2 ∷ pos 6 ∷ pos 3 ∷ pos 1 ∷ pos 20 ∷ pos 1 ∷ pos 5 ∷ pos 3 ∷ pos 1 ∷ pos 20 ∷ pos 1 ∷ pos 7 ∷ pos 4 ∷ pos 1 ∷ pos 30 ∷ pos 1 ∷ pos 5 ∷ pos 4 ∷ pos 1 ∷ pos 30 ∷ pos 1 ∷ pos 7 ∷ pos 2 ∷ pos 3 ∷ pos 5 ∷ pos 3 ∷ pos 3 ∷ pos 2 ∷ pos 10 ∷ pos 2 ∷ pos 6 ∷ pos 3 ∷ pos 1 ∷ pos 20 ∷ pos 1 ∷ pos 7 ∷ pos 4 ∷ pos 1 ∷ pos 30 ∷ pos 1 ∷ pos 7 ∷ pos 4 ∷ pos 1 ∷ pos 4 ∷ pos 4 ∷ pos 3 ∷ pos 1 ∷ pos 1 ∷ pos 5 ∷ pos 3 ∷ pos 1 ∷ pos 1 ∷ pos 7 ∷ pos 4 ∷ pos 1 ∷ pos 1 ∷ pos 5 ∷ pos 4 ∷ pos 1 ∷ pos 1 ∷ pos 7 ∷ pos 4 ∷ pos 3 ∷ pos 4 ∷ pos 2 ∷ pos 3 ∷ pos 1 ∷ pos 1 ∷ pos 7 ∷ pos 4 ∷ pos 1 ∷ pos 1 ∷ pos 7 ∷ [])
    ∷ "(ask (join (= a.k b.k) (in b) (in a)))" says cells (pos 4 ∷ pos 1 ∷ pos 2 ∷ pos 5 ∷ pos 5 ∷ pos 3 ∷ pos 1 ∷ pos 5 ∷ pos 1 ∷ pos 20 ∷ pos 4 ∷ pos 1 ∷ pos 5 ∷ pos 1 ∷ pos 30 ∷ pos 3 ∷ pos 2 ∷ pos 6 ∷ pos 2 ∷ pos 10 ∷ pos 3 ∷ pos 1 ∷ pos 7 ∷ pos 1 ∷ pos 20 ∷ pos 4 ∷ pos 1 ∷ pos 7 ∷ pos 1 ∷ pos 30 ∷ pos 1 ∷ pos 4 ∷ pos 4 ∷ pos 4 ∷ pos 3 ∷ pos 1 ∷ pos 5 ∷ pos 1 ∷ pos 4 ∷ pos 1 ∷ pos 5 ∷ pos 1 ∷ pos 3 ∷ pos 1 ∷ pos 7 ∷ pos 1 ∷ pos 4 ∷ pos 1 ∷ pos 7 ∷ pos 1 ∷ pos 3 ∷ pos 2 ∷ pos 5 ∷ pos 3 ∷ pos 3 ∷ pos 2 ∷ pos 6 ∷ pos 2 ∷ pos 10 ∷ pos 3 ∷ pos 1 ∷ pos 7 ∷ pos 1 ∷ pos 20 ∷ pos 4 ∷ pos 1 ∷ pos 7 ∷ pos 1 ∷ pos 30 ∷ pos 3 ∷ pos 4 ∷ pos 4 ∷ pos 2 ∷ pos 3 ∷ pos 1 ∷ pos 7 ∷ pos 1 ∷ pos 4 ∷ pos 1 ∷ pos 7 ∷ pos 1 ∷ [])
    ∷ "(ask (join (= a.k b.k) (pick (> a.v 20) (in a)) (in b)))" says cells (pos 2 ∷ pos 2 ∷ pos 1 ∷ pos 5 ∷ pos 2 ∷ pos 4 ∷ pos 1 ∷ pos 30 ∷ pos 1 ∷ pos 5 ∷ pos 4 ∷ pos 1 ∷ pos 30 ∷ pos 1 ∷ pos 7 ∷ pos 2 ∷ pos 3 ∷ pos 5 ∷ pos 1 ∷ pos 4 ∷ pos 1 ∷ pos 30 ∷ pos 1 ∷ pos 7 ∷ [])
    ∷ "(ask (join (= a.k b.k) (pick (>= time 4) (in a)) (pick (< b.w 7) (in b))))" says cells (pos 4 ∷ pos 2 ∷ pos 1 ∷ pos 5 ∷ pos 1 ∷ pos 4 ∷ pos 1 ∷ pos 30 ∷ pos 1 ∷ pos 5 ∷ pos 2 ∷ pos 3 ∷ pos 5 ∷ pos 0 ∷ pos 4 ∷ pos 1 ∷ pos 4 ∷ pos 1 ∷ pos 4 ∷ pos 1 ∷ pos 1 ∷ pos 5 ∷ pos 4 ∷ pos 3 ∷ pos 4 ∷ pos 0 ∷ [])
    ∷ "(ask (keep b.w (join (= a.k b.k) (in a) (in b))))" says cells (pos 4 ∷ pos 2 ∷ pos 1 ∷ pos 2 ∷ pos 5 ∷ pos 3 ∷ pos 6 ∷ pos 3 ∷ pos 5 ∷ pos 3 ∷ pos 7 ∷ pos 4 ∷ pos 5 ∷ pos 4 ∷ pos 7 ∷ pos 2 ∷ pos 3 ∷ pos 2 ∷ pos 3 ∷ pos 3 ∷ pos 6 ∷ pos 3 ∷ pos 7 ∷ pos 4 ∷ pos 7 ∷ pos 4 ∷ pos 1 ∷ pos 2 ∷ pos 4 ∷ pos 3 ∷ pos 5 ∷ pos 3 ∷ pos 7 ∷ pos 4 ∷ pos 5 ∷ pos 4 ∷ pos 7 ∷ pos 4 ∷ pos 3 ∷ pos 2 ∷ pos 2 ∷ pos 3 ∷ pos 7 ∷ pos 4 ∷ pos 7 ∷ [])
    ∷ "(ask (keep b.w a.v (join (= a.k b.k) (keep a.v a.k (in a)) (in b))))" says cells (pos 4 ∷ pos 2 ∷ pos 1 ∷ pos 3 ∷ pos 5 ∷ pos 3 ∷ pos 6 ∷ pos 10 ∷ pos 3 ∷ pos 5 ∷ pos 20 ∷ pos 3 ∷ pos 7 ∷ pos 20 ∷ pos 4 ∷ pos 5 ∷ pos 30 ∷ pos 4 ∷ pos 7 ∷ pos 30 ∷ pos 2 ∷ pos 3 ∷ pos 3 ∷ pos 3 ∷ pos 3 ∷ pos 6 ∷ pos 10 ∷ pos 3 ∷ pos 7 ∷ pos 20 ∷ pos 4 ∷ pos 7 ∷ pos 30 ∷ pos 4 ∷ pos 1 ∷ pos 2 ∷ pos 4 ∷ pos 3 ∷ pos 5 ∷ pos 3 ∷ pos 7 ∷ pos 4 ∷ pos 5 ∷ pos 4 ∷ pos 7 ∷ pos 4 ∷ pos 3 ∷ pos 2 ∷ pos 2 ∷ pos 3 ∷ pos 7 ∷ pos 4 ∷ pos 7 ∷ [])
    ∷ "(ask (keep a.v (join (= a.k b.k) (keep a.v a.k (in a)) (in b))))" says cells (pos 2 ∷ pos 2 ∷ pos 1 ∷ pos 2 ∷ pos 5 ∷ pos 3 ∷ pos 10 ∷ pos 3 ∷ pos 20 ∷ pos 3 ∷ pos 20 ∷ pos 4 ∷ pos 30 ∷ pos 4 ∷ pos 30 ∷ pos 2 ∷ pos 3 ∷ pos 2 ∷ pos 3 ∷ pos 3 ∷ pos 10 ∷ pos 3 ∷ pos 20 ∷ pos 4 ∷ pos 30 ∷ [])
    ∷ "(ask (pick (= time 4) (join (= a.k b.k) (in a) (in b))))" says cells (pos 4 ∷ pos 2 ∷ pos 1 ∷ pos 5 ∷ pos 2 ∷ pos 4 ∷ pos 1 ∷ pos 30 ∷ pos 1 ∷ pos 5 ∷ pos 4 ∷ pos 1 ∷ pos 30 ∷ pos 1 ∷ pos 7 ∷ pos 2 ∷ pos 3 ∷ pos 5 ∷ pos 1 ∷ pos 4 ∷ pos 1 ∷ pos 30 ∷ pos 1 ∷ pos 7 ∷ pos 4 ∷ pos 1 ∷ pos 4 ∷ pos 2 ∷ pos 4 ∷ pos 1 ∷ pos 1 ∷ pos 5 ∷ pos 4 ∷ pos 1 ∷ pos 1 ∷ pos 7 ∷ pos 4 ∷ pos 3 ∷ pos 4 ∷ pos 1 ∷ pos 4 ∷ pos 1 ∷ pos 1 ∷ pos 7 ∷ [])
    ∷ "(ask (count b.w 10 10 (join (= a.k b.k) (in a) (in b))))" says cells (pos 4 ∷ pos 2 ∷ pos 1 ∷ pos 2 ∷ pos 1 ∷ pos 10 ∷ pos 5 ∷ pos 2 ∷ pos 3 ∷ pos 2 ∷ pos 1 ∷ pos 10 ∷ pos 3 ∷ pos 4 ∷ pos 1 ∷ pos 2 ∷ pos 1 ∷ pos 10 ∷ pos 4 ∷ pos 4 ∷ pos 3 ∷ pos 2 ∷ pos 1 ∷ pos 10 ∷ pos 2 ∷ [])
    ∷ "(ask (count a.v 10 10 (join (= a.k b.k) (in a) (in b))))" says cells (pos 2 ∷ pos 2 ∷ pos 1 ∷ pos 2 ∷ pos 1 ∷ pos 10 ∷ pos 5 ∷ pos 2 ∷ pos 3 ∷ pos 2 ∷ pos 1 ∷ pos 10 ∷ pos 3 ∷ [])
    ∷ "(line 4 (join (= a.k b.k) (in a) (in b)))" says writes "(join (= a.k b.k) (keep a.k (pick (and (= a.k 1)) (in a))) (keep b.k b.w (pick (and (> b.w 5)) (in b))))"
    ∷ []))
unfolding scripts_compute
side_by_side = refl

-- both columns of the equality must be shown
pub equality_shown : Holds
    (sides ++ ("(grant r read (of a) (show a.v))" says quiet
    ∷ "(grant r read (of b) (show *))" says quiet
    ∷ "(grant s read (of a) (show *))" says quiet
    ∷ "(grant s read (of b) (show b.w))" says quiet
    ∷ "(grant t read (of a) (show *))" says quiet
    ∷ "(grant t read (of b) (show *))" says quiet
    ∷ "(caller (roles r))" says quiet
    ∷ "(ask (join (= a.k b.k) (in a) (in b)))" says refusal 9
    ∷ "(ask (join (= a.v b.k) (in a) (in b)))" says cells (pos 1 ∷ pos 1 ∷ pos 2 ∷ pos 4 ∷ pos 0 ∷ [])
    ∷ "(caller (roles s))" says quiet
    ∷ "(ask (join (= a.k b.k) (in a) (in b)))" says refusal 9
    ∷ "(caller (roles t))" says quiet
    ∷ "(ask (join (= b.k a.k) (in a) (in b)))" says cells (pos 1 ∷ pos 5 ∷ pos 6 ∷ pos 5 ∷ pos 5 ∷ pos 3 ∷ pos 2 ∷ pos 10 ∷ pos 2 ∷ pos 6 ∷ pos 3 ∷ pos 1 ∷ pos 20 ∷ pos 1 ∷ pos 5 ∷ pos 3 ∷ pos 1 ∷ pos 20 ∷ pos 1 ∷ pos 7 ∷ pos 4 ∷ pos 1 ∷ pos 30 ∷ pos 1 ∷ pos 5 ∷ pos 4 ∷ pos 1 ∷ pos 30 ∷ pos 1 ∷ pos 7 ∷ [])
    ∷ "(caller (roles r s))" says quiet
    ∷ "(ask (join (= b.k a.k) (in a) (in b)))" says cells (pos 1 ∷ pos 3 ∷ pos 2 ∷ pos 5 ∷ pos 5 ∷ pos 3 ∷ pos 2 ∷ pos 10 ∷ pos 2 ∷ pos 6 ∷ pos 3 ∷ pos 1 ∷ pos 20 ∷ pos 1 ∷ pos 5 ∷ pos 3 ∷ pos 1 ∷ pos 20 ∷ pos 1 ∷ pos 7 ∷ pos 4 ∷ pos 1 ∷ pos 30 ∷ pos 1 ∷ pos 5 ∷ pos 4 ∷ pos 1 ∷ pos 30 ∷ pos 1 ∷ pos 7 ∷ [])
    ∷ []))
unfolding scripts_compute
equality_shown = refl

-- ---- kind 2

-- a read grant on just the two streams, left first, that has the equality, either side first, as one whole condition
pub pair_grants : Holds
    (sides ++ ("(grant r read (of a b) (show a.v b.w) (when (= a.k b.k)))" says quiet
    ∷ "(grant r read (of a b) (show a.v b.w) (when (= b.k a.k)))" says quiet
    ∷ "(grant r read (of b a) (show a.v b.w) (when (= a.k b.k)))" says quiet
    ∷ "(grant r read (of a b) (show a.v b.w) (when (and (= a.k b.k))))" says quiet
    ∷ "(grant r read (of a b) (show a.v b.w) (when (or (= a.k b.k))))" says quiet
    ∷ "(grant r read (of a b) (show a.v b.w) (when (not (= a.k b.k))))" says quiet
    ∷ "(grant r read (of a b) (show a.v b.w) (when (<= a.k b.k)))" says quiet
    ∷ "(grant r read (of a b) (show a.v b.w) (when (= a.k b.w)))" says quiet
    ∷ "(grant r read (of a b) (show a.v b.w) (when (= a.k a.k)))" says quiet
    ∷ "(grant r read (of a b) (show a.v b.w))" says quiet
    ∷ "(grant r read (of a b) (show b.w) (when (> a.v 20) (= a.k b.k)))" says quiet
    ∷ "(grant r read (of a c) (show *) (when (= a.k c.k)))" says quiet
    ∷ "(caller (roles r))" says quiet
    ∷ "(ask (join (= a.k b.k) (in a) (in b)))" says cells (pos 3 ∷ pos 1 ∷ pos 0 ∷ pos 3 ∷ pos 5 ∷ pos 3 ∷ pos 10 ∷ pos 6 ∷ pos 3 ∷ pos 20 ∷ pos 5 ∷ pos 3 ∷ pos 20 ∷ pos 7 ∷ pos 4 ∷ pos 30 ∷ pos 5 ∷ pos 4 ∷ pos 30 ∷ pos 7 ∷ pos 2 ∷ pos 0 ∷ pos 3 ∷ pos 5 ∷ pos 3 ∷ pos 10 ∷ pos 6 ∷ pos 3 ∷ pos 20 ∷ pos 5 ∷ pos 3 ∷ pos 20 ∷ pos 7 ∷ pos 4 ∷ pos 30 ∷ pos 5 ∷ pos 4 ∷ pos 30 ∷ pos 7 ∷ pos 11 ∷ pos 0 ∷ pos 2 ∷ pos 2 ∷ pos 4 ∷ pos 5 ∷ pos 4 ∷ pos 7 ∷ [])
    ∷ "(ask (join (= a.k b.k) (in b) (in a)))" says cells (pos 1 ∷ pos 3 ∷ pos 0 ∷ pos 3 ∷ pos 5 ∷ pos 3 ∷ pos 5 ∷ pos 20 ∷ pos 4 ∷ pos 5 ∷ pos 30 ∷ pos 3 ∷ pos 6 ∷ pos 10 ∷ pos 3 ∷ pos 7 ∷ pos 20 ∷ pos 4 ∷ pos 7 ∷ pos 30 ∷ [])
    ∷ "(ask (join (= b.k a.k) (in a) (in b)))" says cells (pos 3 ∷ pos 1 ∷ pos 0 ∷ pos 3 ∷ pos 5 ∷ pos 3 ∷ pos 10 ∷ pos 6 ∷ pos 3 ∷ pos 20 ∷ pos 5 ∷ pos 3 ∷ pos 20 ∷ pos 7 ∷ pos 4 ∷ pos 30 ∷ pos 5 ∷ pos 4 ∷ pos 30 ∷ pos 7 ∷ pos 2 ∷ pos 0 ∷ pos 3 ∷ pos 5 ∷ pos 3 ∷ pos 10 ∷ pos 6 ∷ pos 3 ∷ pos 20 ∷ pos 5 ∷ pos 3 ∷ pos 20 ∷ pos 7 ∷ pos 4 ∷ pos 30 ∷ pos 5 ∷ pos 4 ∷ pos 30 ∷ pos 7 ∷ pos 11 ∷ pos 0 ∷ pos 2 ∷ pos 2 ∷ pos 4 ∷ pos 5 ∷ pos 4 ∷ pos 7 ∷ [])
    ∷ "(ask (join (= a.k c.k) (in a) (in c)))" says cells (pos 1 ∷ pos 12 ∷ pos 0 ∷ pos 4 ∷ pos 2 ∷ pos 4 ∷ pos 1 ∷ pos 20 ∷ pos 1 ∷ pos 4 ∷ pos 1 ∷ pos 30 ∷ pos 1 ∷ [])
    ∷ "(ask (join (= a.v b.k) (in a) (in b)))" says refusal 9
    ∷ "(ask (in a))" says refusal 9
    ∷ []))
unfolding scripts_compute
pair_grants = refl

-- picked and aggregated columns must be shown, those of the equality need not; a pick on `time` below closes the route, one above does not
pub pair_needs : Holds
    (sides ++ ("(grant r read (of a b) (show a.v b.w) (when (= a.k b.k)))" says quiet
    ∷ "(grant r read (of a b) (show b.w) (when (= a.k b.k)))" says quiet
    ∷ "(caller (roles r))" says quiet
    ∷ "(ask (join (= a.k b.k) (pick (> a.v 20) (in a)) (in b)))" says cells (pos 1 ∷ pos 1 ∷ pos 0 ∷ pos 3 ∷ pos 2 ∷ pos 4 ∷ pos 30 ∷ pos 5 ∷ pos 4 ∷ pos 30 ∷ pos 7 ∷ [])
    ∷ "(ask (join (= a.k b.k) (pick (> a.v 10) (pick (< a.v 30) (in a))) (pick (> b.w 4) (pick (< b.w 7) (in b)))))" says cells (pos 1 ∷ pos 1 ∷ pos 0 ∷ pos 3 ∷ pos 1 ∷ pos 3 ∷ pos 20 ∷ pos 5 ∷ [])
    ∷ "(ask (join (= a.k b.k) (in a) (pick (= b.k 1) (in b))))" says refusal 9
    ∷ "(ask (join (= a.k b.k) (pick (> time 3) (in a)) (in b)))" says refusal 9
    ∷ "(ask (join (= a.k b.k) (in a) (pick (> time 3) (in b))))" says refusal 9
    ∷ "(ask (join (= a.k b.k) (in a) (pick (or (= b.w 5) (> time 3)) (in b))))" says refusal 9
    ∷ "(ask (pick (> time 3) (join (= a.k b.k) (in a) (in b))))" says cells (pos 2 ∷ pos 1 ∷ pos 0 ∷ pos 3 ∷ pos 2 ∷ pos 4 ∷ pos 30 ∷ pos 5 ∷ pos 4 ∷ pos 30 ∷ pos 7 ∷ pos 2 ∷ pos 0 ∷ pos 2 ∷ pos 2 ∷ pos 4 ∷ pos 5 ∷ pos 4 ∷ pos 7 ∷ [])
    ∷ "(ask (pick (= a.v 20) (join (= a.k b.k) (in a) (in b))))" says cells (pos 1 ∷ pos 1 ∷ pos 0 ∷ pos 3 ∷ pos 2 ∷ pos 3 ∷ pos 20 ∷ pos 5 ∷ pos 3 ∷ pos 20 ∷ pos 7 ∷ [])
    ∷ "(ask (pick (= a.k 1) (join (= a.k b.k) (in a) (in b))))" says refusal 9
    ∷ "(ask (sum b.w 10 10 (join (= a.k b.k) (in a) (in b))))" says cells (pos 2 ∷ pos 1 ∷ pos 0 ∷ pos 2 ∷ pos 1 ∷ pos 10 ∷ pos 30 ∷ pos 2 ∷ pos 0 ∷ pos 2 ∷ pos 1 ∷ pos 10 ∷ pos 30 ∷ [])
    ∷ "(ask (sum a.v 10 10 (join (= a.k b.k) (in a) (in b))))" says cells (pos 1 ∷ pos 1 ∷ pos 0 ∷ pos 2 ∷ pos 1 ∷ pos 10 ∷ pos 110 ∷ [])
    ∷ "(ask (sum a.k 10 10 (join (= a.k b.k) (in a) (in b))))" says refusal 9
    ∷ "(ask (join (= a.k b.k) (keep a.k (in a)) (in b)))" says cells (pos 2 ∷ pos 1 ∷ pos 0 ∷ pos 2 ∷ pos 5 ∷ pos 3 ∷ pos 6 ∷ pos 3 ∷ pos 5 ∷ pos 3 ∷ pos 7 ∷ pos 4 ∷ pos 5 ∷ pos 4 ∷ pos 7 ∷ pos 2 ∷ pos 0 ∷ pos 2 ∷ pos 5 ∷ pos 3 ∷ pos 6 ∷ pos 3 ∷ pos 5 ∷ pos 3 ∷ pos 7 ∷ pos 4 ∷ pos 5 ∷ pos 4 ∷ pos 7 ∷ [])
    ∷ "(ask (join (= a.k b.k) (keep a.v a.k (in a)) (keep b.w b.k (in b))))" says cells (pos 2 ∷ pos 1 ∷ pos 0 ∷ pos 3 ∷ pos 5 ∷ pos 3 ∷ pos 10 ∷ pos 6 ∷ pos 3 ∷ pos 20 ∷ pos 5 ∷ pos 3 ∷ pos 20 ∷ pos 7 ∷ pos 4 ∷ pos 30 ∷ pos 5 ∷ pos 4 ∷ pos 30 ∷ pos 7 ∷ pos 2 ∷ pos 0 ∷ pos 2 ∷ pos 5 ∷ pos 3 ∷ pos 6 ∷ pos 3 ∷ pos 5 ∷ pos 3 ∷ pos 7 ∷ pos 4 ∷ pos 5 ∷ pos 4 ∷ pos 7 ∷ [])
    ∷ "(ask (join (= a.k b.k) (keep a.k (in a)) (keep b.k (in b))))" says refusal 9
    ∷ "(ask (join (= a.k b.k) (keep a.k (pick (> a.v 20) (in a))) (in b)))" says cells (pos 1 ∷ pos 1 ∷ pos 0 ∷ pos 2 ∷ pos 2 ∷ pos 4 ∷ pos 5 ∷ pos 4 ∷ pos 7 ∷ [])
    ∷ "(ask (keep b.w a.v (join (= a.k b.k) (in a) (in b))))" says cells (pos 2 ∷ pos 1 ∷ pos 0 ∷ pos 3 ∷ pos 5 ∷ pos 3 ∷ pos 6 ∷ pos 10 ∷ pos 3 ∷ pos 5 ∷ pos 20 ∷ pos 3 ∷ pos 7 ∷ pos 20 ∷ pos 4 ∷ pos 5 ∷ pos 30 ∷ pos 4 ∷ pos 7 ∷ pos 30 ∷ pos 2 ∷ pos 0 ∷ pos 2 ∷ pos 5 ∷ pos 3 ∷ pos 6 ∷ pos 3 ∷ pos 5 ∷ pos 3 ∷ pos 7 ∷ pos 4 ∷ pos 5 ∷ pos 4 ∷ pos 7 ∷ [])
    ∷ "(ask (keep a.v (join (= a.k b.k) (in a) (in b))))" says cells (pos 1 ∷ pos 1 ∷ pos 0 ∷ pos 2 ∷ pos 5 ∷ pos 3 ∷ pos 10 ∷ pos 3 ∷ pos 20 ∷ pos 3 ∷ pos 20 ∷ pos 4 ∷ pos 30 ∷ pos 4 ∷ pos 30 ∷ [])
    ∷ "(ask (keep a.k (join (= a.k b.k) (in a) (in b))))" says refusal 9
    ∷ []))
unfolding scripts_compute
pair_needs = refl

-- `from` and `to` of a pair's grant are about the joined time
pub pair_times : Holds
    (sides ++ ("(grant r read (of a b) (show a.v b.w) (when (= a.k b.k)) (from 4))" says quiet
    ∷ "(grant r read (of a b) (show a.v b.w) (when (= a.k b.k)) (to 3))" says quiet
    ∷ "(caller (roles r))" says quiet
    ∷ "(ask (join (= a.k b.k) (in a) (in b)))" says cells (pos 2 ∷ pos 1 ∷ pos 0 ∷ pos 3 ∷ pos 2 ∷ pos 4 ∷ pos 30 ∷ pos 5 ∷ pos 4 ∷ pos 30 ∷ pos 7 ∷ pos 2 ∷ pos 0 ∷ pos 3 ∷ pos 3 ∷ pos 3 ∷ pos 10 ∷ pos 6 ∷ pos 3 ∷ pos 20 ∷ pos 5 ∷ pos 3 ∷ pos 20 ∷ pos 7 ∷ [])
    ∷ []))
unfolding scripts_compute
pair_times = refl

-- ---- kind 3

abbrev meters : List Said
meters =
    each quiet
    ("(stream s u v)"
    ∷ "(row s 1 5)"
    ∷ "(row s 2 -3)"
    ∷ "(clock 4)"
    ∷ "(row s 3 10)"
    ∷ "(clock 100)"
    ∷ [])

-- a grant of an aggregate right opens that aggregate alone, of the columns that it shows, and no rows
pub five_rights : Holds
    (meters ++ ("(grant a min (of s) (show s.v))" says quiet
    ∷ "(grant a max (of s) (show s.v))" says quiet
    ∷ "(grant a count (of s) (show s.v))" says quiet
    ∷ "(grant a avg (of s) (show s.v))" says quiet
    ∷ "(grant a sum (of s) (show s.v))" says quiet
    ∷ "(caller (roles a))" says quiet
    ∷ "(ask (min s.v 5 5 (in s)))" says cells (pos 1 ∷ pos 1 ∷ pos 0 ∷ pos 2 ∷ pos 1 ∷ pos 5 ∷ negsuc 2 ∷ [])
    ∷ "(ask (max s.v 5 5 (in s)))" says cells (pos 1 ∷ pos 2 ∷ pos 0 ∷ pos 2 ∷ pos 1 ∷ pos 5 ∷ pos 10 ∷ [])
    ∷ "(ask (count s.v 5 5 (in s)))" says cells (pos 1 ∷ pos 3 ∷ pos 0 ∷ pos 2 ∷ pos 1 ∷ pos 5 ∷ pos 3 ∷ [])
    ∷ "(ask (avg s.v 5 5 (in s)))" says cells (pos 1 ∷ pos 4 ∷ pos 0 ∷ pos 2 ∷ pos 1 ∷ pos 5 ∷ pos 4 ∷ [])
    ∷ "(ask (sum s.v 5 5 (in s)))" says cells (pos 1 ∷ pos 5 ∷ pos 0 ∷ pos 2 ∷ pos 1 ∷ pos 5 ∷ pos 12 ∷ [])
    ∷ "(ask (sum s.u 5 5 (in s)))" says refusal 9
    ∷ "(ask (in s))" says refusal 9
    ∷ "(line 1 (min s.v 5 6 (in s)))" says writes "(min s.v 5 6 (keep s.v (in s)))"
    ∷ "(line 1 (max s.v 5 6 (in s)))" says writes "(max s.v 5 6 (keep s.v (in s)))"
    ∷ "(line 1 (count s.v 5 6 (in s)))" says writes "(count s.v 5 6 (keep s.v (in s)))"
    ∷ "(line 1 (avg s.v 5 6 (in s)))" says writes "(avg s.v 5 6 (keep s.v (in s)))"
    ∷ "(line 1 (sum s.v 5 6 (in s)))" says writes "(sum s.v 5 6 (keep s.v (in s)))"
    ∷ []))
unfolding scripts_compute
five_rights = refl

-- SIZE at least the first number of `window`, OFFSET at least the second; absent or 0: any
pub least_windows : Holds
    (meters ++ ("(grant a sum (of s) (show s.v) (window 6 3))" says quiet
    ∷ "(grant a sum (of s) (show s.v) (window 0 8))" says quiet
    ∷ "(grant a sum (of s) (show s.v) (window 7 0))" says quiet
    ∷ "(grant a sum (of s) (show s.v) (window 0 0))" says quiet
    ∷ "(grant a sum (of s) (show s.v))" says quiet
    ∷ "(caller (roles a))" says quiet
    ∷ "(ask (sum s.v 1 1 (in s)))" says cells (pos 2 ∷ pos 4 ∷ pos 0 ∷ pos 2 ∷ pos 2 ∷ pos 1 ∷ pos 2 ∷ pos 5 ∷ pos 10 ∷ pos 5 ∷ pos 0 ∷ pos 2 ∷ pos 2 ∷ pos 1 ∷ pos 2 ∷ pos 5 ∷ pos 10 ∷ [])
    ∷ "(ask (sum s.v 5 2 (in s)))" says cells (pos 2 ∷ pos 4 ∷ pos 0 ∷ pos 2 ∷ pos 3 ∷ pos 5 ∷ pos 12 ∷ pos 7 ∷ pos 10 ∷ pos 9 ∷ pos 10 ∷ pos 5 ∷ pos 0 ∷ pos 2 ∷ pos 3 ∷ pos 5 ∷ pos 12 ∷ pos 7 ∷ pos 10 ∷ pos 9 ∷ pos 10 ∷ [])
    ∷ "(ask (sum s.v 5 3 (in s)))" says cells (pos 2 ∷ pos 4 ∷ pos 0 ∷ pos 2 ∷ pos 2 ∷ pos 5 ∷ pos 12 ∷ pos 8 ∷ pos 10 ∷ pos 5 ∷ pos 0 ∷ pos 2 ∷ pos 2 ∷ pos 5 ∷ pos 12 ∷ pos 8 ∷ pos 10 ∷ [])
    ∷ "(ask (sum s.v 6 2 (in s)))" says cells (pos 2 ∷ pos 4 ∷ pos 0 ∷ pos 2 ∷ pos 3 ∷ pos 6 ∷ pos 12 ∷ pos 8 ∷ pos 10 ∷ pos 10 ∷ pos 10 ∷ pos 5 ∷ pos 0 ∷ pos 2 ∷ pos 3 ∷ pos 6 ∷ pos 12 ∷ pos 8 ∷ pos 10 ∷ pos 10 ∷ pos 10 ∷ [])
    ∷ "(ask (sum s.v 6 3 (in s)))" says cells (pos 3 ∷ pos 1 ∷ pos 0 ∷ pos 2 ∷ pos 2 ∷ pos 6 ∷ pos 12 ∷ pos 9 ∷ pos 10 ∷ pos 4 ∷ pos 0 ∷ pos 2 ∷ pos 2 ∷ pos 6 ∷ pos 12 ∷ pos 9 ∷ pos 10 ∷ pos 5 ∷ pos 0 ∷ pos 2 ∷ pos 2 ∷ pos 6 ∷ pos 12 ∷ pos 9 ∷ pos 10 ∷ [])
    ∷ "(ask (sum s.v 3 6 (in s)))" says cells (pos 2 ∷ pos 4 ∷ pos 0 ∷ pos 2 ∷ pos 1 ∷ pos 3 ∷ pos 2 ∷ pos 5 ∷ pos 0 ∷ pos 2 ∷ pos 1 ∷ pos 3 ∷ pos 2 ∷ [])
    ∷ "(ask (sum s.v 7 1 (in s)))" says cells (pos 3 ∷ pos 3 ∷ pos 0 ∷ pos 2 ∷ pos 5 ∷ pos 7 ∷ pos 12 ∷ pos 8 ∷ pos 10 ∷ pos 9 ∷ pos 10 ∷ pos 10 ∷ pos 10 ∷ pos 11 ∷ pos 10 ∷ pos 4 ∷ pos 0 ∷ pos 2 ∷ pos 5 ∷ pos 7 ∷ pos 12 ∷ pos 8 ∷ pos 10 ∷ pos 9 ∷ pos 10 ∷ pos 10 ∷ pos 10 ∷ pos 11 ∷ pos 10 ∷ pos 5 ∷ pos 0 ∷ pos 2 ∷ pos 5 ∷ pos 7 ∷ pos 12 ∷ pos 8 ∷ pos 10 ∷ pos 9 ∷ pos 10 ∷ pos 10 ∷ pos 10 ∷ pos 11 ∷ pos 10 ∷ [])
    ∷ "(ask (sum s.v 1 8 (in s)))" says cells (pos 3 ∷ pos 2 ∷ pos 0 ∷ pos 2 ∷ pos 1 ∷ pos 1 ∷ pos 2 ∷ pos 4 ∷ pos 0 ∷ pos 2 ∷ pos 1 ∷ pos 1 ∷ pos 2 ∷ pos 5 ∷ pos 0 ∷ pos 2 ∷ pos 1 ∷ pos 1 ∷ pos 2 ∷ [])
    ∷ "(ask (sum s.v 8 7 (in s)))" says cells (pos 4 ∷ pos 1 ∷ pos 0 ∷ pos 2 ∷ pos 1 ∷ pos 8 ∷ pos 12 ∷ pos 3 ∷ pos 0 ∷ pos 2 ∷ pos 1 ∷ pos 8 ∷ pos 12 ∷ pos 4 ∷ pos 0 ∷ pos 2 ∷ pos 1 ∷ pos 8 ∷ pos 12 ∷ pos 5 ∷ pos 0 ∷ pos 2 ∷ pos 1 ∷ pos 8 ∷ pos 12 ∷ [])
    ∷ "(ask (sum s.v 7 8 (in s)))" says cells (pos 5 ∷ pos 1 ∷ pos 0 ∷ pos 2 ∷ pos 1 ∷ pos 7 ∷ pos 12 ∷ pos 2 ∷ pos 0 ∷ pos 2 ∷ pos 1 ∷ pos 7 ∷ pos 12 ∷ pos 3 ∷ pos 0 ∷ pos 2 ∷ pos 1 ∷ pos 7 ∷ pos 12 ∷ pos 4 ∷ pos 0 ∷ pos 2 ∷ pos 1 ∷ pos 7 ∷ pos 12 ∷ pos 5 ∷ pos 0 ∷ pos 2 ∷ pos 1 ∷ pos 7 ∷ pos 12 ∷ [])
    ∷ []))
unfolding scripts_compute
least_windows = refl

-- figures are of the rows that the grant's conditions and times leave
pub figures_over_views : Holds
    (meters ++ ("(grant a sum (of s) (show s.v) (when (> s.u 1)))" says quiet
    ∷ "(grant a sum (of s) (show s.v) (from 1))" says quiet
    ∷ "(grant a sum (of s) (show s.v) (to 3))" says quiet
    ∷ "(grant a sum (of s) (show s.v) (when (= s.u self.n)))" says quiet
    ∷ "(grant b sum (of s) (show s.v))" says quiet
    ∷ "(grant a read (of s) (show *) (when (< s.u 3)))" says quiet
    ∷ "(caller (roles a) (self n 3))" says quiet
    ∷ "(ask (sum s.v 50 50 (in s)))" says cells (pos 5 ∷ pos 6 ∷ pos 0 ∷ pos 2 ∷ pos 1 ∷ pos 50 ∷ pos 2 ∷ pos 1 ∷ pos 0 ∷ pos 2 ∷ pos 1 ∷ pos 50 ∷ pos 7 ∷ pos 2 ∷ pos 0 ∷ pos 2 ∷ pos 1 ∷ pos 50 ∷ pos 10 ∷ pos 3 ∷ pos 0 ∷ pos 2 ∷ pos 1 ∷ pos 50 ∷ pos 2 ∷ pos 4 ∷ pos 0 ∷ pos 2 ∷ pos 1 ∷ pos 50 ∷ pos 10 ∷ [])
    ∷ "(caller (roles a))" says quiet
    ∷ "(ask (sum s.v 50 50 (in s)))" says cells (pos 4 ∷ pos 6 ∷ pos 0 ∷ pos 2 ∷ pos 1 ∷ pos 50 ∷ pos 2 ∷ pos 1 ∷ pos 0 ∷ pos 2 ∷ pos 1 ∷ pos 50 ∷ pos 7 ∷ pos 2 ∷ pos 0 ∷ pos 2 ∷ pos 1 ∷ pos 50 ∷ pos 10 ∷ pos 3 ∷ pos 0 ∷ pos 2 ∷ pos 1 ∷ pos 50 ∷ pos 2 ∷ [])
    ∷ []))
unfolding scripts_compute
figures_over_views = refl

-- below the aggregate `in`, `keep` and `join` alone; above it picks
pub below_rights : Holds
    (meters ++ ("(grant a sum (of s) (show s.v))" says quiet
    ∷ "(caller (roles a))" says quiet
    ∷ "(ask (sum s.v 50 50 (pick (> s.v 0) (in s))))" says refusal 9
    ∷ "(ask (sum s.v 50 50 (pick (>= time 0) (in s))))" says refusal 9
    ∷ "(ask (sum s.v 50 50 (keep s.v (pick (> s.v 0) (in s)))))" says refusal 9
    ∷ "(ask (sum s.v 50 50 (keep s.v (in s))))" says cells (pos 1 ∷ pos 1 ∷ pos 0 ∷ pos 2 ∷ pos 1 ∷ pos 50 ∷ pos 12 ∷ [])
    ∷ "(ask (sum s.v 50 50 (keep s.v s.u (in s))))" says cells (pos 1 ∷ pos 1 ∷ pos 0 ∷ pos 2 ∷ pos 1 ∷ pos 50 ∷ pos 12 ∷ [])
    ∷ "(ask (sum s.v 50 50 (keep s.v (keep s.u s.v (in s)))))" says cells (pos 1 ∷ pos 1 ∷ pos 0 ∷ pos 2 ∷ pos 1 ∷ pos 50 ∷ pos 12 ∷ [])
    ∷ "(ask (pick (> figure 11) (sum s.v 50 50 (in s))))" says cells (pos 1 ∷ pos 1 ∷ pos 0 ∷ pos 2 ∷ pos 1 ∷ pos 50 ∷ pos 12 ∷ [])
    ∷ "(ask (pick (> figure 12) (sum s.v 50 50 (in s))))" says cells (pos 1 ∷ pos 1 ∷ pos 0 ∷ pos 2 ∷ pos 0 ∷ [])
    ∷ "(ask (pick (and (< time 100) (> figure 0)) (sum s.v 50 50 (in s))))" says cells (pos 1 ∷ pos 1 ∷ pos 0 ∷ pos 2 ∷ pos 1 ∷ pos 50 ∷ pos 12 ∷ [])
    ∷ "(ask (keep s.v (in s)))" says refusal 9
    ∷ []))
unfolding scripts_compute
below_rights = refl

-- an aggregate of a join by a grant on the pair, of that right, with the equality
pub pair_rights : Holds
    (sides ++ ("(grant r sum (of a b) (show b.w) (when (= a.k b.k)) (window 5 2))" says quiet
    ∷ "(grant r sum (of a b) (show b.w) (when (= b.k a.k)) (from 4))" says quiet
    ∷ "(grant r sum (of b a) (show b.w) (when (= a.k b.k)))" says quiet
    ∷ "(grant r sum (of a b) (show b.w))" says quiet
    ∷ "(grant r sum (of a b) (show a.v) (when (= a.k b.k)))" says quiet
    ∷ "(grant r max (of a b) (show b.w) (when (= a.k b.k)))" says quiet
    ∷ "(grant r read (of a b) (show b.w) (when (= a.k b.k)))" says quiet
    ∷ "(grant r sum (of b) (show *))" says quiet
    ∷ "(grant r sum (of a) (show *))" says quiet
    ∷ "(caller (roles r))" says quiet
    ∷ "(ask (sum b.w 5 5 (join (= a.k b.k) (in a) (in b))))" says cells (pos 3 ∷ pos 7 ∷ pos 0 ∷ pos 2 ∷ pos 1 ∷ pos 5 ∷ pos 30 ∷ pos 1 ∷ pos 0 ∷ pos 2 ∷ pos 1 ∷ pos 5 ∷ pos 30 ∷ pos 2 ∷ pos 0 ∷ pos 2 ∷ pos 1 ∷ pos 5 ∷ pos 12 ∷ [])
    ∷ "(ask (sum b.w 4 5 (join (= a.k b.k) (in a) (in b))))" says cells (pos 2 ∷ pos 7 ∷ pos 0 ∷ pos 2 ∷ pos 1 ∷ pos 4 ∷ pos 18 ∷ pos 2 ∷ pos 0 ∷ pos 2 ∷ pos 0 ∷ [])
    ∷ "(ask (sum b.w 5 1 (join (= a.k b.k) (in a) (in b))))" says cells (pos 2 ∷ pos 7 ∷ pos 0 ∷ pos 2 ∷ pos 5 ∷ pos 5 ∷ pos 30 ∷ pos 6 ∷ pos 30 ∷ pos 7 ∷ pos 30 ∷ pos 8 ∷ pos 30 ∷ pos 9 ∷ pos 12 ∷ pos 2 ∷ pos 0 ∷ pos 2 ∷ pos 5 ∷ pos 5 ∷ pos 12 ∷ pos 6 ∷ pos 12 ∷ pos 7 ∷ pos 12 ∷ pos 8 ∷ pos 12 ∷ pos 9 ∷ pos 12 ∷ [])
    ∷ "(ask (sum b.w 5 2 (join (= a.k b.k) (in a) (in b))))" says cells (pos 3 ∷ pos 7 ∷ pos 0 ∷ pos 2 ∷ pos 3 ∷ pos 5 ∷ pos 30 ∷ pos 7 ∷ pos 30 ∷ pos 9 ∷ pos 12 ∷ pos 1 ∷ pos 0 ∷ pos 2 ∷ pos 3 ∷ pos 5 ∷ pos 30 ∷ pos 7 ∷ pos 30 ∷ pos 9 ∷ pos 12 ∷ pos 2 ∷ pos 0 ∷ pos 2 ∷ pos 3 ∷ pos 5 ∷ pos 12 ∷ pos 7 ∷ pos 12 ∷ pos 9 ∷ pos 12 ∷ [])
    ∷ "(ask (max b.w 5 5 (join (= a.k b.k) (in a) (in b))))" says cells (pos 2 ∷ pos 7 ∷ pos 0 ∷ pos 2 ∷ pos 1 ∷ pos 5 ∷ pos 7 ∷ pos 6 ∷ pos 0 ∷ pos 2 ∷ pos 1 ∷ pos 5 ∷ pos 7 ∷ [])
    ∷ "(ask (sum a.v 5 5 (join (= a.k b.k) (in a) (in b))))" says cells (pos 1 ∷ pos 5 ∷ pos 0 ∷ pos 2 ∷ pos 1 ∷ pos 5 ∷ pos 110 ∷ [])
    ∷ "(ask (sum b.w 5 5 (join (= a.k b.k) (in a) (pick (> b.w 5) (in b)))))" says cells (pos 1 ∷ pos 7 ∷ pos 0 ∷ pos 2 ∷ pos 1 ∷ pos 5 ∷ pos 20 ∷ [])
    ∷ "(ask (sum b.w 5 5 (pick (> b.w 5) (join (= a.k b.k) (in a) (in b)))))" says cells (pos 1 ∷ pos 7 ∷ pos 0 ∷ pos 2 ∷ pos 1 ∷ pos 5 ∷ pos 20 ∷ [])
    ∷ "(ask (sum b.w 5 5 (keep b.w (join (= a.k b.k) (keep a.k (in a)) (in b)))))" says cells (pos 3 ∷ pos 7 ∷ pos 0 ∷ pos 2 ∷ pos 1 ∷ pos 5 ∷ pos 30 ∷ pos 1 ∷ pos 0 ∷ pos 2 ∷ pos 1 ∷ pos 5 ∷ pos 30 ∷ pos 2 ∷ pos 0 ∷ pos 2 ∷ pos 1 ∷ pos 5 ∷ pos 12 ∷ [])
    ∷ "(ask (pick (> time 5) (sum b.w 5 5 (join (= a.k b.k) (in a) (in b)))))" says cells (pos 3 ∷ pos 7 ∷ pos 0 ∷ pos 2 ∷ pos 0 ∷ pos 1 ∷ pos 0 ∷ pos 2 ∷ pos 0 ∷ pos 2 ∷ pos 0 ∷ pos 2 ∷ pos 0 ∷ [])
    ∷ "(ask (avg b.w 5 5 (join (= a.k b.k) (in a) (in b))))" says cells (pos 1 ∷ pos 7 ∷ pos 0 ∷ pos 2 ∷ pos 1 ∷ pos 5 ∷ pos 6 ∷ [])
    ∷ "(ask (join (= a.k b.k) (in a) (in b)))" says cells (pos 1 ∷ pos 7 ∷ pos 0 ∷ pos 2 ∷ pos 5 ∷ pos 3 ∷ pos 6 ∷ pos 3 ∷ pos 5 ∷ pos 3 ∷ pos 7 ∷ pos 4 ∷ pos 5 ∷ pos 4 ∷ pos 7 ∷ [])
    ∷ []))
unfolding scripts_compute
pair_rights = refl

-- kind 1 by left number and then right, kind 2 by number, kind 3 by number
pub routes_in_order : Holds
    (sides ++ ("(grant r sum (of a b) (show b.w) (when (= a.k b.k)))" says quiet
    ∷ "(grant r read (of a b) (show b.w) (when (= a.k b.k)))" says quiet
    ∷ "(grant r read (of b) (show *))" says quiet
    ∷ "(grant r read (of a) (show *))" says quiet
    ∷ "(grant r sum (of a b) (show *) (when (= a.k b.k)))" says quiet
    ∷ "(grant r read (of a) (show *))" says quiet
    ∷ "(grant r read (of a b) (show *) (when (= b.k a.k)))" says quiet
    ∷ "(grant r read (of b) (show *))" says quiet
    ∷ "(caller (roles r))" says quiet
    ∷ "(ask (sum b.w 10 10 (join (= a.k b.k) (in a) (in b))))" says cells (pos 8 ∷ pos 4 ∷ pos 3 ∷ pos 2 ∷ pos 1 ∷ pos 10 ∷ pos 30 ∷ pos 4 ∷ pos 8 ∷ pos 2 ∷ pos 1 ∷ pos 10 ∷ pos 30 ∷ pos 6 ∷ pos 3 ∷ pos 2 ∷ pos 1 ∷ pos 10 ∷ pos 30 ∷ pos 6 ∷ pos 8 ∷ pos 2 ∷ pos 1 ∷ pos 10 ∷ pos 30 ∷ pos 2 ∷ pos 0 ∷ pos 2 ∷ pos 1 ∷ pos 10 ∷ pos 30 ∷ pos 7 ∷ pos 0 ∷ pos 2 ∷ pos 1 ∷ pos 10 ∷ pos 30 ∷ pos 1 ∷ pos 0 ∷ pos 2 ∷ pos 1 ∷ pos 10 ∷ pos 30 ∷ pos 5 ∷ pos 0 ∷ pos 2 ∷ pos 1 ∷ pos 10 ∷ pos 30 ∷ [])
    ∷ "(line 5 (sum b.w 10 10 (join (= a.k b.k) (in a) (in b))))" says writes "(sum b.w 10 10 (keep b.w (keep b.w (pick (and (= a.k b.k)) (join (= a.k b.k) (in a) (in b))))))"
    ∷ "(line 7 (sum b.w 10 10 (join (= a.k b.k) (in a) (in b))))" says writes "(sum b.w 10 10 (keep b.w (keep b.w (pick (and (= a.k b.k)) (join (= a.k b.k) (in a) (in b))))))"
    ∷ "(line 8 (sum b.w 10 10 (join (= a.k b.k) (in a) (in b))))" says writes "(sum b.w 10 10 (keep a.k a.v b.k b.w (keep a.k a.v b.k b.w (pick (and (= a.k b.k)) (join (= a.k b.k) (in a) (in b))))))"
    ∷ "(line 9 (sum b.w 10 10 (join (= a.k b.k) (in a) (in b))))" says refusal 9
    ∷ []))
unfolding scripts_compute
routes_in_order = refl
