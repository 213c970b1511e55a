-- Where more than one refusal's condition holds, the earlier is returned: 1, 3, 2, 6, 4, 5, 7, 8, 9, 10, 11, each tried on the whole line.
use mathlib.Core.Path.{refl}
use mathlib.Core.List.{List, [], ◌∷◌, ◌++◌}
use lib.ListN.{replicate}
use Rattle.calls.specs.Scripts.{quiet, refusal, scripts_compute}
use Rattle.samples.proofs.Transcripts.{Said, ◌says◌, each, Holds, HoldsWith}

-- a stream at clock 5, and a reader of it
abbrev clocked : List Said
clocked =
    each quiet
    ("(stream s v w)"
    ∷ "(clock 5)"
    ∷ "(grant a read (of s) (show *))"
    ∷ "(caller (roles a))"
    ∷ [])

-- 1 before 3, 2, 6, 4, 5, 7
pub malformed_first : Holds
    (clocked ++ (each (refusal 1)
    ("(ask (in abcdefghi)"
    ∷ "(ask (pick (= s.v 2147483648) (in s) ))"
    ∷ "(row s 2147483648 x)"
    ∷ "(row t 1 x)"
    ∷ "(clock -1 )"
    ∷ "(clock 4 4)"
    ∷ "(stream s s s 1)"
    ∷ "(stream abcdefghi)"
    ∷ "(ask (keep s.v s.v (in s)) )"
    ∷ "(ask (keep u.v (in S)))"
    ∷ "(ask (keep time time))"
    ∷ "(ask (sum s.v 0 0 (in s s)))"
    ∷ "(grant abcdefghi write (of s) (show *))"
    ∷ "(caller (roles a a) (self))"
    ∷ "(line -1 (in s)"
    ∷ [])))
unfolding scripts_compute
malformed_first = refl

-- 3 before 2, 6, 4, 5, 7
pub bound_second : Holds
    (clocked ++ (each (refusal 3)
    ("(ask (in abcdefghi))"
    ∷ "(ask (keep u.v (pick (= s.v 2147483648) (in s))))"
    ∷ "(row t 2147483648 1)"
    ∷ "(row s 2147483648)"
    ∷ "(row s 1 2 2147483648)"
    ∷ "(stream s a b c d e f g)"
    ∷ "(stream time a b c d e f g)"
    ∷ "(stream t x x abcdefghi)"
    ∷ "(stream abcdefghi x x)"
    ∷ "(stream abcdefghi time)"
    ∷ "(grant a read (of t) (show *) (from -1))"
    ∷ "(grant a read (of s s) (show *) (to -1))"
    ∷ "(grant a read (of s) (show *) (window -1 1))"
    ∷ "(grant a read (of s) (show *) (from 5) (to -1))"
    ∷ "(caller (roles a a b c d))"
    ∷ "(caller (roles a) (self n 1) (self n 2147483648))"
    ∷ "(ask (keep s.v s.v (pick (= s.v 2147483648) (in s))))"
    ∷ "(ask (pick (= s.v time) (pick (= s.v 2147483648) (in s))))"
    ∷ "(ask (sum s.v 0 2147483648 (in s)))"
    ∷ "(ask (sum s.v 2147483648 0 (in s)))"
    ∷ "(clock -1)"
    ∷ "(line 9 (sum s.v 2147483648 0 (in s)))"
    ∷ [])))
unfolding scripts_compute
bound_second = refl

-- 2 before 6, 4, 5
pub undeclared_third : Holds
    (clocked ++ (each (refusal 2)
    ("(grant a read (of t t) (show *))"
    ∷ "(grant a read (of s) (show s.v s.v) (when (= t.v 1)))"
    ∷ "(grant a read (of s) (show s.v s.v u.v))"
    ∷ "(grant a read (of s t) (show time))"
    ∷ "(grant a read (of s) (show *) (when (= time s.x)))"
    ∷ "(grant a read (of s) (show *) (when (= s.x 1)) (from 5) (to 4))"
    ∷ "(grant a read (of t) (show *) (window 1 1))"
    ∷ "(ask (keep s.x s.x (in s)))"
    ∷ "(ask (keep s.v s.v (in t)))"
    ∷ "(ask (pick (= s.x time) (in s)))"
    ∷ "(ask (pick (= s.v self.n) (in t)))"
    ∷ "(ask (join (= s.v t.k) (in s) (in s)))"
    ∷ "(ask (sum s.x 0 0 (in s)))"
    ∷ "(ask (sum s.v 0 0 (in t)))"
    ∷ "(row t 1)"
    ∷ [])))
unfolding scripts_compute
undeclared_third = refl

-- 6 before 4, 5
pub repeated_fourth : Holds
    (clocked ++ (each (refusal 6)
    ("(stream time x x)"
    ∷ "(stream s time)"
    ∷ "(stream x time time)"
    ∷ "(grant a read (of s s) (show *) (from 5) (to 4))"
    ∷ "(grant a read (of s) (show s.v s.v) (window 1 1))"
    ∷ "(grant a read (of s) (show time time))"
    ∷ "(grant a read (of s s s) (show *))"
    ∷ "(ask (keep time time (in s)))"
    ∷ "(ask (keep figure figure (in s)))"
    ∷ "(ask (keep figure figure (sum s.v 1 1 (in s))))"
    ∷ "(ask (keep self.v self.v (in s)))"
    ∷ "(ask (keep s.v s.v (pick (= s.v time) (in s))))"
    ∷ "(ask (pick (= s.v time) (keep s.v s.v (in s))))"
    ∷ "(ask (sum s.v 0 0 (keep s.v s.v (in s))))"
    ∷ [])))
unfolding scripts_compute
repeated_fourth = refl

-- 4 before 5; both before 9
pub misplaced_fifth : Holds
    (clocked ++ ("(ask (sum s.v 0 0 (keep s.w (in s))))" says refusal 4
    ∷ "(ask (keep time figure (in s)))" says refusal 4
    ∷ "(ask (keep s.v figure time (in s)))" says refusal 4
    ∷ "(ask (keep self.v s.v (in s)))" says refusal 4
    ∷ "(ask (pick (= s.v 1) (sum s.v 0 0 (in s))))" says refusal 4
    ∷ "(ask (sum s.v 0 0 (sum s.v 0 0 (in s))))" says refusal 4
    ∷ "(caller (roles))" says quiet
    ∷ "(ask (sum s.w 0 0 (keep s.v (in s))))" says refusal 4
    ∷ "(ask (keep time (in s)))" says refusal 4
    ∷ "(line 5 (keep time (in s)))" says refusal 4
    ∷ []))
unfolding scripts_compute
misplaced_fifth = refl

-- 5 before 9
pub window_sixth : Holds
    (clocked ++ ("(caller (roles))" says quiet
    ∷ "(ask (sum s.v 0 1 (in s)))" says refusal 5
    ∷ "(line 5 (sum s.v 65 1 (in s)))" says refusal 5
    ∷ "(ask (sum s.v 1 1 (in s)))" says refusal 9
    ∷ []))
unfolding scripts_compute
window_sixth = refl

-- 3, 2 and 4 before 8
pub full_streams : Holds
    (("(stream s v w)" says quiet
    ∷ [])
    ++ (replicate 128 ("(row s 1 2)" says quiet)
    ++ ("(row s 1 2)" says refusal 8
    ∷ "(row s 1 2147483648)" says refusal 3
    ∷ "(row s 1)" says refusal 4
    ∷ "(row s 1 2 3)" says refusal 4
    ∷ "(row t 1 2)" says refusal 2
    ∷ "(row s 1 x)" says refusal 1
    ∷ "(stream t k)" says quiet
    ∷ "(row t 1)" says quiet
    ∷ [])))
unfolding scripts_compute
full_streams = refl

-- 9 before 10 before 11
pub unrouted_before_many : HoldsWith 0 0
    (("(stream a x)" says quiet
    ∷ "(stream b y)" says quiet
    ∷ [])
    ++ (replicate 5 ("(grant r read (of a) (show *))" says quiet)
    ++ (replicate 4 ("(grant r read (of b) (show *))" says quiet)
    ++ ("(ask (in a))" says refusal 9
    ∷ "(line 1 (in a))" says refusal 9
    ∷ "(caller (roles r))" says quiet
    ∷ "(ask (in a))" says refusal 11
    ∷ "(line 1 (in a))" says refusal 11
    ∷ "(line 6 (in a))" says refusal 9
    ∷ "(ask (join (= a.x b.y) (in a) (in b)))" says refusal 10
    ∷ "(line 1 (join (= a.x b.y) (in a) (in b)))" says refusal 10
    ∷ "(line 20 (join (= a.x b.y) (in a) (in b)))" says refusal 10
    ∷ "(line 21 (join (= a.x b.y) (in a) (in b)))" says refusal 9
    ∷ "(line 0 (join (= a.x b.y) (in a) (in b)))" says refusal 9
    ∷ []))))
unfolding scripts_compute
unrouted_before_many = refl
