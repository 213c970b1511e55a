-- The record: clock, rows and clear, over two streams; refused calls leave it as it is.
use mathlib.Core.Path.{refl}
use mathlib.Core.List.{List, [], ◌∷◌, ◌++◌}
use lib.IntN.{pos, negsuc}
use Rattle.calls.specs.Scripts.{quiet, refusal, cells, scripts_compute}
use Rattle.samples.proofs.Transcripts.{Said, ◌says◌, each, writes, Holds}

abbrev two : List Said
two =
    each quiet
    ("(stream a x)"
    ∷ "(stream b y z)"
    ∷ "(grant all read (of a) (show *))"
    ∷ "(grant all read (of b) (show *))"
    ∷ "(caller (roles all))"
    ∷ [])

-- a fresh record has clock 0, no streams, no rows, no grants and nobody asking
pub fresh_record : Holds
    ("(ask (in s))" says refusal 2
    ∷ "(stream s v)" says quiet
    ∷ "(ask (in s))" says refusal 9
    ∷ "(caller (roles a))" says quiet
    ∷ "(ask (in s))" says refusal 9
    ∷ "(grant a read (of s) (show *))" says quiet
    ∷ "(ask (in s))" says cells (pos 1 ∷ pos 1 ∷ pos 0 ∷ pos 2 ∷ pos 0 ∷ [])
    ∷ "(row s 5)" says quiet
    ∷ "(ask (in s))" says cells (pos 1 ∷ pos 1 ∷ pos 0 ∷ pos 2 ∷ pos 1 ∷ pos 0 ∷ pos 5 ∷ [])
    ∷ "(clock 0)" says quiet
    ∷ [])
unfolding scripts_compute
fresh_record = refl

-- each row is stamped with the clock as it then stood, and goes to its own stream, after those before
pub rows_in_order : Holds
    (two ++ ("(row a 5)" says quiet
    ∷ "(clock 3)" says quiet
    ∷ "(row b 1 -2)" says quiet
    ∷ "(row a 4)" says quiet
    ∷ "(row a 6)" says quiet
    ∷ "(clock 7)" says quiet
    ∷ "(row b 3 9)" says quiet
    ∷ "(clock 8)" says quiet
    ∷ "(ask (in a))" says cells (pos 1 ∷ pos 1 ∷ pos 0 ∷ pos 2 ∷ pos 3 ∷ pos 0 ∷ pos 5 ∷ pos 3 ∷ pos 4 ∷ pos 3 ∷ pos 6 ∷ [])
    ∷ "(ask (in b))" says cells (pos 1 ∷ pos 2 ∷ pos 0 ∷ pos 3 ∷ pos 2 ∷ pos 3 ∷ pos 1 ∷ negsuc 1 ∷ pos 7 ∷ pos 3 ∷ pos 9 ∷ [])
    ∷ []))
unfolding scripts_compute
rows_in_order = refl

-- a refused call changes nothing
pub refused_calls : Holds
    (two ++ ("(clock 3)" says quiet
    ∷ "(row a 1)" says quiet
    ∷ "(clock 2)" says refusal 7
    ∷ "(clock 2147483648)" says refusal 3
    ∷ "(clock -1)" says refusal 3
    ∷ "(row a 2 3)" says refusal 4
    ∷ "(row b 2)" says refusal 4
    ∷ "(row c 2)" says refusal 2
    ∷ "(row a 2147483648)" says refusal 3
    ∷ "(row a)" says refusal 1
    ∷ "(clear 1)" says refusal 1
    ∷ "(stream a y)" says refusal 6
    ∷ "(stream c)" says refusal 1
    ∷ "(row a 4)" says quiet
    ∷ "(row b 5 6)" says quiet
    ∷ "(ask (in a))" says cells (pos 1 ∷ pos 1 ∷ pos 0 ∷ pos 2 ∷ pos 2 ∷ pos 3 ∷ pos 1 ∷ pos 3 ∷ pos 4 ∷ [])
    ∷ "(ask (in b))" says cells (pos 1 ∷ pos 2 ∷ pos 0 ∷ pos 3 ∷ pos 1 ∷ pos 3 ∷ pos 5 ∷ pos 6 ∷ [])
    ∷ "(clock 3)" says quiet
    ∷ "(row a 8)" says quiet
    ∷ "(ask (in a))" says cells (pos 1 ∷ pos 1 ∷ pos 0 ∷ pos 2 ∷ pos 3 ∷ pos 3 ∷ pos 1 ∷ pos 3 ∷ pos 4 ∷ pos 3 ∷ pos 8 ∷ [])
    ∷ []))
unfolding scripts_compute
refused_calls = refl

-- clear drops the rows of every stream and leaves the clock, the streams, the grants and the caller
pub clears : Holds
    (two ++ ("(clock 3)" says quiet
    ∷ "(row a 1)" says quiet
    ∷ "(row b 2 3)" says quiet
    ∷ "(row b 4 5)" says quiet
    ∷ "(clear)" says quiet
    ∷ "(ask (in a))" says cells (pos 1 ∷ pos 1 ∷ pos 0 ∷ pos 2 ∷ pos 0 ∷ [])
    ∷ "(ask (in b))" says cells (pos 1 ∷ pos 2 ∷ pos 0 ∷ pos 3 ∷ pos 0 ∷ [])
    ∷ "(clock 2)" says refusal 7
    ∷ "(row b 6 7)" says quiet
    ∷ "(clock 4)" says quiet
    ∷ "(row a 8)" says quiet
    ∷ "(ask (in a))" says cells (pos 1 ∷ pos 1 ∷ pos 0 ∷ pos 2 ∷ pos 1 ∷ pos 4 ∷ pos 8 ∷ [])
    ∷ "(ask (in b))" says cells (pos 1 ∷ pos 2 ∷ pos 0 ∷ pos 3 ∷ pos 1 ∷ pos 3 ∷ pos 6 ∷ pos 7 ∷ [])
    ∷ "(clear)" says quiet
    ∷ "(clear)" says quiet
    ∷ "(row a 9)" says quiet
    ∷ "(ask (in a))" says cells (pos 1 ∷ pos 1 ∷ pos 0 ∷ pos 2 ∷ pos 1 ∷ pos 4 ∷ pos 9 ∷ [])
    ∷ "(ask (in b))" says cells (pos 1 ∷ pos 2 ∷ pos 0 ∷ pos 3 ∷ pos 0 ∷ [])
    ∷ []))
unfolding scripts_compute
clears = refl

-- and of the last of four streams
pub last_stream_cleared : Holds
    (two ++ ("(stream c x)" says quiet
    ∷ "(stream d x)" says quiet
    ∷ "(grant all read (of c) (show *))" says quiet
    ∷ "(grant all read (of d) (show *))" says quiet
    ∷ "(row c 1)" says quiet
    ∷ "(row d 2)" says quiet
    ∷ "(ask (in c))" says cells (pos 1 ∷ pos 3 ∷ pos 0 ∷ pos 2 ∷ pos 1 ∷ pos 0 ∷ pos 1 ∷ [])
    ∷ "(ask (in d))" says cells (pos 1 ∷ pos 4 ∷ pos 0 ∷ pos 2 ∷ pos 1 ∷ pos 0 ∷ pos 2 ∷ [])
    ∷ "(clear)" says quiet
    ∷ "(ask (in c))" says cells (pos 1 ∷ pos 3 ∷ pos 0 ∷ pos 2 ∷ pos 0 ∷ [])
    ∷ "(ask (in d))" says cells (pos 1 ∷ pos 4 ∷ pos 0 ∷ pos 2 ∷ pos 0 ∷ [])
    ∷ "(row d 3)" says quiet
    ∷ "(row c 4)" says quiet
    ∷ "(ask (in c))" says cells (pos 1 ∷ pos 3 ∷ pos 0 ∷ pos 2 ∷ pos 1 ∷ pos 0 ∷ pos 4 ∷ [])
    ∷ "(ask (in d))" says cells (pos 1 ∷ pos 4 ∷ pos 0 ∷ pos 2 ∷ pos 1 ∷ pos 0 ∷ pos 3 ∷ [])
    ∷ []))
unfolding scripts_compute
last_stream_cleared = refl

-- a clock may be set again to what it is
pub clock_stays : Holds
    (two ++ ("(clock 5)" says quiet
    ∷ "(clock 5)" says quiet
    ∷ "(row a 1)" says quiet
    ∷ "(clock 6)" says quiet
    ∷ "(clock 6)" says quiet
    ∷ "(row a 2)" says quiet
    ∷ "(clock 5)" says refusal 7
    ∷ "(ask (in a))" says cells (pos 1 ∷ pos 1 ∷ pos 0 ∷ pos 2 ∷ pos 2 ∷ pos 5 ∷ pos 1 ∷ pos 6 ∷ pos 2 ∷ [])
    ∷ []))
unfolding scripts_compute
clock_stays = refl

-- streams and columns keep the order of their lines
pub streams_in_order : Holds
    (two ++ ("(stream c p q r)" says quiet
    ∷ "(row c 1 2 3)" says quiet
    ∷ "(grant all read (of c) (show c.r c.p))" says quiet
    ∷ "(ask (in c))" says cells (pos 1 ∷ pos 3 ∷ pos 0 ∷ pos 3 ∷ pos 1 ∷ pos 0 ∷ pos 1 ∷ pos 3 ∷ [])
    ∷ "(ask (keep c.r c.p (in c)))" says cells (pos 1 ∷ pos 3 ∷ pos 0 ∷ pos 3 ∷ pos 1 ∷ pos 0 ∷ pos 3 ∷ pos 1 ∷ [])
    ∷ "(line 1 (keep c.r c.p (in c)))" says writes "(keep c.r c.p (keep c.p c.r (in c)))"
    ∷ []))
unfolding scripts_compute
streams_in_order = refl

-- ---- callers and grants

-- each caller line replaces the one before; a refused one does not
pub callers : Holds
    ("(stream s v)" says quiet
    ∷ "(row s 1)" says quiet
    ∷ "(row s 2)" says quiet
    ∷ "(grant a read (of s) (show *) (when (= s.v self.n)))" says quiet
    ∷ "(grant b read (of s) (show *))" says quiet
    ∷ "(ask (in s))" says refusal 9
    ∷ "(caller (roles a) (self n 1))" says quiet
    ∷ "(ask (in s))" says cells (pos 1 ∷ pos 1 ∷ pos 0 ∷ pos 2 ∷ pos 1 ∷ pos 0 ∷ pos 1 ∷ [])
    ∷ "(caller (roles a) (self n 2))" says quiet
    ∷ "(ask (in s))" says cells (pos 1 ∷ pos 1 ∷ pos 0 ∷ pos 2 ∷ pos 1 ∷ pos 0 ∷ pos 2 ∷ [])
    ∷ "(caller (roles a a))" says refusal 6
    ∷ "(caller (roles b) (self n 1) (self n 2))" says refusal 6
    ∷ "(ask (in s))" says cells (pos 1 ∷ pos 1 ∷ pos 0 ∷ pos 2 ∷ pos 1 ∷ pos 0 ∷ pos 2 ∷ [])
    ∷ "(caller (roles b))" says quiet
    ∷ "(ask (in s))" says cells (pos 1 ∷ pos 2 ∷ pos 0 ∷ pos 2 ∷ pos 2 ∷ pos 0 ∷ pos 1 ∷ pos 0 ∷ pos 2 ∷ [])
    ∷ "(caller (roles a b))" says quiet
    ∷ "(ask (in s))" says cells (pos 1 ∷ pos 2 ∷ pos 0 ∷ pos 2 ∷ pos 2 ∷ pos 0 ∷ pos 1 ∷ pos 0 ∷ pos 2 ∷ [])
    ∷ "(caller (roles c a) (self m 1) (self n 1))" says quiet
    ∷ "(ask (in s))" says cells (pos 1 ∷ pos 1 ∷ pos 0 ∷ pos 2 ∷ pos 1 ∷ pos 0 ∷ pos 1 ∷ [])
    ∷ "(caller (roles))" says quiet
    ∷ "(ask (in s))" says refusal 9
    ∷ [])
unfolding scripts_compute
callers = refl

-- grants are numbered from 1 by accepted line
pub grants_numbered : Holds
    ("(stream s v w)" says quiet
    ∷ "(row s 1 2)" says quiet
    ∷ "(grant b read (of s) (show *))" says quiet
    ∷ "(grant a read (of t) (show *))" says refusal 2
    ∷ "(grant a read (of s) (show s.v))" says quiet
    ∷ "(grant a)" says refusal 1
    ∷ "(grant a read (of s) (show s.w))" says quiet
    ∷ "(caller (roles a))" says quiet
    ∷ "(ask (in s))" says cells (pos 2 ∷ pos 2 ∷ pos 0 ∷ pos 2 ∷ pos 1 ∷ pos 0 ∷ pos 1 ∷ pos 3 ∷ pos 0 ∷ pos 2 ∷ pos 1 ∷ pos 0 ∷ pos 2 ∷ [])
    ∷ "(line 2 (in s))" says writes "(keep s.w (in s))"
    ∷ [])
unfolding scripts_compute
grants_numbered = refl

-- a grant of all columns, of a stream declared after other grants
pub later_grants : Holds
    ("(stream s v)" says quiet
    ∷ "(grant a read (of s) (show *))" says quiet
    ∷ "(stream t k m)" says quiet
    ∷ "(row t 3 4)" says quiet
    ∷ "(grant a read (of t) (show *))" says quiet
    ∷ "(caller (roles a))" says quiet
    ∷ "(ask (in t))" says cells (pos 1 ∷ pos 2 ∷ pos 0 ∷ pos 3 ∷ pos 1 ∷ pos 0 ∷ pos 3 ∷ pos 4 ∷ [])
    ∷ "(ask (in s))" says cells (pos 1 ∷ pos 1 ∷ pos 0 ∷ pos 2 ∷ pos 0 ∷ [])
    ∷ [])
unfolding scripts_compute
later_grants = refl
