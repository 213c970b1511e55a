-- Bounds from texts: each at its edge and one past it.
use mathlib.Core.Path.{refl}
use mathlib.Core.List.{List, [], ◌∷◌, ◌++◌}
use lib.IntN.{pos, negsuc}
use lib.ListN.{replicate}
use Rattle.calls.specs.Scripts.{quiet, refusal, cells, scripts_compute}
use Rattle.samples.proofs.Transcripts.{Said, ◌says◌, each, writes, Holds}

abbrev plenty : List Said
plenty =
    each quiet
    ("(stream s v w)"
    ∷ "(row s 7 1)"
    ∷ "(grant a read (of s) (show *))"
    ∷ "(caller (roles a))"
    ∷ [])

-- ---- numbers

-- the clock, `from`, `to` and the numbers of `window`: 0 to 2147483647
pub times : Holds
    (plenty ++ ("(clock -1)" says refusal 3
    ∷ "(clock 0)" says quiet
    ∷ "(clock 2147483648)" says refusal 3
    ∷ "(clock 2147483647)" says quiet
    ∷ "(grant b read (of s) (show *) (from -1))" says refusal 3
    ∷ "(grant b read (of s) (show *) (from 0))" says quiet
    ∷ "(grant b read (of s) (show *) (from 2147483647))" says quiet
    ∷ "(grant b read (of s) (show *) (from 2147483648))" says refusal 3
    ∷ "(grant b read (of s) (show *) (to -1))" says refusal 3
    ∷ "(grant b read (of s) (show *) (to 0))" says quiet
    ∷ "(grant b read (of s) (show *) (to 2147483647))" says quiet
    ∷ "(grant b read (of s) (show *) (to 2147483648))" says refusal 3
    ∷ "(grant b sum (of s) (show *) (window -1 5))" says refusal 3
    ∷ "(grant b sum (of s) (show *) (window 0 5))" says quiet
    ∷ "(grant b sum (of s) (show *) (window 2147483647 5))" says quiet
    ∷ "(grant b sum (of s) (show *) (window 2147483648 5))" says refusal 3
    ∷ "(grant b sum (of s) (show *) (window 5 -1))" says refusal 3
    ∷ "(grant b sum (of s) (show *) (window 5 0))" says quiet
    ∷ "(grant b sum (of s) (show *) (window 5 2147483647))" says quiet
    ∷ "(grant b sum (of s) (show *) (window 5 2147483648))" says refusal 3
    ∷ []))
unfolding scripts_compute
times = refl

-- signed 32-bit: column and profile values, numbers in conditions
pub values : Holds
    (plenty ++ ("(row s 2147483647 -2147483648)" says quiet
    ∷ "(row s -2147483648 2147483647)" says quiet
    ∷ "(row s 2147483648 0)" says refusal 3
    ∷ "(row s 0 2147483648)" says refusal 3
    ∷ "(row s -2147483649 0)" says refusal 3
    ∷ "(row s 0 -2147483649)" says refusal 3
    ∷ "(caller (roles a) (self n 2147483647) (self m -2147483648))" says quiet
    ∷ "(caller (roles a) (self n 2147483648))" says refusal 3
    ∷ "(caller (roles a) (self n 0) (self m 2147483648))" says refusal 3
    ∷ "(caller (roles a) (self n -2147483649))" says refusal 3
    ∷ "(ask (pick (= s.v 2147483647) (in s)))" says cells (pos 1 ∷ pos 1 ∷ pos 0 ∷ pos 3 ∷ pos 1 ∷ pos 0 ∷ pos 2147483647 ∷ negsuc 2147483647 ∷ [])
    ∷ "(ask (pick (= s.v -2147483648) (in s)))" says cells (pos 1 ∷ pos 1 ∷ pos 0 ∷ pos 3 ∷ pos 1 ∷ pos 0 ∷ negsuc 2147483647 ∷ pos 2147483647 ∷ [])
    ∷ "(ask (pick (= s.v 2147483648) (in s)))" says refusal 3
    ∷ "(ask (pick (= s.v -2147483649) (in s)))" says refusal 3
    ∷ "(ask (pick (and (= s.v 1) (not (= s.v 2147483648))) (in s)))" says refusal 3
    ∷ "(ask (pick (= s.v 1) (pick (= s.v -2147483649) (in s))))" says refusal 3
    ∷ "(grant b read (of s) (show *) (when (= s.v 2147483647)))" says quiet
    ∷ "(grant b read (of s) (show *) (when (= s.v -2147483648)))" says quiet
    ∷ "(grant b read (of s) (show *) (when (= s.v 2147483648)))" says refusal 3
    ∷ "(grant b read (of s) (show *) (when (= s.v -2147483649)))" says refusal 3
    ∷ "(grant b read (of s) (show *) (when (= s.v 1) (or (= s.v 1) (= s.v 2147483648))))" says refusal 3
    ∷ []))
unfolding scripts_compute
values = refl

-- SIZE and OFFSET at most 2147483647
pub sizes : Holds
    (plenty ++ ("(ask (sum s.v 2147483647 2147483647 (in s)))" says cells (pos 1 ∷ pos 1 ∷ pos 0 ∷ pos 2 ∷ pos 0 ∷ [])
    ∷ "(ask (sum s.v 2147483648 2147483647 (in s)))" says refusal 3
    ∷ "(ask (sum s.v 2147483647 2147483648 (in s)))" says refusal 3
    ∷ "(ask (pick (= figure 2147483648) (sum s.v 1 1 (in s))))" says refusal 3
    ∷ []))
unfolding scripts_compute
sizes = refl

-- ---- names

-- 8 bytes, wherever a name stands
pub long_names : Holds
    ("(stream abcdefgh ijklmnop)" says quiet
    ∷ "(stream abcdefghi x)" says refusal 3
    ∷ "(stream t abcdefghi)" says refusal 3
    ∷ "(stream t x abcdefghi)" says refusal 3
    ∷ "(row abcdefgh 1)" says quiet
    ∷ "(row abcdefghi 1)" says refusal 3
    ∷ "(grant abcdefgh read (of abcdefgh) (show abcdefgh.ijklmnop) (when (= abcdefgh.ijklmnop self.abcdefgh)))" says quiet
    ∷ "(grant abcdefghi read (of abcdefgh) (show *))" says refusal 3
    ∷ "(grant a read (of abcdefghi) (show *))" says refusal 3
    ∷ "(grant a read (of abcdefgh abcdefghi) (show *))" says refusal 3
    ∷ "(grant a read (of abcdefgh) (show abcdefghi.x))" says refusal 3
    ∷ "(grant a read (of abcdefgh) (show abcdefgh.abcdefghi))" says refusal 3
    ∷ "(grant a read (of abcdefgh) (show *) (when (= abcdefghi.x 1)))" says refusal 3
    ∷ "(grant a read (of abcdefgh) (show *) (when (= abcdefgh.abcdefghi 1)))" says refusal 3
    ∷ "(grant a read (of abcdefgh) (show *) (when (= abcdefgh.ijklmnop self.abcdefghi)))" says refusal 3
    ∷ "(grant a read (of abcdefgh) (show *) (when (= abcdefgh.ijklmnop abcdefgh.abcdefghi)))" says refusal 3
    ∷ "(caller (roles abcdefgh) (self abcdefgh 1))" says quiet
    ∷ "(ask (in abcdefgh))" says cells (pos 1 ∷ pos 1 ∷ pos 0 ∷ pos 2 ∷ pos 1 ∷ pos 0 ∷ pos 1 ∷ [])
    ∷ "(caller (roles abcdefghi))" says refusal 3
    ∷ "(caller (roles a abcdefghi))" says refusal 3
    ∷ "(caller (roles a) (self abcdefghi 1))" says refusal 3
    ∷ "(ask (in abcdefghi))" says refusal 3
    ∷ "(ask (keep abcdefghi.x (in abcdefgh)))" says refusal 3
    ∷ "(ask (keep abcdefgh.abcdefghi (in abcdefgh)))" says refusal 3
    ∷ "(ask (keep abcdefgh.ijklmnop abcdefgh.abcdefghi (in abcdefgh)))" says refusal 3
    ∷ "(ask (pick (= abcdefghi.x 1) (in abcdefgh)))" says refusal 3
    ∷ "(ask (pick (= abcdefgh.ijklmnop abcdefgh.abcdefghi) (in abcdefgh)))" says refusal 3
    ∷ "(ask (pick (= abcdefgh.ijklmnop self.abcdefghi) (in abcdefgh)))" says refusal 3
    ∷ "(ask (pick (or (= time 1) (= abcdefgh.abcdefghi 1)) (in abcdefgh)))" says refusal 3
    ∷ "(ask (sum abcdefghi.x 1 1 (in abcdefgh)))" says refusal 3
    ∷ "(ask (sum abcdefgh.abcdefghi 1 1 (in abcdefgh)))" says refusal 3
    ∷ "(ask (join (= abcdefgh.abcdefghi b.x) (in abcdefgh) (in b)))" says refusal 3
    ∷ "(ask (join (= abcdefgh.x b.abcdefghi) (in abcdefgh) (in b)))" says refusal 3
    ∷ "(ask (join (= abcdefgh.x b.x) (in abcdefgh) (in abcdefghi)))" says refusal 3
    ∷ [])
unfolding scripts_compute
long_names = refl

-- no stream or column is called `self`, `time` or `figure`
pub reserved_names : Holds
    ("(stream self x)" says refusal 4
    ∷ "(stream time x)" says refusal 4
    ∷ "(stream figure x)" says refusal 4
    ∷ "(stream s self)" says refusal 4
    ∷ "(stream s x time)" says refusal 4
    ∷ "(stream s x y figure)" says refusal 4
    ∷ "(stream selfs times)" says quiet
    ∷ "(stream in of)" says quiet
    ∷ "(stream read show)" says quiet
    ∷ "(stream and ask)" says quiet
    ∷ "(caller (roles self time figure) (self self 1) (self time 2) (self figure 3))" says quiet
    ∷ "(grant self read (of in) (show in.of) (when (= in.of self.time)))" says quiet
    ∷ [])
unfolding scripts_compute
reserved_names = refl

-- ---- counts

pub streams_and_columns : Holds
    ("(stream a a b c d e f)" says quiet
    ∷ "(stream b a b c d e f g)" says refusal 3
    ∷ "(stream b x)" says quiet
    ∷ "(stream c x)" says quiet
    ∷ "(stream d x)" says quiet
    ∷ "(stream e x)" says refusal 3
    ∷ "(row d 1)" says quiet
    ∷ "(row e 1)" says refusal 2
    ∷ [])
unfolding scripts_compute
streams_and_columns = refl

-- 128 of a stream, whatever others hold; a clear makes room again
pub rows : Holds
    (("(stream s v)" says quiet
    ∷ "(stream t v)" says quiet
    ∷ "(row t 1)" says quiet
    ∷ [])
    ++ (replicate 128 ("(row s 1)" says quiet)
    ++ ("(row s 1)" says refusal 8
    ∷ "(row t 1)" says quiet
    ∷ "(clear)" says quiet
    ∷ "(row s 1)" says quiet
    ∷ [])))
unfolding scripts_compute
rows = refl

pub grants : Holds
    (("(stream s v)" says quiet
    ∷ [])
    ++ (replicate 24 ("(grant a read (of s) (show *))" says quiet)
    ++ ("(grant a read (of s) (show *))" says refusal 3
    ∷ [])))
unfolding scripts_compute
grants = refl

-- one or two streams, both different
pub grants_of_streams : Holds
    ("(stream s v)" says quiet
    ∷ "(stream t v)" says quiet
    ∷ "(stream u v)" says quiet
    ∷ "(grant a read (of s) (show *))" says quiet
    ∷ "(grant a read (of s t) (show *))" says quiet
    ∷ "(grant a read (of s t u) (show *))" says refusal 4
    ∷ "(grant a read (of s s) (show *))" says refusal 6
    ∷ "(grant a read (of s t s) (show *))" says refusal 6
    ∷ [])
unfolding scripts_compute
grants_of_streams = refl

pub roles_and_entries : Holds
    ("(caller (roles))" says quiet
    ∷ "(caller (roles a b c d))" says quiet
    ∷ "(caller (roles a b c d e))" says refusal 3
    ∷ "(caller (roles) (self a 1) (self b 2) (self c 3) (self d 4))" says quiet
    ∷ "(caller (roles) (self a 1) (self b 2) (self c 3) (self d 4) (self e 5))" says refusal 3
    ∷ [])
unfolding scripts_compute
roles_and_entries = refl

-- the fourth role and the fourth entry count as the first
pub last_role_and_entry : Holds
    ("(stream s v)" says quiet
    ∷ "(row s 4)" says quiet
    ∷ "(row s 5)" says quiet
    ∷ "(grant d read (of s) (show *) (when (= s.v self.d)))" says quiet
    ∷ "(caller (roles a b c d) (self a 1) (self b 2) (self c 3) (self d 4))" says quiet
    ∷ "(ask (in s))" says cells (pos 1 ∷ pos 1 ∷ pos 0 ∷ pos 2 ∷ pos 1 ∷ pos 0 ∷ pos 4 ∷ [])
    ∷ [])
unfolding scripts_compute
last_role_and_entry = refl

-- 12 besides conditions
pub forms : Holds
    (plenty ++ ("(stream t k)" says quiet
    ∷ "(grant a read (of t) (show *))" says quiet
    ∷ "(row t 7)" says quiet
    ∷ "(ask (join (= s.v t.k) (keep s.v (keep s.v (keep s.v (keep s.v (keep s.v (in s)))))) (keep t.k (keep t.k (keep t.k (keep t.k (in t)))))))" says cells (pos 1 ∷ pos 1 ∷ pos 2 ∷ pos 3 ∷ pos 1 ∷ pos 0 ∷ pos 7 ∷ pos 7 ∷ [])
    ∷ "(ask (join (= s.v t.k) (keep s.v (keep s.v (keep s.v (keep s.v (keep s.v (in s)))))) (keep t.k (keep t.k (keep t.k (keep t.k (keep t.k (in t))))))))" says refusal 3
    ∷ "(ask (join (= s.v t.k) (pick (= s.v 7) (pick (= s.v 7) (pick (= s.v 7) (pick (= s.v 7) (pick (= s.v 7) (in s)))))) (pick (= t.k 7) (pick (= t.k 7) (pick (= t.k 7) (pick (= t.k 7) (in t)))))))" says cells (pos 1 ∷ pos 1 ∷ pos 2 ∷ pos 4 ∷ pos 1 ∷ pos 0 ∷ pos 7 ∷ pos 1 ∷ pos 7 ∷ [])
    ∷ "(ask (join (= s.v t.k) (pick (= s.v 7) (pick (= s.v 7) (pick (= s.v 7) (pick (= s.v 7) (pick (= s.v 7) (in s)))))) (pick (= t.k 7) (pick (= t.k 7) (pick (= t.k 7) (pick (= t.k 7) (pick (= t.k 7) (in t))))))))" says refusal 3
    ∷ "(ask (sum s.v 1 1 (join (= s.v t.k) (keep s.v (keep s.v (keep s.v (keep s.v (in s))))) (keep t.k (keep t.k (keep t.k (keep t.k (in t))))))))" says cells (pos 1 ∷ pos 1 ∷ pos 2 ∷ pos 2 ∷ pos 0 ∷ [])
    ∷ "(ask (sum s.v 1 1 (join (= s.v t.k) (keep s.v (keep s.v (keep s.v (keep s.v (in s))))) (keep t.k (keep t.k (keep t.k (keep t.k (keep t.k (in t)))))))))" says refusal 3
    ∷ "(line 1 (join (= s.v t.k) (keep s.v (keep s.v (keep s.v (keep s.v (keep s.v (in s)))))) (keep t.k (keep t.k (keep t.k (keep t.k (in t)))))))" says writes "(join (= s.v t.k) (keep s.v (keep s.v (keep s.v (keep s.v (keep s.v (keep s.v s.w (in s))))))) (keep t.k (keep t.k (keep t.k (keep t.k (keep t.k (in t)))))))"
    ∷ "(line 1 (join (= s.v t.k) (keep s.v (keep s.v (keep s.v (keep s.v (keep s.v (in s)))))) (keep t.k (keep t.k (keep t.k (keep t.k (keep t.k (in t))))))))" says refusal 3
    ∷ []))
unfolding scripts_compute
forms = refl

-- 8 brackets open at once; that of `ask` or `line` is not counted
pub depths : Holds
    (plenty ++ ("(ask (keep s.v (keep s.v (keep s.v (keep s.v (keep s.v (keep s.v (keep s.v (in s)))))))))" says cells (pos 1 ∷ pos 1 ∷ pos 0 ∷ pos 2 ∷ pos 1 ∷ pos 0 ∷ pos 7 ∷ [])
    ∷ "(ask (keep s.v (keep s.v (keep s.v (keep s.v (keep s.v (keep s.v (keep s.v (keep s.v (in s))))))))))" says refusal 3
    ∷ "(ask (pick (not (not (not (not (not (not (= s.v 7))))))) (in s)))" says cells (pos 1 ∷ pos 1 ∷ pos 0 ∷ pos 3 ∷ pos 1 ∷ pos 0 ∷ pos 7 ∷ pos 1 ∷ [])
    ∷ "(ask (pick (not (not (not (not (not (not (not (= s.v 8)))))))) (in s)))" says refusal 3
    ∷ "(ask (pick (and (or (and (or (and (or (= s.v 7))))))) (in s)))" says cells (pos 1 ∷ pos 1 ∷ pos 0 ∷ pos 3 ∷ pos 1 ∷ pos 0 ∷ pos 7 ∷ pos 1 ∷ [])
    ∷ "(ask (pick (and (or (and (or (and (or (and (= s.v 7)))))))) (in s)))" says refusal 3
    ∷ "(line 1 (keep s.v (keep s.v (keep s.v (keep s.v (keep s.v (keep s.v (keep s.v (in s)))))))))" says writes "(keep s.v (keep s.v (keep s.v (keep s.v (keep s.v (keep s.v (keep s.v (keep s.v s.w (in s)))))))))"
    ∷ "(line 1 (keep s.v (keep s.v (keep s.v (keep s.v (keep s.v (keep s.v (keep s.v (keep s.v (in s))))))))))" says refusal 3
    ∷ "(line 1 (pick (not (not (not (not (not (not (= s.v 7))))))) (in s)))" says writes "(pick (not (not (not (not (not (not (= s.v 7))))))) (keep s.v s.w (in s)))"
    ∷ "(line 1 (pick (not (not (not (not (not (not (not (= s.v 7)))))))) (in s)))" says refusal 3
    ∷ "(grant b read (of s) (show *) (when (not (not (not (not (not (= s.v 7))))))))" says quiet
    ∷ "(grant b read (of s) (show *) (when (not (not (not (not (not (not (= s.v 7)))))))))" says refusal 3
    ∷ "(grant b read (of s) (show *) (when (= s.v 1) (or (= s.v 2) (and (or (and (or (= s.v 7))))))))" says quiet
    ∷ []))
unfolding scripts_compute
depths = refl

-- 512 bytes
pub long_lines : Holds
    (plenty ++ ("(ask (pick (or (= s.v 700000000) (= s.v 7) (= s.v 7) (= s.v 7) (= s.v 7) (= s.v 7) (= s.v 7) (= s.v 7) (= s.v 7) (= s.v 7) (= s.v 7) (= s.v 7) (= s.v 7) (= s.v 7) (= s.v 7) (= s.v 7) (= s.v 7) (= s.v 7) (= s.v 7) (= s.v 7) (= s.v 7) (= s.v 7) (= s.v 7) (= s.v 7) (= s.v 7) (= s.v 7) (= s.v 7) (= s.v 7) (= s.v 7) (= s.v 7) (= s.v 7) (= s.v 7) (= s.v 7) (= s.v 7) (= s.v 7) (= s.v 7) (= s.v 7) (= s.v 7) (= s.v 7) (= s.v 7) (= s.v 7) (= s.v 7) (= s.v 7) (= s.v 7) (= s.v 7) (= s.v 7) (= s.v 7) (= s.v 7)) (in s)))" says cells (pos 1 ∷ pos 1 ∷ pos 0 ∷ pos 3 ∷ pos 1 ∷ pos 0 ∷ pos 7 ∷ pos 1 ∷ [])
    ∷ "(ask (pick (or (= s.v 700000000) (= s.v 70) (= s.v 7) (= s.v 7) (= s.v 7) (= s.v 7) (= s.v 7) (= s.v 7) (= s.v 7) (= s.v 7) (= s.v 7) (= s.v 7) (= s.v 7) (= s.v 7) (= s.v 7) (= s.v 7) (= s.v 7) (= s.v 7) (= s.v 7) (= s.v 7) (= s.v 7) (= s.v 7) (= s.v 7) (= s.v 7) (= s.v 7) (= s.v 7) (= s.v 7) (= s.v 7) (= s.v 7) (= s.v 7) (= s.v 7) (= s.v 7) (= s.v 7) (= s.v 7) (= s.v 7) (= s.v 7) (= s.v 7) (= s.v 7) (= s.v 7) (= s.v 7) (= s.v 7) (= s.v 7) (= s.v 7) (= s.v 7) (= s.v 7) (= s.v 7) (= s.v 7) (= s.v 7)) (in s)))" says refusal 3
    ∷ []))
unfolding scripts_compute
long_lines = refl

-- 16, for `ask` and for `line`
pub routes : Holds
    (("(stream a x)" says quiet
    ∷ "(stream b y)" says quiet
    ∷ [])
    ++ (replicate 4 ("(grant r read (of a) (show *))" says quiet)
    ++ (replicate 4 ("(grant r read (of b) (show *))" says quiet)
    ++ ("(caller (roles r))" says quiet
    ∷ "(ask (join (= a.x b.y) (in a) (in b)))" says cells (pos 16 ∷ pos 1 ∷ pos 5 ∷ pos 3 ∷ pos 0 ∷ pos 1 ∷ pos 6 ∷ pos 3 ∷ pos 0 ∷ pos 1 ∷ pos 7 ∷ pos 3 ∷ pos 0 ∷ pos 1 ∷ pos 8 ∷ pos 3 ∷ pos 0 ∷ pos 2 ∷ pos 5 ∷ pos 3 ∷ pos 0 ∷ pos 2 ∷ pos 6 ∷ pos 3 ∷ pos 0 ∷ pos 2 ∷ pos 7 ∷ pos 3 ∷ pos 0 ∷ pos 2 ∷ pos 8 ∷ pos 3 ∷ pos 0 ∷ pos 3 ∷ pos 5 ∷ pos 3 ∷ pos 0 ∷ pos 3 ∷ pos 6 ∷ pos 3 ∷ pos 0 ∷ pos 3 ∷ pos 7 ∷ pos 3 ∷ pos 0 ∷ pos 3 ∷ pos 8 ∷ pos 3 ∷ pos 0 ∷ pos 4 ∷ pos 5 ∷ pos 3 ∷ pos 0 ∷ pos 4 ∷ pos 6 ∷ pos 3 ∷ pos 0 ∷ pos 4 ∷ pos 7 ∷ pos 3 ∷ pos 0 ∷ pos 4 ∷ pos 8 ∷ pos 3 ∷ pos 0 ∷ [])
    ∷ "(line 16 (join (= a.x b.y) (in a) (in b)))" says writes "(join (= a.x b.y) (keep a.x (in a)) (keep b.y (in b)))"
    ∷ "(line 17 (join (= a.x b.y) (in a) (in b)))" says refusal 9
    ∷ "(grant r read (of a b) (show *) (when (= b.y a.x)))" says quiet
    ∷ "(ask (join (= a.x b.y) (in a) (in b)))" says refusal 10
    ∷ "(line 1 (join (= a.x b.y) (in a) (in b)))" says refusal 10
    ∷ "(line 17 (join (= a.x b.y) (in a) (in b)))" says refusal 10
    ∷ "(line 18 (join (= a.x b.y) (in a) (in b)))" says refusal 9
    ∷ "(line 0 (join (= a.x b.y) (in a) (in b)))" says refusal 9
    ∷ "(ask (in a))" says cells (pos 4 ∷ pos 1 ∷ pos 0 ∷ pos 2 ∷ pos 0 ∷ pos 2 ∷ pos 0 ∷ pos 2 ∷ pos 0 ∷ pos 3 ∷ pos 0 ∷ pos 2 ∷ pos 0 ∷ pos 4 ∷ pos 0 ∷ pos 2 ∷ pos 0 ∷ [])
    ∷ []))))
unfolding scripts_compute
routes = refl

-- ---- streams and columns that exist (2), and names listed twice (6)

pub declared : Holds
    (plenty ++ ("(stream t k)" says quiet
    ∷ "(row u 1)" says refusal 2
    ∷ "(grant b read (of u) (show *))" says refusal 2
    ∷ "(grant b read (of s u) (show *))" says refusal 2
    ∷ "(grant b read (of s) (show s.x))" says refusal 2
    ∷ "(grant b read (of s) (show u.v))" says refusal 2
    ∷ "(grant b read (of s) (show s.v s.k))" says refusal 2
    ∷ "(grant b read (of s) (show *) (when (= s.x 1)))" says refusal 2
    ∷ "(grant b read (of s) (show *) (when (= s.v s.x)))" says refusal 2
    ∷ "(grant b read (of s) (show *) (when (= s.v 1) (not (= u.v 1))))" says refusal 2
    ∷ "(ask (in u))" says refusal 2
    ∷ "(ask (keep s.x (in s)))" says refusal 2
    ∷ "(ask (keep s.v s.k (in s)))" says refusal 2
    ∷ "(ask (keep u.v (in s)))" says refusal 2
    ∷ "(ask (pick (= s.x 1) (in s)))" says refusal 2
    ∷ "(ask (pick (= s.v s.x) (in s)))" says refusal 2
    ∷ "(ask (pick (or (= s.v 1) (= u.v 1)) (in s)))" says refusal 2
    ∷ "(ask (sum s.x 1 1 (in s)))" says refusal 2
    ∷ "(ask (join (= s.x t.k) (in s) (in t)))" says refusal 2
    ∷ "(ask (join (= s.v t.x) (in s) (in t)))" says refusal 2
    ∷ "(ask (join (= s.v t.k) (in s) (in u)))" says refusal 2
    ∷ "(ask (join (= s.v t.k) (in u) (in t)))" says refusal 2
    ∷ "(ask (join (= s.v t.k) (in s) (keep t.x (in t))))" says refusal 2
    ∷ "(ask (in t))" says refusal 9
    ∷ "(line 1 (in u))" says refusal 2
    ∷ "(line 1 (keep s.x (in s)))" says refusal 2
    ∷ []))
unfolding scripts_compute
declared = refl

pub listed_twice : Holds
    (plenty ++ ("(stream s x)" says refusal 6
    ∷ "(stream t x x)" says refusal 6
    ∷ "(stream t x y x)" says refusal 6
    ∷ "(stream t x y)" says quiet
    ∷ "(grant b read (of s s) (show *))" says refusal 6
    ∷ "(grant b read (of s) (show s.v s.v))" says refusal 6
    ∷ "(grant b read (of s) (show s.v s.w s.v))" says refusal 6
    ∷ "(grant b read (of s) (show s.v s.w))" says quiet
    ∷ "(grant b read (of s t) (show s.v t.x t.x))" says refusal 6
    ∷ "(caller (roles b b))" says refusal 6
    ∷ "(caller (roles b c b))" says refusal 6
    ∷ "(caller (roles b) (self n 1) (self n 1))" says refusal 6
    ∷ "(caller (roles b) (self n 1) (self m 1) (self n 2))" says refusal 6
    ∷ "(ask (keep s.v s.v (in s)))" says refusal 6
    ∷ "(ask (keep s.v s.w s.v (in s)))" says refusal 6
    ∷ "(ask (keep s.v (keep s.w s.v s.w (in s))))" says refusal 6
    ∷ "(ask (join (= s.v t.x) (in s) (keep t.x t.x (in t))))" says refusal 6
    ∷ "(ask (join (= s.v t.x) (keep s.v s.v (in s)) (in t)))" says refusal 6
    ∷ "(ask (sum s.v 1 1 (keep s.v s.v (in s))))" says refusal 6
    ∷ "(ask (keep s.v s.w (in s)))" says cells (pos 1 ∷ pos 1 ∷ pos 0 ∷ pos 3 ∷ pos 1 ∷ pos 0 ∷ pos 7 ∷ pos 1 ∷ [])
    ∷ "(line 1 (keep s.v s.v (in s)))" says refusal 6
    ∷ []))
unfolding scripts_compute
listed_twice = refl

-- ---- what is not allowed where it stands (4)

pub misplaced : Holds
    (plenty ++ ("(stream t k)" says quiet
    ∷ "(stream u k)" says quiet
    ∷ "(row s 1)" says refusal 4
    ∷ "(row s 1 2 3)" says refusal 4
    ∷ "(row t 1 2)" says refusal 4
    ∷ "(grant b read (of s) (show t.k))" says refusal 4
    ∷ "(grant b read (of s) (show s.v t.k))" says refusal 4
    ∷ "(grant b read (of s) (show time))" says refusal 4
    ∷ "(grant b read (of s) (show figure))" says refusal 4
    ∷ "(grant b read (of s) (show self.v))" says refusal 4
    ∷ "(grant b read (of s) (show *) (when (= t.k 1)))" says refusal 4
    ∷ "(grant b read (of s) (show *) (when (= s.v t.k)))" says refusal 4
    ∷ "(grant b read (of s t) (show *) (when (= u.k 1)))" says refusal 4
    ∷ "(grant b read (of s) (show *) (from 5) (to 4))" says refusal 4
    ∷ "(grant b read (of s) (show *) (from 5) (to 5))" says quiet
    ∷ "(grant b read (of s) (show *) (window 1 1))" says refusal 4
    ∷ "(grant b read (of s) (show *) (window 0 0))" says refusal 4
    ∷ "(grant b sum (of s) (show *) (from 5) (to 4))" says refusal 4
    ∷ "(ask (keep t.k (in s)))" says refusal 4
    ∷ "(ask (keep time (in s)))" says refusal 4
    ∷ "(ask (keep figure (in s)))" says refusal 4
    ∷ "(ask (keep self.v (in s)))" says refusal 4
    ∷ "(ask (keep s.v s.w (keep s.v (in s))))" says refusal 4
    ∷ "(ask (pick (= t.k 1) (in s)))" says refusal 4
    ∷ "(ask (pick (= s.v t.k) (in s)))" says refusal 4
    ∷ "(ask (pick (= s.w 1) (keep s.v (in s))))" says refusal 4
    ∷ "(ask (pick (= s.w 1) (pick (= s.v 1) (keep s.v (in s)))))" says refusal 4
    ∷ "(ask (join (= s.v s.v) (in s) (in s)))" says refusal 4
    ∷ "(ask (join (= s.v s.w) (in s) (in t)))" says refusal 4
    ∷ "(ask (join (= t.k t.k) (in s) (in t)))" says refusal 4
    ∷ "(ask (join (= s.v u.k) (in s) (in t)))" says refusal 4
    ∷ "(ask (join (= time t.k) (in s) (in t)))" says refusal 4
    ∷ "(ask (join (= s.v self.k) (in s) (in t)))" says refusal 4
    ∷ "(ask (join (= s.w t.k) (keep s.v (in s)) (in t)))" says refusal 4
    ∷ "(ask (join (= s.v t.k) (in s) (join (= t.k u.k) (in t) (in u))))" says refusal 4
    ∷ "(ask (join (= s.v t.k) (join (= s.v u.k) (in s) (in u)) (in t)))" says refusal 4
    ∷ "(ask (keep s.v (join (= s.v t.k) (in s) (pick (= s.w 1) (in t)))))" says refusal 4
    ∷ "(ask (pick (= s.w 1) (join (= s.v t.k) (keep s.v (in s)) (in t))))" says refusal 4
    ∷ "(ask (sum s.w 1 1 (keep s.v (in s))))" says refusal 4
    ∷ "(ask (sum t.k 1 1 (in s)))" says refusal 4
    ∷ "(line 1 (keep t.k (in s)))" says refusal 4
    ∷ []))
unfolding scripts_compute
misplaced = refl
