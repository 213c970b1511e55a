-- The forms of lines, each with neighbours that are not of them (1).
use mathlib.Core.Path.{refl}
use mathlib.Core.List.{List, [], ◌∷◌, ◌++◌}
use lib.IntN.{pos, negsuc}
use Rattle.calls.specs.Scripts.{quiet, refusal, cells, scripts_compute}
use Rattle.samples.proofs.Transcripts.{Said, ◌says◌, each, writes, Holds}

-- ---- verbs

-- a name, and one column or more
pub stream_forms : Holds
    ("(stream a x)" says quiet
    ∷ "(stream b x y)" says quiet
    ∷ "(stream c)" says refusal 1
    ∷ "(stream)" says refusal 1
    ∷ "(stream c x.y)" says refusal 1
    ∷ "(stream c (x))" says refusal 1
    ∷ "(stream c x )" says refusal 1
    ∷ "(stream  c x)" says refusal 1
    ∷ "(stream c  x)" says refusal 1
    ∷ " (stream c x)" says refusal 1
    ∷ "(stream c x) " says refusal 1
    ∷ "( stream c x)" says refusal 1
    ∷ "(stream c x" says refusal 1
    ∷ "stream c x)" says refusal 1
    ∷ "(stream c x))" says refusal 1
    ∷ "((stream c x))" says refusal 1
    ∷ "(streams c x)" says refusal 1
    ∷ "(Stream c x)" says refusal 1
    ∷ "(strea c x)" says refusal 1
    ∷ "c" says refusal 1
    ∷ "()" says refusal 1
    ∷ "(stream c x)(clear)" says refusal 1
    ∷ "(stream c x) (clear)" says refusal 1
    ∷ "(stream c 1)" says refusal 1
    ∷ "(stream c -1)" says refusal 1
    ∷ "(stream c *)" says refusal 1
    ∷ "(stream c x)" says quiet
    ∷ "(stream c y)" says refusal 6
    ∷ [])
unfolding scripts_compute
stream_forms = refl

-- lower-case letters and digits, a letter first
pub names : Holds
    ("(stream a0z9 za09)" says quiet
    ∷ "(stream b 0a)" says refusal 1
    ∷ "(stream 9 x)" says refusal 1
    ∷ "(stream B x)" says refusal 1
    ∷ "(stream bA x)" says refusal 1
    ∷ "(stream b x_y)" says refusal 1
    ∷ "(stream b x-y)" says refusal 1
    ∷ "(stream b x/)" says refusal 1
    ∷ "(stream b x:)" says refusal 1
    ∷ "(stream b x`)" says refusal 1
    ∷ "(stream b x{)" says refusal 1
    ∷ "(stream b {)" says refusal 1
    ∷ "(stream b `)" says refusal 1
    ∷ "(stream azbycx09 m)" says quiet
    ∷ [])
unfolding scripts_compute
names = refl

-- one number: an optional minus and digits with no needless zero
pub clock_forms : Holds
    ("(clock 0)" says quiet
    ∷ "(clock)" says refusal 1
    ∷ "(clock 1 2)" says refusal 1
    ∷ "(clock x)" says refusal 1
    ∷ "(clock 01)" says refusal 1
    ∷ "(clock 00)" says refusal 1
    ∷ "(clock -0)" says refusal 1
    ∷ "(clock +1)" says refusal 1
    ∷ "(clock -)" says refusal 1
    ∷ "(clock --1)" says refusal 1
    ∷ "(clock 1-)" says refusal 1
    ∷ "(clock 1x)" says refusal 1
    ∷ "(clock 1.0)" says refusal 1
    ∷ "(clock  1)" says refusal 1
    ∷ "(clock 1 )" says refusal 1
    ∷ "(clock (1))" says refusal 1
    ∷ "(clock -01)" says refusal 1
    ∷ "(clock -1)" says refusal 3
    ∷ "(clock 10)" says quiet
    ∷ "(clock 9)" says refusal 7
    ∷ "(clock 20)" says quiet
    ∷ "(clock 19)" says refusal 7
    ∷ "(clock 100)" says quiet
    ∷ [])
unfolding scripts_compute
clock_forms = refl

-- a stream and one number or more
pub row_forms : Holds
    ("(stream s a b)" says quiet
    ∷ "(row s 1 -2)" says quiet
    ∷ "(row s)" says refusal 1
    ∷ "(row)" says refusal 1
    ∷ "(row s 1 x)" says refusal 1
    ∷ "(row s 1 -0)" says refusal 1
    ∷ "(row s 1 02)" says refusal 1
    ∷ "(row s 1 (2))" says refusal 1
    ∷ "(row s.a 1 2)" says refusal 1
    ∷ "(row 1 2)" says refusal 1
    ∷ "(row s 1  2)" says refusal 1
    ∷ "(row s 1)" says refusal 4
    ∷ "(row s 1 2 3)" says refusal 4
    ∷ "(row t 1 2)" says refusal 2
    ∷ "(grant a read (of s) (show *))" says quiet
    ∷ "(caller (roles a))" says quiet
    ∷ "(ask (in s))" says cells (pos 1 ∷ pos 1 ∷ pos 0 ∷ pos 3 ∷ pos 1 ∷ pos 0 ∷ pos 1 ∷ negsuc 1 ∷ [])
    ∷ [])
unfolding scripts_compute
row_forms = refl

pub clear_forms : Holds
    ("(clear)" says quiet
    ∷ "(clear )" says refusal 1
    ∷ "(clear 1)" says refusal 1
    ∷ "(clear (clear))" says refusal 1
    ∷ "clear" says refusal 1
    ∷ [])
unfolding scripts_compute
clear_forms = refl

-- roles, which may be none, then entries, which may be none
pub caller_forms : Holds
    ("(caller (roles))" says quiet
    ∷ "(caller (roles a))" says quiet
    ∷ "(caller (roles a b))" says quiet
    ∷ "(caller (roles) (self n 1))" says quiet
    ∷ "(caller (roles a) (self n -1) (self m 2))" says quiet
    ∷ "(caller)" says refusal 1
    ∷ "(caller a)" says refusal 1
    ∷ "(caller (roles a)(self n 1))" says refusal 1
    ∷ "(caller (roles a) (self n))" says refusal 1
    ∷ "(caller (roles a) (self n 1 2))" says refusal 1
    ∷ "(caller (roles a) (self 1 n))" says refusal 1
    ∷ "(caller (roles a) (self n m))" says refusal 1
    ∷ "(caller (roles a) (roles b))" says refusal 1
    ∷ "(caller (self n 1) (roles a))" says refusal 1
    ∷ "(caller (self n 1))" says refusal 1
    ∷ "(caller (roles 1))" says refusal 1
    ∷ "(caller (roles (a)))" says refusal 1
    ∷ "(caller (role a))" says refusal 1
    ∷ "(caller (roles ) (self n 1))" says refusal 1
    ∷ "(caller (roles a) n 1)" says refusal 1
    ∷ "(caller (roles a) (n 1))" says refusal 1
    ∷ [])
unfolding scripts_compute
caller_forms = refl

-- ---- grants

abbrev stream_s : List Said
stream_s =
    each quiet
    ("(stream s v w)"
    ∷ [])

-- role, right, `of`, `show`, then `when`, `from`, `to` and `window`, each of which may be absent
pub grant_forms : Holds
    (stream_s ++ ("(grant a read (of s) (show *))" says quiet
    ∷ "(grant a read (of s) (show s.v))" says quiet
    ∷ "(grant a read (of s) (show s.v s.w))" says quiet
    ∷ "(grant a read (of s) (show *) (when (= s.v 1)))" says quiet
    ∷ "(grant a read (of s) (show *) (when (= s.v 1) (= s.w 2)))" says quiet
    ∷ "(grant a read (of s) (show *) (from 1))" says quiet
    ∷ "(grant a read (of s) (show *) (to 1))" says quiet
    ∷ "(grant a read (of s) (show *) (from 1) (to 2))" says quiet
    ∷ "(grant a sum (of s) (show *) (window 1 2))" says quiet
    ∷ "(grant a sum (of s) (show *) (when (= s.v 1)) (from 1) (to 2) (window 1 2))" says quiet
    ∷ "(grant a min (of s) (show *))" says quiet
    ∷ "(grant a max (of s) (show *))" says quiet
    ∷ "(grant a count (of s) (show *))" says quiet
    ∷ "(grant a avg (of s) (show *))" says quiet
    ∷ "(grant a sum (of s) (show *))" says quiet
    ∷ "(grant read read (of s) (show *))" says quiet
    ∷ []))
unfolding scripts_compute
grant_forms = refl

pub no_grant_forms : Holds
    (stream_s ++ (each (refusal 1)
    ("(grant)"
    ∷ "(grant a)"
    ∷ "(grant a read)"
    ∷ "(grant a read (of s))"
    ∷ "(grant a read (show *))"
    ∷ "(grant a read (show *) (of s))"
    ∷ "(grant a (of s) (show *))"
    ∷ "(grant read (of s) (show *))"
    ∷ "(grant a b read (of s) (show *))"
    ∷ "(grant a write (of s) (show *))"
    ∷ "(grant a in (of s) (show *))"
    ∷ "(grant a reads (of s) (show *))"
    ∷ "(grant (a) read (of s) (show *))"
    ∷ "(grant a read (of) (show *))"
    ∷ "(grant a read (of *) (show *))"
    ∷ "(grant a read (of s.v) (show *))"
    ∷ "(grant a read (of s) (show))"
    ∷ "(grant a read (of s) (show s))"
    ∷ "(grant a read (of s) (show 1))"
    ∷ "(grant a read (of s) (show * s.v))"
    ∷ "(grant a read (of s) (show s.v *))"
    ∷ "(grant a read (of s) (show * *))"
    ∷ "(grant a read (of s) (show **))"
    ∷ "(grant a read (of s) (show *) (when))"
    ∷ "(grant a read (of s) (show *) (when s.v))"
    ∷ "(grant a read (of s) (show *) (when *))"
    ∷ "(grant a read (of s) (show *) (from))"
    ∷ "(grant a read (of s) (show *) (from 1 2))"
    ∷ "(grant a read (of s) (show *) (from s.v))"
    ∷ "(grant a read (of s) (show *) (from 01))"
    ∷ "(grant a read (of s) (show *) (to))"
    ∷ "(grant a read (of s) (show *) (to 1 2))"
    ∷ "(grant a read (of s) (show *) (to -0))"
    ∷ "(grant a sum (of s) (show *) (window))"
    ∷ "(grant a sum (of s) (show *) (window 1))"
    ∷ "(grant a sum (of s) (show *) (window 1 2 3))"
    ∷ "(grant a sum (of s) (show *) (window 1 x))"
    ∷ "(grant a sum (of s) (show *) (window 01 2))"
    ∷ "(grant a read (of s) (show *) (to 2) (from 1))"
    ∷ "(grant a read (of s) (show *) (from 1) (when (= s.v 1)))"
    ∷ "(grant a read (of s) (show *) (to 1) (when (= s.v 1)))"
    ∷ "(grant a sum (of s) (show *) (window 1 2) (from 1))"
    ∷ "(grant a sum (of s) (show *) (window 1 2) (to 1))"
    ∷ "(grant a sum (of s) (show *) (window 1 2) (when (= s.v 1)))"
    ∷ "(grant a read (of s) (show *) (from 1) (from 1))"
    ∷ "(grant a read (of s) (show *) (to 1) (to 1))"
    ∷ "(grant a read (of s) (show *) (when (= s.v 1)) (when (= s.v 1)))"
    ∷ "(grant a sum (of s) (show *) (window 1 2) (window 1 2))"
    ∷ "(grant a read (of s) (show *) (until 1))"
    ∷ "(grant a read (of s) (show *) 1)"
    ∷ "(grant a read (of s)  (show *))"
    ∷ "(grant a read (of s)(show *))"
    ∷ [])))
unfolding scripts_compute
no_grant_forms = refl

-- ---- queries

abbrev readable : List Said
readable =
    each quiet
    ("(stream s v w)"
    ∷ "(stream t k)"
    ∷ "(row s 7 -8)"
    ∷ "(row t 7)"
    ∷ "(grant a read (of s) (show *))"
    ∷ "(grant a read (of t) (show *))"
    ∷ "(caller (roles a))"
    ∷ "(clock 1)"
    ∷ [])

pub query_forms : Holds
    (readable ++ ("(ask (in s))" says cells (pos 1 ∷ pos 1 ∷ pos 0 ∷ pos 3 ∷ pos 1 ∷ pos 0 ∷ pos 7 ∷ negsuc 7 ∷ [])
    ∷ "(ask (in t))" says cells (pos 1 ∷ pos 2 ∷ pos 0 ∷ pos 2 ∷ pos 1 ∷ pos 0 ∷ pos 7 ∷ [])
    ∷ "(ask (pick (= s.v 7) (in s)))" says cells (pos 1 ∷ pos 1 ∷ pos 0 ∷ pos 3 ∷ pos 1 ∷ pos 0 ∷ pos 7 ∷ negsuc 7 ∷ [])
    ∷ "(ask (keep s.w (in s)))" says cells (pos 1 ∷ pos 1 ∷ pos 0 ∷ pos 2 ∷ pos 1 ∷ pos 0 ∷ negsuc 7 ∷ [])
    ∷ "(ask (keep s.w s.v (in s)))" says cells (pos 1 ∷ pos 1 ∷ pos 0 ∷ pos 3 ∷ pos 1 ∷ pos 0 ∷ negsuc 7 ∷ pos 7 ∷ [])
    ∷ "(ask (join (= s.v t.k) (in s) (in t)))" says cells (pos 1 ∷ pos 1 ∷ pos 2 ∷ pos 4 ∷ pos 1 ∷ pos 0 ∷ pos 7 ∷ negsuc 7 ∷ pos 7 ∷ [])
    ∷ "(ask (join (= t.k s.v) (in s) (in t)))" says cells (pos 1 ∷ pos 1 ∷ pos 2 ∷ pos 4 ∷ pos 1 ∷ pos 0 ∷ pos 7 ∷ negsuc 7 ∷ pos 7 ∷ [])
    ∷ "(ask (join (= s.v t.k) (in t) (in s)))" says cells (pos 1 ∷ pos 2 ∷ pos 1 ∷ pos 4 ∷ pos 1 ∷ pos 0 ∷ pos 7 ∷ pos 7 ∷ negsuc 7 ∷ [])
    ∷ "(ask (min s.w 1 1 (in s)))" says cells (pos 1 ∷ pos 1 ∷ pos 0 ∷ pos 2 ∷ pos 1 ∷ pos 1 ∷ negsuc 7 ∷ [])
    ∷ "(ask (max s.w 1 1 (in s)))" says cells (pos 1 ∷ pos 1 ∷ pos 0 ∷ pos 2 ∷ pos 1 ∷ pos 1 ∷ negsuc 7 ∷ [])
    ∷ "(ask (count s.w 1 1 (in s)))" says cells (pos 1 ∷ pos 1 ∷ pos 0 ∷ pos 2 ∷ pos 1 ∷ pos 1 ∷ pos 1 ∷ [])
    ∷ "(ask (avg s.w 1 1 (in s)))" says cells (pos 1 ∷ pos 1 ∷ pos 0 ∷ pos 2 ∷ pos 1 ∷ pos 1 ∷ negsuc 7 ∷ [])
    ∷ "(ask (sum s.w 1 1 (in s)))" says cells (pos 1 ∷ pos 1 ∷ pos 0 ∷ pos 2 ∷ pos 1 ∷ pos 1 ∷ negsuc 7 ∷ [])
    ∷ "(line 1 (in s))" says writes "(keep s.v s.w (in s))"
    ∷ "(line 1 (keep s.w (in s)))" says writes "(keep s.w (keep s.v s.w (in s)))"
    ∷ "(line 1 (pick (= s.v 7) (in s)))" says writes "(pick (= s.v 7) (keep s.v s.w (in s)))"
    ∷ "(line 1 (join (= s.v t.k) (in s) (in t)))" says writes "(join (= s.v t.k) (keep s.v s.w (in s)) (keep t.k (in t)))"
    ∷ "(line 1 (min s.w 1 2 (in s)))" says writes "(min s.w 1 2 (keep s.v s.w (in s)))"
    ∷ "(line 1 (max s.w 1 2 (in s)))" says writes "(max s.w 1 2 (keep s.v s.w (in s)))"
    ∷ "(line 1 (count s.w 1 2 (in s)))" says writes "(count s.w 1 2 (keep s.v s.w (in s)))"
    ∷ "(line 1 (avg s.w 1 2 (in s)))" says writes "(avg s.w 1 2 (keep s.v s.w (in s)))"
    ∷ "(line 1 (sum s.w 1 2 (in s)))" says writes "(sum s.w 1 2 (keep s.v s.w (in s)))"
    ∷ []))
unfolding scripts_compute
query_forms = refl

pub no_query_forms : Holds
    (readable ++ (each (refusal 1)
    ("(ask)"
    ∷ "(ask s)"
    ∷ "(ask in s)"
    ∷ "(ask ())"
    ∷ "(ask (in))"
    ∷ "(ask (in s t))"
    ∷ "(ask (in s.v))"
    ∷ "(ask (in (in s)))"
    ∷ "(ask (in 1))"
    ∷ "(ask (in s) (in t))"
    ∷ "(ask 1 (in s))"
    ∷ "(ask (pick (in s)))"
    ∷ "(ask (pick (= s.v 7)))"
    ∷ "(ask (pick (in s) (= s.v 7)))"
    ∷ "(ask (pick (= s.v 7) (= s.w 7) (in s)))"
    ∷ "(ask (pick s.v (in s)))"
    ∷ "(ask (pick (= s.v 7) (in s) (in s)))"
    ∷ "(ask (pick (= s.v 7) s))"
    ∷ "(ask (keep (in s)))"
    ∷ "(ask (keep s.v))"
    ∷ "(ask (keep * (in s)))"
    ∷ "(ask (keep s (in s)))"
    ∷ "(ask (keep (in s) s.v))"
    ∷ "(ask (keep s.v (in s) (in s)))"
    ∷ "(ask (keep 1 (in s)))"
    ∷ "(ask (join (in s) (in t)))"
    ∷ "(ask (join (= s.v t.k) (in s)))"
    ∷ "(ask (join (= s.v t.k) (in s) (in t) (in t)))"
    ∷ "(ask (join (/= s.v t.k) (in s) (in t)))"
    ∷ "(ask (join (<= s.v t.k) (in s) (in t)))"
    ∷ "(ask (join (= s.v 7) (in s) (in t)))"
    ∷ "(ask (join (and (= s.v t.k)) (in s) (in t)))"
    ∷ "(ask (join (= s.v t.k t.k) (in s) (in t)))"
    ∷ "(ask (join = s.v t.k (in s) (in t)))"
    ∷ "(ask (sum s.v 1 (in s)))"
    ∷ "(ask (sum s.v 1 1))"
    ∷ "(ask (sum 1 1 (in s)))"
    ∷ "(ask (sum s.v 1 1 1 (in s)))"
    ∷ "(ask (sum * 1 1 (in s)))"
    ∷ "(ask (sum s.v s.v 1 (in s)))"
    ∷ "(ask (sum s.v 01 1 (in s)))"
    ∷ "(ask (sum s.v 1 -0 (in s)))"
    ∷ "(ask (sum s.v 1 1 (in s) (in s)))"
    ∷ "(ask (read s.v 1 1 (in s)))"
    ∷ "(ask (median s.v 1 1 (in s)))"
    ∷ "(ask (grant s))"
    ∷ "(ask (and (in s)))"
    ∷ "(ask (show s))"
    ∷ "(line)"
    ∷ "(line 1)"
    ∷ "(line (in s))"
    ∷ "(line x (in s))"
    ∷ "(line 01 (in s))"
    ∷ "(line 1 2 (in s))"
    ∷ "(line 1 (in s) (in s))"
    ∷ "(line 1 s)"
    ∷ [])))
unfolding scripts_compute
no_query_forms = refl

pub condition_forms : Holds
    (readable ++ (each (cells (pos 1 ∷ pos 1 ∷ pos 0 ∷ pos 3 ∷ pos 1 ∷ pos 0 ∷ pos 7 ∷ negsuc 7 ∷ []))
    ("(ask (pick (= s.v 7) (in s)))"
    ∷ "(ask (pick (and (= s.v 7)) (in s)))"
    ∷ "(ask (pick (or (= s.v 7)) (in s)))"
    ∷ "(ask (pick (not (= s.v 8)) (in s)))"
    ∷ "(ask (pick (and (= s.v 7) (= s.w -8) (= time 0)) (in s)))"
    ∷ "(ask (pick (or (and (= s.v 7) (not (= s.v 7))) (or (= s.w 0) (= s.w -8))) (in s)))"
    ∷ [])))
unfolding scripts_compute
condition_forms = refl

pub no_condition_forms : Holds
    (readable ++ (each (refusal 1)
    ("(ask (pick (== s.v 7) (in s)))"
    ∷ "(ask (pick (!= s.v 7) (in s)))"
    ∷ "(ask (pick (=< s.v 7) (in s)))"
    ∷ "(ask (pick (=> s.v 7) (in s)))"
    ∷ "(ask (pick (= 7 s.v) (in s)))"
    ∷ "(ask (pick (= 7 7) (in s)))"
    ∷ "(ask (pick (= s.v) (in s)))"
    ∷ "(ask (pick (= s.v 7 7) (in s)))"
    ∷ "(ask (pick (= s.v v) (in s)))"
    ∷ "(ask (pick (= v 7) (in s)))"
    ∷ "(ask (pick (= s 7) (in s)))"
    ∷ "(ask (pick (= self 7) (in s)))"
    ∷ "(ask (pick (= s.v self) (in s)))"
    ∷ "(ask (pick (= s.v.w 7) (in s)))"
    ∷ "(ask (pick (= s. 7) (in s)))"
    ∷ "(ask (pick (= .v 7) (in s)))"
    ∷ "(ask (pick (= s.v *) (in s)))"
    ∷ "(ask (pick (= s.v (in s)) (in s)))"
    ∷ "(ask (pick (= s.v -0) (in s)))"
    ∷ "(ask (pick (= s.v 07) (in s)))"
    ∷ "(ask (pick (= s.v +7) (in s)))"
    ∷ "(ask (pick (and) (in s)))"
    ∷ "(ask (pick (or) (in s)))"
    ∷ "(ask (pick (not) (in s)))"
    ∷ "(ask (pick (not (= s.v 7) (= s.v 7)) (in s)))"
    ∷ "(ask (pick (and s.v) (in s)))"
    ∷ "(ask (pick (or 7) (in s)))"
    ∷ "(ask (pick (not s.v) (in s)))"
    ∷ "(ask (pick () (in s)))"
    ∷ "(ask (pick ((= s.v 7)) (in s)))"
    ∷ "(ask (pick (xor (= s.v 7)) (in s)))"
    ∷ "(ask (pick (= timer 7) (in s)))"
    ∷ "(ask (pick (= figures 7) (in s)))"
    ∷ [])))
unfolding scripts_compute
no_condition_forms = refl
