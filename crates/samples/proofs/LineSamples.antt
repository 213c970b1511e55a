-- The rewritten lines of routes, from texts.
use mathlib.Core.Path.{refl}
use mathlib.Core.List.{List, [], ◌∷◌, ◌++◌}
use lib.IntN.{pos}
use Rattle.calls.specs.Scripts.{quiet, refusal, cells, scripts_compute}
use Rattle.samples.proofs.Transcripts.{Said, ◌says◌, each, writes, Holds, HoldsWith}

abbrev streams : List Said
streams =
    each quiet
    ("(stream a k v x)"
    ∷ "(stream b k w)"
    ∷ [])

-- each `in` becomes the view: shown columns in stream order, conditions with entries put in, then the times
pub view_lines : Holds
    (streams ++ ("(grant r read (of a) (show a.x a.k))" says quiet
    ∷ "(grant r read (of a) (show *) (when (= a.v self.n)))" says quiet
    ∷ "(grant r read (of a) (show a.v) (when (or (< a.v self.m) (not (>= a.k -7))) (/= a.x a.k)))" says quiet
    ∷ "(grant r read (of a) (show a.v) (from 3))" says quiet
    ∷ "(grant r read (of a) (show a.v) (to 9))" says quiet
    ∷ "(grant r read (of a) (show a.v) (from 3) (to 9))" says quiet
    ∷ "(grant r read (of a) (show a.v) (when (and (> a.v 1) (<= a.v 5))) (from 3) (to 9))" says quiet
    ∷ "(caller (roles r) (self n 12) (self m -2147483648))" says quiet
    ∷ "(line 1 (in a))" says writes "(keep a.k a.x (in a))"
    ∷ "(line 2 (in a))" says writes "(keep a.k a.v a.x (pick (and (= a.v 12)) (in a)))"
    ∷ "(line 3 (in a))" says writes "(keep a.v (pick (and (or (< a.v -2147483648) (not (>= a.k -7))) (/= a.x a.k)) (in a)))"
    ∷ "(line 4 (in a))" says writes "(keep a.v (pick (and (>= time 3)) (in a)))"
    ∷ "(line 5 (in a))" says writes "(keep a.v (pick (and (<= time 9)) (in a)))"
    ∷ "(line 6 (in a))" says writes "(keep a.v (pick (and (>= time 3) (<= time 9)) (in a)))"
    ∷ "(line 7 (in a))" says writes "(keep a.v (pick (and (and (> a.v 1) (<= a.v 5)) (>= time 3) (<= time 9)) (in a)))"
    ∷ "(line 8 (in a))" says refusal 9
    ∷ "(line 0 (in a))" says refusal 9
    ∷ "(line -1 (in a))" says refusal 9
    ∷ "(line 2147483648 (in a))" says refusal 9
    ∷ "(line 1 (pick (> time 5) (keep a.x (in a))))" says writes "(pick (> time 5) (keep a.x (keep a.k a.x (in a))))"
    ∷ "(line 1 (pick (= a.x a.k) (in a)))" says writes "(pick (= a.x a.k) (keep a.k a.x (in a)))"
    ∷ "(line 1 (keep a.v a.x (in a)))" says writes "(keep a.x (keep a.k a.x (in a)))"
    ∷ "(line 2 (keep a.v a.x (keep a.x a.v (in a))))" says writes "(keep a.v a.x (keep a.x a.v (keep a.k a.v a.x (pick (and (= a.v 12)) (in a)))))"
    ∷ []))
unfolding scripts_compute
view_lines = refl

-- by a grant a side
pub join_lines : Holds
    (streams ++ ("(grant r read (of a) (show a.k a.v) (when (> a.x 1)))" says quiet
    ∷ "(grant r read (of b) (show *) (to 4))" says quiet
    ∷ "(caller (roles r))" says quiet
    ∷ "(line 1 (join (= b.k a.k) (in a) (in b)))" says writes "(join (= b.k a.k) (keep a.k a.v (pick (and (> a.x 1)) (in a))) (keep b.k b.w (pick (and (<= time 4)) (in b))))"
    ∷ "(line 1 (join (= a.k b.k) (in b) (in a)))" says writes "(join (= a.k b.k) (keep b.k b.w (pick (and (<= time 4)) (in b))) (keep a.k a.v (pick (and (> a.x 1)) (in a))))"
    ∷ "(line 1 (keep a.x b.w a.v (join (= a.k b.k) (keep a.k a.x (pick (= a.v 3) (in a))) (pick (< b.w 0) (in b)))))" says refusal 4
    ∷ "(line 1 (keep a.v b.w (join (= a.k b.k) (keep a.v a.x a.k (pick (= a.v 3) (in a))) (pick (< b.w 0) (in b)))))" says writes "(keep a.v b.w (join (= a.k b.k) (keep a.v a.k (pick (= a.v 3) (keep a.k a.v (pick (and (> a.x 1)) (in a))))) (pick (< b.w 0) (keep b.k b.w (pick (and (<= time 4)) (in b))))))"
    ∷ "(line 1 (pick (< time 3) (max b.w 5 6 (join (= a.k b.k) (in a) (in b)))))" says writes "(pick (< time 3) (max b.w 5 6 (join (= a.k b.k) (keep a.k a.v (pick (and (> a.x 1)) (in a))) (keep b.k b.w (pick (and (<= time 4)) (in b))))))"
    ∷ []))
unfolding scripts_compute
join_lines = refl

-- by a grant on the pair: its view over the join with the query's own equality; around it the left picks, inner first, then the right ones, then one keep of what the sides keep
pub pair_lines : Holds
    (streams ++ ("(grant r read (of a b) (show b.w a.v a.k) (when (= b.k a.k)))" says quiet
    ∷ "(grant r read (of a b) (show *) (when (> a.x self.n) (= a.k b.k)) (from 1) (to 2))" says quiet
    ∷ "(caller (roles r) (self n 0))" says quiet
    ∷ "(line 1 (join (= a.k b.k) (in a) (in b)))" says writes "(keep a.k a.v b.w (keep a.k a.v b.w (pick (and (= b.k a.k)) (join (= a.k b.k) (in a) (in b)))))"
    ∷ "(line 1 (join (= b.k a.k) (in a) (in b)))" says writes "(keep a.k a.v b.w (keep a.k a.v b.w (pick (and (= b.k a.k)) (join (= b.k a.k) (in a) (in b)))))"
    ∷ "(line 2 (join (= a.k b.k) (in a) (in b)))" says writes "(keep a.k a.v a.x b.k b.w (keep a.k a.v a.x b.k b.w (pick (and (> a.x 0) (= a.k b.k) (>= time 1) (<= time 2)) (join (= a.k b.k) (in a) (in b)))))"
    ∷ "(line 1 (join (= a.k b.k) (pick (= a.v 2) (pick (= a.v 1) (in a))) (pick (= b.w 4) (pick (= b.w 3) (in b)))))" says writes "(keep a.k a.v b.w (pick (= b.w 4) (pick (= b.w 3) (pick (= a.v 2) (pick (= a.v 1) (keep a.k a.v b.w (pick (and (= b.k a.k)) (join (= a.k b.k) (in a) (in b)))))))))"
    ∷ "(line 1 (join (= a.k b.k) (keep a.v a.k (pick (= a.v 2) (keep a.k a.v (pick (= a.v 1) (in a))))) (keep b.w b.k (in b))))" says writes "(keep a.v a.k b.w (pick (= a.v 2) (pick (= a.v 1) (keep a.k a.v b.w (pick (and (= b.k a.k)) (join (= a.k b.k) (in a) (in b)))))))"
    ∷ "(line 2 (join (= a.k b.k) (keep a.x a.k (in a)) (keep b.k (in b))))" says writes "(keep a.x a.k b.k (keep a.k a.v a.x b.k b.w (pick (and (> a.x 0) (= a.k b.k) (>= time 1) (<= time 2)) (join (= a.k b.k) (in a) (in b)))))"
    ∷ "(line 2 (keep b.k a.x (pick (= a.x 5) (join (= a.k b.k) (keep a.x a.k (in a)) (keep b.k (in b))))))" says refusal 9
    ∷ "(line 1 (keep b.w a.x (join (= a.k b.k) (in a) (in b))))" says writes "(keep b.w (keep a.k a.v b.w (keep a.k a.v b.w (pick (and (= b.k a.k)) (join (= a.k b.k) (in a) (in b))))))"
    ∷ "(line 2 (pick (> figure 1) (avg a.x 7 8 (join (= a.k b.k) (in a) (in b)))))" says refusal 9
    ∷ "(line 1 (avg a.v 7 8 (pick (= a.v 9) (join (= a.k b.k) (pick (= b.w 1) (in b)) (in a)))))" says refusal 9
    ∷ "(line 1 (avg a.v 7 8 (pick (= a.v 9) (join (= a.k b.k) (in a) (pick (= b.w 1) (in b))))))" says writes "(avg a.v 7 8 (pick (= a.v 9) (keep a.k a.v b.w (pick (= b.w 1) (keep a.k a.v b.w (pick (and (= b.k a.k)) (join (= a.k b.k) (in a) (in b))))))))"
    ∷ []))
unfolding scripts_compute
pair_lines = refl

-- by an aggregate grant: on one stream the query's keeps below the aggregate are left out
pub figure_lines : Holds
    (streams ++ ("(grant r count (of a) (show a.v a.x) (when (= a.k self.n)) (from 1) (to 6) (window 2 3))" says quiet
    ∷ "(grant r count (of a) (show *))" says quiet
    ∷ "(grant r count (of a b) (show a.v b.w) (when (= a.k b.k)) (to 6) (window 2 3))" says quiet
    ∷ "(caller (roles r) (self n 5))" says quiet
    ∷ "(line 1 (count a.v 4 5 (in a)))" says writes "(count a.v 4 5 (keep a.v a.x (pick (and (= a.k 5) (>= time 1) (<= time 6)) (in a))))"
    ∷ "(line 2 (count a.v 4 5 (in a)))" says writes "(count a.v 4 5 (keep a.k a.v a.x (in a)))"
    ∷ "(line 1 (count a.v 4 5 (keep a.v (in a))))" says writes "(count a.v 4 5 (keep a.v a.x (pick (and (= a.k 5) (>= time 1) (<= time 6)) (in a))))"
    ∷ "(line 1 (count a.v 4 5 (keep a.v a.k (keep a.x a.k a.v (in a)))))" says writes "(count a.v 4 5 (keep a.v a.x (pick (and (= a.k 5) (>= time 1) (<= time 6)) (in a))))"
    ∷ "(line 2 (pick (> figure 2) (pick (< time 50) (count a.x 4 5 (keep a.x (in a))))))" says writes "(pick (> figure 2) (pick (< time 50) (count a.x 4 5 (keep a.k a.v a.x (in a)))))"
    ∷ "(line 1 (count b.w 4 5 (join (= b.k a.k) (in a) (in b))))" says writes "(count b.w 4 5 (keep a.v b.w (keep a.v b.w (pick (and (= a.k b.k) (<= time 6)) (join (= b.k a.k) (in a) (in b))))))"
    ∷ "(line 1 (count b.w 4 5 (join (= b.k a.k) (keep a.k (in a)) (keep b.w b.k (in b)))))" says writes "(count b.w 4 5 (keep b.w (keep a.v b.w (pick (and (= a.k b.k) (<= time 6)) (join (= b.k a.k) (in a) (in b))))))"
    ∷ "(line 1 (pick (< time 50) (count a.v 4 5 (keep b.w a.v (join (= a.k b.k) (keep a.k a.v a.x (in a)) (in b))))))" says writes "(pick (< time 50) (count a.v 4 5 (keep b.w a.v (keep a.v b.w (keep a.v b.w (pick (and (= a.k b.k) (<= time 6)) (join (= a.k b.k) (in a) (in b))))))))"
    ∷ []))
unfolding scripts_compute
figure_lines = refl

-- each line, put as a query by one who may read all, gives what its route gave
pub answered_lines : Holds
    (streams ++ ("(clock 2)" says quiet
    ∷ "(row a 1 5 0)" says quiet
    ∷ "(row a 2 6 1)" says quiet
    ∷ "(row b 1 7)" says quiet
    ∷ "(clock 3)" says quiet
    ∷ "(row a 1 8 2)" says quiet
    ∷ "(row b 2 9)" says quiet
    ∷ "(clock 10)" says quiet
    ∷ "(grant r read (of a b) (show a.v b.w) (when (= a.k b.k) (> a.v self.n)) (from 3))" says quiet
    ∷ "(grant all read (of a) (show *))" says quiet
    ∷ "(grant all read (of b) (show *))" says quiet
    ∷ "(caller (roles r) (self n 5))" says quiet
    ∷ "(ask (join (= a.k b.k) (in a) (pick (< b.w 9) (in b))))" says cells (pos 1 ∷ pos 1 ∷ pos 0 ∷ pos 3 ∷ pos 1 ∷ pos 3 ∷ pos 8 ∷ pos 7 ∷ [])
    ∷ "(line 1 (join (= a.k b.k) (in a) (pick (< b.w 9) (in b))))" says writes "(keep a.v b.w (pick (< b.w 9) (keep a.v b.w (pick (and (= a.k b.k) (> a.v 5) (>= time 3)) (join (= a.k b.k) (in a) (in b))))))"
    ∷ "(caller (roles all))" says quiet
    ∷ "(ask (keep a.v b.w (pick (< b.w 9) (keep a.v b.w (pick (and (= a.k b.k) (> a.v 5) (>= time 3)) (join (= a.k b.k) (in a) (in b)))))))" says cells (pos 1 ∷ pos 2 ∷ pos 3 ∷ pos 3 ∷ pos 1 ∷ pos 3 ∷ pos 8 ∷ pos 7 ∷ [])
    ∷ []))
unfolding scripts_compute
answered_lines = refl

-- lent cells and bytes that just suffice, and one too few
pub room : HoldsWith 7 17
    ("(stream s v)" says quiet
    ∷ "(row s 5)" says quiet
    ∷ "(grant a read (of s) (show *))" says quiet
    ∷ "(caller (roles a))" says quiet
    ∷ "(ask (in s))" says cells (pos 1 ∷ pos 1 ∷ pos 0 ∷ pos 2 ∷ pos 1 ∷ pos 0 ∷ pos 5 ∷ [])
    ∷ "(line 1 (in s))" says writes "(keep s.v (in s))"
    ∷ "(row s 6)" says quiet
    ∷ "(ask (in s))" says refusal 11
    ∷ "(grant a read (of s) (show *))" says quiet
    ∷ "(ask (pick (= s.v 5) (in s)))" says refusal 11
    ∷ "(stream ab c)" says quiet
    ∷ "(grant a read (of ab) (show *))" says quiet
    ∷ "(line 1 (in ab))" says refusal 11
    ∷ "(ask (in ab))" says cells (pos 1 ∷ pos 3 ∷ pos 0 ∷ pos 2 ∷ pos 0 ∷ [])
    ∷ [])
unfolding scripts_compute
room = refl

pub room_for_longer_lines : HoldsWith 9 19
    ("(stream s v)" says quiet
    ∷ "(row s 5)" says quiet
    ∷ "(grant a read (of s) (show *))" says quiet
    ∷ "(caller (roles a))" says quiet
    ∷ "(ask (in s))" says cells (pos 1 ∷ pos 1 ∷ pos 0 ∷ pos 2 ∷ pos 1 ∷ pos 0 ∷ pos 5 ∷ [])
    ∷ "(row s 6)" says quiet
    ∷ "(ask (in s))" says cells (pos 1 ∷ pos 1 ∷ pos 0 ∷ pos 2 ∷ pos 2 ∷ pos 0 ∷ pos 5 ∷ pos 0 ∷ pos 6 ∷ [])
    ∷ "(stream ab c)" says quiet
    ∷ "(grant a read (of ab) (show *))" says quiet
    ∷ "(line 1 (in ab))" says writes "(keep ab.c (in ab))"
    ∷ "(stream abc c)" says quiet
    ∷ "(grant a read (of abc) (show *))" says quiet
    ∷ "(line 1 (in abc))" says refusal 11
    ∷ [])
unfolding scripts_compute
room_for_longer_lines = refl
