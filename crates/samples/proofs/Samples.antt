-- Every bound at its edge and one past it; refused calls, clear, joins by each kind of route, and their lines: each from its texts, as one table with one theorem.
use mathlib.Core.Path.{◌≡◌, refl}
use mathlib.Core.List.{List, [], ◌∷◌, ◌++◌, map}
use Prim.Native.Nat.{ℕ, zero, suc}
use lib.IntN.{ℤ, pos, negsuc}
use lib.ListN.{replicate}
use Rattle.syntax.specs.Grammar.{Bytes, bytes}
use Rattle.calls.specs.Scripts.{Outcome, quiet, refusal, cells, text, script, scripts_compute}

-- a script, and what each of its last lines prints
pub record Sample : Type 0 where
  pub before : List Bytes
  pub lines : List Bytes
  pub printed : List Outcome

unfoldable pub skip : {A B : Type 0} → List A → List B → List B
skip [] ys = ys
skip (x ∷ xs) [] = []
skip (x ∷ xs) (y ∷ ys) = skip xs ys

unfoldable pub given : Sample → List Outcome
given s = skip s.before (script (replicate 300 (pos 0)) (replicate 400 0) (s.before ++ s.lines))

-- ---- texts made of parts

abbrev times : ℕ → Bytes → Bytes
times zero w = []
times (suc n) w = w ++ times n w

abbrev lines : ℕ → Bytes → List Bytes
lines zero l = []
lines (suc n) l = l ∷ lines n l

abbrev nots : ℕ → Bytes → Bytes
nots n c = times n (bytes "(not ") ++ (c ++ times n (bytes ")"))

abbrev keeps : ℕ → Bytes → Bytes → Bytes
keeps n c q = times n (bytes "(keep " ++ (c ++ bytes " ")) ++ (q ++ times n (bytes ")"))

-- ---- one stream, a reader of all of it

abbrev one : List Bytes
one = bytes "(stream s v)" ∷ bytes "(row s 7)" ∷ bytes "(grant all read (of s) (show *))" ∷ bytes "(caller (roles all))" ∷ []

abbrev seven : Outcome
seven = cells (pos 1 ∷ pos 1 ∷ pos 0 ∷ pos 2 ∷ pos 1 ∷ pos 0 ∷ pos 7 ∷ [])

-- ---- two streams that join, with grants of every kind

abbrev two : List Bytes
two =
    bytes "(stream a k v)" ∷ bytes "(stream b k w)"
    ∷ bytes "(row a 1 10)" ∷ bytes "(row b 1 -7)" ∷ bytes "(clock 3)" ∷ bytes "(row a 2 20)" ∷ bytes "(row b 2 8)" ∷ bytes "(clock 5)" ∷ bytes "(row b 1 -8)" ∷ bytes "(clock 10)"
    ∷ bytes "(grant x read (of a) (show a.k a.v))"
    ∷ bytes "(grant x read (of b) (show *) (when (< b.w 0)))"
    ∷ bytes "(grant x read (of a b) (show a.v b.w) (when (= b.k a.k) (/= b.w self.w)) (from 1) (to 4))"
    ∷ bytes "(grant x avg (of a b) (show b.w) (when (= a.k b.k)))"
    ∷ bytes "(caller (roles x) (self w 9))"
    ∷ []

abbrev table : List Sample
table =
    -- bounds
    record { before = one; lines = bytes "(ask (in s))" ∷ []; printed = seven ∷ [] }
    ∷ record { before = []; lines = replicate 512 120 ∷ replicate 513 120 ∷ []; printed = refusal 1 ∷ refusal 3 ∷ [] }
    ∷ record {
      before = one;
      lines = (bytes "(ask (pick " ++ (nots 6 (bytes "(= s.v 7)") ++ bytes " (in s)))")) ∷ (bytes "(ask (pick " ++ (nots 7 (bytes "(= s.v 7)") ++ bytes " (in s)))")) ∷ (bytes "(ask (pick " ++ (nots 80 (bytes "(= s.v 7)") ++ bytes " (in s)))"))
          ∷ (bytes "(ask (pick " ++ (nots 80 (bytes "(= s.v 7)") ++ bytes " (in s))"))
          ∷ (bytes "(grant all read (of s) (show *) (when " ++ (nots 5 (bytes "(= s.v 7)") ++ bytes "))")) ∷ (bytes "(grant all read (of s) (show *) (when " ++ (nots 6 (bytes "(= s.v 7)") ++ bytes "))")) ∷ [];
      printed = seven ∷ refusal 3 ∷ refusal 3 ∷ refusal 1 ∷ quiet ∷ refusal 3 ∷ [];
    }
    ∷ record {
      before = bytes "(stream s v)" ∷ bytes "(stream t v)" ∷ [];
      lines = (bytes "(ask (join (= s.v t.v) " ++ (keeps 5 (bytes "s.v") (bytes "(in s)") ++ (bytes " " ++ (keeps 4 (bytes "t.v") (bytes "(in t)") ++ bytes "))"))))
          ∷ (bytes "(ask (join (= s.v t.v) " ++ (keeps 5 (bytes "s.v") (bytes "(in s)") ++ (bytes " " ++ (keeps 5 (bytes "t.v") (bytes "(in t)") ++ bytes "))")))) ∷ [];
      printed = refusal 9 ∷ refusal 3 ∷ [];
    }
    ∷ record {
      before = [];
      lines = bytes "(stream abcdefgh a b c d e f)" ∷ bytes "(stream t a b c d e f g)" ∷ bytes "(stream abcdefghi a)" ∷ bytes "(stream b x)" ∷ bytes "(stream c x)" ∷ bytes "(stream d x)" ∷ bytes "(stream e x)" ∷ bytes "(stream d x)" ∷ [];
      printed = quiet ∷ refusal 3 ∷ refusal 3 ∷ quiet ∷ quiet ∷ quiet ∷ refusal 3 ∷ refusal 3 ∷ [];
    }
    ∷ record {
      before = bytes "(stream s v)" ∷ lines 24 (bytes "(grant a read (of s) (show *))");
      lines = bytes "(grant a read (of s) (show *))" ∷ bytes "(caller (roles a b c d) (self a 1) (self b 2) (self c 3) (self d 4))" ∷ bytes "(caller (roles a b c d e))" ∷ bytes "(caller (roles) (self a 1) (self b 2) (self c 3) (self d 4) (self e 5))" ∷ bytes "(caller (roles a a))" ∷ bytes "(caller (roles a) (self a 1) (self a 2))" ∷ [];
      printed = refusal 3 ∷ quiet ∷ refusal 3 ∷ refusal 3 ∷ refusal 6 ∷ refusal 6 ∷ [];
    }
    ∷ record {
      before = bytes "(stream s v)" ∷ [];
      lines = bytes "(row s 2147483647)" ∷ bytes "(row s 2147483648)" ∷ bytes "(row s -2147483648)" ∷ bytes "(row s -2147483649)" ∷ bytes "(row s 1000000000000000000000000000000)" ∷ bytes "(row s -0)" ∷ bytes "(row s 07)" ∷ bytes "(row s  7)" ∷ bytes "(row s 7 8)" ∷ bytes "(row t 7 8)"
          ∷ bytes "(clock 2147483648)" ∷ bytes "(clock -1)" ∷ bytes "(clock 2147483647)" ∷ bytes "(clock 2147483646)" ∷ [];
      printed = quiet ∷ refusal 3 ∷ quiet ∷ refusal 3 ∷ refusal 3 ∷ refusal 1 ∷ refusal 1 ∷ refusal 1 ∷ refusal 4 ∷ refusal 2 ∷ refusal 3 ∷ refusal 3 ∷ quiet ∷ refusal 7 ∷ [];
    }
    ∷ record {
      before = one;
      lines = bytes "(ask (sum s.v 2147483648 1 (in s)))" ∷ bytes "(ask (sum s.v -5 1 (in s)))" ∷ bytes "(ask (sum s.v 0 0 (in s)))" ∷ bytes "(ask (pick (= s.v self.v) (in s)))" ∷ bytes "(ask (pick (= self.v 1) (in s)))" ∷ bytes "(ask (pick (= s.v time) (in s)))" ∷ bytes "(ask (keep time (in s)))" ∷ bytes "(ask (keep s.v s.v (in s)))"
          ∷ bytes "(ask (in time))" ∷ bytes "(ask (pick (= 1 s.v) (in s)))" ∷ bytes "(stream time x)" ∷ bytes "(grant a read (of s) (show *) (window 0 0))" ∷ bytes "(grant a read (of s) (show *) (from 5) (to 4))" ∷ bytes "(grant a read (of s s) (show *))" ∷ bytes "(line 0 (in s))" ∷ bytes "(line -1 (in s))" ∷ bytes "(line 1 (in s))" ∷ [];
      printed = refusal 3 ∷ refusal 5 ∷ refusal 5 ∷ refusal 4 ∷ refusal 4 ∷ refusal 4 ∷ refusal 4 ∷ refusal 6 ∷ refusal 2 ∷ refusal 1 ∷ refusal 4 ∷ refusal 4 ∷ refusal 4 ∷ refusal 6 ∷ refusal 9 ∷ refusal 9 ∷ text (bytes "(keep s.v (in s))") ∷ [];
    }
    -- a clear drops the rows and leaves the clock
    ∷ record {
      before = one;
      lines = bytes "(clock 4)" ∷ bytes "(clear)" ∷ bytes "(ask (in s))" ∷ bytes "(clock 3)" ∷ bytes "(row s 9)" ∷ bytes "(ask (in s))" ∷ [];
      printed = quiet ∷ quiet ∷ cells (pos 1 ∷ pos 1 ∷ pos 0 ∷ pos 2 ∷ pos 0 ∷ []) ∷ refusal 7 ∷ quiet ∷ cells (pos 1 ∷ pos 1 ∷ pos 0 ∷ pos 2 ∷ pos 1 ∷ pos 4 ∷ pos 9 ∷ []) ∷ [];
    }
    -- joined rows by kinds 1 and 2, and their lines
    ∷ record {
      before = two;
      lines = bytes "(ask (join (= a.k b.k) (in a) (in b)))" ∷ bytes "(line 1 (join (= a.k b.k) (in a) (in b)))" ∷ bytes "(line 2 (join (= a.k b.k) (pick (> a.v 5) (keep a.k a.v (in a))) (pick (< b.w 9) (in b))))"
          ∷ bytes "(ask (join (= a.k b.k) (pick (> time 0) (in a)) (in b)))" ∷ [];
      printed = cells (pos 2 ∷ pos 1 ∷ pos 2 ∷ pos 5 ∷ pos 2 ∷ pos 0 ∷ pos 1 ∷ pos 10 ∷ pos 1 ∷ negsuc 6 ∷ pos 5 ∷ pos 1 ∷ pos 10 ∷ pos 1 ∷ negsuc 7 ∷ pos 3 ∷ pos 0 ∷ pos 3 ∷ pos 1 ∷ pos 3 ∷ pos 20 ∷ pos 8 ∷ [])
          ∷ text (bytes "(join (= a.k b.k) (keep a.k a.v (in a)) (keep b.k b.w (pick (and (< b.w 0)) (in b))))")
          ∷ text (bytes "(keep a.v b.w (pick (< b.w 9) (pick (> a.v 5) (keep a.v b.w (pick (and (= b.k a.k) (/= b.w 9) (>= time 1) (<= time 4)) (join (= a.k b.k) (in a) (in b)))))))")
          ∷ cells (pos 1 ∷ pos 1 ∷ pos 2 ∷ pos 5 ∷ pos 0 ∷ []) ∷ [];
    }
    -- averages over them by kinds 1, 2 and 3
    ∷ record {
      before = two;
      lines = bytes "(ask (avg b.w 10 10 (join (= a.k b.k) (in a) (in b))))" ∷ bytes "(line 3 (avg b.w 10 10 (join (= a.k b.k) (in a) (keep b.k b.w (in b)))))" ∷ [];
      printed = cells (pos 3 ∷ pos 1 ∷ pos 2 ∷ pos 2 ∷ pos 1 ∷ pos 10 ∷ negsuc 6 ∷ pos 3 ∷ pos 0 ∷ pos 2 ∷ pos 1 ∷ pos 10 ∷ pos 8 ∷ pos 4 ∷ pos 0 ∷ pos 2 ∷ pos 1 ∷ pos 10 ∷ negsuc 1 ∷ [])
          ∷ text (bytes "(avg b.w 10 10 (keep b.w (keep b.w (pick (and (= a.k b.k)) (join (= a.k b.k) (in a) (in b))))))") ∷ [];
    }
    -- 16 routes are answered, 17 are not
    ∷ record {
      before = bytes "(stream a x)" ∷ bytes "(stream b y)" ∷ (lines 4 (bytes "(grant all read (of a) (show *))") ++ (lines 4 (bytes "(grant all read (of b) (show *))") ++ (bytes "(caller (roles all))" ∷ [])));
      lines = bytes "(ask (max b.y 1 1 (join (= a.x b.y) (in a) (in b))))" ∷ bytes "(grant all read (of a b) (show *) (when (= b.y a.x)))" ∷ bytes "(ask (max b.y 1 1 (join (= a.x b.y) (in a) (in b))))" ∷ [];
      printed = cells (pos 16 ∷ (route 1 5 (route 1 6 (route 1 7 (route 1 8 (route 2 5 (route 2 6 (route 2 7 (route 2 8 (route 3 5 (route 3 6 (route 3 7 (route 3 8 (route 4 5 (route 4 6 (route 4 7 (route 4 8 [])))))))))))))))))
          ∷ quiet ∷ refusal 10 ∷ [];
    }
    ∷ []
  where
    route : ℕ → ℕ → List ℤ → List ℤ
    route l r rest = pos l ∷ pos r ∷ pos 2 ∷ pos 0 ∷ rest

pub samples : map given table ≡ map (λ s. s.printed) table
unfolding scripts_compute skip given
samples = refl
