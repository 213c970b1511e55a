-- A fault is found at any depth of a query: below a pick, a keep, an aggregate and on both sides of a join.
use mathlib.Core.Path.{refl}
use mathlib.Core.List.{List, [], ◌∷◌, ◌++◌}
use Rattle.calls.specs.Scripts.{quiet, refusal, scripts_compute}
use Rattle.samples.proofs.Transcripts.{Said, each, Holds}

abbrev two : List Said
two =
    each quiet
    ("(stream s v w)"
    ∷ "(stream t k)"
    ∷ "(row s 7 1)"
    ∷ "(grant a read (of s) (show *))"
    ∷ "(grant a read (of t) (show *))"
    ∷ "(caller (roles a))"
    ∷ [])

-- names of more than 8 bytes (3)
pub long_names : Holds
    (two ++ (each (refusal 3)
    ("(ask (pick (= s.v 1) (in abcdefghi)))"
    ∷ "(ask (keep s.v (in abcdefghi)))"
    ∷ "(ask (sum s.v 1 1 (in abcdefghi)))"
    ∷ "(ask (join (= s.v t.k) (in abcdefghi) (in t)))"
    ∷ "(ask (join (= s.v t.k) (in s) (in abcdefghi)))"
    ∷ "(ask (pick (= s.v 1) (keep s.abcdefghi (in s))))"
    ∷ "(ask (keep s.v (keep s.abcdefghi (in s))))"
    ∷ "(ask (sum s.v 1 1 (keep s.abcdefghi (in s))))"
    ∷ "(ask (join (= s.v t.k) (keep s.abcdefghi (in s)) (in t)))"
    ∷ "(ask (join (= s.v t.k) (in s) (keep t.abcdefghi (in t))))"
    ∷ [])))
unfolding scripts_compute
long_names = refl

-- of a condition, and SIZE and OFFSET (3)
pub numbers_out_of_range : Holds
    (two ++ (each (refusal 3)
    ("(ask (pick (= s.v 1) (pick (= s.v 2147483648) (in s))))"
    ∷ "(ask (keep s.v (pick (= s.v 2147483648) (in s))))"
    ∷ "(ask (sum s.v 1 1 (pick (= s.v 2147483648) (in s))))"
    ∷ "(ask (join (= s.v t.k) (pick (= s.v 2147483648) (in s)) (in t)))"
    ∷ "(ask (join (= s.v t.k) (in s) (pick (= t.k 2147483648) (in t))))"
    ∷ "(ask (pick (= figure 1) (sum s.v 2147483648 1 (in s))))"
    ∷ "(ask (keep s.v (sum s.v 1 2147483648 (in s))))"
    ∷ "(ask (sum s.v 1 1 (sum s.v 2147483648 1 (in s))))"
    ∷ "(ask (join (= s.v t.k) (sum s.v 1 2147483648 (in s)) (in t)))"
    ∷ "(ask (join (= s.v t.k) (in s) (sum t.k 2147483648 1 (in t))))"
    ∷ [])))
unfolding scripts_compute
numbers_out_of_range = refl

-- streams and columns (2)
pub undeclared_names : Holds
    (two ++ (each (refusal 2)
    ("(ask (pick (= s.v 1) (in u)))"
    ∷ "(ask (keep s.v (in u)))"
    ∷ "(ask (sum s.v 1 1 (in u)))"
    ∷ "(ask (join (= s.v t.k) (in u) (in t)))"
    ∷ "(ask (join (= s.v t.k) (in s) (in u)))"
    ∷ "(ask (pick (= s.v 1) (keep s.x (in s))))"
    ∷ "(ask (keep s.v (pick (= s.x 1) (in s))))"
    ∷ "(ask (sum s.v 1 1 (pick (= s.x 1) (in s))))"
    ∷ "(ask (join (= s.v t.k) (pick (= s.x 1) (in s)) (in t)))"
    ∷ "(ask (join (= s.v t.k) (in s) (pick (= t.x 1) (in t))))"
    ∷ [])))
unfolding scripts_compute
undeclared_names = refl

-- columns of a keep (6)
pub names_twice : Holds
    (two ++ (each (refusal 6)
    ("(ask (pick (= s.v 1) (keep s.v s.v (in s))))"
    ∷ "(ask (keep s.v (keep s.v s.v (in s))))"
    ∷ "(ask (sum s.v 1 1 (keep s.v s.v (in s))))"
    ∷ "(ask (join (= s.v t.k) (keep s.v s.v (in s)) (in t)))"
    ∷ "(ask (join (= s.v t.k) (in s) (keep t.k t.k (in t))))"
    ∷ [])))
unfolding scripts_compute
names_twice = refl

-- columns that are not there, terms that may not stand there, forms that may not (4)
pub misplaced_terms : Holds
    (two ++ (each (refusal 4)
    ("(ask (pick (= s.v 1) (keep time (in s))))"
    ∷ "(ask (keep s.v (keep time (in s))))"
    ∷ "(ask (keep s.v (pick (= s.v time) (in s))))"
    ∷ "(ask (sum s.v 1 1 (pick (= s.v time) (in s))))"
    ∷ "(ask (join (= s.v t.k) (pick (= s.v time) (in s)) (in t)))"
    ∷ "(ask (join (= s.v t.k) (in s) (pick (= t.k time) (in t))))"
    ∷ "(ask (join (= s.v t.k) (in s) (pick (= s.v 1) (in t))))"
    ∷ "(ask (join (= s.v t.k) (in s) (keep s.v (in t))))"
    ∷ "(ask (pick (= s.v 1) (join (= s.v t.k) (in s) (keep time (in t)))))"
    ∷ "(ask (keep s.v (pick (= figure 1) (sum s.v 1 1 (in s)))))"
    ∷ "(ask (keep s.v (sum s.v 1 1 (in s))))"
    ∷ "(ask (sum s.v 1 1 (pick (= figure 1) (sum s.v 1 1 (in s)))))"
    ∷ "(ask (join (= s.v t.k) (pick (= figure 1) (sum s.v 1 1 (in s))) (in t)))"
    ∷ "(ask (join (= s.v t.k) (in s) (pick (= figure 1) (sum t.k 1 1 (in t)))))"
    ∷ "(ask (join (= s.v t.k) (keep s.v (sum s.v 1 1 (in s))) (in t)))"
    ∷ "(ask (join (= s.v t.k) (pick (= s.v 1) (in s)) (keep s.v (in s))))"
    ∷ "(ask (sum s.v 1 1 (keep s.v (join (= s.v s.w) (in s) (in s)))))"
    ∷ "(ask (pick (= s.v 1) (join (= s.v s.w) (in s) (in s))))"
    ∷ [])))
unfolding scripts_compute
misplaced_terms = refl

-- below a pick (5)
pub unsized_windows : Holds
    (two ++ (each (refusal 5)
    ("(ask (pick (> figure 0) (sum s.v 0 1 (in s))))"
    ∷ "(ask (pick (> figure 0) (pick (> time 0) (sum s.v 1 0 (in s)))))"
    ∷ "(ask (sum s.v 65 1 (join (= s.v t.k) (in s) (in t))))"
    ∷ [])))
unfolding scripts_compute
unsized_windows = refl
