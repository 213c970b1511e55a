-- What is gathered from a query, by computation: each form of it counts, and both sides of a join.
use mathlib.Core.Path.{◌≡◌, refl}
use mathlib.Core.List.{List, [], ◌∷◌, map}
use mathlib.Core.Bool.{Bool, true, false}
use Prim.Native.Nat.{ℕ}
use lib.IntN.{pos}
use Rattle.syntax.specs.Grammar.{eq, sum, Cond, test, all, any, neg, last, more}
use Rattle.model.specs.Conditions.{tests, conditions_compute}
use Rattle.model.specs.Queries.{Col, col, figure, Term, column, time, number, self, Compare, Query, source, pick, keep, join, aggregate, sources, picks, header, forms, queries_compute}
use Rattle.model.specs.Checks.{cond_cols, timed, no_aggregate, side, sized, keeps, checks_compute}
use Rattle.model.specs.Routes.{equated, bare, routes_compute}
use Rattle.model.specs.Alike.{span_bounded, spans_bounded, alike_computes}

abbrev of : ℕ → Compare
of n = record { op = eq; left = column (col 0 n); right = number (pos n) }

abbrev marked : ℕ → Cond Compare
marked n = test (of n)

-- every form, with picks and keeps above, between and below
abbrev below : Query ℕ → Query ℕ → Query ℕ
below l r = pick (marked 2) (keep (col 0 0 ∷ col 1 0 ∷ []) (join (col 0 0) (col 1 0) l r))

abbrev left_side : Query ℕ
left_side = keep (col 0 0 ∷ []) (pick (marked 3) (source 5))

abbrev right_side : Query ℕ
right_side = pick (marked 4) (keep (col 1 0 ∷ col 1 1 ∷ []) (source 6))

abbrev joined : Query ℕ
joined = below left_side right_side

abbrev whole : Query ℕ
whole = pick (marked 1) (aggregate sum (col 0 0) 7 3 joined)

sources_sample : sources whole ≡ 5 ∷ 6 ∷ []
unfolding queries_compute
sources_sample = refl

picks_sample : picks whole ≡ marked 1 ∷ marked 2 ∷ marked 3 ∷ marked 4 ∷ []
unfolding queries_compute
picks_sample = refl

forms_sample : map forms (whole ∷ joined ∷ left_side ∷ source 0 ∷ []) ≡ 11 ∷ 9 ∷ 3 ∷ 1 ∷ []
unfolding queries_compute
forms_sample = refl

abbrev two_columns : ℕ → List Col
two_columns s = col s 0 ∷ col s 1 ∷ []

headers_sample : map (header two_columns) (whole ∷ joined ∷ join (col 0 0) (col 1 0) left_side right_side ∷ join (col 5 0) (col 6 0) (source 5) (pick (marked 1) (source 6)) ∷ [])
    ≡ (figure ∷ []) ∷ (col 0 0 ∷ col 1 0 ∷ []) ∷ (col 0 0 ∷ col 1 0 ∷ col 1 1 ∷ []) ∷ (col 5 0 ∷ col 5 1 ∷ col 6 0 ∷ col 6 1 ∷ []) ∷ []
unfolding queries_compute
headers_sample = refl

bare_sample : map bare (whole ∷ left_side ∷ []) ≡ join (col 0 0) (col 1 0) (source 5) (source 6) ∷ source 5 ∷ []
unfolding routes_compute
bare_sample = refl

-- ---- conditions

abbrev nested : Cond Compare
nested = neg (all (more (marked 1) (more (any (more (marked 2) (last (neg (marked 3))))) (last (marked 4)))))

tests_sample : tests nested ≡ of 1 ∷ of 2 ∷ of 3 ∷ of 4 ∷ []
unfolding conditions_compute
tests_sample = refl

abbrev comparing : Term → Term → Cond Compare
comparing a b = neg (any (more (marked 1) (last (test (record { op = eq; left = a; right = b })))))

cols_sample : map cond_cols (nested ∷ comparing (column (col 3 0)) (column (col 4 0)) ∷ comparing time (self []) ∷ comparing (self []) (column figure) ∷ [])
    ≡ (col 0 1 ∷ col 0 2 ∷ col 0 3 ∷ col 0 4 ∷ []) ∷ (col 0 1 ∷ col 3 0 ∷ col 4 0 ∷ []) ∷ (col 0 1 ∷ []) ∷ (col 0 1 ∷ figure ∷ []) ∷ []
unfolding checks_compute
cols_sample = refl

timed_sample : map timed (nested ∷ comparing time (number (pos 1)) ∷ comparing (column (col 0 0)) time ∷ comparing (column (col 0 0)) (self []) ∷ []) ≡ false ∷ true ∷ true ∷ false ∷ []
unfolding checks_compute
timed_sample = refl

-- ---- tests of forms, with one that fails at each place

abbrev windowed : ℕ → ℕ → Query ℕ → Query ℕ
windowed size offset q = aggregate sum (col 0 0) size offset q

-- a query in the place of each part of a query
abbrev around : Query ℕ → List (Query ℕ)
around q = q ∷ pick (marked 1) q ∷ keep (col 0 0 ∷ []) q ∷ windowed 1 1 q ∷ join (col 0 0) (col 1 0) q (source 6) ∷ join (col 0 0) (col 1 0) (source 5) q ∷ []

no_aggregate_sample : map no_aggregate (around (windowed 1 1 (source 5))) ≡ false ∷ false ∷ false ∷ false ∷ false ∷ false ∷ []
unfolding checks_compute
no_aggregate_sample = refl

no_aggregate_holds : map no_aggregate (joined ∷ left_side ∷ right_side ∷ []) ≡ true ∷ true ∷ true ∷ []
unfolding checks_compute
no_aggregate_holds = refl

sides_sample : map side (left_side ∷ right_side ∷ joined ∷ pick (marked 1) (windowed 1 1 (source 5)) ∷ keep (col 0 0 ∷ []) (join (col 0 0) (col 1 0) left_side right_side) ∷ []) ≡ true ∷ true ∷ false ∷ false ∷ false ∷ []
unfolding checks_compute
sides_sample = refl

sized_sample : map sized (around (windowed 0 1 (source 5))) ≡ false ∷ false ∷ false ∷ false ∷ false ∷ false ∷ []
unfolding checks_compute
sized_sample = refl

sized_holds : map sized (around (windowed 64 1 (source 5))) ≡ true ∷ true ∷ true ∷ true ∷ true ∷ true ∷ []
unfolding checks_compute
sized_holds = refl

abbrev single : List Col → Bool
single [] = false
single (c ∷ []) = true
single (c ∷ (d ∷ cs)) = false

keeps_sample : map (keeps single) (around (keep (col 0 0 ∷ col 0 1 ∷ []) (source 5))) ≡ false ∷ false ∷ false ∷ false ∷ false ∷ false ∷ []
unfolding checks_compute
keeps_sample = refl

keeps_holds : map (keeps single) (around (keep (col 0 1 ∷ []) (source 5))) ≡ true ∷ true ∷ true ∷ true ∷ true ∷ true ∷ []
unfolding checks_compute
keeps_holds = refl

equated_sample : map (equated (marked 1 ∷ test (record { op = eq; left = column (col 6 0); right = column (col 5 0) }) ∷ []))
    (source 0 ∷ left_side ∷ joined ∷ whole ∷ join (col 5 0) (col 6 0) (source 5) (source 6) ∷ join (col 6 0) (col 5 0) (source 5) (source 6) ∷ join (col 6 0) (col 5 1) (source 5) (source 6) ∷ []) ≡ true ∷ true ∷ false ∷ false ∷ true ∷ true ∷ false ∷ []
unfolding routes_compute
equated_sample = refl

-- SIZE and OFFSET that can be written
span_sample : span_bounded 2147483647 2147483647 ∷ span_bounded 2147483648 1 ∷ span_bounded 1 2147483648 ∷ [] ≡ true ∷ false ∷ false ∷ []
unfolding alike_computes
span_sample = refl

spans_sample : map spans_bounded (around (windowed 2147483648 1 (source 5))) ≡ false ∷ false ∷ false ∷ false ∷ false ∷ false ∷ []
unfolding alike_computes
spans_sample = refl

spans_hold : map spans_bounded (around (windowed 2147483647 1 (source 5))) ≡ true ∷ true ∷ true ∷ true ∷ true ∷ true ∷ []
unfolding alike_computes
spans_hold = refl
