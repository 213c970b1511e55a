-- The bytes that a script prints, from its texts: examples C, B, D and A, and the line of A's route.
use mathlib.Core.Path.{◌≡◌, refl}
use mathlib.Core.List.{List, [], ◌∷◌, ◌++◌}
use lib.IntN.{pos}
use lib.ListN.{replicate}
use Rattle.syntax.specs.Grammar.{Bytes, bytes}
use Rattle.calls.specs.Scripts.{script, scripts_compute}
use Rattle.report.specs.Outcomes.{put_outcomes, outcomes_compute}

abbrev lines : List Bytes
lines =
    bytes "(stream test lot unit volts)"
    ∷ bytes "(clock 10)" ∷ bytes "(row test 7 1 30)"
    ∷ bytes "(clock 20)" ∷ bytes "(row test 7 2 -5)" ∷ bytes "(row test 8 3 40)"
    ∷ bytes "(grant fitter read (of test) (show test.unit test.volts) (when (= test.lot self.lot)))"
    ∷ bytes "(grant seller avg (of test) (show test.volts) (window 60 60))"
    ∷ bytes "(clock 59)" ∷ bytes "(caller (roles seller))" ∷ bytes "(ask (avg test.volts 60 60 (in test)))"
    ∷ bytes "(clock 60)" ∷ bytes "(ask (avg test.volts 60 60 (in test)))" ∷ bytes "(ask (avg test.volts 59 60 (in test)))"
    ∷ bytes "(caller (roles fitter) (self lot 7))" ∷ bytes "(ask (in test))" ∷ bytes "(line 1 (in test))"
    ∷ []

-- each with a line feed after it
abbrev ended : List Bytes → Bytes
ended [] = []
ended (l ∷ ls) = l ++ (10 ∷ ended ls)

abbrev printed : List Bytes
printed =
    bytes "routes 1" ∷ bytes "route 2 0 2 0"
    ∷ bytes "routes 1" ∷ bytes "route 2 0 2 1" ∷ bytes "60 21"
    ∷ bytes "refused 9"
    ∷ bytes "routes 1" ∷ bytes "route 1 0 3 2" ∷ bytes "10 1 30" ∷ bytes "20 2 -5"
    ∷ bytes "(keep test.unit test.volts (pick (and (= test.lot 7)) (in test)))"
    ∷ []

pub sample : put_outcomes (script (replicate 20 (pos 0)) (replicate 100 0) lines) [] ≡ ended printed
unfolding scripts_compute outcomes_compute
sample = refl
