-- Texts that read back, by computation.
use mathlib.Core.Path.{◌≡◌, refl}
use mathlib.Core.List.{List, [], ◌∷◌, map}
use mathlib.Core.Option.{Option, some}
use Rattle.syntax.specs.Grammar.{Bytes, bytes, min, max, count, avg, sum, read, figures, fn_number, numbered_fn, right_number, numbered_right, line_text}
use Rattle.syntax.specs.Limits.{max_streams, max_columns, max_rows, max_grants, max_granted, max_forms, max_rewritten, max_depth, max_line, max_printed, max_name, max_roles, max_entries, max_routes, max_overlap, top}
use Rattle.syntax.specs.Readers.{parse_line, bind, readers_compute}

back : Bytes → Option Bytes
back bs = bind (parse_line bs) (λ l. some (line_text l.verb l.body))

samples : List Bytes
samples =
    bytes "(stream test lot unit volts)"
    ∷ bytes "(grant fitter read (of test) (show test.unit test.volts) (when (= test.lot self.lot)))"
    ∷ bytes "(grant seller avg (of test) (show test.volts) (window 60 60))"
    ∷ bytes "(grant a max (of b c) (show *) (when (and (= a.b -7) (not (or (< a.c 2147483648)))) (>= a.b self.x)) (from 10) (to 200) (window 1 0))"
    ∷ bytes "(clock 10)" ∷ bytes "(row test 7 1 -30)" ∷ bytes "(clear)" ∷ bytes "(caller (roles))" ∷ bytes "(caller (roles a b) (self lot 7) (self x -1))"
    ∷ bytes "(ask (pick (< figure 3) (avg test.volts 60 60 (join (= a.b c.d) (keep a.b (in a)) (in c)))))"
    ∷ bytes "(line 1 (in test))"
    ∷ []

samples_back : map back samples ≡ map some samples
unfolding readers_compute back samples
samples_back = refl

-- the numbers of the aggregates and of the rights, and back
numbers : map fn_number (min ∷ max ∷ count ∷ avg ∷ sum ∷ []) ≡ 1 ∷ 2 ∷ 3 ∷ 4 ∷ 5 ∷ []
unfolding readers_compute
numbers = refl

numbers_back : map numbered_fn (1 ∷ 2 ∷ 3 ∷ 4 ∷ 5 ∷ 0 ∷ 6 ∷ []) ≡ min ∷ max ∷ count ∷ avg ∷ sum ∷ sum ∷ sum ∷ []
unfolding readers_compute
numbers_back = refl

rights_numbered : map right_number (read ∷ figures min ∷ figures max ∷ figures count ∷ figures avg ∷ figures sum ∷ []) ≡ 0 ∷ 1 ∷ 2 ∷ 3 ∷ 4 ∷ 5 ∷ []
unfolding readers_compute
rights_numbered = refl

rights_back : map numbered_right (0 ∷ 1 ∷ 2 ∷ 3 ∷ 4 ∷ 5 ∷ []) ≡ read ∷ figures min ∷ figures max ∷ figures count ∷ figures avg ∷ figures sum ∷ []
unfolding readers_compute
rights_back = refl

-- the bounds: streams, columns, rows, grants, streams of a grant, forms and rewritten forms, brackets, bytes of a line, of a rewritten line and of a name, roles, entries, routes, offsets of a window, and the highest number
limits : max_streams ∷ max_columns ∷ max_rows ∷ max_grants ∷ max_granted ∷ max_forms ∷ max_rewritten ∷ max_depth ∷ max_line ∷ max_printed ∷ max_name ∷ max_roles ∷ max_entries ∷ max_routes ∷ max_overlap ∷ top ∷ []
    ≡ 4 ∷ 6 ∷ 128 ∷ 24 ∷ 2 ∷ 12 ∷ 16 ∷ 8 ∷ 512 ∷ 4096 ∷ 8 ∷ 4 ∷ 4 ∷ 16 ∷ 64 ∷ 2147483647 ∷ []
limits = refl
