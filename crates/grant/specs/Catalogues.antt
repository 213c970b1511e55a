-- The catalogue that grants and the words of their conditions stand for, and whether it may be lent.
use Rattle.std.specs.Prelude.{List, [], ◌∷◌, Bool, true, ◌&&◌, ℕ, suc, ◌*◌, leb, length, take, drop}
use Rattle.syntax.specs.Limits.{max_grants}
use Rattle.model.specs.Queries as M
use Rattle.grant.specs.Grants.{grant_words, grant_of, grant_sound, grant_tidy}
use Rattle.grant.specs.declared.Grant.{Grant}

-- the words of all grants, and those of the grant in a place
abbrev pub catalogue_words : ℕ
catalogue_words = max_grants * grant_words

unfoldable pub words_in : List ℕ → ℕ → List ℕ
words_in ws i = take grant_words (drop (i * grant_words) ws)

-- the grants from a place on
unfoldable pub grants_from : List ℕ → List ℕ → ℕ → List Grant → List M.Grant
grants_from ns ws i [] = []
grants_from ns ws i (g ∷ gs) = grant_of ns g (words_in ws i) ∷ grants_from ns ws (suc i) gs

unfoldable pub catalogue_of : List ℕ → List Grant → List ℕ → List M.Grant
catalogue_of ns gs ws = grants_from ns ws 0 gs

unfoldable pub sound_from : List ℕ → List ℕ → ℕ → List Grant → Bool
sound_from ns ws i [] = true
sound_from ns ws i (g ∷ gs) = grant_sound ns g (words_in ws i) && sound_from ns ws (suc i) gs

-- refusal 12: at most 24 grants, each sound, and memory enough for all
unfoldable pub catalogue_sound : List ℕ → List Grant → List ℕ → Bool
catalogue_sound ns gs ws = leb (length gs) max_grants && leb catalogue_words (length ws) && sound_from ns ws 0 gs

-- the same by the grants that they stand for
unfoldable pub tidy_from : List ℕ → List ℕ → ℕ → List Grant → Bool
tidy_from ns ws i [] = true
tidy_from ns ws i (g ∷ gs) = grant_tidy ns g (words_in ws i) && tidy_from ns ws (suc i) gs

unfoldable pub catalogue_tidy : List ℕ → List Grant → List ℕ → Bool
catalogue_tidy ns gs ws = leb catalogue_words (length ws) && tidy_from ns ws 0 gs
