-- What the grants of a catalogue open, and whether it may be lent: of all of them, and one grant after the other.
use Rattle.std.specs.Prelude.{List, ◌&&◌, ℕ, leb, replicate}
use Rattle.syntax.specs.Limits.{max_streams, max_grants}
use Rattle.grant.specs.Grants.{grant_sound}
use Rattle.grant.specs.Catalogues.{catalogue_words, words_in, catalogue_sound}
use Rattle.grant.specs.declared.Grant.{Grant}
use Rattle.needs.specs.declared.Needs.{Needs}
use Rattle.routes.specs.Listing.{none_open, with_opened, caller_bits, open_all}
use Rattle.catalogue.specs.declared.Opened.{Opened}

-- the grant past the last
unfoldable pub blank : Grant
blank = record { role = 0; right = 0; count = 0; streams = replicate max_streams 0; shown = 0; words = 0; from = 0; to = 0; size = 0; offset = 0 }

-- all grants of a catalogue
unfoldable pub opened_in : Needs → List ℕ → List Grant → List ℕ → List ℕ → List ℕ → Opened
opened_in n ns gs ws roles profile = record { opens = open_all n ws roles profile gs; sound = catalogue_sound ns gs ws }

-- none yet, of so many with so many words
unfoldable pub none_opened : ℕ → ℕ → Opened
none_opened count words = record { opens = none_open; sound = leb count max_grants && leb catalogue_words words }

-- one more in a place, by the ways that it opens and the words of all
unfoldable pub with_bits : Opened → ℕ → Grant → ℕ → List ℕ → List ℕ → Opened
with_bits o place g bits ns ws = record { opens = with_opened o.opens place bits g; sound = o.sound && grant_sound ns g (words_in ws place) }

-- one more in a place, by what it opens for a caller
unfoldable pub opened_with : Opened → Needs → ℕ → Grant → List ℕ → List ℕ → List ℕ → List ℕ → Opened
opened_with o n place g ns ws roles profile = with_bits o place g (caller_bits n g (words_in ws place) roles profile) ns ws
