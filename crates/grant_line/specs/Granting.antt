-- The grant call: its table, and what it leaves.
use Rattle.std.specs.Prelude.{◌≡◌, List, [], ◌∷◌, ◌++◌, map, Bool, ◌&&◌, not, ℕ, ◌*◌, leb, length, replicate, Result, Ok, Err}
use Rattle.std.proofs.Math.Option.{Option, none, some}
use Rattle.std.proofs.Math.Seq.{paste}
use Rattle.refusal.specs.Results.{result_of, giving, said_by, settled}
use Rattle.refusal.specs.Checks.{Check, refuse, first}
use Rattle.refusal.specs.declared.Refused.{Refused}
use Rattle.refusal.specs.declared.Refusal.TheVariants.{Lent}
use Rattle.syntax.specs.Grammar as G
use Rattle.syntax.specs.Grammar.{Bytes}
use Rattle.syntax.specs.Limits.{max_grants}
use Rattle.syntax.specs.Readers.{parse_as}
use Rattle.model.specs.Queries as M
use Rattle.calls.specs.Replies.{written}
use Rattle.calls.specs.Tables.{grant_checks}
use Rattle.schema.specs.Schemas.{schema_of, schema_sound}
use Rattle.nodes.specs.Storing.{list_size}
use Rattle.conditions.specs.Seeing.{nodes_of}
use Rattle.grant.specs.Grants.{grant_words}
use Rattle.grant.specs.Catalogues.{catalogue_words}
use Rattle.grant.specs.declared.Grant.{Grant}
use Rattle.grant_line.specs.Lines.{no_grant, read_line, stored_of}

-- refusal 12: the schema, how many grants there are, and memory enough
unfoldable pub lent_sound : List ℕ → ℕ → ℕ → Bool
lent_sound ns count room = schema_sound ns && leb count max_grants && leb catalogue_words room

-- `count` grants were accepted before, whichever they are
unfoldable pub grant_table : List ℕ → List M.Grant → List ℕ → Bytes → List Check
grant_table ns gs ws bs = refuse Lent (not (lent_sound ns (length gs) (length ws))) ∷ written 0 bs (parse_as G.grant bs) (grant_checks (schema_of ns) gs)

-- the struct of a line's grant
unfoldable pub grant_made : List ℕ → Option G.GrantLine → Grant
grant_made ns none = no_grant
grant_made ns (some g) = (read_line ns g).grant

-- how many words its conditions take, and these words
unfoldable pub words_made : List ℕ → Option G.GrantLine → ℕ
words_made ns none = 0
words_made ns (some g) = list_size (map (nodes_of ns) g.when)

-- the words with those of the grant's conditions in its place, and all others as they were
unfoldable pub with_words : List ℕ → ℕ → Option G.GrantLine → List ℕ → List ℕ
with_words ns count o ws = paste ws (count * grant_words) (stored_of ns o (replicate grant_words 0)) (words_made ns o)

-- the grants that are kept after the call: an accepted one behind the others
unfoldable pub grants_after : Result Grant (Refused Grant) → List Grant → List Grant
grants_after (Ok g) gs = gs ++ (g ∷ [])
grants_after (Err f) gs = gs

-- the first check that fails, no grant, and the words as they were; or the grant of the line, and the words with its conditions in the place of that number
pub record Grants (ns : List ℕ) (count : ℕ) (bs : Bytes) (ws ws' : List ℕ) (r : Result Grant (Refused Grant)) : Type 0 where
  pub said : (gs : List M.Grant) → length gs ≡ count → said_by r ≡ result_of (first (grant_table ns gs ws bs))
  pub given : r ≡ giving (said_by r) (grant_made ns (parse_as G.grant bs)) no_grant
  pub left : ws' ≡ settled (said_by r) ws (with_words ns count (parse_as G.grant bs) ws)
