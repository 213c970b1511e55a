-- The grant that a struct and the words of its conditions stand for, and whether they may be lent.
use Rattle.std.specs.Prelude.{List, map, Bool, ◌&&◌, ◌||◌, not, cond, ℕ, suc, ◌+◌, ◌*◌, min, leb, ltb, eqb, length, get_or}
use Rattle.std.proofs.Math.Option.{Option, none, some}
use Rattle.lists.specs.Lists.{every, select, gather, distinct, count_from}
use Rattle.syntax.specs.Grammar.{numbered_right}
use Rattle.model.specs.Queries as M
use Rattle.model.specs.Queries.{columns_of}
use Rattle.syntax.specs.Limits.{max_streams, max_columns, max_granted, top}
use Rattle.calls.specs.Validity.{valid_name}
use Rattle.text.specs.Words.{name_of}
use Rattle.schema.specs.Schemas.{streams_in, width_in, schema_of}
use Rattle.masks.specs.Masks.{mask_of, inside}
use Rattle.nodes.specs.Nodes.{conditions_of, reaches, column_in, shallow_conds, nodes_sound}
unfoldable pub use Rattle.nodes.specs.Nodes.{linked_from}
use Rattle.grant.specs.declared.Grant.{Grant}

-- words lent for the conditions of one grant
abbrev pub grant_words : ℕ
grant_words = 95

-- no first or last time
abbrev pub no_time : ℕ
no_time = 4294967295

-- ---- the grant that they stand for, whatever they hold

-- the first of the places
unfoldable pub places_of : ℕ → List ℕ → List ℕ
places_of count ss = map (λ i. get_or ss i 0) (count_from 0 (min count max_streams))

unfoldable pub streams_of : Grant → List ℕ
streams_of g = places_of g.count g.streams

-- above the highest time there is no limit
unfoldable pub limit_of : ℕ → Option ℕ
limit_of n = cond (leb n top) (some n) none

-- the words are those of its conditions alone
unfoldable pub grant_of : List ℕ → Grant → List ℕ → M.Grant
grant_of ns g ws =
    record {
      role = name_of g.role;
      right = numbered_right g.right;
      of = streams_of g;
      shown = select (column_in g.shown) (gather (columns_of (schema_of ns)) (streams_of g));
      when = conditions_of ws g.words;
      from = limit_of g.from;
      to = limit_of g.to;
      size = g.size;
      offset = g.offset;
    }

-- ---- refusal 12

-- the codes of the columns of some streams, and their mask
unfoldable pub column_codes : List ℕ → List ℕ → List ℕ
column_codes ns ss = gather (λ s. map (λ c. s * max_columns + c) (count_from 0 (width_in ns s))) ss

unfoldable pub streams_mask : List ℕ → List ℕ → ℕ
streams_mask ns ss = mask_of (column_codes ns ss)

-- one or two streams that are declared, none twice
unfoldable pub streams_sound : List ℕ → Grant → Bool
streams_sound ns g = leb 1 g.count && leb g.count max_granted && every (λ s. ltb s (streams_in ns)) (streams_of g) && distinct eqb (streams_of g)

-- a time, or the number that stands for none
unfoldable pub limit_sound : ℕ → Bool
limit_sound n = leb n top || eqb n no_time

-- `from` is not above `to`
unfoldable pub limits_sound : Grant → Bool
limits_sound g = limit_sound g.from && limit_sound g.to && (leb g.from g.to || eqb g.from no_time)

-- a reading grant has no window
unfoldable pub window_sound : Grant → Bool
window_sound g = leb g.right 5 && cond (eqb g.right 0) (eqb g.size 0 && eqb g.offset 0) (leb g.size top && leb g.offset top)

-- it shows a column or more, of its streams
unfoldable pub shown_sound : List ℕ → Grant → Bool
shown_sound ns g = not (eqb g.shown 0) && inside g.shown (streams_mask ns (streams_of g))

-- its words are there, and are those of conditions over the columns of its streams
unfoldable pub when_sound : List ℕ → Grant → List ℕ → Bool
when_sound ns g ws = leb g.words grant_words && leb g.words (length ws) && nodes_sound (streams_mask ns (streams_of g)) ws g.words

unfoldable pub grant_sound : List ℕ → Grant → List ℕ → Bool
grant_sound ns g ws = valid_name (name_of g.role) && streams_sound ns g && shown_sound ns g && limits_sound g && window_sound g && when_sound ns g ws

-- ---- the same by the grant that they stand for: tidy numbers and words, and a valid grant

-- the first n words are laid out as those of a stored list of conditions, whatever these compare, none of which nests too deep
unfoldable pub laid_out : List ℕ → ℕ → Bool
laid_out ws n = linked_from (suc n) ws n && reaches (suc n) ws 0 n && shallow_conds (conditions_of ws n)

-- What passes 12 beside a valid grant. Some numbers stand for a valid grant and are refused all the same: a right above 5 (it would be `sum`), a time above
-- the highest that is not the number for none (it would be no limit), a bit that is no column of the grant's streams (it would show nothing), words
-- that are not those of a stored list (their links would be cut to fit), and conditions that nest deeper than those of a line (evaluation has stack for
-- these). No call makes such numbers, so they were damaged or never made, and a reading of them that is only as good as another must open nothing.
-- What is past the counted streams, and words past those of the conditions, are free.
unfoldable pub grant_tidy : List ℕ → Grant → List ℕ → Bool
grant_tidy ns g ws =
    leb g.right 5 && limit_sound g.from && limit_sound g.to && inside g.shown (streams_mask ns (streams_of g))
    && leb g.words grant_words && leb g.words (length ws) && laid_out ws g.words
