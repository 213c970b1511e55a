-- What a grant opens for a caller and a query, as tests on numbers.
use Rattle.std.specs.Prelude.{List, [], ◌∷◌, map, Bool, ◌&&◌, ◌||◌, not, cond, ℕ, ◌+◌, ◌*◌, ◌^◌, leb, ltb, eqb}
use Rattle.std.specs.Int.Bits.{bit_and, bit_or}
use Rattle.lists.specs.Lists.{every, some?, same_list}
use Rattle.syntax.specs.Limits.{max_streams, max_columns}
use Rattle.model.specs.Queries as M
use Rattle.model.specs.Routes.{is_equality}
use Rattle.text.specs.Words.{name_of}
use Rattle.masks.specs.Masks.{bit?, inside}
use Rattle.nodes.specs.Nodes.{conditions_of}
use Rattle.grant.specs.Grants.{streams_of}
use Rattle.grant.specs.declared.Grant.{Grant}
use Rattle.query.specs.Forms.{coded_col}
use Rattle.comparisons.specs.Compared.{compared, profile_in, compare_known}
use Rattle.needs.specs.Asking.{no_stream}
use Rattle.needs.specs.declared.Needs.{Needs}

-- ---- whose it is

-- the caller that the numbers of roles and of a profile stand for
unfoldable pub caller_in : List ℕ → List ℕ → M.Caller
caller_in roles profile = record { roles = map name_of roles; profile = profile_in profile }

-- one who has its role, and every profile entry that a comparison of its words names
unfoldable pub belongs_in : Grant → List ℕ → List ℕ → List ℕ → Bool
belongs_in g ws roles profile = some? (same_list (name_of g.role)) (map name_of roles) && every (compare_known (profile_in profile)) (compared ws 0 g.words)

-- ---- what it opens

-- the bits of the columns of a stream
unfoldable pub stream_bits : ℕ → ℕ
stream_bits s = cond (ltb s max_streams) (63 * 2 ^ (s * max_columns)) 0

-- the streams that are asked for
unfoldable pub streams_asked : Needs → List ℕ
streams_asked n = cond (eqb n.right no_stream) (n.left ∷ []) (n.left ∷ (n.right ∷ []))

-- one of its conditions is the equality that is asked for
unfoldable pub equality_held : Needs → Grant → List ℕ → Bool
equality_held n g ws = some? (is_equality (coded_col n.first) (coded_col n.second)) (conditions_of ws g.words)

-- one stream: it shows the columns of the stream that picks, the equality and the aggregate name
unfoldable pub side_opened : Needs → Grant → ℕ → Bool
side_opened n g s = eqb g.right 0 && (same_list (streams_of g) (s ∷ []) && inside (bit_and (bit_or n.need n.keys) (stream_bits s)) g.shown)

unfoldable pub right_opened : Needs → Grant → Bool
right_opened n g = not (eqb n.right no_stream) && side_opened n g n.right

-- both streams, with the equality: it shows the columns that picks and the aggregate name, and no pick below the join names `time`
unfoldable pub pair_opened : Needs → Grant → List ℕ → Bool
pair_opened n g ws =
    not (eqb n.right no_stream) && (eqb g.right 0 && (same_list (streams_of g) (n.left ∷ (n.right ∷ []))
    && (equality_held n g ws && (not n.timed && inside n.need g.shown))))

-- the aggregate: on its streams, with the equality of two, no pick below it, its column shown, SIZE and OFFSET not below the grant's
unfoldable pub figures_opened : Needs → Grant → List ℕ → Bool
figures_opened n g ws =
    not (eqb n.aggregate 0) && (eqb g.right n.aggregate && (same_list (streams_of g) (streams_asked n)
    && ((eqb n.right no_stream || equality_held n g ws) && (not n.picked
    && (bit? g.shown n.column && (leb g.size n.size && leb g.offset n.offset))))))

-- 1 for the left side or the only stream, 2 for the right side, 4 for both, 8 for the aggregate
unfoldable pub opened_bits : Needs → Grant → List ℕ → ℕ
opened_bits n g ws = cond (side_opened n g n.left) 1 0 + cond (right_opened n g) 2 0 + cond (pair_opened n g ws) 4 0 + cond (figures_opened n g ws) 8 0
