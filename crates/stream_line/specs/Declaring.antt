-- The stream call: what is read of its line, its table, and what it leaves.
use Rattle.std.specs.Prelude.{◌≡◌, List, ◌∷◌, map, Bool, true, false, ◌&&◌, ◌||◌, not, cond, ℕ, suc, min, leb, ltb, length, drop, replicate, take}
use Rattle.std.proofs.Math.Option.{Option, none, some}
use Rattle.refusal.specs.Results.{Said, result_of, settled}
use Rattle.refusal.specs.Checks.{Check, refuse, first, unread, shown}
use Rattle.refusal.specs.declared.Refusal.TheVariants.{Lent}
use Rattle.lists.specs.Lists.{every}
use Rattle.syntax.specs.Grammar as G
use Rattle.syntax.specs.Grammar.{Bytes, Stream}
use Rattle.syntax.specs.Limits.{max_line, max_columns}
use Rattle.syntax.specs.Readers.{read_body, parse_as}
use Rattle.calls.specs.Bounds.{stream_bounded}
use Rattle.calls.specs.Replies.{written}
use Rattle.calls.specs.Tables.{stream_checks}
use Rattle.text.specs.Words.{Found, seen, code_of}
use Rattle.text.specs.Readings.{closed}
use Rattle.text.specs.declared.Name.{Name}
use Rattle.items.specs.declared.Names.{Names}
use Rattle.items.specs.Items.{code_short, first_of, once}
use Rattle.schema.specs.declared.Stream as M
use Rattle.schema.specs.Schemas.{code_free, schema_of, schema_sound, with_codes}
use Rattle.stream_line.specs.declared.StreamLine.{StreamLine}

-- ---- what is read of a line

-- nothing: it is too long, or of another form
unfoldable pub unread_line : Bool → StreamLine
unread_line long = record { checks = unread long; stream = record { name = 0; count = 0; columns = replicate max_columns 0 } }

-- its names as numbers, 0 for one that is too long; of more columns than may be, the first
unfoldable pub stream_made : Stream → M.Stream
stream_made s = record { name = code_short s.name; count = min (length s.columns) (suc max_columns); columns = first_of max_columns 0 (map code_short s.columns) }

-- a name is too long or there are too many columns (3), a column stands twice (6), a name is one that no stream or column may have (4)
unfoldable pub read_line : Stream → StreamLine
read_line s =
    let m = stream_made s in
    record {
      checks = shown (not (stream_bounded s)) false (not (once m.columns m.count)) (not (code_free m.name && every code_free (take m.count m.columns))) false;
      stream = m;
    }

-- the same by a name and columns as the code reads them
unfoldable pub line_read : Name → Names → StreamLine
line_read n cs =
    record {
      checks = shown ((n.long || cs.long) || leb (suc max_columns) cs.count) false (not (once cs.codes cs.count)) (not (code_free n.code && every code_free (take cs.count cs.codes))) false;
      stream = record { name = n.code; count = cs.count; columns = cs.codes };
    }

unfoldable pub line_of : Option Stream → StreamLine
line_of none = unread_line false
line_of (some s) = read_line s

-- what a text says from a place on, after its first word
unfoldable pub line_after : Bytes → ℕ → Found StreamLine
line_after s at = seen read_line (closed (read_body G.stream (length s) (drop at s)))

unfoldable pub stream_line : Bytes → StreamLine
stream_line bs = cond (ltb max_line (length bs)) (unread_line true) (line_of (parse_as G.stream bs))

-- ---- the call

unfoldable pub declare_table : List ℕ → Bytes → List Check
declare_table ns bs = refuse Lent (not (schema_sound ns)) ∷ written 0 bs (parse_as G.stream bs) (stream_checks (schema_of ns))

-- the names with a stream's in the places of the next
unfoldable pub with_stream : List ℕ → Option Stream → List ℕ
with_stream ns none = ns
with_stream ns (some s) = with_codes ns (code_of s.name) (first_of max_columns 0 (map code_of s.columns))

-- the first check that fails, and the names as they were; or the names with those of the line's stream in the next places, and all others as they were
pub record Declares (ns : List ℕ) (bs : Bytes) (ns' : List ℕ) (v : Said) : Type 0 where
  pub said : v ≡ result_of (first (declare_table ns bs))
  pub left : ns' ≡ settled v ns (with_stream ns (parse_as G.stream bs))
