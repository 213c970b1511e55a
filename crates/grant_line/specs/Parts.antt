-- What is read of the parts of a grant line at places.
use Rattle.std.specs.Prelude.{◌≡◌, List, [], ◌∷◌, Bool, true, false, ◌||◌, not, ℕ, ℤ, length, drop}
use Rattle.std.proofs.Math.Option.{Option, none, some}
use Rattle.syntax.specs.Grammar as G
use Rattle.syntax.specs.Grammar.{Bytes, bytes, Right, right_word, Show, Span, Test, Cond, right_number}
use Rattle.syntax.specs.Limits.{short, is_time}
use Rattle.syntax.specs.Readers.{Read, Reader, bind, ◌>>=◌, ◌>>◌, give, byte, closes, itself, read_name, read_word, rights, read_part, read_limit, read_number, read_optional, read_window}
use Rattle.text.specs.Words.{Found, Some, seen, left_at, time_kept}
use Rattle.text.specs.Readings.{any_cond, any_some, any_show}
use Rattle.items.specs.Items.{code_short}
use Rattle.columns.specs.Columns.{streams_seen, columns_seen}
use Rattle.columns.specs.declared.Streams.{Streams}
use Rattle.columns.specs.declared.Columns.{Columns}
use Rattle.nodes.specs.Nodes.{max_nesting}
use Rattle.conditions.specs.Seeing.{list_seen, list_stored}
use Rattle.conditions.specs.declared.Seen.{Seen}
use Rattle.grant.specs.Grants.{no_time}
use Rattle.grant_line.specs.declared.Holder.{Holder}
use Rattle.grant_line.specs.declared.Shown.{Shown}
use Rattle.grant_line.specs.declared.Limit.{Limit}
use Rattle.grant_line.specs.declared.Window.{Window}

-- ---- whose it is, and its right

pub record Held : Type 0 where
  pub role : Bytes
  pub right : Right

unfoldable pub read_held : Reader Held
read_held = do
  byte 32
  role ← read_name
  byte 32
  right ← read_word right_word rights
  give (record { role = role; right = right })

unfoldable pub holder_seen : Bytes → Read Held → Holder
holder_seen s r = record { long = not (short r.what.role); role = code_short r.what.role; right = right_number r.what.right; next = left_at s r }

unfoldable pub holder_at : Bytes → ℕ → Found Holder
holder_at s at = seen (holder_seen s) (read_held (drop at s))

-- ---- its streams

unfoldable pub of_at : List ℕ → Bytes → ℕ → Found Streams
of_at ks s at = seen (streams_seen ks s) (read_part (bytes "of") (any_some closes read_name) (drop at s))

-- ---- what it shows

unfoldable pub shown_all : ℕ → Shown
shown_all next = record { all = true; over = false; unknown = false; repeated = false; mask = 0; next = next }

unfoldable pub shown_listed : Columns → ℕ → Shown
shown_listed c next = record { all = false; over = c.over; unknown = c.unknown; repeated = c.repeated; mask = c.mask; next = next }

unfoldable pub show_of : List ℕ → Bytes → Show → ℕ → Shown
show_of ks s G.everything next = shown_all next
show_of ks s (G.listed rs) next = shown_listed (columns_seen ks s (record { what = rs; left = [] })) next

unfoldable pub show_seen : List ℕ → Bytes → Read Show → Shown
show_seen ks s r = show_of ks s r.what (left_at s r)

unfoldable pub show_at : List ℕ → Bytes → ℕ → Found Shown
show_at ks s at = seen (show_seen ks s) (read_part (bytes "show") any_show (drop at s))

-- `*`, and a closing bracket
unfoldable pub star_seen : Bytes → Read (Unit {0}) → Shown
star_seen s r = shown_all (left_at s r)

unfoldable pub star_at : Bytes → ℕ → Found Shown
star_at s at = seen (star_seen s) (bind (read_word itself (bytes "*" ∷ []) (drop at s)) (λ r. byte 41 r.left))

-- ---- its conditions: brackets of the line and of this part are open, so six may be opened

abbrev pub when_level : ℕ
when_level = max_nesting

-- none where that part is absent
unfoldable pub read_whens : Reader (List (Cond Test))
read_whens = read_optional (bytes "when") [] (read_part (bytes "when") (any_some closes any_cond))

pub record WhenRead (ks : List ℕ) (s : Bytes) (at : ℕ) (ws ws' : List ℕ) (r : Found Seen) : Type 0 where
  pub is : r ≡ list_seen ks s (length ws) when_level (read_whens (drop at s))
  pub stored : (i : Seen) → r ≡ Some i → i.deep ≡ false → ws' ≡ list_stored ks (read_whens (drop at s)) ws
  pub kept : length ws' ≡ length ws

-- ---- its times

unfoldable pub limit_over : Option ℤ → Bool
limit_over none = false
limit_over (some n) = not (is_time n)

-- a time beyond its range counts as 0 (it is refused), none as the number that stands for it
unfoldable pub limit_kept : Option ℤ → ℕ
limit_kept none = no_time
limit_kept (some n) = time_kept n

unfoldable pub limit_seen : Bytes → Read (Option ℤ) → Limit
limit_seen s r = record { over = limit_over r.what; value = limit_kept r.what; next = left_at s r }

unfoldable pub limit_at : Bytes → ℕ → Bytes → Found Limit
limit_at s at w = seen (limit_seen s) (read_limit w (drop at s))

-- ---- its window

unfoldable pub window_of : Option Span → ℕ → Window
window_of none next = record { given = false; over = false; size = 0; offset = 0; next = next }
window_of (some w) next =
    record { given = true; over = not (is_time w.size) || not (is_time w.offset); size = time_kept w.size; offset = time_kept w.offset; next = next }

unfoldable pub window_seen : Bytes → Read (Option Span) → Window
window_seen s r = window_of r.what (left_at s r)

unfoldable pub window_at : Bytes → ℕ → Found Window
window_at s at = seen (window_seen s) (read_window (drop at s))

-- its two numbers and its bracket
unfoldable pub read_span : Reader (Option Span)
read_span = do
  size ← read_number
  offset ← read_number
  byte 41
  give (some (record { size = size; offset = offset }))

unfoldable pub span_at : Bytes → ℕ → Found Window
span_at s at = seen (window_seen s) (read_span (drop at s))
