-- What is read of a grant line: what is wrong with it by itself, and its grant.
use Rattle.std.specs.Prelude.{◌≡◌, List, [], map, Bool, true, false, ◌&&◌, ◌||◌, not, cond, ℕ, ltb, eqb, ℤ, length, drop, replicate}
use Rattle.std.proofs.Math.Option.{Option, none, some}
use Rattle.std.specs.Prelude.{unwrap_or}
use Rattle.std.specs.Int.Bits.{bit_or}
use Rattle.refusal.specs.Checks.{unread, shown}
use Rattle.syntax.specs.Grammar as G
use Rattle.syntax.specs.Grammar.{Bytes, bytes, Test, Cond}
use Rattle.syntax.specs.Limits.{max_line, max_streams, max_granted}
use Rattle.syntax.specs.Readers.{Reader, ◌>>=◌, give, read_limit, read_window, parse_as}
use Rattle.text.specs.Readings.{closed}
use Rattle.masks.specs.Masks.{inside}
use Rattle.nodes.specs.Storing.{store_list}
use Rattle.conditions.specs.Seeing.{nodes_of, begun, list_seen}
use Rattle.conditions.specs.declared.Seen.{Seen}
use Rattle.columns.specs.Columns.{streams_seen}
use Rattle.columns.specs.declared.Streams.{Streams}
use Rattle.grant.specs.Grants.{grant_words, no_time, places_of, streams_mask}
use Rattle.grant.specs.declared.Grant.{Grant}
use Rattle.grant_line.specs.declared.Holder.{Holder}
use Rattle.grant_line.specs.declared.Shown.{Shown}
use Rattle.grant_line.specs.declared.Limit.{Limit}
use Rattle.grant_line.specs.declared.Window.{Window}
use Rattle.grant_line.specs.declared.GrantLine.{GrantLine}
use Rattle.grant_line.specs.Parts.{holder_seen, show_of, when_level, limit_seen, window_of}

-- ---- by the parts as the code reads them

unfoldable pub over_read : Holder → Streams → Shown → Seen → Limit → Limit → Window → Bool
over_read h o w c f t x = h.long || (o.over || (w.over || (c.over || (c.deep || (f.over || (t.over || x.over))))))

-- the bits of a number and of a profile entry
abbrev pub others : ℕ
others = 201326592

-- check 4: more streams than a grant may name; a column that is not theirs; a term that may not stand there; `from` above `to`; a window with `read`
unfoldable pub misplaced_read : ℕ → Holder → Streams → Shown → Seen → Limit → Limit → Window → Bool
misplaced_read columns h o w c f t x =
    ltb max_granted o.count || (not w.all && not (inside w.mask columns)
    || (not (inside c.lefts columns) || (not (inside c.rights (bit_or columns others))
    || (not (eqb f.value no_time) && ltb t.value f.value || eqb h.right 0 && x.given))))

unfoldable pub grant_read : ℕ → Holder → Streams → Shown → Seen → Limit → Limit → Window → Grant
grant_read columns h o w c f t x =
    record {
      role = h.role;
      right = h.right;
      count = o.count;
      streams = o.places;
      shown = cond w.all columns w.mask;
      words = c.count;
      from = f.value;
      to = t.value;
      size = x.size;
      offset = x.offset;
    }

unfoldable pub line_read : List ℕ → Holder → Streams → Shown → Seen → Limit → Limit → Window → GrantLine
line_read ns h o w c f t x =
    let columns = streams_mask ns (places_of o.count o.places) in
    record {
      checks = shown (over_read h o w c f t x) (o.unknown || w.unknown || c.unknown) (o.repeated || w.repeated) (misplaced_read columns h o w c f t x) false;
      grant = grant_read columns h o w c f t x;
    }

-- ---- by what the line says

unfoldable pub no_grant : Grant
no_grant = record { role = 0; right = 0; count = 0; streams = replicate max_streams 0; shown = 0; words = 0; from = 0; to = 0; size = 0; offset = 0 }

unfoldable pub unread_line : Bool → GrantLine
unread_line long = record { checks = unread long; grant = no_grant }

-- what is seen of its conditions, which is nothing where their words have no room
unfoldable pub whens_seen : List ℕ → List (Cond Test) → Seen
whens_seen ns cs = unwrap_or (list_seen ns [] grant_words when_level (some (record { what = cs; left = [] }))) (begun 0 0)

-- where each part ends plays no part
unfoldable pub read_line : List ℕ → G.GrantLine → GrantLine
read_line ns g =
    line_read ns
    (holder_seen [] (record { what = record { role = g.role; right = g.right }; left = [] }))
    (streams_seen ns [] (record { what = g.of; left = [] }))
    (show_of ns [] g.show 0)
    (whens_seen ns g.when)
    (limit_seen [] (record { what = g.from; left = [] }))
    (limit_seen [] (record { what = g.to; left = [] }))
    (window_of g.window 0)

unfoldable pub line_of : List ℕ → Option G.GrantLine → GrantLine
line_of ns none = unread_line false
line_of ns (some g) = read_line ns g

unfoldable pub grant_line : List ℕ → Bytes → GrantLine
grant_line ns s = cond (ltb max_line (length s)) (unread_line true) (line_of ns (parse_as G.grant s))

-- what follows the conditions: the times and the window
pub record After : Type 0 where
  pub from : Option ℤ
  pub to : Option ℤ
  pub window : Option G.Span

unfoldable pub read_after : Reader After
read_after = do
  from ← read_limit (bytes "from")
  to ← read_limit (bytes "to")
  window ← read_window
  give (record { from = from; to = to; window = window })

unfoldable pub rest_read : List ℕ → Holder → Streams → Shown → Seen → Option After → GrantLine
rest_read ns h o w c none = unread_line false
rest_read ns h o w c (some a) =
    line_read ns h o w c (limit_seen [] (record { what = a.from; left = [] })) (limit_seen [] (record { what = a.to; left = [] })) (window_of a.window 0)

-- its conditions in the words
unfoldable pub stored_of : List ℕ → Option G.GrantLine → List ℕ → List ℕ
stored_of ns none ws = ws
stored_of ns (some g) ws = store_list (map (nodes_of ns) g.when) 0 ws

-- what is read, and the words with its conditions where nothing of it is out of bounds
pub record LineRead (ns : List ℕ) (s : Bytes) (ws ws' : List ℕ) (r : GrantLine) : Type 0 where
  pub is : r ≡ grant_line ns s
  pub stored : r.checks.malformed ≡ false → r.checks.bound ≡ false → ws' ≡ stored_of ns (parse_as G.grant s) ws

-- the same of what follows the conditions: nothing, or the line of all parts
pub record RestRead (ns : List ℕ) (s : Bytes) (h : Holder) (o : Streams) (w : Shown) (c : Seen) (r : GrantLine) : Type 0 where
  pub is : r ≡ rest_read ns h o w c (closed (read_after (drop c.next s)))
