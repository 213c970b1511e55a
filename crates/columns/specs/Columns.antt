-- Lists of streams and of columns in a line, resolved by the names of a schema.
use Rattle.std.specs.Prelude.{List, [], ◌∷◌, ◌++◌, map, Bool, false, ◌&&◌, ◌||◌, not, cond, ℕ, suc, min, leb, ltb, eqb, length, drop, set, replicate}
use Rattle.lists.specs.Lists.{every, some?, distinct}
use Rattle.syntax.specs.Grammar.{Bytes, Ref}
use Rattle.syntax.specs.Limits.{max_streams, short, short_ref}
use Rattle.syntax.specs.Readers.{Read, closes, form_next, read_name, read_ref}
use Rattle.text.specs.Words.{Found, seen, left_at}
use Rattle.text.specs.Readings.{any_items}
use Rattle.items.specs.Items.{code_short, first_of}
use Rattle.masks.specs.Masks.{bit?, with_bit, mask_of}
use Rattle.orders.specs.Orders.{with_code, order_of}
use Rattle.terms.specs.Terms.{entry_code, unknown_code, stream_found, second_code, ref_code}
use Rattle.columns.specs.declared.Streams.{Streams}
use Rattle.columns.specs.declared.Columns.{Columns}

-- ---- streams: each after one space, up to a closing bracket

unfoldable pub stream_place : List ℕ → Bytes → ℕ
stream_place ns n = stream_found ns (code_short n)

-- none yet
unfoldable pub no_streams : Streams
no_streams = record { next = 0; over = false; unknown = false; repeated = false; count = 0; places = replicate max_streams 0 }

-- whether a name is too long, whether one is not declared, whether one stands twice, how many they are (5 for more than four), and the first four
unfoldable pub streams_seen : List ℕ → Bytes → Read (List Bytes) → Streams
streams_seen ns s r =
    record {
      next = left_at s r;
      over = not (every short r.what);
      unknown = some? (λ n. eqb (stream_place ns n) max_streams) r.what;
      repeated = not (distinct eqb (map (stream_place ns) r.what));
      count = min (length r.what) (suc max_streams);
      places = first_of max_streams 0 (map (stream_place ns) r.what);
    }

unfoldable pub streams_at : List ℕ → Bytes → ℕ → Found Streams
streams_at ns s at = seen (streams_seen ns s) (any_items closes read_name (drop at s))

-- what is read so far, with one stream more: whether its name is too long, its place, and whether that place was seen
unfoldable pub stream_added : Streams → Bool → ℕ → Bool → Streams
stream_added r long place again =
    record {
      next = r.next;
      over = r.over || long;
      unknown = r.unknown || eqb place max_streams;
      repeated = r.repeated || again;
      count = min (suc r.count) (suc max_streams);
      places = set r.places r.count place;
    }

-- what is read so far, where the list ends at a place
unfoldable pub streams_ended : Streams → ℕ → Streams
streams_ended r at = record { next = at; over = r.over; unknown = r.unknown; repeated = r.repeated; count = r.count; places = r.places }

-- ---- columns: each after one space, up to a closing bracket, or up to a form that follows after a space

unfoldable pub ends_by : Bool → Bytes → Bool
ends_by form bs = cond form (form_next bs) (closes bs)

-- how many profile entries of a list are told apart
abbrev pub max_own : ℕ
max_own = 72

-- a column was seen before: its code is a bit of a mask; a profile entry, which no list may have, is one of some names, or there are too many to tell
unfoldable pub again_in : ℕ → List ℕ → ℕ → ℕ → Bool
again_in mask own code second = cond (eqb code entry_code) (leb max_own (length own) || some? (eqb second) own) (bit? mask code)

-- the names of profile entries so far, with that of one more column where it is one
unfoldable pub kept_in : List ℕ → ℕ → ℕ → List ℕ
kept_in own code second = cond (eqb code entry_code && ltb (length own) max_own) (own ++ (second ∷ [])) own

-- whether one of some columns was seen before, where a mask and names are seen
unfoldable pub repeats : List ℕ → ℕ → List ℕ → List Ref → Bool
repeats ns mask own [] = false
repeats ns mask own (c ∷ cs) = again_in mask own (ref_code ns c) (second_code c) || repeats ns (with_bit mask (ref_code ns c)) (kept_in own (ref_code ns c) (second_code c)) cs

-- none yet
unfoldable pub no_columns : Columns
no_columns = record { next = 0; over = false; unknown = false; repeated = false; mask = 0; order = 0 }

-- whether a name is too long, whether a column is not declared, whether one stands twice, and their codes as bits and in their order
unfoldable pub columns_seen : List ℕ → Bytes → Read (List Ref) → Columns
columns_seen ns s r =
    record {
      next = left_at s r;
      over = not (every short_ref r.what);
      unknown = some? (λ c. eqb (ref_code ns c) unknown_code) r.what;
      repeated = repeats ns 0 [] r.what;
      mask = mask_of (map (ref_code ns) r.what);
      order = order_of (map (ref_code ns) r.what);
    }

unfoldable pub columns_at : List ℕ → Bool → Bytes → ℕ → Found Columns
columns_at ns form s at = seen (columns_seen ns s) (any_items (ends_by form) read_ref (drop at s))

-- what is read so far, with one column more: whether a name is too long, its code, and whether it stands again
unfoldable pub column_added : Columns → Bool → ℕ → Bool → Columns
column_added r over code again =
    record {
      next = r.next;
      over = r.over || over;
      unknown = r.unknown || eqb code unknown_code;
      repeated = r.repeated || again;
      mask = with_bit r.mask code;
      order = with_code r.order code;
    }

-- what is read so far, where the list ends at a place
unfoldable pub columns_ended : Columns → ℕ → Columns
columns_ended r at = record { next = at; over = r.over; unknown = r.unknown; repeated = r.repeated; mask = r.mask; order = r.order }
