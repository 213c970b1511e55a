-- The text of a table of forms: that of its query, and part by part.
use Rattle.std.specs.Prelude.{◌≡◌, List, [], ◌∷◌, ◌++◌, map, Bool, true, false, cond, ◌&&◌, ℕ, min, pos, eqb, ltb, leb, length, drop}
use Rattle.std.proofs.Math.Option.{Option, some}
use Rattle.syntax.specs.Grammar.{Bytes, bytes, fn_word, put_ref, put_int, put_open, put_items, put_equality, put_cond, put_form, numbered_fn}
use Rattle.model.specs.Queries.{Schema}
use Rattle.model.specs.Conditions.{map_cond}
use Rattle.calls.specs.Names.{ref_of, test_of, form_of}
use Rattle.nodes.specs.Profiles.{profile_in}
use Rattle.grant.specs.Catalogues.{words_in}
use Rattle.query.specs.Forms.{Words, coded_col, cols_in, rows_form, pick_form, keep_form, form_order, join_form, aggregate_form, cond_at, query_in}
use Rattle.query.specs.declared.Form.{Form}
use Rattle.print.specs.Writing.{furthest, Put}
use Rattle.print.specs.declared.Bounds.{Bounds}
use Rattle.print.specs.Texts.{source_text, bounded, bounds_text}
use Rattle.print_query.specs.Marks.{marks_number, ending, ended, state_number}
use Rattle.print_query.specs.declared.Printed.{Printed}

-- ---- the whole text

-- the words of a query and of all grants, and a caller's profile, as they are lent
abbrev pub words_lent : List ℕ → List ℕ → List ℕ → Words
words_lent own granted profile = record { own = own; granted = granted; profile = profile_in profile }

unfoldable pub table_text : Schema → Words → List Form → Bytes → Bytes
table_text d w fs = put_form (form_of d (query_in w fs))

-- ---- what a form writes before the queries that it takes

unfoldable pub pick_opening : Schema → Words → Form → Bytes → Bytes
pick_opening d w f rest = put_open (bytes "pick") (32 ∷ put_cond (map_cond (test_of d) (cond_at w.own f.first)) (32 ∷ rest))

unfoldable pub keep_opening : Schema → Form → Bytes → Bytes
keep_opening d f rest = put_open (bytes "keep") (put_items put_ref (map (ref_of d) (cols_in (form_order f))) (32 ∷ rest))

unfoldable pub join_opening : Schema → Form → Bytes → Bytes
join_opening d f rest = put_open (bytes "join") (32 ∷ put_equality (ref_of d (coded_col f.first)) (ref_of d (coded_col f.second)) (32 ∷ rest))

-- a bracket, the word of an aggregate and a space
unfoldable pub fn_opening : ℕ → Bytes
fn_opening n = 40 ∷ (fn_word (numbered_fn n) ++ (32 ∷ []))

-- SIZE and OFFSET
unfoldable pub span_text : Form → Bytes → Bytes
span_text f rest = put_int (pos f.third) (32 ∷ put_int (pos f.fourth) (32 ∷ rest))

unfoldable pub aggregate_opening : Schema → Form → Bytes → Bytes
aggregate_opening d f rest = put_open (fn_word (numbered_fn f.first)) (32 ∷ put_ref (ref_of d (coded_col f.second)) (32 ∷ span_text f rest))

-- the conditions and times of a view
abbrev pub form_bounds : Form → Bounds
form_bounds f = record { words = f.second; from = f.third; to = f.fourth }

unfoldable pub under_opening : Schema → Words → Form → Bytes → Bytes
under_opening d w f = bounds_text d w.profile (words_in w.granted f.first) (form_bounds f)

-- a stream's is its whole text
unfoldable pub opening_text : Schema → Words → Form → Bytes → Bytes
opening_text d w f rest =
    cond (eqb f.kind rows_form) (source_text d f.first rest)
    (cond (eqb f.kind pick_form) (pick_opening d w f rest)
    (cond (eqb f.kind keep_form) (keep_opening d f rest)
    (cond (eqb f.kind join_form) (join_opening d f rest)
    (cond (eqb f.kind aggregate_form) (aggregate_opening d f rest)
    (under_opening d w f rest)))))

-- ---- what stands open after it

-- a view that asks for nothing has no bracket
unfoldable pub bracketed : Form → Bool
bracketed f = cond (ltb aggregate_form f.kind) (bounded (form_bounds f)) true

unfoldable pub pushed : Form → List Bool → List Bool
pushed f bs = cond (eqb f.kind join_form) (true ∷ bs) (cond (bracketed f) (false ∷ bs) bs)

-- and is written: after a stream what ends with it
unfoldable pub turn_text : Form → List Bool → Bytes → Bytes
turn_text f bs rest = cond (eqb f.kind rows_form) (ending bs rest) rest

unfoldable pub turned : Form → List Bool → Option (List Bool)
turned f bs = cond (eqb f.kind rows_form) (ended bs) (some (pushed f bs))

pub record Turned (f : Form) (n : ℕ) (m : Bytes) (p : ℕ) (m' : Bytes) (p' n' : ℕ) : Type 0 where
  pub text : (bs : List Bool) → n ≡ marks_number bs → Put (turn_text f bs) m p m' p'
  pub left : (bs : List Bool) → n ≡ marks_number bs → n' ≡ state_number (turned f bs)

-- ---- a line

-- it has room among the bytes that are lent, and fewer bytes than there are places
unfoldable pub has_room : Bytes → Bytes → Bool
has_room text m = ltb (length text) furthest && leb (length text) (length m)

-- where it has, the text stands first and all else is as it was; where not, all is as it was
pub record Lined (text m m' : Bytes) (r : Printed) : Type 0 where
  pub ok : r.ok ≡ has_room text m
  pub counted : r.length ≡ min (length text) furthest
  pub bytes : m' ≡ cond (has_room text m) (text ++ drop (length text) m) m
