-- What is read of the forms of a query: what is wrong with them by themselves, the table of them, and the words of their conditions.
use Rattle.std.specs.Prelude.{◌≡◌, List, [], ◌∷◌, map, Bool, false, ◌||◌, not, cond, ℕ, suc, ◌+◌, ◌-◌, min, ℤ, leb, ltb, eqb, length, drop, set, replicate}
use Rattle.std.proofs.Math.Option.{Option, none, some}
use Rattle.lists.specs.Lists.{some?, every}
use Rattle.syntax.specs.Grammar.{Bytes, Test, Cond, Form, fn_number}
use Rattle.syntax.specs.Limits.{max_line, max_depth, max_forms, max_streams, short, short_ref, not_above, natural, cond_depth}
use Rattle.syntax.specs.Readers.{Read}
use Rattle.model.specs.Conditions.{tests}
use Rattle.calls.specs.Names.{form_conds}
use Rattle.text.specs.Words.{Found, Some, None, seen, left_at}
use Rattle.text.specs.Readings.{any_form}
use Rattle.text.specs.declared.Time.{Time}
use Rattle.masks.specs.Masks.{mask_of}
use Rattle.orders.specs.Orders.{order_of}
use Rattle.terms.specs.Terms.{unknown_code, ref_code}
use Rattle.columns.specs.Columns.{stream_place, repeats}
use Rattle.nodes.specs.Storing.{size, store, store_list}
use Rattle.conditions.specs.Seeing.{nodes_of, seen_of, deep_seen}
use Rattle.conditions.specs.declared.Seen.{Seen}
use Rattle.query.specs.Forms.{rows_form, pick_form, keep_of, join_form, aggregate_form}
use Rattle.query.specs.declared.Form as Q
use Rattle.query_read.specs.Parts.{Part, rows, pick, keep, join, aggregate, Inner, parts, read_own}
use Rattle.query_read.specs.declared.Own.{Own}
use Rattle.query_read.specs.declared.Reading.{Reading}

-- ---- one form by itself

-- a form inside n others nests too deep by its own bracket
unfoldable pub deep : ℕ → Bool
deep n = leb max_depth n

-- how many brackets a condition of a form inside n others may open
unfoldable pub level : ℕ → ℕ
level n = max_depth - suc n

-- a SIZE or an OFFSET up to the highest, and else 0; below 0 it counts as 0
unfoldable pub span_kept : ℤ → ℕ
span_kept z = cond (not_above z) (natural z) 0

unfoldable pub span_of : ℤ → Time
span_of z = record { beyond = not (not_above z); value = span_kept z }

unfoldable pub no_form : Q.Form
no_form = record { kind = 0; first = 0; second = 0; third = 0; fourth = 0 }

-- a stream's rows: whether its name is too long and where it stands
unfoldable pub rows_own : ℕ → ℕ → Bool → ℕ → ℕ → Own
rows_own b n long place next =
    record {
      next = next;
      over = deep n || long;
      unknown = eqb place max_streams;
      repeated = false;
      words = b;
      lefts = 0;
      rights = 0;
      form = record { kind = rows_form; first = place; second = 0; third = 0; fourth = 0 };
    }

-- a pick by what is seen of its condition
unfoldable pub pick_own : Seen → ℕ → Own
pick_own i next =
    record {
      next = next;
      over = i.deep || i.over;
      unknown = i.unknown;
      repeated = false;
      words = i.count;
      lefts = i.lefts;
      rights = i.rights;
      form = record { kind = pick_form; first = i.count; second = 0; third = 0; fourth = 0 };
    }

unfoldable pub keep_own : ℕ → ℕ → Bool → Bool → Bool → ℕ → ℕ → ℕ → Own
keep_own b n over unknown repeated mask order next =
    record {
      next = next;
      over = deep n || over;
      unknown = unknown;
      repeated = repeated;
      words = b;
      lefts = mask;
      rights = 0;
      form = keep_of order;
    }

unfoldable pub join_own : ℕ → ℕ → Bool → ℕ → ℕ → ℕ → Own
join_own b n over left right next =
    record {
      next = next;
      over = deep n || over;
      unknown = eqb left unknown_code || eqb right unknown_code;
      repeated = false;
      words = b;
      lefts = 0;
      rights = 0;
      form = record { kind = join_form; first = left; second = right; third = 0; fourth = 0 };
    }

unfoldable pub aggregate_own : ℕ → ℕ → Bool → ℕ → ℕ → Time → Time → ℕ → Own
aggregate_own b n over fn code size offset next =
    record {
      next = next;
      over = deep n || (over || (size.beyond || offset.beyond));
      unknown = eqb code unknown_code;
      repeated = false;
      words = b;
      lefts = 0;
      rights = 0;
      form = record { kind = aggregate_form; first = fn; second = code; third = size.value; fourth = offset.value };
    }

-- what is seen of the condition of a form inside n others
unfoldable pub picked : List ℕ → ℕ → ℕ → Cond Test → Seen
picked ns b n c = cond (leb (cond_depth c) (level n)) (seen_of ns (tests c) 0 (b + size (nodes_of ns c))) (deep_seen 0)

-- a part that is inside n forms and ends at a place, after the first b words
unfoldable pub own_of : List ℕ → ℕ → ℕ → Part → ℕ → Own
own_of ns b n (rows s) next = rows_own b n (not (short s)) (stream_place ns s) next
own_of ns b n (pick c) next = pick_own (picked ns b n c) next
own_of ns b n (keep rs) next =
    keep_own b n (not (every short_ref rs)) (some? (λ c. eqb (ref_code ns c) unknown_code) rs) (repeats ns 0 [] rs) (mask_of (map (ref_code ns) rs)) (order_of (map (ref_code ns) rs)) next
own_of ns b n (join a c) next = join_own b n (not (short_ref a) || not (short_ref c)) (ref_code ns a) (ref_code ns c) next
own_of ns b n (aggregate f c size offset) next = aggregate_own b n (not (short_ref c)) (fn_number f) (ref_code ns c) (span_of size) (span_of offset) next

unfoldable pub own_seen : List ℕ → Bytes → ℕ → ℕ → Read Part → Own
own_seen ns s b n r = own_of ns b n r.what (left_at s r)

unfoldable pub own_at : List ℕ → Bytes → ℕ → ℕ → ℕ → Found Own
own_at ns s b n at = seen (own_seen ns s b n) (read_own (drop at s))

-- the words of its condition
unfoldable pub part_stored : List ℕ → ℕ → Part → List ℕ → List ℕ
part_stored ns b (rows s) ws = ws
part_stored ns b (pick c) ws = store (nodes_of ns c) b ws
part_stored ns b (keep rs) ws = ws
part_stored ns b (join a c) ws = ws
part_stored ns b (aggregate f c size offset) ws = ws

unfoldable pub own_stored : List ℕ → ℕ → Option (Read Part) → List ℕ → List ℕ
own_stored ns b none ws = ws
own_stored ns b (some r) ws = part_stored ns b r.what ws

-- ---- all forms

-- what is kept of the first twelve, with that of one more
unfoldable pub put_at : {A : Type 0} → List A → ℕ → A → List A
put_at xs n x = cond (ltb n max_forms) (set xs n x) xs

-- one more: the first twelve are kept
unfoldable pub with_own : Reading → Own → Reading
with_own r o =
    record {
      next = r.next;
      over = r.over || (o.over || leb max_forms r.count);
      unknown = r.unknown || o.unknown;
      repeated = r.repeated || o.repeated;
      words = o.words;
      count = min (suc r.count) max_forms;
      forms = put_at r.forms r.count o.form;
      lefts = put_at r.lefts r.count o.lefts;
      rights = put_at r.rights r.count o.rights;
    }

unfoldable pub with_part : List ℕ → Reading → Inner → Reading
with_part ns r i = with_own r (own_of ns r.words i.around i.part 0)

unfoldable pub with_parts : List ℕ → Reading → List Inner → Reading
with_parts ns r [] = r
with_parts ns r (i ∷ is) = with_parts ns (with_part ns r i) is

-- none yet
unfoldable pub no_reading : Reading
no_reading =
    record {
      next = 0;
      over = false;
      unknown = false;
      repeated = false;
      words = 0;
      count = 0;
      forms = replicate max_forms no_form;
      lefts = replicate max_forms 0;
      rights = replicate max_forms 0;
    }

-- what is read, where the outermost form ends at a place
unfoldable pub reading_ended : Reading → ℕ → Reading
reading_ended r at =
    record { next = at; over = r.over; unknown = r.unknown; repeated = r.repeated; words = r.words; count = r.count; forms = r.forms; lefts = r.lefts; rights = r.rights }

unfoldable pub form_seen : List ℕ → Bytes → Read Form → Reading
form_seen ns s q = reading_ended (with_parts ns no_reading (parts 0 q.what)) (left_at s q)

unfoldable pub form_stored : List ℕ → Option (Read Form) → List ℕ → List ℕ
form_stored ns none ws = ws
form_stored ns (some q) ws = store_list (map (nodes_of ns) (form_conds q.what)) 0 ws

-- how many words are lent: every word costs five bytes of a line or more
abbrev pub max_words : ℕ
max_words = 102

-- a line that is not too long, and words enough
unfoldable pub readable : Bytes → List ℕ → Bool
readable s ws = cond (ltb max_line (length s)) false (leb max_words (length ws))

-- what is read of the form at a place, and the words with its conditions where nothing of it is out of bounds
pub record FormRead (ns : List ℕ) (s : Bytes) (at : ℕ) (ws ws' : List ℕ) (r : Found Reading) : Type 0 where
  pub is : r ≡ cond (readable s ws) (seen (form_seen ns s) (any_form (drop at s))) None
  pub stored : (x : Reading) → r ≡ Some x → x.over ≡ false → ws' ≡ form_stored ns (any_form (drop at s)) ws
  pub kept : length ws' ≡ length ws
