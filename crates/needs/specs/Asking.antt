-- What a query asks of grants, as numbers: of any query by its forms, and of a table of forms from the last to the first.
use Rattle.std.specs.Prelude.{List, [], ◌∷◌, false, ◌&&◌, ◌||◌, cond, ℕ, ◌+◌, ◌*◌, ◌^◌, ltb, eqb}
use Rattle.std.specs.Int.Bits.{bit_and, bit_or}
use Rattle.lists.specs.Lists.{gather}
use Rattle.syntax.specs.Grammar.{fn_number, numbered_fn}
use Rattle.syntax.specs.Limits.{max_columns}
use Rattle.model.specs.Conditions.{tests}
use Rattle.model.specs.Queries.{Col, col, figure, Query, source, pick, keep, join, aggregate}
use Rattle.masks.specs.Masks.{bit?, mask_of}
use Rattle.orders.specs.Orders.{codes_in}
use Rattle.terms.specs.Terms.{time_code, figure_code}
use Rattle.nodes.specs.Nodes.{link}
use Rattle.grant.specs.Grants.{streams_mask}
use Rattle.query.specs.Forms.{rows_form, pick_form, keep_form, form_order, join_form, aggregate_form}
use Rattle.query.specs.declared.Form.{Form}
use Rattle.comparisons.specs.Compared.{compared, col_codes, named_by, column_code}
use Rattle.needs.specs.declared.Needs.{Needs}
use Rattle.needs.specs.declared.Sides.{Sides}

-- ---- columns as bits

-- the number of no stream
abbrev pub no_stream : ℕ
no_stream = 4294967295

-- the bits of all columns
abbrev pub all_columns : ℕ
all_columns = 16777215

-- those of some columns
unfoldable pub bits_of : List Col → ℕ
bits_of cs = mask_of (gather col_codes cs)

-- that of one by its code
unfoldable pub code_bit : ℕ → ℕ
code_bit c = cond (ltb c time_code) (2 ^ c) 0

-- the code of a column of a query
unfoldable pub col_code : Col → ℕ
col_code (col s c) = s * max_columns + c
col_code figure = figure_code

-- the number of the aggregate that a form's number stands for
unfoldable pub form_fn : ℕ → ℕ
form_fn n = fn_number (numbered_fn n)

-- ---- by the form of the query

unfoldable pub rows_needs : List ℕ → ℕ → Needs
rows_needs ns s =
    record {
      left = s;
      right = no_stream;
      need = 0;
      keys = 0;
      first = 0;
      second = 0;
      header = streams_mask ns (s ∷ []);
      timed = false;
      picked = false;
      aggregate = 0;
      column = 0;
      size = 0;
      offset = 0;
    }

-- a pick by what its condition names: a pick above the aggregate names its figures alone, and above the join `time` is the joined rows'
unfoldable pub pick_needs : ℕ → Needs → Needs
pick_needs m n =
    record {
      left = n.left;
      right = n.right;
      need = bit_or (bit_and m all_columns) n.need;
      keys = n.keys;
      first = n.first;
      second = n.second;
      header = n.header;
      timed = n.timed || eqb n.right no_stream && bit? m time_code;
      picked = n.picked || eqb n.aggregate 0;
      aggregate = n.aggregate;
      column = n.column;
      size = n.size;
      offset = n.offset;
    }

unfoldable pub keep_needs : ℕ → Needs → Needs
keep_needs m n =
    record {
      left = n.left;
      right = n.right;
      need = n.need;
      keys = n.keys;
      first = n.first;
      second = n.second;
      header = m;
      timed = n.timed;
      picked = n.picked;
      aggregate = n.aggregate;
      column = n.column;
      size = n.size;
      offset = n.offset;
    }

unfoldable pub join_needs : ℕ → ℕ → Needs → Needs → Needs
join_needs a b l r =
    record {
      left = l.left;
      right = r.left;
      need = bit_or l.need r.need;
      keys = bit_or (code_bit a) (code_bit b);
      first = a;
      second = b;
      header = bit_or l.header r.header;
      timed = l.timed || r.timed;
      picked = l.picked || r.picked;
      aggregate = 0;
      column = 0;
      size = 0;
      offset = 0;
    }

unfoldable pub aggregate_needs : ℕ → ℕ → ℕ → ℕ → Needs → Needs
aggregate_needs f c size offset n =
    record {
      left = n.left;
      right = n.right;
      need = bit_or (code_bit c) n.need;
      keys = n.keys;
      first = n.first;
      second = n.second;
      header = 0;
      timed = n.timed;
      picked = n.picked;
      aggregate = f;
      column = c;
      size = size;
      offset = offset;
    }

-- its streams, the columns of its picks and of its aggregate, those of its equality with their codes, those of its answer, a pick on `time` below the join,
-- a pick below the aggregate, and the aggregate (0 for none) with its column, SIZE and OFFSET
unfoldable pub needs_of : List ℕ → Query ℕ → Needs
needs_of ns (source s) = rows_needs ns s
needs_of ns (pick c q) = pick_needs (named_by (tests c)) (needs_of ns q)
needs_of ns (keep cs q) = keep_needs (bits_of cs) (needs_of ns q)
needs_of ns (join a b q r) = join_needs (col_code a) (col_code b) (needs_of ns q) (needs_of ns r)
needs_of ns (aggregate f c size offset q) = aggregate_needs (fn_number f) (col_code c) size offset (needs_of ns q)

-- ---- by a table of forms: what the first two of the queries that follow ask

unfoldable pub outer_needs : Needs → Sides → Sides
outer_needs n s = record { outer = n; inner = s.inner }

-- a join or an aggregate; any other form, which no query has, changes nothing
unfoldable pub wide_needs : Form → Sides → Sides
wide_needs f s =
    cond (eqb f.kind join_form) (outer_needs (join_needs (column_code f.first) (column_code f.second) s.outer s.inner) s)
    (cond (eqb f.kind aggregate_form) (outer_needs (aggregate_needs (form_fn f.first) (column_code f.second) f.third f.fourth s.outer) s)
    s)

unfoldable pub form_needs : List ℕ → List ℕ → Form → Sides → Sides
form_needs ns ws f s =
    cond (eqb f.kind rows_form) (record { outer = rows_needs ns f.first; inner = s.outer })
    (cond (eqb f.kind pick_form) (outer_needs (pick_needs (named_by (compared ws (link ws f.first) f.first)) s.outer) s)
    (cond (eqb f.kind keep_form) (outer_needs (keep_needs (bit_and (mask_of (codes_in (form_order f))) all_columns) s.outer) s)
    (wide_needs f s)))

unfoldable pub no_needs : List ℕ → Sides
no_needs ns = record { outer = rows_needs ns 0; inner = rows_needs ns 0 }

unfoldable pub needs_from : List ℕ → List ℕ → List Form → Sides
needs_from ns ws [] = no_needs ns
needs_from ns ws (f ∷ fs) = form_needs ns ws f (needs_from ns ws fs)

unfoldable pub needs_in : List ℕ → List ℕ → List Form → Needs
needs_in ns ws fs = (needs_from ns ws fs).outer
