-- What a table of forms asks for, laid out flat: its streams, the conditions on the rows of each and on joined rows, the columns of the answer, and the
-- aggregate with the conditions on its figures. Forms are taken from the last to the first, so that the forms inside one come before it.
use Rattle.std.specs.Prelude.{List, [], ◌∷◌, ◌++◌, map, Bool, true, false, ◌&&◌, ◌||◌, not, cond, ℕ, suc, ◌+◌, ◌*◌, ◌-◌, leb, ltb, eqb, length, get_or, set, replicate}
use Rattle.lists.specs.Lists.{count_from}
use Rattle.syntax.specs.Grammar.{Cond, ge, le, numbered_fn}
use Rattle.syntax.specs.Limits.{max_columns, max_forms}
use Rattle.model.specs.Queries.{Compare, Table, Record}
use Rattle.model.specs.Meaning.{kept, pairs, equality, aggregated, table_of}
use Rattle.model.specs.Grants.{fill, limit, limited}
use Rattle.schema.specs.Schemas.{streams_in, width_in}
use Rattle.grant.specs.Grants.{limit_of, no_time}
use Rattle.grant.specs.Catalogues.{words_in}
use Rattle.nodes.specs.Nodes.{conditions_of}
use Rattle.orders.specs.Orders.{order_end, codes_in, order_of, order_from}
use Rattle.query.specs.declared.Form.{Form}
use Rattle.query.specs.Forms.{Words, rows_form, pick_form, keep_form, form_order, join_form, aggregate_form, coded_col, cols_in, cond_at, queries_in}
use Rattle.plan.specs.declared.View.{View}
use Rattle.plan.specs.declared.Plan.{Plan}

-- ---- a grant's view

-- no conditions and no times
unfoldable pub no_view : View
no_view = record { place = 0; words = 0; from = no_time; to = no_time }

unfoldable pub view_of : Form → View
view_of f = record { place = f.first; words = f.second; from = f.third; to = f.fourth }

-- its conditions with the profile put in, then its times
unfoldable pub view_limits : Words → View → List (Cond Compare)
view_limits w v =
    map (fill w.profile) (conditions_of (words_in w.granted v.place) v.words) ++ (limit ge (limit_of v.from) ++ limit le (limit_of v.to))

-- ---- form by form

unfoldable pub no_plan : Plan
no_plan =
    record {
      left = 0;
      right = 0;
      joined = false;
      first = 0;
      second = 0;
      order = 0;
      other = 0;
      number = 0;
      column = 0;
      size = 0;
      offset = 0;
      start = 0;
      rights = 0;
      lefts = 0;
      uppers = 0;
      count = 0;
      picks = replicate max_forms 0;
      view = no_view;
      lview = no_view;
      rview = no_view;
    }

-- all columns of a stream
unfoldable pub stream_order : List ℕ → ℕ → ℕ
stream_order ns s = order_of (map (λ c. s * max_columns + c) (count_from 0 (width_in ns s)))

-- a stream: what came before it may be the right side of a join
unfoldable pub with_rows : List ℕ → Form → Plan → Plan
with_rows ns f p =
    record {
      left = f.first;
      right = p.left;
      joined = false;
      first = 0;
      second = 0;
      order = stream_order ns f.first;
      other = p.order;
      number = 0;
      column = 0;
      size = 0;
      offset = 0;
      start = p.rights;
      rights = p.count;
      lefts = 0;
      uppers = 0;
      count = p.count;
      picks = p.picks;
      view = no_view;
      lview = no_view;
      rview = p.view;
    }

-- a condition more
unfoldable pub with_pick : Form → Plan → Plan
with_pick f p =
    record {
      left = p.left;
      right = p.right;
      joined = p.joined;
      first = p.first;
      second = p.second;
      order = p.order;
      other = p.other;
      number = p.number;
      column = p.column;
      size = p.size;
      offset = p.offset;
      start = p.start;
      rights = p.rights;
      lefts = p.lefts;
      uppers = p.uppers;
      count = cond (ltb p.count max_forms) (suc p.count) p.count;
      picks = cond (ltb p.count max_forms) (set p.picks p.count f.first) p.picks;
      view = p.view;
      lview = p.lview;
      rview = p.rview;
    }

-- other columns
unfoldable pub with_keep : Form → Plan → Plan
with_keep f p =
    record {
      left = p.left;
      right = p.right;
      joined = p.joined;
      first = p.first;
      second = p.second;
      order = form_order f;
      other = p.other;
      number = p.number;
      column = p.column;
      size = p.size;
      offset = p.offset;
      start = p.start;
      rights = p.rights;
      lefts = p.lefts;
      uppers = p.uppers;
      count = p.count;
      picks = p.picks;
      view = p.view;
      lview = p.lview;
      rview = p.rview;
    }

-- two sides made one
unfoldable pub with_join : Form → Plan → Plan
with_join f p =
    record {
      left = p.left;
      right = p.right;
      joined = true;
      first = f.first;
      second = f.second;
      order = order_from p.order (codes_in p.other);
      other = p.other;
      number = 0;
      column = 0;
      size = 0;
      offset = 0;
      start = p.start;
      rights = p.rights;
      lefts = p.count;
      uppers = 0;
      count = p.count;
      picks = p.picks;
      view = no_view;
      lview = p.view;
      rview = p.rview;
    }

-- the conditions that follow are asked of its figures
unfoldable pub with_aggregate : Form → Plan → Plan
with_aggregate f p =
    record {
      left = p.left;
      right = p.right;
      joined = p.joined;
      first = p.first;
      second = p.second;
      order = p.order;
      other = p.other;
      number = f.first;
      column = f.second;
      size = f.third;
      offset = f.fourth;
      start = p.start;
      rights = p.rights;
      lefts = p.lefts;
      uppers = p.count;
      count = p.count;
      picks = p.picks;
      view = p.view;
      lview = p.lview;
      rview = p.rview;
    }

-- a grant's view
unfoldable pub with_view : Form → Plan → Plan
with_view f p =
    record {
      left = p.left;
      right = p.right;
      joined = p.joined;
      first = p.first;
      second = p.second;
      order = p.order;
      other = p.other;
      number = p.number;
      column = p.column;
      size = p.size;
      offset = p.offset;
      start = p.start;
      rights = p.rights;
      lefts = p.lefts;
      uppers = p.uppers;
      count = p.count;
      picks = p.picks;
      view = view_of f;
      lview = p.lview;
      rview = p.rview;
    }

unfoldable pub plan_step : List ℕ → Form → Plan → Plan
plan_step ns f p =
    cond (eqb f.kind rows_form) (with_rows ns f p)
    (cond (eqb f.kind pick_form) (with_pick f p)
    (cond (eqb f.kind keep_form) (with_keep f p)
    (cond (eqb f.kind join_form) (with_join f p)
    (cond (eqb f.kind aggregate_form) (with_aggregate f p) (with_view f p)))))

-- the plan of a list of forms
unfoldable pub plan_in : List ℕ → List Form → Plan
plan_in ns [] = no_plan
plan_in ns (f ∷ fs) = plan_step ns f (plan_in ns fs)

-- the streams that it reads
unfoldable pub plan_streams : Plan → List ℕ
plan_streams p = cond p.joined (p.left ∷ (p.right ∷ [])) (p.left ∷ [])

-- ---- its conditions

-- the picks from one place of the list up to another
unfoldable pub picks_in : Words → Plan → ℕ → ℕ → List (Cond Compare)
picks_in w p a b = map (λ i. cond_at w.own (get_or p.picks i 0)) (count_from a (b - a))

-- where the picks below the aggregate end
unfoldable pub inner_end : Plan → ℕ
inner_end p = cond (eqb p.number 0) p.count p.uppers

-- those of the right side of a join, of the left, and of the stream where there is no join
unfoldable pub right_conds : Words → Plan → List (Cond Compare)
right_conds w p = picks_in w p p.start p.rights ++ view_limits w p.rview

unfoldable pub left_conds : Words → Plan → List (Cond Compare)
left_conds w p = cond p.joined (picks_in w p p.rights p.lefts ++ view_limits w p.lview) (picks_in w p p.rights (inner_end p) ++ view_limits w p.view)

-- those of joined rows
unfoldable pub pair_conds : Words → Plan → List (Cond Compare)
pair_conds w p = picks_in w p p.lefts (inner_end p) ++ view_limits w p.view

-- those of an aggregate's figures
unfoldable pub outer_conds : Words → Plan → List (Cond Compare)
outer_conds w p = picks_in w p p.uppers p.count

-- ---- the table that it asks for, given those of the streams

-- the rows of the stream, or the joined rows, that meet all conditions below the aggregate
unfoldable pub inner_table : (ℕ → Table) → Words → Plan → Table
inner_table tab w p =
    cond p.joined
    (limited (pair_conds w p ++ (equality (coded_col p.first) (coded_col p.second) ∷ []))
    (pairs (limited (left_conds w p) (tab p.left)) (limited (right_conds w p) (tab p.right))))
    (limited (left_conds w p) (tab p.left))

-- the figures of these rows that meet the conditions above the aggregate
unfoldable pub figure_table : ℕ → (ℕ → Table) → Words → Plan → Table
figure_table clock tab w p =
    limited (outer_conds w p) (aggregated clock (numbered_fn p.number) (coded_col p.column) p.size p.offset (inner_table tab w p))

-- figures, or rows with the columns of the answer
unfoldable pub planned : Record → Words → Plan → Table
planned x w p =
    cond (eqb p.number 0) (kept (cols_in p.order) (inner_table (table_of x) w p)) (figure_table x.clock (table_of x) w p)

-- ---- tables whose forms stand as a rewritten query's do

-- no view and no aggregate around the innermost stream or join
unfoldable pub viewless : List Form → Bool
viewless [] = false
viewless (f ∷ fs) =
    eqb f.kind rows_form || eqb f.kind join_form || (eqb f.kind pick_form || eqb f.kind keep_form) && viewless fs

-- a stream is declared, and any other form has the queries that it takes; columns have an order, an aggregate has its number, and a view stands around a
-- stream or a join that has none
unfoldable pub form_regular : Words → List ℕ → Form → List Form → Bool
form_regular w ns f fs =
    cond (eqb f.kind rows_form) (ltb f.first (streams_in ns))
    (cond (eqb f.kind pick_form) (leb 1 (length (queries_in w fs)))
    (cond (eqb f.kind keep_form) (leb 1 (length (queries_in w fs)) && ltb (form_order f) order_end)
    (cond (eqb f.kind join_form) (leb 2 (length (queries_in w fs)))
    (cond (eqb f.kind aggregate_form) (leb 1 (length (queries_in w fs)) && not (eqb f.first 0)) (leb 1 (length (queries_in w fs)) && viewless fs)))))

unfoldable pub regular : Words → List ℕ → List Form → Bool
regular w ns [] = true
regular w ns (f ∷ fs) = form_regular w ns f fs && regular w ns fs

-- how many conditions it has of its own
unfoldable pub pick_count : List Form → ℕ
pick_count [] = 0
pick_count (f ∷ fs) = cond (eqb f.kind pick_form) (suc (pick_count fs)) (pick_count fs)
