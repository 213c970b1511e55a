-- The query that a table of forms stands for. A form stands before the forms inside it, a join's left side before its right.
use Rattle.std.specs.Prelude.{List, [], ◌∷◌, ◌++◌, map, cond, ℕ, ◌+◌, ◌*◌, ◌/◌, ◌%◌, ltb, eqb}
use Rattle.syntax.specs.Grammar.{numbered_fn, ge, le, Cond, Entry}
use Rattle.syntax.specs.Limits.{max_columns}
use Rattle.model.specs.Queries.{Col, col, figure, Compare, Query, source, pick, keep, join, aggregate}
use Rattle.model.specs.Grants.{fill, limit}
use Rattle.model.specs.Rewriting.{under}
use Rattle.nodes.specs.Nodes.{cond_in, conditions_of}
use Rattle.grant.specs.Grants.{limit_of}
use Rattle.grant.specs.Catalogues.{words_in}
use Rattle.terms.specs.Terms.{time_code}
use Rattle.orders.specs.Orders.{codes_in}
use Rattle.query.specs.declared.Form.{Form}

-- ---- the words that forms point into, and the profile that is put into a grant's conditions

pub record Words : Type 0 where
  pub own : List ℕ
  pub granted : List ℕ
  pub profile : List Entry

-- ---- columns

-- a column by its code; any that no stream has is the aggregate's
unfoldable pub coded_col : ℕ → Col
coded_col c = cond (ltb c time_code) (col (c / max_columns) (c % max_columns)) figure

-- columns in an order
unfoldable pub cols_in : ℕ → List Col
cols_in m = map coded_col (codes_in m)

-- ---- kinds of forms

abbrev pub rows_form : ℕ
rows_form = 0

abbrev pub pick_form : ℕ
pick_form = 1

abbrev pub keep_form : ℕ
keep_form = 2

abbrev pub join_form : ℕ
join_form = 3

abbrev pub aggregate_form : ℕ
aggregate_form = 4

-- a grant's conditions and times around what its view is taken of: any other number
abbrev pub under_form : ℕ
under_form = 5

-- a keep of the columns of an order, which stands in two halves
abbrev pub half_end : ℕ
half_end = 4294967296

abbrev pub keep_of : ℕ → Form
keep_of m = record { kind = keep_form; first = 0; second = 0; third = m % half_end; fourth = m / half_end }

unfoldable pub form_order : Form → ℕ
form_order f = f.third + f.fourth * half_end

-- ---- conditions

-- the condition whose words end at a place
unfoldable pub cond_at : List ℕ → ℕ → Cond Compare
cond_at ws k = cond_in (2 * k) ws k

-- those of a grant with the profile put in, then its times
unfoldable pub limits_at : Words → Form → List (Cond Compare)
limits_at w f =
    map (fill w.profile) (conditions_of (words_in w.granted f.first) f.second) ++ (limit ge (limit_of f.third) ++ limit le (limit_of f.fourth))

-- ---- tables

-- the query that is first of some
unfoldable pub outer : List (Query ℕ) → Query ℕ
outer [] = source 0
outer (q ∷ qs) = q

unfoldable pub inner : List (Query ℕ) → List (Query ℕ)
inner [] = []
inner (q ∷ qs) = qs

-- a form in front of the queries that follow it: a stream is one more, a join takes two of them, any other one
unfoldable pub with_form : Words → Form → List (Query ℕ) → List (Query ℕ)
with_form w f qs =
    cond (eqb f.kind rows_form) (source f.first ∷ qs)
    (cond (eqb f.kind pick_form) (pick (cond_at w.own f.first) (outer qs) ∷ inner qs)
    (cond (eqb f.kind keep_form) (keep (cols_in (form_order f)) (outer qs) ∷ inner qs)
    (cond (eqb f.kind join_form) (join (coded_col f.first) (coded_col f.second) (outer qs) (outer (inner qs)) ∷ inner (inner qs))
    (cond (eqb f.kind aggregate_form) (aggregate (numbered_fn f.first) (coded_col f.second) f.third f.fourth (outer qs) ∷ inner qs)
    (under (limits_at w f) (outer qs) ∷ inner qs)))))

-- the queries of a list of forms
unfoldable pub queries_in : Words → List Form → List (Query ℕ)
queries_in w [] = []
queries_in w (f ∷ fs) = with_form w f (queries_in w fs)

unfoldable pub query_in : Words → List Form → Query ℕ
query_in w fs = outer (queries_in w fs)
