-- The forms of a rewritten query by the kind of its route, made of the query's forms and of the grants that open it.
use Rattle.std.specs.Prelude.{List, [], ◌∷◌, ◌++◌, cond, ℕ, eqb}
use Rattle.std.specs.Int.Bits.{bit_or}
use Rattle.orders.specs.Orders.{codes_in, order_from, order_of, order_within}
use Rattle.grant.specs.Grants.{column_codes}
use Rattle.query.specs.Forms.{rows_form, pick_form, keep_form, keep_of, form_order, join_form, aggregate_form, under_form}
use Rattle.query.specs.Tables.{blank}
use Rattle.query.specs.declared.Form.{Form}
use Rattle.rewrite.specs.declared.Restriction.{Restriction}

-- ---- forms

abbrev pub under_of : Restriction → Form
under_of g = record { kind = under_form; first = g.place; second = g.words; third = g.from; fourth = g.to }

-- a keep's columns as far as they are shown
unfoldable pub cut_form : ℕ → Form → Form
cut_form mask f = cond (eqb f.kind keep_form) (keep_of (order_within mask (form_order f))) f

-- the columns of some streams that a grant shows, in the streams' order
unfoldable pub shown_order : List ℕ → List ℕ → Restriction → ℕ
shown_order ns ss g = order_within g.shown (order_of (column_codes ns ss))

-- ---- a grant for each stream

-- a stream as a grant shows it
unfoldable pub seen_forms : List ℕ → Restriction → Form → List Form
seen_forms ns g f = keep_of (shown_order ns (f.first ∷ []) g) ∷ under_of g ∷ f ∷ []

-- a grant for the first stream, another for those after it
unfoldable pub cut_forms : List ℕ → ℕ → Restriction → Restriction → List Form → List Form
cut_forms ns mask g h [] = []
cut_forms ns mask g h (f ∷ fs) =
    cond (eqb f.kind rows_form) (seen_forms ns g f ++ cut_forms ns mask h h fs) (cut_form mask f ∷ cut_forms ns mask g h fs)

unfoldable pub side_forms : List ℕ → Restriction → Restriction → List Form → List Form
side_forms ns g h fs = cut_forms ns (bit_or g.shown h.shown) g h fs

-- ---- a grant on the pair

-- of a join's side: its picks, its stream, the forms after it, and its columns in their order
unfoldable pub side_picks : List Form → List Form
side_picks [] = []
side_picks (f ∷ fs) = cond (eqb f.kind rows_form) [] (cond (eqb f.kind pick_form) (f ∷ side_picks fs) (side_picks fs))

unfoldable pub side_stream : List Form → Form
side_stream [] = blank
side_stream (f ∷ fs) = cond (eqb f.kind rows_form) f (side_stream fs)

unfoldable pub side_rest : List Form → List Form
side_rest [] = []
side_rest (f ∷ fs) = cond (eqb f.kind rows_form) fs (side_rest fs)

unfoldable pub side_order : List ℕ → List Form → ℕ
side_order ns [] = 0
side_order ns (f ∷ fs) =
    cond (eqb f.kind rows_form) (order_of (column_codes ns (f.first ∷ []))) (cond (eqb f.kind keep_form) (form_order f) (side_order ns fs))

-- the columns of both sides as far as they are shown
unfoldable pub pair_order : List ℕ → ℕ → List Form → ℕ
pair_order ns mask fs = order_from (order_within mask (side_order ns fs)) (codes_in (order_within mask (side_order ns (side_rest fs))))

-- a grant's view of the pair
unfoldable pub view_forms : List ℕ → Restriction → Form → Form → Form → List Form
view_forms ns g j a b = keep_of (shown_order ns (a.first ∷ b.first ∷ []) g) ∷ under_of g ∷ j ∷ a ∷ b ∷ []

-- a join of the forms after it: the sides' picks around the view, then one keep of the columns that the sides keep
unfoldable pub joined_forms : List ℕ → Restriction → Form → List Form → List Form
joined_forms ns g j fs =
    keep_of (pair_order ns g.shown fs)
    ∷ (side_picks (side_rest fs) ++ (side_picks fs ++ view_forms ns g j (side_stream fs) (side_stream (side_rest fs))))

unfoldable pub pair_forms : List ℕ → Restriction → List Form → List Form
pair_forms ns g [] = []
pair_forms ns g (f ∷ fs) = cond (eqb f.kind join_form) (joined_forms ns g f fs) (cut_form g.shown f ∷ pair_forms ns g fs)

-- ---- an aggregate grant on one stream

unfoldable pub sum_forms : List ℕ → Restriction → List Form → List Form
sum_forms ns g [] = []
sum_forms ns g (f ∷ fs) = f ∷ cond (eqb f.kind aggregate_form) (seen_forms ns g (side_stream fs)) (sum_forms ns g fs)
