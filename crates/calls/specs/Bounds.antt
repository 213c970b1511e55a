-- What a line holds is within the bounds on what people write (check 3).
use Rattle.std.specs.Prelude.{◌∷◌, Bool, true, ◌&&◌, ℕ, suc, ◌+◌, ℤ, leb, length}
use Rattle.std.proofs.Math.Option.{Option, none, some}
use Rattle.lists.specs.Lists.{every}
use Rattle.syntax.specs.Grammar as G
use Rattle.syntax.specs.Grammar.{Cond, Form, Test, Span, Stream, RowLine, Caller, GrantLine}
use Rattle.syntax.specs.Limits.{max_columns, max_forms, max_roles, max_entries, is_value, is_time, not_above, short, short_ref}
use Rattle.calls.specs.Names.{cond_refs, cond_numbers, show_refs, form_streams, form_refs, form_conds, form_spans, names_compute}

unfoldable pub cond_bounded : Cond Test → Bool
cond_bounded c = every short_ref (cond_refs c) && every is_value (cond_numbers c)

-- forms besides conditions
unfoldable pub form_count : Form → ℕ
form_count (G.rows s) = 1
form_count (G.pick c q) = suc (form_count q)
form_count (G.keep rs q) = suc (form_count q)
form_count (G.join a b q r) = suc (form_count q + form_count r)
form_count (G.aggregate f c size offset q) = suc (form_count q)

unfoldable pub form_bounded : Form → Bool
form_bounded q =
    every short (form_streams q) && every short_ref (form_refs q) && every cond_bounded (form_conds q)
    && every (λ w. not_above w.size && not_above w.offset) (form_spans q) && leb (form_count q) max_forms

unfoldable pub stream_bounded : Stream → Bool
stream_bounded s = every short (s.name ∷ s.columns) && leb (length s.columns) max_columns

unfoldable pub row_bounded : RowLine → Bool
row_bounded w = short w.name && every is_value w.values

unfoldable pub is_limit : Option ℤ → Bool
is_limit none = true
is_limit (some n) = is_time n

unfoldable pub is_span : Option Span → Bool
is_span none = true
is_span (some w) = is_time w.size && is_time w.offset

unfoldable pub grant_bounded : GrantLine → Bool
grant_bounded g =
    short g.role && every short g.of && every short_ref (show_refs g.show) && every cond_bounded g.when
    && is_limit g.from && is_limit g.to && is_span g.window

unfoldable pub caller_bounded : Caller → Bool
caller_bounded w =
    leb (length w.roles) max_roles && leb (length w.profile) max_entries && every short w.roles
    && every (λ e. short e.name && is_value e.value) w.profile

-- To unfold this is to unfold every definition above.
unfoldable pub bounds_compute : Unit {0}
unfolding names_compute cond_bounded form_count form_bounded stream_bounded row_bounded is_limit is_span grant_bounded caller_bounded
bounds_compute = tt
