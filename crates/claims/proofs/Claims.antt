-- What the definitions promise, in statements that can be read by themselves.
use mathlib.Core.Path.{◌≡◌}
use mathlib.Core.List.{List}
use mathlib.Core.Option.{some}
use Prim.Native.Nat.{◌≤◌}
use lib.IntN.{ℤ}
use lib.Dec.{T, leb→le}
use lib.ListN.{length}
use Rattle.refusal.specs.Checks.{passes}
use Rattle.lists.specs.Lists.{All}
use Rattle.lists.proofs.Laws.{parts}
use Rattle.syntax.specs.Grammar.{Bytes, Form, query_text}
use Rattle.syntax.specs.Limits.{max_forms, max_rewritten, max_line, max_printed}
use Rattle.model.specs.Queries.{forms, Record, Grant, Caller}
use Rattle.model.specs.Routes.{Route}
use Rattle.model.specs.Rewriting.{rewritten}
use Rattle.model.specs.Answers.{route_table}
use Rattle.model.specs.Alike.{Alike}
use Rattle.model.proofs.Weights as Weights
use Rattle.calls.specs.Names.{resolve}
use Rattle.calls.specs.Bounds.{form_count, form_bounded}
use Rattle.calls.specs.Validity.{valid_record, valid_catalogue, valid_caller}
use Rattle.calls.specs.Tables.{query_checks}
use Rattle.calls.specs.Calls.{Call, after}
use Rattle.calls.specs.Asking.{query_routes, ask, line, route_line, run_line}
use Rattle.calls.proofs.Accepted.{query_accepted}
use Rattle.calls.proofs.Valid as Valid
use Rattle.calls.proofs.Interference.{same_asked, same_lined}
use Rattle.claims.proofs.Known.{placed_allowed}
use Rattle.claims.proofs.Resolved.{resolved_forms}
use Rattle.claims.proofs.Printed as Printed
use Rattle.claims.proofs.Fitting as Fitting
use Rattle.claims.proofs.Fitting.{Written}

-- ---- the record

-- What a list of calls leaves is valid: no query after it is refused as 12 for its record. Times do not fall and are not past the clock.
pub valid_after : (cs : List Call) → T (valid_record (after cs))
valid_after = Valid.valid_after

-- ---- demand 2, second half

-- Of a valid record and catalogue, for every query that passes its checks: the line of each of its routes, read and run with no grants, gives the rows of the route.
pub printed : (x : Record) → T (valid_record x) → (gs : List Grant) → T (valid_catalogue x.schema gs) → (who : Caller) (q : Form) → T (passes (query_checks x.schema q))
    → All (λ (r : Route). run_line x (route_line x.schema who r) ≡ some (route_table x who r)) (query_routes x gs who q)
printed = Printed.printed

-- Each of these lines fits 4,096 bytes, where the grants were written in accepted lines of at most 512 bytes (`Written`) and so was the query.
pub line_fits : (x : Record) → T (valid_record x) → (gs : List Grant) → All (Written x.schema) gs → (who : Caller) → T (valid_caller who)
    → (q : Form) → length (query_text q) ≤ max_line → T (passes (query_checks x.schema q))
    → All (λ (r : Route). length (route_line x.schema who r) ≤ max_printed) (query_routes x gs who q)
unfolding valid_record query_routes
line_fits x v gs ws who w q l p = Fitting.line_fits x.schema (search parts) who w gs ws q l p

-- Its query has at most 16 forms.
pub sixteen_forms : (x : Record) (gs : List Grant) (who : Caller) (q : Form) → T (passes (query_checks x.schema q))
    → All (λ (r : Route). forms (rewritten x.schema who r) ≤ max_rewritten) (query_routes x gs who q)
unfolding query_routes form_bounded
sixteen_forms x gs who q p =
    let d = x.schema in
    let a = query_accepted d q p in
    let b = a.bounded in
    let l : form_count q ≤ max_forms = leb→le (form_count q) max_forms (search parts) in
    Weights.sixteen_forms d who gs (resolve d q) (placed_allowed d (resolve d q) a.places) (rw (resolved_forms d q) l)

-- ---- demand 3

-- After any two lists of calls, refused ones included, that leave a caller the same clock, streams, views and figures: every query of that caller,
-- whatever its text, with the same cells lent, gets the same count and cells, or the same refusal.
pub same_after : (cs ds : List Call) (who : Caller) (gs : List Grant) → Alike (after cs) (after ds) who gs
    → (bs : Bytes) (lent : List ℤ) → ask (after cs) gs who bs lent ≡ ask (after ds) gs who bs lent
unfolding ask
same_after cs ds who gs a bs lent = same_asked (after cs) (after ds) (valid_after cs) (valid_after ds) who gs a _ bs _ lent

-- And the same line for every route.
pub same_line_after : (cs ds : List Call) (who : Caller) (gs : List Grant) → Alike (after cs) (after ds) who gs
    → (n : ℤ) (bs lent : Bytes) → line (after cs) gs who n bs lent ≡ line (after ds) gs who n bs lent
unfolding line
same_line_after cs ds who gs a n bs lent = same_lined (after cs) (after ds) (valid_after cs) (valid_after ds) who gs a.clocks a.schemas _ bs _ lent
