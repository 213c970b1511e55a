-- The line printed for a route, read and run with no grants, gives the route's rows.
use mathlib.Core.Path.{◌≡◌, ap, ◌∙◌}
use mathlib.Core.List.{List}
use mathlib.Core.Bool.{◌&&◌, not}
use mathlib.Core.Option.{some}
use Prim.Native.Nat.{ℕ}
use lib.Dec.{T}
use Rattle.refusal.specs.Checks.{passes}
use Rattle.lists.specs.Lists.{every, empty?, distinct}
use Rattle.lists.proofs.Laws.{and_both, T_true, parts, All, all_weaken, all_both, every_all}
use Rattle.syntax.specs.Grammar.{Form, query_text}
use Rattle.syntax.specs.Readers.{bind, ensure}
use Rattle.syntax.proofs.Lines.{query_printed_parses}
use Rattle.model.specs.Queries.{Schema, same_col, Query, Grant, Caller, Record}
use Rattle.model.specs.Meaning.{plain}
use Rattle.model.specs.Checks.{placed, sized, keeps, grant_placed}
use Rattle.model.specs.Routes.{Route, routes}
use Rattle.model.specs.Rewriting.{rewritten}
use Rattle.model.specs.Answers.{route_table}
use Rattle.model.proofs.Rewriting.{rewriting}
use Rattle.model.proofs.Accepted.{accepted, sized_rewritten, sources_rewritten}
use Rattle.model.proofs.Keeps.{keeps_some, keeps_distinct}
use Rattle.calls.specs.Names.{resolve, form_of, form_keeps}
use Rattle.calls.specs.Validity.{valid_schema, valid_record, valid_grant, valid_catalogue}
use Rattle.calls.specs.Tables.{query_declared, same_ref, query_checks}
use Rattle.calls.specs.Asking.{query_routes, route_line, runnable, run_line}
use Rattle.calls.proofs.Accepted.{Accepted, query_accepted}
use Rattle.claims.proofs.Known.{Sourced, placed_allowed}
use Rattle.claims.proofs.Named.{named_resolves, named_formed, named_declared, named_distinct}
use Rattle.claims.proofs.Resolved.{resolved_sourced, resolved_distinct}

-- a rewritten query as it must be to have a text and to be run
pub record Runnable (d : Schema) (q : Query ℕ) : Type 0 where
  pub streams : Sourced d q
  pub places : T (placed d q)
  pub sizes : T (sized q)
  pub filled : T (keeps (λ cs. not (empty? cs)) q)
  pub once : T (keeps (distinct same_col) q)

record_schema : (x : Record) → T (valid_record x) → T (valid_schema x.schema)
unfolding valid_record
record_schema x h = search parts

grants_valid : (d : Schema) (gs : List Grant) → T (valid_catalogue d gs) → All (λ g. T (valid_grant d g)) gs
unfolding valid_catalogue
grants_valid d gs h = every_all (valid_grant d) gs (search parts)

pub grant_is_placed : (d : Schema) (g : Grant) → T (valid_grant d g) → T (grant_placed d g)
unfolding valid_grant
grant_is_placed d g h = search parts

form_runnable : (d : Schema) → T (valid_schema d) → (q : Query ℕ) → Runnable d q → T (runnable d (form_of d q))
unfolding runnable
form_runnable d v q r =
    let a = placed_allowed d q r.places in
    rw (named_resolves d v q r.streams a)
    (and_both (query_declared d (form_of d q) && every (distinct same_ref) (form_keeps (form_of d q)) && placed d q) _
    (and_both (query_declared d (form_of d q) && every (distinct same_ref) (form_keeps (form_of d q))) _
    (and_both (query_declared d (form_of d q)) _ (named_declared d v q r.streams a) (named_distinct d v q r.streams a r.once)) r.places) r.sizes)

-- a text that is printed for a query runs as the query
line_runs : (x : Record) → T (valid_record x) → (q : Query ℕ) → Runnable x.schema q → run_line x (query_text (form_of x.schema q)) ≡ some (plain x q)
unfolding run_line bind ensure
line_runs x v q r =
    let d = x.schema in
    let s = record_schema x v in
    let a = placed_allowed d q r.places in
    rw (query_printed_parses (form_of d q) (named_formed d s q r.streams a r.filled), T_true (runnable d (form_of d q)) (form_runnable d s q r), named_resolves d s q r.streams a)

routes_runnable : (d : Schema) (who : Caller) (gs : List Grant) → T (valid_catalogue d gs) → (f : Form) → Accepted d f → All (λ (r : Route). Runnable d (rewritten d who r)) (routes d who gs (resolve d f))
routes_runnable d who gs w f ok =
    all_weaken (λ r (e, ((p, z), (s, o))). record { streams = rw e (resolved_sourced d f ok.names); places = p; sizes = z; filled = s; once = o })
    (all_both (sources_rewritten d who gs (resolve d f))
    (all_both
    (all_both (accepted d who gs (all_weaken (grant_is_placed d) (grants_valid d gs w)) (resolve d f) ok.places ok.sizes) (sized_rewritten d who gs (resolve d f) ok.sizes))
    (all_both
    (keeps_some d who gs (resolve d f) (placed_allowed d (resolve d f) ok.places))
    (keeps_distinct d who gs (resolve d f) ok.places (resolved_distinct d f ok.names ok.places ok.sizes ok.once)))))

-- the line of each route, read and run with no grants, gives the route's rows
pub printed : (x : Record) → T (valid_record x) → (gs : List Grant) → T (valid_catalogue x.schema gs) → (who : Caller) → (f : Form) → T (passes (query_checks x.schema f))
    → All (λ (r : Route). run_line x (route_line x.schema who r) ≡ some (route_table x who r)) (query_routes x gs who f)
unfolding query_routes route_line
printed x v gs w who f h =
    let d = x.schema in
    let ok = query_accepted d f h in
    all_weaken (λ r (k, e). line_runs x v (rewritten d who r) k ∙ ap some e)
    (all_both (routes_runnable d who gs w f ok) (rewriting x who gs (resolve d f) (placed_allowed d (resolve d f) ok.places) ok.sizes))
