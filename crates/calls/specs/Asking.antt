-- Asking, and the rewritten line of a route.
use Rattle.std.specs.Prelude.{List, [], ◌∷◌, ◌++◌, Bool, true, false, ◌&&◌, not, ℕ, zero, suc, ℤ, pos, negsuc, ltb, length}
use Rattle.std.proofs.Math.Option.{Option, none, some}
use Rattle.refusal.specs.declared.Refusal.TheVariants.{Lent, NoRoute, ManyRoutes, NoRoom}
use Rattle.refusal.specs.Checks.{Check, refuse, first}
use Rattle.lists.specs.Lists.{empty?, every, distinct}
use Rattle.syntax.specs.Grammar.{Bytes, Form, RouteLine, query_text}
use Rattle.syntax.specs.Limits.{max_routes}
use Rattle.syntax.specs.Readers.{bind, ensure, parse_query}
use Rattle.model.specs.Queries.{Schema, Table, Record, Grant, Caller}
use Rattle.model.specs.Meaning.{plain}
use Rattle.model.specs.Checks.{placed, sized}
use Rattle.model.specs.Routes.{Route, routes}
use Rattle.model.specs.Rewriting.{rewritten}
use Rattle.model.specs.Answers.{answer_cells}
use Rattle.calls.specs.Names.{map_option, resolve, form_of, form_keeps}
use Rattle.calls.specs.Validity.{valid_record, valid_catalogue, valid_caller}
use Rattle.calls.specs.Replies.{written, Reply, reply}
use Rattle.calls.specs.Tables.{query_declared, same_ref, query_checks}
use Rattle.calls.specs.Calls.{calls_compute}

-- what is lent to a query: the record, the catalogue and the caller
unfoldable pub lent_valid : Record → List Grant → Caller → Bool
lent_valid x gs who = valid_record x && valid_catalogue x.schema gs && valid_caller who

-- the routes of a query that was read
unfoldable pub query_routes : Record → List Grant → Caller → Form → List Route
query_routes x gs who q = routes x.schema who gs (resolve x.schema q)

-- ---- the answer

unfoldable pub answer : Record → List Grant → Caller → Option Form → List ℤ
answer x gs who none = []
answer x gs who (some q) = answer_cells x who (query_routes x gs who q)

unfoldable pub answer_checks : Record → List Grant → Caller → List ℤ → Form → List Check
answer_checks x gs who lent q =
    refuse NoRoute (empty? (query_routes x gs who q))
    ∷ refuse ManyRoutes (ltb max_routes (length (query_routes x gs who q)))
    ∷ refuse NoRoom (ltb (length lent) (length (answer x gs who (some q))))
    ∷ []

-- 12, then the text's checks, then the query's own, then those of what it gives. `spare` brackets of the text are not counted.
unfoldable pub ask_table : Record → List Grant → Caller → ℕ → Bytes → Option Form → List ℤ → List Check
ask_table x gs who spare bs q lent = refuse Lent (not (lent_valid x gs who)) ∷ written spare bs q (λ f. query_checks x.schema f ++ answer_checks x gs who lent f)

unfoldable pub asked : Record → List Grant → Caller → ℕ → Bytes → Option Form → List ℤ → Reply ℤ
asked x gs who spare bs q lent = reply (first (ask_table x gs who spare bs q lent)) (answer x gs who q) lent

-- a query's text, put with cells lent
unfoldable pub ask : Record → List Grant → Caller → Bytes → List ℤ → Reply ℤ
ask x gs who bs lent = asked x gs who 0 bs (parse_query bs) lent

-- ---- the line of a route

unfoldable pub route_line : Schema → Caller → Route → Bytes
route_line d who r = query_text (form_of d (rewritten d who r))

-- routes are numbered from 1
unfoldable pub numbered_line : Schema → Caller → List Route → ℤ → Option Bytes
numbered_line d who [] n = none
numbered_line d who (r ∷ rs) (pos zero) = none
numbered_line d who (r ∷ rs) (pos (suc zero)) = some (route_line d who r)
numbered_line d who (r ∷ rs) (pos (suc (suc n))) = numbered_line d who rs (pos (suc n))
numbered_line d who (r ∷ rs) (negsuc n) = none

unfoldable pub some_bytes : Option Bytes → Bytes
some_bytes none = []
some_bytes (some bs) = bs

unfoldable pub no_line : Option Bytes → Bool
no_line none = true
no_line (some bs) = false

unfoldable pub line_given : Record → List Grant → Caller → RouteLine → Option Bytes
line_given x gs who l = numbered_line x.schema who (query_routes x gs who l.query) l.route

unfoldable pub printed_line : Record → List Grant → Caller → Option RouteLine → Bytes
printed_line x gs who none = []
printed_line x gs who (some l) = some_bytes (line_given x gs who l)

unfoldable pub line_checks : Record → List Grant → Caller → Bytes → RouteLine → List Check
line_checks x gs who lent l =
    refuse NoRoute (no_line (line_given x gs who l))
    ∷ refuse ManyRoutes (ltb max_routes (length (query_routes x gs who l.query)))
    ∷ refuse NoRoom (ltb (length lent) (length (printed_line x gs who (some l))))
    ∷ []

unfoldable pub line_table : Record → List Grant → Caller → ℕ → Bytes → Option RouteLine → Bytes → List Check
line_table x gs who spare bs l lent = refuse Lent (not (lent_valid x gs who)) ∷ written spare bs l (λ m. query_checks x.schema m.query ++ line_checks x gs who lent m)

unfoldable pub lined : Record → List Grant → Caller → ℕ → Bytes → Option RouteLine → Bytes → Reply ℕ
lined x gs who spare bs l lent = reply (first (line_table x gs who spare bs l lent)) (printed_line x gs who l) lent

unfoldable pub with_route : ℤ → Option Form → Option RouteLine
with_route n q = map_option (λ f. record { route = n; query = f }) q

-- a route's number and a query's text, put with bytes lent
unfoldable pub line : Record → List Grant → Caller → ℤ → Bytes → Bytes → Reply ℕ
line x gs who n bs lent = lined x gs who 0 bs (with_route n (parse_query bs)) lent

-- ---- a line run with no grants: checks 1, 2, 6, 4 and 5, and none of the bounds on what people write

unfoldable pub runnable : Schema → Form → Bool
runnable d q = query_declared d q && every (distinct same_ref) (form_keeps q) && placed d (resolve d q) && sized (resolve d q)

unfoldable pub run_line : Record → Bytes → Option Table
run_line x bs = bind (parse_query bs) (λ q. ensure (runnable x.schema q) (plain x (resolve x.schema q)))

-- To unfold this is to unfold every definition above.
unfoldable pub asking_computes : Unit {0}
unfolding calls_compute lent_valid query_routes answer answer_checks ask_table asked ask route_line numbered_line some_bytes no_line line_given printed_line line_checks line_table lined with_route line runnable run_line
asking_computes = tt
