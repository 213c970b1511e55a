-- What lent cells and bytes hold where a query or a line is not refused.
use Rattle.std.specs.Prelude.{◌≡◌, List, ◌++◌, ℕ, suc, ◌≤◌, ◌<◌, ℤ, pos, length, take, drop}
use Rattle.std.proofs.Math.Option.{Option, some}
use Rattle.lists.specs.Lists.{nth}
use Rattle.syntax.specs.Grammar.{Bytes, Form, RouteLine}
use Rattle.syntax.specs.Limits.{max_routes}
use Rattle.model.specs.Routes.{Route}
use Rattle.model.specs.Answers.{route_table, answer_cells}
use Rattle.calls.specs.Asking.{query_routes, route_line, run_line}
use Rattle.schema.specs.Schemas.{schema_of}
use Rattle.ledger.specs.Records.{record_of}
use Rattle.caller.specs.Callers.{caller_of}
use Rattle.grant.specs.Catalogues.{catalogue_of}
use Rattle.ask.specs.declared.Reply.{Reply}
use Rattle.ask.specs.Asking.{Lending}

-- the routes that the caller's grants open for a query
abbrev pub routes_of : Lending → Form → List Route
routes_of x q = query_routes (record_of x.memory) (catalogue_of x.memory.names x.grants x.granted) (caller_of x.caller) q

-- An answer, where `o` is what was read of the text: its query's routes are some, and no more than sixteen; the cells are those of the answer, of each route the rows of the query over the granted
-- views, and behind them all is as it was.
pub record Answered (x : Lending) (o : Option Form) (cells cells' : List ℤ) (r : Reply) : Type 0 where
  pub query : Form
  pub reads : o ≡ some query
  pub some_routes : 1 ≤ length (routes_of x query)
  pub few_routes : length (routes_of x query) ≤ max_routes
  pub count : r.count ≡ length (answer_cells (record_of x.memory) (caller_of x.caller) (routes_of x query))
  pub holds : cells' ≡ answer_cells (record_of x.memory) (caller_of x.caller) (routes_of x query) ++ drop r.count cells

-- A line: its query has no more than sixteen routes; the bytes are those of the line of the route of the number, and behind them all is as it was; read, checked and run with no grants they give
-- the route's rows.
pub record Lined (x : Lending) (o : Option RouteLine) (out out' : Bytes) (r : Reply) : Type 0 where
  pub line : RouteLine
  pub reads : o ≡ some line
  pub few_routes : length (routes_of x line.query) ≤ max_routes
  pub place : ℕ
  pub numbered_from_one : line.route ≡ pos (suc place)
  pub there : place < length (routes_of x line.query)
  pub route : Route
  pub at_place : (any : Route) → nth any (routes_of x line.query) place ≡ route
  pub count : r.count ≡ length (route_line (schema_of x.memory.names) (caller_of x.caller) route)
  pub holds : out' ≡ route_line (schema_of x.memory.names) (caller_of x.caller) route ++ drop r.count out
  pub runs : run_line (record_of x.memory) (take r.count out') ≡ some (route_table (record_of x.memory) (caller_of x.caller) route)
