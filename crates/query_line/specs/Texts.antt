-- A query by its whole text: alone, in an `ask` line and, with a route's number, in a `line` line.
use Rattle.std.specs.Prelude.{◌≡◌, List, map, Bool, true, false, cond, ℕ, ◌-◌, ℤ, pos, T, leb, ltb, length}
use Rattle.std.proofs.Math.Option.{Option, none, some}
use Rattle.refusal.specs.Checks.{first, table}
use Rattle.syntax.specs.Grammar as G
use Rattle.syntax.specs.Grammar.{Bytes, Form, RouteLine}
use Rattle.syntax.specs.Limits.{max_line}
use Rattle.syntax.specs.Readers.{parse_as, parse_query}
use Rattle.calls.specs.Names.{form_conds, map_option}
use Rattle.calls.specs.Tables.{query_checks}
use Rattle.calls.specs.Replies.{written}
use Rattle.text.specs.Words.{clamp}
use Rattle.schema.specs.Schemas.{schema_of, schema_sound}
use Rattle.nodes.specs.Storing.{store_list}
use Rattle.conditions.specs.Seeing.{nodes_of}
use Rattle.query_read.specs.Seeing.{max_words}
use Rattle.query_line.specs.Asking.{unread_asked, asked_form, Means}
use Rattle.query_line.specs.declared.Asked.{Asked}
use Rattle.query_line.specs.declared.Routed.{Routed}

unfoldable pub unread_routed : Bool → Routed
unread_routed long = record { route = pos 0; asked = unread_asked long }

unfoldable pub routed_of : ℤ → Asked → Routed
routed_of n a = record { route = n; asked = a }

-- the number of a route, where there is one
unfoldable pub route_said : Option RouteLine → ℤ
route_said none = pos 0
route_said (some l) = clamp l.route

-- the query that a text says, ending at a place, and the words with its conditions
unfoldable pub said_asked : List ℕ → Option Form → ℕ → Asked
said_asked ns none next = unread_asked false
said_asked ns (some q) next = asked_form ns q next

unfoldable pub said_stored : List ℕ → Option Form → List ℕ → List ℕ
said_stored ns none ws = ws
said_stored ns (some q) ws = store_list (map (nodes_of ns) (form_conds q)) 0 ws

-- by its whole text, of which `spare` brackets follow it
unfoldable pub text_asked : ℕ → Option Form → List ℕ → Bytes → List ℕ → Asked
text_asked spare o ns s ws = cond (ltb max_line (length s)) (unread_asked true) (cond (leb max_words (length ws)) (said_asked ns o (length s - spare)) (unread_asked false))

-- What is read, and the words with its conditions where nothing of it is out of bounds; its checks, and the table and words that stand for it where none of them fails.
-- `spare` brackets of the text are not counted.
pub record Told {A : Type 0} (form : A → Form) (spare : ℕ) (o : Option A) (ns : List ℕ) (s : Bytes) (ws ws' : List ℕ) (r : Asked) : Type 0 where
  pub is : r ≡ text_asked spare (map_option form o) ns s ws
  pub stored : r.checks.malformed ≡ false → r.checks.bound ≡ false → ws' ≡ said_stored ns (map_option form o) ws
  pub checks : T (schema_sound ns) → T (leb max_words (length ws)) → first (table r.checks) ≡ first (written spare s o (λ a. query_checks (schema_of ns) (form a)))
  pub query : T (schema_sound ns) → T (leb max_words (length ws)) → (a : A) → o ≡ some a → first (written spare s o (λ a. query_checks (schema_of ns) (form a))) ≡ none
      → Means (schema_of ns) (form a) ws' r.query
  pub kept : length ws' ≡ length ws

-- the text of a query alone
abbrev pub QueryTold : List ℕ → Bytes → List ℕ → List ℕ → Asked → Type 0
QueryTold ns s ws ws' r = Told (λ q. q) 0 (parse_query s) ns s ws ws' r

-- `(ask Q)`
abbrev pub AskTold : List ℕ → Bytes → List ℕ → List ℕ → Asked → Type 0
AskTold ns s ws ws' r = Told (λ q. q) 1 (parse_as G.ask s) ns s ws ws' r

-- `(line R Q)`
pub record RouteTold (ns : List ℕ) (s : Bytes) (ws ws' : List ℕ) (r : Routed) : Type 0 where
  pub told : Told (λ l. l.query) 1 (parse_as G.line s) ns s ws ws' r.asked
  pub route : r.route ≡ cond r.asked.checks.malformed (pos 0) (route_said (parse_as G.line s))
