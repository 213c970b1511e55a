-- What is read of a query's text.
use Rattle.std.specs.Prelude.{◌≡◌, List, ℕ, ◌≤◌, pos, T, length}
use Rattle.std.proofs.Math.Option.{Option, none, some}
use Rattle.refusal.specs.Checks.{first, table}
use Rattle.syntax.specs.Grammar as G
use Rattle.syntax.specs.Grammar.{Bytes, Form, RouteLine, query_text}
use Rattle.syntax.specs.Limits.{max_line}
use Rattle.syntax.specs.Readers.{parse_as, parse_query}
use Rattle.calls.specs.Names.{map_option}
use Rattle.calls.specs.Tables.{query_checks}
use Rattle.calls.specs.Replies.{written}
use Rattle.text.specs.Words.{clamp}
use Rattle.schema.specs.Schemas.{schema_of, schema_sound}
use Rattle.query.specs.Tables.{query_forms}
use Rattle.query_line.specs.Asking.{Means}
use Rattle.query_line.specs.declared.Routed.{Routed}
use Rattle.needs.specs.Asking.{needs_in}
use Rattle.query_text.specs.declared.Told.{Told}

-- a query that was read, with the words of its conditions
unfoldable pub told_of : List ℕ → List ℕ → Routed → Told
told_of ns ws r = record { checks = r.asked.checks; query = r.asked.query; needs = needs_in ns ws (query_forms r.asked.query); words = ws; number = r.route }

-- by the form that the text has, of which `spare` brackets are not counted: the checks that fail first, and where none does a table and words that stand for the query, which has no more bytes than a line
pub record TextRead (spare : ℕ) (o : Option Form) (ns : List ℕ) (bs : Bytes) (t : Told) : Type 0 where
  pub checks : T (schema_sound ns) → first (table t.checks) ≡ first (written spare bs o (query_checks (schema_of ns)))
  pub query : T (schema_sound ns) → (q : Form) → o ≡ some q → first (written spare bs o (query_checks (schema_of ns))) ≡ none → Means (schema_of ns) q t.words t.query
  pub short : (q : Form) → o ≡ some q → first (written spare bs o (query_checks (schema_of ns))) ≡ none → length (query_text q) ≤ max_line
  pub needs : t.needs ≡ needs_in ns t.words (query_forms t.query)

-- a query with no number of a route, which is then 0
pub record PlainRead (spare : ℕ) (o : Option Form) (ns : List ℕ) (bs : Bytes) (t : Told) : Type 0 where
  pub text : TextRead spare o ns bs t
  pub number : t.number ≡ pos 0

-- the text of a query alone
abbrev pub QueryRead : List ℕ → Bytes → Told → Type 0
QueryRead ns bs t = PlainRead 0 (parse_query bs) ns bs t

-- `(ask Q)`
abbrev pub AskRead : List ℕ → Bytes → Told → Type 0
AskRead ns bs t = PlainRead 1 (parse_as G.ask bs) ns bs t

-- the query of a line, and its number as far as numbers are told apart
pub record RouteRead (spare : ℕ) (o : Option RouteLine) (ns : List ℕ) (bs : Bytes) (t : Told) : Type 0 where
  pub text : TextRead spare (map_option (λ l. l.query) o) ns bs t
  pub number : T (schema_sound ns) → (l : RouteLine) → o ≡ some l → first (table t.checks) ≡ none → t.number ≡ clamp l.route

-- `(line R Q)`
abbrev pub LineRead : List ℕ → Bytes → Told → Type 0
LineRead ns bs t = RouteRead 1 (parse_as G.line bs) ns bs t
