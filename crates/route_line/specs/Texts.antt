-- The text of a route.
use Rattle.std.specs.Prelude.{List, [], ℕ, replicate}
use Rattle.syntax.specs.Grammar.{Bytes}
use Rattle.schema.specs.Schemas.{schema_of}
use Rattle.query.specs.declared.Form.{Form}
use Rattle.query.specs.Tables.{table_words, rewritten_forms, rewritten_table}
use Rattle.sides.specs.Sides.{words_of}
use Rattle.print_query.specs.Texts.{table_text}
use Rattle.route_plan.specs.Ways.{way_forms}
use Rattle.route_plan.specs.declared.Way.{Way}

-- what routes are written by: the names of the schema, the words of the query and of the grants, the profile, and the query's forms
pub record Wording : Type 0 where
  pub names : List ℕ
  pub own : List ℕ
  pub granted : List ℕ
  pub profile : List ℕ
  pub forms : List Form

-- the forms of a route's rewritten query, and their text
unfoldable pub written_forms : Wording → Way → List Form
written_forms s y = rewritten_forms (rewritten_table (replicate table_words 0) (way_forms s.names y s.forms))

unfoldable pub way_text : Wording → Way → Bytes
way_text s y = table_text (schema_of s.names) (words_of s.own s.granted s.profile) (written_forms s y) []
