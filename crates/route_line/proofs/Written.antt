-- The line of a route is that of its rewritten table.
use mathlib.Core.Path.{◌≡◌, subst}
use mathlib.Core.List.{List, []}
use Prim.Native.Nat.{ℕ}
use lib.ListN.{replicate}
use Rattle.syntax.specs.Grammar.{Bytes}
use Rattle.schema.specs.Schemas.{schema_of}
use Rattle.query.specs.declared.Form.{Form}
use Rattle.query.specs.Tables.{table_words, held, forms_in, rewritten_forms, rewritten_table}
use Rattle.sides.specs.Sides.{words_of}
use Rattle.print_query.specs.Texts.{table_text, Lined}
use Rattle.print_query.specs.declared.Printed.{Printed}
use Rattle.route_plan.specs.Ways.{way_forms}
use Rattle.route_plan.specs.declared.Way.{Way}
use Rattle.route_line.specs.Texts.{written_forms, way_text}

pub line_written : (ns own ws ps : List ℕ) (fs : List Form) (y : Way) {table : List ℕ} {n : ℕ} {m m' : Bytes} {r : Printed} → held table n ≡ rewritten_table (replicate table_words 0) (way_forms ns y fs)
    → Lined (table_text (schema_of ns) (words_of own ws ps) (forms_in table n) []) m m' r → Lined (way_text (record { names = ns; own = own; granted = ws; profile = ps; forms = fs }) y) m m' r
unfolding way_text written_forms
line_written ns own ws ps fs y {m = m} {m' = m'} {r = r} e l = subst (λ t. Lined (table_text (schema_of ns) (words_of own ws ps) (rewritten_forms t) []) m m' r) e l
