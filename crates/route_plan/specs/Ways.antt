-- A route as it is evaluated: its kind and what is needed of its grants; its rewritten forms, and their plan.
use Rattle.std.specs.Prelude.{List, ◌&&◌, cond, ℕ, eqb, get_or, replicate}
use Rattle.openings.specs.Made.{sides_kind, figures_kind}
use Rattle.needs.specs.Asking.{no_stream}
use Rattle.needs.specs.declared.Needs.{Needs}
use Rattle.routes.specs.declared.Open.{Open}
use Rattle.routes.specs.declared.Route.{Route}
use Rattle.query.specs.declared.Form.{Form}
use Rattle.query.specs.Tables.{table_words, rewritten_forms, rewritten_table}
use Rattle.rewrite.specs.declared.Restriction.{Restriction}
use Rattle.rewrite.specs.Rewrites.{side_forms, pair_forms, sum_forms}
use Rattle.plan.specs.declared.Plan.{Plan}
use Rattle.plan.specs.Plans.{plan_in}
use Rattle.route_plan.specs.declared.Way.{Way}

-- the opened grant in a place
unfoldable pub granted_in : Open → ℕ → Restriction
granted_in o i = record { place = i; shown = get_or o.shown i 0; words = get_or o.words i 0; from = get_or o.from i 0; to = get_or o.to i 0 }

unfoldable pub way_of : Open → Needs → Route → Way
way_of o n x = record { lone = eqb n.right no_stream; kind = x.kind; left = granted_in o x.left; right = granted_in o x.right }

-- its rewritten query: a grant for each stream; one of the aggregate on one stream; one on the pair
unfoldable pub way_forms : List ℕ → Way → List Form → List Form
way_forms ns y fs =
    cond (eqb y.kind sides_kind) (side_forms ns y.left y.right fs)
    (cond (eqb y.kind figures_kind && y.lone) (sum_forms ns y.left fs) (pair_forms ns y.left fs))

unfoldable pub way_plan : List ℕ → Way → List Form → Plan
way_plan ns y fs = plan_in ns (rewritten_forms (rewritten_table (replicate table_words 0) (way_forms ns y fs)))
