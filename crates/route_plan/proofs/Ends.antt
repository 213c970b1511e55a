-- What each return of the code gives, by the definitions.
use mathlib.Core.Path.{◌≡◌, ap, ◌∙◌}
use mathlib.Core.List.{List}
use mathlib.Core.Bool.{true, false}
use Prim.Native.Nat.{ℕ}
use lib.Dec.{eqb}
use lib.ListN.{get_or, replicate}
use borrow.Author.Tests.{ne_eqb}
use Rattle.needs.specs.Asking.{no_stream}
use Rattle.needs.specs.declared.Needs.{Needs}
use Rattle.routes.specs.declared.Open.{Open}
use Rattle.routes.specs.declared.Route.{Route}
use Rattle.query.specs.declared.Form.{Form}
use Rattle.query.specs.Tables.{Rewritten, table_words, held, forms_in, rewritten_forms, rewritten_table}
use Rattle.rewrite.specs.declared.Restriction.{Restriction}
use Rattle.rewrite.specs.Rewrites.{side_forms, pair_forms, sum_forms}
use Rattle.plan.specs.declared.Plan.{Plan}
use Rattle.plan.specs.Plans.{plan_in}
use Rattle.route_plan.specs.Ways.{granted_in, way_of, way_forms, way_plan}
use Rattle.route_plan.specs.declared.Way.{Way}

-- ---- the opened grant in a place

pub granted_made : (o : Open) (i : ℕ) {a b c d : ℕ} → a ≡ get_or o.shown i 0 → b ≡ get_or o.words i 0 → c ≡ get_or o.from i 0 → d ≡ get_or o.to i 0
    → record { place = i; shown = a; words = b; from = c; to = d } ≡ granted_in o i
unfolding granted_in
granted_made o i e f g h = rw (e, f, g, h)

-- ---- a route

pub way_made : (o : Open) (n : Needs) (x : Route) {a b : Restriction} → a ≡ granted_in o x.left → b ≡ granted_in o x.right
    → record { lone = eqb n.right no_stream; kind = x.kind; left = a; right = b } ≡ way_of o n x
unfolding way_of
way_made o n x e f = rw (e, f)

-- ---- its table

module _ (ns : List ℕ) (y : Way) (fs : List Form) (ws : List ℕ) {t : Rewritten} where
  pub table_sides : y.kind ≡ 1 → t ≡ rewritten_table ws (side_forms ns y.left y.right fs) → t ≡ rewritten_table ws (way_forms ns y fs)
  unfolding way_forms
  table_sides e f = f ∙ ap (rewritten_table ws) (rw e)

  pub table_pair : (y.kind ≡ 1 → ⊥) → (y.kind ≡ 3 → ⊥) → t ≡ rewritten_table ws (pair_forms ns y.left fs) → t ≡ rewritten_table ws (way_forms ns y fs)
  unfolding way_forms
  table_pair a b f = f ∙ ap (rewritten_table ws) (rw (ne_eqb y.kind 1 a, ne_eqb y.kind 3 b))

  pub table_sum : y.kind ≡ 3 → y.lone ≡ true → t ≡ rewritten_table ws (sum_forms ns y.left fs) → t ≡ rewritten_table ws (way_forms ns y fs)
  unfolding way_forms
  table_sum e l f = f ∙ ap (rewritten_table ws) (rw (e, l))

  pub table_figures : y.kind ≡ 3 → y.lone ≡ false → t ≡ rewritten_table ws (pair_forms ns y.left fs) → t ≡ rewritten_table ws (way_forms ns y fs)
  unfolding way_forms
  table_figures e l f = f ∙ ap (rewritten_table ws) (rw (e, l))

pub ruleset table_ends = (table_sides, table_pair, table_sum, table_figures)

-- ---- its plan

pub plan_made : (ns : List ℕ) (y : Way) (fs : List Form) {ws : List ℕ} {n : ℕ} {p : Plan} → held ws n ≡ rewritten_table (replicate table_words 0) (way_forms ns y fs) → p ≡ plan_in ns (forms_in ws n) → p ≡ way_plan ns y fs
unfolding way_plan
plan_made ns y fs e f = f ∙ ap (λ t. plan_in ns (rewritten_forms t)) e
