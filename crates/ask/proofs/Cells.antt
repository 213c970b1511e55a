-- The cells of all routes are those of the answer.
use mathlib.Core.Path.{◌≡◌, refl, sym, ap, ap₂, ◌∙◌}
use mathlib.Core.List.{List, [], ◌∷◌, ◌++◌, map}
use mathlib.Core.Bool.{Bool, true, false, ◌&&◌, not, cond}
use mathlib.Core.Option.{some}
use Prim.Native.Nat.{ℕ, suc}
use lib.IntN.{ℤ, pos}
use lib.Dec.{T, eqb}
use lib.ListN.{length, length-map}
use Rattle.lists.specs.Lists.{gather, nth, empty?}
use Rattle.lists.proofs.Laws.{all_weaken, gather_same, empty_map}
use Rattle.syntax.specs.Grammar.{Form}
use Rattle.model.specs.Queries as M
use Rattle.model.specs.Queries.{Table}
use Rattle.model.specs.Routes as MR
use Rattle.model.specs.Routes.{routes}
use Rattle.model.specs.Answers.{route_table, row_cells, grant_cells, table_cells, answer_cells}
use Rattle.model.proofs.Gathers.{gather_map}
use Rattle.calls.specs.Names.{resolve}
use Rattle.calls.specs.Asking.{query_routes, answer, answer_checks}
use Rattle.schema.specs.Schemas.{schema_of}
use Rattle.ledger.specs.Records.{Memory, record_of, memory_sound}
use Rattle.grant.specs.declared.Grant as D
use Rattle.grant.specs.Catalogues.{catalogue_of, catalogue_sound}
use Rattle.query.specs.declared.Form as Q
use Rattle.query.specs.Forms.{query_in}
use Rattle.needs.specs.Asking.{no_stream, needs_of}
use Rattle.needs.specs.declared.Needs.{Needs}
use Rattle.openings.specs.Made.{sides_kind}
use Rattle.routes.specs.declared.Open.{Open}
use Rattle.routes.specs.declared.Route as R
use Rattle.routes.specs.Opening.{caller_in}
use Rattle.routes.specs.Listing.{open_all, routes_in, numbers_of}
use Rattle.plan.specs.Plans.{planned}
use Rattle.sides.specs.Sides.{words_of}
use Rattle.pairs.specs.Given.{plan_rows}
use Rattle.route_plan.specs.Ways.{granted_in, way_of}
use Rattle.route_plan.proofs.Meant.{Checked, route_in, listed}
use Rattle.route_plan.proofs.Evaluated.{Evaluates, all_evaluates}
use Rattle.route_rows.specs.Rows.{plan_width}
use Rattle.route_cells.specs.Routes.{Setting, plan_of, way_rows, second_number, way_header, way_cells}
use Rattle.ask.specs.Cells.{routes_cells, run_cells, run_checks}
use Rattle.route_rows.proofs.Plans.{width_is}

-- the numbers of a route's grants
grants_are : (o : Open) (n : Needs) (x : R.Route) → grant_cells (numbers_of n x) ≡ pos (suc (way_of o n x).left.place) ∷ (pos (second_number (way_of o n x)) ∷ [])
unfolding grant_cells numbers_of second_number way_of granted_in nth
grants_are o n x = go (eqb x.kind sides_kind && not (eqb n.right no_stream))
  where
    go : (b : Bool) → ◌≡◌ {A = List ℤ} (pos (nth 0 (cond b (suc x.left ∷ (suc x.right ∷ [])) (suc x.left ∷ [])) 0) ∷ (pos (nth 0 (cond b (suc x.left ∷ (suc x.right ∷ [])) (suc x.left ∷ [])) 1) ∷ []))
        (pos (suc x.left) ∷ (pos (cond b (suc x.right) 0) ∷ []))
    go true = refl
    go false = refl

module _ (m : Memory) (safe : T (memory_sound m)) (ws own roles profile : List ℕ) (fs : List Q.Form) (c : Checked (record_of m) m.names (words_of own ws profile) fs) (gs : List D.Grant)
    (lawful : T (catalogue_sound m.names gs ws)) (z : D.Grant) (e : M.Grant) where
  abbrev n : Needs
  n = needs_of m.names (query_in (words_of own ws profile) fs)

  abbrev o : Open
  o = open_all n ws roles profile gs

  abbrev who : M.Caller
  who = caller_in roles profile

  abbrev s : Setting
  s = record { memory = m; own = own; granted = ws; profile = profile; forms = fs }

  abbrev route_of : R.Route → MR.Route
  route_of = route_in (record_of m) m.names ws own roles profile fs c gs lawful z e

  abbrev cells_of : MR.Route → List ℤ
  cells_of r = table_cells r.grants (route_table (record_of m) who r)

  cells_by : (y : R.Route) (t : Table) → t ≡ planned (record_of m) (words_of own ws profile) (plan_of s (way_of o n y)) → plan_width (plan_of s (way_of o n y)) ≡ suc (length t.cols) → table_cells (numbers_of n y) t ≡ way_cells s (way_of o n y)
  unfolding table_cells way_cells way_header way_rows plan_rows
  cells_by y t f w =
      ap (λ l. l ++ (pos (suc (length t.cols)) ∷ (pos (length t.rows) ∷ gather row_cells t.rows))) (grants_are o n y)
      ∙ ap₂ (λ (k : ℕ) (u : Table). pos (suc (way_of o n y).left.place) ∷ (pos (second_number (way_of o n y)) ∷ (pos k ∷ (pos (length u.rows) ∷ gather row_cells u.rows)))) (sym w) f

  cells_are : (y : R.Route) → Evaluates m safe ws own roles profile fs c gs lawful z e y → cells_of (route_of y) ≡ way_cells s (way_of o n y)
  cells_are y k =
      let p = plan_of s (way_of o n y) in
      cells_by y (route_table (record_of m) who (route_of y)) (sym k.means)
      (width_is m own ws profile p k.suits ∙ ap (λ (u : Table). suc (length u.cols)) k.means)

  -- the routes of the query
  module _ (f : Form) (is : resolve (schema_of m.names) f ≡ query_in (words_of own ws profile) fs) where
    abbrev cat : List M.Grant
    cat = catalogue_of m.names gs ws

    pub routes_are : query_routes (record_of m) (catalogue_of m.names gs ws) (caller_in roles profile) f ≡ map (route_in (record_of m) m.names ws own roles profile fs c gs lawful z e) (routes_in o n)
    unfolding query_routes record_of
    routes_are = ap (routes (schema_of m.names) who cat) is ∙ listed (record_of m) m.names ws own roles profile fs c gs lawful z e

    pub many : length (query_routes (record_of m) (catalogue_of m.names gs ws) (caller_in roles profile) f) ≡ length (routes_in o n)
    many = ap length routes_are ∙ length-map (routes_in o n) route_of

    none : empty? (query_routes (record_of m) cat who f) ≡ empty? (routes_in o n)
    none = ap empty? routes_are ∙ empty_map route_of (routes_in o n)

    pub answer_is : answer (record_of m) (catalogue_of m.names gs ws) (caller_in roles profile) (some f) ≡ run_cells (record { memory = m; own = own; granted = ws; profile = profile; forms = fs }) o n
    unfolding answer answer_cells run_cells routes_cells
    answer_is =
        ap₂ (λ (k : ℕ) (l : List ℤ). pos k ∷ l) many
        (ap (gather cells_of) routes_are ∙ gather_map cells_of route_of (routes_in o n) ∙ gather_same (all_weaken cells_are (all_evaluates m safe ws own roles profile fs c gs lawful z e)))

    -- 9, 10 and 11
    pub checks_are : (lent : List ℤ) → answer_checks (record_of m) (catalogue_of m.names gs ws) (caller_in roles profile) lent f ≡ run_checks (record { memory = m; own = own; granted = ws; profile = profile; forms = fs }) o n lent
    unfolding answer_checks run_checks
    checks_are lent = rw (none, many, answer_is)
