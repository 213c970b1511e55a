-- Every listed route of a checked query can be evaluated, and has no more cells than was said without looking.
use mathlib.Core.Path.{◌≡◌, refl, ap, ◌∙◌, subst}
use mathlib.Core.List.{List, [], ◌∷◌}
use mathlib.Core.Bool.{Bool, true, false, cond}
use Prim.Native.Nat.{ℕ, suc, ◌+◌, ◌*◌, ◌/◌, ◌≤◌}
use native.Mathlib.Decide.{ℕ_discrete, dec_le}
use native.Mathlib.Omega.{arith}
use lib.Dec.{T, eqb, leb}
use lib.ListN.{length}
use borrow.Author.Tests.{eq-eqb, ne_eqb, le-leb, lt-leb}
use Rattle.lists.proofs.Laws.{all_weaken, and_l}
use Rattle.model.specs.Queries as M
use Rattle.model.specs.Queries.{sources, columns_of}
use Rattle.model.specs.Checks.{allowed, placed}
use Rattle.model.specs.Routes.{single}
use Rattle.schema.specs.Schemas.{width_in, schema_of}
use Rattle.ledger.specs.Records.{Memory, record_of, count_in, memory_sound}
use Rattle.ledger.specs.declared.Ledger.{Ledger}
use Rattle.grant.specs.declared.Grant as D
use Rattle.grant.specs.Catalogues.{catalogue_sound}
use Rattle.query.specs.declared.Form.{Form}
use Rattle.query.specs.Forms.{query_in}
use Rattle.needs.specs.Asking.{no_stream, needs_of}
use Rattle.needs.specs.declared.Needs.{Needs}
use Rattle.needs.proofs.Fields.{streams_are}
use Rattle.routes.specs.declared.Open.{Open}
use Rattle.routes.specs.declared.Route as R
use Rattle.routes.specs.Listing.{open_all}
use Rattle.plan.specs.declared.Plan.{Plan}
use Rattle.plan.specs.Plans.{plan_streams}
use Rattle.sides.specs.Sides.{words_of}
use Rattle.pairs.specs.Given.{plan_rows}
use Rattle.route_plan.specs.Ways.{way_of}
use Rattle.route_plan.proofs.Meant.{Checked, placing}
use Rattle.route_plan.proofs.Evaluated.{Evaluates, all_evaluates, spans_some}
use Rattle.route_rows.specs.Rows.{room_end, plan_width}
use Rattle.route_cells.specs.Routes.{Setting, plan_of, way_rows, way_cells}
use Rattle.ask.specs.Cells.{most_cells, Evaluable, Ready}
use Rattle.route_rows.specs.Rows.{most_a_route}
use Rattle.route_cells.proofs.Routes.{way_long}
use Rattle.route_rows.proofs.Sizes.{rows_small, plain_few, figures_few}

-- a plan of one stream
lone_plan : (p : Plan) (i : ℕ) → plan_streams p ≡ i ∷ [] → (p.joined ≡ false) × (p.left ≡ i)
unfolding plan_streams
lone_plan p i e = go p.joined refl
  where
    go : (b : Bool) → p.joined ≡ b → (p.joined ≡ false) × (p.left ≡ i)
    go true j = let z : ◌≡◌ {A = List ℕ} (p.left ∷ (p.right ∷ [])) (i ∷ []) = rw j at e in let l = ap length z in absurd (omega arith)
    go false j = (j, head (rw j at e))
      where
        head : p.left ∷ [] ≡ i ∷ [] → p.left ≡ i
        head f = cc

module _ (m : Memory) (safe : T (memory_sound m)) (ws own roles profile : List ℕ) (fs : List Form) (c : Checked (record_of m) m.names (words_of own ws profile) fs) (gs : List D.Grant)
    (lawful : T (catalogue_sound m.names gs ws)) (z : D.Grant) (e : M.Grant) where
  abbrev q : M.Query ℕ
  q = query_in (words_of own ws profile) fs

  abbrev n : Needs
  n = needs_of m.names q

  abbrev o : Open
  o = open_all n ws roles profile gs

  abbrev s : Setting
  s = record { memory = m; own = own; granted = ws; profile = profile; forms = fs }

  abbrev l : Ledger
  l = m.ledger

  may : T (allowed (columns_of (schema_of m.names)) q)
  unfolding placed
  may = and_l (allowed (columns_of (schema_of m.names)) q) _ (placing (record_of m) m.names ws own roles profile fs c gs lawful)

  -- a query of one stream
  lone_source : n.right ≡ no_stream → sources q ≡ n.left ∷ []
  lone_source r = go (single (sources q)) refl
    where
      go : (b : Bool) → single (sources q) ≡ b → sources q ≡ n.left ∷ []
      go true u = ((streams_are m.names (columns_of (schema_of m.names)) q may c.declared).lone (rw u tt)).0
      go false u = let h = ((streams_are m.names (columns_of (schema_of m.names)) q may c.declared).both u).1 in absurd (omega arith)

  module _ (y : R.Route) (k : Evaluates m safe ws own roles profile fs c gs lawful z e y) where
    abbrev p : Plan
    p = plan_of s (way_of o n y)

    abbrev cells : ℕ
    cells = length (plan_rows m own ws profile (plan_of s (way_of o n y))) * plan_width (plan_of s (way_of o n y))

    long : length (way_cells s (way_of o n y)) ≡ 4 + cells
    unfolding way_rows
    long = way_long s (way_of o n y) k.suits

    small : length (way_cells s (way_of o n y)) ≤ most_a_route
    small = rw long (rows_small m own ws profile p k.suits)

    few : cells ≤ most_cells n m.names l
    unfolding most_cells
    few = go (ℕ_discrete n.right no_stream)
      where
        some : 4 + cells ≤ most_a_route
        some = rows_small m own ws profile p k.suits

        alone : n.right ≡ no_stream → (p.joined ≡ false) × (p.left ≡ n.left)
        alone r = lone_plan p n.left (k.streams ∙ lone_source r)

        plain : n.right ≡ no_stream → n.aggregate ≡ 0 → cells ≤ count_in l n.left * suc (width_in m.names n.left)
        plain r a = by (ℕ_discrete p.number 0)
          where
            by : Dec (p.number ≡ 0) → cells ≤ count_in l n.left * suc (width_in m.names n.left)
            by (yes b) = subst (λ i. cells ≤ count_in l i * suc (width_in m.names i)) (alone r).1 (plain_few m own ws profile p k.suits b (alone r).0)
            by (no b) = absurd ((k.figured b).0 a)

        windows : (n.aggregate ≡ 0 → ⊥) → cells ≤ suc (l.clock / n.offset) * 2
        windows a = by (ℕ_discrete p.number 0)
          where
            by : Dec (p.number ≡ 0) → cells ≤ suc (l.clock / n.offset) * 2
            by (yes b) = absurd (a (k.plainly b))
            by (no b) = subst (λ i. cells ≤ suc (l.clock / i) * 2) (k.figured b).1 (figures_few m own ws profile p k.suits b)

        go : Dec (n.right ≡ no_stream)
            → cells ≤ cond (eqb n.right no_stream) (cond (eqb n.aggregate 0) (count_in l n.left * suc (width_in m.names n.left)) (cond (leb 33554432 (l.clock / n.offset)) room_end (suc (l.clock / n.offset) * 2))) room_end
        go (no r) = let v = some in rw (ne_eqb n.right no_stream r) (omega arith)
        go (yes r) = rw (eq-eqb n.right no_stream r) (by (ℕ_discrete n.aggregate 0))
          where
            by : Dec (n.aggregate ≡ 0) → cells ≤ cond (eqb n.aggregate 0) (count_in l n.left * suc (width_in m.names n.left)) (cond (leb 33554432 (l.clock / n.offset)) room_end (suc (l.clock / n.offset) * 2))
            by (yes a) = rw (eq-eqb n.aggregate 0 a) (plain r a)
            by (no a) = rw (ne_eqb n.aggregate 0 a) (late (dec_le 33554432 (l.clock / n.offset)))
              where
                late : Dec (33554432 ≤ l.clock / n.offset) → cells ≤ cond (leb 33554432 (l.clock / n.offset)) room_end (suc (l.clock / n.offset) * 2)
                late (yes h) = let v = some in rw (le-leb 33554432 (l.clock / n.offset) h) (omega arith)
                late (no h) = rw (lt-leb 33554432 (l.clock / n.offset) (omega arith)) (windows a)

    evaluable : Evaluable s (most_cells n m.names l) (way_of o n y)
    evaluable = record { suits = k.suits; few = let a = few in let b = long in omega arith }

  pub routes_ready : Ready (record { memory = m; own = own; granted = ws; profile = profile; forms = fs }) (open_all (needs_of m.names (query_in (words_of own ws profile) fs)) ws roles profile gs) (needs_of m.names (query_in (words_of own ws profile) fs))
  routes_ready =
      let h = all_evaluates m safe ws own roles profile fs c gs lawful z e in
      record { spans = spans_some m safe ws own roles profile fs c gs lawful z e; each = all_weaken evaluable h; small = all_weaken small h }
