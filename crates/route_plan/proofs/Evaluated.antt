-- Every listed route of a checked query can be evaluated over a record that may be lent, and its plan asks for the route's rows.
use mathlib.Core.Path.{◌≡◌, sym, ap, ◌∙◌}
use mathlib.Core.List.{List}
use Prim.Native.Nat.{ℕ, ◌≤◌}
use native.Mathlib.Decide.{ℕ_discrete}
use native.Mathlib.Omega.{arith}
use lib.Dec.{T}
use lib.ListN.{replicate}
use Rattle.lists.specs.Lists.{All, every}
use Rattle.lists.proofs.Laws.{all_weaken}
use Rattle.model.specs.Queries as M
use Rattle.model.specs.Queries.{sources}
use Rattle.model.specs.Answers.{route_table}
use Rattle.ledger.specs.Records.{Memory, record_of, memory_sound}
use Rattle.grant.specs.declared.Grant as D
use Rattle.grant.specs.Catalogues.{catalogue_sound}
use Rattle.grant.proofs.Masked.{declared_stream}
use Rattle.query.specs.declared.Form.{Form}
use Rattle.query.specs.Forms.{Words, query_in}
use Rattle.query.specs.Tables.{table_words, rewritten_forms, rewritten_table}
use Rattle.query.proofs.Rewritten.{table_forms}
use Rattle.needs.specs.Asking.{needs_of}
use Rattle.needs.specs.declared.Needs.{Needs}
use Rattle.routes.specs.declared.Open.{Open}
use Rattle.routes.specs.declared.Route as R
use Rattle.routes.specs.Opening.{caller_in}
use Rattle.routes.specs.Listing.{open_all, routes_in}
use Rattle.plan.proofs.Shapes.{query_offset}
use Rattle.plan.specs.declared.Plan.{Plan}
use Rattle.plan.specs.Plans.{plan_in, planned, plan_streams}
use Rattle.sides.specs.Sides.{words_of}
use Rattle.route_plan.specs.Ways.{way_of, way_forms, way_plan}
use Rattle.route_plan.specs.Suits.{Suits}
use Rattle.route_plan.proofs.Spans.{fitting_some, needs_offset, plain_offset, unasked_offset, asked_offset}
use Rattle.route_plan.proofs.Suited.{suited, plain, offset_is, streams_are}
use Rattle.route_plan.proofs.Meant.{Checked, Meant, all_meant, line_of, route_in, room}

module _ (m : Memory) (safe : T (memory_sound m)) (ws own roles profile : List ℕ) (fs : List Form) (c : Checked (record_of m) m.names (words_of own ws profile) fs) (gs : List D.Grant)
    (lawful : T (catalogue_sound m.names gs ws)) (z : D.Grant) (e : M.Grant) where
  abbrev ns : List ℕ
  ns = m.names

  abbrev w : Words
  w = words_of own ws profile

  abbrev q : M.Query ℕ
  q = query_in w fs

  abbrev n : Needs
  n = needs_of ns q

  abbrev o : Open
  o = open_all n ws roles profile gs

  abbrev plan_at : R.Route → Plan
  plan_at y = way_plan ns (way_of o n y) fs

  -- its plan can be evaluated, has the query's streams and window, and asks for the route's rows
  pub record Evaluates (y : R.Route) : Type 0 where
    pub suits : Suits m (plan_at y)
    pub streams : plan_streams (plan_at y) ≡ sources q
    pub plainly : (plan_at y).number ≡ 0 → n.aggregate ≡ 0
    pub figured : ((plan_at y).number ≡ 0 → ⊥) → (n.aggregate ≡ 0 → ⊥) × ((plan_at y).offset ≡ n.offset)
    pub means : planned (record_of m) w (plan_at y) ≡ route_table (record_of m) (caller_in roles profile) (route_in (record_of m) ns ws own roles profile fs c gs lawful z e y)

  module _ (y : R.Route) (k : Meant (record_of m) ns ws own roles profile fs c gs lawful z e y) where
    abbrev forms : List Form
    forms = way_forms ns (way_of o n y) fs

    abbrev line : M.Query ℕ
    line = line_of (record_of m) ns ws own roles profile fs c gs lawful z e y

    same : rewritten_forms (rewritten_table (replicate table_words 0) forms) ≡ forms
    same = table_forms (replicate table_words 0) forms (room (record_of m) ns ws own roles profile fs c gs lawful z e) k.made.plannable.room

    is : query_in w forms ≡ line
    is = sym (ap (query_in w) same) ∙ k.made.is

    plan_is : plan_at y ≡ plan_in ns forms
    unfolding way_plan
    plan_is = ap (plan_in ns) same

    declared : T (every (declared_stream ns) (sources line))
    declared = rw k.streams c.declared

    offset_same : ((plan_in ns forms).number ≡ 0 → ⊥) → (plan_in ns forms).offset ≡ query_offset q
    offset_same a = offset_is m safe w forms line k.made.plannable is k.asked k.fits declared (rw k.offset c.near) a ∙ k.offset

    suits_forms : Suits m (plan_in ns forms)
    suits_forms = suited m safe w forms line k.made.plannable is k.asked k.fits declared (rw k.offset c.near)

    unasked : (plan_in ns forms).number ≡ 0 → n.aggregate ≡ 0
    unasked a = go (ℕ_discrete n.aggregate 0)
      where
        none : query_offset q ≡ 0
        none = sym k.offset ∙ plain_offset line (plain m safe w forms line k.made.plannable is k.asked k.fits declared (rw k.offset c.near) a)

        go : Dec (n.aggregate ≡ 0) → n.aggregate ≡ 0
        go (yes b) = b
        go (no b) = let l = asked_offset ns q c.fits b in let v = none in absurd (omega arith)

    asks : ((plan_in ns forms).number ≡ 0 → ⊥) → (n.aggregate ≡ 0 → ⊥) × ((plan_in ns forms).offset ≡ n.offset)
    asks a =
        let s = fitting_some (plan_in ns forms).size (plan_in ns forms).offset (suits_forms.span a) in
        let e = offset_same a in
        ((λ b. let v = unasked_offset ns q b in absurd (omega arith)), e ∙ sym (needs_offset ns q))

    evaluates : Evaluates y
    evaluates =
        record {
          suits = rw plan_is suits_forms;
          streams = rw plan_is (streams_are m safe w forms line k.made.plannable is k.asked k.fits declared (rw k.offset c.near) ∙ k.streams);
          plainly = rw plan_is unasked;
          figured = rw plan_is asks;
          means = k.means;
        }

  pub all_evaluates : All Evaluates (routes_in o n)
  all_evaluates = all_weaken evaluates (all_meant (record_of m) ns ws own roles profile fs c gs lawful z e)

  -- the windows of a query with an aggregate begin some time apart
  pub spans_some : (n.aggregate ≡ 0 → ⊥) → 1 ≤ n.offset
  spans_some a = rw (needs_offset ns q) (asked_offset ns q c.fits a)
