-- Every listed route of a checked query: the plan of its rewritten table asks for the route's rows.
use mathlib.Core.Path.{◌≡◌, refl, sym, ap, ◌∙◌, subst}
use mathlib.Core.List.{List, map}
use mathlib.Core.Bool.{Bool, true, false, not}
use Prim.Native.Nat.{ℕ, ◌≤◌}
use native.Mathlib.Omega.{arith}
use lib.Dec.{T, leb→le, leb}
use lib.ListN.{length, get_or, replicate, length-replicate}
use borrow.Author.Tests.{eq-eqb, ne_eqb}
use Rattle.lists.specs.Lists.{every, All}
use Rattle.lists.proofs.Laws.{all_weaken, all_both, parts, and_l, every_all, and_r}
use Rattle.syntax.specs.Limits.{max_grants, max_forms, top}
use Rattle.model.specs.Queries as M
use Rattle.model.specs.Queries.{columns_of, Record, sources}
use Rattle.model.specs.Meaning.{plain}
use Rattle.model.specs.Checks.{placed, sized, allowed, no_aggregate, grant_placed}
use Rattle.model.specs.Routes.{Route, routes, Source, over_view, single}
use Rattle.model.specs.Rewriting.{defined, expand, rewritten}
use Rattle.model.specs.Answers.{route_table}
use Rattle.model.proofs.Rewriting.{rewriting}
use Rattle.openings.specs.Made.{made, looked}
use Rattle.schema.specs.Schemas.{schema_of}
use Rattle.grant.specs.declared.Grant as D
use Rattle.grant.specs.Grants.{grant_of}
use Rattle.grant.specs.Catalogues.{words_in, sound_from, catalogue_of, catalogue_sound}
use Rattle.grant.proofs.Masked.{declared_stream}
use Rattle.query.specs.declared.Form.{Form}
use Rattle.query.specs.Forms.{Words, query_in}
use Rattle.query.specs.Tables.{table_words}
use Rattle.query.specs.Shapes.{one_query, laid_forms, has_number}
use Rattle.needs.specs.Asking.{no_stream, needs_of}
use Rattle.needs.specs.declared.Needs.{Needs}
use Rattle.routes.specs.declared.Open.{Open}
use Rattle.routes.specs.declared.Route as R
use Rattle.routes.specs.Opening.{caller_in}
use Rattle.routes.specs.Listing.{open_all, numbers_of, routes_in}
use Rattle.routes.proofs.Places.{Held}
use Rattle.routes.proofs.Agreed.{Standing, Granting, on_one, on_two, on_both, on_told, routes_placed, routes_known, all_unmap}
use Rattle.rewrite.specs.declared.Restriction.{Restriction}
use Rattle.rewrite.specs.Rewrites.{side_forms, pair_forms, sum_forms}
use Rattle.rewrite.specs.Routed.{Stands, over_sides, over_sum}
use Rattle.rewrite.proofs.Granting.{granted_of, grant_stands}
use Rattle.plan.specs.Plans.{planned}
use Rattle.plan.proofs.Rewritten.{Asked, route_asked, Made, made_planned, one_side_made, two_sides_made, pair_made, sum_pair_made, sum_stream_made}
use Rattle.sides.specs.Sides.{words_of}
use Rattle.route_plan.specs.Ways.{granted_in, way_of, way_forms, way_plan}
use Rattle.route_plan.proofs.Routed.{sides_made, figures_made}
use Rattle.route_plan.proofs.Offsets.{offset_rewritten}
use Rattle.needs.proofs.Fields.{streams_are}
use Rattle.calls.specs.Validity.{valid_catalogue, valid_grant}
use Rattle.grant.proofs.Catalogues.{catalogue_valid}
use Rattle.claims.proofs.Printed.{grant_is_placed}
use Rattle.model.proofs.Accepted.{sources_rewritten, sized_rewritten}
use Rattle.plan.proofs.Shapes.{query_offset}

-- a table of one query of forms that people write, which passes the checks of a query and may be asked of a record
pub record Checked (x : Record) (ns : List ℕ) (w : Words) (fs : List Form) : Type 0 where
  pub schema : x.schema ≡ schema_of ns
  pub one : T (one_query fs)
  pub few : length fs ≤ max_forms
  pub laid : T (laid_forms w.own fs)
  pub numbers : T (every has_number fs)
  pub declared : T (every (declared_stream ns) (sources (query_in w fs)))
  pub asked : Asked x (query_in w fs)
  pub fits : T (sized (query_in w fs))
  pub near : query_offset (query_in w fs) ≤ top

-- the opened grant in a place that stands in a catalogue is that of the place
held_granted : (o : Open) (i : ℕ) (g : D.Grant) → Held o i g → granted_in o i ≡ granted_of i g
unfolding granted_in
held_granted o i g h = rw (h.shown, h.words, h.from, h.to)

module _ (x : Record) (ns ws own roles profile : List ℕ) (fs : List Form) (c : Checked x ns (words_of own ws profile) fs) (gs : List D.Grant) (lawful : T (catalogue_sound ns gs ws)) where
  abbrev w : Words
  w = words_of own ws profile

  abbrev q : M.Query ℕ
  q = query_in w fs

  abbrev d : M.Schema
  d = schema_of ns

  abbrev who : M.Caller
  who = caller_in roles profile

  abbrev cat : List M.Grant
  cat = catalogue_of ns gs ws

  abbrev n : Needs
  n = needs_of ns q

  abbrev o : Open
  o = open_all n ws roles profile gs

  few : length gs ≤ max_grants
  unfolding catalogue_sound
  few = leb→le (length gs) max_grants (search parts)

  sound : T (sound_from ns ws 0 gs)
  unfolding catalogue_sound
  sound = search parts

  grants_placed : All (λ (g : M.Grant). T (grant_placed d g)) cat
  unfolding valid_catalogue
  grants_placed =
      let v = catalogue_valid ns gs ws lawful in
      all_weaken (λ g t. grant_is_placed d g t) (every_all (valid_grant d) cat (and_r (leb (length cat) max_grants) _ v))

  pub same : who.profile ≡ w.profile
  unfolding caller_in
  same = refl

  pub placing : T (placed d q)
  placing = rw (sym c.schema) c.asked.placing

  may : T (allowed (columns_of d) q)
  unfolding placed
  may = and_l (allowed (columns_of d) q) _ placing

  -- the route that is listed
  module _ (z : D.Grant) (e : M.Grant) where
    abbrev P : ℕ → M.Grant
    P i = grant_of ns (get_or gs i z) (words_in ws i)

    abbrev pub route_in : R.Route → Route
    route_in y = record { grants = numbers_of n y; query = made d q y.kind (P y.left) (P y.right) }

    stood : {i : ℕ} → Standing ns ws o gs z i → Stands ns w (granted_in o i) (P i)
    stood {i} s = subst (λ g. Stands ns w g (P i)) (sym (held_granted o i (get_or gs i z) s.held)) (grant_stands ns w i (get_or gs i z) s.sound)

    abbrev lent : List ℕ
    lent = replicate table_words 0

    pub room : table_words ≤ length lent
    room = let e = length-replicate {A = ℕ} table_words 0 in omega arith

    -- forms that the rewriter makes of a query over views
    abbrev MadeBy : List Form → M.Query Source → Type 0
    MadeBy forms v = Made ns w who same fs c.one c.few placing c.numbers x c.schema lent room forms v

    module _ (y : R.Route) where
      abbrev g : Restriction
      g = granted_in o y.left

      abbrev h : Restriction
      h = granted_in o y.right

      abbrev query_of : M.Query Source
      query_of = made d q y.kind (P y.left) (P y.right)

      by_sides : y.kind ≡ 1 → MadeBy (side_forms ns g h fs) (over_sides d (looked (P y.left)) (looked (P y.right)) q) → MadeBy (way_forms ns (way_of o n y) fs) query_of
      unfolding way_forms way_of made
      by_sides k m = rw (k, sides_made d (P y.left) (P y.right) (columns_of d) q may) m

      by_pair : y.kind ≡ 2 → MadeBy (pair_forms ns g fs) (over_view d q (looked (P y.left))) → MadeBy (way_forms ns (way_of o n y) fs) query_of
      unfolding way_forms way_of made
      by_pair k m = rw k m

      by_sum : y.kind ≡ 3 → T (not (no_aggregate q)) → n.right ≡ no_stream → MadeBy (sum_forms ns g fs) (over_sum d q (looked (P y.left))) → MadeBy (way_forms ns (way_of o n y) fs) query_of
      unfolding way_forms way_of made
      by_sum k u r m = rw (k, eq-eqb n.right no_stream r, figures_made d (P y.left) (columns_of d) q may u) m

      by_figures : y.kind ≡ 3 → T (not (no_aggregate q)) → (n.right ≡ no_stream → ⊥) → MadeBy (pair_forms ns g fs) (over_sum d q (looked (P y.left))) → MadeBy (way_forms ns (way_of o n y) fs) query_of
      unfolding way_forms way_of made
      by_figures k u r m = rw (k, ne_eqb n.right no_stream r, figures_made d (P y.left) (columns_of d) q may u) m

      made_route : Standing ns ws o gs z y.left → Standing ns ws o gs z y.right → Granting q P y → MadeBy (way_forms ns (way_of o n y) fs) query_of
      made_route a b (on_one s k r e f) =
          by_sides k (subst (λ i. MadeBy (side_forms ns g (granted_in o i) fs) (over_sides d (looked (P y.left)) (looked (P i)) q)) (sym r)
          (one_side_made ns w who same fs c.one c.few placing c.numbers x c.schema lent room g (looked (P y.left)) s (stood a) f e))
      made_route a b (on_two s t k e f i) =
          by_sides k (two_sides_made ns w who same fs c.one c.few placing c.numbers x c.schema lent room g (looked (P y.left)) h (looked (P y.right)) s t (stood a) f (stood b) i e)
      made_route a b (on_both k r two f) =
          by_pair k (pair_made ns w who same fs c.one c.few placing c.numbers x c.schema lent room g (looked (P y.left)) (stood a) f c.asked.once two)
      made_route a b (on_told k r u f) = go (single (sources q)) refl
        where
          go : (s : Bool) → single (sources q) ≡ s → MadeBy (way_forms ns (way_of o n y) fs) query_of
          go true e =
              let l = (streams_are ns (columns_of d) q may c.declared).lone (rw e tt) in
              by_sum k u l.1 (sum_stream_made ns w who same fs c.one c.few placing c.numbers x c.schema lent room g (looked (P y.left)) (stood a) f u (ap length l.0))
          go false e =
              let l = (streams_are ns (columns_of d) q may c.declared).both e in
              by_figures k u (λ r. omega (arith, l.1)) (sum_pair_made ns w who same fs c.one c.few placing c.numbers x c.schema lent room g (looked (P y.left)) (stood a) f c.asked.once (ap length l.0))

    -- its rewritten query over the streams
    abbrev pub line_of : R.Route → M.Query ℕ
    line_of y = expand (defined d who) (query_of y)

    -- its forms, its rewritten query, and the rows that its plan asks for
    pub record Meant (y : R.Route) : Type 0 where
      pub made : MadeBy (way_forms ns (way_of o n y) fs) (query_of y)
      pub asked : Asked x (line_of y)
      pub streams : sources (line_of y) ≡ sources q
      pub fits : T (sized (line_of y))
      pub offset : query_offset (line_of y) ≡ query_offset q
      pub means : planned x w (way_plan ns (way_of o n y) fs) ≡ route_table x who (route_in y)

    pub listed : routes x.schema who cat q ≡ map route_in (routes_in o n)
    listed = ap (λ s. routes s who cat q) c.schema ∙ routes_placed ns ws roles profile gs q placing c.declared sound few z e

    -- what holds of every route of the query and its rewritten query
    each_route : (Q : Route → M.Query ℕ → Type 0) → All (λ (r : Route). Q r (rewritten x.schema who r)) (routes x.schema who cat q) → All (λ y. Q (route_in y) (line_of y)) (routes_in o n)
    unfolding rewritten
    each_route Q h =
        all_unmap route_in (routes_in o n)
        (subst (λ l. All (λ (r : Route). Q r (expand (defined d who) r.query)) l) listed
        (subst (λ s. All (λ (r : Route). Q r (expand (defined s who) r.query)) (routes x.schema who cat q)) c.schema h))

    pub all_meant : All Meant (routes_in o n)
    unfolding way_plan
    all_meant =
        all_weaken (λ y k.
        let known = k.0.0 in
        let m = made_route y known.0 known.1 known.2 in
        let a = k.0.1 in
        record {
          made = m;
          asked = a;
          streams = k.1.0.0;
          fits = k.1.0.1;
          offset = k.1.1.0;
          means = made_planned ns w who same fs c.one c.few placing c.numbers x c.schema lent room (way_forms ns (way_of o n y) fs) (query_of y) m a ∙ k.1.1.1;
        })
        (all_both
        (all_both (routes_known ns ws roles profile gs q placing c.declared sound few z e) (each_route (λ r v. Asked x v) (route_asked x who cat (rw c.schema grants_placed) q c.asked c.fits)))
        (all_both
        (all_both (each_route (λ r v. sources v ≡ sources q) (sources_rewritten x.schema who cat q)) (each_route (λ r v. T (sized v)) (sized_rewritten x.schema who cat q c.fits)))
        (all_both (each_route (λ r v. query_offset v ≡ query_offset q) (offset_rewritten x.schema who cat q)) (each_route (λ r v. plain x v ≡ route_table x who r) (rewriting x who cat q (rw c.schema may) c.fits)))))
