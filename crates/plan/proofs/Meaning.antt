-- The plan of a table asks for what the table's query means.
use mathlib.Core.Path.{◌≡◌, refl, sym, ap, ap₂, ◌∙◌}
use mathlib.Core.List.{List, [], ◌∷◌, ◌++◌}
use mathlib.Core.Bool.{Bool, true, false, ◌&&◌, ◌||◌, not, cond}
use Prim.Native.Nat.{ℕ, zero, suc, ◌≤◌, ◌<◌}
use native.Mathlib.Omega.{arith}
use native.Mathlib.Decide.{dec_lt}
use borrow.Author.Tests.{ne_eqb, eq-eqb, lt-ltb}
use lib.Dec.{T, leb, ltb, eqb, leb→le, ltb→lt}
use lib.ListN.{length, length-set}
use Rattle.lists.specs.Lists.{distinct}
use Rattle.lists.proofs.Laws.{parts, All, T_true, T_false, true_T}
use Rattle.syntax.specs.Grammar.{Cond, all, numbered_fn}
use Rattle.model.specs.Queries.{Col, col, same_col, columns_of, Compare, Query, source, pick, keep, join, aggregate, sources, picks, header, Table, Record}
use Rattle.model.specs.Conditions.{conds_of}
use Rattle.model.specs.Meaning.{picked, kept, pairs, equality, aggregated, table_of, plain}
use Rattle.model.specs.Grants.{limited}
use Rattle.model.specs.Checks.{no_aggregate, side, allowed, placed, keeps}
use Rattle.model.specs.Rewriting.{under}
use Rattle.model.proofs.Rewriting.{stream, limited_none, limited_all}
use Rattle.model.proofs.Tables.{limited_more}
use Rattle.model.proofs.Widths.{Wide}
use Rattle.model.proofs.Flat.{upper, base, side_upper, side_base, plain_flat, plain_outer}
use Rattle.model.proofs.Forms.{side_free}
use Rattle.model.proofs.Distinct.{once_few}
use Rattle.calls.specs.Names.{columns_named}
use Rattle.schema.specs.Schemas.{streams_in, width_in, schema_of}
use Rattle.schema.proofs.Lookups.{stream_columns, columns_past}
use Rattle.schema.proofs.Soundness.{width_most}
use Rattle.lists.proofs.Counting.{map_length}
use Rattle.orders.specs.Orders.{order_end, codes_in}
use Rattle.orders.proofs.Codes.{from_below, of_below}
use Rattle.query.specs.declared.Form.{Form}
use Rattle.query.specs.Forms.{Words, form_order, coded_col, cols_in, cond_at, limits_at, outer, inner, with_form, queries_in, query_in}
use Rattle.plan.specs.declared.Plan.{Plan}
use Rattle.plan.specs.Plans.{no_view, view_of, view_limits, no_plan, stream_order, with_rows, with_pick, with_keep, with_join, with_aggregate, with_view, plan_in, picks_in, right_conds, inner_table, figure_table, planned, viewless, form_regular, regular, pick_count}
use Rattle.plan.proofs.Steps.{step_rows, step_pick, step_keep, step_join, step_aggregate, step_view}
use Rattle.plan.proofs.Tables.{Placed, result, result_plain, result_figures, inner_alone, left_of_alone, ended_plain, pick_result, right_same, keep_result, rows_result, view_result, join-result, aggregate-result}
use Rattle.plan.proofs.Headers.{stream_header, joined_header}

-- ---- a form's kind

pub data Kind (f : Form) : Type 0 where
  k_rows : f.kind ≡ 0 → Kind f
  k_pick : f.kind ≡ 1 → Kind f
  k_keep : f.kind ≡ 2 → Kind f
  k_join : f.kind ≡ 3 → Kind f
  k_aggregate : f.kind ≡ 4 → Kind f
  k_under : 5 ≤ f.kind → Kind f

pub kind_of : (f : Form) → Kind f
kind_of f = go f.kind refl
  where
    go : (n : ℕ) → f.kind ≡ n → Kind f
    go zero e = k_rows e
    go (suc zero) e = k_pick e
    go (suc (suc zero)) e = k_keep e
    go (suc (suc (suc zero))) e = k_join e
    go (suc (suc (suc (suc zero)))) e = k_aggregate e
    go (suc (suc (suc (suc (suc n))))) e = k_under (omega arith)

module _ (w : Words) (f : Form) (qs : List (Query ℕ)) where
  form_rows : f.kind ≡ 0 → with_form w f qs ≡ source f.first ∷ qs
  unfolding with_form
  form_rows e = rw e refl

  form_pick : f.kind ≡ 1 → with_form w f qs ≡ pick (cond_at w.own f.first) (outer qs) ∷ inner qs
  unfolding with_form
  form_pick e = rw e refl

  form_keep : f.kind ≡ 2 → with_form w f qs ≡ keep (cols_in (form_order f)) (outer qs) ∷ inner qs
  unfolding with_form
  form_keep e = rw e refl

  form_join : f.kind ≡ 3 → with_form w f qs ≡ join (coded_col f.first) (coded_col f.second) (outer qs) (outer (inner qs)) ∷ inner (inner qs)
  unfolding with_form
  form_join e = rw e refl

  form_aggregate : f.kind ≡ 4 → with_form w f qs ≡ aggregate (numbered_fn f.first) (coded_col f.second) f.third f.fourth (outer qs) ∷ inner qs
  unfolding with_form
  form_aggregate e = rw e refl

  pub form_under : 5 ≤ f.kind → with_form w f qs ≡ under (view_limits w (view_of f)) (outer qs) ∷ inner qs
  unfolding with_form limits_at view_limits view_of
  form_under h =
      rw (ne_eqb f.kind 0 (λ e. omega arith), ne_eqb f.kind 1 (λ e. omega arith), ne_eqb f.kind 2 (λ e. omega arith), ne_eqb f.kind 3 (λ e. omega arith), ne_eqb f.kind 4 (λ e. omega arith)) refl

pub one_less : (qs : List (Query ℕ)) → 1 ≤ length qs → suc (length (inner qs)) ≡ length qs
unfolding inner
one_less [] h = omega arith
one_less (q ∷ qs) h = refl

pub picks_after : (f : Form) (fs : List Form) → pick_count fs ≤ pick_count (f ∷ fs)
unfolding pick_count
picks_after f fs = go (eqb f.kind 1)
  where
    go : (b : Bool) → pick_count fs ≤ cond b (suc (pick_count fs)) (pick_count fs)
    go true = omega arith
    go false = omega arith

-- ---- what a plan says of the query in front

module _ (w : Words) (ns : List ℕ) where
  abbrev hs : ℕ → List Col
  hs = columns_of (schema_of ns)

  -- its rows, its columns, whether it has an aggregate, and that a side is not joined
  pub record Top (q : Query ℕ) (p : Plan) : Type 0 where
    pub rows_are : (clock : ℕ) (tab : ℕ → Table) → limited (upper q) (base clock tab q) ≡ result clock tab w p
    pub header_is : T (no_aggregate q) → header hs q ≡ cols_in p.order
    pub plain_is : no_aggregate q ≡ eqb p.number 0
    pub alone : T (side q) → p.joined ≡ false
    pub ordered : p.order < order_end

  -- and of the side after it
  pub record Behind (r : Query ℕ) (p : Plan) : Type 0 where
    pub rows_are : (tab : ℕ → Table) → limited (picks r) (tab (stream r)) ≡ limited (right_conds w p) (tab p.right)
    pub header_is : header hs r ≡ cols_in p.other

  -- a side in front, by its conditions
  side_rows : (q : Query ℕ) (p : Plan) → T (side q) → Top q p → (tab : ℕ → Table)
      → limited (picks q) (tab (stream q)) ≡ limited (picks_in w p p.rights p.count ++ view_limits w p.view) (tab p.left)
  side_rows q p s t tab =
      let z : eqb p.number 0 ≡ true = sym t.plain_is ∙ T_true (no_aggregate q) (side_free q s) in
      sym (ap₂ limited (side_upper q s) (side_base 0 tab q s))
      ∙ (t.rows_are 0 tab
      ∙ (result_plain 0 tab w p z
      ∙ (inner_alone tab w p (t.alone s)
      ∙ ap (λ l. limited l (tab p.left)) (left_of_alone w p (t.alone s) ∙ ap (λ e. picks_in w p p.rights e ++ view_limits w p.view) (ended_plain w p z)))))

  -- ---- form by form

  top_rows : (f : Form) (p : Plan) → f.first < streams_in ns → Top (source f.first) (with_rows ns f p)
  top_rows f p h =
      record {
        rows_are = λ clock tab. unfold upper base in limited_none (tab f.first) ∙ rows_result clock tab w ns f p;
        header_is = λ s. unfold header with_rows in stream_header ns f.first h;
        plain_is = unfold no_aggregate with_rows in refl;
        alone = λ s. unfold with_rows in refl;
        ordered = unfold with_rows stream_order in of_below _;
      }

  module _ (f : Form) (q : Query ℕ) (p : Plan) (t : Top q p) where
    top_pick : (n : ℕ) → Placed p n → p.count < 12 → Top (pick (cond_at w.own f.first) q) (with_pick f p)
    top_pick n h l =
        let c = cond_at w.own f.first in
        record {
          rows_are = λ clock tab. unfold upper base in sym (limited_more c (upper q) (base clock tab q)) ∙ (ap (picked c) (t.rows_are clock tab) ∙ pick_result clock tab w f p n h l);
          header_is = λ s. unfold header no_aggregate with_pick in t.header_is s;
          plain_is = unfold no_aggregate with_pick in t.plain_is;
          alone = λ s. unfold side with_pick in t.alone s;
          ordered = unfold with_pick in t.ordered;
        }

    top_keep : form_order f < order_end → Top (keep (cols_in (form_order f)) q) (with_keep f p)
    top_keep h =
        record {
          rows_are = λ clock tab. unfold upper base in t.rows_are clock tab ∙ keep_result clock tab w f p;
          header_is = λ s. unfold header with_keep in refl;
          plain_is = unfold no_aggregate with_keep in t.plain_is;
          alone = λ s. unfold side with_keep in t.alone s;
          ordered = unfold with_keep in h;
        }

    under_rows : (cs : List (Cond Compare)) (clock : ℕ) (tab : ℕ → Table) → limited (upper (under cs q)) (base clock tab (under cs q)) ≡ limited cs (limited (upper q) (base clock tab q))
    unfolding under upper base
    under_rows [] clock tab = sym (limited_none (limited (upper q) (base clock tab q)))
    under_rows (c ∷ cs) clock tab = sym (limited_more (all (conds_of c cs)) (upper q) (base clock tab q)) ∙ limited_all c cs (limited (upper q) (base clock tab q))

    under_header : (cs : List (Cond Compare)) → header hs (under cs q) ≡ header hs q
    unfolding under header
    under_header [] = refl
    under_header (c ∷ cs) = refl

    under_plain : (cs : List (Cond Compare)) → no_aggregate (under cs q) ≡ no_aggregate q
    unfolding under no_aggregate
    under_plain [] = refl
    under_plain (c ∷ cs) = refl

    under_side : (cs : List (Cond Compare)) → side (under cs q) ≡ side q
    unfolding under side
    under_side [] = refl
    under_side (c ∷ cs) = refl

    top_under : eqb p.number 0 ≡ true → p.view ≡ no_view → Top (under (view_limits w (view_of f)) q) (with_view f p)
    top_under z v =
        let vs = view_limits w (view_of f) in
        record {
          rows_are = λ clock tab. under_rows vs clock tab ∙ (ap (limited vs) (t.rows_are clock tab) ∙ view_result clock tab w f p z v);
          header_is = λ s. unfold with_view in under_header vs ∙ t.header_is (rw (sym (under_plain vs)) s);
          plain_is = unfold with_view in under_plain vs ∙ t.plain_is;
          alone = λ s. unfold with_view in t.alone (rw (sym (under_side vs)) s);
          ordered = unfold with_view in t.ordered;
        }

    top_aggregate : T (no_aggregate q) → eqb f.first 0 ≡ false → Top (aggregate (numbered_fn f.first) (coded_col f.second) f.third f.fourth q) (with_aggregate f p)
    unfolding upper base header no_aggregate side with_aggregate
    top_aggregate a n =
        let z : eqb p.number 0 ≡ true = sym t.plain_is ∙ T_true (no_aggregate q) a in
        record {
          rows_are = λ clock tab.
              limited_none (aggregated clock (numbered_fn f.first) (coded_col f.second) f.third f.fourth (limited (upper q) (base clock tab q)))
              ∙ (ap (aggregated clock (numbered_fn f.first) (coded_col f.second) f.third f.fourth) (t.rows_are clock tab) ∙ aggregate-result clock tab w f p z n);
          header_is = λ s. absurd (s);
          plain_is = sym n;
          alone = λ s. absurd (s);
          ordered = t.ordered;
        }

    top_join : (r : Query ℕ) → T (side q) → T (side r) → Behind r p → length (header hs q) ≤ 6 → length (header hs r) ≤ 6
        → Top (join (coded_col f.first) (coded_col f.second) q r) (with_join f p)
    unfolding upper base header no_aggregate side with_join
    top_join r s u b m n =
        record {
          rows_are = λ clock tab.
              ap₂ (λ x y. limited (equality (coded_col f.first) (coded_col f.second) ∷ []) (pairs x y)) (side_rows q p s t tab) (b.rows_are tab) ∙ join-result clock tab w f p;
          header_is = λ a. joined_header p.order p.other (header hs q) (header hs r) t.ordered (t.header_is (side_free q s)) b.header_is m n;
          plain_is = (ap₂ ◌&&◌ (T_true (no_aggregate q) (side_free q s)) (T_true (no_aggregate r) (side_free r u)));
          alone = λ a. absurd (a);
          ordered = from_below p.order (codes_in p.other) t.ordered;
        }

  -- ---- the side behind

  behind_rows : (f : Form) (q : Query ℕ) (p : Plan) → T (side q) → Top q p → Behind q (with_rows ns f p)
  unfolding with_rows right_conds picks_in
  behind_rows f q p s t = record { rows_are = side_rows q p s t; header_is = t.header_is (side_free q s) }

  behind_pick : (f : Form) (r : Query ℕ) (p : Plan) (n : ℕ) → Placed p n → p.count < 12 → Behind r p → Behind r (with_pick f p)
  unfolding with_pick
  behind_pick f r p n h l b = record { rows_are = λ tab. b.rows_are tab ∙ sym (ap (λ cs. limited cs (tab p.right)) (right_same 0 tab w f p n h l)); header_is = b.header_is }

  behind_keep : (f : Form) (r : Query ℕ) (p : Plan) → Behind r p → Behind r (with_keep f p)
  unfolding with_keep right_conds picks_in
  behind_keep f r p b = record { rows_are = b.rows_are; header_is = b.header_is }

  behind_view : (f : Form) (r : Query ℕ) (p : Plan) → Behind r p → Behind r (with_view f p)
  unfolding with_view right_conds picks_in
  behind_view f r p b = record { rows_are = b.rows_are; header_is = b.header_is }

  -- ---- places

  placed_rows : (f : Form) (p : Plan) (n : ℕ) → Placed p n → Placed (with_rows ns f p) n
  unfolding with_rows
  placed_rows f p n h = record { room = h.room; counted = h.counted; starts = h.right; right = omega arith; left = omega arith; upper = omega arith }

  placed_pick : (f : Form) (p : Plan) (n : ℕ) → Placed p n → p.count < 12 → Placed (with_pick f p) (suc n)
  unfolding with_pick
  placed_pick f p n h l =
      rw (lt-ltb p.count 12 l)
      (record {
        room = length-set p.picks p.count f.first ∙ h.room;
        counted = ap suc h.counted;
        starts = h.starts;
        right = omega (arith, h.right);
        left = omega (arith, h.left);
        upper = omega (arith, h.upper);
      })

  placed_keep : (f : Form) (p : Plan) (n : ℕ) → Placed p n → Placed (with_keep f p) n
  unfolding with_keep
  placed_keep f p n h = record { room = h.room; counted = h.counted; starts = h.starts; right = h.right; left = h.left; upper = h.upper }

  placed_view : (f : Form) (p : Plan) (n : ℕ) → Placed p n → Placed (with_view f p) n
  unfolding with_view
  placed_view f p n h = record { room = h.room; counted = h.counted; starts = h.starts; right = h.right; left = h.left; upper = h.upper }

  placed_join : (f : Form) (p : Plan) (n : ℕ) → Placed p n → Placed (with_join f p) n
  unfolding with_join
  placed_join f p n h = record { room = h.room; counted = h.counted; starts = h.starts; right = h.right; left = omega arith; upper = omega arith }

  placed_aggregate : (f : Form) (p : Plan) (n : ℕ) → Placed p n → Placed (with_aggregate f p) n
  unfolding with_aggregate
  placed_aggregate f p n h = record { room = h.room; counted = h.counted; starts = h.starts; right = h.right; left = h.left; upper = omega arith }

  placed_none : Placed no_plan 0
  unfolding no_plan
  placed_none = record { room = refl; counted = refl; starts = omega arith; right = omega arith; left = omega arith; upper = omega arith }

  -- ---- a side has few columns

  stream_few : (s : ℕ) → length (hs s) ≤ 6
  stream_few s = go (dec_lt s (streams_in ns))
    where
      go : Dec (s < streams_in ns) → length (hs s) ≤ 6
      go (yes h) = rw (stream_columns ns s h, map_length (col s) 0 (width_in ns s)) (width_most ns s)
      go (no h) =
          unfold columns_of columns_named in rw (map_length (col s) 0 (length (columns_named (schema_of ns) s)), columns_past ns s (omega arith)) (omega arith)

  side_few : (q : Query ℕ) → T (side q) → T (allowed hs q) → T (keeps (distinct same_col) q) → length (header hs q) ≤ 6
  unfolding side header allowed keeps
  side_few (source s) u a k = stream_few s
  side_few (pick c q) u a k = side_few q u (search parts) k
  side_few (keep cs q) u a k =
      let r = side_few q u (search parts) (search parts) in
      let l = once_few cs (header hs q) (search parts) (search parts) in
      omega arith
  side_few (join a b q r) u w k = absurd u
  side_few (aggregate f c size offset q) u a k = absurd u

  -- ---- the whole table

  pub record Says (qs : List (Query ℕ)) (p : Plan) (n : ℕ) (bare : Bool) : Type 0 where
    pub placed : Placed p n
    pub top : 1 ≤ length qs → T (allowed hs (outer qs)) → T (keeps (distinct same_col) (outer qs)) → Top (outer qs) p
    pub behind : 2 ≤ length qs → T (side (outer (inner qs))) → T (allowed hs (outer (inner qs))) → T (keeps (distinct same_col) (outer (inner qs))) → T (side (outer qs)) → Behind (outer (inner qs)) p
    pub unseen : T bare → p.view ≡ no_view
    pub unfigured : T bare → eqb p.number 0 ≡ true

  module _ (f : Form) (qs : List (Query ℕ)) (p : Plan) (n : ℕ) (bare : Bool) (y : Says qs p n bare) where
    says_rows : f.first < streams_in ns → Says (source f.first ∷ qs) (with_rows ns f p) n true
    says_rows h =
        record {
          placed = placed_rows f p n y.placed;
          top = λ l a k. unfold outer in top_rows f p h;
          behind = λ l s a k u. unfold outer inner in behind_rows f (outer qs) p s (y.top (omega arith) a k);
          unseen = λ t. unfold with_rows in refl;
          unfigured = λ t. unfold with_rows in refl;
        }

    rest : 1 ≤ length qs → suc (length (inner qs)) ≡ length qs
    rest = one_less qs

    module _ (h : 1 ≤ length qs) where
      says_pick : p.count < 12 → Says (pick (cond_at w.own f.first) (outer qs) ∷ inner qs) (with_pick f p) (suc n) bare
      says_pick l =
          record {
            placed = placed_pick f p n y.placed l;
            top = λ m a k. unfold outer allowed keeps in top_pick f (outer qs) p (y.top h (search parts) k) n y.placed l;
            behind = λ m s a k u. unfold outer inner side in behind_pick f (outer (inner qs)) p n y.placed l (y.behind (omega (arith, rest h)) s a k u);
            unseen = λ t. unfold with_pick in y.unseen t;
            unfigured = λ t. unfold with_pick in y.unfigured t;
          }

      says_keep : form_order f < order_end → Says (keep (cols_in (form_order f)) (outer qs) ∷ inner qs) (with_keep f p) n bare
      says_keep l =
          record {
            placed = placed_keep f p n y.placed;
            top = λ m a k. unfold outer allowed keeps in top_keep f (outer qs) p (y.top h (search parts) (search parts)) l;
            behind = λ m s a k u. unfold outer inner side in behind_keep f (outer (inner qs)) p (y.behind (omega (arith, rest h)) s a k u);
            unseen = λ t. unfold with_keep in y.unseen t;
            unfigured = λ t. unfold with_keep in y.unfigured t;
          }

      under_allowed : (cs : List (Cond Compare)) (q : Query ℕ) → T (allowed hs (under cs q)) → T (allowed hs q)
      unfolding under allowed
      under_allowed [] q a = a
      under_allowed (c ∷ cs) q a = search parts

      under_keeps : (cs : List (Cond Compare)) (q : Query ℕ) → T (keeps (distinct same_col) (under cs q)) → T (keeps (distinct same_col) q)
      unfolding under keeps
      under_keeps [] q a = a
      under_keeps (c ∷ cs) q a = a

      under_sided : (cs : List (Cond Compare)) (q : Query ℕ) → T (side (under cs q)) → T (side q)
      unfolding under side
      under_sided [] q a = a
      under_sided (c ∷ cs) q a = a

      says_under : T bare → Says (under (view_limits w (view_of f)) (outer qs) ∷ inner qs) (with_view f p) n false
      says_under b =
          let vs = view_limits w (view_of f) in
          record {
            placed = placed_view f p n y.placed;
            top = λ m a k. unfold outer in top_under f (outer qs) p (y.top h (under_allowed vs (outer qs) a) (under_keeps vs (outer qs) k)) (y.unfigured b) (y.unseen b);
            behind = λ m s a k u. unfold outer inner in behind_view f (outer (inner qs)) p (y.behind (omega (arith, rest h)) s a k (under_sided vs (outer qs) u));
            unseen = λ t. absurd t;
            unfigured = λ t. absurd t;
          }

      says_aggregate : eqb f.first 0 ≡ false → Says (aggregate (numbered_fn f.first) (coded_col f.second) f.third f.fourth (outer qs) ∷ inner qs) (with_aggregate f p) n false
      unfolding outer inner allowed keeps side
      says_aggregate z =
          record {
            placed = placed_aggregate f p n y.placed;
            top = λ m a k. top_aggregate f (outer qs) p (y.top h (search parts) k) (search parts) z;
            behind = λ m s a k u. absurd u;
            unseen = λ t. absurd t;
            unfigured = λ t. absurd t;
          }

    says_join : 2 ≤ length qs → Says (join (coded_col f.first) (coded_col f.second) (outer qs) (outer (inner qs)) ∷ inner (inner qs)) (with_join f p) n true
    unfolding outer inner allowed keeps side with_join
    says_join h =
        record {
          placed = placed_join f p n y.placed;
          top = λ m a k.
              let l : T (side (outer qs)) = search parts in
              let r : T (side (outer (inner qs))) = search parts in
              let la : T (allowed hs (outer qs)) = search parts in
              let ra : T (allowed hs (outer (inner qs))) = search parts in
              let lk : T (keeps (distinct same_col) (outer qs)) = search parts in
              let rk : T (keeps (distinct same_col) (outer (inner qs))) = search parts in
              top_join f (outer qs) p (y.top (omega arith) la lk) (outer (inner qs)) l r (y.behind h r ra rk l) (side_few (outer qs) l la lk) (side_few (outer (inner qs)) r ra rk);
          behind = λ m s a k u. absurd u;
          unseen = λ t. refl;
          unfigured = λ t. refl;
        }

  says_none : Says [] no_plan 0 false
  says_none =
      record {
        placed = placed_none;
        top = λ h a k. absurd (omega arith);
        behind = λ h s a k u. absurd (omega arith);
        unseen = λ t. absurd t;
        unfigured = λ t. absurd t;
      }

  -- what a form's kind leaves of the tests
  module _ (f : Form) (fs : List Form) where
    abbrev qs : List (Query ℕ)
    qs = queries_in w fs

    some_query : T (leb 1 (length qs)) → 1 ≤ length qs
    some_query t = leb→le 1 (length qs) t

    regular_rows : f.kind ≡ 0 → T (form_regular w ns f fs) → f.first < streams_in ns
    unfolding form_regular
    regular_rows e t = ltb→lt f.first (streams_in ns) (rw e at t)

    pub regular_pick : f.kind ≡ 1 → T (form_regular w ns f fs) → 1 ≤ length qs
    unfolding form_regular
    regular_pick e t = some_query (rw e at t)

    pub regular_keep : f.kind ≡ 2 → T (form_regular w ns f fs) → T (leb 1 (length qs) && ltb (form_order f) order_end)
    unfolding form_regular form_order
    regular_keep e t = rw e at t

    pub regular_join : f.kind ≡ 3 → T (form_regular w ns f fs) → 2 ≤ length qs
    unfolding form_regular
    regular_join e t = leb→le 2 (length qs) (rw e at t)

    pub regular_aggregate : f.kind ≡ 4 → T (form_regular w ns f fs) → T (leb 1 (length qs) && not (eqb f.first 0))
    unfolding form_regular
    regular_aggregate e t = rw e at t

    pub regular_under : 5 ≤ f.kind → T (form_regular w ns f fs) → T (leb 1 (length qs) && viewless fs)
    unfolding form_regular
    regular_under h t =
        rw (ne_eqb f.kind 0 (λ e. omega arith), ne_eqb f.kind 1 (λ e. omega arith), ne_eqb f.kind 2 (λ e. omega arith), ne_eqb f.kind 3 (λ e. omega arith), ne_eqb f.kind 4 (λ e. omega arith)) at t

    abbrev bare_by : ℕ → Bool → Bool
    bare_by k b = eqb k 0 || eqb k 3 || (eqb k 1 || eqb k 2) && b

    bare_is : (k : ℕ) → f.kind ≡ k → viewless (f ∷ fs) ≡ bare_by k (viewless fs)
    unfolding viewless
    bare_is k e = ap (λ j. bare_by j (viewless fs)) e

    bare_under : 5 ≤ f.kind → viewless (f ∷ fs) ≡ false
    unfolding viewless
    bare_under h = rw (ne_eqb f.kind 0 (λ e. omega arith), ne_eqb f.kind 3 (λ e. omega arith), ne_eqb f.kind 1 (λ e. omega arith), ne_eqb f.kind 2 (λ e. omega arith)) refl

    picks_on : f.kind ≡ 1 → pick_count (f ∷ fs) ≡ suc (pick_count fs)
    unfolding pick_count
    picks_on e = ap (λ b. cond b (suc (pick_count fs)) (pick_count fs)) (eq-eqb f.kind 1 e)

    picks_as : (f.kind ≡ 1 → ⊥) → pick_count (f ∷ fs) ≡ pick_count fs
    unfolding pick_count
    picks_as e = ap (λ b. cond b (suc (pick_count fs)) (pick_count fs)) (ne_eqb f.kind 1 e)

    move : {xs ys : List (Query ℕ)} {p q : Plan} {n m : ℕ} {b c : Bool} → xs ≡ ys → p ≡ q → n ≡ m → b ≡ c → Says ys q m c → Says xs p n b
    move e f g h y = rw (e, f, g, h) y

    step : Kind f → T (form_regular w ns f fs) → pick_count (f ∷ fs) ≤ 12 → Says qs (plan_in ns fs) (pick_count fs) (viewless fs)
        → Says (queries_in w (f ∷ fs)) (plan_in ns (f ∷ fs)) (pick_count (f ∷ fs)) (viewless (f ∷ fs))
    unfolding queries_in plan_in
    step (k_rows e) t l y =
        move (form_rows w f qs e) (sym (step_rows ns f (plan_in ns fs) e refl)) (picks_as (λ u. omega arith)) (bare_is 0 e)
        (says_rows f qs (plan_in ns fs) (pick_count fs) (viewless fs) y (regular_rows e t))
    step (k_pick e) t l y =
        move (form_pick w f qs e) (sym (step_pick ns f (plan_in ns fs) e refl)) (picks_on e) (bare_is 1 e)
        (says_pick f qs (plan_in ns fs) (pick_count fs) (viewless fs) y (regular_pick e t) (omega (arith, y.placed.counted, picks_on e)))
    step (k_keep e) t l y =
        let r = regular_keep e t in
        move (form_keep w f qs e) (sym (step_keep ns f (plan_in ns fs) e refl)) (picks_as (λ u. omega arith)) (bare_is 2 e)
        (says_keep f qs (plan_in ns fs) (pick_count fs) (viewless fs) y (some_query (search parts)) (ltb→lt (form_order f) order_end (search parts)))
    step (k_join e) t l y =
        move (form_join w f qs e) (sym (step_join ns f (plan_in ns fs) e refl)) (picks_as (λ u. omega arith)) (bare_is 3 e)
        (says_join f qs (plan_in ns fs) (pick_count fs) (viewless fs) y (regular_join e t))
    step (k_aggregate e) t l y =
        let r = regular_aggregate e t in
        move (form_aggregate w f qs e) (sym (step_aggregate ns f (plan_in ns fs) e refl)) (picks_as (λ u. omega arith)) (bare_is 4 e)
        (says_aggregate f qs (plan_in ns fs) (pick_count fs) (viewless fs) y (some_query (search parts)) (T_false (eqb f.first 0) (search parts)))
    step (k_under h) t l y =
        let r = regular_under h t in
        move (form_under w f qs h)
        (sym (step_view ns f (plan_in ns fs) (λ u. omega arith) (λ u. omega arith) (λ u. omega arith) (λ u. omega arith) (λ u. omega arith) refl))
        (picks_as (λ u. omega arith)) (bare_under h)
        (says_under f qs (plan_in ns fs) (pick_count fs) (viewless fs) y (some_query (search parts)) (search parts))

  pub says : (fs : List Form) → T (regular w ns fs) → pick_count fs ≤ 12 → Says (queries_in w fs) (plan_in ns fs) (pick_count fs) (viewless fs)
  unfolding regular
  says [] t l = unfold queries_in plan_in pick_count viewless in says_none
  says (f ∷ fs) t l = step f fs (kind_of f) (search parts) l (says fs (search parts) (omega (arith, picks_after f fs)))

  -- ---- the meaning

  pub some_queries : (f : Form) (fs : List Form) → 1 ≤ length (queries_in w (f ∷ fs))
  unfolding queries_in
  some_queries f fs = go (kind_of f)
    where
      go : Kind f → 1 ≤ length (with_form w f (queries_in w fs))
      go (k_rows e) = rw (form_rows w f (queries_in w fs) e) (omega arith)
      go (k_pick e) = rw (form_pick w f (queries_in w fs) e) (omega arith)
      go (k_keep e) = rw (form_keep w f (queries_in w fs) e) (omega arith)
      go (k_join e) = rw (form_join w f (queries_in w fs) e) (omega arith)
      go (k_aggregate e) = rw (form_aggregate w f (queries_in w fs) e) (omega arith)
      go (k_under h) = rw (form_under w f (queries_in w fs) h) (omega arith)

  planned_rows : (x : Record) (p : Plan) → eqb p.number 0 ≡ true → planned x w p ≡ kept (cols_in p.order) (inner_table (table_of x) w p)
  unfolding planned
  planned_rows x p z = ap (λ b. cond b (kept (cols_in p.order) (inner_table (table_of x) w p)) (figure_table x.clock (table_of x) w p)) z

  planned_figures : (x : Record) (p : Plan) → eqb p.number 0 ≡ false → planned x w p ≡ figure_table x.clock (table_of x) w p
  unfolding planned
  planned_figures x p z = ap (λ b. cond b (kept (cols_in p.order) (inner_table (table_of x) w p)) (figure_table x.clock (table_of x) w p)) z

  module _ (x : Record) (e : x.schema ≡ schema_of ns) (q : Query ℕ) (p : Plan) (d : Top q p) (a : T (placed (schema_of ns) q)) (v : All (λ s. Wide (table_of x s)) (sources q)) where
    there : T (placed x.schema q)
    there = rw e a

    top_means : plain x q ≡ planned x w p
    top_means = go (eqb p.number 0) refl
      where
        go : (b : Bool) → eqb p.number 0 ≡ b → plain x q ≡ planned x w p
        go true z =
            plain_flat x q there v
            ∙ (ap₂ kept (ap (λ s. header (columns_of s) q) e ∙ d.header_is (true_T (no_aggregate q) (d.plain_is ∙ z))) (d.rows_are x.clock (table_of x) ∙ result_plain x.clock (table_of x) w p z)
            ∙ sym (planned_rows x p z))
        go false z =
            plain_outer x q there (rw (d.plain_is ∙ z) tt) v
            ∙ (d.rows_are x.clock (table_of x) ∙ (result_figures x.clock (table_of x) w p z ∙ sym (planned_figures x p z)))

  -- the plan of a regular table whose query is placed asks for the query's plain meaning
  pub plan_means : (x : Record) → x.schema ≡ schema_of ns → (f : Form) (fs : List Form) → T (regular w ns (f ∷ fs)) → pick_count (f ∷ fs) ≤ 12
      → T (placed (schema_of ns) (query_in w (f ∷ fs))) → T (keeps (distinct same_col) (query_in w (f ∷ fs))) → All (λ s. Wide (table_of x s)) (sources (query_in w (f ∷ fs)))
      → plain x (query_in w (f ∷ fs)) ≡ planned x w (plan_in ns (f ∷ fs))
  unfolding query_in placed
  plan_means x e f fs t l a k v = top_means x e (outer (queries_in w (f ∷ fs))) (plan_in ns (f ∷ fs)) ((says (f ∷ fs) t l).top (some_queries f fs) (search parts) k) a v
