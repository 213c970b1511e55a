-- A plan form by form: what each function makes.
use mathlib.Core.Path.{◌≡◌, refl, sym, ap, ◌∙◌}
use mathlib.Core.List.{List, ◌∷◌, map}
use Prim.Native.Nat.{ℕ, suc, ◌+◌, ◌*◌, ◌-◌, ◌≤◌, ◌<◌}
use native.Mathlib.Omega.{arith}
use native.Mathlib.Numerals.{add-one}
use borrow.Author.Tests.{ne_eqb, lt-ltb, le-ltb}
use lib.ListN.{length, get_or, drop, set}
use lib.Seq.{drop-cons, drop-length}
use Rattle.lists.specs.Lists.{count_from}
use Rattle.lists.proofs.Counting.{count_left, count_done}
use Rattle.schema.specs.Schemas.{width_in}
use Rattle.schema.proofs.Soundness.{width_most}
use Rattle.schema.proofs.Tests.{width_none}
use Rattle.orders.specs.Orders.{with_code, order_of, order_from}
use Rattle.query.specs.declared.Form.{Form}
use Rattle.query.specs.Tables.{blank}
use Rattle.plan.specs.declared.Plan.{Plan}
use Rattle.plan.specs.Plans.{stream_order, no_plan, with_rows, with_pick, with_keep, with_join, with_aggregate, with_view, plan_step, plan_in}

-- ---- the columns of a stream

abbrev codes_from : ℕ → ℕ → ℕ → List ℕ
codes_from s c n = map (λ i. s * 6 + i) (count_from c (n - c))

-- an order so far, with the columns from one on
abbrev pub order_on : ℕ → ℕ → ℕ → ℕ → ℕ
order_on s m c n = order_from m (codes_from s c n)

pub order_none : (ns : List ℕ) (s : ℕ) → 4 ≤ s → 0 ≡ stream_order ns s
unfolding stream_order order_of order_from count_from
order_none ns s h = sym (rw (sym (width_none ns s h)) refl)

module _ (ns : List ℕ) (s n : ℕ) (e : n ≡ width_in ns s) where
  pub narrow : n ≤ 6
  narrow = let h = width_most ns s in omega arith

  pub order_start : stream_order ns s ≡ order_on s 0 0 n
  unfolding stream_order order_of
  order_start = let z : n - 0 ≡ width_in ns s = omega arith in rw z refl

  module _ (m c : ℕ) (inv : stream_order ns s ≡ order_on s m c n) where
    pub order_more : {k : ℕ} → c < n → k ≡ with_code m (s * 6 + c) → stream_order ns s ≡ order_on s k (c + 1) n
    unfolding order_from
    order_more h w = inv ∙ rw (count_left c n h, w) refl

    pub order_end : n ≤ c → m ≡ stream_order ns s
    unfolding order_from
    order_end h = sym (inv ∙ rw (count_done c n h) refl)

pub ruleset order_ends = (order_none, narrow, order_start, order_more, order_end)

-- ---- a form of each kind

module _ (ns : List ℕ) (f : Form) (p : Plan) where
  pub step_rows : f.kind ≡ 0 → {r : Plan} → r ≡ with_rows ns f p → r ≡ plan_step ns f p
  unfolding plan_step
  step_rows e w = w ∙ rw e refl

  pub step_pick : f.kind ≡ 1 → {r : Plan} → r ≡ with_pick f p → r ≡ plan_step ns f p
  unfolding plan_step
  step_pick e w = w ∙ rw e refl

  pub step_keep : f.kind ≡ 2 → {r : Plan} → r ≡ with_keep f p → r ≡ plan_step ns f p
  unfolding plan_step
  step_keep e w = w ∙ rw e refl

  pub step_join : f.kind ≡ 3 → {r : Plan} → r ≡ with_join f p → r ≡ plan_step ns f p
  unfolding plan_step
  step_join e w = w ∙ rw e refl

  pub step_aggregate : f.kind ≡ 4 → {r : Plan} → r ≡ with_aggregate f p → r ≡ plan_step ns f p
  unfolding plan_step
  step_aggregate e w = w ∙ rw e refl

  pub step_view : (f.kind ≡ 0 → ⊥) → (f.kind ≡ 1 → ⊥) → (f.kind ≡ 2 → ⊥) → (f.kind ≡ 3 → ⊥) → (f.kind ≡ 4 → ⊥) → {r : Plan} → r ≡ with_view f p → r ≡ plan_step ns f p
  unfolding plan_step
  step_view a b c d e w = w ∙ rw (ne_eqb f.kind 0 a, ne_eqb f.kind 1 b, ne_eqb f.kind 2 c, ne_eqb f.kind 3 d, ne_eqb f.kind 4 e) refl

-- ---- a pick

module _ (f : Form) (p : Plan) where
  pub pick_full : 12 ≤ p.count → p ≡ with_pick f p
  unfolding with_pick
  pick_full h = rw (le-ltb p.count 12 h) refl

  pub pick-stored :
      p.count < 12
      → record {
        left = p.left;
        right = p.right;
        joined = p.joined;
        first = p.first;
        second = p.second;
        order = p.order;
        other = p.other;
        number = p.number;
        column = p.column;
        size = p.size;
        offset = p.offset;
        start = p.start;
        rights = p.rights;
        lefts = p.lefts;
        uppers = p.uppers;
        count = p.count + 1;
        picks = set p.picks p.count f.first;
        view = p.view;
        lview = p.lview;
        rview = p.rview;
      }
      ≡ with_pick f p
  unfolding with_pick
  pick-stored h = rw (lt-ltb p.count 12 h, add-one p.count) refl

pub ruleset pick_ends = (pick_full, pick-stored)

pub ruleset step_ends = (step_rows, step_pick, step_keep, step_join, step_aggregate, step_view)

-- ---- a table, from its last form to its first

module _ (ns : List ℕ) (fs : List Form) where
  pub plan_start : {p : Plan} {i : ℕ} → p ≡ no_plan → i ≡ length fs → p ≡ plan_in ns (drop i fs)
  unfolding plan_in
  plan_start e l = e ∙ sym (ap (plan_in ns) (ap (λ k. drop k fs) l ∙ drop-length fs))

  pub plan_more : (p : Plan) (i : ℕ) {q : Plan} {f : Form} → 0 < i → i ≤ length fs → p ≡ plan_in ns (drop i fs) → f ≡ get_or fs (i - 1) blank → q ≡ plan_step ns f p → q ≡ plan_in ns (drop (i - 1) fs)
  unfolding plan_in
  plan_more p i {q} {f} h l e g w =
      let z : suc (i - 1) ≡ i = omega arith in
      w ∙ ap (λ x. plan_step ns x p) g
      ∙ ap (plan_step ns (get_or fs (i - 1) blank)) e
      ∙ sym (ap (plan_in ns) (drop-cons fs (i - 1) blank (omega arith) ∙ ap (λ k. get_or fs (i - 1) blank ∷ drop k fs) z))

  pub plan_end : (p : Plan) (i : ℕ) → i ≤ 0 → p ≡ plan_in ns (drop i fs) → p ≡ plan_in ns fs
  plan_end p i h e = let z : i ≡ 0 = omega arith in e ∙ ap (λ k. plan_in ns (drop k fs)) z
