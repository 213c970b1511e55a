-- What is asked by a table of forms, form by form from the last to the first.
use mathlib.Core.Path.{◌≡◌, sym, ap, ap₂, ◌∙◌}
use mathlib.Core.List.{List}
use Prim.Native.Nat.{ℕ, suc, ◌-◌, ◌≤◌, ◌<◌}
use native.Mathlib.Omega.{arith}
use lib.Bits.{bit_and}
use lib.ListN.{length, get_or, drop, drop_of_length-le}
use lib.Seq.{drop-cons}
use borrow.Author.Tests.{eq-eqb, ne_eqb}
use Rattle.masks.specs.Masks.{mask_of}
use Rattle.orders.specs.Orders.{codes_in}
use Rattle.nodes.specs.Nodes.{link}
use Rattle.query.specs.Tables.{blank}
use Rattle.query.specs.Forms.{form_order}
use Rattle.query.specs.declared.Form.{Form}
use Rattle.comparisons.specs.Compared.{compared, named_by, column_code}
use Rattle.needs.specs.declared.Needs.{Needs}
use Rattle.needs.specs.declared.Sides.{Sides}
use Rattle.needs.specs.Asking.{all_columns, form_fn, rows_needs, pick_needs, keep_needs, join_needs, aggregate_needs, outer_needs, wide_needs, form_needs, no_needs, needs_from, needs_in}

-- ---- a form

module _ (f : Form) (s : Sides) {r : Sides} {b : ℕ} (q : b ≡ column_code f.second) where
  pub wide_join : f.kind ≡ 3 → {a : ℕ} {n : Needs} → a ≡ column_code f.first → n ≡ join_needs a b s.outer s.inner → r ≡ outer_needs n s → r ≡ wide_needs f s
  unfolding wide_needs
  wide_join e p i g = g ∙ rw (eq-eqb f.kind 3 e) (ap (λ n. outer_needs n s) (i ∙ ap₂ (λ a b. join_needs a b s.outer s.inner) p q))

  pub wide_aggregate : (f.kind ≡ 3 → ⊥) → f.kind ≡ 4 → {k : ℕ} {n : Needs} → k ≡ form_fn f.first → n ≡ aggregate_needs k b f.third f.fourth s.outer → r ≡ outer_needs n s → r ≡ wide_needs f s
  unfolding wide_needs
  wide_aggregate u e k i g =
      g ∙ rw (ne_eqb f.kind 3 u, eq-eqb f.kind 4 e)
      (ap (λ n. outer_needs n s) (i ∙ ap₂ (λ k b. aggregate_needs k b f.third f.fourth s.outer) k q))

pub wide_other : (f : Form) (s : Sides) → (f.kind ≡ 3 → ⊥) → (f.kind ≡ 4 → ⊥) → s ≡ wide_needs f s
unfolding wide_needs
wide_other f s u v = rw (ne_eqb f.kind 3 u, ne_eqb f.kind 4 v)

pub ruleset wide_ends = (wide_join, wide_aggregate, wide_other)

module _ (ns ws : List ℕ) (f : Form) (s : Sides) {r : Sides} where
  pub form_rows : f.kind ≡ 0 → r ≡ record { outer = rows_needs ns f.first; inner = s.outer } → r ≡ form_needs ns ws f s
  unfolding form_needs
  form_rows e g = g ∙ rw (eq-eqb f.kind 0 e)

  module _ (x : f.kind ≡ 0 → ⊥) where
    pub form_pick : f.kind ≡ 1 → {k : ℕ} {n : Needs} → k ≡ named_by (compared ws (link ws f.first) f.first) → n ≡ pick_needs k s.outer → r ≡ outer_needs n s → r ≡ form_needs ns ws f s
    unfolding form_needs
    form_pick e a b g = g ∙ rw (ne_eqb f.kind 0 x, eq-eqb f.kind 1 e) (ap (λ n. outer_needs n s) (b ∙ ap (λ k. pick_needs k s.outer) a))

    module _ (y : f.kind ≡ 1 → ⊥) where
      pub form_keep : f.kind ≡ 2 → {o k : ℕ} {n : Needs} → o ≡ form_order f → k ≡ bit_and (mask_of (codes_in o)) all_columns → n ≡ keep_needs k s.outer → r ≡ outer_needs n s → r ≡ form_needs ns ws f s
      unfolding form_needs
      form_keep e o a b g =
          g ∙ rw (ne_eqb f.kind 0 x, ne_eqb f.kind 1 y, eq-eqb f.kind 2 e) (ap (λ n. outer_needs n s) (b ∙ ap (λ k. keep_needs k s.outer) (a ∙ ap (λ m. bit_and (mask_of (codes_in m)) all_columns) o)))

      pub form_wide : (f.kind ≡ 2 → ⊥) → r ≡ wide_needs f s → r ≡ form_needs ns ws f s
      unfolding form_needs
      form_wide z g = g ∙ rw (ne_eqb f.kind 0 x, ne_eqb f.kind 1 y, ne_eqb f.kind 2 z)

pub ruleset form_ends = (form_rows, form_pick, form_keep, form_wide)

-- ---- a table

module _ (ns ws : List ℕ) (fs : List Form) where
  pub table_start : {s : Sides} {n : ℕ} → s ≡ no_needs ns → n ≡ length fs → s ≡ needs_from ns ws (drop n fs)
  unfolding needs_from
  table_start {n} e l = e ∙ sym (ap (needs_from ns ws) (drop_of_length-le fs {i = n} (omega arith)))

  pub table_on : (i : ℕ) {s t : Sides} {f : Form} → 0 < i → i ≤ length fs → s ≡ needs_from ns ws (drop i fs) → f ≡ get_or fs (i - 1) blank → t ≡ form_needs ns ws f s → t ≡ needs_from ns ws (drop (i - 1) fs)
  unfolding needs_from
  table_on i {s} {t} {f} h l e g k =
      let z : suc (i - 1) ≡ i = omega arith in
      k ∙ ap₂ (form_needs ns ws) g (e ∙ ap (λ j. needs_from ns ws (drop j fs)) (sym z))
      ∙ sym (ap (needs_from ns ws) (drop-cons fs (i - 1) blank (omega arith)))

  pub table_end : (i : ℕ) {s : Sides} → i ≤ 0 → s ≡ needs_from ns ws (drop i fs) → s.outer ≡ needs_in ns ws fs
  unfolding needs_in
  table_end i h e = let z : i ≡ 0 = omega arith in ap (λ (s : Sides). s.outer) (e ∙ ap (λ j. needs_from ns ws (drop j fs)) z)

pub ruleset table_ends = (table_start, table_on, table_end)
