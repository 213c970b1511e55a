-- What is asked with one form more, part by part.
use mathlib.Core.Path.{◌≡◌, refl, sym, ap, ◌∙◌}
use mathlib.Core.List.{List, [], ◌∷◌}
use mathlib.Core.Bool.{Bool, true, false, ◌||◌}
use Prim.Native.Nat.{ℕ, ◌^◌, ◌≤◌, ◌<◌}
use native.Mathlib.Omega.{arith}
use lib.Bits.{bit_and, bit_or, or_zero_l}
use lib.Dec.{eqb}
use borrow.Author.Tests.{eq-eqb, ne_eqb, lt-ltb, le-ltb}
use Rattle.syntax.proofs.Aggregates.{fn_back, fn_none, fn_past}
use Rattle.masks.specs.Masks.{bit?, with_bit, mask_of}
use Rattle.orders.specs.Orders.{codes_in}
use Rattle.nodes.specs.Nodes.{link}
use Rattle.grant.specs.Grants.{streams_mask}
use Rattle.comparisons.specs.Compared.{compared, named_by}
use Rattle.needs.specs.declared.Needs.{Needs}
use Rattle.needs.specs.declared.Sides.{Sides}
use Rattle.needs.specs.Asking.{all_columns, code_bit, form_fn, rows_needs, pick_needs, keep_needs, join_needs, aggregate_needs, outer_needs, no_needs}

-- ---- codes

pub bit_none : (c : ℕ) → 24 ≤ c → 0 ≡ code_bit c
unfolding code_bit
bit_none c h = rw (le-ltb c 24 h)

pub bit_set : (c : ℕ) {x : ℕ} → c < 24 → x ≡ with_bit 0 c → x ≡ code_bit c
unfolding code_bit with_bit
bit_set c h e = e ∙ rw (lt-ltb c 24 h, lt-ltb c 32 (omega arith)) (or_zero_l (2 ^ c))

pub ruleset bit_ends = (bit_none, bit_set)

module _ (n : ℕ) where
  pub fn_zero : n ≡ 0 → 5 ≡ form_fn n
  unfolding form_fn
  fn_zero e = rw e (sym fn_none)

  pub fn_above : 5 < n → 5 ≡ form_fn n
  unfolding form_fn
  fn_above h = sym (fn_past n (omega arith))

  pub fn_one : (n ≡ 0 → ⊥) → n ≤ 5 → n ≡ form_fn n
  unfolding form_fn
  fn_one e h = sym (fn_back n (omega arith) h)

pub ruleset fn_ends = (fn_zero, fn_above, fn_one)

-- ---- columns

pub order_bits : (m : ℕ) {x : ℕ} → x ≡ mask_of (codes_in m) → bit_and x 16777215 ≡ bit_and (mask_of (codes_in m)) all_columns
order_bits m e = ap (λ y. bit_and y 16777215) e

pub pick_bits : (ws : List ℕ) (k : ℕ) {j x : ℕ} → j ≡ link ws k → x ≡ named_by (compared ws j k) → x ≡ named_by (compared ws (link ws k) k)
pick_bits ws k e f = f ∙ ap (λ j. named_by (compared ws j k)) e

pub ruleset column_ends = (order_bits, pick_bits)

-- ---- forms

pub rows_made : (ns : List ℕ) (s : ℕ) {h : ℕ} → h ≡ streams_mask ns (s ∷ [])
    → ◌≡◌ {A = Needs} (record { left = s; right = 4294967295; need = 0; keys = 0; first = 0; second = 0; header = h; timed = false; picked = false; aggregate = 0; column = 0; size = 0; offset = 0 }) (rows_needs ns s)
unfolding rows_needs
rows_made ns s e = rw e

module _ (m : ℕ) (n : Needs) where
  pub timed_there : n.timed ≡ true → true ≡ (pick_needs m n).timed
  unfolding pick_needs
  timed_there e = rw e

  module _ (e : n.timed ≡ false) where
    pub timed_joined : (n.right ≡ 4294967295 → ⊥) → false ≡ (pick_needs m n).timed
    unfolding pick_needs
    timed_joined f = rw (e, ne_eqb n.right 4294967295 f)

    pub timed_here : n.right ≡ 4294967295 → {x : Bool} → x ≡ bit? m 24 → x ≡ (pick_needs m n).timed
    unfolding pick_needs
    timed_here f {x} g = rw (e, eq-eqb n.right 4294967295 f, ← g)

  pub picked_there : n.picked ≡ true → true ≡ (pick_needs m n).picked
  unfolding pick_needs
  picked_there e = rw e

  pub picked_here : n.picked ≡ false → eqb n.aggregate 0 ≡ (pick_needs m n).picked
  unfolding pick_needs
  picked_here e = rw e

  pub pick_made : {t p : Bool} → t ≡ (pick_needs m n).timed → p ≡ (pick_needs 0 n).picked
      → ◌≡◌ {A = Needs} (record { left = n.left; right = n.right; need = bit_or (bit_and m 16777215) n.need; keys = n.keys; first = n.first; second = n.second; header = n.header; timed = t; picked = p; aggregate = n.aggregate; column = n.column; size = n.size; offset = n.offset })
      (pick_needs m n)
  unfolding pick_needs
  pick_made e f = rw (e, f)

  pub keep_made : ◌≡◌ {A = Needs} (record { left = n.left; right = n.right; need = n.need; keys = n.keys; first = n.first; second = n.second; header = m; timed = n.timed; picked = n.picked; aggregate = n.aggregate; column = n.column; size = n.size; offset = n.offset })
      (keep_needs m n)
  unfolding keep_needs
  keep_made = refl

pub join_made : (a b : ℕ) (l r : Needs) {x y : ℕ} → x ≡ code_bit a → y ≡ code_bit b
    → ◌≡◌ {A = Needs} (record { left = l.left; right = r.left; need = bit_or l.need r.need; keys = bit_or x y; first = a; second = b; header = bit_or l.header r.header; timed = l.timed || r.timed; picked = l.picked || r.picked; aggregate = 0; column = 0; size = 0; offset = 0 })
    (join_needs a b l r)
unfolding join_needs
join_made a b l r e f = rw (e, f)

pub aggregate_made : (f c size offset : ℕ) (n : Needs) {x : ℕ} → x ≡ code_bit c
    → ◌≡◌ {A = Needs} (record { left = n.left; right = n.right; need = bit_or x n.need; keys = n.keys; first = n.first; second = n.second; header = 0; timed = n.timed; picked = n.picked; aggregate = f; column = c; size = size; offset = offset })
    (aggregate_needs f c size offset n)
unfolding aggregate_needs
aggregate_made f c size offset n e = rw e

pub ruleset need_ends = (rows_made, timed_there, timed_joined, timed_here, picked_there, picked_here, pick_made, keep_made, join_made, aggregate_made)

-- ---- two queries

pub none_made : (ns : List ℕ) {n : Needs} → n ≡ rows_needs ns 0 → ◌≡◌ {A = Sides} (record { outer = n; inner = n }) (no_needs ns)
unfolding no_needs
none_made ns e = rw e

pub outer_made : (n : Needs) (s : Sides) → ◌≡◌ {A = Sides} (record { outer = n; inner = s.inner }) (outer_needs n s)
unfolding outer_needs
outer_made n s = refl

pub front_made : (n : Needs) {m x : Needs} → x ≡ m → ◌≡◌ {A = Sides} (record { outer = x; inner = n }) (record { outer = m; inner = n })
front_made n e = rw e

pub ruleset side_ends = (none_made, outer_made, front_made)
