-- The ends of the functions that read a comparison, a closing bracket and two conditions of a list, and of those that count words.
use mathlib.Core.Path.{◌≡◌, refl, sym, ap, ◌∙◌}
use mathlib.Core.List.{List}
use mathlib.Core.Bool.{Bool, true, false, ◌||◌, and-false}
use Prim.Native.Nat.{ℕ, ◌+◌, ◌≤◌, ◌<◌}
use native.Mathlib.Omega.{arith}
use lib.Dec.{eqb, leb}
use lib.ListN.{get_or}
use lib.Bits.{bit_or}
use borrow.Author.Tests.{ne_eqb, le-leb, lt-leb}
use Rattle.syntax.specs.Grammar.{Bytes}
use Rattle.text.specs.Words.{Found, Some, None}
use Rattle.masks.specs.Masks.{with_bit}
use Rattle.terms.specs.declared.Comparison.{Comparison}
use Rattle.nodes.specs.Nodes.{node_words}
use Rattle.nodes.specs.Storing.{put_node, inner_node}
use Rattle.nodes.specs.declared.Node.{Node}
use Rattle.conditions.specs.declared.Seen.{Seen}
use Rattle.conditions.specs.Seeing.{deep_seen, has_room}
use Rattle.conditions.specs.Steps.{Answers, counted, Placed, compared_node, compared_one, compared_seen, compared_stored, closed_seen, closed_stored, both_seen, fitted}

-- ---- counts

pub count_more : (n : ℕ) → 255 < n → 256 ≡ counted n
unfolding counted
count_more n h = omega arith

pub count_exact : (n : ℕ) → n ≤ 255 → n ≡ counted n
unfolding counted
count_exact n h = omega arith

pub ruleset count_ends = (count_more, count_exact)

-- counts are at most 256
pub count_few : (n : ℕ) {k : ℕ} → k ≡ counted n → k ≤ 256
unfolding counted
count_few n e = omega arith

pub node_placed : (b : ℕ) (n : Node) (ws : List ℕ) {ws' : List ℕ} {k r : ℕ} → ws' ≡ put_node ws b n → k ≡ node_words n → r ≡ counted (b + k) → Placed b n ws ws' r
node_placed b n ws w e f = record { count = f ∙ ap (λ m. counted (b + m)) e; stored = w }

pub ruleset placed_ends = (node_placed)

-- ---- terms that are not declared

pub undeclared_left : (l r : ℕ) → l ≡ 28 → true ≡ (eqb l 28 || eqb r 28)
undeclared_left l r e = rw e

pub undeclared_right : (l r : ℕ) → (l ≡ 28 → ⊥) → eqb r 28 ≡ (eqb l 28 || eqb r 28)
undeclared_right l r x = rw (ne_eqb l 28 x)

pub ruleset undeclared_ends = (undeclared_left, undeclared_right)

-- ---- a comparison

pub compared_none : (h b : ℕ) {y : Found Comparison} (ws : List ℕ) {r : Found Seen} → None ≡ y → r ≡ None → Answers r ws (compared_seen b y) (compared_stored h b y ws)
unfolding Answers compared_seen compared_stored
compared_none h b ws e f = rw (← e) (f, refl)

pub compared_some : (h b : ℕ) {x : Comparison} {y : Found Comparison} → Some x ≡ y → (ws : List ℕ) {ws' : List ℕ} {k : ℕ}
    → Placed b (record { head = h; left = x.left; right = x.right; before = b; value = x.value }) ws ws' k → {u : Bool} → u ≡ (eqb x.left 28 || eqb x.right 28)
    → {l r : ℕ} → l ≡ with_bit 0 x.left → r ≡ with_bit 0 x.right
    → Answers (Some (record { next = x.next; count = k; over = x.over; unknown = u; deep = false; lefts = l; rights = r })) ws' (compared_seen b y) (compared_stored h b y ws)
unfolding Answers compared_seen compared_one compared_stored compared_node node_words
compared_some h b e ws w u p q = rw (← e, u, p, q, w.count) (refl, w.stored)

pub ruleset compared_ends = (compared_none, compared_some)

-- ---- a closing bracket

module _ (h b : ℕ) (s : Bytes) (i : Seen) (ws : List ℕ) {q : ℕ} (e : q ≡ get_or s i.next 0) where
  pub closed_open : (q ≡ 41 → ⊥) → Answers None ws (closed_seen s i) (closed_stored h b s i ws)
  unfolding Answers closed_seen closed_stored
  closed_open n = rw (← e, ne_eqb q 41 n) (refl, refl)

  module _ (z : q ≡ 41) where
    pub closed_deep : {r : Seen} → i.deep ≡ true → r ≡ deep_seen (i.next + 1) → Answers (Some r) ws (closed_seen s i) (closed_stored h b s i ws)
    unfolding Answers closed_seen closed_stored
    closed_deep d g = rw (← e, z, d, g) (refl, refl)

    pub closed_some : {ws' : List ℕ} {k : ℕ} → i.deep ≡ false → Placed i.count (record { head = h; left = 0; right = 0; before = b; value = 0 }) ws ws' k
        → Answers (Some (record { next = i.next + 1; count = k; over = i.over; unknown = i.unknown; deep = false; lefts = i.lefts; rights = i.rights })) ws' (closed_seen s i) (closed_stored h b s i ws)
    unfolding Answers closed_seen closed_stored inner_node node_words
    closed_some d w = rw (← e, z, d, w.count) (refl, w.stored)

pub ruleset closed_ends = (closed_open, closed_deep, closed_some)

-- ---- some conditions, and one after them

module _ (i j : Seen) where
  pub both_first : {r : Seen} → i.deep ≡ true → r ≡ deep_seen j.next → r ≡ both_seen i j
  unfolding both_seen
  both_first f g = g ∙ rw f

  module _ (f : i.deep ≡ false) where
    pub both_second : {r : Seen} → j.deep ≡ true → r ≡ deep_seen j.next → r ≡ both_seen i j
    unfolding both_seen
    both_second d g = g ∙ rw (f, d)

    pub both_some : j.deep ≡ false → {o u : Bool} → o ≡ (i.over || j.over) → u ≡ (i.unknown || j.unknown) → {l r : ℕ} → l ≡ bit_or i.lefts j.lefts → r ≡ bit_or i.rights j.rights
        → ◌≡◌ {A = Seen} (record { next = j.next; count = j.count; over = o; unknown = u; deep = false; lefts = l; rights = r }) (both_seen i j)
    unfolding both_seen
    both_some d a b c e = rw (f, d, a, b, c, e)

pub ruleset both_ends = (both_first, both_second, both_some)

-- ---- room

module _ (room : ℕ) (i : Seen) where
  pub fitted_deep : i.deep ≡ true → Some i ≡ fitted room i
  unfolding fitted
  fitted_deep d = rw d

  module _ (d : i.deep ≡ false) where
    pub fitted_many : 255 < i.count → None ≡ fitted room i
    unfolding fitted has_room
    fitted_many l = sym (rw (d, lt-leb i.count 255 l, and-false (leb i.count room)))

    module _ (l : i.count ≤ 255) where
      pub fitted_short : room < i.count → None ≡ fitted room i
      unfolding fitted has_room
      fitted_short k = sym (rw (d, lt-leb i.count room k))

      pub fitted_some : i.count ≤ room → Some i ≡ fitted room i
      unfolding fitted has_room
      fitted_some k = rw (d, le-leb i.count room k, le-leb i.count 255 l)

pub ruleset fitted_ends = (fitted_deep, fitted_many, fitted_short, fitted_some)
