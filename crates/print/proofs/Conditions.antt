-- Conditions and lists of them.
use mathlib.Core.Path.{◌≡◌, refl, sym, ap, ap₂, ◌∙◌}
use mathlib.Core.List.{List, [], ◌∷◌, ◌++◌, map}
use mathlib.Core.Bool.{Bool, true, false}
use mathlib.Core.Option.{Option, none, some}
use Prim.Native.Nat.{ℕ, zero, suc, ◌+◌, ◌*◌, ◌-◌, ◌<◌, ◌≤◌, min}
use native.Mathlib.Decide.{dec_lt, ℕ_discrete}
use native.Mathlib.Omega.{arith}
use lib.Dec.{ltb}
use borrow.Author.Tests.{ne_eqb, lt-ltb, le-ltb}
use Rattle.lists.specs.Lists.{empty?}
use Rattle.syntax.specs.Grammar.{Bytes, Entry, Cond, test, all, any, neg, Conds, last, more, put_name, put_open, put_items, put_cond, put_conds}
use Rattle.model.specs.Queries.{Schema, Compare}
use Rattle.model.specs.Conditions.{map_cond, map_conds, conds_of}
use Rattle.model.specs.Grants.{fill_compare, fill}
use Rattle.calls.specs.Names.{test_of}
use Rattle.text.specs.Words.{bytes_from, name_of}
use Rattle.nodes.specs.declared.Node.{Node}
use Rattle.nodes.specs.Nodes.{no_node, node_at, node_compare, link, some_conds, headed, cond_in, conditions_of}
use Rattle.nodes.proofs.Reaching.{some_listed, test_headed, cond_on, list_off}
use Rattle.print.specs.Writing.{over, after, Put, byte_text}
use Rattle.print.specs.Texts.{values, valued_term, valued, test_text, cond_at, list_at, compares, cond_text, conds_text, list_text, list_opening, conditions_text, when_text, First, Lasts}
use Rattle.print.proofs.Putting.{put_none, put_as, put_then}
use Rattle.print.proofs.Walks.{link_is}

-- ---- words of heads

module _ (h : ℕ) where
  unfoldable heads_compute : Unit {0}
  unfolding name_of bytes_from list_opening
  heads_compute = tt

  pub opened_and : h ≡ 7 → name_of 677473892 ≡ list_opening h
  unfolding heads_compute
  opened_and e = rw e

  pub opened_or : h ≡ 8 → name_of 2649970 ≡ list_opening h
  unfolding heads_compute
  opened_or e = rw e

  pub opened_not : (h ≡ 7 → ⊥) → (h ≡ 8 → ⊥) → name_of 678326132 ≡ list_opening h
  unfolding heads_compute
  opened_not a b = rw (ne_eqb h 7 a, ne_eqb h 8 b)

pub ruleset head_ends = (opened_and, opened_or, opened_not)

-- ---- conditions by their heads

node_none : (ws : List ℕ) → node_at ws 0 ≡ no_node
unfolding node_at
node_none ws = refl

module _ (h : ℕ) where
  pub compares_low : h < 7 → true ≡ compares h
  unfolding compares
  compares_low l = rw (lt-ltb h 7 l)

  pub compares_high : 7 ≤ h → ltb 9 h ≡ compares h
  unfolding compares
  compares_high l = rw (le-ltb h 7 l)

  other : {x : Bool} → x ≡ compares h → x ≡ true → (7 ≤ h → h ≤ 9 → ⊥)
  unfolding compares
  other e t l k = let z : ◌≡◌ {A = Bool} false true = sym (rw (le-ltb h 7 l, le-ltb 9 h k)) ∙ sym e ∙ t in let y : ◌≡◌ {A = ℕ} 0 1 = cc in omega arith

  joins : {x : Bool} → x ≡ compares h → x ≡ false → (7 ≤ h) × (h ≤ 9)
  unfolding compares
  joins e t = go (dec_lt h 7) (dec_lt 9 h)
    where
      go : Dec (h < 7) → Dec (9 < h) → (7 ≤ h) × (h ≤ 9)
      go (yes l) k = let z : ◌≡◌ {A = Bool} true false = sym (rw (lt-ltb h 7 l)) ∙ sym e ∙ t in absurd (let y : ◌≡◌ {A = ℕ} 0 1 = cc in omega arith)
      go (no l) (yes k) = let z : ◌≡◌ {A = Bool} true false = sym (rw (le-ltb h 7 (omega arith), lt-ltb 9 h k)) ∙ sym e ∙ t in absurd (let y : ◌≡◌ {A = ℕ} 0 1 = cc in omega arith)
      go (no l) (no k) = (omega arith, omega arith)

pub ruleset compares_ends = (compares_low, compares_high)

pub head_some : (ws : List ℕ) (k : ℕ) {n : Node} {x : Bool} → n ≡ node_at ws k → x ≡ compares n.head → x ≡ false → 0 < k
unfolding no_node
head_some ws zero {n} e g h = let f = ap (λ (m : Node). m.head) (e ∙ node_none ws) in let i = joins n.head g h in absurd (omega (arith, i.0))
head_some ws (suc k) e g h = omega arith

test_at : (ws : List ℕ) (k : ℕ) (n : Node) → n ≡ node_at ws k → (n.head ≡ 7 → ⊥) → (n.head ≡ 8 → ⊥) → (n.head ≡ 9 → ⊥) → cond_at ws k ≡ test (node_compare n)
unfolding cond_in
test_at ws zero n e a b c = ap (λ m. test (node_compare m)) (sym (e ∙ node_none ws))
test_at ws (suc k) n e a b c = cond_on ws (suc k) (omega arith) ∙ ap (λ m. headed m (list_at ws (link ws (suc k)) (suc k - 1))) (sym e) ∙ test_headed n (list_at ws (link ws (suc k)) (suc k - 1)) a b c

module _ (d : Schema) (o : Option (List Entry)) (ws : List ℕ) (k : ℕ) {n : Node} (f : n ≡ node_at ws k) where
  test_is : (r : Bytes) → cond_at ws k ≡ test (node_compare n) → cond_text d o ws k r ≡ test_text d o n r
  unfolding cond_text test_text map_cond
  test_is r h = ap (λ c. put_cond (map_cond (test_of d) (map_cond (valued o) c)) r) h

  module _ {x : Bool} (g : x ≡ compares n.head) where
    pub cond_test : {m m' : Bytes} {p q : ℕ} → x ≡ true → Put (test_text d o n) m p m' q → Put (cond_text d o ws k) m p m' q
    cond_test h y =
        let w : 7 ≤ n.head → n.head ≤ 9 → ⊥ = other n.head g h in
        put_as (λ r. test_is r (test_at ws k n f (λ i. w (omega arith) (omega arith)) (λ i. w (omega arith) (omega arith)) (λ i. w (omega arith) (omega arith)))) y

  opening_is : (r : Bytes) (b j : ℕ) → 0 < k → 7 ≤ n.head → n.head ≤ 9 → b ≡ link ws k → Lasts ws n.head b (k - 1) j → cond_text d o ws k r ≡ list_opening n.head ++ list_text d o ws b j (41 ∷ r)
  unfolding cond_text list_text conds_text list_opening headed map_cond put_cond put_open
  opening_is r b j above lo hi g x =
      ap (λ c. put_cond (map_cond (test_of d) (map_cond (valued o) c)) r) (cond_on ws k above ∙ ap₂ (λ a i. headed a (list_at ws i (k - 1))) (sym f) (sym g)) ∙ go (ℕ_discrete n.head 7) (ℕ_discrete n.head 8)
    where
      go : Dec (n.head ≡ 7) → Dec (n.head ≡ 8) → put_cond (map_cond (test_of d) (map_cond (valued o) (headed n (list_at ws b (k - 1))))) r ≡ list_opening n.head ++ put_conds (map_conds (test_of d) (map_conds (valued o) (some_conds (list_at ws b j)))) (41 ∷ r)
      go (yes a) _ = let q : j ≡ k - 1 = x.all (λ i. omega arith) in rw (a, q)
      go (no a) (yes c) = let q : j ≡ k - 1 = x.all (λ i. omega arith) in rw (c, q)
      go (no a) (no c) = let h : n.head ≡ 9 = omega arith in rw (h, x.first h)

  pub cond_list : {x : Bool} {b j : ℕ} (w : ℕ) {m m₁ m₂ m₃ : Bytes} {p p₁ p₂ p₃ : ℕ} → x ≡ compares n.head → x ≡ false → b ≡ min n.before (k - 1) → Lasts ws n.head b (k - 1) j → name_of w ≡ list_opening n.head
      → Put (put_name (name_of w)) m p m₁ p₁ → Put (list_text d o ws b j) m₁ p₁ m₂ p₂ → Put (byte_text 41) m₂ p₂ m₃ p₃ → Put (cond_text d o ws k) m p m₃ p₃
  unfolding put_name byte_text
  cond_list {x} {b} {j} w i h g l v a y z =
      let t = joins n.head i h in
      put_as (λ r. opening_is r b j (head_some ws k f i h) t.0 t.1 (link_is ws k f g) l ∙ ap (λ u. u ++ list_text d o ws b j (41 ∷ r)) (sym v)) (put_then a (put_then y z))

pub list_falls : (ws : List ℕ) (k : ℕ) {n : Node} {x : Bool} {b j t : ℕ} → 2 * k ≡ t → n ≡ node_at ws k → x ≡ compares n.head → x ≡ false → Lasts ws n.head b (k - 1) j → 2 * j + 1 < t
list_falls ws k e f g h l = omega (arith, head_some ws k f g h, l.low)

pub cond_falls : {ws : List ℕ} {at j i t : ℕ} → 2 * j + 1 ≡ t → First ws at j i → 2 * i < t
cond_falls e x = omega (arith, x.low)

pub zero_falls : (j : ℕ) {t : ℕ} → 2 * j + 1 ≡ t → 2 * 0 < t
zero_falls j e = omega arith

pub ruleset cond_ends = (cond_test, cond_list)

-- ---- lists

-- any conditions with the values of a profile, each after a space
unfoldable pub tail_text : Schema → Option (List Entry) → List (Cond Compare) → Bytes → Bytes
tail_text d o cs = put_items (λ c. put_cond (map_cond (test_of d) (map_cond (valued o) c))) cs

conds_is : (d : Schema) (o : Option (List Entry)) (c : Cond Compare) (cs : List (Cond Compare)) (r : Bytes) → conds_text d o (conds_of c cs) r ≡ tail_text d o (c ∷ cs) r
unfolding conds_text tail_text conds_of map_cond put_items put_cond
conds_is d o c [] r = refl
conds_is d o c (x ∷ xs) r = ap (λ t. 32 ∷ put_cond (map_cond (test_of d) (map_cond (valued o) c)) t) (conds_is d o x xs r)

some_is : (d : Schema) (o : Option (List Entry)) (cs : List (Cond Compare)) (r : Bytes) → empty? cs ≡ false → conds_text d o (some_conds cs) r ≡ tail_text d o cs r
unfolding some_conds empty?
some_is d o [] r h = absurd (let z : ◌≡◌ {A = ℕ} 0 1 = cc in omega arith)
some_is d o (c ∷ cs) r h = conds_is d o c cs r

module _ (d : Schema) (o : Option (List Entry)) (ws : List ℕ) (stop j : ℕ) where
  none_is : (r : Bytes) → j ≤ stop → list_text d o ws stop j r ≡ 32 ∷ cond_text d o ws 0 r
  unfolding list_text conds_text cond_text some_conds cond_in map_cond put_cond
  none_is r h = ap (λ cs. conds_text d o (some_conds cs) r) (list_off ws stop j [] h)

  pub list_none : {m m₁ m₂ : Bytes} {p p₁ p₂ : ℕ} → j ≤ stop → Put (byte_text 32) m p m₁ p₁ → Put (cond_text d o ws 0) m₁ p₁ m₂ p₂ → Put (list_text d o ws stop j) m p m₂ p₂
  unfolding byte_text
  list_none h x y = put_as (λ r. none_is r h) (put_then x y)

-- what is still to be written after the conditions down to place `at`
pub record Left (d : Schema) (o : Option (List Entry)) (ws : List ℕ) (stop j : ℕ) (m₀ : Bytes) (p₀ at : ℕ) (m : Bytes) (p : ℕ) : Type 0 where
  pub low : at ≤ j
  pub bytes : (r : Bytes) → over m₀ p₀ (list_text d o ws stop j r) ≡ over m p (tail_text d o (list_at ws at j) r)
  pub place : (r : Bytes) → after p₀ (list_text d o ws stop j r) ≡ after p (tail_text d o (list_at ws at j) r)

module _ {d : Schema} {o : Option (List Entry)} {ws : List ℕ} {stop j : ℕ} {m₀ : Bytes} {p₀ : ℕ} where
  pub left_start : stop < j → Left d o ws stop j m₀ p₀ stop m₀ p₀
  unfolding list_text
  left_start h =
      record {
        low = omega arith;
        bytes = λ r. ap (over m₀ p₀) (some_is d o (list_at ws stop j) r (some_listed ws stop j h));
        place = λ r. ap (after p₀) (some_is d o (list_at ws stop j) r (some_listed ws stop j h));
      }

  module _ {at : ℕ} {m : Bytes} {p : ℕ} (x : Left d o ws stop j m₀ p₀ at m p) where
    next_is : (i : ℕ) (r : Bytes) → at < j → First ws at j i → tail_text d o (list_at ws at j) r ≡ 32 ∷ cond_text d o ws i (tail_text d o (list_at ws i j) r)
    unfolding tail_text cond_text put_items
    next_is i r h f = ap (λ cs. tail_text d o cs r) (f.items h)

    pub left_more : {i : ℕ} {m₁ m₂ : Bytes} {p₁ p₂ : ℕ} → at < j → First ws at j i → Put (byte_text 32) m p m₁ p₁ → Put (cond_text d o ws i) m₁ p₁ m₂ p₂ → Left d o ws stop j m₀ p₀ i m₂ p₂
    unfolding byte_text
    left_more {i} {m₁} {m₂} {p₁} {p₂} h f y z =
        record {
          low = f.low;
          bytes = λ r. x.bytes r ∙ ap (over m p) (next_is i r h f) ∙ y.bytes (cond_text d o ws i (tail_text d o (list_at ws i j) r)) ∙ z.bytes (tail_text d o (list_at ws i j) r);
          place = λ r. x.place r ∙ ap (after p) (next_is i r h f) ∙ y.place (cond_text d o ws i (tail_text d o (list_at ws i j) r)) ∙ z.place (tail_text d o (list_at ws i j) r);
        }

    pub left_falls : {i : ℕ} → at < j → First ws at j i → j - i < j - at
    left_falls h f = let s = f.some h in omega arith

    pub left_end : j ≤ at → Put (list_text d o ws stop j) m₀ p₀ m p
    unfolding tail_text put_items
    left_end h =
        record {
          bytes = λ r. x.bytes r ∙ ap (λ cs. over m p (tail_text d o cs r)) (list_off ws at j [] h);
          place = λ r. x.place r ∙ ap (λ cs. after p (tail_text d o cs r)) (list_off ws at j [] h);
        }

pub ruleset list_ends = (list_none, left_start, left_more, left_falls, left_end)

-- ---- a condition as it stands

mutual
  unfolding map_cond valued valued_term

  plain_cond : (c : Cond Compare) → map_cond (valued none) c ≡ c
  plain_cond (test t) = refl
  plain_cond (all cs) = ap all (plain_conds cs)
  plain_cond (any cs) = ap any (plain_conds cs)
  plain_cond (neg c) = ap neg (plain_cond c)

  plain_conds : (cs : Conds Compare) → map_conds (valued none) cs ≡ cs
  plain_conds (last c) = ap last (plain_cond c)
  plain_conds (more c cs) = ap₂ more (plain_cond c) (plain_conds cs)

pub own_is : (d : Schema) (e : List Entry) (ws : List ℕ) (k : ℕ) (r : Bytes) → cond_text d (values true e) ws k r ≡ put_cond (map_cond (test_of d) (cond_at ws k)) r
unfolding cond_text values
own_is d e ws k r = ap (λ c. put_cond (map_cond (test_of d) c) r) (plain_cond (cond_at ws k))

-- ---- the conditions of the first words

tail_items : (d : Schema) (e : List Entry) (cs : List (Cond Compare)) (r : Bytes) → conditions_text d (map (fill e) cs) r ≡ tail_text d (some e) cs r
unfolding conditions_text tail_text put_items fill valued fill_compare valued_term
tail_items d e [] r = refl
tail_items d e (c ∷ cs) r = ap (λ t. 32 ∷ put_cond (map_cond (test_of d) (fill e c)) t) (tail_items d e cs r)

module _ (d : Schema) (e : List Entry) (ws : List ℕ) (n : ℕ) {m : Bytes} {p : ℕ} where
  pub when_none : n ≡ 0 → Put (when_text d e ws n) m p m p
  unfolding when_text conditions_of conditions_text put_items
  when_none h = put_none (λ r. ap (λ cs. conditions_text d (map (fill e) cs) r) (list_off ws 0 n [] (omega arith)))

  pub when_some : {m₁ : Bytes} {p₁ : ℕ} → (n ≡ 0 → ⊥) → Put (list_text d (values false e) ws 0 n) m p m₁ p₁ → Put (when_text d e ws n) m p m₁ p₁
  unfolding when_text conditions_of list_text values
  when_some h x = put_as (λ r. tail_items d e (list_at ws 0 n) r ∙ sym (some_is d (some e) (list_at ws 0 n) r (some_listed ws 0 n (omega arith)))) x

pub ruleset when_ends = (when_none, when_some)
