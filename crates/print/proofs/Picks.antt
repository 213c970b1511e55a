-- The pick that a grant puts over rows.
use mathlib.Core.Path.{◌≡◌, refl, sym, ap, ap₂, ◌∙◌}
use mathlib.Core.List.{List, [], ◌∷◌, ◌++◌, append_assoc, map}
use mathlib.Core.Bool.{Bool, true, false, cond, ◌&&◌, ◌||◌, not}
use mathlib.Core.Option.{none, some}
use Prim.Native.Nat.{ℕ, ◌<◌, ◌≤◌}
use native.Mathlib.Decide.{dec_lt}
use native.Mathlib.Omega.{arith}
use lib.Dec.{ltb, leb}
use borrow.Author.Tests.{lt-ltb, le-ltb, le-leb, lt-leb}
use Rattle.lists.specs.Lists.{empty?}
use Rattle.lists.proofs.Laws.{empty_map}
use Rattle.syntax.specs.Grammar.{Bytes, bytes, Entry, Cond, Op, le, ge, op_word, put_int, put_nat, put_name, put_open, put_ref, put_operand, put_items, put_cond, put_conds, put_form}
use Rattle.syntax.specs.Limits.{top}
use Rattle.model.specs.Queries.{Schema, Compare, Query, Caller}
use Rattle.model.specs.Conditions.{map_cond, map_conds, conds_of}
use Rattle.model.specs.Grants.{fill, limit, limits}
use Rattle.model.specs.Rewriting.{under}
use Rattle.calls.specs.Names.{left_ref, right_operand, test_of, form_of}
use Rattle.text.specs.Words.{bytes_from, name_of}
use Rattle.nodes.specs.Nodes.{numbered_op, conditions_of}
use Rattle.nodes.proofs.Reaching.{list_off, some_listed}
use Rattle.grant.specs.declared.Grant.{Grant}
use Rattle.grant.specs.Grants.{limit_of, grant_of}
use Rattle.print.specs.declared.Bounds.{Bounds}
use Rattle.print.specs.Writing.{Put, byte_text}
use Rattle.print.specs.Texts.{opening, list_at, conditions_text, when_text, bounds_of, bounding, bounded, limit_text, bounding_text, pick_text, bounds_text, close_text}
use Rattle.print.proofs.Putting.{put_none, put_as, put_then}

-- the bounds of a grant are its limits
pub limits_are : (who : Caller) (ns : List ℕ) (g : Grant) (ws : List ℕ) → limits who (grant_of ns g ws) ≡ bounding who.profile ws (bounds_of g)
unfolding limits grant_of bounding bounds_of
limits_are who ns g ws = refl

-- ---- a limit on the time

module _ (h n : ℕ) where
  pub limit_none : {m : Bytes} {p : ℕ} → 2147483647 < n → Put (limit_text h n) m p m p
  unfolding limit_text limit_of limit conditions_text put_items
  limit_none k = put_none (λ r. rw (lt-leb n 2147483647 k))

  limit_is : (r : Bytes) → n ≤ 2147483647 → limit_text h n r ≡ 32 ∷ (40 ∷ (op_word (numbered_op h) ++ (32 ∷ (bytes "time " ++ put_nat n (41 ∷ r)))))
  unfolding limit_text limit_of limit conditions_text put_items map_cond put_cond put_open test_of left_ref right_operand put_ref put_operand put_int
  limit_is r k = rw (le-leb n 2147483647 k)

  pub limit_some : (w : ℕ) {m₀ m₁ m₂ m₃ m₄ m₅ : Bytes} {p₀ p₁ p₂ p₃ p₄ p₅ : ℕ} → n ≤ 2147483647 → name_of w ≡ opening h
      → Put (byte_text 32) m₀ p₀ m₁ p₁ → Put (put_name (name_of w)) m₁ p₁ m₂ p₂ → Put (put_name (name_of 499984983328)) m₂ p₂ m₃ p₃ → Put (put_nat n) m₃ p₃ m₄ p₄ → Put (byte_text 41) m₄ p₄ m₅ p₅ → Put (limit_text h n) m₀ p₀ m₅ p₅
  unfolding byte_text put_name name_of bytes_from opening
  limit_some w k o a b c x y = put_as (λ r. limit_is r k ∙ text (bytes "time " ++ put_nat n (41 ∷ r))) (put_then a (put_then b (put_then c (put_then x y))))
    where
      text : (t : Bytes) → 32 ∷ (40 ∷ (op_word (numbered_op h) ++ (32 ∷ t))) ≡ 32 ∷ (name_of w ++ t)
      text t = sym (ap (λ u. 32 ∷ (40 ∷ u)) (append_assoc (op_word (numbered_op h)) (32 ∷ []) t)) ∙ ap (λ u. 32 ∷ (u ++ t)) (sym o)

pub ruleset limit_ends = (limit_none, limit_some)

-- ---- conditions and limits

pub conditions_append : (d : Schema) (xs ys : List (Cond Compare)) (r : Bytes) → conditions_text d (xs ++ ys) r ≡ conditions_text d xs (conditions_text d ys r)
unfolding conditions_text put_items
conditions_append d [] ys r = refl
conditions_append d (x ∷ xs) ys r = ap (λ t. 32 ∷ put_cond (map_cond (test_of d) x) t) (conditions_append d xs ys r)

-- a limit names no column
limit_any : (d : Schema) (o : Op) (n : ℕ) (r : Bytes) → conditions_text d (limit o (limit_of n)) r ≡ conditions_text [] (limit o (limit_of n)) r
unfolding limit_of conditions_text limit put_items map_cond test_of left_ref right_operand
limit_any d o n r = go (leb n top)
  where
    go : (b : Bool) → conditions_text d (limit o (cond b (some n) none)) r ≡ conditions_text [] (limit o (cond b (some n) none)) r
    go true = refl
    go false = refl

bounding_is : (d : Schema) (e : List Entry) (ws : List ℕ) (b : Bounds) (r : Bytes) → bounding_text d e ws b r ≡ when_text d e ws b.words (limit_text 6 b.from (limit_text 4 b.to r))
unfolding bounding_text bounding when_text limit_text numbered_op
bounding_is d e ws b r =
    conditions_append d (map (fill e) (conditions_of ws b.words)) (limit ge (limit_of b.from) ++ limit le (limit_of b.to)) r
    ∙ ap (conditions_text d (map (fill e) (conditions_of ws b.words)))
    (conditions_append d (limit ge (limit_of b.from)) (limit le (limit_of b.to)) r
    ∙ limit_any d ge b.from (conditions_text d (limit le (limit_of b.to)) r)
    ∙ ap (conditions_text [] (limit ge (limit_of b.from))) (limit_any d le b.to r))

pub all_end : (d : Schema) (e : List Entry) (ws : List ℕ) (b : Bounds) {m₀ m₁ m₂ m₃ : Bytes} {p₀ p₁ p₂ p₃ : ℕ}
    → Put (when_text d e ws b.words) m₀ p₀ m₁ p₁ → Put (limit_text 6 b.from) m₁ p₁ m₂ p₂ → Put (limit_text 4 b.to) m₂ p₂ m₃ p₃ → Put (bounding_text d e ws b) m₀ p₀ m₃ p₃
all_end d e ws b x y z = put_as (bounding_is d e ws b) (put_then x (put_then y z))

-- ---- whether there is any

module _ (b : Bounds) where
  pub any_words : 0 < b.words → true ≡ bounded b
  unfolding bounded
  any_words h = rw (lt-ltb 0 b.words h)

  pub any_from : b.words ≤ 0 → b.from ≤ 2147483647 → true ≡ bounded b
  unfolding bounded
  any_from h k = rw (le-ltb 0 b.words h, le-leb b.from 2147483647 k)

  pub any_to : b.words ≤ 0 → 2147483647 < b.from → leb b.to 2147483647 ≡ bounded b
  unfolding bounded
  any_to h k = rw (le-ltb 0 b.words h, lt-leb b.from 2147483647 k)

pub ruleset any_ends = (any_words, any_from, any_to)

empty_append : {A : Type 0} (xs ys : List A) → empty? (xs ++ ys) ≡ (empty? xs && empty? ys)
unfolding empty?
empty_append [] ys = refl
empty_append (x ∷ xs) ys = refl

limit_empty : (o : Op) (n : ℕ) → empty? (limit o (limit_of n)) ≡ not (leb n top)
unfolding empty? limit limit_of
limit_empty o n = go (leb n top)
  where
    go : (b : Bool) → empty? (limit o (cond b (some n) none)) ≡ not b
    go true = refl
    go false = refl

words_empty : (ws : List ℕ) (n : ℕ) → empty? (conditions_of ws n) ≡ not (ltb 0 n)
unfolding empty? conditions_of
words_empty ws n = go (dec_lt 0 n)
  where
    go : Dec (0 < n) → empty? (list_at ws 0 n) ≡ not (ltb 0 n)
    go (yes h) = some_listed ws 0 n h ∙ sym (ap not (lt-ltb 0 n h))
    go (no h) = ap empty? (list_off ws 0 n [] (omega arith)) ∙ sym (ap not (le-ltb 0 n (omega arith)))

pub bounding_empty : (e : List Entry) (ws : List ℕ) (b : Bounds) → empty? (bounding e ws b) ≡ not (bounded b)
unfolding bounding bounded
bounding_empty e ws b =
    empty_append (map (fill e) (conditions_of ws b.words)) (limit ge (limit_of b.from) ++ limit le (limit_of b.to))
    ∙ ap₂ (λ x y. x && y) (empty_map (fill e) (conditions_of ws b.words) ∙ words_empty ws b.words)
    (empty_append (limit ge (limit_of b.from)) (limit le (limit_of b.to)) ∙ ap₂ (λ x y. x && y) (limit_empty ge b.from) (limit_empty le b.to))
    ∙ morgan (ltb 0 b.words) (leb b.from top) (leb b.to top)
  where
    morgan : (x y z : Bool) → (not x && (not y && not z)) ≡ not (x || y || z)
    morgan true y z = refl
    morgan false true z = refl
    morgan false false z = refl

no_items : {A : Type 0} (xs : List A) → empty? xs ≡ true → xs ≡ []
unfolding empty?
no_items [] h = refl
no_items (x ∷ xs) h = absurd (let z : ◌≡◌ {A = ℕ} 0 1 = cc in omega arith)

-- ---- the pick

plain_conds : (d : Schema) (c : Cond Compare) (cs : List (Cond Compare)) (r : Bytes) → put_conds (map_conds (test_of d) (conds_of c cs)) r ≡ conditions_text d (c ∷ cs) r
unfolding conditions_text conds_of map_cond put_items put_cond
plain_conds d c [] r = refl
plain_conds d c (x ∷ xs) r = ap (λ t. 32 ∷ put_cond (map_cond (test_of d) c) t) (plain_conds d x xs r)

pick_is : (d : Schema) (cs : List (Cond Compare)) (r : Bytes) → empty? cs ≡ false → pick_text d cs r ≡ bytes "(pick " ++ (bytes "(and" ++ conditions_text d cs (41 ∷ (32 ∷ r)))
unfolding empty? pick_text put_open map_cond put_cond
pick_is d [] r h = absurd (let z : ◌≡◌ {A = ℕ} 0 1 = cc in omega arith)
pick_is d (c ∷ cs) r h = ap (λ t. bytes "(pick (and" ++ t) (plain_conds d c cs (41 ∷ (32 ∷ r)))

module _ (d : Schema) (e : List Entry) (ws : List ℕ) (b : Bounds) {x : Bool} (q : x ≡ bounded b) where
  pub pick_none : {m : Bytes} {p : ℕ} → not x ≡ true → Put (bounds_text d e ws b) m p m p
  unfolding bounds_text pick_text
  pick_none h = put_none (λ r. ap (λ cs. pick_text d cs r) (no_items (bounding e ws b) (bounding_empty e ws b ∙ ap not (sym q) ∙ h)))

  pub pick_some : {m₀ m₁ m₂ m₃ m₄ : Bytes} {p₀ p₁ p₂ p₃ p₄ : ℕ} → not x ≡ false
      → Put (put_name (name_of 44463269571360)) m₀ p₀ m₁ p₁ → Put (put_name (name_of 677473892)) m₁ p₁ m₂ p₂ → Put (bounding_text d e ws b) m₂ p₂ m₃ p₃ → Put (put_name (name_of 10528)) m₃ p₃ m₄ p₄
      → Put (bounds_text d e ws b) m₀ p₀ m₄ p₄
  unfolding bounds_text bounding_text put_name name_of bytes_from
  pick_some h i j k l = put_as (λ r. pick_is d (bounding e ws b) r (bounding_empty e ws b ∙ ap not (sym q) ∙ h)) (put_then i (put_then j (put_then k l)))

pub ruleset pick_ends = (pick_none, pick_some)

-- ---- the whole query under bounds is its pick, the query and the closing bracket

under_cases : (d : Schema) (cs : List (Cond Compare)) (t : Bool) (q : Query ℕ) (r : Bytes) → empty? cs ≡ not t → put_form (form_of d (under cs q)) r ≡ pick_text d cs (put_form (form_of d q) (cond t (41 ∷ r) r))
unfolding empty? under form_of put_form pick_text
under_cases d [] true q r h = absurd (let z : ◌≡◌ {A = ℕ} 0 1 = cc in omega arith)
under_cases d [] false q r h = refl
under_cases d (c ∷ cs) true q r h = refl
under_cases d (c ∷ cs) false q r h = absurd (let z : ◌≡◌ {A = ℕ} 0 1 = cc in omega arith)

pub under_is : (d : Schema) (e : List Entry) (ws : List ℕ) (b : Bounds) (q : Query ℕ) (r : Bytes)
    → put_form (form_of d (under (bounding e ws b) q)) r ≡ bounds_text d e ws b (put_form (form_of d q) (close_text b r))
unfolding bounds_text close_text
under_is d e ws b q r = under_cases d (bounding e ws b) (bounded b) q r (bounding_empty e ws b)
