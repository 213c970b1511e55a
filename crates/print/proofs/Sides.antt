-- The sides of a comparison, and the comparison.
use mathlib.Core.Path.{◌≡◌, refl, sym, ap, ◌∙◌}
use mathlib.Core.List.{List, [], ◌∷◌, ◌++◌, append_assoc, map}
use mathlib.Core.Bool.{Bool, true, false, cond}
use mathlib.Core.Option.{Option, none, some}
use Prim.Native.Nat.{ℕ, ◌+◌, ◌*◌, ◌-◌, ◌/◌, ◌%◌, ◌<◌, ◌≤◌}
use native.Mathlib.Decide.{dec_lt, ℕ_discrete}
use native.Mathlib.Omega.{arith}
use lib.IntN.{ℤ}
use lib.ListN.{length, get_or}
use borrow.Author.Tests.{ne_eqb, lt-ltb, le-ltb}
use Rattle.lists.specs.Lists.{count_from, same_list}
use Rattle.lists.proofs.Laws.{T_true, same_list_refl}
use Rattle.lists.proofs.Counting.{count_left, count_done}
use Rattle.syntax.specs.Grammar as G
use Rattle.syntax.specs.Grammar.{Bytes, Entry, test, op_word, put_int, put_name, put_ref, put_operand, put_open, put_cond}
use Rattle.model.specs.Queries.{Schema, col, figure, Term, column, time, number, self}
use Rattle.model.specs.Grants.{entry_value, fill_term}
use Rattle.calls.specs.Names.{ref_of, left_ref, right_operand, test_of}
use Rattle.text.specs.Words.{bytes_from, name_of}
use Rattle.schema.specs.Schemas.{code_end}
use Rattle.schema.proofs.FreeNames.{name_one}
use Rattle.nodes.specs.declared.Node.{Node}
use Rattle.nodes.specs.Nodes.{unbiased, coded_term, numbered_op, node_compare}
use Rattle.print.specs.Writing.{Put, byte_text}
use Rattle.nodes.specs.Profiles.{entry_at, profile_in}
use Rattle.print.specs.Texts.{coded_ref, ref_text, values, valued_term, valued, self_text, left_text, right_text, test_text, opening}
use Rattle.print.proofs.Putting.{put_as, put_then}

-- ---- profile entries

module _ (ps : List ℕ) (v : ℕ) where
  abbrev pub value_from : ℕ → ℤ
  value_from i = entry_value (map (entry_at ps) (count_from i (length ps / 2 - i))) (name_of v)

  pub entry_start : entry_value (profile_in ps) (name_of v) ≡ value_from 0
  unfolding profile_in
  entry_start = let e : length ps / 2 ≡ length ps / 2 - 0 = omega arith in ap (λ (k : ℕ). entry_value (map (entry_at ps) (count_from 0 k)) (name_of v)) e

  step : (i : ℕ) → i < length ps / 2 → value_from i ≡ cond (same_list (name_of (get_or ps (i * 2) 0)) (name_of v)) (unbiased (get_or ps (i * 2 + 1) 0 % 4294967296)) (value_from (i + 1))
  unfolding entry_value entry_at
  step i h = ap (λ l. entry_value (map (entry_at ps) l) (name_of v)) (count_left i (length ps / 2) h)

  pub entry_found : (i : ℕ) {x : ℕ} {z : ℤ} → z ≡ value_from i → i < length ps / 2 → x ≡ get_or ps (i * 2) 0 → x ≡ v → unbiased (get_or ps (i * 2 + 1) 0 % 4294967296) ≡ z
  entry_found i e h g f = let q : get_or ps (i * 2) 0 ≡ v = sym g ∙ f in sym (e ∙ step i h ∙ (rw (q, T_true (same_list (name_of v) (name_of v)) (same_list_refl (name_of v)))))

  pub entry_on : (i : ℕ) {x : ℕ} {z : ℤ} → z ≡ value_from i → i < length ps / 2 → x ≡ get_or ps (i * 2) 0 → x < code_end → v < code_end → (x ≡ v → ⊥) → z ≡ value_from (i + 1)
  entry_on i {x} e h f l g k = e ∙ step i h ∙ (rw (← f, name_one x v l g, ne_eqb x v k))

  pub entry_none : (i : ℕ) {z : ℤ} → z ≡ value_from i → length ps / 2 ≤ i → unbiased 2147483648 ≡ z
  unfolding entry_value unbiased
  entry_none i e h = sym (e ∙ ap (λ l. entry_value (map (entry_at ps) l) (name_of v)) (count_done i (length ps / 2) h))

pub ruleset entry_ends = (entry_start, entry_found, entry_on, entry_none)

-- ---- terms by their codes

module _ (code v : ℕ) where
  term_column : code < 24 → coded_term code v ≡ column (col (code / 6) (code % 6))
  unfolding coded_term
  term_column h = rw (lt-ltb code 24 h)

  term_time : code ≡ 24 → coded_term code v ≡ time
  unfolding coded_term
  term_time e = rw e

  term_figure : code ≡ 25 → coded_term code v ≡ column figure
  unfolding coded_term
  term_figure e = rw e

  term_number : code ≡ 26 → coded_term code v ≡ number (unbiased v)
  unfolding coded_term
  term_number e = rw e

  term_self : 26 ≤ code → (code ≡ 26 → ⊥) → coded_term code v ≡ self (name_of v)
  unfolding coded_term
  term_self h c = rw (le-ltb code 24 (omega arith), ne_eqb code 24 (λ e. omega arith), ne_eqb code 25 (λ e. omega arith), ne_eqb code 26 c)

module _ (d : Schema) (code : ℕ) where
  ref_column : code < 24 → coded_ref d code ≡ ref_of d (col (code / 6) (code % 6))
  unfolding coded_ref
  ref_column h = rw (lt-ltb code 24 h)

  ref_time : code ≡ 24 → coded_ref d code ≡ G.time
  unfolding coded_ref
  ref_time e = rw e

  ref_figure : code ≡ 25 → coded_ref d code ≡ G.figure
  unfolding coded_ref
  ref_figure e = rw e

  ref_other : 24 ≤ code → (code ≡ 25 → ⊥) → coded_ref d code ≡ G.time
  unfolding coded_ref
  ref_other h e = rw (le-ltb code 24 h, ne_eqb code 25 e)

-- ---- a profile entry

pub self_end : (v : ℕ) {m₀ m₁ m₂ : Bytes} {p₀ p₁ p₂ : ℕ} → Put (put_name (name_of 495622841902)) m₀ p₀ m₁ p₁ → Put (put_name (name_of v)) m₁ p₁ m₂ p₂ → Put (self_text v) m₀ p₀ m₂ p₂
unfolding self_text put_ref put_name name_of bytes_from
self_end v a b = put_as (λ r. refl) (put_then a b)

-- ---- the left side

module _ (d : Schema) (o : Option (List Entry)) (code v : ℕ) where
  kept : {t : Term} → coded_term code v ≡ t → ((e : List Entry) → fill_term e t ≡ t) → valued_term o (coded_term code v) ≡ t
  unfolding valued_term
  kept {t} f g = ap (valued_term o) f ∙ go o
    where
      go : (o : Option (List Entry)) → valued_term o t ≡ t
      go none = refl
      go (some e) = g e

  left_is : code ≤ 26 → left_ref d (valued_term o (coded_term code v)) ≡ coded_ref d code
  unfolding left_ref fill_term ref_of
  left_is h = go (dec_lt code 24) (ℕ_discrete code 24) (ℕ_discrete code 25)
    where
      go : Dec (code < 24) → Dec (code ≡ 24) → Dec (code ≡ 25) → left_ref d (valued_term o (coded_term code v)) ≡ coded_ref d code
      go (yes a) b c = ap (left_ref d) (kept (term_column code v a) (λ e. refl)) ∙ sym (ref_column d code a)
      go (no a) (yes b) c = ap (left_ref d) (kept (term_time code v b) (λ e. refl)) ∙ sym (ref_time d code b)
      go (no a) (no b) (yes c) = ap (left_ref d) (kept (term_figure code v c) (λ e. refl)) ∙ sym (ref_figure d code c)
      go (no a) (no b) (no c) = ap (left_ref d) (kept (term_number code v (omega arith)) (λ e. refl)) ∙ sym (ref_other d code (omega arith) c)

  right_is : code ≤ 25 → right_operand d (valued_term o (coded_term code v)) ≡ G.ref (coded_ref d code)
  unfolding right_operand fill_term ref_of
  right_is h = go (dec_lt code 24) (ℕ_discrete code 24)
    where
      go : Dec (code < 24) → Dec (code ≡ 24) → right_operand d (valued_term o (coded_term code v)) ≡ G.ref (coded_ref d code)
      go (yes a) b = ap (right_operand d) (kept (term_column code v a) (λ e. refl)) ∙ sym (ap G.ref (ref_column d code a))
      go (no a) (yes b) = ap (right_operand d) (kept (term_time code v b) (λ e. refl)) ∙ sym (ap G.ref (ref_time d code b))
      go (no a) (no b) = let c : code ≡ 25 = omega arith in ap (right_operand d) (kept (term_figure code v c) (λ e. refl)) ∙ sym (ap G.ref (ref_figure d code c))

  number_is : code ≡ 26 → right_operand d (valued_term o (coded_term code v)) ≡ G.number (unbiased v)
  unfolding right_operand fill_term
  number_is h = ap (right_operand d) (kept (term_number code v h) (λ e. refl))

module _ (d : Schema) (e : List Entry) (code v : ℕ) (own : Bool) {m n : Bytes} {p q : ℕ} where
  pub left_low : code ≤ 26 → Put (ref_text d code) m p n q → Put (left_text d (values own e) code v) m p n q
  unfolding left_text ref_text
  left_low h x = put_as (λ r. ap (λ t. put_ref t r) (left_is d (values own e) code v h)) x

  pub left_self : 26 < code → own ≡ true → Put (self_text v) m p n q → Put (left_text d (values own e) code v) m p n q
  unfolding left_text self_text values valued_term left_ref
  left_self h f x = put_as (λ r. ap (λ (b : Bool). put_ref (left_ref d (valued_term (values b e) (coded_term code v))) r) f ∙ ap (λ t. put_ref (left_ref d t) r) (term_self code v (omega arith) (λ i. omega arith))) x

  pub left_filled : 26 < code → own ≡ false → Put (ref_text d code) m p n q → Put (left_text d (values own e) code v) m p n q
  unfolding left_text ref_text values valued_term left_ref fill_term
  left_filled h f x =
      put_as (λ r. ap (λ (b : Bool). put_ref (left_ref d (valued_term (values b e) (coded_term code v))) r) f ∙ ap (λ t. put_ref (left_ref d (fill_term e t)) r) (term_self code v (omega arith) (λ i. omega arith)) ∙ ap (λ t. put_ref t r) (sym (ref_other d code (omega arith) (λ i. omega arith)))) x

  -- ---- the right side

  pub right_ref : code ≤ 25 → Put (ref_text d code) m p n q → Put (right_text d (values own e) code v) m p n q
  unfolding right_text ref_text put_operand
  right_ref h x = put_as (λ r. ap (λ t. put_operand t r) (right_is d (values own e) code v h)) x

  pub right_number : code ≡ 26 → Put (put_int (unbiased v)) m p n q → Put (right_text d (values own e) code v) m p n q
  unfolding right_text put_operand
  right_number h x = put_as (λ r. ap (λ t. put_operand t r) (number_is d (values own e) code v h)) x

  pub right_self : 25 < code → (code ≡ 26 → ⊥) → own ≡ true → Put (self_text v) m p n q → Put (right_text d (values own e) code v) m p n q
  unfolding right_text self_text values valued_term right_operand put_operand
  right_self h c f x = put_as (λ r. ap (λ (b : Bool). put_operand (right_operand d (valued_term (values b e) (coded_term code v))) r) f ∙ ap (λ t. put_operand (right_operand d t) r) (term_self code v (omega arith) c)) x

  pub right_entry : (w : ℕ) → 25 < code → (code ≡ 26 → ⊥) → own ≡ false → unbiased w ≡ entry_value e (name_of v) → Put (put_int (unbiased w)) m p n q → Put (right_text d (values own e) code v) m p n q
  unfolding right_text values valued_term right_operand fill_term put_operand
  right_entry w h c g f x =
      put_as (λ r. ap (λ (b : Bool). put_operand (right_operand d (valued_term (values b e) (coded_term code v))) r) g ∙ ap (λ t. put_operand (right_operand d (fill_term e t)) r) (term_self code v (omega arith) c) ∙ ap (λ y. put_int y r) (sym f)) x

pub ruleset left_ends = (left_low, left_self, left_filled)

pub ruleset right_ends = (right_ref, right_number, right_self, right_entry)

-- ---- words of heads

module _ (h : ℕ) where
  unfoldable words_compute : Unit {0}
  unfolding name_of bytes_from opening numbered_op op_word
  words_compute = tt

  pub opened_1 : h ≡ 1 → name_of 2637088 ≡ opening h
  unfolding words_compute
  opened_1 e = rw e

  pub opened_2 : h ≡ 2 → name_of 674184480 ≡ opening h
  unfolding words_compute
  opened_2 e = rw e

  pub opened_3 : h ≡ 3 → name_of 2636832 ≡ opening h
  unfolding words_compute
  opened_3 e = rw e

  pub opened_4 : h ≡ 4 → name_of 675036448 ≡ opening h
  unfolding words_compute
  opened_4 e = rw e

  pub opened_5 : h ≡ 5 → name_of 2637344 ≡ opening h
  unfolding words_compute
  opened_5 e = rw e

  pub opened_6 : (h ≡ 1 → ⊥) → (h ≡ 2 → ⊥) → (h ≡ 3 → ⊥) → (h ≡ 4 → ⊥) → (h ≡ 5 → ⊥) → name_of 675167520 ≡ opening h
  unfolding words_compute
  opened_6 a b c d e = rw (ne_eqb h 1 a, ne_eqb h 2 b, ne_eqb h 3 c, ne_eqb h 4 d, ne_eqb h 5 e)

pub ruleset opened_ends = (opened_1, opened_2, opened_3, opened_4, opened_5, opened_6)

-- ---- a comparison

pub test_end : (d : Schema) (o : Option (List Entry)) (n : Node) (w : ℕ) {m₀ m₁ m₂ m₃ m₄ m₅ : Bytes} {p₀ p₁ p₂ p₃ p₄ p₅ : ℕ} → name_of w ≡ opening n.head
    → Put (put_name (name_of w)) m₀ p₀ m₁ p₁ → Put (left_text d o n.left n.value) m₁ p₁ m₂ p₂ → Put (byte_text 32) m₂ p₂ m₃ p₃ → Put (right_text d o n.right n.value) m₃ p₃ m₄ p₄ → Put (byte_text 41) m₄ p₄ m₅ p₅
    → Put (test_text d o n) m₀ p₀ m₅ p₅
unfolding test_text test_of valued node_compare put_cond put_open right_text left_text put_name byte_text opening
test_end d o n w h a b c x y = put_as text (put_then a (put_then b (put_then c (put_then x y))))
  where
    rest : Bytes → Bytes
    rest r = left_text d o n.left n.value (32 ∷ right_text d o n.right n.value (41 ∷ r))

    text : (r : Bytes) → put_cond (test (test_of d (valued o (node_compare n)))) r ≡ name_of w ++ rest r
    text r = sym (ap (λ t. 40 ∷ t) (append_assoc (op_word (numbered_op n.head)) (32 ∷ []) (rest r))) ∙ ap (λ t. t ++ rest r) (sym h)
