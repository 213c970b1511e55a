-- Whether a profile has the entries that comparisons name, step by step.
use mathlib.Core.Path.{◌≡◌, refl, sym, ap, ap₂, ◌∙◌}
use mathlib.Core.List.{List, map}
use mathlib.Core.Bool.{Bool, true, false, ◌&&◌, ◌||◌, not, cond, and-true}
use Prim.Native.Nat.{ℕ, zero, suc, ◌+◌, ◌-◌, ◌/◌, ◌%◌, ◌≤◌, ◌<◌}
use native.Mathlib.Decide.{ℕ_discrete}
use native.Mathlib.Omega.{arith}
use lib.Dec.{ltb, eqb}
use lib.ListN.{length, get_or, take, drop}
use Rattle.std.proofs.lemmas.List.{get_or-take, get_or-drop}
use Rattle.std.specs.List.{list_any}
use Rattle.std.specs.Simd.{first_chunks}
use borrow.Author.Tests.{eq-eqb, ne_eqb, le-ltb, not-true, not-false}
use Rattle.lists.specs.Lists.{every, some?, same_list}
use Rattle.lists.proofs.Chains.{any_is}
use Rattle.lists.proofs.Gathers.{every_append_same}
use Rattle.syntax.specs.Grammar.{Entry}
use Rattle.model.specs.Queries.{col, figure, column, time, number, self, Compare}
use Rattle.model.specs.Grants.{has_entry, term_known}
use Rattle.text.specs.Words.{name_of}
use Rattle.schema.specs.Schemas.{code_end}
use Rattle.schema.proofs.FreeNames.{name_one}
use Rattle.nodes.specs.declared.Node.{Node}
use Rattle.nodes.specs.Nodes.{unbiased, node_at, node_words, node_compare, coded_term, comparing}
use Rattle.nodes.proofs.Puts.{words_some}
use Rattle.nodes.proofs.Profiles.{entry_of, profile_pairs}
use Rattle.grant.proofs.Laid.{prior}
use Rattle.comparisons.specs.Compared.{own_compare, compared, profile_in, compare_known}
use Rattle.comparisons.proofs.Walked.{compared_on, compared_off}

-- ---- an entry

-- names by their numbers
names_told : (name k : ℕ) (ps : List ℕ) → name < code_end → ((i : ℕ) → get_or ps i 0 < code_end) → some? (λ e. eqb (get_or e 0 0) name) (first_chunks 2 k ps) ≡ some? (λ (e : Entry). same_list e.name (name_of name)) (map entry_of (first_chunks 2 k ps))
unfolding some?
names_told name zero ps l m = refl
names_told name (suc k) ps l m =
    let first : eqb (get_or (take 2 ps) 0 0) name ≡ same_list (name_of (get_or (take 2 ps) 0 0)) (name_of name) = sym (name_one (get_or (take 2 ps) 0 0) name (rw (get_or-take 2 ps 0 0 (omega arith)) (m 0)) l) in
    ap₂ ◌||◌ first (names_told name k (drop 2 ps) l (λ i. rw (get_or-drop 2 ps i 0) (m (2 + i))))

pub entry_told : (ps : List ℕ) (name : ℕ) → name < code_end → ((i : ℕ) → get_or ps i 0 < code_end) → list_any (λ e. eqb (get_or e 0 0) name) (first_chunks 2 (length ps / 2) ps) ≡ has_entry (profile_in ps) (name_of name)
unfolding has_entry
entry_told ps name l m =
    any_is (λ e. eqb (get_or e 0 0) name) (first_chunks 2 (length ps / 2) ps) ∙ names_told name (length ps / 2) ps l m
    ∙ ap (some? (λ (e : Entry). same_list e.name (name_of name))) (sym (profile_pairs ps))

-- ---- a term

module _ (p : List Entry) (code v : ℕ) where
  pub term_plain : code < 27 → true ≡ term_known p (coded_term code v)
  unfolding coded_term term_known
  term_plain h = go (ltb code 24) (eqb code 24) (eqb code 25) (ℕ_discrete code 26) refl refl refl
    where
      go : (a b c : Bool) → Dec (code ≡ 26) → ltb code 24 ≡ a → eqb code 24 ≡ b → eqb code 25 ≡ c
          → true ≡ term_known p (cond a (column (col (code / 6) (code % 6))) (cond b time (cond c (column figure) (cond (eqb code 26) (number (unbiased v)) (self (name_of v))))))
      go true b c d x y z = refl
      go false true c d x y z = refl
      go false false true d x y z = refl
      go false false false (yes d) x y z = rw (eq-eqb code 26 d)
      go false false false (no d) x y z = absurd (omega (arith, borrow.Author.Tests.ltb-false code 24 x, borrow.Author.Tests.eqb-false code 24 y, borrow.Author.Tests.eqb-false code 25 z))

  pub term_entry : {x : Bool} → 27 ≤ code → x ≡ has_entry p (name_of v) → x ≡ term_known p (coded_term code v)
  unfolding coded_term term_known
  term_entry h e = rw (le-ltb code 24 (omega arith), ne_eqb code 24 (λ i. omega arith), ne_eqb code 25 (λ i. omega arith), ne_eqb code 26 (λ i. omega arith)) e

pub ruleset term_ends = (term_plain, term_entry)

-- ---- a node

module _ (p : List Entry) (n : Node) {c : Bool} (e : c ≡ comparing n) where
  pub node_inner : not c ≡ true → true ≡ every (compare_known p) (own_compare n)
  unfolding own_compare every
  node_inner t = rw (sym e ∙ not-true c t)

  module _ (t : not c ≡ false) {x : Bool} (f : x ≡ term_known p (coded_term n.left n.value)) where
    pub node_left : not x ≡ true → false ≡ every (compare_known p) (own_compare n)
    unfolding own_compare every compare_known node_compare
    node_left g = rw (sym e ∙ not-false c t, sym f ∙ not-true x g)

    pub node_right : not x ≡ false → {y : Bool} → y ≡ term_known p (coded_term n.right n.value) → y ≡ every (compare_known p) (own_compare n)
    unfolding own_compare every compare_known node_compare
    node_right g {y} i = rw (sym e ∙ not-false c t, sym f ∙ not-false x g, ← i) (sym (and-true y))

pub ruleset node_ends = (node_inner, node_left, node_right)

-- ---- those of some words

module _ (p : Compare → Bool) (ws : List ℕ) (n k : ℕ) (inv : every p (compared ws 0 n) ≡ every p (compared ws 0 k)) where
  pub known_end : k ≤ 0 → true ≡ every p (compared ws 0 n)
  unfolding every
  known_end h = sym (inv ∙ rw (compared_off ws 0 k h))

  module _ (h : 0 < k) {m : Node} (e : m ≡ node_at ws k) {x : Bool} (f : x ≡ every p (own_compare m)) where
    apart : every p (compared ws 0 n) ≡ (every p (compared ws 0 (prior ws k)) && x)
    apart = inv ∙ ap (every p) (compared_on ws 0 k h) ∙ every_append_same p (compared ws 0 (prior ws k)) (own_compare (node_at ws k)) ∙ ap (λ b. every p (compared ws 0 (prior ws k)) && b) (ap (λ y. every p (own_compare y)) (sym e) ∙ sym f)

    pub known_stop : not x ≡ true → false ≡ every p (compared ws 0 n)
    known_stop t = sym (apart ∙ ap (λ b. every p (compared ws 0 (prior ws k)) && b) (not-true x t) ∙ none (every p (compared ws 0 (prior ws k))))
      where
        none : (b : Bool) → (b && false) ≡ false
        none true = refl
        none false = refl

    module _ {size j : ℕ} (s : size ≡ node_words m) (l : j ≡ k - size) where
      pub known_on : not x ≡ false → every p (compared ws 0 n) ≡ every p (compared ws 0 j)
      known_on t =
          let y : prior ws k ≡ j = ap (λ w. k - w) (ap node_words (sym e) ∙ sym s) ∙ sym l in
          apart ∙ ap (λ b. every p (compared ws 0 (prior ws k)) && b) (not-false x t) ∙ and-true (every p (compared ws 0 (prior ws k))) ∙ ap (λ j. every p (compared ws 0 j)) y

      pub known_falls : j < k
      known_falls = omega (arith, words_some m)

pub ruleset known_ends = (known_end, known_stop, known_falls, known_on)
