-- The columns and the time that comparisons name, step by step.
use mathlib.Core.Path.{◌≡◌, refl, sym, ap, ◌∙◌}
use mathlib.Core.List.{List, [], ◌∷◌, ◌++◌}
use mathlib.Core.Bool.{Bool, true, false, not, cond}
use Prim.Native.Nat.{ℕ, ◌+◌, ◌*◌, ◌-◌, ◌/◌, ◌%◌, ◌^◌, ◌≤◌, ◌<◌}
use native.Mathlib.Decide.{dec_lt}
use native.Mathlib.Omega.{arith}
use lib.Bits.{bit_or, or_zero_l, or_zero_r, or_comm}
use lib.Dec.{ltb, eqb}
use borrow.Author.Tests.{ne_eqb, lt-ltb, le-ltb, not-true, not-false}
use Rattle.lists.specs.Lists.{gather}
use Rattle.lists.proofs.Laws.{append_nil, gather_append}
use Rattle.model.specs.Queries.{figure, column, number, self, Compare}
use Rattle.masks.specs.Masks.{with_bit, mask_of}
use Rattle.masks.proofs.Lists.{or_assoc, mask_append}
use Rattle.text.specs.Words.{name_of}
use Rattle.nodes.specs.declared.Node.{Node}
use Rattle.nodes.specs.Nodes.{unbiased, node_at, node_words, node_compare, coded_term, comparing}
use Rattle.nodes.proofs.Conditions.{column_term}
use Rattle.nodes.proofs.Puts.{words_some}
use Rattle.grant.proofs.Laid.{prior}
use Rattle.comparisons.specs.Compared.{own_compare, compared, col_codes, term_codes, compare_codes, named_by}
use Rattle.comparisons.proofs.Walked.{compared_on, compared_off}

-- ---- a term

-- the code of a term is that of a column or of the time, or none
pub codes_low : (code v : ℕ) → code ≤ 24 → term_codes (coded_term code v) ≡ code ∷ []
unfolding term_codes col_codes
codes_low code v h = go (dec_lt code 24)
  where
    go : Dec (code < 24) → term_codes (coded_term code v) ≡ code ∷ []
    go (yes l) = let e : code / 6 * 6 + code % 6 ≡ code = omega arith in ap term_codes (column_term code v l) ∙ rw (e, lt-ltb code 24 l)
    go (no l) = let e : code ≡ 24 = omega arith in rw e (unfold coded_term in refl)

pub codes_high : (code v : ℕ) → 24 < code → term_codes (coded_term code v) ≡ []
unfolding term_codes col_codes coded_term
codes_high code v h = rw (le-ltb code 24 (omega arith), ne_eqb code 24 (λ i. omega arith)) (go (eqb code 25) (eqb code 26))
  where
    go : (a b : Bool) → term_codes (cond a (column figure) (cond b (number (unbiased v)) (self (name_of v)))) ≡ []
    go true b = refl
    go false true = refl
    go false false = refl

module _ (mask code v : ℕ) where
  pub term_none : 24 < code → mask ≡ bit_or (mask_of (term_codes (coded_term code v))) mask
  unfolding mask_of
  term_none h = sym (ap (λ l. bit_or (mask_of l) mask) (codes_high code v h) ∙ or_zero_l mask)

  pub term_bit : {r : ℕ} → code ≤ 24 → r ≡ with_bit mask code → r ≡ bit_or (mask_of (term_codes (coded_term code v))) mask
  unfolding mask_of with_bit
  term_bit h e =
      let l : ltb code 32 ≡ true = lt-ltb code 32 (omega arith) in
      e ∙ rw l (or_comm mask (2 ^ code) ∙ ap (λ x. bit_or x mask) (sym (or_zero_r (2 ^ code))) ∙ sym (ap (λ l. bit_or (mask_of l) mask) (codes_low code v h)))

pub ruleset term_ends = (term_none, term_bit)

-- ---- a node

module _ (mask : ℕ) (n : Node) {c : Bool} (e : c ≡ comparing n) where
  pub node_none : not c ≡ true → mask ≡ bit_or (named_by (own_compare n)) mask
  unfolding own_compare named_by gather mask_of
  node_none t = rw (sym e ∙ not-true c t) (sym (or_zero_l mask))

  pub node_both : not c ≡ false → {x y : ℕ} → x ≡ bit_or (mask_of (term_codes (coded_term n.right n.value))) mask → y ≡ bit_or (mask_of (term_codes (coded_term n.left n.value))) x
      → y ≡ bit_or (named_by (own_compare n)) mask
  unfolding own_compare named_by gather
  node_both t {x} {y} f g =
      let l = mask_of (term_codes (coded_term n.left n.value)) in
      let r = mask_of (term_codes (coded_term n.right n.value)) in
      g ∙ ap (bit_or l) f ∙ sym (or_assoc l r mask) ∙ sym (ap (λ z. bit_or z mask) own)
    where
      own : mask_of (gather compare_codes (own_compare n)) ≡ bit_or (mask_of (term_codes (coded_term n.left n.value))) (mask_of (term_codes (coded_term n.right n.value)))
      own = unfold own_compare gather compare_codes node_compare in rw (sym e ∙ not-false c t) (ap mask_of (append_nil _) ∙ mask_append (term_codes (coded_term n.left n.value)) (term_codes (coded_term n.right n.value)))

pub ruleset node_ends = (node_none, node_both)

-- ---- those between two places

pub named_append : (ts us : List Compare) → named_by (ts ++ us) ≡ bit_or (named_by ts) (named_by us)
unfolding named_by
named_append ts us = ap mask_of (gather_append compare_codes ts us) ∙ mask_append (gather compare_codes ts) (gather compare_codes us)

named_nothing : named_by [] ≡ 0
unfolding named_by gather mask_of
named_nothing = refl

module _ (ws : List ℕ) (stop k : ℕ) where
  pub named_start : named_by (compared ws stop k) ≡ bit_or (named_by (compared ws stop k)) 0
  named_start = sym (or_zero_r (named_by (compared ws stop k)))

  module _ (at m : ℕ) (inv : named_by (compared ws stop k) ≡ bit_or (named_by (compared ws stop at)) m) where
    pub named_end : at ≤ stop → m ≡ named_by (compared ws stop k)
    named_end h = sym (inv ∙ ap (λ l. bit_or l m) (ap named_by (compared_off ws stop at h) ∙ named_nothing) ∙ or_zero_l m)

    module _ (h : stop < at) {n : Node} (e : n ≡ node_at ws at) {x : ℕ} (f : x ≡ bit_or (named_by (own_compare n)) m) {size j : ℕ} (s : size ≡ node_words n) (l : j ≡ at - size) where
      pub named_on : named_by (compared ws stop k) ≡ bit_or (named_by (compared ws stop j)) x
      named_on =
          let y : prior ws at ≡ j = ap (λ w. at - w) (ap node_words (sym e) ∙ sym s) ∙ sym l in
          let a = named_by (compared ws stop (prior ws at)) in
          let b = named_by (own_compare (node_at ws at)) in
          inv ∙ ap (λ l. bit_or l m) (ap named_by (compared_on ws stop at h) ∙ named_append (compared ws stop (prior ws at)) (own_compare (node_at ws at)))
          ∙ or_assoc a b m ∙ ap (bit_or a) (ap (λ z. bit_or (named_by (own_compare z)) m) (sym e) ∙ sym f) ∙ ap (λ j. bit_or (named_by (compared ws stop j)) x) y

      pub named_falls : j < at
      named_falls = omega (arith, words_some n)

pub ruleset named_ends = (named_start, named_end, named_falls, named_on)
