-- Comparisons whose terms stand where they may, by the bits of two masks: one for the left terms, one for the right ones.
use mathlib.Core.Path.{◌≡◌, refl, sym, ap, ap₂, ◌∙◌}
use mathlib.Core.List.{List, ◌++◌, map}
use mathlib.Core.Bool.{Bool, ◌&&◌}
use Prim.Native.Nat.{ℕ}
use lib.Dec.{T}
use Rattle.lists.specs.Lists.{every}
use Rattle.lists.proofs.Laws.{and_four}
use Rattle.lists.proofs.Gathers.{every_append_same, every_of_map, every_good}
use Rattle.syntax.specs.Grammar.{Ref, Operand, Test, Cond}
use Rattle.model.specs.Conditions.{tests, map_cond}
use Rattle.model.specs.Queries.{Schema, Col, Term}
use Rattle.model.specs.Checks.{has, within, term_cols, cond_cols}
use Rattle.model.proofs.Conditions.{tests_map}
use Rattle.calls.specs.Names.{term_of, operand_of, compare_of}
use Rattle.schema.specs.Schemas.{schema_of, schema_sound}
use Rattle.masks.specs.Masks.{bit?, mask_of, inside}
use Rattle.masks.proofs.Lists.{inside_map}
use Rattle.terms.specs.Terms.{ref_code, operand_code, left_code, right_code}
use Rattle.terms.proofs.Resolving.{fine}
use Rattle.columns.proofs.ColumnBits.{operand_fine}
use Rattle.grant_line.proofs.Folds.{every_pair, every_gathered}
use Rattle.grant_line.proofs.Known.{good_test, test_declared, test_fine}

-- where terms may stand, and the bits that say it
pub record Places (ns : List ℕ) (cols : List Col) (on_left on_right : Term → Bool) (lefts rights : ℕ) : Type 0 where
  pub left : (r : Ref) → T (fine ns r) → (on_left (term_of (schema_of ns) r) && within (term_cols (term_of (schema_of ns) r)) cols) ≡ bit? lefts (ref_code ns r)
  pub right : (o : Operand) → T (operand_fine ns o) → (on_right (operand_of (schema_of ns) o) && within (term_cols (operand_of (schema_of ns) o)) cols) ≡ bit? rights (operand_code ns o)

module _ {ns : List ℕ} {cols : List Col} {on_left on_right : Term → Bool} {lefts rights : ℕ} (at : Places ns cols on_left on_right lefts rights) (sound : T (schema_sound ns)) where
  abbrev d : Schema
  d = schema_of ns

  unfoldable pub placed_test : Test → Bool
  placed_test t = (on_left (term_of d t.left) && on_right (operand_of d t.right)) && within (term_cols (term_of d t.left) ++ term_cols (operand_of d t.right)) cols

  abbrev bits_in : Test → Bool
  bits_in t = bit? lefts (left_code ns t) && bit? rights (right_code ns t)

  test_placed : (t : Test) → T (good_test t && test_declared ns t) → placed_test t ≡ bits_in t
  unfolding placed_test within left_code right_code
  test_placed t h =
      let x = test_fine ns sound t h in
      let l = term_of d t.left in
      let r = operand_of d t.right in
      ap (λ b. (on_left l && on_right r) && b) (every_append_same (has cols) (term_cols l) (term_cols r))
      ∙ and_four (on_left l) (on_right r) (every (has cols) (term_cols l)) (every (has cols) (term_cols r))
      ∙ ap₂ ◌&&◌ (at.left t.left x.0) (at.right t.right x.1)

  -- a condition by its comparisons
  pub cond_placed : (c : Cond Test) → (every (λ t. on_left t.left && on_right t.right) (tests (map_cond (compare_of d) c)) && within (cond_cols (map_cond (compare_of d) c)) cols) ≡ every placed_test (tests c)
  unfolding cond_cols within placed_test compare_of
  cond_placed c =
      rw (tests_map (compare_of d) c)
      (ap₂ ◌&&◌ (every_of_map (λ t. on_left t.left && on_right t.right) (compare_of d) (tests c))
      (sym (every_gathered (has cols) (λ t. every (has cols) (term_cols t.left ++ term_cols t.right)) (λ t. term_cols t.left ++ term_cols t.right) (λ t. refl) (map (compare_of d) (tests c)))
      ∙ every_of_map (λ t. every (has cols) (term_cols t.left ++ term_cols t.right)) (compare_of d) (tests c))
      ∙ every_pair (λ t. on_left (term_of d t.left) && on_right (operand_of d t.right)) (λ t. every (has cols) (term_cols (term_of d t.left) ++ term_cols (operand_of d t.right))) (tests c))

  pub tests_placed : (ts : List Test) → T (every (λ t. good_test t && test_declared ns t) ts) → every placed_test ts ≡ (inside (mask_of (map (left_code ns) ts)) lefts && inside (mask_of (map (right_code ns) ts)) rights)
  tests_placed ts h =
      every_good placed_test bits_in (λ t. good_test t && test_declared ns t) test_placed ts h
      ∙ sym (ap₂ ◌&&◌ (inside_map (left_code ns) lefts ts) (inside_map (right_code ns) rights ts) ∙ every_pair (λ t. bit? lefts (left_code ns t)) (λ t. bit? rights (right_code ns t)) ts)
