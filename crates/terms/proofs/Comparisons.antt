-- A comparison at a place as the code reads it.
use mathlib.Core.Path.{◌≡◌, refl, sym, ap, ◌∙◌}
use mathlib.Core.List.{List}
use mathlib.Core.Option.{Option, none, some}
use Prim.Native.Nat.{ℕ, ◌-◌, ◌≤◌}
use native.Mathlib.Omega.{arith}
use lib.ListN.{length, drop, length-drop}
use Rattle.syntax.specs.Grammar.{Bytes, eq, Ref, Operand, Test, Cond, test}
use Rattle.syntax.specs.Readers.{Read, bind, ◌>>=◌, ◌>>◌, give, byte, read_ref, read_operand, read_test}
use Rattle.text.specs.Words.{Found, Some, None, left_at, read_end}
use Rattle.text.proofs.Views.{read_none, read_here, skip_none, skip_is, skip_within}
use Rattle.terms.specs.declared.Reference.{Reference}
use Rattle.terms.specs.declared.Term.{Term}
use Rattle.terms.specs.declared.Comparison.{Comparison}
use Rattle.terms.specs.Terms.{ref_seen, ref_at, code_in, ref_code, operand_seen, operand_at, test_over, left_code, right_code, test_value, comparison_of, comparison_from, comparison_read, comparison_at, compared}
use Rattle.terms.proofs.References.{ref_reading}
use Rattle.terms.proofs.Operands.{operand_reading}

-- ---- the reader, step by step

closed : Ref → Operand → Bytes → Option (Read (Cond Test))
closed a b bs = bind (byte 41 bs) (λ v. some (record { what = test (record { op = eq; left = a; right = b }); left = v.left }))

sided : Ref → Bytes → Option (Read (Cond Test))
sided a bs = bind (read_operand bs) (λ b. closed a b.what b.left)

spaced : Ref → Bytes → Option (Read (Cond Test))
spaced a bs = bind (byte 32 bs) (λ u. sided a u.left)

begun : Bytes → Option (Read (Cond Test))
begun bs = bind (read_ref bs) (λ a. spaced a.what a.left)

test_steps : (bs : Bytes) → read_test eq bs ≡ bind (byte 32 bs) (λ u. begun u.left)
unfolding read_test ◌>>=◌ ◌>>◌ give closed sided spaced begun
test_steps bs = refl

module _ (ns : List ℕ) (s : Bytes) (at : ℕ) where
  -- where nothing is read
  missing : read_test eq (drop at s) ≡ none → None ≡ comparison_at ns s at
  unfolding comparison_at comparison_read
  missing e = sym (rw e)

  -- where a comparison is read, up to a place
  made : (a : Read Ref) (w : Read Operand) (i : ℕ) {l : Reference} {c : ℕ} {t : Term} → i ≤ length s → l ≡ ref_seen s a → c ≡ code_in ns l.first l.second → t ≡ operand_seen ns s w
      → read_test eq (drop at s) ≡ some (record { what = test (record { op = eq; left = a.what; right = w.what }); left = drop i s }) → Some (compared l c t i) ≡ comparison_at ns s at
  unfolding comparison_at comparison_read comparison_from comparison_of compared ref_seen operand_seen left_at test_over left_code right_code test_value ref_code
  made a w i g m k n e =
      let o : length s - length (drop i s) ≡ i = omega (arith, length-drop i s) in
      rw (k, m, n, e, o)

  pub test_unspaced : {x : Found Comparison} → None ≡ read_end s (byte 32 (drop at s)) → x ≡ None → x ≡ comparison_at ns s at
  unfolding bind
  test_unspaced p d = d ∙ missing (test_steps (drop at s) ∙ rw (skip_none s at 32 p))

  module _ {p : ℕ} (sp : Some p ≡ read_end s (byte 32 (drop at s))) where
    test_begun : read_test eq (drop at s) ≡ begun (drop p s)
    unfolding bind
    test_begun = test_steps (drop at s) ∙ rw (skip_is s at 32 sp)

    pub test_leftless : {x : Found Comparison} → None ≡ ref_at s p → x ≡ None → x ≡ comparison_at ns s at
    unfolding begun bind ref_at ref_reading
    test_leftless g d = d ∙ missing (test_begun ∙ rw (read_none (ref_reading s) p g))

    module _ {l : Reference} (g : Some l ≡ ref_at s p) where
      test_spaced : {X : Type 0} → ((a : Read Ref) → l ≡ ref_seen s a → read_test eq (drop at s) ≡ spaced a.what (drop l.next s) → X) → X
      unfolding begun bind ref_at ref_reading
      test_spaced f = read_here (ref_reading s) p g (λ x z m. f (record { what = x; left = drop l.next s }) m (test_begun ∙ rw z))

      pub test_joined : {x : Found Comparison} → None ≡ read_end s (byte 32 (drop l.next s)) → x ≡ None → x ≡ comparison_at ns s at
      unfolding spaced bind
      test_joined u d = test_spaced (λ a m h. d ∙ missing (h ∙ rw (skip_none s l.next 32 u)))

      module _ {q : ℕ} (sq : Some q ≡ read_end s (byte 32 (drop l.next s))) where
        test_sided : {X : Type 0} → ((a : Read Ref) → l ≡ ref_seen s a → read_test eq (drop at s) ≡ sided a.what (drop q s) → X) → X
        unfolding spaced bind
        test_sided f = test_spaced (λ a m h. f a m (h ∙ rw (skip_is s l.next 32 sq)))

        pub test_rightless : {x : Found Comparison} → None ≡ operand_at ns s q → x ≡ None → x ≡ comparison_at ns s at
        unfolding sided bind operand_at operand_reading
        test_rightless r d = test_sided (λ a m h. d ∙ missing (h ∙ rw (read_none (operand_reading ns s) q r)))

        module _ {t : Term} (r : Some t ≡ operand_at ns s q) where
          test_closed : {X : Type 0} → ((a : Read Ref) (w : Read Operand) → l ≡ ref_seen s a → t ≡ operand_seen ns s w
              → read_test eq (drop at s) ≡ closed a.what w.what (drop t.next s) → X) → X
          unfolding sided bind operand_at operand_reading
          test_closed f =
              test_sided (λ a m h. read_here (operand_reading ns s) q r (λ x z i.
              f a (record { what = x; left = drop t.next s }) m i (h ∙ rw z)))

          pub test_unclosed : {x : Found Comparison} → None ≡ read_end s (byte 41 (drop t.next s)) → x ≡ None → x ≡ comparison_at ns s at
          unfolding closed bind
          test_unclosed u d = test_closed (λ a w m i h. d ∙ missing (h ∙ rw (skip_none s t.next 41 u)))

          pub test_whole : {e o : ℕ} {x : Comparison} → Some e ≡ read_end s (byte 41 (drop t.next s)) → o ≡ code_in ns l.first l.second → x ≡ compared l o t e → Some x ≡ comparison_at ns s at
          unfolding closed bind
          test_whole {e} u n d =
              test_closed (λ a w m i h. ap Some d ∙ made a w e (skip_within s t.next 41 u) m n i (h ∙ rw (skip_is s t.next 41 u)))

pub ruleset test_ends = (test_unspaced, test_leftless, test_joined, test_rightless, test_unclosed, test_whole)
