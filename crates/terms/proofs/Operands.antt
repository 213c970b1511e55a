-- The right side of a comparison at a place as the code reads it.
use mathlib.Core.Path.{◌≡◌, refl, sym, ap, ◌∙◌}
use mathlib.Core.List.{List, [], ◌∷◌}
use mathlib.Core.Bool.{Bool, true, false, not, cond}
use mathlib.Core.Option.{Option, none, some}
use Prim.Native.Nat.{ℕ}
use lib.IntN.{ℤ, pos}
use lib.Dec.{eqb}
use lib.ListN.{drop, get_or}
use borrow.Author.Tests.{not-true, not-false}
use mir.Syntax.{w32}
use mir.Val.{SFits, to_z, of_z}
use mir.ValLaws.{to_z-of_z}
use Rattle.std.specs.Prelude.{is_some, is_none, unwrap_or}
use Rattle.syntax.specs.Grammar.{Bytes, Ref, Operand, ref, number, letter}
use Rattle.syntax.specs.Limits.{is_value}
use Rattle.syntax.specs.Readers.{Read, bind, read_int, read_ref, read_operand}
use Rattle.syntax.proofs.Leaving.{operand_leaves}
use Rattle.text.specs.declared.Number.{Number}
use Rattle.text.specs.Words.{Found, Some, None, seen, left_at, number_seen, number_found, value_kept, value_given}
use Rattle.text.proofs.Runs.{first_byte}
use Rattle.text.proofs.Views.{Reading, read_none, read_some, number_reading}
use Rattle.text.proofs.Found.{number_none, value_is, value_flag, value_or}
use Rattle.terms.specs.declared.Reference.{Reference}
use Rattle.terms.specs.declared.Term.{Term}
use Rattle.terms.specs.Terms.{ref_seen, ref_at, code_in, ref_code, biased, operand_over, operand_code, operand_value, operand_seen, operand_at, ref_term, ref_term_at, number_term, number_term_at}
use Rattle.terms.proofs.References.{ref_reading}

unfoldable pub operand_reading : (ns : List ℕ) (s : Bytes) → Reading Operand Term s
unfolding operand_seen
operand_reading ns s = record { item = read_operand; leaves = operand_leaves; made = operand_seen ns s; next = λ t. t.next; next_made = λ a. refl }

-- ---- a column

module _ (ns : List ℕ) (s : Bytes) (at : ℕ) where
  pub ref_term_none : {x : Found Term} → None ≡ ref_at s at → x ≡ None → x ≡ ref_term_at ns s at
  unfolding ref_term_at ref_at ref_reading seen
  ref_term_none p d = d ∙ sym (rw (read_none (ref_reading s) at p))

  pub ref_term_some : {r : Reference} {c v : ℕ} → Some r ≡ ref_at s at → c ≡ code_in ns r.first r.second → v ≡ cond (eqb c 27) r.second 0
      → Some (record { over = r.over; code = c; value = v; next = r.next }) ≡ ref_term_at ns s at
  unfolding ref_term_at ref_term ref_at ref_reading ref_seen ref_code seen
  ref_term_some {r} {c} {v} p e f = read_some (ref_reading s) at p (λ a z m d. rw (f, e, m, z))

pub ruleset ref_term_ends = (ref_term_none, ref_term_some)

-- ---- a number

turned : (o : Bool) {b : Bool} → b ≡ not o → o ≡ not b
turned true e = rw e
turned false e = rw e

module _ (s : Bytes) (at : ℕ) where
  pub number_term_none : {x : Found Term} → None ≡ number_found s at → x ≡ None → x ≡ number_term_at s at
  unfolding number_term_at seen
  number_term_none p d = d ∙ sym (rw (number_none s at p))

  pub number_term_some : {z : Number} {k : Found ℤ} {y : ℤ} {o : Bool} {v : ℕ} → Some z ≡ number_found s at → k ≡ value_given z.value → y ≡ unwrap_or k (pos 0) → SFits w32 y → v ≡ biased (to_z w32 (of_z w32 y)) → is_some k ≡ not o
      → Some (record { over = o; code = 26; value = v; next = z.next }) ≡ number_term_at s at
  unfolding number_term_at number_term number_found number_reading number_seen left_at seen
  number_term_some {z} {k} {y} {o} {v} p e u i32 f g =
      read_some (number_reading s) at p (λ a r m d.
      let h : k ≡ value_given a.what = value_is a.what e (ap (λ n. n.value) m) in
      let i : y ≡ value_kept a.what = u ∙ ap (λ k. unwrap_or k (pos 0)) h ∙ value_or a.what in
      let j : o ≡ not (is_value a.what) = turned o g ∙ ap (λ k. is_none k) h ∙ value_flag a.what in
      rw (f, to_z-of_z w32 y i32, i, j, d, r))

pub ruleset number_term_ends = (number_term_none, number_term_some)

-- ---- either, by the first byte

module _ (ns : List ℕ) (s : Bytes) where
  from_ref : (o : Option (Read Ref)) → seen (operand_seen ns s) (bind o (λ r. some (record { what = ref r.what; left = r.left }))) ≡ seen (ref_term ns s) o
  unfolding seen operand_seen ref_term bind operand_over operand_code operand_value left_at
  from_ref none = refl
  from_ref (some r) = refl

  from_number : (o : Option (Read ℤ)) → seen (operand_seen ns s) (bind o (λ z. some (record { what = number z.what; left = z.left }))) ≡ seen (number_term s) o
  unfolding seen operand_seen number_term bind operand_over operand_code operand_value left_at
  from_number none = refl
  from_number (some r) = refl

  operand_by : (bs : Bytes) {x : Bool} → letter (get_or bs 0 0) ≡ x → seen (operand_seen ns s) (read_operand bs) ≡ cond x (seen (ref_term ns s) (read_ref bs)) (seen (number_term s) (read_int bs))
  unfolding read_operand read_int letter seen
  operand_by [] e = rw (sym e)
  operand_by (b ∷ bs) {x} e = rw e (go x)
    where
      go : (x : Bool) → seen (operand_seen ns s) (cond x (bind (read_ref (b ∷ bs)) (λ r. some (record { what = ref r.what; left = r.left }))) (bind (read_int (b ∷ bs)) (λ z. some (record { what = number z.what; left = z.left }))))
          ≡ cond x (seen (ref_term ns s) (read_ref (b ∷ bs))) (seen (number_term s) (read_int (b ∷ bs)))
      go true = from_ref (read_ref (b ∷ bs))
      go false = from_number (read_int (b ∷ bs))

  module _ (at : ℕ) {b : ℕ} {l : Bool} (e : b ≡ get_or s at 0) (f : l ≡ letter b) where
    operand_is : {t : Bool} → l ≡ t → operand_at ns s at ≡ cond t (ref_term_at ns s at) (number_term_at s at)
    unfolding operand_at ref_term_at number_term_at
    operand_is h = operand_by (drop at s) (ap letter (first_byte s at ∙ sym e) ∙ sym f ∙ h)

    pub operand_number : {x : Found Term} → not l ≡ true → x ≡ number_term_at s at → x ≡ operand_at ns s at
    operand_number h g = g ∙ sym (operand_is (not-true l h))

    pub operand_ref : {x : Found Term} → not l ≡ false → x ≡ ref_term_at ns s at → x ≡ operand_at ns s at
    operand_ref h g = g ∙ sym (operand_is (not-false l h))

pub ruleset operand_ends = (operand_number, operand_ref)
