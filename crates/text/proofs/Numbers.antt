-- The number at a place as the code reads it.
use mathlib.Core.Path.{◌≡◌, refl, sym, ap, ◌∙◌}
use mathlib.Core.List.{[], ◌∷◌, ◌++◌}
use mathlib.Core.Option.{Option, none, some, none-ne-some}
use mathlib.Core.Bool.{Bool, true, false, cond}
use Prim.Native.Nat.{ℕ, zero, suc, ◌+◌, ◌*◌, ◌-◌, ◌≤◌, ◌<◌, min}
use native.Mathlib.Omega.{arith}
use native.Mathlib.Numerals.{add-one}
use lib.IntN.{pos, neg_ℤ, ◌-ℤ◌, +ℤ_idl}
use mir.Syntax.{w64}
use mir.Val.{SFits, to_z, of_z}
use mir.ValLaws.{to_z-of_z, to_z_pos}
use lib.Dec.{eqb}
use lib.ListN.{length, take, drop, get_or, length-append, length-drop}
use lib.Seq.{take-suc}
use borrow.Author.Tests.{ne_eqb}
use Rattle.syntax.specs.Grammar.{Bytes, digit}
use Rattle.syntax.specs.Readers.{Read, bind, ensure, byte, run, past, numeral, value_from, read_nat, negated, read_negative, read_natural, read_int}
use Rattle.syntax.proofs.Steps.{done, run_past}
use Rattle.text.specs.declared.Class.TheVariants.{Digit}
use Rattle.text.specs.declared.Number.{Number}
use Rattle.text.specs.Words.{Found, Some, None, seen, left_at, read_end, class_of, run_end, far, clamp, number_seen, number_found, natural_found, numeral_end}
use Rattle.text.proofs.Runs.{first_byte, run_head, run_from, run_word, run_place, run_within}
use Rattle.text.proofs.Views.{no_some, skip_none, skip_is}

-- ---- the value, digit by digit

value_snoc : (a : ℕ) (w : Bytes) (d : ℕ) → value_from a (w ++ (d ∷ [])) ≡ value_from a w * 10 + (d - 48)
unfolding value_from
value_snoc a [] d = refl
value_snoc a (x ∷ w) d = value_snoc (a * 10 + (x - 48)) w d

-- the cap may stand at each step or at the end
capped : (v d : ℕ) → min (min v far * 10 + d) far ≡ min (v * 10 + d) far
unfolding far
capped v d = omega arith

pub value_more : (w : Bytes) (i : ℕ) {v x : ℕ} → i < length w → v ≡ min (value_from 0 (take i w)) far → x ≡ min (v * 10 + (get_or w i 0 - 48)) far → x ≡ min (value_from 0 (take (i + 1) w)) far
value_more w i h e f =
    let d = get_or w i 0 - 48 in
    f ∙ ap (λ n. min (n * 10 + d) far) e ∙ capped (value_from 0 (take i w)) d ∙ sym (rw (add-one i, take-suc w i 0 h, value_snoc 0 (take i w) (get_or w i 0)) refl)

-- ---- numerals

module _ (s : Bytes) (at : ℕ) {e : ℕ} (q : e ≡ run_end Digit s at) where
  count_is : {r : Bytes} → run digit (drop at s) ≡ r → e ≡ at + length r
  unfolding run_end class_of
  count_is f = q ∙ rw f

  end_is : {r : Bytes} → run digit (drop at s) ≡ r → numeral_end s at ≡ cond (numeral r) (Some e) None
  unfolding numeral_end
  end_is f = rw (f, q)

  pub digits_none : e ≡ at → None ≡ numeral_end s at
  unfolding numeral
  digits_none z = go (run digit (drop at s)) refl
    where
      go : (r : Bytes) → run digit (drop at s) ≡ r → None ≡ numeral_end s at
      go [] f = sym (end_is f)
      go (d ∷ ds) f = let h = count_is f in absurd (omega arith)

  module _ (k : e ≡ at → ⊥) {b : ℕ} (p : b ≡ get_or s at 0) where
    head_is : {d : ℕ} {ds : Bytes} → run digit (drop at s) ≡ d ∷ ds → d ≡ b
    head_is f = run_head digit (drop at s) f ∙ first_byte s at ∙ sym p

    -- one digit is a numeral
    few : ((d c : ℕ) (cs : Bytes) → run digit (drop at s) ≡ d ∷ (c ∷ cs) → Some e ≡ numeral_end s at) → Some e ≡ numeral_end s at
    unfolding numeral
    few more = go (run digit (drop at s)) refl
      where
        go : (r : Bytes) → run digit (drop at s) ≡ r → Some e ≡ numeral_end s at
        go [] f = let h = count_is f in absurd (k (omega arith))
        go (d ∷ []) f = sym (end_is f)
        go (d ∷ (c ∷ cs)) f = more d c cs f

    pub digits_other : (b ≡ 48 → ⊥) → Some e ≡ numeral_end s at
    unfolding numeral
    digits_other n = few (λ d c cs f. sym (end_is f ∙ rw (head_is f, ne_eqb b 48 n)))

    pub digits_needless : b ≡ 48 → 1 < e - at → None ≡ numeral_end s at
    unfolding numeral
    digits_needless z n = go (run digit (drop at s)) refl
      where
        go : (r : Bytes) → run digit (drop at s) ≡ r → None ≡ numeral_end s at
        go [] f = let h = count_is f in absurd (omega arith)
        go (d ∷ []) f = let h = count_is f in absurd (omega arith)
        go (d ∷ (c ∷ cs)) f = sym (end_is f ∙ rw (head_is f, z))

    pub digits_zero : b ≡ 48 → e - at ≤ 1 → Some e ≡ numeral_end s at
    digits_zero z n = few (λ d c cs f. let h = count_is f in absurd (omega arith))

  pub digits_from : at ≤ e
  digits_from = run_from Digit s at q

pub ruleset numeral_ends = (digits_none, digits_other, digits_needless, digits_zero, digits_from)

-- ---- numbers

-- a capped value fits
module _ (v x : ℕ) (h : v ≡ min x far) where
  pub cast_fits : SFits w64 (pos v)
  unfolding far
  cast_fits = record { sfits = omega arith }

  cast_is : to_z w64 v ≡ pos v
  cast_is = to_z_pos w64 v cast_fits.sfits

-- a numeral at a place, and none
module _ (s : Bytes) (at : ℕ) where
  pub natural_none : None ≡ numeral_end s at → None ≡ natural_found s at
  unfolding natural_found numeral_end read_natural read_nat ensure bind seen
  natural_none z = go (numeral (run digit (drop at s))) refl z
    where
      go : (b : Bool) → numeral (run digit (drop at s)) ≡ b → None ≡ cond b (Some (run_end Digit s at)) None → None ≡ natural_found s at
      go true f z = absurd (no_some z)
      go false f z = rw f

  module _ {e : ℕ} (q : Some e ≡ numeral_end s at) where
    numeral_some : (numeral (run digit (drop at s)) ≡ true) × (e ≡ run_end Digit s at)
    unfolding numeral_end
    numeral_some = go (numeral (run digit (drop at s))) q
      where
        go : (b : Bool) → Some e ≡ cond b (Some (run_end Digit s at)) None → (b ≡ true) × (e ≡ run_end Digit s at)
        go true z = (refl, cc)
        go false z = absurd (no_some (sym z))

    end_here : e ≡ run_end Digit s at
    end_here = numeral_some.1

    here : at ≤ length s
    unfolding numeral
    here = go (run digit (drop at s)) refl
      where
        go : (r : Bytes) → run digit (drop at s) ≡ r → at ≤ length s
        go [] f = let z : true ≡ false = sym numeral_some.0 ∙ ap numeral f in let k : ◌≡◌ {A = ℕ} 0 1 = cc in absurd (omega arith)
        go (d ∷ ds) f =
            let m = ap length f in
            let l = ap length (run_past digit (drop at s)) in
            omega (arith, length-append (run digit (drop at s)) (past digit (drop at s)), length-drop at s)

    pub number_from : at ≤ e
    number_from = run_from Digit s at end_here

    pub number_within : e ≤ length s
    number_within = run_within Digit s at end_here here

    next_is : length s - length (past digit (drop at s)) ≡ e
    unfolding class_of
    next_is = run_place Digit s at end_here here

    word_is : take (e - at) (drop at s) ≡ run digit (drop at s)
    unfolding class_of
    word_is = run_word Digit s at end_here

    nat_is : read_nat (drop at s) ≡ some (record { what = value_from 0 (take (e - at) (drop at s)); left = past digit (drop at s) })
    unfolding read_nat ensure
    nat_is = rw (numeral_some.0, word_is)

    pub natural_some : {v : ℕ} → v ≡ min (value_from 0 (take (e - at) (drop at s))) far → Some (record { value = to_z w64 v; next = e }) ≡ natural_found s at
    unfolding natural_found read_natural bind seen number_seen left_at clamp
    natural_some {v} f = rw (cast_is v (value_from 0 (take (e - at) (drop at s))) f, nat_is, next_is, f)

pub ruleset natural_ends = (number_from, number_within, cast_fits, natural_none, natural_some)

minus_is : (m : ℕ) → pos 0 -ℤ pos m ≡ neg_ℤ (pos m)
minus_is m = +ℤ_idl (neg_ℤ (pos m))

minus_small : (n : ℕ) → n ≤ 4294967296 → SFits w64 (neg_ℤ (pos n))
minus_small zero k = record { sfits = omega arith }
minus_small (suc n) k = record { sfits = omega arith }

-- a number that begins with no minus, and one with a minus
module _ (s : Bytes) (at : ℕ) where
  pub number_natural : {r : Found Number} → None ≡ read_end s (byte 45 (drop at s)) → r ≡ natural_found s at → r ≡ number_found s at
  unfolding number_found natural_found read_int byte ensure read_natural read_nat bind run numeral read_end seen
  number_natural {r} p f = f ∙ go (drop at s) (skip_none s at 45 p)
    where
      go : (bs : Bytes) → byte 45 bs ≡ none → seen (number_seen s) (read_natural bs) ≡ seen (number_seen s) (read_int bs)
      go [] e = refl
      go (x ∷ xs) e = other (eqb 45 x) e
        where
          other : (b : Bool) → ensure {A = Read (Unit {0})} b (record { what = tt; left = xs }) ≡ none → seen (number_seen s) (read_natural (x ∷ xs)) ≡ seen (number_seen s) (cond b (read_negative xs) (read_natural (x ∷ xs)))
          other true e = absurd (none-ne-some _ (sym e))
          other false e = refl

  module _ {p : ℕ} (q : Some p ≡ read_end s (byte 45 (drop at s))) where
    negative_is : number_found s at ≡ seen (number_seen s) (read_negative (drop p s))
    unfolding number_found read_int byte ensure
    negative_is = go (drop at s) (skip_is s at 45 q)
      where
        go : (bs : Bytes) → byte 45 bs ≡ some (record { what = tt; left = drop p s }) → seen (number_seen s) (read_int bs) ≡ seen (number_seen s) (read_negative (drop p s))
        go [] e = absurd (none-ne-some _ e)
        go (x ∷ xs) e = other (eqb 45 x) e
          where
            other : (b : Bool) → ensure {A = Read (Unit {0})} b (record { what = tt; left = xs }) ≡ some (record { what = tt; left = drop p s }) → seen (number_seen s) (cond b (read_negative xs) (read_natural (x ∷ xs))) ≡ seen (number_seen s) (read_negative (drop p s))
            other true e = let k = done (λ r. xs ≡ r.left) e refl in rw k
            other false e = absurd (none-ne-some _ e)

    pub number_none : None ≡ natural_found s p → None ≡ number_found s at
    unfolding natural_found read_natural read_negative bind seen
    number_none e = sym (negative_is ∙ go (read_nat (drop p s)) e)
      where
        go : (o : Option (Read ℕ)) → None ≡ seen (number_seen s) (bind o (λ n. some (record { what = pos n.what; left = n.left })))
            → seen (number_seen s) (bind o (λ n. bind (negated n.what) (λ z. some (record { what = z; left = n.left })))) ≡ None
        go none e = refl
        go (some r) e = absurd (no_some e)

    module _ {n : Number} (e : Some n ≡ natural_found s p) where
      -- the digits after the minus
      digits_are : {X : Type 0} → ((m : ℕ) → n.value ≡ pos (min m far) → number_found s at ≡ seen (λ z. record { value = clamp z; next = n.next }) (negated m) → X) → X
      unfolding natural_found read_natural read_negative bind seen number_seen left_at clamp negated
      digits_are {X} f = go (read_nat (drop p s)) e negative_is
        where
          go : (o : Option (Read ℕ)) → Some n ≡ seen (number_seen s) (bind o (λ n. some (record { what = pos n.what; left = n.left })))
              → number_found s at ≡ seen (number_seen s) (bind o (λ n. bind (negated n.what) (λ z. some (record { what = z; left = n.left })))) → X
          go none e d = absurd (no_some (sym e))
          go (some r) e d = let k : n ≡ record { value = pos (min r.what far); next = left_at s r } = cc in f r.what (ap (λ x. x.value) k) (d ∙ made r.what r.left k)
            where
              made : (m : ℕ) (l : Bytes) → n ≡ record { value = pos (min m far); next = length s - length l }
                  → seen (number_seen s) (bind (negated m) (λ z. some (record { what = z; left = l }))) ≡ seen (λ z. record { value = clamp z; next = n.next }) (negated m)
              made zero l k = refl
              made (suc m) l k = rw k

      -- as the code has them
      back : to_z w64 (of_z w64 n.value) ≡ n.value
      unfolding far
      back = digits_are (λ m v d. to_z-of_z w64 n.value (rw v (record { sfits = omega arith })))

      minus_signed : ℕ → Found Number
      minus_signed m = seen (λ z. record { value = clamp z; next = n.next }) (negated m)

      pub number_zero : of_z w64 n.value ≡ 0 → None ≡ number_found s at
      unfolding minus_signed far negated seen
      number_zero z = digits_are (λ m v d. sym (d ∙ go m (sym v ∙ sym back ∙ ap (to_z w64) z)))
        where
          go : (m : ℕ) → pos (min m far) ≡ pos 0 → minus_signed m ≡ None
          go m e = let k : min m far ≡ 0 = cc in let h : m ≡ 0 = omega arith in rw h

      minus_of : (m : ℕ) → n.value ≡ pos (min m far) → SFits w64 (pos 0 -ℤ n.value)
      unfolding far
      minus_of m v = rw (v, minus_is (min m far)) (minus_small (min m far) (omega arith))

      pub minus_fits : SFits w64 (pos 0 -ℤ to_z w64 (of_z w64 n.value))
      minus_fits = rw back (digits_are (λ m v d. minus_of m v))

      pub number_minus : (of_z w64 n.value ≡ 0 → ⊥) → Some (record { value = to_z w64 (of_z w64 (pos 0 -ℤ to_z w64 (of_z w64 n.value))); next = n.next }) ≡ number_found s at
      unfolding minus_signed clamp negated seen far
      number_minus z = digits_are (λ m v d. rw (back, to_z-of_z w64 (pos 0 -ℤ n.value) (minus_of m v)) (go m v d))
        where
          go : (m : ℕ) → n.value ≡ pos (min m far) → number_found s at ≡ minus_signed m → Some (record { value = pos 0 -ℤ n.value; next = n.next }) ≡ number_found s at
          go zero v d = absurd (z (ap (of_z w64) v))
          go (suc m) v d = rw (v, minus_is (min (suc m) far), d)

pub ruleset number_ends = (number_natural, number_none, number_zero, minus_fits, number_minus)
