-- Texts written from the first place on, part by part.
use mathlib.Core.Path.{◌≡◌, refl, sym, ap, ap₂, ◌∙◌}
use mathlib.Core.List.{List, [], ◌∷◌, ◌++◌}
use Prim.Native.Nat.{ℕ, suc, ◌+◌, ◌*◌, ◌<◌, ◌≤◌}
use native.Mathlib.Omega.{arith}
use lib.IntN.{ℤ, pos}
use lib.ListN.{length, take, drop, get_or, set, length-take, take-append-drop, drop_of_length-le}
use lib.Seq.{drop-cons}
use mir.Syntax.{w64}
use mir.Val.{SFits, to_z, of_z}
use Rattle.lists.proofs.Laws.{append_nil}
use Rattle.syntax.specs.Grammar.{Bytes, bytes, put_nat, put_int, put_name}
use Rattle.text.specs.Words.{name_of, bytes_from}
use Rattle.calls.specs.Scripts.{refusal, cells, text}
use Rattle.print.specs.Writing.{furthest, next, over, after, Put, byte_text}
use Rattle.print.proofs.Putting.{put_past, put_as, put_then}
use Rattle.print.proofs.Whole.{after_is, over_start, counted, written}
use Rattle.report.specs.declared.Due.{Due}
use Rattle.report.specs.declared.Due.TheVariants.{Routes}
use Rattle.report.specs.Outcomes.{due_after, front_of, end_of, put_cell, put_cells, put_refusal, put_text, put_outcome, outcome_text}
use Rattle.report.specs.Written.{Written}
use Rattle.report.proofs.Numbers.{back}
use Rattle.report.proofs.Lengths.{refusal_short, text_short}

-- ---- what is written in the end

over_append : (m : Bytes) (p : ℕ) (a b : Bytes) → over m p (a ++ b) ≡ over (over m p a) (after p a) b
unfolding over after
over_append m p [] b = refl
over_append m p (x ∷ a) b = over_append (set m p x) (next p) a b

-- past the last place nothing is written
over_out : (m : Bytes) (p : ℕ) (b : Bytes) → length m ≤ p → p ≤ furthest → over m p b ≡ m
unfolding over
over_out m p b h k = ap (over m p) (sym (append_nil b)) ∙ (put_past {t = λ r. b ++ r} {m = m} {p = p} b (λ r. refl) h k refl).bytes []

-- a text longer than the bytes leaves its start
over_cut : (m t : Bytes) → length m ≤ length t → length m ≤ furthest → over m 0 t ≡ take (length m) t
over_cut m t h k =
    let a : Bytes = take (length m) t in
    let b : Bytes = drop (length m) t in
    let l : length a ≡ length m = simp length-take (omega arith) in
    let e : over m 0 a ≡ a = over_start m a (omega arith) (omega arith) ∙ ap (λ (w : Bytes). a ++ w) (drop_of_length-le m {i = length a} (omega arith)) ∙ append_nil a in
    let f : after 0 a ≡ length m = let g = after_is 0 a (omega arith) in omega arith in
    ap (over m 0) (sym (take-append-drop (length m) t)) ∙ over_append m 0 a b ∙ ap₂ (λ (w : Bytes) (q : ℕ). over w q b) e f ∙ over_out a (length m) b (omega arith) k

pub written_of : {t : Bytes → Bytes} {m m' : Bytes} {n : ℕ} (most : ℕ) → Put t m 0 m' n → n ≤ most → Written (t []) most m m' n
unfolding over
written_of {t} {m} {m'} {n} most x f =
    record {
      count = counted x;
      whole = λ h k. written x (omega (arith, counted x)) (omega (arith, counted x));
      few = f;
      cut = λ h k. sym (x.bytes []) ∙ over_cut m (t []) (omega arith) (omega arith);
    }

-- ---- a loop: a text with what is still to be written of it

pub record Left (t s : Bytes → Bytes) (m₀ m : Bytes) (p : ℕ) : Type 0 where
  pub bytes : (r : Bytes) → over m₀ 0 (t r) ≡ over m p (s r)
  pub place : (r : Bytes) → after 0 (t r) ≡ after p (s r)

pub left_all : {t : Bytes → Bytes} {m : Bytes} → Left t t m m 0
left_all = record { bytes = λ r. refl; place = λ r. refl }

left_less : {t s f u : Bytes → Bytes} {m₀ m m₁ : Bytes} {p p₁ : ℕ} → ((r : Bytes) → s r ≡ f (u r)) → Left t s m₀ m p → Put f m p m₁ p₁ → Left t u m₀ m₁ p₁
left_less {u = u} {m = m} {p = p} e x y =
    record { bytes = λ r. x.bytes r ∙ ap (over m p) (e r) ∙ y.bytes (u r); place = λ r. x.place r ∙ ap (after p) (e r) ∙ y.place (u r) }

left_none : {t s : Bytes → Bytes} {m₀ m : Bytes} {p : ℕ} → ((r : Bytes) → s r ≡ r) → Left t s m₀ m p → Put t m₀ 0 m p
left_none {m = m} {p = p} e x = record { bytes = λ r. x.bytes r ∙ ap (over m p) (e r); place = λ r. x.place r ∙ ap (after p) (e r) }

-- cells
module _ {t : Bytes → Bytes} {m₀ m : Bytes} {p i : ℕ} (zs : List ℤ) (d : Due) (x : Left t (put_cells d (drop i zs)) m₀ m p) where
  pub cells_more : {z : ℤ} {e : Due} {m₁ : Bytes} {p₁ : ℕ} → i < length zs → e ≡ due_after d z → Put (put_cell d z) m p m₁ p₁ → z ≡ get_or zs i (pos 0) → Left t (put_cells e (drop (i + 1) zs)) m₀ m₁ p₁
  unfolding put_cells
  cells_more {z} {e} h k y g =
      let f : i + 1 ≡ suc i = omega arith in
      left_less (λ r. rw (f, k, g, drop-cons zs i (pos 0) h)) x (rw g at y)

  pub cells_none : length zs ≤ i → Put t m₀ 0 m p
  unfolding put_cells
  cells_none h = left_none (λ r. rw (drop_of_length-le zs {i = i} h)) x

-- ---- the outcomes

pub put_cell_end : (d : Due) (z : ℤ) (w : ℕ) {e : ℕ} {m m₁ m₂ m₃ : Bytes} {p p₁ p₂ p₃ : ℕ} → SFits w64 z → name_of w ≡ front_of d → e ≡ end_of d
    → Put (put_name (name_of w)) m p m₁ p₁ → Put (put_int (to_z w64 (of_z w64 z))) m₁ p₁ m₂ p₂ → Put (byte_text e) m₂ p₂ m₃ p₃ → Put (put_cell d z) m p m₃ p₃
unfolding put_cell put_name byte_text
put_cell_end d z w {e} fits f g x y b =
    put_as (λ r. ap₂ (λ (u : Bytes) (v : ℕ). u ++ put_int z (v ∷ r)) (sym f) (sym g) ∙ ap (λ (i : ℤ). name_of w ++ put_int i (e ∷ r)) (sym (back z fits))) (put_then x (put_then y b))

refused_word : (r : Bytes) → bytes "refused " ++ r ≡ put_name (name_of 8243107347604792352) r
unfolding put_name name_of bytes_from
refused_word r = refl

pub refusal_written : (n : ℕ) {m m₁ m₂ m₃ : Bytes} {p₁ p₂ p₃ : ℕ} → n < 4294967296 → Put (put_name (name_of 8243107347604792352)) m 0 m₁ p₁ → Put (put_nat n) m₁ p₁ m₂ p₂ → Put (byte_text 10) m₂ p₂ m₃ p₃
    → Written (outcome_text (refusal n)) 20 m m₃ p₃
unfolding outcome_text put_outcome put_refusal byte_text
refusal_written n {m} {m₁} {m₂} {m₃} {p₃ = p₃} h x y b = written_of 20 all (omega (arith, counted all, refusal_short n h))
  where
    all : Put (put_refusal n) m 0 m₃ p₃
    all = put_as (λ r. refused_word (put_nat n (10 ∷ r))) (put_then x (put_then y b))

pub cells_written : (zs : List ℤ) {m m' : Bytes} {n : ℕ} → Put (put_cells Routes zs) m 0 m' n → n ≤ 28 * length zs → Written (outcome_text (cells zs)) (28 * length zs) m m' n
unfolding outcome_text put_outcome
cells_written zs x h = written_of (28 * length zs) x h

pub text_written : (bs : Bytes) {m m₁ m₂ : Bytes} {p₁ p₂ : ℕ} → Put (put_name bs) m 0 m₁ p₁ → Put (byte_text 10) m₁ p₁ m₂ p₂ → Written (outcome_text (text bs)) (length bs + 1) m m₂ p₂
unfolding outcome_text put_outcome put_text put_name byte_text
text_written bs {m} {m₁} {m₂} {p₁} {p₂} x y = written_of (length bs + 1) all (omega (arith, counted all, text_short bs))
  where
    all : Put (put_text bs) m 0 m₂ p₂
    all = put_as (λ r. refl) (put_then x y)
