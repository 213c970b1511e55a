-- A text behind output that is kept.
use mathlib.Core.Path.{◌≡◌, refl, sym, ap, ◌∙◌}
use mathlib.Core.List.{◌++◌, append_assoc}
use mathlib.Core.Bool.{Bool, false}
use Prim.Native.Nat.{ℕ, ◌+◌, ◌-◌, ◌≤◌, min}
use native.Mathlib.Omega.{arith}
use lib.ListN.{length, take, drop, length-take, length-drop, length-append}
use lib.Seq.{take-append_seam}
use Rattle.syntax.specs.Grammar.{Bytes}
use Rattle.report.specs.Written.{Written}
use Rattle.console.specs.Output.{most_text, Room, Tells, Adds}

pub take_more : (a b : Bytes) (n : ℕ) → n ≡ length a + length b → (c : Bytes) → take n (a ++ (b ++ c)) ≡ a ++ b
take_more a b n e c = ap (λ (w : Bytes). take n w) (sym (append_assoc a b c)) ∙ ap (λ (j : ℕ). take j ((a ++ b) ++ c)) (e ∙ sym (length-append a b)) ∙ take-append_seam (a ++ b) c

module _ (t : Bytes) (most used : ℕ) (m : Bytes) {at : ℕ} (x : Room m used at) where
  -- the text is written into the part of m from `at` on, which leaves q
  pub text_added : {q : Bytes} {n k : ℕ} (e : ℕ) → e ≡ length m → Written t most (take (e - at) (drop at m)) q n → k ≡ min n (length m - at)
      → Adds t most false m used (take at m ++ (q ++ drop (e - at) (drop at m))) (at + k)
  text_added {q} {n} {k} e f y g =
      record {
        rest = λ h i. record { written = x.rest.written; all = ap (λ (w : Bytes). x.rest.written ++ w) (fits h i) ∙ sym (append_assoc x.rest.written (take at m) t) ∙ ap (λ (w : Bytes). w ++ t) x.rest.all };
        kept = λ o h i. fits h (omega arith) ∙ ap (λ (j : ℕ). take j m ++ t) (x.kept i);
      }
    where
      fits : most ≤ most_text → most_text ≤ length m → take (at + k) (take at m ++ (q ++ drop (e - at) (drop at m))) ≡ take at m ++ t
      fits h i =
          let a : at + most_text ≤ length m = x.room i in
          let p : length (take (e - at) (drop at m)) ≡ length m - at = length-take (e - at) (drop at m) ∙ (let b = length-drop at m in omega arith) in
          let c = y.count in
          let d = y.few in
          let long : length t ≤ length m - at = omega arith in
          let w = y.whole (omega arith) (omega arith) in
          let o = length-take at m in
          let v = x.inside in
          ap (λ (z : Bytes). take (at + k) (take at m ++ (z ++ drop (e - at) (drop at m)))) w
          ∙ ap (λ (z : Bytes). take (at + k) (take at m ++ z)) (append_assoc t (drop (length t) (take (e - at) (drop at m))) (drop (e - at) (drop at m)))
          ∙ take_more (take at m) t (at + k) (omega arith) (drop (length t) (take (e - at) (drop at m)) ++ drop (e - at) (drop at m))

-- the output up to a refusal is written before the reason
pub told_behind : {t : Bytes} {n used : ℕ} {m m' : Bytes} {r r' : ℕ} (explains : Bool) → Adds t n false m used m' r → Tells m' r explains r' → Adds t n explains m used m' r'
told_behind {t} {n} {used} {m} {m'} {r} {r'} explains x y =
    record {
      rest = λ h i. let z = x.rest h i in record { written = z.written ++ y.rest.written; all = append_assoc z.written y.rest.written (take r' m') ∙ ap (λ (w : Bytes). z.written ++ w) y.rest.all ∙ z.all };
      kept = λ e h i. ap (λ (j : ℕ). take j m') (y.kept e) ∙ x.kept refl h i;
    }
