-- A part of a list that is replaced: what each place holds then, and how a loop comes to it.
use mathlib.Core.Path.{◌≡◌, sym, ap, ◌∙◌}
use mathlib.Core.List.{List, ◌++◌}
use Prim.Native.Nat.{ℕ, ◌+◌, ◌-◌, ◌<◌, ◌≤◌}
use native.Mathlib.Decide.{dec_lt}
use native.Mathlib.Numerals.{add-one}
use native.Mathlib.Omega.{arith}
use lib.ListN.{length, get_or, set, take, drop, get_or-append}
use lib.Seq.{paste, paste-zero, paste-suc, get_or-append-add, get_or-take, get_or-drop, length_paste_head, length-take-le}

module _ {A : Type 0} (d s : List A) (at n : ℕ) (z : A) (hd : at + n ≤ length d) (hs : n ≤ length s) where
  in_front : (i : ℕ) → i < at + n → get_or (paste d at s n) i z ≡ get_or (take at d ++ take n s) i z
  in_front i h = let e = length_paste_head d at s n (omega arith) hs in get_or-append (take at d ++ take n s) (drop (at + n) d) z i (omega arith)

  pub paste_in : (k : ℕ) → k < n → get_or (paste d at s n) (at + k) z ≡ get_or s k z
  paste_in k h =
      let e : length (take at d) ≡ at = length-take-le at d (omega arith) in
      in_front (at + k) (omega arith) ∙ rw e at (get_or-append-add (take at d) (take n s) k z) ∙ get_or-take n s k z h

  pub paste_before : (i : ℕ) → i < at → get_or (paste d at s n) i z ≡ get_or d i z
  paste_before i h =
      let e : length (take at d) ≡ at = length-take-le at d (omega arith) in
      in_front i (omega arith) ∙ get_or-append (take at d) (take n s) z i (omega arith) ∙ get_or-take at d i z h

  pub paste_after : (i : ℕ) → at + n ≤ i → get_or (paste d at s n) i z ≡ get_or d i z
  paste_after i h =
      let e : length (take at d ++ take n s) ≡ at + n = length_paste_head d at s n (omega arith) hs in
      let k : (at + n) + (i - (at + n)) ≡ i = omega arith in
      rw (e, k) at (get_or-append-add (take at d ++ take n s) (drop (at + n) d) (i - (at + n)) z) ∙ rw k at (get_or-drop (at + n) d (i - (at + n)) z)

  -- every place outside
  pub paste_out : (i : ℕ) → ((j : ℕ) → j < n → i ≡ at + j → ⊥) → get_or (paste d at s n) i z ≡ get_or d i z
  paste_out i f = go (dec_lt i at) (dec_lt i (at + n))
    where
      go : Dec (i < at) → Dec (i < at + n) → get_or (paste d at s n) i z ≡ get_or d i z
      go (yes a) b = paste_before i a
      go (no a) (yes b) = absurd (f (i - at) (omega arith) (omega arith))
      go (no a) (no b) = paste_after i (omega arith)

-- ---- place by place

pub paste_start : {A : Type 0} (d : List A) (at : ℕ) (s : List A) → d ≡ paste d at s 0
paste_start d at s = paste-zero d at s

pub paste_on : {A : Type 0} (d : List A) (at : ℕ) (s : List A) (n i : ℕ) (z : A) {ws : List A} → at + n ≤ length d → n ≤ length s → i < n → ws ≡ paste d at s i → set ws (at + i) (get_or s i z) ≡ paste d at s (i + 1)
paste_on d at s n i z h l k e =
    let p : at + i < length d = omega arith in
    let q : i < length s = omega arith in
    ap (λ x. set x (at + i) (get_or s i z)) e ∙ paste-suc d at s i z p q ∙ ap (paste d at s) (sym (add-one i))
