-- A condition by its head.
use mathlib.Core.Path.{◌≡◌, refl, sym, ap, ◌∙◌}
use mathlib.Core.Option.{Option, none, some}
use Prim.Native.Nat.{ℕ, ◌+◌, ◌-◌, ◌≤◌}
use native.Mathlib.Omega.{arith}
use lib.ListN.{length, drop, length-append, length-drop}
use Rattle.std.proofs.lemmas.Option.{none-some, same_Some}
use Rattle.syntax.specs.Grammar.{Bytes, Op, eq, ne, lt, le, gt, ge, put_open}
use Rattle.syntax.specs.Readers as R
use Rattle.syntax.specs.Readers.{Read, bind, ◌>>◌, byte, read_head, read_headed, compare, and, or, not_of, head_word, heads}
use Rattle.syntax.proofs.Steps.{head_read}
use Rattle.syntax.proofs.Leaving.{head_leaves}
use Rattle.text.specs.declared.Word.{Word}
use Rattle.text.specs.Words.{Found, Some, None, seen, left_at, read_end}
use Rattle.text.specs.Keywords.{op_number, head_number, head_given, coded, word_found}
use Rattle.text.specs.Readings.{any_cond, any_conds}
use Rattle.text.proofs.Runs.{place_left}
use Rattle.text.proofs.Views.{left_drop, seen_none, seen_some, skip_none, skip_is}
use Rattle.text.proofs.Found as W
use Rattle.text.proofs.Fuel.{cond_step}
use Rattle.conditions.specs.declared.Headed.{Headed}
use Rattle.conditions.specs.Seeing.{head_seen, head_at}

-- ---- numbers of heads

pub op_some : (o : Op) → 1 ≤ op_number o
unfolding op_number
op_some eq = omega arith
op_some ne = omega arith
op_some lt = omega arith
op_some le = omega arith
op_some gt = omega arith
op_some ge = omega arith

pub op_small : (o : Op) → op_number o ≤ 6
unfolding op_number
op_small eq = omega arith
op_small ne = omega arith
op_small lt = omega arith
op_small le = omega arith
op_small gt = omega arith
op_small ge = omega arith

-- ---- the ends of `head_at`

module _ (s : Bytes) (at : ℕ) where
  pub head_unopened : {x : Found Headed} → None ≡ read_end s (byte 40 (drop at s)) → x ≡ None → x ≡ head_at s at
  unfolding head_at seen read_head ◌>>◌ bind
  head_unopened p d = d ∙ sym (rw (skip_none s at 40 p))

  module _ {p : ℕ} (e : Some p ≡ read_end s (byte 40 (drop at s))) where
    pub head_wordless : {x : Found Headed} → None ≡ word_found s p → x ≡ None → x ≡ head_at s at
    unfolding head_at seen read_head ◌>>◌ bind
    head_wordless q d = d ∙ sym (rw (skip_is s at 40 e, W.head_none s p q))

    module _ {w : Word} (q : Some w ≡ word_found s p) where
      pub head_other : {x : Found Headed} → None ≡ head_given w.code → x ≡ None → x ≡ head_at s at
      unfolding head_at seen read_head ◌>>◌ bind head_given
      head_other f d = d ∙ sym (rw (skip_is s at 40 e, W.head_some s p q, seen_none head_number (coded head_word heads w.code) f))

      pub head_known : {n : ℕ} → Some n ≡ head_given w.code → Some (record { head = n; next = w.next }) ≡ head_at s at
      unfolding head_at seen head_seen left_at read_head ◌>>◌ bind head_given
      head_known f =
          seen_some head_number (coded head_word heads w.code) f (λ h i j.
          sym (rw (skip_is s at 40 e, W.head_some s p q, i, j, place_left s w.next (W.word_within s p q))))

pub ruleset head_ends = (head_unopened, head_wordless, head_other, head_known)

-- ---- a condition by its head

pub unheaded : (s : Bytes) (at : ℕ) → None ≡ head_at s at → any_cond (drop at s) ≡ none
unfolding head_at seen bind
unheaded s at e = cond_step (drop at s) ∙ go (read_head head_word heads (drop at s)) refl
  where
    go : (x : Option (Read R.Head)) → read_head head_word heads (drop at s) ≡ x → bind x (λ h. read_headed any_cond any_conds h.what h.left) ≡ none
    go none q = refl
    go (some r) q = absurd (let d : None ≡ seen (head_seen s) (some r) = e ∙ ap (seen (head_seen s)) q in none-some (head_seen s r) d)

-- what follows the head stands at the place after its word
pub headed : (s : Bytes) (at : ℕ) {h : Headed} → Some h ≡ head_at s at → {X : Type 0}
    → ((g : R.Head) → head_number g ≡ h.head → any_cond (drop at s) ≡ read_headed any_cond any_conds g (drop h.next s) → h.next ≡ at + (1 + length (head_word g)) → h.next ≤ length s → X) → X
unfolding head_at seen head_seen left_at bind put_open
headed s at {h} e {X} f = go (read_head head_word heads (drop at s)) refl
  where
    go : (x : Option (Read R.Head)) → read_head head_word heads (drop at s) ≡ x → X
    go none q = absurd (none-some h (sym (e ∙ rw q)))
    go (some r) q =
        let m : h ≡ head_seen s r = same_Some h (head_seen s r) (e ∙ rw q) in
        let y : h.next ≡ length s - length r.left = ap (λ x. x.next) m in
        let d : drop h.next s ≡ r.left = ap (λ i. drop i s) y ∙ left_drop (head_leaves head_word heads) s at r q in
        let l = ap length ((head_read head_word heads).taken (drop at s) r q).1 in
        let k = length-append (head_word r.what) r.left in
        f r.what (sym (ap (λ x. x.head) m)) (cond_step (drop at s) ∙ rw (q, d)) (omega (arith, length-drop at s)) (omega arith)
