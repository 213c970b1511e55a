-- What a reader leaves at a place of a text is the text from a later place on, and what the code has of an item there.
use mathlib.Core.Path.{◌≡◌, refl, sym, ap, ◌∙◌}
use mathlib.Core.List.{◌++◌, append_assoc}
use mathlib.Core.Option.{Option, none, some}
use Prim.Native.Nat.{ℕ, suc, ◌+◌, ◌-◌, ◌≤◌, ◌<◌}
use native.Mathlib.Omega.{arith}
use lib.IntN.{ℤ}
use lib.ListN.{length, take, drop, get_or, length-append, length-drop, take-append-drop, drop_of_length-le}
use lib.Seq.{drop_at, drop-cons}
use borrow.Author.Tests.{eq-eqb, ne_eqb}
use Rattle.syntax.specs.Grammar.{Bytes}
use Rattle.syntax.specs.Readers.{Read, Reader, byte, ensure, read_name, read_int}
use Rattle.syntax.proofs.Leaving.{Leaves, left_within, byte_leaves, name_leaves, int_leaves}
use Rattle.text.specs.declared.Name.{Name}
use Rattle.text.specs.declared.Number.{Number}
use Rattle.text.specs.Words.{Some, None, seen, left_at, read_end, name_seen, number_seen}

-- ---- what is left

end_drop : (v l s : Bytes) → s ≡ v ++ l → drop (length s - length l) s ≡ l
end_drop v l s e = rw e (drop_at v l (length (v ++ l) - length l) (omega (arith, length-append v l)))

module _ {A : Type 0} {item : Reader A} (leaves : Leaves item) (s : Bytes) (at : ℕ) (r : Read A) (e : item (drop at s) ≡ some r) where
  -- what is left of a read at a place is the text from a place on
  pub left_drop : drop (length s - length r.left) s ≡ r.left
  left_drop =
      let f = leaves.front (drop at s) r e in
      end_drop (take at s ++ f.0) r.left s (sym (take-append-drop at s) ∙ ap (λ l. take at s ++ l) f.1 ∙ sym (append_assoc (take at s) f.0 r.left))

  -- and that place is not before the read's own
  pub left_place : at ≤ length s → at ≤ length s - length r.left
  left_place h = let l = left_within leaves (drop at s) r e in omega (arith, length-drop at s)

-- ---- what readers read, as the code has it

pub no_some : {A : Type 0} {x : A} → None ≡ Some x → ⊥
no_some e = cc

module _ {A N : Type 0} (made : A → N) where
  pub seen_none : (o : Option A) → None ≡ seen made o → o ≡ none
  unfolding seen
  seen_none none e = refl
  seen_none (some a) e = absurd (no_some e)

  pub seen_some : {X : Type 0} (o : Option A) {n : N} → Some n ≡ seen made o → ((a : A) → o ≡ some a → n ≡ made a → X) → X
  unfolding seen
  seen_some none e f = absurd (no_some (sym e))
  seen_some (some a) e f = f a refl cc

-- an item that is read at a place, and where in what the code has of it the place after it stands
pub record Reading (A N : Type 0) (s : Bytes) : Type 0 where
  pub item : Reader A
  pub leaves : Leaves item
  pub made : Read A → N
  pub next : N → ℕ
  pub next_made : (a : Read A) → next (made a) ≡ left_at s a

module _ {A N : Type 0} {s : Bytes} (r : Reading A N s) (at : ℕ) where
  pub read_none : None ≡ seen r.made (r.item (drop at s)) → r.item (drop at s) ≡ none
  read_none e = seen_none r.made (r.item (drop at s)) e

  module _ {n : N} (p : Some n ≡ seen r.made (r.item (drop at s))) where
    pub read_some : {X : Type 0} → ((a : Read A) → r.item (drop at s) ≡ some a → n ≡ r.made a → r.next n ≡ length s - length a.left → X) → X
    unfolding left_at
    read_some f = seen_some r.made (r.item (drop at s)) p (λ a z m. f a z m (ap r.next m ∙ r.next_made a))

    -- the place after an item is not before it
    pub read_beyond : at ≤ length s → at ≤ r.next n
    read_beyond h = read_some (λ a z m y. let l = left_place r.leaves s at a z h in omega arith)

    -- nor past the end
    pub read_within : r.next n ≤ length s
    read_within = read_some (λ a z m y. omega arith)

    -- the item, with what is left as a place
    pub read_here : {X : Type 0} → ((x : A) → r.item (drop at s) ≡ some (record { what = x; left = drop (r.next n) s }) → n ≡ r.made (record { what = x; left = drop (r.next n) s }) → X) → X
    read_here f =
        read_some (λ a z m y. let l = ap (λ i. drop i s) y ∙ left_drop r.leaves s at a z in
        f a.what (z ∙ ap (λ l. some (record { what = a.what; left = l })) (sym l)) (m ∙ ap (λ l. r.made (record { what = a.what; left = l })) (sym l)))

-- where the place alone is told
unfoldable pub place_reading : {A : Type 0} {item : Reader A} → Leaves item → (s : Bytes) → Reading A ℕ s
place_reading {item} leaves s = record { item = item; leaves = leaves; made = left_at s; next = λ p. p; next_made = λ a. refl }

module _ {A : Type 0} {item : Reader A} (leaves : Leaves item) (s : Bytes) (at : ℕ) where
  pub end_none : None ≡ read_end s (item (drop at s)) → item (drop at s) ≡ none
  unfolding read_end
  end_none e = seen_none (left_at s) (item (drop at s)) e

  module _ {p : ℕ} (e : Some p ≡ read_end s (item (drop at s))) where
    pub end_is : {X : Type 0} → ((x : A) → item (drop at s) ≡ some (record { what = x; left = drop p s }) → X) → X
    unfolding read_end place_reading
    end_is f = read_here (place_reading leaves s) at e (λ x z m. f x z)

    pub end_within : p ≤ length s
    unfolding read_end place_reading
    end_within = read_within (place_reading leaves s) at e

    pub end_beyond : at ≤ length s → at ≤ p
    unfolding read_end place_reading
    end_beyond h = read_beyond (place_reading leaves s) at e h

-- the place after a byte
module _ (s : Bytes) (at b : ℕ) where
  pub skip_none : None ≡ read_end s (byte b (drop at s)) → byte b (drop at s) ≡ none
  skip_none e = end_none (byte_leaves b) s at e

  module _ {p : ℕ} (e : Some p ≡ read_end s (byte b (drop at s))) where
    pub skip_is : byte b (drop at s) ≡ some (record { what = tt; left = drop p s })
    skip_is =
        let k : (x : Unit {0}) → byte b (drop at s) ≡ some (record { what = x; left = drop p s }) → byte b (drop at s) ≡ some (record { what = tt; left = drop p s }) = λ x z. z in
        end_is (byte_leaves b) s at e k

    pub skip_within : p ≤ length s
    skip_within = end_within (byte_leaves b) s at e

  pub skip_over : length s ≤ at → None ≡ read_end s (byte b (drop at s))
  unfolding read_end seen byte
  skip_over h = rw (drop_of_length-le s h)

  module _ (h : at < length s) where
    pub skip_other : (get_or s at 0 ≡ b → ⊥) → None ≡ read_end s (byte b (drop at s))
    unfolding read_end seen byte ensure
    skip_other n = rw (drop-cons s at 0 h, ne_eqb b (get_or s at 0) (λ e. n (sym e)))

    pub skip_here : get_or s at 0 ≡ b → Some (at + 1) ≡ read_end s (byte b (drop at s))
    unfolding read_end seen left_at byte ensure
    skip_here e =
        let k : at + 1 ≡ length s - length (drop (suc at) s) = omega (arith, length-drop (suc at) s) in
        rw (drop-cons s at 0 h, eq-eqb b (get_or s at 0) (sym e), k)

pub ruleset skip_ends = (skip_over, skip_other, skip_here)

-- ---- names and numbers

unfoldable pub name_reading : (s : Bytes) → Reading Bytes Name s
unfolding name_seen
name_reading s = record { item = read_name; leaves = name_leaves; made = name_seen s; next = λ n. n.next; next_made = λ a. refl }

unfoldable pub number_reading : (s : Bytes) → Reading ℤ Number s
unfolding number_seen
number_reading s = record { item = read_int; leaves = int_leaves; made = number_seen s; next = λ n. n.next; next_made = λ a. refl }
