-- Lists read item by item: what is read so far, joined to what is read on from a place.
use mathlib.Core.Path.{◌≡◌, refl, sym, ap, ◌∙◌}
use mathlib.Core.List.{List, [], ◌∷◌, ◌++◌, map}
use mathlib.Core.Bool.{Bool, true, false, ◌&&◌, ◌||◌, not}
use mathlib.Core.Option.{Option, none, some}
use Prim.Native.Nat.{ℕ, zero, suc, ◌-◌, ◌<◌, min}
use native.Mathlib.Omega.{arith}
use lib.Dec.{ltb}
use lib.ListN.{length, drop, get_or, set, length-drop}
use lib.Seq.{set_out}
use borrow.Author.Tests.{ltb-true, ltb-false}
use Rattle.lists.specs.Lists.{every, count_from}
use Rattle.lists.proofs.Laws.{append_nil}
use Rattle.syntax.specs.Grammar.{Bytes}
use Rattle.syntax.specs.Readers.{Read, bind, byte, closes}
use Rattle.syntax.proofs.Leaving.{byte_less}
use Rattle.text.specs.Readings.{any_items}
use Rattle.text.specs.Words.{Found, Some, None, seen, left_at, read_end}
use Rattle.text.proofs.Runs.{inside}
use Rattle.text.proofs.Views.{Reading, read_none, read_here, read_beyond, skip_none, skip_is, skip_within}
use Rattle.items.specs.Items.{first_of}
use Rattle.items.proofs.Lists.{more, items_end, items_unspaced, items_stuck, items_more}

-- ---- the first of a list

module _ {A : Type 0} (d : A) where
  shift : (x : A) (xs : List A) (a n : ℕ) → map (λ i. get_or (x ∷ xs) i d) (count_from (suc a) n) ≡ map (λ i. get_or xs i d) (count_from a n)
  unfolding count_from
  shift x xs a zero = refl
  shift x xs a (suc n) = ap (λ l. get_or xs a d ∷ l) (shift x xs (suc a) n)

  shift_none : (a n : ℕ) → map (λ i. get_or [] i d) (count_from (suc a) n) ≡ map (λ i. get_or [] i d) (count_from a n)
  unfolding count_from
  shift_none a zero = refl
  shift_none a (suc n) = ap (λ l. d ∷ l) (shift_none (suc a) n)

  first_cons : (n : ℕ) (x : A) (xs : List A) → first_of (suc n) d (x ∷ xs) ≡ x ∷ first_of n d xs
  unfolding first_of count_from
  first_cons n x xs = ap (λ l. x ∷ l) (shift x xs 0 n)

  first_none : (n : ℕ) → first_of (suc n) d [] ≡ d ∷ first_of n d []
  unfolding first_of count_from
  first_none n = ap (λ l. d ∷ l) (shift_none 0 n)

  first_zero : (xs : List A) → first_of zero d xs ≡ []
  unfolding first_of count_from
  first_zero xs = refl

  snoc_zero : (xs : List A) (x : A) (k : ℕ) → first_of zero d (xs ++ (x ∷ [])) ≡ set (first_of zero d xs) k x
  unfolding first_of count_from
  snoc_zero xs x zero = refl
  snoc_zero xs x (suc k) = refl

  -- one item more is stored at its place, where it has one
  first_snoc : (n : ℕ) (xs : List A) (x : A) → first_of n d (xs ++ (x ∷ [])) ≡ set (first_of n d xs) (length xs) x
  first_snoc zero xs x = snoc_zero xs x (length xs)
  first_snoc (suc n) [] x = rw (first_cons n x [], first_none n)
  first_snoc (suc n) (y ∷ xs) x = rw (first_cons n y (xs ++ (x ∷ [])), first_cons n y xs) (ap (λ l. y ∷ l) (first_snoc n xs x))

  pub first_length : (n : ℕ) (xs : List A) → length (first_of n d xs) ≡ n
  first_length zero xs = ap length (first_zero xs)
  first_length (suc n) [] = rw (first_none n) (ap suc (first_length n []))
  first_length (suc n) (x ∷ xs) = rw (first_cons n x xs) (ap suc (first_length n xs))

  -- the same by a count that stops past the last place
  pub first_more : (n : ℕ) (xs : List A) (x : A) → set (first_of n d xs) (min (length xs) (suc n)) x ≡ first_of n d (xs ++ (x ∷ []))
  first_more n xs x = go (ltb (length xs) (suc n)) refl
    where
      go : (b : Bool) → ltb (length xs) (suc n) ≡ b → set (first_of n d xs) (min (length xs) (suc n)) x ≡ first_of n d (xs ++ (x ∷ []))
      go true t =
          let l = ltb-true (length xs) (suc n) t in
          let e : min (length xs) (suc n) ≡ length xs = omega arith in
          rw e (sym (first_snoc n xs x))
      go false t =
          let l = ltb-false (length xs) (suc n) t in
          let m = first_length n xs in
          let e : min (length xs) (suc n) ≡ suc n = omega arith in
          rw e (set_out (first_of n d xs) (suc n) x (omega arith) ∙ sym (first_snoc n xs x ∙ set_out (first_of n d xs) (length xs) x (omega arith)))

pub every_more : {A : Type 0} (p : A → Bool) (xs : List A) (x : A) → (not (every p xs) || not (p x)) ≡ not (every p (xs ++ (x ∷ [])))
unfolding every
every_more p [] x = go (p x)
  where
    go : (b : Bool) → not b ≡ not (b && true)
    go true = refl
    go false = refl
every_more p (y ∷ xs) x = go (p y) (every_more p xs x)
  where
    go : (b : Bool) → (not (every p xs) || not (p x)) ≡ not (every p (xs ++ (x ∷ []))) → (not (b && every p xs) || not (p x)) ≡ not (b && every p (xs ++ (x ∷ [])))
    go true e = e
    go false e = refl

pub map_more : {A B : Type 0} (f : A → B) (xs : List A) (x : A) → map f xs ++ (f x ∷ []) ≡ map f (xs ++ (x ∷ []))
map_more f [] x = refl
map_more f (y ∷ xs) x = ap (λ l. f y ∷ l) (map_more f xs x)

pub length_more : {A : Type 0} (xs : List A) (x : A) → length (xs ++ (x ∷ [])) ≡ suc (length xs)
length_more [] x = refl
length_more (y ∷ xs) x = ap suc (length_more xs x)

-- ---- what is read, one by one

unfoldable pub fold : {A R : Type 0} → (R → A → R) → R → List A → R
fold step r [] = r
fold step r (x ∷ xs) = fold step (step r x) xs

-- a summary of lists that the step keeps is what the steps give
module _ {A R : Type 0} (step : R → A → R) (summary : List A → R) (one_more : (xs : List A) (x : A) → step (summary xs) x ≡ summary (xs ++ (x ∷ []))) where
  snoc_append : (xs : List A) (y : A) (ys : List A) → (xs ++ (y ∷ [])) ++ ys ≡ xs ++ (y ∷ ys)
  snoc_append [] y ys = refl
  snoc_append (x ∷ xs) y ys = ap (λ l. x ∷ l) (snoc_append xs y ys)

  pub fold_from : (xs ys : List A) → fold step (summary xs) ys ≡ summary (xs ++ ys)
  unfolding fold
  fold_from xs [] = ap summary (sym (append_nil xs))
  fold_from xs (y ∷ ys) = ap (λ r. fold step r ys) (one_more xs y) ∙ fold_from (xs ++ (y ∷ [])) ys ∙ ap summary (snoc_append xs y ys)

-- how the code reads a list in a text: A is an item, N what the code has of an item, R what it has of the items so far
pub record Way (A N R : Type 0) (s : Bytes) : Type 0 where
  pub reading : Reading A N s
  -- the items so far with one more, and the end of the list at a place
  pub add : R → N → R
  pub step : R → A → R
  pub added : (r : R) (a : Read A) → add r (reading.made a) ≡ step r a.what
  pub close : R → ℕ → R

module _ {A N R : Type 0} {s : Bytes} (way : Way A N R s) where
  -- what is read so far, joined to what is read on
  unfoldable pub joined : R → Option (Read (List A)) → Found R
  joined r none = None
  joined r (some x) = Some (way.close (fold way.step r x.what) (left_at s x))

  -- what is read so far, joined to what is read from a place on
  unfoldable pub on : R → ℕ → Found R
  on r i = joined r (any_items closes way.reading.item (drop i s))

  joined_more : (r : R) (x : A) (o : Option (Read (List A))) → joined r (more x o) ≡ joined (way.step r x) o
  unfolding joined more bind fold left_at
  joined_more r x none = refl
  joined_more r x (some xs) = refl

  -- less of the text is left after an item
  pub list_falls : (i : ℕ) {q : ℕ} {n : N} → Some q ≡ read_end s (byte 32 (drop i s)) → Some n ≡ seen way.reading.made (way.reading.item (drop q s)) → length s - way.reading.next n < length s - i
  list_falls i {q} {n} e p =
      let f = byte_less 32 (drop i s) _ (skip_is s i 32 e) in
      let w = skip_within s i 32 e in
      let l = read_beyond way.reading q p w in
      let x = length-drop i s in
      let y = length-drop q s in
      omega arith

  -- each end, and the way on, by what the code finds at a place
  module _ {whole : Found R} (r : R) (i : ℕ) (inv : whole ≡ on r i) {b : ℕ} (p : b ≡ get_or s i 0) where
    pub list_end : b ≡ 41 → Some (way.close r i) ≡ whole
    unfolding on joined fold left_at
    list_end e =
        let h = inside s i (omega arith) in
        let q : length s - length (drop i s) ≡ i = omega (arith, length-drop i s) in
        sym (inv ∙ ap (joined r) (items_end way.reading.item way.reading.leaves s i p e) ∙ ap (λ j. Some (way.close r j)) q)

    module _ (n : b ≡ 41 → ⊥) where
      pub list_unspaced : None ≡ read_end s (byte 32 (drop i s)) → None ≡ whole
      unfolding on joined
      list_unspaced e = sym (inv ∙ ap (joined r) (items_unspaced way.reading.item way.reading.leaves s i p n (skip_none s i 32 e)))

      module _ {q : ℕ} (e : Some q ≡ read_end s (byte 32 (drop i s))) where
        pub list_stuck : None ≡ seen way.reading.made (way.reading.item (drop q s)) → None ≡ whole
        unfolding on joined
        list_stuck d = sym (inv ∙ ap (joined r) (items_stuck way.reading.item way.reading.leaves s i p n q (skip_is s i 32 e) (read_none way.reading q d)))

        pub list_more : {m : N} {x : R} → Some m ≡ seen way.reading.made (way.reading.item (drop q s)) → x ≡ way.add r m → whole ≡ on x (way.reading.next m)
        unfolding on
        list_more {m} {x} d f =
            read_here way.reading q d (λ y z w.
            inv ∙ ap (joined r) (items_more way.reading.item way.reading.leaves s i p n q (skip_is s i 32 e) z)
            ∙ joined_more r y (any_items closes way.reading.item (drop (way.reading.next m) s))
            ∙ ap (λ t. joined t (any_items closes way.reading.item (drop (way.reading.next m) s))) (sym (f ∙ ap (way.add r) w ∙ way.added r _)))

  -- at first nothing is read
  module _ (summary : List A → R) (one_more : (xs : List A) (x : A) → way.step (summary xs) x ≡ summary (xs ++ (x ∷ []))) (made : Read (List A) → R) (closed : (x : Read (List A)) → way.close (summary x.what) (left_at s x) ≡ made x) where
    pub list_start : (i : ℕ) → seen made (any_items closes way.reading.item (drop i s)) ≡ on (summary []) i
    unfolding seen on joined
    list_start i = go (any_items closes way.reading.item (drop i s))
      where
        go : (o : Option (Read (List A))) → seen made o ≡ joined (summary []) o
        go none = refl
        go (some x) = ap Some (sym (ap (λ r. way.close r (left_at s x)) (fold_from way.step summary one_more [] x.what) ∙ closed x))
