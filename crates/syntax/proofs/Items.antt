-- Lists of items: what is printed is read back, and what is read was printed, for any item and any end.
use mathlib.Core.Path.{◌≡◌, refl, ap, ◌∙◌, subst}
use mathlib.Core.List.{List, [], ◌∷◌}
use mathlib.Core.Bool.{Bool, true, false, not}
use mathlib.Core.Option.{some, none-ne-some}
use Prim.Native.Nat.{ℕ, zero, suc, ◌<◌}
use native.Mathlib.Omega.{arith}
use lib.Dec.{T}
use lib.ListN.{length}
use Rattle.lists.specs.Lists.{every, empty?}
use Rattle.lists.proofs.Laws.{and_both, parts, T_true, cond_cases, All, all_cons}
use Rattle.syntax.specs.Grammar.{Bytes, some_all, put_items}
use Rattle.syntax.specs.Readers.{Read, Reader, bind, ensure, byte, read_items, read_some}
use Rattle.syntax.proofs.Steps.{Printed, Reads, Follows, space, from, ensured, done, byte_read}

module _ {A : Type 0} where
  pub some_every : (p : A → Bool) (xs : List A) → T (some_all p xs) → T (every p xs)
  unfolding some_all
  some_every p xs t = search parts

  pub some_filled : (p : A → Bool) (xs : List A) → T (some_all p xs) → T (not (empty? xs))
  unfolding some_all
  some_filled p xs t = search parts

  pub items_follow : (put : A → Bytes → Bytes) (xs : List A) {rest : Bytes} → Follows rest → Follows (put_items put xs rest)
  unfolding put_items
  items_follow put [] f = f
  items_follow put (x ∷ xs) f = space

module _ {A : Type 0} (P : A → Type 0) (put : A → Bytes → Bytes) (ends : Bytes → Bool) (item : Reader A)
    (item_put : (x : A) (rest : Bytes) → P x → Follows rest → item (put x rest) ≡ some (record { what = x; left = rest }))
    (item-next : (x : A) (rest : Bytes) → P x → ends (32 ∷ put x rest) ≡ false) where
  pub items_put : (k : ℕ) (xs : List A) {rest : Bytes} → All P xs → Follows rest → ends rest ≡ true → length xs < k
      → read_items ends item k (put_items put xs rest) ≡ some (record { what = xs; left = rest })
  unfolding read_items put_items bind byte ensure
  items_put zero xs a f e l = absurd (omega arith)
  items_put (suc k) [] a f e l = rw e
  items_put (suc k) (x ∷ xs) {rest} (all_cons h hs) f e l =
      rw (item-next x (put_items put xs rest) h, item_put x (put_items put xs rest) h (items_follow put xs f), items_put k xs hs f e (omega arith))

  pub some_put : (k : ℕ) (xs : List A) {rest : Bytes} → All P xs → T (not (empty? xs)) → Follows rest → ends rest ≡ true → length xs < k
      → read_some ends item k (put_items put xs rest) ≡ some (record { what = xs; left = rest })
  unfolding read_some bind ensure
  some_put k xs a t f e l = rw (items_put k xs a f e l, T_true (not (empty? xs)) t)

module _ {A : Type 0} {good : A → Bool} {put : A → Bytes → Bytes} (ends : Bytes → Bool) {item : Reader A} (item-read : Reads good put item) where
  items_was : (k : ℕ) (bs : Bytes) (r : Read (List A)) → read_items ends item k bs ≡ some r → Printed (every good) (put_items put) bs r
  unfolding read_items put_items every
  items_was zero bs r e = absurd (none-ne-some r e)
  items_was (suc k) bs r e =
      cond_cases (ends bs) (some _) _ e
      (λ t d. done (λ x. Printed (every good) (put_items put) bs x) d (tt, refl))
      (λ t d. from _ _ d (λ s p q. from _ _ q (λ a u v. from _ _ v (λ xs w y.
      let h = item-read.taken s.left a u in
      let i = items_was k a.left xs w in
      done (λ x. Printed (every good) (put_items put) bs x) y
      (and_both (good a.what) (every good xs.what) h.0 i.0, byte_read 32 bs s p ∙ ap (λ l. 32 ∷ l) (h.1 ∙ ap (put a.what) i.1))))))

  pub items_read : (k : ℕ) → Reads (every good) (put_items put) (read_items ends item k)
  items_read k = record { taken = items_was k }

  pub some_read : (k : ℕ) → Reads (some_all good) (put_items put) (read_some ends item k)
  unfolding read_some some_all
  some_read k =
      record {
        taken = λ bs r e. from _ _ e (λ xs p q. ensured (not (empty? xs.what)) q (λ t d.
            let h = items_was k bs xs p in
            subst (λ x. Printed (some_all good) (put_items put) bs x) d (and_both (not (empty? xs.what)) (every good xs.what) t h.0, h.1)));
      }
