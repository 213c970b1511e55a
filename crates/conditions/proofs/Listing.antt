-- Conditions up to a closing bracket, and what is read where its words have room.
use mathlib.Core.Path.{◌≡◌, refl, sym, ap, ◌∙◌}
use mathlib.Core.List.{List, [], ◌∷◌, map}
use mathlib.Core.Bool.{Bool, true, false, ◌&&◌, not, cond}
use mathlib.Core.Option.{Option, none, some}
use Prim.Native.Nat.{ℕ, zero, suc, ◌+◌, ◌-◌, ◌≤◌, ◌<◌, min}
use native.Mathlib.Omega.{arith}
use lib.Dec.{leb, eqb}
use lib.ListN.{length, drop, get_or}
use borrow.Author.Tests.{eqb-true, eq-eqb, ne_eqb, lt-leb, leb-true, leb-false, lt-ltb, le-ltb}
use Rattle.std.proofs.lemmas.Option.{same_Some}
use Rattle.lists.specs.Lists.{empty?}
use Rattle.lists.proofs.Laws.{never, by_test}
use Rattle.syntax.specs.Grammar.{Bytes, Test, Cond, Conds, last, more}
use Rattle.syntax.specs.Limits.{cond_depth}
use Rattle.syntax.specs.Readers.{Read, bind, ensure, byte, closes, read_items, read_some, read_more, read_cond}
use Rattle.syntax.proofs.Steps.{bind_bind}
use Rattle.syntax.proofs.Leaving.{left_within, byte_less}
use Rattle.text.specs.Words.{Found, Some, None, seen, left_at, read_end}
use Rattle.text.specs.Readings.{any_cond, any_conds, any_some}
use Rattle.text.proofs.Runs.{first_byte}
use Rattle.text.proofs.Views.{left_drop}
use Rattle.text.proofs.Fuel.{bind_same, any_cond_leaves, any_conds_leaves, conds_step}
use Rattle.nodes.specs.Storing.{size, store, list_size}
use Rattle.nodes.proofs.Depths.{depth_some}
use Rattle.conditions.specs.declared.Seen.{Seen}
use Rattle.conditions.specs.Seeing.{nodes_of, deep_seen, seen_of, has_room, cond_seen, cond_stored, cond_at, CondRead, list_seen, list_stored, list_at, ListRead}
use Rattle.conditions.specs.Steps.{counted, Kind, one, many, told_read, told, put_read, CondIn, CondsIn, fitted, skipped_seen}
use Rattle.conditions.proofs.Leaves.{count_exact}
use Rattle.conditions.proofs.Closing.{unread, told_near, told_deep, told_none, told_some}
use Rattle.conditions.proofs.Conditions.{skipped_silent}
use Rattle.conditions.proofs.Going.{list_of, sizes_list, store_lists, tests_list, depth_list}

-- ---- a list up to a closing bracket is a list of conditions that a closing bracket follows

abbrev pub ended : Read (Conds Test) → Option (Read (List (Cond Test)))
ended r = ensure (closes r.left) (record { what = list_of r.what; left = r.left })

abbrev with_first : Cond Test → Read (List (Cond Test)) → Option (Read (List (Cond Test)))
with_first c xs = some (record { what = c ∷ xs.what; left = xs.left })

unspaced : (x : ℕ) (xs : Bytes) → eqb 32 x ≡ false → any_conds (x ∷ xs) ≡ none
unfolding byte ensure bind
unspaced x xs e = conds_step (x ∷ xs) ∙ rw e

after_first : (c : Cond Test) (l : Bytes) (k : ℕ) → length l ≤ k → (closes l ≡ false → read_items closes any_cond k l ≡ bind (any_conds l) ended)
    → bind (read_items closes any_cond k l) (with_first c) ≡ bind (read_more any_conds c l) ended
unfolding read_more bind ensure closes any_conds read_cond list_of read_items
after_first c [] k h ih = rw (ih refl)
after_first c (x ∷ xs) zero h ih = absurd (omega arith)
after_first c (x ∷ xs) (suc k) h ih = by_test (eqb 41 x) closing (λ p. by_test (eqb 32 x) (goes p) (ends p))
  where
    closing : eqb 41 x ≡ true → bind (read_items closes any_cond (suc k) (x ∷ xs)) (with_first c) ≡ bind (read_more any_conds c (x ∷ xs)) ended
    closing p = let e : x ≡ 41 = sym (eqb-true 41 x p) in rw e

    goes : eqb 41 x ≡ false → eqb 32 x ≡ true → bind (read_items closes any_cond (suc k) (x ∷ xs)) (with_first c) ≡ bind (read_more any_conds c (x ∷ xs)) ended
    goes p q = ap (λ y. bind y (with_first c)) (ih p) ∙ go (any_conds (x ∷ xs)) ∙ sym (rw q)
      where
        closed : (t : Bool) (cs : Read (Conds Test)) → bind (ensure t (record { what = list_of cs.what; left = cs.left })) (with_first c) ≡ ensure t (record { what = list_of (more c cs.what); left = cs.left })
        closed true cs = refl
        closed false cs = refl

        go : (y : Option (Read (Conds Test))) → bind (bind y ended) (with_first c) ≡ bind (bind y (λ cs. some (record { what = more c cs.what; left = cs.left }))) ended
        go none = refl
        go (some cs) = closed (closes cs.left) cs

    ends : eqb 41 x ≡ false → eqb 32 x ≡ false → bind (read_items closes any_cond (suc k) (x ∷ xs)) (with_first c) ≡ bind (read_more any_conds c (x ∷ xs)) ended
    ends p q = ap (λ y. bind y (with_first c)) (ih p ∙ ap (λ y. bind y ended) (unspaced x xs q)) ∙ sym (rw (q, p))

nothing_left : none ≡ bind (any_conds []) ended
unfolding bind any_conds read_cond
nothing_left = refl

items_conds : (k : ℕ) (bs : Bytes) → length bs ≤ k → closes bs ≡ false → read_items closes any_cond k bs ≡ bind (any_conds bs) ended
unfolding read_items
items_conds zero [] h e = nothing_left
items_conds zero (x ∷ xs) h e = absurd (omega arith)
items_conds (suc k) bs h e =
    rw e
    (bind_same (byte 32 bs) _ _ (λ u p.
    let v = byte_less 32 bs u p in
    bind_same (any_cond u.left) _ _ (λ c q.
    let w = left_within any_cond_leaves u.left c q in
    after_first c.what c.left k (omega arith) (λ z. items_conds k c.left (omega arith) z))
    ∙ sym (bind_bind (any_cond u.left) (λ c. read_more any_conds c.what c.left) ended))
    ∙ sym (ap (λ y. bind y ended) (conds_step bs) ∙ bind_bind (byte 32 bs) (λ u. bind (any_cond u.left) (λ c. read_more any_conds c.what c.left)) ended))

not_empty : (cs : Conds Test) → not (empty? (list_of cs)) ≡ true
unfolding list_of empty?
not_empty (last c) = refl
not_empty (more c cs) = refl

none_before : (l : Bytes) → closes l ≡ true → read_some closes any_cond (length l) l ≡ bind (any_conds l) ended
unfolding read_some closes read_items bind ensure empty?
none_before [] p = never (sym p)
none_before (x ∷ xs) p = let e : x ≡ 41 = sym (eqb-true 41 x p) in rw (e, unspaced 41 xs refl)

some_before : (y : Option (Read (Conds Test))) → bind (bind y ended) (λ xs. ensure (not (empty? xs.what)) xs) ≡ bind y ended
unfolding bind ensure
some_before none = refl
some_before (some r) = go (closes r.left)
  where
    go : (t : Bool) → bind {A = Read (List (Cond Test))} (ensure t (record { what = list_of r.what; left = r.left })) (λ xs. ensure (not (empty? xs.what)) xs) ≡ ensure t (record { what = list_of r.what; left = r.left })
    go true = rw (not_empty r.what)
    go false = refl

pub some_conds : (bs : Bytes) → any_some closes any_cond bs ≡ bind (any_conds bs) ended
unfolding any_some read_some
some_conds bs = by_test (closes bs) (none_before bs) (λ p. ap (λ y. bind y (λ xs. ensure (not (empty? xs.what)) xs)) (items_conds (length bs) bs (omega arith) p) ∙ some_before (any_conds bs))

-- ---- room

room_counted : (room m : ℕ) → has_room room (counted m) ≡ has_room room m
unfolding has_room counted
room_counted room m =
    by_test (leb m 255)
    (λ p. let l = leb-true m 255 p in let e : min m 256 ≡ m = omega arith in rw e)
    (λ p. let l = leb-false m 255 p in rw (p, lt-leb (min m 256) 255 (omega arith)) (none_here (leb (min m 256) room) (leb m room)))
  where
    none_here : (a b : Bool) → (a && false) ≡ (b && false)
    none_here true true = refl
    none_here true false = refl
    none_here false true = refl
    none_here false false = refl

room_few : (room m : ℕ) → has_room room m ≡ true → m ≤ 255
unfolding has_room
room_few room m e = leb-true m 255 (go (leb m room) e)
  where
    go : (a : Bool) → (a && leb m 255) ≡ true → leb m 255 ≡ true
    go true e = e
    go false e = never (sym e)

count_twice : (b w : ℕ) → counted (counted b + w) ≡ counted (b + w)
unfolding counted
count_twice b w = omega arith

fitted_near : (ks : List ℕ) (ts : List Test) (room next m : ℕ) → fitted room (seen_of ks ts next (counted m)) ≡ cond (has_room room m) (Some (seen_of ks ts next m)) None
unfolding fitted seen_of
fitted_near ks ts room next m =
    by_test (has_room room m) (λ p. rw (room_counted room m, p, sym (count_exact m (room_few room m p)))) (λ p. rw (room_counted room m, p))

fitted_far : (room next : ℕ) → fitted room (deep_seen next) ≡ Some (deep_seen next)
unfolding fitted deep_seen
fitted_far room next = refl

-- what is told, where its words have room
module _ {A : Type 0} (ks : List ℕ) (k : Kind A) (s : Bytes) (b level room : ℕ) (r : Read A) where
  pub fitted_told : fitted room (told_read ks k s b level r)
      ≡ cond (leb (k.depth r.what) level) (cond (has_room room (b + k.words r.what)) (Some (seen_of ks (k.tests r.what) (length s - length r.left) (b + k.words r.what))) None) (Some (deep_seen (length s - length r.left)))
  fitted_told =
      by_test (leb (k.depth r.what) level)
      (λ p. ap (fitted room) (told_near ks k s b level r p) ∙ fitted_near ks (k.tests r.what) room (length s - length r.left) (b + k.words r.what) ∙ sym (rw p))
      (λ p. ap (fitted room) (told_deep ks k s b level r p) ∙ fitted_far room (length s - length r.left) ∙ sym (rw p))

-- what fits was counted
pub record Fitting (i : Seen) : Type 0 where
  pub near : i.deep ≡ false
  pub few : i.count ≤ 255

fits_counted : (room : ℕ) (i : Seen) {x : Seen} → fitted room i ≡ Some x → x.deep ≡ false → Fitting i
unfolding fitted
fits_counted room i {x} e d =
    by_test i.deep
    (λ q. let m : i ≡ x = same_Some i x (sym (rw q) ∙ e) in never (sym q ∙ ap (λ x. x.deep) m ∙ d))
    (λ q. by_test (has_room room i.count) (λ h. record { near = q; few = room_few room i.count h }) (λ h. unread (rw (q, h)) e))

-- ---- a condition of a line

count_first : (b w : ℕ) → counted (counted b + w) ≤ 255 → counted b ≡ b
unfolding counted
count_first b w l = omega arith

told_counted : (ks : List ℕ) (s : Bytes) (b level : ℕ) (o : Option (Read (Cond Test))) → told ks (one ks) s (counted b) level o ≡ told ks (one ks) s b level o
unfolding told told_read seen left_at
told_counted ks s b level none = refl
told_counted ks s b level (some r) = rw (count_twice b (size (nodes_of ks r.what)))

module _ (ks : List ℕ) (s : Bytes) (b level at : ℕ) (ws : List ℕ) where
  pub cond_long : 512 < length s → CondRead ks s b level at ws ws None
  unfolding cond_at
  cond_long l = record { is = sym (rw (lt-ltb 512 (length s) l)); stored = λ i o d. unread refl o; kept = refl }

  module _ (l : length s ≤ 512) {k : ℕ} (c : k ≡ counted b) {ws' : List ℕ} where
    told_all : {x : Found Seen} → CondIn ks s k level at ws ws' x → x ≡ told ks (one ks) s (counted b) level (any_cond (drop at s))
    told_all j = j.is ∙ ap (λ n. told ks (one ks) s n level (any_cond (drop at s))) c

    pub cond_unread : {r : Found Seen} → CondIn ks s k level at ws ws' None → r ≡ None → CondRead ks s b level at ws ws' r
    unfolding cond_at cond_seen
    cond_unread j e =
        record { is = e ∙ sym (rw (le-ltb 512 (length s) l, told_none ks (one ks) s (counted b) level (any_cond (drop at s)) (told_all j))); stored = λ i o d. unread e o; kept = j.kept }

    module _ {i : Seen} (j : CondIn ks s k level at ws ws' (Some i)) {r : Found Seen} (e : r ≡ fitted (length ws') i) where
      told_i : Some i ≡ told ks (one ks) s (counted b) level (any_cond (drop at s))
      told_i = told_all j

      cond_is : fitted (length ws) i ≡ cond_seen ks s (length ws) b level (any_cond (drop at s))
      unfolding cond_seen
      cond_is =
          told_some ks (one ks) s b level (any_cond (drop at s)) (told_i ∙ told_counted ks s b level (any_cond (drop at s)))
          (λ a q d n. ap (fitted (length ws)) d ∙ fitted_told ks (one ks) s b level (length ws) a ∙ sym (ap (cond_seen ks s (length ws) b level) q))

      exact : Fitting i → put_read (one ks) k (any_cond (drop at s)) ws ≡ cond_stored ks b (any_cond (drop at s)) ws
      unfolding put_read cond_stored seen_of deep_seen
      exact f =
          told_some ks (one ks) s (counted b) level (any_cond (drop at s)) told_i
          (λ a q x y.
          rw q
          (by_test (leb (cond_depth a.what) level)
          (λ p.
          let n : i.count ≡ counted (counted b + size (nodes_of ks a.what)) = ap (λ y. y.count) (x ∙ told_near ks (one ks) s (counted b) level a p) in
          let m = f.few in
          ap (λ n. store (nodes_of ks a.what) n ws) (c ∙ count_first b (size (nodes_of ks a.what)) (omega arith)))
          (λ p. never (sym (ap (λ y. y.deep) (x ∙ told_deep ks (one ks) s (counted b) level a p)) ∙ f.near))))

      pub cond_fitted : CondRead ks s b level at ws ws' r
      unfolding cond_at
      cond_fitted =
          record {
            is = e ∙ ap (λ n. fitted n i) j.kept ∙ cond_is ∙ sym (rw (le-ltb 512 (length s) l));
            stored = λ x o d. let f = fits_counted (length ws') i (sym e ∙ o) d in j.stored i refl f.near f.few ∙ exact f;
            kept = j.kept;
          }

  -- where no bracket may be opened
  pub cond_unopened : {r : Found Seen} → length s ≤ 512 → level ≡ 0 → r ≡ skipped_seen s at → CondRead ks s b level at ws ws r
  unfolding cond_at cond_seen skipped_seen read_end left_at seen
  cond_unopened {r} l z e = record { is = e ∙ is (any_cond (drop at s)) refl ∙ sym (rw (le-ltb 512 (length s) l)); stored = λ i o d. skipped_silent s at (sym e ∙ o) d; kept = refl }
    where
      is : (o : Option (Read (Cond Test))) → any_cond (drop at s) ≡ o → skipped_seen s at ≡ cond_seen ks s (length ws) b level o
      is none q = rw q
      is (some a) q = rw (q, lt-leb (cond_depth a.what) level (omega (arith, depth_some a.what)))

pub ruleset read_cond_ends = (cond_long, cond_unread, cond_fitted, cond_unopened)

-- ---- conditions of a line, up to a closing bracket

closes_first : (bs : Bytes) → closes bs ≡ eqb 41 (get_or bs 0 0)
unfolding closes
closes_first [] = refl
closes_first (x ∷ xs) = refl

module _ (ks : List ℕ) (s : Bytes) (level at : ℕ) (ws : List ℕ) where
  pub list_long : 512 < length s → ListRead ks s level at ws ws None
  unfolding list_at
  list_long l = record { is = sym (rw (lt-ltb 512 (length s) l)); stored = λ i o d. unread refl o; kept = refl }

  module _ (l : length s ≤ 512) {ws₁ : List ℕ} where
    -- where no list is read
    unlisted : {r : Found Seen} → any_some closes any_cond (drop at s) ≡ none → length ws₁ ≡ length ws → r ≡ None → ListRead ks s level at ws ws₁ r
    unfolding list_at list_seen
    unlisted n k e = record { is = e ∙ sym (rw (le-ltb 512 (length s) l, n)); stored = λ i o d. unread e o; kept = k }

    pub list_unread : {r : Found Seen} → CondsIn ks s 0 level at ws ws₁ None → r ≡ None → ListRead ks s level at ws ws₁ r
    unfolding bind
    list_unread j e = unlisted (some_conds (drop at s) ∙ rw (told_none ks (many ks) s 0 level (any_conds (drop at s)) j.is)) j.kept e

    module _ {i : Seen} (j : CondsIn ks s 0 level at ws ws₁ (Some i)) {y : ℕ} (q : y ≡ get_or s i.next 0) where
      listed : {X : Type 0} → ((c : Read (Conds Test)) → any_conds (drop at s) ≡ some c → i ≡ told_read ks (many ks) s 0 level c → closes c.left ≡ eqb 41 y → X) → X
      listed f =
          told_some ks (many ks) s 0 level (any_conds (drop at s)) j.is
          (λ c n m k. f c n m (ap closes (sym (ap (λ p. drop p s) k ∙ left_drop any_conds_leaves s at c n)) ∙ closes_first (drop i.next s) ∙ ap (eqb 41) (first_byte s i.next ∙ sym q)))

      pub list_open : (y ≡ 41 → ⊥) → ListRead ks s level at ws ws₁ None
      unfolding bind ensure
      list_open z = listed (λ c n d m. unlisted (some_conds (drop at s) ∙ rw (n, m, ne_eqb 41 y (λ w. z (sym w)))) j.kept refl)

      module _ (z : y ≡ 41) {r : Found Seen} (e : r ≡ fitted (length ws₁) i) where
        list_is : (c : Read (Conds Test)) → fitted (length ws) (told_read ks (many ks) s 0 level c) ≡ list_seen ks s (length ws) level (some (record { what = list_of c.what; left = c.left }))
        unfolding list_seen
        list_is c =
            let n : 0 + list_size (map (nodes_of ks) (list_of c.what)) ≡ list_size (map (nodes_of ks) (list_of c.what)) = omega arith in
            fitted_told ks (many ks) s 0 level (length ws) c ∙ rw (sym (depth_list level c.what), sym (tests_list c.what), sym (sizes_list ks c.what), n)

        pub list_closed : ListRead ks s level at ws ws₁ r
        unfolding list_at list_stored put_read bind ensure
        list_closed =
            listed (λ c n d m.
            let x : any_some closes any_cond (drop at s) ≡ some (record { what = list_of c.what; left = c.left }) = some_conds (drop at s) ∙ rw (n, m, eq-eqb 41 y (sym z)) in
            record {
              is = e ∙ ap (λ n. fitted n i) j.kept ∙ ap (fitted (length ws)) d ∙ list_is c ∙ sym (rw (le-ltb 512 (length s) l, x));
              stored = λ v o w. let f = fits_counted (length ws₁) i (sym e ∙ o) w in j.stored i refl f.near f.few ∙ ap (λ w. put_read (many ks) 0 w ws) n ∙ sym (store_lists ks c.what 0 ws) ∙ sym (ap (λ w. list_stored ks w ws) x);
              kept = j.kept;
            })

pub ruleset read_list_ends = (list_long, list_unread, list_open, list_closed)
