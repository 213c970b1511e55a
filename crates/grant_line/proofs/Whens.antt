-- What is read of the conditions of a grant line: each return of the code that reads them.
use mathlib.Core.Path.{◌≡◌, refl, sym, ap, ◌∙◌}
use mathlib.Core.List.{List, [], map}
use mathlib.Core.Bool.{Bool, true, false, not}
use mathlib.Core.Option.{Option, none, some}
use Prim.Native.Nat.{ℕ, ◌+◌, ◌-◌, ◌^◌, ◌≤◌, ◌<◌}
use native.Mathlib.Omega.{arith}
use lib.Dec.{leb, leb-zero}
use lib.ListN.{length, drop}
use mir.Syntax.{w64}
use mir.Val.{Fits}
use borrow.Author.Tests.{le-ltb}
use Rattle.std.proofs.lemmas.Option.{same_Some}
use Rattle.lists.specs.Lists.{every, some?, gather, empty?}
use Rattle.syntax.specs.Grammar.{Bytes, Test, Cond}
use Rattle.syntax.specs.Limits.{cond_depth}
use Rattle.syntax.specs.Readers.{Read, bind, byte, give, closes, read_optional}
use Rattle.syntax.proofs.Steps.{from, ensured}
use Rattle.model.specs.Conditions.{tests}
use Rattle.masks.specs.Masks.{mask_of}
use Rattle.text.specs.Words.{Found, Some, None, left_at}
use Rattle.text.specs.Keywords.{part_end}
use Rattle.text.specs.Readings.{any_cond, any_items, any_some}
use Rattle.text.proofs.Places.{close_is, when_word}
use Rattle.text.proofs.Views.{no_some, left_drop}
use Rattle.text.proofs.Found.{part_some, part_unopened, part_opened}
use Rattle.text.proofs.Fuel.{no_close, any_cond_leaves, any_some_leaves}
use Rattle.text.proofs.Runs.{place_left}
use Rattle.nodes.specs.Storing.{list_size, store_list}
use Rattle.conditions.specs.declared.Seen.{Seen}
use Rattle.conditions.specs.Seeing.{nodes_of, deep_seen, begun, seen_of, has_room, list_seen, list_stored, list_at, ListRead}
use Rattle.grant_line.specs.Parts.{read_whens, WhenRead}
use Rattle.grant_line.proofs.Parts.{some_items, list_closed, list_inside}

-- ---- what is seen of conditions, wherever they end: nothing, or the same but for the place

module _ (ns : List ℕ) (s : Bytes) (room level : ℕ) (cs : List (Cond Test)) where
  abbrev shallow : Bool
  shallow = every (λ c. leb (cond_depth c) level) cs

  abbrev fits : Bool
  fits = has_room room (list_size (map (nodes_of ns) cs))

  abbrev seen_left : Bytes → Found Seen
  seen_left l = list_seen ns s room level (some (record { what = cs; left = l }))

  pub seen_cases : {X : Type 0} → (((l : Bytes) → seen_left l ≡ None) → shallow ≡ true → fits ≡ false → X)
      → (((l : Bytes) → seen_left l ≡ Some (seen_of ns (gather tests cs) (length s - length l) (list_size (map (nodes_of ns) cs)))) → shallow ≡ true → fits ≡ true → X)
      → (((l : Bytes) → seen_left l ≡ Some (deep_seen (length s - length l))) → shallow ≡ false → X) → X
  unfolding list_seen left_at
  seen_cases {X} f g h = go shallow fits refl refl
    where
      go : (a b : Bool) → shallow ≡ a → fits ≡ b → X
      go true true e i = g (λ l. rw (e, i)) e i
      go true false e i = f (λ l. rw (e, i)) e i
      go false b e i = h (λ l. rw e) e

  -- where something is seen, the place is the one after them
  pub seen_next : (l : Bytes) {i : Seen} → Some i ≡ seen_left l → i.next ≡ length s - length l
  unfolding seen_of deep_seen
  seen_next l {i} e =
      seen_cases (λ f a b. absurd (no_some (sym (e ∙ f l))))
      (λ f a b. ap (λ r. r.next) (same_Some i _ (e ∙ f l))) (λ f a. ap (λ r. r.next) (same_Some i _ (e ∙ f l)))

  -- conditions that end elsewhere
  abbrev moved : Seen → ℕ → Seen
  moved i next = record { next = next; count = i.count; over = i.over; unknown = i.unknown; deep = i.deep; lefts = i.lefts; rights = i.rights }

  seen_moved : (l m : Bytes) {i : Seen} → Some i ≡ seen_left l → Some (moved i (length s - length m)) ≡ seen_left m
  unfolding seen_of deep_seen
  seen_moved l m {i} e =
      seen_cases (λ f a b. absurd (no_some (sym (e ∙ f l))))
      (λ f a b. ap (λ r. Some (moved r (length s - length m))) (same_Some i _ (e ∙ f l)) ∙ sym (f m)) (λ f a. ap (λ r. Some (moved r (length s - length m))) (same_Some i _ (e ∙ f l)) ∙ sym (f m))

  seen_nothing : (l m : Bytes) → None ≡ seen_left l → seen_left m ≡ None
  seen_nothing l m e = seen_cases (λ f a b. f m) (λ f a b. absurd (no_some (e ∙ f l))) (λ f a. absurd (no_some (e ∙ f l)))

-- ---- the part

none_seen : (ns : List ℕ) (s : Bytes) (room level : ℕ) (l : Bytes) → list_seen ns s room level (some (record { what = []; left = l })) ≡ Some (begun (length s - length l) 0)
unfolding list_seen left_at begun seen_of has_room every gather some? mask_of list_size
none_seen ns s room level l = rw (leb-zero room)

module _ (ns : List ℕ) (s : Bytes) (at : ℕ) (short : length s ≤ 512) (inside : at ≤ length s) (ws : List ℕ) where
  pub when_absent : {r : Seen} → None ≡ part_end s at 0x7768656e → r ≡ begun at 0 → WhenRead ns s at ws ws (Some r)
  unfolding read_whens read_optional give list_stored store_list
  when_absent e d =
      let f = part_unopened s at when_word e in
      record {
        is = ap Some d ∙ rw f (sym (none_seen ns s (length ws) 6 (drop at s) ∙ ap (λ n. Some (begun n 0)) (place_left s at inside)));
        stored = λ i a b. rw f;
        kept = refl;
      }

  module _ {p : ℕ} (e : Some p ≡ part_end s at 0x7768656e) where
    abbrev found : Option (Read (List (Cond Test)))
    found = any_some closes any_cond (drop p s)

    seen_is : {ws' : List ℕ} {x : Found Seen} → ListRead ns s 6 p ws ws' x → x ≡ list_seen ns s (length ws) 6 found
    unfolding list_at
    seen_is l = l.is ∙ rw (le-ltb 512 (length s) short)

    whens_are : read_whens (drop at s) ≡ bind found (λ a. bind (byte 41 a.left) (λ u. some (record { what = a.what; left = u.left })))
    unfolding read_whens read_optional
    whens_are = rw (part_opened s at when_word e, part_some s at when_word e (any_some closes any_cond))

    -- the conditions, and the place where they end
    found_cases : {X : Type 0} → (found ≡ none → read_whens (drop at s) ≡ none → X)
        → ((cs : List (Cond Test)) (n : ℕ) → n < length s → found ≡ some (record { what = cs; left = drop n s }) → read_whens (drop at s) ≡ some (record { what = cs; left = drop (n + 1) s }) → X) → X
    unfolding bind
    found_cases {X} f g = go found refl
      where
        items : (a : Read (List (Cond Test))) → found ≡ some a → any_items closes any_cond (drop p s) ≡ some a
        items a z = from _ _ (sym (some_items any_cond (drop p s)) ∙ z) (λ xs u v. u ∙ ensured (not (empty? xs.what)) v (λ t y. ap some y))

        go : (o : Option (Read (List (Cond Test)))) → found ≡ o → X
        go none z = f z (whens_are ∙ rw z)
        go (some a) z =
            let n = length s - length a.left in
            let d : drop n s ≡ a.left = left_drop (any_some_leaves closes no_close any_cond any_cond_leaves) s p a z in
            let y : found ≡ some (record { what = a.what; left = drop n s }) = z ∙ ap (λ t. some (record { what = a.what; left = t })) (sym d) in
            let u = items (record { what = a.what; left = drop n s }) y in
            g a.what n (list_inside any_cond any_cond_leaves s p n a.what u) y (whens_are ∙ rw (y, close_is s n refl (list_closed any_cond any_cond_leaves s p n a.what u)))

    pub when_failed : {ws' : List ℕ} {r : Found Seen} → ListRead ns s 6 p ws ws' None → r ≡ None → WhenRead ns s at ws ws' r
    unfolding list_seen
    when_failed l d =
        record {
          is = d ∙ sym (found_cases (λ z y. ap (list_seen ns s (length ws) 6) y)
              (λ cs n h z y. ap (list_seen ns s (length ws) 6) y ∙ seen_nothing ns s (length ws) 6 cs (drop n s) (drop (n + 1) s) (seen_is l ∙ ap (list_seen ns s (length ws) 6) z)));
          stored = λ i a b. absurd (no_some (sym d ∙ a));
          kept = l.kept;
        }

    module _ {ws' : List ℕ} {i : Seen} (l : ListRead ns s 6 p ws ws' (Some i)) where
      read_at : {X : Type 0} → ((cs : List (Cond Test)) → i.next < length s → found ≡ some (record { what = cs; left = drop i.next s }) → read_whens (drop at s) ≡ some (record { what = cs; left = drop (i.next + 1) s })
          → Some i ≡ list_seen ns s (length ws) 6 (some (record { what = cs; left = drop i.next s })) → X) → X
      unfolding list_seen
      read_at {X} k =
          found_cases
          (λ z y. absurd (no_some (sym (seen_is l ∙ ap (list_seen ns s (length ws) 6) z))))
          (λ cs n h z y.
          let q = seen_is l ∙ ap (list_seen ns s (length ws) 6) z in
          let m : i.next ≡ n = seen_next ns s (length ws) 6 cs (drop n s) q ∙ place_left s n (omega arith) in
          k cs (omega arith) (z ∙ ap (λ j. some (record { what = cs; left = drop j s })) (sym m)) (y ∙ ap (λ j. some (record { what = cs; left = drop (j + 1) s })) (sym m))
          (q ∙ ap (λ j. list_seen ns s (length ws) 6 (some (record { what = cs; left = drop j s }))) (sym m)))

      -- there is a place after the bracket
      pub when_fits : length s < 2 ^ 64 → Fits w64 (i.next + 1)
      when_fits b = read_at (λ cs h z y q. record { fits = omega arith })

      pub when_read : WhenRead ns s at ws ws' (Some (record { next = i.next + 1; count = i.count; over = i.over; unknown = i.unknown; deep = i.deep; lefts = i.lefts; rights = i.rights }))
      unfolding list_stored
      when_read =
          read_at
          (λ cs h z y q.
          let m = place_left s (i.next + 1) (omega arith) in
          record {
            is = ap (λ j. Some (moved ns s (length ws) 6 cs i j)) (sym m) ∙ seen_moved ns s (length ws) 6 cs (drop i.next s) (drop (i.next + 1) s) q ∙ sym (ap (list_seen ns s (length ws) 6) y);
            stored = λ j a b. l.stored i refl (ap (λ r. r.deep) (same_Some (moved ns s (length ws) 6 cs i (i.next + 1)) j a) ∙ b) ∙ ap (λ o. list_stored ns o ws) z ∙ sym (ap (λ o. list_stored ns o ws) y);
            kept = l.kept;
          })

pub ruleset when_ends = (when_absent, when_failed, when_read)
