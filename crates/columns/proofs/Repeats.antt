-- A column that a list has twice, as the code sees it: by the mask of those before it, and a profile entry by the names of those.
use mathlib.Core.Path.{◌≡◌, refl, sym, ap, ap₂, ◌∙◌}
use mathlib.Core.List.{List, [], ◌∷◌, ◌++◌, map}
use mathlib.Core.Bool.{Bool, true, false, ◌&&◌, ◌||◌, not, cond}
use mathlib.Core.Option.{some}
use Prim.Native.Nat.{ℕ, suc, ◌+◌, ◌*◌, ◌≤◌, ◌<◌}
use native.Mathlib.Omega.{arith}
use lib.Dec.{T, eqb, leb, ltb}
use lib.ListN.{length, drop, length-drop}
use borrow.Author.Tests.{lt-leb, lt-ltb, eqb-true}
use Rattle.lists.specs.Lists.{every, some?, distinct, same_list}
use Rattle.lists.proofs.Laws.{and_both, parts, true_T, every_append, same_list→eq}
use Rattle.syntax.specs.Grammar.{Bytes, bytes, Ref, dotted, time, figure, ref?, put_ref, put_items}
use Rattle.syntax.specs.Limits.{max_line}
use Rattle.syntax.specs.Readers.{Read, read_ref}
use Rattle.syntax.proofs.Terms.{ref_read}
use Rattle.syntax.proofs.Items.{items_read}
use Rattle.syntax.proofs.Leaving.{ref_leaves, items_ended}
use Rattle.syntax.proofs.Lengths.{ref_room, self_some}
use Rattle.calls.specs.Names.{is_self}
use Rattle.calls.specs.Tables.{same_ref}
use Rattle.text.specs.Readings.{any_items}
use Rattle.schema.specs.Schemas.{schema_sound}
use Rattle.items.proofs.Folds.{map_more}
use Rattle.masks.specs.Masks.{bit?, with_bit, mask_of}
use Rattle.masks.proofs.Lists.{bit_mask}
use Rattle.terms.specs.Terms.{entry_code, second_code, ref_code}
use Rattle.terms.proofs.Resolving.{own?, code_range, code_entry, fine, ref_same}
use Rattle.columns.specs.Columns.{max_own, ends_by, again_in, kept_in, repeats}
use Rattle.columns.proofs.Closing.{eqb_sym, ends_none}
use Rattle.columns.proofs.StreamLists.{some_more, mask_more}

-- ---- the profile entries of a list

-- how many they are
unfoldable pub entries : List Ref → ℕ
entries [] = 0
entries (r ∷ rs) = cond (own? r) (suc (entries rs)) (entries rs)

entries_more : (ps : List Ref) (c : Ref) (rs : List Ref) → entries (ps ++ (c ∷ [])) + entries rs ≡ entries ps + entries (c ∷ rs)
unfolding entries
entries_more [] c rs = go (own? c)
  where
    go : (b : Bool) → cond b 1 0 + entries rs ≡ 0 + cond b (suc (entries rs)) (entries rs)
    go true = omega arith
    go false = omega arith
entries_more (p ∷ ps) c rs = go (own? p) (entries_more ps c rs)
  where
    go : (b : Bool) → entries (ps ++ (c ∷ [])) + entries rs ≡ entries ps + entries (c ∷ rs)
        → cond b (suc (entries (ps ++ (c ∷ [])))) (entries (ps ++ (c ∷ []))) + entries rs ≡ cond b (suc (entries ps)) (entries ps) + entries (c ∷ rs)
    go true e = omega arith
    go false e = e

-- each takes seven bytes of a text with the space before it
own_room : (r : Ref) (rest : Bytes) → T (ref? r) → own? r ≡ true → 6 + length rest ≤ length (put_ref r rest)
unfolding own? is_self ref?
own_room (dotted n m) rest t e = rw (sym (same_list→eq (bytes "self") n (true_T (same_list (bytes "self") n) e))) (self_some m rest (search parts))
own_room time rest t e = absurd (let z : ◌≡◌ {A = ℕ} 0 1 = cc in omega arith)
own_room figure rest t e = absurd (let z : ◌≡◌ {A = ℕ} 0 1 = cc in omega arith)

pub entries_room : (rs : List Ref) (rest : Bytes) → T (every ref? rs) → 7 * entries rs + length rest ≤ length (put_items put_ref rs rest)
unfolding entries every put_items
entries_room [] rest t = omega arith
entries_room (r ∷ rs) rest t = go (own? r) refl (entries_room rs rest (search parts))
  where
    go : (b : Bool) → own? r ≡ b → 7 * entries rs + length rest ≤ length (put_items put_ref rs rest)
        → 7 * cond b (suc (entries rs)) (entries rs) + length rest ≤ suc (length (put_ref r (put_items put_ref rs rest)))
    go true e i = let h = own_room r (put_items put_ref rs rest) (search parts) e in omega arith
    go false e i = let h = ref_room r (put_items put_ref rs rest) in omega arith

-- so that a line has room for as many as are told apart, with the brackets around them
pub entries_few : (rs : List Ref) (rest : Bytes) → T (every ref? rs) → length (put_items put_ref rs rest) + 2 ≤ max_line + length rest → entries rs ≤ max_own
entries_few rs rest t h = let r = entries_room rs rest t in omega arith

-- and of a list that was read at a place of a line
pub entries_read : (form : Bool) (s : Bytes) (at : ℕ) (r : Read (List Ref)) → length s ≤ max_line → 0 < at → any_items (ends_by form) read_ref (drop at s) ≡ some r → entries r.what ≤ max_own
unfolding any_items
entries_read form s at r h k e =
    let p = (items_read (ends_by form) ref_read (length (drop at s))).taken (drop at s) r e in
    let l = ap length p.1 in
    let f = ended form r.left (items_ended (ends_by form) ref_leaves (length (drop at s)) (drop at s) r e) in
    entries_few r.what r.left p.0 (omega (arith, length-drop at s))
  where
    ended : (form : Bool) (l : Bytes) → ends_by form l ≡ true → 0 < length l
    ended form [] z = absurd (let y : false ≡ true = sym (ends_none form) ∙ z in let x : ◌≡◌ {A = ℕ} 0 1 = cc in omega arith)
    ended form (b ∷ l) z = omega arith

-- ---- what was seen before

module _ (ns : List ℕ) (sound : T (schema_sound ns)) where
  -- the mask of some columns, and the names of the profile entries among them
  abbrev seen : List Ref → ℕ
  seen ps = mask_of (map (ref_code ns) ps)

  names : List Ref → List ℕ
  names [] = []
  names (p ∷ ps) = cond (own? p) (second_code p ∷ names ps) (names ps)

  names_count : (ps : List Ref) → length (names ps) ≡ entries ps
  unfolding names entries
  names_count [] = refl
  names_count (p ∷ ps) = go (own? p) (names_count ps)
    where
      go : (b : Bool) → length (names ps) ≡ entries ps → length (cond b (second_code p ∷ names ps) (names ps)) ≡ cond b (suc (entries ps)) (entries ps)
      go true e = ap suc e
      go false e = e

  names_more : (ps : List Ref) (c : Ref) → names (ps ++ (c ∷ [])) ≡ cond (own? c) (names ps ++ (second_code c ∷ [])) (names ps)
  unfolding names
  names_more [] c = refl
  names_more (p ∷ ps) c = go (own? p) (own? c) (names_more ps c)
    where
      go : (a b : Bool) → names (ps ++ (c ∷ [])) ≡ cond b (names ps ++ (second_code c ∷ [])) (names ps)
          → cond a (second_code p ∷ names (ps ++ (c ∷ []))) (names (ps ++ (c ∷ []))) ≡ cond b (cond a (second_code p ∷ names ps) (names ps) ++ (second_code c ∷ [])) (cond a (second_code p ∷ names ps) (names ps))
      go true true e = ap (λ l. second_code p ∷ l) e
      go true false e = ap (λ l. second_code p ∷ l) e
      go false true e = e
      go false false e = e

  abbrev good : Ref → Bool
  good = fine ns

  fine_entry : (r : Ref) → T (good r) → eqb (ref_code ns r) entry_code ≡ own? r
  unfolding fine
  fine_entry r t = code_entry ns sound r (search parts) (search parts)

  module _ (c : Ref) (t : T (good c)) where
    -- a column by its bit
    bit_same : own? c ≡ false → (p : Ref) → T (good p) → eqb (ref_code ns p) (ref_code ns c) ≡ same_ref p c
    bit_same o p u = sym (ref_same ns sound p c u t ∙ go (eqb (ref_code ns p) (ref_code ns c)) refl)
      where
        go : (b : Bool) → eqb (ref_code ns p) (ref_code ns c) ≡ b → (b && (not (eqb (ref_code ns p) entry_code) || eqb (second_code p) (second_code c))) ≡ b
        go true e = rw (eqb-true (ref_code ns p) (ref_code ns c) e, fine_entry c t, o)
        go false e = refl

    -- a profile entry by its name
    name_same : own? c ≡ true → (p : Ref) → T (good p) → same_ref p c ≡ cond (own? p) (eqb (second_code c) (second_code p)) false
    name_same o p u = ref_same ns sound p c u t ∙ rw (eqb-true (ref_code ns c) entry_code (fine_entry c t ∙ o), fine_entry p u) (go (own? p))
      where
        go : (b : Bool) → (b && (not b || eqb (second_code p) (second_code c))) ≡ cond b (eqb (second_code c) (second_code p)) false
        go true = eqb_sym (second_code p) (second_code c)
        go false = refl

    -- whether it was seen among some
    abbrev before : List Ref → Bool
    before ps = some? (λ p. same_ref p c) ps

    by_bit : own? c ≡ false → (ps : List Ref) → T (every good ps) → some? (λ j. eqb j (ref_code ns c)) (map (ref_code ns) ps) ≡ before ps
    unfolding every some?
    by_bit o [] u = refl
    by_bit o (p ∷ ps) u = ap₂ ◌||◌ (bit_same o p (search parts)) (by_bit o ps (search parts))

    by_name : own? c ≡ true → (ps : List Ref) → T (every good ps) → some? (eqb (second_code c)) (names ps) ≡ before ps
    unfolding every some? names
    by_name o [] u = refl
    by_name o (p ∷ ps) u = rw (name_same o p (search parts)) (go (own? p) (by_name o ps (search parts)))
      where
        go : (b : Bool) → some? (eqb (second_code c)) (names ps) ≡ before ps → some? (eqb (second_code c)) (cond b (second_code p ∷ names ps) (names ps)) ≡ (cond b (eqb (second_code c) (second_code p)) false || before ps)
        go true e = ap (λ x. eqb (second_code c) (second_code p) || x) e
        go false e = e

    module _ (ps : List Ref) (u : T (every good ps)) (l : entries (ps ++ (c ∷ [])) ≤ max_own) where
      room : own? c ≡ true → length (names ps) < max_own
      unfolding entries
      room o =
          let e = names_count ps in
          let f = entries_more ps c [] in
          let g : entries (c ∷ []) ≡ 1 = rw o in
          omega arith

      again_is : again_in (seen ps) (names ps) (ref_code ns c) (second_code c) ≡ before ps
      unfolding again_in
      again_is = rw (fine_entry c t) (go (own? c) refl)
        where
          go : (b : Bool) → own? c ≡ b → cond b (leb max_own (length (names ps)) || some? (eqb (second_code c)) (names ps)) (bit? (seen ps) (ref_code ns c)) ≡ before ps
          go true o = rw (lt-leb max_own (length (names ps)) (room o)) (by_name o ps u)
          go false o = bit_mask (map (ref_code ns) ps) (ref_code ns c) ∙ by_bit o ps u

      kept_is : kept_in (names ps) (ref_code ns c) (second_code c) ≡ names (ps ++ (c ∷ []))
      unfolding kept_in
      kept_is = rw (fine_entry c t, names_more ps c) (go (own? c) refl)
        where
          go : (b : Bool) → own? c ≡ b → cond (b && ltb (length (names ps)) max_own) (names ps ++ (second_code c ∷ [])) (names ps) ≡ cond b (names ps ++ (second_code c ∷ [])) (names ps)
          go true o = rw (lt-ltb (length (names ps)) max_own (room o))
          go false o = refl

      seen_more : with_bit (seen ps) (ref_code ns c) ≡ seen (ps ++ (c ∷ []))
      seen_more = let h : ref_code ns c < 32 = omega (arith, (code_range ns c).0) in mask_more (map (ref_code ns) ps) (ref_code ns c) h ∙ ap mask_of (map_more (ref_code ns) ps c)

  -- ---- the list

  -- one of some was seen among others, or stands twice
  abbrev twice : List Ref → List Ref → Bool
  twice ps rs = some? (λ c. some? (λ p. same_ref p c) ps) rs || not (distinct same_ref rs)

  some_split : (ps : List Ref) (c : Ref) (rs : List Ref) → some? (λ x. some? (λ p. same_ref p x) (ps ++ (c ∷ []))) rs ≡ (some? (λ x. some? (λ p. same_ref p x) ps) rs || some? (same_ref c) rs)
  unfolding some?
  some_split ps c [] = refl
  some_split ps c (r ∷ rs) = rw (sym (some_more (λ p. same_ref p r) ps c), some_split ps c rs) (go (some? (λ p. same_ref p r) ps) (same_ref c r) (some? (λ x. some? (λ p. same_ref p x) ps) rs) (some? (same_ref c) rs))
    where
      go : (a b x y : Bool) → ((a || b) || (x || y)) ≡ ((a || x) || (b || y))
      go true b x y = refl
      go false true true y = refl
      go false true false y = refl
      go false false x y = refl

  regroup : (s a b e : Bool) → (s || ((a || b) || not e)) ≡ ((s || a) || not (not b && e))
  regroup true a b e = refl
  regroup false true b e = refl
  regroup false false true e = refl
  regroup false false false e = refl

  repeats_from : (rs ps : List Ref) → T (every good ps) → T (every good rs) → entries ps + entries rs ≤ max_own → repeats ns (seen ps) (names ps) rs ≡ twice ps rs
  unfolding repeats every some? distinct
  repeats_from [] ps u v l = refl
  repeats_from (c ∷ rs) ps u v l =
      let t : T (good c) = search parts in
      let e = entries_more ps c rs in
      let h : entries (ps ++ (c ∷ [])) ≤ max_own = omega arith in
      let k : T (every good (ps ++ (c ∷ []))) = every_append good ps (c ∷ []) u (and_both (good c) true t tt) in
      rw (again_is c t ps u h, kept_is c t ps u h, seen_more c t ps u h, repeats_from rs (ps ++ (c ∷ [])) k (search parts) (omega arith), some_split ps c rs)
      (regroup (some? (λ p. same_ref p c) ps) (some? (λ x. some? (λ p. same_ref p x) ps) rs) (some? (same_ref c) rs) (distinct same_ref rs))

  none_before : (rs : List Ref) → some? (λ c. some? (λ p. same_ref p c) []) rs ≡ false
  unfolding some?
  none_before [] = refl
  none_before (r ∷ rs) = none_before rs

  -- a column is seen twice where one stands twice
  pub repeats_once : (rs : List Ref) → T (every good rs) → entries rs ≤ max_own → repeats ns 0 [] rs ≡ not (distinct same_ref rs)
  unfolding mask_of names entries every
  repeats_once rs t h = repeats_from rs [] tt t (omega arith) ∙ ap (λ b. b || not (distinct same_ref rs)) (none_before rs)
