-- One form by itself: each return of the code that reads it.
use mathlib.Core.Path.{◌≡◌, refl, sym, ap, ◌∙◌}
use mathlib.Core.List.{List, [], ◌∷◌}
use mathlib.Core.Bool.{Bool, true, false, ◌&&◌, ◌||◌, not, cond}
use mathlib.Core.Option.{Option, none, some}
use Prim.Native.Nat.{ℕ, suc, ◌+◌, ◌*◌, ◌-◌, ◌^◌, ◌≤◌, ◌<◌}
use native.Mathlib.Omega.{arith}
use lib.Dec.{eqb, leb}
use lib.ListN.{length, drop, get_or, length-drop}
use mir.Syntax.{w64}
use mir.Val.{Fits}
use borrow.Author.Tests.{le-leb, le-ltb, ne_eqb, eqb-true}
use Rattle.std.proofs.lemmas.Option.{same_Some, cond_some}
use Rattle.lists.specs.Lists.{empty?}
use Rattle.lists.proofs.Laws.{never, by_test, or_first}
use Rattle.syntax.specs.Grammar.{Bytes, Ref, Test, Cond, fn_number, numbered_fn}
use Rattle.syntax.specs.Limits.{short_ref, cond_depth}
use Rattle.syntax.specs.Readers.{Read, bind, ensure, ◌>>=◌, ◌>>◌, give, byte, read_head, read_ref, read_some, form_next, opens, Kind, k_in, k_pick, k_keep, k_join, k_fn, kind_word, kinds}
use Rattle.syntax.proofs.Steps.{from, done}
use Rattle.syntax.proofs.Conditions.{cond_read}
use Rattle.syntax.proofs.Leaving.{byte_less, items_ended, ref_leaves}
use Rattle.syntax.proofs.Aggregates.{fn_forth, fn_back, fn_range}
use Rattle.model.specs.Conditions.{tests}
use Rattle.text.specs.declared.Name.{Name}
use Rattle.text.specs.declared.Number.{Number}
use Rattle.text.specs.declared.Word.{Word}
use Rattle.text.specs.declared.Time.{Time}
use Rattle.text.specs.declared.Class.TheVariants.{Plain}
use Rattle.text.specs.Words.{Found, Some, None, seen, left_at, read_end, run_end, name_found, number_found}
use Rattle.text.specs.Keywords.{option_and_then, kind_number, form_given, coded, word_found, opening_end, part_end}
use Rattle.text.specs.Readings.{any_cond, any_items, any_some}
use Rattle.text.proofs.Runs.{first_byte, run_from, place_left}
use Rattle.text.proofs.Views.{no_some, seen_none, seen_some, read_none, read_here, left_drop, skip_none, skip_is, skip_within}
use Rattle.text.proofs.Found.{name_none, name_some, number_none, number_some, form_none, form_some, open_none, open_some}
use Rattle.text.proofs.Places.{byte_inside, space_is, equal_word}
use Rattle.text.proofs.Fuel.{any_cond_leaves, no_form_next, items_step}
use Rattle.items.specs.Items.{code_short}
use Rattle.terms.specs.declared.Reference.{Reference}
use Rattle.terms.specs.Terms.{stream_found, first_code, second_code, ref_seen, ref_at, code_in, ref_code}
use Rattle.terms.proofs.References.{ref_reading}
use Rattle.columns.specs.declared.Columns.{Columns}
use Rattle.columns.specs.Columns.{stream_place, ends_by, columns_seen, columns_at}
use Rattle.columns.proofs.ColumnLists.{columns_reading}
use Rattle.nodes.specs.Storing.{size}
use Rattle.conditions.specs.declared.Seen.{Seen}
use Rattle.conditions.specs.Seeing.{nodes_of, seen_of, deep_seen, has_room, cond_seen, cond_stored, cond_at, CondRead}
use Rattle.conditions.proofs.Capacity.{cond_bytes}
use Rattle.query_read.specs.declared.Own.{Own}
use Rattle.query_read.specs.Parts.{Part, rows, pick, keep, join, aggregate, read_part, read_own}
use Rattle.query_read.specs.Seeing.{level, span_of, rows_own, pick_own, keep_own, join_own, aggregate_own, picked, own_of, own_seen, own_at, part_stored, own_stored}
use Rattle.query_read.specs.Steps.{part_at, PartRead, OwnRead}
use Rattle.query_read.proofs.Leaves.{span_is}

-- ---- places

-- a column at a place
module _ (s : Bytes) (p : ℕ) where
  ref_not : None ≡ ref_at s p → read_ref (drop p s) ≡ none
  unfolding ref_at ref_reading
  ref_not e = read_none (ref_reading s) p e

  ref_is : {r : Reference} → Some r ≡ ref_at s p → {X : Type 0}
      → ((x : Ref) → read_ref (drop p s) ≡ some (record { what = x; left = drop r.next s }) → r.over ≡ not (short_ref x) → r.first ≡ first_code x → r.second ≡ second_code x → X) → X
  unfolding ref_at ref_reading ref_seen
  ref_is e k = read_here (ref_reading s) p e (λ x f m. k x f (ap (λ y. y.over) m) (ap (λ y. y.first) m) (ap (λ y. y.second) m))

-- after a byte
skip_further : (s : Bytes) (at b : ℕ) {p : ℕ} → Some p ≡ read_end s (byte b (drop at s)) → at < p
skip_further s at b {p} e = let l = byte_less b (drop at s) _ (skip_is s at b e) in let m = skip_within s at b e in omega (arith, length-drop at s, length-drop p s)

-- a space, an opening bracket and the sign of equality
module _ (s : Bytes) (at : ℕ) where
  opening_by : {X : Type 0} {o : Found ℕ} → o ≡ part_end s at 0x3d → (o ≡ None → byte 32 (drop at s) ≡ none → X)
      → ((q : ℕ) → byte 32 (drop at s) ≡ some (record { what = tt; left = drop q s }) → o ≡ opening_end s q 0x3d → X) → X
  unfolding part_end
  opening_by {X} {o} e f g = go (read_end s (byte 32 (drop at s))) refl e
    where
      go : (u : Found ℕ) → u ≡ read_end s (byte 32 (drop at s)) → o ≡ option_and_then (λ q. opening_end s q 0x3d) u → X
      go None t d = f d (skip_none s at 32 t)
      go (Some q) t d = g q (skip_is s at 32 t) d

-- ---- each part by what is read of it

module _ (ns : List ℕ) (s : Bytes) (b n at : ℕ) (k : Kind) where
  unpart : {r : Found Own} → read_part k (drop at s) ≡ none → r ≡ None → r ≡ part_at ns s b n k at
  unfolding part_at seen
  unpart e d = d ∙ sym (rw e)

  apart : {r : Own} (x : Part) (i : ℕ) → i ≤ length s → read_part k (drop at s) ≡ some (record { what = x; left = drop i s }) → r ≡ own_of ns b n x i → Some r ≡ part_at ns s b n k at
  unfolding part_at own_seen seen left_at
  apart x i h e d = ap Some (d ∙ ap (own_of ns b n x) (sym (place_left s i h))) ∙ sym (ap (seen (own_seen ns s b n)) e)

-- ---- a stream's rows

module _ (ns : List ℕ) (s : Bytes) (b n at : ℕ) where
  pub rows_unspaced : {r : Found Own} → None ≡ read_end s (byte 32 (drop at s)) → r ≡ None → r ≡ part_at ns s b n k_in at
  unfolding read_part ◌>>◌ bind
  rows_unspaced p e = unpart ns s b n at k_in (rw (skip_none s at 32 p)) e

  module _ {p : ℕ} (sp : Some p ≡ read_end s (byte 32 (drop at s))) where
    pub rows_unnamed : {r : Found Own} → None ≡ name_found s p → r ≡ None → r ≡ part_at ns s b n k_in at
    unfolding read_part ◌>>◌ ◌>>=◌ bind
    rows_unnamed q e = unpart ns s b n at k_in (rw (skip_is s at 32 sp, name_none s p q)) e

    module _ {m : Name} (q : Some m ≡ name_found s p) where
      pub rows_unclosed : {r : Found Own} → None ≡ read_end s (byte 41 (drop m.next s)) → r ≡ None → r ≡ part_at ns s b n k_in at
      unfolding read_part ◌>>◌ ◌>>=◌ bind
      rows_unclosed u e = name_some s p q (λ x h l k. unpart ns s b n at k_in (rw (skip_is s at 32 sp, h, skip_none s m.next 41 u)) e)

      pub rows_done : {r : Own} {i x : ℕ} → Some i ≡ read_end s (byte 41 (drop m.next s)) → x ≡ stream_found ns m.code → r ≡ rows_own b n m.long x i → Some r ≡ part_at ns s b n k_in at
      unfolding read_part give ◌>>◌ ◌>>=◌ bind own_of stream_place code_short
      rows_done {r} {i} u g e =
          name_some s p q (λ x h l k.
          apart ns s b n at k_in (rows x) i (skip_within s m.next 41 u) (rw (skip_is s at 32 sp, h, skip_is s m.next 41 u)) (e ∙ rw (g, l, k)))

pub ruleset rows_ends = (rows_unspaced, rows_unnamed, rows_unclosed, rows_done)

-- ---- a keep

some_of : (bs : Bytes) → any_some form_next read_ref bs ≡ bind (any_items form_next read_ref bs) (λ xs. ensure (not (empty? xs.what)) xs)
unfolding any_some read_some any_items
some_of bs = refl

-- a list ends before a form
form_byte : (s : Bytes) (i : ℕ) → form_next (drop i s) ≡ true → get_or s i 0 ≡ 32
unfolding form_next
form_byte s i e = go (drop i s) refl e
  where
    space : (x : ℕ) (a : Bool) → (eqb 32 x && a) ≡ true → x ≡ 32
    space x a e = by (eqb 32 x) refl e
      where
        by : (t : Bool) → eqb 32 x ≡ t → (t && a) ≡ true → x ≡ 32
        by true f g = sym (eqb-true 32 x f)
        by false f g = never (sym g)

    go : (bs : Bytes) → drop i s ≡ bs → form_next bs ≡ true → get_or s i 0 ≡ 32
    go [] d f = never (sym f)
    go (x ∷ xs) d f = sym (first_of d) ∙ space x (opens xs) f
      where
        first_of : drop i s ≡ x ∷ xs → x ≡ get_or s i 0
        first_of d = sym (ap (λ l. get_or l 0 0) d) ∙ first_byte s i

pub keep_unread : (ns : List ℕ) (s : Bytes) (b n at : ℕ) {r : Found Own} → None ≡ columns_at ns true s at → r ≡ None → r ≡ part_at ns s b n k_keep at
unfolding read_part ◌>>=◌ bind columns_at columns_reading ends_by
keep_unread ns s b n at p e = unpart ns s b n at k_keep (rw (some_of (drop at s), read_none (columns_reading ns true s) at p)) e

module _ (ns : List ℕ) (s : Bytes) (b n at : ℕ) {c : Columns} (p : Some c ≡ columns_at ns true s at) where
  -- what follows from the columns that were read
  listed : {X : Type 0} → ((xs : List Ref) → any_items form_next read_ref (drop at s) ≡ some (record { what = xs; left = drop c.next s }) → c ≡ columns_seen ns s (record { what = xs; left = drop c.next s }) → X) → X
  unfolding columns_at columns_reading ends_by
  listed k = read_here (columns_reading ns true s) at p k

  form_there : form_next (drop c.next s) ≡ true
  unfolding any_items
  form_there = listed (λ xs f g. items_ended form_next ref_leaves (length (drop at s)) (drop at s) _ f)

  ended : get_or s c.next 0 ≡ 32
  ended = form_byte s c.next form_there

  pub keep_inside : c.next < length s
  keep_inside = byte_inside s c.next refl ended (omega arith)

  pub keep_fits : length s < 2 ^ 64 → Fits w64 (c.next + 1)
  keep_fits h = let i = keep_inside in record { fits = omega arith }

  pub keep_empty : c.next ≡ at → None ≡ part_at ns s b n k_keep at
  unfolding read_part give ◌>>◌ ◌>>=◌ bind ensure empty?
  keep_empty z = unpart ns s b n at k_keep (rw (some_of (drop at s), none_here)) refl
    where
      none_here : any_items form_next read_ref (drop at s) ≡ some (record { what = []; left = drop at s })
      none_here = items_step form_next no_form_next read_ref ref_leaves (drop at s) ∙ rw (ap (λ i. form_next (drop i s)) (sym z) ∙ form_there)

  -- an empty list ends where it begins
  empty_here : any_items form_next read_ref (drop at s) ≡ some (record { what = []; left = drop c.next s }) → c.next ≡ at
  empty_here f = go (form_next (drop at s)) (sym (items_step form_next no_form_next read_ref ref_leaves (drop at s)) ∙ f)
    where
      go : (t : Bool)
          → cond {A = Option (Read (List Ref))} t (some (record { what = []; left = drop at s })) (bind (byte 32 (drop at s)) (λ s. bind (read_ref s.left) (λ a. bind (any_items form_next read_ref a.left) (λ xs. some (record { what = a.what ∷ xs.what; left = xs.left })))))
          ≡ some (record { what = []; left = drop c.next s }) → c.next ≡ at
      go true e =
          let d = done (λ x. length (drop at s) ≡ length x.left) e refl in
          let i = keep_inside in
          omega (arith, length-drop at s, length-drop c.next s)
      go false e = from _ _ e (λ u p q. from _ _ q (λ a i j. from _ _ j (λ xs k l. absurd (let h = done (λ x. suc (length xs.what) ≡ length x.what) l refl in omega arith))))

  pub keep_done : {r : Own} → (c.next ≡ at → ⊥) → r ≡ keep_own b n c.over c.unknown c.repeated c.mask c.order (c.next + 1) → Some r ≡ part_at ns s b n k_keep at
  unfolding read_part give ◌>>◌ ◌>>=◌ bind ensure empty? own_of columns_seen
  keep_done {r} z e = listed go
    where
      go : (xs : List Ref) → any_items form_next read_ref (drop at s) ≡ some (record { what = xs; left = drop c.next s }) → c ≡ columns_seen ns s (record { what = xs; left = drop c.next s }) → Some r ≡ part_at ns s b n k_keep at
      go [] f g = absurd (z (empty_here f))
      go (x ∷ xs) f g =
          let i = keep_inside in
          apart ns s b n at k_keep (keep (x ∷ xs)) (c.next + 1) (omega arith) (rw (some_of (drop at s), f, space_is s c.next refl ended))
          (e ∙ rw (ap (λ y. y.over) g, ap (λ y. y.unknown) g, ap (λ y. y.repeated) g, ap (λ y. y.mask) g, ap (λ y. y.order) g))

pub ruleset keep_ends = (keep_unread, keep_empty, keep_done)

-- ---- a join

module _ (ns : List ℕ) (s : Bytes) (b n at : ℕ) where
  -- after its opening bracket and sign
  equality : Bytes → Option (Read Part)
  equality l = bind (byte 32 l) (λ u. bind (read_ref u.left) (λ a. bind (byte 32 a.left) (λ v. bind (read_ref v.left) (λ c. bind (byte 41 c.left) (λ w. bind (byte 32 w.left) (λ x. some (record { what = join a.what c.what; left = x.left })))))))

  pub join_unopened : {r : Found Own} → None ≡ part_end s at 0x3d → r ≡ None → r ≡ part_at ns s b n k_join at
  unfolding read_part ◌>>◌ ◌>>=◌ bind
  join_unopened p e = unpart ns s b n at k_join (opening_by s at p (λ z f. rw f) (λ q f z. rw (f, open_none s q equal_word z))) e

  module _ {o : ℕ} (p : Some o ≡ part_end s at 0x3d) where
    opened : read_part k_join (drop at s) ≡ equality (drop o s)
    unfolding read_part ◌>>◌ ◌>>=◌ give bind equality
    opened = opening_by s at p (λ z f. absurd (no_some (sym z))) (λ q f z. rw (f, open_some s q equal_word z))

    pub join_unspaced : {r : Found Own} → None ≡ read_end s (byte 32 (drop o s)) → r ≡ None → r ≡ part_at ns s b n k_join at
    unfolding equality bind
    join_unspaced u e = unpart ns s b n at k_join (opened ∙ rw (skip_none s o 32 u)) e

    module _ {i : ℕ} (u : Some i ≡ read_end s (byte 32 (drop o s))) where
      pub join_leftless : {r : Found Own} → None ≡ ref_at s i → r ≡ None → r ≡ part_at ns s b n k_join at
      unfolding equality bind
      join_leftless q e = unpart ns s b n at k_join (opened ∙ rw (skip_is s o 32 u, ref_not s i q)) e

      module _ {l : Reference} (q : Some l ≡ ref_at s i) where
        join_left : {X : Type 0} → ((x : Ref) → read_part k_join (drop at s) ≡ bind (byte 32 (drop l.next s)) (λ v. bind (read_ref v.left) (λ c. bind (byte 41 c.left) (λ w. bind (byte 32 w.left) (λ y. some (record { what = join x c.what; left = y.left })))))
            → l.over ≡ not (short_ref x) → l.first ≡ first_code x → l.second ≡ second_code x → X) → X
        unfolding equality bind
        join_left f = ref_is s i q (λ x h j k m. f x (opened ∙ rw (skip_is s o 32 u, h)) j k m)

        pub join_alone : {r : Found Own} → None ≡ read_end s (byte 32 (drop l.next s)) → r ≡ None → r ≡ part_at ns s b n k_join at
        unfolding bind
        join_alone v e = join_left (λ x h j k m. unpart ns s b n at k_join (h ∙ rw (skip_none s l.next 32 v)) e)

        module _ {j : ℕ} (v : Some j ≡ read_end s (byte 32 (drop l.next s))) where
          pub join_rightless : {r : Found Own} → None ≡ ref_at s j → r ≡ None → r ≡ part_at ns s b n k_join at
          unfolding bind
          join_rightless w e = join_left (λ x h a k m. unpart ns s b n at k_join (h ∙ rw (skip_is s l.next 32 v, ref_not s j w)) e)

          module _ {m : Reference} (w : Some m ≡ ref_at s j) where
            join_right : {X : Type 0} → ((x y : Ref) → read_part k_join (drop at s) ≡ bind (byte 41 (drop m.next s)) (λ w. bind (byte 32 w.left) (λ z. some (record { what = join x y; left = z.left })))
                → l.over ≡ not (short_ref x) → l.first ≡ first_code x → l.second ≡ second_code x → m.over ≡ not (short_ref y) → m.first ≡ first_code y → m.second ≡ second_code y → X) → X
            unfolding bind
            join_right f = join_left (λ x h a k t. ref_is s j w (λ y g a' k' t'. f x y (h ∙ rw (skip_is s l.next 32 v, g)) a k t a' k' t'))

            pub join_unclosed : {r : Found Own} → None ≡ read_end s (byte 41 (drop m.next s)) → r ≡ None → r ≡ part_at ns s b n k_join at
            unfolding bind
            join_unclosed z e = join_right (λ x y h a k t a' k' t'. unpart ns s b n at k_join (h ∙ rw (skip_none s m.next 41 z)) e)

            module _ {g : ℕ} (z : Some g ≡ read_end s (byte 41 (drop m.next s))) where
              pub join_formless : {r : Found Own} → None ≡ read_end s (byte 32 (drop g s)) → r ≡ None → r ≡ part_at ns s b n k_join at
              unfolding bind
              join_formless y e = join_right (λ x y' h a k t a' k' t'. unpart ns s b n at k_join (h ∙ rw (skip_is s m.next 41 z, skip_none s g 32 y)) e)

              pub join_done : {r : Own} {next left right : ℕ} {over : Bool} → Some next ≡ read_end s (byte 32 (drop g s)) → left ≡ code_in ns l.first l.second → right ≡ code_in ns m.first m.second → over ≡ (l.over || m.over)
                  → r ≡ join_own b n over left right next → Some r ≡ part_at ns s b n k_join at
              unfolding bind own_of ref_code
              join_done {r} {next} y left right over e =
                  join_right (λ x x' h a k t a' k' t'.
                  apart ns s b n at k_join (join x x') next (skip_within s g 32 y) (h ∙ rw (skip_is s m.next 41 z, skip_is s g 32 y)) (e ∙ rw (over, a, a', left, right, k, t, k', t')))

pub ruleset join_ends = (join_unopened, join_unspaced, join_leftless, join_alone, join_rightless, join_unclosed, join_formless, join_done)

-- ---- an aggregate

module _ (ns : List ℕ) (s : Bytes) (f b n at : ℕ) where
  abbrev by_fn : Kind
  by_fn = k_fn (numbered_fn f)

  abbrev whole : Found Own
  whole = part_at ns s b n by_fn at

  pub aggregate_unspaced : {r : Found Own} → None ≡ read_end s (byte 32 (drop at s)) → r ≡ None → r ≡ whole
  unfolding read_part ◌>>◌ bind
  aggregate_unspaced p e = unpart ns s b n at by_fn (rw (skip_none s at 32 p)) e

  module _ {p : ℕ} (sp : Some p ≡ read_end s (byte 32 (drop at s))) where
    pub aggregate_columnless : {r : Found Own} → None ≡ ref_at s p → r ≡ None → r ≡ whole
    unfolding read_part ◌>>◌ ◌>>=◌ bind
    aggregate_columnless q e = unpart ns s b n at by_fn (rw (skip_is s at 32 sp, ref_not s p q)) e

    module _ {m : Reference} (q : Some m ≡ ref_at s p) where
      pub aggregate_alone : {r : Found Own} → None ≡ read_end s (byte 32 (drop m.next s)) → r ≡ None → r ≡ whole
      unfolding read_part ◌>>◌ ◌>>=◌ bind
      aggregate_alone u e = ref_is s p q (λ x h i j k. unpart ns s b n at by_fn (rw (skip_is s at 32 sp, h, skip_none s m.next 32 u)) e)

      module _ {o : ℕ} (sq : Some o ≡ read_end s (byte 32 (drop m.next s))) where
        pub aggregate_sizeless : {r : Found Own} → None ≡ number_found s o → r ≡ None → r ≡ whole
        unfolding read_part ◌>>◌ ◌>>=◌ bind
        aggregate_sizeless w e = ref_is s p q (λ x h i j k. unpart ns s b n at by_fn (rw (skip_is s at 32 sp, h, skip_is s m.next 32 sq, number_none s o w)) e)

        module _ {v : Number} (w : Some v ≡ number_found s o) where
          pub aggregate_single : {r : Found Own} → None ≡ read_end s (byte 32 (drop v.next s)) → r ≡ None → r ≡ whole
          unfolding read_part ◌>>◌ ◌>>=◌ bind
          aggregate_single y e =
              ref_is s p q (λ x h i j k. number_some s o w (λ x' h' i'.
              unpart ns s b n at by_fn (rw (skip_is s at 32 sp, h, skip_is s m.next 32 sq, h', skip_none s v.next 32 y)) e))

          module _ {g : ℕ} (sr : Some g ≡ read_end s (byte 32 (drop v.next s))) where
            pub aggregate_offsetless : {r : Found Own} → None ≡ number_found s g → r ≡ None → r ≡ whole
            unfolding read_part ◌>>◌ ◌>>=◌ bind
            aggregate_offsetless a e =
                ref_is s p q (λ x h i j k. number_some s o w (λ x' h' i'.
                unpart ns s b n at by_fn (rw (skip_is s at 32 sp, h, skip_is s m.next 32 sq, h', skip_is s v.next 32 sr, number_none s g a)) e))

            module _ {t : Number} (a : Some t ≡ number_found s g) where
              pub aggregate_formless : {r : Found Own} → None ≡ read_end s (byte 32 (drop t.next s)) → r ≡ None → r ≡ whole
              unfolding read_part ◌>>◌ ◌>>=◌ bind
              aggregate_formless z e =
                  ref_is s p q (λ x h i j k. number_some s o w (λ x' h' i'. number_some s g a (λ x'' h'' i''.
                  unpart ns s b n at by_fn (rw (skip_is s at 32 sp, h, skip_is s m.next 32 sq, h', skip_is s v.next 32 sr, h'', skip_none s t.next 32 z)) e)))

              pub aggregate_done : {r : Own} {next code : ℕ} {size offset : Time} → Some next ≡ read_end s (byte 32 (drop t.next s)) → 1 ≤ f → f ≤ 5 → code ≡ code_in ns m.first m.second → size ≡ span_of v.value → offset ≡ span_of t.value
                  → r ≡ aggregate_own b n m.over f code size offset next → Some r ≡ whole
              unfolding read_part give ◌>>◌ ◌>>=◌ bind own_of ref_code
              aggregate_done {r} {next} z low high code size offset e =
                  ref_is s p q (λ x h i j k. number_some s o w (λ x' h' i'. number_some s g a (λ x'' h'' i''.
                  apart ns s b n at by_fn (aggregate (numbered_fn f) x x' x'') next (skip_within s t.next 32 z)
                  (rw (skip_is s at 32 sp, h, skip_is s m.next 32 sq, h', skip_is s v.next 32 sr, h'', skip_is s t.next 32 z))
                  (e ∙ rw (i, code, j, k, span_is x' size i', span_is x'' offset i'', fn_back f low high)))))

pub ruleset aggregate_ends = (aggregate_unspaced, aggregate_columnless, aggregate_alone, aggregate_sizeless, aggregate_single, aggregate_offsetless, aggregate_formless, aggregate_done)

-- ---- a pick

-- what is told of a condition that ends at a place
told : List ℕ → ℕ → ℕ → Cond Test → ℕ → Seen
told ns b l x next = cond (leb (cond_depth x) l) (seen_of ns (tests x) next (b + size (nodes_of ns x))) (deep_seen next)

told_next : (ns : List ℕ) (b l : ℕ) (x : Cond Test) (next : ℕ) → (told ns b l x next).next ≡ next
unfolding told seen_of deep_seen
told_next ns b l x next = by_test (leb (cond_depth x) l) (λ e. rw e) (λ e. rw e)

told_own : (ns : List ℕ) (b n : ℕ) (x : Cond Test) (next after : ℕ) → pick_own (told ns b (level n) x next) after ≡ pick_own (picked ns b n x) after
unfolding told picked pick_own seen_of deep_seen
told_own ns b n x next after = by_test (leb (cond_depth x) (level n)) (λ e. rw e) (λ e. rw e)

module _ (ns : List ℕ) (s : Bytes) (b n at : ℕ) (ws : List ℕ) (line : length s ≤ 512) (lent : 102 ≤ length ws) (few : 5 * b ≤ at) where
  nothing_read : {r : Found Own} {vs : List ℕ} → length vs ≡ length ws → r ≡ None → read_part k_pick (drop at s) ≡ none → PartRead ns s b n k_pick at ws vs r
  nothing_read l e f = record { is = unpart ns s b n at k_pick f e; stored = λ o v w. absurd (no_some (sym e ∙ v)); kept = l }

  pub pick_unspaced : {r : Found Own} → None ≡ read_end s (byte 32 (drop at s)) → r ≡ None → PartRead ns s b n k_pick at ws ws r
  unfolding read_part ◌>>◌ bind
  pick_unspaced p e = nothing_read refl e (rw (skip_none s at 32 p))

  module _ {p : ℕ} (sp : Some p ≡ read_end s (byte 32 (drop at s))) {l : ℕ} (lv : l ≡ level n) where
    -- every condition of a line has room
    roomy : (x : Read (Cond Test)) → any_cond (drop p s) ≡ some x → has_room (length ws) (b + size (nodes_of ns x.what)) ≡ true
    unfolding any_cond has_room
    roomy x e =
        let t = (cond_read (length (drop p s))).taken (drop p s) x e in
        let y = cond_bytes ns x.what x.left t.0 in
        let z = ap length t.1 in
        let h = skip_further s at 32 sp in
        let w = skip_within s at 32 sp in
        let k : b + size (nodes_of ns x.what) ≤ 102 = omega (arith, length-drop p s) in
        rw (le-leb (b + size (nodes_of ns x.what)) (length ws) (omega arith), le-leb (b + size (nodes_of ns x.what)) 255 (omega arith))

    cond_is : (x : Read (Cond Test)) → any_cond (drop p s) ≡ some x → cond_at ns s (length ws) b l p ≡ Some (told ns b l x.what (length s - length x.left))
    unfolding cond_at cond_seen told left_at
    cond_is x e = rw (le-ltb 512 (length s) line, e, roomy x e) (by_test (leb (cond_depth x.what) l) (λ t. rw t) (λ t. rw t))

    pub pick_unread : {vs : List ℕ} {r : Found Own} → CondRead ns s b l p ws vs None → r ≡ None → PartRead ns s b n k_pick at ws vs r
    unfolding read_part ◌>>◌ ◌>>=◌ bind
    pick_unread q e = nothing_read q.kept e (rw (skip_is s at 32 sp, unread (any_cond (drop p s)) refl))
      where
        unread : (o : Option (Read (Cond Test))) → any_cond (drop p s) ≡ o → any_cond (drop p s) ≡ none
        unread none f = f
        unread (some x) f = absurd (no_some (q.is ∙ cond_is x f))

    module _ {vs : List ℕ} {i : Seen} (q : CondRead ns s b l p ws vs (Some i)) where
      seen_here : {X : Type 0} → ((x : Cond Test) → any_cond (drop p s) ≡ some (record { what = x; left = drop i.next s }) → i ≡ told ns b (level n) x i.next → X) → X
      unfolding cond_at cond_seen
      seen_here {X} g = go (any_cond (drop p s)) refl
        where
          unread : any_cond (drop p s) ≡ none → cond_at ns s (length ws) b l p ≡ None
          unread e = rw (le-ltb 512 (length s) line, e)

          go : (o : Option (Read (Cond Test))) → any_cond (drop p s) ≡ o → X
          go none e = absurd (no_some (sym (q.is ∙ unread e)))
          go (some x) e =
              let j : i ≡ told ns b l x.what (length s - length x.left) = same_Some i (told ns b l x.what (length s - length x.left)) (q.is ∙ cond_is x e) in
              let k : i.next ≡ length s - length x.left = ap (λ y. y.next) j ∙ told_next ns b l x.what (length s - length x.left) in
              let d : drop i.next s ≡ x.left = ap (λ y. drop y s) k ∙ left_drop any_cond_leaves s p x e in
              g x.what (e ∙ ap (λ y. some (record { what = x.what; left = y })) (sym d)) (j ∙ rw (lv, k))

      pub pick_formless : {r : Found Own} → None ≡ read_end s (byte 32 (drop i.next s)) → r ≡ None → PartRead ns s b n k_pick at ws vs r
      unfolding read_part ◌>>◌ ◌>>=◌ bind
      pick_formless u e = seen_here (λ x f g. nothing_read q.kept e (rw (skip_is s at 32 sp, f, skip_none s i.next 32 u)))

      pub pick_done : {r : Own} {next : ℕ} → Some next ≡ read_end s (byte 32 (drop i.next s)) → r ≡ pick_own i next → PartRead ns s b n k_pick at ws vs (Some r)
      unfolding read_part give ◌>>◌ ◌>>=◌ bind own_of own_stored part_stored cond_stored pick_own
      pick_done {r} {next} u e =
          seen_here (λ x f g.
          record {
            is = apart ns s b n at k_pick (pick x) next (skip_within s i.next 32 u) (rw (skip_is s at 32 sp, f, skip_is s i.next 32 u)) (e ∙ ap (λ y. pick_own y next) g ∙ told_own ns b n x i.next next);
            stored = λ o v w.
                let over : (i.deep || i.over) ≡ false = sym (ap (λ y. y.over) (sym (same_Some r o v) ∙ e)) ∙ w in
                rw (skip_is s at 32 sp, f, skip_is s i.next 32 u) (q.stored i refl (or_first i.deep i.over over) ∙ rw f);
            kept = q.kept;
          })

pub ruleset pick_ends = (pick_unspaced, pick_unread, pick_formless, pick_done)

-- ---- any form

-- a form by the number of its first word
kind_of : ℕ → Kind
kind_of k = cond (eqb k 0) k_in (cond (eqb k 1) k_pick (cond (eqb k 2) k_keep (cond (eqb k 3) k_join (k_fn (numbered_fn (k - 4))))))

kind_back : (h : Kind) {k : ℕ} → k ≡ kind_number h → kind_of k ≡ h
unfolding kind_number kind_of
kind_back k_in e = rw e
kind_back k_pick e = rw e
kind_back k_keep e = rw e
kind_back k_join e = rw e
kind_back (k_fn f) e =
    let h = fn_range f in
    let z : 4 + fn_number f - 4 ≡ fn_number f = omega arith in
    rw (e, ne_eqb (4 + fn_number f) 0 (λ y. omega arith), ne_eqb (4 + fn_number f) 1 (λ y. omega arith), ne_eqb (4 + fn_number f) 2 (λ y. omega arith), ne_eqb (4 + fn_number f) 3 (λ y. omega arith), z, fn_forth f)

-- an aggregate's number
pub fn_known : (c : ℕ) {k : ℕ} → Some k ≡ form_given c → (k ≡ 0 → ⊥) → (k ≡ 1 → ⊥) → (k ≡ 2 → ⊥) → (k ≡ 3 → ⊥) → (1 ≤ k - 4) × (k - 4 ≤ 5)
unfolding form_given kind_number
fn_known c {k} e n0 n1 n2 n3 = seen_some kind_number (coded kind_word kinds c) e (λ h i j. go h j)
  where
    go : (h : Kind) → k ≡ kind_number h → (1 ≤ k - 4) × (k - 4 ≤ 5)
    go k_in e = absurd (n0 e)
    go k_pick e = absurd (n1 e)
    go k_keep e = absurd (n2 e)
    go k_join e = absurd (n3 e)
    go (k_fn f) e = let h = fn_range f in (omega arith, omega arith)

module _ (ns : List ℕ) (b : ℕ) (ws : List ℕ) where
  stored_bind : {A : Type 0} (o : Option A) (f : A → Option (Read Part)) → ((a : A) → own_stored ns b (f a) ws ≡ ws) → own_stored ns b (bind o f) ws ≡ ws
  unfolding own_stored bind
  stored_bind none f h = refl
  stored_bind (some a) f h = h a

  -- only a pick has words
  unstored : (k : Kind) → (k ≡ k_pick → ⊥) → (bs : Bytes) → own_stored ns b (read_part k bs) ws ≡ ws
  unfolding own_stored part_stored read_part give ◌>>◌ ◌>>=◌
  unstored k_in n bs = stored_bind _ _ (λ u. stored_bind _ _ (λ v. stored_bind _ _ (λ w. refl)))
  unstored k_pick n bs = absurd (n refl)
  unstored k_keep n bs = stored_bind _ _ (λ u. stored_bind _ _ (λ v. refl))
  unstored k_join n bs = stored_bind _ _ (λ u. stored_bind _ _ (λ v. stored_bind _ _ (λ w. stored_bind _ _ (λ x. stored_bind _ _ (λ y. stored_bind _ _ (λ z. stored_bind _ _ (λ t. stored_bind _ _ (λ r. refl))))))))
  unstored (k_fn f) n bs = stored_bind _ _ (λ u. stored_bind _ _ (λ v. stored_bind _ _ (λ w. stored_bind _ _ (λ x. stored_bind _ _ (λ y. stored_bind _ _ (λ z. stored_bind _ _ (λ t. refl)))))))

pub word_beyond : (s : Bytes) (at : ℕ) {o : ℕ} {w : Word} → Some o ≡ read_end s (byte 40 (drop at s)) → Some w ≡ word_found s o → at ≤ w.next
unfolding word_found
word_beyond s at {o} {w} e q =
    let n : run_end Plain s o ≡ w.next = ap (λ t. t.next) (cond_some _ _ w (sym q)).1 in
    let a = run_from Plain s o refl in
    let l = skip_further s at 40 e in
    omega arith

module _ (ns : List ℕ) (s : Bytes) (b n at : ℕ) (ws : List ℕ) where
  unown : {r : Found Own} → read_own (drop at s) ≡ none → r ≡ None → OwnRead ns s b n at ws ws r
  unfolding own_at seen
  unown g e = record { is = e ∙ sym (rw g); stored = λ o v w. absurd (no_some (sym e ∙ v)); kept = refl }

  pub own_unopened : {r : Found Own} → None ≡ read_end s (byte 40 (drop at s)) → r ≡ None → OwnRead ns s b n at ws ws r
  unfolding read_own read_head ◌>>◌ bind
  own_unopened p e = unown (rw (skip_none s at 40 p)) e

  module _ {o : ℕ} (p : Some o ≡ read_end s (byte 40 (drop at s))) where
    pub own_wordless : {r : Found Own} → None ≡ word_found s o → r ≡ None → OwnRead ns s b n at ws ws r
    unfolding read_own read_head ◌>>◌ bind
    own_wordless q e = unown (rw (skip_is s at 40 p, form_none s o q)) e

    module _ {w : Word} (q : Some w ≡ word_found s o) where
      pub own_formless : {r : Found Own} → None ≡ form_given w.code → r ≡ None → OwnRead ns s b n at ws ws r
      unfolding read_own read_head ◌>>◌ bind form_given
      own_formless f e = unown (rw (skip_is s at 40 p, form_some s o q, seen_none kind_number (coded kind_word kinds w.code) f)) e

      module _ {k : ℕ} (e : Some k ≡ form_given w.code) where
        read_is : read_own (drop at s) ≡ read_part (kind_of k) (drop w.next s)
        unfolding read_own read_head ◌>>◌ bind form_given
        read_is = seen_some kind_number (coded kind_word kinds w.code) e (λ h i j. rw (skip_is s at 40 p, form_some s o q, i, kind_back h j))

        -- a form of a kind
        module _ (h : Kind) (y : kind_of k ≡ h) where
          by_kind : read_own (drop at s) ≡ read_part h (drop w.next s)
          by_kind = read_is ∙ ap (λ x. read_part x (drop w.next s)) y

          own_plain : {r : Found Own} → (h ≡ k_pick → ⊥) → r ≡ part_at ns s b n h w.next → OwnRead ns s b n at ws ws r
          unfolding own_at part_at
          own_plain f g =
              record { is = g ∙ ap (seen (own_seen ns s b n)) (sym by_kind); stored = λ x u v. sym (ap (λ z. own_stored ns b z ws) by_kind ∙ unstored ns b ws h f (drop w.next s)); kept = refl }

        no_pick : (h : Kind) → (kind_number h ≡ 1 → ⊥) → h ≡ k_pick → ⊥
        unfolding kind_number
        no_pick h f g = f (ap kind_number g)

        pub own_rows : {r : Found Own} → k ≡ 0 → r ≡ part_at ns s b n k_in w.next → OwnRead ns s b n at ws ws r
        unfolding kind_of kind_number
        own_rows f g = own_plain k_in (rw f) (no_pick k_in (λ x. omega arith)) g

        module _ (n0 : k ≡ 0 → ⊥) where
          pub own_pick : {r : Found Own} {vs : List ℕ} → k ≡ 1 → PartRead ns s b n k_pick w.next ws vs r → OwnRead ns s b n at ws vs r
          unfolding kind_of own_at part_at
          own_pick {r} {vs} f g =
              let y : read_own (drop at s) ≡ read_part k_pick (drop w.next s) = by_kind k_pick (rw f) in
              record { is = g.is ∙ ap (seen (own_seen ns s b n)) (sym y); stored = λ x u v. g.stored x u v ∙ ap (λ z. own_stored ns b z ws) (sym y); kept = g.kept }

          module _ (n1 : k ≡ 1 → ⊥) where
            pub own_keep : {r : Found Own} → k ≡ 2 → r ≡ part_at ns s b n k_keep w.next → OwnRead ns s b n at ws ws r
            unfolding kind_of kind_number
            own_keep f g = own_plain k_keep (rw f) (no_pick k_keep (λ x. omega arith)) g

            module _ (n2 : k ≡ 2 → ⊥) where
              pub own_join : {r : Found Own} → k ≡ 3 → r ≡ part_at ns s b n k_join w.next → OwnRead ns s b n at ws ws r
              unfolding kind_of kind_number
              own_join f g = own_plain k_join (rw f) (no_pick k_join (λ x. omega arith)) g

              pub own_aggregate : {r : Found Own} → (k ≡ 3 → ⊥) → r ≡ part_at ns s b n (k_fn (numbered_fn (k - 4))) w.next → OwnRead ns s b n at ws ws r
              unfolding kind_of kind_number
              own_aggregate n3 g =
                  own_plain (k_fn (numbered_fn (k - 4))) (rw (ne_eqb k 0 n0, ne_eqb k 1 n1, ne_eqb k 2 n2, ne_eqb k 3 n3))
                  (no_pick (k_fn (numbered_fn (k - 4))) (λ x. let h = fn_range (numbered_fn (k - 4)) in omega arith)) g
