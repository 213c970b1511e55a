-- What is read of the parts of a grant line: each return of the code that reads them.
use mathlib.Core.Path.{◌≡◌, refl, sym, ap, ◌∙◌}
use mathlib.Core.List.{List, [], ◌∷◌}
use mathlib.Core.Bool.{Bool, true, false, ◌&&◌, not, cond}
use mathlib.Core.Option.{Option, none, some, none-ne-some}
use Prim.Native.Nat.{ℕ, ◌+◌, ◌^◌, ◌≤◌, ◌<◌}
use native.Mathlib.Omega.{arith}
use native.Mathlib.Decide.{dec_lt}
use lib.Dec.{eqb}
use lib.ListN.{length, drop, get_or, drop_of_length-le}
use mir.Syntax.{w64}
use mir.Val.{Fits}
use borrow.Author.Tests.{ne_eqb, eqb-true}
use Rattle.lists.specs.Lists.{empty?}
use Rattle.syntax.specs.Grammar as G
use Rattle.syntax.specs.Grammar.{Bytes, bytes, Right, right_word, Ref, Show, right_number}
use Rattle.syntax.proofs.Steps.{from, done}
use Rattle.syntax.proofs.Leaving.{Leaves, items_ended, ref_leaves}
use Rattle.syntax.specs.Readers.{Read, Reader, bind, ensure, ◌>>=◌, ◌>>◌, give, byte, read_word, rights, itself, read_name, read_ref, read_some, closes, read_star, star_next, read_show}
use Rattle.syntax.proofs.Aggregates.{fn_range}
use Rattle.text.specs.declared.Name.{Name}
use Rattle.text.specs.declared.Word.{Word}
use Rattle.text.specs.Words.{Found, Some, None, seen, left_at, read_end, name_found}
use Rattle.text.specs.Keywords.{right_given, coded, word_found, part_end, keywords_compute}
use Rattle.text.proofs.Runs.{first_byte, place_left}
use Rattle.text.proofs.Places.{byte_here, byte_inside, close_is, of_word, show_word}
use Rattle.text.proofs.Keywords.{table_none, table_some}
use Rattle.text.proofs.Found.{name_none, name_some, right_none, right_some, word_within, part_none, part_some}
use Rattle.text.proofs.Fuel.{no_close, items_step}
use Rattle.text.proofs.Views.{seen_none, seen_some, read_none, read_here, skip_none, skip_is, skip_within}
use Rattle.text.specs.Readings.{any_items, any_some, any_show}
use Rattle.items.specs.Items.{code_short}
use Rattle.columns.specs.declared.Streams.{Streams}
use Rattle.columns.specs.declared.Columns.{Columns}
use Rattle.columns.specs.Columns.{streams_seen, streams_at, ends_by, columns_seen, columns_at}
use Rattle.columns.proofs.StreamLists.{streams_reading}
use Rattle.columns.proofs.ColumnLists.{columns_reading}
use Rattle.grant_line.specs.declared.Holder.{Holder}
use Rattle.grant_line.specs.declared.Shown.{Shown}
use Rattle.grant_line.specs.Parts.{read_held, holder_seen, holder_at, of_at, shown_all, shown_listed, show_of, show_seen, show_at, star_seen, star_at}

-- ---- places

-- a list that ends at a closing bracket
closes_byte : (s : Bytes) (n : ℕ) → closes (drop n s) ≡ true → get_or s n 0 ≡ 41
unfolding closes
closes_byte s n e = go (dec_lt n (length s))
  where
    go : Dec (n < length s) → get_or s n 0 ≡ 41
    go (yes l) = sym (eqb-true 41 (get_or s n 0) (ap closes (sym (byte_here s n l refl)) ∙ e))
    go (no l) = let h : length s ≤ n = omega arith in absurd (let z : ◌≡◌ {A = Bool} false true = ap closes (sym (drop_of_length-le s h)) ∙ e in let k : ◌≡◌ {A = ℕ} 0 1 = cc in omega arith)

module _ {A : Type 0} (item : Reader A) where
  -- one or more are some that are not none
  pub some_items : (bs : Bytes) → any_some closes item bs ≡ bind (any_items closes item bs) (λ xs. ensure (not (empty? xs.what)) xs)
  unfolding any_some read_some any_items
  some_items bs = refl

  some_none : (bs : Bytes) → any_items closes item bs ≡ none → any_some closes item bs ≡ none
  unfolding bind
  some_none bs e = some_items bs ∙ rw e

  some_not : (bs left : Bytes) → any_items closes item bs ≡ some (record { what = []; left = left }) → any_some closes item bs ≡ none
  unfolding bind ensure empty?
  some_not bs left e = some_items bs ∙ rw e

  some_is : (bs left : Bytes) (x : A) (xs : List A) → any_items closes item bs ≡ some (record { what = x ∷ xs; left = left }) → any_some closes item bs ≡ some (record { what = x ∷ xs; left = left })
  unfolding bind ensure empty?
  some_is bs left x xs e = some_items bs ∙ rw e

  module _ (leaves : Leaves item) (s : Bytes) (p n : ℕ) (xs : List A) (e : any_items closes item (drop p s) ≡ some (record { what = xs; left = drop n s })) where
    -- where it ends a bracket closes
    ended : closes (drop n s) ≡ true
    unfolding any_items
    ended = items_ended closes leaves (length (drop p s)) (drop p s) _ e

    pub list_closed : get_or s n 0 ≡ 41
    list_closed = closes_byte s n ended

    pub list_inside : n < length s
    list_inside = byte_inside s n refl list_closed (omega arith)

-- ---- whose it is, and its right

pub right_low : (h : Right) → right_number h ≤ 5
unfolding right_number
right_low G.read = omega arith
right_low (G.figures f) = (fn_range f).1

module _ (s : Bytes) (at : ℕ) where
  unheld : {r : Found Holder} → read_held (drop at s) ≡ none → r ≡ None → r ≡ holder_at s at
  unfolding holder_at seen
  unheld f e = e ∙ sym (rw f)

  pub holder_unspaced : {r : Found Holder} → None ≡ read_end s (byte 32 (drop at s)) → r ≡ None → r ≡ holder_at s at
  unfolding read_held ◌>>◌ bind
  holder_unspaced p e = unheld (rw (skip_none s at 32 p)) e

  module _ {p : ℕ} (sp : Some p ≡ read_end s (byte 32 (drop at s))) where
    pub holder_unnamed : {r : Found Holder} → None ≡ name_found s p → r ≡ None → r ≡ holder_at s at
    unfolding read_held ◌>>◌ ◌>>=◌ bind
    holder_unnamed q e = unheld (rw (skip_is s at 32 sp, name_none s p q)) e

    module _ {n : Name} (q : Some n ≡ name_found s p) where
      pub holder_alone : {r : Found Holder} → None ≡ read_end s (byte 32 (drop n.next s)) → r ≡ None → r ≡ holder_at s at
      unfolding read_held ◌>>◌ ◌>>=◌ bind
      holder_alone u e = name_some s p q (λ v h l c. unheld (rw (skip_is s at 32 sp, h, skip_none s n.next 32 u)) e)

      module _ {o : ℕ} (sd : Some o ≡ read_end s (byte 32 (drop n.next s))) where
        pub holder_wordless : {r : Found Holder} → None ≡ word_found s o → r ≡ None → r ≡ holder_at s at
        unfolding read_held ◌>>◌ ◌>>=◌ bind
        holder_wordless v e = name_some s p q (λ x h l c. unheld (rw (skip_is s at 32 sp, h, skip_is s n.next 32 sd, right_none s o v)) e)

        module _ {w : Word} (v : Some w ≡ word_found s o) where
          pub holder_rightless : {r : Found Holder} → None ≡ right_given w.code → r ≡ None → r ≡ holder_at s at
          unfolding read_held ◌>>◌ ◌>>=◌ bind right_given
          holder_rightless g e =
              name_some s p q (λ x h l c. unheld (rw (skip_is s at 32 sp, h, skip_is s n.next 32 sd, right_some s o v, seen_none right_number (coded right_word rights w.code) g)) e)

          pub holder_done : {m : ℕ} → Some m ≡ right_given w.code → Some (record { long = n.long; role = n.code; right = m; next = w.next }) ≡ holder_at s at
          unfolding holder_at holder_seen seen left_at read_held give ◌>>◌ ◌>>=◌ bind code_short right_given
          holder_done g =
              name_some s p q (λ x h l c. seen_some right_number (coded right_word rights w.code) g (λ k y z.
              sym (rw (skip_is s at 32 sp, h, skip_is s n.next 32 sd, right_some s o v, y, l, c, z, place_left s w.next (word_within s o v)))))

pub ruleset holder_ends = (holder_unspaced, holder_unnamed, holder_alone, holder_wordless, holder_rightless, holder_done)

-- ---- its streams

module _ (ns : List ℕ) (s : Bytes) (at : ℕ) where
  pub of_absent : {r : Found Streams} → None ≡ part_end s at 0x6f66 → r ≡ None → r ≡ of_at ns s at
  unfolding of_at seen
  of_absent e d = d ∙ sym (rw (part_none s at of_word (any_some closes read_name) e))

  module _ {p : ℕ} (e : Some p ≡ part_end s at 0x6f66) where
    abbrev inside_part : Option (Read (List Bytes))
    inside_part = bind (any_some closes read_name (drop p s)) (λ a. bind (byte 41 a.left) (λ u. some (record { what = a.what; left = u.left })))

    part_is : of_at ns s at ≡ seen (streams_seen ns s) inside_part
    unfolding of_at
    part_is = ap (seen (streams_seen ns s)) (part_some s at of_word e (any_some closes read_name))

    of_none : any_some closes read_name (drop p s) ≡ none → of_at ns s at ≡ None
    unfolding seen bind
    of_none f = part_is ∙ rw f

    pub of_unread : {r : Found Streams} → None ≡ streams_at ns s p → r ≡ None → r ≡ of_at ns s at
    unfolding streams_at streams_reading
    of_unread q d = d ∙ sym (of_none (some_none read_name (drop p s) (read_none (streams_reading ns s) p q)))

    module _ {o : Streams} (q : Some o ≡ streams_at ns s p) where
      -- the names, and where they end
      abbrev By : Type 0 → Type 0
      By X = (xs : List Bytes) → any_items closes read_name (drop p s) ≡ some (record { what = xs; left = drop o.next s }) → o ≡ streams_seen ns s (record { what = xs; left = drop o.next s }) → X

      named : {X : Type 0} → By X → X
      unfolding streams_at streams_reading
      named k = read_here (streams_reading ns s) p q k

      pub of_empty : o.count ≡ 0 → None ≡ of_at ns s at
      unfolding streams_seen
      of_empty z = named go
        where
          go : By (None ≡ of_at ns s at)
          go [] f g = sym (of_none (some_not read_name (drop p s) _ f))
          go (x ∷ xs) f g = let c = ap (λ y. y.count) g in absurd (omega arith)

      module _ (n : o.count ≡ 0 → ⊥) where
        pub of_unclosed : {r : Found Streams} → None ≡ read_end s (byte 41 (drop o.next s)) → r ≡ None → r ≡ of_at ns s at
        unfolding streams_seen seen bind
        of_unclosed {r} u d = named go
          where
            go : By (r ≡ of_at ns s at)
            go [] f g = absurd (n (ap (λ y. y.count) g))
            go (x ∷ xs) f g = d ∙ sym (part_is ∙ rw (some_is read_name (drop p s) _ x xs f, skip_none s o.next 41 u))

        pub of_done : {i : ℕ} → Some i ≡ read_end s (byte 41 (drop o.next s)) → Some (record { next = i; over = o.over; unknown = o.unknown; repeated = o.repeated; count = o.count; places = o.places }) ≡ of_at ns s at
        unfolding streams_seen left_at seen bind
        of_done {i} u = named go
          where
            go : By (Some (record { next = i; over = o.over; unknown = o.unknown; repeated = o.repeated; count = o.count; places = o.places }) ≡ of_at ns s at)
            go [] f g = absurd (n (ap (λ y. y.count) g))
            go (x ∷ xs) f g =
                sym (part_is ∙ rw (some_is read_name (drop p s) _ x xs f, skip_is s o.next 41 u, place_left s i (skip_within s o.next 41 u), ap (λ y. y.over) g, ap (λ y. y.unknown) g, ap (λ y. y.repeated) g, ap (λ y. y.count) g, ap (λ y. y.places) g))

pub ruleset of_ends = (of_absent, of_unread, of_empty, of_unclosed, of_done)

-- ---- what it shows

module _ (s : Bytes) (at : ℕ) where
  abbrev star_word : List Bytes
  star_word = bytes "*" ∷ []

  pub star_wordless : {r : Found Shown} → None ≡ word_found s at → r ≡ None → r ≡ star_at s at
  unfolding star_at seen bind keywords_compute
  star_wordless v e = e ∙ sym (rw (table_none itself star_word tt s at v))

  module _ {w : Word} (v : Some w ≡ word_found s at) where
    star_is : read_word itself star_word (drop at s) ≡ bind (cond (eqb 42 w.code) (some (bytes "*")) none) (λ h. some (record { what = h; left = drop w.next s }))
    unfolding keywords_compute
    star_is = table_some itself star_word tt s at v

    pub star_other : (w.code ≡ 42 → ⊥) → None ≡ star_at s at
    unfolding star_at seen bind
    star_other f = sym (rw (star_is, ne_eqb 42 w.code (λ z. f (sym z))))

    module _ (z : w.code ≡ 42) where
      pub star_unclosed : {r : Found Shown} → None ≡ read_end s (byte 41 (drop w.next s)) → r ≡ None → r ≡ star_at s at
      unfolding star_at seen bind
      star_unclosed u e = e ∙ sym (rw (star_is, z, skip_none s w.next 41 u))

      pub star_closed : {r : Shown} {i : ℕ} → Some i ≡ read_end s (byte 41 (drop w.next s)) → r ≡ shown_all i → Some r ≡ star_at s at
      unfolding star_at star_seen left_at seen bind
      star_closed {r} {i} u e = ap Some e ∙ sym (rw (star_is, z, skip_is s w.next 41 u, place_left s i (skip_within s w.next 41 u)))

pub ruleset star_ends = (star_wordless, star_other, star_unclosed, star_closed)

-- without a space nothing is read
unspaced_star : (bs : Bytes) → byte 32 bs ≡ none → star_next bs ≡ false
unfolding star_next byte ensure
unspaced_star [] e = refl
unspaced_star (b ∷ []) e = refl
unspaced_star (b ∷ (c ∷ bs)) e = go (eqb 32 b) e
  where
    go : (x : Bool) → ensure {A = Read (Unit {0})} x (record { what = tt; left = c ∷ bs }) ≡ none → (x && eqb 42 c) ≡ false
    go true e = absurd (none-ne-some _ (sym e))
    go false e = refl

unspaced_some : {A : Type 0} (item : Reader A) (leaves : Leaves item) (bs : Bytes) → byte 32 bs ≡ none → any_some closes item bs ≡ none
unfolding bind
unspaced_some item leaves bs e = go (closes bs) (items_step closes no_close item leaves bs ∙ rw e)
  where
    go : (x : Bool) → any_items closes item bs ≡ cond x (some (record { what = []; left = bs })) none → any_some closes item bs ≡ none
    go true f = some_not item bs bs f
    go false f = some_none item bs f

-- after a space there is one or more
spaced_some : {A X : Type 0} (item : Reader A) (leaves : Leaves item) (bs : Bytes) (r : Read (List A)) → closes bs ≡ false → any_items closes item bs ≡ some r → ((x : A) (xs : List A) → r.what ≡ x ∷ xs → X) → X
spaced_some item leaves bs r c e k =
    let f : any_items closes item bs ≡ bind (byte 32 bs) (λ s. bind (item s.left) (λ a. bind (any_items closes item a.left) (λ xs. some (record { what = a.what ∷ xs.what; left = xs.left })))) = items_step closes no_close item leaves bs ∙ rw c in
    from _ _ (sym f ∙ e) (λ s p q. from _ _ q (λ a u v. from _ _ v (λ xs y z. k a.what xs.what (sym (done (λ x. a.what ∷ xs.what ≡ x.what) z refl)))))

-- a star after a space
star_next_is : (bs l : Bytes) → byte 32 bs ≡ some (record { what = tt; left = l }) → star_next bs ≡ eqb 42 (get_or l 0 0)
unfolding star_next byte ensure
star_next_is [] l e = absurd (none-ne-some _ e)
star_next_is (b ∷ []) l e = go (eqb 32 b) e
  where
    go : (x : Bool) → ensure {A = Read (Unit {0})} x (record { what = tt; left = [] }) ≡ some (record { what = tt; left = l }) → false ≡ eqb 42 (get_or l 0 0)
    go true e = done (λ y. false ≡ eqb 42 (get_or y.left 0 0)) e refl
    go false e = absurd (none-ne-some _ e)
star_next_is (b ∷ (c ∷ bs)) l e = go (eqb 32 b) e
  where
    go : (x : Bool) → ensure {A = Read (Unit {0})} x (record { what = tt; left = c ∷ bs }) ≡ some (record { what = tt; left = l }) → (x && eqb 42 c) ≡ eqb 42 (get_or l 0 0)
    go true e = done (λ y. eqb 42 c ≡ eqb 42 (get_or y.left 0 0)) e refl
    go false e = absurd (none-ne-some _ e)

-- nor does a bracket close there
spaced_open : (bs : Bytes) {r : Read (Unit {0})} → byte 32 bs ≡ some r → closes bs ≡ false
unfolding byte ensure closes
spaced_open [] e = refl
spaced_open (b ∷ bs) {r} e = go (eqb 32 b) refl e
  where
    go : (x : Bool) → eqb 32 b ≡ x → ensure {A = Read (Unit {0})} x (record { what = tt; left = bs }) ≡ some r → eqb 41 b ≡ false
    go true d e = let z : 32 ≡ b = eqb-true 32 b d in rw (sym z)
    go false d e = absurd (none-ne-some _ e)

none_shown : (bs : Bytes) → star_next bs ≡ false → any_some closes read_ref bs ≡ none → any_show bs ≡ none
unfolding any_show read_show any_some bind
none_shown bs f g = rw (f, g)

-- a star and a bracket, read at once
module _ (ns : List ℕ) (s : Bytes) where
  abbrev starred : Option (Read Bytes) → Option (Read Show)
  starred o = bind {A = Read Show} (bind o (λ x. some (record { what = G.everything; left = x.left }))) (λ a. bind (byte 41 a.left) (λ u. some (record { what = a.what; left = u.left })))

  star_read_is : (o : Option (Read Bytes)) → seen (star_seen s) (bind o (λ r. byte 41 r.left)) ≡ seen (show_seen ns s) (starred o)
  unfolding seen star_seen show_seen show_of bind left_at
  star_read_is none = refl
  star_read_is (some x) = go (byte 41 x.left)
    where
      go : (u : Option (Read (Unit {0}))) → seen (star_seen s) u ≡ seen (show_seen ns s) (bind u (λ v. some (record { what = G.everything; left = v.left })))
      go none = refl
      go (some u) = refl

  star_shut : (p : ℕ) → star_at s p ≡ seen (show_seen ns s) (starred (read_word itself (bytes "*" ∷ []) (drop p s)))
  unfolding star_at
  star_shut p = star_read_is (read_word itself (bytes "*" ∷ []) (drop p s))

  -- after a space
  starred_is : (p : ℕ) {i : ℕ} → Some i ≡ read_end s (byte 32 (drop p s))
      → bind (read_star (drop p s)) (λ x. some (record { what = G.everything; left = x.left })) ≡ bind {B = Read Show} (read_word itself (bytes "*" ∷ []) (drop i s)) (λ x. some (record { what = G.everything; left = x.left }))
  unfolding read_star ◌>>◌ bind
  starred_is p sp = rw (skip_is s p 32 sp)

module _ (ns : List ℕ) (s : Bytes) (at : ℕ) where
  pub show_absent : {r : Found Shown} → None ≡ part_end s at 0x73686f77 → r ≡ None → r ≡ show_at ns s at
  unfolding show_at seen
  show_absent e d = d ∙ sym (rw (part_none s at show_word any_show e))

  module _ {p : ℕ} (e : Some p ≡ part_end s at 0x73686f77) where
    -- what stands inside, with its bracket
    abbrev shut : Option (Read Show) → Option (Read Show)
    shut o = bind o (λ a. bind (byte 41 a.left) (λ u. some (record { what = a.what; left = u.left })))

    show_is : show_at ns s at ≡ seen (show_seen ns s) (shut (any_show (drop p s)))
    unfolding show_at
    show_is = ap (seen (show_seen ns s)) (part_some s at show_word e any_show)

    show_none : any_show (drop p s) ≡ none → show_at ns s at ≡ None
    unfolding seen bind
    show_none f = show_is ∙ rw f

    pub show_unspaced : {r : Found Shown} → None ≡ read_end s (byte 32 (drop p s)) → r ≡ None → r ≡ show_at ns s at
    show_unspaced u d = d ∙ sym (show_none nothing)
      where
        nothing : any_show (drop p s) ≡ none
        nothing = let g = skip_none s p 32 u in none_shown (drop p s) (unspaced_star (drop p s) g) (unspaced_some read_ref ref_leaves (drop p s) g)

    module _ {i : ℕ} (sp : Some i ≡ read_end s (byte 32 (drop p s))) {c : ℕ} (v : c ≡ get_or s i 0) where
      star_here : star_next (drop p s) ≡ eqb 42 c
      star_here = star_next_is (drop p s) (drop i s) (skip_is s p 32 sp) ∙ ap (eqb 42) (first_byte s i ∙ sym v)

      pub show_star : {r : Found Shown} → c ≡ 42 → r ≡ star_at s i → r ≡ show_at ns s at
      unfolding any_show read_show
      show_star z d =
          d ∙ star_shut ns s i ∙ sym (show_is ∙ ap (λ o. seen (show_seen ns s) (shut o)) (rw (star_here, z) (starred_is ns s p sp)))

      module _ (n : c ≡ 42 → ⊥) where
        listed_is : any_show (drop p s) ≡ bind (any_some closes read_ref (drop p s)) (λ rs. some (record { what = G.listed rs.what; left = rs.left }))
        unfolding any_show read_show any_some
        listed_is = rw (star_here, ne_eqb 42 c (λ z. n (sym z)))

        pub show_unread : {r : Found Shown} → None ≡ columns_at ns false s p → r ≡ None → r ≡ show_at ns s at
        unfolding columns_at columns_reading ends_by bind
        show_unread q d = d ∙ sym (show_none (listed_is ∙ rw (some_none read_ref (drop p s) (read_none (columns_reading ns false s) p q))))

        module _ {k : Columns} (q : Some k ≡ columns_at ns false s p) where
          columns_here : {X : Type 0} → ((x : Ref) (xs : List Ref) → any_items closes read_ref (drop p s) ≡ some (record { what = x ∷ xs; left = drop k.next s }) → k ≡ columns_seen ns s (record { what = x ∷ xs; left = drop k.next s }) → X) → X
          unfolding columns_at columns_reading ends_by
          columns_here {X} f =
              read_here (columns_reading ns false s) p q
              (λ ys g h. spaced_some read_ref ref_leaves (drop p s) _ (spaced_open (drop p s) (skip_is s p 32 sp)) g
              (λ x xs z. f x xs (g ∙ ap (λ y. some (record { what = y; left = drop k.next s })) z) (h ∙ ap (λ y. columns_seen ns s (record { what = y; left = drop k.next s })) z)))

          -- there is a place after its bracket
          pub listed_fits : length s < 2 ^ 64 → Fits w64 (k.next + 1)
          listed_fits l = columns_here (λ x xs g h. let i = list_inside read_ref ref_leaves s p k.next (x ∷ xs) g in record { fits = omega arith })

          pub show_done : {r : Shown} → r ≡ shown_listed k (k.next + 1) → Some r ≡ show_at ns s at
          unfolding bind seen show_seen left_at show_of shown_listed columns_seen
          show_done d =
              columns_here
              (λ x xs g h.
              let i = list_closed read_ref ref_leaves s p k.next (x ∷ xs) g in
              let l = list_inside read_ref ref_leaves s p k.next (x ∷ xs) g in
              ap Some d ∙ sym (show_is ∙ rw (listed_is, some_is read_ref (drop p s) _ x xs g, close_is s k.next refl i, place_left s (k.next + 1) (omega arith), ap (λ y. y.over) h, ap (λ y. y.unknown) h, ap (λ y. y.repeated) h, ap (λ y. y.mask) h)))

pub ruleset show_ends = (show_absent, show_unspaced, show_star, show_unread, show_done)
