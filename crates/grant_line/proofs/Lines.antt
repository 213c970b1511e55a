-- A grant line: each return of the code that reads what follows its conditions, and of the code that reads all of it.
use mathlib.Core.Path.{◌≡◌, refl, sym, ap, ap₂, ◌∙◌}
use mathlib.Core.List.{List, [], map}
use mathlib.Core.Bool.{Bool, true, false, not, cond}
use mathlib.Core.Option.{Option, none, some}
use Prim.Native.Nat.{ℕ, ◌-◌, ◌≤◌}
use native.Mathlib.Omega.{arith}
use lib.IntN.{ℤ}
use lib.Dec.{leb, ltb}
use lib.ListN.{length, drop, length-drop}
use borrow.Author.Tests.{le-leb, le-ltb, ltb-false}
use Rattle.std.proofs.lemmas.Option.{same_Some}
use Rattle.lists.specs.Lists.{every, gather, empty?}
use Rattle.lists.proofs.Laws.{or_first, or_last}
use Rattle.syntax.specs.Grammar as G
use Rattle.syntax.specs.Grammar.{Bytes, bytes, Show, Span, Test, Cond, right_word}
use Rattle.syntax.specs.Limits.{cond_depth}
use Rattle.syntax.specs.Readers.{Read, Reader, bind, ensure, ◌>>=◌, ◌>>◌, give, byte, read_open, read_name, read_word, rights, closes, read_some, read_cond, read_part, read_optional, read_show, read_limit, read_window, read_when, read_grant, read_body, parse_as}
use Rattle.syntax.proofs.Steps.{from, done, bind_bind}
use Rattle.syntax.proofs.Leaving.{Leaves, leaves_give, leaves_byte, leaves_item, byte_leaves, word_leaves, open_leaves, name_leaves, part_leaves, show_leaves, limit_leaves, window_leaves, optional_leaves}
use Rattle.text.specs.declared.Unread.{Unread}
use Rattle.text.specs.declared.Unread.TheVariants.{TooLong, Malformed}
use Rattle.model.specs.Conditions.{tests}
use Rattle.text.specs.Words.{Found, Some, None, seen, left_at, name_of}
use Rattle.text.specs.Keywords.{Ok, Err, ok_or, opening_end, closes_at, line_after, too_long}
use Rattle.text.specs.Readings.{any_cond, any_some, any_show, closed}
use Rattle.text.proofs.Places.{spelt_name, closed_none, closed_is, closed_not, grant_word, from_word, to_word}
use Rattle.text.proofs.Views.{no_some, Reading, left_drop, read_none, read_here, read_within}
use Rattle.text.proofs.Found as L
use Rattle.text.proofs.Found.{line_unread}
use Rattle.text.proofs.Fuel.{bind_same, no_close, fuel_some, cond_any, any_cond_leaves, any_some_leaves, some_here, show_here}
use Rattle.columns.specs.declared.Streams.{Streams}
use Rattle.columns.specs.Columns.{streams_seen, columns_seen}
use Rattle.conditions.specs.declared.Seen.{Seen}
use Rattle.nodes.specs.Storing.{list_size}
use Rattle.conditions.specs.Seeing.{nodes_of, deep_seen, seen_of, has_room, list_seen, list_stored}
use Rattle.conditions.proofs.Capacity.{grant_room}
use Rattle.grant_line.specs.declared.Holder.{Holder}
use Rattle.grant_line.specs.declared.Shown.{Shown}
use Rattle.grant_line.specs.declared.Limit.{Limit}
use Rattle.grant_line.specs.declared.Window.{Window}
use Rattle.grant_line.specs.declared.GrantLine.{GrantLine}
use Rattle.grant_line.specs.Parts.{Held, read_held, holder_seen, holder_at, of_at, shown_all, shown_listed, show_of, show_seen, show_at, read_whens, WhenRead, limit_seen, limit_at, window_of, window_seen, window_at}
use Rattle.grant_line.proofs.Whens.{seen_cases, seen_next}
use Rattle.grant_line.specs.Lines.{over_read, misplaced_read, grant_read, line_read, unread_line, whens_seen, read_line, line_of, grant_line, After, read_after, rest_read, stored_of, LineRead, RestRead}

-- ---- the parts as they are seen

unfoldable limit_reading : (w s : Bytes) → Reading (Option ℤ) Limit s
unfolding limit_seen
limit_reading w s = record { item = read_limit w; leaves = limit_leaves w; made = limit_seen s; next = λ r. r.next; next_made = λ a. refl }

window_next : (o : Option Span) (n : ℕ) → (window_of o n).next ≡ n
unfolding window_of
window_next none n = refl
window_next (some w) n = refl

unfoldable window_reading : (s : Bytes) → Reading (Option Span) Window s
unfolding window_seen
window_reading s = record { item = read_window; leaves = window_leaves; made = window_seen s; next = λ r. r.next; next_made = λ a. window_next a.what (left_at s a) }

held_leaves : Leaves read_held
unfolding read_held
held_leaves = leaves_byte 32 _ (leaves_item _ _ name_leaves (λ r. leaves_byte 32 _ (leaves_item _ _ (word_leaves right_word rights) (λ w. leaves_give _))))

unfoldable held_reading : (s : Bytes) → Reading Held Holder s
unfolding holder_seen
held_reading s = record { item = read_held; leaves = held_leaves; made = holder_seen s; next = λ r. r.next; next_made = λ a. refl }

unfoldable of_reading : (ns : List ℕ) (s : Bytes) → Reading (List Bytes) Streams s
unfolding streams_seen
of_reading ns s =
    record {
      item = read_part (bytes "of") (any_some closes read_name);
      leaves = part_leaves (bytes "of") (any_some closes read_name) (any_some_leaves closes no_close read_name name_leaves);
      made = streams_seen ns s;
      next = λ r. r.next;
      next_made = λ a. refl;
    }

show_next : (ns : List ℕ) (s : Bytes) (x : Show) (n : ℕ) → (show_of ns s x n).next ≡ n
unfolding show_of shown_all shown_listed
show_next ns s G.everything n = refl
show_next ns s (G.listed rs) n = refl

any_show_leaves : Leaves any_show
unfolding any_show
any_show_leaves = record { front = λ bs r e. (show_leaves (length bs)).front bs r e }

unfoldable show_reading : (ns : List ℕ) (s : Bytes) → Reading Show Shown s
unfolding show_seen
show_reading ns s =
    record {
      item = read_part (bytes "show") any_show;
      leaves = part_leaves (bytes "show") any_show any_show_leaves;
      made = show_seen ns s;
      next = λ r. r.next;
      next_made = λ a. show_next ns s a.what (left_at s a);
    }

-- ---- what follows the conditions

-- where the parts end plays no part
rest_alike : (ns : List ℕ) (s l m : Bytes) (n : ℕ) (h : Holder) (o : Streams) (w : Shown) (c : Seen) (a : After)
    → line_read ns h o w c (limit_seen s (record { what = a.from; left = l })) (limit_seen s (record { what = a.to; left = m })) (window_of a.window n) ≡ rest_read ns h o w c (some a)
unfolding line_read over_read misplaced_read grant_read rest_read limit_seen
rest_alike ns s l m n h o w c a = go a.window
  where
    go : (x : Option Span)
        → line_read ns h o w c (limit_seen s (record { what = a.from; left = l })) (limit_seen s (record { what = a.to; left = m })) (window_of x n)
        ≡ line_read ns h o w c (limit_seen [] (record { what = a.from; left = [] })) (limit_seen [] (record { what = a.to; left = [] })) (window_of x 0)
    go none = unfold window_of in refl
    go (some x) = unfold window_of in refl

module _ (ns : List ℕ) (s : Bytes) (h : Holder) (o : Streams) (w : Shown) (c : Seen) where
  -- nothing is read where a part is not there as it should be
  rest_none : {r : GrantLine} → closed (read_after (drop c.next s)) ≡ none → r ≡ unread_line false → RestRead ns s h o w c r
  unfolding rest_read
  rest_none z d = record { is = d ∙ sym (ap (rest_read ns h o w c) z) }

  from_is : {x : Found Limit} → x ≡ limit_at s c.next (name_of 0x66726f6d) → x ≡ seen (limit_seen s) (read_limit (bytes "from") (drop c.next s))
  unfolding limit_at
  from_is e = e ∙ ap (λ v. seen (limit_seen s) (read_limit v (drop c.next s))) (spelt_name from_word)

  pub rest_fromless : {r : GrantLine} → None ≡ limit_at s c.next (name_of 0x66726f6d) → r ≡ unread_line false → RestRead ns s h o w c r
  unfolding limit_reading read_after ◌>>=◌ bind closed
  rest_fromless e d = rest_none (rw (read_none (limit_reading (bytes "from") s) c.next (from_is e))) d

  module _ {f : Limit} (e : Some f ≡ limit_at s c.next (name_of 0x66726f6d)) where
    pub from_within : f.next ≤ length s
    unfolding limit_reading
    from_within = read_within (limit_reading (bytes "from") s) c.next (from_is e)

    from_here : {X : Type 0} → ((x : Option ℤ) → read_limit (bytes "from") (drop c.next s) ≡ some (record { what = x; left = drop f.next s }) → f ≡ limit_seen s (record { what = x; left = drop f.next s }) → X) → X
    unfolding limit_reading
    from_here k = read_here (limit_reading (bytes "from") s) c.next (from_is e) k

    to_is : {x : Found Limit} → x ≡ limit_at s f.next (name_of 0x746f) → x ≡ seen (limit_seen s) (read_limit (bytes "to") (drop f.next s))
    unfolding limit_at
    to_is i = i ∙ ap (λ v. seen (limit_seen s) (read_limit v (drop f.next s))) (spelt_name to_word)

    pub rest_toless : {r : GrantLine} → None ≡ limit_at s f.next (name_of 0x746f) → r ≡ unread_line false → RestRead ns s h o w c r
    unfolding limit_reading read_after ◌>>=◌ bind closed
    rest_toless i d = from_here (λ x u v. rest_none (rw (u, read_none (limit_reading (bytes "to") s) f.next (to_is i))) d)

    module _ {t : Limit} (i : Some t ≡ limit_at s f.next (name_of 0x746f)) where
      pub to_within : t.next ≤ length s
      unfolding limit_reading
      to_within = read_within (limit_reading (bytes "to") s) f.next (to_is i)

      to_here : {X : Type 0} → ((x : Option ℤ) → read_limit (bytes "to") (drop f.next s) ≡ some (record { what = x; left = drop t.next s }) → t ≡ limit_seen s (record { what = x; left = drop t.next s }) → X) → X
      unfolding limit_reading
      to_here k = read_here (limit_reading (bytes "to") s) f.next (to_is i) k

      pub rest_windowless : {r : GrantLine} → None ≡ window_at s t.next → r ≡ unread_line false → RestRead ns s h o w c r
      unfolding window_at window_reading read_after ◌>>=◌ bind closed
      rest_windowless j d = from_here (λ y u v. to_here (λ z p k. rest_none (rw (u, p, read_none (window_reading s) t.next j)) d))

      module _ {x : Window} (j : Some x ≡ window_at s t.next) where
        rest_here : {X : Type 0}
            → ((a : After) → read_after (drop c.next s) ≡ some (record { what = a; left = drop x.next s }) → f ≡ limit_seen s (record { what = a.from; left = drop f.next s }) → t ≡ limit_seen s (record { what = a.to; left = drop t.next s })
            → x ≡ window_of a.window (length s - length (drop x.next s)) → X) → X
        unfolding window_at window_reading window_seen left_at read_after ◌>>=◌ bind give
        rest_here k =
            from_here (λ y u v. to_here (λ z p q. read_here (window_reading s) t.next j
            (λ a m n. k (record { from = y; to = z; window = a }) (rw (u, p, m)) v q n)))

        module _ {b : Bool} (y : b ≡ closes_at s x.next) where
          pub rest_unclosed : {r : GrantLine} → not b ≡ true → r ≡ unread_line false → RestRead ns s h o w c r
          rest_unclosed q d = rest_here (λ a u v p z. rest_none (ap closed u ∙ closed_not s x.next a y q) d)

          pub rest_done : {r : GrantLine} → not b ≡ false → r ≡ line_read ns h o w c f t x → RestRead ns s h o w c r
          rest_done q d =
              rest_here
              (λ a u v p z.
              record {
                is = d ∙ ap₂ (λ f t. line_read ns h o w c f t x) v p ∙ ap (line_read ns h o w c _ _) z ∙ rest_alike ns s (drop f.next s) (drop t.next s) _ h o w c a
                    ∙ sym (ap (rest_read ns h o w c) (ap closed u ∙ closed_is s x.next a y q));
              })

pub ruleset rest_ends = (rest_fromless, rest_toless, rest_windowless, rest_unclosed, rest_done)

-- ---- the parts of a line, at places of it

-- two readers that read alike at every place of a text
part_agree : {A : Type 0} (v : Bytes) (m k : Reader A) (s : Bytes) → ((q : ℕ) → m (drop q s) ≡ k (drop q s)) → (p : ℕ) → read_part v m (drop p s) ≡ read_part v k (drop p s)
unfolding read_part ◌>>◌ ◌>>=◌
part_agree v m k s f p =
    bind_same (byte 32 (drop p s)) _ _
    (λ a e.
    let d = left_drop (byte_leaves 32) s p a e in
    bind_same (read_open v a.left) _ _
    (λ o i.
    let q = left_drop (open_leaves v) s (length s - length a.left) o (ap (read_open v) d ∙ i) in
    ap (λ x. bind x (λ b. bind (byte 41 b.left) (λ c. give b.what c.left))) (ap m (sym q) ∙ f (length s - length o.left) ∙ ap k q)))

module _ (s : Bytes) (p : ℕ) where
  of_agree : read_part (bytes "of") (read_some closes read_name (length s)) (drop p s) ≡ read_part (bytes "of") (any_some closes read_name) (drop p s)
  of_agree = part_agree (bytes "of") (read_some closes read_name (length s)) (any_some closes read_name) s (λ q. some_here s q read_name name_leaves) p

  show_agree : read_part (bytes "show") (read_show (length s)) (drop p s) ≡ read_part (bytes "show") any_show (drop p s)
  show_agree = part_agree (bytes "show") (read_show (length s)) any_show s (λ q. show_here s q) p

  conds_agree : (q : ℕ) → read_some closes (λ r. read_cond (length s) r) (length s) (drop q s) ≡ any_some closes any_cond (drop q s)
  unfolding any_some
  conds_agree q =
      let h : length (drop q s) ≤ length s = omega (arith, length-drop q s) in
      fuel_some closes no_close (λ r. read_cond (length s) r) any_cond any_cond_leaves (length (drop q s)) (record { same = λ bs l. cond_any (length s) bs (omega arith) }) (length s) (length (drop q s)) (drop q s) (omega arith) h (omega arith)

  when_agree : read_when (length s) (drop p s) ≡ read_whens (drop p s)
  unfolding read_when read_whens read_optional
  when_agree = rw (part_agree (bytes "when") (read_some closes (λ r. read_cond (length s) r) (length s)) (any_some closes any_cond) s conds_agree p)

-- ---- a grant line by its parts

abbrev made : Held → List Bytes → Show → List (Cond Test) → After → G.GrantLine
made h o w c a = record { role = h.role; right = h.right; of = o; show = w; when = c; from = a.from; to = a.to; window = a.window }

-- what follows the conditions
abbrev ended : Held → List Bytes → Show → List (Cond Test) → Reader G.GrantLine
ended h o w c bs = bind (read_after bs) (λ a. some (record { what = made h o w c a.what; left = a.left }))

abbrev tail : Held → List Bytes → Show → List (Cond Test) → Reader G.GrantLine
tail h o w c =
    read_limit (bytes "from") >>= λ from. read_limit (bytes "to") >>= λ to. read_window >>= λ window. give (made h o w c (record { from = from; to = to; window = window }))

tail_is : (h : Held) (o : List Bytes) (w : Show) (c : List (Cond Test)) (bs : Bytes) → tail h o w c bs ≡ ended h o w c bs
unfolding read_after ◌>>=◌ give bind
tail_is h o w c bs =
    sym (bind_bind (read_limit (bytes "from") bs) _ _
    ∙ bind_same (read_limit (bytes "from") bs) _ _ (λ a e. bind_bind (read_limit (bytes "to") a.left) _ _
    ∙ bind_same (read_limit (bytes "to") a.left) _ _ (λ b i. bind_bind (read_window b.left) _ _)))

-- what follows the right
abbrev after_held : ℕ → Held → Reader G.GrantLine
after_held k h = read_part (bytes "of") (read_some closes read_name k) >>= λ o. read_part (bytes "show") (read_show k) >>= λ w. read_when k >>= λ c. tail h o w c

held_first : (k : ℕ) (bs : Bytes) → read_grant k bs ≡ bind (read_held bs) (λ h. after_held k h.what h.left)
unfolding read_grant read_held ◌>>=◌ ◌>>◌ give bind
held_first k bs =
    sym (bind_bind (byte 32 bs) _ _
    ∙ bind_same (byte 32 bs) _ _ (λ a e. bind_bind (read_name a.left) _ _
    ∙ bind_same (read_name a.left) _ _ (λ r i. bind_bind (byte 32 r.left) _ _
    ∙ bind_same (byte 32 r.left) _ _ (λ b j. bind_bind (read_word right_word rights b.left) _ _))))

-- what is made of a line's end
closed_made : {A B : Type 0} (f : A → B) (o : Option (Read A)) → closed (bind o (λ a. some (record { what = f a.what; left = a.left }))) ≡ bind (closed o) (λ a. some (f a))
unfolding closed bind ensure
closed_made f none = refl
closed_made f (some a) = go (byte 41 a.left)
  where
    end : (b : Bool) → ensure b (f a.what) ≡ bind (ensure b a.what) (λ x. some (f x))
    end true = refl
    end false = refl

    go : (o : Option (Read (Unit {0}))) → bind o (λ c. ensure (empty? c.left) (f a.what)) ≡ bind (bind o (λ c. ensure (empty? c.left) a.what)) (λ x. some (f x))
    go none = refl
    go (some c) = end (empty? c.left)

-- ---- what is read of the parts is what the line says, wherever they end

module _ (ns : List ℕ) (s : Bytes) (f t : Limit) (x : Window) where
  held_alike : (a : Held) (l : Bytes) (o : Streams) (w : Shown) (c : Seen) → line_read ns (holder_seen s (record { what = a; left = l })) o w c f t x ≡ line_read ns (holder_seen [] (record { what = a; left = [] })) o w c f t x
  unfolding line_read over_read misplaced_read grant_read holder_seen
  held_alike a l o w c = refl

  of_alike : (a : List Bytes) (l : Bytes) (h : Holder) (w : Shown) (c : Seen) → line_read ns h (streams_seen ns s (record { what = a; left = l })) w c f t x ≡ line_read ns h (streams_seen ns [] (record { what = a; left = [] })) w c f t x
  unfolding line_read over_read misplaced_read grant_read streams_seen
  of_alike a l h w c = refl

  show_alike : (a : Show) (n : ℕ) (h : Holder) (o : Streams) (c : Seen) → line_read ns h o (show_of ns s a n) c f t x ≡ line_read ns h o (show_of ns [] a 0) c f t x
  unfolding line_read over_read misplaced_read grant_read show_of shown_all shown_listed columns_seen
  show_alike G.everything n h o c = refl
  show_alike (G.listed rs) n h o c = refl

  when_alike : (a : List (Cond Test)) (l : Bytes) (h : Holder) (o : Streams) (w : Shown) {c : Seen} → Some c ≡ list_seen ns s 95 6 (some (record { what = a; left = l })) → line_read ns h o w c f t x ≡ line_read ns h o w (whens_seen ns a) f t x
  unfolding line_read over_read misplaced_read grant_read whens_seen list_seen left_at seen_of deep_seen
  when_alike a l h o w {c} q = go (every (λ c. leb (cond_depth c) 6) a) (has_room 95 (list_size (map (nodes_of ns) a))) refl refl
    where
      near : ℕ → Seen
      near n = seen_of ns (gather tests a) n (list_size (map (nodes_of ns) a))

      seen_here : every (λ c. leb (cond_depth c) 6) a ≡ true → has_room 95 (list_size (map (nodes_of ns) a)) ≡ true → c ≡ near (length s - length l)
      seen_here e i = same_Some c (near (length s - length l)) (q ∙ rw (e, i))

      deep_here : every (λ c. leb (cond_depth c) 6) a ≡ false → c ≡ deep_seen (length s - length l)
      deep_here e = same_Some c (deep_seen (length s - length l)) (q ∙ rw e)

      go : (d r : Bool) → every (λ c. leb (cond_depth c) 6) a ≡ d → has_room 95 (list_size (map (nodes_of ns) a)) ≡ r → line_read ns h o w c f t x ≡ line_read ns h o w (whens_seen ns a) f t x
      go true true e i = rw (seen_here e i, e, i)
      go true false e i = absurd (no_some (sym (q ∙ rw (e, i))))
      go false r e i = rw (deep_here e, e)

-- the whole line by what is read of its parts
parts_alike : (ns : List ℕ) (s : Bytes) (a : Held) (b : List Bytes) (g : Show) (cs : List (Cond Test)) (i j k : Bytes) (n : ℕ) {h : Holder} {o : Streams} {w : Shown} {c : Seen}
    → h ≡ holder_seen s (record { what = a; left = i }) → o ≡ streams_seen ns s (record { what = b; left = j }) → w ≡ show_of ns s g n → Some c ≡ list_seen ns s 95 6 (some (record { what = cs; left = k }))
    → (t : After) → rest_read ns h o w c (some t) ≡ read_line ns (made a b g cs t)
unfolding rest_read read_line
parts_alike ns s a b g cs i j k n {h} {o} {w} {c} e f d q t =
    let h₀ = holder_seen [] (record { what = a; left = [] }) in
    let o₀ = streams_seen ns [] (record { what = b; left = [] }) in
    let w₀ = show_of ns [] g 0 in
    let from = limit_seen [] (record { what = t.from; left = [] }) in
    let to = limit_seen [] (record { what = t.to; left = [] }) in
    let span = window_of t.window 0 in
    ap (λ h. line_read ns h o w c from to span) e ∙ held_alike ns s from to span a i o w c
    ∙ ap (λ o. line_read ns h₀ o w c from to span) f ∙ of_alike ns s from to span b j h₀ w c
    ∙ ap (λ w. line_read ns h₀ o₀ w c from to span) d ∙ show_alike ns s from to span g n h₀ o₀ c
    ∙ when_alike ns s from to span cs k h₀ o₀ w₀ q

-- ---- the ends

flat : (h : Holder) (o : Streams) (w : Shown) (c : Seen) (f t : Limit) (x : Window) → over_read h o w c f t x ≡ false → c.deep ≡ false
unfolding over_read
flat h o w c f t x e = or_first c.deep _ (or_last c.over _ (or_last w.over _ (or_last o.over _ (or_last h.long _ e))))

ok_err : {A E : Type 0} {a : A} {e : E} → Ok a ≡ Err e → ⊥
ok_err h = cc

-- a line of another form shows it
pub unread_not : (b : Bool) {r : GrantLine} → r ≡ unread_line b → r.checks.malformed ≡ false → ⊥
unfolding unread_line
unread_not b d e = let z : ◌≡◌ {A = Bool} true false = sym (ap (λ x. x.checks.malformed) d) ∙ e in let j : ◌≡◌ {A = ℕ} 0 1 = cc in omega arith

module _ (ns : List ℕ) (s : Bytes) (ws : List ℕ) where
  nothing_made : line_of ns none ≡ unread_line false
  unfolding line_of
  nothing_made = refl

  pub read_unopened : {e : Unread} {r : GrantLine} → Err e ≡ line_after s 0x6772616e74 → r ≡ unread_line (too_long e) → LineRead ns s ws ws r
  unfolding grant_line
  read_unopened {e} k d = record { is = d ∙ line_unread G.grant s grant_word unread_line (line_of ns) nothing_made k; stored = λ a b. absurd (unread_not (too_long e) d a) }

  module _ {at : ℕ} (k : Ok at ≡ line_after s 0x6772616e74) where
    pub line_short : length s ≤ 512
    unfolding line_after
    line_short = go (ltb 512 (length s)) refl k
      where
        go : (b : Bool) → ltb 512 (length s) ≡ b → Ok at ≡ cond b (Err TooLong) (ok_or (opening_end s 0 0x6772616e74) Malformed) → length s ≤ 512
        go true e q = absurd (ok_err q)
        go false e q = ltb-false 512 (length s) e

    abbrev rest : Option (Read G.GrantLine)
    rest = read_grant (length s) (drop at s)

    parse_is : parse_as G.grant s ≡ closed rest
    unfolding read_body
    parse_is = cond_short ∙ parsed (λ o. o) refl
      where
        parsed : (f : Option G.GrantLine → Option G.GrantLine) → f none ≡ none → cond (ltb 512 (length s)) none (f (parse_as G.grant s)) ≡ f (closed rest)
        parsed f m = L.line_read G.grant s grant_word (λ b. none) f k

        cond_short : parse_as G.grant s ≡ cond (ltb 512 (length s)) none (parse_as G.grant s)
        cond_short = rw (le-ltb 512 (length s) line_short)

    line_is : grant_line ns s ≡ line_of ns (closed rest)
    unfolding grant_line read_body
    line_is = L.line_read G.grant s grant_word unread_line (line_of ns) k

    read_not : {ws' : List ℕ} {r : GrantLine} → rest ≡ none → r ≡ unread_line false → LineRead ns s ws ws' r
    read_not z d = record { is = d ∙ sym (line_is ∙ ap (λ o. line_of ns (closed o)) z ∙ ap (line_of ns) closed_none ∙ nothing_made); stored = λ a b. absurd (unread_not false d a) }

    pub read_unheld : {r : GrantLine} → None ≡ holder_at s at → r ≡ unread_line false → LineRead ns s ws ws r
    unfolding holder_at held_reading bind
    read_unheld e d = read_not (held_first (length s) (drop at s) ∙ rw (read_none (held_reading s) at e)) d

    module _ {h : Holder} (e : Some h ≡ holder_at s at) where
      held_here : {X : Type 0} → ((a : Held) → rest ≡ after_held (length s) a (drop h.next s) → h ≡ holder_seen s (record { what = a; left = drop h.next s }) → X) → X
      unfolding holder_at held_reading bind
      held_here f = read_here (held_reading s) at e (λ a u v. f a (held_first (length s) (drop at s) ∙ rw u) v)

      pub read_unof : {r : GrantLine} → None ≡ of_at ns s h.next → r ≡ unread_line false → LineRead ns s ws ws r
      unfolding of_at of_reading ◌>>=◌ bind
      read_unof i d = held_here (λ a u v. read_not (u ∙ rw (of_agree s h.next, read_none (of_reading ns s) h.next i)) d)

      module _ {o : Streams} (i : Some o ≡ of_at ns s h.next) where
        -- what follows the streams
        abbrev after_of : Held → List Bytes → Reader G.GrantLine
        after_of a b = read_part (bytes "show") (read_show (length s)) >>= λ w. read_when (length s) >>= λ c. tail a b w c

        of_here : {X : Type 0} → ((a : Held) (b : List Bytes) → rest ≡ after_of a b (drop o.next s) → h ≡ holder_seen s (record { what = a; left = drop h.next s }) → o ≡ streams_seen ns s (record { what = b; left = drop o.next s }) → X) → X
        unfolding of_at of_reading ◌>>=◌ bind
        of_here f = held_here (λ a u v. read_here (of_reading ns s) h.next i (λ b p q. f a b (u ∙ rw (of_agree s h.next, p)) v q))

        pub read_unshow : {r : GrantLine} → None ≡ show_at ns s o.next → r ≡ unread_line false → LineRead ns s ws ws r
        unfolding show_at show_reading ◌>>=◌ bind
        read_unshow j d = of_here (λ a b u v p. read_not (u ∙ rw (show_agree s o.next, read_none (show_reading ns s) o.next j)) d)

        module _ {w : Shown} (j : Some w ≡ show_at ns s o.next) where
          pub show_within : w.next ≤ length s
          unfolding show_at show_reading
          show_within = read_within (show_reading ns s) o.next j

          abbrev after_show : Held → List Bytes → Show → Reader G.GrantLine
          after_show a b g = read_when (length s) >>= λ c. tail a b g c

          show_here_is : {X : Type 0}
              → ((a : Held) (b : List Bytes) (g : Show) → rest ≡ after_show a b g (drop w.next s) → h ≡ holder_seen s (record { what = a; left = drop h.next s }) → o ≡ streams_seen ns s (record { what = b; left = drop o.next s })
              → w ≡ show_of ns s g (length s - length (drop w.next s)) → X) → X
          unfolding show_at show_reading show_seen left_at ◌>>=◌ bind
          show_here_is f = of_here (λ a b u v p. read_here (show_reading ns s) o.next j (λ g q m. f a b g (u ∙ rw (show_agree s o.next, q)) v p m))

          module _ (full : length ws ≡ 95) where
            abbrev whens : Option (Read (List (Cond Test)))
            whens = read_whens (drop w.next s)

            seen_is : {ws' : List ℕ} {x : Found Seen} → WhenRead ns s w.next ws ws' x → x ≡ list_seen ns s 95 6 whens
            seen_is y = y.is ∙ ap (λ n. list_seen ns s n 6 whens) full

            -- what the line says, given its conditions
            said_is : (a : Held) (b : List Bytes) (g : Show) (x : Read (List (Cond Test))) → rest ≡ after_show a b g (drop w.next s) → whens ≡ some x
                → closed rest ≡ bind (closed (read_after x.left)) (λ z. some (made a b g x.what z))
            unfolding ◌>>=◌ bind
            said_is a b g x u z =
                ap closed (u ∙ rw (when_agree s w.next, z) (tail_is a b g x.what x.left)) ∙ closed_made (made a b g x.what) (read_after x.left)

            -- conditions that have no room are no line's
            roomy : (a : Held) (b : List Bytes) (g : Show) (x : Read (List (Cond Test))) → rest ≡ after_show a b g (drop w.next s) → whens ≡ some x → has_room 95 (list_size (map (nodes_of ns) x.what)) ≡ false → closed rest ≡ none
            unfolding has_room
            roomy a b g x u z f = go (closed rest) refl
              where
                go : (o : Option G.GrantLine) → closed rest ≡ o → o ≡ none
                go none i = refl
                go (some G) i =
                    from _ _ (sym (said_is a b g x u z) ∙ i)
                    (λ t m n.
                    let v : G.when ≡ x.what = sym (done (λ G'. x.what ≡ G'.when) n refl) in
                    let q = grant_room ns s G (parse_is ∙ i) line_short in
                    let r : list_size (map (nodes_of ns) x.what) ≤ 95 = rw v at q in
                    absurd (let j : ◌≡◌ {A = Bool} true false = sym (rw (le-leb (list_size (map (nodes_of ns) x.what)) 95 r, le-leb (list_size (map (nodes_of ns) x.what)) 255 (omega arith))) ∙ f in let k : ◌≡◌ {A = ℕ} 0 1 = cc in omega arith))

            unread_here : {ws' : List ℕ} {r : GrantLine} → closed rest ≡ none → r ≡ unread_line false → LineRead ns s ws ws' r
            unread_here z d = record { is = d ∙ sym (line_is ∙ ap (line_of ns) z ∙ nothing_made); stored = λ a b. absurd (unread_not false d a) }

            pub read_unwhen : {ws' : List ℕ} {r : GrantLine} → WhenRead ns s w.next ws ws' None → r ≡ unread_line false → LineRead ns s ws ws' r
            unfolding ◌>>=◌ bind
            read_unwhen {ws'} {r} y d = show_here_is (λ a b g u v p m. go a b g u whens refl)
              where
                go : (a : Held) (b : List Bytes) (g : Show) → rest ≡ after_show a b g (drop w.next s) → (o : Option (Read (List (Cond Test)))) → whens ≡ o → LineRead ns s ws ws' r
                go a b g u none z = read_not (u ∙ rw (when_agree s w.next, z)) d
                go a b g u (some x) z =
                    let q : None ≡ list_seen ns s 95 6 (some x) = seen_is y ∙ ap (list_seen ns s 95 6) z in
                    seen_cases ns s 95 6 x.what (λ i t j. unread_here (roomy a b g x u z j) d)
                    (λ i t j. absurd (no_some (q ∙ i x.left)))
                    (λ i t. absurd (no_some (q ∙ i x.left)))

            module _ {ws' : List ℕ} {c : Seen} (y : WhenRead ns s w.next ws ws' (Some c)) where
              when_some : {X : Type 0} → ((x : Read (List (Cond Test))) → whens ≡ some x → Some c ≡ list_seen ns s 95 6 (some x) → c.next ≡ length s - length x.left → X) → X
              unfolding list_seen
              when_some {X} f = go whens refl
                where
                  go : (o : Option (Read (List (Cond Test)))) → whens ≡ o → X
                  go none z = absurd (no_some (sym (seen_is y ∙ ap (list_seen ns s 95 6) z)))
                  go (some x) z = let q = seen_is y ∙ ap (list_seen ns s 95 6) z in f x z q (seen_next ns s 95 6 x.what x.left q)

              pub when_within : c.next ≤ length s
              when_within = when_some (λ x z q m. omega arith)

              abbrev after : Option After
              after = closed (read_after (drop c.next s))

              whens_leaves : Leaves read_whens
              unfolding read_whens
              whens_leaves = optional_leaves (bytes "when") [] _ (part_leaves (bytes "when") (any_some closes any_cond) (any_some_leaves closes no_close any_cond any_cond_leaves))

              -- the line, by its parts
              all_here : {X : Type 0}
                  → ((a : Held) (b : List Bytes) (g : Show) (x : Read (List (Cond Test))) → closed rest ≡ bind after (λ z. some (made a b g x.what z)) → whens ≡ some x → ((z : After) → rest_read ns h o w c (some z) ≡ read_line ns (made a b g x.what z)) → X) → X
              all_here f =
                  show_here_is
                  (λ a b g u v p m.
                  when_some
                  (λ x z q n.
                  let d : drop c.next s ≡ x.left = ap (λ j. drop j s) n ∙ left_drop whens_leaves s w.next x z in
                  f a b g x (said_is a b g x u z ∙ ap (λ t. bind (closed (read_after t)) (λ z. some (made a b g x.what z))) (sym d)) z
                  (parts_alike ns s a b g x.what (drop h.next s) (drop o.next s) x.left (length s - length (drop w.next s)) v p m q)))

              pub read_done : {r : GrantLine} → RestRead ns s h o w c r → LineRead ns s ws ws' r
              unfolding line_of stored_of rest_read bind list_stored line_read
              read_done {r} i =
                  all_here
                  (λ a b g x u z f.
                  record {
                    is = i.is ∙ whole a b g x f after ∙ sym (line_is ∙ ap (line_of ns) u);
                    stored = λ t v. kept a b g x u z after refl t v;
                  })
                where
                  whole : (a : Held) (b : List Bytes) (g : Show) (x : Read (List (Cond Test))) → ((z : After) → rest_read ns h o w c (some z) ≡ read_line ns (made a b g x.what z)) → (e : Option After)
                      → rest_read ns h o w c e ≡ line_of ns (bind e (λ z. some (made a b g x.what z)))
                  whole a b g x f none = refl
                  whole a b g x f (some z) = f z

                  kept : (a : Held) (b : List Bytes) (g : Show) (x : Read (List (Cond Test))) → closed rest ≡ bind after (λ z. some (made a b g x.what z)) → whens ≡ some x
                      → (e : Option After) → after ≡ e → r.checks.malformed ≡ false → r.checks.bound ≡ false → ws' ≡ stored_of ns (parse_as G.grant s) ws
                  kept a b g x u z none m t v = absurd (unread_not false (i.is ∙ ap (rest_read ns h o w c) m) t)
                  kept a b g x u z (some n) m t v =
                      y.stored c refl (flat h o w c _ _ _ (sym (ap (λ r. r.checks.bound) (i.is ∙ ap (rest_read ns h o w c) m)) ∙ v))
                      ∙ ap (λ o. list_stored ns o ws) z ∙ sym (ap (λ o. stored_of ns o ws) (parse_is ∙ u ∙ ap (λ o. bind o (λ z. some (made a b g x.what z))) m))

pub ruleset read_ends = (read_unopened, read_unheld, read_unof, read_unshow, read_unwhen, read_done)
