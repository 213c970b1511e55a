-- What readers read at a place of a text, by what the code finds there or does not.
use mathlib.Core.Path.{◌≡◌, refl, sym, ap, ◌∙◌}
use mathlib.Core.List.{[], ◌∷◌}
use mathlib.Core.Bool.{Bool, true, false, ◌&&◌, not, cond}
use mathlib.Core.Option.{Option, none, some, none-ne-some}
use Prim.Native.Nat.{ℕ, ◌≤◌}
use native.Mathlib.Omega.{arith}
use lib.IntN.{ℤ, pos}
use lib.Dec.{eqb, ltb}
use lib.ListN.{length, drop}
use borrow.Author.Tests.{ne_eqb}
use Rattle.std.specs.Prelude.{unwrap_or, is_some, is_none}
use Rattle.syntax.specs.Grammar.{Bytes, Verb, Body, right_word, verb_word}
use Rattle.syntax.specs.Limits.{max_line, short, is_value, is_time, natural}
use Rattle.syntax.specs.Readers.{Read, Reader, bind, ensure, ◌>>=◌, ◌>>◌, give, byte, read_word, read_open, read_name, read_int, head_word, heads, kind_word, kinds, rights, word_opens, part_opens, read_part, read_body, read_as, parse, parse_as}
use Rattle.syntax.proofs.Leaving.{open_leaves}
use Rattle.syntax.proofs.Steps.{done}
use Rattle.text.specs.declared.Name.{Name}
use Rattle.text.specs.declared.Number.{Number}
use Rattle.text.specs.declared.Word.{Word}
use Rattle.text.specs.declared.Unread.{Unread}
use Rattle.text.specs.declared.Unread.TheVariants.{TooLong, Malformed}
use Rattle.text.specs.Words.{Found, Some, None, read_end, code_of, name_seen, name_found, clamp, number_seen, number_found, value_given, value_kept, time_given, time_kept}
use Rattle.text.specs.Keywords.{Result, Ok, Err, ok_or, option_and_then, coded, word_found, opening_end, part_end, line_after, too_long, keywords_compute}
use Rattle.text.specs.Readings.{whole, closed}
use Rattle.text.proofs.Ranges.{value_clamp, given_clamp}
use Rattle.text.proofs.Views.{no_some, read_none, read_beyond, read_within, read_here, name_reading, number_reading, end_none, end_is, end_within, end_beyond, skip_none, skip_is, skip_within}
use Rattle.text.proofs.Keywords.{table_none, table_some, found_within}
use Rattle.text.proofs.Places.{Spells, spelt_name, spelt_above, open_what, opens_not, opens_is}
use Rattle.text.proofs.Lines.{after_open}

-- ---- names

module _ (s : Bytes) (p : ℕ) where
  pub name_none : None ≡ name_found s p → read_name (drop p s) ≡ none
  unfolding name_found name_reading
  name_none e = read_none (name_reading s) p e

  module _ {n : Name} (e : Some n ≡ name_found s p) where
    pub name_some : {X : Type 0}
        → ((w : Bytes) → read_name (drop p s) ≡ some (record { what = w; left = drop n.next s }) → n.long ≡ not (short w) → n.code ≡ cond (short w) (code_of w) 0 → X) → X
    unfolding name_found name_reading name_seen
    name_some f = read_here (name_reading s) p e (λ w r m. f w r (ap (λ x. x.long) m) (ap (λ x. x.code) m))

    pub name_within : n.next ≤ length s
    unfolding name_found name_reading
    name_within = read_within (name_reading s) p e

    pub name_beyond : p ≤ length s → p ≤ n.next
    unfolding name_found name_reading
    name_beyond h = read_beyond (name_reading s) p e h

  -- ---- numbers

  pub number_none : None ≡ number_found s p → read_int (drop p s) ≡ none
  unfolding number_found number_reading
  number_none e = read_none (number_reading s) p e

  module _ {n : Number} (e : Some n ≡ number_found s p) where
    pub number_some : {X : Type 0} → ((z : ℤ) → read_int (drop p s) ≡ some (record { what = z; left = drop n.next s }) → n.value ≡ clamp z → X) → X
    unfolding number_found number_reading number_seen
    number_some f = read_here (number_reading s) p e (λ z r m. f z r (ap (λ x. x.value) m))

    pub number_within : n.next ≤ length s
    unfolding number_found number_reading
    number_within = read_within (number_reading s) p e

    pub number_beyond : p ≤ length s → p ≤ n.next
    unfolding number_found number_reading
    number_beyond h = read_beyond (number_reading s) p e h

-- what is kept of a number as it was read is what is kept of the number
pub value_is : (z : ℤ) {k : Found ℤ} {x : ℤ} → k ≡ value_given x → x ≡ clamp z → k ≡ value_given z
value_is z e d = e ∙ ap value_given d ∙ value_clamp z

pub time_is : (z : ℤ) {t : Found ℕ} {x : ℤ} → t ≡ time_given x → x ≡ clamp z → t ≡ time_given z
time_is z e d = e ∙ ap time_given d ∙ given_clamp z

-- what `is_none` ensures
pub none_is : {A : Type 0} (o : Found A) {b : Bool} → is_some o ≡ not b → b ≡ is_none o
none_is o {b} e = go b ∙ ap not (sym e)
  where
    go : (x : Bool) → x ≡ not (not x)
    go true = refl
    go false = refl

-- whether it is kept, and as what
pub value_flag : (z : ℤ) → is_none (value_given z) ≡ not (is_value z)
unfolding value_given
value_flag z = go (is_value z)
  where
    go : (b : Bool) → is_none (cond b (Some z) None) ≡ not b
    go true = refl
    go false = refl

pub value_or : (z : ℤ) → unwrap_or (value_given z) (pos 0) ≡ value_kept z
unfolding value_given value_kept
value_or z = go (is_value z)
  where
    go : (b : Bool) → unwrap_or (cond b (Some z) None) (pos 0) ≡ cond b z (pos 0)
    go true = refl
    go false = refl

pub time_flag : (z : ℤ) → is_none (time_given z) ≡ not (is_time z)
unfolding time_given
time_flag z = go (is_time z)
  where
    go : (b : Bool) → is_none (cond b (Some (natural z)) None) ≡ not b
    go true = refl
    go false = refl

pub time_or : (z : ℤ) → unwrap_or (time_given z) 0 ≡ time_kept z
unfolding time_given time_kept
time_or z = go (is_time z)
  where
    go : (b : Bool) → unwrap_or (cond b (Some (natural z)) None) 0 ≡ cond b (natural z) 0
    go true = refl
    go false = refl

-- ---- words of a table: the heads of conditions, rights, the first words of forms

module _ (s : Bytes) (p : ℕ) where
  pub head_none : None ≡ word_found s p → read_word head_word heads (drop p s) ≡ none
  unfolding keywords_compute
  head_none e = table_none head_word heads tt s p e

  pub right_none : None ≡ word_found s p → read_word right_word rights (drop p s) ≡ none
  unfolding keywords_compute
  right_none e = table_none right_word rights tt s p e

  pub form_none : None ≡ word_found s p → read_word kind_word kinds (drop p s) ≡ none
  unfolding keywords_compute
  form_none e = table_none kind_word kinds tt s p e

  module _ {w : Word} (e : Some w ≡ word_found s p) where
    pub head_some : read_word head_word heads (drop p s) ≡ bind (coded head_word heads w.code) (λ h. some (record { what = h; left = drop w.next s }))
    unfolding keywords_compute
    head_some = table_some head_word heads tt s p e

    pub right_some : read_word right_word rights (drop p s) ≡ bind (coded right_word rights w.code) (λ h. some (record { what = h; left = drop w.next s }))
    unfolding keywords_compute
    right_some = table_some right_word rights tt s p e

    pub form_some : read_word kind_word kinds (drop p s) ≡ bind (coded kind_word kinds w.code) (λ h. some (record { what = h; left = drop w.next s }))
    unfolding keywords_compute
    form_some = table_some kind_word kinds tt s p e

    pub word_within : w.next ≤ length s
    word_within = found_within s p e

-- ---- an opening bracket and a keyword

module _ (s : Bytes) (p : ℕ) {c : ℕ} {w : Bytes} (k : Spells c w) where
  opening_is : {o : Found ℕ} → o ≡ opening_end s p c → o ≡ read_end s (read_open w (drop p s))
  unfolding opening_end
  opening_is e = let h = spelt_above k in e ∙ rw (ne_eqb c 0 (λ z. omega arith), spelt_name k)

  pub open_none : None ≡ opening_end s p c → read_open w (drop p s) ≡ none
  open_none e = end_none (open_leaves w) s p (opening_is e)

  pub open_unopened : None ≡ opening_end s p c → word_opens w (drop p s) ≡ false
  open_unopened e = opens_not w (drop p s) (open_none e)

  module _ {q : ℕ} (e : Some q ≡ opening_end s p c) where
    pub open_some : read_open w (drop p s) ≡ some (record { what = w; left = drop q s })
    open_some = end_is (open_leaves w) s p (opening_is e) (λ x f. f ∙ ap (λ y. some (record { what = y; left = drop q s })) (open_what w (drop p s) _ f))

    pub open_opened : word_opens w (drop p s) ≡ true
    open_opened = opens_is w (drop p s) _ open_some

    pub open_within : q ≤ length s
    open_within = end_within (open_leaves w) s p (opening_is e)

    pub open_beyond : p ≤ length s → p ≤ q
    open_beyond h = end_beyond (open_leaves w) s p (opening_is e) h

-- ---- parts: a space, an opening bracket and a keyword

module _ (s : Bytes) (p : ℕ) {c : ℕ} {w : Bytes} (k : Spells c w) where
  part_cases : {X : Type 0} {o : Found ℕ} → o ≡ part_end s p c → (o ≡ None → byte 32 (drop p s) ≡ none → X)
      → ((q : ℕ) → byte 32 (drop p s) ≡ some (record { what = tt; left = drop q s }) → q ≤ length s → o ≡ opening_end s q c → X) → X
  unfolding part_end
  part_cases {X} {o} e f g = go (read_end s (byte 32 (drop p s))) refl e
    where
      go : (u : Found ℕ) → u ≡ read_end s (byte 32 (drop p s)) → o ≡ option_and_then (λ q. opening_end s q c) u → X
      go None t d = f d (skip_none s p 32 t)
      go (Some q) t d = g q (skip_is s p 32 t) (skip_within s p 32 t) d

  parts_not : byte 32 (drop p s) ≡ none → part_opens w (drop p s) ≡ false
  unfolding part_opens byte ensure
  parts_not f = go (drop p s) f
    where
      go : (bs : Bytes) → byte 32 bs ≡ none → part_opens w bs ≡ false
      go [] f = refl
      go (b ∷ bs) f = first (eqb 32 b) f
        where
          first : (x : Bool) → ensure {A = Read (Unit {0})} x (record { what = tt; left = bs }) ≡ none → (x && word_opens w bs) ≡ false
          first true f = absurd (none-ne-some _ (sym f))
          first false f = refl

  parts_is : (q : ℕ) → byte 32 (drop p s) ≡ some (record { what = tt; left = drop q s }) → part_opens w (drop p s) ≡ word_opens w (drop q s)
  unfolding part_opens byte ensure
  parts_is q f = go (drop p s) f
    where
      go : (bs : Bytes) → byte 32 bs ≡ some (record { what = tt; left = drop q s }) → part_opens w bs ≡ word_opens w (drop q s)
      go [] f = absurd (none-ne-some _ f)
      go (b ∷ bs) f = first (eqb 32 b) f
        where
          first : (x : Bool) → ensure {A = Read (Unit {0})} x (record { what = tt; left = bs }) ≡ some (record { what = tt; left = drop q s }) → (x && word_opens w bs) ≡ word_opens w (drop q s)
          first true f = done (λ y. word_opens w bs ≡ word_opens w y.left) f refl
          first false f = absurd (none-ne-some _ f)

  pub part_none : {A : Type 0} (inner : Reader A) → None ≡ part_end s p c → read_part w inner (drop p s) ≡ none
  unfolding read_part ◌>>◌ ◌>>=◌ bind
  part_none inner e = part_cases e (λ y f. rw f) (λ q f l d. rw (f, open_none s q k d))

  pub part_unopened : None ≡ part_end s p c → part_opens w (drop p s) ≡ false
  part_unopened e = part_cases e (λ y f. parts_not f) (λ q f l d. parts_is q f ∙ open_unopened s q k d)

  module _ {r : ℕ} (e : Some r ≡ part_end s p c) where
    pub part_some : {A : Type 0} (inner : Reader A) → read_part w inner (drop p s) ≡ bind (inner (drop r s)) (λ a. bind (byte 41 a.left) (λ u. some (record { what = a.what; left = u.left })))
    unfolding read_part ◌>>◌ ◌>>=◌ give bind
    part_some inner = part_cases e (λ y f. absurd (no_some (sym y))) (λ q f l d. rw (f, open_some s q k d))

    pub part_opened : part_opens w (drop p s) ≡ true
    part_opened = part_cases e (λ y f. absurd (no_some (sym y))) (λ q f l d. parts_is q f ∙ open_opened s q k d)

    pub part_within : r ≤ length s
    part_within = part_cases e (λ y f. absurd (no_some (sym y))) (λ q f l d. open_within s q k d)

-- ---- a line after its first word

ok_err : {A E : Type 0} {a : A} {e : E} → Ok a ≡ Err e → ⊥
ok_err h = cc

after_cases : {R : Type 0} (s : Bytes) (c : ℕ) {o : Result ℕ Unread} → o ≡ line_after s c → (ltb max_line (length s) ≡ true → o ≡ Err TooLong → R)
    → (ltb max_line (length s) ≡ false → None ≡ opening_end s 0 c → o ≡ Err Malformed → R) → ((p : ℕ) → ltb max_line (length s) ≡ false → Some p ≡ opening_end s 0 c → o ≡ Ok p → R) → R
unfolding line_after
after_cases {R} s c {o} e f g h = go (ltb max_line (length s)) (opening_end s 0 c) refl refl e
  where
    go : (b : Bool) (u : Found ℕ) → ltb max_line (length s) ≡ b → u ≡ opening_end s 0 c → o ≡ cond b (Err TooLong) (ok_or u Malformed) → R
    go true u t q d = f t d
    go false None t q d = g t q d
    go false (Some p) t q d = h p t q d

module _ (v : Verb) (s : Bytes) {c : ℕ} (k : Spells c (verb_word v)) where
  pub after_within : {p : ℕ} → Ok p ≡ line_after s c → p ≤ length s
  after_within {p} e =
      after_cases s c e (λ t d. absurd (ok_err d)) (λ t q d. absurd (ok_err d))
      (λ r t q d. let x : p ≡ r = cc in rw x (open_within s 0 k q))

  -- what is made of a line that may be too long, of what it says
  module _ {X : Type 0} (unread : Bool → X) (made : Option (Body v) → X) where
    pub line_unread : made none ≡ unread false → {e : Unread} → Err e ≡ line_after s c → unread (too_long e) ≡ cond (ltb max_line (length s)) (unread true) (made (parse_as v s))
    unfolding parse_as parse read_as ◌>>=◌ bind too_long
    line_unread m {e} q =
        after_cases s c q (λ t d. let x : e ≡ TooLong = cc in rw (x, t))
        (λ t u d. let x : e ≡ Malformed = cc in rw (x, t, open_none s 0 k u, m))
        (λ p t u d. absurd (ok_err (sym d)))

    pub line_read : {p : ℕ} → Ok p ≡ line_after s c → cond (ltb max_line (length s)) (unread true) (made (parse_as v s)) ≡ made (closed (read_body v (length s) (drop p s)))
    unfolding parse_as parse read_as ◌>>=◌ ◌>>◌ give bind whole
    line_read {p} q =
        after_cases s c q (λ t d. absurd (ok_err d)) (λ t u d. absurd (ok_err d))
        (λ r t u d. let x : p ≡ r = cc in rw (x, t, open_some s 0 k u) (ap made (after_open (read_body v (length s) (drop r s)))))
