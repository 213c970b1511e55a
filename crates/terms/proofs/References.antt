-- What stands at a place where a column may, as the code reads it.
use mathlib.Core.Path.{◌≡◌, refl, sym, ap, ap₂, ◌∙◌}
use mathlib.Core.List.{[], ◌∷◌}
use mathlib.Core.Bool.{Bool, true, false, cond}
use mathlib.Core.Option.{none, some, none-ne-some}
use Prim.Native.Nat.{ℕ}
use lib.Dec.{T, eqb, not_T}
use lib.ListN.{drop}
use borrow.Author.Tests.{eq-eqb, ne_eqb, not-true, not-false}
use Rattle.lists.specs.Lists.{every, same_list}
use Rattle.lists.proofs.Laws.{T_false, same_list→eq, not_both}
use Rattle.syntax.specs.Grammar.{Bytes, bytes, Ref, dotted, time, figure, digit, letter, alnum, name?}
use Rattle.syntax.specs.Limits.{short, short_ref}
use Rattle.syntax.specs.Readers.{Read, bind, ensure, byte, lone, read_dotted, after_name, read_ref}
use Rattle.syntax.proofs.Lexical as X
use Rattle.syntax.proofs.Steps.{done}
use Rattle.syntax.proofs.Leaving.{ref_leaves}
use Rattle.text.specs.declared.Name.{Name}
use Rattle.text.specs.Words.{Found, Some, None, seen, left_at, read_end, code_from, code_of, name_seen, name_found}
use Rattle.text.proofs.Codes.{names_same}
use Rattle.text.proofs.Views.{Reading, read_here, skip_none, skip_is, name_reading}
use Rattle.text.proofs.Found.{name_none}
use Rattle.items.specs.Items.{code_short}
use Rattle.terms.specs.declared.Reference.{Reference}
use Rattle.terms.specs.Terms.{first_code, second_code, ref_seen, ref_at, dotted_of, alone_of}

unfoldable pub ref_reading : (s : Bytes) → Reading Ref Reference s
unfolding ref_seen
ref_reading s = record { item = read_ref; leaves = ref_leaves; made = ref_seen s; next = λ r. r.next; next_made = λ a. refl }

-- ---- what follows a name

after_dot : (w bs l : Bytes) → byte 46 bs ≡ some (record { what = tt; left = l }) → after_name w bs ≡ read_dotted w l
unfolding after_name byte ensure
after_dot w [] l e = absurd (none-ne-some _ e)
after_dot w (x ∷ xs) l e = go (eqb 46 x) e
  where
    go : (b : Bool) → ensure {A = Read (Unit {0})} b (record { what = tt; left = xs }) ≡ some (record { what = tt; left = l }) → cond b (read_dotted w xs) (lone w (x ∷ xs)) ≡ read_dotted w l
    go true e = done (λ y. read_dotted w xs ≡ read_dotted w y.left) e refl
    go false e = absurd (none-ne-some _ e)

after_other : (w bs : Bytes) → byte 46 bs ≡ none → after_name w bs ≡ lone w bs
unfolding after_name byte ensure
after_other w [] e = refl
after_other w (x ∷ xs) e = go (eqb 46 x) e
  where
    go : (b : Bool) → ensure {A = Read (Unit {0})} b (record { what = tt; left = xs }) ≡ none → cond b (read_dotted w xs) (lone w (x ∷ xs)) ≡ lone w (x ∷ xs)
    go true e = absurd (none-ne-some _ (sym e))
    go false e = refl

-- ---- a name that stands alone

long_other : (w v : Bytes) → short w ≡ false → T (short v) → same_list v w ≡ false
long_other w v e t = T_false (same_list v w) (not_T (same_list v w) (λ u. let q = same_list→eq v w u in let h = rw (q, e) at t in absurd h))

lone_long : (w l : Bytes) → short w ≡ false → lone w l ≡ none
unfolding lone ensure short
lone_long w l e = rw (long_other w (bytes "time") e tt, long_other w (bytes "figure") e tt)

module _ (w l : Bytes) (t : T (name? w)) (u : T (short w)) where
  time_same : same_list (bytes "time") w ≡ eqb 0x74696d65 (code_of w)
  unfolding name? letter digit alnum every short code_of code_from
  time_same = names_same (bytes "time") w tt tt t u

  figure_same : same_list (bytes "figure") w ≡ eqb 0x666967757265 (code_of w)
  unfolding name? letter digit alnum every short code_of code_from
  figure_same = names_same (bytes "figure") w tt tt t u

  lone_time : code_of w ≡ 0x74696d65 → lone w l ≡ some (record { what = time; left = l })
  unfolding lone
  lone_time e = rw (time_same, eq-eqb 0x74696d65 (code_of w) (sym e))

  module _ (f : code_of w ≡ 0x74696d65 → ⊥) where
    lone_figure : code_of w ≡ 0x666967757265 → lone w l ≡ some (record { what = figure; left = l })
    unfolding lone ensure
    lone_figure e = rw (time_same, ne_eqb 0x74696d65 (code_of w) (λ d. f (sym d)), figure_same, eq-eqb 0x666967757265 (code_of w) (sym e))

    lone_other : (code_of w ≡ 0x666967757265 → ⊥) → lone w l ≡ none
    unfolding lone ensure
    lone_other g = rw (time_same, ne_eqb 0x74696d65 (code_of w) (λ d. f (sym d)), figure_same, ne_eqb 0x666967757265 (code_of w) (λ d. g (sym d)))

-- ---- each return

two_names : (s : Bytes) (a w : Read Bytes) → dotted_of (name_seen s a) (name_seen s w) ≡ ref_seen s (record { what = dotted a.what w.what; left = w.left })
unfolding dotted_of name_seen ref_seen short_ref first_code second_code code_short left_at
two_names s a w = rw (not_both (short a.what) (short w.what))

module _ (s : Bytes) (at : ℕ) where
  -- where nothing is read
  missing : read_ref (drop at s) ≡ none → None ≡ ref_at s at
  unfolding ref_at seen
  missing e = sym (rw e)

  -- where something is
  present : {x : Reference} (r : Read Ref) → read_ref (drop at s) ≡ some r → x ≡ ref_seen s r → Some x ≡ ref_at s at
  unfolding ref_at seen
  present r e d = ap Some d ∙ sym (ap (seen (ref_seen s)) e)

  pub ref_nameless : {x : Found Reference} → None ≡ name_found s at → x ≡ None → x ≡ ref_at s at
  unfolding read_ref bind
  ref_nameless p d = d ∙ missing (rw (name_none s at p))

  module _ {n : Name} (p : Some n ≡ name_found s at) where
    ref_after : {X : Type 0} → ((a : Read Bytes) → T (name? a.what) → n ≡ name_seen s a → drop n.next s ≡ a.left → read_ref (drop at s) ≡ after_name a.what (drop n.next s) → X) → X
    unfolding read_ref bind name_found name_reading
    ref_after f = read_here (name_reading s) at p (λ x z m. let a : Read Bytes = record { what = x; left = drop n.next s } in f a ((X.name_read).taken (drop at s) a z).0 m refl (rw z))

    module _ {q : ℕ} (e : Some q ≡ read_end s (byte 46 (drop n.next s))) where
      ref_second : {X : Type 0} → ((a : Read Bytes) → n ≡ name_seen s a → read_ref (drop at s) ≡ read_dotted a.what (drop q s) → X) → X
      ref_second f = ref_after (λ a t m l h. f a m (h ∙ after_dot a.what (drop n.next s) (drop q s) (skip_is s n.next 46 e)))

      pub ref_undotted : {x : Found Reference} → None ≡ name_found s q → x ≡ None → x ≡ ref_at s at
      unfolding read_dotted bind
      ref_undotted v d = ref_second (λ a i h. d ∙ missing (h ∙ rw (name_none s q v)))

      pub ref_dotted : {m : Name} {x : Reference} → Some m ≡ name_found s q → x ≡ dotted_of n m → Some x ≡ ref_at s at
      unfolding read_dotted bind name_found name_reading
      ref_dotted {m} v d =
          ref_second (λ a i h. read_here (name_reading s) q v (λ w z j. let b : Read Bytes = record { what = w; left = drop m.next s } in
          present (record { what = dotted a.what w; left = drop m.next s }) (h ∙ rw z) (d ∙ ap₂ dotted_of i j ∙ two_names s a b)))

    module _ (e : None ≡ read_end s (byte 46 (drop n.next s))) where
      ref_lone : {X : Type 0} → ((a : Read Bytes) → T (name? a.what) → n ≡ name_seen s a → read_ref (drop at s) ≡ lone a.what a.left → X) → X
      ref_lone f = ref_after (λ a t m l h. f a t m (h ∙ after_other a.what (drop n.next s) (skip_none s n.next 46 e) ∙ ap (lone a.what) l))

      pub ref_long : n.long ≡ true → None ≡ ref_at s at
      unfolding name_seen
      ref_long h = ref_lone (λ a t m i. missing (i ∙ lone_long a.what a.left (not-true (short a.what) (sym (ap (λ n. n.long) m) ∙ h))))

      module _ (h : n.long ≡ false) where
        -- a name that is short, and its number
        ref_short : {X : Type 0} → ((a : Read Bytes) → T (name? a.what) → T (short a.what) → n.code ≡ code_of a.what → n.next ≡ left_at s a
            → read_ref (drop at s) ≡ lone a.what a.left → X) → X
        unfolding name_seen
        ref_short f =
            ref_lone (λ a t m i.
            let u : short a.what ≡ true = not-false (short a.what) (sym (ap (λ n. n.long) m) ∙ h) in
            f a t (rw u tt) (ap (λ n. n.code) m ∙ rw u) (ap (λ n. n.next) m) i)

        pub ref_time : {x : Reference} → n.code ≡ 0x74696d65 → x ≡ alone_of n → Some x ≡ ref_at s at
        unfolding alone_of ref_seen short_ref first_code second_code code_of code_from left_at
        ref_time g d =
            ref_short (λ a t u k o i.
            present (record { what = time; left = a.left }) (i ∙ lone_time a.what a.left t u (sym k ∙ g)) (d ∙ rw (g, o)))

        module _ (g : n.code ≡ 0x74696d65 → ⊥) where
          pub ref_figure : {x : Reference} → n.code ≡ 0x666967757265 → x ≡ alone_of n → Some x ≡ ref_at s at
          unfolding alone_of ref_seen short_ref first_code second_code code_of code_from left_at
          ref_figure j d =
              ref_short (λ a t u k o i.
              present (record { what = figure; left = a.left }) (i ∙ lone_figure a.what a.left t u (λ y. g (k ∙ y)) (sym k ∙ j)) (d ∙ rw (j, o)))

          pub ref_other : (n.code ≡ 0x666967757265 → ⊥) → None ≡ ref_at s at
          ref_other j = ref_short (λ a t u k o i. missing (i ∙ lone_other a.what a.left t u (λ y. g (k ∙ y)) (λ y. j (k ∙ y))))

pub ruleset ref_ends = (ref_nameless, ref_undotted, ref_dotted, ref_long, ref_time, ref_figure, ref_other)
