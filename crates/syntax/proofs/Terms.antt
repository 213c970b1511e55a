-- Columns and operands: what is printed is read back, and what is read was printed.
use mathlib.Core.Path.{◌≡◌, refl, sym, ap, ap₂, ◌∙◌, subst}
use mathlib.Core.List.{[], ◌∷◌, ◌++◌}
use mathlib.Core.Bool.{Bool}
use mathlib.Core.Option.{some, none-ne-some}
use Prim.Native.Nat.{ℕ}
use lib.IntN.{ℤ}
use lib.Dec.{T, eqb, eqb→eq}
use Rattle.lists.specs.Lists.{every, same_list}
use Rattle.lists.proofs.Laws.{and_r, and_both, parts, T_true, cond_cases, same_list→eq}
use Rattle.syntax.specs.Grammar.{Bytes, bytes, Ref, dotted, time, figure, Operand, ref, number, digit, letter, alnum, name?, ref?, operand?, put_int, put_name, put_ref, put_operand}
use Rattle.syntax.specs.Readers.{Read, bind, ensure, read_int, lone, read_dotted, after_name, read_ref, read_operand}
use Rattle.syntax.proofs.Steps.{Printed, Reads, Follows, space, close, from, ensured, done, Stops}
use Rattle.syntax.proofs.Lexical.{name_stop, name_put, name_read, int_put, int_read, int_first}

-- ---- columns

pub ref_put : (r : Ref) {rest : Bytes} → T (ref? r) → Follows rest → read_ref (put_ref r rest) ≡ some (record { what = r; left = rest })
unfolding ref? put_ref read_ref read_dotted after_name lone bind ensure same_list name? letter digit alnum every put_name
ref_put (dotted n m) {rest} t f = rw (name_stop n (46 ∷ (m ++ rest)) (search parts) refl, name_put m (and_r (name? n) (name? m) t) f)
ref_put time t (space {r}) = rw (name_stop (bytes "time") (32 ∷ r) tt refl)
ref_put time t (close {r}) = rw (name_stop (bytes "time") (41 ∷ r) tt refl)
ref_put figure t (space {r}) = rw (name_stop (bytes "figure") (32 ∷ r) tt refl)
ref_put figure t (close {r}) = rw (name_stop (bytes "figure") (41 ∷ r) tt refl)

lone_was : (n bs : Bytes) (r : Read Ref) → lone n bs ≡ some r → Printed ref? put_ref (put_name n bs) r
unfolding lone put_ref ref? put_name
lone_was n bs r e =
    cond_cases (same_list (bytes "time") n) (some _) _ e
    (λ t d. done (λ x. Printed ref? put_ref (n ++ bs) x) d (tt, ap (λ w. w ++ bs) (sym (same_list→eq (bytes "time") n t))))
    (λ t d. ensured (same_list (bytes "figure") n) d (λ u c.
    subst (λ x. Printed ref? put_ref (n ++ bs) x) c (tt, ap (λ w. w ++ bs) (sym (same_list→eq (bytes "figure") n u)))))

after_was : (n bs : Bytes) (r : Read Ref) → T (name? n) → after_name n bs ≡ some r → Printed ref? put_ref (put_name n bs) r
unfolding after_name read_dotted put_ref ref? put_name
after_was n [] r g e = lone_was n [] r e
after_was n (b ∷ bs) r g e =
    cond_cases (eqb 46 b) (read_dotted n bs) (lone n (b ∷ bs)) e
    (λ t d. from _ _ d (λ m p q.
    let h = name_read.taken bs m p in
    done (λ x. Printed ref? put_ref (n ++ (b ∷ bs)) x) q (and_both (name? n) (name? m.what) g h.0, ap₂ (λ x l. n ++ (x ∷ l)) (sym (eqb→eq 46 b t)) h.1)))
    (λ t d. lone_was n (b ∷ bs) r d)

pub ref_read : Reads ref? put_ref read_ref
unfolding read_ref
ref_read =
    record {
      taken = λ bs r e. from _ _ e (λ n p q.
          let h = name_read.taken bs n p in
          subst (λ l. Printed ref? put_ref l r) (sym h.1) (after_was n.what n.left r h.0 q));
    }

-- a text begins with a byte that passes
abbrev pub Starts : (ℕ → Bool) → Bytes → Type 0
Starts p [] = ⊥
Starts p (b ∷ bs) = T (p b)

name_first : (w rest : Bytes) → T (name? w) → Starts letter (w ++ rest)
unfolding name?
name_first [] rest t = absurd t
name_first (b ∷ w) rest t = search parts

pub ref_first : (r : Ref) (rest : Bytes) → T (ref? r) → Starts letter (put_ref r rest)
unfolding ref? put_ref letter
ref_first (dotted n m) rest t = name_first n (46 ∷ (m ++ rest)) (search parts)
ref_first time rest t = tt
ref_first figure rest t = tt

-- ---- operands

letter_ref : (bs : Bytes) → Starts letter bs → read_operand bs ≡ bind (read_ref bs) (λ r. some (record { what = ref r.what; left = r.left }))
unfolding read_operand
letter_ref [] s = absurd s
letter_ref (b ∷ bs) s = rw (T_true (letter b) s)

other_number : (bs : Bytes) {r : Read ℤ} → Stops letter bs → read_int bs ≡ some r → read_operand bs ≡ some (record { what = number r.what; left = r.left })
unfolding read_operand read_int bind
other_number [] {r} s e = absurd (none-ne-some r e)
other_number (b ∷ bs) s e = rw (s, e)

pub operand_put : (o : Operand) {rest : Bytes} → T (operand? o) → Follows rest → read_operand (put_operand o rest) ≡ some (record { what = o; left = rest })
unfolding put_operand operand? bind
operand_put (ref r) {rest} t f = letter_ref (put_ref r rest) (ref_first r rest t) ∙ rw (ref_put r t f)
operand_put (number z) {rest} t f = other_number (put_int z rest) (int_first z rest) (int_put z f)

operand_was : (bs : Bytes) (r : Read Operand) → read_operand bs ≡ some r → Printed operand? put_operand bs r
unfolding read_operand put_operand operand?
operand_was [] r e = absurd (none-ne-some r e)
operand_was (b ∷ bs) r e =
    cond_cases (letter b) _ _ e
    (λ t d. from _ _ d (λ x p q. let h = ref_read.taken (b ∷ bs) x p in done (λ y. Printed operand? put_operand (b ∷ bs) y) q (h.0, h.1)))
    (λ t d. from _ _ d (λ x p q. let h = int_read.taken (b ∷ bs) x p in done (λ y. Printed operand? put_operand (b ∷ bs) y) q (h.0, h.1)))

pub operand_read : Reads operand? put_operand read_operand
operand_read = record { taken = operand_was }
