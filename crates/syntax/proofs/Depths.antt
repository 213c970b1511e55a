-- How deep the brackets of a text nest: as deep as those of its conditions and queries, whatever its words.
use mathlib.Core.Path.{◌≡◌, refl, sym, ap, ap₂, ◌∙◌}
use mathlib.Core.List.{List, [], ◌∷◌, ◌++◌}
use mathlib.Core.Bool.{Bool, true, false, ◌&&◌, ◌||◌, and-true, and_assoc}
use mathlib.Core.Option.{Option, none, some}
use Prim.Native.Nat.{ℕ, suc, ◌+◌, ◌≤◌, ◌<◌, max}
use native.Mathlib.Omega.{arith}
use native.Mathlib.Decide.{dec_le}
use borrow.Author.Tests.{le-leb, lt-leb}
use lib.IntN.{ℤ, pos, negsuc}
use lib.Dec.{T, leb, eqb, eqb→eq, leb→le, le→leb, not_T}
use Rattle.lists.specs.Lists.{every}
use Rattle.lists.proofs.Laws.{parts, and_both, or_cases, T_false, every_weaken, not_or_l, not_or_r}
use Rattle.syntax.specs.Grammar.{Bytes, bytes, Op, eq, Fn, Ref, dotted, time, figure, Operand, ref, number, Test, Cond, test, all, any, neg, Conds, last, more, Form, rows, pick, keep, join, aggregate, Show, everything, listed, Span, GrantLine, Entry, Verb, stream, grant, clock, row, clear, caller, ask, line, Body, digit, letter, alnum, name?, ref?, operand?, test?, cond?, conds?, form?, show?, grant?, entry?, body?, op_word, fn_word, right_word, verb_word, digits_from, put_nat, put_int, put_name, put_ref, put_operand, put_open, put_items, put_cond, put_conds, put_equality, put_form, put_show, put_part, put_when, put_limit, put_window, put_grant, put_entry, put_body, put_line, line_text, query_text}
use Rattle.syntax.specs.Limits.{open_after, depth_from, shallow, cond_depth, conds_depth, form_depth}
use Rattle.syntax.specs.Readers.{plain, compare, head_word, k_fn, kind_word, parse_as, parse_query}
use Rattle.syntax.proofs.Lexical.{name_every, digit_low, digits_every}
use Rattle.syntax.proofs.Items.{some_every}
use Rattle.syntax.proofs.Conditions.{head_known}
use Rattle.syntax.proofs.Queries.{kind_known}
use Rattle.syntax.proofs.Grants.{right_known, from_to, from_from, from_when, from_show, from_of, grant_body}
use Rattle.syntax.proofs.Lines.{verb_plain, parsed_printed, query_parsed_printed}

-- ---- byte by byte

pub depth_least : (n : ℕ) (bs : Bytes) → n ≤ depth_from n bs
unfolding depth_from
depth_least n [] = omega arith
depth_least n (b ∷ bs) = omega arith

pub depth_opens : (n : ℕ) (rest : Bytes) → depth_from n (40 ∷ rest) ≡ depth_from (suc n) rest
unfolding depth_from open_after
depth_opens n rest = let h = depth_least (suc n) rest in omega arith

pub depth_closes : (n : ℕ) (rest : Bytes) → depth_from (suc n) (41 ∷ rest) ≡ max (suc n) (depth_from n rest)
unfolding depth_from open_after
depth_closes n rest = refl

pub depth_spaces : (n : ℕ) (rest : Bytes) → depth_from n (32 ∷ rest) ≡ depth_from n rest
unfolding depth_from open_after
depth_spaces n rest = let h = depth_least n rest in omega arith

open_plain : (b n : ℕ) → T (plain b) → open_after b n ≡ n
unfolding plain open_after
open_plain b n t =
    let u = not_or_r (eqb b 32 || eqb b 40) (eqb b 41) t in
    let v = not_or_r (eqb b 32) (eqb b 40) (not_or_l (eqb b 32 || eqb b 40) (eqb b 41) t) in
    rw (T_false (eqb b 40) v, T_false (eqb b 41) u)

-- a word holds no bracket
pub depth_word : (w : Bytes) (n : ℕ) (rest : Bytes) → T (every plain w) → depth_from n (w ++ rest) ≡ depth_from n rest
unfolding every depth_from
depth_word [] n rest t = refl
depth_word (b ∷ w) n rest t =
    let h = depth_least n rest in
    let e = depth_word w n rest (search parts) in
    rw (open_plain b n (search parts)) (omega arith)

-- ---- names, numbers and columns

plain_of : (b : ℕ) → (b ≡ 32 → ⊥) → (b ≡ 40 → ⊥) → (b ≡ 41 → ⊥) → T (plain b)
unfolding plain
plain_of b x y z =
    not_T (eqb b 32 || eqb b 40 || eqb b 41) (λ t. or_cases (eqb b 32 || eqb b 40) (eqb b 41) t
    (λ u. or_cases (eqb b 32) (eqb b 40) u (λ v. x (eqb→eq b 32 v)) (λ v. y (eqb→eq b 40 v))) (λ v. z (eqb→eq b 41 v)))

digit_plain : (b : ℕ) → T (digit b) → T (plain b)
digit_plain b t = let h = digit_low b t in plain_of b (λ e. omega arith) (λ e. omega arith) (λ e. omega arith)

letter_plain : (b : ℕ) → T (letter b) → T (plain b)
unfolding letter
letter_plain b t = let h = leb→le 97 b (search parts) in plain_of b (λ e. omega arith) (λ e. omega arith) (λ e. omega arith)

alnum_plain : (b : ℕ) → T (alnum b) → T (plain b)
unfolding alnum
alnum_plain b t = or_cases (letter b) (digit b) t (letter_plain b) (digit_plain b)

pub name_plain : (w : Bytes) → T (name? w) → T (every plain w)
name_plain w t = every_weaken alnum plain alnum_plain w (name_every w t)

pub depth_name : (w : Bytes) (n : ℕ) (rest : Bytes) → T (name? w) → depth_from n (put_name w rest) ≡ depth_from n rest
unfolding put_name
depth_name w n rest t = depth_word w n rest (name_plain w t)

depth_nat : (m n : ℕ) (rest : Bytes) → depth_from n (put_nat m rest) ≡ depth_from n rest
unfolding put_nat every
depth_nat m n rest = depth_word (digits_from (suc m) m []) n rest (every_weaken digit plain digit_plain (digits_from (suc m) m []) (digits_every (suc m) m [] tt))

pub depth_int : (z : ℤ) (n : ℕ) (rest : Bytes) → depth_from n (put_int z rest) ≡ depth_from n rest
unfolding put_int every plain
depth_int (pos m) n rest = depth_nat m n rest
depth_int (negsuc m) n rest = depth_word (45 ∷ []) n (put_nat (suc m) rest) tt ∙ depth_nat (suc m) n rest

pub depth_ref : (r : Ref) (n : ℕ) (rest : Bytes) → T (ref? r) → depth_from n (put_ref r rest) ≡ depth_from n rest
unfolding put_ref ref? every plain
depth_ref (dotted a b) n rest t =
    depth_word a n (46 ∷ (b ++ rest)) (name_plain a (search parts)) ∙ depth_word (46 ∷ []) n (b ++ rest) tt ∙ depth_word b n rest (name_plain b (search parts))
depth_ref time n rest t = depth_word (bytes "time") n rest tt
depth_ref figure n rest t = depth_word (bytes "figure") n rest tt

pub depth_operand : (o : Operand) (n : ℕ) (rest : Bytes) → T (operand? o) → depth_from n (put_operand o rest) ≡ depth_from n rest
unfolding put_operand operand?
depth_operand (ref r) n rest t = depth_ref r n rest t
depth_operand (number z) n rest t = depth_int z n rest

pub depth_open : (w : Bytes) (n : ℕ) (rest : Bytes) → T (every plain w) → depth_from n (put_open w rest) ≡ depth_from (suc n) rest
unfolding put_open
depth_open w n rest t = depth_opens n (w ++ rest) ∙ depth_word w (suc n) rest t

-- items that hold no bracket
module _ {A : Type 0} (put : A → Bytes → Bytes) (good : A → Bool) (law : (x : A) (n : ℕ) (rest : Bytes) → T (good x) → depth_from n (put x rest) ≡ depth_from n rest) where
  pub depth_items : (xs : List A) (n : ℕ) (rest : Bytes) → T (every good xs) → depth_from n (put_items put xs rest) ≡ depth_from n rest
  unfolding put_items every
  depth_items [] n rest t = refl
  depth_items (x ∷ xs) n rest t =
      depth_spaces n (put x (put_items put xs rest)) ∙ law x n (put_items put xs rest) (search parts) ∙ depth_items xs n rest (search parts)

-- ---- conditions

op_plain : (o : Op) → T (every plain (op_word o))
unfolding head_word
op_plain o = (head_known (compare o)).1

depth_test : (t : Test) (n : ℕ) (rest : Bytes) → T (test? t) → depth_from n (put_cond (test t) rest) ≡ max (suc n) (depth_from n rest)
unfolding put_cond test?
depth_test t n rest h =
    depth_open (op_word t.op) n (32 ∷ put_ref t.left (32 ∷ put_operand t.right (41 ∷ rest))) (op_plain t.op)
    ∙ depth_spaces (suc n) (put_ref t.left (32 ∷ put_operand t.right (41 ∷ rest)))
    ∙ depth_ref t.left (suc n) (32 ∷ put_operand t.right (41 ∷ rest)) (search parts)
    ∙ depth_spaces (suc n) (put_operand t.right (41 ∷ rest))
    ∙ depth_operand t.right (suc n) (41 ∷ rest) (search parts)
    ∙ depth_closes n rest

mutual
  unfolding put_cond cond? cond_depth every plain

  pub depth_cond : (c : Cond Test) (n : ℕ) (rest : Bytes) → T (cond? c) → depth_from n (put_cond c rest) ≡ max (n + cond_depth c) (depth_from n rest)
  depth_cond (test t) n rest h = let e = depth_test t n rest h in omega arith
  depth_cond (all cs) n rest h =
      let e = depth_open (bytes "and") n (put_conds cs (41 ∷ rest)) tt in
      let f = depth_conds cs (suc n) (41 ∷ rest) h in
      let g = depth_closes n rest in
      omega arith
  depth_cond (any cs) n rest h =
      let e = depth_open (bytes "or") n (put_conds cs (41 ∷ rest)) tt in
      let f = depth_conds cs (suc n) (41 ∷ rest) h in
      let g = depth_closes n rest in
      omega arith
  depth_cond (neg c) n rest h =
      let e = depth_open (bytes "not") n (32 ∷ put_cond c (41 ∷ rest)) tt in
      let s = depth_spaces (suc n) (put_cond c (41 ∷ rest)) in
      let f = depth_cond c (suc n) (41 ∷ rest) h in
      let g = depth_closes n rest in
      omega arith

  pub depth_conds : (cs : Conds Test) (n : ℕ) (rest : Bytes) → T (conds? cs) → depth_from n (put_conds cs rest) ≡ max (n + conds_depth cs) (depth_from n rest)
  depth_conds (last c) n rest h = depth_spaces n (put_cond c rest) ∙ depth_cond c n rest h
  depth_conds (more c cs) n rest h =
      let s = depth_spaces n (put_cond c (put_conds cs rest)) in
      let e = depth_cond c n (put_conds cs rest) (search parts) in
      let f = depth_conds cs n rest (search parts) in
      omega arith

-- ---- queries

fn_plain : (f : Fn) → T (every plain (fn_word f))
unfolding kind_word
fn_plain f = (kind_known (k_fn f)).1

form_deep : (q : Form) → 1 ≤ form_depth q
unfolding form_depth
form_deep (rows s) = omega arith
form_deep (pick c q) = omega arith
form_deep (keep rs q) = omega arith
form_deep (join a b q r) = omega arith
form_deep (aggregate f c size offset q) = omega arith

depth_equality : (a b : Ref) (n : ℕ) (rest : Bytes) → T (ref? a) → T (ref? b) → depth_from n (put_equality a b rest) ≡ max (suc n) (depth_from n rest)
unfolding put_equality
depth_equality a b n rest t u =
    depth_open (op_word eq) n (32 ∷ put_ref a (32 ∷ put_ref b (41 ∷ rest))) (op_plain eq)
    ∙ depth_spaces (suc n) (put_ref a (32 ∷ put_ref b (41 ∷ rest)))
    ∙ depth_ref a (suc n) (32 ∷ put_ref b (41 ∷ rest)) t
    ∙ depth_spaces (suc n) (put_ref b (41 ∷ rest))
    ∙ depth_ref b (suc n) (41 ∷ rest) u
    ∙ depth_closes n rest

pub depth_form : (q : Form) (n : ℕ) (rest : Bytes) → T (form? q) → depth_from n (put_form q rest) ≡ max (n + form_depth q) (depth_from n rest)
unfolding put_form form? form_depth every plain
depth_form (rows s) n rest t =
    let a = depth_open (bytes "in") n (32 ∷ put_name s (41 ∷ rest)) tt in
    let b = depth_spaces (suc n) (put_name s (41 ∷ rest)) in
    let c = depth_name s (suc n) (41 ∷ rest) t in
    let z = depth_closes n rest in
    omega arith
depth_form (pick c q) n rest t =
    let a = depth_open (bytes "pick") n (32 ∷ put_cond c (32 ∷ put_form q (41 ∷ rest))) tt in
    let b = depth_spaces (suc n) (put_cond c (32 ∷ put_form q (41 ∷ rest))) in
    let d = depth_cond c (suc n) (32 ∷ put_form q (41 ∷ rest)) (search parts) in
    let e = depth_spaces (suc n) (put_form q (41 ∷ rest)) in
    let f = depth_form q (suc n) (41 ∷ rest) (search parts) in
    let z = depth_closes n rest in
    omega arith
depth_form (keep rs q) n rest t =
    let a = depth_open (bytes "keep") n (put_items put_ref rs (32 ∷ put_form q (41 ∷ rest))) tt in
    let b = depth_items put_ref ref? depth_ref rs (suc n) (32 ∷ put_form q (41 ∷ rest)) (some_every ref? rs (search parts)) in
    let e = depth_spaces (suc n) (put_form q (41 ∷ rest)) in
    let f = depth_form q (suc n) (41 ∷ rest) (search parts) in
    let z = depth_closes n rest in
    omega arith
depth_form (join x y q r) n rest t =
    let a = depth_open (bytes "join") n (32 ∷ put_equality x y (32 ∷ put_form q (32 ∷ put_form r (41 ∷ rest)))) tt in
    let b = depth_spaces (suc n) (put_equality x y (32 ∷ put_form q (32 ∷ put_form r (41 ∷ rest)))) in
    let c = depth_equality x y (suc n) (32 ∷ put_form q (32 ∷ put_form r (41 ∷ rest))) (search parts) (search parts) in
    let d = depth_spaces (suc n) (put_form q (32 ∷ put_form r (41 ∷ rest))) in
    let e = depth_form q (suc n) (32 ∷ put_form r (41 ∷ rest)) (search parts) in
    let f = depth_spaces (suc n) (put_form r (41 ∷ rest)) in
    let g = depth_form r (suc n) (41 ∷ rest) (search parts) in
    let h = form_deep q in
    let z = depth_closes n rest in
    omega arith
depth_form (aggregate w x y v q) n rest t =
    let a = depth_open (fn_word w) n (32 ∷ put_ref x (32 ∷ put_int y (32 ∷ put_int v (32 ∷ put_form q (41 ∷ rest))))) (fn_plain w) in
    let b = depth_spaces (suc n) (put_ref x (32 ∷ put_int y (32 ∷ put_int v (32 ∷ put_form q (41 ∷ rest))))) in
    let c = depth_ref x (suc n) (32 ∷ put_int y (32 ∷ put_int v (32 ∷ put_form q (41 ∷ rest)))) (search parts) in
    let d = depth_spaces (suc n) (put_int y (32 ∷ put_int v (32 ∷ put_form q (41 ∷ rest)))) in
    let e = depth_int y (suc n) (32 ∷ put_int v (32 ∷ put_form q (41 ∷ rest))) in
    let f = depth_spaces (suc n) (put_int v (32 ∷ put_form q (41 ∷ rest))) in
    let g = depth_int v (suc n) (32 ∷ put_form q (41 ∷ rest)) in
    let h = depth_spaces (suc n) (put_form q (41 ∷ rest)) in
    let i = depth_form q (suc n) (41 ∷ rest) (search parts) in
    let z = depth_closes n rest in
    omega arith

-- ---- parts of lines

-- a part whose inside holds no bracket
depth_part : (w : Bytes) (put : Bytes → Bytes) (n : ℕ) (rest : Bytes) → T (every plain w) → ((m : ℕ) (r : Bytes) → depth_from m (put r) ≡ depth_from m r)
    → depth_from n (put_part w put rest) ≡ max (suc n) (depth_from n rest)
unfolding put_part
depth_part w put n rest t law =
    depth_spaces n (put_open w (put (41 ∷ rest))) ∙ depth_open w n (put (41 ∷ rest)) t ∙ law (suc n) (41 ∷ rest) ∙ depth_closes n rest

-- a number after a space
depth_number : (z : ℤ) (n : ℕ) (rest : Bytes) → depth_from n (32 ∷ put_int z rest) ≡ depth_from n rest
depth_number z n rest = depth_spaces n (put_int z rest) ∙ depth_int z n rest

depth_show : (s : Show) (n : ℕ) (rest : Bytes) → T (show? s) → depth_from n (put_show s rest) ≡ depth_from n rest
unfolding put_show show? every plain
depth_show everything n rest t = depth_spaces n (bytes "*" ++ rest) ∙ depth_word (bytes "*") n rest tt
depth_show (listed rs) n rest t = depth_items put_ref ref? depth_ref rs n rest (some_every ref? rs t)

depth_limit : (w : Bytes) (o : Option ℤ) (n : ℕ) (rest : Bytes) → T (every plain w) → depth_from n (put_limit w o rest) ≤ max (suc n) (depth_from n rest)
unfolding put_limit
depth_limit w none n rest t = omega arith
depth_limit w (some z) n rest t = let e = depth_part w (λ r. 32 ∷ put_int z r) n rest t (depth_number z) in omega arith

depth_window : (o : Option Span) (n : ℕ) (rest : Bytes) → depth_from n (put_window o rest) ≤ max (suc n) (depth_from n rest)
unfolding put_window every plain
depth_window none n rest = omega arith
depth_window (some w) n rest =
    let e = depth_part (bytes "window") (λ r. 32 ∷ put_int w.size (32 ∷ put_int w.offset r)) n rest tt
    (λ m r. depth_number w.size m (32 ∷ put_int w.offset r) ∙ depth_number w.offset m r) in
    omega arith

depth_entry : (e : Entry) (n : ℕ) (rest : Bytes) → T (entry? e) → depth_from n (put_entry e rest) ≡ max (suc n) (depth_from n rest)
unfolding put_entry entry? every plain
depth_entry e n rest t =
    depth_open (bytes "self") n (32 ∷ put_name e.name (32 ∷ put_int e.value (41 ∷ rest))) tt
    ∙ depth_spaces (suc n) (put_name e.name (32 ∷ put_int e.value (41 ∷ rest)))
    ∙ depth_name e.name (suc n) (32 ∷ put_int e.value (41 ∷ rest)) t
    ∙ depth_number e.value (suc n) (41 ∷ rest)
    ∙ depth_closes n rest

depth_entries : (es : List Entry) (n : ℕ) (rest : Bytes) → T (every entry? es) → depth_from n (put_items put_entry es rest) ≤ max (suc n) (depth_from n rest)
unfolding put_items every
depth_entries [] n rest t = omega arith
depth_entries (e ∷ es) n rest t =
    let s = depth_spaces n (put_entry e (put_items put_entry es rest)) in
    let h = depth_entry e n (put_items put_entry es rest) (search parts) in
    let i = depth_entries es n rest (search parts) in
    omega arith

-- ---- tests of depths

leb_same : (a b c d : ℕ) → (a ≤ b → c ≤ d) → (c ≤ d → a ≤ b) → leb a b ≡ leb c d
leb_same a b c d f g = go (dec_le a b)
  where
    go : Dec (a ≤ b) → leb a b ≡ leb c d
    go (yes l) = rw (le-leb a b l, le-leb c d (f l))
    go (no l) = rw (lt-leb a b (omega arith), lt-leb c d (not_below (λ m. l (g m))))
      where
        not_below : (c ≤ d → ⊥) → d < c
        not_below h = omega arith

leb_max : (a b k : ℕ) → leb (max a b) k ≡ (leb a k && leb b k)
leb_max a b k = go (dec_le a k) (dec_le b k)
  where
    go : Dec (a ≤ k) → Dec (b ≤ k) → leb (max a b) k ≡ (leb a k && leb b k)
    go (yes l) (yes m) = rw (le-leb (max a b) k (omega arith), le-leb a k l, le-leb b k m)
    go (yes l) (no m) = rw (lt-leb (max a b) k (omega arith), le-leb a k l, lt-leb b k (omega arith))
    go (no l) m = rw (lt-leb (max a b) k (omega arith), lt-leb a k (omega arith))

-- conditions nest within a depth where each does
conds_shallow : (cs : List (Cond Test)) (n k : ℕ) (rest : Bytes) → T (every cond? cs)
    → leb (depth_from n (put_items put_cond cs rest)) k ≡ (every (λ c. leb (n + cond_depth c) k) cs && leb (depth_from n rest) k)
unfolding put_items every
conds_shallow [] n k rest t = refl
conds_shallow (c ∷ cs) n k rest t =
    ap (λ m. leb m k) (depth_spaces n (put_cond c (put_items put_cond cs rest)) ∙ depth_cond c n (put_items put_cond cs rest) (search parts))
    ∙ leb_max (n + cond_depth c) (depth_from n (put_items put_cond cs rest)) k
    ∙ ap (λ b. leb (n + cond_depth c) k && b) (conds_shallow cs n k rest (search parts))
    ∙ sym (and_assoc (leb (n + cond_depth c) k) (every (λ c. leb (n + cond_depth c) k) cs) (leb (depth_from n rest) k))

when_shallow : (cs : List (Cond Test)) (rest : Bytes) → T (every cond? cs) → depth_from 1 rest ≤ 8 → leb (depth_from 1 (put_when cs rest)) 8 ≡ every (λ c. leb (cond_depth c) 6) cs
unfolding put_when put_part every plain
when_shallow [] rest t l = le-leb (depth_from 1 rest) 8 l
when_shallow (c ∷ cs) rest t l =
    ap (λ m. leb m 8) (depth_spaces 1 (put_open (bytes "when") (put_items put_cond (c ∷ cs) (41 ∷ rest))) ∙ depth_open (bytes "when") 1 (put_items put_cond (c ∷ cs) (41 ∷ rest)) tt)
    ∙ conds_shallow (c ∷ cs) 2 8 (41 ∷ rest) t
    ∙ ap₂ (λ p b. every p (c ∷ cs) && b) (λ i. λ c. leb_same (2 + cond_depth c) 8 (cond_depth c) 6 (λ h. omega arith) (λ h. omega arith) i)
    (le-leb (depth_from 2 (41 ∷ rest)) 8 (let z = depth_closes 1 rest in omega arith))
    ∙ and-true (every (λ c. leb (cond_depth c) 6) (c ∷ cs))

-- ---- lines

-- verbs whose lines hold no condition and no query
unfoldable pub flat : Verb → Bool
flat stream = true
flat grant = false
flat clock = true
flat row = true
flat clear = true
flat caller = true
flat ask = false
flat line = false

depth_line : (v : Verb) (b : Body v) → depth_from 0 (line_text v b) ≡ depth_from 1 (put_body v b (41 ∷ []))
unfolding line_text put_line
depth_line v b = depth_open (verb_word v) 0 (put_body v b (41 ∷ [])) (verb_plain v)

depth_end : depth_from 1 (41 ∷ []) ≡ 1
unfolding depth_from open_after
depth_end = refl

flat_depth : (v : Verb) (b : Body v) → T (flat v) → T (body? v b) → depth_from 1 (put_body v b (41 ∷ [])) ≤ 2
unfolding flat put_body body? every plain
flat_depth stream b f t =
    let e = depth_items put_name name? depth_name (b.name ∷ b.columns) 1 (41 ∷ []) (and_both (name? b.name) _ (search parts) (some_every name? b.columns (search parts))) in
    let z = depth_end in
    omega arith
flat_depth grant b f t = absurd f
flat_depth clock n f t = let e = depth_number n 1 (41 ∷ []) in let z = depth_end in omega arith
flat_depth row b f t =
    let s = depth_spaces 1 (put_name b.name (put_items put_int b.values (41 ∷ []))) in
    let e = depth_name b.name 1 (put_items put_int b.values (41 ∷ [])) (search parts) in
    let i = depth_items put_int (λ z. true) (λ z n rest u. depth_int z n rest) b.values 1 (41 ∷ []) (every_true b.values) in
    let z = depth_end in
    omega arith
  where
    every_true : (zs : List ℤ) → T (every (λ z. true) zs)
    every_true [] = tt
    every_true (z ∷ zs) = every_true zs
flat_depth clear u f t = let z = depth_end in omega arith
flat_depth caller w f t =
    let roles : T (every name? w.roles) = search parts in
    let r = depth_part (bytes "roles") (put_items put_name w.roles) 1 (put_items put_entry w.profile (41 ∷ [])) tt (λ m r. depth_items put_name name? depth_name w.roles m r roles) in
    let e = depth_entries w.profile 1 (41 ∷ []) (search parts) in
    let z = depth_end in
    omega arith
flat_depth ask b f t = absurd f
flat_depth line b f t = absurd f

-- such a line is never too deep
pub shallow_plain : (v : Verb) (b : Body v) → T (flat v) → T (body? v b) → T (shallow 0 (line_text v b))
unfolding shallow
shallow_plain v b f t = le→leb (depth_from 0 (line_text v b)) 8 (let e = depth_line v b in let h = flat_depth v b f t in omega arith)

depth_grant : (g : GrantLine) → T (grant? g) → depth_from 1 (grant_body g []) ≡ max 2 (depth_from 1 (from_when g []))
unfolding grant? every plain
depth_grant g t =
    let names : T (every name? g.of) = some_every name? g.of (search parts) in
    let shows : T (show? g.show) = search parts in
    let a = depth_spaces 1 (put_name g.role (32 ∷ (right_word g.right ++ from_of g []))) in
    let b = depth_name g.role 1 (32 ∷ (right_word g.right ++ from_of g [])) (search parts) in
    let c = depth_spaces 1 (right_word g.right ++ from_of g []) in
    let d = depth_word (right_word g.right) 1 (from_of g []) (right_known g.right).1 in
    let e = depth_part (bytes "of") (put_items put_name g.of) 1 (from_show g []) tt (λ m r. depth_items put_name name? depth_name g.of m r names) in
    let f = depth_part (bytes "show") (put_show g.show) 1 (from_when g []) tt (λ m r. depth_show g.show m r shows) in
    omega arith

depth_limits : (g : GrantLine) → depth_from 1 (from_from g []) ≤ 2
unfolding every plain
depth_limits g =
    let a = depth_limit (bytes "from") g.from 1 (from_to g []) tt in
    let b = depth_limit (bytes "to") g.to 1 (put_window g.window (41 ∷ [])) tt in
    let c = depth_window g.window 1 (41 ∷ []) in
    let z = depth_end in
    omega arith

-- a grant line is not too deep where none of its conditions is
pub shallow_grant : (g : GrantLine) → T (body? grant g) → shallow 0 (line_text grant g) ≡ every (λ c. leb (cond_depth c) 6) g.when
unfolding shallow body? grant? put_body put_grant
shallow_grant g t =
    ap (λ n. leb n 8) (depth_line grant g ∙ depth_grant g t)
    ∙ leb_max 2 (depth_from 1 (from_when g [])) 8
    ∙ when_shallow g.when (from_from g []) (search parts) (let h = depth_limits g in omega arith)

depth_query : (q : Form) (n : ℕ) (rest : Bytes) → T (form? q) → depth_from n rest ≤ suc n → depth_from n (put_form q rest) ≡ n + form_depth q
depth_query q n rest t l = let e = depth_form q n rest t in let h = form_deep q in omega arith

-- nor is a query, by its own depth
pub shallow_query : (q : Form) → T (form? q) → shallow 0 (query_text q) ≡ leb (form_depth q) 8
unfolding shallow query_text depth_from
shallow_query q t = let e = depth_query q 0 [] t (omega arith) in leb_same (depth_from 0 (put_form q [])) 8 (form_depth q) 8 (λ h. omega arith) (λ h. omega arith)

-- a line that asks one has a bracket more
spared : (q : Form) (d : ℕ) → d ≡ 1 + form_depth q → leb d 9 ≡ leb (form_depth q) 8
spared q d e = leb_same d 9 (form_depth q) 8 (λ h. omega arith) (λ h. omega arith)

pub shallow_ask : (q : Form) → T (body? ask q) → shallow 1 (line_text ask q) ≡ leb (form_depth q) 8
unfolding shallow body? put_body
shallow_ask q t =
    spared q (depth_from 0 (line_text ask q)) (depth_line ask q ∙ depth_spaces 1 (put_form q (41 ∷ [])) ∙ depth_query q 1 (41 ∷ []) t (let z = depth_end in omega arith))

pub shallow_line : (l : Body line) → T (body? line l) → shallow 1 (line_text line l) ≡ leb (form_depth l.query) 8
unfolding shallow body? put_body
shallow_line l t =
    spared l.query (depth_from 0 (line_text line l))
    (depth_line line l ∙ depth_number l.route 1 (32 ∷ put_form l.query (41 ∷ [])) ∙ depth_spaces 1 (put_form l.query (41 ∷ []))
    ∙ depth_query l.query 1 (41 ∷ []) t (let z = depth_end in omega arith))

-- ---- the same of texts that were read

pub plain_shallow : (v : Verb) (bs : Bytes) (b : Body v) → T (flat v) → parse_as v bs ≡ some b → T (shallow 0 bs)
plain_shallow v bs b f e = let (t, p) = parsed_printed v bs b e in rw p (shallow_plain v b f t)

pub grant_shallow : (bs : Bytes) (g : GrantLine) → parse_as grant bs ≡ some g → shallow 0 bs ≡ every (λ c. leb (cond_depth c) 6) g.when
grant_shallow bs g e = let (t, p) = parsed_printed grant bs g e in rw p (shallow_grant g t)

pub query_shallow : (bs : Bytes) (q : Form) → parse_query bs ≡ some q → shallow 0 bs ≡ leb (form_depth q) 8
query_shallow bs q e = let (t, p) = query_parsed_printed bs q e in rw p (shallow_query q t)

pub ask_shallow : (bs : Bytes) (q : Form) → parse_as ask bs ≡ some q → shallow 1 bs ≡ leb (form_depth q) 8
ask_shallow bs q e = let (t, p) = parsed_printed ask bs q e in rw p (shallow_ask q t)

pub line_shallow : (bs : Bytes) (l : Body line) → parse_as line bs ≡ some l → shallow 1 bs ≡ leb (form_depth l.query) 8
line_shallow bs l e = let (t, p) = parsed_printed line bs l e in rw p (shallow_line l t)
