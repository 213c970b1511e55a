-- The length of each text, as a sum over its parts.
use mathlib.Core.Path.{◌≡◌, refl}
use mathlib.Core.List.{List, [], ◌∷◌}
use mathlib.Core.Bool.{Bool, true, false}
use mathlib.Core.Option.{Option, none, some}
use Prim.Native.Nat.{ℕ, zero, suc, ◌+◌, ◌^◌, ◌/◌, ◌%◌, ◌≤◌, ◌<◌}
use native.Mathlib.Omega.{arith}
use lib.IntN.{ℤ, pos, negsuc}
use lib.ListN.{length, length-append}
use lib.Dec.{T, ltb, leb→le, nltb→le}
use Rattle.syntax.specs.Grammar.{Bytes, bytes, Op, eq, ne, lt, le, gt, ge, Ref, dotted, time, figure, Operand, ref, number, Test, Cond, test, all, any, neg, Conds, last, more, Form, rows, pick, keep, join, aggregate, Show, everything, listed, Span, GrantLine, Entry, Verb, stream, grant, clock, row, clear, caller, ask, line, Body, op_word, fn_word, right_word, verb_word, digits_from, put_nat, put_int, put_name, put_ref, put_operand, put_items, put_cond, put_conds, put_equality, put_form, put_show, put_part, put_when, put_limit, put_window, put_grant, put_entry, put_body, put_line, line_text, query_text}
use Rattle.syntax.specs.Limits.{top, is_value}
use Rattle.syntax.proofs.Lengths.{open_length}

unfoldable pub int_length : ℤ → ℕ
int_length z = length (put_int z [])

unfoldable pub ref_length : Ref → ℕ
ref_length (dotted n m) = suc (length n + length m)
ref_length time = 4
ref_length figure = 6

unfoldable pub operand_length : Operand → ℕ
operand_length (ref r) = ref_length r
operand_length (number z) = int_length z

unfoldable pub test_length : Test → ℕ
test_length t = 4 + length (op_word t.op) + ref_length t.left + operand_length t.right

unfoldable mutual
  pub cond_length : Cond Test → ℕ
  cond_length (test t) = test_length t
  cond_length (all cs) = 5 + conds_length cs
  cond_length (any cs) = 4 + conds_length cs
  cond_length (neg c) = 6 + cond_length c

  pub conds_length : Conds Test → ℕ
  conds_length (last c) = suc (cond_length c)
  conds_length (more c cs) = suc (cond_length c + conds_length cs)

-- items, each after one space
unfoldable pub items_length : {A : Type 0} → (A → ℕ) → List A → ℕ
items_length size [] = 0
items_length size (x ∷ xs) = suc (size x + items_length size xs)

unfoldable pub equality_length : Ref → Ref → ℕ
equality_length a b = 5 + ref_length a + ref_length b

unfoldable pub form_length : Form → ℕ
form_length (rows s) = 5 + length s
form_length (pick c q) = 8 + cond_length c + form_length q
form_length (keep rs q) = 7 + items_length ref_length rs + form_length q
form_length (join a b q r) = 9 + equality_length a b + form_length q + form_length r
form_length (aggregate f c size offset q) = 6 + length (fn_word f) + ref_length c + int_length size + int_length offset + form_length q

unfoldable pub show_length : Show → ℕ
show_length everything = 2
show_length (listed rs) = items_length ref_length rs

unfoldable pub part_length : Bytes → ℕ → ℕ
part_length w n = 3 + length w + n

unfoldable pub when_length : List (Cond Test) → ℕ
when_length [] = 0
when_length (c ∷ cs) = part_length (bytes "when") (items_length cond_length (c ∷ cs))

unfoldable pub limit_length : Bytes → Option ℤ → ℕ
limit_length w none = 0
limit_length w (some n) = part_length w (suc (int_length n))

unfoldable pub window_length : Option Span → ℕ
window_length none = 0
window_length (some w) = part_length (bytes "window") (2 + int_length w.size + int_length w.offset)

-- what follows the word `grant`
unfoldable pub grant_length : GrantLine → ℕ
grant_length g =
    2 + length g.role + length (right_word g.right) + part_length (bytes "of") (items_length length g.of) + part_length (bytes "show") (show_length g.show)
    + when_length g.when + limit_length (bytes "from") g.from + limit_length (bytes "to") g.to + window_length g.window

unfoldable pub entry_length : Entry → ℕ
entry_length e = 8 + length e.name + int_length e.value

unfoldable pub body_length : (v : Verb) → Body v → ℕ
body_length stream b = items_length length (b.name ∷ b.columns)
body_length grant g = grant_length g
body_length clock n = suc (int_length n)
body_length row b = suc (length b.name + items_length int_length b.values)
body_length clear u = 0
body_length caller w = part_length (bytes "roles") (items_length length w.roles) + items_length entry_length w.profile
body_length ask q = suc (form_length q)
body_length line l = 2 + int_length l.route + form_length l.query

unfoldable pub line_length : (v : Verb) → Body v → ℕ
line_length v b = 2 + length (verb_word v) + body_length v b

-- ---- each printer puts as many bytes in front of what follows

pub put_name_length : (n rest : Bytes) → length (put_name n rest) ≡ length n + length rest
unfolding put_name
put_name_length n rest = length-append n rest

pub put_nat_length : (n : ℕ) (rest : Bytes) → length (put_nat n rest) ≡ length (put_nat n []) + length rest
unfolding put_nat
put_nat_length n rest = simp length-append (omega arith)

pub put_int_length : (z : ℤ) (rest : Bytes) → length (put_int z rest) ≡ int_length z + length rest
unfolding int_length put_int put_nat
put_int_length (pos n) rest = simp length-append (omega arith)
put_int_length (negsuc n) rest = simp length-append (omega arith)

pub put_ref_length : (r : Ref) (rest : Bytes) → length (put_ref r rest) ≡ ref_length r + length rest
unfolding ref_length put_ref
put_ref_length (dotted n m) rest = simp length-append (omega arith)
put_ref_length time rest = omega arith
put_ref_length figure rest = omega arith

pub put_operand_length : (o : Operand) (rest : Bytes) → length (put_operand o rest) ≡ operand_length o + length rest
unfolding operand_length put_operand
put_operand_length (ref r) rest = put_ref_length r rest
put_operand_length (number z) rest = put_int_length z rest

module _ {A : Type 0} (put : A → Bytes → Bytes) (size : A → ℕ) (law : (x : A) (rest : Bytes) → length (put x rest) ≡ size x + length rest) where
  pub put_items_length : (xs : List A) (rest : Bytes) → length (put_items put xs rest) ≡ items_length size xs + length rest
  unfolding items_length put_items
  put_items_length [] rest = omega arith
  put_items_length (x ∷ xs) rest = let h = put_items_length xs rest in rw (law x (put_items put xs rest)) (omega arith)

mutual
  unfolding cond_length test_length put_cond

  pub put_cond_length : (c : Cond Test) (rest : Bytes) → length (put_cond c rest) ≡ cond_length c + length rest
  put_cond_length (test t) rest = simp (open_length, put_ref_length, put_operand_length) (omega arith)
  put_cond_length (all cs) rest = let h = put_conds_length cs (41 ∷ rest) in simp open_length (omega arith)
  put_cond_length (any cs) rest = let h = put_conds_length cs (41 ∷ rest) in simp open_length (omega arith)
  put_cond_length (neg c) rest = let h = put_cond_length c (41 ∷ rest) in simp open_length (omega arith)

  pub put_conds_length : (cs : Conds Test) (rest : Bytes) → length (put_conds cs rest) ≡ conds_length cs + length rest
  put_conds_length (last c) rest = let h = put_cond_length c rest in omega arith
  put_conds_length (more c cs) rest = let h = put_cond_length c (put_conds cs rest) in let k = put_conds_length cs rest in omega arith

pub put_equality_length : (a b : Ref) (rest : Bytes) → length (put_equality a b rest) ≡ equality_length a b + length rest
unfolding equality_length put_equality op_word
put_equality_length a b rest = simp (open_length, put_ref_length) (omega arith)

pub put_form_length : (f : Form) (rest : Bytes) → length (put_form f rest) ≡ form_length f + length rest
unfolding form_length put_form put_name
put_form_length (rows s) rest = simp (open_length, length-append) (omega arith)
put_form_length (pick c q) rest = let h = put_form_length q (41 ∷ rest) in simp (open_length, put_cond_length) (omega arith)
put_form_length (keep rs q) rest = let h = put_form_length q (41 ∷ rest) in simp (open_length, put_items_length put_ref ref_length put_ref_length) (omega arith)
put_form_length (join a b q r) rest =
    let h = put_form_length q (32 ∷ put_form r (41 ∷ rest)) in
    let k = put_form_length r (41 ∷ rest) in
    simp (open_length, put_equality_length) (omega arith)
put_form_length (aggregate f c size offset q) rest = let h = put_form_length q (41 ∷ rest) in simp (open_length, put_ref_length, put_int_length) (omega arith)

pub query_text_length : (f : Form) → length (query_text f) ≡ form_length f
unfolding query_text
query_text_length f = let h = put_form_length f [] in omega arith

pub put_show_length : (s : Show) (rest : Bytes) → length (put_show s rest) ≡ show_length s + length rest
unfolding show_length put_show
put_show_length everything rest = omega arith
put_show_length (listed rs) rest = put_items_length put_ref ref_length put_ref_length rs rest

pub put_part_length : (w : Bytes) (put : Bytes → Bytes) (n : ℕ) → ((rest : Bytes) → length (put rest) ≡ n + length rest) → (rest : Bytes) → length (put_part w put rest) ≡ part_length w n + length rest
unfolding part_length put_part
put_part_length w put n law rest = let h = law (41 ∷ rest) in simp open_length (omega arith)

pub put_when_length : (cs : List (Cond Test)) (rest : Bytes) → length (put_when cs rest) ≡ when_length cs + length rest
unfolding when_length put_when
put_when_length [] rest = omega arith
put_when_length (c ∷ cs) rest = put_part_length (bytes "when") _ _ (put_items_length put_cond cond_length put_cond_length (c ∷ cs)) rest

pub put_limit_length : (w : Bytes) (n : Option ℤ) (rest : Bytes) → length (put_limit w n rest) ≡ limit_length w n + length rest
unfolding limit_length put_limit
put_limit_length w none rest = omega arith
put_limit_length w (some n) rest = put_part_length w _ _ (λ r. let h = put_int_length n r in omega arith) rest

pub put_window_length : (w : Option Span) (rest : Bytes) → length (put_window w rest) ≡ window_length w + length rest
unfolding window_length put_window
put_window_length none rest = omega arith
put_window_length (some w) rest = put_part_length (bytes "window") _ _ (λ r. let h = put_int_length w.size (32 ∷ put_int w.offset r) in let k = put_int_length w.offset r in omega arith) rest

put_names_length : (ns : List Bytes) (rest : Bytes) → length (put_items put_name ns rest) ≡ items_length length ns + length rest
put_names_length ns rest = put_items_length put_name length put_name_length ns rest

pub put_grant_length : (g : GrantLine) (rest : Bytes) → length (put_grant g rest) ≡ grant_length g + length rest
unfolding grant_length put_grant put_name
put_grant_length g rest =
    simp (length-append, put_part_length (bytes "of") (put_items put_name g.of) (items_length length g.of) (put_names_length g.of), put_part_length (bytes "show") (put_show g.show) (show_length g.show) (put_show_length g.show), put_when_length, put_limit_length, put_window_length)
    (omega arith)

pub put_entry_length : (e : Entry) (rest : Bytes) → length (put_entry e rest) ≡ entry_length e + length rest
unfolding entry_length put_entry put_name
put_entry_length e rest = simp (open_length, length-append, put_int_length) (omega arith)

pub put_body_length : (v : Verb) (b : Body v) (rest : Bytes) → length (put_body v b rest) ≡ body_length v b + length rest
unfolding body_length put_body put_name
put_body_length stream b rest = put_names_length (b.name ∷ b.columns) rest
put_body_length grant g rest = put_grant_length g rest
put_body_length clock n rest = simp put_int_length (omega arith)
put_body_length row b rest = simp (length-append, put_items_length put_int int_length put_int_length) (omega arith)
put_body_length clear u rest = omega arith
put_body_length caller w rest =
    simp (put_part_length (bytes "roles") (put_items put_name w.roles) (items_length length w.roles) (put_names_length w.roles), put_items_length put_entry entry_length put_entry_length)
    (omega arith)
put_body_length ask q rest = simp put_form_length (omega arith)
put_body_length line l rest = simp (put_int_length, put_form_length) (omega arith)

pub put_line_length : (v : Verb) (b : Body v) (rest : Bytes) → length (put_line v b rest) ≡ line_length v b + length rest
unfolding line_length put_line
put_line_length v b rest = let h = put_body_length v b (41 ∷ rest) in simp open_length (omega arith)

pub line_text_length : (v : Verb) (b : Body v) → length (line_text v b) ≡ line_length v b
unfolding line_text
line_text_length v b = let h = put_line_length v b [] in omega arith

-- ---- numbers

-- a number below a power of ten has no more digits than that power
digits_length : (k j n : ℕ) (ds : Bytes) → n < 10 ^ suc j → length (digits_from k n ds) ≤ suc j + length ds
unfolding digits_from
digits_length zero j n ds h = omega arith
digits_length (suc k) zero n ds h = go (ltb n 10) refl
  where
    go : (b : Bool) → ltb n 10 ≡ b → length {A = ℕ} (elim b [ true ↦ (48 + n) ∷ ds | false ↦ digits_from k (n / 10) ((48 + n % 10) ∷ ds) ]) ≤ 1 + length ds
    go true e = omega arith
    go false e = let l = nltb→le n 10 (rw e tt) in absurd (omega arith)
digits_length (suc k) (suc j) n ds h = go (ltb n 10) (digits_length k j (n / 10) ((48 + n % 10) ∷ ds) (omega arith))
  where
    go : (b : Bool) → length (digits_from k (n / 10) ((48 + n % 10) ∷ ds)) ≤ suc j + suc (length ds)
        → length {A = ℕ} (elim b [ true ↦ (48 + n) ∷ ds | false ↦ digits_from k (n / 10) ((48 + n % 10) ∷ ds) ]) ≤ suc (suc j) + length ds
    go true r = omega arith
    go false r = omega arith

pub value_length : (z : ℤ) → T (is_value z) → int_length z ≤ 11
unfolding is_value int_length put_int put_nat
value_length (pos n) h = let l = leb→le n 2147483647 h in let k = digits_length (suc n) 9 n [] (omega arith) in simp length-append (omega arith)
value_length (negsuc n) h = let l = leb→le n 2147483647 h in let k = digits_length (suc (suc n)) 9 (suc n) [] (omega arith) in simp length-append (omega arith)

pub time_length : (n : ℕ) → n ≤ top → int_length (pos n) ≤ 10
unfolding int_length put_int put_nat
time_length n l = let k = digits_length (suc n) 9 n [] (omega arith) in simp length-append (omega arith)

-- ---- words

pub op_short : (o : Op) → length (op_word o) ≤ 2
unfolding op_word
op_short eq = omega arith
op_short ne = omega arith
op_short lt = omega arith
op_short le = omega arith
op_short gt = omega arith
op_short ge = omega arith
