-- A text is at least as long as the numbers that bound its readers, and the shortest texts.
use mathlib.Core.Path.{◌≡◌, ap}
use mathlib.Core.List.{List, [], ◌∷◌, ◌++◌}
use Prim.Native.Nat.{ℕ, suc, ◌+◌, ◌≤◌, ◌<◌}
use native.Mathlib.Omega.{arith}
use lib.IntN.{ℤ, pos, negsuc}
use lib.Dec.{T}
use lib.ListN.{length, length-append}
use Rattle.lists.proofs.Laws.{parts, all_nil, all_cons}
use Rattle.syntax.specs.Grammar.{Bytes, bytes, Op, Ref, dotted, time, figure, Operand, ref, number, Test, Cond, test, all, any, neg, Conds, last, more, Form, rows, pick, keep, join, aggregate, Show, everything, listed, GrantLine, Entry, eq, ne, lt, le, gt, ge, name?, ref?, operand?, test?, op_word, fn_word, right_word, digits_from, put_nat, put_int, put_name, put_ref, put_operand, put_open, put_items, put_cond, put_conds, put_equality, put_form, put_show, put_part, put_when, put_entry}
use Rattle.syntax.specs.Readers.{numeral}
use Rattle.syntax.proofs.Lexical.{numeral_nat}
use Rattle.syntax.proofs.Conditions.{size, sizes}
use Rattle.syntax.proofs.Queries.{form_size}
use Rattle.syntax.proofs.Grants.{Sized, shown, GrantFits, from_from, from_when, from_show, from_of, grant_body}

pub append_room : (w rest : Bytes) → length rest ≤ length (w ++ rest)
append_room [] rest = omega arith
append_room (b ∷ w) rest = let h = append_room w rest in omega arith

pub name_room : (n rest : Bytes) → length rest ≤ length (put_name n rest)
unfolding put_name
name_room n rest = append_room n rest

pub int_room : (z : ℤ) (rest : Bytes) → length rest ≤ length (put_int z rest)
unfolding put_int put_nat
int_room (pos n) rest = append_room (digits_from (suc n) n []) rest
int_room (negsuc n) rest = let h = append_room (digits_from (suc (suc n)) (suc n) []) rest in omega arith

pub ref_room : (r : Ref) (rest : Bytes) → length rest ≤ length (put_ref r rest)
unfolding put_ref
ref_room (dotted n m) rest = let h = append_room m rest in let l = append_room n (46 ∷ (m ++ rest)) in omega arith
ref_room time rest = append_room (bytes "time") rest
ref_room figure rest = append_room (bytes "figure") rest

pub operand_room : (o : Operand) (rest : Bytes) → length rest ≤ length (put_operand o rest)
unfolding put_operand
operand_room (ref r) rest = ref_room r rest
operand_room (number z) rest = int_room z rest

pub open_room : (w rest : Bytes) → length rest < length (put_open w rest)
unfolding put_open
open_room w rest = let h = append_room w rest in omega arith

pub part_room : (w : Bytes) (put : Bytes → Bytes) (rest : Bytes) → length (put (41 ∷ rest)) + 2 ≤ length (put_part w put rest)
unfolding put_part
part_room w put rest = let h = open_room w (put (41 ∷ rest)) in omega arith

pub items_room : {A : Type 0} (put : A → Bytes → Bytes) → ((x : A) (rest : Bytes) → length rest ≤ length (put x rest)) → (xs : List A) (rest : Bytes)
    → length xs + length rest ≤ length (put_items put xs rest)
unfolding put_items
items_room put room [] rest = omega arith
items_room put room (x ∷ xs) rest = let h = room x (put_items put xs rest) in let l = items_room put room xs rest in omega arith

-- ---- conditions

mutual
  unfolding put_cond

  pub cond_room : (c : Cond Test) (rest : Bytes) → size c + length rest ≤ length (put_cond c rest)
  cond_room (test t) rest =
      let h = open_room (op_word t.op) (32 ∷ put_ref t.left (32 ∷ put_operand t.right (41 ∷ rest))) in
      let k = ref_room t.left (32 ∷ put_operand t.right (41 ∷ rest)) in
      let l = operand_room t.right (41 ∷ rest) in omega arith
  cond_room (all cs) rest = let h = open_room (bytes "and") (put_conds cs (41 ∷ rest)) in let k = conds_room cs (41 ∷ rest) in omega arith
  cond_room (any cs) rest = let h = open_room (bytes "or") (put_conds cs (41 ∷ rest)) in let k = conds_room cs (41 ∷ rest) in omega arith
  cond_room (neg c) rest = let h = open_room (bytes "not") (32 ∷ put_cond c (41 ∷ rest)) in let k = cond_room c (41 ∷ rest) in omega arith

  pub conds_room : (cs : Conds Test) (rest : Bytes) → sizes cs + length rest ≤ length (put_conds cs rest)
  conds_room (last c) rest = let k = cond_room c rest in omega arith
  conds_room (more c cs) rest = let k = cond_room c (put_conds cs rest) in let h = conds_room cs rest in omega arith

pub cond_under : (c : Cond Test) (rest : Bytes) → length rest ≤ length (put_cond c rest)
cond_under c rest = let h = cond_room c rest in omega arith

sized : (n : ℕ) (cs : List (Cond Test)) (rest : Bytes) → length (put_items put_cond cs rest) ≤ n → Sized n cs
unfolding put_items
sized n [] rest h = all_nil
sized n (c ∷ cs) rest h =
    let k = cond_room c (put_items put_cond cs rest) in
    let l : size c ≤ n = omega arith in
    let m : length (put_items put_cond cs rest) ≤ n = omega arith in
    all_cons l (sized n cs rest m)

-- ---- queries

pub form_room : (q : Form) (rest : Bytes) → form_size q + length rest ≤ length (put_form q rest)
unfolding put_form put_equality
form_room (rows s) rest = let h = open_room (bytes "in") (32 ∷ put_name s (41 ∷ rest)) in let k = name_room s (41 ∷ rest) in omega arith
form_room (pick c q) rest =
    let h = open_room (bytes "pick") (32 ∷ put_cond c (32 ∷ put_form q (41 ∷ rest))) in
    let k = cond_room c (32 ∷ put_form q (41 ∷ rest)) in
    let l = form_room q (41 ∷ rest) in omega arith
form_room (keep rs q) rest =
    let h = open_room (bytes "keep") (put_items put_ref rs (32 ∷ put_form q (41 ∷ rest))) in
    let k = items_room put_ref ref_room rs (32 ∷ put_form q (41 ∷ rest)) in
    let l = form_room q (41 ∷ rest) in omega arith
form_room (join a b q r) rest =
    let h = open_room (bytes "join") (32 ∷ put_open (op_word eq) (32 ∷ put_ref a (32 ∷ put_ref b (41 ∷ (32 ∷ put_form q (32 ∷ put_form r (41 ∷ rest))))))) in
    let e = open_room (op_word eq) (32 ∷ put_ref a (32 ∷ put_ref b (41 ∷ (32 ∷ put_form q (32 ∷ put_form r (41 ∷ rest)))))) in
    let t = ref_room a (32 ∷ put_ref b (41 ∷ (32 ∷ put_form q (32 ∷ put_form r (41 ∷ rest))))) in
    let u = ref_room b (41 ∷ (32 ∷ put_form q (32 ∷ put_form r (41 ∷ rest)))) in
    let k = form_room q (32 ∷ put_form r (41 ∷ rest)) in
    let l = form_room r (41 ∷ rest) in omega arith
form_room (aggregate f c z w q) rest =
    let h = open_room (fn_word f) (32 ∷ put_ref c (32 ∷ put_int z (32 ∷ put_int w (32 ∷ put_form q (41 ∷ rest))))) in
    let t = ref_room c (32 ∷ put_int z (32 ∷ put_int w (32 ∷ put_form q (41 ∷ rest)))) in
    let u = int_room z (32 ∷ put_int w (32 ∷ put_form q (41 ∷ rest))) in
    let v = int_room w (32 ∷ put_form q (41 ∷ rest)) in
    let l = form_room q (41 ∷ rest) in omega arith

-- ---- grants and entries

show_room : (s : Show) (rest : Bytes) → shown s + length rest ≤ length (put_show s rest)
unfolding put_show
show_room everything rest = omega arith
show_room (listed rs) rest = items_room put_ref ref_room rs rest

when_room : (cs : List (Cond Test)) (rest : Bytes) → length cs + length rest ≤ length (put_when cs rest)
unfolding put_when
when_room [] rest = omega arith
when_room (c ∷ cs) rest =
    let h = part_room (bytes "when") (put_items put_cond (c ∷ cs)) rest in
    let k = items_room put_cond cond_under (c ∷ cs) (41 ∷ rest) in omega arith

when_sized : (n : ℕ) (cs : List (Cond Test)) (rest : Bytes) → length (put_when cs rest) ≤ n → Sized n cs
unfolding put_when
when_sized n [] rest l = all_nil
when_sized n (c ∷ cs) rest l = let h = part_room (bytes "when") (put_items put_cond (c ∷ cs)) rest in sized n (c ∷ cs) (41 ∷ rest) (omega arith)

pub grant_room : (g : GrantLine) (rest : Bytes) (n : ℕ) → length (grant_body g rest) ≤ n → GrantFits n g
grant_room g rest n l =
    let a = name_room g.role (32 ∷ (right_word g.right ++ from_of g rest)) in
    let b = append_room (right_word g.right) (from_of g rest) in
    let c = part_room (bytes "of") (put_items put_name g.of) (from_show g rest) in
    let d = items_room put_name name_room g.of (41 ∷ from_show g rest) in
    let e = part_room (bytes "show") (put_show g.show) (from_when g rest) in
    let f = show_room g.show (41 ∷ from_when g rest) in
    let h = when_room g.when (from_from g rest) in
    let s : length g.of < n = omega arith in
    let t : shown g.show < n = omega arith in
    let u : length g.when < n = omega arith in
    let v : length (from_when g rest) ≤ n = omega arith in
    record { streams = s; columns = t; tests = u; brackets = when_sized n g.when (from_from g rest) v }

pub entry_room : (e : Entry) (rest : Bytes) → length rest ≤ length (put_entry e rest)
unfolding put_entry
entry_room e rest =
    let h = open_room (bytes "self") (32 ∷ put_name e.name (32 ∷ put_int e.value (41 ∷ rest))) in
    let k = name_room e.name (32 ∷ put_int e.value (41 ∷ rest)) in
    let l = int_room e.value (41 ∷ rest) in omega arith

-- ---- the shortest texts

pub name_filled : (w : Bytes) → T (name? w) → 1 ≤ length w
unfolding name?
name_filled [] t = absurd t
name_filled (b ∷ w) t = omega arith

pub name_some : (w rest : Bytes) → T (name? w) → 1 + length rest ≤ length (put_name w rest)
unfolding put_name
name_some w rest t = let h = name_filled w t in let e = length-append w rest in omega arith

nat_some : (n : ℕ) (rest : Bytes) → 1 + length rest ≤ length (put_nat n rest)
unfolding put_nat numeral
nat_some n rest = go (digits_from (suc n) n []) (numeral_nat n)
  where
    go : (ds : Bytes) → T (numeral ds) → 1 + length rest ≤ length (ds ++ rest)
    go [] t = absurd t
    go (d ∷ ds) t = let h = append_room ds rest in omega arith

pub int_some : (z : ℤ) (rest : Bytes) → 1 + length rest ≤ length (put_int z rest)
unfolding put_int
int_some (pos n) rest = nat_some n rest
int_some (negsuc n) rest = let h = nat_some (suc n) rest in omega arith

pub dotted_some : (n m rest : Bytes) → T (name? n) → T (name? m) → 3 + length rest ≤ length (put_ref (dotted n m) rest)
unfolding put_ref put_name
dotted_some n m rest t u = let h = name_some n (46 ∷ put_name m rest) t in let k = name_some m rest u in omega arith

pub self_some : (m rest : Bytes) → T (name? m) → 6 + length rest ≤ length (put_ref (dotted (bytes "self") m) rest)
unfolding put_ref put_name
self_some m rest u = let k = name_some m rest u in omega arith

pub ref_some : (r : Ref) (rest : Bytes) → T (ref? r) → 3 + length rest ≤ length (put_ref r rest)
unfolding put_ref ref?
ref_some (dotted n m) rest t = dotted_some n m rest (search parts) (search parts)
ref_some time rest t = omega arith
ref_some figure rest t = omega arith

pub number_some : (z : ℤ) (rest : Bytes) → 1 + length rest ≤ length (put_operand (number z) rest)
unfolding put_operand
number_some z rest = int_some z rest

pub operand_some : (o : Operand) (rest : Bytes) → T (operand? o) → 1 + length rest ≤ length (put_operand o rest)
unfolding put_operand operand?
operand_some (ref r) rest t = let h = ref_some r rest t in omega arith
operand_some (number z) rest t = int_some z rest

pub op_some : (o : Op) → 1 ≤ length (op_word o)
unfolding op_word
op_some eq = omega arith
op_some ne = omega arith
op_some lt = omega arith
op_some le = omega arith
op_some gt = omega arith
op_some ge = omega arith

pub open_length : (w rest : Bytes) → length (put_open w rest) ≡ suc (length w + length rest)
unfolding put_open
open_length w rest = ap suc (length-append w rest)

-- a comparison is nine bytes or more
pub test_long : (t : Test) (rest : Bytes) → T (test? t) → 9 + length rest ≤ length (put_cond (test t) rest)
unfolding put_cond test?
test_long t rest h =
    let e = open_length (op_word t.op) (32 ∷ put_ref t.left (32 ∷ put_operand t.right (41 ∷ rest))) in
    let w = op_some t.op in
    let l = ref_some t.left (32 ∷ put_operand t.right (41 ∷ rest)) (search parts) in
    let r = operand_some t.right (41 ∷ rest) (search parts) in
    omega arith
