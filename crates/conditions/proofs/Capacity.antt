-- Every word costs five bytes of text or more: how many words the conditions of one line can take.
use mathlib.Core.Path.{◌≡◌, refl, sym, ap, ◌∙◌}
use mathlib.Core.List.{List, [], ◌∷◌, map, map-append}
use mathlib.Core.Bool.{Bool, true, false, ◌&&◌, cond}
use mathlib.Core.Option.{some}
use Prim.Native.Nat.{ℕ, suc, ◌+◌, ◌*◌, ◌≤◌, ◌<◌}
use native.Mathlib.Decide.{dec_lt}
use native.Mathlib.Omega.{arith}
use lib.IntN.{ℤ}
use lib.Dec.{T, eqb, ltb}
use lib.ListN.{length}
use borrow.Author.Tests.{eqb-true, eq-eqb, ltb-true}
use Rattle.lists.specs.Lists.{every, empty?, same_list}
use Rattle.lists.proofs.Laws.{and_l, and_r, parts, true_T, same_list→eq}
use Rattle.syntax.specs.Grammar as G
use Rattle.syntax.specs.Grammar.{Bytes, bytes, Ref, dotted, time, figure, Operand, ref, number, Test, Cond, test, all, any, neg, Conds, last, more, Form, rows, pick, keep, join, aggregate, Show, everything, listed, Right, GrantLine, name?, ref?, operand?, test?, cond?, conds?, some_all, form?, show?, grant?, body?, fn_word, right_word, verb_word, put_cond}
use Rattle.syntax.specs.Limits.{max_line, short}
use Rattle.syntax.specs.Readers.{parse_as, parse_query}
use Rattle.syntax.proofs.Lengths.{name_filled, ref_some, int_some, op_some}
use Rattle.syntax.proofs.Exact.{int_length, ref_length, operand_length, test_length, cond_length, conds_length, items_length, form_length, show_length, part_length, when_length, grant_length, body_length, line_length, put_int_length, put_ref_length, put_cond_length, query_text_length, line_text_length}
use Rattle.syntax.proofs.Lines.{parsed_printed, query_parsed_printed}
use Rattle.model.specs.Conditions.{map_cond, map_conds}
use Rattle.calls.specs.Names.{form_conds}
use Rattle.text.specs.Words.{code_from, code_of}
use Rattle.items.specs.Items.{code_short}
use Rattle.terms.specs.Terms.{found, place_in, first_code, second_code, code_in, ref_code, operand_code, right_code}
use Rattle.terms.proofs.Resolving.{code_alone, self_same}
use Rattle.nodes.specs.Nodes.{node_words}
use Rattle.nodes.specs.Storing.{size, sizes, list_size}
use Rattle.nodes.proofs.Puts.{by_right}
use Rattle.nodes.proofs.Sizes.{size_append}
use Rattle.conditions.specs.Seeing.{test_node, nodes_of}

-- ---- the shortest texts

ref_least : (r : Ref) → T (ref? r) → 3 ≤ ref_length r
ref_least r t = let h = ref_some r [] t in let e = put_ref_length r [] in omega arith

int_least : (z : ℤ) → 1 ≤ int_length z
int_least z = let h = int_some z [] in let e = put_int_length z [] in omega arith

operand_least : (o : Operand) → T (operand? o) → 1 ≤ operand_length o
unfolding operand? operand_length
operand_least (ref r) t = let h = ref_least r t in omega arith
operand_least (number z) t = int_least z

-- ---- `self.NAME`: the term that takes two words besides its head

place_column : (ks : List ℕ) (n m : ℕ) → place_in ks n m ≡ 27 → ⊥
unfolding place_in
place_column ks n m e = go (found ks 0 4 n) (found ks (4 + found ks 0 4 n * 6) 6 m) e
  where
    go : (s c : ℕ) → cond (ltb s 4 && ltb c 6) (s * 6 + c) 28 ≡ 27 → ⊥
    go s c e = by (ltb s 4) (ltb c 6) refl refl e
      where
        by : (a b : Bool) → ltb s 4 ≡ a → ltb c 6 ≡ b → cond (a && b) (s * 6 + c) 28 ≡ 27 → ⊥
        by true true p q e = let x = ltb-true s 4 p in let y = ltb-true c 6 q in omega arith
        by true false p q e = omega arith
        by false b p q e = omega arith

self_above : 0 ≡ code_of (bytes "self") → ⊥
unfolding code_of code_from
self_above e = omega arith

self_name : (n : Bytes) → T (name? n) → code_short n ≡ code_of (bytes "self") → n ≡ bytes "self"
unfolding code_short
self_name n t e = go (short n) refl e
  where
    go : (b : Bool) → short n ≡ b → cond b (code_of n) 0 ≡ code_of (bytes "self") → n ≡ bytes "self"
    go true s d = sym (same_list→eq (bytes "self") n (true_T (same_list (bytes "self") n) (self_same n t (true_T (short n) s) ∙ eq-eqb (code_of (bytes "self")) (code_of n) (sym d))))
    go false s d = absurd (self_above d)

entry_least : (ks : List ℕ) (r : Ref) → T (ref? r) → ref_code ks r ≡ 27 → 6 ≤ ref_length r
unfolding ref? ref_length ref_code code_in first_code second_code
entry_least ks (dotted n m) t e =
    go (eqb (code_short m) 0) (eqb (code_short n) (code_of (bytes "time"))) (eqb (code_short n) (code_of (bytes "self"))) refl e
  where
    go : (a b c : Bool) → eqb (code_short n) (code_of (bytes "self")) ≡ c → cond a (cond b 24 25) (cond c 27 (place_in ks (code_short n) (code_short m))) ≡ 27 → 6 ≤ suc (length n + length m)
    go true true c f e = absurd (omega arith)
    go true false c f e = absurd (omega arith)
    go false b true f e =
        let x : length n ≡ 4 = ap length (self_name n (search parts) (eqb-true (code_short n) (code_of (bytes "self")) f)) in
        let y = name_filled m (and_r (name? n) (name? m) t) in
        omega arith
    go false b false f e = absurd (place_column ks (code_short n) (code_short m) e)
entry_least ks time t e = absurd (let h = (code_alone ks).0 in omega arith)
entry_least ks figure t e = absurd (let h = (code_alone ks).1 in omega arith)

-- ---- a comparison

operand_entry : (ks : List ℕ) (o : Operand) → T (operand? o) → operand_code ks o ≡ 27 → 6 ≤ operand_length o
unfolding operand? operand_code operand_length
operand_entry ks (ref r) t e = entry_least ks r t e
operand_entry ks (number z) t e = absurd (omega arith)

test_words : (ks : List ℕ) (t : Test) → T (test? t) → 5 * node_words (test_node ks t) ≤ suc (test_length t)
unfolding test? test_length test_node right_code
test_words ks t h =
    let o = op_some t.op in
    let l = ref_least t.left (search parts) in
    let r = operand_least t.right (and_r (ref? t.left) (operand? t.right) h) in
    by_right (test_node ks t) (λ a e. omega arith)
    (λ a c e. let k = operand_entry ks t.right (and_r (ref? t.left) (operand? t.right) h) c in omega arith)
    (λ a c e. omega arith)

-- ---- conditions

mutual
  unfolding cond? cond_length nodes_of map_cond size

  cond_words : (ks : List ℕ) (c : Cond Test) → T (cond? c) → 5 * size (nodes_of ks c) ≤ suc (cond_length c)
  cond_words ks (test t) h = test_words ks t h
  cond_words ks (all cs) h = let k = conds_words ks cs h in omega arith
  cond_words ks (any cs) h = let k = conds_words ks cs h in omega arith
  cond_words ks (neg c) h = let k = cond_words ks c h in omega arith

  conds_words : (ks : List ℕ) (cs : Conds Test) → T (conds? cs) → 5 * sizes (map_conds (test_node ks) cs) ≤ conds_length cs
  conds_words ks (last c) h = let k = cond_words ks c h in omega arith
  conds_words ks (more c cs) h = let k = cond_words ks c (and_l (cond? c) (conds? cs) h) in let l = conds_words ks cs (and_r (cond? c) (conds? cs) h) in omega arith

-- the bytes of a condition, whatever follows it
pub cond_bytes : (ks : List ℕ) (c : Cond Test) (rest : Bytes) → T (cond? c) → 5 * size (nodes_of ks c) + length rest ≤ suc (length (put_cond c rest))
cond_bytes ks c rest h = let k = cond_words ks c h in let e = put_cond_length c rest in omega arith

items_words : (ks : List ℕ) (cs : List (Cond Test)) → T (every cond? cs) → 5 * list_size (map (nodes_of ks) cs) ≤ items_length cond_length cs
unfolding every list_size items_length
items_words ks [] h = omega arith
items_words ks (c ∷ cs) h = let k = cond_words ks c (search parts) in let l = items_words ks cs (and_r (cond? c) (every cond? cs) h) in omega arith

-- ---- a grant line

right_least : (r : Right) → 3 ≤ length (right_word r)
unfolding right_word fn_word
right_least G.read = omega arith
right_least (G.figures G.min) = omega arith
right_least (G.figures G.max) = omega arith
right_least (G.figures G.count) = omega arith
right_least (G.figures G.avg) = omega arith
right_least (G.figures G.sum) = omega arith

names_least : (ns : List Bytes) → T (some_all name? ns) → 2 ≤ items_length length ns
unfolding some_all empty? every items_length
names_least [] h = absurd h
names_least (n ∷ ns) h = let k = name_filled n (search parts) in omega arith

show_least : (s : Show) → T (show? s) → 2 ≤ show_length s
unfolding show? some_all empty? every show_length items_length
show_least everything h = omega arith
show_least (listed []) h = absurd h
show_least (listed (r ∷ rs)) h = let k = ref_least r (search parts) in omega arith

when_words : (ks : List ℕ) (cs : List (Cond Test)) → T (every cond? cs) → (list_size (map (nodes_of ks) cs) ≡ 0 → ⊥) → 5 * list_size (map (nodes_of ks) cs) + 7 ≤ when_length cs
unfolding when_length part_length list_size
when_words ks [] h n = absurd (n refl)
when_words ks (c ∷ cs) h n = let k = items_words ks (c ∷ cs) h in omega arith

grant_least : (g : GrantLine) → T (grant? g) → 29 + when_length g.when ≤ line_length G.grant g
unfolding grant? line_length verb_word body_length grant_length part_length
grant_least g h =
    let a = name_filled g.role (search parts) in
    let b = right_least g.right in
    let c = names_least g.of (search parts) in
    let d = show_least g.show (search parts) in
    omega arith

grant_conds : (g : GrantLine) → T (grant? g) → T (every cond? g.when)
unfolding grant?
grant_conds g h = search parts

-- the conditions of a grant line take at most 95 words
pub grant_room : (ks : List ℕ) (bs : Bytes) (g : GrantLine) → parse_as G.grant bs ≡ some g → length bs ≤ max_line → list_size (map (nodes_of ks) g.when) ≤ 95
unfolding body?
grant_room ks bs g e l = go (dec_lt 0 (list_size (map (nodes_of ks) g.when)))
  where
    well : T (grant? g)
    well = (parsed_printed G.grant bs g e).0

    long : length bs ≡ line_length G.grant g
    long = ap length (parsed_printed G.grant bs g e).1 ∙ line_text_length G.grant g

    go : Dec (0 < list_size (map (nodes_of ks) g.when)) → list_size (map (nodes_of ks) g.when) ≤ 95
    go (yes p) = let a = when_words ks g.when (grant_conds g well) (λ z. omega arith) in let b = grant_least g well in let c = long in omega arith
    go (no p) = omega arith

-- ---- a query

words_of : List ℕ → Form → ℕ
words_of ks q = list_size (map (nodes_of ks) (form_conds q))

-- a form takes six bytes or more, and a condition in it seven more than its words
record Roomy (n len : ℕ) : Type 0 where
  least : 5 * n + 6 ≤ len
  more : 0 < n → 5 * n + 13 ≤ len

roomy_both : (m n k l : ℕ) → Roomy m k → Roomy n l → {len : ℕ} → k + l + 9 ≤ len → Roomy (m + n) len
roomy_both m n k l p q {len} h = record { least = let a = p.least in let b = q.least in omega arith; more = λ s. go (dec_lt 0 m) s }
  where
    go : Dec (0 < m) → 0 < m + n → 5 * (m + n) + 13 ≤ len
    go (yes u) s = let a = p.more u in let b = q.least in omega arith
    go (no u) s = let a = p.least in let b = q.more (omega arith) in omega arith

roomy_more : (n k : ℕ) → Roomy n k → {len : ℕ} → k ≤ len → Roomy n len
roomy_more n k p h = record { least = let a = p.least in omega arith; more = λ s. let a = p.more s in omega arith }

joined_left : (a b : Ref) (q r : Form) → T (ref? a && ref? b && form? q && form? r) → T (form? q)
joined_left a b q r h = search parts

joined_right : (a b : Ref) (q r : Form) → T (ref? a && ref? b && form? q && form? r) → T (form? r)
joined_right a b q r h = search parts

form_words : (ks : List ℕ) (q : Form) → T (form? q) → Roomy (words_of ks q) (form_length q)
unfolding words_of form? form_conds form_length list_size
form_words ks (rows s) h = let k = name_filled s h in record { least = omega arith; more = λ l. absurd (omega arith) }
form_words ks (pick c q) h =
    let k = cond_words ks c (and_l (cond? c) (form? q) h) in
    let r = (form_words ks q (and_r (cond? c) (form? q) h)).least in
    record { least = omega arith; more = λ l. omega arith }
form_words ks (keep rs q) h = roomy_more (words_of ks q) (form_length q) (form_words ks q (and_r (some_all ref? rs) (form? q) h)) (omega arith)
form_words ks (join a b q r) h =
    let e = ap list_size (map-append (nodes_of ks) (form_conds q) (form_conds r)) ∙ size_append (map (nodes_of ks) (form_conds q)) (map (nodes_of ks) (form_conds r)) in
    rw e (roomy_both (words_of ks q) (words_of ks r) (form_length q) (form_length r) (form_words ks q (joined_left a b q r h)) (form_words ks r (joined_right a b q r h)) (omega arith))
form_words ks (aggregate f c z w q) h = roomy_more (words_of ks q) (form_length q) (form_words ks q (and_r (ref? c) (form? q) h)) (omega arith)

-- the conditions of a query take at most 99 words
pub form_room : (ks : List ℕ) (q : Form) → T (form? q) → form_length q ≤ max_line → list_size (map (nodes_of ks) (form_conds q)) ≤ 99
unfolding words_of
form_room ks q t l = go (dec_lt 0 (words_of ks q)) (form_words ks q t)
  where
    go : Dec (0 < words_of ks q) → Roomy (words_of ks q) (form_length q) → words_of ks q ≤ 99
    go (yes p) h = let a = h.more p in omega arith
    go (no p) h = omega arith

pub query_room : (ks : List ℕ) (bs : Bytes) (q : Form) → parse_query bs ≡ some q → length bs ≤ max_line → list_size (map (nodes_of ks) (form_conds q)) ≤ 99
query_room ks bs q e l = let p = query_parsed_printed bs q e in let k = ap length p.1 ∙ query_text_length q in form_room ks q p.0 (omega arith)
