-- The comparisons of a text have room in their nodes' words.
use mathlib.Core.List.{List, map}
use mathlib.Core.Bool.{cond}
use Prim.Native.Nat.{ℕ, ◌<◌}
use native.Mathlib.Omega.{arith}
use lib.IntN.{ℤ, pos, negsuc}
use lib.Dec.{T, ltb, eqb, leb→le, le→leb, lt→ltb}
use borrow.Author.Tests.{ne_eqb}
use Rattle.lists.specs.Lists.{every}
use Rattle.lists.proofs.Laws.{and_r, and_both, true_T, every_map, by_test}
use Rattle.syntax.specs.Grammar as G
use Rattle.syntax.specs.Grammar.{Ref, dotted, time, figure, Operand, Test, Cond, name?, ref?, operand?, test?, cond?}
use Rattle.syntax.specs.Limits.{short, is_value}
use Rattle.model.specs.Conditions.{tests}
use Rattle.model.proofs.Conditions.{tests_map}
use Rattle.calls.proofs.Stored.{cond_tests}
use Rattle.text.specs.Words.{value_kept}
use Rattle.text.specs.Keywords.{op_number}
use Rattle.text.proofs.Codes.{code_below}
use Rattle.items.specs.Items.{code_short}
use Rattle.terms.specs.Terms.{second_code, ref_code, biased, operand_code, operand_value, left_code, right_code, test_value}
use Rattle.terms.proofs.Resolving.{code_range}
use Rattle.nodes.specs.Storing.{value_fits, fits}
use Rattle.conditions.specs.Seeing.{test_node, nodes_of}
use Rattle.conditions.proofs.Heads.{op_some, op_small}
use Rattle.conditions.proofs.Folds.{left_small, right_small}

-- ---- values

zero_value : T (is_value (pos 0))
unfolding is_value
zero_value = tt

kept_value : (z : ℤ) → T (is_value (value_kept z))
unfolding value_kept
kept_value z = by_test (is_value z) (λ e. rw e (true_T (is_value z) e)) (λ e. rw e zero_value)

value_small : (z : ℤ) → T (is_value z) → biased z < 4294967296
unfolding is_value biased
value_small (pos n) t = let h = leb→le n 2147483647 t in omega arith
value_small (negsuc n) t = omega arith

second_small : (r : Ref) → T (ref? r) → second_code r < 18446744073709551616
unfolding ref? second_code code_short
second_small (dotted n m) t = by_test (short m) (λ e. rw e (code_below m (and_r (name? n) (name? m) t) (true_T (short m) e))) (λ e. rw e (omega arith))
second_small time t = omega arith
second_small figure t = omega arith

-- a value has room by what stands on the right
operand_fits : (ks : List ℕ) (o : Operand) → T (operand? o)
    → T (cond (eqb (operand_code ks o) 26) (ltb (operand_value ks o) 4294967296) (cond (eqb (operand_code ks o) 27) (ltb (operand_value ks o) 18446744073709551616) (eqb (operand_value ks o) 0)))
unfolding operand? operand_code operand_value
operand_fits ks (G.ref r) t =
    by_test (eqb (ref_code ks r) 27)
    (λ e. rw (ne_eqb (ref_code ks r) 26 (code_range ks r).1, e) (lt→ltb (second_code r) 18446744073709551616 (second_small r t)))
    (λ e. rw (ne_eqb (ref_code ks r) 26 (code_range ks r).1, e) tt)
operand_fits ks (G.number z) t = lt→ltb (biased (value_kept z)) 4294967296 (value_small (value_kept z) (kept_value z))

-- ---- comparisons and conditions

ruleset both = (and_both)

pub test_fits : (ks : List ℕ) (t : Test) → T (test? t) → T (fits (test_node ks t))
unfolding test? fits value_fits test_node test_value right_code
test_fits ks t h =
    let a = le→leb 1 (op_number t.op) (op_some t.op) in
    let b = le→leb (op_number t.op) 6 (op_small t.op) in
    let l = left_small ks t in
    let r = right_small ks t in
    let x = lt→ltb (left_code ks t) 256 (omega arith) in
    let y = lt→ltb (right_code ks t) 256 (omega arith) in
    let z = operand_fits ks t.right (and_r (ref? t.left) (operand? t.right) h) in
    search both

pub cond_fits : (ks : List ℕ) (c : Cond Test) → T (cond? c) → T (every fits (tests (nodes_of ks c)))
unfolding nodes_of
cond_fits ks c h = rw (tests_map (test_node ks) c) (every_map test? fits (test_node ks) (test_fits ks) (tests c) (cond_tests c h))

pub nodes_fit : (ks : List ℕ) (cs : List (Cond Test)) → T (every cond? cs) → T (every (λ c. every fits (tests c)) (map (nodes_of ks) cs))
nodes_fit ks cs h = every_map cond? (λ c. every fits (tests c)) (nodes_of ks) (cond_fits ks) cs h
