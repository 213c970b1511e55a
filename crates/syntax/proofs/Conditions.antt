-- Conditions: what is printed is read back, and what is read was printed.
use mathlib.Core.Path.{◌≡◌, refl, ap}
use mathlib.Core.List.{[], ◌∷◌}
use mathlib.Core.Option.{some, none-ne-some}
use Prim.Native.Nat.{ℕ, zero, suc, ◌+◌, ◌≤◌}
use native.Mathlib.Omega.{arith}
use lib.Dec.{T, eqb}
use Rattle.lists.specs.Lists.{every, same_list}
use Rattle.lists.proofs.Laws.{and_l, and_r, and_both, parts, cond_cases}
use Rattle.syntax.specs.Grammar.{Bytes, Op, eq, ne, lt, le, gt, ge, Test, Cond, test, all, any, neg, Conds, last, more, ref?, operand?, test?, cond?, conds?, op_word, put_ref, put_operand, put_open, put_cond, put_conds}
use Rattle.syntax.specs.Readers.{Read, Reader, bind, ensure, ◌>>=◌, ◌>>◌, give, byte, among, plain, Head, compare, and, or, not_of, head_word, heads, read_test, read_headed, read_more, read_cond, read_conds}
use Rattle.syntax.proofs.Steps.{Printed, Takes, Reads, Follows, space, close, from, done, byte_step, item_step, give_step, bind_put, byte_put, item_put, Known, head_put, head_read}
use Rattle.syntax.proofs.Terms.{ref_put, ref_read, operand_put, operand_read}

-- ---- what is printed is read back

-- the brackets of a condition, and the items of its lists
abbrev mutual
  pub size : Cond Test → ℕ
  size (test t) = 1
  size (all cs) = suc (sizes cs)
  size (any cs) = suc (sizes cs)
  size (neg c) = suc (size c)

  pub sizes : Conds Test → ℕ
  sizes (last c) = suc (size c)
  sizes (more c cs) = suc (size c + sizes cs)

pub head_known : (h : Head) → Known head_word heads h
unfolding among head_word op_word heads same_list every plain
head_known (compare eq) = (refl, tt)
head_known (compare ne) = (refl, tt)
head_known (compare lt) = (refl, tt)
head_known (compare le) = (refl, tt)
head_known (compare gt) = (refl, tt)
head_known (compare ge) = (refl, tt)
head_known and = (refl, tt)
head_known or = (refl, tt)
head_known not_of = (refl, tt)

pub test_put : (t : Test) {rest : Bytes} → T (test? t)
    → read_test t.op (32 ∷ put_ref t.left (32 ∷ put_operand t.right (41 ∷ rest))) ≡ some (record { what = test t; left = rest })
unfolding read_test give test?
test_put t g =
    byte_put 32 _ (item_put _ _ (ref_put t.left (search parts) space) (byte_put 32 _ (item_put _ _ (operand_put t.right (and_r (ref? t.left) _ g) close) (byte_put 41 _ refl))))

conds_follow : (cs : Conds Test) (rest : Bytes) → Follows (put_conds cs rest)
unfolding put_cond
conds_follow (last c) rest = space
conds_follow (more c cs) rest = space

more_put : (many : Reader (Conds Test)) (c : Cond Test) (cs : Conds Test) (rest : Bytes) → many (put_conds cs rest) ≡ some (record { what = cs; left = rest })
    → read_more many c (put_conds cs rest) ≡ some (record { what = more c cs; left = rest })
unfolding read_more put_cond bind
more_put many c (last d) rest e = rw e
more_put many c (more d cs) rest e = rw e

mutual
  unfolding put_cond cond? read_cond read_headed read_more head_word bind byte ensure give

  pub cond_put : (c : Cond Test) (k : ℕ) {rest : Bytes} → T (cond? c) → size c ≤ k → read_cond k (put_cond c rest) ≡ some (record { what = c; left = rest })
  cond_put (test t) zero g l = absurd (omega arith)
  cond_put (test t) (suc k) g l = bind_put _ _ (head_put head_word heads (compare t.op) (head_known (compare t.op)) space) (test_put t g)
  cond_put (all cs) zero g l = absurd (omega arith)
  cond_put (all cs) (suc k) {rest} g l =
      bind_put _ _ (head_put head_word heads and (head_known and) (conds_follow cs (41 ∷ rest))) (item_put _ _ (conds_put cs k {rest = rest} g (omega arith)) (byte_put 41 _ refl))
  cond_put (any cs) zero g l = absurd (omega arith)
  cond_put (any cs) (suc k) {rest} g l =
      bind_put _ _ (head_put head_word heads or (head_known or) (conds_follow cs (41 ∷ rest))) (item_put _ _ (conds_put cs k {rest = rest} g (omega arith)) (byte_put 41 _ refl))
  cond_put (neg c) zero g l = absurd (omega arith)
  cond_put (neg c) (suc k) {rest} g l =
      bind_put _ _ (head_put head_word heads not_of (head_known not_of) space) (byte_put 32 _ (item_put _ _ (cond_put c k {rest = 41 ∷ rest} g (omega arith)) (byte_put 41 _ refl)))

  pub conds_put : (cs : Conds Test) (k : ℕ) {rest : Bytes} → T (conds? cs) → sizes cs ≤ k
      → read_conds k (put_conds cs (41 ∷ rest)) ≡ some (record { what = cs; left = 41 ∷ rest })
  conds_put (last c) zero g l = absurd (omega arith)
  conds_put (last c) (suc k) {rest} g l = rw (cond_put c k {rest = 41 ∷ rest} g (omega arith))
  conds_put (more c cs) zero g l = absurd (omega arith)
  conds_put (more c cs) (suc k) {rest} g l =
      rw (cond_put c k {rest = put_conds cs (41 ∷ rest)} (and_l (cond? c) (conds? cs) g) (omega arith)) (more_put (λ r. read_conds k r) c cs (41 ∷ rest) (conds_put cs k {rest = rest} (and_r (cond? c) (conds? cs) g) (omega arith)))

-- ---- what is read was printed

-- what follows a head
pub test_read : (o : Op) → Takes cond? put_cond (put_open (op_word o)) (read_test o)
unfolding read_test cond? test? put_cond
test_read o =
    byte_step 32 _ (item_step _ ref_read (λ a g. byte_step 32 _ (item_step _ operand_read (λ b h. byte_step 41 _ (give_step _ (and_both (ref? a) (operand? b) g h) (λ l. refl))))))

module _ (one : Reader (Cond Test)) (many : Reader (Conds Test)) (one-read : Reads cond? put_cond one) (many_read : Reads conds? put_conds many) where
  pub body_read : (h : Head) → Takes cond? put_cond (put_open (head_word h)) (read_headed one many h)
  unfolding read_headed cond? put_cond head_word
  body_read (compare o) = test_read o
  body_read and = item_step _ many_read (λ cs g. byte_step 41 _ (give_step _ g (λ l. refl)))
  body_read or = item_step _ many_read (λ cs g. byte_step 41 _ (give_step _ g (λ l. refl)))
  body_read not_of = byte_step 32 _ (item_step _ one-read (λ c g. byte_step 41 _ (give_step _ g (λ l. refl))))

  pub more_was : (c : Cond Test) → T (cond? c) → (bs : Bytes) (r : Read (Conds Test)) → read_more many c bs ≡ some r → Printed conds? put_conds (32 ∷ put_cond c bs) r
  unfolding read_more cond? put_cond
  more_was c g [] r e = absurd (none-ne-some r e)
  more_was c g (b ∷ bs) r e =
      cond_cases (eqb 32 b) _ (some _) e
      (λ t d. from _ _ d (λ cs p q.
      let h = many_read.taken (b ∷ bs) cs p in
      done (λ x. Printed conds? put_conds (32 ∷ put_cond c (b ∷ bs)) x) q (and_both (cond? c) (conds? cs.what) g h.0, ap (λ l. 32 ∷ put_cond c l) h.1)))
      (λ t d. done (λ x. Printed conds? put_conds (32 ∷ put_cond c (b ∷ bs)) x) d (g, refl))

mutual
  unfolding read_cond ◌>>=◌ ◌>>◌

  pub cond_read : (k : ℕ) → Reads cond? put_cond (λ r. read_cond k r)
  cond_read zero = record { taken = λ bs r e. absurd (none-ne-some r e) }
  cond_read (suc k) = item_step (read_headed (λ r. read_cond k r) (λ r. read_conds k r)) (head_read head_word heads) (λ h t. body_read (λ r. read_cond k r) (λ r. read_conds k r) (cond_read k) (conds_read k) h)

  pub conds_read : (k : ℕ) → Reads conds? put_conds (λ r. read_conds k r)
  conds_read zero = record { taken = λ bs r e. absurd (none-ne-some r e) }
  conds_read (suc k) =
      byte_step 32 (◌>>=◌ (λ r. read_cond k r) (read_more (λ r. read_conds k r))) (item_step (read_more (λ r. read_conds k r)) (cond_read k) (λ c g.
      record { taken = more_was (λ r. read_cond k r) (λ r. read_conds k r) (cond_read k) (conds_read k) c g }))
