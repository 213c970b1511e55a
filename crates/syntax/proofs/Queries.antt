-- Queries: what is printed is read back, and what is read was printed.
use mathlib.Core.Path.{◌≡◌, refl}
use mathlib.Core.List.{List, [], ◌∷◌}
use mathlib.Core.Bool.{true, false}
use mathlib.Core.Option.{some, none-ne-some}
use Prim.Native.Nat.{ℕ, zero, suc, ◌+◌, ◌≤◌, ◌<◌}
use native.Mathlib.Omega.{arith}
use lib.Dec.{T, eqb, leb, eqb→eq, leb→le, not_T}
use lib.ListN.{length}
use Rattle.lists.specs.Lists.{every, same_list}
use Rattle.lists.proofs.Laws.{and_l, and_both, parts, T_false, every_all}
use Rattle.syntax.specs.Grammar.{Bytes, eq, min, max, count, avg, sum, Ref, Test, Cond, Form, rows, pick, keep, join, aggregate, letter, ref?, cond?, some_all, form?, op_word, fn_word, put_ref, put_open, put_items, put_cond, put_equality, put_form}
use Rattle.syntax.specs.Readers.{Reader, ◌>>=◌, give, among, plain, read_ref, read_some, opens, form_next, read_cond, Kind, k_in, k_pick, k_keep, k_join, k_fn, kind_word, kinds, read_rest, read_form}
use Rattle.syntax.proofs.Steps.{Takes, Reads, space, close, byte_step, item_step, give_step, bind_put, byte_put, item_put, Known, head_put, head_read, open_put, open_read}
use Rattle.syntax.proofs.Lexical.{name_put, name_read, int_put, int_read}
use Rattle.syntax.proofs.Terms.{Starts, ref_put, ref_read, ref_first}
use Rattle.syntax.proofs.Items.{some_every, some_filled, items_follow, some_put, some_read}
use Rattle.syntax.proofs.Conditions.{size, cond_put, cond_read}

-- ---- what is printed is read back

-- the brackets of a query, its conditions and its columns
abbrev pub form_size : Form → ℕ
form_size (rows s) = 1
form_size (pick c q) = suc (size c + form_size q)
form_size (keep rs q) = suc (length rs + form_size q)
form_size (join a b q r) = suc (form_size q + form_size r)
form_size (aggregate f c z w q) = suc (form_size q)

pub kind_known : (h : Kind) → Known kind_word kinds h
unfolding among kind_word fn_word kinds same_list every plain
kind_known k_in = (refl, tt)
kind_known k_pick = (refl, tt)
kind_known k_keep = (refl, tt)
kind_known k_join = (refl, tt)
kind_known (k_fn min) = (refl, tt)
kind_known (k_fn max) = (refl, tt)
kind_known (k_fn count) = (refl, tt)
kind_known (k_fn avg) = (refl, tt)
kind_known (k_fn sum) = (refl, tt)

letter_no_open : (bs : Bytes) → Starts letter bs → opens bs ≡ false
unfolding opens letter
letter_no_open [] s = absurd s
letter_no_open (b ∷ bs) s = T_false (eqb 40 b) (not_T (eqb 40 b) (λ u. let h = leb→le 97 b (and_l (leb 97 b) (leb b 122) s) in let e = eqb→eq 40 b u in omega arith))

-- a column is not taken for the query that follows the columns
pub ref_next : (r : Ref) (rest : Bytes) → T (ref? r) → form_next (32 ∷ put_ref r rest) ≡ false
unfolding form_next
ref_next r rest t = letter_no_open (put_ref r rest) (ref_first r rest t)

pub form_opens : (q : Form) (rest : Bytes) → form_next (32 ∷ put_form q rest) ≡ true
unfolding form_next opens put_form put_open
form_opens (rows s) rest = refl
form_opens (pick c q) rest = refl
form_opens (keep rs q) rest = refl
form_opens (join a b q r) rest = refl
form_opens (aggregate f c z w q) rest = refl

-- the columns that a query keeps
pub kept_put : (k : ℕ) (rs : List Ref) (q : Form) (rest : Bytes) → T (some_all ref? rs) → length rs < k
    → read_some form_next read_ref k (put_items put_ref rs (32 ∷ put_form q rest)) ≡ some (record { what = rs; left = 32 ∷ put_form q rest })
kept_put k rs q rest t l =
    some_put (λ r. T (ref? r)) put_ref form_next read_ref (λ r rest t f. ref_put r t f) ref_next k rs
    (every_all ref? rs (some_every ref? rs t)) (some_filled ref? rs t) space (form_opens q rest) l

pub form_put : (q : Form) (k : ℕ) {rest : Bytes} → T (form? q) → form_size q ≤ k → read_form k (put_form q rest) ≡ some (record { what = q; left = rest })
unfolding put_form put_equality form? read_form read_rest kind_word give every plain op_word
form_put (rows s) zero g l = absurd (omega arith)
form_put (rows s) (suc k) g l = bind_put _ _ (head_put kind_word kinds k_in (kind_known k_in) space) (byte_put 32 _ (item_put _ _ (name_put s g close) (byte_put 41 _ refl)))
form_put (pick c q) zero g l = absurd (omega arith)
form_put (pick c q) (suc k) {rest} g l =
    let gc : T (cond? c) = search parts in
    let gq : T (form? q) = search parts in
    bind_put _ _ (head_put kind_word kinds k_pick (kind_known k_pick) space)
    (byte_put 32 _ (item_put _ _ (cond_put c (suc k) gc (omega arith)) (byte_put 32 _ (item_put _ _ (form_put q k {rest = 41 ∷ rest} gq (omega arith)) (byte_put 41 _ refl)))))
form_put (keep rs q) zero g l = absurd (omega arith)
form_put (keep rs q) (suc k) {rest} g l =
    let gr : T (some_all ref? rs) = search parts in
    let gq : T (form? q) = search parts in
    bind_put _ _ (head_put kind_word kinds k_keep (kind_known k_keep) (items_follow put_ref rs space))
    (item_put _ _ (kept_put (suc k) rs q (41 ∷ rest) gr (omega arith)) (byte_put 32 _ (item_put _ _ (form_put q k {rest = 41 ∷ rest} gq (omega arith)) (byte_put 41 _ refl))))
form_put (join a b q r) zero g l = absurd (omega arith)
form_put (join a b q r) (suc k) {rest} g l =
    let ga : T (ref? a) = search parts in
    let gb : T (ref? b) = search parts in
    let gq : T (form? q) = search parts in
    let gr : T (form? r) = search parts in
    bind_put _ _ (head_put kind_word kinds k_join (kind_known k_join) space)
    (byte_put 32 _ (item_put _ _ (open_put (op_word eq) tt space) (byte_put 32 _ (item_put _ _ (ref_put a ga space) (byte_put 32 _ (item_put _ _ (ref_put b gb close)
    (byte_put 41 _ (byte_put 32 _ (item_put _ _ (form_put q k {rest = 32 ∷ put_form r (41 ∷ rest)} gq (omega arith)) (byte_put 32 _ (item_put _ _ (form_put r k {rest = 41 ∷ rest} gr (omega arith)) (byte_put 41 _ refl))))))))))))
form_put (aggregate f c z w q) zero g l = absurd (omega arith)
form_put (aggregate f c z w q) (suc k) {rest} g l =
    let gc : T (ref? c) = search parts in
    let gq : T (form? q) = search parts in
    bind_put _ _ (head_put kind_word kinds (k_fn f) (kind_known (k_fn f)) space)
    (byte_put 32 _ (item_put _ _ (ref_put c gc space) (byte_put 32 _ (item_put _ _ (int_put z space) (byte_put 32 _ (item_put _ _ (int_put w space)
    (byte_put 32 _ (item_put _ _ (form_put q k {rest = 41 ∷ rest} gq (omega arith)) (byte_put 41 _ refl)))))))))

-- ---- what is read was printed

join_good : (a b : Ref) (q r : Form) → T (ref? a) → T (ref? b) → T (form? q) → T (form? r) → T (form? (join a b q r))
unfolding form?
join_good a b q r ga gb gq gr = search and_both

module _ (conds : Reader (Cond Test)) (cols : Reader (List Ref)) (forms : Reader Form)
    (conds_read : Reads cond? put_cond conds) (cols-read : Reads (some_all ref?) (put_items put_ref) cols) (forms-read : Reads form? put_form forms) where
  pub rest_read : (h : Kind) → Takes form? put_form (put_open (kind_word h)) (read_rest conds cols forms h)
  unfolding read_rest form? put_form put_equality kind_word
  rest_read k_in = byte_step 32 _ (item_step _ name_read (λ s g. byte_step 41 _ (give_step _ g (λ l. refl))))
  rest_read k_pick =
      byte_step 32 _ (item_step _ conds_read (λ c gc. byte_step 32 _ (item_step _ forms-read (λ q gq. byte_step 41 _ (give_step _ (and_both (cond? c) (form? q) gc gq) (λ l. refl))))))
  rest_read k_keep =
      item_step _ cols-read (λ rs gr. byte_step 32 _ (item_step _ forms-read (λ q gq. byte_step 41 _ (give_step _ (and_both (some_all ref? rs) (form? q) gr gq) (λ l. refl)))))
  rest_read k_join =
      byte_step 32 _ (item_step _ (open_read (op_word eq)) (λ o u. byte_step 32 _ (item_step _ ref_read (λ a ga. byte_step 32 _ (item_step _ ref_read (λ b gb. byte_step 41 _ (byte_step 32 _
      (item_step _ forms-read (λ q gq. byte_step 32 _ (item_step _ forms-read (λ r gr. byte_step 41 _ (give_step _ (join_good a b q r ga gb gq gr) (λ l. refl)))))))))))))
  rest_read (k_fn f) =
      byte_step 32 _ (item_step _ ref_read (λ c gc. byte_step 32 _ (item_step _ int_read (λ z gz. byte_step 32 _ (item_step _ int_read (λ w gw. byte_step 32 _
      (item_step _ forms-read (λ q gq. byte_step 41 _ (give_step _ (and_both (ref? c) (form? q) gc gq) (λ l. refl))))))))))

pub form_read : (k : ℕ) → Reads form? put_form (λ r. read_form k r)
unfolding read_form ◌>>=◌
form_read zero = record { taken = λ bs r e. absurd (none-ne-some r e) }
form_read (suc k) =
    item_step (read_rest (λ r. read_cond (suc k) r) (λ r. read_some form_next read_ref (suc k) r) (λ r. read_form k r)) (head_read kind_word kinds) (λ h t.
    rest_read (λ r. read_cond (suc k) r) (λ r. read_some form_next read_ref (suc k) r) (λ r. read_form k r) (cond_read (suc k)) (some_read form_next ref_read (suc k)) (form_read k) h)
