-- What each reader leaves is an end of what it was given.
use mathlib.Core.Path.{◌≡◌, refl, sym, ap, ◌∙◌, subst}
use mathlib.Core.List.{List, [], ◌∷◌, ◌++◌, append_assoc}
use mathlib.Core.Bool.{Bool, true, not}
use mathlib.Core.Option.{none, some, none-ne-some}
use Prim.Native.Nat.{ℕ, zero, suc, ◌≤◌, ◌<◌}
use native.Mathlib.Omega.{arith}
use lib.IntN.{ℤ, pos, negsuc}
use lib.Dec.{eqb}
use lib.ListN.{length, length-append}
use Rattle.lists.specs.Lists.{empty?}
use Rattle.lists.proofs.Laws.{T_true, cond_cases}
use Rattle.syntax.specs.Grammar.{Bytes, bytes, Op, Ref, dotted, time, figure, Operand, ref, number, Test, Cond, Conds, Form, Verb, stream, grant, clock, row, clear, caller, ask, line, digits_from, put_nat, put_int, put_name, put_ref, put_operand, put_open}
use Rattle.syntax.specs.Readers.{Read, Reader, ◌>>=◌, ◌>>◌, give, byte, run, past, plain, read_word, read_head, itself, read_open, read_name, read_int, read_ref, read_operand, read_items, read_some, closes, Head, compare, and, or, not_of, head_word, heads, read_test, read_headed, read_more, read_cond, read_conds, Kind, k_in, k_pick, k_keep, k_join, k_fn, kind_word, kinds, read_rest, read_form, form_next, part_opens, read_part, read_optional, read_star, star_next, read_show, read_number, read_limit, read_window, read_when, read_grant, read_entry, read_body}
use Rattle.syntax.proofs.Steps.{Reads, from, ensured, done, byte_read, run_past, head_read}
use Rattle.syntax.proofs.Lexical.{name_read, int_read}
use Rattle.syntax.proofs.Terms.{ref_read, operand_read}

-- a text is the end of another
abbrev pub Ends : Bytes → Bytes → Type 0
Ends bs l = (w : Bytes) × (bs ≡ w ++ l)

pub ends_all : (bs : Bytes) → Ends bs bs
ends_all bs = ([], refl)

pub ends_both : {a b c : Bytes} → Ends a b → Ends b c → Ends a c
ends_both {c} h k = (h.0 ++ k.0, h.1 ∙ ap (λ l. h.0 ++ l) k.1 ∙ sym (append_assoc h.0 k.0 c))

pub ends_within : {bs l : Bytes} → Ends bs l → length l ≤ length bs
ends_within {l} h = let e = ap length h.1 in omega (arith, length-append h.0 l)

pub record Leaves {A : Type 0} (item : Reader A) : Type 0 where
  pub front : (bs : Bytes) (r : Read A) → item bs ≡ some r → Ends bs r.left

pub left_within : {A : Type 0} {item : Reader A} → Leaves item → (bs : Bytes) (r : Read A) → item bs ≡ some r → length r.left ≤ length bs
left_within leaves bs r e = ends_within (leaves.front bs r e)

-- ---- steps

pub byte_less : (b : ℕ) (bs : Bytes) (r : Read (Unit {0})) → byte b bs ≡ some r → length r.left < length bs
byte_less b bs r e = let l = ap length (byte_read b bs r e) in omega arith

pub byte_leaves : (b : ℕ) → Leaves (byte b)
byte_leaves b = record { front = λ bs r e. (b ∷ [], byte_read b bs r e) }

pub leaves_none : {A : Type 0} → Leaves {A = A} (λ r. none)
leaves_none = record { front = λ bs r e. absurd (none-ne-some r e) }

pub leaves_give : {A : Type 0} (a : A) → Leaves (give a)
unfolding give
leaves_give a = record { front = λ bs r e. done (λ x. Ends bs x.left) e (ends_all bs) }

pub leaves_byte : {A : Type 0} (b : ℕ) (n : Reader A) → Leaves n → Leaves (byte b >> n)
unfolding ◌>>◌
leaves_byte b n h = record { front = λ bs r e. from _ _ e (λ a p q. ends_both ((byte_leaves b).front bs a p) (h.front a.left r q)) }

pub leaves_item : {A B : Type 0} (m : Reader A) (f : A → Reader B) → Leaves m → ((a : A) → Leaves (f a)) → Leaves (m >>= f)
unfolding ◌>>=◌
leaves_item m f h k = record { front = λ bs r e. from _ _ e (λ a p q. ends_both (h.front bs a p) ((k a.what).front a.left r q)) }

-- a reader that undoes a printer whose text stands in front of what follows
pub leaves_printed : {A : Type 0} {good : A → Bool} {put : A → Bytes → Bytes} {item : Reader A} → ((x : A) (rest : Bytes) → Ends (put x rest) rest) → Reads good put item → Leaves item
leaves_printed f reads = record { front = λ bs r e. let h = f r.what r.left in (h.0, (reads.taken bs r e).1 ∙ h.1) }

-- ---- words, names and numbers

ends_run : (p : ℕ → Bool) (bs : Bytes) → Ends bs (past p bs)
ends_run p bs = (run p bs, sym (run_past p bs))

module _ {H : Type 0} (word : H → Bytes) (hs : List H) where
  pub word_leaves : Leaves (read_word word hs)
  unfolding read_word
  word_leaves = record { front = λ bs r e. from _ _ e (λ h p q. done (λ x. Ends bs x.left) q (ends_run plain bs)) }

  pub head_leaves : Leaves (read_head word hs)
  unfolding read_head
  head_leaves = leaves_byte 40 (read_word word hs) word_leaves

  pub head_less : (bs : Bytes) (r : Read H) → read_head word hs bs ≡ some r → length r.left < length bs
  unfolding put_open
  head_less bs r e = let l = ap length ((head_read word hs).taken bs r e).1 in omega (arith, length-append (word r.what) r.left)

pub open_leaves : (w : Bytes) → Leaves (read_open w)
unfolding read_open
open_leaves w = head_leaves itself (w ∷ [])

pub name_leaves : Leaves read_name
unfolding put_name
name_leaves = leaves_printed (λ n rest. (n, refl)) name_read

int_front : (z : ℤ) (rest : Bytes) → Ends (put_int z rest) rest
unfolding put_int put_nat
int_front (pos n) rest = (digits_from (suc n) n [], refl)
int_front (negsuc n) rest = (45 ∷ digits_from (suc (suc n)) (suc n) [], refl)

pub int_leaves : Leaves read_int
int_leaves = leaves_printed int_front int_read

ref_front : (r : Ref) (rest : Bytes) → Ends (put_ref r rest) rest
unfolding put_ref
ref_front (dotted n m) rest = ends_both (n, refl) (46 ∷ m, refl)
ref_front time rest = (bytes "time", refl)
ref_front figure rest = (bytes "figure", refl)

pub ref_leaves : Leaves read_ref
ref_leaves = leaves_printed ref_front ref_read

operand_front : (o : Operand) (rest : Bytes) → Ends (put_operand o rest) rest
unfolding put_operand
operand_front (ref r) rest = ref_front r rest
operand_front (number z) rest = int_front z rest

pub operand_leaves : Leaves read_operand
operand_leaves = leaves_printed operand_front operand_read

pub number_leaves : Leaves read_number
unfolding read_number
number_leaves = leaves_byte 32 read_int int_leaves

-- ---- lists

module _ {A : Type 0} (ends : Bytes → Bool) {item : Reader A} (leaves : Leaves item) where
  items_was : (k : ℕ) (bs : Bytes) (r : Read (List A)) → read_items ends item k bs ≡ some r → Ends bs r.left × (ends r.left ≡ true)
  unfolding read_items
  items_was zero bs r e = absurd (none-ne-some r e)
  items_was (suc k) bs r e =
      cond_cases (ends bs) (some _) _ e
      (λ t d. done (λ x. Ends bs x.left × (ends x.left ≡ true)) d (ends_all bs, T_true (ends bs) t))
      (λ t d. from _ _ d (λ s p q. from _ _ q (λ a u v. from _ _ v (λ xs y z.
      let i = items_was k a.left xs y in
      done (λ x. Ends bs x.left × (ends x.left ≡ true)) z (ends_both ((byte_leaves 32).front bs s p) (ends_both (leaves.front s.left a u) i.0), i.1)))))

  pub items_leaves : (k : ℕ) → Leaves (read_items ends item k)
  items_leaves k = record { front = λ bs r e. (items_was k bs r e).0 }

  -- the list ends where its end is seen
  pub items_ended : (k : ℕ) (bs : Bytes) (r : Read (List A)) → read_items ends item k bs ≡ some r → ends r.left ≡ true
  items_ended k bs r e = (items_was k bs r e).1

  pub some_leaves : (k : ℕ) → Leaves (read_some ends item k)
  unfolding read_some
  some_leaves k = record { front = λ bs r e. from _ _ e (λ xs p q. ensured (not (empty? xs.what)) q (λ t d. subst (λ x. Ends bs x.left) d ((items_leaves k).front bs xs p))) }

-- `search leaving` finds what a reader leaves by its steps
ruleset leaving = (leaves_give, leaves_byte, leaves_item, open_leaves, name_leaves, int_leaves, ref_leaves, operand_leaves, number_leaves)

-- ---- conditions

pub test_leaves : (o : Op) → Leaves (read_test o)
unfolding read_test
test_leaves o = search leaving depth 20

module _ (one : Reader (Cond Test)) (many : Reader (Conds Test)) (c : Leaves one) (d : Leaves many) where
  pub headed_leaves : (h : Head) → Leaves (read_headed one many h)
  unfolding read_headed
  headed_leaves (compare o) = test_leaves o
  headed_leaves and = search leaving depth 20
  headed_leaves or = search leaving depth 20
  headed_leaves not_of = search leaving depth 20

  more_front : (c : Cond Test) (bs : Bytes) (r : Read (Conds Test)) → read_more many c bs ≡ some r → Ends bs r.left
  unfolding read_more
  more_front c [] r e = absurd (none-ne-some r e)
  more_front c (b ∷ bs) r e =
      cond_cases (eqb 32 b) _ (some _) e
      (λ t f. from _ _ f (λ cs p q. done (λ x. Ends (b ∷ bs) x.left) q (d.front (b ∷ bs) cs p)))
      (λ t f. done (λ x. Ends (b ∷ bs) x.left) f (ends_all (b ∷ bs)))

  pub more_leaves : (c : Cond Test) → Leaves (read_more many c)
  more_leaves c = record { front = more_front c }

mutual
  unfolding read_cond ◌>>=◌ ◌>>◌

  pub cond_leaves : (k : ℕ) → Leaves (λ r. read_cond k r)
  cond_leaves zero = leaves_none
  cond_leaves (suc k) =
      leaves_item (read_head head_word heads) (read_headed (λ r. read_cond k r) (λ r. read_conds k r)) (head_leaves head_word heads) (λ h.
      headed_leaves (λ r. read_cond k r) (λ r. read_conds k r) (cond_leaves k) (conds_leaves k) h)

  pub conds_leaves : (k : ℕ) → Leaves (λ r. read_conds k r)
  conds_leaves zero = leaves_none
  conds_leaves (suc k) =
      leaves_byte 32 (◌>>=◌ (λ r. read_cond k r) (read_more (λ r. read_conds k r))) (leaves_item (λ r. read_cond k r) (read_more (λ r. read_conds k r)) (cond_leaves k) (λ c.
      more_leaves (λ r. read_cond k r) (λ r. read_conds k r) (cond_leaves k) (conds_leaves k) c))

-- ---- queries

module _ (conds : Reader (Cond Test)) (cols : Reader (List Ref)) (forms : Reader Form) (c : Leaves conds) (d : Leaves cols) (f : Leaves forms) where
  pub rest_leaves : (h : Kind) → Leaves (read_rest conds cols forms h)
  unfolding read_rest
  rest_leaves k_in = search leaving depth 20
  rest_leaves k_pick = search leaving depth 20
  rest_leaves k_keep = search leaving depth 20
  rest_leaves k_join = search leaving depth 20
  rest_leaves (k_fn g) = search leaving depth 20

pub form_leaves : (k : ℕ) → Leaves (λ r. read_form k r)
unfolding read_form ◌>>=◌
form_leaves zero = leaves_none
form_leaves (suc k) =
    leaves_item (read_head kind_word kinds) (read_rest (λ r. read_cond (suc k) r) (λ r. read_some form_next read_ref (suc k) r) (λ r. read_form k r)) (head_leaves kind_word kinds) (λ h.
    rest_leaves (λ r. read_cond (suc k) r) (λ r. read_some form_next read_ref (suc k) r) (λ r. read_form k r) (cond_leaves (suc k)) (some_leaves form_next ref_leaves (suc k)) (form_leaves k) h)

-- ---- parts of lines

pub part_leaves : {A : Type 0} (w : Bytes) (inner : Reader A) → Leaves inner → Leaves (read_part w inner)
unfolding read_part
part_leaves w inner h = search leaving depth 20

pub optional_leaves : {A : Type 0} (w : Bytes) (absent : A) (part : Reader A) → Leaves part → Leaves (read_optional w absent part)
unfolding read_optional
optional_leaves w absent part h =
    record { front = λ bs r e. cond_cases (part_opens w bs) (part bs) (give absent bs) e (λ t d. h.front bs r d) (λ t d. (leaves_give absent).front bs r d) }

star_leaves : Leaves read_star
unfolding read_star
star_leaves = leaves_byte 32 _ (word_leaves itself (bytes "*" ∷ []))

pub show_leaves : (k : ℕ) → Leaves (read_show k)
unfolding read_show
show_leaves k =
    record {
      front = λ bs r e. cond_cases (star_next bs) _ _ e
          (λ t d. from _ _ d (λ s p q. done (λ x. Ends bs x.left) q (star_leaves.front bs s p)))
          (λ t d. from _ _ d (λ s p q. done (λ x. Ends bs x.left) q ((some_leaves closes ref_leaves k).front bs s p)));
    }

pub limit_leaves : (w : Bytes) → Leaves (read_limit w)
unfolding read_limit
limit_leaves w = optional_leaves w none _ (part_leaves w _ (search leaving depth 20))

pub window_leaves : Leaves read_window
unfolding read_window
window_leaves = optional_leaves (bytes "window") none _ (part_leaves (bytes "window") _ (search leaving depth 20))

pub when_leaves : (k : ℕ) → Leaves (read_when k)
unfolding read_when
when_leaves k = optional_leaves (bytes "when") [] _ (part_leaves (bytes "when") _ (some_leaves closes (cond_leaves k) k))

ruleset parting = (leaving, word_leaves, items_leaves, some_leaves, part_leaves, show_leaves, when_leaves, limit_leaves, window_leaves)

pub grant_leaves : (k : ℕ) → Leaves (read_grant k)
unfolding read_grant
grant_leaves k = search parting depth 30

pub entry_leaves : Leaves read_entry
unfolding read_entry
entry_leaves = search leaving depth 20

-- what follows a line's first word
pub body_leaves : (v : Verb) (k : ℕ) → Leaves (read_body v k)
unfolding read_body
body_leaves stream k = search parting depth 30
body_leaves grant k = grant_leaves k
body_leaves clock k = number_leaves
body_leaves row k = search parting depth 30
body_leaves clear k = leaves_give tt
body_leaves caller k = search (parting, entry_leaves) depth 30
body_leaves ask k = leaves_byte 32 _ (leaves_item _ _ (form_leaves k) (λ q. leaves_give q))
body_leaves line k = leaves_item _ _ number_leaves (λ r. leaves_byte 32 _ (leaves_item _ _ (form_leaves k) (λ q. leaves_give _)))
