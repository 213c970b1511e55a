-- A bound of at least the bytes given changes nothing of what a reader reads.
use mathlib.Core.Path.{◌≡◌, refl, ap, ◌∙◌}
use mathlib.Core.List.{List, [], ◌∷◌}
use mathlib.Core.Bool.{Bool, false, not, cond}
use mathlib.Core.Option.{Option, none, some}
use Prim.Native.Nat.{ℕ, zero, suc, ◌≤◌}
use native.Mathlib.Omega.{arith}
use lib.ListN.{length, drop, length-drop}
use Rattle.lists.specs.Lists.{empty?}
use Rattle.syntax.specs.Grammar.{Bytes, bytes, Test, Cond, Conds, Ref, Form}
use Rattle.syntax.specs.Readers.{Reader, bind, ensure, ◌>>=◌, ◌>>◌, byte, read_head, read_name, read_ref, read_items, read_some, closes, form_next, Head, compare, and, or, not_of, head_word, heads, read_headed, read_more, read_cond, read_conds, Kind, k_in, k_pick, k_keep, k_join, k_fn, kind_word, kinds, read_rest, read_form, read_part, read_optional, read_show, read_when, read_grant}
use Rattle.syntax.proofs.Leaving.{Leaves, left_within, byte_less, head_less, word_leaves, open_leaves, name_leaves, int_leaves, ref_leaves, items_leaves, some_leaves, cond_leaves, conds_leaves, form_leaves, part_leaves, show_leaves, limit_leaves, window_leaves, when_leaves, grant_leaves}
use Rattle.text.specs.Readings.{any_items, any_some, any_cond, any_conds, any_form, any_show, any_grant}

-- two readers read alike what has at most some bytes
pub record Agree {A : Type 0} (n : ℕ) (p q : Reader A) : Type 0 where
  pub same : (bs : Bytes) → length bs ≤ n → p bs ≡ q bs

pub bind_same : {A B : Type 0} (x : Option A) (f g : A → Option B) → ((a : A) → x ≡ some a → f a ≡ g a) → bind x f ≡ bind x g
unfolding bind
bind_same none f g h = refl
bind_same (some a) f g h = h a refl

-- ---- steps

agree_same : {A : Type 0} (n : ℕ) (m : Reader A) → Agree n m m
agree_same n m = record { same = λ bs h. refl }

agree_byte : {B : Type 0} {n : ℕ} (b : ℕ) (p q : Reader B) → Agree n p q → Agree n (byte b >> p) (byte b >> q)
unfolding ◌>>◌
agree_byte b p q h = record { same = λ bs l. bind_same (byte b bs) _ _ (λ a e. let u = byte_less b bs a e in h.same a.left (omega arith)) }

agree_item : {A B : Type 0} {n : ℕ} (m k : Reader A) (f g : A → Reader B) → Leaves k → Agree n m k → ((a : A) → Agree n (f a) (g a)) → Agree n (m >>= f) (k >>= g)
unfolding ◌>>=◌
agree_item m k f g c h i =
    record {
      same = λ bs l. ap (λ x. bind x (λ a. f a.what a.left)) (h.same bs l)
          ∙ bind_same (k bs) (λ a. f a.what a.left) (λ a. g a.what a.left) (λ a e. let u = left_within c bs a e in (i a.what).same a.left (omega arith));
    }

agree_part : {A : Type 0} {n : ℕ} (w : Bytes) (p q : Reader A) → Leaves q → Agree n p q → Agree n (read_part w p) (read_part w q)
unfolding read_part
agree_part {n} w p q c h = agree_byte 32 _ _ (agree_item _ _ _ _ (open_leaves w) (agree_same n _) (λ o. agree_item _ _ _ _ c h (λ a. agree_same n _)))

agree_optional : {A : Type 0} {n : ℕ} (w : Bytes) (absent : A) (p q : Reader A) → Agree n p q → Agree n (read_optional w absent p) (read_optional w absent q)
unfolding read_optional
agree_optional w absent p q h = record { same = λ bs l. rw (h.same bs l) }

-- ---- lists

module _ {A : Type 0} (ends : Bytes → Bool) (o : ends [] ≡ false) (p q : Reader A) (c : Leaves q) (n : ℕ) (h : Agree n p q) where
  pub fuel_items : (k j : ℕ) (bs : Bytes) → length bs ≤ n → length bs ≤ k → length bs ≤ j → read_items ends p k bs ≡ read_items ends q j bs
  unfolding read_items byte bind
  fuel_items zero zero bs l x y = refl
  fuel_items zero (suc j) [] l x y = rw o
  fuel_items zero (suc j) (b ∷ bs) l x y = absurd (omega arith)
  fuel_items (suc k) zero [] l x y = rw o
  fuel_items (suc k) zero (b ∷ bs) l x y = absurd (omega arith)
  fuel_items (suc k) (suc j) bs l x y =
      ap (λ z. cond (ends bs) (some (record { what = []; left = bs })) z)
      (bind_same (byte 32 bs) _ _ (λ s e. let u = byte_less 32 bs s e in
      ap (λ z. bind z (λ a. bind (read_items ends p k a.left) (λ xs. some (record { what = a.what ∷ xs.what; left = xs.left })))) (h.same s.left (omega arith))
      ∙ bind_same (q s.left) _ _ (λ a f. let v = left_within c s.left a f in
      ap (λ z. bind z (λ xs. some (record { what = a.what ∷ xs.what; left = xs.left }))) (fuel_items k j a.left (omega arith) (omega arith) (omega arith)))))

  pub fuel_some : (k j : ℕ) (bs : Bytes) → length bs ≤ n → length bs ≤ k → length bs ≤ j → read_some ends p k bs ≡ read_some ends q j bs
  unfolding read_some
  fuel_some k j bs l x y = ap (λ z. bind z (λ xs. ensure (not (empty? xs.what)) xs)) (fuel_items k j bs l x y)

pub no_close : closes [] ≡ false
unfolding closes
no_close = refl

pub no_form_next : form_next [] ≡ false
unfolding form_next
no_form_next = refl

module _ {A : Type 0} (ends : Bytes → Bool) (o : ends [] ≡ false) (item : Reader A) (c : Leaves item) where
  pub items_any : (k : ℕ) (bs : Bytes) → length bs ≤ k → read_items ends item k bs ≡ any_items ends item bs
  unfolding any_items
  items_any k bs h = fuel_items ends o item item c (length bs) (agree_same (length bs) item) k (length bs) bs (omega arith) h (omega arith)

  pub some_any : (k : ℕ) (bs : Bytes) → length bs ≤ k → read_some ends item k bs ≡ any_some ends item bs
  unfolding any_some
  some_any k bs h = fuel_some ends o item item c (length bs) (agree_same (length bs) item) k (length bs) bs (omega arith) h (omega arith)

  pub any_items_leaves : Leaves (any_items ends item)
  unfolding any_items
  any_items_leaves = record { front = λ bs r e. (items_leaves ends c (length bs)).front bs r e }

  pub any_some_leaves : Leaves (any_some ends item)
  unfolding any_some
  any_some_leaves = record { front = λ bs r e. (some_leaves ends c (length bs)).front bs r e }

  -- what a list is read by, with no bound
  pub items_step : (bs : Bytes)
      → any_items ends item bs ≡ cond (ends bs) (some (record { what = []; left = bs })) (bind (byte 32 bs) (λ s. bind (item s.left) (λ a. bind (any_items ends item a.left) (λ xs. some (record { what = a.what ∷ xs.what; left = xs.left })))))
  unfolding any_items read_items byte bind
  items_step [] = rw o
  items_step (b ∷ bs) =
      ap (λ z. cond (ends (b ∷ bs)) (some (record { what = []; left = b ∷ bs })) z)
      (bind_same (byte 32 (b ∷ bs)) _ _ (λ s e. let u = byte_less 32 (b ∷ bs) s e in
      bind_same (item s.left) _ _ (λ a f. let v = left_within c s.left a f in
      ap (λ z. bind z (λ xs. some (record { what = a.what ∷ xs.what; left = xs.left }))) (items_any (length bs) a.left (omega arith)))))

-- ---- conditions

module _ {n : ℕ} (one one' : Reader (Cond Test)) (many many' : Reader (Conds Test)) (c : Leaves one') (d : Leaves many') (p : Agree n one one') (q : Agree n many many') where
  fuel_headed : (h : Head) → Agree n (read_headed one many h) (read_headed one' many' h)
  unfolding read_headed
  fuel_headed (compare o) = agree_same n _
  fuel_headed and = agree_item _ _ _ _ d q (λ a. agree_same n _)
  fuel_headed or = agree_item _ _ _ _ d q (λ a. agree_same n _)
  fuel_headed not_of = agree_byte 32 _ _ (agree_item _ _ _ _ c p (λ a. agree_same n _))

  more_same : (x : Cond Test) (bs : Bytes) → length bs ≤ n → read_more many x bs ≡ read_more many' x bs
  unfolding read_more
  more_same x [] l = refl
  more_same x (b ∷ bs) l = rw (q.same (b ∷ bs) l)

mutual
  unfolding read_cond read_head ◌>>◌ bind byte

  pub fuel_cond : (k j : ℕ) (bs : Bytes) → length bs ≤ k → length bs ≤ j → read_cond k bs ≡ read_cond j bs
  fuel_cond zero zero bs x y = refl
  fuel_cond zero (suc j) [] x y = refl
  fuel_cond zero (suc j) (b ∷ bs) x y = absurd (omega arith)
  fuel_cond (suc k) zero [] x y = refl
  fuel_cond (suc k) zero (b ∷ bs) x y = absurd (omega arith)
  fuel_cond (suc k) (suc j) bs x y =
      bind_same (read_head head_word heads bs) _ _ (λ h e. let u = head_less head_word heads bs h e in
      (fuel_headed {n = length h.left} (λ r. read_cond k r) (λ r. read_cond j r) (λ r. read_conds k r) (λ r. read_conds j r) (cond_leaves j) (conds_leaves j)
      (record { same = λ l z. fuel_cond k j l (omega arith) (omega arith) }) (record { same = λ l z. fuel_conds k j l (omega arith) (omega arith) }) h.what).same h.left (omega arith))

  pub fuel_conds : (k j : ℕ) (bs : Bytes) → length bs ≤ k → length bs ≤ j → read_conds k bs ≡ read_conds j bs
  fuel_conds zero zero bs x y = refl
  fuel_conds zero (suc j) [] x y = refl
  fuel_conds zero (suc j) (b ∷ bs) x y = absurd (omega arith)
  fuel_conds (suc k) zero [] x y = refl
  fuel_conds (suc k) zero (b ∷ bs) x y = absurd (omega arith)
  fuel_conds (suc k) (suc j) bs x y =
      bind_same (byte 32 bs) _ _ (λ s e. let u = byte_less 32 bs s e in
      ap (λ z. bind z (λ c. read_more (λ r. read_conds k r) c.what c.left)) (fuel_cond k j s.left (omega arith) (omega arith))
      ∙ bind_same (read_cond j s.left) _ _ (λ c f. let v = left_within (cond_leaves j) s.left c f in
      more_same {n = length c.left} (λ r. read_cond k r) (λ r. read_cond j r) (λ r. read_conds k r) (λ r. read_conds j r) (cond_leaves j) (conds_leaves j)
      (record { same = λ l z. fuel_cond k j l (omega arith) (omega arith) }) (record { same = λ l z. fuel_conds k j l (omega arith) (omega arith) }) c.what c.left (omega arith)))

pub cond_any : (k : ℕ) (bs : Bytes) → length bs ≤ k → read_cond k bs ≡ any_cond bs
unfolding any_cond
cond_any k bs h = fuel_cond k (length bs) bs h (omega arith)

pub conds_any : (k : ℕ) (bs : Bytes) → length bs ≤ k → read_conds k bs ≡ any_conds bs
unfolding any_conds
conds_any k bs h = fuel_conds k (length bs) bs h (omega arith)

pub any_cond_leaves : Leaves any_cond
unfolding any_cond
any_cond_leaves = record { front = λ bs r e. (cond_leaves (length bs)).front bs r e }

pub any_conds_leaves : Leaves any_conds
unfolding any_conds
any_conds_leaves = record { front = λ bs r e. (conds_leaves (length bs)).front bs r e }

-- what a condition and a list of them are read by, with no bound
pub cond_step : (bs : Bytes) → any_cond bs ≡ bind (read_head head_word heads bs) (λ h. read_headed any_cond any_conds h.what h.left)
unfolding any_cond read_cond read_head ◌>>◌ bind byte
cond_step [] = refl
cond_step (b ∷ bs) =
    bind_same (read_head head_word heads (b ∷ bs)) _ _ (λ h e. let u = head_less head_word heads (b ∷ bs) h e in
    (fuel_headed {n = length bs} (λ r. read_cond (length bs) r) any_cond (λ r. read_conds (length bs) r) any_conds any_cond_leaves any_conds_leaves
    (record { same = cond_any (length bs) }) (record { same = conds_any (length bs) }) h.what).same h.left (omega arith))

pub conds_step : (bs : Bytes) → any_conds bs ≡ bind (byte 32 bs) (λ s. bind (any_cond s.left) (λ c. read_more any_conds c.what c.left))
unfolding any_conds read_cond bind byte
conds_step [] = refl
conds_step (b ∷ bs) =
    bind_same (byte 32 (b ∷ bs)) _ _ (λ s e. let u = byte_less 32 (b ∷ bs) s e in
    ap (λ z. bind z (λ c. read_more (λ r. read_conds (length bs) r) c.what c.left)) (cond_any (length bs) s.left (omega arith))
    ∙ bind_same (any_cond s.left) _ _ (λ c f. let v = left_within any_cond_leaves s.left c f in
    more_same {n = length bs} (λ r. read_cond (length bs) r) any_cond (λ r. read_conds (length bs) r) any_conds any_cond_leaves any_conds_leaves
    (record { same = cond_any (length bs) }) (record { same = conds_any (length bs) }) c.what c.left (omega arith)))

-- ---- queries

module _ {n : ℕ} (cond cond' : Reader (Cond Test)) (cols cols' : Reader (List Ref)) (form form' : Reader Form) (c : Leaves cond') (d : Leaves cols') (f : Leaves form')
    (p : Agree n cond cond') (q : Agree n cols cols') (r : Agree n form form') where
  ruleset agreeing = (agree_byte, agree_item, agree_same, open_leaves, name_leaves, int_leaves, ref_leaves)

  fuel_rest : (h : Kind) → Agree n (read_rest cond cols form h) (read_rest cond' cols' form' h)
  unfolding read_rest
  fuel_rest k_in = agree_same n _
  fuel_rest k_pick = search agreeing depth 20
  fuel_rest k_keep = search agreeing depth 20
  fuel_rest k_join = search agreeing depth 30
  fuel_rest (k_fn g) = search agreeing depth 20

pub fuel_form : (k j : ℕ) (bs : Bytes) → length bs ≤ k → length bs ≤ j → read_form k bs ≡ read_form j bs
unfolding read_form read_head ◌>>◌ bind byte
fuel_form zero zero bs x y = refl
fuel_form zero (suc j) [] x y = refl
fuel_form zero (suc j) (b ∷ bs) x y = absurd (omega arith)
fuel_form (suc k) zero [] x y = refl
fuel_form (suc k) zero (b ∷ bs) x y = absurd (omega arith)
fuel_form (suc k) (suc j) bs x y =
    bind_same (read_head kind_word kinds bs) _ _ (λ h e. let u = head_less kind_word kinds bs h e in
    (fuel_rest {n = length h.left} (λ r. read_cond (suc k) r) (λ r. read_cond (suc j) r) (λ r. read_some form_next read_ref (suc k) r) (λ r. read_some form_next read_ref (suc j) r) (λ r. read_form k r) (λ r. read_form j r)
    (cond_leaves (suc j)) (some_leaves form_next ref_leaves (suc j)) (form_leaves j)
    (record { same = λ l z. fuel_cond (suc k) (suc j) l (omega arith) (omega arith) })
    (record { same = λ l z. fuel_some form_next no_form_next read_ref read_ref ref_leaves (length l) (agree_same (length l) read_ref) (suc k) (suc j) l (omega arith) (omega arith) (omega arith) })
    (record { same = λ l z. fuel_form k j l (omega arith) (omega arith) }) h.what).same h.left (omega arith))

pub form_any : (k : ℕ) (bs : Bytes) → length bs ≤ k → read_form k bs ≡ any_form bs
unfolding any_form
form_any k bs h = fuel_form k (length bs) bs h (omega arith)

pub any_form_leaves : Leaves any_form
unfolding any_form
any_form_leaves = record { front = λ bs r e. (form_leaves (length bs)).front bs r e }

pub form_step : (bs : Bytes) → any_form bs ≡ bind (read_head kind_word kinds bs) (λ h. read_rest any_cond (any_some form_next read_ref) any_form h.what h.left)
unfolding any_form read_form read_head ◌>>◌ bind byte
form_step [] = refl
form_step (b ∷ bs) =
    bind_same (read_head kind_word kinds (b ∷ bs)) _ _ (λ h e. let u = head_less kind_word kinds (b ∷ bs) h e in
    (fuel_rest {n = length bs} (λ r. read_cond (suc (length bs)) r) any_cond (λ r. read_some form_next read_ref (suc (length bs)) r) (any_some form_next read_ref) (λ r. read_form (length bs) r) any_form
    any_cond_leaves (any_some_leaves form_next no_form_next read_ref ref_leaves) any_form_leaves
    (record { same = λ l z. cond_any (suc (length bs)) l (omega arith) })
    (record { same = λ l z. some_any form_next no_form_next read_ref ref_leaves (suc (length bs)) l (omega arith) })
    (record { same = form_any (length bs) }) h.what).same h.left (omega arith))

-- ---- grants

pub fuel_show : (k j : ℕ) (bs : Bytes) → length bs ≤ k → length bs ≤ j → read_show k bs ≡ read_show j bs
unfolding read_show
fuel_show k j bs x y =
    rw (fuel_some closes no_close read_ref read_ref ref_leaves (length bs) (agree_same (length bs) read_ref) k j bs (omega arith) x y)

pub fuel_when : (k j : ℕ) (bs : Bytes) → length bs ≤ k → length bs ≤ j → read_when k bs ≡ read_when j bs
unfolding read_when
fuel_when k j bs x y =
    (agree_optional {n = length bs} (bytes "when") [] _ _ (agree_part (bytes "when") _ _ (some_leaves closes (cond_leaves j) j)
    (record {
      same = λ l z. fuel_some closes no_close (λ r. read_cond k r) (λ r. read_cond j r) (cond_leaves j) (length l)
          (record { same = λ m w. fuel_cond k j m (omega arith) (omega arith) }) k j l (omega arith) (omega arith) (omega arith);
    }))).same bs (omega arith)

names_agree : (n k j : ℕ) → n ≤ k → n ≤ j → Agree n (read_some closes read_name k) (read_some closes read_name j)
names_agree n k j x y =
    record { same = λ l z. fuel_some closes no_close read_name read_name name_leaves (length l) (agree_same (length l) read_name) k j l (omega arith) (omega arith) (omega arith) }

show_agree : (n k j : ℕ) → n ≤ k → n ≤ j → Agree n (read_show k) (read_show j)
show_agree n k j x y = record { same = λ l z. fuel_show k j l (omega arith) (omega arith) }

when_agree : (n k j : ℕ) → n ≤ k → n ≤ j → Agree n (read_when k) (read_when j)
when_agree n k j x y = record { same = λ l z. fuel_when k j l (omega arith) (omega arith) }

names_leave : (k : ℕ) → Leaves (read_some closes read_name k)
names_leave k = some_leaves closes name_leaves k

ruleset granting = (agree_byte, agree_item, agree_part, agree_same, names_agree, show_agree, when_agree, names_leave, name_leaves, word_leaves, part_leaves, show_leaves, when_leaves, limit_leaves, window_leaves)

grant_agree : (n k j : ℕ) → n ≤ k → n ≤ j → Agree n (read_grant k) (read_grant j)
unfolding read_grant
grant_agree n k j x y = search granting depth 30

pub fuel_grant : (k j : ℕ) (bs : Bytes) → length bs ≤ k → length bs ≤ j → read_grant k bs ≡ read_grant j bs
fuel_grant k j bs x y = (grant_agree (length bs) k j x y).same bs (omega arith)

pub grant_any : (k : ℕ) (bs : Bytes) → length bs ≤ k → read_grant k bs ≡ any_grant bs
unfolding any_grant
grant_any k bs h = fuel_grant k (length bs) bs h (omega arith)

pub any_grant_leaves : Leaves any_grant
unfolding any_grant
any_grant_leaves = record { front = λ bs r e. (grant_leaves (length bs)).front bs r e }

-- ---- with the bound of a line, at a place of it

module _ (s : Bytes) (p : ℕ) where
  within : length (drop p s) ≤ length s
  within = omega (arith, length-drop p s)

  module _ {A : Type 0} (item : Reader A) (c : Leaves item) where
    pub items_here : read_items closes item (length s) (drop p s) ≡ any_items closes item (drop p s)
    items_here = items_any closes no_close item c (length s) (drop p s) within

    pub some_here : read_some closes item (length s) (drop p s) ≡ any_some closes item (drop p s)
    some_here = some_any closes no_close item c (length s) (drop p s) within

  pub form_here : read_form (length s) (drop p s) ≡ any_form (drop p s)
  form_here = form_any (length s) (drop p s) within

  pub show_here : read_show (length s) (drop p s) ≡ any_show (drop p s)
  unfolding any_show
  show_here = fuel_show (length s) (length (drop p s)) (drop p s) within (omega arith)
