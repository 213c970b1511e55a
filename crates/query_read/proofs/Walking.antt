-- A form inside those that are open: what is still to be read, and what is read so far joined to it.
use mathlib.Core.Path.{◌≡◌, refl, sym, ap, ◌∙◌}
use mathlib.Core.List.{List, [], ◌∷◌, ◌++◌, append_assoc}
use mathlib.Core.Bool.{Bool, true, false, cond}
use mathlib.Core.Option.{Option, none, some}
use Prim.Native.Nat.{ℕ, zero, suc, ◌+◌, ◌*◌, ◌-◌, ◌≤◌, ◌<◌}
use native.Mathlib.Omega.{arith}
use lib.Dec.{eqb}
use lib.ListN.{length, drop, get_or, length-append}
use borrow.Author.Tests.{eqb-true, eqb-false}
use Rattle.syntax.specs.Grammar as G
use Rattle.syntax.specs.Grammar.{Bytes, Form, Fn, Ref, fn_word, put_open}
use Rattle.syntax.specs.Readers.{Read, Reader, bind, ◌>>=◌, ◌>>◌, give, byte, read_head, read_open, read_name, read_int, read_ref, form_next, Kind, k_in, k_pick, k_keep, k_join, k_fn, kind_word, kinds, read_rest}
use Rattle.syntax.proofs.Steps.{from, done, bind_bind, head_read}
use Rattle.syntax.proofs.Conditions.{cond_read}
use Rattle.syntax.proofs.Leaving.{Leaves, left_within, ends_both, byte_less, leaves_byte, leaves_item, leaves_give, head_leaves, open_leaves, name_leaves, int_leaves, ref_leaves}
use Rattle.text.specs.Words.{Found, Some, None}
use Rattle.text.specs.Readings.{any_cond, any_some, any_form}
use Rattle.text.proofs.Runs.{inside as in-text}
use Rattle.text.proofs.Places.{byte_is, byte_not}
use Rattle.text.proofs.Fuel.{bind_same, form_step, any_cond_leaves, any_some_leaves, no_form_next}
use Rattle.nodes.specs.Storing.{size}
use Rattle.conditions.specs.Seeing.{nodes_of}
use Rattle.conditions.proofs.Capacity.{cond_bytes}
use Rattle.conditions.proofs.Skipping.{stack}
use Rattle.query_read.specs.declared.Next.{Next}
use Rattle.query_read.specs.declared.Next.TheVariants.{Ended, Inside}
use Rattle.query_read.specs.Parts.{Part, rows, pick, keep, join, aggregate, Inner, inner, parts, read_part, read_own}
use Rattle.query_read.specs.Steps.{after_form}

-- ---- a form by its own part and the forms inside it

-- what follows a part, up to its form's closing bracket
unfoldable inside : Part → Reader Form
inside (rows s) l = some (record { what = G.rows s; left = l })
inside (pick c) l = bind (any_form l) (λ q. bind (byte 41 q.left) (λ u. some (record { what = G.pick c q.what; left = u.left })))
inside (keep rs) l = bind (any_form l) (λ q. bind (byte 41 q.left) (λ u. some (record { what = G.keep rs q.what; left = u.left })))
inside (join a b) l =
    bind (any_form l) (λ q. bind (byte 32 q.left) (λ u. bind (any_form u.left) (λ r. bind (byte 41 r.left) (λ v. some (record { what = G.join a b q.what r.what; left = v.left })))))
inside (aggregate f c z w) l = bind (any_form l) (λ q. bind (byte 41 q.left) (λ u. some (record { what = G.aggregate f c z w q.what; left = u.left })))

rest_own : (k : Kind) (bs : Bytes) → read_rest any_cond (any_some form_next read_ref) any_form k bs ≡ bind (read_part k bs) (λ p. inside p.what p.left)
unfolding read_rest read_part ◌>>=◌ ◌>>◌ give inside bind
rest_own k_in bs =
    sym (bind_bind (byte 32 bs) _ _ ∙ bind_same (byte 32 bs) _ _ (λ u h. bind_bind (read_name u.left) _ _ ∙ bind_same (read_name u.left) _ _ (λ a i. bind_bind (byte 41 a.left) _ _)))
rest_own k_pick bs =
    sym (bind_bind (byte 32 bs) _ _ ∙ bind_same (byte 32 bs) _ _ (λ u h. bind_bind (any_cond u.left) _ _ ∙ bind_same (any_cond u.left) _ _ (λ a i. bind_bind (byte 32 a.left) _ _)))
rest_own k_keep bs =
    sym (bind_bind (any_some form_next read_ref bs) _ _ ∙ bind_same (any_some form_next read_ref bs) _ _ (λ a i. bind_bind (byte 32 a.left) _ _))
rest_own k_join bs =
    sym (bind_bind (byte 32 bs) _ _ ∙ bind_same (byte 32 bs) _ _ (λ u h. bind_bind (read_open (G.op_word G.eq) u.left) _ _ ∙ bind_same (read_open (G.op_word G.eq) u.left) _ _ (λ o j.
    bind_bind (byte 32 o.left) _ _ ∙ bind_same (byte 32 o.left) _ _ (λ v k. bind_bind (read_ref v.left) _ _ ∙ bind_same (read_ref v.left) _ _ (λ a l.
    bind_bind (byte 32 a.left) _ _ ∙ bind_same (byte 32 a.left) _ _ (λ w m. bind_bind (read_ref w.left) _ _ ∙ bind_same (read_ref w.left) _ _ (λ b n.
    bind_bind (byte 41 b.left) _ _ ∙ bind_same (byte 41 b.left) _ _ (λ x o. bind_bind (byte 32 x.left) _ _))))))))
rest_own (k_fn f) bs =
    sym (bind_bind (byte 32 bs) _ _ ∙ bind_same (byte 32 bs) _ _ (λ u h. bind_bind (read_ref u.left) _ _ ∙ bind_same (read_ref u.left) _ _ (λ a i.
    bind_bind (byte 32 a.left) _ _ ∙ bind_same (byte 32 a.left) _ _ (λ v j. bind_bind (read_int v.left) _ _ ∙ bind_same (read_int v.left) _ _ (λ z k.
    bind_bind (byte 32 z.left) _ _ ∙ bind_same (byte 32 z.left) _ _ (λ w l. bind_bind (read_int w.left) _ _ ∙ bind_same (read_int w.left) _ _ (λ y m.
    bind_bind (byte 32 y.left) _ _)))))))

form_own : (bs : Bytes) → any_form bs ≡ bind (read_own bs) (λ p. inside p.what p.left)
unfolding read_own
form_own bs =
    form_step bs ∙ bind_same (read_head kind_word kinds bs) _ _ (λ h e. rest_own h.what h.left)
    ∙ sym (bind_bind (read_head kind_word kinds bs) (λ h. read_part h.what h.left) (λ p. inside p.what p.left))

-- ---- what is still to be read

-- parts in front of those that are read
unfoldable pub ahead : List Inner → Option (Read (List Inner)) → Option (Read (List Inner))
ahead ps none = none
ahead ps (some x) = some (record { what = ps ++ x.what; left = x.left })

-- after a form inside those that are open, the innermost first: whether each waits for a second form
unfoldable pub rest : List Bool → Reader (List Inner)
rest [] bs = some (record { what = []; left = bs })
rest (second ∷ st) bs =
    cond second (bind (byte 32 bs) (λ u. bind (any_form u.left) (λ q. ahead (parts (suc (length st)) q.what) (bind (byte 41 q.left) (λ v. rest st v.left)))))
    (bind (byte 41 bs) (λ v. rest st v.left))

-- from a form inside those that are open
unfoldable pub within : List Bool → Reader (List Inner)
within st bs = bind (any_form bs) (λ q. ahead (parts (length st) q.what) (rest st q.left))

ahead_bind : {A : Type 0} (ps : List Inner) (o : Option A) (f : A → Option (Read (List Inner))) → ahead ps (bind o f) ≡ bind o (λ a. ahead ps (f a))
unfolding ahead bind
ahead_bind ps none f = refl
ahead_bind ps (some a) f = refl

ahead_both : (ps qs : List Inner) (o : Option (Read (List Inner))) → ahead ps (ahead qs o) ≡ ahead (ps ++ qs) o
unfolding ahead
ahead_both ps qs none = refl
ahead_both ps qs (some x) = ap (λ l. some (record { what = l; left = x.left })) (sym (append_assoc ps qs x.what))

-- after a part
unfoldable pub then_own : List Bool → Part → Reader (List Inner)
then_own st (rows s) l = ahead (inner (length st) (rows s) ∷ []) (rest st l)
then_own st (pick c) l = ahead (inner (length st) (pick c) ∷ []) (within (false ∷ st) l)
then_own st (keep rs) l = ahead (inner (length st) (keep rs) ∷ []) (within (false ∷ st) l)
then_own st (join a b) l = ahead (inner (length st) (join a b) ∷ []) (within (true ∷ st) l)
then_own st (aggregate f c z w) l = ahead (inner (length st) (aggregate f c z w) ∷ []) (within (false ∷ st) l)

-- one form inside, and the bracket that closes after it
one_inside : (st : List Bool) (i : Inner) (f : Form → Form) → ((q : Form) → parts (length st) (f q) ≡ i ∷ parts (suc (length st)) q) → (l : Bytes)
    → bind {A = Read Form} (bind (any_form l) (λ q. bind (byte 41 q.left) (λ u. some (record { what = f q.what; left = u.left })))) (λ q. ahead (parts (length st) q.what) (rest st q.left)) ≡ ahead (i ∷ []) (within (false ∷ st) l)
unfolding within rest bind
one_inside st i f h l =
    bind_bind (any_form l) _ _
    ∙ bind_same (any_form l) _ _ (λ q e. bind_bind (byte 41 q.left) _ _ ∙ bind_same (byte 41 q.left) _ _ (λ u d. ap (λ ps. ahead ps (rest st u.left)) (h q.what))
    ∙ sym (ahead_both (i ∷ []) (parts (suc (length st)) q.what) (bind (byte 41 q.left) (λ v. rest st v.left)) ∙ ahead_bind (i ∷ parts (suc (length st)) q.what) (byte 41 q.left) (λ v. rest st v.left)))
    ∙ sym (ahead_bind (i ∷ []) (any_form l) (λ q. ahead (parts (suc (length st)) q.what) (bind (byte 41 q.left) (λ v. rest st v.left))))

two_inside : (st : List Bool) (a b : Ref) (l : Bytes) → bind (inside (join a b) l) (λ q. ahead (parts (length st) q.what) (rest st q.left)) ≡ ahead (inner (length st) (join a b) ∷ []) (within (true ∷ st) l)
unfolding inside within rest bind parts
two_inside st a b l =
    bind_bind (any_form l) _ _
    ∙ bind_same (any_form l) _ _ (λ q e. bind_bind (byte 32 q.left) _ _ ∙ bind_same (byte 32 q.left) _ _ (λ u d. bind_bind (any_form u.left) _ _ ∙ bind_same (any_form u.left) _ _ (λ r g. bind_bind (byte 41 r.left) _ _
    ∙ sym (ahead_both (i ∷ parts n q.what) (parts n r.what) (bind (byte 41 r.left) (λ v. rest st v.left)) ∙ ahead_bind (i ∷ (parts n q.what ++ parts n r.what)) (byte 41 r.left) (λ v. rest st v.left)))
    ∙ sym (ahead_bind (i ∷ parts n q.what) (any_form u.left) (λ r. ahead (parts n r.what) (bind (byte 41 r.left) (λ v. rest st v.left)))))
    ∙ sym (ahead_both (i ∷ []) (parts n q.what) (rest (true ∷ st) q.left) ∙ ahead_bind (i ∷ parts n q.what) (byte 32 q.left) (λ u. bind (any_form u.left) (λ r. ahead (parts n r.what) (bind (byte 41 r.left) (λ v. rest st v.left))))))
    ∙ sym (ahead_bind (i ∷ []) (any_form l) (λ q. ahead (parts n q.what) (rest (true ∷ st) q.left)))
  where
    i : Inner
    i = inner (length st) (join a b)

    n : ℕ
    n = suc (length st)

inside_then : (st : List Bool) (p : Part) (l : Bytes) → bind (inside p l) (λ q. ahead (parts (length st) q.what) (rest st q.left)) ≡ then_own st p l
unfolding then_own inside parts bind
inside_then st (rows s) l = refl
inside_then st (pick c) l = one_inside st (inner (length st) (pick c)) (G.pick c) (λ q. refl) l
inside_then st (keep rs) l = one_inside st (inner (length st) (keep rs)) (G.keep rs) (λ q. refl) l
inside_then st (join a b) l = two_inside st a b l
inside_then st (aggregate f c z w) l = one_inside st (inner (length st) (aggregate f c z w)) (G.aggregate f c z w) (λ q. refl) l

pub within_own : (st : List Bool) (bs : Bytes) → within st bs ≡ bind (read_own bs) (λ p. then_own st p.what p.left)
unfolding within
within_own st bs =
    ap (λ o. bind o (λ q. ahead (parts (length st) q.what) (rest st q.left))) (form_own bs)
    ∙ bind_bind (read_own bs) (λ p. inside p.what p.left) (λ q. ahead (parts (length st) q.what) (rest st q.left))
    ∙ bind_same (read_own bs) _ _ (λ p e. inside_then st p.what p.left)

-- ---- how much of the text a part takes

ruleset leaving = (leaves_byte, leaves_item, leaves_give, open_leaves, name_leaves, int_leaves, ref_leaves, any_cond_leaves)

part_leaves : (k : Kind) → Leaves (read_part k)
unfolding read_part
part_leaves k_in = search leaving depth 20
part_leaves k_pick = search leaving depth 20
part_leaves k_keep = leaves_item _ _ (any_some_leaves form_next no_form_next read_ref ref_leaves) (λ a. search leaving depth 20)
part_leaves k_join = search leaving depth 30
part_leaves (k_fn f) = search leaving depth 20

pub own_leaves : Leaves read_own
unfolding read_own
own_leaves = record { front = λ bs r e. from _ _ e (λ h p q. ends_both ((head_leaves kind_word kinds).front bs h p) ((part_leaves h.what).front h.left r q)) }

-- how many bytes of a text a part takes at least
unfoldable pub cost : List ℕ → Part → ℕ
cost ns (rows s) = 1
cost ns (pick c) = 5 * size (nodes_of ns c) + 5
cost ns (keep rs) = 5
cost ns (join a b) = 5
cost ns (aggregate f c z w) = 5

fn_long : (f : Fn) → 3 ≤ length (fn_word f)
unfolding fn_word
fn_long G.min = omega arith
fn_long G.max = omega arith
fn_long G.count = omega arith
fn_long G.avg = omega arith
fn_long G.sum = omega arith

part_cost : (ns : List ℕ) (k : Kind) (bs : Bytes) (r : Read Part) → read_part k bs ≡ some r → cost ns r.what + length r.left ≤ suc (length (kind_word k)) + length bs
unfolding read_part ◌>>=◌ ◌>>◌ give cost kind_word any_cond
part_cost ns k_in bs r e =
    from _ _ e (λ u p q. from _ _ q (λ a i j. from _ _ j (λ v k l.
    let x = byte_less 32 bs u p in
    let y = left_within name_leaves u.left a i in
    let z = byte_less 41 a.left v k in
    done (λ x. cost ns x.what + length x.left ≤ 3 + length bs) l (omega arith))))
part_cost ns k_pick bs r e =
    from _ _ e (λ u p q. from _ _ q (λ a i j. from _ _ j (λ v k l.
    let x = byte_less 32 bs u p in
    let t = (cond_read (length u.left)).taken u.left a i in
    let y = cond_bytes ns a.what a.left t.0 in
    let w = ap length t.1 in
    let z = byte_less 32 a.left v k in
    done (λ x. cost ns x.what + length x.left ≤ 5 + length bs) l (omega arith))))
part_cost ns k_keep bs r e =
    from _ _ e (λ a i j. from _ _ j (λ v k l.
    let y = left_within (any_some_leaves form_next no_form_next read_ref ref_leaves) bs a i in
    let z = byte_less 32 a.left v k in
    done (λ x. cost ns x.what + length x.left ≤ 5 + length bs) l (omega arith)))
part_cost ns k_join bs r e =
    from _ _ e (λ u p q. from _ _ q (λ o i j. from _ _ j (λ v k l. from _ _ l (λ a m n. from _ _ n (λ w x y. from _ _ y (λ b f g. from _ _ g (λ h s t. from _ _ t (λ c d z.
    let a1 = byte_less 32 bs u p in
    let a2 = left_within (open_leaves (G.op_word G.eq)) u.left o i in
    let a3 = byte_less 32 o.left v k in
    let a4 = left_within ref_leaves v.left a m in
    let a5 = byte_less 32 a.left w x in
    let a6 = left_within ref_leaves w.left b f in
    let a7 = byte_less 41 b.left h s in
    let a8 = byte_less 32 h.left c d in
    done (λ x. cost ns x.what + length x.left ≤ 5 + length bs) z (omega arith)))))))))
part_cost ns (k_fn f) bs r e =
    from _ _ e (λ u p q. from _ _ q (λ a i j. from _ _ j (λ v k l. from _ _ l (λ z m n. from _ _ n (λ w x y. from _ _ y (λ o g h. from _ _ h (λ c d t.
    let a1 = byte_less 32 bs u p in
    let a2 = left_within ref_leaves u.left a i in
    let a3 = byte_less 32 a.left v k in
    let a4 = left_within int_leaves v.left z m in
    let a5 = byte_less 32 z.left w x in
    let a6 = left_within int_leaves w.left o g in
    let a7 = byte_less 32 o.left c d in
    let a8 = fn_long f in
    done (λ x. cost ns x.what + length x.left ≤ suc (length (fn_word f)) + length bs) t (omega arith))))))))

pub own_cost : (ns : List ℕ) (bs : Bytes) (r : Read Part) → read_own bs ≡ some r → cost ns r.what + length r.left ≤ length bs
unfolding read_own put_open
own_cost ns bs r e =
    from _ _ e (λ h p q.
    let a = part_cost ns h.what h.left r q in
    let l = ap length ((head_read kind_word kinds).taken bs h p).1 in
    let k = length-append (kind_word h.what) h.left in
    omega arith)

-- ---- the brackets that close after a form

open_none : (second : List Bool) (n : ℕ) (bs : Bytes) → get_or second n false ≡ true → byte 32 bs ≡ none → rest (stack second (suc n)) bs ≡ none
unfolding stack rest bind
open_none second n bs v e = rw (v, e)

close_none : (second : List Bool) (n : ℕ) (bs : Bytes) → get_or second n false ≡ false → byte 41 bs ≡ none → rest (stack second (suc n)) bs ≡ none
unfolding stack rest bind
close_none second n bs v e = rw (v, e)

pub record Goes (s : Bytes) (second : List Bool) (p n q m : ℕ) : Type 0 where
  pub least : 0 < m
  pub on : rest (stack second n) (drop p s) ≡ within (false ∷ stack second (m - 1)) (drop q s)
  pub fewer : m ≤ n
  pub forward : p < q
  pub inside : q ≤ length s

unfoldable pub After : Bytes → List Bool → ℕ → ℕ → Found Next → Type 0
After s second p n None = rest (stack second n) (drop p s) ≡ none
After s second p n (Some (Ended q)) = (rest (stack second n) (drop p s) ≡ some (record { what = []; left = drop q s })) × (p ≤ q) × (q ≤ length s)
After s second p n (Some (Inside q m)) = Goes s second p n q m

module _ (s : Bytes) (second : List Bool) where
  after_end : (p : ℕ) → p ≤ length s → After s second p 0 (Some (Ended p))
  unfolding After stack rest
  after_end p h = (refl, omega arith, h)

  after_close : (p n : ℕ) (k : Found Next) → get_or second n false ≡ false → get_or s p 0 ≡ 41 → After s second (p + 1) n k → After s second p (suc n) k
  unfolding After stack rest bind
  after_close p n k v z a = go k a
    where
      d : byte 41 (drop p s) ≡ some (record { what = tt; left = drop (p + 1) s })
      d = byte_is s p refl 41 z (omega arith)

      go : (k : Found Next) → After s second (p + 1) n k → After s second p (suc n) k
      go None a = rw (v, d) a
      go (Some (Ended q)) a = let f = a.1 in (rw (v, d) a.0, omega arith, a.2)
      go (Some (Inside q m)) a = let f = a.fewer in let g = a.forward in record { least = a.least; on = rw (v, d) a.on; fewer = omega arith; forward = omega arith; inside = a.inside }

  after_space : (p n : ℕ) → get_or second n false ≡ true → get_or s p 0 ≡ 32 → After s second p (suc n) (Some (Inside (p + 1) (suc n)))
  unfolding After stack rest within bind
  after_space p n v z =
      let d = byte_is s p refl 32 z (omega arith) in
      let l = in-text s p (omega arith) in
      let m : suc n - 1 ≡ n = omega arith in
      record { least = omega arith; on = rw (v, d, m); fewer = omega arith; forward = omega arith; inside = omega arith }

  pub after_law : (n p : ℕ) → p ≤ length s → After s second p n (after_form s second p n)
  unfolding After after_form
  after_law zero p h = after_end p h
  after_law (suc n) p h = go (λ l. after_law n (p + 1) l) (get_or second n false) refl (eqb (get_or s p 0) 32) refl (eqb (get_or s p 0) 41) refl
    where
      spaceless : get_or second n false ≡ true → (get_or s p 0 ≡ 32 → ⊥) → After s second p (suc n) None
      spaceless v f = open_none second n (drop p s) v (byte_not s p refl 32 f)

      closeless : get_or second n false ≡ false → (get_or s p 0 ≡ 41 → ⊥) → After s second p (suc n) None
      closeless v f = close_none second n (drop p s) v (byte_not s p refl 41 f)

      go : (p + 1 ≤ length s → After s second (p + 1) n (after_form s second (p + 1) n)) → (v : Bool) → get_or second n false ≡ v → (a : Bool) → eqb (get_or s p 0) 32 ≡ a → (b : Bool) → eqb (get_or s p 0) 41 ≡ b
          → After s second p (suc n) (cond v (cond a (Some (Inside (p + 1) (suc n))) None) (cond b (after_form s second (p + 1) n) None))
      go r true v true a b c = after_space p n v (eqb-true (get_or s p 0) 32 a)
      go r true v false a b c = spaceless v (eqb-false (get_or s p 0) 32 a)
      go r false v a d true c =
          let z = eqb-true (get_or s p 0) 41 c in
          let l = in-text s p (omega arith) in
          after_close p n (after_form s second (p + 1) n) v z (r (omega arith))
      go r false v a d false c = closeless v (eqb-false (get_or s p 0) 41 c)
