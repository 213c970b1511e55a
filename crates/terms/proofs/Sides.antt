-- What a comparison that was read says of the text, whatever its operator.
use mathlib.Core.Path.{◌≡◌, refl, sym, ap, ◌∙◌}
use mathlib.Core.List.{List}
use mathlib.Core.Option.{Option, none, some}
use Prim.Native.Nat.{ℕ, ◌-◌, ◌≤◌, ◌<◌}
use native.Mathlib.Omega.{arith}
use lib.Dec.{T}
use lib.ListN.{length, drop, length-drop}
use Rattle.std.proofs.lemmas.Option.{none-some, same_Some}
use Rattle.lists.proofs.Laws.{and_l, and_r}
use Rattle.syntax.specs.Grammar.{Bytes, Op, eq, Ref, Operand, Test, Cond, test, ref?, operand?, cond?, test?}
use Rattle.syntax.specs.Readers.{Read, bind, ◌>>=◌, ◌>>◌, give, byte, read_ref, read_operand, read_test}
use Rattle.syntax.proofs.Steps.{from, done, bind_bind}
use Rattle.syntax.proofs.Conditions.{test_read}
use Rattle.syntax.proofs.Leaving.{Ends, ends_both, ends_within, Leaves, byte_less, byte_leaves, ref_leaves, operand_leaves}
use Rattle.text.specs.Words.{Found, Some, None, left_at}
use Rattle.text.proofs.Views.{left_drop}
use Rattle.text.proofs.Fuel.{bind_same}
use Rattle.terms.specs.declared.Comparison.{Comparison}
use Rattle.terms.specs.Terms.{comparison_of, comparison_from, comparison_read, comparison_at}

-- the two sides of a comparison
record Sides : Type 0 where
  left : Ref
  right : Operand

read_sides : Bytes → Option (Read Sides)
read_sides bs =
    bind (byte 32 bs) (λ u. bind (read_ref u.left) (λ a. bind (byte 32 a.left) (λ v. bind (read_operand v.left) (λ b. bind (byte 41 b.left) (λ w.
    some (record { what = record { left = a.what; right = b.what }; left = w.left }))))))

-- with an operator
with_op : Op → Read Sides → Option (Read (Cond Test))
with_op o r = some (record { what = test (record { op = o; left = r.what.left; right = r.what.right }); left = r.left })

test_sides : (o : Op) (bs : Bytes) → read_test o bs ≡ bind (read_sides bs) (with_op o)
unfolding read_test ◌>>=◌ ◌>>◌ give read_sides with_op bind
test_sides o bs =
    sym (bind_bind (byte 32 bs) _ (with_op o) ∙ bind_same (byte 32 bs) _ _ (λ u h.
    bind_bind (read_ref u.left) _ (with_op o) ∙ bind_same (read_ref u.left) _ _ (λ a i.
    bind_bind (byte 32 a.left) _ (with_op o) ∙ bind_same (byte 32 a.left) _ _ (λ v j.
    bind_bind (read_operand v.left) _ (with_op o) ∙ bind_same (read_operand v.left) _ _ (λ b k.
    bind_bind (byte 41 b.left) _ (with_op o))))))

-- ---- what is left

-- after the first space
sides_after : (bs : Bytes) (r : Read Sides) → read_sides bs ≡ some r → {X : Type 0} → ((u : Read (Unit {0})) → byte 32 bs ≡ some u → Ends u.left r.left → X) → X
unfolding read_sides
sides_after bs r e f =
    from _ _ e (λ u p q. from _ _ q (λ a i j. from _ _ j (λ v k l. from _ _ l (λ b m n. from _ _ n (λ w o z.
    f u p (done (λ x. Ends u.left x.left) z
    (ends_both (ref_leaves.front u.left a i) (ends_both ((byte_leaves 32).front a.left v k) (ends_both (operand_leaves.front v.left b m) ((byte_leaves 41).front b.left w o))))))))))

sides_leave : Leaves read_sides
sides_leave = record { front = λ bs r e. sides_after bs r e (λ u p f. ends_both ((byte_leaves 32).front bs u p) f) }

sides_shorter : (bs : Bytes) (r : Read Sides) → read_sides bs ≡ some r → length r.left < length bs
sides_shorter bs r e =
    sides_after bs r e (λ u p f.
    let g = byte_less 32 bs u p in
    let h = ends_within f in
    omega arith)

-- ---- what the code has of it

module _ (ns : List ℕ) (s : Bytes) (at : ℕ) {x : Found Comparison} (p : x ≡ comparison_at ns s at) where
  read : Option (Read Sides) → Found Comparison
  read o = comparison_read ns s (bind o (with_op eq))

  read_is : x ≡ read (read_sides (drop at s))
  unfolding read comparison_at
  read_is = p ∙ ap (comparison_read ns s) (test_sides eq (drop at s))

  sides_cases : {X : Type 0} → (read_sides (drop at s) ≡ none → x ≡ None → X)
      → ((r : Read Sides) → read_sides (drop at s) ≡ some r → x ≡ Some (comparison_of ns (record { op = eq; left = r.what.left; right = r.what.right }) (length s - length r.left)) → X) → X
  unfolding read comparison_read comparison_from bind with_op left_at
  sides_cases {X} f g = go (read_sides (drop at s)) refl
    where
      go : (o : Option (Read Sides)) → read_sides (drop at s) ≡ o → X
      go none e = f e (read_is ∙ ap read e)
      go (some r) e = g r e (read_is ∙ ap read e)

pub comparison_none : (ns : List ℕ) (s : Bytes) (at : ℕ) → None ≡ comparison_at ns s at → (o : Op) → read_test o (drop at s) ≡ none
unfolding bind
comparison_none ns s at p o =
    sides_cases ns s at p (λ e d. test_sides o (drop at s) ∙ rw e)
    (λ r e d. absurd (none-some _ d))

pub comparison_some : (ns : List ℕ) (s : Bytes) (at : ℕ) {c : Comparison} → Some c ≡ comparison_at ns s at → {X : Type 0}
    → ((a : Ref) (b : Operand) → T (ref? a) → T (operand? b) → ((o : Op) → read_test o (drop at s) ≡ some (record { what = test (record { op = o; left = a; right = b }); left = drop c.next s }))
    → c ≡ comparison_of ns (record { op = eq; left = a; right = b }) c.next → at < c.next → c.next ≤ length s → X) → X
unfolding bind comparison_of with_op cond? test?
comparison_some ns s at {c} p f =
    sides_cases ns s at p (λ e d. absurd (none-some _ (sym d)))
    (λ r e i.
    let d = same_Some c (comparison_of ns (record { op = eq; left = r.what.left; right = r.what.right }) (length s - length r.left)) i in
    let n : c.next ≡ length s - length r.left = ap (λ x. x.next) d in
    let l = sides_shorter (drop at s) r e in
    let i : drop c.next s ≡ r.left = ap (λ j. drop j s) n ∙ left_drop sides_leave s at r e in
    let h = ((test_read eq).taken (drop at s) (record { what = test (record { op = eq; left = r.what.left; right = r.what.right }); left = r.left }) (test_sides eq (drop at s) ∙ rw e)).0 in
    f r.what.left r.what.right (and_l (ref? r.what.left) (operand? r.what.right) h) (and_r (ref? r.what.left) (operand? r.what.right) h)
    (λ o. test_sides o (drop at s) ∙ rw (e, i)) (d ∙ rw n) (omega (arith, length-drop at s)) (omega arith))
