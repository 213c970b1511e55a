-- Which rows a grant admits: those that meet its conditions with the caller's values, from its first time to its last.
use mathlib.Core.Path.{◌≡◌, refl, ap, ap₂, ◌∙◌, fun_ext}
use mathlib.Core.List.{List, [], ◌∷◌, ◌++◌, map, Memᴰ}
use mathlib.Core.Logic.{◌↔◌}
use mathlib.Core.Bool.{Bool, true, false, cond}
use mathlib.Core.Option.{Option, none, some}
use Prim.Native.Nat.{ℕ, ◌≤◌}
use native.Mathlib.Omega.{arith}
use lib.IntN.{ℤ, pos}
use lib.Dec.{T, leb, leb→le, le→leb, T_not}
use Rattle.lists.specs.Lists.{every, some?, same_list, distinct}
use Rattle.lists.proofs.Laws.{and_both, parts, or_l, or_r, every_append, every_append_l, every_append_r, every_map, same_list_refl}
use Rattle.syntax.specs.Grammar.{le, ge, Cond, Entry}
use Rattle.model.specs.Conditions.{true_of}
use Rattle.model.specs.Queries.{Col, Term, column, time, number, self, Compare, Grant, Caller, Row}
use Rattle.model.specs.Meaning.{value, term_value, compares, compare_holds, holds}
use Rattle.model.specs.Grants.{entry_value, fill_term, fill_compare, fill, limit, limits}
use Rattle.model.proofs.Conditions.{true_map}

-- ---- the caller's values

value_of_entry : (e : Entry) (p : List Entry) → T (distinct (λ a b. same_list a.name b.name) p) → Memᴰ e p → entry_value p e.name ≡ e.value
unfolding entry_value distinct some?
value_of_entry e p d (Memᴰ.head {x = a} {xs = es} q) = rw q (go (same_list a.name a.name) (same_list_refl a.name))
  where
    go : (b : Bool) → T b → cond b a.value (entry_value es a.name) ≡ a.value
    go true t = refl
    go false t = absurd t
value_of_entry e p d (Memᴰ.tail {x = a} {xs = es} m) = go (same_list a.name e.name) (λ t. T_not (some? (λ b. same_list a.name b.name) es) (search parts) (among es m t)) (value_of_entry e es (search parts) m)
  where
    among : (bs : List Entry) → Memᴰ e bs → T (same_list a.name e.name) → T (some? (λ b. same_list a.name b.name) bs)
    among bs (Memᴰ.head {x = b} {xs = cs} q) t = or_l (same_list a.name b.name) _ (rw q at t)
    among bs (Memᴰ.tail {x = b} {xs = cs} m) t = or_r (same_list a.name b.name) _ (among cs m t)

    go : (b : Bool) → (T b → ⊥) → entry_value es e.name ≡ e.value → cond b a.value (entry_value es e.name) ≡ e.value
    go true f i = absurd (f tt)
    go false f i = i

-- An entry's value is that of the entry of its name.
pub entry_of : (p : List Entry) (e : Entry) → T (distinct (λ a b. same_list a.name b.name) p) → Memᴰ e p → entry_value p e.name ≡ e.value
entry_of p e d m = value_of_entry e p d m

-- what a term of a grant's condition stands for, of a row and a caller
unfoldable pub granted_value : List Entry → List Col → Row → Term → ℤ
granted_value p cs r (column c) = value cs r.values c
granted_value p cs r time = pos r.at
granted_value p cs r (number z) = z
granted_value p cs r (self n) = entry_value p n

term_of : (p : List Entry) (cs : List Col) (r : Row) (t : Term) → term_value cs r (fill_term p t) ≡ granted_value p cs r t
unfolding term_value fill_term granted_value
term_of p cs r (column c) = refl
term_of p cs r time = refl
term_of p cs r (number z) = refl
term_of p cs r (self n) = refl

-- A grant's condition with the caller's values put in says what the condition says of the row and the caller.
pub filled : (p : List Entry) (cs : List Col) (r : Row) (c : Cond Compare)
    → holds cs r (fill p c) ≡ true_of (λ t. compares t.op (granted_value p cs r t.left) (granted_value p cs r t.right)) c
unfolding holds fill compare_holds fill_compare
filled p cs r c = true_map (compare_holds cs r) (fill_compare p) c ∙ ap (λ f. true_of f c) (fun_ext (λ t. ap₂ (compares t.op) (term_of p cs r t.left) (term_of p cs r t.right)))

-- ---- times

module _ (cs : List Col) (r : Row) where
  from_time : (o : Option ℕ) → T (every (holds cs r) (limit ge o)) ↔ ((n : ℕ) → o ≡ some n → n ≤ r.at)
  unfolding every holds limit true_of compare_holds compares term_value
  from_time none = (λ t n e. let z : ◌≡◌ {A = ℕ} 0 1 = cc in absurd (omega arith), λ f. tt)
  from_time (some m) = (λ t n e. let q : m ≡ n = cc in let h = leb→le m r.at (search parts) in omega arith, λ f. and_both (leb m r.at) true (le→leb m r.at (f m refl)) tt)

  to_time : (o : Option ℕ) → T (every (holds cs r) (limit le o)) ↔ ((n : ℕ) → o ≡ some n → r.at ≤ n)
  unfolding every holds limit true_of compare_holds compares term_value
  to_time none = (λ t n e. let z : ◌≡◌ {A = ℕ} 0 1 = cc in absurd (omega arith), λ f. tt)
  to_time (some m) = (λ t n e. let q : m ≡ n = cc in let h = leb→le r.at m (search parts) in omega arith, λ f. and_both (leb r.at m) true (le→leb r.at m (f m refl)) tt)

every_unmap : {A B : Type 0} (p : B → Bool) (f : A → B) (xs : List A) → T (every p (map f xs)) → T (every (λ x. p (f x)) xs)
unfolding every
every_unmap p f [] t = tt
every_unmap p f (x ∷ xs) t = and_both (p (f x)) (every (λ x. p (f x)) xs) (search parts) (every_unmap p f xs (search parts))

-- A row meets a grant's limits if it meets the conditions, and its time lies from the first time up to the last, both among them.
pub row_admitted : (who : Caller) (g : Grant) (cs : List Col) (r : Row)
    → T (every (holds cs r) (limits who g))
    ↔ (T (every (λ c. holds cs r (fill who.profile c)) g.when) × ((n : ℕ) → g.from ≡ some n → n ≤ r.at) × ((n : ℕ) → g.to ≡ some n → r.at ≤ n))
unfolding limits
row_admitted who g cs r = (
  λ t.
      let u = every_append_r (holds cs r) (map (fill who.profile) g.when) (limit ge g.from ++ limit le g.to) t in (
        every_unmap (holds cs r) (fill who.profile) g.when (every_append_l (holds cs r) (map (fill who.profile) g.when) _ t),
        (from_time cs r g.from).0 (every_append_l (holds cs r) (limit ge g.from) (limit le g.to) u),
        (to_time cs r g.to).0 (every_append_r (holds cs r) (limit ge g.from) (limit le g.to) u),
      ),
  λ h.
      every_append (holds cs r) (map (fill who.profile) g.when) _ (every_map _ (holds cs r) (fill who.profile) (λ c t. t) g.when h.0)
      (every_append (holds cs r) (limit ge g.from) (limit le g.to) ((from_time cs r g.from).1 h.1) ((to_time cs r g.to).1 h.2)),
)
