-- The tests on grants say what their names say.
use mathlib.Core.Path.{◌≡◌, refl, sym, ap, ◌∙◌, subst}
use mathlib.Core.Logic.{◌↔◌, ◌⊎◌, inl, inr}
use mathlib.Core.List.Memᴰ
use mathlib.Core.List.{List, [], ◌∷◌, map, Memᴰ}
use mathlib.Core.Bool.{◌&&◌}
use Prim.Native.Nat.{ℕ, suc}
use native.Mathlib.Omega.{arith}
use lib.Dec.{T, eqb→eq, eqb_refl}
use lib.ListN.{length}
use Rattle.lists.specs.Lists.{some?, gather, count_from, same_list}
use Rattle.lists.proofs.Laws.{and_both, or_l, or_r, or_cases, parts, same_list→eq, same_list_refl}
use Rattle.syntax.specs.Grammar.{Bytes, Fn, Right, read, figures, fn_number, numbered_fn, Cond, test, all, any, neg, Entry}
use Rattle.syntax.proofs.Aggregates.{fn_forth}
use Rattle.model.specs.Queries.{Schema, Col, same_col, columns_of, Term, column, time, number, self, Compare, Grant}
use Rattle.model.specs.Meaning.{equality}
use Rattle.model.specs.Grants.{has_entry, shown_of}
use Rattle.model.specs.Checks.{has}
use Rattle.model.specs.Routes.{reads, gives, is_eq, is_col, is_equality, Numbered, numbered}
use Rattle.model.proofs.Columns.{same_col→eq, same_col_refl}
use Rattle.model.proofs.Rewriting.{is_eq→eq}
use Rattle.model.proofs.Found.{has_select_both}

-- ---- rights

pub reads_right : (r : Right) → T (reads r) ↔ (r ≡ read)
unfolding reads
reads_right read = (λ t. refl, λ e. tt)
reads_right (figures f) = (λ t. absurd t, λ e. let z : ◌≡◌ {A = ℕ} 0 1 = cc in absurd (omega arith))

same_fn : (f g : Fn) → fn_number f ≡ fn_number g → f ≡ g
same_fn f g e = sym (fn_forth f) ∙ ap numbered_fn e ∙ fn_forth g

pub gives_right : (f : Fn) (r : Right) → T (gives f r) ↔ (r ≡ figures f)
unfolding gives
gives_right f read = (λ t. absurd t, λ e. let z : ◌≡◌ {A = ℕ} 0 1 = cc in absurd (omega arith))
gives_right f (figures g) = (λ t. ap figures (sym (same_fn f g (eqb→eq (fn_number f) (fn_number g) t))), λ e. let h : g ≡ f = cc in rw h (eqb_refl (fn_number f)))

-- ---- conditions

is_col→eq : (c : Col) (t : Term) → T (is_col c t) → t ≡ column c
unfolding is_col
is_col→eq c (column e) h = ap column (sym (same_col→eq c e h))
is_col→eq c time h = absurd h
is_col→eq c (number z) h = absurd h
is_col→eq c (self n) h = absurd h

equality_of : (a b : Col) (c : Cond Compare) → T (is_equality a b c) → (c ≡ equality a b) ⊎ (c ≡ equality b a)
unfolding is_equality equality
equality_of a b (test t) h =
    or_cases (is_col a t.left && is_col b t.right) (is_col b t.left && is_col a t.right) (search parts)
    (λ u. inl (λ i. test (record { op = is_eq→eq t.op (search parts) i; left = is_col→eq a t.left (search parts) i; right = is_col→eq b t.right (search parts) i })))
    (λ u. inr (λ i. test (record { op = is_eq→eq t.op (search parts) i; left = is_col→eq b t.left (search parts) i; right = is_col→eq a t.right (search parts) i })))
equality_of a b (all cs) h = absurd h
equality_of a b (any cs) h = absurd h
equality_of a b (neg c) h = absurd h

equality_first : (a b : Col) → T (is_equality a b (equality a b))
unfolding is_equality equality is_eq is_col
equality_first a b = or_l (same_col a a && same_col b b) _ (and_both (same_col a a) (same_col b b) (same_col_refl a) (same_col_refl b))

equality_second : (a b : Col) → T (is_equality a b (equality b a))
unfolding is_equality equality is_eq is_col
equality_second a b = or_r (same_col a b && same_col b a) _ (and_both (same_col b b) (same_col a a) (same_col_refl b) (same_col_refl a))

-- It is the equality of the two columns, either first, and no other condition.
pub equality_right : (a b : Col) (c : Cond Compare) → T (is_equality a b c) ↔ ((c ≡ equality a b) ⊎ (c ≡ equality b a))
equality_right a b c = (equality_of a b c, λ s. elim s [ inl e ↦ subst (λ z. T (is_equality a b z)) (sym e) (equality_first a b) | inr e ↦ subst (λ z. T (is_equality a b z)) (sym e) (equality_second a b) ])

-- ---- grants

-- Grants are numbered by their places, counted from the first number on.
pub numbered_places : (k : ℕ) (gs : List Grant) → (map (λ (n : Numbered). n.no) (numbered k gs) ≡ count_from k (length gs)) × (map (λ (n : Numbered). n.grant) (numbered k gs) ≡ gs)
unfolding numbered count_from
numbered_places k [] = (refl, refl)
numbered_places k (g ∷ gs) = let (e, f) = numbered_places (suc k) gs in (ap (λ l. k ∷ l) e, ap (λ l. g ∷ l) f)

-- A grant shows the columns of its streams that it names.
pub shown_right : (d : Schema) (g : Grant) (c : Col) → has (shown_of d g) c ≡ has (gather (columns_of d) g.of) c && has g.shown c
unfolding shown_of has
shown_right d g c = has_select_both (λ c. some? (same_col c) g.shown) c (gather (columns_of d) g.of)

-- A caller has an entry if one of the profile has its name.
pub entry_there : (p : List Entry) (n : Bytes) → T (has_entry p n) ↔ ((e : Entry) × Memᴰ e p × (e.name ≡ n))
unfolding has_entry some?
entry_there [] n = (λ t. absurd t, λ h. absurd (Memᴰ.not-nil h.1))
entry_there (e ∷ p) n = (
  λ t. or_cases (same_list e.name n) (some? (λ e. same_list e.name n) p) t (λ u. (e, Memᴰ.head refl, same_list→eq e.name n u)) (λ u. let (f, m, q) = (entry_there p n).0 u in (f, Memᴰ.tail m, q)),
  λ h. elim (Memᴰ.cases_cons h.1) [
    | inl q ↦ or_l (same_list e.name n) _ (subst (λ m. T (same_list m n)) (sym h.2 ∙ ap (λ (f : Entry). f.name) q) (same_list_refl n))
    | inr m ↦ or_r (same_list e.name n) _ ((entry_there p n).1 (h.0, m, h.2))
  ],
)
