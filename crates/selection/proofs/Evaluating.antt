-- Conditions of nodes, and the rows that they hold of.
use mathlib.Core.Path.{◌≡◌, refl, sym, ap, ap₂, ◌∙◌, subst}
use mathlib.Core.List.{List, [], ◌∷◌}
use mathlib.Core.Bool.{Bool, true, false, ◌&&◌, ◌||◌}
use Prim.Native.Nat.{ℕ, ◌+◌, ◌*◌, ◌-◌, ◌/◌, ◌%◌, ◌<◌, ◌≤◌}
use native.Mathlib.Decide.{dec_lt}
use native.Mathlib.Omega.{arith}
use lib.IntN.{ℤ, pos, negsuc}
use lib.Signed.{le_z}
use lib.ListN.{get_or}
use lib.Dec.{T, leb, eqb}
use borrow.Author.Tests.{ne_eqb, lt-ltb, lt-leb, le-leb, eqb-true, eqb-false}
use Rattle.lists.specs.Lists.{every, some?, empty?}
use Rattle.lists.proofs.Laws.{or_r}
use Rattle.syntax.specs.Grammar.{Cond, test, all, any, neg}
use Rattle.model.specs.Queries.{Compare}
use Rattle.model.specs.Conditions.{true_of, all_true, any_true, conds_of}
use Rattle.model.specs.Meaning.{compares, compare_holds, term_value}
use Rattle.model.specs.Grants.{fill_term, fill_compare}
use Rattle.nodes.specs.declared.Node.{Node}
use Rattle.nodes.specs.Nodes.{no_node, node_at, node_of, node_compare, numbered_op, coded_term, link, some_conds, first_cond, headed, cond_in}
use Rattle.nodes.proofs.Reaching.{link_falls, list_before, list_on, list_off, cond_on, some_listed as some_before, test_headed}
use Rattle.nodes.proofs.Words.{node_none, node_number, node_entry, node_plain}
use Rattle.nodes.proofs.Links.{Walk, walk_end}
use Rattle.rows.specs.declared.Rows.{Rows}
use Rattle.rows.specs.Masks.{rows_of, no_rows, first_rows, both_of, either_of, flip_of}
use Rattle.rows.proofs.Masks.{rows_alike, rows_all, rows_none, rows_and, rows_or, rows_flip}
use Rattle.selection.specs.declared.Scope.{Scope}
use Rattle.selection.specs.Scopes.{cond_at, scope_columns, scope_row, profile_in}
use Rattle.selection.specs.Evaluating.{narrow, Taken, list_at, lists, Listed, Carried, Leads, test_at, passing, all_passing, any_passing, list_passing, start_of, joined_of}

-- ---- words and nodes

narrow_small : (w v : ℕ) {r : Node} → v < 4294967296 → r ≡ node_of w v → T (narrow r)
unfolding narrow node_of
narrow_small w v h e = rw (e, lt-ltb v 4294967296 h) (or_r (eqb (w / 65536 % 256) 27) true tt)

narrow_entry : (w v : ℕ) {r : Node} → w / 65536 % 256 ≡ 27 → r ≡ node_of w v → T (narrow r)
unfolding narrow node_of
narrow_entry w v h e = rw (e, h) tt

module _ (ws : List ℕ) (k : ℕ) where
  pub taken_none : {r : Node} → k ≡ 0 → r ≡ node_of 0 0 → Taken ws k r
  taken_none e f = record { is = node_none ws k e f; small = narrow_small 0 0 (omega arith) f }

  module _ (ne : k ≡ 0 → ⊥) {w : ℕ} (e : w ≡ get_or ws (k - 1) 0) {r : Node} where
    pub taken_number : w / 65536 % 256 ≡ 26 → {i v : ℕ} → i ≡ k - 2 → v ≡ get_or ws i 0 → v < 4294967296 → r ≡ node_of w v → Taken ws k r
    taken_number c {i} {v} z f l h = record { is = node_number ws k ne e c (f ∙ ap (λ (j : ℕ). get_or ws j 0) z) h; small = narrow_small w v l h }

    pub taken_entry : (w / 65536 % 256 ≡ 26 → ⊥) → w / 65536 % 256 ≡ 27 → {i j a b v : ℕ} → i ≡ k - 3 → a ≡ get_or ws i 0 → j ≡ k - 2 → b ≡ get_or ws j 0 → v ≡ a + b * 4294967296 → r ≡ node_of w v → Taken ws k r
    taken_entry n c {v = v} x f y g u h =
        record { is = node_entry ws k ne e n c (f ∙ ap (λ (q : ℕ). get_or ws q 0) x) (g ∙ ap (λ (q : ℕ). get_or ws q 0) y) u h; small = narrow_entry w v c h }

    pub taken_plain : (w / 65536 % 256 ≡ 26 → ⊥) → (w / 65536 % 256 ≡ 27 → ⊥) → r ≡ node_of w 0 → Taken ws k r
    taken_plain n m h = record { is = node_plain ws k ne e n m h; small = narrow_small w 0 (omega arith) h }

pub head_none : (ws : List ℕ) (k : ℕ) → k ≡ 0 → 0 ≡ (node_at ws k).head
unfolding node_of
head_none ws k e = ap (λ (m : Node). m.head) (node_none ws k e refl)

pub head_some : (ws : List ℕ) (k : ℕ) {w : ℕ} → (k ≡ 0 → ⊥) → w ≡ get_or ws (k - 1) 0 → w % 256 ≡ (node_at ws k).head
unfolding node_at node_of
head_some ws k n e = rw (ne_eqb k 0 n, e)

pub ruleset head_ends = (head_none, head_some)

module _ (ws : List ℕ) (k : ℕ) {n : Node} (t : Taken ws k n) where
  pub taken_narrow : T (narrow n)
  taken_narrow = t.small

  pub taken_passing : (sc : Scope) (ts : List ℕ) (vs : List ℤ) (ps : List ℕ) {x : Rows} → x ≡ passing sc ts vs ps (test (node_compare n)) → x ≡ passing sc ts vs ps (test (node_compare (node_at ws k)))
  taken_passing sc ts vs ps e = e ∙ ap (λ (m : Node). passing sc ts vs ps (test (node_compare m))) t.is

pub ruleset compare_ends = (taken_narrow, taken_passing)

pub ruleset taken_ends = (taken_none, taken_number, taken_entry, taken_plain)

-- ---- the first of a list

pub link_less : (ws : List ℕ) {stop b c : ℕ} → c ≡ link ws b → stop < b → c < b
link_less ws {b = b} e h = omega (arith, link_falls ws b)

module _ (ws : List ℕ) (stop j : ℕ) where
  pub leads_none : j ≤ stop → Leads ws stop j 0
  unfolding list_at cond_at cond_in first_cond
  leads_none h = record { low = omega arith; is = ap first_cond (list_off ws stop j [] h) }

  pub leads_first : {e b : ℕ} → Walk ws stop j e → b ≡ link ws e → b ≤ stop → stop < j → Leads ws stop j e
  unfolding list_at cond_at first_cond
  leads_first w l h k = let f = walk_end ws stop j w l h in record { low = f.low; is = ap first_cond (f.items k) }

-- ---- conditions by their heads

not_headed : (m : Node) (cs : List (Cond Compare)) → m.head ≡ 9 → headed m cs ≡ neg (first_cond cs)
unfolding headed
not_headed m cs e = rw e

all_headed : (m : Node) (cs : List (Cond Compare)) → m.head ≡ 7 → headed m cs ≡ all (some_conds cs)
unfolding headed
all_headed m cs e = rw e

any_headed : (m : Node) (cs : List (Cond Compare)) → m.head ≡ 8 → headed m cs ≡ any (some_conds cs)
unfolding headed
any_headed m cs e = rw e

module _ (p : Compare → Bool) where
  all_conds : (c : Cond Compare) (cs : List (Cond Compare)) → all_true p (conds_of c cs) ≡ every (true_of p) (c ∷ cs)
  unfolding true_of conds_of every
  all_conds c [] = and_true (true_of p c)
    where
      and_true : (b : Bool) → b ≡ (b && true)
      and_true true = refl
      and_true false = refl
  all_conds c (d ∷ ds) = ap (λ b. true_of p c && b) (all_conds d ds)

  any_conds : (c : Cond Compare) (cs : List (Cond Compare)) → any_true p (conds_of c cs) ≡ some? (true_of p) (c ∷ cs)
  unfolding true_of conds_of some?
  any_conds c [] = or_false (true_of p c)
    where
      or_false : (b : Bool) → b ≡ (b || false)
      or_false true = refl
      or_false false = refl
  any_conds c (d ∷ ds) = ap (λ b. true_of p c || b) (any_conds d ds)

  all_some : (cs : List (Cond Compare)) → empty? cs ≡ false → true_of p (all (some_conds cs)) ≡ every (true_of p) cs
  unfolding true_of some_conds empty?
  all_some [] e = absurd (let z : ◌≡◌ {A = ℕ} 0 1 = cc in omega arith)
  all_some (c ∷ cs) e = all_conds c cs

  any_some : (cs : List (Cond Compare)) → empty? cs ≡ false → true_of p (any (some_conds cs)) ≡ some? (true_of p) cs
  unfolding true_of some_conds empty?
  any_some [] e = absurd (let z : ◌≡◌ {A = ℕ} 0 1 = cc in omega arith)
  any_some (c ∷ cs) e = any_conds c cs

some_listed : (ws : List ℕ) (stop j : ℕ) → stop < j → empty? (list_at ws stop j) ≡ false
unfolding list_at
some_listed ws stop j h = some_before ws stop j h

listed_none : (ws : List ℕ) (stop j : ℕ) → j ≤ stop → list_at ws stop j ≡ []
unfolding list_at
listed_none ws stop j h = list_off ws stop j [] h

listed_on : (ws : List ℕ) (stop j : ℕ) (cs : List (Cond Compare)) → stop < j → list_before ws stop j cs ≡ list_before ws stop (link ws j) (cond_at ws j ∷ cs)
unfolding cond_at
listed_on ws stop j cs h = list_on ws stop j cs h

-- a list of none stands for the condition of no node
module _ (p : Compare → Bool) (ws : List ℕ) where
  empty_all : true_of p (cond_at ws 0) ≡ true_of p (all (some_conds []))
  unfolding cond_at cond_in true_of some_conds
  empty_all = refl

  empty_any : true_of p (cond_at ws 0) ≡ true_of p (any (some_conds []))
  unfolding cond_at cond_in true_of some_conds
  empty_any = refl

-- ---- the evaluator

module _ (ws : List ℕ) (k : ℕ) {h : ℕ} (u : h ≡ (node_at ws k).head) where
  pub list_low : h < 7 → false ≡ lists ws k
  unfolding lists
  list_low l = rw (sym u, lt-leb 7 h l)

  pub list_some : 7 ≤ h → leb h 9 ≡ lists ws k
  unfolding lists
  list_some l = rw (sym u, le-leb 7 h l)

module _ (sc : Scope) (ts : List ℕ) (vs : List ℤ) (ps : List ℕ) (ws : List ℕ) (k : ℕ) {h : ℕ} (u : h ≡ (node_at ws k).head) where
  abbrev n : Node
  n = node_at ws k

  abbrev p : ℕ → Compare → Bool
  p i = test_at sc ts vs ps i

  pub taken_some : 7 ≤ h → 1 ≤ k
  unfolding node_of
  taken_some l = go (dec_lt 0 k)
    where
      go : Dec (0 < k) → 1 ≤ k
      go (yes y) = y
      go (no y) = absurd (let z : k ≡ 0 = omega arith in let q : (node_at ws k).head ≡ 0 = ap (λ (m : Node). m.head) (sym (node_none ws k z refl)) in omega arith)

  start : k ≡ 0 → n ≡ no_node
  unfolding no_node node_of
  start z = sym (node_none ws k z refl)

  inner : {stop : ℕ} → stop ≡ link ws k → 1 ≤ k → cond_at ws k ≡ headed n (list_at ws stop (k - 1))
  unfolding cond_at list_at
  inner e y = cond_on ws k y ∙ ap (λ (b : ℕ). headed n (list_before ws b (k - 1) [])) (sym e)

  all_is : (cs : List (Cond Compare)) → empty? cs ≡ false → all_passing sc ts vs ps cs ≡ passing sc ts vs ps (all (some_conds cs))
  unfolding all_passing passing
  all_is cs s = rows_alike (λ i. every (true_of (p i)) cs) (λ i. true_of (p i) (all (some_conds cs))) 0 sc.rows (λ i a b. sym (all_some (p i) cs s))

  any_is : (cs : List (Cond Compare)) → empty? cs ≡ false → any_passing sc ts vs ps cs ≡ passing sc ts vs ps (any (some_conds cs))
  unfolding any_passing passing
  any_is cs s = rows_alike (λ i. some? (true_of (p i)) cs) (λ i. true_of (p i) (any (some_conds cs))) 0 sc.rows (λ i a b. sym (any_some (p i) cs s))

  compared : (n.head ≡ 7 → ⊥) → (n.head ≡ 8 → ⊥) → (n.head ≡ 9 → ⊥) → cond_at ws k ≡ test (node_compare n)
  unfolding cond_at cond_in
  compared a b c = go (dec_lt 0 k)
    where
      go : Dec (0 < k) → cond_in (2 * k) ws k ≡ test (node_compare n)
      go (yes y) = inner {stop = link ws k} refl y ∙ test_headed n (list_at ws (link ws k) (k - 1)) a b c
      go (no y) = let z : k ≡ 0 = omega arith in ap (λ (j : ℕ). cond_in (2 * j) ws j) z ∙ ap (λ (m : Node). test (node_compare m)) (sym (start z))

  listed_head : (d : ℕ) → 7 ≤ d → d ≤ 9 → n.head ≡ d → lists ws k ≡ true
  unfolding lists
  listed_head d l m e = rw (e, le-leb 7 d l, le-leb d 9 m)

  other : lists ws k ≡ false → (d : ℕ) → 7 ≤ d → d ≤ 9 → n.head ≡ d → ⊥
  other f d l m e = subst (λ b. T b) (sym (listed_head d l m e) ∙ f) tt

  pub leaf_cond : {x : Rows} → lists ws k ≡ false → x ≡ passing sc ts vs ps (test (node_compare n)) → x ≡ passing sc ts vs ps (cond_at ws k)
  leaf_cond l f = f ∙ ap (passing sc ts vs ps) (sym (compared (other l 7 (omega arith) (omega arith)) (other l 8 (omega arith) (omega arith)) (other l 9 (omega arith) (omega arith))))

  pub eval_low : {x : Rows} → h < 7 → (lists ws k ≡ false → x ≡ passing sc ts vs ps (cond_at ws k)) → x ≡ passing sc ts vs ps (cond_at ws k)
  eval_low l f = f (sym (list_low ws k u l))

  pub eval_high : {x : Rows} → 9 < h → (lists ws k ≡ false → x ≡ passing sc ts vs ps (cond_at ws k)) → x ≡ passing sc ts vs ps (cond_at ws k)
  eval_high l f = f (sym (list_some ws k u (omega arith)) ∙ lt-leb h 9 l)

  -- places fall
  pub place_some : 7 ≤ h → 1 ≤ k
  place_some l = taken_some l

  pub not_falls : {stop e t : ℕ} → 7 ≤ h → Leads ws stop (k - 1) e → 2 * k ≡ t → 2 * e < t
  not_falls l d z = let a = taken_some l in let b = d.low in omega arith

  pub none_falls : {t : ℕ} → 7 ≤ h → 2 * k ≡ t → 2 * 0 < t
  none_falls l z = let a = taken_some l in omega arith

  pub list_falls : {t : ℕ} → 7 ≤ h → 2 * k ≡ t → 2 * (k - 1) + 1 < t
  list_falls l z = let a = taken_some l in omega arith

  module _ {stop : ℕ} (el : stop ≡ link ws k) (l : 7 ≤ h) where
    pub eval_not : {e : ℕ} {x y z : Rows} → h ≡ 9 → Leads ws stop (k - 1) e → x ≡ first_rows sc.rows → y ≡ passing sc ts vs ps (cond_at ws e) → z ≡ flip_of x y → z ≡ passing sc ts vs ps (cond_at ws k)
    unfolding passing true_of
    eval_not {e} g d a b c =
        let w : cond_at ws k ≡ neg (cond_at ws e) = inner el (taken_some l) ∙ not_headed n (list_at ws stop (k - 1)) (sym u ∙ g) ∙ ap neg d.is in
        c ∙ ap₂ flip_of a b ∙ rows_flip (λ i. true_of (p i) (cond_at ws e)) 0 sc.rows ∙ sym (ap (passing sc ts vs ps) w)

    seven_eight : h ≤ 9 → (h ≡ 9 → ⊥) → (h ≡ 8 → ⊥) → (node_at ws k).head ≡ 7
    seven_eight a b c = go (dec_lt h 8) (dec_lt h 9)
      where
        go : Dec (h < 8) → Dec (h < 9) → (node_at ws k).head ≡ 7
        go (yes x) y = omega arith
        go (no x) (yes y) = absurd (c (omega arith))
        go (no x) (no y) = absurd (b (omega arith))

    pub eval_none : {x : Rows} → h ≤ 9 → (h ≡ 9 → ⊥) → k - 1 ≤ stop → x ≡ passing sc ts vs ps (cond_at ws 0) → x ≡ passing sc ts vs ps (cond_at ws k)
    unfolding passing
    eval_none {x} a b c f = f ∙ go (eqb h 8) refl
      where
        none : list_at ws stop (k - 1) ≡ []
        none = listed_none ws stop (k - 1) c

        go : (d : Bool) → eqb h 8 ≡ d → rows_of (λ i. true_of (p i) (cond_at ws 0)) 0 sc.rows ≡ rows_of (λ i. true_of (p i) (cond_at ws k)) 0 sc.rows
        go true g = rows_alike (λ i. true_of (p i) (cond_at ws 0)) (λ i. true_of (p i) (cond_at ws k)) 0 sc.rows (λ i y z. empty_any (p i) ws ∙ sym (ap (true_of (p i)) (inner el (taken_some l) ∙ any_headed n (list_at ws stop (k - 1)) (sym u ∙ eqb-true h 8 g) ∙ ap (λ cs. any (some_conds cs)) none)))
        go false g = rows_alike (λ i. true_of (p i) (cond_at ws 0)) (λ i. true_of (p i) (cond_at ws k)) 0 sc.rows (λ i y z. empty_all (p i) ws ∙ sym (ap (true_of (p i)) (inner el (taken_some l) ∙ all_headed n (list_at ws stop (k - 1)) (seven_eight a b (eqb-false h 8 g)) ∙ ap (λ cs. all (some_conds cs)) none)))

    pub eval_list : {x : Rows} → h ≤ 9 → (h ≡ 9 → ⊥) → stop < k - 1 → x ≡ list_passing (eqb h 8) sc ts vs ps (list_at ws stop (k - 1)) → x ≡ passing sc ts vs ps (cond_at ws k)
    unfolding list_passing
    eval_list {x} a b c f = go (eqb h 8) refl f
      where
        go : (d : Bool) → eqb h 8 ≡ d → x ≡ list_passing d sc ts vs ps (list_at ws stop (k - 1)) → x ≡ passing sc ts vs ps (cond_at ws k)
        go true g f = f ∙ any_is (list_at ws stop (k - 1)) (some_listed ws stop (k - 1) c) ∙ sym (ap (passing sc ts vs ps) (inner el (taken_some l) ∙ any_headed n (list_at ws stop (k - 1)) (sym u ∙ eqb-true h 8 g)))
        go false g f = f ∙ all_is (list_at ws stop (k - 1)) (some_listed ws stop (k - 1) c) ∙ sym (ap (passing sc ts vs ps) (inner el (taken_some l) ∙ all_headed n (list_at ws stop (k - 1)) (seven_eight a b (eqb-false h 8 g))))

pub start_any : (b : Bool) (n : ℕ) {x : Rows} → b ≡ true → x ≡ no_rows → x ≡ start_of b n
unfolding start_of
start_any b n e f = rw e f

pub start_all : (b : Bool) (n : ℕ) {x : Rows} → b ≡ false → x ≡ first_rows n → x ≡ start_of b n
unfolding start_of
start_all b n e f = rw e f

pub join_any : (b : Bool) (x m : Rows) {r : Rows} → b ≡ true → r ≡ either_of x m → r ≡ joined_of b x m
unfolding joined_of
join_any b x m e f = rw e f

pub join_all : (b : Bool) (x m : Rows) {r : Rows} → b ≡ false → r ≡ both_of x m → r ≡ joined_of b x m
unfolding joined_of
join_all b x m e f = rw e f

pub ruleset join_ends = (start_any, start_all, join_any, join_all)

-- ---- the list evaluator: the conditions from its last on that were seen

module _ (ws : List ℕ) (stop j : ℕ) (any? : Bool) (sc : Scope) (ts : List ℕ) (vs : List ℤ) (ps : List ℕ) where
  start_is : (b : Bool) → start_of b sc.rows ≡ list_passing b sc ts vs ps []
  unfolding start_of list_passing all_passing any_passing every some?
  start_is true = rows_none 0 sc.rows
  start_is false = rows_all 0 sc.rows

  joined_is : (b : Bool) (c : Cond Compare) (cs : List (Cond Compare)) → joined_of b (passing sc ts vs ps c) (list_passing b sc ts vs ps cs) ≡ list_passing b sc ts vs ps (c ∷ cs)
  unfolding joined_of list_passing all_passing any_passing passing every some?
  joined_is true c cs = rows_or (λ i. true_of (test_at sc ts vs ps i) c) (λ i. some? (true_of (test_at sc ts vs ps i)) cs) 0 sc.rows
  joined_is false c cs = rows_and (λ i. true_of (test_at sc ts vs ps i) c) (λ i. every (true_of (test_at sc ts vs ps i)) cs) 0 sc.rows

  pub listed_start : {m : Rows} → m ≡ start_of any? sc.rows → Listed ws stop j any? sc ts vs ps j m
  unfolding list_at
  listed_start e = record { seen = []; mask = e ∙ start_is any?; left = refl; low = omega arith }

  module _ {at : ℕ} {m : Rows} (l : Listed ws stop j any? sc ts vs ps at m) where
    pub listed_more : {b : ℕ} {x y : Rows} → stop < at → b ≡ link ws at → x ≡ passing sc ts vs ps (cond_at ws at) → y ≡ joined_of any? x m → Listed ws stop j any? sc ts vs ps b y
    listed_more {b} h e f g =
        let a = l.low in
        let c = link_falls ws at in
        record {
          seen = cond_at ws at ∷ l.seen;
          mask = g ∙ ap₂ (joined_of any?) f l.mask ∙ joined_is any? (cond_at ws at) l.seen;
          left = l.left ∙ on ∙ ap (λ (i : ℕ). list_before ws stop i (cond_at ws at ∷ l.seen)) (sym e);
          low = omega arith;
        }
      where
        on : list_before ws stop at l.seen ≡ list_before ws stop (link ws at) (cond_at ws at ∷ l.seen)
        on = listed_on ws stop at l.seen h

    pub listed_falls : {b : ℕ} → stop < at → b ≡ link ws at → b < at
    listed_falls h e = let c = link_falls ws at in omega arith

    pub listed_below : {t : ℕ} → 2 * j + 1 ≡ t → 2 * at < t
    listed_below z = let a = l.low in omega arith

    pub listed_end : at ≤ stop → m ≡ list_passing any? sc ts vs ps (list_at ws stop j)
    listed_end h = l.mask ∙ ap (list_passing any? sc ts vs ps) (sym (l.left ∙ list_off ws stop at l.seen h))

-- from a place on
module _ (ws : List ℕ) (stop j : ℕ) (any? : Bool) (sc : Scope) (ts : List ℕ) (vs : List ℤ) (ps : List ℕ) where
  pub carried_start : {m : Rows} → Carried ws stop j any? sc ts vs ps m j m
  carried_start = record { low = omega arith; on = λ k l. l }

  module _ {start : Rows} {at : ℕ} {m : Rows} (r : Carried ws stop j any? sc ts vs ps start at m) where
    pub carried_more : {b : ℕ} {x y : Rows} → stop < at → lists ws at ≡ false → b ≡ link ws at → x ≡ passing sc ts vs ps (test (node_compare (node_at ws at))) → y ≡ joined_of any? x m → Carried ws stop j any? sc ts vs ps start b y
    carried_more {b} h f e g d =
        let a = r.low in
        let c = link_falls ws at in
        record {
          low = omega arith;
          on = λ k l. listed_more ws stop k any? sc ts vs ps (r.on k l) h e (leaf_cond sc ts vs ps ws at refl f g) d;
        }

-- ---- one comparison

le_self : (x : ℤ) → le_z x x ≡ true
le_self (pos a) = le-leb a a (omega arith)
le_self (negsuc a) = le-leb a a (omega arith)

module _ (ws : List ℕ) (k : ℕ) (sc : Scope) (ts : List ℕ) (vs : List ℤ) (ps : List ℕ) where
  pub leaf_none : {x : Rows} → k ≡ 0 → x ≡ first_rows sc.rows → x ≡ passing sc ts vs ps (cond_at ws k)
  unfolding passing cond_at cond_in true_of test_at compare_holds fill_compare node_compare no_node numbered_op compares first_rows
  leaf_none e f =
      f ∙ rows_alike (λ i. true) (λ i. true_of (test_at sc ts vs ps i) (cond_at ws 0)) 0 sc.rows (λ i a b. sym (le_self (term_value (scope_columns sc) (scope_row sc ts vs i) (fill_term (profile_in ps) (coded_term 0 0)))))
      ∙ ap (λ (j : ℕ). rows_of (λ i. true_of (test_at sc ts vs ps i) (cond_at ws j)) 0 sc.rows) (sym e)

  alone : 1 ≤ k → list_at ws (k - 1) k ≡ cond_at ws k ∷ []
  unfolding list_at
  alone h = let c = link_falls ws k in listed_on ws (k - 1) k [] (omega arith) ∙ list_off ws (k - 1) (link ws k) (cond_at ws k ∷ []) (omega arith)

  single : (c : Cond Compare) → list_passing false sc ts vs ps (c ∷ []) ≡ passing sc ts vs ps c
  unfolding list_passing all_passing passing every
  single c = rows_alike (λ i. true_of (test_at sc ts vs ps i) c && true) (λ i. true_of (test_at sc ts vs ps i) c) 0 sc.rows (λ i a b. and_true (true_of (test_at sc ts vs ps i) c))
    where
      and_true : (b : Bool) → (b && true) ≡ b
      and_true true = refl
      and_true false = refl

  pub leaf_some : {start m : Rows} {at : ℕ} → (k ≡ 0 → ⊥) → start ≡ first_rows sc.rows → Carried ws (k - 1) k false sc ts vs ps start at m → (k - 1 < at → lists ws at ≡ true) → lists ws k ≡ false → m ≡ passing sc ts vs ps (cond_at ws k)
  leaf_some {at = at} n e r z l = listed_end ws (k - 1) k false sc ts vs ps (r.on k (listed_start ws (k - 1) k false sc ts vs ps (start_all false sc.rows refl e))) done ∙ ap (list_passing false sc ts vs ps) (alone (omega arith)) ∙ single (cond_at ws k)
    where
      done : at ≤ k - 1
      done = go (dec_lt (k - 1) at)
        where
          go : Dec (k - 1 < at) → at ≤ k - 1
          go (yes h) = let a = r.low in let w : at ≡ k = omega arith in absurd (subst (λ b. T b) (sym (ap (lists ws) (sym w) ∙ z h) ∙ l) tt)
          go (no h) = omega arith

pub ruleset list_ends = (listed_start, listed_more, listed_falls, listed_below, listed_end)

pub ruleset place_ends = (place_some, not_falls, none_falls, list_falls)

pub ruleset list_tests = (list_low, list_some)

pub ruleset eval_ends = (eval_low, eval_high, eval_not, eval_none, eval_list)
