-- What a query's parts hold, all together, is what its form holds.
use mathlib.Core.Path.{◌≡◌, refl, sym, ap, ap₂, ◌∙◌}
use mathlib.Core.List.{List, [], ◌∷◌, ◌++◌, append-nil}
use mathlib.Core.Bool.{Bool, true, false, ◌&&◌, and-true}
use Prim.Native.Nat.{ℕ, suc, ◌+◌, ◌-◌, ◌≤◌, max}
use native.Mathlib.Omega.{arith}
use lib.IntN.{ℤ}
use lib.Dec.{leb, ltb}
use lib.ListN.{length, length-append}
use borrow.Author.Tests.{le-ltb, lt-ltb, leb-true, leb-false}
use Rattle.lists.specs.Lists.{every, gather}
use Rattle.lists.proofs.Laws.{gather_append}
use Rattle.lists.proofs.Gathers.{every_append_same}
use Rattle.syntax.specs.Grammar as G
use Rattle.syntax.specs.Grammar.{Bytes, Ref, Fn, Test, Cond, Form, Span}
use Rattle.syntax.specs.Limits.{cond_depth, form_depth}
use Rattle.calls.specs.Names.{cond_refs, form_streams, form_refs, form_conds, form_keeps, form_spans}
use Rattle.calls.specs.Bounds.{form_count}
use Rattle.query_read.specs.Parts.{Part, rows, pick, keep, join, aggregate, inner, parts}
use Rattle.query_read.proofs.Answering.{conds_in}

-- ---- what one part holds

unfoldable pub streams_in : Part → List Bytes
streams_in (rows s) = s ∷ []
streams_in (pick c) = []
streams_in (keep rs) = []
streams_in (join a b) = []
streams_in (aggregate f c z w) = []

unfoldable pub refs_in : Part → List Ref
refs_in (rows s) = []
refs_in (pick c) = cond_refs c
refs_in (keep rs) = rs
refs_in (join a b) = a ∷ b ∷ []
refs_in (aggregate f c z w) = c ∷ []

unfoldable pub keeps_in : Part → List (List Ref)
keeps_in (rows s) = []
keeps_in (pick c) = []
keeps_in (keep rs) = rs ∷ []
keeps_in (join a b) = []
keeps_in (aggregate f c z w) = []

unfoldable pub spans_in : Part → List Span
spans_in (rows s) = []
spans_in (pick c) = []
spans_in (keep rs) = []
spans_in (join a b) = []
spans_in (aggregate f c z w) = record { size = z; offset = w } ∷ []

-- ---- all parts

-- a form holds what its own part holds and then what the forms inside it hold
record Holds {A : Type 0} (f : Part → List A) (g : Form → List A) : Type 0 where
  on_rows : (s : Bytes) → g (G.rows s) ≡ f (rows s)
  on_pick : (c : Cond Test) (q : Form) → g (G.pick c q) ≡ f (pick c) ++ g q
  on_keep : (rs : List Ref) (q : Form) → g (G.keep rs q) ≡ f (keep rs) ++ g q
  on_join : (a b : Ref) (q r : Form) → g (G.join a b q r) ≡ f (join a b) ++ (g q ++ g r)
  on_aggregate : (h : Fn) (c : Ref) (z w : ℤ) (q : Form) → g (G.aggregate h c z w q) ≡ f (aggregate h c z w) ++ g q

gathered : {A : Type 0} (f : Part → List A) (g : Form → List A) → Holds f g → (n : ℕ) (q : Form) → gather (λ i. f i.part) (parts n q) ≡ g q
unfolding gather parts inner
gathered f g h n (G.rows s) = append-nil (f (rows s)) ∙ sym (h.on_rows s)
gathered f g h n (G.pick c q) = ap (λ l. f (pick c) ++ l) (gathered f g h (suc n) q) ∙ sym (h.on_pick c q)
gathered f g h n (G.keep rs q) = ap (λ l. f (keep rs) ++ l) (gathered f g h (suc n) q) ∙ sym (h.on_keep rs q)
gathered f g h n (G.join a b q r) =
    ap (λ l. f (join a b) ++ l) (gather_append (λ i. f i.part) (parts (suc n) q) (parts (suc n) r) ∙ ap₂ ◌++◌ (gathered f g h (suc n) q) (gathered f g h (suc n) r)) ∙ sym (h.on_join a b q r)
gathered f g h n (G.aggregate k c z w q) = ap (λ l. f (aggregate k c z w) ++ l) (gathered f g h (suc n) q) ∙ sym (h.on_aggregate k c z w q)

pub streams_are : (n : ℕ) (q : Form) → gather (λ i. streams_in i.part) (parts n q) ≡ form_streams q
unfolding streams_in form_streams
streams_are = gathered streams_in form_streams (record { on_rows = λ s. refl; on_pick = λ c q. refl; on_keep = λ rs q. refl; on_join = λ a b q r. refl; on_aggregate = λ h c z w q. refl })

pub refs_are : (n : ℕ) (q : Form) → gather (λ i. refs_in i.part) (parts n q) ≡ form_refs q
unfolding refs_in form_refs
refs_are = gathered refs_in form_refs (record { on_rows = λ s. refl; on_pick = λ c q. refl; on_keep = λ rs q. refl; on_join = λ a b q r. refl; on_aggregate = λ h c z w q. refl })

pub conds_are : (n : ℕ) (q : Form) → gather (λ i. conds_in i.part) (parts n q) ≡ form_conds q
unfolding conds_in form_conds
conds_are = gathered conds_in form_conds (record { on_rows = λ s. refl; on_pick = λ c q. refl; on_keep = λ rs q. refl; on_join = λ a b q r. refl; on_aggregate = λ h c z w q. refl })

pub keeps_are : (n : ℕ) (q : Form) → gather (λ i. keeps_in i.part) (parts n q) ≡ form_keeps q
unfolding keeps_in form_keeps
keeps_are = gathered keeps_in form_keeps (record { on_rows = λ s. refl; on_pick = λ c q. refl; on_keep = λ rs q. refl; on_join = λ a b q r. refl; on_aggregate = λ h c z w q. refl })

pub spans_are : (n : ℕ) (q : Form) → gather (λ i. spans_in i.part) (parts n q) ≡ form_spans q
unfolding spans_in form_spans
spans_are = gathered spans_in form_spans (record { on_rows = λ s. refl; on_pick = λ c q. refl; on_keep = λ rs q. refl; on_join = λ a b q r. refl; on_aggregate = λ h c z w q. refl })

pub count_is : (n : ℕ) (q : Form) → length (parts n q) ≡ form_count q
unfolding parts form_count
count_is n (G.rows s) = refl
count_is n (G.pick c q) = ap suc (count_is (suc n) q)
count_is n (G.keep rs q) = ap suc (count_is (suc n) q)
count_is n (G.join a b q r) = ap suc (length-append (parts (suc n) q) (parts (suc n) r) ∙ ap₂ ◌+◌ (count_is (suc n) q) (count_is (suc n) r))
count_is n (G.aggregate f c z w q) = ap suc (count_is (suc n) q)

-- ---- depth

-- the brackets of a part inside n forms nest no deeper than they may
unfoldable pub shallow_part : ℕ → Part → Bool
shallow_part n (rows s) = ltb n 8
shallow_part n (pick c) = leb (cond_depth c) (8 - suc n)
shallow_part n (keep rs) = ltb n 8
shallow_part n (join a b) = ltb n 8
shallow_part n (aggregate f c z w) = ltb n 8

pub depth_some : (c : Cond Test) → 1 ≤ cond_depth c
unfolding cond_depth
depth_some (G.test t) = omega arith
depth_some (G.all cs) = omega arith
depth_some (G.any cs) = omega arith
depth_some (G.neg c) = omega arith

form_some : (q : Form) → 1 ≤ form_depth q
unfolding form_depth
form_some (G.rows s) = omega arith
form_some (G.pick c q) = omega arith
form_some (G.keep rs q) = omega arith
form_some (G.join a b q r) = omega arith
form_some (G.aggregate f c z w q) = omega arith

-- two tests of order together
both_leb : (a b c d e f : ℕ) → (e ≤ f → (a ≤ b) × (c ≤ d)) → (a ≤ b → c ≤ d → e ≤ f) → (leb a b && leb c d) ≡ leb e f
both_leb a b c d e f g h = go (leb a b) (leb c d) (leb e f) refl refl refl
  where
    go : (x y z : Bool) → leb a b ≡ x → leb c d ≡ y → leb e f ≡ z → (x && y) ≡ z
    go true true true p q r = refl
    go true true false p q r = absurd (let i = h (leb-true a b p) (leb-true c d q) in let j = leb-false e f r in omega arith)
    go true false true p q r = absurd (let i = (g (leb-true e f r)).1 in let j = leb-false c d q in omega arith)
    go true false false p q r = refl
    go false y true p q r = absurd (let i = (g (leb-true e f r)).0 in let j = leb-false a b p in omega arith)
    go false y false p q r = refl

less_leb : (n : ℕ) → ltb n 8 ≡ leb (suc n) 8
less_leb n = go (leb (suc n) 8) refl
  where
    go : (b : Bool) → leb (suc n) 8 ≡ b → ltb n 8 ≡ b
    go true e = let h = leb-true (suc n) 8 e in lt-ltb n 8 (omega arith)
    go false e = let h = leb-false (suc n) 8 e in le-ltb n 8 (omega arith)

one_deeper : (n d : ℕ) → 1 ≤ d → (ltb n 8 && leb (suc n + d) 8) ≡ leb (n + suc d) 8
one_deeper n d k = ap (λ b. b && leb (suc n + d) 8) (less_leb n) ∙ both_leb (suc n) 8 (suc n + d) 8 (n + suc d) 8 (λ h. (omega arith, omega arith)) (λ h i. omega arith)

pub depth_is : (n : ℕ) (q : Form) → every (λ i. shallow_part i.around i.part) (parts n q) ≡ leb (n + form_depth q) 8
unfolding every parts inner shallow_part form_depth
depth_is n (G.rows s) = and-true (ltb n 8) ∙ less_leb n ∙ (let e : n + 1 ≡ suc n = omega arith in ap (λ m. leb m 8) (sym e))
depth_is n (G.pick c q) =
    let k = depth_some c in
    let l = form_some q in
    ap (λ b. leb (cond_depth c) (8 - suc n) && b) (depth_is (suc n) q)
    ∙ both_leb (cond_depth c) (8 - suc n) (suc n + form_depth q) 8 (n + suc (max (cond_depth c) (form_depth q))) 8 (λ h. (omega arith, omega arith)) (λ h i. omega arith)
depth_is n (G.keep rs q) = ap (λ b. ltb n 8 && b) (depth_is (suc n) q) ∙ one_deeper n (form_depth q) (form_some q)
depth_is n (G.join a b q r) =
    let k = form_some q in
    ap (λ b. ltb n 8 && b)
    (every_append_same (λ i. shallow_part i.around i.part) (parts (suc n) q) (parts (suc n) r) ∙ ap₂ ◌&&◌ (depth_is (suc n) q) (depth_is (suc n) r)
    ∙ both_leb (suc n + form_depth q) 8 (suc n + form_depth r) 8 (suc n + max (form_depth q) (form_depth r)) 8 (λ h. (omega arith, omega arith)) (λ h i. omega arith))
    ∙ one_deeper n (max (form_depth q) (form_depth r)) (omega arith)
depth_is n (G.aggregate f c z w q) = ap (λ b. ltb n 8 && b) (depth_is (suc n) q) ∙ one_deeper n (form_depth q) (form_some q)
