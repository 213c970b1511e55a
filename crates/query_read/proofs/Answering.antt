-- What is read of all forms: what is read so far, joined to what is still to be read; each end of the loop, and the way on.
use mathlib.Core.Path.{◌≡◌, refl, sym, ap, ap₂, ◌∙◌}
use mathlib.Core.List.{List, [], ◌∷◌, ◌++◌, map, append-nil, map-append}
use mathlib.Core.Bool.{Bool, true, false, ◌||◌}
use mathlib.Core.Option.{Option, none, some}
use Prim.Native.Nat.{ℕ, zero, suc, ◌+◌, ◌*◌, ◌-◌, ◌≤◌, ◌<◌}
use native.Mathlib.Omega.{arith}
use lib.Dec.{eqb, leb}
use lib.ListN.{length, drop, set, replicate, length-drop, length-set, length-replicate, drop_of_length-le}
use borrow.Author.Tests.{le-leb, lt-leb, le-ltb, lt-ltb}
use Rattle.std.proofs.lemmas.Option.{same_Some}
use Rattle.lists.specs.Lists.{gather}
use Rattle.lists.proofs.Laws.{gather_append, never, by_test, or_first, or_last}
use Rattle.syntax.specs.Grammar as G
use Rattle.syntax.specs.Grammar.{Bytes, Form, Test, Cond}
use Rattle.syntax.specs.Limits.{cond_depth}
use Rattle.syntax.specs.Readers as R
use Rattle.syntax.specs.Readers.{Read, bind}
use Rattle.calls.specs.Names.{form_conds}
use Rattle.text.specs.Words.{Found, Some, None, seen, left_at}
use Rattle.text.specs.Readings.{any_form}
use Rattle.text.proofs.Views.{no_some, seen_none, seen_some, left_drop}
use Rattle.nodes.specs.Storing.{size, store_list}
use Rattle.nodes.specs.declared.Node.{Node}
use Rattle.conditions.specs.Seeing.{nodes_of, seen_of, deep_seen}
use Rattle.conditions.proofs.Skipping.{stack, stack_push}
use Rattle.query_read.specs.declared.Own.{Own}
use Rattle.query_read.specs.declared.Next.{Next}
use Rattle.query_read.specs.declared.Next.TheVariants.{Ended, Inside}
use Rattle.query_read.specs.declared.Reading.{Reading}
use Rattle.query_read.specs.Parts.{Part, rows, pick, keep, join, aggregate, Inner, inner, parts, read_own}
use Rattle.query_read.specs.Seeing.{level, rows_own, pick_own, keep_own, join_own, aggregate_own, picked, own_of, own_seen, own_at, part_stored, own_stored, with_own, with_part, with_parts, no_reading, reading_ended, form_seen, form_stored, readable, FormRead}
use Rattle.query_read.specs.Steps.{OwnRead, after_form}
use Rattle.query_read.proofs.Walking.{ahead, rest, within, then_own, within_own, cost, own_leaves, own_cost, Goes, After, after_law}

-- ---- the answer by what is read so far and what is read on

unfoldable pub answer : List ℕ → Bytes → Reading → Option (Read (List Inner)) → Found Reading
answer ns s r none = None
answer ns s r (some x) = Some (reading_ended (with_parts ns r x.what) (length s - length x.left))

answer_ahead : (ns : List ℕ) (s : Bytes) (r : Reading) (i : Inner) (o : Option (Read (List Inner))) → answer ns s r (ahead (i ∷ []) o) ≡ answer ns s (with_part ns r i) o
unfolding answer ahead with_parts
answer_ahead ns s r i none = refl
answer_ahead ns s r i (some x) = refl

-- the words with those of the conditions that are read on
unfoldable pub store_parts : List ℕ → Reading → List ℕ → List Inner → List ℕ
store_parts ns r ws [] = ws
store_parts ns r ws (i ∷ is) = store_parts ns (with_part ns r i) (part_stored ns r.words i.part ws) is

unfoldable pub stored_on : List ℕ → Reading → List ℕ → Option (Read (List Inner)) → List ℕ
stored_on ns r ws none = []
stored_on ns r ws (some x) = store_parts ns r ws x.what

stored_ahead : (ns : List ℕ) (r : Reading) (ws : List ℕ) (i : Inner) (o : Option (Read (List Inner))) → stored_on ns r ws (ahead (i ∷ []) o) ≡ stored_on ns (with_part ns r i) (part_stored ns r.words i.part ws) o
unfolding stored_on ahead store_parts
stored_ahead ns r ws i none = refl
stored_ahead ns r ws i (some x) = refl

-- ---- the conditions of parts

unfoldable pub conds_in : Part → List (Cond Test)
conds_in (rows s) = []
conds_in (pick c) = c ∷ []
conds_in (keep rs) = []
conds_in (join a b) = []
conds_in (aggregate f c z w) = []

unfoldable pub part_conds : Inner → List (Cond Test)
part_conds i = conds_in i.part

pub conds_are : (n : ℕ) (q : Form) → gather part_conds (parts n q) ≡ form_conds q
unfolding gather part_conds conds_in parts inner form_conds
conds_are n (G.rows s) = refl
conds_are n (G.pick c q) = ap (λ l. c ∷ l) (conds_are (suc n) q)
conds_are n (G.keep rs q) = conds_are (suc n) q
conds_are n (G.join a b q r) = gather_append part_conds (parts (suc n) q) (parts (suc n) r) ∙ ap₂ ◌++◌ (conds_are (suc n) q) (conds_are (suc n) r)
conds_are n (G.aggregate f c z w q) = conds_are (suc n) q

-- ---- one part more

module _ (ns : List ℕ) where
  own_next : (b n : ℕ) (x : Part) (next : ℕ) → (own_of ns b n x next).next ≡ next
  unfolding own_of rows_own pick_own keep_own join_own aggregate_own
  own_next b n (rows s) next = refl
  own_next b n (pick c) next = refl
  own_next b n (keep rs) next = refl
  own_next b n (join a c) next = refl
  own_next b n (aggregate f c z w) next = refl

  -- where it ends plays no part
  placeless : (r : Reading) (b n : ℕ) (x : Part) (next : ℕ) → with_own r (own_of ns b n x next) ≡ with_own r (own_of ns b n x 0)
  unfolding with_own own_of rows_own pick_own keep_own join_own aggregate_own
  placeless r b n (rows s) next = refl
  placeless r b n (pick c) next = refl
  placeless r b n (keep rs) next = refl
  placeless r b n (join a c) next = refl
  placeless r b n (aggregate f c z w) next = refl

  -- how many words there are then
  words_few : (b n : ℕ) (x : Part) (next : ℕ) → 5 * (own_of ns b n x next).words ≤ 5 * b + cost ns x
  unfolding own_of rows_own pick_own keep_own join_own aggregate_own picked seen_of deep_seen cost
  words_few b n (rows s) next = omega arith
  words_few b n (pick c) next = by_test (leb (cond_depth c) (level n)) (λ e. rw e (omega arith)) (λ e. rw e (omega arith))
  words_few b n (keep rs) next = omega arith
  words_few b n (join a c) next = omega arith
  words_few b n (aggregate f c z w) next = omega arith

  pub pick_over : (b n : ℕ) (c : Cond Test) (next : ℕ) → (own_of ns b n (pick c) next).over ≡ false → (own_of ns b n (pick c) next).words ≡ b + size (nodes_of ns c)
  unfolding own_of pick_own picked seen_of deep_seen
  pick_over b n c next e = by_test (leb (cond_depth c) (level n)) (λ d. rw d) (λ d. never (rw d at e))

  -- the count is at most twelve
  with_count : (r : Reading) (o : Own) → (with_own r o).count ≤ 12
  unfolding with_own
  with_count r o = omega arith

  pub over_before : (r : Reading) (i : Inner) → (with_part ns r i).over ≡ false → (r.over ≡ false) × ((own_of ns r.words i.around i.part 0).over ≡ false)
  unfolding with_part with_own
  over_before r i e =
      let a = or_last r.over _ e in
      (or_first r.over _ e, or_first (own_of ns r.words i.around i.part 0).over _ a)

  pub over_first : (is : List Inner) (r : Reading) → (with_parts ns r is).over ≡ false → r.over ≡ false
  unfolding with_parts
  over_first [] r e = e
  over_first (i ∷ is) r e = (over_before r i (over_first is (with_part ns r i) e)).0

  pub words_then : (r : Reading) (i : Inner) → (with_part ns r i).words ≡ (own_of ns r.words i.around i.part 0).words
  unfolding with_part with_own
  words_then r i = refl

  one_stored : (r : Reading) (n : ℕ) (x : Part) (cs : List (Cond Node)) (ws : List ℕ) → (own_of ns r.words n x 0).over ≡ false
      → store_list cs (own_of ns r.words n x 0).words (part_stored ns r.words x ws) ≡ store_list (map (nodes_of ns) (conds_in x) ++ cs) r.words ws
  unfolding store_list conds_in part_stored
  one_stored r n (rows s) cs ws e = unfold own_of rows_own in refl
  one_stored r n (pick c) cs ws e = rw (pick_over r.words n c 0 e)
  one_stored r n (keep rs) cs ws e = unfold own_of keep_own in refl
  one_stored r n (join a c) cs ws e = unfold own_of join_own in refl
  one_stored r n (aggregate f c z w) cs ws e = unfold own_of aggregate_own in refl

  -- the words by the conditions
  pub parts_stored : (is : List Inner) (r : Reading) (ws : List ℕ) → (with_parts ns r is).over ≡ false → store_parts ns r ws is ≡ store_list (map (nodes_of ns) (gather part_conds is)) r.words ws
  unfolding with_parts store_parts gather store_list part_conds
  parts_stored [] r ws e = refl
  parts_stored (i ∷ is) r ws e =
      let o = (over_before r i (over_first is (with_part ns r i) e)).1 in
      parts_stored is (with_part ns r i) (part_stored ns r.words i.part ws) e
      ∙ ap (λ k. store_list (map (nodes_of ns) (gather part_conds is)) k (part_stored ns r.words i.part ws)) (words_then r i)
      ∙ one_stored r i.around i.part (map (nodes_of ns) (gather part_conds is)) ws o
      ∙ ap (λ l. store_list l r.words ws) (sym (map-append (nodes_of ns) (conds_in i.part) (gather part_conds is)))

-- ---- nothing yet

started : (ns : List ℕ) (s : Bytes) (o : Option (Read Form)) → seen (form_seen ns s) o ≡ answer ns s no_reading (bind o (λ q. ahead (parts 0 q.what) (some (record { what = []; left = q.left }))))
unfolding seen form_seen left_at answer bind ahead
started ns s none = refl
started ns s (some q) = ap (λ r. Some (reading_ended r (length s - length q.left))) (sym (ap (with_parts ns no_reading) (append-nil (parts 0 q.what))))

nothing_few : (at : ℕ) → 5 * no_reading.words ≤ at
unfolding no_reading
nothing_few at = omega arith

nothing_counted : no_reading.count ≤ 12
unfolding no_reading
nothing_counted = omega arith

cost_some : (ns : List ℕ) (x : Part) → 1 ≤ cost ns x
unfolding cost
cost_some ns (rows s) = omega arith
cost_some ns (pick c) = omega arith
cost_some ns (keep rs) = omega arith
cost_some ns (join a b) = omega arith
cost_some ns (aggregate f c z w) = omega arith

-- ---- a form as the code reads it

own_none : (ns : List ℕ) (s : Bytes) (b n p : ℕ) {ws vs : List ℕ} → OwnRead ns s b n p ws vs None → read_own (drop p s) ≡ none
unfolding own_at
own_none ns s b n p q = seen_none (own_seen ns s b n) (read_own (drop p s)) q.is

own_some : (ns : List ℕ) (s : Bytes) (b n p : ℕ) {ws vs : List ℕ} {o : Own} → OwnRead ns s b n p ws vs (Some o) → {X : Type 0}
    → ((x : Part) → read_own (drop p s) ≡ some (record { what = x; left = drop o.next s }) → o ≡ own_of ns b n x o.next → p + cost ns x ≤ o.next → o.next ≤ length s → (o.over ≡ false → vs ≡ part_stored ns b x ws) → X) → X
unfolding own_at own_seen left_at own_stored
own_some ns s b n p {ws} {vs} {o} q f =
    seen_some (own_seen ns s b n) (read_own (drop p s)) q.is (λ r e a.
    let c : o.next ≡ length s - length r.left = ap (λ y. y.next) a ∙ own_next ns b n r.what (length s - length r.left) in
    let d : drop o.next s ≡ r.left = ap (λ y. drop y s) c ∙ left_drop own_leaves s p r e in
    let k = own_cost ns (drop p s) r e in
    let m = cost_some ns r.what in
    f r.what (e ∙ ap (λ y. some (record { what = r.what; left = y })) (sym d)) (a ∙ rw (sym c)) (omega (arith, length-drop p s)) (omega arith) (λ v. q.stored o refl v ∙ rw e))

-- ---- the loop

pub record Walked (ns : List ℕ) (s : Bytes) (at : ℕ) (ws₀ ws : List ℕ) (second : List Bool) (nest p : ℕ) (r : Reading) : Type 0 where
  pub read : seen (form_seen ns s) (any_form (drop at s)) ≡ answer ns s r (within (stack second nest) (drop p s))
  pub stored : r.over ≡ false → stored_on ns no_reading ws₀ (within [] (drop at s)) ≡ stored_on ns r ws (within (stack second nest) (drop p s))
  pub kept : length ws ≡ length ws₀
  pub nested : 5 * nest ≤ p
  pub words : 5 * r.words ≤ p
  pub count : r.count ≤ 12
  pub places : length second ≡ 128

pub walk_start : (ns : List ℕ) (s : Bytes) (at : ℕ) (ws : List ℕ) {r : Reading} → r ≡ no_reading → Walked ns s at ws ws (replicate 128 false) 0 at r
unfolding stack within rest bind
walk_start ns s at ws {r} e =
    rw e (record {
      read = start (any_form (drop at s));
      stored = λ o. refl;
      kept = refl;
      nested = omega arith;
      words = few;
      count = none_yet;
      places = length-replicate 128 false;
    })
  where
    start : (o : Option (Read Form)) → seen (form_seen ns s) o ≡ answer ns s no_reading (bind o (λ q. ahead (parts 0 q.what) (some (record { what = []; left = q.left }))))
    start o = started ns s o

    few : 5 * no_reading.words ≤ at
    few = nothing_few at

    none_yet : no_reading.count ≤ 12
    none_yet = nothing_counted

-- ---- parts by the number of their form

rows_only : (ns : List ℕ) (b n : ℕ) (x : Part) (next : ℕ) {X : Type 0} → (own_of ns b n x next).form.kind ≡ 0 → ((m : Bytes) → x ≡ rows m → X) → X
unfolding own_of rows_own pick_own keep_own join_own aggregate_own
rows_only ns b n (rows m) next e f = f m refl
rows_only ns b n (pick c) next e f = absurd (omega arith)
rows_only ns b n (keep rs) next e f = absurd (omega arith)
rows_only ns b n (join a c) next e f = absurd (omega arith)
rows_only ns b n (aggregate g c z w) next e f = absurd (omega arith)

others : (ns : List ℕ) (b n : ℕ) (x : Part) (next : ℕ) (st : List Bool) (l : Bytes) → ((own_of ns b n x next).form.kind ≡ 0 → ⊥)
    → (then_own st x l ≡ ahead (inner (length st) x ∷ []) (within (eqb (own_of ns b n x next).form.kind 3 ∷ st) l)) × (5 ≤ cost ns x)
unfolding own_of rows_own pick_own keep_own join_own aggregate_own then_own cost
others ns b n (rows m) next st l f = absurd (f refl)
others ns b n (pick c) next st l f = (refl, omega arith)
others ns b n (keep rs) next st l f = (refl, omega arith)
others ns b n (join a c) next st l f = (refl, omega arith)
others ns b n (aggregate g c z w) next st l f = (refl, omega arith)

stack_length : (second : List Bool) (n : ℕ) → length (stack second n) ≡ n
unfolding stack
stack_length second zero = refl
stack_length second (suc n) = ap suc (stack_length second n)

within_end : (st : List Bool) → within st [] ≡ none
unfolding within any_form R.read_form bind
within_end st = refl

within_none : (st : List Bool) (bs : Bytes) → read_own bs ≡ none → within st bs ≡ none
unfolding bind
within_none st bs e = within_own st bs ∙ rw e

within_some : (st : List Bool) (bs l : Bytes) (x : Part) → read_own bs ≡ some (record { what = x; left = l }) → within st bs ≡ then_own st x l
unfolding bind
within_some st bs l x e = within_own st bs ∙ rw e

answer_none : (ns : List ℕ) (s : Bytes) (r : Reading) → answer ns s r none ≡ None
unfolding answer
answer_none ns s r = refl

-- ---- the end

last_answer : (ns : List ℕ) (s : Bytes) (v : Reading) (i : ℕ) → i ≤ length s → answer ns s v (some (record { what = []; left = drop i s })) ≡ Some (reading_ended v i)
unfolding answer with_parts
last_answer ns s v i h = let e : length s - length (drop i s) ≡ i = omega (arith, length-drop i s) in ap (λ j. Some (reading_ended v j)) e

ended_over : (v : Reading) (i : ℕ) → (reading_ended v i).over ≡ v.over
unfolding reading_ended
ended_over v i = refl

last_words : (ns : List ℕ) (v : Reading) (vs : List ℕ) (l : Bytes) → stored_on ns v vs (some (record { what = []; left = l })) ≡ vs
unfolding stored_on store_parts
last_words ns v vs l = refl

no_words : no_reading.words ≡ 0
unfolding no_reading
no_words = refl

words_of : (ns : List ℕ) (s : Bytes) (ws : List ℕ) (o : Option (Read Form)) {vs : List ℕ} {x : Reading} → seen (form_seen ns s) o ≡ Some x → x.over ≡ false
    → stored_on ns no_reading ws (bind o (λ q. ahead (parts 0 q.what) (some (record { what = []; left = q.left })))) ≡ vs → form_stored ns o ws ≡ vs
unfolding seen form_seen form_stored stored_on bind ahead
words_of ns s ws none d e f = absurd (no_some d)
words_of ns s ws (some q) {vs} {x} d e f =
    let m : form_seen ns s q ≡ x = same_Some (form_seen ns s q) x d in
    sym (ap (λ is. store_parts ns no_reading ws is) (append-nil (parts 0 q.what))
    ∙ parts_stored ns (parts 0 q.what) no_reading ws (sym (ended_over (with_parts ns no_reading (parts 0 q.what)) (left_at s q)) ∙ ap (λ y. y.over) m ∙ e)
    ∙ ap₂ (λ cs b. store_list (map (nodes_of ns) cs) b ws) (conds_are 0 q.what) no_words) ∙ f

-- the words of a form's conditions
form_words : (ns : List ℕ) (s : Bytes) (ws : List ℕ) (bs : Bytes) {vs : List ℕ} {x : Reading} → seen (form_seen ns s) (any_form bs) ≡ Some x → x.over ≡ false → stored_on ns no_reading ws (within [] bs) ≡ vs → form_stored ns (any_form bs) ws ≡ vs
unfolding within rest bind
form_words ns s ws bs d e f = words_of ns s ws (any_form bs) d e f

module _ (ns : List ℕ) (s : Bytes) (at : ℕ) (ws₀ ws : List ℕ) (second : List Bool) (nest p : ℕ) (r : Reading) (inv : Walked ns s at ws₀ ws second nest p r) (line : length s ≤ 512) (lent : 102 ≤ length ws₀) where
  lined : readable s ws₀ ≡ true
  unfolding readable
  lined = rw (le-ltb 512 (length s) line, le-leb 102 (length ws₀) lent)

  nothing : {x : Found Reading} {vs : List ℕ} → seen (form_seen ns s) (any_form (drop at s)) ≡ None → length vs ≡ length ws₀ → x ≡ None → FormRead ns s at ws₀ vs x
  nothing e l d = record { is = d ∙ sym (rw lined e); stored = λ y o v. absurd (no_some (sym d ∙ o)); kept = l }

  pub walk_over : length s ≤ p → FormRead ns s at ws₀ ws None
  walk_over h = nothing (inv.read ∙ ap (λ bs. answer ns s r (within (stack second nest) bs)) (drop_of_length-le s h) ∙ ap (answer ns s r) (within_end (stack second nest)) ∙ answer_none ns s r) inv.kept refl

  pub walk_unread : {vs : List ℕ} {x : Found Reading} → OwnRead ns s r.words nest p ws vs None → x ≡ None → FormRead ns s at ws₀ vs x
  walk_unread q d = nothing (inv.read ∙ ap (answer ns s r) (within_none (stack second nest) (drop p s) (own_none ns s r.words nest p q)) ∙ answer_none ns s r) (q.kept ∙ inv.kept) d

  module _ {vs : List ℕ} {o : Own} (q : OwnRead ns s r.words nest p ws vs (Some o)) where
    same : length vs ≡ length ws₀
    same = q.kept ∙ inv.kept

    module _ {v : Reading} (w : v ≡ with_own r o) where
      -- the part that was read, and what follows it
      stepped : {X : Type 0} → ((x : Part) → within (stack second nest) (drop p s) ≡ then_own (stack second nest) x (drop o.next s) → o ≡ own_of ns r.words nest x o.next → p + cost ns x ≤ o.next → o.next ≤ length s
          → v ≡ with_part ns r (inner (length (stack second nest)) x) → (v.over ≡ false → (r.over ≡ false) × (vs ≡ part_stored ns r.words x ws)) → X) → X
      unfolding with_part inner with_own
      stepped f =
          own_some ns s r.words nest p q (λ x e a c l t.
          f x (within_some (stack second nest) (drop p s) (drop o.next s) x e) a c l
          (w ∙ ap (with_own r) a ∙ placeless ns r r.words nest x o.next ∙ ap (λ m. with_own r (own_of ns r.words m x 0)) (sym (stack_length second nest)))
          (λ u. let y : (r.over || (o.over || leb 12 r.count)) ≡ false = sym (ap (λ g. g.over) w) ∙ u in (or_first r.over _ y, t (or_first o.over _ (or_last r.over _ y)))))

      few : (x : Part) → o ≡ own_of ns r.words nest x o.next → p + cost ns x ≤ o.next → 5 * v.words ≤ o.next
      unfolding with_own
      few x a c =
          let e : v.words ≡ o.words = ap (λ g. g.words) w in
          let f : o.words ≡ (own_of ns r.words nest x o.next).words = ap (λ g. g.words) a in
          let h = words_few ns r.words nest x o.next in
          let i = inv.words in
          omega arith

      counted : v.count ≤ 12
      counted = let e : v.count ≡ (with_own r o).count = ap (λ g. g.count) w in let h = with_count ns r o in omega arith

      -- on by what follows in front of the rest
      on_read : (X : Option (Read (List Inner))) (x : Part) → within (stack second nest) (drop p s) ≡ ahead (inner (length (stack second nest)) x ∷ []) X → v ≡ with_part ns r (inner (length (stack second nest)) x)
          → seen (form_seen ns s) (any_form (drop at s)) ≡ answer ns s v X
      on_read X x e g = inv.read ∙ ap (answer ns s r) e ∙ answer_ahead ns s r (inner (length (stack second nest)) x) X ∙ ap (λ y. answer ns s y X) (sym g)

      on_stored : (X : Option (Read (List Inner))) (x : Part) → within (stack second nest) (drop p s) ≡ ahead (inner (length (stack second nest)) x ∷ []) X → v ≡ with_part ns r (inner (length (stack second nest)) x)
          → (v.over ≡ false → (r.over ≡ false) × (vs ≡ part_stored ns r.words x ws)) → v.over ≡ false → stored_on ns no_reading ws₀ (within [] (drop at s)) ≡ stored_on ns v vs X
      unfolding inner
      on_stored X x e g h u =
          inv.stored (h u).0 ∙ ap (stored_on ns r ws) e ∙ stored_ahead ns r ws (inner (length (stack second nest)) x) X
          ∙ ap₂ (λ y t. stored_on ns y t X) (sym g) (sym (h u).1)

      module _ (form : o.form.kind ≡ 0 → ⊥) where
        deeper : {X : Type 0} → ((x : Part) → within (stack second nest) (drop p s) ≡ ahead (inner (length (stack second nest)) x ∷ []) (within (eqb o.form.kind 3 ∷ stack second nest) (drop o.next s)) → o ≡ own_of ns r.words nest x o.next
            → p + cost ns x ≤ o.next → 5 ≤ cost ns x → o.next ≤ length s → v ≡ with_part ns r (inner (length (stack second nest)) x) → (v.over ≡ false → (r.over ≡ false) × (vs ≡ part_stored ns r.words x ws)) → X) → X
        deeper f =
            stepped (λ x e a c l g h.
            let k : (own_of ns r.words nest x o.next).form.kind ≡ o.form.kind = sym (ap (λ y. y.form.kind) a) in
            let m = others ns r.words nest x o.next (stack second nest) (drop o.next s) (λ z. form (sym k ∙ z)) in
            f x (e ∙ m.0 ∙ ap (λ y. ahead (inner (length (stack second nest)) x ∷ []) (within (eqb y 3 ∷ stack second nest) (drop o.next s))) k) a c m.1 l g h)

        pub walk_deeper : p < length s → Walked ns s at ws₀ vs (set second nest (eqb o.form.kind 3)) (nest + 1) o.next v
        walk_deeper i =
            deeper (λ x e a c m l g h.
            let n = inv.nested in
            let k = inv.places in
            let z = stack_push second nest (eqb o.form.kind 3) (omega arith) in
            record {
              read = on_read (within (eqb o.form.kind 3 ∷ stack second nest) (drop o.next s)) x e g ∙ ap (λ st. answer ns s v (within st (drop o.next s))) (sym z);
              stored = λ u. on_stored (within (eqb o.form.kind 3 ∷ stack second nest) (drop o.next s)) x e g h u ∙ ap (λ st. stored_on ns v vs (within st (drop o.next s))) (sym z);
              kept = same;
              nested = omega arith;
              words = few x a c;
              count = counted;
              places = length-set second nest (eqb o.form.kind 3) ∙ inv.places;
            })

        pub walk_falls : p < length s → length s - o.next < length s - p
        walk_falls i = deeper (λ x e a c m l g h. omega arith)

      module _ (row : o.form.kind ≡ 0) where
        ended : {X : Type 0} → ((x : Part) → within (stack second nest) (drop p s) ≡ ahead (inner (length (stack second nest)) x ∷ []) (rest (stack second nest) (drop o.next s)) → o ≡ own_of ns r.words nest x o.next
            → p + cost ns x ≤ o.next → o.next ≤ length s → v ≡ with_part ns r (inner (length (stack second nest)) x) → (v.over ≡ false → (r.over ≡ false) × (vs ≡ part_stored ns r.words x ws)) → X) → X
        unfolding then_own
        ended f =
            stepped (λ x e a c l g h.
            let k : (own_of ns r.words nest x o.next).form.kind ≡ 0 = sym (ap (λ y. y.form.kind) a) ∙ row in
            rows_only ns r.words nest x o.next k (λ m z. f x (e ∙ rw z) a c l g h))

        pub walk_stuck : {x : Found Reading} → None ≡ after_form s second o.next nest → x ≡ None → FormRead ns s at ws₀ vs x
        unfolding After
        walk_stuck a d =
            ended (λ x e b c l g h.
            nothing (on_read (rest (stack second nest) (drop o.next s)) x e g ∙ ap (answer ns s v) (rw (← a) at (after_law s second nest o.next l)) ∙ answer_none ns s v) same d)

        module _ {k : Next} (a : Some k ≡ after_form s second o.next nest) where
          afterwards : {j : Next} → k ≡ j → o.next ≤ length s → After s second o.next nest (Some j)
          afterwards i b = rw (← (ap Some (sym i) ∙ a)) at (after_law s second nest o.next b)

          pub walk_ended : {y : Reading} {i : ℕ} → k ≡ Ended i → y ≡ reading_ended v i → FormRead ns s at ws₀ vs (Some y)
          unfolding After
          walk_ended {y} {i} z d =
              ended (λ x e b c l g h.
              let t = afterwards z l in
              let whole : seen (form_seen ns s) (any_form (drop at s)) ≡ Some y = on_read (rest (stack second nest) (drop o.next s)) x e g ∙ ap (answer ns s v) t.0 ∙ last_answer ns s v i t.2 ∙ ap Some (sym d) in
              record {
                is = sym (rw lined whole);
                stored = λ w m n.
                    let same_y : y ≡ w = same_Some y w m in
                    let over : y.over ≡ false = ap (λ w. w.over) same_y ∙ n in
                    sym (form_words ns s ws₀ (drop at s) whole over
                    (on_stored (rest (stack second nest) (drop o.next s)) x e g h (sym (ended_over v i) ∙ sym (ap (λ w. w.over) d) ∙ over) ∙ ap (stored_on ns v vs) t.0 ∙ last_words ns v vs (drop i s)));
                kept = same;
              })

          module _ {i m : ℕ} (z : k ≡ Inside i m) where
            goes : o.next ≤ length s → Goes s second o.next nest i m
            unfolding After
            goes l = afterwards z l

            pub walk_again : Walked ns s at ws₀ vs (set second (m - 1) false) m i v
            walk_again =
                ended (λ x e b c l g h.
                let t = goes l in
                let on = t.on in
                let n = inv.nested in
                let j = inv.places in
                let f = t.fewer in
                let w = t.forward in
                let q = t.least in
                let y = few x b c in
                let u : m - 1 + 1 ≡ m = omega arith in
                let z : stack (set second (m - 1) false) m ≡ false ∷ stack second (m - 1) = ap (stack (set second (m - 1) false)) (sym u) ∙ stack_push second (m - 1) false (open_few f n (cost ns x) c l) in
                record {
                  read = on_read (rest (stack second nest) (drop o.next s)) x e g ∙ ap (answer ns s v) on ∙ ap (λ st. answer ns s v (within st (drop i s))) (sym z);
                  stored = λ q. on_stored (rest (stack second nest) (drop o.next s)) x e g h q ∙ ap (stored_on ns v vs) on ∙ ap (λ st. stored_on ns v vs (within st (drop i s))) (sym z);
                  kept = same;
                  nested = omega arith;
                  words = omega arith;
                  count = counted;
                  places = length-set second (m - 1) false ∙ inv.places;
                })
              where
                open_few : m ≤ nest → 5 * nest ≤ p → (c : ℕ) → p + c ≤ o.next → o.next ≤ length s → m - 1 < length second
                open_few f n c h l = let i = inv.places in omega arith

            pub walk_less : p < length s → length s - i < length s - p
            walk_less h = ended (λ x e b c l g h. let f = (goes l).forward in let t = cost_some ns x in omega arith)

            pub walk_nested : 1 ≤ m
            walk_nested = ended (λ x e b c l g h. (goes l).least)

            pub walk_places : m - 1 < 128
            walk_places = ended (λ x e b c l g h. let f = (goes l).fewer in let n = inv.nested in omega arith)

pub ruleset Walk_Ends = (walk_start, walk_over, walk_unread, walk_deeper, walk_falls, walk_stuck, walk_ended, walk_again, walk_less)

-- ---- a line that is too long, and words that are too few

module _ (ns : List ℕ) (s : Bytes) (at : ℕ) (ws : List ℕ) where
  unreadable : readable s ws ≡ false → FormRead ns s at ws ws None
  unreadable e = record { is = sym (rw e); stored = λ x o v. absurd (no_some o); kept = refl }

  pub read_long : 512 < length s → FormRead ns s at ws ws None
  unfolding readable
  read_long h = unreadable (rw (lt-ltb 512 (length s) h))

  pub read_few : length s ≤ 512 → length ws < 102 → FormRead ns s at ws ws None
  unfolding readable
  read_few h k = unreadable (rw (le-ltb 512 (length s) h, lt-leb 102 (length ws) k))
