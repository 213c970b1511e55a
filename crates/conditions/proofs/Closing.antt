-- What is told of a comparison, and of conditions inside brackets by what is told of those inside.
use mathlib.Core.Path.{◌≡◌, refl, sym, ap, ap₂, ◌∙◌}
use mathlib.Core.List.{List}
use mathlib.Core.Bool.{Bool, true, false, ◌&&◌, not, cond, or-false}
use mathlib.Core.Option.{Option, none, some}
use Prim.Native.Nat.{ℕ, suc, ◌+◌, ◌-◌, ◌≤◌}
use native.Mathlib.Omega.{arith}
use lib.Dec.{leb, eqb, leb-suc-suc}
use lib.ListN.{length, drop, get_or, length-drop}
use borrow.Author.Tests.{ne_eqb, eqb-true, eqb-false, le-leb}
use Rattle.std.proofs.lemmas.Option.{none-some, same_Some}
use Rattle.lists.specs.Lists.{some?}
use Rattle.lists.proofs.Laws.{never, by_test}
use Rattle.syntax.specs.Grammar.{Bytes, Op, eq, Ref, Operand, Test, Cond, test}
use Rattle.syntax.specs.Limits.{cond_depth}
use Rattle.syntax.specs.Readers.{Read, bind, byte, read_test}
use Rattle.model.specs.Conditions.{tests, map_cond}
use Rattle.text.specs.Words.{Found, Some, None, seen, left_at}
use Rattle.text.specs.Keywords.{op_number}
use Rattle.text.proofs.Runs.{inside}
use Rattle.text.proofs.Places.{byte_is, byte_not}
use Rattle.terms.specs.declared.Comparison.{Comparison}
use Rattle.terms.specs.Terms.{test_over, left_code, right_code, test_value, comparison_of, comparison_at}
use Rattle.terms.proofs.Sides.{comparison_none, comparison_some}
use Rattle.nodes.specs.Nodes.{node_words}
use Rattle.nodes.specs.Storing.{put_node, size, store, inner_node}
use Rattle.nodes.specs.Storing as N
use Rattle.nodes.proofs.Puts.{length_put}
use Rattle.conditions.specs.declared.Seen.{Seen}
use Rattle.conditions.specs.Seeing.{test_node, nodes_of, test_unknown, deep_seen, seen_of}
use Rattle.conditions.specs.Steps.{Answers, counted, compared_node, compared_one, compared_seen, compared_stored, closed_seen, closed_stored, Kind, one, told_read, told, put_read, ReadIn}
use Rattle.conditions.proofs.Folds.{left_small, right_small, mask_one}

-- ---- what is told

pub unread : {r : Found Seen} {i : Seen} {X : Type 0} → r ≡ None → r ≡ Some i → X
unread {r} {i} e o = absurd (none-some i (sym e ∙ o))

few_near : (ks : List ℕ) (ts : List Test) (q n : ℕ) {i : Seen} → i ≡ seen_of ks ts q (counted n) → i.count ≤ 256
unfolding seen_of counted
few_near ks ts q n e = let c = ap (λ x. x.count) e in omega arith

pub few_deep : (q : ℕ) {i : Seen} → i ≡ deep_seen q → i.count ≤ 256
unfolding deep_seen
few_deep q e = let c = ap (λ x. x.count) e in omega arith

module _ {A : Type 0} (ks : List ℕ) (k : Kind A) (s : Bytes) (b level : ℕ) where
  module _ (r : Read A) where
    abbrev pub left_place : ℕ
    left_place = length s - length r.left

    pub told_near : leb (k.depth r.what) level ≡ true → told_read ks k s b level r ≡ seen_of ks (k.tests r.what) left_place (counted (b + k.words r.what))
    unfolding told_read left_at
    told_near e = rw e

    pub told_deep : leb (k.depth r.what) level ≡ false → told_read ks k s b level r ≡ deep_seen left_place
    unfolding told_read left_at
    told_deep e = rw e

    pub told_next : (told_read ks k s b level r).next ≡ left_place
    unfolding told_read seen_of deep_seen left_at
    told_next = by_test (leb (k.depth r.what) level) (λ e. rw e) (λ e. rw e)

    pub told_is : {i : Seen} → Some i ≡ told ks k s b level (some r) → i ≡ told_read ks k s b level r
    unfolding told seen
    told_is e = same_Some _ _ e

  -- what was read, where nothing is told and where something is
  pub told_none : (o : Option (Read A)) → None ≡ told ks k s b level o → o ≡ none
  unfolding told seen
  told_none none e = refl
  told_none (some r) e = absurd (none-some _ e)

  pub told_some : (o : Option (Read A)) {i : Seen} → Some i ≡ told ks k s b level o → {X : Type 0} → ((r : Read A) → o ≡ some r → i ≡ told_read ks k s b level r → i.next ≡ left_place r → X) → X
  unfolding told seen
  told_some none e f = absurd (none-some _ (sym e))
  told_some (some r) {i} e f = let d = same_Some i (told_read ks k s b level r) e in f r refl d (ap (λ x. x.next) d ∙ told_next r)

  -- counts are at most 256
  pub told_few : (o : Option (Read A)) {i : Seen} → Some i ≡ told ks k s b level o → i.count ≤ 256
  told_few o e =
      told_some o e (λ r q d n.
      by_test (leb (k.depth r.what) level) (λ p. few_near ks (k.tests r.what) (left_place r) (b + k.words r.what) (d ∙ told_near r p)) (λ p. few_deep (left_place r) (d ∙ told_deep r p)))

-- nothing is told of what is not read
pub read_none : {A : Type 0} (ks : List ℕ) (k : Kind A) (s : Bytes) (b level : ℕ) {o : Option (Read A)} (ws : List ℕ) {ws' : List ℕ} {r : Found Seen} → o ≡ none → length ws' ≡ length ws → r ≡ None → ReadIn ks k s b level o ws ws' r
unfolding told seen
read_none ks k s b level ws n l e = record { is = e ∙ sym (rw n); stored = λ i o d c. unread e o; kept = l }

-- a step that answers so
pub answered : {A : Type 0} {ks : List ℕ} {k : Kind A} {s : Bytes} {b level : ℕ} {o o' : Option (Read A)} {ws : List ℕ} {ws' w : List ℕ} {r x : Found Seen} → ReadIn ks k s b level o ws w x → Answers r ws' x w → o' ≡ o → ReadIn ks k s b level o' ws ws' r
unfolding Answers
answered i a e = rw (a.0, a.1, e) i

-- ---- a comparison

module _ (ks : List ℕ) (s : Bytes) (b level : ℕ) (o : Op) (ws : List ℕ) (p : ℕ) (up : 1 ≤ level) where
  abbrev here : Found Comparison
  here = comparison_at ks s p

  compared_kept : length (compared_stored (op_number o) b here ws) ≡ length ws
  unfolding compared_stored
  compared_kept = go here
    where
      go : (x : Found Comparison) → length (compared_stored (op_number o) b x ws) ≡ length ws
      go None = refl
      go (Some c) = length_put ws b (compared_node (op_number o) b c)

  compared_unread : here ≡ None → ReadIn ks (one ks) s b level (read_test o (drop p s)) ws (compared_stored (op_number o) b here ws) (compared_seen b here)
  unfolding compared_seen
  compared_unread e = read_none ks (one ks) s b level ws (comparison_none ks s p (sym e) o) compared_kept (rw e)

  module _ (a : Ref) (c : Operand) where
    abbrev t : Test
    t = record { op = o; left = a; right = c }

    made : (n : ℕ) → n ≤ length s → compared_one b (comparison_of ks (record { op = eq; left = a; right = c }) n) ≡ told_read ks (one ks) s b level (record { what = test t; left = drop n s })
    unfolding told_read comparison_of compared_one compared_node seen_of nodes_of map_cond size tests some? test_node cond_depth test_over test_unknown left_code right_code test_value node_words left_at
    made n l =
        let e : length s - length (drop n s) ≡ n = omega (arith, length-drop n s) in
        rw (le-leb 1 level up, e, mask_one (left_code ks t) (left_small ks t), mask_one (right_code ks t) (right_small ks t), or-false (test_over t), or-false (test_unknown ks t))

    put_made : (n : ℕ) → compared_stored (op_number o) b (Some (comparison_of ks (record { op = eq; left = a; right = c }) n)) ws ≡ store (nodes_of ks (test t)) b ws
    unfolding comparison_of compared_stored compared_node nodes_of map_cond store test_node N.compared left_code right_code test_value
    put_made n = refl

  compared_read : (x : Comparison) → here ≡ Some x → ReadIn ks (one ks) s b level (read_test o (drop p s)) ws (compared_stored (op_number o) b here ws) (compared_seen b here)
  unfolding put_read compared_seen told seen
  compared_read x e =
      comparison_some ks s p (sym e) (λ a c u v r d j l. record {
        is = ap (compared_seen b) e ∙ ap Some (ap (compared_one b) d ∙ made a c x.next l) ∙ sym (ap (told ks (one ks) s b level) (r o));
        stored = λ i y z w. ap (λ w. compared_stored (op_number o) b w ws) (e ∙ ap Some d) ∙ put_made a c x.next ∙ sym (ap (λ w. put_read (one ks) b w ws) (r o));
        kept = compared_kept;
      })

  pub compared_all : ReadIn ks (one ks) s b level (read_test o (drop p s)) ws (compared_stored (op_number o) b here ws) (compared_seen b here)
  compared_all = go here refl
    where
      go : (x : Found Comparison) → here ≡ x → ReadIn ks (one ks) s b level (read_test o (drop p s)) ws (compared_stored (op_number o) b here ws) (compared_seen b here)
      go None e = compared_unread e
      go (Some x) e = compared_read x e

-- ---- a closing bracket

module _ (s : Bytes) where
  closed_bad : (i : Seen) → (get_or s i.next 0 ≡ 41 → ⊥) → closed_seen s i ≡ None
  unfolding closed_seen
  closed_bad i n = rw (ne_eqb (get_or s i.next 0) 41 n)

  closed_near : (ks : List ℕ) (ts : List Test) (q n : ℕ) → get_or s q 0 ≡ 41 → closed_seen s (seen_of ks ts q n) ≡ Some (seen_of ks ts (q + 1) (counted (n + 1)))
  unfolding closed_seen seen_of
  closed_near ks ts q n z = rw z

  closed_far : (q : ℕ) → get_or s q 0 ≡ 41 → closed_seen s (deep_seen q) ≡ Some (deep_seen (q + 1))
  unfolding closed_seen deep_seen
  closed_far q z = rw z

  closed_put : (ks : List ℕ) (ts : List Test) (h b q n : ℕ) (ws : List ℕ) → get_or s q 0 ≡ 41 → closed_stored h b s (seen_of ks ts q n) ws ≡ put_node ws n (inner_node h b)
  unfolding closed_stored seen_of
  closed_put ks ts h b q n ws z = rw z

  closed_kept : (h b : ℕ) (i : Seen) (ws : List ℕ) → length (closed_stored h b s i ws) ≡ length ws
  unfolding closed_stored
  closed_kept h b i ws = go (eqb (get_or s i.next 0) 41 && not i.deep)
    where
      go : (x : Bool) → length (cond x (put_node ws i.count (inner_node h b)) ws) ≡ length ws
      go true = length_put ws i.count (inner_node h b)
      go false = refl

count_on : (b w : ℕ) → counted (counted (b + w) + 1) ≡ counted (b + suc w)
unfolding counted
count_on b w = omega arith

count_inner : (m : ℕ) → counted (counted m + 1) ≤ 255 → (counted m ≡ m) × (counted m ≤ 255)
unfolding counted
count_inner m h = (omega arith, omega arith)

-- conditions inside brackets: how many words, which comparisons and how deep they are, by what is inside
pub record Around {A : Type 0} (ks : List ℕ) (k : Kind A) (f : A → Cond Test) (h : ℕ) : Type 0 where
  pub words : (a : A) → size (nodes_of ks (f a)) ≡ suc (k.words a)
  pub inner : (a : A) → tests (f a) ≡ k.tests a
  pub depth : (a : A) → cond_depth (f a) ≡ suc (k.depth a)
  pub put : (a : A) (b : ℕ) (ws : List ℕ) → store (nodes_of ks (f a)) b ws ≡ put_node (k.put a b ws) (b + k.words a) (inner_node h b)

module _ {A : Type 0} (ks : List ℕ) (k : Kind A) (s : Bytes) (b level : ℕ) (f : A → Cond Test) (h : ℕ) (around : Around ks k f h) where
  unfoldable pub closing : Option (Read A) → Option (Read (Cond Test))
  closing o = bind o (λ r. bind (byte 41 r.left) (λ u. some (record { what = f r.what; left = u.left })))

  -- what is inside was read up to a place q
  module _ (r : Read A) (q : ℕ) (e : q ≡ length s - length r.left) (d : drop q s ≡ r.left) where
    unclosed : (get_or s q 0 ≡ 41 → ⊥) → closing (some r) ≡ none
    unfolding closing bind
    unclosed n = rw (sym (ap (byte 41) d) ∙ byte_not s q refl 41 n)

    closed_at : get_or s q 0 ≡ 41 → closing (some r) ≡ some (record { what = f r.what; left = drop (q + 1) s })
    unfolding closing bind
    closed_at z = rw (sym (ap (byte 41) d) ∙ byte_is s q refl 41 z (omega arith))

    module _ (z : get_or s q 0 ≡ 41) where
      whole : Read (Cond Test)
      whole = record { what = f r.what; left = drop (q + 1) s }

      whole_next : length s - length (drop (q + 1) s) ≡ q + 1
      whole_next = let l = inside s q (omega arith) in omega (arith, length-drop (q + 1) s)

      whole_near : leb (k.depth r.what) level ≡ true → Some (seen_of ks (k.tests r.what) (q + 1) (counted (counted (b + k.words r.what) + 1))) ≡ told ks (one ks) s b (suc level) (closing (some r))
      unfolding told told_read seen left_at
      whole_near t =
          rw (closed_at z, around.depth r.what, leb-suc-suc (k.depth r.what) level, t, around.inner r.what, whole_next, around.words r.what, count_on b (k.words r.what))

      whole_deep : leb (k.depth r.what) level ≡ false → Some (deep_seen (q + 1)) ≡ told ks (one ks) s b (suc level) (closing (some r))
      unfolding told told_read seen left_at
      whole_deep t = rw (closed_at z, around.depth r.what, leb-suc-suc (k.depth r.what) level, t, whole_next)

  module _ (r : Read A) (d : drop (length s - length r.left) s ≡ r.left) {i : Seen} (ws : List ℕ) {ws₁ : List ℕ} (j : ReadIn ks k s b level (some r) ws ws₁ (Some i)) where
    abbrev q : ℕ
    q = length s - length r.left

    abbrev n : ℕ
    n = counted (b + k.words r.what)

    abbrev Closes : Type 0
    Closes = ReadIn ks (one ks) s b (suc level) (closing (some r)) ws (closed_stored h b s i ws₁) (closed_seen s i)

    i_is : i ≡ told_read ks k s b level r
    i_is = told_is ks k s b level r j.is

    close_near : get_or s q 0 ≡ 41 → leb (k.depth r.what) level ≡ true → Closes
    unfolding put_read seen_of
    close_near z p =
        let g : i ≡ seen_of ks (k.tests r.what) q n = i_is ∙ told_near ks k s b level r p in
        let g' : closed_seen s i ≡ Some (seen_of ks (k.tests r.what) (q + 1) (counted (n + 1))) = ap (closed_seen s) g ∙ closed_near s ks (k.tests r.what) q n z in
        record {
          is = g' ∙ whole_near r q refl d z p;
          stored = λ x o u v.
              let c : x.count ≡ counted (n + 1) = ap (λ x. x.count) (same_Some x (seen_of ks (k.tests r.what) (q + 1) (counted (n + 1))) (sym o ∙ g')) in
              let m = count_inner (b + k.words r.what) (omega arith) in
              let l : i.count ≡ n = ap (λ x. x.count) g in
              let w : ws₁ ≡ k.put r.what b ws = j.stored i refl (ap (λ x. x.deep) g) (omega (arith, m.1)) in
              ap (λ x. closed_stored h b s x ws₁) g ∙ closed_put s ks (k.tests r.what) h b q n ws₁ z ∙ ap₂ (λ x y. put_node x y (inner_node h b)) w m.0 ∙ sym (around.put r.what b ws)
              ∙ sym (ap (λ x. put_read (one ks) b x ws) (closed_at r q refl d z));
          kept = closed_kept s h b i ws₁ ∙ j.kept;
        }

    close_deep : get_or s q 0 ≡ 41 → leb (k.depth r.what) level ≡ false → Closes
    unfolding deep_seen
    close_deep z p =
        let g' : closed_seen s i ≡ Some (deep_seen (q + 1)) = ap (closed_seen s) (i_is ∙ told_deep ks k s b level r p) ∙ closed_far s q z in
        record {
          is = g' ∙ whole_deep r q refl d z p;
          stored = λ x o u v. never (sym (ap (λ x. x.deep) (same_Some x (deep_seen (q + 1)) (sym o ∙ g'))) ∙ u);
          kept = closed_kept s h b i ws₁ ∙ j.kept;
        }

    close_read : Closes
    close_read =
        by_test (eqb (get_or s q 0) 41)
        (λ t. let z = eqb-true (get_or s q 0) 41 t in by_test (leb (k.depth r.what) level) (close_near z) (close_deep z))
        (λ t.
        let n = eqb-false (get_or s q 0) 41 t in
        let e : i.next ≡ q = ap (λ x. x.next) i_is ∙ told_next ks k s b level r in
        read_none ks (one ks) s b (suc level) ws (unclosed r q refl d n) (closed_kept s h b i ws₁ ∙ j.kept) (closed_bad s i (λ w. n (sym (ap (λ x. get_or s x 0) e) ∙ w))))

  module _ (o : Option (Read A)) (ws : List ℕ) {ws₁ : List ℕ} where
    pub close_none : ReadIn ks k s b level o ws ws₁ None → {x : Found Seen} → x ≡ None → ReadIn ks (one ks) s b (suc level) (closing o) ws ws₁ x
    unfolding closing bind
    close_none j e = read_none ks (one ks) s b (suc level) ws (rw (told_none ks k s b level o j.is)) j.kept e

    pub close_some : ((r : Read A) → o ≡ some r → drop (length s - length r.left) s ≡ r.left) → {i : Seen} → ReadIn ks k s b level o ws ws₁ (Some i)
        → ReadIn ks (one ks) s b (suc level) (closing o) ws (closed_stored h b s i ws₁) (closed_seen s i)
    close_some d {i} j = told_some ks k s b level o j.is (λ r e p q. rw (sym e) at (close_read r (d r e) ws (rw e at j)))
