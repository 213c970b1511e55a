-- The ends of the reader of a condition: by the brackets that may be opened, and by its head.
use mathlib.Core.Path.{◌≡◌, refl, sym, ap, ◌∙◌}
use mathlib.Core.List.{List}
use mathlib.Core.Bool.{false}
use mathlib.Core.Option.{Option, none, some}
use Prim.Native.Nat.{ℕ, suc, ◌+◌, ◌-◌, ◌≤◌, ◌<◌}
use native.Mathlib.Omega.{arith}
use lib.ListN.{length, drop, get_or}
use mir.Syntax.{w64}
use mir.Val.{Fits}
use borrow.Author.Tests.{lt-leb}
use Rattle.std.specs.Prelude.{option_map}
use Rattle.std.proofs.lemmas.Option.{same_Some}
use Rattle.lists.proofs.Laws.{never}
use Rattle.syntax.specs.Grammar.{Bytes, Test, Cond, all, any, neg, Conds}
use Rattle.syntax.specs.Limits.{cond_depth}
use Rattle.syntax.specs.Readers as R
use Rattle.syntax.specs.Readers.{Read, bind, ◌>>◌, ◌>>=◌, give, read_headed, compare, and, or, not_of}
use Rattle.model.specs.Conditions.{tests, map_cond}
use Rattle.text.specs.Words.{Found, Some, None, seen, left_at, read_end}
use Rattle.text.specs.Keywords.{head_number}
use Rattle.text.specs.Readings.{any_cond, any_conds}
use Rattle.text.proofs.Places.{byte_inside, space_is, space_not}
use Rattle.text.proofs.Views.{left_drop}
use Rattle.text.proofs.Fuel.{any_cond_leaves, any_conds_leaves}
use Rattle.terms.specs.Terms.{comparison_at}
use Rattle.nodes.specs.Storing.{size, store}
use Rattle.nodes.proofs.Depths.{depth_some}
use Rattle.conditions.specs.declared.Seen.{Seen}
use Rattle.conditions.specs.declared.Headed.{Headed}
use Rattle.conditions.specs.Seeing.{head_at, nodes_of, deep_seen}
use Rattle.conditions.specs.Steps.{Answers, compared_seen, compared_stored, closed_seen, closed_stored, Kind, one, many, told_read, told, ReadIn, CondIn, CondsIn, skipped_seen}
use Rattle.conditions.proofs.Heads.{op_small, unheaded, headed}
use Rattle.conditions.proofs.Closing.{unread, told_few, read_none, answered, compared_all, Around, closing, close_none, close_some}

-- ---- brackets around conditions

around_all : (ks : List ℕ) → Around ks (many ks) all 7
unfolding nodes_of map_cond size tests cond_depth store
around_all ks = record { words = λ a. refl; inner = λ a. refl; depth = λ a. refl; put = λ a b ws. refl }

around_any : (ks : List ℕ) → Around ks (many ks) any 8
unfolding nodes_of map_cond size tests cond_depth store
around_any ks = record { words = λ a. refl; inner = λ a. refl; depth = λ a. refl; put = λ a b ws. refl }

around_not : (ks : List ℕ) → Around ks (one ks) neg 9
unfolding nodes_of map_cond size tests cond_depth store
around_not ks = record { words = λ a. refl; inner = λ a. refl; depth = λ a. refl; put = λ a b ws. refl }

-- counts are at most 256
pub in_few : {A : Type 0} {ks : List ℕ} {k : Kind A} {s : Bytes} {b level : ℕ} {o : Option (Read A)} {ws ws' : List ℕ} {i : Seen} → ReadIn ks k s b level o ws ws' (Some i) → i.count ≤ 256
in_few {ks} {k} {s} {b} {level} {o} j = told_few ks k s b level o j.is

-- after a space there is a place
pub space_next : (s : Bytes) (p : ℕ) {x : ℕ} → x ≡ get_or s p 0 → x ≡ 32 → length s ≤ 512 → Fits w64 (p + 1)
space_next s p e z l = let i = byte_inside s p e z (omega arith) in record { fits = omega arith }

-- ---- where no bracket may be opened

-- no words are told of it
pub skipped_silent : (s : Bytes) (at : ℕ) {X : Type 0} {i : Seen} → skipped_seen s at ≡ Some i → i.deep ≡ false → X
unfolding skipped_seen deep_seen
skipped_silent s at {X} {i} e d = go (read_end s (any_cond (drop at s))) e
  where
    go : (o : Found ℕ) → option_map deep_seen o ≡ Some i → X
    go None e = unread refl e
    go (Some p) e = never (ap (λ x. x.deep) (same_Some (deep_seen p) i e) ∙ d)

module _ (ks : List ℕ) (s : Bytes) (b level at : ℕ) (ws : List ℕ) where
  skipped_is : level ≡ 0 → (o : Option (Read (Cond Test))) → any_cond (drop at s) ≡ o → skipped_seen s at ≡ told ks (one ks) s b level o
  unfolding skipped_seen read_end left_at seen told told_read
  skipped_is z none e = rw e
  skipped_is z (some r) e = rw (e, lt-leb (cond_depth r.what) level (omega (arith, depth_some r.what)))

  pub cond_skipped : {r : Found Seen} → level ≡ 0 → r ≡ skipped_seen s at → CondIn ks s b level at ws ws r
  cond_skipped z e = record { is = e ∙ skipped_is z (any_cond (drop at s)) refl; stored = λ i o d c. skipped_silent s at (sym e ∙ o) d; kept = refl }

  -- ---- by its head

  module _ (up : level ≡ 0 → ⊥) where
    pub cond_unheaded : {r : Found Seen} → None ≡ head_at s at → r ≡ None → CondIn ks s b level at ws ws r
    cond_unheaded e q = read_none ks (one ks) s b level ws (unheaded s at e) refl q

    module _ {h : Headed} (e : Some h ≡ head_at s at) where
      pub cond_compared : (ws' : List ℕ) (r : Found Seen) → h.head < 7 → Answers r ws' (compared_seen b (comparison_at ks s h.next)) (compared_stored h.head b (comparison_at ks s h.next) ws) → CondIn ks s b level at ws ws' r
      unfolding head_number read_headed
      cond_compared ws' r l d = headed s at e (λ g k y i j. go g k y)
        where
          go : (g : R.Head) → head_number g ≡ h.head → any_cond (drop at s) ≡ read_headed any_cond any_conds g (drop h.next s) → CondIn ks s b level at ws ws' r
          go (compare o) k y = answered (rw (← k) (compared_all ks s b level o ws h.next (omega arith))) d y
          go and k y = absurd (omega arith)
          go or k y = absurd (omega arith)
          go not_of k y = absurd (omega arith)

      deeper : level ≡ suc (level - 1)
      deeper = omega arith

      -- `and` and `or`, by the list inside
      within_list : 7 ≤ h.head → h.head < 9 → {X : Type 0} → ((f : Conds Test → Cond Test) (a : Around ks (many ks) f h.head) → any_cond (drop at s) ≡ closing ks (many ks) s b (level - 1) f h.head a (any_conds (drop h.next s)) → X) → X
      unfolding head_number read_headed ◌>>◌ ◌>>=◌ give closing
      within_list l m {X} c = headed s at e (λ g k y i j. go g k y)
        where
          go : (g : R.Head) → head_number g ≡ h.head → any_cond (drop at s) ≡ read_headed any_cond any_conds g (drop h.next s) → X
          go (compare o) k y = let p = op_small o in absurd (omega arith)
          go and k y = c all (rw (← k) (around_all ks)) y
          go or k y = c any (rw (← k) (around_any ks)) y
          go not_of k y = absurd (omega arith)

      pub cond_list : (ws₁ ws₂ : List ℕ) (i : Seen) (r : Found Seen) → 7 ≤ h.head → h.head < 9 → CondsIn ks s b (level - 1) h.next ws ws₁ (Some i) → Answers r ws₂ (closed_seen s i) (closed_stored h.head b s i ws₁) → CondIn ks s b level at ws ws₂ r
      cond_list ws₁ ws₂ i r l m c d =
          within_list l m (λ f a y. rw deeper (answered (close_some ks (many ks) s b (level - 1) f h.head a (any_conds (drop h.next s)) ws (λ r y. left_drop any_conds_leaves s h.next r y) c) d y))

      pub cond_listless : (ws₁ : List ℕ) {r : Found Seen} → 7 ≤ h.head → h.head < 9 → CondsIn ks s b (level - 1) h.next ws ws₁ None → r ≡ None → CondIn ks s b level at ws ws₁ r
      cond_listless ws₁ l m c q =
          within_list l m (λ f a y. rw (deeper, y) (close_none ks (many ks) s b (level - 1) f h.head a (any_conds (drop h.next s)) ws c q))

      -- `not`, by the condition inside
      module _ (l : 9 ≤ h.head) {x : ℕ} (f : x ≡ get_or s h.next 0) where
        negated : {X : Type 0} → (any_cond (drop at s) ≡ read_headed any_cond any_conds not_of (drop h.next s) → X) → X
        unfolding head_number
        negated {X} c = headed s at e (λ g k y i j. go g k y)
          where
            go : (g : R.Head) → head_number g ≡ h.head → any_cond (drop at s) ≡ read_headed any_cond any_conds g (drop h.next s) → X
            go (compare o) k y = let p = op_small o in absurd (omega arith)
            go and k y = absurd (omega arith)
            go or k y = absurd (omega arith)
            go not_of k y = c y

        pub cond_not_none : (x ≡ 32 → ⊥) → CondIn ks s b level at ws ws None
        unfolding read_headed ◌>>◌ bind
        cond_not_none z = negated (λ y. read_none ks (one ks) s b level ws (y ∙ rw (space_not s h.next f z)) refl refl)

        within_not : x ≡ 32 → any_cond (drop at s) ≡ closing ks (one ks) s b (level - 1) neg 9 (around_not ks) (any_cond (drop (h.next + 1) s))
        unfolding read_headed ◌>>◌ ◌>>=◌ give bind closing
        within_not z = negated (λ y. y ∙ rw (space_is s h.next f z))

        pub cond_not : (ws₁ ws₂ : List ℕ) (i : Seen) (r : Found Seen) → x ≡ 32 → CondIn ks s b (level - 1) (h.next + 1) ws ws₁ (Some i) → Answers r ws₂ (closed_seen s i) (closed_stored 9 b s i ws₁) → CondIn ks s b level at ws ws₂ r
        cond_not ws₁ ws₂ i r z c d =
            rw deeper (answered (close_some ks (one ks) s b (level - 1) neg 9 (around_not ks) (any_cond (drop (h.next + 1) s)) ws (λ r y. left_drop any_cond_leaves s (h.next + 1) r y) c) d (within_not z))

        pub cond_notless : (ws₁ : List ℕ) {r : Found Seen} → x ≡ 32 → CondIn ks s b (level - 1) (h.next + 1) ws ws₁ None → r ≡ None → CondIn ks s b level at ws ws₁ r
        cond_notless ws₁ z c q = rw (deeper, within_not z) (close_none ks (one ks) s b (level - 1) neg 9 (around_not ks) (any_cond (drop (h.next + 1) s)) ws c q)

pub ruleset cond_ends = (cond_skipped, cond_unheaded, cond_compared, cond_list, cond_listless, cond_not_none, cond_not, cond_notless)
