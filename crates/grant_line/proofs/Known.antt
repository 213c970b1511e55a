-- Checks 2 and 6 of a grant line by what is read of it, where nothing in it is above its bound.
use mathlib.Core.Path.{◌≡◌, refl, sym, ap, ap₂, ◌∙◌}
use mathlib.Core.List.{List, [], ◌∷◌, ◌++◌}
use mathlib.Core.Bool.{Bool, true, false, ◌&&◌, ◌||◌, not}
use mathlib.Core.Option.{some}
use Prim.Native.Nat.{ℕ, ◌+◌, ◌≤◌}
use native.Mathlib.Omega.{arith}
use lib.Dec.{T, eqb}
use lib.ListN.{length}
use Rattle.lists.specs.Lists.{every, some?, gather, distinct, same_list}
use Rattle.lists.proofs.Laws.{and_l, and_r, and_both, parts, true_T, T_true, not_not, every_both, every_all, all_every, all_gather, not_both}
use Rattle.lists.proofs.Gathers.{every_append_same}
use Rattle.syntax.specs.Grammar as G
use Rattle.syntax.specs.Grammar.{Bytes, Ref, Operand, Test, Show, GrantLine, name?, ref?, operand?, test?, cond?, some_all, show?, grant?, body?, verb_word, put_ref}
use Rattle.syntax.specs.Limits.{short, short_ref}
use Rattle.syntax.specs.Readers.{parse_as}
use Rattle.syntax.proofs.Exact.{ref_length, show_length, part_length, grant_length, body_length, line_length, put_items_length, put_ref_length, line_text_length}
use Rattle.syntax.proofs.Lines.{parsed_printed}
use Rattle.model.specs.Conditions.{tests}
use Rattle.calls.specs.Names.{operand_refs, cond_refs, show_refs}
use Rattle.calls.specs.Bounds.{cond_bounded, grant_bounded}
use Rattle.calls.specs.Tables.{declared, ref_declared, same_ref}
use Rattle.calls.proofs.Stored.{cond_tests}
use Rattle.schema.specs.Schemas.{schema_of, schema_sound}
use Rattle.terms.specs.Terms.{ref_code, operand_over, test_over, operand_code, left_code, right_code}
use Rattle.terms.proofs.Resolving.{fine, code_declared}
use Rattle.conditions.specs.Seeing.{test_unknown}
use Rattle.columns.specs.Columns.{streams_seen, columns_seen}
use Rattle.columns.proofs.Declared.{streams_unknown, places_once, columns_unknown, columns_fine}
use Rattle.columns.proofs.Repeats.{entries, entries_room, repeats_once}
use Rattle.columns.proofs.ColumnBits.{operand_fine}
use Rattle.grant_line.specs.Parts.{shown_all, shown_listed, show_of}
use Rattle.grant_line.proofs.Folds.{flip, some_good, gather_gather}
use Rattle.grant_line.proofs.Bounds.{streams, shows, grant_tests, test_bounded, conds_bounded}

-- ---- what a line within its bounds holds

-- a comparison that is well formed and within its bounds
unfoldable pub good_test : Test → Bool
good_test t = test? t && test_bounded t

module _ (g : GrantLine) (good : T (grant? g)) (bounded : T (grant_bounded g)) where
  pub role_good : T (name? g.role) × T (short g.role)
  unfolding grant? grant_bounded
  role_good = (search parts depth 9, search parts depth 9)

  pub of_names : T (every name? g.of)
  unfolding grant? some_all
  of_names = search parts depth 9

  of_short : T (every short g.of)
  unfolding grant_bounded
  of_short = search parts depth 9

  shown_good : T (show? g.show)
  unfolding grant?
  shown_good = search parts depth 9

  show_names : T (every ref? (show_refs g.show))
  unfolding show? show_refs every some_all
  show_names = go g.show shown_good
    where
      go : (x : Show) → T (show? x) → T (every ref? (show_refs x))
      go G.everything t = tt
      go (G.listed rs) t = search parts depth 9

  show_short : T (every short_ref (show_refs g.show))
  unfolding grant_bounded
  show_short = search parts depth 9

  when_good : T (every cond? g.when)
  unfolding grant?
  when_good = search parts depth 9

  when_bounded : T (every cond_bounded g.when)
  unfolding grant_bounded
  when_bounded = search parts depth 9

  pub tests_good : T (every good_test (grant_tests g))
  unfolding good_test
  tests_good =
      every_both test? test_bounded good_test (λ t a b. and_both (test? t) (test_bounded t) a b) (grant_tests g)
      (all_every test? (all_gather (λ c h. every_all test? (tests c) (cond_tests c h)) (every_all cond? g.when when_good)))
      (true_T (every test_bounded (grant_tests g)) (sym (conds_bounded g.when) ∙ T_true (every cond_bounded g.when) when_bounded))

-- ---- check 2

three : (a b c : Bool) → ((not a || not b) || not c) ≡ not (a && (b && c))
three true true c = refl
three true false c = refl
three false b c = refl

-- the columns that a comparison names are declared
unfoldable pub test_declared : List ℕ → Test → Bool
test_declared ns t = every (ref_declared (schema_of ns)) (t.left ∷ operand_refs t.right)

module _ (ns : List ℕ) (sound : T (schema_sound ns)) where
  pub ref_known : (r : Ref) → T (ref? r) → T (short_ref r) → eqb (ref_code ns r) 28 ≡ not (ref_declared (schema_of ns) r)
  ref_known r t u = flip (eqb (ref_code ns r) 28) (ref_declared (schema_of ns) r) (code_declared ns sound r t u)

  -- the parts of a good comparison
  sides : (t : Test) → T (good_test t) → T (ref? t.left) × T (short_ref t.left) × T (operand? t.right) × T (not (operand_over t.right))
  unfolding good_test test? test_bounded test_over
  sides t h = go (ref? t.left) (operand? t.right) (short_ref t.left) (operand_over t.right) h
    where
      go : (a b c d : Bool) → T ((a && b) && not (not c || d)) → T a × T c × T b × T (not d)
      go true true true false u = (tt, tt, tt, tt)
      go true true true true u = absurd u
      go true true false d u = absurd u
      go true false c d u = absurd u
      go false b c d u = absurd u

  pub test_known : (t : Test) → T (good_test t) → test_unknown ns t ≡ not (test_declared ns t)
  unfolding test_unknown test_declared left_code right_code every operand? operand_over operand_code operand_refs
  test_known t h = go t.right x.2 x.3
    where
      x : T (ref? t.left) × T (short_ref t.left) × T (operand? t.right) × T (not (operand_over t.right))
      x = sides t h

      one : (a b : Bool) → (not a || not b) ≡ not (a && (b && true))
      one true true = refl
      one true false = refl
      one false b = refl

      two : (a : Bool) → (not a || false) ≡ not (a && true)
      two true = refl
      two false = refl

      go : (o : Operand) → T (operand? o) → T (not (operand_over o))
          → (eqb (ref_code ns t.left) 28 || eqb (operand_code ns o) 28) ≡ not (ref_declared (schema_of ns) t.left && every (ref_declared (schema_of ns)) (operand_refs o))
      go (G.ref r) u v = ap₂ ◌||◌ (ref_known t.left x.0 x.1) (ref_known r u (not_not (short_ref r) v)) ∙ one (ref_declared (schema_of ns) t.left) (ref_declared (schema_of ns) r)
      go (G.number z) u v = ap₂ ◌||◌ (ref_known t.left x.0 x.1) refl ∙ two (ref_declared (schema_of ns) t.left)

  -- a good comparison whose columns are declared
  pub test_fine : (t : Test) → T (good_test t && test_declared ns t) → T (fine ns t.left) × T (operand_fine ns t.right)
  unfolding fine operand_fine test_declared every operand? operand_over operand_refs
  test_fine t h = (and_both (ref? t.left) _ x.0 (and_both (short_ref t.left) _ x.1 (and_l (ref_declared (schema_of ns) t.left) _ d)), go t.right x.2 x.3 (and_r (ref_declared (schema_of ns) t.left) _ d))
    where
      x : T (ref? t.left) × T (short_ref t.left) × T (operand? t.right) × T (not (operand_over t.right))
      x = sides t (and_l (good_test t) _ h)

      d : T (ref_declared (schema_of ns) t.left && every (ref_declared (schema_of ns)) (operand_refs t.right))
      d = and_r (good_test t) _ h

      go : (o : Operand) → T (operand? o) → T (not (operand_over o)) → T (every (ref_declared (schema_of ns)) (operand_refs o)) → T (operand_fine ns o)
      go (G.ref r) u v k = and_both (ref? r) _ u (and_both (short_ref r) _ (not_not (short_ref r) v) (and_l (ref_declared (schema_of ns) r) true k))
      go (G.number z) u v k = tt

  module _ (g : GrantLine) (good : T (grant? g)) (bounded : T (grant_bounded g)) where
    shows_unknown : (shows ns g).unknown ≡ not (every (ref_declared (schema_of ns)) (show_refs g.show))
    unfolding show_refs
    shows_unknown = go g.show (show_names g good bounded) (show_short g good bounded)
      where
        go : (x : Show) → T (every ref? (show_refs x)) → T (every short_ref (show_refs x)) → (show_of ns [] x 0).unknown ≡ not (every (ref_declared (schema_of ns)) (show_refs x))
        go G.everything t u = unfold show_of shown_all every in refl
        go (G.listed rs) t u = unfold show_of shown_listed columns_seen in columns_unknown ns sound rs t u

    tests_declared : every (ref_declared (schema_of ns)) (gather cond_refs g.when) ≡ every (test_declared ns) (grant_tests g)
    unfolding cond_refs test_declared
    tests_declared = gather_gather (ref_declared (schema_of ns)) tests (λ t. t.left ∷ operand_refs t.right) g.when

    -- the streams and the columns of the line are declared
    abbrev all_declared : Bool
    all_declared = every (declared (schema_of ns)) g.of && every (ref_declared (schema_of ns)) (show_refs g.show ++ gather cond_refs g.when)

    pub unknown_is : (((streams ns g).unknown || (shows ns g).unknown) || some? (test_unknown ns) (grant_tests g)) ≡ not all_declared
    unfolding streams_seen
    unknown_is =
        ap₂ ◌||◌ (ap₂ ◌||◌ (streams_unknown ns sound g.of (of_names g good bounded) (of_short g good bounded)) shows_unknown)
        (some_good (test_unknown ns) (test_declared ns) good_test test_known (grant_tests g) (tests_good g good bounded))
        ∙ three (every (declared (schema_of ns)) g.of) (every (ref_declared (schema_of ns)) (show_refs g.show)) (every (test_declared ns) (grant_tests g))
        ∙ ap (λ b. not (every (declared (schema_of ns)) g.of && b))
        (sym (every_append_same (ref_declared (schema_of ns)) (show_refs g.show) (gather cond_refs g.when) ∙ ap (λ b. every (ref_declared (schema_of ns)) (show_refs g.show) && b) tests_declared))

    module _ (known : T all_declared) where
      pub of_declared : T (every (declared (schema_of ns)) g.of)
      of_declared = and_l (every (declared (schema_of ns)) g.of) _ known

      both_declared : T (every (ref_declared (schema_of ns)) (show_refs g.show) && every (test_declared ns) (grant_tests g))
      both_declared =
          rw (every_append_same (ref_declared (schema_of ns)) (show_refs g.show) (gather cond_refs g.when), tests_declared) at (and_r (every (declared (schema_of ns)) g.of) _ known)

      pub shown_fine : T (every (fine ns) (show_refs g.show))
      shown_fine = columns_fine ns sound (show_refs g.show) (show_names g good bounded) (show_short g good bounded) (and_l (every (ref_declared (schema_of ns)) (show_refs g.show)) _ both_declared)

      pub tests_fine : T (every (λ t. good_test t && test_declared ns t) (grant_tests g))
      tests_fine =
          every_both good_test (test_declared ns) (λ t. good_test t && test_declared ns t) (λ t a b. and_both (good_test t) (test_declared ns t) a b) (grant_tests g)
          (tests_good g good bounded) (and_r (every (ref_declared (schema_of ns)) (show_refs g.show)) _ both_declared)

      -- ---- check 6

      shows_repeated : entries (show_refs g.show) ≤ 72 → (shows ns g).repeated ≡ not (distinct same_ref (show_refs g.show))
      unfolding show_refs
      shows_repeated h = go g.show shown_fine h
        where
          go : (x : Show) → T (every (fine ns) (show_refs x)) → entries (show_refs x) ≤ 72 → (show_of ns [] x 0).repeated ≡ not (distinct same_ref (show_refs x))
          go G.everything t h = unfold show_of shown_all distinct in refl
          go (G.listed rs) t h = unfold show_of shown_listed columns_seen in repeats_once ns sound rs t h

      pub repeated_is : entries (show_refs g.show) ≤ 72 → ((streams ns g).repeated || (shows ns g).repeated) ≡ not (distinct same_list g.of && distinct same_ref (show_refs g.show))
      unfolding streams_seen
      repeated_is h = ap₂ ◌||◌ (ap not (places_once ns sound g.of of_declared)) (shows_repeated h) ∙ not_both (distinct same_list g.of) (distinct same_ref (show_refs g.show))

-- a grant line has room for so many profile entries among the columns that it shows
pub few_entries : (bs : Bytes) (g : GrantLine) → parse_as G.grant bs ≡ some g → length bs ≤ 512 → entries (show_refs g.show) ≤ 72
unfolding body? grant? show? some_all show_refs show_length entries line_length verb_word body_length grant_length part_length
few_entries bs g e l =
    let p = parsed_printed G.grant bs g e in
    let n = ap length p.1 ∙ line_text_length G.grant g in
    go g.show (and_r (name? g.role && some_all name? g.of) (show? g.show) (and_l (name? g.role && some_all name? g.of && show? g.show) (every cond? g.when) p.0)) (omega arith)
  where
    go : (x : Show) → T (show? x) → show_length x + 20 ≤ 512 → entries (show_refs x) ≤ 72
    go G.everything t h = omega arith
    go (G.listed rs) t h =
        let a = entries_room rs [] (search parts) in
        let b = put_items_length put_ref ref_length put_ref_length rs [] in
        omega arith
