-- What the grant call leaves, by its promise alone: the grant that the line says, which may be lent again, and the catalogue of the definitions.
use mathlib.Core.Path.{◌≡◌, refl, sym, ap, ◌∙◌, subst}
use mathlib.Core.List.{List, [], ◌∷◌, ◌++◌, map}
use mathlib.Core.Bool.{true, false, ◌&&◌, not, cond}
use mathlib.Core.Option.{none, some, some-injective}
use Prim.Native.Nat.{ℕ, ◌+◌, ◌*◌, ◌≤◌, ◌<◌}
use native.Mathlib.Omega.{arith}
use lib.Dec.{T, leb, ltb, leb→le, le→leb, ltb→lt}
use lib.ListN.{length, get_or, replicate, length-replicate, length-map}
use lib.Seq.{paste}
use Rattle.std.specs.Prelude.{Result, Ok, Err}
use Rattle.refusal.specs.Results.{result_of, giving, said_by, held_after, settled}
use Rattle.refusal.specs.Checks.{Check, first, passes, Ordered, checks_compute}
use Rattle.refusal.specs.declared.Refused.{Refused}
use Rattle.refusal.specs.declared.Refusal.TheVariants.{Lent}
use Rattle.refusal.proofs.Verdicts.{stops}
use Rattle.refusal.proofs.Results.{not_ok, result_none, result_some, held_giving, settled_old}
use Rattle.refusal.proofs.Passing.{pass_rest, pass_test, passes_first, first_skip}
use Rattle.lists.specs.Lists.{every, empty?, gather}
use Rattle.lists.proofs.Laws.{and_l, and_r, and_both, parts, true_T, T_true, every_map, every_both}
use Rattle.lists.proofs.Gathers.{every_of_map}
use Rattle.syntax.specs.Grammar as G
use Rattle.syntax.specs.Grammar.{Bytes, Cond, body?, cond?, grant?, right_number}
use Rattle.syntax.specs.Limits.{shallow, cond_depth, natural}
use Rattle.syntax.specs.Readers.{parse_as}
use Rattle.syntax.proofs.Lines.{parsed_printed}
use Rattle.syntax.proofs.Depths.{grant_shallow}
use Rattle.syntax.proofs.Aggregates.{right_back}
use Rattle.model.specs.Conditions.{map_cond}
use Rattle.model.specs.Queries as M
use Rattle.model.specs.Checks.{within, cond_cols, grantable, in_order, grant_placed}
use Rattle.calls.specs.Names.{stream_number, column_of, compare_of, shown_columns, map_option, cond_refs, show_refs, resolve_grant}
use Rattle.text.specs.Words.{name_of}
use Rattle.items.specs.Items.{code_short}
use Rattle.calls.specs.Bounds.{is_limit, is_span, grant_bounded}
use Rattle.calls.specs.Validity.{valid_cond, valid_grant, valid_schema, valid_catalogue}
use Rattle.calls.specs.Replies.{written}
use Rattle.calls.specs.Tables.{declared, ref_declared, show_placed, grant_checks}
use Rattle.calls.specs.Calls as D
use Rattle.calls.specs.Calls.{with_grant, next_catalogue}
use Rattle.calls.proofs.Accepted as A
use Rattle.calls.proofs.Stored.{grant_stored}
use Rattle.calls.proofs.Written.{written_passes, written_short, written_shallow}
use Rattle.calls.proofs.Order.{written_ordered}
use Rattle.schema.specs.Schemas.{streams_in, schema_of, schema_sound}
use Rattle.schema.proofs.Valid as S
use Rattle.masks.specs.Masks.{bit?, mask_of, inside}
use Rattle.masks.proofs.Lists.{inside_every}
use Rattle.terms.specs.Terms.{left_code}
use Rattle.terms.proofs.Resolving.{fine}
use Rattle.columns.specs.Columns.{streams_seen}
use Rattle.nodes.specs.Nodes.{conditions_of, column_in, nodes_sound}
use Rattle.nodes.specs.Storing.{store_list}
use Rattle.nodes.proofs.Sizes.{length_store_list}
use Rattle.nodes.proofs.Reaching.{Same, list_same, nodes_same}
use Rattle.nodes.proofs.Stored.{stored_list, stored_sound}
use Rattle.nodes.proofs.Depths.{map_depth}
use Rattle.conditions.specs.Seeing.{test_node, nodes_of, seen_of}
use Rattle.conditions.proofs.Capacity.{grant_room}
use Rattle.conditions.proofs.Storable.{nodes_fit}
use Rattle.grant.specs.declared.Grant.{Grant}
use Rattle.grant.specs.Grants.{places_of, streams_of, grant_of, streams_mask, grant_sound, laid_out, grant_tidy}
use Rattle.grant.specs.Catalogues.{words_in, catalogue_of, catalogue_sound}
use Rattle.grant.proofs.Masked.{within_theirs}
use Rattle.grant.proofs.Compared.{cond_fit}
use Rattle.grant.proofs.Laid.{nodes_are}
use Rattle.grant.proofs.Valid.{valid_sound}
use Rattle.grant.proofs.Catalogues.{catalogue_length, catalogue_valid, catalogue_add, catalogue_sound_add}
use Rattle.grant_line.specs.Parts.{holder_seen, limit_seen}
use Rattle.grant_line.specs.Lines.{grant_read, line_read, no_grant, read_line, stored_of}
use Rattle.grant_line.specs.Granting.{lent_sound, grant_table, grant_made, words_made, with_words, grants_after, Grants}
use Rattle.grant_line.proofs.Bounds.{holder, streams, shows, first_time, last_time, span, grant_tests, grant_size, flat_enough, seen_flat}
use Rattle.grant_line.proofs.Parts.{right_low}
use Rattle.grant_line.proofs.Known.{good_test, test_declared, role_good, shown_fine, tests_fine}
use Rattle.grant_line.proofs.Placing.{when_placed, numbers_below, places_are}
use Rattle.grant_line.proofs.Meaning.{role_back, limit_back, limit_tidy, window_back, shown_back, shown_inside, standing, conds_back, nodes_back}
use Rattle.grant_line.proofs.Copies.{copied_length, copied_word, copied_other, copied_full, copied_place}

-- the checks stand in the order of the refusals
pub table_ordered : (ns : List ℕ) (gs : List M.Grant) (ws : List ℕ) (bs : Bytes) → Ordered (grant_table ns gs ws bs)
unfolding grant_table grant_checks checks_compute
table_ordered ns gs ws bs = written_ordered 0 bs (parse_as G.grant bs) _ (λ g. tt)

-- ---- a table that passes

module _ (ns : List ℕ) (gs : List M.Grant) (ws : List ℕ) (bs : Bytes) (t : first (grant_table ns gs ws bs) ≡ none) where
  all_pass : T (passes (grant_table ns gs ws bs))
  all_pass = passes_first (grant_table ns gs ws bs) t

  lent_pass : T (lent_sound ns (length gs) (length ws))
  unfolding grant_table
  lent_pass = pass_test _ (lent_sound ns (length gs) (length ws)) _ all_pass

  line_pass : T (passes (written 0 bs (parse_as G.grant bs) (grant_checks (schema_of ns) gs)))
  unfolding grant_table
  line_pass = pass_rest _ _ _ all_pass

  grant_pass : {X : Type 0} → ((g : G.GrantLine) → parse_as G.grant bs ≡ some g → T (passes (grant_checks (schema_of ns) gs g)) → X) → X
  grant_pass k = written_passes 0 bs (parse_as G.grant bs) (grant_checks (schema_of ns) gs) line_pass k

-- ---- the call

module _ (ns : List ℕ) (count : ℕ) (bs : Bytes) (ws ws' : List ℕ) (r : Result Grant (Refused Grant)) (call : Grants ns count bs ws ws' r) where
  -- a refusal gives no grant, and leaves the words as they were
  pub refused_kept : (said_by r ≡ Ok tt → ⊥) → (ws' ≡ ws) × (held_after r ≡ no_grant)
  refused_kept n = (call.left ∙ settled_old _ _ _ n, ap held_after call.given ∙ held_giving _ _ _ ∙ settled_old _ _ _ n)

  kept : {f : Refused Grant} → r ≡ Err f → ws' ≡ ws
  unfolding said_by
  kept {f} e = (refused_kept (λ a. not_ok f.refusal (sym (ap said_by e) ∙ a))).0

  module _ {made : Grant} (a : r ≡ Ok made) where
    said_ok : said_by r ≡ Ok tt
    unfolding said_by
    said_ok = ap said_by a

    clear : (gs : List M.Grant) → length gs ≡ count → first (grant_table ns gs ws bs) ≡ none
    clear gs h = result_none (first (grant_table ns gs ws bs)) (sym (call.said gs h) ∙ said_ok)

    -- as many grants as were accepted before, whichever they are
    abbrev any : List M.Grant
    any = replicate count (grant_of ns no_grant [])

    many : length any ≡ count
    many = length-replicate count (grant_of ns no_grant [])

    lent : T (lent_sound ns count (length ws))
    lent = subst (λ n. T (lent_sound ns n (length ws))) many (lent_pass ns any ws bs (clear any many))

    pub accepted_lent : T (schema_sound ns)
    unfolding lent_sound
    accepted_lent = let t = lent in search parts

    memory : 2280 ≤ length ws
    unfolding lent_sound
    memory = let t = lent in leb→le 2280 (length ws) (search parts)

    short : length bs ≤ 512
    short = written_short 0 bs (parse_as G.grant bs) (grant_checks (schema_of ns) any) (line_pass ns any ws bs (clear any many))

    -- an accepted line is a grant's
    pub accepted_read : {X : Type 0} → ((g : G.GrantLine) → parse_as G.grant bs ≡ some g → X) → X
    accepted_read k = grant_pass ns any ws bs (clear any many) (λ g e u. k g e)

    module _ (g : G.GrantLine) (parsed : parse_as G.grant bs ≡ some g) where
      passed : T (passes (grant_checks (schema_of ns) any g))
      passed = grant_pass ns any ws bs (clear any many) (λ h e u. subst (λ x. T (passes (grant_checks (schema_of ns) any x))) (some-injective h g (sym e ∙ parsed)) u)

      ok : A.Granted (schema_of ns) any g
      ok = A.grant_accepted (schema_of ns) any g passed

      below : count < 24
      below = let h = ltb→lt (length any) 24 ok.room in let e = many in omega arith

      room : count * 95 + 95 ≤ length ws
      room = let h = below in let k = memory in omega arith

      good : T (grant? g)
      unfolding body?
      good = (parsed_printed G.grant bs g parsed).0

      fits : grant_size ns g ≤ 95
      fits = grant_room ns bs g parsed short

      flat : flat_enough g ≡ true
      flat = sym (grant_shallow bs g parsed) ∙ T_true (shallow 0 bs) (written_shallow 0 bs (parse_as G.grant bs) (grant_checks (schema_of ns) any) (line_pass ns any ws bs (clear any many)))

      struct_is : made ≡ (read_line ns g).grant
      unfolding giving held_after grant_made
      struct_is = ap held_after (sym a ∙ call.given ∙ ap (λ v. giving v (grant_made ns (parse_as G.grant bs)) no_grant) said_ok) ∙ ap (grant_made ns) parsed

      -- the words of its conditions
      abbrev stored : List ℕ
      stored = store_list (map (nodes_of ns) g.when) 0 (replicate 95 0)

      stored_length : length stored ≡ 95
      stored_length = length_store_list (map (nodes_of ns) g.when) 0 (replicate 95 0) ∙ length-replicate {A = ℕ} 95 0

      roomy : grant_size ns g ≤ length stored
      roomy = let e = stored_length in let h = fits in omega arith

      words_are : ws' ≡ paste ws (count * 95) stored (grant_size ns g)
      unfolding settled with_words words_made stored_of
      words_are = call.left ∙ ap (λ v. settled v ws (with_words ns count (parse_as G.grant bs) ws)) said_ok ∙ ap (λ o. with_words ns count o ws) parsed

      pub accepted_length : length ws' ≡ length ws
      accepted_length = ap length words_are ∙ copied_length ws count stored (grant_size ns g) fits room roomy

      -- every word past those of its conditions, and all words of other grants, are as they were
      pub accepted_words : (i : ℕ) → ((j : ℕ) → j < grant_size ns g → i ≡ count * 95 + j → ⊥) → get_or ws' i 0 ≡ get_or ws i 0
      accepted_words i f = ap (λ us. get_or us i 0) words_are ∙ copied_other ws count stored (grant_size ns g) fits room roomy i f

      pub accepted_others : (k : ℕ) → (k ≡ count → ⊥) → words_in ws' k ≡ words_in ws k
      accepted_others k f = ap (λ us. words_in us k) words_are ∙ copied_place ws count stored (grant_size ns g) fits room roomy k f

      -- ---- what it stands for

      known : T (every (declared (schema_of ns)) g.of && every (ref_declared (schema_of ns)) (show_refs g.show ++ gather cond_refs g.when))
      known = and_both (every (declared (schema_of ns)) g.of) _ ok.streams ok.refs

      abbrev numbers : List ℕ
      numbers = map (stream_number (schema_of ns)) g.of

      declared_numbers : T (every (λ s. ltb s (streams_in ns)) numbers)
      declared_numbers = numbers_below ns accepted_lent g.of ok.streams

      abbrev theirs : List M.Col
      theirs = gather (M.columns_of (schema_of ns)) numbers

      abbrev mask : ℕ
      mask = streams_mask ns numbers

      abbrev conds : List (Cond M.Compare)
      conds = map (map_cond (compare_of (schema_of ns))) g.when

      placed : T (not (empty? numbers) && leb (length numbers) 2 && within (shown_columns (schema_of ns) numbers g.show) theirs && every (λ c. grantable c && within (cond_cols c) theirs) conds && in_order (map_option natural g.from) (map_option natural g.to))
      unfolding grant_placed resolve_grant
      placed = ok.places

      few : length g.of ≤ 2
      few = let t = placed in let h = leb→le (length numbers) 2 (search parts) in let e = length-map g.of (stream_number (schema_of ns)) in omega arith

      conds_placed : T (every (λ c. grantable c && within (cond_cols c) theirs) conds)
      conds_placed = let t = placed in search parts

      limits : T (is_limit g.from) × T (is_limit g.to) × T (is_span g.window)
      unfolding grant_bounded
      limits = let t = ok.bounded in (search parts depth 9, search parts depth 9, search parts depth 9)

      fine_tests : T (every (λ t. good_test t && test_declared ns t) (grant_tests g))
      fine_tests = tests_fine ns accepted_lent g good ok.bounded known

      fine_shown : T (every (fine ns) (show_refs g.show))
      fine_shown = shown_fine ns accepted_lent g good ok.bounded known

      -- what stands on the left of a comparison is a column of its streams
      lefts_in : T (every (λ t. bit? mask (left_code ns t)) (grant_tests g))
      lefts_in =
          let t = subst T (when_placed ns accepted_lent numbers declared_numbers g.when fine_tests) conds_placed in
          let l = and_l (inside (mask_of (map (left_code ns) (grant_tests g))) mask) _ t in
          subst T (inside_every (map (left_code ns) (grant_tests g)) mask ∙ every_of_map (bit? mask) (left_code ns) (grant_tests g)) l

      tests_stand : T (every (standing ns accepted_lent numbers declared_numbers) (grant_tests g))
      tests_stand =
          every_both (λ t. good_test t && test_declared ns t) (λ t. bit? mask (left_code ns t)) (standing ns accepted_lent numbers declared_numbers)
          (λ t u v. and_both (good_test t && test_declared ns t) (bit? mask (left_code ns t)) u v) (grant_tests g) fine_tests lefts_in

      when_good : T (every cond? g.when)
      unfolding grant?
      when_good = let t = good in search parts

      -- the words of its place are those of its conditions
      same_words : Same (words_in ws' count) stored (grant_size ns g)
      same_words i h = ap (λ us. get_or (words_in us count) i 0) words_are ∙ copied_word ws count stored (grant_size ns g) fits room roomy i h

      conditions_are_said : conditions_of (words_in ws' count) (grant_size ns g) ≡ conds
      unfolding conditions_of
      conditions_are_said =
          list_same (words_in ws' count) stored (2 * grant_size ns g + 1) 0 (grant_size ns g) [] same_words
          ∙ stored_list (map (nodes_of ns) g.when) (replicate 95 0) (nodes_fit ns g.when when_good) (let h = fits in omega arith) (let h = fits in let e = length-replicate {A = ℕ} 95 0 in omega arith)
          ∙ conds_back ns accepted_lent numbers declared_numbers g.when tests_stand

      -- the struct that was read, with what is seen of its conditions
      abbrev columns : ℕ
      columns = streams_mask ns (places_of (streams ns g).count (streams ns g).places)

      read_is : made ≡ grant_read columns (holder g) (streams ns g) (shows ns g) (seen_of ns (grant_tests g) 0 (grant_size ns g)) (first_time g) (last_time g) (span g)
      unfolding read_line line_read
      read_is = struct_is ∙ ap (λ c. grant_read columns (holder g) (streams ns g) (shows ns g) c (first_time g) (last_time g) (span g)) (seen_flat ns g flat fits)

      streams_is : places_of (streams ns g).count (streams ns g).places ≡ numbers
      unfolding streams_seen
      streams_is = places_are ns accepted_lent g.of ok.streams few

      role_is : name_of (code_short g.role) ≡ g.role
      role_is = let h = role_good g good ok.bounded in role_back g.role h.0 h.1

      read_means : (us : List ℕ) → conditions_of us (grant_size ns g) ≡ conds
          → grant_of ns (grant_read columns (holder g) (streams ns g) (shows ns g) (seen_of ns (grant_tests g) 0 (grant_size ns g)) (first_time g) (last_time g) (span g)) us ≡ resolve_grant (schema_of ns) g
      unfolding grant_of grant_read streams_of holder_seen limit_seen seen_of resolve_grant
      read_means us e =
          rw (
            streams_is,
            role_is,
            right_back g.right,
            shown_back ns accepted_lent numbers declared_numbers g.show fine_shown,
            e,
            limit_back g.from limits.0,
            limit_back g.to limits.1,
            (window_back g.window limits.2).0,
            (window_back g.window limits.2).1,
          )

      -- the grant that the line says
      pub accepted_grant : grant_of ns made (words_in ws' count) ≡ resolve_grant (schema_of ns) g
      accepted_grant = ap (λ x. grant_of ns x (words_in ws' count)) read_is ∙ read_means (words_in ws' count) conditions_are_said

      -- ---- it may be lent

      grant_valid : T (valid_grant (schema_of ns) (resolve_grant (schema_of ns) g))
      grant_valid = grant_stored (schema_of ns) any g (S.sound_valid ns accepted_lent) good passed

      conds_valid : T (every valid_cond conds)
      unfolding valid_grant resolve_grant
      conds_valid = let t = grant_valid in search parts depth 9

      conds_fit : T (every (cond_fit mask) conds)
      conds_fit =
          every_both (λ c. grantable c && within (cond_cols c) theirs) valid_cond (cond_fit mask)
          (λ c u v. and_both (grantable c && valid_cond c) (every (column_in mask) (cond_cols c)) (and_both (grantable c) (valid_cond c) (and_l (grantable c) _ u) v)
          (subst T (sym (within_theirs ns numbers declared_numbers (cond_cols c))) (and_r (grantable c) _ u))) conds conds_placed conds_valid

      nodes_flat : T (every (λ c. leb (cond_depth c) 6) (map (nodes_of ns) g.when))
      unfolding nodes_of
      nodes_flat = every_map (λ c. leb (cond_depth c) 6) (λ c. leb (cond_depth c) 6) (nodes_of ns) (λ c t. rw (map_depth (test_node ns) c) t) g.when (true_T (flat_enough g) flat)

      stored_may : T (nodes_sound mask stored (grant_size ns g))
      stored_may =
          stored_sound (map (nodes_of ns) g.when) (replicate 95 0) (nodes_fit ns g.when when_good) (let h = fits in omega arith) (let h = fits in let e = length-replicate {A = ℕ} 95 0 in omega arith) mask
          (nodes_back ns accepted_lent numbers declared_numbers g.when tests_stand conds_fit) nodes_flat

      laid : T (laid_out (words_in ws' count) (grant_size ns g))
      laid =
          let t = subst T (sym (nodes_same (words_in ws' count) stored mask (grant_size ns g) same_words)) stored_may in
          and_l (laid_out (words_in ws' count) (grant_size ns g)) _ (subst T (nodes_are mask (words_in ws' count) (grant_size ns g)) t)

      place_full : length (words_in ws' count) ≡ 95
      place_full = ap (λ us. length (words_in us count)) words_are ∙ copied_full ws count stored (grant_size ns g) fits room roomy

      shown_theirs : T (within (map (column_of (schema_of ns)) (show_refs g.show)) theirs)
      unfolding show_placed
      shown_theirs = ok.shows

      ruleset wholes = (and_both)

      read_tidy : T (grant_tidy ns (grant_read columns (holder g) (streams ns g) (shows ns g) (seen_of ns (grant_tests g) 0 (grant_size ns g)) (first_time g) (last_time g) (span g)) (words_in ws' count))
      unfolding grant_tidy grant_read streams_of holder_seen limit_seen seen_of
      read_tidy =
          let a = le→leb (right_number g.right) 5 (right_low g.right) in
          let b = limit_tidy g.from limits.0 in
          let c = limit_tidy g.to limits.1 in
          let d : T (inside (cond (shows ns g).all columns (shows ns g).mask) (streams_mask ns (places_of (streams ns g).count (streams ns g).places))) = rw streams_is (shown_inside ns accepted_lent numbers declared_numbers g.show fine_shown shown_theirs) in
          let e = le→leb (grant_size ns g) 95 fits in
          let f = le→leb (grant_size ns g) (length (words_in ws' count)) (let h = fits in let k = place_full in omega arith) in
          let h = laid in
          search wholes depth 9

      pub accepted_sound : T (grant_sound ns made (words_in ws' count))
      accepted_sound =
          valid_sound ns made (words_in ws' count) (subst (λ x. T (grant_tidy ns x (words_in ws' count))) (sym read_is) read_tidy)
          (subst (λ x. T (valid_grant (schema_of ns) x)) (sym accepted_grant) grant_valid)

  -- ---- the catalogue

  module _ (gs : List Grant) (many : length gs ≡ count) (held : T (catalogue_sound ns gs ws)) where
    abbrev catalogue : List M.Grant
    catalogue = catalogue_of ns gs ws

    catalogue_many : length catalogue ≡ count
    catalogue_many = catalogue_length ns gs ws ∙ many

    module _ {made : Grant} (a : r ≡ Ok made) where
      same_places : (g : G.GrantLine) → parse_as G.grant bs ≡ some g → (j : ℕ) → j < length gs → words_in ws' j ≡ words_in ws j
      same_places g p j h = accepted_others a g p j (λ e. let m = many in omega arith)

      added : (g : G.GrantLine) → parse_as G.grant bs ≡ some g → catalogue_of ns (gs ++ (made ∷ [])) ws' ≡ catalogue ++ (resolve_grant (schema_of ns) g ∷ [])
      added g p =
          catalogue_add ns gs made ws ws' (same_places g p)
          ∙ ap (λ x. catalogue ++ (x ∷ [])) (ap (λ n. grant_of ns made (words_in ws' n)) many ∙ accepted_grant a g p)

      added_sound : T (catalogue_sound ns (gs ++ (made ∷ [])) ws')
      added_sound =
          accepted_read a (λ g p.
          let b = below a g p in
          let m = many in
          catalogue_sound_add ns gs made ws ws' (same_places g p) (accepted_length a g p) (omega arith) held (subst (λ n. T (grant_sound ns made (words_in ws' n))) (sym many) (accepted_sound a g p)))

    -- it may be lent again
    pub next_sound : T (catalogue_sound ns (grants_after r gs) ws')
    unfolding grants_after
    next_sound = go r refl
      where
        go : (x : Result Grant (Refused Grant)) → r ≡ x → T (catalogue_sound ns (grants_after x gs) ws')
        go (Ok made) e = added_sound e
        go (Err f) e = subst (λ us. T (catalogue_sound ns gs us)) (sym (kept e)) held

    -- ---- and is the next catalogue of the definitions

    module _ (sound : T (schema_sound ns)) where
      abbrev line_checks : List Check
      line_checks = written 0 bs (parse_as G.grant bs) (grant_checks (schema_of ns) catalogue)

      lent_now : T (lent_sound ns (length catalogue) (length ws))
      unfolding lent_sound catalogue_sound
      lent_now =
          rw (catalogue_length ns gs ws)
          (and_both (schema_sound ns && leb (length gs) 24) (leb 2280 (length ws)) (and_both (schema_sound ns) (leb (length gs) 24) sound (search parts)) (search parts))

      -- what is said is what the definitions' table says after 12
      pub here_said : said_by r ≡ result_of (first line_checks)
      unfolding grant_table
      here_said = call.said catalogue catalogue_many ∙ ap result_of (first_skip Lent (lent_sound ns (length catalogue) (length ws)) line_checks lent_now)

      there_said : first (D.grant_table (schema_of ns) catalogue bs) ≡ first line_checks
      unfolding D.grant_table
      there_said =
          first_skip Lent (valid_schema (schema_of ns)) _ (S.sound_valid ns sound) ∙ first_skip Lent (valid_catalogue (schema_of ns) catalogue) line_checks (catalogue_valid ns gs ws held)

      pub next_is : catalogue_of ns (grants_after r gs) ws' ≡ next_catalogue (schema_of ns) (catalogue_of ns gs ws) bs
      unfolding grants_after next_catalogue with_grant said_by
      next_is = go r refl
        where
          taken : T (passes (D.grant_table (schema_of ns) catalogue bs)) → (g : G.GrantLine) → parse_as G.grant bs ≡ some g → next_catalogue (schema_of ns) catalogue bs ≡ catalogue ++ (resolve_grant (schema_of ns) g ∷ [])
          taken t g p = rw (T_true (passes (D.grant_table (schema_of ns) catalogue bs)) t, p)

          go : (x : Result Grant (Refused Grant)) → r ≡ x → catalogue_of ns (grants_after x gs) ws' ≡ next_catalogue (schema_of ns) catalogue bs
          go (Ok made) e =
              let v = result_none (first line_checks) (sym here_said ∙ ap said_by e) in
              accepted_read e (λ g p. added e g p ∙ sym (taken (passes_first (D.grant_table (schema_of ns) catalogue bs) (there_said ∙ v)) g p))
          go (Err f) e =
              let v = result_some (first line_checks) f.refusal (sym here_said ∙ ap said_by e) in
              let k : passes (D.grant_table (schema_of ns) catalogue bs) ≡ false = stops (D.grant_table (schema_of ns) catalogue bs) f.refusal (there_said ∙ v) in
              ap (catalogue_of ns gs) (kept e) ∙ sym (rw k)
