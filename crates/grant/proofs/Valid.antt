-- A grant may be lent where it is tidy and stands for a valid one.
use mathlib.Core.Path.{◌≡◌, refl, sym, ap, ◌∙◌, subst}
use mathlib.Core.List.{List, [], ◌∷◌}
use mathlib.Core.Bool.{Bool, true, false, ◌&&◌, ◌||◌, not, cond}
use mathlib.Core.Option.{none, some}
use Prim.Native.Nat.{ℕ, ◌<◌, min}
use native.Mathlib.Omega.{arith}
use lib.Dec.{T, eqb, leb, ltb, leb→le, eqb→eq, le→leb, not_T}
use lib.ListN.{length, get_or}
use Rattle.lists.specs.Lists.{every, empty?, select, gather, distinct}
use Rattle.lists.proofs.Laws.{and_l, and_r, and_both, or_l, or_r, or_cases, parts, T_true, every_weaken, every_both, same_truth}
use Rattle.lists.proofs.Counting.{map_length}
use Rattle.syntax.specs.Grammar.{Fn, read, figures, Cond, numbered_right}
use Rattle.syntax.specs.Limits.{top}
use Rattle.model.specs.Queries.{Col, columns_of, Compare}
use Rattle.model.specs.Checks.{within, cond_cols, grantable, in_order, grant_placed}
use Rattle.model.proofs.Columns.{within_select}
use Rattle.calls.specs.Validity.{valid_name, valid_cond, valid_limit, valid_window, valid_grant}
use Rattle.text.specs.Words.{name_of}
use Rattle.schema.specs.Schemas.{schema_of}
use Rattle.schema.proofs.Lookups.{length_schema}
use Rattle.masks.specs.Masks.{inside}
use Rattle.nodes.specs.Nodes.{conditions_of, column_in, nodes_sound}
use Rattle.grant.specs.declared.Grant.{Grant}
use Rattle.grant.specs.Grants.{no_time, places_of, streams_of, limit_of, grant_of, streams_mask, streams_sound, limit_sound, limits_sound, window_sound, shown_sound, when_sound, grant_sound, laid_out, grant_tidy}
use Rattle.grant.proofs.Laid.{nodes_are}
use Rattle.grant.proofs.Masked.{declared_stream, within_theirs, shows_some, shows_none}

-- `search wholes` puts a conjunction together
ruleset wholes = (and_both)

-- ---- its streams

streams_length : (g : Grant) → length (streams_of g) ≡ min g.count 4
unfolding streams_of places_of
streams_length g = map_length (λ i. get_or g.streams i 0) 0 (min g.count 4)

some_items : {A : Type 0} (xs : List A) → 0 < length xs → T (not (empty? xs))
unfolding empty?
some_items [] h = absurd (omega arith)
some_items (x ∷ xs) h = tt

items_some : {A : Type 0} (xs : List A) → T (not (empty? xs)) → 0 < length xs
unfolding empty?
items_some [] t = absurd t
items_some (x ∷ xs) t = omega arith

module _ (ns : List ℕ) (g : Grant) where
  declared_same : every (λ s. ltb s (length (schema_of ns))) (streams_of g) ≡ every (declared_stream ns) (streams_of g)
  declared_same = ap (λ n. every (λ s. ltb s n) (streams_of g)) (length_schema ns)

  module _ (t : T (streams_sound ns g)) where
    pub streams_below : T (every (declared_stream ns) (streams_of g))
    unfolding streams_sound
    streams_below = search parts

    streams_once : T (distinct eqb (streams_of g))
    unfolding streams_sound
    streams_once = search parts

    streams_some : T (not (empty? (streams_of g)))
    unfolding streams_sound
    streams_some =
        let l = leb→le 1 g.count (search parts) in
        let e = streams_length g in
        some_items (streams_of g) (omega arith)

    streams_few : T (leb (length (streams_of g)) 2)
    unfolding streams_sound
    streams_few =
        let l = leb→le g.count 2 (search parts) in
        let e = streams_length g in
        le→leb (length (streams_of g)) 2 (omega arith)

  streams_made : T (not (empty? (streams_of g))) → T (leb (length (streams_of g)) 2) → T (every (declared_stream ns) (streams_of g)) → T (distinct eqb (streams_of g)) → T (streams_sound ns g)
  unfolding streams_sound
  streams_made a b c d =
      let e = streams_length g in
      let l = items_some (streams_of g) a in
      let m = leb→le (length (streams_of g)) 2 b in
      let x = le→leb 1 g.count (omega arith) in
      let y = le→leb g.count 2 (omega arith) in
      search wholes

-- ---- its limits

limit_valid : (n : ℕ) → T (valid_limit (limit_of n))
unfolding limit_of valid_limit
limit_valid n = go (leb n top) refl
  where
    go : (b : Bool) → leb n top ≡ b → T (valid_limit (cond b (some n) none))
    go true e = rw e tt
    go false e = tt

limits_ordered : (g : Grant) → T (limits_sound g) → T (in_order (limit_of g.from) (limit_of g.to))
unfolding limits_sound limit_of in_order
limits_ordered g t = go (leb g.from top) refl (leb g.to top)
  where
    ordered : T (leb g.from top) → T (leb g.from g.to)
    ordered l =
        or_cases (leb g.from g.to) (eqb g.from no_time) (and_r (limit_sound g.from && limit_sound g.to) _ t) (λ h. h)
        (λ h. let e = eqb→eq g.from no_time h in let m = leb→le g.from top l in absurd (omega arith))

    go : (b : Bool) → leb g.from top ≡ b → (c : Bool) → T (in_order (cond b (some g.from) none) (cond c (some g.to) none))
    go true e true = ordered (rw e tt)
    go true e false = tt
    go false e c = tt

limits_made : (g : Grant) → T (limit_sound g.from) → T (limit_sound g.to) → T (in_order (limit_of g.from) (limit_of g.to)) → T (limits_sound g)
unfolding limits_sound limit_sound limit_of in_order
limits_made g a b o =
    and_both ((leb g.from top || eqb g.from no_time) && (leb g.to top || eqb g.to no_time)) (leb g.from g.to || eqb g.from no_time)
    (and_both (leb g.from top || eqb g.from no_time) (leb g.to top || eqb g.to no_time) a b)
    (or_cases (leb g.from top) (eqb g.from no_time) a
    (λ l. or_l (leb g.from g.to) _ (or_cases (leb g.to top) (eqb g.to no_time) b (λ m. both l m)
    (λ m. let e = eqb→eq g.to no_time m in let k = leb→le g.from top l in le→leb g.from g.to (omega arith))))
    (λ l. or_r (leb g.from g.to) _ l))
  where
    both : T (leb g.from top) → T (leb g.to top) → T (leb g.from g.to)
    both l m = rw (T_true (leb g.from top) l, T_true (leb g.to top) m) at o

-- ---- its window

window_same : (g : Grant) → window_sound g ≡ (leb g.right 5 && valid_window (numbered_right g.right) g.size g.offset)
unfolding window_sound numbered_right valid_window
window_same g = go (eqb g.right 0) _
  where
    go : (b : Bool) (f : Fn) → (leb g.right 5 && cond b (eqb g.size 0 && eqb g.offset 0) (leb g.size top && leb g.offset top)) ≡ (leb g.right 5 && valid_window (cond b read (figures f)) g.size g.offset)
    go true f = refl
    go false f = refl

-- ---- its conditions

abbrev mask : List ℕ → Grant → ℕ
mask ns g = streams_mask ns (streams_of g)

abbrev theirs : List ℕ → Grant → List Col
theirs ns g = gather (columns_of (schema_of ns)) (streams_of g)

abbrev shown : List ℕ → Grant → List Col
shown ns g = select (column_in g.shown) (theirs ns g)

abbrev conditions : Grant → List ℕ → List (Cond Compare)
conditions g ws = conditions_of ws g.words

-- what a grant asks of a condition, by its mask and by its streams
abbrev fit : List ℕ → Grant → Cond Compare → Bool
fit ns g c = grantable c && valid_cond c && every (column_in (mask ns g)) (cond_cols c)

abbrev placed : List ℕ → Grant → Cond Compare → Bool
placed ns g c = grantable c && within (cond_cols c) (theirs ns g)

module _ (ns : List ℕ) (g : Grant) (b : T (every (declared_stream ns) (streams_of g))) where
  fit_placed : (c : Cond Compare) → T (fit ns g c) → T (placed ns g c)
  fit_placed c u = and_both (grantable c) _ (search parts) (subst T (within_theirs ns (streams_of g) b (cond_cols c)) (and_r (grantable c && valid_cond c) _ u))

  fit_made : (c : Cond Compare) → T (placed ns g c) → T (valid_cond c) → T (fit ns g c)
  fit_made c u v =
      and_both (grantable c && valid_cond c) _ (and_both (grantable c) (valid_cond c) (search parts) v)
      (subst T (sym (within_theirs ns (streams_of g) b (cond_cols c))) (and_r (grantable c) _ u))

fit_valid : (ns : List ℕ) (g : Grant) (c : Cond Compare) → T (fit ns g c) → T (valid_cond c)
fit_valid ns g c u = search parts

-- ---- what may be lent is tidy and stands for a valid grant

module _ (ns : List ℕ) (g : Grant) (ws : List ℕ) where
  module _ (t : T (grant_sound ns g ws)) where
    told : T (valid_name (name_of g.role) && streams_sound ns g && shown_sound ns g && limits_sound g && window_sound g && when_sound ns g ws)
    unfolding grant_sound
    told = t

    pub told_streams : T (streams_sound ns g)
    told_streams = let u = told in search parts

    below : T (every (declared_stream ns) (streams_of g))
    below = streams_below ns g told_streams

    told_limits : T (limits_sound g)
    told_limits = let u = told in search parts

    told_shown : T (not (eqb g.shown 0) && inside g.shown (mask ns g))
    unfolding shown_sound
    told_shown = let u = told in search parts

    told_window : T (leb g.right 5 && valid_window (numbered_right g.right) g.size g.offset)
    told_window = let u = told in let w : T (window_sound g) = search parts in subst T (window_same g) w

    told_when : T (leb g.words 95 && leb g.words (length ws) && nodes_sound (mask ns g) ws g.words)
    unfolding when_sound
    told_when = let u = told in search parts

    told_nodes : T (laid_out ws g.words && every (fit ns g) (conditions g ws))
    told_nodes = subst T (nodes_are (mask ns g) ws g.words) (and_r (leb g.words 95 && leb g.words (length ws)) _ told_when)

    told_fit : T (every (fit ns g) (conditions g ws))
    told_fit = and_r (laid_out ws g.words) _ told_nodes

    shown_valid : T (not (empty? (shown ns g)))
    shown_valid =
        let u = told_shown in
        shows_some ns (streams_of g) below g.shown (search parts) (λ e. rw e at u)

    grant_in_place : T (grant_placed (schema_of ns) (grant_of ns g ws))
    unfolding grant_placed grant_of
    grant_in_place =
        let a = streams_some ns g told_streams in
        let b = streams_few ns g told_streams in
        let c = within_select (column_in g.shown) (theirs ns g) in
        let d = every_weaken (fit ns g) (placed ns g) (fit_placed ns g below) (conditions g ws) told_fit in
        let e = limits_ordered g told_limits in
        search wholes

    pub sound_valid : T (valid_grant (schema_of ns) (grant_of ns g ws))
    unfolding valid_grant grant_of
    sound_valid =
        let a : T (valid_name (name_of g.role)) = let u = told in search parts in
        let b = subst T (sym (declared_same ns g)) below in
        let c = streams_once ns g told_streams in
        let d = shown_valid in
        let e = grant_in_place in
        let f = every_weaken (fit ns g) valid_cond (fit_valid ns g) (conditions g ws) told_fit in
        let i = limit_valid g.from in
        let j = limit_valid g.to in
        let k = and_r (leb g.right 5) _ told_window in
        search wholes depth 9

    told_ends : T (limit_sound g.from && limit_sound g.to)
    unfolding limits_sound
    told_ends = and_l (limit_sound g.from && limit_sound g.to) (leb g.from g.to || eqb g.from no_time) told_limits

    pub sound_tidy : T (grant_tidy ns g ws)
    unfolding grant_tidy
    sound_tidy =
        let a = and_l (leb g.right 5) _ told_window in
        let b = and_l (leb g.words 95) _ (and_l (leb g.words 95 && leb g.words (length ws)) _ told_when) in
        let c = and_r (leb g.words 95) _ (and_l (leb g.words 95 && leb g.words (length ws)) _ told_when) in
        let d = and_l (laid_out ws g.words) _ told_nodes in
        let e = and_r (not (eqb g.shown 0)) _ told_shown in
        let f = and_l (limit_sound g.from) _ told_ends in
        let h = and_r (limit_sound g.from) _ told_ends in
        search wholes depth 9

  -- ---- and conversely

  module _ (tidy : T (grant_tidy ns g ws)) (valid : T (valid_grant (schema_of ns) (grant_of ns g ws))) where
    neat : T (leb g.right 5 && limit_sound g.from && limit_sound g.to && inside g.shown (mask ns g) && leb g.words 95 && leb g.words (length ws) && laid_out ws g.words)
    unfolding grant_tidy
    neat = tidy

    valid_parts : T (valid_name (name_of g.role) && every (λ s. ltb s (length (schema_of ns))) (streams_of g) && distinct eqb (streams_of g) && not (empty? (shown ns g)) && grant_placed (schema_of ns) (grant_of ns g ws) && every valid_cond (conditions g ws) && valid_limit (limit_of g.from) && valid_limit (limit_of g.to) && valid_window (numbered_right g.right) g.size g.offset)
    unfolding valid_grant grant_of
    valid_parts = valid

    placed_parts : T (not (empty? (streams_of g)) && leb (length (streams_of g)) 2 && within (shown ns g) (theirs ns g) && every (placed ns g) (conditions g ws) && in_order (limit_of g.from) (limit_of g.to))
    unfolding grant_placed grant_of
    placed_parts = let u = valid_parts in let v : T (grant_placed (schema_of ns) (grant_of ns g ws)) = search parts depth 9 in v

    made_below : T (every (declared_stream ns) (streams_of g))
    made_below = let u = valid_parts in let v : T (every (λ s. ltb s (length (schema_of ns))) (streams_of g)) = search parts depth 9 in subst T (declared_same ns g) v

    made_streams : T (streams_sound ns g)
    made_streams =
        let u = valid_parts in
        let v = placed_parts in
        streams_made ns g (search parts depth 9) (search parts depth 9) made_below (search parts depth 9)

    made_limits : T (limits_sound g)
    made_limits =
        let u = neat in
        let v = placed_parts in
        limits_made g (search parts depth 9) (search parts depth 9) (search parts depth 9)

    made_window : T (window_sound g)
    made_window =
        let u = neat in
        let v = valid_parts in
        subst T (sym (window_same g)) (and_both (leb g.right 5) _ (search parts depth 9) (search parts depth 9))

    made_shown : T (shown_sound ns g)
    unfolding shown_sound empty?
    made_shown =
        let u = neat in
        and_both (not (eqb g.shown 0)) (inside g.shown (mask ns g)) (not_T (eqb g.shown 0) (λ h. none_shown (eqb→eq g.shown 0 h))) (search parts depth 9)
      where
        some_shown : T (not (empty? (shown ns g)))
        some_shown = let v = valid_parts in search parts depth 9

        none_shown : g.shown ≡ 0 → ⊥
        none_shown e = let z : shown ns g ≡ [] = ap (λ m. select (column_in m) (theirs ns g)) e ∙ shows_none (theirs ns g) in rw z at some_shown

    made_fit : T (every (fit ns g) (conditions g ws))
    made_fit =
        let u = valid_parts in
        let v = placed_parts in
        every_both (placed ns g) valid_cond (fit ns g) (fit_made ns g made_below) (conditions g ws) (search parts depth 9) (search parts depth 9)

    made_when : T (when_sound ns g ws)
    unfolding when_sound
    made_when =
        let u = neat in
        and_both (leb g.words 95 && leb g.words (length ws)) _ (and_both (leb g.words 95) _ (search parts depth 9) (search parts depth 9))
        (subst T (sym (nodes_are (mask ns g) ws g.words)) (and_both (laid_out ws g.words) _ (search parts depth 9) made_fit))

    pub valid_sound : T (grant_sound ns g ws)
    unfolding grant_sound
    valid_sound =
        let a : T (valid_name (name_of g.role)) = let u = valid_parts in search parts depth 9 in
        let b = made_streams in
        let c = made_shown in
        let d = made_limits in
        let e = made_window in
        let f = made_when in
        search wholes depth 9

-- ---- the law

pub sound_is : (ns : List ℕ) (g : Grant) (ws : List ℕ) → grant_sound ns g ws ≡ (grant_tidy ns g ws && valid_grant (schema_of ns) (grant_of ns g ws))
sound_is ns g ws =
    same_truth (grant_sound ns g ws) (grant_tidy ns g ws && valid_grant (schema_of ns) (grant_of ns g ws))
    (λ t. and_both (grant_tidy ns g ws) (valid_grant (schema_of ns) (grant_of ns g ws)) (sound_tidy ns g ws t) (sound_valid ns g ws t))
    (λ t. valid_sound ns g ws (and_l (grant_tidy ns g ws) (valid_grant (schema_of ns) (grant_of ns g ws)) t) (and_r (grant_tidy ns g ws) (valid_grant (schema_of ns) (grant_of ns g ws)) t))
