-- The checks of a grant call by what is read of its line are those of its table.
use mathlib.Core.Path.{◌≡◌, refl, sym, ap, ap₂, ◌∙◌}
use mathlib.Core.List.{List, [], ◌∷◌, ◌++◌}
use mathlib.Core.Bool.{Bool, true, false, ◌&&◌, ◌||◌, not, cond}
use mathlib.Core.Option.{Option, none, some}
use Prim.Native.Nat.{ℕ, ◌≤◌}
use native.Mathlib.Omega.{arith}
use lib.Dec.{T, leb, ltb}
use lib.ListN.{length}
use borrow.Author.Tests.{ltb-false}
use Rattle.refusal.specs.declared.Refusal.{Refusal}
use Rattle.refusal.specs.declared.Refusal.TheVariants.{Bound, Undeclared, Repeated, Misplaced}
use Rattle.refusal.specs.declared.Checks.{Checks}
use Rattle.refusal.specs.Checks.{refuse, first, table}
use Rattle.lists.specs.Lists.{every, gather, distinct, same_list}
use Rattle.lists.proofs.Laws.{true_T, parts, or_first}
use Rattle.syntax.specs.Grammar as G
use Rattle.syntax.specs.Grammar.{Bytes, body?, grant?}
use Rattle.syntax.specs.Limits.{shallow}
use Rattle.syntax.specs.Readers.{parse_as}
use Rattle.syntax.proofs.Lines.{parsed_printed}
use Rattle.syntax.proofs.Depths.{grant_shallow}
use Rattle.model.specs.Queries as M
use Rattle.model.specs.Checks.{grant_placed}
use Rattle.calls.specs.Names.{cond_refs, show_refs, resolve_grant}
use Rattle.calls.specs.Bounds.{grant_bounded}
use Rattle.calls.specs.Replies.{written}
use Rattle.calls.specs.Tables.{declared, ref_declared, same_ref, window_allowed, show_placed, grant_checks}
use Rattle.schema.specs.Schemas.{schema_of, schema_sound}
use Rattle.conditions.specs.Seeing.{seen_of}
use Rattle.conditions.proofs.Capacity.{grant_room}
use Rattle.grant.specs.Grants.{places_of, streams_mask}
use Rattle.grant_line.specs.declared.GrantLine.{GrantLine}
use Rattle.grant_line.specs.Lines.{over_read, misplaced_read, line_read, unread_line, read_line, line_of, grant_line}
use Rattle.grant_line.specs.Granting.{lent_sound, grant_table}
use Rattle.grant_line.proofs.Bounds.{holder, streams, shows, seen, first_time, last_time, span, grant_tests, grant_size, flat_enough, seen_flat, over_is, full_is}
use Rattle.grant_line.proofs.Known.{unknown_is, repeated_is, few_entries}
use Rattle.grant_line.proofs.Placing.{misplaced_is}

-- the checks of the call: 12 and 3 by what is lent too, the others as the line shows them
abbrev pub flags_of : Bool → Bool → GrantLine → Checks
flags_of lent bound l =
    record {
      lent = lent;
      long = l.checks.long;
      malformed = l.checks.malformed;
      bound = bound;
      undeclared = l.checks.undeclared;
      repeated = l.checks.repeated;
      misplaced = l.checks.misplaced;
      window = l.checks.window;
      back = l.checks.back;
      full = l.checks.full;
      unrouted = l.checks.unrouted;
      many = l.checks.many;
      room = l.checks.room;
    }

abbrev pub flags : List ℕ → ℕ → ℕ → GrantLine → Checks
flags ns count room l = flags_of (not (lent_sound ns count room)) (l.checks.bound || leb 24 count) l

-- ---- four checks, one after another

four : Bool → Bool → Bool → Bool → Option Refusal
four a b c e = cond a (some Bound) (cond b (some Undeclared) (cond c (some Repeated) (cond e (some Misplaced) none)))

-- later checks matter only where the first holds off
four_same : (a b c e : Bool) {a' b' c' e' : Bool} → a ≡ a' → (a ≡ false → b ≡ b') → (a ≡ false → b ≡ false → c ≡ c') → (a ≡ false → b ≡ false → e ≡ e') → four a b c e ≡ four a' b' c' e'
unfolding four
four_same true b c e x y z w = rw (sym x)
four_same false true c e x y z w = rw (sym x, sym (y refl))
four_same false false c e x y z w = rw (sym x, sym (y refl), z refl refl, w refl refl)

both : {A : Type 0} (a b : Bool) (x y : A) → cond a x (cond b x y) ≡ cond (a || b) x y
both true b x y = refl
both false b x y = refl

-- ---- a line that was read

module _ (ns : List ℕ) (sound : T (schema_sound ns)) (bs : Bytes) (short : length bs ≤ 512) (g : G.GrantLine) (parsed : parse_as G.grant bs ≡ some g) (gs : List M.Grant) (count : ℕ) (many : length gs ≡ count) where
  good : T (grant? g)
  unfolding body?
  good = (parsed_printed G.grant bs g parsed).0

  fits : grant_size ns g ≤ 95
  fits = grant_room ns bs g parsed short

  abbrev over : Bool
  over = over_read (holder g) (streams ns g) (shows ns g) (seen ns g) (first_time g) (last_time g) (span g) || leb 24 count

  abbrev above : Bool
  above = not (shallow 0 bs) || not (grant_bounded g && ltb (length gs) 24)

  over_same : over ≡ above
  over_same =
      ap₂ ◌||◌ (over_is ns g fits) (full_is count ∙ ap (λ n. not (ltb n 24)) (sym many))
      ∙ go (flat_enough g) (grant_bounded g) (ltb (length gs) 24)
      ∙ ap (λ b. not b || not (grant_bounded g && ltb (length gs) 24)) (sym (grant_shallow bs g parsed))
    where
      go : (a b c : Bool) → ((not a || not b) || not c) ≡ (not a || not (b && c))
      go true true c = refl
      go true false c = refl
      go false b c = refl

  module _ (e : over ≡ false) where
    within : (not (flat_enough g) || not (grant_bounded g)) ≡ false
    within = sym (over_is ns g fits) ∙ or_first (over_read (holder g) (streams ns g) (shows ns g) (seen ns g) (first_time g) (last_time g) (span g)) (leb 24 count) e

    parts_of : (a b : Bool) → (not a || not b) ≡ false → (a ≡ true) × (b ≡ true)
    parts_of true true e = (refl, refl)
    parts_of true false e = (refl, sym e)
    parts_of false b e = (sym e, absurd (let k : ◌≡◌ {A = ℕ} 0 1 = cc in omega arith))

    pub flat : flat_enough g ≡ true
    flat = (parts_of (flat_enough g) (grant_bounded g) within).0

    pub bounded : T (grant_bounded g)
    bounded = true_T (grant_bounded g) (parts_of (flat_enough g) (grant_bounded g) within).1

    pub seen_as : seen ns g ≡ seen_of ns (grant_tests g) 0 (grant_size ns g)
    seen_as = seen_flat ns g flat fits

    abbrev all_declared : Bool
    all_declared = every (declared (schema_of ns)) g.of && every (ref_declared (schema_of ns)) (show_refs g.show ++ gather cond_refs g.when)

    unknown_same : (((streams ns g).unknown || (shows ns g).unknown) || (seen ns g).unknown) ≡ not all_declared
    unfolding seen_of
    unknown_same = ap (λ c. ((streams ns g).unknown || (shows ns g).unknown) || c.unknown) seen_as ∙ unknown_is ns sound g good bounded

    module _ (u : (((streams ns g).unknown || (shows ns g).unknown) || (seen ns g).unknown) ≡ false) where
      known : T all_declared
      known = go all_declared (sym unknown_same ∙ u)
        where
          go : (b : Bool) → not b ≡ false → T b
          go true e = tt
          go false e = absurd (let k : ◌≡◌ {A = ℕ} 0 1 = cc in omega arith)

      repeated_same : ((streams ns g).repeated || (shows ns g).repeated) ≡ not (distinct same_list g.of && distinct same_ref (show_refs g.show))
      repeated_same = repeated_is ns sound g good bounded known (few_entries bs g parsed short)

      misplaced_same : misplaced_read (streams_mask ns (places_of (streams ns g).count (streams ns g).places)) (holder g) (streams ns g) (shows ns g) (seen ns g) (first_time g) (last_time g) (span g)
          ≡ not (show_placed (schema_of ns) g && (grant_placed (schema_of ns) (resolve_grant (schema_of ns) g) && window_allowed g.right g.window))
      misplaced_same =
          ap (λ c. misplaced_read (streams_mask ns (places_of (streams ns g).count (streams ns g).places)) (holder g) (streams ns g) (shows ns g) c (first_time g) (last_time g) (span g)) seen_as
          ∙ misplaced_is ns sound g good bounded known (grant_size ns g)

  -- the checks of what was read, and those of what the line says
  read_said : cond over (some Bound) (first (refuse Undeclared (read_line ns g).checks.undeclared ∷ refuse Repeated (read_line ns g).checks.repeated ∷ refuse Misplaced (read_line ns g).checks.misplaced ∷ []))
      ≡ cond (not (shallow 0 bs)) (some Bound) (first (grant_checks (schema_of ns) gs g))
  unfolding first refuse grant_checks read_line line_read four
  read_said =
      four_same over (((streams ns g).unknown || (shows ns g).unknown) || (seen ns g).unknown) ((streams ns g).repeated || (shows ns g).repeated)
      (misplaced_read (streams_mask ns (places_of (streams ns g).count (streams ns g).places)) (holder g) (streams ns g) (shows ns g) (seen ns g) (first_time g) (last_time g) (span g))
      over_same unknown_same repeated_same misplaced_same
      ∙ sym (both (not (shallow 0 bs)) (not (grant_bounded g && ltb (length gs) 24)) (some Bound) _)

-- ---- the whole table

module _ (ns : List ℕ) (count : ℕ) (ws : List ℕ) (bs : Bytes) (gs : List M.Grant) (many : length gs ≡ count) where
  lent_parts : lent_sound ns count (length ws) ≡ true → T (schema_sound ns)
  unfolding lent_sound
  lent_parts e = let t = true_T (lent_sound ns count (length ws)) e in search parts

  long_said : ltb 512 (length bs) ≡ true → (o : Option G.GrantLine) → some Bound ≡ first (written 0 bs o (grant_checks (schema_of ns) gs))
  unfolding written first refuse
  long_said e none = rw e
  long_said e (some g) = rw e

  short_said : ltb 512 (length bs) ≡ false → lent_sound ns count (length ws) ≡ true → (o : Option G.GrantLine) → parse_as G.grant bs ≡ o → first (table (flags ns count (length ws) (line_of ns o))) ≡ first (written 0 bs o (grant_checks (schema_of ns) gs))
  unfolding written first refuse table line_of unread_line read_line line_read
  short_said e l none p = rw (e, l)
  short_said e l (some g) p = rw (e, l) (read_said ns (lent_parts l) bs (ltb-false 512 (length bs) e) g p gs count many)

  pub flags_said : first (table (flags ns count (length ws) (grant_line ns bs))) ≡ first (grant_table ns gs ws bs)
  unfolding grant_table grant_line table first refuse unread_line
  flags_said = go (lent_sound ns count (length ws)) (ltb 512 (length bs)) refl refl
    where
      go : (a b : Bool) → lent_sound ns count (length ws) ≡ a → ltb 512 (length bs) ≡ b → first (table (flags ns count (length ws) (grant_line ns bs))) ≡ first (grant_table ns gs ws bs)
      go false b l e = rw (many, l)
      go true true l e = rw (many, l, e) (long_said e (parse_as G.grant bs))
      go true false l e = rw (many, l, e) (rw l at (short_said e l (parse_as G.grant bs) refl))
