-- The checks of a stream line by its names, and by their numbers as the code has them.
use mathlib.Core.Path.{◌≡◌, refl, sym, ap, ap₂, ◌∙◌}
use mathlib.Core.List.{List, ◌∷◌, map}
use mathlib.Core.Bool.{Bool, true, false, ◌&&◌, ◌||◌, not, cond, not-not}
use mathlib.Core.Option.{Option, none, some}
use Prim.Native.Nat.{ℕ, ◌≤◌, min}
use native.Mathlib.Omega.{arith}
use lib.Dec.{T, eqb, leb, ltb, leb→le}
use lib.ListN.{length, take, length-map}
use borrow.Author.Tests.{lt-ltb, lt-leb, le-leb, ltb-true, ltb-false, leb-true, leb-false}
use Rattle.refusal.specs.declared.Refusal.TheVariants.{Lent, Bound, Repeated, Misplaced}
use Rattle.refusal.specs.declared.Checks.{Checks}
use Rattle.refusal.specs.Checks.{refuse, first, table}
use Rattle.lists.specs.Lists.{All, all_nil, all_cons, every, some?, distinct, same_list}
use Rattle.lists.proofs.Laws.{parts, true_T, and_l, and_r, T_true, all_both, all_weaken, every_all, map_same, not_both}
use Rattle.syntax.specs.Grammar as G
use Rattle.syntax.specs.Grammar.{Bytes, Stream, name?, some_all, body?}
use Rattle.syntax.specs.Limits.{max_line, short, shallow}
use Rattle.syntax.specs.Readers.{parse_as}
use Rattle.syntax.proofs.Lines.{parsed_printed}
use Rattle.syntax.proofs.Depths.{flat, plain_shallow}
use Rattle.calls.specs.Names.{stream_number}
use Rattle.calls.specs.Bounds.{stream_bounded}
use Rattle.calls.specs.Validity.{valid_name, reserved, free_name}
use Rattle.calls.specs.Replies.{written}
use Rattle.calls.specs.Tables.{declared, stream_checks}
use Rattle.text.specs.Words.{code_of, name_of}
use Rattle.text.proofs.Codes.{name_back, code_below}
use Rattle.items.specs.Items.{code_short, first_of, once}
use Rattle.items.proofs.NameCodes.{Named, code_named, distinct_codes, first_taken}
use Rattle.schema.specs.Schemas.{code_end, streams_in, schema_of, code_free, schema_sound}
use Rattle.schema.proofs.Lookups.{length_schema, declared_below}
use Rattle.stream_line.specs.declared.StreamLine.{StreamLine}
use Rattle.stream_line.specs.Declaring.{unread_line, stream_made, read_line, line_of, stream_line, declare_table}

-- the checks of the call: 12, 3 and 6 by the names lent too, the others as the line shows them
abbrev pub flags_of : Bool → Bool → Bool → StreamLine → Checks
flags_of lent bound repeated l =
    record {
      lent = lent;
      long = l.checks.long;
      malformed = l.checks.malformed;
      bound = bound;
      undeclared = l.checks.undeclared;
      repeated = repeated;
      misplaced = l.checks.misplaced;
      window = l.checks.window;
      back = l.checks.back;
      full = l.checks.full;
      unrouted = l.checks.unrouted;
      many = l.checks.many;
      room = l.checks.room;
    }

abbrev pub flags : List ℕ → StreamLine → Checks
flags ns l = flags_of (not (schema_sound ns)) (l.checks.bound || leb 4 (streams_in ns)) (ltb (stream_number (schema_of ns) (name_of l.stream.name)) (streams_in ns) || l.checks.repeated) l

-- ---- names and their numbers

free_code : (w : Bytes) → Named w → code_free (code_of w) ≡ free_name w
unfolding code_free
free_code w g = rw (lt-ltb (code_of w) code_end (code_below w g.0 g.1), name_back w g.0 g.1)

free_codes : {cs : List Bytes} → All Named cs → every code_free (map code_of cs) ≡ every free_name cs
unfolding every
free_codes all_nil = refl
free_codes (all_cons {x} {xs} h hs) = ap₂ ◌&&◌ (free_code x h) (free_codes hs)

-- a name that is not too long is free where it is not reserved
free_unreserved : (w : Bytes) → Named w → free_name w ≡ not (reserved w)
unfolding free_name valid_name
free_unreserved w g = rw (T_true (name? w) g.0, T_true (short w) g.1)

both_not : (a b : Bool) → (not a && not b) ≡ not (a || b)
both_not true b = refl
both_not false b = refl

free_all : {cs : List Bytes} → All Named cs → every free_name cs ≡ not (some? reserved cs)
unfolding every some?
free_all all_nil = refl
free_all (all_cons {x} {xs} h hs) = ap₂ ◌&&◌ (free_unreserved x h) (free_all hs) ∙ both_not (reserved x) (some? reserved xs)

-- ---- the three checks of what a line says

pub few_columns : (n : ℕ) → leb 7 (min n 7) ≡ not (leb n 6)
few_columns n = go (leb n 6) refl
  where
    go : (t : Bool) → leb n 6 ≡ t → leb 7 (min n 7) ≡ not t
    go true e = let h = leb-true n 6 e in lt-leb 7 (min n 7) (omega arith)
    go false e = let h = leb-false n 6 e in le-leb 7 (min n 7) (omega arith)

few_streams : (n : ℕ) → leb 4 n ≡ not (ltb n 4)
few_streams n = go (ltb n 4) refl
  where
    go : (b : Bool) → ltb n 4 ≡ b → leb 4 n ≡ not b
    go true e = let h = ltb-true n 4 e in lt-leb 4 n h
    go false e = let h = ltb-false n 4 e in le-leb 4 n h

-- later checks matter only where the first holds off
three_same : {a d b e c f : Bool} → a ≡ d → (a ≡ false → b ≡ e) → (a ≡ false → c ≡ f)
    → cond a (some Bound) (cond b (some Repeated) (cond c (some Misplaced) none)) ≡ cond d (some Bound) (cond e (some Repeated) (cond f (some Misplaced) none))
three_same {a} {d} {b} {e} {c} {f} h i j = rw (sym h) (go a refl)
  where
    go : (t : Bool) → a ≡ t → cond t (some Bound) (cond b (some Repeated) (cond c (some Misplaced) none)) ≡ cond t (some Bound) (cond e (some Repeated) (cond f (some Misplaced) none))
    go true k = refl
    go false k = rw (i k, j k)

module _ (s : Stream) (good : T (body? G.stream s)) where
  name_good : T (name? s.name)
  unfolding body?
  name_good = search parts

  columns_good : T (every name? s.columns)
  unfolding body? some_all
  columns_good = search parts

  -- what the code reads of a line within its bounds
  module _ (h : stream_bounded s ≡ true) where
    within : T (every short (s.name ∷ s.columns) && leb (length s.columns) 6)
    unfolding stream_bounded
    within = true_T (stream_bounded s) h

    few : length s.columns ≤ 6
    few = leb→le (length s.columns) 6 (and_r (every short (s.name ∷ s.columns)) (leb (length s.columns) 6) within)

    shorts : T (every short (s.name ∷ s.columns))
    shorts = and_l (every short (s.name ∷ s.columns)) (leb (length s.columns) 6) within

    name_named : Named s.name
    unfolding every
    name_named = let t = shorts in (name_good, search parts)

    columns_named : All Named s.columns
    unfolding every
    columns_named = all_both (every_all name? s.columns columns_good) (every_all short s.columns (and_r (short s.name) (every short s.columns) shorts))

    pub name_code : (stream_made s).name ≡ code_of s.name
    unfolding stream_made
    name_code = code_named s.name name_named

    pub columns_codes : (stream_made s).columns ≡ first_of 6 0 (map code_of s.columns)
    unfolding stream_made
    columns_codes = ap (first_of 6 0) (map_same code_short code_of (all_weaken code_named columns_named))

    name_is : name_of (stream_made s).name ≡ s.name
    name_is = ap name_of name_code ∙ name_back s.name name_good name_named.1

    codes_are : take (stream_made s).count (stream_made s).columns ≡ map code_of s.columns
    unfolding stream_made
    codes_are =
        let l = length-map s.columns code_of in
        let k = few in
        ap₂ take (count_is) columns_codes ∙ first_taken 6 0 (map code_of s.columns) (omega arith)
      where
        count_is : (stream_made s).count ≡ length (map code_of s.columns)
        count_is = let l = length-map s.columns code_of in let k = few in omega arith

    once_same : once (stream_made s).columns (stream_made s).count ≡ distinct same_list s.columns
    unfolding once
    once_same = ap (distinct eqb) codes_are ∙ distinct_codes columns_named

    free_same : not (code_free (stream_made s).name && every code_free (take (stream_made s).count (stream_made s).columns)) ≡ some? reserved (s.name ∷ s.columns)
    unfolding some? every
    free_same =
        ap not (ap₂ ◌&&◌ (ap code_free name_code) (ap (every code_free) codes_are) ∙ free_codes (all_cons name_named columns_named) ∙ free_all (all_cons name_named columns_named))
        ∙ not-not (some? reserved (s.name ∷ s.columns))

    repeated_same : (ns : List ℕ) → ltb (stream_number (schema_of ns) (name_of (stream_made s).name)) (streams_in ns) ≡ declared (schema_of ns) s.name
    repeated_same ns = ap (λ w. ltb (stream_number (schema_of ns) w) (streams_in ns)) name_is ∙ sym (declared_below ns s.name)

  -- ---- the flags of a line that was read

  module _ (ns : List ℕ) where
    bound_same : (not (stream_bounded s) || leb 4 (streams_in ns)) ≡ not (stream_bounded s && ltb (length (schema_of ns)) 4)
    bound_same = ap (λ b. not (stream_bounded s) || b) (ap (leb 4) (sym (length_schema ns)) ∙ few_streams (length (schema_of ns))) ∙ not_both (stream_bounded s) (ltb (length (schema_of ns)) 4)

    bounded : (not (stream_bounded s) || leb 4 (streams_in ns)) ≡ false → stream_bounded s ≡ true
    bounded e = go (stream_bounded s) e
      where
        go : (b : Bool) → (not b || leb 4 (streams_in ns)) ≡ false → b ≡ true
        go true e = refl
        go false e = sym e

    said_same : first (stream_checks (schema_of ns) s)
        ≡ cond (not (stream_bounded s) || leb 4 (streams_in ns)) (some Bound)
        (cond (ltb (stream_number (schema_of ns) (name_of (stream_made s).name)) (streams_in ns) || not (once (stream_made s).columns (stream_made s).count)) (some Repeated)
        (cond (not (code_free (stream_made s).name && every code_free (take (stream_made s).count (stream_made s).columns))) (some Misplaced) none))
    unfolding stream_checks first refuse
    said_same =
        sym (three_same bound_same (λ e. ap₂ (λ a b. a || not b) (repeated_same (bounded e) ns) (once_same (bounded e))) (λ e. free_same (bounded e)))

-- ---- the flags of the call give what its table gives

module _ (ns : List ℕ) (bs : Bytes) where
  flags_long : ltb max_line (length bs) ≡ true → (o : Option Stream) → first (table (flags ns (unread_line true))) ≡ first (refuse Lent (not (schema_sound ns)) ∷ written 0 bs o (stream_checks (schema_of ns)))
  unfolding table unread_line first refuse written
  flags_long h none = rw h
  flags_long h (some s) = rw h

  flags_none : ltb max_line (length bs) ≡ false → first (table (flags ns (unread_line false))) ≡ first (refuse Lent (not (schema_sound ns)) ∷ written 0 bs none (stream_checks (schema_of ns)))
  unfolding table unread_line first refuse written
  flags_none h = rw h

  flags_some : ltb max_line (length bs) ≡ false → (s : Stream) → parse_as G.stream bs ≡ some s → first (table (flags ns (read_line s))) ≡ first (refuse Lent (not (schema_sound ns)) ∷ written 0 bs (some s) (stream_checks (schema_of ns)))
  unfolding table read_line first refuse written flat
  flags_some h s e =
      rw (h, T_true (shallow 0 bs) (plain_shallow G.stream bs s tt e), said_same s (parsed_printed G.stream bs s e).0 ns)

  pub flags_said : first (table (flags ns (stream_line bs))) ≡ first (declare_table ns bs)
  unfolding stream_line line_of declare_table
  flags_said = go (ltb max_line (length bs)) refl (parse_as G.stream bs) refl
    where
      go : (b : Bool) → ltb max_line (length bs) ≡ b → (o : Option Stream) → parse_as G.stream bs ≡ o
          → first (table (flags ns (cond b (unread_line true) (line_of o)))) ≡ first (refuse Lent (not (schema_sound ns)) ∷ written 0 bs o (stream_checks (schema_of ns)))
      go true h o e = flags_long h o
      go false h none e = flags_none h
      go false h (some s) e = flags_some h s e
