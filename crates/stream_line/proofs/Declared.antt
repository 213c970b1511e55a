-- The stream call: each return, and what an accepted line leaves.
use mathlib.Core.Path.{◌≡◌, refl, sym, ap, ap₂, ◌∙◌, subst}
use mathlib.Core.List.{List, [], ◌∷◌, ◌++◌, map}
use mathlib.Core.Bool.{Bool, true, false, ◌&&◌, ◌||◌, not}
use mathlib.Core.Option.{none, some, some-injective}
use Prim.Native.Nat.{ℕ, ◌<◌}
use native.Mathlib.Omega.{arith}
use lib.Dec.{T, leb, ltb, ltb→lt}
use lib.ListN.{length}
use borrow.Author.Tests.{le-ltb}
use Rattle.std.specs.Prelude.{Ok, Err}
use Rattle.refusal.specs.Results.{Said, result_of, settled}
use Rattle.refusal.specs.Checks.{first, passes, table}
use Rattle.refusal.specs.declared.Refusal.{Refusal}
use Rattle.refusal.proofs.Results.{result_none, settled_old, settled_new}
use Rattle.refusal.proofs.Passing.{pass_first, pass_rest, pass_test, passes_first}
use Rattle.lists.specs.Lists.{distinct, same_list}
use Rattle.lists.proofs.Laws.{parts, T_true, not_or_l}
use Rattle.syntax.specs.Grammar as G
use Rattle.syntax.specs.Grammar.{Bytes, Stream}
use Rattle.syntax.specs.Limits.{max_line}
use Rattle.syntax.specs.Readers.{parse_as}
use Rattle.syntax.proofs.Lines.{parsed_printed}
use Rattle.calls.specs.Names.{stream_number}
use Rattle.calls.specs.Bounds.{stream_bounded}
use Rattle.calls.specs.Validity.{valid_stream}
use Rattle.calls.specs.Replies.{written}
use Rattle.calls.specs.Tables.{declared, stream_checks}
use Rattle.calls.proofs.Valid.{stream_fine}
use Rattle.calls.proofs.Written.{written_passes, written_short}
use Rattle.text.specs.Words.{code_of, name_of}
use Rattle.items.specs.Items.{first_of}
use Rattle.schema.specs.Schemas.{streams_in, schema_of, schema_sound, with_codes}
use Rattle.schema.proofs.Lookups.{length_schema}
use Rattle.schema.proofs.Adding.{schema_more, sound_more}
use Rattle.schema.proofs.Later.{Later, schema_later}
use Rattle.stream_line.specs.declared.StreamLine.{StreamLine}
use Rattle.stream_line.specs.Declaring.{stream_made, read_line, line_of, stream_line, declare_table, with_stream, Declares}
use Rattle.stream_line.proofs.Flags.{flags_of, flags, name_code, columns_codes, flags_said}

-- ---- a table that passes

module _ (ns : List ℕ) (bs : Bytes) (t : first (declare_table ns bs) ≡ none) where
  all_pass : T (passes (declare_table ns bs))
  all_pass = passes_first (declare_table ns bs) t

  lent_pass : T (schema_sound ns)
  unfolding declare_table
  lent_pass = pass_test _ (schema_sound ns) _ all_pass

  line_pass : T (passes (written 0 bs (parse_as G.stream bs) (stream_checks (schema_of ns))))
  unfolding declare_table
  line_pass = pass_rest _ _ _ all_pass

  short_pass : ltb max_line (length bs) ≡ false
  short_pass = le-ltb max_line (length bs) (written_short 0 bs (parse_as G.stream bs) (stream_checks (schema_of ns)) line_pass)

  -- the stream that the line declares, and the checks of it
  stream_pass : {X : Type 0} → ((s : Stream) → parse_as G.stream bs ≡ some s → T (passes (stream_checks (schema_of ns) s)) → X) → X
  stream_pass k = written_passes 0 bs (parse_as G.stream bs) (stream_checks (schema_of ns)) line_pass k

module _ (d : List Stream) (s : Stream) (t : T (passes (stream_checks d s))) where
  bound_pass : stream_bounded s ≡ true
  unfolding stream_checks
  bound_pass = let u = pass_test _ (stream_bounded s && ltb (length d) 4) _ t in T_true (stream_bounded s) (search parts)

  few_pass : length d < 4
  unfolding stream_checks
  few_pass = let u = pass_test _ (stream_bounded s && ltb (length d) 4) _ t in ltb→lt (length d) 4 (search parts)

  new_pass : T (not (declared d s.name))
  unfolding stream_checks
  new_pass = not_or_l (declared d s.name) (not (distinct same_list s.columns)) (pass_first _ (declared d s.name || not (distinct same_list s.columns)) _ (pass_rest _ _ _ t))

-- ---- each return

module _ (ns : List ℕ) (bs : Bytes) {l : StreamLine} {n i : ℕ} {x a b : Bool} (e : l ≡ stream_line bs) (c : n ≡ streams_in ns) (f : x ≡ schema_sound ns)
    (g : a ≡ (l.checks.bound || leb 4 n)) (h : i ≡ stream_number (schema_of ns) (name_of l.stream.name)) (k : b ≡ (ltb i n || l.checks.repeated))
    {v : Said} (m : v ≡ result_of (first (table (flags_of (not x) a b l)))) where
  flags_are : flags_of (not x) a b l ≡ flags ns (stream_line bs)
  flags_are =
      ap (λ y. flags_of (not y) a b l) f
      ∙ ap (λ y. flags_of (not (schema_sound ns)) y b l) (g ∙ ap (λ z. l.checks.bound || leb 4 z) c)
      ∙ ap (λ y. flags_of (not (schema_sound ns)) (l.checks.bound || leb 4 (streams_in ns)) y l) (k ∙ ap₂ (λ p q. ltb p q || l.checks.repeated) h c)
      ∙ ap (flags ns) e

  said_is : v ≡ result_of (first (declare_table ns bs))
  said_is = m ∙ ap (λ y. result_of (first (table y))) flags_are ∙ ap result_of (flags_said ns bs)

  pub declare_refused : {r : Refusal} → v ≡ Err r → Declares ns bs ns (Err r)
  unfolding settled
  declare_refused d = record { said = sym d ∙ said_is; left = refl }

  pub declare_accepted : {ms : List ℕ} → v ≡ Ok tt → ms ≡ with_codes ns l.stream.name l.stream.columns → Declares ns bs ms (Ok tt)
  unfolding settled with_stream stream_line line_of read_line
  declare_accepted d p =
      let t : first (declare_table ns bs) ≡ none = result_none (first (declare_table ns bs)) (sym said_is ∙ d) in
      stream_pass ns bs t
      (λ s z u.
      let w : l.stream ≡ stream_made s = ap (λ y. y.stream) e ∙ rw (short_pass ns bs t, z) in
      let y = bound_pass (schema_of ns) s u in
      let r = (parsed_printed G.stream bs s z).0 in
      record {
        said = sym d ∙ said_is;
        left = p ∙ ap (λ q. with_codes ns q.name q.columns) w ∙ ap₂ (with_codes ns) (name_code s r y) (columns_codes s r y) ∙ sym (ap (with_stream ns) z);
      })

-- ---- what an accepted line leaves

module _ (ns : List ℕ) (bs : Bytes) (ns' : List ℕ) (v : Said) (d : Declares ns bs ns' v) where
  -- a refusal leaves the names as they were
  pub refused_kept : (v ≡ Ok tt → ⊥) → ns' ≡ ns
  refused_kept f = d.left ∙ settled_old v ns _ f

  module _ (a : v ≡ Ok tt) where
    clear : first (declare_table ns bs) ≡ none
    clear = result_none (first (declare_table ns bs)) (sym d.said ∙ a)

    -- an accepted line is a stream's
    pub accepted_read : {X : Type 0} → ((s : Stream) → parse_as G.stream bs ≡ some s → X) → X
    accepted_read k = stream_pass ns bs clear (λ s e u. k s e)

    -- the names were such as may be lent
    pub accepted_lent : T (schema_sound ns)
    accepted_lent = lent_pass ns bs clear

    module _ (s : Stream) (e : parse_as G.stream bs ≡ some s) where
      checks_pass : T (passes (stream_checks (schema_of ns) s))
      checks_pass = stream_pass ns bs clear (λ r z u. subst (λ x. T (passes (stream_checks (schema_of ns) x))) (some-injective r s (sym z ∙ e)) u)

      few : streams_in ns < 4
      few = let l = length_schema ns in let w = few_pass (schema_of ns) s checks_pass in omega arith

      fine : T (valid_stream s)
      fine = stream_fine (schema_of ns) s (parsed_printed G.stream bs s e).0 checks_pass

      left_is : ns' ≡ with_codes ns (code_of s.name) (first_of 6 0 (map code_of s.columns))
      unfolding with_stream
      left_is = d.left ∙ settled_new v ns _ a ∙ ap (with_stream ns) e

      -- they then stand for the streams that there were and the line's
      pub accepted_schema : schema_of ns' ≡ schema_of ns ++ (s ∷ [])
      accepted_schema = ap schema_of left_is ∙ schema_more ns s accepted_lent few fine

      -- and may be lent again
      pub accepted_sound : T (schema_sound ns')
      accepted_sound = subst (λ ms. T (schema_sound ms)) (sym left_is) (sound_more ns s accepted_lent few fine (new_pass (schema_of ns) s checks_pass))

      -- older streams stay as they were
      pub accepted_later : Later ns ns'
      accepted_later = schema_later ns ns' s accepted_schema
