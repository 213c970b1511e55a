-- Each call, by its contract alone, is the definitions' step on the record that the state stands for, and leaves what may be lent.
use mathlib.Core.Path.{◌≡◌, refl, sym, ap, ◌∙◌, subst}
use mathlib.Core.List.{List, [], ◌∷◌}
use mathlib.Core.Bool.{Bool, not}
use mathlib.Core.Option.{some}
use Prim.Native.Nat.{ℕ, suc}
use lib.IntN.{ℤ}
use lib.Dec.{T, ltb, leb→le, nltb→le}
use lib.ListN.{length-set}
use Rattle.std.specs.Prelude.{Result, Ok}
use Rattle.refusal.specs.Results.{Said, result_of, giving, said_by, held_after, settled}
use Rattle.refusal.specs.Checks.{refuse, first, passes}
use Rattle.refusal.specs.declared.Refused.{Refused}
use Rattle.refusal.specs.declared.Refusal.TheVariants.{Lent}
use Rattle.refusal.proofs.Passing.{pass_first, pass_rest, pass_test, pass_put, first_skip}
use Rattle.refusal.proofs.Results.{Told, accepted, refused, told, said_giving, held_giving, settled_old, settled_new}
use Rattle.lists.proofs.Laws.{T_true}
use Rattle.syntax.specs.Grammar as G
use Rattle.syntax.specs.Grammar.{Bytes}
use Rattle.syntax.specs.Limits.{natural, is_time}
use Rattle.syntax.specs.Readers.{parse_as}
use Rattle.syntax.proofs.Lines.{parsed_printed}
use Rattle.calls.specs.Names.{stream_number}
use Rattle.calls.specs.Validity.{valid_record}
use Rattle.calls.specs.Tables.{clock_checks, row_checks, row_line_checks}
use Rattle.calls.specs.Calls as C
use Rattle.calls.specs.Calls.{Call, stream, clock, row, clear, clock_line, row_line, clear_line, call_checks, call_table, effect, next}
use Rattle.calls.proofs.Written.{written_passes}
use Rattle.calls.proofs.Valid.{time_top, valid_effect}
use Rattle.schema.specs.Schemas.{schema_of, schema_sound}
use Rattle.stream_line.specs.Declaring as D
use Rattle.stream_line.specs.Declaring.{declare_table, Declares}
use Rattle.ledger.specs.declared.Ledger.{Ledger}
use Rattle.ledger.specs.Records.{with_ledger, with_names, count_in, record_of, ledger_sound, memory_sound}
use Rattle.ledger.specs.Calls.{clock_table, clock_call, clear_table, clear_call, row_table, with_rows, with_row, RowCall}
use Rattle.ledger.proofs.Soundness.{sound_parts}
use Rattle.ledger.proofs.Told.{row_accepted}
use Rattle.ledger.proofs.Rows.{row_effect}
use Rattle.ledger.proofs.Kept.{clock_at, clock_effect, clock_sound, emptied, clear_effect, clear_sound, row_sound}
use Rattle.record_lines.specs.Calls.{clock_line_table, with_clock, clock_line_call, clear_line_table, clear_line_call, row_line_table, with_row_line, RowLineCall}
use Rattle.history.specs.States.{State, Promise, declared, clocked, rowed, cleared, clock_lined, row_lined, clear_lined, said_in, Sound}
use Rattle.history.proofs.Declared.{Held, stream_effect, stream_held}

pub record Step (c : Call) (s t : State) (v : Said) : Type 0 where
  -- what is said is what the definitions' table says
  pub said : v ≡ result_of (first (call_checks (record_of s) c))
  pub steps : record_of t ≡ next (record_of s) c
  pub sound : Sound t

-- ---- one law for all calls

-- A call whose first check is that what it is lent is sound, and whose other checks are the definitions': refused, it leaves the state; accepted, it leaves the definitions' effect.
made : (c : Call) (s t : State) (v : Said) (a : Bool) → Sound s → T a → v ≡ result_of (first (refuse Lent (not a) ∷ call_checks (record_of s) c))
    → ((v ≡ Ok tt → ⊥) → t ≡ s) → (v ≡ Ok tt → T (passes (call_checks (record_of s) c)) → (record_of t ≡ effect (record_of s) c) × Held t)
    → Step c s t v
unfolding next call_table
made c s t v a ok h e kept done = go (told v (call_checks (record_of s) c) said)
  where
    said : v ≡ result_of (first (call_checks (record_of s) c))
    said = e ∙ ap result_of (first_skip Lent a (call_checks (record_of s) c) h)

    valid : T (valid_record (record_of s))
    valid = ok.valid

    go : Told v (call_checks (record_of s) c) → Step c s t v
    go (accepted y p) =
        let (f, k) = done y p in
        let q = pass_put Lent (valid_record (record_of s)) (call_checks (record_of s) c) valid p in
        record {
          said = said;
          steps = f ∙ sym (rw (T_true (passes (call_table (record_of s) c)) q) refl);
          sound = record { counts = k.counts; valid = subst (λ x. T (valid_record x)) (sym f) (valid_effect (record_of s) c valid q); lent = k.lent };
        }
    go (refused y p) =
        let k = kept y in
        record { said = said; steps = ap record_of k ∙ sym (unfold passes refuse in rw (T_true (valid_record (record_of s)) valid, p) refl); sound = subst Sound (sym k) ok }

-- ---- calls on the ledger alone

ledger_made : (c : Call) (s : State) (new : Ledger) (r : Result Ledger (Refused Ledger)) → Sound s
    → r ≡ giving (result_of (first (refuse Lent (not (ledger_sound s.ledger)) ∷ call_checks (record_of s) c))) new s.ledger
    → (T (passes (call_checks (record_of s) c)) → (record_of (with_ledger s new) ≡ effect (record_of s) c) × Held (with_ledger s new))
    → Step c s (with_ledger s (held_after r)) (said_by r)
ledger_made c s new r ok e done =
    let v : Said = result_of (first (refuse Lent (not (ledger_sound s.ledger)) ∷ call_checks (record_of s) c)) in
    let said : said_by r ≡ v = ap said_by e ∙ said_giving v new s.ledger in
    let left : held_after r ≡ settled v s.ledger new = ap held_after e ∙ held_giving v new s.ledger in
    made c s (with_ledger s (held_after r)) (said_by r) (ledger_sound s.ledger) ok (sound_parts s ok.lent).bounds said
    (λ n. ap (with_ledger s) (left ∙ settled_old v s.ledger new (λ a. n (said ∙ a))))
    (λ a p. let q : with_ledger s new ≡ with_ledger s (held_after r) = ap (with_ledger s) (sym (left ∙ settled_new v s.ledger new (sym said ∙ a))) in
    subst (λ t. (record_of t ≡ effect (record_of s) c) × Held t) q (done p))

-- a later clock
clock_made : (s : State) (n : ℤ) → Sound s → T (passes (clock_checks s.ledger.clock n)) → Held (clock_at s (natural n))
unfolding clock_checks
clock_made s n ok p =
    let t = pass_test _ (is_time n) _ p in
    let l = nltb→le (natural n) s.ledger.clock (pass_first _ (ltb (natural n) s.ledger.clock) [] (pass_rest _ _ _ p)) in
    record { counts = ok.counts; lent = clock_sound s (natural n) (leb→le (natural n) 2147483647 (time_top n t)) l ok.lent }

clear_made : (s : State) → Sound s → Held (emptied s)
clear_made s ok = record { counts = refl; lent = clear_sound s ok.lent }

after_clock : (s : State) (n : ℤ) (r : Result Ledger (Refused Ledger)) → Sound s → r ≡ clock_call s.ledger n → Step (clock n) s (with_ledger s (held_after r)) (said_by r)
unfolding clock_call clock_table call_checks record_of
after_clock s n r ok e = ledger_made (clock n) s _ r ok e (λ p. (unfold effect in clock_effect s n, clock_made s n ok p))

after_clear : (s : State) (r : Result Ledger (Refused Ledger)) → Sound s → r ≡ clear_call s.ledger → Step clear s (with_ledger s (held_after r)) (said_by r)
unfolding clear_call clear_table call_checks record_of
after_clear s r ok e = ledger_made clear s _ r ok e (λ p. (unfold effect in clear_effect s, clear_made s ok))

after_clock_line : (s : State) (bs : Bytes) (r : Result Ledger (Refused Ledger)) → Sound s → r ≡ clock_line_call s.ledger bs → Step (clock_line bs) s (with_ledger s (held_after r)) (said_by r)
unfolding clock_line_call clock_line_table call_checks record_of
after_clock_line s bs r ok e =
    ledger_made (clock_line bs) s _ r ok e (λ p. written_passes 0 bs (parse_as G.clock bs) _ p (λ n f q. (unfold effect with_clock in rw f (clock_effect s n), unfold with_clock in rw f (clock_made s n ok q))))

after_clear_line : (s : State) (bs : Bytes) (r : Result Ledger (Refused Ledger)) → Sound s → r ≡ clear_line_call s.ledger bs → Step (clear_line bs) s (with_ledger s (held_after r)) (said_by r)
unfolding clear_line_call clear_line_table call_checks record_of
after_clear_line s bs r ok e = ledger_made (clear_line bs) s _ r ok e (λ p. (unfold effect in clear_effect s, clear_made s ok))

-- ---- rows

memory_made : (c : Call) (s t new : State) (v : Said) → Sound s → v ≡ result_of (first (refuse Lent (not (memory_sound s)) ∷ call_checks (record_of s) c))
    → t ≡ settled v s new → (T (passes (call_checks (record_of s) c)) → (record_of new ≡ effect (record_of s) c) × Held new) → Step c s t v
memory_made c s t new v ok said left done =
    made c s t v (memory_sound s) ok ok.lent said (λ n. left ∙ settled_old v s new n) (λ a p. subst (λ t. (record_of t ≡ effect (record_of s) c) × Held t) (sym (left ∙ settled_new v s new a)) (done p))

row_made : (s : State) (n : ℕ) (vs : List ℤ) → Sound s → T (passes (row_checks (record_of s) n vs)) → (record_of (with_row s n vs) ≡ C.with_row (record_of s) n vs) × Held (with_row s n vs)
unfolding with_row with_rows
row_made s n vs ok p =
    let (f, _) = row_accepted s n vs (unfold row_table in pass_put Lent (memory_sound s) (row_checks (record_of s) n vs) ok.lent p) in
    (row_effect s n vs ok.counts f, record { counts = length-set s.ledger.rows n (suc (count_in s.ledger n)) ∙ ok.counts; lent = row_sound s n vs ok.counts f })

after_row : (s t : State) (n : ℕ) (vs : List ℤ) (v : Said) → Sound s → RowCall s n vs t v → Step (row n vs) s t v
unfolding row_table call_checks
after_row s t n vs v ok d = memory_made (row n vs) s t (with_row s n vs) v ok d.said d.left (λ p. unfold effect in row_made s n vs ok p)

after_row_line : (s t : State) (bs : Bytes) (v : Said) → Sound s → RowLineCall s bs t v → Step (row_line bs) s t v
unfolding row_line_table call_checks
after_row_line s t bs v ok d =
    memory_made (row_line bs) s t (with_row_line s (parse_as G.row bs)) v ok d.said d.left
    (λ p. written_passes 0 bs (parse_as G.row bs) _ p (λ w e q. unfold effect with_row_line C.with_row_line record_of in rw e (row_made s (stream_number (schema_of s.names) w.name) w.values ok (unfold row_line_checks in pass_rest _ _ _ q))))

-- ---- streams

after_stream : (s : State) (bs : Bytes) (ns : List ℕ) (v : Said) → Sound s → Declares s.names bs ns v → Step (stream bs) s (with_names s ns) v
unfolding declare_table call_checks record_of
after_stream s bs ns v ok d =
    made (stream bs) s (with_names s ns) v (schema_sound s.names) ok (sound_parts s ok.lent).names d.said
    (λ n. ap (with_names s) (d.left ∙ settled_old v s.names _ n))
    (λ a p. written_passes 0 bs (parse_as G.stream bs) _ p (λ t e q.
    let g : with_names s (D.with_stream s.names (some t)) ≡ with_names s ns = ap (with_names s) (sym (d.left ∙ settled_new v s.names _ a ∙ ap (D.with_stream s.names) e)) in
    let b = (parsed_printed G.stream bs t e).0 in
    subst (λ u. (record_of u ≡ effect (record_of s) (stream bs)) × Held u) g (unfold effect in rw e (stream_effect s ok t b q), stream_held s ok t b q)))

-- ---- any call

pub step_call : {c : Call} {s t : State} (p : Promise c s t) → Sound s → Step c s t (said_in p)
unfolding said_in
step_call (declared {s} {bs} {ns} {v} d) ok = after_stream s bs ns v ok d
step_call (clocked {s} {t} {r} e) ok = after_clock s t r ok e
step_call (rowed {s} {t} {n} {vs} {v} d) ok = after_row s t n vs v ok d
step_call (cleared {s} {r} e) ok = after_clear s r ok e
step_call (clock_lined {s} {bs} {r} e) ok = after_clock_line s bs r ok e
step_call (row_lined {s} {t} {bs} {v} d) ok = after_row_line s t bs v ok d
step_call (clear_lined {s} {bs} {r} e) ok = after_clear_line s bs r ok e
