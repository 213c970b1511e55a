-- What a call has to show at each of its returns.
use mathlib.Core.Path.{◌≡◌, refl, sym, ap, ◌∙◌}
use mathlib.Core.List.{List}
use mathlib.Core.Bool.{Bool, true, false, not, cond}
use mathlib.Core.Option.{none, some}
use Prim.Native.Nat.{ℕ, ◌+◌, ◌*◌, ◌≤◌, ◌<◌}
use native.Mathlib.Omega.{arith}
use lib.IntN.{ℤ}
use lib.Dec.{T, leb, ltb, eqb}
use lib.ListN.{length}
use borrow.Author.Tests.{leb-false, eqb-true, not-false}
use Rattle.std.specs.Prelude.{Result, Ok, Err}
use Rattle.refusal.specs.Results.{Said, result_of, giving, said_by, held_after, settled}
use Rattle.refusal.specs.Checks.{refuse, first, table, no_fault}
use Rattle.refusal.specs.declared.Checks.{Checks}
use Rattle.refusal.specs.declared.Refusal.{Refusal}
use Rattle.refusal.specs.declared.Refused.{Refused}
use Rattle.refusal.specs.declared.Refusal.TheVariants.{Lent, Bound, ClockBack}
use Rattle.refusal.proofs.Results.{result_passed}
use Rattle.lists.proofs.Laws.{true_T, or_last}
use Rattle.syntax.specs.Limits.{max_streams, max_columns, max_rows, is_time, natural}
use Rattle.calls.specs.Tables.{clock_checks}
use Rattle.text.specs.Words.{time_kept, time_given}
use Rattle.text.proofs.Found.{time_flag, time_or}
use Rattle.schema.specs.Schemas.{streams_in, width_in}
use Rattle.schema.proofs.Tests.{streams_most}
use Rattle.schema.proofs.Soundness.{width_most}
use Rattle.ledger.specs.declared.Ledger.{Ledger}
use Rattle.ledger.specs.Records.{Memory, count_in, ledger_sound, memory_sound}
use Rattle.ledger.specs.Calls.{clock_shown, clocked, clock_table, clock_call, clear_shown, cleared, clear_table, clear_call, row_shown, row_place, with_rows, with_row, Enters, Stored}
use Rattle.ledger.proofs.Soundness.{sound_parts}

-- ---- the clock

-- a time as the code keeps it: one that is none is refused, whatever is kept of it
pub clock_same : (l : Ledger) (t : ℤ) → clocked l (time_given t) no_fault ≡ clock_call l t
unfolding giving clocked clock_shown clock_call clock_table clock_checks time_kept natural table first refuse
clock_same l t = rw (time_flag t, time_or t) (go (ledger_sound l) (is_time t))
  where
    go : (a b : Bool)
        → giving {A = Ledger} (result_of (cond (not a) (some Lent) (cond (not b) (some Bound) (cond (ltb (cond b (natural t) 0) l.clock) (some ClockBack) none)))) (record { clock = cond b (natural t) 0; rows = l.rows }) l
        ≡ giving {A = Ledger} (result_of (cond (not a) (some Lent) (cond (not b) (some Bound) (cond (ltb (natural t) l.clock) (some ClockBack) none)))) (record { clock = natural t; rows = l.rows }) l
    go false b = refl
    go true false = refl
    go true true = refl

pub clear_same : (l : Ledger) → cleared l no_fault ≡ clear_call l
unfolding cleared clear_shown clear_call clear_table table first refuse
clear_same l = refl

-- ---- rows

-- the memory has a place for a row of n values
pub record RowFits (m : Memory) (s n : ℕ) : Type 0 where
  pub sound : T (memory_sound m)
  pub declared : s < streams_in m.names
  pub width : n ≡ width_in m.names s
  pub space : count_in m.ledger s < max_rows

pub row_fits : (m : Memory) (s n : ℕ) (c : Checks) → result_of (first (table (row_shown m s n c))) ≡ Ok tt → RowFits m s n
unfolding row_shown
row_fits m s n c e =
    let h = result_passed (row_shown m s n c) e in
    record {
      sound = true_T (memory_sound m) (not-false (memory_sound m) (ap (λ (k : Checks). k.lent) h));
      declared = leb-false (streams_in m.names) s (or_last c.undeclared (leb (streams_in m.names) s) (ap (λ (k : Checks). k.undeclared) h));
      width = eqb-true n (width_in m.names s) (not-false (eqb n (width_in m.names s)) (or_last c.misplaced _ (ap (λ (k : Checks). k.misplaced) h)));
      space = leb-false max_rows (count_in m.ledger s) (ap (λ (k : Checks). k.full) h);
    }

-- and its places are there
pub record Room (m : Memory) (s n : ℕ) : Type 0 where
  pub stream : s < max_streams
  pub short : n ≤ max_columns
  pub time : row_place m.ledger s < length m.times
  pub values : row_place m.ledger s * max_columns + n ≤ length m.values

pub row_room : (m : Memory) (s n : ℕ) → RowFits m s n → Room m s n
unfolding row_place
row_room m s n f =
    let p = sound_parts m f.sound in
    let a = streams_most m.names in
    let b = width_most m.names s in
    record { stream = omega arith; short = omega arith; time = omega arith; values = omega arith }

module _ (m : Memory) (s : ℕ) (c : Checks) {k : Checks} {v : Said} where
  told : (n : ℕ) → k ≡ row_shown m s n c → v ≡ result_of (first (table k)) → v ≡ result_of (first (table (row_shown m s n c)))
  told n e h = h ∙ ap (λ k. result_of (first (table k))) e

  -- what the store asks
  pub store_room : (n : ℕ) → k ≡ row_shown m s n c → v ≡ result_of (first (table k)) → v ≡ Ok tt
      → (row_place m.ledger s < length m.times) × (row_place m.ledger s * max_columns + n ≤ length m.values) × (s < max_streams)
  store_room n e h a = let r = row_room m s n (row_fits m s n c (sym (told n e h) ∙ a)) in (r.time, r.values, r.stream)

  module _ (vs : List ℤ) (e : k ≡ row_shown m s (length vs) c) (h : v ≡ result_of (first (table k))) where
    pub row_refused : {f : Refusal} {r : Result Ledger (Refused Ledger)} → v ≡ Err f → r ≡ Err (record { refusal = f; held = m.ledger })
        → Enters m s vs c (record { ledger = held_after r; names = m.names; times = m.times; values = m.values }) (said_by r)
    unfolding settled held_after said_by
    row_refused a d = rw d (record { said = sym a ∙ told (length vs) e h; left = refl })

    pub row_stored : v ≡ Ok tt → {l : Ledger} {times : List ℕ} {values : List ℤ} → Stored m.ledger s vs m.times times m.values values → l ≡ with_rows m.ledger s
        → Enters m s vs c (record { ledger = held_after {A = Ledger} (Ok l); names = m.names; times = times; values = values }) (said_by {B = Ledger} (Ok l))
    unfolding settled held_after said_by with_row
    row_stored a p q = record { said = sym a ∙ told (length vs) e h; left = λ i. record { ledger = q i; names = m.names; times = p.stamped i; values = p.put i } }
