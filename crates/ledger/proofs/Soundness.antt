-- Whether memory may be lent, test by test, in the order of the code.
use mathlib.Core.Path.{◌≡◌, ◌∙◌}
use mathlib.Core.Bool.{Bool, true, false, ◌&&◌, not}
use Prim.Native.Nat.{ℕ, ◌<◌, ◌≤◌}
use lib.Dec.{T, leb, le→leb, leb→le}
use lib.ListN.{length}
use borrow.Author.Tests.{le-leb, lt-leb, not-true, not-false}
use Rattle.lists.proofs.Laws.{parts}
use Rattle.schema.specs.Schemas.{streams_in, schema_sound}
use Rattle.ledger.specs.Records.{Memory, places_size, values_size, ledger_sound, undeclared_empty, streams_steady, rows_sound, memory_sound}

-- ---- the tests of the code

module _ (m : Memory) {b : Bool} (e : b ≡ ledger_sound m.ledger) where
  pub no_ledger : not b ≡ true → false ≡ rows_sound m
  unfolding rows_sound
  no_ledger h = rw (← e, not-true b h)

  module _ (h : not b ≡ false) where
    pub few_times : length m.times < places_size → false ≡ rows_sound m
    unfolding rows_sound
    few_times g = rw (← e, not-false b h, lt-leb places_size (length m.times) g)

    module _ (g : places_size ≤ length m.times) where
      pub few_values : length m.values < values_size → false ≡ rows_sound m
      unfolding rows_sound
      few_values k = rw (← e, not-false b h, le-leb places_size (length m.times) g, lt-leb values_size (length m.values) k)

      module _ (k : values_size ≤ length m.values) {n : ℕ} (s : n ≡ streams_in m.names) {u : Bool} (f : u ≡ undeclared_empty m.ledger n) where
        pub rows_undeclared : not u ≡ true → false ≡ rows_sound m
        unfolding rows_sound
        rows_undeclared i = rw (← e, not-false b h, le-leb places_size (length m.times) g, le-leb values_size (length m.values) k, ← s, ← f, not-true u i)

        pub by_times : not u ≡ false → {t : Bool} → t ≡ streams_steady m.ledger n m.times → t ≡ rows_sound m
        unfolding rows_sound
        by_times i r = r ∙ rw (← e, not-false b h, le-leb places_size (length m.times) g, le-leb values_size (length m.values) k, ← s, ← f, not-false u i)

pub no_names : (m : Memory) {b : Bool} → b ≡ schema_sound m.names → not b ≡ true → false ≡ memory_sound m
unfolding memory_sound
no_names m {b} e h = rw (← e, not-true b h)

pub by_rows : (m : Memory) {b r : Bool} → b ≡ schema_sound m.names → not b ≡ false → r ≡ rows_sound m → r ≡ memory_sound m
unfolding memory_sound
by_rows m {b} e h f = f ∙ rw (← e, not-false b h)

pub ruleset sound_ends = (no_ledger, few_times, few_values, rows_undeclared, by_times, no_names, by_rows)

-- ---- what it means that memory may be lent

pub record Sound (m : Memory) : Type 0 where
  pub names : T (schema_sound m.names)
  pub bounds : T (ledger_sound m.ledger)
  pub places : places_size ≤ length m.times
  pub room : values_size ≤ length m.values
  pub unused : T (undeclared_empty m.ledger (streams_in m.names))
  pub tested : T (streams_steady m.ledger (streams_in m.names) m.times)

pub sound_parts : (m : Memory) → T (memory_sound m) → Sound m
unfolding memory_sound rows_sound
sound_parts m t =
    record {
      names = search parts;
      bounds = search parts depth 8;
      places = leb→le places_size (length m.times) (search parts depth 8);
      room = leb→le values_size (length m.values) (search parts depth 8);
      unused = search parts depth 8;
      tested = search parts depth 8;
    }

six : (a b c d e f : Bool) → T a → T b → T c → T d → T e → T f → T (a && (b && c && d && e && f))
six true true true true true true p q r s t u = tt
six false b c d e f p q r s t u = elim p [ ]
six true false c d e f p q r s t u = elim q [ ]
six true true false d e f p q r s t u = elim r [ ]
six true true true false e f p q r s t u = elim s [ ]
six true true true true false f p q r s t u = elim t [ ]
six true true true true true false p q r s t u = elim u [ ]

pub sound_made : (m : Memory) → Sound m → T (memory_sound m)
unfolding memory_sound rows_sound
sound_made m p =
    six (schema_sound m.names) (ledger_sound m.ledger) (leb places_size (length m.times)) (leb values_size (length m.values)) (undeclared_empty m.ledger (streams_in m.names))
    (streams_steady m.ledger (streams_in m.names) m.times)
    p.names p.bounds (le→leb places_size (length m.times) p.places) (le→leb values_size (length m.values) p.room) p.unused p.tested
