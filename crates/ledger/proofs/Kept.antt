-- What an accepted call leaves stands for the record of the definitions, and may be lent again.
use mathlib.Core.Path.{◌≡◌, refl, sym, ap, ◌∙◌}
use mathlib.Core.List.{List, [], map, map-map}
use mathlib.Core.Bool.{◌&&◌}
use mathlib.Core.Option.{some}
use Prim.Native.Nat.{ℕ, zero, suc, ◌+◌, ◌*◌, ◌-◌, ◌<◌, ◌≤◌}
use native.Mathlib.Decide.{dec_lt}
use native.Mathlib.Omega.{arith}
use lib.IntN.{ℤ}
use lib.Dec.{T, leb, eqb, le→leb, leb→le, eqb→eq}
use lib.ListN.{length, get_or, replicate, length-set}
use lib.Seq.{length-paste, get_or-set_other}
use Rattle.lists.specs.Lists.{every, count_from}
use Rattle.lists.proofs.Laws.{and_l, and_r, and_both, every_weaken}
use Rattle.lists.proofs.Counting.{map_alike, every_at, every_made, every_set}
use Rattle.syntax.specs.Limits.{max_streams, max_columns, max_rows, top, natural}
use Rattle.model.specs.Queries.{Row}
use Rattle.calls.specs.Validity.{steady}
use Rattle.calls.specs.Calls as C
use Rattle.calls.proofs.Valid.{steady_add}
use Rattle.schema.specs.Schemas.{streams_in, width_in, schema_of, schema_sound}
use Rattle.schema.proofs.Tests.{streams_most}
use Rattle.ledger.specs.Records.{Memory, with_ledger, with_names, row_in, count_in, rows_in, record_of, ledger_sound, undeclared_empty, times_steady, stream_steady, streams_steady, memory_sound}
use Rattle.ledger.specs.Calls.{row_place, with_rows, with_row}
use Rattle.ledger.proofs.Soundness.{sound_parts, sound_made}
use Rattle.ledger.proofs.Entering.{RowFits, row_room}
use Rattle.ledger.proofs.Rows.{stream_other, stream_same}

-- ---- rows in a row of places are steady where the places' times are

steady_places : (times : List ℕ) (values : List ℤ) (w low k b a n : ℕ) → steady low k (map (λ r. row_in times values w (b + r)) (count_from a n)) ≡ times_steady times low k (b + a) n
unfolding steady times_steady count_from row_in
steady_places times values w low k b a zero = refl
steady_places times values w low k b a (suc n) =
    let e : b + suc a ≡ suc (b + a) = omega arith in
    ap (λ c. leb low (get_or times (b + a) 0) && c) (rw e at (steady_places times values w (get_or times (b + a) 0) k b (suc a) n))

pub steady_rows : (m : Memory) (s : ℕ) → steady 0 m.ledger.clock (rows_in m s) ≡ stream_steady m.ledger m.times s
unfolding rows_in stream_steady
steady_rows m s =
    let e : s * max_rows + 0 ≡ s * max_rows = omega arith in
    rw e at (steady_places m.times m.values (width_in m.names s) 0 m.ledger.clock (s * max_rows) 0 (count_in m.ledger s))

-- ---- a later clock

abbrev pub clock_at : Memory → ℕ → Memory
clock_at m t = with_ledger m (record { clock = t; rows = m.ledger.rows })

pub clock_effect : (m : Memory) (t : ℤ) → record_of (clock_at m (natural t)) ≡ C.with_clock (record_of m) (some t)
unfolding record_of rows_in count_in C.with_clock
clock_effect m t = refl

times_later : (times : List ℕ) (low k t at n : ℕ) → k ≤ t → T (times_steady times low k at n) → T (times_steady times low t at n)
unfolding times_steady
times_later times low k t at zero h s = let e = leb→le low k s in le→leb low t (omega arith)
times_later times low k t at (suc n) h s =
    and_both (leb low (get_or times at 0)) _ (and_l (leb low (get_or times at 0)) _ s) (times_later times (get_or times at 0) k t (suc at) n h (and_r (leb low (get_or times at 0)) _ s))

pub clock_sound : (m : Memory) (t : ℕ) → t ≤ top → m.ledger.clock ≤ t → T (memory_sound m) → T (memory_sound (clock_at m t))
unfolding ledger_sound undeclared_empty streams_steady stream_steady count_in
clock_sound m t h g r =
    let p = sound_parts m r in
    sound_made (clock_at m t) (record {
      names = p.names;
      bounds = and_both (leb t top) _ (le→leb t top h) (and_r (leb m.ledger.clock top) _ p.bounds);
      places = p.places;
      room = p.room;
      unused = p.unused;
      tested = every_weaken (stream_steady m.ledger m.times) _ (λ s a. times_later m.times 0 m.ledger.clock t (s * max_rows) (count_in m.ledger s) g a) (count_from 0 (streams_in m.names)) p.tested;
    })

-- ---- no rows

abbrev pub emptied : Memory → Memory
emptied m = with_ledger m (record { clock = m.ledger.clock; rows = replicate max_streams 0 })

none_at : (s : ℕ) → ◌≡◌ {A = ℕ} (get_or (replicate max_streams 0) s 0) 0
none_at zero = refl
none_at (suc zero) = refl
none_at (suc (suc zero)) = refl
none_at (suc (suc (suc zero))) = refl
none_at (suc (suc (suc (suc s)))) = refl

pub rows_none : (m : Memory) (s : ℕ) → rows_in (emptied m) s ≡ []
unfolding rows_in count_in count_from
rows_none m s = rw (none_at s)

pub clear_effect : (m : Memory) → record_of (emptied m) ≡ C.cleared (record_of m)
unfolding record_of C.cleared
clear_effect m =
    ap (λ (rs : List (List Row)). record { clock = m.ledger.clock; schema = schema_of m.names; rows = rs })
    (map_alike _ (λ s. []) 0 (streams_in m.names) (λ s a b. rows_none m s) ∙ sym (map-map (λ rs. []) (rows_in m) (count_from 0 (streams_in m.names))))

-- whatever stood there
pub empty_sound : (m : Memory) → T (schema_sound m.names) → T (leb m.ledger.clock top) → max_streams * max_rows ≤ length m.times → max_streams * max_rows * max_columns ≤ length m.values
    → T (memory_sound (emptied m))
unfolding ledger_sound undeclared_empty streams_steady stream_steady count_in times_steady every
empty_sound m n h g v =
    sound_made (emptied m) (record {
      names = n;
      bounds = and_both (leb m.ledger.clock top) _ h tt;
      places = g;
      room = v;
      unused = every_made _ (streams_in m.names) (max_streams - streams_in m.names) (λ s a b. rw (none_at s) tt);
      tested = every_made _ 0 (streams_in m.names) (λ s a b. rw (none_at s) (le→leb 0 m.ledger.clock (omega arith)));
    })

pub clear_sound : (m : Memory) → T (memory_sound m) → T (memory_sound (emptied m))
unfolding ledger_sound
clear_sound m r = let p = sound_parts m r in empty_sound m p.names (and_l (leb m.ledger.clock top) _ p.bounds) p.places p.room

-- ---- other names, of no fewer streams: those that are new have no rows yet

none_undeclared : (m : Memory) → T (memory_sound m) → (s : ℕ) → streams_in m.names ≤ s → s < max_streams → T (eqb (get_or m.ledger.rows s 0) 0)
unfolding undeclared_empty
none_undeclared m r s a b = every_at (λ s. eqb (get_or m.ledger.rows s 0) 0) (streams_in m.names) (max_streams - streams_in m.names) (sound_parts m r).unused s a (omega arith)

-- a stream that is not declared has no rows
pub undeclared_none : (m : Memory) → T (memory_sound m) → (s : ℕ) → streams_in m.names ≤ s → s < max_streams → count_in m.ledger s ≡ 0
unfolding count_in
undeclared_none m r s a b = rw (eqb→eq (get_or m.ledger.rows s 0) 0 (none_undeclared m r s a b))

pub names_sound : (m : Memory) (ns : List ℕ) → T (schema_sound ns) → streams_in m.names ≤ streams_in ns → T (memory_sound m) → T (memory_sound (with_names m ns))
unfolding undeclared_empty streams_steady
names_sound m ns n h r =
    let p = sound_parts m r in
    let k = streams_most ns in
    sound_made (with_names m ns) (record {
      names = n;
      bounds = p.bounds;
      places = p.places;
      room = p.room;
      unused = every_made _ (streams_in ns) (max_streams - streams_in ns) (λ s a b. none_undeclared m r s (omega arith) (omega arith));
      tested = every_made _ 0 (streams_in ns) (λ s a b. each s (omega arith) (dec_lt s (streams_in m.names)));
    })
  where
    each : (s : ℕ) → s < max_streams → Dec (s < streams_in m.names) → T (stream_steady m.ledger m.times s)
    each s a (yes b) = every_at (stream_steady m.ledger m.times) 0 (streams_in m.names) (sound_parts m r).tested s (omega arith) (omega arith)
    each s a (no b) = unfold stream_steady times_steady in rw (undeclared_none m r s (omega arith) a) (le→leb 0 m.ledger.clock (omega arith))

-- ---- a row more

module _ (m : Memory) (s : ℕ) (vs : List ℤ) (four : length m.ledger.rows ≡ max_streams) (fit : RowFits m s (length vs)) where
  was_steady : (j : ℕ) → j < streams_in m.names → T (steady 0 m.ledger.clock (rows_in m j))
  unfolding streams_steady
  was_steady j h = rw (steady_rows m j) (every_at (stream_steady m.ledger m.times) 0 (streams_in m.names) (sound_parts m fit.sound).tested j (omega arith) (omega arith))

  steady_next : (j : ℕ) → j < streams_in m.names → Dec (j < s) → Dec (s < j) → T (steady 0 m.ledger.clock (rows_in (with_row m s vs) j))
  steady_next j h (yes a) b = rw (stream_other m s vs four fit j (λ e. omega arith)) (was_steady j h)
  steady_next j h (no a) (yes b) = rw (stream_other m s vs four fit j (λ e. omega arith)) (was_steady j h)
  steady_next j h (no a) (no b) =
      let e : j ≡ s = omega arith in
      rw (e, stream_same m s vs four fit) (steady_add 0 m.ledger.clock vs (rows_in m s) (was_steady s fit.declared))

  bounds_next : T (ledger_sound (with_rows m.ledger s))
  unfolding ledger_sound with_rows
  bounds_next =
      let t = (sound_parts m fit.sound).bounds in
      let f = fit.space in
      and_both (leb m.ledger.clock top) _ (and_l (leb m.ledger.clock top) _ t)
      (every_set (λ n. leb n max_rows) m.ledger.rows s (suc (count_in m.ledger s)) (and_r (leb m.ledger.clock top) _ t) (le→leb (suc (count_in m.ledger s)) max_rows (omega arith)))

  unused_next : T (undeclared_empty (with_rows m.ledger s) (streams_in m.names))
  unfolding undeclared_empty with_rows
  unused_next =
      let d = fit.declared in
      every_made _ (streams_in m.names) (max_streams - streams_in m.names)
      (λ j a b. rw (get_or-set_other m.ledger.rows s j (suc (count_in m.ledger s)) 0 (λ e. omega arith))
      (every_at (λ j. eqb (get_or m.ledger.rows j 0) 0) (streams_in m.names) (max_streams - streams_in m.names) (sound_parts m fit.sound).unused j a b))

  pub row_sound : T (memory_sound (with_row m s vs))
  unfolding with_row with_rows streams_steady
  row_sound =
      let p = sound_parts m fit.sound in
      let k = row_room m s (length vs) fit in
      let a = length-set m.times (row_place m.ledger s) m.ledger.clock in
      let b = length-paste m.values (row_place m.ledger s * max_columns) vs (length vs) k.values (omega arith) in
      sound_made (with_row m s vs) (record {
        names = p.names;
        bounds = bounds_next;
        places = omega arith;
        room = omega arith;
        unused = unused_next;
        tested = every_made _ 0 (streams_in m.names) (λ j a b. rw (steady_rows (with_row m s vs) j) at (steady_next j (omega arith) (dec_lt j s) (dec_lt s j)));
      })
