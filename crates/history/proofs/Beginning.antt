-- A fresh state stands for the fresh record, and may be lent.
use mathlib.Core.Path.{◌≡◌, refl, sym, ap, subst}
use mathlib.Core.List.{List, [], ◌∷◌}
use mathlib.Core.Bool.{Bool, true, false, cond}
use Prim.Native.Nat.{ℕ, zero, suc, ◌+◌, ◌≤◌}
use native.Mathlib.Omega.{arith}
use lib.Dec.{T, ltb, eqb, eqb→eq}
use lib.ListN.{length, get_or}
use Rattle.lists.specs.Lists.{every, count_from}
use Rattle.lists.proofs.Laws.{and_l, and_r}
use Rattle.calls.specs.Calls.{fresh, replay, after}
use Rattle.calls.specs.Validity.{valid_record}
use Rattle.calls.proofs.Valid.{valid_after}
use Rattle.schema.specs.Schemas.{schema_size, column_place, filled, streams_in, width_in, schema_of, named_from, schema_sound}
use Rattle.schema.proofs.Soundness.{facts_sound}
use Rattle.ledger.specs.Records.{with_ledger, record_of, memory_sound}
use Rattle.ledger.specs.Calls.{begun}
use Rattle.ledger.proofs.Kept.{empty_sound}
use Rattle.history.specs.States.{State, Sound, Fresh}

-- ---- names that are all 0

zero_at : (ns : List ℕ) (i : ℕ) → T (every (λ n. eqb n 0) ns) → get_or ns i 0 ≡ 0
unfolding every
zero_at [] i t = refl
zero_at (n ∷ ns) zero t = eqb→eq n 0 (and_l (eqb n 0) (every (λ n. eqb n 0) ns) t)
zero_at (n ∷ ns) (suc i) t = zero_at ns i (and_r (eqb n 0) (every (λ n. eqb n 0) ns) t)

none_filled : (ns : List ℕ) (at n : ℕ) → T (every (λ n. eqb n 0) ns) → filled ns at n ≡ 0
unfolding filled
none_filled ns at zero t = refl
none_filled ns at (suc n) t = rw (zero_at ns at t)

module _ (ns : List ℕ) (t : T (every (λ n. eqb n 0) ns)) where
  no_streams : streams_in ns ≡ 0
  unfolding streams_in
  no_streams = none_filled ns 0 4 t

  no_width : (s : ℕ) → width_in ns s ≡ 0
  unfolding width_in
  no_width s = rw (none_filled ns (column_place s) 6 t) (go (ltb s 4))
    where
      go : (b : Bool) → ◌≡◌ {A = ℕ} (cond b 0 0) 0
      go true = refl
      go false = refl

  names_fresh : schema_size ≤ length ns → T (schema_sound ns)
  unfolding named_from every count_from
  names_fresh h =
      let z = no_streams in
      facts_sound ns (record {
        long = h;
        names = rw z tt;
        after = λ s a b. zero_at ns s t;
        columns = λ s a. absurd (omega arith);
        some = λ s a. absurd (omega arith);
        none = λ s a. no_width s;
        columns_after = λ s c a b d. zero_at ns (column_place s + c) t;
      })

-- ---- a fresh state

pub fresh_record : {s : State} → Fresh s → record_of s ≡ fresh
unfolding record_of schema_of fresh begun count_from
fresh_record {s} f = rw (no_streams s.names f.zero, f.begins)

pub fresh_sound : {s : State} → Fresh s → Sound s
fresh_sound {s} f =
    let e : with_ledger s begun ≡ s = ap (with_ledger s) (sym f.begins) in
    record {
      counts = rw f.begins (unfold begun in refl);
      valid = subst (λ x. T (valid_record x)) (sym (fresh_record f)) (unfold after replay in valid_after []);
      lent = subst (λ m. T (memory_sound m)) e (unfold begun in empty_sound (with_ledger s begun) (names_fresh s.names f.zero f.long) tt f.places f.room);
    }
