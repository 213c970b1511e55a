-- Demand 3, of what lists of calls and lines leave.
use mathlib.Core.Path.{◌≡◌, sym, ap, ◌∙◌, subst}
use mathlib.Core.List.{List}
use Prim.Native.Nat.{ℕ}
use lib.IntN.{ℤ}
use lib.Dec.{T}
use Rattle.syntax.specs.Grammar.{Bytes, Caller}
use Rattle.model.specs.Alike.{Alike}
use Rattle.calls.specs.Replies.{Reply}
use Rattle.calls.specs.Asking.{ask, line}
use Rattle.calls.specs.Events.{Fixture, Event, happened}
use Rattle.calls.specs.Validity.{valid_record}
use Rattle.calls.proofs.Interference.{same_asked, same_lined}
use Rattle.history.specs.Fixtures.{Store, fixture_of, Trace, Sound, Fresh}
use Rattle.history.proofs.Events.{left_after}

-- what a caller is answered by a fixture
abbrev pub asked_of : Fixture → Caller → Bytes → List ℤ → Reply ℤ
asked_of f who bs lent = ask f.record_kept f.catalogue who bs lent

abbrev pub lined_of : Fixture → Caller → ℤ → Bytes → Bytes → Reply ℕ
lined_of f who n bs lent = line f.record_kept f.catalogue who n bs lent

-- what a list leaves is valid
valid_left : {s t : Store} {es : List Event} → Fresh s → Trace s es t → T (valid_record (happened es).record_kept)
unfolding fixture_of
valid_left {t} f r =
    let (e, k) = left_after f r in
    subst (λ x. T (valid_record x.record_kept)) e k.memory.valid

-- Two lists of calls and lines from fresh stores, refused ones included, after which by the definitions the catalogues are the same, and a caller has the same clock, streams, views and
-- figures: of what the lists left, every query of that caller, whatever its text and the cells lent, gets the same reply.
module _ {s t u v : Store} {es fs : List Event} (f : Fresh s) (r : Trace s es u) (g : Fresh t) (k : Trace t fs v)
    (who : Caller) (same : (happened es).catalogue ≡ (happened fs).catalogue) (a : Alike (happened es).record_kept (happened fs).record_kept who (happened es).catalogue) where
  valid_es : T (valid_record (happened es).record_kept)
  valid_es = valid_left f r

  valid_fs : T (valid_record (happened fs).record_kept)
  valid_fs = valid_left g k

  -- what is made of a fixture alone is made alike of the two
  same_made : {X : Type 0} (make : Fixture → X) → make (happened es) ≡ make (happened fs) → make (fixture_of u) ≡ make (fixture_of v)
  same_made make e = ap make (left_after f r).0 ∙ e ∙ sym (ap make (left_after g k).0)

  pub same_after_calls : (bs : Bytes) (lent : List ℤ) → asked_of (fixture_of u) who bs lent ≡ asked_of (fixture_of v) who bs lent
  unfolding ask
  same_after_calls bs lent =
      same_made (λ x. asked_of x who bs lent)
      (same_asked (happened es).record_kept (happened fs).record_kept valid_es valid_fs who (happened es).catalogue a 0 bs _ lent ∙ ap (λ gs. ask (happened fs).record_kept gs who bs lent) same)

  -- and the same line for every route
  pub same_lines_after_calls : (n : ℤ) (bs lent : Bytes) → lined_of (fixture_of u) who n bs lent ≡ lined_of (fixture_of v) who n bs lent
  unfolding line
  same_lines_after_calls n bs lent =
      same_made (λ x. lined_of x who n bs lent)
      (same_lined (happened es).record_kept (happened fs).record_kept valid_es valid_fs who (happened es).catalogue a.clocks a.schemas 0 bs _ lent ∙ ap (λ gs. line (happened fs).record_kept gs who n bs lent) same)

  -- So of code whose contract is that it replies as the definitions do of the fixture that it is lent, where this may be lent: its replies after the two lists are the same.
  pub same_replies : (Replies : Store → Bytes → List ℤ → Reply ℤ → Type 0)
      → ((m : Store) (bs : Bytes) (lent : List ℤ) (x : Reply ℤ) → Sound m → Replies m bs lent x → x ≡ asked_of (fixture_of m) who bs lent)
      → (bs : Bytes) (lent : List ℤ) (x y : Reply ℤ) → Replies u bs lent x → Replies v bs lent y → x ≡ y
  same_replies Replies exact bs lent x y p q = exact u bs lent x (left_after f r).1 p ∙ same_after_calls bs lent ∙ sym (exact v bs lent y (left_after g k).1 q)
