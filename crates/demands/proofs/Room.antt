-- With 4,096 bytes lent no call for a line is refused for want of room after any list of calls and lines, whoever the caller is.
use mathlib.Core.Path.{◌≡◌, refl, ap, ◌∙◌, subst}
use mathlib.Core.List.{List}
use mathlib.Core.Bool.{Bool, true, false, ◌&&◌}
use mathlib.Core.Option.{Option, some}
use Prim.Native.Nat.{ℕ, ◌≤◌}
use native.Mathlib.Omega.{arith}
use lib.IntN.{ℤ}
use lib.Dec.{T, lit≤}
use lib.ListN.{length}
use Rattle.refusal.specs.Checks.{first}
use Rattle.lists.proofs.Laws.{T_true, true_T, and_r}
use Rattle.syntax.specs.Grammar.{Bytes, RouteLine}
use Rattle.syntax.specs.Limits.{max_printed}
use Rattle.syntax.specs.Readers.{parse_query}
use Rattle.calls.specs.Replies as D
use Rattle.calls.specs.Validity.{valid_caller}
use Rattle.calls.specs.Asking as C
use Rattle.calls.specs.Asking.{line_table, with_route}
use Rattle.calls.specs.Events.{Fixture, Event}
use Rattle.claims.proofs.Running.{line_call_has_room}
use Rattle.ledger.specs.Records.{memory_sound}
use Rattle.caller.specs.declared.Caller.{Caller}
use Rattle.caller.specs.Callers.{caller_of, caller_sound}
use Rattle.caller.proofs.Identifying.{sound_valid}
use Rattle.grant.specs.Catalogues.{catalogue_sound}
use Rattle.history.specs.Fixtures.{Store, fixture_of, Trace, Fresh}
use Rattle.history.proofs.Events.{left_after}
use Rattle.ask.specs.declared.Reply.{Reply}
use Rattle.ask.specs.Replies.{reply_of, Replies}
use Rattle.ask.specs.Asking.{Lending, lent_sound, lined}
use Rattle.demands.specs.Lending.{lending}
use Rattle.demands.proofs.Defined.{lined_is, lined_lent}
use Rattle.demands.proofs.Lent.{never_said}

module _ {s t : Store} {es : List Event} (f : Fresh s) (r : Trace s es t) (w : Caller) where
  abbrev x : Lending
  x = lending t.memory t.grants t.words w

  lent_caller : T (lent_sound x) → T (valid_caller (caller_of w))
  unfolding lent_sound
  lent_caller l = sound_valid w (T_true (caller_sound w) (and_r (memory_sound t.memory && catalogue_sound t.memory.names t.grants t.words) (caller_sound w) l))

  module _ (n : ℤ) (bs out : Bytes) {p : Bytes} {i : Reply} (h : Replies (lined 0 (with_route n (parse_query bs)) x bs out) out p i) (room : max_printed ≤ length out) where
    abbrev o : Option RouteLine
    o = with_route n (parse_query bs)

    lent : T (lent_sound x) → i.refusal ≡ 11 → ⊥
    unfolding C.lined fixture_of
    lent l =
        never_said 11 (lit≤ tt) _ _ out
        (λ g q m. line_call_has_room es (caller_of w) (lent_caller l) n bs out room g
        (subst (λ (y : Fixture). first (line_table y.record_kept y.catalogue (caller_of w) 0 bs o out) ≡ some g) (left_after f r).0 q) m)
        (subst (λ (y : D.Reply ℕ). Replies y out p i) (lined_is x (left_after f r).1.memory.valid l 0 o bs out) h)

    damaged : lent_sound x ≡ false → i.refusal ≡ 11 → ⊥
    unfolding reply_of
    damaged l e = let z = ap (λ (y : Reply). y.refusal) (h.said ∙ ap reply_of (lined_lent x (left_after f r).1.memory.valid l 0 o bs out)) in omega arith

    pub room_enough : i.refusal ≡ 11 → ⊥
    room_enough = go (lent_sound x) refl
      where
        go : (b : Bool) → lent_sound x ≡ b → i.refusal ≡ 11 → ⊥
        go true l = lent (true_T _ l)
        go false l = damaged l
