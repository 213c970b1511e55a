-- What calls and lines made is never refused as lent memory, and 12 is what else is.
use mathlib.Core.Path.{◌≡◌, refl, sym, ap, ◌∙◌}
use mathlib.Core.List.{List, ◌∷◌}
use mathlib.Core.Option.{Option, none, some}
use mathlib.Core.Bool.{true, not, ◌&&◌}
use Prim.Native.Nat.{ℕ, ◌≤◌}
use native.Mathlib.Omega.{arith}
use lib.IntN.{ℤ}
use lib.Dec.{T, lit≤}
use Rattle.refusal.specs.Numbers.{number_of}
use Rattle.refusal.specs.Checks.{Check, refuse, first}
use Rattle.refusal.specs.declared.Refusal.{Refusal}
use Rattle.refusal.specs.declared.Refusal.TheVariants.{Lent}
use Rattle.refusal.proofs.Passing.{first_skip}
use Rattle.refusal.proofs.Verdicts.{never, never_first}
use Rattle.lists.specs.Lists.{every}
use Rattle.lists.proofs.Laws.{and_both, true_T}
use Rattle.syntax.specs.Grammar.{Bytes, Form, RouteLine}
use Rattle.calls.specs.Replies.{reply}
use Rattle.calls.specs.Tables.{query_checks}
use Rattle.calls.specs.Asking.{answer_checks, line_checks}
use Rattle.calls.specs.Events.{Event}
use Rattle.calls.proofs.Order.{never_written}
use Rattle.ledger.specs.Records.{memory_sound}
use Rattle.caller.specs.declared.Caller.{Caller}
use Rattle.caller.specs.Callers.{caller_sound}
use Rattle.grant.specs.Catalogues.{catalogue_sound}
use Rattle.history.specs.Fixtures.{Store, Trace, Sound, Fresh}
use Rattle.history.proofs.Events.{left_after}
use Rattle.ask.specs.declared.Reply.{Reply}
use Rattle.ask.specs.Replies.{reply_of, Replies}
use Rattle.ask.specs.Asking.{Lending, lent_sound, asked_table, asked, lined_table, lined}
use Rattle.demands.specs.Lending.{lending}

-- what a store lends to a query of a caller
abbrev lends : Store → Caller → Lending
lends s w = lending s.memory s.grants s.words w

store_lent : (s : Store) (w : Caller) → Sound s → caller_sound w ≡ true → T (lent_sound (lends s w))
unfolding lent_sound
store_lent s w k e =
    let m = memory_sound s.memory in
    let c = catalogue_sound s.memory.names s.grants s.words in
    and_both (m && c) (caller_sound w) (and_both m c k.memory.lent k.grants) (true_T (caller_sound w) e)

-- a table that does not give a number
pub never_said : {A : Type 0} (n : ℕ) → 1 ≤ n → (o : Option Refusal) (out lent : List A) {p : List A} {y : Reply} → ((f : Refusal) → o ≡ some f → number_of f ≡ n → ⊥) → Replies (reply o out lent) lent p y → y.refusal ≡ n → ⊥
unfolding reply reply_of
never_said n l none out lent k h e = let z = ap (λ (r : Reply). r.refusal) h.said in omega arith
never_said n l (some f) out lent k h e = k f refl (sym (ap (λ (r : Reply). r.refusal) h.said) ∙ e)

module _ {s u : Store} {es : List Event} (f : Fresh s) (r : Trace s es u) where
  skipped : (cs : List Check) → T (never 12 cs) → (g : Refusal) → first (refuse Lent (not (lent_sound (lends u u.caller))) ∷ cs) ≡ some g → number_of g ≡ 12 → ⊥
  skipped cs n g e = never_first 12 cs g n (sym (first_skip Lent (lent_sound (lends u u.caller)) cs (store_lent u u.caller (left_after f r).1 (left_after f r).1.caller)) ∙ e)

  -- of what any list of calls and lines leaves, its caller's queries and lines are never refused by 12
  pub never_lent_query : (spare : ℕ) (o : Option Form) (bs : Bytes) (cells : List ℤ) {p : List ℤ} {y : Reply} → Replies (asked spare o (lends u u.caller) bs cells) cells p y → y.refusal ≡ 12 → ⊥
  unfolding asked asked_table query_checks answer_checks every refuse
  never_lent_query spare o bs cells h = never_said 12 (lit≤ tt) _ _ cells (skipped _ (never_written 12 spare bs o _ tt tt (λ q. tt))) h

  pub never_lent_line : (spare : ℕ) (o : Option RouteLine) (bs out : Bytes) {p : Bytes} {y : Reply} → Replies (lined spare o (lends u u.caller) bs out) out p y → y.refusal ≡ 12 → ⊥
  unfolding lined lined_table query_checks line_checks every refuse
  never_lent_line spare o bs out h = never_said 12 (lit≤ tt) _ _ out (skipped _ (never_written 12 spare bs o _ tt tt (λ q. tt))) h
