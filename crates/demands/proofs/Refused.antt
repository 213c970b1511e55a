-- Demand 1, of the contracts of asking and of lines, whatever text they were read from: the number returned is that of the first check that fails, the checks stand in the paper's order, and a
-- refusal leaves every cell and byte.
use mathlib.Core.Path.{◌≡◌, ap}
use mathlib.Core.List.{List}
use mathlib.Core.Option.{Option, none, some}
use Prim.Native.Nat.{ℕ}
use lib.IntN.{ℤ}
use Rattle.refusal.specs.declared.Refusal.{Refusal}
use Rattle.refusal.specs.Checks.{Ordered, checks_compute}
use Rattle.syntax.specs.Grammar.{Bytes, Form, RouteLine}
use Rattle.calls.specs.Replies.{reply, lent_after}
use Rattle.calls.specs.Tables.{query_checks}
use Rattle.calls.specs.Asking.{answer_checks, line_checks}
use Rattle.calls.proofs.Order.{written_ordered}
use Rattle.ask.specs.declared.Reply.{Reply}
use Rattle.ask.specs.Replies.{reply_of, Replies}
use Rattle.ask.specs.Asking.{Lending, asked_table, asked, lined_table, lined}
use Rattle.demands.specs.Refusing.{refused_number, first_number}

-- a reply by its table: the number of the first check that fails and every cell as it was
refusal_of : {A : Type 0} (o : Option Refusal) (out lent : List A) {p : List A} {r : Reply} → Replies (reply o out lent) lent p r → (r.refusal ≡ refused_number o) × ((r.refusal ≡ 0 → ⊥) → p ≡ lent)
unfolding reply reply_of lent_after
refusal_of none out lent h = let e = ap (λ (x : Reply). x.refusal) h.said in (e, λ ne. absurd (ne e))
refusal_of (some f) out lent h = (ap (λ (x : Reply). x.refusal) h.said, λ ne. h.left)

module _ (x : Lending) (spare : ℕ) where
  pub asked_refusal : (o : Option Form) (bs : Bytes) (cells : List ℤ) {p : List ℤ} {r : Reply} → Replies (asked spare o x bs cells) cells p r
      → (r.refusal ≡ first_number (asked_table spare o x bs cells)) × ((r.refusal ≡ 0 → ⊥) → p ≡ cells)
  unfolding asked first_number
  asked_refusal o bs cells h = refusal_of _ _ cells h

  pub lined_refusal : (o : Option RouteLine) (bs out : Bytes) {p : Bytes} {r : Reply} → Replies (lined spare o x bs out) out p r
      → (r.refusal ≡ first_number (lined_table spare o x bs out)) × ((r.refusal ≡ 0 → ⊥) → p ≡ out)
  unfolding lined first_number
  lined_refusal o bs out h = refusal_of _ _ out h

  pub asked_ordered : (o : Option Form) (bs : Bytes) (lent : List ℤ) → Ordered (asked_table spare o x bs lent)
  unfolding asked_table query_checks answer_checks checks_compute
  asked_ordered o bs lent = written_ordered spare bs o _ (λ f. tt)

  pub lined_ordered : (o : Option RouteLine) (bs lent : Bytes) → Ordered (lined_table spare o x bs lent)
  unfolding lined_table query_checks line_checks checks_compute
  lined_ordered o bs lent = written_ordered spare bs o _ (λ m. tt)
