-- Each line does what the call of its name does: the table of the line is what the code shows of it.
use mathlib.Core.Path.{◌≡◌, refl, ap, ◌∙◌}
use mathlib.Core.List.{List, [], ◌∷◌}
use mathlib.Core.Bool.{Bool, true, false, not, cond}
use mathlib.Core.Option.{Option, none, some}
use lib.IntN.{ℤ}
use lib.Dec.{T, ltb}
use lib.ListN.{length, replicate}
use Rattle.std.specs.Prelude.{Result}
use Rattle.refusal.specs.Results.{result_of, giving}
use Rattle.refusal.specs.Checks.{Check, refuse, first, table, unread}
use Rattle.refusal.specs.declared.Checks.{Checks}
use Rattle.refusal.specs.declared.Refusal.{Refusal}
use Rattle.refusal.specs.declared.Refused.{Refused}
use Rattle.refusal.specs.declared.Refusal.TheVariants.{Lent, Malformed, Bound}
use Rattle.lists.proofs.Laws.{T_true}
use Rattle.syntax.specs.Grammar as G
use Rattle.syntax.specs.Grammar.{Bytes}
use Rattle.syntax.specs.Limits.{max_line, max_streams, shallow}
use Rattle.syntax.specs.Readers.{parse_as}
use Rattle.syntax.proofs.Depths.{flat, plain_shallow}
use Rattle.calls.specs.Replies.{written}
use Rattle.calls.specs.Tables.{clock_checks}
use Rattle.ledger.specs.declared.Ledger.{Ledger}
use Rattle.ledger.specs.Records.{ledger_sound}
use Rattle.ledger.specs.Calls.{clock_shown, clocked, clock_table, clock_call, clear_shown, cleared}
use Rattle.ledger.proofs.Entering.{clock_same}
use Rattle.record_lines.specs.Lines.{unread_clock, clock_given, clock_of, clock_line, clear_of, clear_line}
use Rattle.record_lines.specs.declared.ClockLine.{ClockLine}
use Rattle.record_lines.specs.Calls.{clock_line_table, with_clock, clock_line_call, clear_line_table, clear_line_call}

-- ---- the checks in front of a line

module _ {A : Type 0} (a : Bool) (bs : Bytes) (checks : A → List Check) where
  -- one that is too long
  pub front_long : ltb max_line (length bs) ≡ true → (o : Option A) → first (refuse Lent (not a) ∷ written 0 bs o checks) ≡ cond (not a) (some Lent) (some Bound)
  unfolding first refuse written
  front_long e none = rw e
  front_long e (some x) = rw e

  module _ (e : ltb max_line (length bs) ≡ false) where
    -- one of another form
    pub front_none : first (refuse Lent (not a) ∷ written 0 bs none checks) ≡ cond (not a) (some Lent) (some Malformed)
    unfolding first refuse written
    front_none = rw e

    -- one that was read
    pub front_some : T (shallow 0 bs) → (x : A) → first (refuse Lent (not a) ∷ written 0 bs (some x) checks) ≡ first (refuse Lent (not a) ∷ checks x)
    unfolding first refuse written
    front_some t x = rw (e, T_true (shallow 0 bs) t)

-- ---- a ledger

-- where a call is refused, it is no matter what it would have left
stays : (a : Bool) (r : Refusal) (new other old : Ledger) → giving (result_of (cond (not a) (some Lent) (some r))) new old ≡ giving (result_of (cond (not a) (some Lent) (some r))) other old
unfolding giving
stays true r new other old = refl
stays false r new other old = refl

-- ---- clock

clock_made : (l : Ledger) (bs : Bytes) (b : Bool) → ltb max_line (length bs) ≡ b → (o : Option ℤ) → parse_as G.clock bs ≡ o
    → clocked l (cond b (unread_clock true) (clock_of o)).time (cond b (unread_clock true) (clock_of o)).checks
    ≡ giving (result_of (first (refuse Lent (not (ledger_sound l)) ∷ written 0 bs o (clock_checks l.clock)))) (with_clock l o) l
unfolding flat clock_of clock_given unread_clock clocked clock_shown table first refuse with_clock
clock_made l bs true e o p = rw (front_long (ledger_sound l) bs (clock_checks l.clock) e o) (stays (ledger_sound l) Bound _ _ l)
clock_made l bs false e none p = rw (front_none (ledger_sound l) bs (clock_checks l.clock) e) (stays (ledger_sound l) Malformed _ _ l)
clock_made l bs false e (some n) p =
    rw (front_some (ledger_sound l) bs (clock_checks l.clock) e (plain_shallow G.clock bs n tt p) n) (unfold clock_call clock_table in clock_same l n)

pub clock_lined : (l : Ledger) (bs : Bytes) {w : ClockLine} {r : Result Ledger (Refused Ledger)} → w ≡ clock_line bs → r ≡ clocked l w.time w.checks → r ≡ clock_line_call l bs
unfolding clock_line clock_line_call clock_line_table
clock_lined l bs e d = d ∙ ap (λ w. clocked l w.time w.checks) e ∙ clock_made l bs (ltb max_line (length bs)) refl (parse_as G.clock bs) refl

-- ---- clear

clear_made : (l : Ledger) (bs : Bytes) (b : Bool) → ltb max_line (length bs) ≡ b → (o : Option (Unit {0})) → parse_as G.clear bs ≡ o
    → cleared l (cond b (unread true) (clear_of o))
    ≡ giving (result_of (first (refuse Lent (not (ledger_sound l)) ∷ written 0 bs o (λ u. [])))) (record { clock = l.clock; rows = replicate max_streams 0 }) l
unfolding flat clear_of cleared clear_shown table first refuse
clear_made l bs true e o p = rw (front_long (ledger_sound l) bs (λ u. []) e o)
clear_made l bs false e none p = rw (front_none {A = Unit {0}} (ledger_sound l) bs (λ u. []) e)
clear_made l bs false e (some u) p =
    rw (front_some {A = Unit {0}} (ledger_sound l) bs (λ u. []) e (plain_shallow G.clear bs u tt p) u)

pub clear_lined : (l : Ledger) (bs : Bytes) {c : Checks} {r : Result Ledger (Refused Ledger)} → c ≡ clear_line bs → r ≡ cleared l c → r ≡ clear_line_call l bs
unfolding clear_line clear_line_call clear_line_table
clear_lined l bs e d = d ∙ ap (cleared l) e ∙ clear_made l bs (ltb max_line (length bs)) refl (parse_as G.clear bs) refl
