-- The checks of a caller line as the code holds them say what those of the definitions say.
use mathlib.Core.Path.{◌≡◌, refl, sym, ap, ◌∙◌}
use mathlib.Core.Bool.{Bool, true, false, ◌&&◌, not, cond}
use mathlib.Core.Option.{Option, none, some}
use lib.Dec.{T, ltb}
use lib.ListN.{length}
use Rattle.refusal.specs.declared.Refusal.{Refusal}
use Rattle.refusal.specs.declared.Refusal.TheVariants.{Malformed, Bound, Repeated}
use Rattle.refusal.specs.Checks.{refuse, first, table}
use Rattle.lists.specs.Lists.{distinct, same_list}
use Rattle.lists.proofs.Laws.{T_true}
use Rattle.syntax.specs.Grammar as G
use Rattle.syntax.specs.Grammar.{Bytes, body?}
use Rattle.syntax.specs.Limits.{max_line, shallow}
use Rattle.syntax.specs.Readers.{parse_as}
use Rattle.syntax.proofs.Lines.{parsed_printed}
use Rattle.syntax.proofs.Depths.{flat, plain_shallow}
use Rattle.calls.specs.Bounds.{caller_bounded}
use Rattle.calls.specs.Validity.{entry_names}
use Rattle.calls.specs.Replies.{written}
use Rattle.calls.specs.Tables.{caller_checks}
use Rattle.calls.specs.Calls.{caller_table}
use Rattle.items.specs.Items.{once}
use Rattle.caller.specs.Lines.{caller_made, unread_line, line_given, line_of, caller_line}
use Rattle.caller.proofs.Made.{once_same}

-- where the first check holds off, the second is the same
same_checks : (a b c : Bool) → (T a → b ≡ c) → ◌≡◌ {A = Option Refusal} (cond (not a) (some Bound) (cond (not b) (some Repeated) none)) (cond (not a) (some Bound) (cond (not c) (some Repeated) none))
same_checks true b c h = ap (λ x. cond (not x) (some Repeated) none) (h tt)
same_checks false b c h = refl

checks_first : (m : G.Caller) → T (body? G.caller m) → first (table (line_of (some m)).checks) ≡ first (caller_checks m)
unfolding first table refuse line_of line_given caller_checks
checks_first m t =
    same_checks (caller_bounded m) (once (caller_made m).role (caller_made m).roles && once (caller_made m).name (caller_made m).entries)
    (distinct same_list m.roles && distinct same_list (entry_names m.profile)) (once_same m t)

-- a line of another form, and one that is too long
unread_first : (b : Bool) → first (table (cond b (unread_line true) (line_of none)).checks) ≡ cond b (some Bound) (some Malformed)
unfolding first table refuse unread_line line_of
unread_first true = refl
unread_first false = refl

read_first : (b : Bool) (m : G.Caller) → T (body? G.caller m) → first (table (cond b (unread_line true) (line_of (some m))).checks) ≡ cond b (some Bound) (first (caller_checks m))
unfolding first table refuse unread_line
read_first true m t = refl
read_first false m t = checks_first m t

-- no caller line nests too deep
pub line_first : (bs : Bytes) → first (table (caller_line bs).checks) ≡ first (caller_table bs)
unfolding caller_line caller_table
line_first bs = on (parse_as G.caller bs) refl
  where
    on : (o : Option G.Caller) → parse_as G.caller bs ≡ o → first (table (cond (ltb max_line (length bs)) (unread_line true) (line_of o)).checks) ≡ first (written 0 bs o caller_checks)
    on none e = unread_first (ltb max_line (length bs)) ∙ sym (unfold first refuse written in refl)
    on (some m) e =
        let t = (parsed_printed G.caller bs m e).0 in
        let s = T_true (shallow 0 bs) (plain_shallow G.caller bs m (unfold flat in tt) e) in
        read_first (ltb max_line (length bs)) m t ∙ sym (unfold first refuse written in rw s)
