-- The `caller` line: what is read of it, what it says and what it leaves.
use Rattle.std.specs.Prelude.{map, Bool, true, false, ◌&&◌, ◌||◌, not, cond, ℕ, suc, min, pos, ltb, length, drop, take, Result}
use Rattle.std.proofs.Math.Option.{Option, none, some}
use Rattle.refusal.specs.Results.{result_of, giving}
use Rattle.refusal.specs.Checks.{first, unread, shown}
use Rattle.refusal.specs.declared.Refused.{Refused}
use Rattle.syntax.specs.Grammar as G
use Rattle.syntax.specs.Grammar.{Bytes}
use Rattle.syntax.specs.Limits.{max_line, max_columns, max_roles, max_entries}
use Rattle.syntax.specs.Readers.{read_body, parse_as}
use Rattle.calls.specs.Bounds.{caller_bounded}
use Rattle.calls.specs.Calls.{caller_table}
use Rattle.text.specs.Words.{Found, seen, value_kept}
use Rattle.text.specs.Readings.{closed}
use Rattle.items.specs.Items.{code_short, first_of, once}
use Rattle.items.specs.declared.Names.{Names}
use Rattle.items.specs.declared.Entries.{Entries}
use Rattle.caller.specs.declared.Caller.{Caller}
use Rattle.caller.specs.declared.CallerLine.{CallerLine}
use Rattle.caller.specs.Callers.{no_caller}

-- ---- what is read of it

unfoldable pub unread_line : Bool → CallerLine
unread_line long = record { checks = unread long; caller = no_caller }

-- the struct of roles and entries; of a longer list than may be, the first
unfoldable pub caller_made : G.Caller → Caller
caller_made w =
    record {
      roles = min (length w.roles) (suc max_columns);
      role = first_of max_roles 0 (map code_short w.roles);
      entries = min (length w.profile) (suc max_entries);
      name = first_of max_entries 0 (map (λ e. code_short e.name) w.profile);
      value = first_of max_entries (pos 0) (map (λ e. value_kept e.value) w.profile);
    }

-- a name is too long, a value beyond its range, or there are too many (3); a role or an entry stands twice (6)
unfoldable pub line_given : G.Caller → CallerLine
line_given w =
    record {
      checks = shown (not (caller_bounded w)) false (not (once (caller_made w).role (caller_made w).roles && once (caller_made w).name (caller_made w).entries)) false false;
      caller = caller_made w;
    }

unfoldable pub line_of : Option G.Caller → CallerLine
line_of none = unread_line false
line_of (some w) = line_given w

-- what a text says from a place on, after its first word
unfoldable pub line_after : Bytes → ℕ → Found CallerLine
line_after s at = seen line_given (closed (read_body G.caller (length s) (drop at s)))

unfoldable pub caller_line : Bytes → CallerLine
caller_line bs = cond (ltb max_line (length bs)) (unread_line true) (line_of (parse_as G.caller bs))

-- the same by roles and entries as the code reads them
unfoldable pub caller_read : Names → Entries → Caller
caller_read rs es = record { roles = rs.count; role = take max_roles rs.codes; entries = es.count; name = es.names; value = es.values }

unfoldable pub line_read : Names → Entries → CallerLine
line_read rs es =
    record {
      checks =
          shown (rs.long || (es.over || (ltb max_entries es.count || ltb max_roles rs.count))) false
          (not (once (take max_roles rs.codes) rs.count) || not (once es.names es.count)) false false;
      caller = caller_read rs es;
    }

-- ---- what it says and leaves

unfoldable pub with_caller : Caller → Option G.Caller → Caller
with_caller w none = w
with_caller w (some m) = caller_made m

-- the first check that fails, and the caller as it was; or the caller of the line
unfoldable pub identified : Caller → Bytes → Result Caller (Refused Caller)
identified w bs = giving (result_of (first (caller_table bs))) (with_caller w (parse_as G.caller bs)) w
