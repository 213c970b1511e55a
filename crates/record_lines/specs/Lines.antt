-- What is read of the `clock`, `row` and `clear` lines.
use Rattle.std.specs.Prelude.{map, Bool, true, false, ◌||◌, not, cond, ℕ, suc, min, ℤ, pos, leb, ltb, length, drop, replicate}
use Rattle.std.proofs.Math.Option.{Option, none, some}
use Rattle.refusal.specs.Checks.{no_fault, unread, shown}
use Rattle.refusal.specs.declared.Checks.{Checks}
use Rattle.syntax.specs.Grammar as G
use Rattle.syntax.specs.Grammar.{Bytes}
use Rattle.syntax.specs.Limits.{max_line, max_columns}
use Rattle.syntax.specs.Readers.{read_body, parse_as}
use Rattle.calls.specs.Bounds.{row_bounded}
use Rattle.text.specs.Words.{Found, None, seen, value_kept, time_given}
use Rattle.text.specs.Readings.{closed}
use Rattle.text.specs.declared.Name.{Name}
use Rattle.items.specs.Items.{code_short, first_of}
use Rattle.items.specs.declared.Values.{Values}
use Rattle.record_lines.specs.declared.ClockLine.{ClockLine}
use Rattle.record_lines.specs.declared.RowLine.{RowLine}

-- ---- clock

unfoldable pub unread_clock : Bool → ClockLine
unread_clock long = record { checks = unread long; time = None }

unfoldable pub clock_given : ℤ → ClockLine
clock_given n = record { checks = no_fault; time = time_given n }

unfoldable pub clock_of : Option ℤ → ClockLine
clock_of none = unread_clock false
clock_of (some n) = clock_given n

-- what a text says from a place on, after its first word
unfoldable pub clock_after : Bytes → ℕ → Found ClockLine
clock_after s at = seen clock_given (closed (read_body G.clock (length s) (drop at s)))

unfoldable pub clock_line : Bytes → ClockLine
clock_line bs = cond (ltb max_line (length bs)) (unread_clock true) (clock_of (parse_as G.clock bs))

-- ---- clear

unfoldable pub clear_of : Option (Unit {0}) → Checks
clear_of none = unread false
clear_of (some u) = no_fault

unfoldable pub clear_line : Bytes → Checks
clear_line bs = cond (ltb max_line (length bs)) (unread true) (clear_of (parse_as G.clear bs))

-- ---- row

unfoldable pub unread_row : Bool → RowLine
unread_row long = record { checks = unread long; name = 0; count = 0; values = replicate max_columns (pos 0) }

-- a name is too long or a value beyond its range (3); more values than any stream has columns (4)
unfoldable pub row_given : G.RowLine → RowLine
row_given w =
    record {
      checks = shown (not (row_bounded w)) false false (ltb max_columns (length w.values)) false;
      name = code_short w.name;
      count = min (length w.values) (suc max_columns);
      values = first_of max_columns (pos 0) (map value_kept w.values);
    }

unfoldable pub row_of : Option G.RowLine → RowLine
row_of none = unread_row false
row_of (some w) = row_given w

-- what a text says from a place on, after its first word
unfoldable pub row_after : Bytes → ℕ → Found RowLine
row_after s at = seen row_given (closed (read_body G.row (length s) (drop at s)))

unfoldable pub row_line : Bytes → RowLine
row_line bs = cond (ltb max_line (length bs)) (unread_row true) (row_of (parse_as G.row bs))

-- the same by a name and values as the code reads them
unfoldable pub row_read : Name → Values → RowLine
row_read n vs = record { checks = shown (n.long || vs.wide) false false (leb (suc max_columns) vs.count) false; name = n.code; count = vs.count; values = vs.values }
