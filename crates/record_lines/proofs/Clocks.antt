-- The `clock` and `clear` lines: each return of the code that reads them.
use mathlib.Core.Path.{◌≡◌, refl, sym, ap, ◌∙◌}
use mathlib.Core.Bool.{Bool, true, false, not}
use mathlib.Core.Option.{Option, none, some}
use Prim.Native.Nat.{ℕ}
use lib.IntN.{ℤ}
use lib.ListN.{length, drop}
use Rattle.std.specs.Prelude.{unwrap_or}
use Rattle.refusal.specs.Checks.{no_fault, unread}
use Rattle.refusal.specs.declared.Checks.{Checks}
use Rattle.syntax.specs.Grammar as G
use Rattle.syntax.specs.Grammar.{Bytes}
use Rattle.syntax.specs.Readers.{◌>>◌, bind, give, byte, read_number, read_body}
use Rattle.text.specs.declared.Number.{Number}
use Rattle.text.specs.declared.Unread.{Unread}
use Rattle.text.specs.Words.{Found, Some, None, seen, read_end, number_found, time_given}
use Rattle.text.specs.Keywords.{Ok, Err, line_after, too_long, closes_at}
use Rattle.text.specs.Readings.{closed}
use Rattle.text.proofs.Places.{closed_is, closed_not, clock_word, clear_word}
use Rattle.text.proofs.Views.{skip_none, skip_is}
use Rattle.text.proofs.Found.{number_none, number_some, time_is, line_unread, line_read}
use Rattle.record_lines.specs.Lines.{unread_clock, clock_given, clock_of, clock_after, clock_line, clear_of, clear_line}
use Rattle.record_lines.specs.declared.ClockLine.{ClockLine}

-- ---- clock

pub clock_blank : {long : Bool} {c : Checks} → c ≡ unread long → record { checks = c; time = None } ≡ unread_clock long
unfolding unread_clock
clock_blank e = rw e

-- the line after its first word, by each of its returns
module _ (s : Bytes) (at : ℕ) where
  pub clock_unspaced : None ≡ read_end s (byte 32 (drop at s)) → None ≡ clock_after s at
  unfolding clock_after read_body read_number ◌>>◌ bind closed seen
  clock_unspaced e = rw (skip_none s at 32 e)

  module _ {p : ℕ} (q : Some p ≡ read_end s (byte 32 (drop at s))) where
    pub clock_numberless : None ≡ number_found s p → None ≡ clock_after s at
    unfolding clock_after read_body read_number ◌>>◌ bind closed seen
    clock_numberless e = rw (skip_is s at 32 q, number_none s p e)

    module _ {n : Number} (m : Some n ≡ number_found s p) {c : Bool} (g : c ≡ closes_at s n.next) where
      pub clock_unclosed : c ≡ false → None ≡ clock_after s at
      unfolding clock_after read_body read_number ◌>>◌ bind seen
      clock_unclosed k = number_some s p m (λ z y w. rw (skip_is s at 32 q, y, closed_not s n.next z g (ap not k)))

      pub clock_whole : {ch : Checks} {t : Found ℕ} → c ≡ true → ch ≡ no_fault → t ≡ time_given n.value → Some (record { checks = ch; time = t }) ≡ clock_after s at
      unfolding clock_after clock_given read_body read_number ◌>>◌ bind seen
      clock_whole k i j = number_some s p m (λ z y w. rw (skip_is s at 32 q, y, closed_is s n.next z g (ap not k), i, time_is z j w))

clock_or : (o : Option ℤ) → unwrap_or (seen clock_given o) (unread_clock false) ≡ clock_of o
unfolding clock_of seen
clock_or none = refl
clock_or (some n) = refl

module _ (s : Bytes) where
  pub clock_unread : {e : Unread} {r : ClockLine} → Err e ≡ line_after s 0x636c6f636b → r ≡ unread_clock (too_long e) → r ≡ clock_line s
  unfolding clock_line clock_of
  clock_unread e d = d ∙ line_unread G.clock s clock_word unread_clock clock_of refl e

  pub clock_begun : {p : ℕ} → Ok p ≡ line_after s 0x636c6f636b → unwrap_or (clock_after s p) (unread_clock false) ≡ clock_line s
  unfolding clock_line clock_after
  clock_begun {p} e = clock_or (closed (read_body G.clock (length s) (drop p s))) ∙ sym (line_read G.clock s clock_word unread_clock clock_of e)

-- ---- clear

module _ (s : Bytes) where
  pub clear_unread : {e : Unread} {r : Checks} → Err e ≡ line_after s 0x636c656172 → r ≡ unread (too_long e) → r ≡ clear_line s
  unfolding clear_line clear_of
  clear_unread e d = d ∙ line_unread G.clear s clear_word unread clear_of refl e

  module _ {p : ℕ} (e : Ok p ≡ line_after s 0x636c656172) {c : Bool} (g : c ≡ closes_at s p) where
    clear_begun : clear_line s ≡ clear_of (closed (some (record { what = tt; left = drop p s })))
    unfolding clear_line clear_of read_body give
    clear_begun = line_read G.clear s clear_word unread clear_of e

    pub clear_unclosed : {r : Checks} → c ≡ false → r ≡ unread false → r ≡ clear_line s
    unfolding clear_of
    clear_unclosed k d = d ∙ sym (clear_begun ∙ rw (closed_not s p (tt {0}) g (ap not k)))

    pub clear_read : {r : Checks} → c ≡ true → r ≡ no_fault → r ≡ clear_line s
    unfolding clear_of
    clear_read k d = d ∙ sym (clear_begun ∙ rw (closed_is s p (tt {0}) g (ap not k)))
