-- The line as the code makes it of the roles and the entries that it read.
use mathlib.Core.Path.{◌≡◌, ap, ap₂, ◌∙◌}
use mathlib.Core.List.{List}
use mathlib.Core.Bool.{Bool, true, false, ◌||◌, not}
use Prim.Native.Nat.{ℕ, ◌≤◌, ◌<◌}
use lib.Dec.{ltb}
use lib.ListN.{take}
use borrow.Author.Tests.{lt-ltb, le-ltb}
use Rattle.refusal.specs.declared.Checks.{Checks}
use Rattle.refusal.specs.Checks.{unread, shown}
use Rattle.lists.specs.Lists.{distinct, same_list}
use Rattle.items.specs.declared.Names.{Names}
use Rattle.items.specs.declared.Entries.{Entries}
use Rattle.items.specs.Items.{once}
use Rattle.caller.specs.declared.Caller.{Caller}
use Rattle.caller.specs.Callers.{no_caller, names_of}
use Rattle.caller.specs.Lines.{unread_line, caller_read, line_read}

pub unread_made : (long : Bool) {k : Checks} {w : Caller} → k ≡ unread long → w ≡ no_caller → record { checks = k; caller = w } ≡ unread_line long
unfolding unread_line
unread_made long e d = ap₂ (λ k w. record { checks = k; caller = w }) e d

module _ (rs : Names) (es : Entries) where
  abbrev bound : Bool
  bound = (line_read rs es).checks.bound

  -- ---- bounds

  pub beyond_long : rs.long ≡ true → true ≡ bound
  unfolding line_read
  beyond_long e = rw e

  module _ (e : rs.long ≡ false) where
    pub beyond_over : es.over ≡ true → true ≡ bound
    unfolding line_read
    beyond_over f = rw (e, f)

    module _ (f : es.over ≡ false) where
      pub beyond_entries : 4 < es.count → true ≡ bound
      unfolding line_read
      beyond_entries h = rw (e, f, lt-ltb 4 es.count h)

      pub beyond_roles : es.count ≤ 4 → ltb 4 rs.count ≡ bound
      unfolding line_read
      beyond_roles h = rw (e, f, le-ltb 4 es.count h)

  -- ---- the caller and the line

  pub caller_put : {xs : List ℕ} → xs ≡ take 4 rs.codes → record { roles = rs.count; role = xs; entries = es.count; name = es.names; value = es.values } ≡ caller_read rs es
  unfolding caller_read
  caller_put e = rw e

  pub line_put : {w : Caller} {a b c d : Bool} {k : Checks} → w ≡ caller_read rs es → (a ≡ once w.role rs.count) × (a ≡ distinct same_list (names_of w.role rs.count))
      → (b ≡ once w.name es.count) × (b ≡ distinct same_list (names_of w.name es.count)) → c ≡ (not a || not b) → d ≡ bound → k ≡ shown d false c false false → record { checks = k; caller = w } ≡ line_read rs es
  unfolding line_read caller_read
  line_put e p q f g h =
      ap₂ (λ k w. record { checks = k; caller = w })
      (h ∙ ap₂ (λ d c. shown d false c false false) g (f ∙ ap₂ (λ a b. not a || not b) (p.0 ∙ ap (λ w. once w.role rs.count) e) (q.0 ∙ ap (λ w. once w.name es.count) e)))
      e

pub ruleset beyond_ends = (beyond_long, beyond_over, beyond_entries, beyond_roles)
