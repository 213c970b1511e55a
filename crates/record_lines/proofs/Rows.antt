-- The `row` line: each return of the code that reads it.
use mathlib.Core.Path.{◌≡◌, refl, sym, ap, ◌∙◌}
use mathlib.Core.List.{List}
use mathlib.Core.Bool.{Bool, true, false, ◌||◌, not}
use mathlib.Core.Option.{Option, none, some}
use Prim.Native.Nat.{ℕ, min}
use native.Mathlib.Omega.{arith}
use lib.IntN.{ℤ, pos}
use lib.Dec.{leb, ltb}
use lib.ListN.{length, drop, replicate}
use borrow.Author.Tests.{ltb-true, ltb-false, le-leb, lt-leb}
use Rattle.refusal.specs.Checks.{unread, shown}
use Rattle.refusal.specs.declared.Checks.{Checks}
use Rattle.lists.specs.Lists.{every}
use Rattle.lists.proofs.Laws.{not_both}
use Rattle.std.specs.Prelude.{unwrap_or}
use Rattle.syntax.specs.Grammar as G
use Rattle.syntax.specs.Grammar.{Bytes}
use Rattle.syntax.specs.Limits.{max_columns, is_value, short}
use Rattle.syntax.specs.Readers.{◌>>◌, ◌>>=◌, bind, give, byte, read_body}
use Rattle.calls.specs.Bounds.{row_bounded}
use Rattle.text.specs.declared.Name.{Name}
use Rattle.text.specs.declared.Unread.{Unread}
use Rattle.text.specs.Words.{Some, None, seen, read_end, name_found}
use Rattle.text.specs.Keywords.{Ok, Err, line_after, too_long, closes_at}
use Rattle.text.specs.Readings.{closed}
use Rattle.text.proofs.Places.{closed_is, closed_not, row_word}
use Rattle.text.proofs.Views.{skip_none, skip_is}
use Rattle.text.proofs.Found.{name_none, name_some, line_unread, line_read}
use Rattle.items.specs.declared.Values.{Values}
use Rattle.items.specs.Items.{code_short, values_seen, values_found}
use Rattle.items.proofs.ValueLists.{some_values_none, some_values_empty_none, some_values_some}
use Rattle.record_lines.specs.Lines.{unread_row, row_given, row_of, row_after, row_line, row_read}
use Rattle.record_lines.specs.declared.RowLine.{RowLine}

pub row_blank : {long : Bool} {c : Checks} → c ≡ unread long → record { checks = c; name = 0; count = 0; values = replicate max_columns (pos 0) } ≡ unread_row long
unfolding unread_row
row_blank e = rw e

-- ---- the line of a name and values, as the code makes it

pub row_made : (n : Name) (vs : Values) {b : Bool} {c : Checks} → b ≡ (n.long || vs.wide) → c ≡ shown b false false (leb 7 vs.count) false
    → record { checks = c; name = n.code; count = vs.count; values = vs.values } ≡ row_read n vs
unfolding row_read
row_made n vs e d = rw (d, e)

more_than_six : (n : ℕ) → leb 7 (min n 7) ≡ ltb 6 n
more_than_six n = go (ltb 6 n) refl
  where
    go : (b : Bool) → ltb 6 n ≡ b → leb 7 (min n 7) ≡ b
    go true e = let h = ltb-true 6 n e in le-leb 7 (min n 7) (omega arith)
    go false e = let h = ltb-false 6 n e in lt-leb 7 (min n 7) (omega arith)

-- it is the line that was read
row_same : (s w : Bytes) (xs : List ℤ) (left : Bytes) (n : Name) {vs : Values} → n.long ≡ not (short w) → n.code ≡ code_short w → vs ≡ values_seen s (record { what = xs; left = left })
    → row_read n vs ≡ row_given (record { name = w; values = xs })
unfolding row_read row_given values_seen row_bounded
row_same s w xs left n l c e = rw (l, c, e, more_than_six (length xs), not_both (short w) (every is_value xs))

-- ---- the line after its first word, by each of its returns

module _ (s : Bytes) (at : ℕ) where
  pub row_unspaced : None ≡ read_end s (byte 32 (drop at s)) → None ≡ row_after s at
  unfolding row_after read_body ◌>>◌ bind closed seen
  row_unspaced e = rw (skip_none s at 32 e)

  module _ {p : ℕ} (q : Some p ≡ read_end s (byte 32 (drop at s))) where
    pub row_nameless : None ≡ name_found s p → None ≡ row_after s at
    unfolding row_after read_body ◌>>◌ ◌>>=◌ bind closed seen
    row_nameless e = rw (skip_is s at 32 q, name_none s p e)

    module _ {n : Name} (m : Some n ≡ name_found s p) where
      pub row_listless : None ≡ values_found s n.next → None ≡ row_after s at
      unfolding row_after read_body ◌>>◌ ◌>>=◌ bind closed seen
      row_listless e = name_some s p m (λ w y l c. rw (skip_is s at 32 q, y, some_values_none s n.next e))

      module _ {vs : Values} (g : Some vs ≡ values_found s n.next) where
        pub row_empty : vs.count ≡ 0 → None ≡ row_after s at
        unfolding row_after read_body ◌>>◌ ◌>>=◌ bind closed seen
        row_empty z = name_some s p m (λ w y l c. rw (skip_is s at 32 q, y, some_values_empty_none s n.next g z))

        module _ (z : vs.count ≡ 0 → ⊥) {k : Bool} (t : k ≡ closes_at s vs.next) where
          listed : {X : Type 0} → ((w : Bytes) (xs : List ℤ) → row_after s at ≡ seen row_given (closed (some (record { what = record { name = w; values = xs }; left = drop vs.next s })))
              → row_read n vs ≡ row_given (record { name = w; values = xs }) → X) → X
          unfolding row_after read_body ◌>>◌ ◌>>=◌ bind give code_short
          listed j =
              name_some s p m (λ w y l c. some_values_some s n.next g z (λ xs i u.
              j w xs (rw (skip_is s at 32 q, y, i)) (row_same s w xs (drop vs.next s) n l c u)))

          pub row_unclosed : k ≡ false → None ≡ row_after s at
          unfolding seen
          row_unclosed x = listed (λ w xs i u. sym (i ∙ ap (seen row_given) (closed_not s vs.next _ t (ap not x))))

          pub row_whole : {r : RowLine} → k ≡ true → r ≡ row_read n vs → Some r ≡ row_after s at
          unfolding seen
          row_whole x d = listed (λ w xs i u. ap Some (d ∙ u) ∙ sym (i ∙ ap (seen row_given) (closed_is s vs.next _ t (ap not x))))

-- ---- the whole line

row_or : (o : Option G.RowLine) → unwrap_or (seen row_given o) (unread_row false) ≡ row_of o
unfolding row_of seen
row_or none = refl
row_or (some w) = refl

module _ (s : Bytes) where
  pub row_unread : {e : Unread} {r : RowLine} → Err e ≡ line_after s 0x726f77 → r ≡ unread_row (too_long e) → r ≡ row_line s
  unfolding row_line row_of
  row_unread e d = d ∙ line_unread G.row s row_word unread_row row_of refl e

  pub row_begun : {p : ℕ} → Ok p ≡ line_after s 0x726f77 → unwrap_or (row_after s p) (unread_row false) ≡ row_line s
  unfolding row_line row_after
  row_begun {p} e = row_or (closed (read_body G.row (length s) (drop p s))) ∙ sym (line_read G.row s row_word unread_row row_of e)
