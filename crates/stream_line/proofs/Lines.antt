-- The stream line that a text is, as the code reads it.
use mathlib.Core.Path.{◌≡◌, refl, sym, ap, ◌∙◌}
use mathlib.Core.List.{List}
use mathlib.Core.Bool.{Bool, true, false, ◌&&◌, ◌||◌, not, cond}
use mathlib.Core.Option.{Option, none, some}
use Prim.Native.Nat.{ℕ, min}
use lib.Dec.{leb, eqb}
use lib.ListN.{length, take, drop}
use Rattle.std.specs.Prelude.{unwrap_or}
use Rattle.refusal.specs.declared.Checks.{Checks}
use Rattle.refusal.specs.Checks.{shown}
use Rattle.lists.specs.Lists.{every, distinct}
use Rattle.lists.proofs.Laws.{not_both}
use Rattle.syntax.specs.Grammar as G
use Rattle.syntax.specs.Grammar.{Bytes, Stream}
use Rattle.syntax.specs.Limits.{short}
use Rattle.syntax.specs.Readers.{◌>>=◌, ◌>>◌, bind, give, byte, read_body}
use Rattle.calls.specs.Bounds.{stream_bounded}
use Rattle.text.specs.declared.Name.{Name}
use Rattle.text.specs.declared.Unread.{Unread}
use Rattle.text.specs.Words.{Some, None, seen, read_end, code_of, name_found}
use Rattle.text.specs.Keywords.{Ok, Err, closes_at, too_long}
use Rattle.text.specs.Keywords as K
use Rattle.text.specs.Readings.{closed}
use Rattle.text.proofs.Places.{closed_is, closed_not, stream_word}
use Rattle.text.proofs.Views.{skip_none, skip_is}
use Rattle.text.proofs.Found.{name_none, name_some}
use Rattle.text.proofs.Found as T
use Rattle.items.specs.declared.Names.{Names}
use Rattle.items.specs.Items.{code_short, names_seen, names_found}
use Rattle.items.proofs.NameLists.{some_names_none, some_names_empty_none, some_names_some}
use Rattle.items.proofs.Sameness.{once_is}
use Rattle.schema.specs.Schemas.{code_free}
use Rattle.stream_line.specs.declared.StreamLine.{StreamLine}
use Rattle.stream_line.specs.Declaring.{unread_line, stream_made, read_line, line_read, line_of, line_after, stream_line}
use Rattle.stream_line.proofs.Flags.{few_columns}

-- ---- the line of a name and columns

-- by its parts
pub line_made : (n : Name) (cs : Names) {long over o f : Bool} {m : ℕ} {c : Checks} → length cs.codes ≡ 6 → long ≡ (n.long || cs.long) → over ≡ (long || leb 7 cs.count) → m ≡ min cs.count 6
    → o ≡ distinct eqb (take m cs.codes) → f ≡ (code_free n.code && every code_free (take cs.count cs.codes)) → c ≡ shown over false (not o) (not f) false
    → record { checks = c; stream = record { name = n.code; count = cs.count; columns = cs.codes } } ≡ line_read n cs
unfolding line_read
line_made n cs l p q t r s e = rw (e, q, p, once_is cs.codes cs.count l t r, s)

-- by what the text says
line_said : (s w : Bytes) (xs : List Bytes) (l : Bytes) (n : Name) (cs : Names) → n.long ≡ not (short w) → n.code ≡ cond (short w) (code_of w) 0 → cs ≡ names_seen s (record { what = xs; left = l })
    → line_read n cs ≡ read_line (record { name = w; columns = xs })
unfolding line_read read_line stream_made stream_bounded names_seen code_short every
line_said s w xs l n cs a b c =
    rw (a, b, c, few_columns (length xs), not_both (short w) (every short xs), not_both (short w && every short xs) (leb (length xs) 6))

-- ---- the line after its first word, by each of its returns

module _ (s : Bytes) (at : ℕ) where
  pub line_unspaced : None ≡ read_end s (byte 32 (drop at s)) → None ≡ line_after s at
  unfolding line_after read_body ◌>>=◌ ◌>>◌ bind closed seen
  line_unspaced e = rw (skip_none s at 32 e)

  module _ {p : ℕ} (q : Some p ≡ read_end s (byte 32 (drop at s))) where
    pub line_nameless : None ≡ name_found s p → None ≡ line_after s at
    unfolding line_after read_body ◌>>=◌ ◌>>◌ bind closed seen
    line_nameless e = rw (skip_is s at 32 q, name_none s p e)

    module _ {n : Name} (m : Some n ≡ name_found s p) where
      pub line_listless : None ≡ names_found s n.next → None ≡ line_after s at
      unfolding line_after read_body ◌>>=◌ ◌>>◌ bind closed seen
      line_listless e = name_some s p m (λ v r i j. rw (skip_is s at 32 q, r, some_names_none s n.next e))

      module _ {cs : Names} (g : Some cs ≡ names_found s n.next) where
        pub line_empty : cs.count ≡ 0 → None ≡ line_after s at
        unfolding line_after read_body ◌>>=◌ ◌>>◌ bind closed seen
        line_empty z = name_some s p m (λ v r i j. rw (skip_is s at 32 q, r, some_names_empty_none s n.next g z))

        module _ (z : cs.count ≡ 0 → ⊥) {y : Bool} (l : y ≡ closes_at s cs.next) where
          pub line_unclosed : y ≡ false → None ≡ line_after s at
          unfolding line_after read_body ◌>>=◌ ◌>>◌ bind give seen
          line_unclosed k =
              name_some s p m (λ v r i j. some_names_some s n.next g z (λ xs t u.
              rw (skip_is s at 32 q, r, t, closed_not s cs.next {A = Stream} (record { name = v; columns = xs }) l (ap not k))))

          pub line_whole : {x : StreamLine} → y ≡ true → x ≡ line_read n cs → Some x ≡ line_after s at
          unfolding line_after read_body ◌>>=◌ ◌>>◌ bind give seen
          line_whole k d =
              name_some s p m (λ v r i j. some_names_some s n.next g z (λ xs t u.
              ap Some (d ∙ line_said s v xs (drop cs.next s) n cs i j u) ∙ rw (skip_is s at 32 q, r, t, closed_is s cs.next {A = Stream} (record { name = v; columns = xs }) l (ap not k))))

-- ---- the whole line

line_or : (o : Option Stream) → unwrap_or (seen read_line o) (unread_line false) ≡ line_of o
unfolding line_of seen
line_or none = refl
line_or (some s) = refl

module _ (s : Bytes) where
  pub line_unread : {e : Unread} {r : StreamLine} → Err e ≡ K.line_after s 0x73747265616d → r ≡ unread_line (too_long e) → r ≡ stream_line s
  unfolding stream_line line_of
  line_unread e d = d ∙ T.line_unread G.stream s stream_word unread_line line_of refl e

  pub line_begun : {p : ℕ} → Ok p ≡ K.line_after s 0x73747265616d → unwrap_or (line_after s p) (unread_line false) ≡ stream_line s
  unfolding stream_line line_after
  line_begun {p} e = line_or (closed (read_body G.stream (length s) (drop p s))) ∙ sym (T.line_read G.stream s stream_word unread_line line_of e)
