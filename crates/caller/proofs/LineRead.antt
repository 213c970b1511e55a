-- The caller line that a text is, as the code reads it.
use mathlib.Core.Path.{◌≡◌, refl, sym, ap, ap₂, ◌∙◌}
use mathlib.Core.List.{List}
use mathlib.Core.Bool.{Bool, true, false, ◌&&◌, ◌||◌, not}
use mathlib.Core.Option.{Option, none, some}
use Prim.Native.Nat.{ℕ, ◌<◌, min}
use native.Mathlib.Omega.{arith}
use lib.Dec.{leb, ltb}
use lib.ListN.{length, drop}
use borrow.Author.Tests.{lt-ltb, le-ltb, leb-true, leb-false}
use Rattle.std.specs.Prelude.{unwrap_or}
use Rattle.refusal.specs.Checks.{shown}
use Rattle.lists.specs.Lists.{every, count_from}
use Rattle.lists.proofs.Laws.{not_both}
use Rattle.syntax.specs.Grammar as G
use Rattle.syntax.specs.Grammar.{Bytes, Entry}
use Rattle.syntax.specs.Limits.{short, is_value}
use Rattle.syntax.specs.Readers.{Reader, bind, ◌>>=◌, give, byte, closes, read_items, read_name, read_body}
use Rattle.calls.specs.Bounds.{caller_bounded}
use Rattle.text.specs.declared.Unread.{Unread}
use Rattle.text.specs.Words.{Some, None, seen, read_end}
use Rattle.text.specs.Keywords.{Ok, Err, part_end, closes_at, too_long}
use Rattle.text.specs.Keywords as K
use Rattle.text.specs.Readings.{closed}
use Rattle.text.proofs.Places.{closed_is, closed_not, caller_word, roles_word}
use Rattle.text.proofs.Views.{skip_none, skip_is}
use Rattle.text.proofs.Found.{part_none, part_some}
use Rattle.text.proofs.Found as T
use Rattle.items.specs.declared.Names.{Names}
use Rattle.items.specs.declared.Entries.{Entries}
use Rattle.items.specs.Items.{first_of, once, names_seen, names_found, entries_seen, entries_found}
use Rattle.items.proofs.NameLists.{names_none, names_some}
use Rattle.items.proofs.EntryLists.{entries_none, entries_some}
use Rattle.caller.specs.declared.CallerLine.{CallerLine}
use Rattle.caller.specs.Lines.{unread_line, caller_made, line_given, line_of, line_after, caller_line, caller_read, line_read}

-- ---- the line of the roles and the entries that are read

at_most : (n m : ℕ) → 4 < m → ltb 4 (min n m) ≡ not (leb n 4)
at_most n m l = go (leb n 4) refl
  where
    go : (t : Bool) → leb n 4 ≡ t → ltb 4 (min n m) ≡ not t
    go true e = let h = leb-true n 4 e in le-ltb 4 (min n m) (omega arith)
    go false e = let h = leb-false n 4 e in lt-ltb 4 (min n m) (omega arith)

not_all : (a b s e : Bool) → (not s || (not e || (not b || not a))) ≡ not (((a && b) && s) && e)
not_all true true true true = refl
not_all true true true false = refl
not_all true true false e = refl
not_all true false true true = refl
not_all true false true false = refl
not_all true false false e = refl
not_all false true true true = refl
not_all false true true false = refl
not_all false true false e = refl
not_all false false true true = refl
not_all false false true false = refl
not_all false false false e = refl

line_same : (s : Bytes) (ws : List Bytes) (es : List Entry) (l k : Bytes)
    → line_read (names_seen s (record { what = ws; left = l })) (entries_seen s (record { what = es; left = k })) ≡ line_given (record { roles = ws; profile = es })
unfolding line_read line_given caller_read caller_made names_seen entries_seen first_of count_from caller_bounded
line_same s ws es l k =
    let m : G.Caller = record { roles = ws; profile = es } in
    ap₂ (λ b r. record { checks = shown b false r false false; caller = caller_made m })
    (ap₂ (λ x y. not (every short ws) || (not (every (λ e. short e.name && is_value e.value) es) || (x || y))) (at_most (length es) 5 (omega arith)) (at_most (length ws) 7 (omega arith))
    ∙ not_all (leb (length ws) 4) (leb (length es) 4) (every short ws) (every (λ e. short e.name && is_value e.value) es))
    (not_both (once (caller_made m).role (caller_made m).roles) (once (caller_made m).name (caller_made m).entries))

-- ---- the line after its first word, by each of its returns

module _ (s : Bytes) (at : ℕ) where
  abbrev roles : Reader (List Bytes)
  roles = read_items closes read_name (length s)

  pub line_roleless : None ≡ part_end s at 0x726f6c6573 → None ≡ line_after s at
  unfolding line_after read_body ◌>>=◌ bind closed seen
  line_roleless e = rw (part_none s at roles_word roles e)

  module _ {q : ℕ} (h : Some q ≡ part_end s at 0x726f6c6573) where
    pub line_unnamed : None ≡ names_found s q → None ≡ line_after s at
    unfolding line_after read_body ◌>>=◌ bind closed seen
    line_unnamed e = rw (part_some s at roles_word h roles, names_none s q e)

    module _ {rs : Names} (u : Some rs ≡ names_found s q) where
      pub line_unended : None ≡ read_end s (byte 41 (drop rs.next s)) → None ≡ line_after s at
      unfolding line_after read_body ◌>>=◌ bind closed seen
      line_unended d = names_some s q u (λ ws e m. rw (part_some s at roles_word h roles, e, skip_none s rs.next 41 d))

      module _ {p : ℕ} (d : Some p ≡ read_end s (byte 41 (drop rs.next s))) where
        pub line_profileless : None ≡ entries_found s p → None ≡ line_after s at
        unfolding line_after read_body ◌>>=◌ bind closed seen
        line_profileless g = names_some s q u (λ ws e m. rw (part_some s at roles_word h roles, e, skip_is s rs.next 41 d, entries_none s p g))

        module _ {es : Entries} (v : Some es ≡ entries_found s p) {c : Bool} (y : c ≡ closes_at s es.next) where
          line_entries : {X : Type 0} → ((ws : List Bytes) (xs : List Entry) → line_read rs es ≡ line_given (record { roles = ws; profile = xs })
              → line_after s at ≡ seen line_given (closed (some (record { what = record { roles = ws; profile = xs }; left = drop es.next s }))) → X) → X
          unfolding line_after read_body ◌>>=◌ bind give
          line_entries k =
              names_some s q u (λ ws e m. entries_some s p v (λ xs a b.
              k ws xs (ap₂ line_read m b ∙ line_same s ws xs (drop rs.next s) (drop es.next s)) (rw (part_some s at roles_word h roles, e, skip_is s rs.next 41 d, a))))

          pub line_unclosed : c ≡ false → None ≡ line_after s at
          unfolding seen
          line_unclosed t = line_entries (λ ws xs a e. sym (e ∙ ap (seen line_given) (closed_not s es.next _ y (ap not t))))

          pub line_whole : {x : CallerLine} → c ≡ true → x ≡ line_read rs es → Some x ≡ line_after s at
          unfolding seen
          line_whole t f = line_entries (λ ws xs a e. ap Some (f ∙ a) ∙ sym (e ∙ ap (seen line_given) (closed_is s es.next _ y (ap not t))))

-- ---- the whole line

line_or : (o : Option G.Caller) → unwrap_or (seen line_given o) (unread_line false) ≡ line_of o
unfolding line_of seen
line_or none = refl
line_or (some w) = refl

module _ (s : Bytes) where
  pub line_unread : {e : Unread} {r : CallerLine} → Err e ≡ K.line_after s 0x63616c6c6572 → r ≡ unread_line (too_long e) → r ≡ caller_line s
  unfolding caller_line line_of
  line_unread e d = d ∙ T.line_unread G.caller s caller_word unread_line line_of refl e

  pub line_begun : {p : ℕ} → Ok p ≡ K.line_after s 0x63616c6c6572 → unwrap_or (line_after s p) (unread_line false) ≡ caller_line s
  unfolding caller_line line_after
  line_begun {p} e = line_or (closed (read_body G.caller (length s) (drop p s))) ∙ sym (T.line_read G.caller s caller_word unread_line line_of e)
