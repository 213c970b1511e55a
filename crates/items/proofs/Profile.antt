-- The profile entry at a place as the code reads it.
use mathlib.Core.Path.{◌≡◌, ap, ◌∙◌}
use mathlib.Core.Bool.{Bool, ◌||◌}
use mathlib.Core.Option.{none}
use Prim.Native.Nat.{ℕ, ◌-◌}
use native.Mathlib.Omega.{arith}
use lib.IntN.{ℤ, pos}
use lib.ListN.{length, drop, length-drop}
use Rattle.std.specs.Prelude.{is_none, unwrap_or}
use Rattle.lists.proofs.Laws.{not_both}
use Rattle.syntax.specs.Grammar.{Bytes}
use Rattle.syntax.specs.Readers.{◌>>=◌, ◌>>◌, bind, give, byte, read_entry}
use Rattle.syntax.specs.Limits.{short, is_value}
use Rattle.text.specs.declared.Name.{Name}
use Rattle.text.specs.declared.Number.{Number}
use Rattle.text.specs.Words.{Found, Some, None, seen, left_at, read_end, name_found, number_found, value_given}
use Rattle.text.specs.Keywords.{opening_end}
use Rattle.text.proofs.Views.{skip_none, skip_is, skip_within}
use Rattle.text.proofs.Places.{self_word}
use Rattle.text.proofs.Found.{name_none, name_some, number_none, number_some, value_is, value_flag, value_or, open_none, open_some}
use Rattle.items.specs.Items.{code_short, entry_seen, entry_found}

module _ (s : Bytes) (at : ℕ) where
  missing : read_entry (drop at s) ≡ none → None ≡ entry_found s at
  unfolding entry_found seen
  missing e = rw e

  pub entry_unopened : None ≡ opening_end s at 0x73656c66 → None ≡ entry_found s at
  unfolding read_entry ◌>>=◌ bind
  entry_unopened o = missing (rw (open_none s at self_word o))

  module _ {p : ℕ} (o : Some p ≡ opening_end s at 0x73656c66) where
    pub entry_unspaced : None ≡ read_end s (byte 32 (drop p s)) → None ≡ entry_found s at
    unfolding read_entry ◌>>=◌ ◌>>◌ bind
    entry_unspaced f = missing (rw (open_some s at self_word o, skip_none s p 32 f))

    module _ {q : ℕ} (c : Some q ≡ read_end s (byte 32 (drop p s))) where
      pub entry_nameless : None ≡ name_found s q → None ≡ entry_found s at
      unfolding read_entry ◌>>=◌ ◌>>◌ bind
      entry_nameless f = missing (rw (open_some s at self_word o, skip_is s p 32 c, name_none s q f))

      module _ {n : Name} (f : Some n ≡ name_found s q) where
        pub entry_unparted : None ≡ read_end s (byte 32 (drop n.next s)) → None ≡ entry_found s at
        unfolding read_entry ◌>>=◌ ◌>>◌ bind
        entry_unparted g = name_some s q f (λ w r i j. missing (rw (open_some s at self_word o, skip_is s p 32 c, r, skip_none s n.next 32 g)))

        module _ {t : ℕ} (g : Some t ≡ read_end s (byte 32 (drop n.next s))) where
          pub entry_valueless : None ≡ number_found s t → None ≡ entry_found s at
          unfolding read_entry ◌>>=◌ ◌>>◌ bind
          entry_valueless h = name_some s q f (λ w r i j. missing (rw (open_some s at self_word o, skip_is s p 32 c, r, skip_is s n.next 32 g, number_none s t h)))

          module _ {z : Number} (h : Some z ≡ number_found s t) where
            pub entry_unclosed : None ≡ read_end s (byte 41 (drop z.next s)) → None ≡ entry_found s at
            unfolding read_entry ◌>>=◌ ◌>>◌ bind
            entry_unclosed k =
                name_some s q f (λ w r i j. number_some s t h (λ a u b.
                missing (rw (open_some s at self_word o, skip_is s p 32 c, r, skip_is s n.next 32 g, u, skip_none s z.next 41 k))))

            pub entry_whole : {e : ℕ} {v : Found ℤ} {b : Bool} {x : ℤ} → Some e ≡ read_end s (byte 41 (drop z.next s)) → v ≡ value_given z.value → b ≡ is_none v → x ≡ unwrap_or v (pos 0)
                → Some (record { over = n.long || b; name = n.code; value = x; next = e }) ≡ entry_found s at
            unfolding read_entry ◌>>=◌ ◌>>◌ bind give entry_found seen entry_seen left_at code_short
            entry_whole {e} {v} {b} {x} k l m y =
                name_some s q f (λ w r i j. number_some s t h (λ a u d.
                let x' = skip_within s z.next 41 k in
                let o' : length s - length (drop e s) ≡ e = omega (arith, length-drop e s) in
                let l' = value_is a l d in
                let m' = m ∙ ap is_none l' ∙ value_flag a in
                let y' = y ∙ ap (λ o. unwrap_or o (pos 0)) l' ∙ value_or a in
                rw (open_some s at self_word o, skip_is s p 32 c, r, skip_is s n.next 32 g, u, skip_is s z.next 41 k, o', i, j, m', y', not_both (short w) (is_value a))))
