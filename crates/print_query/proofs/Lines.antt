-- A line: counted over no bytes, and written where there is room.
use mathlib.Core.Path.{◌≡◌, refl, sym, ap, ◌∙◌}
use mathlib.Core.List.{List, [], ◌∷◌, ◌++◌}
use mathlib.Core.Bool.{Bool, true, false, cond}
use Prim.Native.Nat.{ℕ, ◌<◌, ◌≤◌}
use native.Mathlib.Omega.{arith}
use lib.ListN.{length, drop}
use borrow.Author.Tests.{lt-ltb, le-ltb, le-leb, lt-leb}
use Rattle.syntax.specs.Grammar.{Bytes}
use Rattle.model.specs.Queries.{Schema}
use Rattle.query.specs.Forms.{Words}
use Rattle.query.specs.declared.Form.{Form}
use Rattle.print.specs.Writing.{furthest, Put}
use Rattle.print.proofs.Whole.{counted, counted_below, written}
use Rattle.print_query.specs.Texts.{table_text, has_room, Lined}

no_bytes : (m : Bytes) → length m ≡ 0 → m ≡ []
no_bytes [] e = refl
no_bytes (b ∷ bs) e = absurd (omega arith)

-- what no bytes leave is what was there
none_before : (a m : Bytes) → length a ≡ 0 → a ++ m ≡ m
none_before a m e = ap (λ x. x ++ m) (no_bytes a e)

module _ (t m : Bytes) where
  room_far : furthest ≤ length t → has_room t m ≡ false
  unfolding has_room
  room_far h = rw (le-ltb (length t) furthest h)

  room_short : length t < furthest → length m < length t → has_room t m ≡ false
  unfolding has_room
  room_short h k = rw (lt-ltb (length t) furthest h, lt-leb (length t) (length m) k)

  room_enough : length t < furthest → length t ≤ length m → has_room t m ≡ true
  unfolding has_room
  room_enough h k = rw (lt-ltb (length t) furthest h, le-leb (length t) (length m) k)

module _ (d : Schema) (w : Words) (fs : List Form) (m : Bytes) {m₁ : Bytes} {n : ℕ} (x : Put (table_text d w fs) [] 0 m₁ n) (e : length m₁ ≡ 0) where
  abbrev text : Bytes
  text = table_text d w fs []

  refused : has_room text m ≡ false → Lined text m (m₁ ++ m) (record { ok = false; length = n })
  refused h = record { ok = sym h; counted = counted x; bytes = none_before m₁ m e ∙ sym (ap (λ (b : Bool). cond b (text ++ drop (length text) m) m) h) }

  pub line_far : 4294967295 ≤ n → Lined text m (m₁ ++ m) (record { ok = false; length = n })
  line_far h = refused (room_far text m (omega (arith, counted x)))

  pub line_short : n < 4294967295 → length (m₁ ++ m) < n → Lined text m (m₁ ++ m) (record { ok = false; length = n })
  line_short h k = let c = counted_below x h in let l = ap length (none_before m₁ m e) in refused (room_short text m (omega arith) (omega arith))

  pub line_done : {m₂ : Bytes} {n₂ : ℕ} → n < 4294967295 → n ≤ length (m₁ ++ m) → Put (table_text d w fs) (m₁ ++ m) 0 m₂ n₂ → Lined text m m₂ (record { ok = true; length = n₂ })
  line_done {m₂} {n₂} h k y =
      let c = counted_below x h in
      let a = none_before m₁ m e in
      let l = ap length a in
      let g = room_enough text m (omega arith) (omega arith) in
      let b = counted y in
      let f : n₂ < furthest = omega arith in
      record {
        ok = sym g;
        counted = b;
        bytes = written y f (omega arith) ∙ ap (λ z. text ++ drop (length text) z) a ∙ sym (ap (λ (b : Bool). cond b (text ++ drop (length text) m) m) g);
      }

pub ruleset line_ends = (line_far, line_short, line_done)
