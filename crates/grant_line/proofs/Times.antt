-- What is read of the times and of the window of a grant line: each return of the code that reads them.
use mathlib.Core.Path.{◌≡◌, refl, sym, ap, ◌∙◌}
use mathlib.Core.Bool.{Bool, true, false, ◌||◌, not}
use mathlib.Core.Option.{Option, none, some}
use Prim.Native.Nat.{ℕ, ◌≤◌, ◌<◌}
use native.Mathlib.Omega.{arith}
use lib.IntN.{ℤ}
use lib.ListN.{length, drop}
use mir.Syntax.{w64}
use mir.Val.{Fits}
use Rattle.std.specs.Prelude.{is_some, is_none, unwrap_or}
use Rattle.syntax.specs.Grammar.{Bytes, Span}
use Rattle.syntax.specs.Limits.{is_time}
use Rattle.syntax.specs.Readers.{Read, Reader, bind, ◌>>=◌, ◌>>◌, give, byte, read_optional, read_number, read_limit, read_window}
use Rattle.text.specs.declared.Number.{Number}
use Rattle.text.specs.Words.{Found, Some, None, seen, left_at, read_end, name_of, number_found, time_given, time_kept}
use Rattle.text.specs.Keywords.{part_end}
use Rattle.text.proofs.Codes.{code_back, code_keyword}
use Rattle.text.proofs.Places.{Spells, window_word}
use Rattle.text.proofs.Views.{skip_none, skip_is, skip_within}
use Rattle.text.proofs.Found.{number_none, number_some, time_is, time_flag, time_or, part_some, part_unopened, part_opened}
use Rattle.text.proofs.Runs.{place_left}
use Rattle.grant_line.specs.declared.Limit.{Limit}
use Rattle.grant_line.specs.declared.Window.{Window}
use Rattle.grant_line.specs.Parts.{limit_over, limit_kept, limit_seen, limit_at, window_of, window_seen, window_at, read_span, span_at}

-- ---- a first or a last time

-- what is kept of a number that is a time or none
turned : (o : Bool) {b : Bool} → b ≡ not o → o ≡ not b
turned true e = rw e
turned false e = rw e

beyond_is : (z : ℤ) {t : Found ℕ} {o : Bool} → t ≡ time_given z → is_some t ≡ not o → o ≡ not (is_time z)
beyond_is z {t} {o} e f = turned o f ∙ ap (λ k. is_none k) e ∙ time_flag z

kept_is : (z : ℤ) {t : Found ℕ} {v : ℕ} → t ≡ time_given z → v ≡ unwrap_or t 0 → v ≡ time_kept z
kept_is z e f = f ∙ ap (λ k. unwrap_or k 0) e ∙ time_or z

module _ (s : Bytes) (at word : ℕ) (above : 0 < word) (inside : at ≤ length s) (fit : Fits w64 word) where
  spells : Spells word (name_of word)
  spells = record { keyword = code_keyword word above (omega arith); code = sym (code_back word (omega arith)) }

  pub limit_absent : None ≡ part_end s at word → Some (record { over = false; value = 4294967295; next = at }) ≡ limit_at s at (name_of word)
  unfolding limit_at limit_seen seen left_at limit_over limit_kept read_limit read_optional give
  limit_absent e = rw (part_unopened s at spells e, place_left s at inside)

  module _ {p : ℕ} (e : Some p ≡ part_end s at word) where
    limit_is : limit_at s at (name_of word) ≡ seen (limit_seen s) (bind ((read_number >>= λ n. give (some n)) (drop p s)) (λ a. bind (byte 41 a.left) (λ u. some (record { what = a.what; left = u.left }))))
    unfolding limit_at read_limit read_optional
    limit_is = rw (part_opened s at spells e, part_some s at spells e (read_number >>= λ n. give (some n)))

    pub limit_unspaced : {r : Found Limit} → None ≡ read_end s (byte 32 (drop p s)) → r ≡ None → r ≡ limit_at s at (name_of word)
    unfolding seen read_number ◌>>=◌ ◌>>◌ bind
    limit_unspaced u d = d ∙ sym (limit_is ∙ rw (skip_none s p 32 u))

    module _ {q : ℕ} (sp : Some q ≡ read_end s (byte 32 (drop p s))) where
      pub limit_unread : {r : Found Limit} → None ≡ number_found s q → r ≡ None → r ≡ limit_at s at (name_of word)
      unfolding seen read_number ◌>>=◌ ◌>>◌ bind
      limit_unread f d = d ∙ sym (limit_is ∙ rw (skip_is s p 32 sp, number_none s q f))

      module _ {n : Number} (f : Some n ≡ number_found s q) where
        pub limit_unclosed : {r : Found Limit} → None ≡ read_end s (byte 41 (drop n.next s)) → r ≡ None → r ≡ limit_at s at (name_of word)
        unfolding seen read_number ◌>>=◌ ◌>>◌ bind give
        limit_unclosed v d = number_some s q f (λ z g w. d ∙ sym (limit_is ∙ rw (skip_is s p 32 sp, g, skip_none s n.next 41 v)))

        pub limit_done : {i v : ℕ} {t : Found ℕ} {o : Bool} → Some i ≡ read_end s (byte 41 (drop n.next s)) → t ≡ time_given n.value → is_some t ≡ not o → v ≡ unwrap_or t 0
            → Some (record { over = o; value = v; next = i }) ≡ limit_at s at (name_of word)
        unfolding seen limit_seen left_at limit_over limit_kept read_number ◌>>=◌ ◌>>◌ bind give
        limit_done {i} u k a b =
            number_some s q f (λ z g w.
            let m = time_is z k w in
            sym (limit_is ∙ rw (skip_is s p 32 sp, g, skip_is s n.next 41 u, place_left s i (skip_within s n.next 41 u), sym (beyond_is z m a), sym (kept_is z m b))))

pub ruleset limit_ends = (limit_absent, limit_unspaced, limit_unread, limit_unclosed, limit_done)

-- ---- the two numbers of a window

module _ (s : Bytes) (at : ℕ) where
  unspan : {r : Found Window} → read_span (drop at s) ≡ none → r ≡ None → r ≡ span_at s at
  unfolding span_at seen
  unspan e d = d ∙ sym (rw e)

  pub span_unspaced : {r : Found Window} → None ≡ read_end s (byte 32 (drop at s)) → r ≡ None → r ≡ span_at s at
  unfolding read_span read_number ◌>>=◌ ◌>>◌ bind
  span_unspaced u d = unspan (rw (skip_none s at 32 u)) d

  module _ {p : ℕ} (sp : Some p ≡ read_end s (byte 32 (drop at s))) where
    pub span_sizeless : {r : Found Window} → None ≡ number_found s p → r ≡ None → r ≡ span_at s at
    unfolding read_span read_number ◌>>=◌ ◌>>◌ bind
    span_sizeless f d = unspan (rw (skip_is s at 32 sp, number_none s p f)) d

    module _ {m : Number} (f : Some m ≡ number_found s p) where
      pub span_alone : {r : Found Window} → None ≡ read_end s (byte 32 (drop m.next s)) → r ≡ None → r ≡ span_at s at
      unfolding read_span read_number ◌>>=◌ ◌>>◌ bind
      span_alone v d = number_some s p f (λ z g w. unspan (rw (skip_is s at 32 sp, g, skip_none s m.next 32 v)) d)

      module _ {q : ℕ} (sq : Some q ≡ read_end s (byte 32 (drop m.next s))) where
        pub span_offsetless : {r : Found Window} → None ≡ number_found s q → r ≡ None → r ≡ span_at s at
        unfolding read_span read_number ◌>>=◌ ◌>>◌ bind
        span_offsetless h d = number_some s p f (λ z g w. unspan (rw (skip_is s at 32 sp, g, skip_is s m.next 32 sq, number_none s q h)) d)

        module _ {n : Number} (h : Some n ≡ number_found s q) where
          pub span_unclosed : {r : Found Window} → None ≡ read_end s (byte 41 (drop n.next s)) → r ≡ None → r ≡ span_at s at
          unfolding read_span read_number ◌>>=◌ ◌>>◌ bind
          span_unclosed x d =
              number_some s p f (λ z g w. number_some s q h (λ y i j. unspan (rw (skip_is s at 32 sp, g, skip_is s m.next 32 sq, i, skip_none s n.next 41 x)) d))

          pub span_done : {e x y : ℕ} {t o : Found ℕ} {over : Bool} (a b : Bool) → Some e ≡ read_end s (byte 41 (drop n.next s)) → t ≡ time_given m.value → o ≡ time_given n.value → is_some t ≡ not a → is_some o ≡ not b → over ≡ (a || b)
              → x ≡ unwrap_or t 0 → y ≡ unwrap_or o 0 → Some (record { given = true; over = over; size = x; offset = y; next = e }) ≡ span_at s at
          unfolding span_at seen window_seen left_at window_of read_span read_number ◌>>=◌ ◌>>◌ bind give
          span_done {e} a b u tm tn ta tb ov vx vy =
              number_some s p f (λ z g w. number_some s q h
              (λ k i j.
              let l = time_is z tm w in
              let c = time_is k tn j in
              sym (rw (skip_is s at 32 sp, g, skip_is s m.next 32 sq, i, skip_is s n.next 41 u, place_left s e (skip_within s n.next 41 u), ov, sym (beyond_is z l ta), sym (beyond_is k c tb), sym (kept_is z l vx), sym (kept_is k c vy)))))

pub ruleset span_ends = (span_unspaced, span_sizeless, span_alone, span_offsetless, span_unclosed, span_done)

-- ---- the window

-- the two numbers inside the part, with its bracket
abbrev two_numbers : Reader (Option Span)
two_numbers = read_number >>= λ size. read_number >>= λ offset. give (some (record { size = size; offset = offset }))

abbrev shut : Read (Option Span) → Option (Read (Option Span))
shut a = bind (byte 41 a.left) (λ u. some (record { what = a.what; left = u.left }))

abbrev spanned : Read ℤ → Read ℤ → Read (Option Span)
spanned a b = record { what = some (record { size = a.what; offset = b.what }); left = b.left }

span_shut : (bs : Bytes) → bind (two_numbers bs) shut ≡ read_span bs
unfolding read_span ◌>>=◌ ◌>>◌ give bind
span_shut bs = go (read_number bs)
  where
    inner : (a : Read ℤ) (o : Option (Read ℤ)) → bind (bind o (λ b. some (spanned a b))) shut ≡ bind o (λ b. shut (spanned a b))
    inner a none = refl
    inner a (some b) = refl

    go : (o : Option (Read ℤ)) → bind (bind o (λ a. bind (read_number a.left) (λ b. some (spanned a b)))) shut ≡ bind o (λ a. bind (read_number a.left) (λ b. shut (spanned a b)))
    go none = refl
    go (some a) = inner a (read_number a.left)

module _ (s : Bytes) (at : ℕ) where
  pub window_absent : at ≤ length s → None ≡ part_end s at 0x77696e646f77 → Some (record { given = false; over = false; size = 0; offset = 0; next = at }) ≡ window_at s at
  unfolding window_at seen window_seen left_at window_of read_window read_optional give
  window_absent inside e = rw (part_unopened s at window_word e, place_left s at inside)

  pub window_present : {p : ℕ} {r : Found Window} → Some p ≡ part_end s at 0x77696e646f77 → r ≡ span_at s p → r ≡ window_at s at
  unfolding window_at read_window read_optional span_at
  window_present {p} e d = rw (part_opened s at window_word e, part_some s at window_word e two_numbers, span_shut (drop p s)) d

pub ruleset window_ends = (window_absent, window_present)
