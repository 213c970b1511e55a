-- A line of a verb by its first word, what follows it and its end.
use mathlib.Core.Path.{◌≡◌, refl, ap, ◌∙◌}
use mathlib.Core.Option.{Option, none, some}
use Prim.Native.Nat.{ℕ}
use lib.ListN.{drop}
use Rattle.syntax.specs.Grammar.{Bytes, Form}
use Rattle.syntax.specs.Readers.{Read, bind, byte, parse, parse_query}
use Rattle.text.specs.Readings.{any_form, whole, closed}

-- a line after its first word
pub after_open : {A : Type 0} (o : Option (Read A))
    → bind (bind o (λ b. bind (byte 41 b.left) (λ u. some (record { what = b.what; left = u.left })))) (λ a. whole (some a)) ≡ closed o
unfolding bind whole closed
after_open none = refl
after_open (some b) = go (byte 41 b.left)
  where
    go : (o : Option (Read (Unit {0}))) → bind (bind o (λ u. some (record { what = b.what; left = u.left }))) (λ a. whole (some a)) ≡ bind o (λ c. whole (some (record { what = b.what; left = c.left })))
    go none = refl
    go (some c) = refl

-- a query's text has no line around it
pub query_whole : (s : Bytes) → parse_query s ≡ whole (any_form (drop 0 s))
unfolding parse_query parse whole any_form
query_whole s = refl

pub query_none : (s : Bytes) → any_form (drop 0 s) ≡ none → parse_query s ≡ none
unfolding whole bind
query_none s e = query_whole s ∙ rw e

pub query_some : (s : Bytes) (q : Form) (e : ℕ) → any_form (drop 0 s) ≡ some (record { what = q; left = drop e s }) → parse_query s ≡ whole (some (record { what = q; left = drop e s }))
query_some s q e f = query_whole s ∙ ap whole f
