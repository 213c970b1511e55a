-- Refusal 12 of lent names: each return of the code that tests them.
use mathlib.Core.Path.{◌≡◌, refl, sym, ap, ◌∙◌}
use mathlib.Core.List.{List}
use mathlib.Core.Bool.{Bool, true, false, ◌&&◌, not}
use Prim.Native.Nat.{ℕ, zero, suc, ◌+◌, ◌*◌, ◌-◌, ◌<◌, ◌≤◌}
use lib.Dec.{eqb}
use lib.ListN.{length}
use borrow.Author.Tests.{eq-eqb, ne_eqb, lt-ltb, le-ltb, le-leb, lt-leb, not-true, not-false}
use Rattle.lists.proofs.Laws.{and_true, and_false}
use native.Mathlib.Omega.{arith}
use Rattle.schema.specs.Schemas.{filled, streams_in, width_in, zeros, named_from, stream_sound, streams_sound, schema_sound}
use Rattle.schema.proofs.Places.{filled_most, filled_first, zeros_not}

-- ---- how many

pub streams_filled : (ns : List ℕ) {x : ℕ} → x ≡ filled ns 0 4 → x ≡ streams_in ns
unfolding streams_in
streams_filled ns e = e

pub width_none : (ns : List ℕ) (s : ℕ) → 4 ≤ s → 0 ≡ width_in ns s
unfolding width_in
width_none ns s h = rw (le-ltb s 4 h)

pub width_filled : (ns : List ℕ) (s : ℕ) {x : ℕ} → s < 4 → x ≡ filled ns (4 + s * 6) 6 → x ≡ width_in ns s
unfolding width_in
width_filled ns s h e = rw (lt-ltb s 4 h) e

pub ruleset width_ends = (width_none, width_filled)

-- ---- one stream's columns

pub columns_few : (ns : List ℕ) (at n : ℕ) {w : ℕ} → w ≡ filled ns at n → w ≤ n
columns_few ns at n e = let h = filled_most ns at n in omega arith

-- a stream that is not declared has no columns where none of their places has a number
pub columns_undeclared : (ns : List ℕ) (s n : ℕ) {z : Bool} → n ≤ s → z ≡ zeros ns (4 + s * 6) 6 → z ≡ stream_sound ns s n
unfolding stream_sound
columns_undeclared ns s n {z} h f = rw (le-leb n s h) (go (filled ns (4 + s * 6) 6) refl)
  where
    go : (w : ℕ) → w ≡ filled ns (4 + s * 6) 6 → z ≡ (zeros ns (4 + s * 6 + w) (6 - w) && eqb w 0)
    go zero e = let d : 4 + s * 6 + 0 ≡ 4 + s * 6 = omega arith in rw d (f ∙ sym (and_true (zeros ns (4 + s * 6) 6)))
    go (suc w) e = rw (ne_eqb (suc w) 0 (λ q. omega arith)) (f ∙ zeros_not ns (4 + s * 6) 5 (filled_first ns (4 + s * 6) 6 (omega arith)) ∙ sym (and_false (zeros ns (4 + s * 6 + suc w) (6 - suc w))))

module _ (ns : List ℕ) (s n : ℕ) (h : s < n) {w : ℕ} {z : Bool} (e : w ≡ filled ns (4 + s * 6) 6) (f : z ≡ zeros ns (4 + s * 6 + w) (6 - w)) where
  zeros_are : zeros ns (4 + s * 6 + filled ns (4 + s * 6) 6) (6 - filled ns (4 + s * 6) 6) ≡ z
  zeros_are = ap (λ v. zeros ns (4 + s * 6 + v) (6 - v)) (sym e) ∙ sym f

  pub columns_loose : not z ≡ true → false ≡ stream_sound ns s n
  unfolding stream_sound
  columns_loose g = rw (zeros_are ∙ not-true z g)

  module _ (g : not z ≡ false) where
    pub columns_none : w ≡ 0 → false ≡ stream_sound ns s n
    unfolding stream_sound
    columns_none k = rw (zeros_are ∙ not-false z g, lt-leb n s h, eq-eqb (filled ns (4 + s * 6) 6) 0 (sym e ∙ k))

    pub columns_named : {y : Bool} → (w ≡ 0 → ⊥) → y ≡ named_from ns (4 + s * 6) w → y ≡ stream_sound ns s n
    unfolding stream_sound
    columns_named k d = rw (zeros_are ∙ not-false z g, lt-leb n s h, ne_eqb (filled ns (4 + s * 6) 6) 0 (λ q. k (e ∙ q))) (d ∙ ap (named_from ns (4 + s * 6)) e)

pub ruleset stream_ends = (columns_loose, columns_undeclared, columns_none, columns_named)

-- ---- the whole

pub streams_most : (ns : List ℕ) → streams_in ns ≤ 4
unfolding streams_in
streams_most ns = filled_most ns 0 4

pub streams_few : (ns : List ℕ) {n : ℕ} → n ≡ streams_in ns → n ≤ 4
streams_few ns e = let h = streams_most ns in omega arith

pub zeros_room : (ns : List ℕ) {n : ℕ} → 28 ≤ length ns → n ≡ streams_in ns → n + (4 - n) ≤ length ns
zeros_room ns l e = let h = streams_most ns in omega arith

pub names_room : (ns : List ℕ) {n : ℕ} → 28 ≤ length ns → n ≡ streams_in ns → 0 + n ≤ length ns
names_room ns l e = let h = streams_most ns in omega arith

pub ruleset streams_room = (zeros_room, names_room)

pub sound_few : (ns : List ℕ) → length ns < 28 → false ≡ schema_sound ns
unfolding schema_sound
sound_few ns h = rw (lt-leb 28 (length ns) h)

module _ (ns : List ℕ) {n : ℕ} {x : Bool} (h : 28 ≤ length ns) (e : n ≡ streams_in ns) (f : x ≡ zeros ns n (4 - n)) where
  after : zeros ns (streams_in ns) (4 - streams_in ns) ≡ x
  after = ap (λ v. zeros ns v (4 - v)) (sym e) ∙ sym f

  pub sound_loose : not x ≡ true → false ≡ schema_sound ns
  unfolding schema_sound
  sound_loose g = rw (le-leb 28 (length ns) h, after ∙ not-true x g)

  module _ {y : Bool} (g : not x ≡ false) (d : y ≡ named_from ns 0 n) where
    names : named_from ns 0 (streams_in ns) ≡ y
    names = ap (named_from ns 0) (sym e) ∙ sym d

    pub sound_named : not y ≡ true → false ≡ schema_sound ns
    unfolding schema_sound
    sound_named k = rw (le-leb 28 (length ns) h, after ∙ not-false x g, names ∙ not-true y k)

    pub sound_streams : {z : Bool} → not y ≡ false → z ≡ streams_sound ns n → z ≡ schema_sound ns
    unfolding schema_sound
    sound_streams k c = rw (le-leb 28 (length ns) h, after ∙ not-false x g, names ∙ not-false y k) (c ∙ ap (streams_sound ns) e)

pub ruleset sound_ends = (sound_few, sound_loose, sound_named, sound_streams)
