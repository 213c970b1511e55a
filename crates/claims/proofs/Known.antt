-- The streams and columns that a checked query names are there.
use mathlib.Core.Path.{◌≡◌}
use mathlib.Core.List.{List, [], ◌∷◌, ◌++◌}
use mathlib.Core.Bool.{◌&&◌}
use Prim.Native.Nat.{ℕ, zero, suc, ◌+◌, ◌≤◌, ◌<◌}
use native.Mathlib.Omega.{arith}
use lib.IntN.{ℤ}
use lib.ListN.{length}
use lib.Dec.{T}
use Rattle.lists.specs.Lists.{every, some?, nth, gather, count_from}
use Rattle.lists.proofs.Laws.{or_cases, parts, All, all_nil, all_cons, all_head, all_append, all_weaken, all_map, all_gather, all_any, all_left, all_right}
use Rattle.syntax.specs.Grammar as G
use Rattle.syntax.specs.Grammar.{Cond}
use Rattle.model.specs.Conditions.{tests}
use Rattle.model.specs.Queries.{Schema, no_stream, Col, col, figure, same_col, columns_of, Term, column, time, number, self, Compare, Query, source, pick, keep, join, aggregate, sources, header}
use Rattle.model.specs.Checks.{has, within, linked, term_cols, cond_cols, pick_left, pick_right, pickable, allowed, placed}
use Rattle.model.proofs.Columns.{same_col→eq}
use Rattle.calls.specs.Names.{columns_named}

all_has : {P : Col → Type 0} {ds : List Col} (c : Col) → All P ds → T (has ds c) → P c
unfolding has some?
all_has c all_nil h = absurd h
all_has c (all_cons {x = d} {xs = ds} l ls) h = or_cases (same_col c d) (some? (same_col c) ds) h (λ u. rw (same_col→eq c d u) l) (λ u. all_has c ls u)

pub all_within : {P : Col → Type 0} {ds : List Col} (cs : List Col) → All P ds → T (within cs ds) → All P cs
unfolding within every
all_within [] ls h = all_nil
all_within (c ∷ cs) ls h = all_cons (all_has c ls (search parts)) (all_within cs ls (search parts))

counted : (a n : ℕ) → All (λ j. j < a + n) (count_from a n)
unfolding count_from
counted a zero = all_nil
counted a (suc n) = let h : a < a + suc n = omega arith in all_cons h (all_weaken (λ j l. omega arith) (counted (suc a) n))

pub filled_stream : (e : Schema) (s : ℕ) → 1 ≤ length (nth no_stream e s).columns → s < length e
unfolding nth no_stream
filled_stream [] s h = absurd (omega arith)
filled_stream (t ∷ e) zero h = omega arith
filled_stream (t ∷ e) (suc s) h = let l = filled_stream e s h in omega arith

module _ (d : Schema) where
  -- a column of a declared stream, or the column of an aggregate
  pub data Known : Col → Type 0 where
    known_col : {s c : ℕ} → s < length d → c < length (columns_named d s) → Known (col s c)
    known_figure : Known figure

  pub data KnownLeft : Term → Type 0 where
    left_column : {c : Col} → Known c → KnownLeft (column c)
    left_time : KnownLeft time

  pub data KnownRight : Term → Type 0 where
    right_column : {c : Col} → Known c → KnownRight (column c)
    right_number : {z : ℤ} → KnownRight (number z)

  pub data KnownQuery : Query ℕ → Type 0 where
    known_source : {s : ℕ} → s < length d → KnownQuery (source s)
    known_pick : {c : Cond Compare} {q : Query ℕ} → All (λ t. KnownLeft t.left × KnownRight t.right) (tests c) → KnownQuery q → KnownQuery (pick c q)
    known_keep : {cs : List Col} {q : Query ℕ} → All Known cs → KnownQuery q → KnownQuery (keep cs q)
    known_join : {a b : Col} {q r : Query ℕ} → Known a → Known b → KnownQuery q → KnownQuery r → KnownQuery (join a b q r)
    known_aggregate : {f : G.Fn} {c : Col} {size offset : ℕ} {q : Query ℕ} → Known c → KnownQuery q → KnownQuery (aggregate f c size offset q)

  pub columns_known : (s : ℕ) → All Known (columns_of d s)
  unfolding columns_of columns_named
  columns_known s = all_map (col s) (λ c h. known_col (filled_stream d s (omega arith)) (omega arith)) (counted 0 (length (nth no_stream d s).columns))

  pub streams_known : (ss : List ℕ) → All Known (gather (columns_of d) ss)
  streams_known ss = all_gather {P = λ s. Unit {0}} (λ s u. columns_known s) (all_any ss)

  header_known : (q : Query ℕ) → T (allowed (columns_of d) q) → All Known (header (columns_of d) q)
  unfolding allowed header
  header_known (source s) h = columns_known s
  header_known (pick c q) h = header_known q (search parts)
  header_known (keep cs q) h = all_within cs (header_known q (search parts)) (search parts)
  header_known (join a b q r) h = all_append (header_known q (search parts)) (header_known r (search parts))
  header_known (aggregate f c size offset q) h = all_cons known_figure all_nil

  left_known : (t : Term) → T (pick_left t) → All Known (term_cols t) → KnownLeft t
  unfolding pick_left term_cols
  left_known (column c) h k = left_column (all_head k)
  left_known time h k = left_time
  left_known (number z) h k = absurd h
  left_known (self n) h k = absurd h

  right_known : (t : Term) → T (pick_right t) → All Known (term_cols t) → KnownRight t
  unfolding pick_right term_cols
  right_known (column c) h k = right_column (all_head k)
  right_known time h k = absurd h
  right_known (number z) h k = right_number
  right_known (self n) h k = absurd h

  tests_known : (ts : List Compare) → T (every (λ t. pick_left t.left && pick_right t.right) ts) → All Known (gather (λ t. term_cols t.left ++ term_cols t.right) ts)
      → All (λ t. KnownLeft t.left × KnownRight t.right) ts
  unfolding every gather
  tests_known [] h k = all_nil
  tests_known (t ∷ ts) h k =
      let mine = all_left (term_cols t.left ++ term_cols t.right) _ k in
      all_cons
      (left_known t.left (search parts) (all_left (term_cols t.left) _ mine), right_known t.right (search parts) (all_right (term_cols t.left) _ mine))
      (tests_known ts (search parts) (all_right (term_cols t.left ++ term_cols t.right) _ k))

  linked_known : (a b : Col) (ls rs : List Col) → All Known ls → All Known rs → T (linked a b ls rs) → Known a × Known b
  unfolding linked
  linked_known a b ls rs h k l =
      or_cases (has ls a && has rs b) (has ls b && has rs a) l
      (λ u. (all_has a h (search parts), all_has b k (search parts)))
      (λ u. (all_has a k (search parts), all_has b h (search parts)))

  -- the sources of a query are declared streams
  abbrev pub Sourced : Query ℕ → Type 0
  Sourced q = All (λ s. s < length d) (sources q)

  pub query_known : (q : Query ℕ) → Sourced q → T (allowed (columns_of d) q) → KnownQuery q
  unfolding sources allowed pickable cond_cols
  query_known (source s) n h = known_source (all_head n)
  query_known (pick c q) n h =
      known_pick (tests_known (tests c) (search parts) (all_within (cond_cols c) (header_known q (search parts)) (search parts))) (query_known q n (search parts))
  query_known (keep cs q) n h = known_keep (all_within cs (header_known q (search parts)) (search parts)) (query_known q n (search parts))
  query_known (join a b q r) n h =
      let ab = linked_known a b _ _ (header_known q (search parts)) (header_known r (search parts)) (search parts) in
      known_join ab.0 ab.1 (query_known q (all_left (sources q) _ n) (search parts)) (query_known r (all_right (sources q) _ n) (search parts))
  query_known (aggregate f c size offset q) n h = known_aggregate (all_has c (header_known q (search parts)) (search parts)) (query_known q n (search parts))

  pub unknown : {n c : ℕ} → n ≡ length d → Known (col n c) → ⊥
  unknown e (known_col l m) = omega arith

pub placed_allowed : (d : Schema) (q : Query ℕ) → T (placed d q) → T (allowed (columns_of d) q)
unfolding placed
placed_allowed d q h = search parts
