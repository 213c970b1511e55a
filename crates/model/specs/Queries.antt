-- Streams, queries, grants and callers, with streams and columns by number.
use Rattle.std.specs.Prelude.{List, [], ◌∷◌, ◌++◌, map, Bool, true, false, ◌&&◌, ℕ, suc, ◌+◌, ℤ, eqb, length}
use Rattle.std.proofs.Math.Option.{Option}
use Rattle.lists.specs.Lists.{nth, count_from, lists_compute}
use Rattle.syntax.specs.Grammar.{Bytes, Op, Fn, Right, Cond}
pub use Rattle.syntax.specs.Grammar.{Stream, Caller}

-- ---- streams

-- the declared streams, in the order of their declarations; a stream's number is its place, counted from 0
abbrev pub Schema : Type 0
Schema = List Stream

unfoldable pub no_stream : Stream
no_stream = record { name = []; columns = [] }

-- a column: its stream's number and its place in the stream; or the column of an aggregate
pub data Col : Type 0 where
  col : ℕ → ℕ → Col
  figure : Col

unfoldable pub same_col : Col → Col → Bool
same_col (col s c) (col t d) = eqb s t && eqb c d
same_col (col s c) figure = false
same_col figure (col t d) = false
same_col figure figure = true

unfoldable pub columns_of : Schema → ℕ → List Col
columns_of d s = map (col s) (count_from 0 (length (nth no_stream d s).columns))

-- ---- queries

-- what a comparison names
pub data Term : Type 0 where
  column : Col → Term
  time : Term
  number : ℤ → Term
  self : Bytes → Term

pub record Compare : Type 0 where
  pub op : Op
  pub left : Term
  pub right : Term

-- a query over sources of a type: of a user's query these are streams, of a route's the views that stand for them
pub data Query (S : Type 0) : Type 0 where
  source : S → Query S
  pick : Cond Compare → Query S → Query S
  keep : List Col → Query S → Query S
  join : Col → Col → Query S → Query S → Query S
  aggregate : Fn → Col → ℕ → ℕ → Query S → Query S

module _ {S : Type 0} where
  -- its sources, left to right
  unfoldable pub sources : Query S → List S
  sources (source s) = s ∷ []
  sources (pick c q) = sources q
  sources (keep cs q) = sources q
  sources (join a b q r) = sources q ++ sources r
  sources (aggregate f c size offset q) = sources q

  -- the conditions of its picks, outer first
  unfoldable pub picks : Query S → List (Cond Compare)
  picks (source s) = []
  picks (pick c q) = c ∷ picks q
  picks (keep cs q) = picks q
  picks (join a b q r) = picks q ++ picks r
  picks (aggregate f c size offset q) = picks q

  -- the columns of its answer, given its sources'
  unfoldable pub header : (S → List Col) → Query S → List Col
  header cs (source s) = cs s
  header cs (pick c q) = header cs q
  header cs (keep ds q) = ds
  header cs (join a b q r) = header cs q ++ header cs r
  header cs (aggregate f c size offset q) = figure ∷ []

  -- how many forms it has
  unfoldable pub forms : Query S → ℕ
  forms (source s) = 1
  forms (pick c q) = suc (forms q)
  forms (keep cs q) = suc (forms q)
  forms (join a b q r) = suc (forms q + forms r)
  forms (aggregate f c size offset q) = suc (forms q)

-- ---- grants

-- its streams, the columns it shows, the conditions that hold together, its first and last time, and the least SIZE and OFFSET of an aggregate right
pub record Grant : Type 0 where
  pub role : Bytes
  pub right : Right
  pub of : List ℕ
  pub shown : List Col
  pub when : List (Cond Compare)
  pub from : Option ℕ
  pub to : Option ℕ
  pub size : ℕ
  pub offset : ℕ

-- ---- rows

pub record Row : Type 0 where
  pub at : ℕ
  pub values : List ℤ

pub record Table : Type 0 where
  pub cols : List Col
  pub rows : List Row

-- the clock, the declared streams, and each stream's rows
pub record Record : Type 0 where
  pub clock : ℕ
  pub schema : Schema
  pub rows : List (List Row)

-- To unfold this is to unfold every definition above.
unfoldable pub queries_compute : Unit {0}
unfolding lists_compute no_stream same_col columns_of sources picks header forms
queries_compute = tt
