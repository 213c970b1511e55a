-- When two records show a caller the same.
use Rattle.std.specs.Prelude.{◌≡◌, List, Bool, true, ◌&&◌, ℕ, T, leb}
use Rattle.lists.specs.Lists.{All}
use Rattle.syntax.specs.Grammar.{Fn}
use Rattle.syntax.specs.Limits.{top}
use Rattle.model.specs.Queries.{Col, Query, source, pick, keep, join, aggregate, Grant, Caller, Record}
use Rattle.model.specs.Grants.{belongs, shown_of, view, admitted}
use Rattle.model.specs.Checks.{has, fitting}
use Rattle.model.specs.Routes.{reads, gives}

-- a SIZE and an OFFSET that can be written
unfoldable pub span_bounded : ℕ → ℕ → Bool
span_bounded size offset = leb size top && leb offset top

-- those of the query's aggregates can
unfoldable pub spans_bounded : {S : Type 0} → Query S → Bool
spans_bounded (source s) = true
spans_bounded (pick c q) = spans_bounded q
spans_bounded (keep cs q) = spans_bounded q
spans_bounded (join a b q r) = spans_bounded q && spans_bounded r
spans_bounded (aggregate f c size offset q) = span_bounded size offset && spans_bounded q

-- a grant shows its holder the same of two records
pub record ShowsSame (x y : Record) (who : Caller) (g : Grant) : Type 0 where
  -- a reading grant: its view has the same rows
  pub rows_same : T (reads g.right) → (view x who g).rows ≡ (view y who g).rows
  -- an aggregate grant: it admits the same figures, for each column that it shows and each size and offset that can be written, pass check 5 and are not below its own
  pub figures_same : (f : Fn) → T (gives f g.right) → (c : Col) → T (has (shown_of x.schema g) c)
      → (size offset : ℕ) → T (leb size top) → T (leb offset top) → T (fitting size offset) → T (leb g.size size) → T (leb g.offset offset)
      → (admitted x who g f c size offset).rows ≡ (admitted y who g f c size offset).rows

-- two records are alike for a caller under a catalogue
pub record Alike (x y : Record) (who : Caller) (catalogue : List Grant) : Type 0 where
  -- the clock is the same
  pub clocks : x.clock ≡ y.clock
  -- the same streams are declared
  pub schemas : x.schema ≡ y.schema
  -- each grant that belongs to the caller shows the same
  pub shown : All (λ (g : Grant). T (belongs who g) → ShowsSame x y who g) catalogue

-- To unfold this is to unfold every test above.
unfoldable pub alike_computes : Unit {0}
unfolding span_bounded spans_bounded
alike_computes = tt
