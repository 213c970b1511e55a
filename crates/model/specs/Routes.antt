-- The routes that a caller's grants open for a query.
use Rattle.std.specs.Prelude.{List, [], ◌∷◌, ◌++◌, map, Bool, true, false, ◌&&◌, ◌||◌, not, cond, ℕ, suc, leb, eqb}
use Rattle.lists.specs.Lists.{select, some?, empty?, gather, same_list}
use Rattle.syntax.specs.Grammar.{Op, eq, ne, lt, le, gt, ge, Fn, Right, read, figures, fn_number, Cond, test, all, any, neg}
use Rattle.model.specs.Queries.{Schema, Col, same_col, columns_of, Term, column, time, number, self, Compare, Query, source, pick, keep, join, aggregate, sources, picks, header, Grant, Caller}
use Rattle.model.specs.Grants.{belongs, shown_of}
use Rattle.model.specs.Checks.{has, within, cond_cols, timed, linked, checks_compute}

-- ---- tests on grants

unfoldable pub reads : Right → Bool
reads read = true
reads (figures f) = false

unfoldable pub gives : Fn → Right → Bool
gives f read = false
gives f (figures g) = eqb (fn_number f) (fn_number g)

unfoldable pub is_eq : Op → Bool
is_eq eq = true
is_eq ne = false
is_eq lt = false
is_eq le = false
is_eq gt = false
is_eq ge = false

unfoldable pub is_col : Col → Term → Bool
is_col c (column d) = same_col c d
is_col c time = false
is_col c (number z) = false
is_col c (self n) = false

-- the equality of two columns, either first, as a whole condition
unfoldable pub is_equality : Col → Col → Cond Compare → Bool
is_equality a b (test t) = is_eq t.op && (is_col a t.left && is_col b t.right || is_col b t.left && is_col a t.right)
is_equality a b (all cs) = false
is_equality a b (any cs) = false
is_equality a b (neg c) = false

-- every equality of the query's joins is one of the conditions
unfoldable pub equated : {S : Type 0} → List (Cond Compare) → Query S → Bool
equated cs (source s) = true
equated cs (pick c q) = equated cs q
equated cs (keep ds q) = equated cs q
equated cs (join a b q r) = some? (is_equality a b) cs && (equated cs q && equated cs r)
equated cs (aggregate f c size offset q) = equated cs q

-- a grant on just the query's streams, in their order, that holds its equalities
unfoldable pub covers : Query ℕ → Grant → Bool
covers q g = same_list g.of (sources q) && equated g.when q

-- ---- routes

-- the joins of a query alone
unfoldable pub bare : {S : Type 0} → Query S → Query S
bare (source s) = source s
bare (pick c q) = bare q
bare (keep cs q) = bare q
bare (join a b q r) = join a b (bare q) (bare r)
bare (aggregate f c size offset q) = bare q

-- what stands in a route for a stream or for joined streams: a grant's view. `over` is what the view is taken of.
pub record Source : Type 0 where
  pub grant : Grant
  pub over : Query ℕ

-- the numbers of its grants, in the order of the streams they open; and the query over their views
pub record Route : Type 0 where
  pub grants : List ℕ
  pub query : Query Source

pub record Numbered : Type 0 where
  pub no : ℕ
  pub grant : Grant

unfoldable pub numbered : ℕ → List Grant → List Numbered
numbered n [] = []
numbered n (g ∷ gs) = record { no = n; grant = g } ∷ numbered (suc n) gs

-- the caller's grants that pass a test
unfoldable pub opened : Caller → List Grant → (Grant → Bool) → List Numbered
opened who catalogue p = select (λ n. belongs who n.grant && p n.grant) (numbered 1 catalogue)

unfoldable pub present : List Col → List Col → List Col
present ds cs = select (has ds) cs

-- conditions around a query, the last innermost
unfoldable pub picked_by : {R : Type 0} → List (Cond Compare) → Query R → Query R
picked_by [] x = x
picked_by (c ∷ cs) x = pick c (picked_by cs x)

-- a grant's view in the place of a query's streams
unfoldable pub seen : Query ℕ → Numbered → Query Source
seen q n = source (record { grant = n.grant; over = bare q })

unfoldable pub single : List ℕ → Bool
single [] = false
single (s ∷ []) = true
single (s ∷ (t ∷ ts)) = false

unfoldable pub alone : (Numbered → Query Source) → Numbered → Route
alone f n = record { grants = n.no ∷ []; query = f n }

unfoldable pub onto : (Query Source → Query Source) → Route → Route
onto f x = record { grants = x.grants; query = f x.query }

unfoldable pub beside : Col → Col → Route → Route → Route
beside a b x y = record { grants = x.grants ++ y.grants; query = join a b x.query y.query }

module _ (d : Schema) where
  -- the columns of a query over views
  unfoldable pub columns : Query Source → List Col
  columns q = header (λ x. shown_of d x.grant) q

  -- a kept column that is withheld is missing
  unfoldable pub keeping : List Col → Query Source → Query Source
  keeping cs q = keep (present (columns q) cs) q

  -- a query over one grant's view in the place of its joined streams: the sides' picks around the view, then one keep of the columns the sides keep
  unfoldable pub over_view : Query ℕ → Numbered → Query Source
  over_view (source s) n = seen (source s) n
  over_view (pick c q) n = pick c (over_view q n)
  over_view (keep cs q) n = keeping cs (over_view q n)
  over_view (join a b q r) n =
      keeping (header (columns_of d) q ++ header (columns_of d) r)
      (picked_by (picks r) (picked_by (picks q) (seen (join a b q r) n)))
  over_view (aggregate f c size offset q) n = aggregate f c size offset (over_view q n)

  -- a reading grant that stands for the query's streams: no pick on `time` below a join, whose view carries only the joined time
  unfoldable pub readable : Query ℕ → Grant → Bool
  readable q g = reads g.right && (covers q g
      && (not (some? timed (picks q)) && within (gather cond_cols (picks q)) (shown_of d g)))

  -- an aggregate grant: no picks below the aggregate
  unfoldable pub summing : Fn → Col → ℕ → ℕ → Query ℕ → Grant → Bool
  summing f c size offset q g = gives f g.right && (covers q g && (empty? (picks q)
      && (has (shown_of d g) c && (leb g.size size && leb g.offset offset))))

  -- what the aggregate is taken of: on one stream the view itself
  unfoldable pub summed : Query ℕ → Numbered → Query Source
  summed q n = cond (single (sources q)) (seen q n) (over_view q n)

  -- the routes that show the columns
  unfoldable pub showing : List Col → List Route → List Route
  showing cs xs = select (λ x. within cs (columns x.query)) xs

-- in the order of the answer: side by side with the left grant's number first, then grants on the joined streams, then aggregate grants
module _ (d : Schema) (who : Caller) (catalogue : List Grant) where
  unfoldable pub ways : Query ℕ → List Route
  ways (source s) = map (alone (seen (source s))) (opened who catalogue (readable d (source s)))
  ways (pick c q) = map (onto (pick c)) (showing d (cond_cols c) (ways q))
  ways (keep cs q) = map (onto (keeping d cs)) (ways q)
  ways (join a b q r) =
      gather (λ x. map (beside a b x) (select (λ y. linked a b (columns d x.query) (columns d y.query)) (ways r))) (ways q)
      ++ map (alone (over_view d (join a b q r))) (opened who catalogue (readable d (join a b q r)))
  ways (aggregate f c size offset q) =
      map (onto (aggregate f c size offset)) (showing d (c ∷ []) (ways q))
      ++ map (alone (λ n. aggregate f c size offset (summed d q n))) (opened who catalogue (summing d f c size offset q))

  -- a route with no column left does not exist
  unfoldable pub routes : Query ℕ → List Route
  routes q = select (λ x. not (empty? (columns d x.query))) (ways q)

-- To unfold this is to unfold every definition above.
unfoldable pub routes_compute : Unit {0}
unfolding checks_compute reads fn_number gives is_eq is_col is_equality equated covers bare numbered opened present picked_by seen single alone onto beside columns keeping over_view readable summing summed showing ways routes
routes_compute = tt
