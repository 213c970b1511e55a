-- What a query and a grant may name where: checks 4 and 5 of queries, and 4 of grants, on streams and columns by number.
use Rattle.std.specs.Prelude.{List, [], ◌∷◌, ◌++◌, Bool, true, false, ◌&&◌, ◌||◌, not, ℕ, ◌*◌, leb, eqb, length}
use Rattle.std.proofs.Math.Option.{Option, none, some}
use Rattle.lists.specs.Lists.{some?, every, empty?, distinct, gather}
use Rattle.syntax.specs.Grammar.{Cond}
use Rattle.syntax.specs.Limits.{max_granted, max_overlap}
use Rattle.model.specs.Conditions.{tests}
use Rattle.model.specs.Queries.{Schema, Col, same_col, columns_of, Term, column, time, number, self, Compare, Query, source, pick, keep, join, aggregate, sources, header, Grant}
use Rattle.model.specs.Grants.{grants_compute}

-- ---- columns

unfoldable pub has : List Col → Col → Bool
has ds c = some? (same_col c) ds

unfoldable pub within : List Col → List Col → Bool
within cs ds = every (has ds) cs

unfoldable pub term_cols : Term → List Col
term_cols (column c) = c ∷ []
term_cols time = []
term_cols (number z) = []
term_cols (self n) = []

-- the columns that a condition names
unfoldable pub cond_cols : Cond Compare → List Col
cond_cols c = gather (λ t. term_cols t.left ++ term_cols t.right) (tests c)

unfoldable pub term_timed : Term → Bool
term_timed (column c) = false
term_timed time = true
term_timed (number z) = false
term_timed (self n) = false

-- it names `time`
unfoldable pub timed : Cond Compare → Bool
timed c = some? (λ t. term_timed t.left || term_timed t.right) (tests c)

-- ---- conditions

unfoldable pub pick_left : Term → Bool
pick_left (column c) = true
pick_left time = true
pick_left (number z) = false
pick_left (self n) = false

unfoldable pub pick_right : Term → Bool
pick_right (column c) = true
pick_right time = false
pick_right (number z) = true
pick_right (self n) = false

-- the terms of a query's condition stand where they may
unfoldable pub pickable : Cond Compare → Bool
pickable c = every (λ t. pick_left t.left && pick_right t.right) (tests c)

unfoldable pub when_left : Term → Bool
when_left (column c) = true
when_left time = false
when_left (number z) = false
when_left (self n) = false

unfoldable pub when_right : Term → Bool
when_right (column c) = true
when_right time = false
when_right (number z) = true
when_right (self n) = true

-- those of a grant's condition
unfoldable pub grantable : Cond Compare → Bool
grantable c = every (λ t. when_left t.left && when_right t.right) (tests c)

-- ---- queries

unfoldable pub no_aggregate : {S : Type 0} → Query S → Bool
no_aggregate (source s) = true
no_aggregate (pick c q) = no_aggregate q
no_aggregate (keep cs q) = no_aggregate q
no_aggregate (join a b q r) = no_aggregate q && no_aggregate r
no_aggregate (aggregate f c size offset q) = false

-- a side of a join: one stream, picks and keeps
unfoldable pub side : {S : Type 0} → Query S → Bool
side (source s) = true
side (pick c q) = side q
side (keep cs q) = side q
side (join a b q r) = false
side (aggregate f c size offset q) = false

-- a join's equality names one column of each side
unfoldable pub linked : Col → Col → List Col → List Col → Bool
linked a b ls rs = has ls a && has rs b || has ls b && has rs a

-- every form stands where it may and names columns that are there
unfoldable pub allowed : {S : Type 0} → (S → List Col) → Query S → Bool
allowed hs (source s) = true
allowed hs (pick c q) = pickable c && within (cond_cols c) (header hs q) && allowed hs q
allowed hs (keep cs q) = no_aggregate q && within cs (header hs q) && allowed hs q
allowed hs (join a b q r) = side q && side r && linked a b (header hs q) (header hs r) && allowed hs q && allowed hs r
allowed hs (aggregate f c size offset q) = no_aggregate q && has (header hs q) c && allowed hs q

-- check 4: and no stream is joined with itself
unfoldable pub placed : Schema → Query ℕ → Bool
placed d q = allowed (columns_of d) q && distinct eqb (sources q)

-- check 5
unfoldable pub fitting : ℕ → ℕ → Bool
fitting size offset = leb 1 size && leb 1 offset && leb size (max_overlap * offset)

unfoldable pub sized : {S : Type 0} → Query S → Bool
sized (source s) = true
sized (pick c q) = sized q
sized (keep cs q) = sized q
sized (join a b q r) = sized q && sized r
sized (aggregate f c size offset q) = fitting size offset && sized q

-- a test of every keep's columns: that they are some, that none stands twice (check 6)
unfoldable pub keeps : {S : Type 0} → (List Col → Bool) → Query S → Bool
keeps p (source s) = true
keeps p (pick c q) = keeps p q
keeps p (keep cs q) = p cs && keeps p q
keeps p (join a b q r) = keeps p q && keeps p r
keeps p (aggregate f c size offset q) = keeps p q

-- ---- grants

unfoldable pub in_order : Option ℕ → Option ℕ → Bool
in_order none to = true
in_order (some a) none = true
in_order (some a) (some b) = leb a b

-- check 4 of a grant: one or two streams, columns of these alone, terms where they may stand, `from` not above `to`
unfoldable pub grant_placed : Schema → Grant → Bool
grant_placed d g =
    not (empty? g.of) && leb (length g.of) max_granted && within g.shown (gather (columns_of d) g.of)
    && every (λ c. grantable c && within (cond_cols c) (gather (columns_of d) g.of)) g.when
    && in_order g.from g.to

-- To unfold this is to unfold every definition above.
unfoldable pub checks_compute : Unit {0}
unfolding grants_compute has within term_cols cond_cols term_timed timed pick_left pick_right pickable when_left when_right grantable no_aggregate side linked allowed placed fitting sized keeps in_order grant_placed
checks_compute = tt
