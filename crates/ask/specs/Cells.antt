-- The cells of routes: of each its grants' numbers, its width and how many rows it has, then the rows.
use Rattle.std.specs.Prelude.{◌≡◌, List, [], ◌∷◌, Option, Some, None, Bool, true, false, cond, ℕ, suc, ◌+◌, ◌*◌, ◌/◌, ◌≤◌, ◌<◌, min, ℤ, pos, eqb, leb, ltb, length}
use Rattle.refusal.specs.Checks.{Check, refuse, first}
use Rattle.refusal.specs.declared.Refusal.TheVariants.{NoRoute, ManyRoutes, NoRoom}
use Rattle.lists.specs.Lists.{All, gather, empty?, nth}
use Rattle.syntax.specs.Limits.{max_routes}
use Rattle.calls.specs.Replies as C
use Rattle.calls.specs.Replies.{reply}
use Rattle.schema.specs.Schemas.{width_in}
use Rattle.ledger.specs.Records.{count_in}
use Rattle.ledger.specs.declared.Ledger.{Ledger}
use Rattle.needs.specs.Asking.{no_stream}
use Rattle.needs.specs.declared.Needs.{Needs}
use Rattle.routes.specs.declared.Open.{Open}
use Rattle.routes.specs.declared.Route.{Route}
use Rattle.routes.specs.declared.Routes.{Routes}
use Rattle.routes.specs.Listing.{routes_in, routes_of, no_route}
use Rattle.route_plan.specs.Ways.{way_of}
use Rattle.route_plan.specs.declared.Way.{Way}
use Rattle.route_plan.specs.Suits.{Suits}
use Rattle.route_rows.specs.Rows.{room_end}
use Rattle.route_cells.specs.Kept.{kept_size, kept_at}
use Rattle.route_rows.specs.Rows.{most_a_route}
use Rattle.route_cells.specs.Routes.{Setting, left_of, plan_of, way_cells}

-- ---- all routes

-- the cells of routes, one after the other
unfoldable pub routes_cells : Setting → Open → Needs → List Route → List ℤ
routes_cells s o n xs = gather (λ x. way_cells s (way_of o n x)) xs

-- how many cells the rows of a route can have, where that is known without looking; of a joined query it is not
unfoldable pub most_cells : Needs → List ℕ → Ledger → ℕ
most_cells n ns l =
    cond (eqb n.right no_stream)
    (cond (eqb n.aggregate 0) (count_in l n.left * suc (width_in ns n.left)) (cond (leb (room_end / 2) (l.clock / n.offset)) room_end (suc (l.clock / n.offset) * 2)))
    room_end

-- a route that can be evaluated, and has no more cells than its header and so many
pub record Evaluable (s : Setting) (most : ℕ) (y : Way) : Type 0 where
  pub suits : Suits s.memory (plan_of s y)
  pub few : length (way_cells s y) ≤ 4 + most

-- all routes that opened grants give can be evaluated, and are no more than an answer may have; so many cells are lent
pub record Runnable (s : Setting) (o : Open) (n : Needs) (r : Routes) (most room size : ℕ) : Type 0 where
  pub listed : r ≡ routes_of (routes_in o n)
  pub few : length (routes_in o n) ≤ max_routes
  pub each : All (λ (x : Route). Evaluable s most (way_of o n x)) (routes_in o n)
  pub limit : most ≤ room_end
  pub near : room ≤ room_end
  pub lent : room ≤ size

-- the rows of the first routes are kept
pub record Keeps (s : Setting) (o : Open) (n : Needs) (k : ℕ) (ks : List ℕ) : Type 0 where
  pub size : kept_size ≤ length ks
  pub first : (i : ℕ) → i < k → kept_at ks i ≡ left_of s (way_of o n (nth no_route (routes_in o n) i))

-- whether an answer fits a room: where it does, something is known of so many routes
abbrev pub Fitting : Bool → (ℕ → Type 0) → Option ℕ → Type 0
Fitting fits known None = fits ≡ false
Fitting fits known (Some k) = (fits ≡ true) × known k

-- the cells of an answer: the number of routes, then each route
unfoldable pub run_cells : Setting → Open → Needs → List ℤ
run_cells s o n = pos (length (routes_in o n)) ∷ routes_cells s o n (routes_in o n)

-- 9, 10 and 11
unfoldable pub run_checks : Setting → Open → Needs → List ℤ → List Check
run_checks s o n lent =
    refuse NoRoute (empty? (routes_in o n))
    ∷ refuse ManyRoutes (ltb max_routes (length (routes_in o n)))
    ∷ refuse NoRoom (ltb (length lent) (length (run_cells s o n)))
    ∷ []

unfoldable pub run_reply : Setting → Open → Needs → List ℤ → C.Reply ℤ
run_reply s o n lent = reply (first (run_checks s o n lent)) (run_cells s o n) lent

-- opened grants and a query whose routes can all be evaluated
pub record Ready (s : Setting) (o : Open) (n : Needs) : Type 0 where
  pub spans : (n.aggregate ≡ 0 → ⊥) → 1 ≤ n.offset
  pub each : All (λ (x : Route). Evaluable s (most_cells n s.memory.names s.memory.ledger) (way_of o n x)) (routes_in o n)
  pub small : All (λ (x : Route). length (way_cells s (way_of o n x)) ≤ most_a_route) (routes_in o n)

-- the same, its routes neither none nor too many, with what the cells of a route can be at most and the room for all of them
pub record Countable (s : Setting) (o : Open) (n : Needs) (r : Routes) (most room size : ℕ) : Type 0 where
  pub ready : Ready s o n
  pub listed : r ≡ routes_of (routes_in o n)
  pub some : r.count ≡ 0 → ⊥
  pub few : r.count ≤ max_routes
  pub each : (most ≡ most_cells n s.memory.names s.memory.ledger) × (most ≤ room_end)
  pub all : room ≡ min size room_end
