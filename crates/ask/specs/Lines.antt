-- The line of a route, and the reply to a query whose text passes that asks for one.
use Rattle.std.specs.Prelude.{List, [], ◌∷◌, cond, ℕ, zero, suc, ◌<◌, ℤ, pos, negsuc, ltb, length}
use Rattle.std.proofs.Math.Option.{Option, none, some}
use Rattle.refusal.specs.Checks.{Check, refuse, first}
use Rattle.refusal.specs.declared.Refusal.TheVariants.{NoRoute, ManyRoutes, NoRoom}
use Rattle.lists.specs.Lists.{All, nth}
use Rattle.syntax.specs.Grammar.{Bytes}
use Rattle.syntax.specs.Limits.{max_routes}
use Rattle.calls.specs.Names.{map_option}
use Rattle.calls.specs.Replies as C
use Rattle.calls.specs.Replies.{reply}
use Rattle.calls.specs.Asking.{some_bytes, no_line}
use Rattle.needs.specs.declared.Needs.{Needs}
use Rattle.routes.specs.declared.Open.{Open}
use Rattle.routes.specs.declared.Route.{Route}
use Rattle.routes.specs.Listing.{no_route, routes_in}
use Rattle.print.specs.Writing.{furthest}
use Rattle.route_plan.specs.Ways.{way_of}
use Rattle.route_line.specs.Texts.{Wording, way_text}

-- the place of the route of a number; routes are numbered from 1
unfoldable pub place_of : ℕ → ℤ → Option ℕ
place_of count (pos zero) = none
place_of count (pos (suc i)) = cond (ltb i count) (some i) none
place_of count (negsuc i) = none

unfoldable pub text_at : Wording → Open → Needs → ℤ → Option Bytes
text_at s o n number = map_option (λ i. way_text s (way_of o n (nth no_route (routes_in o n) i))) (place_of (length (routes_in o n)) number)

-- 9, 10 and 11
unfoldable pub print_checks : Wording → Open → Needs → ℤ → Bytes → List Check
print_checks s o n number lent =
    refuse NoRoute (no_line (text_at s o n number))
    ∷ refuse ManyRoutes (ltb max_routes (length (routes_in o n)))
    ∷ refuse NoRoom (ltb (length lent) (length (some_bytes (text_at s o n number))))
    ∷ []

unfoldable pub print_reply : Wording → Open → Needs → ℤ → Bytes → C.Reply ℕ
print_reply s o n number lent = reply (first (print_checks s o n number lent)) (some_bytes (text_at s o n number)) lent

-- no route has a line with as many bytes as there are places
pub record Printable (s : Wording) (o : Open) (n : Needs) : Type 0 where
  pub short : All (λ (x : Route). length (way_text s (way_of o n x)) < furthest) (routes_in o n)
