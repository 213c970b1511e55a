-- The routes that opened grants give, in the order of the answer, by the places of their grants.
use Rattle.std.specs.Prelude.{List, [], ◌∷◌, ◌++◌, map, Bool, ◌&&◌, ◌||◌, not, cond, ℕ, suc, ◌+◌, ◌*◌, ◌/◌, ◌%◌, ◌≤◌, ◌<◌, ltb, eqb, length, get_or, set, replicate}
use Rattle.std.specs.Int.Bits.{bit_and, bit_or}
use Rattle.lists.specs.Lists.{select, gather}
use Rattle.syntax.specs.Limits.{max_grants, max_routes}
use Rattle.items.specs.Items.{first_of}
use Rattle.masks.specs.Masks.{bit?, with_bit}
use Rattle.rows.specs.Masks.{bits_from}
use Rattle.grant.specs.declared.Grant.{Grant}
use Rattle.grant.specs.Catalogues.{words_in}
use Rattle.needs.specs.Asking.{no_stream}
use Rattle.needs.specs.declared.Needs.{Needs}
use Rattle.openings.specs.Made.{sides_kind, pair_kind, figures_kind}
use Rattle.routes.specs.Opening.{belongs_in, opened_bits}
use Rattle.routes.specs.declared.Open.{Open}
use Rattle.routes.specs.declared.Route.{Route}
use Rattle.routes.specs.declared.Gate.{Gate}
use Rattle.routes.specs.declared.Routes.{Routes}

-- ---- opened grants

unfoldable pub none_open : Open
none_open =
    record {
      left = 0;
      right = 0;
      pair = 0;
      figures = 0;
      shown = replicate max_grants 0;
      words = replicate max_grants 0;
      from = replicate max_grants 0;
      to = replicate max_grants 0;
    }

-- a mask with a place more where a bit is set
unfoldable pub bit_also : ℕ → ℕ → ℕ → ℕ → ℕ
bit_also bits i mask place = cond (bit? bits i) (with_bit mask place) mask

-- a grant more in a place, by what it opens
unfoldable pub with_opened : Open → ℕ → ℕ → Grant → Open
with_opened o place bits g =
    cond (ltb place max_grants)
    (record {
      left = bit_also bits 0 o.left place;
      right = bit_also bits 1 o.right place;
      pair = bit_also bits 2 o.pair place;
      figures = bit_also bits 3 o.figures place;
      shown = set o.shown place g.shown;
      words = set o.words place g.words;
      from = set o.from place g.from;
      to = set o.to place g.to;
    })
    o

-- what a grant opens for a caller: nothing where it is not theirs
unfoldable pub caller_bits : Needs → Grant → List ℕ → List ℕ → List ℕ → ℕ
caller_bits n g ws roles profile = cond (belongs_in g ws roles profile) (opened_bits n g ws) 0

-- the grants of a catalogue from a place on, one after the other
unfoldable pub open_from : Needs → List ℕ → List ℕ → List ℕ → ℕ → List Grant → Open → Open
open_from n ws roles profile i [] o = o
open_from n ws roles profile i (g ∷ gs) o = open_from n ws roles profile (suc i) gs (with_opened o i (caller_bits n g (words_in ws i) roles profile) g)

unfoldable pub open_all : Needs → List ℕ → List ℕ → List ℕ → List Grant → Open
open_all n ws roles profile gs = open_from n ws roles profile 0 gs none_open

-- ---- routes

unfoldable pub no_route : Route
no_route = record { kind = 0; left = 0; right = 0 }

abbrev pub side_route : ℕ → ℕ → Route
side_route i j = record { kind = sides_kind; left = i; right = j }

abbrev pub lone_route : ℕ → ℕ → Route
lone_route k i = record { kind = k; left = i; right = i }

-- what decides which routes there are, beside what their grants show
unfoldable pub gate_of : Open → Needs → Gate
gate_of o n =
    record {
      left = o.left;
      right = o.right;
      pair = o.pair;
      figures = o.figures;
      header = n.header;
      lone = eqb n.right no_stream;
      whole = not (eqb n.aggregate 0);
    }

-- a column of the answer is left; an aggregate has its own
unfoldable pub leaves_some : Gate → List ℕ → Route → Bool
leaves_some g shown x = g.whole || not (eqb (bit_and (bit_or (get_or shown x.left 0) (get_or shown x.right 0)) g.header) 0)

-- the places of a mask, in rising order
abbrev pub places_in : ℕ → List ℕ
places_in mask = bits_from mask 0

-- the places on the right that go with one on the left: of one stream there is one grant
unfoldable pub right_sides : Gate → ℕ → List ℕ
right_sides g i = cond g.lone (i ∷ []) (places_in g.right)

-- a grant for each stream, by the left one and then the right one
unfoldable pub side_routes : Gate → List Route
side_routes g = gather (λ i. map (side_route i) (right_sides g i)) (places_in g.left)

-- all that grants open: a grant for each stream, then one for both streams, then one of the aggregate
unfoldable pub opened_routes : Gate → List Route
opened_routes g = side_routes g ++ (map (lone_route pair_kind) (places_in g.pair) ++ map (lone_route figures_kind) (places_in g.figures))

-- and of these the routes that leave a column
unfoldable pub routes_by : Gate → List ℕ → List Route
routes_by g shown = select (leaves_some g shown) (opened_routes g)

unfoldable pub routes_in : Open → Needs → List Route
routes_in o n = routes_by (gate_of o n) o.shown

-- the numbers of its grants, counted from 1: of two streams a number each
unfoldable pub numbers_of : Needs → Route → List ℕ
numbers_of n x = cond (eqb x.kind sides_kind && not (eqb n.right no_stream)) (suc x.left ∷ (suc x.right ∷ [])) (suc x.left ∷ [])

-- ---- routes in memory

-- a route as one number, and back
unfoldable pub packed : Route → ℕ
packed x = x.kind * 65536 + x.left * 256 + x.right

unfoldable pub unpacked : ℕ → Route
unpacked w = record { kind = w / 65536; left = w / 256 % 256; right = w % 256 }

-- how many routes there are, and the first of them; 0 in the places past the last
unfoldable pub routes_of : List Route → Routes
routes_of xs = record { count = length xs; list = first_of max_routes 0 (map packed xs) }

-- the route in a place, a route of zeros where there is none
unfoldable pub route_at : Routes → ℕ → Route
route_at r i = unpacked (get_or r.list i 0)

-- one route more, which is in the list where there is a place for it; and some more, one after the other
unfoldable pub with_route : Routes → Route → Routes
with_route r x = record { count = r.count + 1; list = cond (ltb r.count max_routes) (set r.list r.count (packed x)) r.list }

unfoldable pub with_routes : Routes → List Route → Routes
with_routes r [] = r
with_routes r (x ∷ xs) = with_routes (with_route r x) xs

-- how many routes 32 places open at the most: every pair of them, and each for both streams and for the aggregate
abbrev pub most_opened : ℕ
most_opened = 32 * 32 + 32 + 32

-- a route's grants are among 32
pub record Low (x : Route) : Type 0 where
  pub kind : x.kind ≤ figures_kind
  pub left : x.left < 32
  pub right : x.right < 32
