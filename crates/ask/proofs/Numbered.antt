-- The number of a route, as far as numbers are told apart: there are fewer routes than that.
use mathlib.Core.Path.{◌≡◌, refl, sym, ap, ◌∙◌}
use mathlib.Core.List.{List, [], ◌∷◌, ◌++◌, map}
use mathlib.Core.Bool.{Bool, true, false, cond}
use mathlib.Core.Option.{none, some}
use Prim.Native.Nat.{ℕ, zero, suc, ◌*◌, ◌-◌, ◌≤◌, ◌<◌, min}
use native.Mathlib.Omega.{arith}
use lib.IntN.{ℤ, pos, negsuc, neg_ℤ}
use lib.Dec.{ltb}
use lib.ListN.{length, length-append, length-map}
use borrow.Author.Tests.{ltb-true, ltb-false, le-ltb}
use Rattle.lists.specs.Lists.{gather, count_from}
use Rattle.lists.proofs.Gathers.{select_fewer}
use Rattle.lists.proofs.Counting.{count_length}
use Rattle.syntax.specs.Grammar.{Bytes}
use Rattle.text.specs.Words.{far, clamp}
use Rattle.masks.specs.Masks.{bit?}
use Rattle.rows.specs.Masks.{bits_from}
use Rattle.needs.specs.declared.Needs.{Needs}
use Rattle.routes.specs.declared.Open.{Open}
use Rattle.routes.specs.declared.Gate.{Gate}
use Rattle.routes.specs.declared.Route.{Route}
use Rattle.openings.specs.Made.{pair_kind, figures_kind}
use Rattle.routes.specs.Listing.{places_in, right_sides, side_route, lone_route, side_routes, opened_routes, leaves_some, gate_of, routes_by, routes_in, most_opened}
use Rattle.route_line.specs.Texts.{Wording}
use Rattle.ask.specs.Lines.{place_of, text_at, print_checks, print_reply}

-- ---- how many routes there are

gather_most : {A B : Type 0} (f : A → List B) → ((x : A) → length (f x) ≤ 32) → (xs : List A) → length (gather f xs) ≤ length xs * 32
unfolding gather
gather_most f h [] = omega arith
gather_most f h (x ∷ xs) = let a = gather_most f h xs in let b = h x in let c = length-append (f x) (gather f xs) in omega arith

places_few : (m : ℕ) → length (places_in m) ≤ 32
unfolding bits_from
places_few m = let a = count_length 0 32 in let b = select_fewer (bit? m) (count_from 0 32) in omega arith

rights_few : (g : Gate) (i : ℕ) → length (right_sides g i) ≤ 32
unfolding right_sides
rights_few g i = go g.lone
  where
    go : (b : Bool) → length (cond b (i ∷ []) (places_in g.right)) ≤ 32
    go true = omega arith
    go false = places_few g.right

sides_few : (g : Gate) → length (side_routes g) ≤ 1024
unfolding side_routes
sides_few g =
    let a = gather_most (λ i. map (side_route i) (right_sides g i)) (λ i. let e = length-map (right_sides g i) (side_route i) in let f = rights_few g i in omega arith) (places_in g.left) in
    let b = places_few g.left in
    omega arith

lone_few : (k m : ℕ) → length (map (lone_route k) (places_in m)) ≤ 32
lone_few k m = let a = length-map (places_in m) (lone_route k) in let b = places_few m in omega arith

three_few : (xs ys zs : List Route) → length xs ≤ 1024 → length ys ≤ 32 → length zs ≤ 32 → length (xs ++ (ys ++ zs)) ≤ most_opened
three_few xs ys zs h k l = let a = length-append xs (ys ++ zs) in let b = length-append ys zs in omega arith

opened_few : (g : Gate) → length (opened_routes g) ≤ most_opened
unfolding opened_routes
opened_few g = three_few (side_routes g) (map (lone_route pair_kind) (places_in g.pair)) (map (lone_route figures_kind) (places_in g.figures)) (sides_few g) (lone_few pair_kind g.pair) (lone_few figures_kind g.figures)

routes_few : (o : Open) (n : Needs) → length (routes_in o n) ≤ most_opened
unfolding routes_in routes_by
routes_few o n = let a = select_fewer (leaves_some (gate_of o n) o.shown) (opened_routes (gate_of o n)) in let b = opened_few (gate_of o n) in omega arith

-- ---- numbers beyond every range

place_clamped : (count : ℕ) → count < far → (z : ℤ) → place_of count (clamp z) ≡ place_of count z
unfolding place_of clamp far
place_clamped count h (pos zero) = refl
place_clamped count h (pos (suc i)) =
    let e : min (suc i) far ≡ suc (min i (far - 1)) = omega arith in
    ap (λ n. place_of count (pos n)) e ∙ go (ltb i count) refl
  where
    go : (b : Bool) → ltb i count ≡ b → cond (ltb (min i (far - 1)) count) (some (min i (far - 1))) none ≡ cond b (some i) none
    go true t = let l = ltb-true i count t in let e : min i (far - 1) ≡ i = omega arith in rw (e, t)
    go false t = let l = ltb-false i count t in rw (le-ltb (min i (far - 1)) count (omega arith))
place_clamped count h (negsuc i) = let e : min (suc i) far ≡ suc (min i (far - 1)) = omega arith in ap (λ n. place_of count (neg_ℤ (pos n))) e

pub clamp_twice : (z : ℤ) → clamp (clamp z) ≡ clamp z
unfolding clamp far
clamp_twice (pos n) = let e : min (min n far) far ≡ min n far = omega arith in ap pos e
clamp_twice (negsuc n) =
    let e : min (suc n) far ≡ suc (min n (far - 1)) = omega arith in
    let f : min (suc (min n (far - 1))) far ≡ suc (min n (far - 1)) = omega arith in
    ap (λ m. clamp (neg_ℤ (pos m))) e ∙ ap (λ m. neg_ℤ (pos m)) f ∙ sym (ap (λ m. neg_ℤ (pos m)) e)

-- two numbers that are not told apart
pub print_numbered : (s : Wording) (o : Open) (n : Needs) (y z : ℤ) → clamp y ≡ clamp z → (out : Bytes) → print_reply s o n y out ≡ print_reply s o n z out
unfolding print_reply print_checks text_at far
print_numbered s o n y z e out = rw same
  where
    below : length (routes_in o n) < far
    below = let a = routes_few o n in omega arith

    same : place_of (length (routes_in o n)) y ≡ place_of (length (routes_in o n)) z
    same = sym (place_clamped (length (routes_in o n)) below y) ∙ ap (place_of (length (routes_in o n))) e ∙ place_clamped (length (routes_in o n)) below z
