-- The line of a route: what the functions return, one law for each return.
use mathlib.Core.Path.{◌≡◌, refl, sym, ap, ◌∙◌}
use mathlib.Core.List.{List}
use mathlib.Core.Bool.{true, false, not}
use mathlib.Core.Option.{none, some}
use Prim.Native.Nat.{ℕ, zero, suc, ◌-◌, ◌≤◌, ◌<◌}
use native.Mathlib.Omega.{arith}
use lib.IntN.{ℤ, pos, negsuc, nat_abs}
use lib.Dec.{leb}
use lib.ListN.{length}
use mir.Syntax.{w64}
use mir.Val.{SFits, to_z, of_z}
use mir.ValLaws.{to_z-of_z}
use Rattle.std.specs.Prelude.{Result, Ok, Err}
use Rattle.std.specs.Result.{OkIff, result_unwrap_or}
use Rattle.std.specs.Int.{FitsUnsignedBits}
use borrow.Author.Tests.{lt-ltb, le-ltb, leb-true, leb-false, not-true, not-false}
use Rattle.refusal.specs.Checks.{refuse, first}
use Rattle.refusal.specs.declared.Refusal.{Refusal}
use Rattle.refusal.specs.declared.Refusal.TheVariants.{NoRoute, ManyRoutes, NoRoom}
use Rattle.lists.specs.Lists.{nth}
use Rattle.lists.proofs.Laws.{all_nth}
use Rattle.syntax.specs.Grammar.{Bytes}
use Rattle.syntax.specs.Limits.{natural}
use Rattle.calls.specs.Names.{map_option}
use Rattle.calls.specs.Replies.{reply, lent_after}
use Rattle.calls.specs.Asking.{some_bytes, no_line}
use Rattle.needs.specs.declared.Needs.{Needs}
use Rattle.routes.specs.declared.Open.{Open}
use Rattle.routes.specs.declared.Route.{Route}
use Rattle.routes.specs.declared.Routes.{Routes}
use Rattle.routes.specs.Listing.{no_route, routes_in, routes_of, route_at}
use Rattle.routes.proofs.Listed.{route_listed}
use Rattle.print.specs.Writing.{furthest}
use Rattle.print_query.specs.Texts.{has_room, Lined}
use Rattle.print_query.specs.declared.Printed.{Printed}
use Rattle.route_plan.specs.Ways.{way_of}
use Rattle.route_plan.specs.declared.Way.{Way}
use Rattle.ask.specs.declared.Reply.{Reply}
use Rattle.ask.specs.Replies.{refused_with, reply_of, Replies}
use Rattle.route_line.specs.Texts.{Wording, way_text}
use Rattle.ask.specs.Lines.{place_of, text_at, print_checks, print_reply, Printable}

-- ---- a number that is not below 0

pub natural_of : {E : Type 0} (z : ℤ) → SFits w64 z → (r : Result ℕ E) → OkIff r (FitsUnsignedBits 64 z) (nat_abs z) → result_unwrap_or r 0 ≡ natural z
unfolding natural
natural_of (pos n) f (Ok x) h = h.1
natural_of (pos n) f (Err e) h = absurd (h (let s = f.sfits in omega arith))
natural_of (negsuc n) f (Ok x) h = absurd h.0
natural_of (negsuc n) f (Err e) h = refl

-- of a number that was handed on
pub natural_read : (z : ℤ) → SFits w64 z → {v : ℕ} → v ≡ natural (to_z w64 (of_z w64 z)) → v ≡ natural z
natural_read z fits e = e ∙ ap natural (to_z-of_z w64 z fits)

-- ---- the place of a number

module _ (count : ℕ) where
  unnumbered : (z : ℤ) → 0 ≡ natural z → place_of count z ≡ none
  unfolding natural place_of
  unnumbered (pos zero) e = refl
  unnumbered (pos (suc i)) e = absurd (omega arith)
  unnumbered (negsuc i) e = refl

  past : (z : ℤ) → count < natural z → place_of count z ≡ none
  unfolding natural place_of
  past (pos zero) h = refl
  past (pos (suc i)) h = rw (le-ltb i count (omega arith)) refl
  past (negsuc i) h = refl

  placed : (z : ℤ) → (natural z ≡ 0 → ⊥) → natural z ≤ count → place_of count z ≡ some (natural z - 1)
  unfolding natural place_of
  placed (pos zero) a h = absurd (a refl)
  placed (pos (suc i)) a h = rw (lt-ltb i count (omega arith)) (ap some (omega arith))
  placed (negsuc i) a h = absurd (a refl)

-- ---- the reply

module _ (w : Wording) (o : Open) (n : Needs) (k : Printable w o n) (number : ℤ) (out : Bytes) where
  abbrev xs : List Route
  xs = routes_in o n

  refused_by : (f : Refusal) → first (print_checks w o n number out) ≡ some f → {y : Reply} → y ≡ refused_with f → Replies (print_reply w o n number out) out out y
  unfolding print_reply reply reply_of lent_after
  refused_by f e g = record { said = rw e g; left = rw e refl }

  no_place : place_of (length xs) number ≡ none → {y : Reply} → y ≡ refused_with NoRoute → Replies (print_reply w o n number out) out out y
  unfolding print_checks first refuse text_at map_option no_line
  no_place e g = refused_by NoRoute (rw e refl) g

  module _ {r : Routes} (e : r ≡ routes_of (routes_in o n)) {v : ℕ} (g : v ≡ natural number) where
    count_is : r.count ≡ length xs
    unfolding routes_of
    count_is = ap (λ (q : Routes). q.count) e

    pub print_none : v ≡ 0 → {y : Reply} → y ≡ refused_with NoRoute → Replies (print_reply w o n number out) out out y
    print_none a h = no_place (unnumbered (length xs) number (sym a ∙ g)) h

    pub print_past : r.count < v → {y : Reply} → y ≡ refused_with NoRoute → Replies (print_reply w o n number out) out out y
    print_past a h = no_place (past (length xs) number (rw (count_is, g) at a)) h

    module _ (a : v ≡ 0 → ⊥) (b : v ≤ r.count) where
      abbrev way : Way
      way = way_of o n (nth no_route xs (natural number - 1))

      some_text : text_at w o n number ≡ some (way_text w way)
      unfolding text_at map_option
      some_text = rw (placed (length xs) number (λ z. a (g ∙ z)) (rw (count_is, g) at b)) refl

      pub print_many : 16 < r.count → {y : Reply} → y ≡ refused_with ManyRoutes → Replies (print_reply w o n number out) out out y
      unfolding print_checks first refuse no_line
      print_many h j = refused_by ManyRoutes (rw (some_text, lt-ltb 16 (length xs) (rw count_is at h)) refl) j

      module _ (c : r.count ≤ 16) {x : Route} {y : Way} (f : x ≡ route_at r (v - 1)) (i : y ≡ way_of o n x) where
        few : length xs ≤ 16
        few = rw count_is at c

        place : natural number - 1 < length xs
        place = let p = rw (count_is, g) at b in let q : natural number ≡ 0 → ⊥ = λ z. a (g ∙ z) in omega (arith, q)

        way_is : y ≡ way
        way_is = i ∙ ap (way_of o n) (f ∙ ap (λ z. route_at r (z - 1)) g ∙ ap (λ q. route_at q (natural number - 1)) e ∙ route_listed o n (natural number - 1) (let p = place in let q = few in omega arith))

        short : length (way_text w way) < furthest
        short = all_nth no_route (natural number - 1) k.short place

        -- there is room
        room_is : has_room (way_text w way) out ≡ leb (length (way_text w way)) (length out)
        unfolding has_room
        room_is = rw (lt-ltb (length (way_text w way)) furthest short) refl

        module _ {out' : Bytes} {p : Printed} (l : Lined (way_text w y) out out' p) where
          line_is : Lined (way_text w way) out out' p
          line_is = rw way_is at l

          told : p.ok ≡ leb (length (way_text w way)) (length out)
          told = line_is.ok ∙ room_is

          pub print_full : not p.ok ≡ true → {u : Reply} → u ≡ refused_with NoRoom → Replies (print_reply w o n number out) out out' u
          unfolding print_checks first refuse no_line some_bytes
          print_full h j =
              let z = sym told ∙ not-true p.ok h in
              let s = leb-false (length (way_text w way)) (length out) z in
              let same : out' ≡ out = line_is.bytes ∙ rw (room_is ∙ z) refl in
              rw same (refused_by NoRoom (rw (some_text, le-ltb 16 (length xs) few, lt-ltb (length out) (length (way_text w way)) s) refl) j)

          passing : not p.ok ≡ false → first (print_checks w o n number out) ≡ none
          unfolding print_checks first refuse no_line some_bytes
          passing h =
              let s = leb-true (length (way_text w way)) (length out) (sym told ∙ not-false p.ok h) in
              rw (some_text, le-ltb 16 (length xs) few, le-ltb (length out) (length (way_text w way)) s) refl

          pub print_filled : not p.ok ≡ false → Replies (print_reply w o n number out) out out' (record { refusal = 0; count = p.length })
          unfolding print_reply reply reply_of lent_after some_bytes
          print_filled h =
              let z = sym told ∙ not-false p.ok h in
              let s = short in
              let m : p.length ≡ length (way_text w way) = line_is.counted ∙ (omega arith) in
              record { said = rw (passing h, some_text) (rw m refl); left = rw (passing h, some_text) (line_is.bytes ∙ rw (room_is ∙ z) refl) }
