-- The reply to a query whose text passes, one law for each return.
use mathlib.Core.Path.{◌≡◌, refl, sym, ap, ◌∙◌}
use mathlib.Core.List.{List, [], ◌∷◌, ◌++◌}
use mathlib.Core.Bool.{true, false}
use mathlib.Core.Option.{none, some}
use Prim.Native.Nat.{ℕ, suc, ◌+◌, ◌≤◌, ◌<◌, min}
use native.Mathlib.Nat.{mul-le-mul}
use native.Mathlib.Omega.{arith}
use lib.IntN.{ℤ, pos}
use lib.Dec.{leb}
use lib.ListN.{length, drop}
use lib.Seq.{sets, sets-eq}
use borrow.Author.Tests.{lt-ltb, le-ltb, leb-true, leb-false}
use Rattle.lists.specs.Lists.{empty?}
use Rattle.lists.proofs.Laws.{all_weaken}
use Rattle.refusal.specs.Checks.{refuse, first}
use Rattle.refusal.specs.declared.Refusal.{Refusal}
use Rattle.refusal.specs.declared.Refusal.TheVariants.{NoRoute, ManyRoutes, NoRoom}
use Rattle.calls.specs.Replies.{reply, lent_after}
use Rattle.needs.specs.declared.Needs.{Needs}
use Rattle.routes.specs.declared.Open.{Open}
use Rattle.routes.specs.declared.Route.{Route}
use Rattle.routes.specs.declared.Routes.{Routes}
use Rattle.routes.specs.Listing.{routes_in, routes_of}
use Rattle.route_plan.specs.Ways.{way_of}
use Rattle.ask.specs.declared.Reply.{Reply}
use Rattle.ask.specs.Replies.{refused_with, reply_of, Replies}
use Rattle.route_rows.specs.Rows.{room_end}
use Rattle.route_cells.specs.Routes.{Setting, way_cells}
use Rattle.ask.specs.Cells.{routes_cells, most_cells, Runnable, run_cells, run_checks, run_reply, Ready}
use Rattle.answer.proofs.Joined.{gather_most}

empty_none : {A : Type 0} (xs : List A) → length xs ≡ 0 → empty? xs ≡ true
unfolding empty?
empty_none [] e = refl
empty_none (x ∷ xs) e = absurd (omega arith)

empty_some : {A : Type 0} (xs : List A) → (length xs ≡ 0 → ⊥) → empty? xs ≡ false
unfolding empty?
empty_some [] e = absurd (e refl)
empty_some (x ∷ xs) e = refl

module _ (s : Setting) (o : Open) (n : Needs) (k : Ready s o n) (cells : List ℤ) where
  abbrev xs : List Route
  xs = routes_in o n

  abbrev all : List ℤ
  all = routes_cells s o n (routes_in o n)

  refused_by : (f : Refusal) → first (run_checks s o n cells) ≡ some f → {y : Reply} → y ≡ refused_with f → Replies (run_reply s o n cells) cells cells y
  unfolding run_reply reply reply_of lent_after
  refused_by f e g = record { said = rw e g; left = rw e refl }

  module _ {r : Routes} (e : r ≡ routes_of (routes_in o n)) where
    count_is : r.count ≡ length xs
    unfolding routes_of
    count_is = ap (λ (q : Routes). q.count) e

    pub run_none : r.count ≡ 0 → {y : Reply} → y ≡ refused_with NoRoute → Replies (run_reply s o n cells) cells cells y
    unfolding run_checks first refuse
    run_none a g = refused_by NoRoute (rw (empty_none xs (sym count_is ∙ a)) refl) g

    module _ (a : r.count ≡ 0 → ⊥) where
      some_there : empty? xs ≡ false
      some_there = empty_some xs (λ z. a (count_is ∙ z))

      pub run_many : 16 < r.count → {y : Reply} → y ≡ refused_with ManyRoutes → Replies (run_reply s o n cells) cells cells y
      unfolding run_checks first refuse
      run_many h g = refused_by ManyRoutes (rw (some_there, lt-ltb 16 (length xs) (rw count_is at h)) refl) g

      module _ (b : r.count ≤ 16) where
        few : length xs ≤ 16
        few = rw count_is at b

        -- the cells of all routes are below the end of the room
        total_few : suc (length all) ≤ room_end
        unfolding routes_cells
        total_few =
            let g = gather_most (λ x. way_cells s (way_of o n x)) 4194303 k.small in
            let m = mul-le-mul {n₁ = length xs} {m₁ = 4194303} {n₂ = 16} {m₂ = 4194303} few (omega arith) in
            omega arith

        module _ {room : ℕ} (f : room ≡ min (length cells) room_end) where
          pub run_ready : {most : ℕ} → (most ≡ most_cells n s.memory.names s.memory.ledger) × (most ≤ room_end) → Runnable s o n r most room (length cells)
          run_ready m = record { listed = e; few = few; each = rw m.0 k.each; limit = m.1; near = omega arith; lent = omega arith }

          pub run_full : leb (suc (length all)) room ≡ false → {cells₁ : List ℤ} → cells₁ ≡ cells → {y : Reply} → y ≡ refused_with NoRoom → Replies (run_reply s o n cells) cells cells₁ y
          unfolding run_checks first refuse run_cells
          run_full h c g =
              let z = leb-false (suc (length all)) room h in
              let l = total_few in
              rw c (refused_by NoRoom (rw (some_there, le-ltb 16 (length xs) few, lt-ltb (length cells) (suc (length all)) (omega arith)) refl) g)

          module _ (h : leb (suc (length all)) room ≡ true) where
            fitting : suc (length all) ≤ room
            fitting = leb-true (suc (length all)) room h

            pub put_ready : {cells₁ : List ℤ} → cells₁ ≡ cells → {most : ℕ} → (most ≡ most_cells n s.memory.names s.memory.ledger) × (most ≤ room_end) → Runnable s o n r room_end room (length cells₁) × (suc (length all) ≤ room)
            put_ready c m =
                let l = m.1 in
                let w = run_ready m in
                (record { listed = e; few = few; each = all_weaken (λ x v. let u = v.few in record { suits = v.suits; few = omega arith }) w.each; limit = omega arith; near = w.near; lent = rw c w.lent }, fitting)

            passing : first (run_checks s o n cells) ≡ none
            unfolding run_checks first refuse run_cells
            passing = let z = fitting in rw (some_there, le-ltb 16 (length xs) few, le-ltb (length cells) (suc (length all)) (omega arith)) refl

            pub run_filled : {cells₁ cells₂ : List ℤ} → cells₁ ≡ cells → {j : ℕ} → (cells₂ ≡ sets cells₁ 0 (pos (length xs) ∷ all)) × (j ≡ suc (length all)) → Replies (run_reply s o n cells) cells cells₂ (record { refusal = 0; count = j })
            unfolding run_reply reply reply_of lent_after run_cells
            run_filled c w =
                let z = fitting in
                let j : 0 + suc (length all) ≡ suc (length all) = omega arith in
                record { said = rw passing (rw w.1 refl); left = rw passing (w.0 ∙ rw c (sets-eq (pos (length xs) ∷ all) cells 0 (omega arith) ∙ ap (λ m. (pos (length xs) ∷ all) ++ drop m cells) j)) }
