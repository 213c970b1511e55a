-- The cells of a route, counted or written.
use mathlib.Core.Path.{◌≡◌, refl, sym, ap, ◌∙◌, subst}
use mathlib.Core.List.{List, [], ◌∷◌, ◌++◌}
use mathlib.Core.Bool.{Bool, true, false, not, true≢false}
use Prim.Native.Nat.{ℕ, suc, ◌+◌, ◌*◌, ◌/◌, ◌≤◌, ◌<◌}
use native.Mathlib.Nat.{le_refl, le_trans, mul-le-mul}
use native.Mathlib.Decide.{dec_le}
use native.Mathlib.Omega.{arith}
use mir.Syntax.{w32}
use mir.Val.{Fits}
use lib.IntN.{ℤ}
use lib.Dec.{leb}
use lib.ListN.{length, set}
use lib.Seq.{sets, length-sets, set_comm}
use borrow.Author.Tests.{le-leb, lt-leb, not-true, not-false}
use Rattle.lists.specs.Lists.{gather}
use Rattle.model.specs.Queries.{Row}
use Rattle.model.specs.Answers.{row_cells}
use Rattle.cells.specs.Cells.{room_for}
use Rattle.cells.proofs.Stored.{sets_append}
use Rattle.rows.specs.declared.Rows.{Rows}
use Rattle.plan.specs.declared.Plan.{Plan}
use Rattle.selection.specs.declared.Scope.{Scope}
use Rattle.sides.specs.Sides.{stream_scope, words_of, left_in, left_mask, right_mask}
use Rattle.sides.proofs.Masks.{left_of_stream}
use Rattle.pairs.specs.Given.{Masked, plan_rows, Counted}
use Rattle.answer.specs.Given.{MostGiven}
use Rattle.ledger.specs.Records.{Memory}
use Rattle.ledger.specs.declared.Ledger.{Ledger}
use Rattle.query.specs.declared.Form.{Form}
use Rattle.route_plan.specs.Ways.{way_plan}
use Rattle.route_plan.specs.declared.Way.{Way}
use Rattle.route_plan.specs.Suits.{Suits}
use Rattle.route_rows.specs.declared.Aim.{Aim}
use Rattle.route_rows.specs.Rows.{plan_width, Gives}
use Rattle.route_cells.specs.Kept.{Keepable, Keeping}
use Rattle.route_cells.specs.Routes.{Setting, plan_of, left_of, way_rows, way_header, way_cells, Bounds, Enterable, Turns}
use Rattle.route_rows.proofs.Plans.{rows_long, width_is, fit}
use Rattle.route_rows.proofs.Sizes.{width_any}

module _ (s : Setting) (y : Way) where
  abbrev rs : List Row
  rs = way_rows s y

  abbrev p : Plan
  p = plan_of s y

  module _ (k : Suits s.memory p) where
    -- four cells, and those of its rows
    pub way_long : length (way_cells s y) ≡ 4 + length (way_rows s y) * plan_width (plan_of s y)
    unfolding way_cells way_header way_rows
    way_long = let e = rows_long s.memory s.own s.granted s.profile p k in omega arith

    pub way_wide : 1 ≤ plan_width (plan_of s y)
    way_wide = let e = width_is s.memory s.own s.granted s.profile p k in omega arith

-- ---- cells behind others, and then those before them

pub set_past : (cells : List ℤ) (i k : ℕ) (x : ℤ) (ys : List ℤ) → i < k → set (sets cells k ys) i x ≡ sets (set cells i x) k ys
set_past cells i k x [] h = refl
set_past cells i k x (y ∷ ys) h = set_past (set cells k y) i (suc k) x ys (omega arith) ∙ ap (λ l. sets l (suc k) ys) (set_comm cells k i y x (λ e. omega arith))

sets_past : (cells : List ℤ) (i k : ℕ) (xs ys : List ℤ) → i + length xs ≤ k → sets (sets cells k ys) i xs ≡ sets (sets cells i xs) k ys
sets_past cells i k [] ys h = refl
sets_past cells i k (x ∷ xs) ys h = ap (λ l. sets l (suc i) xs) (set_past cells i k x ys (omega arith)) ∙ sets_past (set cells i x) (suc i) k xs ys (omega arith)

sets_before : (cells : List ℤ) (at k : ℕ) (xs ys : List ℤ) → k ≡ at + length xs → sets (sets cells k ys) at xs ≡ sets cells at (xs ++ ys)
sets_before cells at k xs ys e = sets_past cells at k xs ys (omega arith) ∙ ap (λ n. sets (sets cells at xs) n ys) e ∙ sym (sets_append cells at xs ys)

-- ---- a place that the cells of a route do not go past

module _ (l : Ledger) (ns : List ℕ) (vs : List ℤ) (p : Plan) (lefts rights : Rows) (aim : Aim) where
  pub bound_made : {n : ℕ} → p.joined ≡ true → p.number ≡ 0 → MostGiven l ns vs p lefts rights n → Bounds l ns vs p lefts rights aim (aim.at + n * aim.width)
  bound_made j e g =
      record {
        enough = λ ts ws gs ps s k.
            let m : Memory = record { ledger = l; names = ns; times = ts; values = vs } in
            let a = mul-le-mul {m₁ = aim.width} (g.shown ts ws gs ps j (fit m ws gs ps p s e) k) (le_refl aim.width) in
            omega arith;
      }

pub bound_small : {n w : ℕ} → n ≤ 16384 → w ≤ 25 → n * w ≤ 409600
bound_small a b = mul-le-mul {n₂ = 16384} {m₂ = 25} a b

-- a count up to a room says whether there is room
pub counted_room : {t room r : ℕ} → Counted t room r → leb r room ≡ leb t room
counted_room {t} {room} {r} g = go (dec_le t room)
  where
    go : Dec (t ≤ room) → leb r room ≡ leb t room
    go (yes l) = ap (λ m. leb m room) (g.exact l)
    go (no l) = lt-leb r room (g.beyond (omega arith)) ∙ sym (lt-leb t room (omega arith))

-- ---- one route

module _ (m : Memory) (own gs ps : List ℕ) (fs : List Form) (y : Way) (write : Bool) (at room : ℕ) (cells : List ℤ) (e : Enterable (record { memory = m; own = own; granted = gs; profile = ps; forms = fs }) y write at room (length cells)) {q : Plan} (f : q ≡ way_plan m.names y fs) where
  abbrev s : Setting
  s = record { memory = m; own = own; granted = gs; profile = ps; forms = fs }

  pub rows_ready : {lefts rights : Rows} → lefts ≡ left_mask m (words_of own gs ps) q → rights ≡ right_mask m (words_of own gs ps) q
      → Suits m q × Masked m own gs ps q lefts rights
  rows_ready a b = (rw f e.suits, record { left = a; right = λ j. b })

  pub left_ready : {sc : Scope} → sc ≡ stream_scope m.ledger m.names q.left → {i : ℕ} {known : Bool} {ks : List ℕ} → Keepable (left_of (record { memory = m; own = own; granted = gs; profile = ps; forms = fs }) y) i known ks
      → Keepable (left_in sc m.times m.values (words_of own gs ps) q) i known ks
  left_ready a {i} {known} {ks} k = subst (λ x. Keepable x i known ks) (sym (left_of_stream m (words_of own gs ps) q a refl ∙ ap (left_mask m (words_of own gs ps)) f)) k

  pub left_kept : {lefts : Rows} → lefts ≡ left_mask m (words_of own gs ps) q → {i : ℕ} {ks ks' : List ℕ} → Keeping lefts i ks ks' → Keeping (left_of (record { memory = m; own = own; granted = gs; profile = ps; forms = fs }) y) i ks ks'
  left_kept a {i} {ks} {ks'} k = subst (λ x. Keeping x i ks ks') (a ∙ ap (left_mask m (words_of own gs ps)) f) k

  module _ {w : ℕ} (g : w ≡ plan_width q) where
    pub bound_ready : (q.number ≡ 0 → w ≤ 25) × (at + 4 ≤ room + 4) × (room ≤ 67108864)
    bound_ready = (λ z. let a = width_any m own gs ps q (rw f e.suits) z in omega arith, let a = e.from in omega arith, e.near)

    module _ {last : Bool} {lefts rights : Rows} {r : ℕ} (a : lefts ≡ left_mask m (words_of own gs ps) q) (b : rights ≡ right_mask m (words_of own gs ps) q) (k : Bounds m.ledger m.names m.values q lefts rights (record { write = write; at = at + 4; room = room; width = w }) r) (h : r ≤ room) (d : last ≡ true) where
      within : at + length (way_cells s y) ≤ r
      unfolding way_rows
      within =
          let x = rows_ready a b in
          let z = k.enough m.times own gs ps x.0 x.1 in
          rw (way_long s y e.suits, sym f, sym g) (omega arith)

      pub route_bounded : Turns (record { memory = m; own = own; granted = gs; profile = ps; forms = fs }) y write last at room cells cells r
      route_bounded =
          record {
            counted = λ z. (refl, λ t. absurd (true≢false (sym d ∙ t)), le-leb r room h ∙ sym (le-leb (at + length (way_cells s y)) room (le_trans within h)));
            written = λ z t. absurd (true≢false (sym d ∙ t));
          }

  module _ {w n : ℕ} {cells₁ : List ℤ} (g : w ≡ plan_width q) (h : Gives (plan_width q) (plan_rows m own gs ps q) (record { write = write; at = at + 4; room = room; width = w }) cells cells₁ n) where
    wide : 1 ≤ w
    wide = let a = way_wide s y e.suits in rw (g, f) a

    pub after_ready : (1 ≤ w) × (at ≤ room) × (room ≤ 67108864)
    after_ready = (wide, e.from, e.near)

    long : length (way_cells s y) ≡ 4 + length (way_rows s y) * w
    long = rw (g, f) (way_long s y e.suits)

    rows_same : plan_rows m own gs ps q ≡ way_rows s y
    unfolding way_rows
    rows_same = rw f

    pub route_counted : not write ≡ true → {last : Bool} {r : ℕ} → ((k : ℕ) → Counted k (room / w) n → Counted (at + (4 + k * w)) room r) → Turns (record { memory = m; own = own; granted = gs; profile = ps; forms = fs }) y write last at room cells cells₁ r
    route_counted a {r = r} k =
        let x = h.counted (not-true write a) in
        let z : Counted (at + length (way_cells s y)) room r = rw long (k (length (way_rows s y)) (rw (← rows_same, g) x.1)) in
        record { counted = λ b. (x.0, λ t. z, counted_room z); written = λ b t. absurd (true≢false (sym b ∙ not-true write a)) }

    module _ (a : not write ≡ false) where
      all_fit : at + (4 + length (way_rows s y) * w) ≤ room
      all_fit = let x = e.fits (not-false write a) in let z = long in omega arith

      cells_long : length (gather row_cells (way_rows s y)) ≡ length (way_rows s y) * w
      unfolding way_rows
      cells_long = rw (g, f) (rows_long m own gs ps (plan_of s y) e.suits)

      roomy : (n : ℕ) → at + 4 + n ≤ room → room_for n (at + 4) (length cells) ≡ true
      unfolding room_for
      roomy n l = let b = e.near in let d = e.lent in rw (le-leb (at + 4 + n) (length cells) (omega arith), le-leb (at + 4 + n) 4294967295 (omega arith))

      done : (cells₁ ≡ sets cells (at + 4) (gather row_cells (way_rows s y))) × (n ≡ length (way_rows s y))
      done =
          let x = all_fit in
          let b = e.near in
          let d = e.lent in
          let many : length (gather row_cells (way_rows s y)) ≡ length (way_rows s y) * w = cells_long in
          let room_is : room_for (length (gather row_cells (way_rows s y))) (at + 4) (length cells) ≡ true = roomy (length (gather row_cells (way_rows s y))) (omega arith) in
          rw rows_same at (h.written (not-false write a) (rw rows_same room_is))

      pub header_ready : (at + 4 ≤ length cells₁) × (at ≤ 67108864)
      header_ready =
          let x = all_fit in
          let b = e.near in
          let d = e.lent in
          let l : length cells₁ ≡ length cells = ap length done.0 ∙ simp length-sets in
          (omega arith, omega arith)

      pub header_fits : Fits w32 (at + 4)
      header_fits = let x = all_fit in let z = e.near in record { fits = omega arith }

      pub rows_fit : Fits w32 (n * w)
      rows_fit = let x = all_fit in let z = e.near in let d = done.1 in record { fits = rw d (omega arith) }

      pub route_fits : Fits w32 (at + 4 + n * w)
      route_fits = let x = all_fit in let z = e.near in let d = done.1 in record { fits = rw d (omega arith) }

      cells_are : {cells₂ : List ℤ} → cells₂ ≡ sets cells₁ at (way_header y w n) → cells₂ ≡ sets cells at (way_cells s y)
      unfolding way_cells way_header
      cells_are k = k ∙ rw (done.0, done.1, g, f) (sets_before cells at (at + 4) (way_header y (plan_width (plan_of s y)) (length (way_rows s y))) (gather row_cells (way_rows s y)) (omega arith))

      pub route_written : {last : Bool} {cells₂ : List ℤ} → cells₂ ≡ sets cells₁ at (way_header y w n) → Turns (record { memory = m; own = own; granted = gs; profile = ps; forms = fs }) y write last at room cells cells₂ (at + 4 + n * w)
      route_written k =
          record {
            counted = λ b. absurd (true≢false (sym (not-false write a) ∙ b));
            written = λ b t. (cells_are k, let d = done.1 in rw (long, d) (omega arith));
          }
