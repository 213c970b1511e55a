-- The answer rows that pass, counted and written row by row.
use mathlib.Core.Path.{◌≡◌, refl, sym, ap, ap₂, ◌∙◌}
use mathlib.Core.List.{List, [], ◌∷◌, ◌++◌, map}
use mathlib.Core.Bool.{Bool, true, false, true≢false, not, cond}
use Prim.Native.Nat.{ℕ, suc, ◌+◌, ◌*◌, ◌-◌, ◌≤◌, ◌<◌}
use native.Mathlib.Omega.{arith}
use lib.IntN.{ℤ, pos}
use lib.ListN.{length, set, length-set, length-append}
use lib.Seq.{sets, length-sets, set_out}
use borrow.Author.Tests.{ltb-true, not-true, not-false}
use lib.Dec.{ltb}
use Rattle.lists.specs.Lists.{select, every, gather, count_from}
use Rattle.lists.proofs.Laws.{All, all_nil, all_cons, all_map, all_any, all_select, select_all, gather_append}
use Rattle.lists.proofs.Counting.{count_done, map_length}
use Rattle.lists.proofs.Gathers.{select_fewer}
use Rattle.syntax.specs.Grammar.{Fn}
use Rattle.model.specs.Queries.{Row}
use Rattle.model.specs.Answers.{row_cells}
use Rattle.figures.specs.declared.Answer.{Answer}
use Rattle.figures.specs.Figures.{row_of, passing}
use Rattle.windows.specs.Events.{figure_in, window_tally, events_from}
use Rattle.windows.specs.Windows.{window_row, run_rows, answers}
use Rattle.windows.specs.Lent.{events_sound, answers_in, passing_row, picked_rows, Counted, Behind, Single, SinkLaws}
use Rattle.windows.specs.declared.Windows.{Windows}

-- ---- two cells

module _ (cells : List ℤ) (at : ℕ) (a : Answer) where
  pub store_none : length cells ≤ at → cells ≡ sets cells at (row_cells (row_of a))
  unfolding row_cells
  store_none h =
      let e = set_out cells at (pos a.end) h in
      sym (rw e (set_out cells (suc at) a.figure (omega arith)))

  pub store_one : length cells ≤ at + 1 → set cells at (pos a.end) ≡ sets cells at (row_cells (row_of a))
  unfolding row_cells
  store_one h =
      let e = length-set cells at (pos a.end) in
      sym (set_out (set cells at (pos a.end)) (suc at) a.figure (omega arith))

  pub store_both : set (set cells at (pos a.end)) (suc at) a.figure ≡ sets cells at (row_cells (row_of a))
  unfolding row_cells
  store_both = refl

-- ---- rows of one value: two cells each

sets_rows : (cells : List ℤ) (place : ℕ) {rs : List Row} → All Single rs → (rest : List ℤ) → sets (sets cells place (gather row_cells rs)) (place + length rs * 2) rest ≡ sets cells place (gather row_cells rs ++ rest)
unfolding gather row_cells
sets_rows cells place all_nil rest = let e : place + 0 * 2 ≡ place = omega arith in rw e
sets_rows cells place (all_cons {x} {xs} h hs) rest = go x.values h (λ l k. sets_rows l k hs rest)
  where
    go : (vs : List ℤ) → length vs ≡ 1 → ((l : List ℤ) (k : ℕ) → sets (sets l k (gather row_cells xs)) (k + length xs * 2) rest ≡ sets l k (gather row_cells xs ++ rest))
        → sets (sets cells place (pos x.at ∷ vs ++ gather row_cells xs)) (place + suc (length xs) * 2) rest ≡ sets cells place ((pos x.at ∷ vs ++ gather row_cells xs) ++ rest)
    go [] e r = absurd (omega arith)
    go (v ∷ []) e r =
        let n : place + suc (length xs) * 2 ≡ suc (suc place) + length xs * 2 = omega arith in
        rw n (r (set (set cells place (pos x.at)) (suc place) v) (suc (suc place)))
    go (v ∷ u ∷ vs) e r = absurd (omega arith)

-- ---- rows behind others

pub counted_more : (more rest : List Row) {rs : List Row} {r : ℕ} (rows : ℕ) → r ≡ rows + length more → rs ≡ more ++ rest → r + length rest ≡ rows + length rs
counted_more more rest rows n e =
    let m = ap length e in
    let l = length-append more rest in
    omega arith

module _ {more : List Row} {cells : List ℤ} {at rows : ℕ} {cells' : List ℤ} {r : ℕ} (b : Behind more cells at rows cells' r) where
  pub behind_length : length cells' ≡ length cells
  behind_length = ap length b.cells_left ∙ length-sets cells (at + rows * 2) (gather row_cells more)

  pub behind_rows : {rs : List Row} (rest : List Row) → rs ≡ more ++ rest → r + length rest ≡ rows + length rs
  behind_rows rest e = counted_more more rest rows b.counted e

  pub behind_cells : {rs : List Row} (rest : List Row) → All Single more → rs ≡ more ++ rest → sets cells' (at + r * 2) (gather row_cells rest) ≡ sets cells (at + rows * 2) (gather row_cells rs)
  behind_cells rest s e =
      let n = b.counted in
      let m : at + r * 2 ≡ at + rows * 2 + length more * 2 = omega arith in
      rw (m, b.cells_left, e, gather_append row_cells more rest) (sets_rows cells (at + rows * 2) s (gather row_cells rest))

-- ---- rows that pass

module _ (ws ks : List ℕ) where
  passing_is : (a : Answer) → passing ws ks a ≡ passing_row ws ks (row_of a)
  unfolding passing passing_row
  passing_is a = refl

  picked_append : (xs ys : List Row) → picked_rows ws ks (xs ++ ys) ≡ picked_rows ws ks xs ++ picked_rows ws ks ys
  unfolding picked_rows select
  picked_append [] ys = refl
  picked_append (x ∷ xs) ys = go (passing_row ws ks x) (picked_append xs ys)
    where
      go : (b : Bool) → select (passing_row ws ks) (xs ++ ys) ≡ select (passing_row ws ks) xs ++ select (passing_row ws ks) ys
          → cond b (x ∷ select (passing_row ws ks) (xs ++ ys)) (select (passing_row ws ks) (xs ++ ys)) ≡ cond b (x ∷ select (passing_row ws ks) xs) (select (passing_row ws ks) xs) ++ select (passing_row ws ks) ys
      go true e = ap (λ l. x ∷ l) e
      go false e = e

  picked_none : picked_rows ws ks [] ≡ []
  unfolding picked_rows select
  picked_none = refl

  picked_single : {rs : List Row} → All Single rs → All Single (picked_rows ws ks rs)
  unfolding picked_rows
  picked_single s = all_select (passing_row ws ks) (λ r _ h. h) s

  picked_few : (rs : List Row) → length (picked_rows ws ks rs) ≤ length rs
  unfolding picked_rows
  picked_few rs = select_fewer (passing_row ws ks) rs

  -- no condition applies
  pub picked_all : length ks ≡ 0 → (rs : List Row) → picked_rows ws ks rs ≡ rs
  unfolding picked_rows passing_row every
  picked_all h rs = go ks h
    where
      go : (ks : List ℕ) → length ks ≡ 0 → select (passing_row ws ks) rs ≡ rs
      go [] h = select_all (passing_row ws []) (λ r. tt) rs
      go (k ∷ ks) h = absurd (omega arith)

  -- ---- one answer row

  module _ (a : Answer) where
    abbrev pub picked_one : List Row
    picked_one = picked_rows ws ks (row_of a ∷ [])

    module _ {b : Bool} (e : b ≡ passing ws ks a) where
      one_kept : not b ≡ false → picked_one ≡ row_of a ∷ []
      unfolding picked_rows select
      one_kept h = rw (sym (passing_is a) ∙ sym e ∙ not-false b h)

      one_left : not b ≡ true → picked_one ≡ []
      unfolding picked_rows select
      one_left h = rw (sym (passing_is a) ∙ sym e ∙ not-true b h)

      pub count_kept : (room : ℕ) (cells : List ℤ) (rows : ℕ) → not b ≡ false → rows ≤ room → Counted picked_one room cells rows cells (rows + 1)
      count_kept room cells rows h f = let l = ap length (one_kept h) in record { cells_same = refl; counted = omega arith; few = omega arith; near = λ _. omega arith }

      pub count_left : (room : ℕ) (cells : List ℤ) (rows : ℕ) → not b ≡ true → Counted picked_one room cells rows cells rows
      count_left room cells rows h = let l = ap length (one_left h) in record { cells_same = refl; counted = omega arith; few = omega arith; near = λ k. k }

      pub put_left : (cells : List ℤ) (at rows : ℕ) → not b ≡ true → Behind picked_one cells at rows cells rows
      unfolding gather
      put_left cells at rows h = let l = ap length (one_left h) in record { cells_left = rw (one_left h); counted = omega arith }

      pub put_kept : (cells : List ℤ) (at rows : ℕ) {cells' : List ℤ} → not b ≡ false → cells' ≡ sets cells (at + rows * 2) (row_cells (row_of a)) → Behind picked_one cells at rows cells' (rows + 1)
      unfolding gather row_cells
      put_kept cells at rows h f = let l = ap length (one_kept h) in record { cells_left = rw (one_kept h) f; counted = omega arith }

-- ---- where rows go

pub counter_laws : {S : Type 0} (ws ks : S → List ℕ) (room : S → ℕ) → SinkLaws (λ s n. ltb (room s) n) (λ s xs c n c' r. Counted (picked_rows (ws s) (ks s) xs) (room s) c n c' r)
counter_laws ws ks room =
    record {
      none = λ s c n. let l = ap length (picked_none (ws s) (ks s)) in record { cells_same = refl; counted = omega arith; few = omega arith; near = λ k. k };
      append = λ s xs ys c c' c'' n n' n'' _ x y.
          let l = ap length (picked_append (ws s) (ks s) xs ys) ∙ length-append (picked_rows (ws s) (ks s) xs) (picked_rows (ws s) (ks s) ys) in
          let a = x.counted in
          let b = y.counted in
          let d = x.few in
          let e = y.few in
          record { cells_same = y.cells_same ∙ x.cells_same; counted = omega arith; few = omega arith; near = λ k. y.near (x.near k) };
      few = λ s xs c c' n n' x. let a = x.few in let b = picked_few (ws s) (ks s) xs in omega arith;
      sized = λ s xs c c' n n' x. ap length x.cells_same;
      stops = λ s xs c n f. let l = ltb-true (room s) n f in record { cells_same = refl; counted = omega arith; few = omega arith; near = λ k. k };
    }

pub writer_laws : {S : Type 0} (ws ks : S → List ℕ) (at : S → ℕ) → SinkLaws (λ (s : S) (n : ℕ). false) (λ s xs c n c' r. Behind (picked_rows (ws s) (ks s) xs) c (at s) n c' r)
unfolding gather
writer_laws ws ks at =
    record {
      none = λ s c n. let l = ap length (picked_none (ws s) (ks s)) in record { cells_left = rw (picked_none (ws s) (ks s)) refl; counted = omega arith };
      append = λ s xs ys c c' c'' n n' n'' i x y.
          let e = picked_append (ws s) (ks s) xs ys in
          let r = behind_rows x (picked_rows (ws s) (ks s) ys) e in
          let b = y.counted in
          record { cells_left = y.cells_left ∙ behind_cells x (picked_rows (ws s) (ks s) ys) (picked_single (ws s) (ks s) i) e; counted = omega arith };
      few = λ s xs c c' n n' x. let a = x.counted in let b = picked_few (ws s) (ks s) xs in omega arith;
      sized = λ s xs c c' n n' x. behind_length x;
      stops = λ s xs c n f. absurd (true≢false (sym f));
    }

pub one_single : (a : Answer) → All Single (row_of a ∷ [])
one_single a = all_cons {x = row_of a} refl all_nil

-- ---- run by run, and window by window

module _ (w : Windows) (f : Fn) (ts cs : List ℕ) (ps : List ℤ) where
  pub run_single : (i k n : ℕ) → All Single (run_rows w f ts cs ps i k n)
  unfolding run_rows window_row
  run_single i k n = all_map (window_row w f ts cs ps i) (λ j _. refl) (all_any (count_from k (n - k)))

  pub run_few : (i k n : ℕ) → length (run_rows w f ts cs ps i k n) ≡ n - k
  unfolding run_rows
  run_few i k n = map_length (window_row w f ts cs ps i) k (n - k)

  pub run_done : (i k n : ℕ) → n ≤ k → run_rows w f ts cs ps i k n ≡ []
  unfolding run_rows
  run_done i k n h = rw (count_done k n h)

  -- one window more
  pub run_next : (i k n : ℕ) → k < n → (a : Answer) → a.end ≡ k * w.offset + w.size → a.figure ≡ figure_in f (window_tally f ts cs ps i (k * w.offset + w.size)) → run_rows w f ts cs ps i k n ≡ row_of a ∷ run_rows w f ts cs ps i (k + 1) n
  unfolding run_rows window_row
  run_next i k n l a x y =
      ap (λ ls. map (window_row w f ts cs ps i) ls) (Rattle.lists.proofs.Counting.count_left k n l)
      ∙ ap₂ (λ (u : ℕ) (v : ℤ). record { at = u; values = v ∷ [] } ∷ run_rows w f ts cs ps i (k + 1) n) (sym x) (sym y)

-- ---- events that may be lent

pub answers_lent : (w : Windows) (f : Fn) (ts cs : List ℕ) (ps : List ℤ) → events_sound w ts cs ps ≡ true → answers w f (events_from ts cs ps 0) ≡ answers_in f w ts cs ps
unfolding answers_in
answers_lent w f ts cs ps s = rw s
