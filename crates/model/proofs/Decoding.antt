-- An answer read by its own counts gives back, for each route, its grant numbers, its width and its rows.
use mathlib.Core.Path.{◌≡◌, refl, ap, ap₂, ◌∙◌}
use mathlib.Core.List.{List, [], ◌∷◌, ◌++◌, map}
use Prim.Native.Nat.{ℕ, zero, suc}
use native.Mathlib.Omega.{arith}
use lib.IntN.{ℤ, pos, negsuc}
use lib.ListN.{length, take, drop}
use Rattle.lists.specs.Lists.{gather, nth}
use Rattle.lists.proofs.Laws.{All, all_cons}
use Rattle.model.specs.Queries.{Row, Record, Caller}
use Rattle.model.specs.Routes.{Route}
use Rattle.model.specs.Answers.{route_table, row_cells, grant_cells, table_cells, answer_cells}
use Rattle.model.proofs.Widths.{route_wide}

-- what an answer says of a route
pub record Part : Type 0 where
  pub grants : List ℤ
  pub width : ℤ
  pub rows : List (List ℤ)

unfoldable pub natural : ℤ → ℕ
natural (pos n) = n
natural (negsuc n) = 0

-- n rows of a width
unfoldable pub rows_read : ℕ → ℕ → List ℤ → List (List ℤ)
rows_read w zero cs = []
rows_read w (suc n) cs = take w cs ∷ rows_read w n (drop w cs)

unfoldable pub rows_left : ℕ → ℕ → List ℤ → List ℤ
rows_left w zero cs = cs
rows_left w (suc n) cs = rows_left w n (drop w cs)

unfoldable pub read_part : List ℤ → Part
read_part cs = record { grants = take 2 cs; width = nth (pos 0) cs 2; rows = rows_read (natural (nth (pos 0) cs 2)) (natural (nth (pos 0) cs 3)) (drop 4 cs) }

unfoldable pub part_left : List ℤ → List ℤ
part_left cs = rows_left (natural (nth (pos 0) cs 2)) (natural (nth (pos 0) cs 3)) (drop 4 cs)

unfoldable pub read_parts : ℕ → List ℤ → List Part
read_parts zero cs = []
read_parts (suc n) cs = read_part cs ∷ read_parts n (part_left cs)

-- the first cell says how many
unfoldable pub read_answer : List ℤ → List Part
read_answer [] = []
read_answer (n ∷ cs) = read_parts (natural n) cs

unfoldable pub part_of : Record → Caller → Route → Part
part_of x who r =
    let t = route_table x who r in
    record { grants = grant_cells r.grants; width = pos (suc (length t.cols)); rows = map row_cells t.rows }

take_all : (vs rest : List ℤ) (n : ℕ) → length vs ≡ n → take n (vs ++ rest) ≡ vs
take_all [] rest zero e = refl
take_all [] rest (suc n) e = absurd (omega arith)
take_all (v ∷ vs) rest zero e = absurd (omega arith)
take_all (v ∷ vs) rest (suc n) e = ap (λ l. v ∷ l) (take_all vs rest n (omega arith))

drop_all : (vs rest : List ℤ) (n : ℕ) → length vs ≡ n → drop n (vs ++ rest) ≡ rest
drop_all [] rest zero e = refl
drop_all [] rest (suc n) e = absurd (omega arith)
drop_all (v ∷ vs) rest zero e = absurd (omega arith)
drop_all (v ∷ vs) rest (suc n) e = drop_all vs rest n (omega arith)

module _ (w : ℕ) where
  rows_back : (rs : List Row) (rest : List ℤ) → All (λ (r : Row). length r.values ≡ w) rs
      → (rows_read (suc w) (length rs) (gather row_cells rs ++ rest) ≡ map row_cells rs) × (rows_left (suc w) (length rs) (gather row_cells rs ++ rest) ≡ rest)
  unfolding rows_read rows_left gather row_cells
  rows_back [] rest h = (refl, refl)
  rows_back (r ∷ rs) rest (all_cons e h) =
      let i = rows_back rs rest h in
      let a = mathlib.Core.List.append_assoc r.values (gather row_cells rs) rest in
      let l = ap (drop w) a ∙ drop_all r.values (gather row_cells rs ++ rest) w e in (
        ap₂ (λ v k. (pos r.at ∷ v) ∷ rows_read (suc w) (length rs) k) (ap (take w) a ∙ take_all r.values (gather row_cells rs ++ rest) w e) l ∙ ap (λ k. row_cells r ∷ k) i.0,
        ap (rows_left (suc w) (length rs)) l ∙ i.1,
      )

parts_back : (x : Record) (who : Caller) (rs : List Route) → read_parts (length rs) (gather (λ r. table_cells r.grants (route_table x who r)) rs) ≡ map (part_of x who) rs
unfolding read_parts read_part part_left gather table_cells grant_cells nth natural part_of
parts_back x who [] = refl
parts_back x who (r ∷ rs) =
    let t = route_table x who r in
    let h = rows_back (length t.cols) t.rows (gather (λ r. table_cells r.grants (route_table x who r)) rs) (route_wide x who r) in
    ap₂ (λ a b. record { grants = grant_cells r.grants; width = pos (suc (length t.cols)); rows = a } ∷ read_parts (length rs) b) h.0 h.1
    ∙ ap (λ l. part_of x who r ∷ l) (parts_back x who rs)

pub answer_read : (x : Record) (who : Caller) (rs : List Route) → read_answer (answer_cells x who rs) ≡ map (part_of x who) rs
unfolding read_answer answer_cells natural
answer_read x who rs = parts_back x who rs
