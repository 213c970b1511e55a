-- Events in lent memory: whether they may be lent, and the answer rows that are written of them.
use Rattle.std.specs.Prelude.{◌≡◌, List, [], ◌∷◌, ◌++◌, map, Bool, true, ◌&&◌, cond, ℕ, suc, ◌+◌, ◌*◌, ◌-◌, ◌≤◌, min, ℤ, pos, negsuc, leb, eqb, length, get_or}
use Rattle.std.specs.Int.Signed.{le_z}
use Rattle.std.proofs.lemmas.List.Edits.{sets}
use Rattle.lists.specs.Lists.{All, select, every, gather, count_from}
use Rattle.syntax.specs.Grammar.{Fn}
use Rattle.syntax.specs.Limits.{top}
use Rattle.model.specs.Queries.{Row, figure}
use Rattle.model.specs.Meaning.{holds}
use Rattle.model.specs.Answers.{row_cells}
use Rattle.nodes.specs.Nodes.{cond_in}
use Rattle.windows.specs.Events.{event_at, events_from}
use Rattle.windows.specs.Windows.{most_events, most_rows, most_part, answers}
use Rattle.windows.specs.declared.Event.{Event}
use Rattle.windows.specs.declared.Windows.{Windows}

-- ---- what may be lent

unfoldable pub windows_sound : Windows → Bool
windows_sound w = leb w.clock top && leb 1 w.size && leb 1 w.offset && leb w.offset top

unfoldable pub part_sound : ℤ → Bool
part_sound z = le_z (negsuc (most_part - 1)) z && le_z z (pos most_part)

-- an event behind a time: times do not fall, and none is past the clock
unfoldable pub event_sound : ℕ → ℕ → Event → Bool
event_sound clock low e =
    leb low e.time && leb e.time clock && leb 1 e.count && leb e.count most_rows && part_sound e.part

-- the time before a place
unfoldable pub time_before : List ℕ → ℕ → ℕ
time_before ts i = cond (eqb i 0) 0 (get_or ts (i - 1) 0)

unfoldable pub sound_at : Windows → List ℕ → List ℕ → List ℤ → ℕ → Bool
sound_at w ts cs ps i = event_sound w.clock (time_before ts i) (event_at ts cs ps i)

unfoldable pub events_sound : Windows → List ℕ → List ℕ → List ℤ → Bool
events_sound w ts cs ps =
    windows_sound w && leb (length ts) most_events && eqb (length cs) (length ts) && eqb (length ps) (length ts) && every (sound_at w ts cs ps) (count_from 0 (length ts))

-- ---- the answer rows

-- of events that may not be lent there are none
unfoldable pub answers_in : Fn → Windows → List ℕ → List ℕ → List ℤ → List Row
answers_in f w ts cs ps = cond (events_sound w ts cs ps) (answers w f (events_from ts cs ps 0)) []

-- all conditions hold of a row that end at some places of words
unfoldable pub passing_row : List ℕ → List ℕ → Row → Bool
passing_row ws ks r = every (holds (figure ∷ []) r) (map (λ k. cond_in (2 * k) ws k) ks)

-- the rows of which they do
unfoldable pub picked_rows : List ℕ → List ℕ → List Row → List Row
picked_rows ws ks rs = select (passing_row ws ks) rs

-- rows are counted behind some others, until they are more than a room
pub record Counted (more : List Row) (room : ℕ) (cells : List ℤ) (rows : ℕ) (cells' : List ℤ) (r : ℕ) : Type 0 where
  pub cells_same : cells' ≡ cells
  pub counted : min r (suc room) ≡ min (rows + length more) (suc room)
  pub few : r ≤ rows + length more
  pub near : rows ≤ suc room → r ≤ suc room

-- rows are written behind some others, and counted with them
pub record Behind (more : List Row) (cells : List ℤ) (at rows : ℕ) (cells' : List ℤ) (r : ℕ) : Type 0 where
  pub cells_left : cells' ≡ sets cells (at + rows * 2) (gather row_cells more)
  pub counted : r ≡ rows + length more

-- the rows are written from a place on, and counted
pub record Written (rows : List Row) (cells : List ℤ) (at : ℕ) (cells' : List ℤ) (r : ℕ) : Type 0 where
  pub cells_left : cells' ≡ sets cells at (gather row_cells rows)
  pub counted : r ≡ length rows

-- a row of one value
abbrev pub Single : Row → Type 0
Single r = length r.values ≡ 1

-- where rows go: those behind some others, which are known by how many they are and by the cells before and after
pub record SinkLaws {S : Type 0} (full : S → ℕ → Bool) (taken : S → List Row → List ℤ → ℕ → List ℤ → ℕ → Type 0) : Type 0 where
  pub none : (s : S) (c : List ℤ) (n : ℕ) → taken s [] c n c n
  pub append : (s : S) (xs ys : List Row) (c c' c'' : List ℤ) (n n' n'' : ℕ) → All Single xs → taken s xs c n c' n' → taken s ys c' n' c'' n'' → taken s (xs ++ ys) c n c'' n''
  pub few : (s : S) (xs : List Row) (c c' : List ℤ) (n n' : ℕ) → taken s xs c n c' n' → n' ≤ n + length xs
  pub sized : (s : S) (xs : List Row) (c c' : List ℤ) (n n' : ℕ) → taken s xs c n c' n' → length c' ≡ length c
  pub stops : (s : S) (xs : List Row) (c : List ℤ) (n : ℕ) → full s n ≡ true → taken s xs c n c n
