-- The first line feed, and the lines that it cuts off.
use mathlib.Core.Path.{◌≡◌, refl, sym, ap, ◌∙◌}
use mathlib.Core.List.{List, [], ◌∷◌, ◌++◌, append_assoc}
use mathlib.Core.Bool.{Bool, true, false, cond}
use Prim.Native.Nat.{ℕ, suc, ◌+◌, ◌≤◌, ◌<◌}
use native.Mathlib.Omega.{arith}
use lib.Dec.{eqb}
use lib.ListN.{length, get_or, take, drop, drop_of_length-le}
use lib.Seq.{drop-cons}
use borrow.Author.Tests.{eq-eqb, ne_eqb}
use Rattle.lists.proofs.Laws.{append_nil}
use Rattle.syntax.specs.Grammar.{Bytes}
use Rattle.console.specs.Lines.{in_front, lines_of, line_end, Ends, ended, begun, closing}

-- ---- a loop that looks for it

-- it is not before i
pub record Ahead (s : Bytes) (at i : ℕ) : Type 0 where
  pub same : at + line_end (drop at s) ≡ i + line_end (drop i s)
  pub inside : i ≤ length s

pub ahead_start : (s : Bytes) (at : ℕ) → at ≤ length s → Ahead s at at
ahead_start s at h = record { same = refl; inside = h }

module _ (s : Bytes) (at : ℕ) {i : ℕ} (x : Ahead s at i) where
  pub ahead_more : i < length s → (get_or s i 0 ≡ 10 → ⊥) → Ahead s at (i + 1)
  unfolding line_end
  ahead_more h k =
      let f : i + 1 ≡ suc i = omega arith in
      let e : line_end (drop i s) ≡ suc (line_end (drop (suc i) s)) = ap line_end (drop-cons s i 0 h) ∙ rw (ne_eqb (get_or s i 0) 10 k) in
      record { same = x.same ∙ rw f (omega arith); inside = omega arith }

  pub ahead_here : i < length s → get_or s i 0 ≡ 10 → Ends s at i
  unfolding line_end
  ahead_here h k =
      let e : line_end (drop i s) ≡ 0 = ap line_end (drop-cons s i 0 h) ∙ rw (eq-eqb (get_or s i 0) 10 k) in
      record { place = omega (arith, x.same); inside = x.inside }

  pub ahead_none : length s ≤ i → Ends s at i
  unfolding line_end
  ahead_none h =
      let e : line_end (drop i s) ≡ 0 = ap line_end (drop_of_length-le s {i = i} h) in
      record { place = omega (arith, x.same); inside = x.inside }

pub ruleset ahead_ends = (ahead_start, ahead_more, ahead_here, ahead_none)

-- ---- the lines of a text

front_lines : (b : ℕ) (l : Bytes) (ls ms : List Bytes) → ms ≡ l ∷ ls → in_front b ms ≡ (b ∷ l) ∷ ls
unfolding in_front
front_lines b l ls ms e = rw e

-- where there is a line feed, the bytes before it are the first line, and those after it hold the others
pub line_cut : (s : Bytes) → line_end s < length s → lines_of s ≡ take (line_end s) s ∷ lines_of (drop (line_end s + 1) s)
unfolding line_end lines_of
line_cut [] h = absurd (omega arith)
line_cut (b ∷ bs) h = go (eqb b 10) h (line_cut bs)
  where
    go : (c : Bool) → cond c 0 (suc (line_end bs)) < suc (length bs)
        → (line_end bs < length bs → lines_of bs ≡ take (line_end bs) bs ∷ lines_of (drop (line_end bs + 1) bs))
        → cond c ([] ∷ lines_of bs) (in_front b (lines_of bs)) ≡ take (cond c 0 (suc (line_end bs))) (b ∷ bs) ∷ lines_of (drop (cond c 0 (suc (line_end bs)) + 1) (b ∷ bs))
    go true k i = refl
    go false k i = let f : suc (line_end bs) + 1 ≡ suc (line_end bs + 1) = omega arith in front_lines b (take (line_end bs) bs) (lines_of (drop (line_end bs + 1) bs)) (lines_of bs) (i (omega arith)) ∙ rw f

-- where there is none, all of it is the last line
pub line_rest : (b : ℕ) (bs : Bytes) → length (b ∷ bs) ≤ line_end (b ∷ bs) → lines_of (b ∷ bs) ≡ (b ∷ bs) ∷ []
unfolding line_end lines_of in_front
line_rest b [] h = go (eqb b 10) h
  where
    go : (c : Bool) → 1 ≤ cond c 0 1 → cond c ([] ∷ []) ((b ∷ []) ∷ []) ≡ (b ∷ []) ∷ []
    go true k = absurd (omega arith)
    go false k = refl
line_rest b (d ∷ bs) h = go (eqb b 10) h (line_rest d bs)
  where
    go : (c : Bool) → suc (suc (length bs)) ≤ cond c 0 (suc (line_end (d ∷ bs)))
        → (suc (length bs) ≤ line_end (d ∷ bs) → lines_of (d ∷ bs) ≡ (d ∷ bs) ∷ [])
        → cond c ([] ∷ lines_of (d ∷ bs)) (in_front b (lines_of (d ∷ bs))) ≡ (b ∷ d ∷ bs) ∷ []
    go true k i = absurd (omega arith)
    go false k i = front_lines b (d ∷ bs) [] (lines_of (d ∷ bs)) (i (omega arith))

-- ---- input that comes in parts

pub ended_append : (w s t : Bytes) → ended w (s ++ t) ≡ ended w s ++ ended (begun w s) t
unfolding ended begun
ended_append w [] t = refl
ended_append w (b ∷ bs) t = go (eqb b 10) (λ v. ended_append v bs t)
  where
    go : (c : Bool) → ((v : Bytes) → ended v (bs ++ t) ≡ ended v bs ++ ended (begun v bs) t) → cond c (w ∷ ended [] (bs ++ t)) (ended (w ++ (b ∷ [])) (bs ++ t)) ≡ cond c (w ∷ ended [] bs) (ended (w ++ (b ∷ [])) bs) ++ ended (cond c (begun [] bs) (begun (w ++ (b ∷ [])) bs)) t
    go true i = ap (λ (ls : List Bytes). w ∷ ls) (i [])
    go false i = i (w ++ (b ∷ []))

pub begun_append : (w s t : Bytes) → begun w (s ++ t) ≡ begun (begun w s) t
unfolding begun
begun_append w [] t = refl
begun_append w (b ∷ bs) t = go (eqb b 10) (λ v. begun_append v bs t)
  where
    go : (c : Bool) → ((v : Bytes) → begun v (bs ++ t) ≡ begun (begun v bs) t) → cond c (begun [] (bs ++ t)) (begun (w ++ (b ∷ [])) (bs ++ t)) ≡ begun (cond c (begun [] bs) (begun (w ++ (b ∷ [])) bs)) t
    go true i = i []
    go false i = i (w ++ (b ∷ []))

-- up to a line feed one line ends, and nothing is there of the next one
pub ended_line : (w d : Bytes) → line_end d < length d → ended w (take (line_end d + 1) d) ≡ (w ++ take (line_end d) d) ∷ []
unfolding ended line_end
ended_line w [] h = absurd (omega arith)
ended_line w (b ∷ bs) h = go (eqb b 10) refl (λ v. ended_line v bs) h
  where
    go : (c : Bool) → eqb b 10 ≡ c → ((v : Bytes) → line_end bs < length bs → ended v (take (line_end bs + 1) bs) ≡ (v ++ take (line_end bs) bs) ∷ []) → cond c 0 (suc (line_end bs)) < suc (length bs) → ended w (take (cond c 0 (suc (line_end bs)) + 1) (b ∷ bs)) ≡ (w ++ take (cond c 0 (suc (line_end bs))) (b ∷ bs)) ∷ []
    go true e i k = rw (e, append_nil w) refl
    go false e i k =
        let f : suc (line_end bs) + 1 ≡ suc (line_end bs + 1) = omega arith in
        rw (f, e) (i (w ++ (b ∷ [])) (omega arith) ∙ ap (λ (l : Bytes). l ∷ []) (append_assoc w (b ∷ []) (take (line_end bs) bs)))

pub begun_line : (w d : Bytes) → line_end d < length d → begun w (take (line_end d + 1) d) ≡ []
unfolding begun line_end
begun_line w [] h = absurd (omega arith)
begun_line w (b ∷ bs) h = go (eqb b 10) refl (λ v. begun_line v bs) h
  where
    go : (c : Bool) → eqb b 10 ≡ c → ((v : Bytes) → line_end bs < length bs → begun v (take (line_end bs + 1) bs) ≡ []) → cond c 0 (suc (line_end bs)) < suc (length bs) → begun w (take (cond c 0 (suc (line_end bs)) + 1) (b ∷ bs)) ≡ []
    go true e i k = rw e refl
    go false e i k = let f : suc (line_end bs) + 1 ≡ suc (line_end bs + 1) = omega arith in rw (f, e) (i (w ++ (b ∷ [])) (omega arith))

-- without one, no line ends, and all of it is there of the next one
pub ended_none : (w d : Bytes) → length d ≤ line_end d → ended w d ≡ []
unfolding ended line_end
ended_none w [] h = refl
ended_none w (b ∷ bs) h = go (eqb b 10) (λ v. ended_none v bs) h
  where
    go : (c : Bool) → ((v : Bytes) → length bs ≤ line_end bs → ended v bs ≡ []) → suc (length bs) ≤ cond c 0 (suc (line_end bs)) → cond c (w ∷ ended [] bs) (ended (w ++ (b ∷ [])) bs) ≡ []
    go true i k = absurd (omega arith)
    go false i k = i (w ++ (b ∷ [])) (omega arith)

pub begun_none : (w d : Bytes) → length d ≤ line_end d → begun w d ≡ w ++ d
unfolding begun line_end
begun_none w [] h = sym (append_nil w)
begun_none w (b ∷ bs) h = go (eqb b 10) (λ v. begun_none v bs) h
  where
    go : (c : Bool) → ((v : Bytes) → length bs ≤ line_end bs → begun v bs ≡ v ++ bs) → suc (length bs) ≤ cond c 0 (suc (line_end bs)) → cond c (begun [] bs) (begun (w ++ (b ∷ [])) bs) ≡ w ++ (b ∷ bs)
    go true i k = absurd (omega arith)
    go false i k = i (w ++ (b ∷ [])) (omega arith) ∙ append_assoc w (b ∷ []) bs

-- what was there of a line, in front of the first one
abbrev before : Bytes → List Bytes → List Bytes
before [] [] = []
before (b ∷ w) [] = (b ∷ w) ∷ []
before w (l ∷ ls) = (w ++ l) ∷ ls

before_nothing : (ls : List Bytes) → before [] ls ≡ ls
before_nothing [] = refl
before_nothing (l ∷ ls) = refl

before_first : (w : Bytes) (ls : List Bytes) → before w ([] ∷ ls) ≡ w ∷ ls
before_first [] ls = refl
before_first (a ∷ w) ls = ap (λ (m : Bytes). m ∷ ls) (append_nil (a ∷ w))

before_front : (w : Bytes) (b : ℕ) (ls : List Bytes) → before w (in_front b ls) ≡ before (w ++ (b ∷ [])) ls
unfolding in_front
before_front [] b [] = refl
before_front (a ∷ w) b [] = refl
before_front [] b (l ∷ ls) = refl
before_front (a ∷ w) b (l ∷ ls) = ap (λ (m : Bytes). m ∷ ls) (sym (append_assoc (a ∷ w) (b ∷ []) l))

lines_from : (w s : Bytes) → before w (lines_of s) ≡ ended w (s ++ closing (begun w s))
unfolding lines_of ended begun
lines_from [] [] = refl
lines_from (b ∷ w) [] = refl
lines_from w (b ∷ bs) = go (eqb b 10) (λ v. lines_from v bs)
  where
    go : (c : Bool) → ((v : Bytes) → before v (lines_of bs) ≡ ended v (bs ++ closing (begun v bs))) → before w (cond c ([] ∷ lines_of bs) (in_front b (lines_of bs)))
        ≡ cond c (w ∷ ended [] (bs ++ closing (cond c (begun [] bs) (begun (w ++ (b ∷ [])) bs)))) (ended (w ++ (b ∷ [])) (bs ++ closing (cond c (begun [] bs) (begun (w ++ (b ∷ [])) bs))))
    go true i = before_first w (lines_of bs) ∙ ap (λ (ls : List Bytes). w ∷ ls) (sym (before_nothing (lines_of bs)) ∙ i [])
    go false i = before_front w b (lines_of bs) ∙ i (w ++ (b ∷ []))

-- the lines of a text are those that end in it, once a line feed closes the last one
pub lines_whole : (s : Bytes) → lines_of s ≡ ended [] (s ++ closing (begun [] s))
lines_whole s = sym (before_nothing (lines_of s)) ∙ lines_from [] s
