-- A table written form by form: what is still to be written, and what stands open.
use mathlib.Core.Path.{◌≡◌, refl, sym, ap, ap₂, ◌∙◌}
use mathlib.Core.List.{List, [], ◌∷◌}
use mathlib.Core.Bool.{Bool, true, false, cond}
use mathlib.Core.Option.{Option, none, some}
use Prim.Native.Nat.{ℕ, suc, ◌+◌, ◌*◌, ◌-◌, ◌^◌, ◌<◌, ◌≤◌}
use native.Mathlib.Decide.{dec_lt, ℕ_discrete}
use native.Mathlib.Nat.{pow-suc, pow-le-pow_right}
use native.Mathlib.Omega.{arith}
use lib.ListN.{length, get_or, drop, drop_of_length-le, get_or-eq_default}
use lib.Seq.{drop-cons}
use borrow.Author.Tests.{ne_eqb, lt-ltb}
use Rattle.syntax.specs.Grammar.{Bytes, put_form}
use Rattle.model.specs.Queries.{Schema, Query}
use Rattle.calls.specs.Names.{form_of}
use Rattle.query.specs.Forms.{Words, outer, inner, limits_at, with_form, queries_in, query_in}
use Rattle.query.specs.Tables.{blank, forms_in}
use Rattle.query.specs.declared.Form.{Form}
use Rattle.query.proofs.Rewritten.{forms_most}
use Rattle.grant.specs.Catalogues.{words_in}
use Rattle.print.specs.Writing.{Put}
use Rattle.print.specs.Texts.{source_text, bounding, bounded, close_text}
use Rattle.print.proofs.Picks.{under_is}
use Rattle.print_query.specs.Marks.{marks_number, marks_end, ending, ended, state_number}
use Rattle.print_query.specs.Texts.{table_text, pick_opening, keep_opening, join_opening, span_text, aggregate_opening, form_bounds, under_opening, opening_text, bracketed, pushed, turn_text, turned, Turned}
use Rattle.print_query.proofs.Todo.{Todo, todo_start, todo_as, todo_put, todo_end}
use Rattle.print_query.proofs.Turns.{marks_some, turned_most, turned_less}

-- ---- what is left

-- after a query is whole, by the queries that follow
unfoldable pub closing : Schema → List Bool → List (Query ℕ) → Bytes → Bytes
closing d [] qs r = r
closing d (true ∷ bs) qs r = 32 ∷ put_form (form_of d (outer qs)) (41 ∷ closing d bs (inner qs) r)
closing d (false ∷ bs) qs r = 41 ∷ closing d bs qs r

-- the first of some queries, and what follows it
unfoldable pub left_text : Schema → Option (List Bool) → List (Query ℕ) → Bytes → Bytes
left_text d none qs r = r
left_text d (some bs) qs r = put_form (form_of d (outer qs)) (closing d bs (inner qs) r)

closing_is : (d : Schema) (bs : List Bool) (qs : List (Query ℕ)) (r : Bytes) → closing d bs qs r ≡ ending bs (left_text d (ended bs) qs r)
unfolding closing left_text ending ended
closing_is d [] qs r = refl
closing_is d (true ∷ bs) qs r = refl
closing_is d (false ∷ bs) qs r = ap (λ t. 41 ∷ t) (closing_is d bs qs r)

-- ---- a form in front

module _ (d : Schema) (w : Words) (f : Form) (bs : List Bool) (qs : List (Query ℕ)) (r : Bytes) where
  abbrev Turns : Type 0
  Turns = left_text d (some bs) (with_form w f qs) r ≡ opening_text d w f (turn_text f bs (left_text d (turned f bs) qs r))

  rows_turn : f.kind ≡ 0 → Turns
  unfolding left_text with_form outer inner opening_text turn_text turned source_text
  rows_turn e = rw e (ap (source_text d f.first) (closing_is d bs qs r))

  pick_turn : f.kind ≡ 1 → Turns
  unfolding left_text with_form outer inner opening_text turn_text turned pushed bracketed closing form_of put_form pick_opening
  pick_turn e = rw e

  keep_turn : f.kind ≡ 2 → Turns
  unfolding left_text with_form outer inner opening_text turn_text turned pushed bracketed closing form_of put_form keep_opening
  keep_turn e = rw e

  join_turn : f.kind ≡ 3 → Turns
  unfolding left_text with_form outer inner opening_text turn_text turned pushed closing form_of put_form join_opening
  join_turn e = rw e

  aggregate_turn : f.kind ≡ 4 → Turns
  unfolding left_text with_form outer inner opening_text turn_text turned pushed bracketed closing form_of put_form aggregate_opening span_text
  aggregate_turn e = rw e

  close_mark : (b : Bool) (ps : List (Query ℕ)) → cond b (41 ∷ closing d bs ps r) (closing d bs ps r) ≡ closing d (cond b (false ∷ bs) bs) ps r
  unfolding closing
  close_mark true ps = refl
  close_mark false ps = refl

  under_turn : 4 < f.kind → Turns
  unfolding left_text with_form outer inner limits_at opening_text turn_text turned pushed bracketed under_opening bounding close_text
  under_turn h =
      rw (ne_eqb f.kind 0 (λ e. omega arith), ne_eqb f.kind 1 (λ e. omega arith), ne_eqb f.kind 2 (λ e. omega arith), ne_eqb f.kind 3 (λ e. omega arith), ne_eqb f.kind 4 (λ e. omega arith), lt-ltb 4 f.kind h)
      (under_is d w.profile (words_in w.granted f.first) (form_bounds f) (outer qs) (closing d bs (inner qs) r)
      ∙ ap (λ t. under_opening d w f (put_form (form_of d (outer qs)) t)) (close_mark (bounded (form_bounds f)) (inner qs)))

  pub turn_is : Turns
  turn_is = go (ℕ_discrete f.kind 0) (ℕ_discrete f.kind 1) (ℕ_discrete f.kind 2) (ℕ_discrete f.kind 3) (ℕ_discrete f.kind 4)
    where
      go : Dec (f.kind ≡ 0) → Dec (f.kind ≡ 1) → Dec (f.kind ≡ 2) → Dec (f.kind ≡ 3) → Dec (f.kind ≡ 4) → Turns
      go (yes a) b c e g = rows_turn a
      go (no a) (yes b) c e g = pick_turn b
      go (no a) (no b) (yes c) e g = keep_turn c
      go (no a) (no b) (no c) (yes e) g = join_turn e
      go (no a) (no b) (no c) (no e) (yes g) = aggregate_turn g
      go (no a) (no b) (no c) (no e) (no g) = under_turn (omega arith)

empty_first : (d : Schema) (w : Words) (bs : List Bool) (r : Bytes) → left_text d (some bs) [] r ≡ left_text d (some bs) (with_form w blank []) r
unfolding left_text with_form outer inner
empty_first d w bs r = refl

-- the form at a place, a form of zeros where there is none
module _ (d : Schema) (w : Words) (fs : List Form) (i : ℕ) (bs : List Bool) (r : Bytes) where
  form_is : left_text d (some bs) (queries_in w (drop i fs)) r ≡ left_text d (some bs) (with_form w (get_or fs i blank) (queries_in w (drop (i + 1) fs))) r
  unfolding queries_in
  form_is = go (dec_lt i (length fs))
    where
      none_left : length fs ≤ i → (k : ℕ) → i ≤ k → queries_in w (drop k fs) ≡ []
      none_left h k l = ap (queries_in w) (drop_of_length-le fs {i = k} (omega arith))

      empty : left_text d (some bs) [] r ≡ left_text d (some bs) (with_form w blank []) r
      empty = empty_first d w bs r

      go : Dec (i < length fs) → left_text d (some bs) (queries_in w (drop i fs)) r ≡ left_text d (some bs) (with_form w (get_or fs i blank) (queries_in w (drop (i + 1) fs))) r
      go (yes h) =
          let e : suc i ≡ i + 1 = omega arith in
          ap (λ gs. left_text d (some bs) (queries_in w gs) r) (drop-cons fs i blank h) ∙ ap (λ (k : ℕ). left_text d (some bs) (with_form w (get_or fs i blank) (queries_in w (drop k fs))) r) e
      go (no h) =
          let l : length fs ≤ i = omega arith in
          ap (λ qs. left_text d (some bs) qs r) (none_left l i (omega arith)) ∙ empty
          ∙ sym (ap₂ (λ f qs. left_text d (some bs) (with_form w f qs) r) (get_or-eq_default fs blank {n = i} l) (none_left l (i + 1) (omega arith)))

-- ---- the loop

pub record Going (d : Schema) (w : Words) (fs : List Form) (m₀ : Bytes) (p₀ i n : ℕ) (m : Bytes) (p : ℕ) : Type 0 where
  pub state : Option (List Bool)
  pub is : n ≡ state_number state
  pub todo : Todo (table_text d w fs) (left_text d state (queries_in w (drop i fs))) m₀ p₀ m p
  pub few : length fs ≤ 16
  pub low : i ≤ 16 → n < 2 ^ (i + 1)
  pub small : n < marks_end
  pub near : i + n ≤ 131088

pub going_start : (d : Schema) (w : Words) (ws : List ℕ) (n : ℕ) {m : Bytes} {p : ℕ} → Going d w (forms_in ws n) m p 0 1 m p
unfolding table_text query_in left_text closing state_number marks_number
going_start d w ws n =
    record { state = some []; is = refl; todo = todo_as (λ r. refl) todo_start; few = forms_most ws n; low = λ l. omega arith; small = omega arith; near = omega arith }

some_open : (s : Option (List Bool)) {n : ℕ} → n ≡ state_number s → 0 < n → (bs : List Bool) × (n ≡ marks_number bs)
unfolding state_number
some_open none e h = absurd (omega arith)
some_open (some bs) e h = (bs, e)

module _ {d : Schema} {w : Words} {fs : List Form} {m₀ : Bytes} {p₀ i n : ℕ} {m : Bytes} {p : ℕ} where
  module _ (x : Going d w fs m₀ p₀ i n m p) where
    pub going_small : n < marks_end
    going_small = x.small

    pub going_room : 0 < n → i + 1 < 4294967296
    going_room h = omega (arith, x.near)

    pub going_end : n ≤ 0 → Put (table_text d w fs) m₀ p₀ m p
    unfolding left_text state_number
    going_end h = go x.state x.is x.todo
      where
        go : (s : Option (List Bool)) → n ≡ state_number s → Todo (table_text d w fs) (left_text d s (queries_in w (drop i fs))) m₀ p₀ m p → Put (table_text d w fs) m₀ p₀ m p
        go none e y = todo_end (λ r. refl) y
        go (some bs) e y = let k = marks_some bs in absurd (omega arith)

    -- past all forms stands a stream's
    past : {f : Form} → f ≡ get_or fs i blank → 16 ≤ i → f.kind ≡ 0
    past e k = ap (λ (g : Form). g.kind) (e ∙ get_or-eq_default fs blank {n = i} (omega (arith, x.few)))

    module _ (h : 0 < n) {f : Form} (e : f ≡ get_or fs i blank) {m₂ : Bytes} {p₂ n₂ : ℕ} where
      most : {m₁ : Bytes} {p₁ : ℕ} → Turned f n m₁ p₁ m₂ p₂ n₂ → n₂ ≤ n * 2 + 1
      most y = let s = some_open x.state x.is h in let a = y.left s.0 s.1 in let b = turned_most f s.0 in let c = s.1 in omega arith

      less : {m₁ : Bytes} {p₁ : ℕ} → Turned f n m₁ p₁ m₂ p₂ n₂ → 16 ≤ i → n₂ < n
      less y k = let s = some_open x.state x.is h in let a = y.left s.0 s.1 in let b = turned_less f s.0 (past e k) in let c = s.1 in omega arith

      below : {m₁ : Bytes} {p₁ : ℕ} → Turned f n m₁ p₁ m₂ p₂ n₂ → i < 16 → n₂ < 2 ^ (i + 1 + 1)
      below y k = let a = most y in let b = x.low (omega arith) in let q : 2 ^ suc (i + 1) ≡ 2 ^ (i + 1) * 2 = pow-suc 2 (i + 1) in let z : suc (i + 1) ≡ i + 1 + 1 = omega arith in let t : 2 ^ suc (i + 1) ≡ 2 ^ (i + 1 + 1) = ap (λ (k : ℕ). 2 ^ k) z in omega arith

      sized : {m₁ : Bytes} {p₁ : ℕ} → Turned f n m₁ p₁ m₂ p₂ n₂ → (n₂ < 131072) × (i + 1 + n₂ ≤ 131088)
      sized y = go (dec_lt i 16)
        where
          go : Dec (i < 16) → (n₂ < 131072) × (i + 1 + n₂ ≤ 131088)
          go (yes k) = let a = below y k in let b = pow-le-pow_right {n = 2} (omega arith) {i = i + 1 + 1} {j = 17} (omega arith) in (omega arith, omega arith)
          go (no k) = let a = less y (omega arith) in let b = x.near in let c = x.small in (omega arith, omega arith)

      pub going_falls : {m₁ : Bytes} {p₁ : ℕ} → Turned f n m₁ p₁ m₂ p₂ n₂ → (16 - (i + 1)) * 131072 + n₂ < (16 - i) * 131072 + n
      going_falls y = go (dec_lt i 16)
        where
          go : Dec (i < 16) → (16 - (i + 1)) * 131072 + n₂ < (16 - i) * 131072 + n
          go (yes k) = let a = (sized y).0 in omega arith
          go (no k) = let a = less y (omega arith) in omega arith

      pub going_more : {m₁ : Bytes} {p₁ : ℕ} → Put (opening_text d w f) m p m₁ p₁ → Turned f n m₁ p₁ m₂ p₂ n₂ → Going d w fs m₀ p₀ (i + 1) n₂ m₂ p₂
      unfolding state_number
      going_more {m₁} {p₁} o y = go x.state x.is x.todo
        where
          go : (s : Option (List Bool)) → n ≡ state_number s → Todo (table_text d w fs) (left_text d s (queries_in w (drop i fs))) m₀ p₀ m p → Going d w fs m₀ p₀ (i + 1) n₂ m₂ p₂
          go none g z = absurd (omega arith)
          go (some bs) g z =
              record {
                state = turned f bs;
                is = y.left bs g;
                todo = todo_put (todo_put (todo_as (λ r. form_is d w fs i bs r ∙ ap (λ (k : Form). left_text d (some bs) (with_form w k (queries_in w (drop (i + 1) fs))) r) (sym e) ∙ turn_is d w f bs (queries_in w (drop (i + 1) fs)) r) z) o) (y.text bs g);
                few = x.few;
                low = λ k. below y (omega arith);
                small = (sized y).0;
                near = (sized y).1;
              }

pub ruleset going_ends = (going_start, going_small, going_room, going_end, going_falls, going_more)
