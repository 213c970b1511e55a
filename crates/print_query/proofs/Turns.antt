-- What stands open: the brackets that close after a query, and a form more.
use mathlib.Core.Path.{◌≡◌, refl, sym, ap, ◌∙◌}
use mathlib.Core.List.{List, [], ◌∷◌}
use mathlib.Core.Bool.{Bool, true, false, cond}
use mathlib.Core.Option.{some}
use Prim.Native.Nat.{ℕ, ◌+◌, ◌*◌, ◌-◌, ◌/◌, ◌%◌, ◌<◌, ◌≤◌}
use native.Mathlib.Omega.{arith}
use lib.Dec.{eqb}
use borrow.Author.Tests.{ne_eqb}
use Rattle.syntax.specs.Grammar.{Bytes}
use Rattle.query.specs.declared.Form.{Form}
use Rattle.print.specs.Writing.{Put, byte_text}
use Rattle.print.proofs.Putting.{put_none, put_as}
use Rattle.print_query.specs.Marks.{marks_number, ending, ended, state_number, Ended}
use Rattle.print_query.specs.Texts.{bracketed, pushed, turn_text, turned, Turned}
use Rattle.print_query.proofs.Todo.{Todo, todo_start, todo_put, todo_end}

-- ---- marks

pub marks_some : (bs : List Bool) → 0 < marks_number bs
unfolding marks_number
marks_some [] = omega arith
marks_some (true ∷ bs) = omega arith
marks_some (false ∷ bs) = let h = marks_some bs in omega arith

-- what stands open after a query is less
pub ended_less : (bs : List Bool) → state_number (ended bs) < marks_number bs
unfolding marks_number ended state_number
ended_less [] = omega arith
ended_less (true ∷ bs) = omega arith
ended_less (false ∷ bs) = let h = ended_less bs in omega arith

-- ---- the brackets that close

-- of the brackets of some marks, those of others are still to be written, and they leave the same open
pub record Closing (bs : List Bool) (m₀ : Bytes) (p₀ n : ℕ) (m : Bytes) (p : ℕ) : Type 0 where
  pub marks : List Bool
  pub is : n ≡ marks_number marks
  pub todo : Todo (ending bs) (ending marks) m₀ p₀ m p
  pub left : ended bs ≡ ended marks

pub record Closes (n₀ : ℕ) (m₀ : Bytes) (p₀ n : ℕ) (m : Bytes) (p : ℕ) : Type 0 where
  pub all : (bs : List Bool) → n₀ ≡ marks_number bs → Closing bs m₀ p₀ n m p

-- by the first mark
first_close : (bs cs : List Bool) {m₀ : Bytes} {p₀ n : ℕ} {m m₁ : Bytes} {p p₁ : ℕ} → n ≡ marks_number cs → 1 < n → (n % 2 ≡ 1 → ⊥) → Todo (ending bs) (ending cs) m₀ p₀ m p → ended bs ≡ ended cs → Put (byte_text 41) m p m₁ p₁
    → Closing bs m₀ p₀ (n / 2) m₁ p₁
unfolding marks_number ending ended byte_text
first_close bs [] e h k x f y = absurd (omega arith)
first_close bs (true ∷ cs) e h k x f y = absurd (k (omega arith))
first_close bs (false ∷ cs) e h k x f y = record { marks = cs; is = omega arith; todo = todo_put x y; left = f }

first_left : (bs cs : List Bool) {m₀ : Bytes} {p₀ n : ℕ} {m m₁ : Bytes} {p p₁ : ℕ} → n ≡ marks_number cs → 1 < n → n % 2 ≡ 1 → Todo (ending bs) (ending cs) m₀ p₀ m p → ended bs ≡ ended cs → Put (byte_text 32) m p m₁ p₁
    → Put (ending bs) m₀ p₀ m₁ p₁ × (n - 1 ≡ state_number (ended bs))
unfolding marks_number ending ended state_number byte_text
first_left bs [] e h k x f y = absurd (omega arith)
first_left bs (true ∷ cs) {n = n} e h k x f y = let g : n - 1 ≡ marks_number cs * 2 + 0 = omega arith in (todo_end (λ r. refl) (todo_put x y), g ∙ sym (ap state_number f))
first_left bs (false ∷ cs) e h k x f y = absurd (omega arith)

first_none : (bs cs : List Bool) {m₀ : Bytes} {p₀ n : ℕ} {m : Bytes} {p : ℕ} → n ≡ marks_number cs → n ≤ 1 → Todo (ending bs) (ending cs) m₀ p₀ m p → ended bs ≡ ended cs → Put (ending bs) m₀ p₀ m p × (0 ≡ state_number (ended bs))
unfolding marks_number ending ended state_number
first_none bs [] e h x f = (todo_end (λ r. refl) x, sym (ap state_number f))
first_none bs (true ∷ cs) e h x f = let k = marks_some cs in absurd (omega arith)
first_none bs (false ∷ cs) e h x f = let k = marks_some cs in absurd (omega arith)

module _ {n₀ : ℕ} {m₀ : Bytes} {p₀ : ℕ} where
  pub closes_start : Closes n₀ m₀ p₀ n₀ m₀ p₀
  closes_start = record { all = λ bs e. record { marks = bs; is = e; todo = todo_start; left = refl } }

  module _ {n : ℕ} {m : Bytes} {p : ℕ} (x : Closes n₀ m₀ p₀ n m p) where
    pub closes_more : {m₁ : Bytes} {p₁ : ℕ} → 1 < n → (n % 2 ≡ 1 → ⊥) → Put (byte_text 41) m p m₁ p₁ → Closes n₀ m₀ p₀ (n / 2) m₁ p₁
    closes_more h k y = record { all = λ bs e. let c = x.all bs e in first_close bs c.marks c.is h k c.todo c.left y }

    pub closes_left : {m₁ : Bytes} {p₁ : ℕ} → 1 < n → n % 2 ≡ 1 → Put (byte_text 32) m p m₁ p₁ → Ended n₀ m₀ p₀ m₁ p₁ (n - 1)
    closes_left h k y =
        record {
          text = λ bs e. let c = x.all bs e in (first_left bs c.marks c.is h k c.todo c.left y).0;
          left = λ bs e. let c = x.all bs e in (first_left bs c.marks c.is h k c.todo c.left y).1;
        }

    pub closes_none : n ≤ 1 → Ended n₀ m₀ p₀ m p 0
    closes_none h =
        record {
          text = λ bs e. let c = x.all bs e in (first_none bs c.marks c.is h c.todo c.left).0;
          left = λ bs e. let c = x.all bs e in (first_none bs c.marks c.is h c.todo c.left).1;
        }

pub ruleset closes_ends = (closes_start, closes_more, closes_left, closes_none)

-- ---- a form more

stays : (f : Form) {m : Bytes} {p : ℕ} → (f.kind ≡ 0 → ⊥) → (bs : List Bool) → Put (turn_text f bs) m p m p
unfolding turn_text
stays f e bs = put_none (λ r. rw (ne_eqb f.kind 0 e))

module _ (f : Form) {n : ℕ} {m : Bytes} {p : ℕ} where
  pub turn_rows : {m₁ : Bytes} {p₁ n₁ : ℕ} → f.kind ≡ 0 → Ended n m p m₁ p₁ n₁ → Turned f n m p m₁ p₁ n₁
  unfolding turn_text turned
  turn_rows e x = record { text = λ bs i. put_as (λ r. rw e) (x.text bs i); left = λ bs i. rw e (x.left bs i) }

  pub turn_join : (f.kind ≡ 0 → ⊥) → f.kind ≡ 3 → Turned f n m p m p (n * 2 + 1)
  unfolding turned pushed state_number marks_number
  turn_join h e = record { text = λ bs i. stays f h bs; left = λ bs i. rw (e, ← i) }

  module _ {b : Bool} (is : b ≡ bracketed f) where
    pub turn_closed : (f.kind ≡ 0 → ⊥) → (f.kind ≡ 3 → ⊥) → b ≡ true → Turned f n m p m p (n * 2)
    unfolding turned pushed state_number marks_number
    turn_closed h e g = record { text = λ bs i. stays f h bs; left = λ bs i. rw (ne_eqb f.kind 0 h, ne_eqb f.kind 3 e, sym is ∙ g, ← i) (omega arith) }

    pub turn_same : (f.kind ≡ 0 → ⊥) → (f.kind ≡ 3 → ⊥) → b ≡ false → Turned f n m p m p n
    unfolding turned pushed state_number marks_number
    turn_same h e g = record { text = λ bs i. stays f h bs; left = λ bs i. rw (ne_eqb f.kind 0 h, ne_eqb f.kind 3 e, sym is ∙ g) i }

-- at most a mark more stands open
pub turned_most : (f : Form) (bs : List Bool) → state_number (turned f bs) ≤ marks_number bs * 2 + 1
unfolding turned pushed state_number marks_number
turned_most f bs = go (eqb f.kind 0) (eqb f.kind 3) (bracketed f)
  where
    go : (x y z : Bool) → state_number (cond x (ended bs) (some (cond y (true ∷ bs) (cond z (false ∷ bs) bs)))) ≤ marks_number bs * 2 + 1
    go true y z = let h = ended_less bs in omega arith
    go false true z = omega arith
    go false false true = omega arith
    go false false false = omega arith

-- and after a stream fewer
pub turned_less : (f : Form) (bs : List Bool) → f.kind ≡ 0 → state_number (turned f bs) < marks_number bs
unfolding turned
turned_less f bs e = rw e (ended_less bs)

pub ruleset turn_ends = (turn_rows, turn_join, turn_closed, turn_same)
